-- This file proves that clap's getters read the options as they are defined.
-- Main lemma: `number_of-get_one`.
use Rattle.std.proofs.Common.{◌≡◌, ◌∙◌, ap, sym, refl, ℕ, ◌^◌, Bool, true, false, List, length}
use Rattle.std.proofs.Common.{Option, Some, None, Result, Ok, Err, [], ◌∷◌, cond, map}
use Rattle.std.specs.Prelude.{◌&&◌, if◌then◌else◌, option_and_then, option_map, find, nat_lt}
use Rattle.std.specs.Result.{result_ok}
use Rattle.std.specs.Str.{all_ascii_digits}
use Rattle.std.specs.Str.Parse.{ExplainsUnsignedError, HasUnsignedDigitsIfOk, ParsesUnsigned}
use Rattle.std.specs.Str.Parse.{digits_value, without_leading_plus}
use Rattle.std.proofs.lemmas.Bool.{lt-ltb, ltb-true, false≢true}
use Rattle.std.proofs.lemmas.Str.Parse.{IsNumeralModel, numerals_by_value, tells_all_ascii_digits}
use Rattle.clap.specs.Words.{ReadsOne, first_of, first_value, found_of, matched_of, one_text}
use Rattle.clap.specs.Walk.{row_of}
use Rattle.clap.specs.Facts.{Entry}
use Rattle.clap.proofs.WalkLemmas.{first_value-rows, one_text-rows}
use Rattle.std.specs.Borrow.{Bor}
use Rattle.std.specs.Str.{bytes_eq}
use Rattle.clap.specs.declared.parser.ArgMatches.{ArgMatches}
use Rattle.clap.specs.declared.parser.ValueSource.{ValueSource}
use Rattle.ptb_options.specs.Options.{entries_of, is_command_line, is_given, number_in, number_of}

own : IsNumeralModel (λ ds. all_ascii_digits ds ≡ true) (digits_value 10)
own = numerals_by_value (λ ds. all_ascii_digits ds ≡ true) tells_all_ascii_digits

all_three : (a b c : Bool) (n : ℕ) → a ≡ true → b ≡ true → c ≡ true → (if a && b && c then Some n else None) ≡ Some n
all_three a b c n p q r = rw (p, q, r) refl

not_all_three : (a b c : Bool) (n : ℕ) → (a ≡ true → b ≡ true → c ≡ true → ⊥)
    → (if a && b && c then Some n else None) ≡ None
not_all_three true true true n h = absurd (h refl refl refl)
not_all_three true true false n h = refl
not_all_three true false c n h = refl
not_all_three false b c n h = refl

-- what `parse` reads at an unsigned type of so many bits
number_in-parse : (E : Type 0) (bits : ℕ) (text : List ℕ) (r : Result ℕ E) → ParsesUnsigned bits 10 text r
    → number_in bits text ≡ result_ok r
number_in-parse E bits text (Ok n) h =
    let digits = without_leading_plus text in
    all_three _ _ _ (digits_value 10 digits) (lt-ltb 0 (length digits) h.0.0.0) (own.from digits h.0.0.1)
    (lt-ltb _ _ h.0.1)
    ∙ ap (λ (k : ℕ). Some k) (sym h.1)
number_in-parse E bits text (Err e) h =
    let digits = without_leading_plus text in
    not_all_three _ _ _ (digits_value 10 digits)
    (λ p q r. h ((ltb-true 0 (length digits) p, own.to digits q), ltb-true _ _ r))

-- the number is what such a `parse` reads
module _ (bits : ℕ) (text : List ℕ) where
  abbrev digits : List ℕ
  digits = without_leading_plus text

  reads_by_tests : (a b c : Bool) → nat_lt 0 (length digits) ≡ a → all_ascii_digits digits ≡ b
      → nat_lt (digits_value 10 digits) (2 ^ bits) ≡ c
      → ReadsOne {E = Unit {0}} (ParsesUnsigned bits 10) text
      (if a && b && c then Some (digits_value 10 digits) else None)
  reads_by_tests true true true p q r = (((ltb-true 0 (length digits) p, own.to digits q), ltb-true _ _ r), refl)
  reads_by_tests true true false p q r = (tt, λ h. false≢true (sym r ∙ lt-ltb _ _ h.1))
  reads_by_tests true false c p q r = (tt, λ h. false≢true (sym q ∙ own.from digits h.0.1))
  reads_by_tests false b c p q r = (tt, λ h. false≢true (sym p ∙ lt-ltb 0 (length digits) h.0.0))

  pub number_in-reads : ReadsOne {E = Unit {0}} (ParsesUnsigned bits 10) text (number_in bits text)
  number_in-reads = reads_by_tests _ _ _ refl refl refl

-- what `get_one` gives at such a type
number_of-get_one : (E : Type 0) (G : List ℕ → Result ℕ E → Type 0) (m : ArgMatches) (bits : ℕ) (id : List ℕ)
    (r : Option ℕ)
    → ((text : List ℕ) (x : Result ℕ E) → G text x → ParsesUnsigned bits 10 text x)
    → (one_text (found_of m) id ≡ None → r ≡ None)
    → ((text : List ℕ) → one_text (found_of m) id ≡ Some text → ReadsOne G text r)
    → r ≡ number_of bits id (entries_of m)
number_of-get_one E G m bits id r parses none some =
    go (one_text (found_of m) id) refl ∙ ap (option_and_then (number_in bits)) (one_text-rows (found_of m) id)
  where
    read : (text : List ℕ) (o : Option ℕ) → ReadsOne G text o → o ≡ number_in bits text
    read text (Some n) h = sym (number_in-parse E bits text (Ok n) (parses text (Ok n) h))
    read text None h = sym (number_in-parse E bits text (Err h.0) (parses text (Err h.0) h.1))

    go : (o : Option (List ℕ)) → one_text (found_of m) id ≡ o
        → r ≡ option_and_then (number_in bits) (one_text (found_of m) id)
    go None e = rw e (none e)
    go (Some text) e = rw e (read text r (some text e))

-- and at an unsigned type
pub number_of-unsigned : (m : ArgMatches) (bits : ℕ) (id : List ℕ) (r : Option ℕ)
    → (one_text (found_of m) id ≡ None → r ≡ None)
    → ((text : List ℕ) → one_text (found_of m) id ≡ Some text → ReadsOne (λ word x. ParsesUnsigned bits 10 word x
    × ExplainsUnsignedError 10 word x × HasUnsignedDigitsIfOk word x) text r)
    → r ≡ number_of bits id (entries_of m)
number_of-unsigned m bits id r none some =
    number_of-get_one _ (λ word x. ParsesUnsigned bits 10 word x × ExplainsUnsignedError 10 word x
    × HasUnsignedDigitsIfOk word x) m bits id r (λ text x parses. parses.0) none some

-- what `get_str` gives
pub first_of-get_str : (m : ArgMatches) (id : List ℕ) (r : Option (Bor (List ℕ)))
    → option_map (λ s. s.now) r ≡ first_value (found_of m) id
    → option_map (λ s. s.now) r ≡ first_of id (entries_of m)
first_of-get_str m id r e = e ∙ first_value-rows (found_of m) id

-- what `value_source` gives
source-rows : (xs : List Entry) (id : List ℕ)
    → option_and_then (λ a. a.source) (option_map (λ e. e.1) (find (λ e. bytes_eq e.0.now id) xs))
    ≡ option_and_then (λ r. r.source) (find (λ r. bytes_eq r.id id) (map row_of xs))
source-rows [] id = refl
source-rows (x ∷ xs) id = go (bytes_eq x.0.now id) (source-rows xs id)
  where
    go : (b : Bool) → option_and_then (λ a. a.source) (option_map (λ e. e.1) (find (λ e. bytes_eq e.0.now id) xs))
        ≡ option_and_then (λ r. r.source) (find (λ r. bytes_eq r.id id) (map row_of xs))
        → option_and_then (λ a. a.source) (option_map (λ e. e.1) (cond b (Some x) (find (λ e. bytes_eq e.0.now id) xs)))
        ≡ option_and_then (λ r. r.source) (cond b (Some (row_of x)) (find (λ r. bytes_eq r.id id) (map row_of xs)))
    go true e = refl
    go false e = e

pub is_given-value_source : (m : ArgMatches) (id : List ℕ) (r : Option ValueSource)
    → r ≡ option_and_then (λ a. a.source) (matched_of (found_of m) id)
    → is_command_line r ≡ is_given id (entries_of m)
is_given-value_source m id r e = ap is_command_line (e ∙ source-rows (found_of m).entries.items id)
