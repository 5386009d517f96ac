-- This file proves what entering a line does by the parts that the line was taken apart into.
-- Main lemmas: `number_value` and `line_refused`.
use Rattle.std.proofs.Common.{◌≡◌, ℕ, ◌+◌, ◌<◌, ◌≤◌, ◌⊎◌, Bool, true, false, not, ◌==◌, List, []}
use Rattle.std.proofs.Common.{◌∷◌, length, take, drop, Option, Some, None, Result, Ok, Err, IfErr}
use Rattle.std.proofs.Common.{IsErrOf, refl, sym, ap, subst, ◌∙◌, arith, length-drop, ℤ, pos, inl}
use Rattle.std.proofs.Common.{inr}
use Rattle.std.specs.Prelude.{MatchOption, position, nat_le, nat_lt, if◌then◌else◌}
use Rattle.std.specs.List.{prefix_len}
use Rattle.std.specs.Result.{IsErrAnd}
use Rattle.std.proofs.lemmas.Bool.{eqb-true, leb-true, leb-false}
use Rattle.std.proofs.lemmas.List.{drop-drop, drop_all}
use Rattle.std.proofs.lemmas.Bool.Decides.{nat_tests}
use Rattle.ptb_text.specs.declared.fault.LoadFault.{LoadFault}
use Rattle.ptb_text.specs.declared.fault.LoadFault.TheVariants.{NoNumber, NumberTooBig, TextTooLong, Full, Memory}
use Rattle.ptb_text.specs.Lines.{is_printable}
use Rattle.ptb_text.specs.Statements.{HasText, Statements, StoredProgram, after_line, after_trimmed}
use Rattle.ptb_text.specs.Statements.{after_statement, unless_bad_byte, trim_start, with_text, cost}
use Rattle.ptb_text.specs.Statements.{if_room, is_statement, text_limit}
use Rattle.ptb_text.specs.Digits.{number_limit, digits_value, is_digit, is_blank}
use Rattle.ptb_text.specs.EnteredLines.{Enters, EntersNothing, IsLineFault, IsRefused, IsNumbered}
use Rattle.ptb_text.specs.declared.word.Number.{Number}
use Rattle.ptb_text.specs.declared.word.Number.TheVariants.{Absent, Value, TooBig}
use Rattle.ptb_text.specs.Words.{past_blanks, number_at, small_number}
use Rattle.ptb_text.proofs.ByteTests.{list_all-from_none, list_all-drop, prefix_len-following}

-- a text without the blanks in front has none in front
pub trim_start-trimmed : (t : List ℕ) → trim_start (trim_start t) ≡ trim_start t
trim_start-trimmed t = ap (λ n. drop n (trim_start t)) (prefix_len-following is_blank t)

-- what a test for no bytes says
pub no_bytes : (t : List ℕ) (b : Bool) → b ≡ (length t == 0) → b ≡ true → t ≡ []
no_bytes [] b is e = refl
no_bytes (x ∷ t) b is e = absurd (omega (arith, eqb-true _ _ (sym is ∙ e)))

pub some_bytes : (t : List ℕ) (b : Bool) → b ≡ (length t == 0) → b ≡ false → 0 < length t
some_bytes [] b is e = let true_too = is in cc
some_bytes (x ∷ t) b is e = omega arith

-- a number and what follows it, in a line without blanks in front
abbrev pub digits_of : List ℕ → List ℕ
digits_of t = take (prefix_len is_digit t) t

abbrev pub after_digits : List ℕ → List ℕ
after_digits t = drop (prefix_len is_digit t) t

no_number : (t : List ℕ) (p : Statements) (memory : ℕ) → 0 < length t → digits_value (digits_of t) ≡ 0
    → after_trimmed p memory t ≡ Err NoNumber
no_number [] p memory some none = absurd (omega arith)
no_number (b ∷ bs) p memory some none = grind (arith, nat_tests)

too_big : (t : List ℕ) (p : Statements) (memory : ℕ) → 0 < length t → number_limit < digits_value (digits_of t)
    → after_trimmed p memory t ≡ Err NumberTooBig
too_big [] p memory some over = absurd (omega arith)
too_big (b ∷ bs) p memory some over = grind (arith, nat_tests)

numbered : (t : List ℕ) (p : Statements) (memory n : ℕ) → 0 < length t → digits_value (digits_of t) ≡ n → 0 < n
    → n ≤ number_limit → after_trimmed p memory t ≡ after_statement p memory n (trim_start (after_digits t))
numbered [] p memory n some is low high = absurd (omega arith)
numbered (b ∷ bs) p memory n some is low high = grind (arith, nat_tests)

module _ (line t : List ℕ) (clean : position (λ b. not (is_printable b)) line ≡ None)
    (trimmed : t ≡ trim_start line) where
  by_trimmed : (p : Statements) (memory : ℕ) → after_line p memory line ≡ after_trimmed p memory t
  by_trimmed p memory = ap (λ o. unless_bad_byte o p memory line) clean ∙ ap (after_trimmed p memory) (sym trimmed)

  pub after_number : (n : ℕ) → 0 < length t → digits_value (digits_of t) ≡ n → 0 < n → n ≤ number_limit
      → IsNumbered line n (trim_start (after_digits t))
  after_number n some is low high = record {
    low = low;
    high = high;
    printable = list_all-drop is_printable (prefix_len is_blank (after_digits t)) (after_digits t)
        (list_all-drop is_printable (prefix_len is_digit t) t (rw trimmed (list_all-drop is_printable
        (prefix_len is_blank line) line (list_all-from_none is_printable line clean))));
    no_blank_in_front = ap length (trim_start-trimmed (after_digits t));
    after_the_number = ap (λ u. trim_start (after_digits u)) trimmed;
    enters = λ p memory. by_trimmed p memory ∙ numbered t p memory n some is low high;
  }

-- ---- what a line is refused for is a fault that a line can have

chosen : (t : Bool) (x y : Result Statements LoadFault) → IfErr x IsLineFault → IfErr y IsLineFault
    → IfErr (if t then x else y) IsLineFault
chosen true x y of_x of_y = of_x
chosen false x y of_x of_y = of_y

after_statement-fault : (p : Statements) (memory n : ℕ) (t : List ℕ) → IfErr (after_statement p memory n t) IsLineFault
after_statement-fault p memory n [] = tt
after_statement-fault p memory n (b ∷ bs) =
    let q = with_text p n (b ∷ bs) in
    chosen (nat_lt text_limit (length (b ∷ bs))) (Err TextTooLong) (if_room memory q) tt
    (chosen (nat_lt memory (cost q)) (Err Full) (Ok q) tt tt)

after_trimmed-fault : (p : Statements) (memory : ℕ) (t : List ℕ) → IfErr (after_trimmed p memory t) IsLineFault
after_trimmed-fault p memory [] = tt
after_trimmed-fault p memory (b ∷ bs) =
    let n = digits_value (digits_of (b ∷ bs)) in
    let t = trim_start (after_digits (b ∷ bs)) in
    chosen (n == 0) (Err NoNumber) (if nat_lt number_limit n then Err NumberTooBig else after_statement p memory n t) tt
    (chosen (nat_lt number_limit n) (Err NumberTooBig) (after_statement p memory n t) tt
    (after_statement-fault p memory n t))

unless_bad_byte-fault : (o : Option ℕ) (p : Statements) (memory : ℕ) (line : List ℕ)
    → IfErr (unless_bad_byte o p memory line) IsLineFault
unless_bad_byte-fault (Some k) p memory line = tt
unless_bad_byte-fault None p memory line = after_trimmed-fault p memory (trim_start line)

IsRefused-fault : (line : List ℕ) (fault : LoadFault) → IsRefused line fault → IsLineFault fault
IsRefused-fault line fault h =
    subst (λ (r : Result Statements LoadFault). IfErr r IsLineFault) (h [] 0) (unless_bad_byte-fault _ [] 0 line)

-- what is known of a line that was entered
pub record IsEntered (line : List ℕ) (old new : StoredProgram) (result : Result (Unit {0}) LoadFault) : Type 0 where
  pub enters : Enters (after_line old.lines old.memory line) old new result
  pub memory_text : IsErrOf result Memory → HasText line

not_memory : (f : LoadFault) → IsLineFault f → f ≡ Memory → ⊥
not_memory f h e = subst IsLineFault e h

memory_fault : (f : LoadFault) → IsErrOf {T = Unit {0}} (Err f) Memory → f ≡ Memory
memory_fault f e = cc e

-- it is refused for what each program refuses it for
pub line_refused : (line : List ℕ) (p : StoredProgram) (result : Result (Unit {0}) LoadFault) (fault : LoadFault)
    → IsErrAnd result (λ f. f ≡ fault) → IsRefused line fault → IsEntered line p p result
line_refused line p (Ok u) fault is refused = absurd is
line_refused line p (Err f) fault is refused =
    let line_fault : IsLineFault f = subst IsLineFault (sym is) (IsRefused-fault line fault refused) in
    record {
      enters = record {
        ok = tt;
        refused = λ _. refused p.lines p.memory ∙ ap Err (sym is);
        memory_last = λ other. absurd (other line_fault);
        err = refl;
        memory = refl;
      };
      memory_text = λ e. absurd (not_memory f line_fault (memory_fault f e));
    }

-- ---- the number in front

-- the line without the blanks in front of it
abbrev pub in_front : List ℕ → List ℕ
in_front line = drop (past_blanks line 0) line

pub in_front-trim_start : (line : List ℕ) → in_front line ≡ trim_start line
unfolding past_blanks
in_front-trim_start line =
    let e : 0 + prefix_len is_blank line ≡ prefix_len is_blank line = omega arith in
    ap (λ n. drop n line) e

pub some_in_front : (line : List ℕ) → nat_le (length line) (past_blanks line 0) ≡ false → 0 < length (in_front line)
some_in_front line e = omega (arith, leb-false _ _ e, length-drop (past_blanks line 0) line)

none_in_front : (line : List ℕ) → nat_le (length line) (past_blanks line 0) ≡ true → in_front line ≡ []
none_in_front line e = drop_all (past_blanks line 0) line (leb-true _ _ e)

-- what a line with no statement does, by whether all of it is blank and by the number in front
module _ (line : List ℕ) (clean : position (λ b. not (is_printable b)) line ≡ None) where
  by_front : (p : Statements) (memory : ℕ) → after_line p memory line ≡ after_trimmed p memory (in_front line)
  by_front = by_trimmed line (in_front line) clean (in_front-trim_start line)

  pub after_blanks : nat_le (length line) (past_blanks line 0) ≡ true → EntersNothing line
  after_blanks all p memory = by_front p memory ∙ ap (after_trimmed p memory) (none_in_front line all)

  pub after_no_number : nat_le (length line) (past_blanks line 0) ≡ false
      → digits_value (digits_of (in_front line)) ≡ 0 → IsRefused line NoNumber
  after_no_number some none p memory =
      by_front p memory ∙ no_number (in_front line) p memory (some_in_front line some) none

  pub after_too_big : nat_le (length line) (past_blanks line 0) ≡ false
      → number_limit < digits_value (digits_of (in_front line)) → IsRefused line NumberTooBig
  after_too_big some over p memory =
      by_front p memory ∙ too_big (in_front line) p memory (some_in_front line some) over

-- what a number in front is: none, or what the digits there write
number_cases : (line : List ℕ) (n : Number) (j : ℕ) → number_at line 0 ≡ (n, j)
    → ((prefix_len is_digit (in_front line) ≡ 0) × (n ≡ Absent))
    ⊎ ((small_number (digits_value (digits_of (in_front line))) ≡ n)
    × (past_blanks line (past_blanks line 0 + prefix_len is_digit (in_front line)) ≡ j))
unfolding number_at
number_cases line n j e = go (k == 0) refl e
  where
    k : ℕ
    k = prefix_len is_digit (in_front line)

    x : Number
    x = small_number (digits_value (digits_of (in_front line)))

    go : (b : Bool) → (k == 0) ≡ b
        → ◌≡◌ {A = Number × ℕ} (if b then (Absent, 0) else (x, past_blanks line (past_blanks line 0 + k))) (n, j)
        → ((k ≡ 0) × (n ≡ Absent)) ⊎ ((x ≡ n) × (past_blanks line (past_blanks line 0 + k) ≡ j))
    go true h e = inl (eqb-true k 0 h, sym (ap (λ (p : Number × ℕ). p.0) e))
    go false h e = inr (ap (λ (p : Number × ℕ). p.0) e, ap (λ (p : Number × ℕ). p.1) e)

-- the number that digits write is small or too big, never absent
absent_is : (v : ℕ) → small_number v ≡ Absent → ⊥
absent_is v e = go (nat_le v number_limit) e
  where
    go : (b : Bool) → (if b then Value (pos v) else TooBig) ≡ Absent → ⊥
    go true e = absurd cc
    go false e = absurd cc

too_big_is : (v : ℕ) → small_number v ≡ TooBig → number_limit < v
too_big_is v e = go (nat_le v number_limit) refl e
  where
    go : (b : Bool) → nat_le v number_limit ≡ b → (if b then Value (pos v) else TooBig) ≡ TooBig → number_limit < v
    go true h e = absurd (cc e)
    go false h e = omega (arith, leb-false _ _ h)

value_is : (n : ℕ) (v : ℤ) → small_number n ≡ Value v → (n ≤ number_limit) × (pos n ≡ v)
value_is n v e = go (nat_le n number_limit) refl e
  where
    go : (b : Bool) → nat_le n number_limit ≡ b → (if b then Value (pos n) else TooBig) ≡ Value v
        → (n ≤ number_limit) × (pos n ≡ v)
    go true h e = (leb-true n number_limit h, cc)
    go false h e = absurd cc

-- the digits in front have no value where there are none
no_digits : (t : List ℕ) → prefix_len is_digit t ≡ 0 → digits_value (digits_of t) ≡ 0
no_digits t e = ap (λ k. digits_value (take k t)) e

pub number_too_big : (line : List ℕ) (j : ℕ) → number_at line 0 ≡ (TooBig, j)
    → number_limit < digits_value (digits_of (in_front line))
number_too_big line j e = elim (number_cases line TooBig j e) [
  | inl h ↦ absurd (cc h.1)
  | inr h ↦ too_big_is _ h.0
]

pub number_absent : (line : List ℕ) (j : ℕ) → number_at line 0 ≡ (Absent, j)
    → digits_value (digits_of (in_front line)) ≡ 0
number_absent line j e = elim (number_cases line Absent j e) [
  | inl h ↦ no_digits (in_front line) h.0
  | inr h ↦ absurd (absent_is _ h.0)
]

-- what a number that isn't too big says of the line
pub record HasNumber (line : List ℕ) (v : ℤ) (j : ℕ) : Type 0 where
  pub value : pos (digits_value (digits_of (in_front line))) ≡ v
  pub high : digits_value (digits_of (in_front line)) ≤ number_limit
  pub text : drop j line ≡ trim_start (after_digits (in_front line))

following : (line : List ℕ)
    → drop (past_blanks line (past_blanks line 0 + prefix_len is_digit (in_front line))) line
    ≡ trim_start (after_digits (in_front line))
unfolding past_blanks
following line =
    let k = prefix_len is_digit (in_front line) in
    let b = past_blanks line 0 in
    sym (drop-drop (prefix_len is_blank (drop (b + k) line)) (b + k) line)
    ∙ ap (λ u. drop (prefix_len is_blank u) u) (sym (drop-drop k b line))

pub number_value : (line : List ℕ) (v : ℤ) (j : ℕ) → number_at line 0 ≡ (Value v, j) → HasNumber line v j
number_value line v j e = elim (number_cases line (Value v) j e) [
  | inl h ↦ absurd (cc h.1)
  | inr h ↦
      let n = value_is _ v h.0 in
      record {
        value = n.1;
        high = n.0;
        text = ap (λ m. drop m line) (sym h.1) ∙ following line;
      }
]

-- which number was found in front
pub found : (line : List ℕ) (n m : Number) (j : ℕ) → number_at line 0 ≡ (n, j) → n ≡ m → number_at line 0 ≡ (m, j)
found line n m j e is = e ∙ ap (λ (x : Number). (x, j)) is

-- ---- the result of entering a line

-- what was found is as the match says
pub found_is : {T : Type 0} (N : Type 0) (P : T → Type 0) (o : Option T) (x : T) → MatchOption o N P → o ≡ Some x → P x
found_is N P None x told is = cc
found_is N P (Some y) x told is = let same : y ≡ x = cc in subst P same told

after_short : (p : Statements) (memory n : ℕ) (t : List ℕ) → 0 < length t → length t ≤ text_limit
    → after_statement p memory n t ≡ if_room memory (with_text p n t)
after_short p memory n [] some short = absurd (omega arith)
after_short p memory n (b ∷ bs) some short = grind (arith, nat_tests)

module _ (line : List ℕ) (p : StoredProgram) where
  module _ (n : ℕ) (t : List ℕ) (numbered : IsNumbered line n t) (empty : Bool) (tested : empty ≡ (length t == 0))
      (not_empty : empty ≡ false) where
    has_text : HasText line
    has_text = subst (λ (u : List ℕ). 0 < length u) numbered.after_the_number (some_bytes t empty tested not_empty)

    -- its text is stored
    module _ (short : length t ≤ text_limit) where
      pub line_statement : is_statement (n, t) ≡ true
      line_statement = grind (
        arith,
        nat_tests,
        numbered.low,
        numbered.high,
        numbered.printable,
        numbered.no_blank_in_front,
        some_bytes t empty tested not_empty,
      )

      pub line_stored : (new : StoredProgram) (result : Result (Unit {0}) LoadFault)
          → Enters (if_room p.memory (with_text p.lines n t)) p new result → IsEntered line p new result
      line_stored new result enters = record {
        enters = subst (λ (w : Result Statements LoadFault). Enters w p new result) (sym (numbered.enters p.lines
            p.memory ∙ after_short p.lines p.memory n t (some_bytes t empty tested not_empty) short)) enters;
        memory_text = λ _. has_text;
      }
