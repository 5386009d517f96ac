-- This file proves that clap lets no number of an option through that is outside its range: no memory size but 64 to
-- 32767, and no bound for answers but 1 to 32767.
-- Main lemmas: `memory_in_range` and `choose_in_range`.
use Rattle.std.proofs.Common.{◌≡◌, ◌∙◌, ap, sym, refl, subst, inl, inr, ℕ, zero, suc, ◌<◌, ◌≤◌}
use Rattle.std.proofs.Common.{Bool, true, List, [], ◌∷◌, length, map, get_or, Option, Some, None, pos}
use Rattle.std.proofs.Common.{arith}
use Rattle.std.specs.Prelude.{◌&&◌, not, codes, All, option_and_then, option_map, slice_get}
use Rattle.std.specs.Option.{ForSome}
use Rattle.std.specs.Borrow.{Bor}
use Rattle.std.specs.Str.{bytes_eq}
use Rattle.std.proofs.lemmas.Bool.{and_parts, false≢true}
use Rattle.std.proofs.lemmas.List.{length-map, get_or-map}
use Rattle.std.proofs.lemmas.List.Elements.{All-head}
use Rattle.std.proofs.lemmas.Slice.Eq.{bytes_eq-Decides}
use Rattle.clap.specs.Words.{Accepts, IsSignedIn, IsParsed, IsParsedFrom, Rule, app_of, args_of}
use Rattle.clap.specs.Words.{found_of, groups_of, has_subcommand, matched_of, one_text, parser_of}
use Rattle.clap.specs.Words.{read_as, reading_of, rule_of, without_minus}
use Rattle.clap.specs.Facts.{Entry, EntryPasses, HasReading, IsKnownGroup, PassesArg, parser_of_value}
use Rattle.clap.specs.Built.{IsAuto}
use Rattle.clap.specs.declared.builder.Arg.{Arg}
use Rattle.clap.specs.declared.builder.Command.{Command}
use Rattle.clap.specs.declared.builder.ValueParser.{ValueParser}
use Rattle.clap.specs.declared.builder.ValueParser.TheVariants.{Signed}
use Rattle.clap.specs.declared.parser.ArgMatches.{ArgMatches}
use Rattle.clap.specs.declared.parser.matches.MatchedArg.{MatchedArg}
use Rattle.clap.specs.declared.builder.value_parser.Reading.{Reading}
use Rattle.clap.specs.declared.builder.value_parser.Reading.TheVariants.{WithoutMinus}
use Rattle.std.specs.Str.Parse.{ParsesUnsigned}
use Rattle.std.proofs.lemmas.Option.{none-some, same_Some}
use Rattle.clap.proofs.WalkLemmas.{one_text-rows}
use Rattle.clap.proofs.CallerReads.{signed_reads}
use Rattle.clap.proofs.CallerLemmas.{entry_by_id, same_rules_by_id}
use Rattle.clap.proofs.SimpleLemmas.{all_simple, plain_fields, simple_groups}
use Rattle.ptb_options.specs.CommandLine.{number_option, rules as tool_rules, tool}
use Rattle.ptb_options.specs.Options.{entries_of, number_in, number_of}
use Rattle.ptb_options.proofs.OptionReads.{number_in-reads}

-- whether none of the rules has a name, and whether none has it but the one at an index
has_none : List Rule → List ℕ → Bool
has_none [] name = true
has_none (r ∷ rs) name = not (bytes_eq r.id name) && has_none rs name

has_only : List Rule → List ℕ → ℕ → Bool
has_only [] name index = true
has_only (r ∷ rs) name zero = has_none rs name
has_only (r ∷ rs) name (suc index) = not (bytes_eq r.id name) && has_only rs name index

none_has : (rs : List Rule) (name : List ℕ) (j : ℕ) (r : Rule) → has_none rs name ≡ true → j < length rs
    → bytes_eq (get_or rs j r).id name ≡ true → ⊥
unfolding has_none
none_has [] name j r none lt e = omega arith
none_has (q ∷ rs) name zero r none lt e = false≢true (sym (ap not e) ∙ (and_parts _ _ none).0)
none_has (q ∷ rs) name (suc j) r none lt e = none_has rs name j r (and_parts _ _ none).1 (omega arith) e

only_has : (rs : List Rule) (name : List ℕ) (index j : ℕ) (r : Rule) → has_only rs name index ≡ true → j < length rs
    → bytes_eq (get_or rs j r).id name ≡ true → j ≡ index
unfolding has_only
only_has [] name index j r only lt e = absurd (omega arith)
only_has (q ∷ rs) name zero zero r only lt e = refl
only_has (q ∷ rs) name zero (suc j) r only lt e = absurd (none_has rs name j r only (omega arith) e)
only_has (q ∷ rs) name (suc index) zero r only lt e = absurd (false≢true (sym (ap not e) ∙ (and_parts _ _ only).0))
only_has (q ∷ rs) name (suc index) (suc j) r only lt e =
    ap (λ n. suc n) (only_has rs name index j r (and_parts _ _ only).1 (omega arith) e)

-- an option with a number: its index among the options, where no other has its name, and its range
record IsOption (name : List ℕ) (index low high : ℕ) : Type 0 where
  there : (r : Rule) → get_or tool_rules index r ≡ number_option name (Signed (pos low) (pos high))
  only : has_only tool_rules name index ≡ true
  inside : index < 16
  fits : high < 65536
  named : (name ≡ [] → ⊥) × (name ≡ codes "help" → ⊥) × (name ≡ codes "version" → ⊥)

-- it is an option up to 32767, where its name is none of clap's own
option_up : (name : List ℕ) (index low : ℕ)
    → ((r : Rule) → get_or tool_rules index r ≡ number_option name (Signed (pos low) (pos 32767)))
    → has_only tool_rules name index ≡ true → index < 16
    → (name ≡ [] → ⊥) × (name ≡ codes "help" → ⊥) × (name ≡ codes "version" → ⊥) → IsOption name index low 32767
option_up name index low there only inside named = record {
  there = there;
  only = only;
  inside = inside;
  fits = omega arith;
  named = named;
}

memory_option : IsOption (codes "memory") 1 64 32767
unfolding has_only has_none
memory_option = option_up (codes "memory") 1 64 (λ r. refl) refl (omega arith) (λ e. cc, λ e. cc, λ e. cc)

choose_option : IsOption (codes "choose") 2 1 32767
unfolding has_only has_none
choose_option = option_up (codes "choose") 2 1 (λ r. refl) refl (omega arith) (λ e. cc, λ e. cc, λ e. cc)

module _ (name : List ℕ) (index low high : ℕ) (option : IsOption name index low high) (c : Command) (m : ArgMatches)
    (is_tool : app_of c ≡ tool) (p : IsParsedFrom c m) where
  rules_are : map rule_of (args_of c) ≡ tool_rules
  rules_are = ap (λ a. a.top.rules) is_tool

  count : length (args_of c) ≡ 16
  count = sym (length-map (args_of c) rule_of) ∙ ap length rules_are

  rule_at : (j : ℕ) (d : Arg) → j < length (args_of c)
      → rule_of (get_or (args_of c) j d) ≡ get_or tool_rules j (rule_of d)
  rule_at j d lt =
      sym (get_or-map rule_of (args_of c) j d (rule_of d) lt) ∙ ap (λ rs. get_or rs j (rule_of d)) rules_are

  within : index < length (args_of c)
  within = omega (arith, count, option.inside)

  id_is : (d : Arg) → (get_or (args_of c) index d).id.now ≡ name
  id_is d = ap (λ r. r.id) (rule_at index d within ∙ option.there (rule_of d))

  own : (d : Arg) → IsAuto (get_or (args_of c) index d) → ⊥
  own d (inl h) = option.named.1 (sym (id_is d) ∙ h)
  own d (inr h) = option.named.2 (sym (id_is d) ∙ h)

  unique : (d : Arg) (j : ℕ) (e : Arg) → j < length (args_of c)
      → bytes_eq (get_or (args_of c) j e).id.now (get_or (args_of c) index d).id.now ≡ true → j ≡ index
  unique d j e lt same =
      let its : (get_or (args_of c) j e).id.now ≡ (get_or tool_rules j (rule_of e)).id =
      ap (λ r. r.id) (rule_at j e lt) in
      let named : bytes_eq (get_or tool_rules j (rule_of e)).id name ≡ true = rw (its, id_is d) at same in
      only_has tool_rules name index j (rule_of e) option.only
      (subst (λ n. j < n) (sym (length-map (args_of c) rule_of) ∙ ap length rules_are) lt) named

  -- an argument of the built command with this id has the option's parser
  parser_is : (j : ℕ) (x : Arg) → j < length (args_of p.built) → get_or (args_of p.built) j x ≡ x
      → bytes_eq x.id.now name ≡ true
      → parser_of x ≡ Signed (pos low) (pos high)
  parser_is j x lt at same =
      let named : bytes_eq x.id.now (get_or (args_of c) index x).id.now ≡ true = rw (id_is x) same in
      let kept = same_rules_by_id c m p index x within (unique x) (own x) j x lt at named in
      ap parser_of_value (kept.parser (Signed (pos low) (pos high))
      (ap (λ r. r.parser) (rule_at index x within ∙ option.there (rule_of x))))

  no_groups : groups_of p.built ≡ []
  no_groups =
      (p.from.same_groups (simple_groups c (ap all_simple rules_are))).1
      ∙ (plain_fields c (ap (λ a. a.top.is_plain) is_tool)).groups

  parsed : IsParsed p.built (found_of m) (has_subcommand m)
  parsed = p.parsed (p.from.globals ∙ (plain_fields c (ap (λ a. a.top.is_plain) is_tool)).globals)

  passed : (v : List ℕ) → PassesArg p.built name v → IsSignedIn (pos low) (pos high) v
  passed v any =
      subst (λ (q : ValueParser). Accepts any.1.ignore_case q v) (parser_is any.0 any.1 any.2 any.3 any.4.0) any.4.1

  read_without_minus : (how : Reading) → HasReading p.built name how → how ≡ WithoutMinus
  read_without_minus how any = sym any.4.1 ∙ ap reading_of (parser_is any.0 any.1 any.2 any.3 any.4.0)

  -- the entry of the option, as it was parsed
  entry : (x : MatchedArg) → matched_of (found_of m) name ≡ Some x
      → (e : Entry) × (e.1 ≡ x) × (bytes_eq e.0.now name ≡ true) × EntryPasses p.built e
  entry x found = entry_by_id (EntryPasses p.built) (found_of m).entries.items name x parsed.values found

  no_group : (e : Entry) → bytes_eq e.0.now name ≡ true → EntryPasses p.built e → e.1.is_group ≡ true → ⊥
  no_group e key passes group = known (passes.3 group)
    where
      known : IsKnownGroup p.built e.0.now → ⊥
      known (inl empty) = option.named.0 (sym ((bytes_eq-Decides e.0.now name).0 key) ∙ empty)
      known (inr some) = let none : 0 < 0 = rw no_groups at some in omega arith

  in_range : (text : List ℕ) → IsSignedIn (pos low) (pos high) text
      → ForSome (number_in 16 (without_minus text)) (λ n. (low ≤ n) × (n ≤ high))
  in_range text h n found =
      let read = signed_reads (Unit {0}) (ParsesUnsigned 16 10) 16 low high text (number_in 16 (without_minus text))
      (number_in-reads 16 (without_minus text))
      (λ u x g. g) (omega (arith, option.fits)) h in
      let same : n ≡ read.0 = same_Some n read.0 (sym found ∙ read.1) in
      rw same (read.2, read.3)

  values_in_range : (how : Reading) (vs : List (Bor (List ℕ))) → how ≡ WithoutMinus
      → All (λ v. PassesArg p.built name v.now) vs
      → ForSome (option_and_then (number_in 16) (option_map (λ s. read_as how s.now) (slice_get vs 0)))
      (λ n. (low ≤ n) × (n ≤ high))
  values_in_range how [] is all n found = absurd (none-some n found)
  values_in_range how (v ∷ vs) is all n found =
      in_range v.now (passed v.now (All-head (λ v. PassesArg p.built name v.now) v vs all)) n (rw is at found)

  text_in_range : (o : Option MatchedArg) → matched_of (found_of m) name ≡ o
      → ForSome (option_and_then (number_in 16) (one_text (found_of m) name)) (λ n. (low ≤ n) × (n ≤ high))
  text_in_range None found = rw found (λ n e. absurd (none-some n e))
  text_in_range (Some x) found =
      let e = entry x found in
      let key : e.0.0.now ≡ name = (bytes_eq-Decides e.0.0.now name).0 e.2 in
      let group = no_group e.0 e.2 e.3 in
      let as_arg : e.0.1.reading ≡ WithoutMinus = elim e.3.4 [
        | inl g ↦ absurd (group g)
        | inr h ↦ read_without_minus e.0.1.reading (subst (λ (id : List ℕ). HasReading p.built id e.0.1.reading) key h)
      ] in
      let all : All (λ v. PassesArg p.built name v.now) e.0.1.vals.items = elim e.3.0 [
        | inl g ↦ absurd (group g)
        | inr h ↦ subst (λ (id : List ℕ). All (λ v. PassesArg p.built id v.now) e.0.1.vals.items) key h
      ] in
      rw found (values_in_range x.reading x.vals.items (ap (λ (a : MatchedArg). a.reading) (sym e.1) ∙ as_arg)
      (subst (λ (a : MatchedArg). All (λ v. PassesArg p.built name v.now) a.vals.items) e.1 all))

-- the number that an option gives is in its range
pub memory_in_range : (c : Command) (m : ArgMatches) → app_of c ≡ tool → IsParsedFrom c m
    → ForSome (number_of 16 (codes "memory") (entries_of m)) (λ n. (64 ≤ n) × (n ≤ 32767))
memory_in_range c m is_tool p =
    rw (← one_text-rows (found_of m) (codes "memory"))
    (text_in_range (codes "memory") 1 64 32767 memory_option c m is_tool p
    (matched_of (found_of m) (codes "memory")) refl)

pub choose_in_range : (c : Command) (m : ArgMatches) → app_of c ≡ tool → IsParsedFrom c m
    → ForSome (number_of 16 (codes "choose") (entries_of m)) (λ n. (1 ≤ n) × (n ≤ 32767))
choose_in_range c m is_tool p =
    rw (← one_text-rows (found_of m) (codes "choose"))
    (text_in_range (codes "choose") 2 1 32767 choose_option c m is_tool p (matched_of (found_of m) (codes "choose"))
    refl)
