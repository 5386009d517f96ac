-- This file proves that a machine that fits one of two programs fits the other, whose commands are at the same
-- places.
-- Main lemma: `fits_prints`.
use Rattle.std.proofs.Common.{◌≡◌, ◌∙◌, ℕ, zero, suc, List, [], ◌∷◌, drop, slice_get, Option, Some}
use Rattle.std.proofs.Common.{None, Result, Ok, refl, sym, ap, subst, arith}
use Rattle.std.specs.Prelude.{⊤, codes}
use Rattle.std.specs.Fmt.{digits}
use Rattle.ptb_text.specs.declared.fault.LoadFault.{LoadFault}
use Rattle.ptb_text.specs.Statements.{Statements, StoredProgram, after_lines}
use Rattle.ptb_text.specs.Words.{past_blanks, spelling_in_front, word_at, bytes_at, letter_at, number_at, quotation_at}
use Rattle.ptb_expr.specs.Operators.{product_operator, sum_operator, comparison}
use Rattle.ptb_expr.specs.Reading.{Reading, Whole, Malformed, more, paren, variable_or, variable}
use Rattle.ptb_expr.specs.Reading.{plain_factor, factor, product, first_product, sum, expr_with, expr}
use Rattle.ptb_expr.specs.Reading.{expression, variable_tree}
use Rattle.ptb_command.specs.Items.{items_within, items}
use Rattle.ptb_command.specs.Commands.{Part, Command, assignment, string_at, print_item}
use Rattle.ptb_command.specs.Commands.{print_parts, parts_of, command_at, command_round, commands_from, commands}
use Rattle.ptb_command.specs.State.{Place, Loop, Call, text_of}
use Rattle.ptb_command.specs.Places.{IsSamePlace}
use Rattle.ptb_command.specs.declared.location.Location.{Location}
use Rattle.ptb_command.specs.declared.stack.Open.{Open}
use Rattle.ptb_command.specs.declared.stack.Open.TheVariants as opens
use Rattle.ptb_command.specs.Configuration.{Configuration}
use Rattle.ptb_command.specs.Locations.{PlaceIs, PlacesAre}
use Rattle.ptb_command.specs.Representation.{Nested}
use Rattle.ptb_machine.specs.Steps.{FitsProgram}
use Rattle.ptb_machine_tests.specs.Programs.{IsCounting, IsPrinting}

-- ---- places of one program that are places of another

module _ (p p' : Statements) (place_on : (q : Place) (m : Location) → PlaceIs p q m → PlaceIs p' q m) where
  places_on : (q : Option Place) (m : Option Location) → PlacesAre p q m → PlacesAre p' q m
  places_on None None are = tt
  places_on None (Some m) are = absurd are
  places_on (Some q) None are = absurd are
  places_on (Some q) (Some m) are = place_on q m are

  no_loops : (b : Location) (os : List Open) (l : Loop) (loops : List Loop) (calls : List Call)
      → Nested p (opens.Call b ∷ os) (l ∷ loops) calls → ⊥
  no_loops b os l loops calls n = n

  nested_on : (os : List Open) (loops : List Loop) (calls : List Call) → Nested p os loops calls
      → Nested p' os loops calls
  nested_on [] [] [] n = tt
  nested_on [] [] (c ∷ calls) n = absurd n
  nested_on [] (l ∷ loops) calls n = absurd n
  nested_on (opens.Loop m ∷ os) [] calls n = absurd n
  nested_on (opens.Loop m ∷ os) (l ∷ loops) calls n = (
    record { letter = n.0.letter; limit = n.0.limit; step = n.0.step; back = place_on l.back m.back n.0.back },
    nested_on os loops calls n.1,
  )
  nested_on (opens.Call b ∷ os) [] [] n = absurd n
  nested_on (opens.Call b ∷ os) [] (c ∷ calls) n = (place_on c.back b n.0, nested_on os c.loops calls n.1)
  nested_on (opens.Call b ∷ os) (l ∷ loops) calls n = absurd (no_loops b os l loops calls n)

fits_on : (p p' : StoredProgram) (m : Configuration)
    → ((q : Place) (l : Location) → PlaceIs p.lines q l → PlaceIs p'.lines q l) → FitsProgram p m → FitsProgram p' m
fits_on p p' m on fits =
    let is = fits.represents in
    record {
      state = fits.state;
      represents = record {
        place = places_on p.lines p'.lines on fits.state.place m.place is.place;
        cells = is.cells;
        levels = nested_on p.lines p'.lines on m.stack fits.state.loops fits.state.calls is.levels;
        steps = is.steps;
        fresh = is.fresh;
      };
    }

-- ---- the two programs

abbrev adds : List ℕ
adds = codes "A=A+1"

abbrev prints : List ℕ
prints = codes "PRINT"

abbrev jumps : List ℕ
jumps = codes "GOTO 10"

abbrev counting : Statements
counting = (10, adds) ∷ (20, jumps) ∷ []

abbrev printing : Statements
printing = (10, prints) ∷ (20, jumps) ∷ []

abbrev gives : Statements → Result Statements (ℕ × LoadFault)
gives p = Ok p

same_lines : (p q : Statements) → gives p ≡ gives q → p ≡ q
same_lines p q e = cc

-- the first command that is read: none, a well-formed one, or a malformed one
abbrev reading_kind : Reading (List Part) → ℕ
reading_kind (Whole parts i) = 1
reading_kind (Malformed parts) = 2

abbrev first_kind : List Command → ℕ
first_kind [] = 0
first_kind (c ∷ cs) = reading_kind c.parts

unfoldable on_lines : ⊤
unfolding digits after_lines past_blanks spelling_in_front word_at bytes_at letter_at number_at quotation_at
    product_operator sum_operator comparison more paren variable_or variable plain_factor factor product first_product
    sum
    expr_with expr expression variable_tree items_within items assignment string_at print_item print_parts parts_of
    command_at command_round commands_from
on_lines = tt

none_not_one : ◌≡◌ {A = ℕ} 0 1 → ⊥
none_not_one e = omega (arith, e)

one_not_none : ◌≡◌ {A = ℕ} 1 0 → ⊥
one_not_none e = omega (arith, e)

none_not_two : ◌≡◌ {A = ℕ} 0 2 → ⊥
none_not_two e = omega (arith, e)

one_not_two : ◌≡◌ {A = ℕ} 1 2 → ⊥
one_not_two e = omega (arith, e)

never_malformed : (k : ℕ) → first_kind (drop k (commands adds)) ≡ 2 → ⊥
unfolding on_lines
never_malformed zero e = one_not_two e
never_malformed (suc zero) e = none_not_two e
never_malformed (suc (suc k)) e = none_not_two e

none_at_0 : (k : ℕ) → first_kind (drop (suc k) (commands adds)) ≡ 1 → ⊥
unfolding on_lines
none_at_0 zero e = none_not_one e
none_at_0 (suc k) e = none_not_one e

whole_at_0 : first_kind (drop 0 (commands adds)) ≡ 0 → ⊥
unfolding on_lines
whole_at_0 e = one_not_none e

kind_there : (k b : ℕ) → IsSamePlace adds k b → first_kind (drop k (commands adds)) ≡ first_kind (commands_from adds b)
kind_there k b at = ap first_kind at.left

print_end : (k : ℕ) → drop (suc k) (commands prints) ≡ commands_from prints 5
unfolding on_lines
print_end zero = refl
print_end (suc k) = refl

print_there : (k b : ℕ) → IsSamePlace adds k b → IsSamePlace prints k b
unfolding on_lines
print_there zero zero at = record { left = refl; within = omega arith }
print_there (suc k) zero at = absurd (none_at_0 k (kind_there (suc k) 0 at))
print_there k (suc zero) at = absurd (never_malformed k (kind_there k 1 at))
print_there k (suc (suc zero)) at = absurd (never_malformed k (kind_there k 2 at))
print_there k (suc (suc (suc zero))) at = absurd (never_malformed k (kind_there k 3 at))
print_there k (suc (suc (suc (suc zero)))) at = absurd (never_malformed k (kind_there k 4 at))
print_there zero (suc (suc (suc (suc (suc zero))))) at = absurd (whole_at_0 (kind_there 0 5 at))
print_there (suc k) (suc (suc (suc (suc (suc zero))))) at = record { left = print_end k; within = omega arith }
print_there k (suc (suc (suc (suc (suc (suc b)))))) at = absurd (omega (arith, at.within))

abbrev numbered : ℕ → List ℕ → Option (ℕ × List ℕ)
numbered n t = Some (n, t)

number_there : (k n : ℕ) (t u : List ℕ) → numbered k t ≡ numbered n u → k ≡ n
number_there k n t u e = ap (λ (o : Option (ℕ × List ℕ)). elim o [ Some x ↦ x.0 | None ↦ k ]) e

-- a place in the first programs that is one in the second, found at the statement i with the number k
same_number : (i k : ℕ) (q : Place) (m : Location) → k ≡ q.number → m.statement ≡ i
    → slice_get printing i ≡ numbered k (text_of printing k) → IsSamePlace (text_of printing k) q.index m.offset
    → PlaceIs printing q m
same_number i k q m n e found at = record {
  statement = ap (slice_get printing) e
      ∙ subst (λ (k : ℕ). slice_get printing i ≡ numbered k (text_of printing k)) n found;
  at = subst (λ (k : ℕ). IsSamePlace (text_of printing k) q.index m.offset) n at;
}

there : (q : Place) (m : Location) → PlaceIs counting q m → PlaceIs printing q m
there q m is = by_statement m.statement refl
  where
    before : (k : ℕ) → k ≡ q.number → IsSamePlace (text_of counting k) q.index m.offset
    before k n = subst (λ (k : ℕ). IsSamePlace (text_of counting k) q.index m.offset) (sym n) is.at

    by_statement : (i : ℕ) → m.statement ≡ i → PlaceIs printing q m
    by_statement zero e =
        let n : 10 ≡ q.number = number_there 10 q.number adds (text_of counting q.number)
        (sym (ap (slice_get counting) e) ∙ is.statement) in
        same_number 0 10 q m n e refl (print_there q.index m.offset (before 10 n))
    by_statement (suc zero) e =
        let n : 20 ≡ q.number = number_there 20 q.number jumps (text_of counting q.number)
        (sym (ap (slice_get counting) e) ∙ is.statement) in
        same_number 1 20 q m n e refl (before 20 n)
    by_statement (suc (suc i)) e =
        absurd (none_there i q.number (text_of counting q.number) (sym (ap (slice_get counting) e) ∙ is.statement))
      where
        none_there : (i n : ℕ) (t : List ℕ) → slice_get counting (suc (suc i)) ≡ numbered n t → ⊥
        none_there i n t e = cc

counting_lines : (p : StoredProgram) → IsCounting p → counting ≡ p.lines
unfolding on_lines
counting_lines p e = same_lines counting p.lines e

printing_lines : (p : StoredProgram) → IsPrinting p → printing ≡ p.lines
unfolding on_lines
printing_lines p e = same_lines printing p.lines e

pub fits_prints : (p p' : StoredProgram) (m : Configuration) → IsCounting p → IsPrinting p' → FitsProgram p m
    → FitsProgram p' m
fits_prints p p' m counts prints fits = fits_on p p' m there_then fits
  where
    there_then : (q : Place) (l : Location) → PlaceIs p.lines q l → PlaceIs p'.lines q l
    there_then q l is =
        let before : PlaceIs counting q l =
        subst (λ (s : Statements). PlaceIs s q l) (sym (counting_lines p counts)) is in
        subst (λ (s : Statements). PlaceIs s q l) (printing_lines p' prints) (there q l before)
