-- This file proves which mistakes are left after a command of a statement, and after a statement of a program.
-- Main lemmas: `commands_left` and `mistakes_left`.
use Rattle.std.proofs.Common.{◌≡◌, ◌∙◌, ℕ, zero, suc, ◌+◌, ◌<◌, Bool, true, false, List, [], ◌∷◌}
use Rattle.std.proofs.Common.{◌++◌, length, drop, Option, Some, None, ℤ, sym, ap, ap₂, refl, arith}
use Rattle.std.proofs.Common.{add-one}
use Rattle.std.specs.Prelude.{flat_map, slice_get, unsigned_abs}
use Rattle.ptb_text.specs.Words.{is_over}
use Rattle.ptb_text.specs.Statements.{Statements}
use Rattle.ptb_expr.specs.Reading.{Reading, Whole, Malformed}
use Rattle.ptb_command.specs.Commands.{Part, Command, after_command, command_and, command_at}
use Rattle.ptb_command.specs.Commands.{command_round, command_unless, commands_from, next_start}
use Rattle.ptb_command.specs.CommandLaws.{CommandLaws}
use Rattle.ptb_command.specs.Places.{commands_after, next_place}
use Rattle.ptb_command.specs.Locations.{IsLineAt}
use Rattle.ptb_check.specs.Mistakes.{Mistake, command_mistake, mistake_in, statement_mistakes}

-- ---- the commands of a statement

-- where the next command begins, if there is one
abbrev pub left_at : List ℕ → Option ℕ → List Command
left_at t None = []
left_at t (Some j) = commands_from t j

after_this : (t : List ℕ) (c : Command) (e : ℕ) (next : Option ℕ)
    → commands_after t (command_and c e next) ≡ c ∷ left_at t (next_place (command_and c e next))
after_this t c e (Some j) = refl
after_this t c e None = refl

after_parts : (t : List ℕ) (c : Command) (parts : Reading (List Part))
    → commands_after t (after_command t c parts) ≡ c ∷ left_at t (next_place (after_command t c parts))
after_parts t c (Whole parts e) = after_this t c e (next_start c.kind t e)
after_parts t c (Malformed parts) = refl

round_here : (t : List ℕ) (i : ℕ) (over : Bool) → is_over t i ≡ over → command_round t i ≡ command_unless t i over
unfolding command_round
round_here t i over e = ap (command_unless t i) e

module _ (laws : CommandLaws) (t : List ℕ) (i : ℕ) where
  pub commands_left : (next : Option ℕ) → is_over t i ≡ false → next_place (command_round t i) ≡ next
      → commands_from t i ≡ command_at t i ∷ left_at t next
  commands_left next e is =
      let c = command_at t i in
      let here = round_here t i false e in
      laws.commands_by_round t i ∙ ap (commands_after t) here ∙ after_parts t c c.parts
      ∙ ap (λ o. c ∷ left_at t o) (sym (ap next_place here) ∙ is)

  pub no_command_left : is_over t i ≡ true → commands_from t i ≡ []
  no_command_left e = laws.commands_by_round t i ∙ ap (commands_after t) (round_here t i true e)

-- their mistakes
module _ (p : Statements) (n : ℕ) (t : List ℕ) where
  abbrev pub mistakes_from : List Command → List Mistake
  mistakes_from = flat_map (λ c. mistake_in (n, t) (command_mistake p c))

  pub mistakes_left : (i : ℕ) (others : List Command) → commands_from t i ≡ command_at t i ∷ others
      → mistakes_from (commands_from t i) ≡ mistake_in (n, t) (command_mistake p (command_at t i))
      ++ mistakes_from others
  mistakes_left i others e = ap mistakes_from e

-- ---- the statements of a program

statement_there : {X : Type 0} (xs : List X) (k : ℕ) → k < length xs → (x : X) × (slice_get xs k ≡ Some x)
statement_there [] k lt = absurd (omega arith)
statement_there (x ∷ xs) zero lt = (x, refl)
statement_there (x ∷ xs) (suc k) lt = statement_there xs k (omega (arith, lt))

drop_there : {X : Type 0} (xs : List X) (k : ℕ) (x : X) → slice_get xs k ≡ Some x → drop k xs ≡ x ∷ drop (suc k) xs
drop_there [] k x e = absurd cc
drop_there (y ∷ xs) zero x e = let same : y ≡ x = cc in ap (λ z. z ∷ xs) same
drop_there (y ∷ xs) (suc k) x e = drop_there xs k x e

pub statement_left : (p q : Statements) (at : ℕ) (n : ℤ) (t : List ℕ) → at < length p → IsLineAt p at n t
    → flat_map (statement_mistakes q) (drop at p) ≡ statement_mistakes q (unsigned_abs n, t)
    ++ flat_map (statement_mistakes q) (drop (at + 1) p)
statement_left p q at n t lt line =
    let there = statement_there p at lt in
    let is = line there.0.0 there.0.1 there.1 in
    let same : there.0 ≡ (unsigned_abs n, t) =
    ap₂ (λ (m : ℕ) (u : List ℕ). (m, u)) (sym (ap unsigned_abs is.0)) (sym is.1) in
    ap (flat_map (statement_mistakes q)) (drop_there p at there.0 there.1)
    ∙ ap₂ (λ (s : ℕ × List ℕ) (k : ℕ). statement_mistakes q s ++ flat_map (statement_mistakes q) (drop k p)) same
    (sym (add-one at))
