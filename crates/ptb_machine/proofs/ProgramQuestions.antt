-- This file proves that a command of a program has no more RNDs than the program.
-- Main lemma: `next_questions`.
use Rattle.std.proofs.Common.{◌≡◌, ℕ, zero, suc, ◌≤◌, Bool, true, false, cond, List, [], ◌∷◌}
use Rattle.std.proofs.Common.{slice_get, Option, Some, None, refl, ap, arith}
use Rattle.std.specs.Prelude.{unwrap_or, sum_by}
use Rattle.std.specs.Ordering.{nat_cmp, eq_by_cmp}
use Rattle.std.proofs.lemmas.List.Sums.{sum_by-cons}
use Rattle.ptb_text.specs.Statements.{Statements, text_at}
use Rattle.ptb_text.specs.Words.{past_blanks}
use Rattle.ptb_command.specs.Commands.{Command, command_round, commands_from, commands}
use Rattle.ptb_command.specs.Items.{items_within, items}
use Rattle.ptb_command.specs.State.{Place, place_after, command_there, placed_at, first_command}
use Rattle.ptb_command.specs.State.{command_or_next, next_command}
use Rattle.ptb_machine.specs.Questions.{command_questions, text_questions}

-- one of a list's numbers is no more than all
at_most_sum : {X : Type 0} (f : X → ℕ) (xs : List X) (i : ℕ) (x : X) → slice_get xs i ≡ Some x → f x ≤ sum_by f xs
at_most_sum f [] i x e = absurd cc
at_most_sum f (y ∷ xs) zero x e = let same : y ≡ x = cc in omega (arith, ap f same, sum_by-cons f y xs)
at_most_sum f (y ∷ xs) (suc i) x e = omega (arith, at_most_sum f xs i x e, sum_by-cons f y xs)

text_at_most_sum : (f : List ℕ → ℕ) (p : Statements) (n : ℕ) (t : List ℕ) → text_at p n ≡ Some t
    → f t ≤ sum_by (λ s. f s.1) p
text_at_most_sum f [] n t e = absurd cc
text_at_most_sum f (s ∷ p) n t e = by_number (eq_by_cmp nat_cmp n s.0) e (text_at_most_sum f p n t)
  where
    by_number : (b : Bool) → cond b (Some s.1) (text_at p n) ≡ Some t
        → (text_at p n ≡ Some t → f t ≤ sum_by (λ s. f s.1) p) → f t ≤ sum_by (λ s. f s.1) (s ∷ p)
    by_number true e others = let same : s.1 ≡ t = cc in
        omega (arith, ap f same, sum_by-cons (λ (s : ℕ × List ℕ). f s.1) s p)
    by_number false e others = omega (arith, others e, sum_by-cons (λ (s : ℕ × List ℕ). f s.1) s p)

-- how many RNDs a program has
unfoldable pub program_rnds : Statements → ℕ
program_rnds p = sum_by (λ s. text_questions s.1) p

no_commands : commands [] ≡ []
unfolding items_within items command_round commands_from past_blanks
no_commands = refl

there_questions : (p : Statements) (q : Place) (c : Command) → command_there p q ≡ Some c
    → command_questions c ≤ program_rnds p
unfolding program_rnds
there_questions p q c e = by_text (text_at p q.number) refl e
  where
    by_text : (o : Option (List ℕ)) → text_at p q.number ≡ o → slice_get (commands (unwrap_or o [])) q.index ≡ Some c
        → command_questions c ≤ sum_by (λ s. text_questions s.1) p
    by_text (Some t) h e = omega (
      arith,
      at_most_sum command_questions (commands t) q.index c e,
      text_at_most_sum text_questions p q.number t h,
    )
    by_text None h e = let none : slice_get (commands []) q.index ≡ None =
        ap (λ (cs : List Command). slice_get cs q.index) no_commands in
        absurd cc

first_questions : (p : Statements) (o : Option Place) (r : Place × Command) → first_command p o ≡ Some r
    → command_questions r.1 ≤ program_rnds p
first_questions p None r e = absurd cc
first_questions p (Some q) r e = by_command (command_there p q) refl e
  where
    by_command : (o : Option Command) → command_there p q ≡ o → placed_at q o ≡ Some r
        → command_questions r.1 ≤ program_rnds p
    by_command None h e = absurd cc
    by_command (Some c) h e = let same : (q, c) ≡ r = cc in
        omega (arith, there_questions p q c h, ap (λ (r : Place × Command). command_questions r.1) same)

pub next_questions : (p : Statements) (o : Option Place) (r : Place × Command) → next_command p o ≡ Some r
    → command_questions r.1 ≤ program_rnds p
unfolding next_command
next_questions p None r e = absurd cc
next_questions p (Some q) r e = by_command (command_there p q) refl e
  where
    by_command : (o : Option Command) → command_there p q ≡ o → command_or_next p q o ≡ Some r
        → command_questions r.1 ≤ program_rnds p
    by_command (Some c) h e = let same : (q, c) ≡ r = cc in
        omega (arith, there_questions p q c h, ap (λ (r : Place × Command). command_questions r.1) same)
    by_command None h e = first_questions p (place_after p q.number) r e
