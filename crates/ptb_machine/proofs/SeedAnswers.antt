-- This file proves that a chooser by a seed gives the answers that the seed has for a run.
-- Main lemma: `goes_by_drawn`.
use Rattle.std.proofs.Common.{◌≡◌, ◌∙◌, ℕ, zero, suc, List, [], ◌∷◌, ◌++◌, refl, sym, ap, arith, subst}
use Rattle.std.specs.Prelude.{ℤ, Some}
use Rattle.rand_pcg.specs.Lcg.{Lcg}
use Rattle.rand_pcg.specs.Pcg.{pcg32}
use Rattle.ptb_text.specs.Statements.{StoredProgram}
use Rattle.ptb_answers.specs.Outcome.{Answers, Outcome}
use Rattle.ptb_answers.specs.Choices.{AsksFor, with_answers}
use Rattle.ptb_answers.specs.Seeds.{SeededAnswers, RefusedForMemory, drawn_answer, drawn_from}
use Rattle.ptb_answers.specs.Seeds.{generator_of, seeded_choices}
use Rattle.ptb_answers.specs.DrawnAnswers.{answers_by, to_question}
use Rattle.ptb_answers.proofs.PublicLemmas.{Few, few_after, same_generator}
use Rattle.ptb_machine.specs.Laws.{RunLaws}
use Rattle.ptb_answers.specs.declared.rules.Rules.{Rules}
use Rattle.ptb_machine.specs.Play.{play}
use Rattle.ptb_machine.specs.Questions.{most_answers}
use Rattle.ptb_machine.specs.PlainRuns.{GoesBy, IsLed}
use Rattle.ptb_machine.specs.SeededRuns.{IsDrawn, SeededLaws, seeded_answers}

-- what is answered begins with what was taken, where that was drawn for its bounds
pub drawn_first : {A W : Type 0} (most : ℕ) (g : Lcg) (f : Answers → Outcome A W) (ts : Answers) (bs : List ℤ)
    → Few f most → AsksFor f ts bs → ts ≡ drawn_from g bs
    → (rest : Answers) × (answers_by most g f ≡ ts ++ rest)
drawn_first most g f [] [] few asked e = (answers_by most g f, refl)
drawn_first most g f [] (n ∷ bs) few asked e = absurd asked
drawn_first most g f (k ∷ ts) [] few asked e = absurd asked
drawn_first zero g f (k ∷ ts) (n ∷ bs) few asked e = let l = few [] n asked.0.0 asked.0.1 in absurd (omega (arith, l))
drawn_first (suc most) g f (k ∷ ts) (n ∷ bs) few asked e =
    let first : k ≡ drawn_answer (pcg32 g).0 n = cc in
    let others : ts ≡ drawn_from (pcg32 g).1 bs = cc in
    let following = drawn_first most (pcg32 g).1 (λ a. f (k ∷ a)) ts bs (few_after f most k few) asked.1 others in
    let answered : answers_by (suc most) g f ≡ drawn_answer (pcg32 g).0 n ∷ answers_by most (pcg32 g).1
    (λ a. f (drawn_answer (pcg32 g).0 n ∷ a)) =
    ap (to_question (λ n. drawn_answer (pcg32 g).0 n ∷ answers_by most (pcg32 g).1
    (λ a. f (drawn_answer (pcg32 g).0 n ∷ a)))) asked.0.1 in (
      following.0,
      answered ∙ ap (λ x. x ∷ answers_by most (pcg32 g).1 (λ a. f (x ∷ a))) (sym first) ∙ ap (λ l. k ∷ l) following.1,
    )

-- ---- a chooser by a seed

-- what it has answered was drawn for the bounds of what it was asked
taken_drawn : (seed : ℕ) (s t : SeededAnswers) (taken : Answers) (bounds : List ℤ)
    → s ≡ record { first = generator_of seed; bounds = [] }
    → seeded_choices t ≡ with_answers taken bounds (seeded_choices s) → taken ≡ drawn_from (generator_of seed) bounds
taken_drawn seed s t taken bounds begins e =
    let new : SeededAnswers = record { first = generator_of seed; bounds = [] } in
    let choices : seeded_choices t ≡ with_answers taken bounds (seeded_choices new) =
    e ∙ ap (λ x. with_answers taken bounds (seeded_choices x)) begins in
    let answers : drawn_from t.first t.bounds ≡ taken = ap (λ c. c.taken) choices in
    let kept : Some t.bounds ≡ Some bounds = ap (λ c. c.kept) choices in
    let same_first : t.first ≡ generator_of seed = same_generator new t (ap (λ c. c.plan) choices) in
    let same_bounds : t.bounds ≡ bounds = cc in
    sym answers ∙ ap (λ x. drawn_from x t.bounds) same_first ∙ ap (drawn_from (generator_of seed)) same_bounds

goes_by_seed : RunLaws → (seed : ℕ) (s t : SeededAnswers) (p : StoredProgram) (rules : Rules)
    → s ≡ record { first = generator_of seed; bounds = [] }
    → GoesBy RefusedForMemory (seeded_choices s) (seeded_choices t) (λ lines. seeded_answers seed p lines rules) p rules
goes_by_seed laws seed s t p rules begins lines taken bounds asked grown =
    let few = (laws.reads p lines rules).few in
    let first = drawn_first (most_answers p lines rules.limit) (generator_of seed)
    (play p lines rules) taken bounds few asked (taken_drawn seed s t taken bounds begins grown) in
    record { rest = first.0; whole = first.1; ended = λ n h. absurd h; outside = λ k n h. absurd h }

-- whatever answers are drawn from the seed, it goes by them
pub goes_by_drawn : RunLaws → SeededLaws → (seed : ℕ) (s t : SeededAnswers) (p : StoredProgram) (rules : Rules)
    → s ≡ record { first = generator_of seed; bounds = [] }
    → (answers : List (List ℕ) → Answers)
    → ((lines : List (List ℕ)) → IsDrawn seed (play p lines rules) (answers lines))
    → GoesBy RefusedForMemory (seeded_choices s) (seeded_choices t) answers p rules
goes_by_drawn laws seeded seed s t p rules begins answers drawn lines taken bounds asked grown =
    subst (IsLed RefusedForMemory taken) (sym (seeded.only seed p lines rules (answers lines) (drawn lines)))
    (goes_by_seed laws seed s t p rules begins lines taken bounds asked grown)
