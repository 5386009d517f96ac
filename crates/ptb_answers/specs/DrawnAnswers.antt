-- This file defines the runs whose answers are drawn from the words of a generator.
-- Main definition: `sampled_runs`.
--     IsDrawnFrom g f a     a is a run of f, and each of its answers is drawn from the next word of g for the bound of
--                           its question
--     answers_by most g f   what a generator draws for the questions of f, one after the other
--     sampled_runs most f g n   the first n runs that a generator draws, one after the other
use Rattle.std.specs.Prelude.{◌≡◌, true, ℕ, zero, suc, List, [], ◌∷◌, length, ℤ}
use Rattle.rand_pcg.specs.Lcg.{Lcg}
use Rattle.rand_pcg.specs.Pcg.{pcg32}
use Rattle.ptb_answers.specs.Outcome.{Answers, Outcome, Done, Asks, Out, bounds, is_whole}
use Rattle.ptb_answers.specs.Seeds.{drawn_answer, drawn_from, generator_after}

-- ---- one run

-- the answers use up a play, and each is drawn from the next word for the bound of its question
pub record IsDrawnFrom {A W : Type 0} (g : Lcg) (play : Answers → Outcome A W) (a : Answers) : Type 0 where
  pub run : is_whole (play a) ≡ true
  pub drawn : a ≡ drawn_from g (bounds play a)

-- where a question is left open, it is answered
abbrev pub to_question : {A W : Type 0} → (ℤ → Answers) → Outcome A W → Answers
to_question answers (Done x rest) = []
to_question answers (Asks n w) = answers n
to_question answers (Out n w) = []

-- the question that f leaves open is answered by the next word, and so are those that f asks after this answer, at
-- most so many
abbrev pub answers_by : {A W : Type 0} → ℕ → Lcg → (Answers → Outcome A W) → Answers
answers_by zero g f = []
answers_by (suc most) g f =
    to_question
    (λ n. drawn_answer (pcg32 g).0 n ∷ answers_by most (pcg32 g).1 (λ a. f (drawn_answer (pcg32 g).0 n ∷ a))) (f [])

-- ---- one after the other

-- each run has the words that the runs before it left: one word for each answer
abbrev pub sampled_runs : {A W : Type 0} → ℕ → (Answers → Outcome A W) → Lcg → ℕ → List Answers
sampled_runs most play g zero = []
sampled_runs most play g (suc n) =
    answers_by most g play ∷ sampled_runs most play (generator_after g (length (answers_by most g play))) n
