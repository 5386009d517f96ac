-- This file defines which answers a seed gives.
-- Main definition: `drawn_from`.
--     generator_of seed            the generator that begins with a seed
--     generator_after g n          the generator g after n words
--     drawn_answer word n          the answer to a question with bound n, by a word of a generator
--     drawn_from g bounds          the answers to questions with these bounds, the first by the next word of g, and so
--                                  on
--     drawn_answers seed bounds    the same by the words of the generator that begins with a seed
--     SeededAnswers                the generator before some answers, and the bounds of the questions that were
--                                  answered by it
use Rattle.std.specs.Prelude.{◌≡◌, ℕ, zero, suc, ◌+◌, ◌%◌, List, [], ◌∷◌, length, Some, ℤ, pos, negsuc}
use Rattle.rand_pcg.specs.Lcg.{Lcg, started, increment_of}
use Rattle.rand_pcg.specs.Pcg.{multiplier_64, pcg32}
use Rattle.ptb_answers.specs.declared.pause.Pause.{Pause}
use Rattle.ptb_answers.specs.declared.pause.Pause.TheVariants.{Ended, OutOfRange, Memory}
use Rattle.ptb_answers.specs.Outcome.{Answers}
use Rattle.ptb_answers.specs.Choices.{Choices}

-- the seed is the state of a new PCG32, on stream 1
abbrev pub generator_of : ℕ → Lcg
generator_of seed = started 64 multiplier_64 seed (increment_of 64 1)

-- the same generator at another state
abbrev pub at_state : Lcg → ℕ → Lcg
at_state g state = record g { state = state }

-- a step of a generator gives a word, and the generator after it
abbrev pub generator_after : Lcg → ℕ → Lcg
generator_after g zero = g
generator_after g (suc n) = generator_after (pcg32 g).1 n

-- 1 more than what is left of the word when it is divided by the bound; a bound below 1 is never asked for
abbrev pub drawn_answer : ℕ → ℤ → ℤ
drawn_answer word (pos n) = pos (1 + word % n)
drawn_answer word (negsuc n) = pos 1

-- one word for each question
abbrev pub drawn_from : Lcg → List ℤ → Answers
drawn_from g [] = []
drawn_from g (n ∷ bounds) = drawn_answer (pcg32 g).0 n ∷ drawn_from (pcg32 g).1 bounds

abbrev pub drawn_answers : ℕ → List ℤ → Answers
drawn_answers seed bounds = drawn_from (generator_of seed) bounds

-- these answers were drawn by the words of `first` for questions with these bounds, and g gives the words that follow
pub record HasDrawn (first : Lcg) (bounds : List ℤ) (answers : Answers) (g : Lcg) : Type 0 where
  pub drawn : answers ≡ drawn_from first bounds
  pub after : g ≡ generator_after first (length bounds)

-- ---- what answers by a seed

pub record SeededAnswers : Type 0 where
  -- the generator before the first of the answers that are kept
  pub first : Lcg
  pub bounds : List ℤ

-- its plan is the generator; what it has answered is drawn for the bounds that it keeps
abbrev pub seeded_choices : SeededAnswers → Choices
seeded_choices s = record {
  plan = pos s.first.state ∷ pos s.first.increment ∷ [];
  taken = drawn_from s.first s.bounds;
  kept = Some s.bounds;
}

-- it refuses an answer for lack of memory alone
abbrev pub RefusedForMemory : Pause → ℤ → Type 0
RefusedForMemory Ended n = ⊥
RefusedForMemory (OutOfRange g) n = ⊥
RefusedForMemory Memory n = Unit {0}
