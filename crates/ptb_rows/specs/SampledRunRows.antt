-- This file has worked rows of samples: of the runs that a seed draws, one after the other. The words of the
-- generators are those of the reference implementation of PCG32.
-- Main definition: `SampledRunRows`.
--     SampledRunRows     the rows
use Rattle.std.specs.Prelude.{◌≡◌, ℕ, [], ◌∷◌, codes}
use Rattle.rand_pcg.specs.Pcg.{pcg32}
use Rattle.ptb_answers.specs.Seeds.{generator_after, generator_of}
use Rattle.ptb_answers.specs.DrawnAnswers.{sampled_runs}
use Rattle.ptb_rows.specs.ExpressionRows.{worth}
use Rattle.ptb_rows.specs.TreeRows.{one, two}

pub record SampledRunRows : Type 0 where
  -- the first words of a seed
  pub first_word : (pcg32 (generator_of 7)).0 ≡ 2215483850
  pub second_word : (pcg32 (generator_after (generator_of 7) 1)).0 ≡ 315054046
  pub fifth_word : (pcg32 (generator_after (generator_of 7) 4)).0 ≡ 1808639637
  -- one answer a run: 1 more than the first words modulo 6
  pub rolls : sampled_runs 1 (worth (codes "RND(6)")) (generator_of 7) 3 ≡ one 3 ∷ one 5 ∷ one 5 ∷ []
  pub one_roll : sampled_runs 1 (worth (codes "RND(6)")) (generator_of 7) 1 ≡ one 3 ∷ []
  pub no_run : sampled_runs 1 (worth (codes "RND(6)")) (generator_of 7) 0 ≡ []
  pub least_seed : sampled_runs 1 (worth (codes "RND(6)")) (generator_of 0) 4 ≡ one 6 ∷ one 6 ∷ one 3 ∷ one 6 ∷ []
  pub greatest_seed : sampled_runs 1 (worth (codes "RND(6)"))
      (generator_of 4294967295) 4 ≡ one 4 ∷ one 2 ∷ one 5 ∷ one 5 ∷ []
  -- a run without a question uses no word
  pub no_question : sampled_runs 0 (worth (codes "7")) (generator_of 7) 2 ≡ [] ∷ [] ∷ []
  -- two answers a run: the second run has the third word and the fourth
  pub two_rolls : sampled_runs 2 (worth (codes "RND(6)*RND(100)")) (generator_of 7) 2 ≡ two 3 47 ∷ two 5 32 ∷ []
  -- runs with one answer, and with two
  pub fewer_and_more : sampled_runs 2 (worth (codes "RND(RND(2)-1)"))
      (generator_of 7) 5 ≡ one 1 ∷ one 1 ∷ one 1 ∷ two 2 1 ∷ two 2 1 ∷ []
