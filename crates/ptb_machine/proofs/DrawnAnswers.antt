-- This file proves that a seed gives the answers of one run, each drawn for the bound of its question, and that no
-- other list is drawn so.
-- Main lemma: `seeded_laws`.
use Rattle.std.proofs.Common.{◌≡◌, ℕ}
use Rattle.ptb_answers.specs.Outcome.{Answers, Outcome, IsReader}
use Rattle.ptb_answers.specs.Seeds.{generator_of}
use Rattle.ptb_answers.specs.DrawnAnswers.{answers_by}
use Rattle.ptb_answers.proofs.PublicLemmas.{answers_by-drawn, drawn_alone}
use Rattle.ptb_machine.specs.Laws.{RunLaws}
use Rattle.ptb_machine.specs.Play.{play}
use Rattle.ptb_machine.specs.Questions.{most_answers}
use Rattle.ptb_machine.specs.SeededRuns.{IsDrawn, SeededLaws}

-- the list by which a run by a seed goes is drawn, and it is the only one
one_is_drawn : {A W : Type 0} (seed most : ℕ) (f : Answers → Outcome A W) → IsReader f most
    → IsDrawn seed f (answers_by most (generator_of seed) f) × ((b : Answers) → IsDrawn seed f b
    → b ≡ answers_by most (generator_of seed) f)
one_is_drawn seed most f reads =
    (answers_by-drawn most (generator_of seed) f reads, λ b d. drawn_alone most (generator_of seed) f b reads d)

pub seeded_laws : RunLaws → SeededLaws
seeded_laws laws = record {
  drawn = λ seed p input rules. (one_is_drawn seed (most_answers p input rules.limit) (play p input rules)
      (laws.reads p input rules)).0;
  only = λ seed p input rules. (one_is_drawn seed (most_answers p input rules.limit) (play p input rules)
      (laws.reads p input rules)).1;
}
