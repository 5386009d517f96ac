-- This file answers that the answers that were given are those that are drawn.
use Rattle.std.proofs.Common.{◌∙◌, ap, sym}
use Rattle.ptb_answers.specs.AskedQuestions.{answers_in}
use Rattle.ptb_answers.proofs.seeded.Seeded.asked.Goals as goal

pub returns-clause-answers : goal.returns-clause-answers
returns-clause-answers c =
    rw (sym c.self.view_is) (ap answers_in c.as_slice.ensures.value ∙ c.self.invariant.drawn)
