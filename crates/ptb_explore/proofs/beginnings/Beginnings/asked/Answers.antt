-- This file answers that a search has the bounds of the answers at which it is.
use Rattle.std.proofs.Common.{◌∙◌, ap, refl}
use Rattle.ptb_answers.specs.AskedQuestions.{answers_in, bounds_in}
use Rattle.ptb_explore.proofs.WrittenLines.{bounds_of_search}
use Rattle.ptb_explore.proofs.beginnings.Beginnings.asked.Goals as goal

pub returns-clause-bounds : goal.returns-clause-bounds
returns-clause-bounds c = λ u at.
    ap bounds_in c.deref.ensures.value ∙ bounds_of_search c.run_laws.ensures c.args.self.now _
    c.self.view_is c.self.inside.position (answers_in c.self.inside.runner.report.asked.items) u
    (bounds_in c.self.inside.runner.report.asked.items) c.self.invariant.0 refl at
