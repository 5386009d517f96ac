-- This file proves goals of `choose` by short searches, so that a planted bug is refused soon.
use Rattle.std.proofs.Common.{FitsSigned, arith, get_or, of_z, pos, refl, rules, to_z, w16}
use Rattle.std.proofs.lemmas.Grind.{common_steps}
use Rattle.ptb_answers.proofs.Refusals.{next_is, too_high, too_low}
use Rattle.ptb_answers.proofs.chooser.ListedChooser.choose.Goals as goal
use Rattle.ptb_answers.proofs.chooser.ListedChooser.choose.Goals.{then-answer-lt1-via-then-answer-lt1}
use Rattle.ptb_answers.proofs.chooser.ListedChooser.choose.Goals.{then-answer-lt1-via-else-answer-lt1+then-answer-bound}

pub returns-then-self-clause-refused : goal.returns-then-self-clause-refused
returns-then-self-clause-refused c = search rules fits 50 depth 2

pub returns-clause-answer : goal.returns-clause-answer
returns-clause-answer c = search rules fits 50 depth 2

pub returns-clause-grown : goal.returns-clause-grown
returns-clause-grown c = grind (arith, common_steps)

pub bounds-self-inside-self-inside : goal.bounds-self-inside-self-inside
bounds-self-inside-self-inside c = omega arith

pub returns-then-self-clause-same : goal.returns-then-self-clause-same
returns-then-self-clause-same c = refl

pub returns-then-answer-lt1-clause-same : goal.returns-then-answer-lt1-clause-same
returns-then-answer-lt1-clause-same c = refl

pub returns-then-answer-lt1-clause-outside : goal.returns-then-answer-lt1-clause-outside
returns-then-answer-lt1-clause-outside c =
    let answer = to_z w16 (of_z w16 (get_or c.self.inside.answers.now c.self.inside.given (pos 0))) in
    elim c.then-answer-lt1.branch [
      | then-answer-lt1-via-then-answer-lt1 w ↦ too_low c.args.bound answer w.if-answer-lt1.true
      | then-answer-lt1-via-else-answer-lt1+then-answer-bound w ↦
          too_high c.args.bound answer c.ranges.bound w.if-answer-bound.true
    ]

pub returns-then-answer-lt1-clause-refused : goal.returns-then-answer-lt1-clause-refused
returns-then-answer-lt1-clause-refused c =
    let fits : FitsSigned w16 (get_or c.self.inside.answers.now c.self.inside.given (pos 0)) = search rules in (
      next_is c.args.self.now c.self.inside.answers.now c.self.inside.given c.self.view_is (omega arith) fits,
      returns-then-answer-lt1-clause-outside c,
    )
