-- This file answers that an answer is the next that is drawn from the seed.
use Rattle.ptb_answers.proofs.NextDrawnAnswers.{drawn_is_answer, drawn_next, grown_by_next}
use Rattle.std.proofs.Common.{◌∙◌}
use Rattle.ptb_answers.proofs.seeded.SeededChooser.choose.Goals as goal

pub invariant_of-self-2 : goal.invariant_of-self-2
invariant_of-self-2 c =
    drawn_next c.self.inside.first c.self.inside.asked.items c.self.inside.generator c.self.invariant c.args.bound
    c.ranges.bound c.push.result c.push.new.self.items c.push.ensures.items c.if-is_err.ensures.negation
    c.next_word.result c.next_word.new.self c.next_word.ensures c.drawn_answer-answer.result
    (record { sfits = c.drawn_answer-answer.type_inv }) c.drawn_answer-answer.ensures c.len-last.result
    (c.len-last.ensures ∙ c.push.new.self.ok.0)

pub returns-clause-grown : goal.returns-clause-grown
returns-clause-grown c =
    grown_by_next c.self.inside.first c.self.inside.asked.items c.self.inside.generator c.self.invariant c.args.bound
    c.ranges.bound c.push.result c.push.new.self.items c.push.ensures.items c.if-is_err.ensures.negation
    c.next_word.result c.next_word.new.self c.next_word.ensures c.drawn_answer-answer.result
    (record { sfits = c.drawn_answer-answer.type_inv }) c.drawn_answer-answer.ensures c.len-last.result
    (c.len-last.ensures ∙ c.push.new.self.ok.0) c.args.self.now c.self.view_is

pub returns-clause-answer : goal.returns-clause-answer
returns-clause-answer c =
    drawn_is_answer c.args.bound c.requires c.ranges.bound c.next_word.result c.drawn_answer-answer.result
    (record { sfits = c.drawn_answer-answer.type_inv }) c.drawn_answer-answer.ensures
