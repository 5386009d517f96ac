-- This file answers what is left to prove of `parse_answers`.
use Rattle.ptb_options.proofs.AnswerTexts.{one_list_of_answers}
use Rattle.ptb_options.proofs.ListReturns.{has_answers}
use Rattle.ptb_options.proofs.answers.parse_answers.Goals as goal

pub returns : goal.returns
returns c =
    let text = c.args.text.now in
    record {
      ok = c.parse_as.ensures.ok;
      bad = λ bad list spells. c.parse_as.ensures.bad bad (list, spells) list spells;
      memory = λ refused.
          let listed = c.parse_as.ensures.memory refused in
          (listed.0.0, listed.0.1, has_answers text listed.0.0 listed.1 listed.0.1);
      fault = c.parse_as.ensures.fault;
      one = one_list_of_answers text;
    }
