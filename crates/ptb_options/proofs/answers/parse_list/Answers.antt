-- This file answers what is left to prove of `parse_list`.
use Rattle.std.proofs.Common.{subst, sym}
use Rattle.std.proofs.lemmas.List.{map-id}
use Rattle.std.proofs.lemmas.Result.{IfOk-weaker}
use Rattle.ptb_options.specs.AnswerLists.{SpellsList}
use Rattle.ptb_options.proofs.AnswerTexts.{one_list}
use Rattle.ptb_options.proofs.ListReturns.{has_items}
use Rattle.ptb_options.proofs.answers.parse_list.Goals as goal

pub returns : goal.returns
returns c =
    let text = c.args.text.now in
    record {
      ok = IfOk-weaker c.parse_as.result _ _ (λ list. subst (SpellsList text) (map-id list)) c.parse_as.ensures.ok;
      bad = λ bad list spells. c.parse_as.ensures.bad bad (list, spells) list
          (subst (SpellsList text) (sym (map-id list)) spells);
      memory = λ refused.
          let listed = c.parse_as.ensures.memory refused in
          (listed.0.0, listed.0.1, has_items text listed.0.0 listed.1 listed.0.1);
      fault = c.parse_as.ensures.fault;
      one = one_list text;
    }
