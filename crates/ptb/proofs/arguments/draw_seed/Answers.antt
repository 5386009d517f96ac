-- This file answers what is left to prove of `draw_seed`.
use Rattle.std.specs.Prelude.{◌≡◌, true, is_some, codes}
use Rattle.std.proofs.Common.{refl, sym, ◌∙◌, rules}
use Rattle.ptb_options.specs.Options.{entries_of, options_of}
use Rattle.ptb_options.proofs.PublicLemmas.{first_of-get_str}
use Rattle.ptb.specs.Exits.{is_answered}
use Rattle.ptb.proofs.Seeds.{no_seed_for_answers, no_seed_for_input, no_seed_for_output, same_presence, seed_for_none}
use Rattle.ptb.proofs.arguments.draw_seed.Goals as goal

pub returns-then-not-terminals-clause-draws : goal.returns-then-not-terminals-clause-draws
returns-then-not-terminals-clause-draws g c = elim c.then-not-terminals.branch [
  | goal.then-not-terminals-via-then-not-terminals w ↦
      no_seed_for_input c.args.console.now.terminals.input c.args.console.now.terminals.output
      (is_some (options_of (entries_of c.args.matches.now)).answers) (is_answered c.args.mode.now) (search rules)
  | goal.then-not-terminals-via-else-not-terminals+then-not-terminals-2 w ↦
      no_seed_for_output c.args.console.now.terminals.input _ _ _ (search rules)
  | goal.then-not-terminals-via-else-not-terminals+else-not-terminals-2+then-is_some w ↦
      let found = same_presence _ w.get_str.result _
      (first_of-get_str c.args.matches.now (codes "answers") w.get_str.result w.get_str.ensures) in
      no_seed_for_answers c.args.console.now.terminals.input c.args.console.now.terminals.output _ _
      (sym (w.if-is_some.ensures ∙ found))
]

pub returns-in-Plain-clause-draws : goal.returns-in-Plain-clause-draws
returns-in-Plain-clause-draws g c =
    let found = same_presence _ c.get_str.result _
    (first_of-get_str c.args.matches.now (codes "answers") c.get_str.result c.get_str.ensures) in
    let answered : is_answered c.args.mode.now ≡ true = rw c.in-Plain.is refl in
    seed_for_none c.args.console.now.terminals.input c.args.console.now.terminals.output _ _ (search rules)
    (search rules) (sym (c.if-is_some.ensures ∙ found)) answered
