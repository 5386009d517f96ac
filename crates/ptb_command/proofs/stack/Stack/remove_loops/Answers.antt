-- This file answers the goal of the removal of loops where the level ends.
use Rattle.std.proofs.Common.{List, reverse, take, drop, sym, ap, ◌∙◌, arith}
use Rattle.std.proofs.lemmas.Grind.{common_steps}
use Rattle.std.proofs.lemmas.List.{take-append-drop, reverse-append}
use Rattle.ptb_command.specs.declared.stack.Open.{Open}
use Rattle.ptb_command.proofs.stack.Stack.remove_loops.Goals as goal

pub returns-in_default : goal.returns-in_default
returns-in_default c =
    let s = c.levels.self-inside.opens.items in
    let k = c.levels.k in
    let whole = ap (λ (xs : List Open). reverse xs) (sym (take-append-drop k s))
    ∙ reverse-append (take k s) (drop k s) in
    grind (arith, common_steps)

pub levels-init : goal.levels-init
levels-init c = grind (arith, common_steps)

pub levels-preserved-then-eq : goal.levels-preserved-then-eq
levels-preserved-then-eq c = grind (arith, common_steps)

pub levels-preserved : goal.levels-preserved
levels-preserved c = grind (arith, common_steps)

pub returns-clause-few : goal.returns-clause-few
returns-clause-few c = grind (arith, common_steps)
