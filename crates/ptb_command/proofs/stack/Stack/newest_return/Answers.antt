-- This file answers that the last item is the newest.
use Rattle.std.proofs.Common.{List, [], ◌∷◌, ap, sym, ◌∙◌, reverse}
use Rattle.ptb_command.specs.declared.stack.Open.{Open}
use Rattle.ptb_command.specs.Stacks.{newest_return}
use Rattle.ptb_command.proofs.NewestOpens.{return_last}
use Rattle.ptb_command.proofs.stack.Stack.newest_return.Goals as goal

pub returns-in-Loop : goal.returns-in-Loop
returns-in-Loop c =
    sym (return_last c.as_slice.result.now c.args.self.now c.in_ok-newest.newest.now (sym c.in_ok-newest.ensures.value)
    (ap (λ (xs : List Open). reverse xs) c.as_slice.ensures.value ∙ c.self.view_is)
    ∙ ap (λ (o : Open). newest_return (o ∷ [])) c.in-Loop.is)

pub returns-in-Call : goal.returns-in-Call
returns-in-Call c =
    sym (return_last c.as_slice.result.now c.args.self.now c.in_ok-newest.newest.now (sym c.in_ok-newest.ensures.value)
    (ap (λ (xs : List Open). reverse xs) c.as_slice.ensures.value ∙ c.self.view_is)
    ∙ ap (λ (o : Open). newest_return (o ∷ [])) c.in-Call.is)
