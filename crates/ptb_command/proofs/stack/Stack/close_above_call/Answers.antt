-- This file answers the goal of the loops that end where the newest call is the newest of all.
use Rattle.std.proofs.Common.{◌+◌, List, ap, sym, ◌∙◌, reverse, take}
use Rattle.ptb_command.specs.declared.stack.Open.{Open}
use Rattle.ptb_command.specs.declared.stack.Open.TheVariants as opens
use Rattle.ptb_command.specs.Stacks.{call_of}
use Rattle.ptb_command.proofs.FoundLoops.{reverse_push}
use Rattle.ptb_command.proofs.NewestOpens.{call_brought}
use Rattle.ptb_command.proofs.stack.Stack.close_above_call.Goals as goal

pub returns : goal.returns
returns c =
    let below = take c.in-Some.below c.as_slice.result.now in
    call_brought c.args.self.now _ (reverse below) c.in-Some.field-0-1
    (ap (λ (xs : List Open). reverse xs)
    (c.truncate.ensures.items ∙ ap (λ (xs : List Open). take (c.in-Some.below + 1) xs) (sym c.as_slice.ensures.value)
    ∙ c.in-Some.ensures.there)
    ∙ reverse_push below (opens.Call c.in-Some.field-0-1))
    (sym (ap call_of (ap (λ (xs : List Open). reverse xs) c.as_slice.ensures.value ∙ c.self.view_is))
    ∙ c.in-Some.ensures.found)
