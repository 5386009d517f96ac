-- This file answers the goals of the loops that end where an older one is the newest again.
use Rattle.std.proofs.Common.{◌+◌, List, ap, sym, ◌∙◌, reverse, take}
use Rattle.ptb_command.specs.declared.stack.Open.{Open}
use Rattle.ptb_command.specs.declared.stack.Open.TheVariants as opens
use Rattle.ptb_command.specs.Stacks.{loop_of}
use Rattle.ptb_command.proofs.FoundLoops.{reverse_push}
use Rattle.ptb_command.proofs.stack.Stack.close_above.Goals as goal

pub returns : goal.returns
returns c =
    let below = take c.in-Some.below c.as_slice.result.now in (
      c.in-Some.field-0-1,
      (
        reverse below,
        sym (ap (loop_of c.args.letter) (ap (λ (xs : List Open). reverse xs) c.as_slice.ensures.value ∙ c.self.view_is))
            ∙ c.in-Some.ensures.found,
        ap (λ (xs : List Open). reverse xs)
            (c.truncate.ensures.items ∙ ap (λ (xs : List Open). take (c.in-Some.below + 1) xs)
            (sym c.as_slice.ensures.value) ∙ c.in-Some.ensures.there)
            ∙ reverse_push below (opens.Loop c.in-Some.field-0-1),
      ),
    )
