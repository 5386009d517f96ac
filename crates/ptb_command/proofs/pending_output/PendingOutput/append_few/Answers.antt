-- This file answers what is left to prove of `PendingOutput::append_few`.
use Rattle.std.proofs.Common.{◌∙◌, ◌+◌, ℕ, List, ap, length, take}
use Rattle.ptb_command.proofs.ShownBytes.{few_kept}
use Rattle.ptb_command.proofs.pending_output.PendingOutput.append_few.Goals as goal

pub returns : goal.returns
returns c =
    rw (← c.self.view_is)
    (c.cut.ensures
    ∙ ap (λ (n : ℕ). take (n + c.args.count) c.append.new.self) c.len.ensures.value
    ∙ ap (λ (x : List ℕ). take (length c.self.inside.buffer + c.args.count) x) c.append.ensures
    ∙ few_kept c.self.inside.buffer c.args.bytes.now c.args.from c.args.count c.requires.few)
