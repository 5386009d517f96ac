-- This file answers what is left to prove of `PendingOutput::append_ends`.
use Rattle.std.proofs.Common.{◌∙◌, ◌+◌, ◌-◌, ◌++◌, ℕ, List, ap, arith, drop, length, take}
use Rattle.ptb_command.proofs.ShownBytes.{ends_joined}
use Rattle.ptb_command.proofs.pending_output.PendingOutput.append_ends.Goals as goal

pub returns : goal.returns
returns c =
    let bytes = c.args.bytes.now in
    let last = length bytes - c.args.size in
    let rest = take (length bytes - last) (drop last bytes) in
    rw (← c.self.view_is)
    (c.append-2.ensures
    ∙ ap (λ (x : List ℕ). x ++ rest) (c.cut.ensures
    ∙ ap (λ (n : ℕ). take (n + last) c.append.new.self) c.len.ensures.value
    ∙ ap (λ (x : List ℕ). take (length c.self.inside.buffer + last) x) c.append.ensures)
    ∙ ends_joined c.self.inside.buffer bytes c.args.size last (omega (arith, c.requires.blocks.1)))
