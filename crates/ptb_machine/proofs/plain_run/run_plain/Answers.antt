-- This file answers that a run with a list of answers is the same without the line of its end.
use Rattle.std.proofs.Common.{Err, ap, ◌∙◌}
use Rattle.std.proofs.lemmas.Result.{err_from_is_err_and}
use Rattle.ptb_machine.proofs.plain_run.run_plain.Goals as goal

pub returns-in_err-end : goal.returns-in_err-end
returns-in_err-end g c =
    let run = c.in_err-end.ensures in
    let same = err_from_is_err_and c.from_residual.result c.from_residual.ensures.1 in
    rw (same.1 ∙ ap Err same.2) (record { plays = run.plays; memory = run.memory; reads = run.reads })

pub returns : goal.returns
returns g c = let run = c.in_ok-end.ensures in record { plays = run.plays; memory = run.memory; reads = run.reads }
