-- This file answers that at the beginning, all runs are left to be played.
use Rattle.std.proofs.Common.{◌≡◌, List, [], ◌∷◌, ap, refl}
use Rattle.ptb_devices.specs.Sources.{LineList}
use Rattle.ptb_machine.specs.Questions.{most_answers}
use Rattle.ptb_chances.specs.WaitingPlays.{Accounted, first_waiting}
use Rattle.ptb_chances.proofs.SettledPlays.{accounted_first}
use Rattle.ptb_chances.proofs.count.Count.start.Goals as goal

pub returns-clause-counted : goal.returns-clause-counted
returns-clause-counted c =
    let p = c.args.program.now in
    let input = c.args.lines.now in
    let by = c.args.rules in
    let most = most_answers p input by.limit in
    let x = c.in_ok-work.ensures in
    let same : c.in_ok-player.player ≡ p = c.in_ok-player.ensures in
    let first : Accounted p input by most [] (first_waiting x.0 ∷ []) = accounted_first p input by most x.0 x.2.unspent
    (rw same at (x.2.represents input by.choose)) (c.run_laws.ensures.reads p input by) in
    rw (same, ap (λ (s : LineList). s.lines) c.new-3.ensures, c.new-5.ensures, x.1) first
