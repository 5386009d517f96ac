-- This file answers what is left to prove of `step_result`.
use Rattle.std.proofs.Common.{◌≡◌, ◌∙◌, ap, refl, ℕ, List, Some, Ok, Err, rules, to_z, of_z, w16}
use Rattle.std.specs.Prelude.{slice_get, unsigned_abs}
use Rattle.std.proofs.lemmas.Result.{err_from_is_err_and}
use Rattle.ptb_command.specs.CommandIo.{io_devices}
use Rattle.ptb_machine.proofs.Results.{result_done, result_stopped, result_reported}
use Rattle.ptb_machine.proofs.stop_result.step_result.Given as given
use Rattle.ptb_machine.proofs.stop_result.step_result.Goals as goal
use Rattle.ptb_machine.proofs.stop_result.step_result.Goals.{After-unsigned_abs}

-- the number and the text of the statement
line_told : (g : given.Over) (c : goal.After-unsigned_abs g) (n : ℕ) (text : List ℕ)
    → slice_get c.args.program.now.lines c.args.statement ≡ Some (n, text)
    → (c.unsigned_abs.result ≡ n) × (c.line_at-number.result.1.now ≡ text)
line_told g c n text at =
    let same : to_z w16 (of_z w16 c.line_at-number.result.0) ≡ c.line_at-number.result.0 = search rules in
    let line = c.line_at-number.ensures.there n text at in
    (c.unsigned_abs.ensures.value ∙ ap unsigned_abs (same ∙ line.0), line.1)

pub returns-in_default : goal.returns-in_default
returns-in_default g c = record {
  comes = λ given cells n text at. result_done _ _ _ _ _ c.in_default.is;
  chooser = refl;
  same = record { chooser = refl; screen = refl; source = refl; rules = refl };
}

pub returns-in_err-reported-in-Fault : goal.returns-in_err-reported-in-Fault
returns-in_err-reported-in-Fault g c = record {
  comes = λ given cells n text at.
      let line = line_told g (goal.at.returns-in_err-reported-in-Fault g c).After-unsigned_abs n text at in
      let result = err_from_is_err_and _ c.from_residual.ensures.1 in
      result_reported _ _ n text c.in-Fault.fault c.args.done _ (Err c.in_err-reported-in-Fault.field-0.0)
      (c.in-Err.is ∙ ap Err c.in-Fault.is) (result.1 ∙ ap Err result.2)
      (rw (line.0, line.1) at (c.in_err-reported-in-Fault.ensures
      (io_devices g.C.Chooser.choices g.S.Screen g.L.LineSource.most c.args.io.now given) cells));
  chooser = refl;
  same = record { chooser = refl; screen = refl; source = refl; rules = refl };
}

pub returns-in_ok-reported-in-Fault : goal.returns-in_ok-reported-in-Fault
returns-in_ok-reported-in-Fault g c = record {
  comes = λ given cells n text at.
      let line = line_told g (goal.at.returns-in_ok-reported-in-Fault g c).After-unsigned_abs n text at in
      result_reported _ _ n text c.in-Fault.fault c.args.done _ (Ok tt)
      (c.in-Err.is ∙ ap Err c.in-Fault.is)
      (ap (λ e. Ok (Some e)) c.ending_of.ensures)
      (rw (line.0, line.1) at (c.in_ok-reported-in-Fault.ensures
      (io_devices g.C.Chooser.choices g.S.Screen g.L.LineSource.most c.args.io.now given) cells));
  chooser = refl;
  same = record { chooser = refl; screen = refl; source = refl; rules = refl };
}

pub returns-in_default-stop : goal.returns-in_default-stop
returns-in_default-stop g c = record {
  comes = λ given cells n text at.
      result_stopped _ _ _ _ c.in-Err.stop _ c.in_default-stop.not-Fault c.result_of_stop.ensures c.in-Err.is;
  chooser = refl;
  same = record { chooser = refl; screen = refl; source = refl; rules = refl };
}
