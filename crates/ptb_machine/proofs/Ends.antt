-- This file proves that a run has the line of its end.
-- Main lemmas: `end_over` and `end_broken`.
use Rattle.std.proofs.Common.{◌≡◌, [], Ok, Err, Result, ap, sym, subst, ◌∙◌}
use Rattle.std.specs.Result.{IsErrAnd}
use Rattle.std.proofs.lemmas.Result.{err_from_is_err_and}
use Rattle.ptb_text.specs.Statements.{StoredProgram}
use Rattle.ptb_answers.specs.declared.chooser.Chooser as choosers
use Rattle.ptb_answers.specs.declared.rules.Rules.{Rules}
use Rattle.ptb_devices.specs.declared.lines.LineSource as sources
use Rattle.ptb_devices.specs.declared.screen.Screen as screens
use Rattle.ptb_command.specs.declared.ending.Ending.{Ending}
use Rattle.ptb_machine.specs.declared.fault.RunFault.{RunFault}
use Rattle.ptb_machine.specs.declared.run_end.RunEnd.{RunEnd}
use Rattle.ptb_command.specs.Stops.{ReportsMissed}
use Rattle.ptb_machine.specs.RunDevices.{RunDevices, held, refusals}
use Rattle.ptb_machine.specs.Runs.{IsLineOf, IsCompleteRun, IsRunToEnd, Runs, choosing, run_miss}

module _ {C S L : Type 0} (chooser : choosers.Ghosts C) (screen : screens.Ghosts S) (source : sources.Ghosts L)
    (p : StoredProgram) (rules : Rules) (o n : RunDevices C S L) where
  -- a run that is over
  pub end_over : (end : RunEnd) (ending : Ending) → end.ending ≡ ending
      → (run : IsCompleteRun chooser screen source p rules o n (Ok ending))
      → IsLineOf p rules (held chooser screen source rules o []) (held chooser screen source rules n run.given) end
      → IsRunToEnd chooser screen source p rules o n (Ok end)
  end_over end ending e run line = record {
    run = record {
      given = run.given;
      gives = run.gives;
      runs = λ choose range. subst (λ (x : Ending). Runs (refusals chooser screen source n) p
          (choosing rules choose range) (held chooser screen source rules o [])
          (held chooser screen source rules n run.given) (Ok x)) (sym e) (run.runs choose range);
      missed = subst (λ (x : Ending). ReportsMissed source rules.choose o.source n.source (run_miss (Ok x)))
          (sym e) run.missed;
    };
    line = line;
  }

  -- a run that a fault has ended has no line
  pub end_broken : (r : Result RunEnd RunFault) (fault : RunFault) → IsErrAnd r (λ y. y ≡ fault)
      → IsCompleteRun chooser screen source p rules o n (Err fault) → IsRunToEnd chooser screen source p rules o n r
  end_broken r fault k run =
      let q = err_from_is_err_and r k in
      subst (IsRunToEnd chooser screen source p rules o n) (sym (q.1 ∙ ap Err q.2)) (record { run = run; line = tt })

  -- a fault without the line
  pub run_broken : (r : Result Ending RunFault) (fault : RunFault) → IsErrAnd r (λ y. y ≡ fault)
      → IsRunToEnd chooser screen source p rules o n (Err fault) → IsCompleteRun chooser screen source p rules o n r
  run_broken r fault k end =
      let q = err_from_is_err_and r k in
      subst (IsCompleteRun chooser screen source p rules o n) (sym (q.1 ∙ ap Err q.2)) end.run
