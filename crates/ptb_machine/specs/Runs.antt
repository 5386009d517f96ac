-- A run is the play of the definition (`Runs`): its ending, the bytes that it shows, the answers that it
-- takes and the lines that it asks for are those of `play`, whatever lines follow those that the
-- source gave. Where a device refused something, a prefix of that play was done.
-- Main definition: `IsCompleteRun`.
--     IsCompleteRun .. p rules o n r          all that a run promises: with devices o, then n, it has the result r
--     Runs refused p rules o n r      the same, by what the devices hold
--     choosing rules choose range     the rules with another bound of INPUT
--     run_miss r                      whether the result reports that a line was asked for without success
--     IsRunToEnd .. p rules o n r     a run whose result has the line of its end
--     IsLineOf p rules o n end        that line is the one at which the limit stopped the run
--     StopsAt p rules input o n line  the play has stopped there
--     ending_alone r                  the result of a run, without the line of its end
use Rattle.std.specs.Prelude.{◌≡◌, ◌≤ℤ◌, ℕ, ℤ, pos, List, [], ◌++◌, Result, Ok, Err, IfOk, IfSome, Option, Some, None}
use Rattle.ptb_text.specs.Statements.{StoredProgram}
use Rattle.ptb_answers.specs.declared.chooser.Chooser as choosers
use Rattle.ptb_answers.specs.declared.rules.Rules.{Rules}
use Rattle.ptb_answers.specs.Outcome.{Answers, Outcome}
use Rattle.ptb_devices.specs.declared.lines.LineSource as sources
use Rattle.ptb_devices.specs.declared.screen.Screen as screens
use Rattle.ptb_command.specs.declared.ending.Ending.{Ending}
use Rattle.ptb_command.specs.declared.ending.Ending.TheVariants as endings
use Rattle.ptb_command.specs.Devices.{Devices, Exchange, MayFollow, Refusal}
use Rattle.ptb_command.specs.Stops.{Miss, ReportsMissed}
use Rattle.ptb_machine.specs.declared.fault.RunFault.{RunFault}
use Rattle.ptb_machine.specs.declared.run_end.RunEnd.{RunEnd}
use Rattle.ptb_machine.specs.Play.{Finish, stopping_line}
use Rattle.ptb_machine.specs.PlayResults.{Plays, RunComes}
use Rattle.ptb_machine.specs.RunDevices.{RunDevices, held, refusals}
use Rattle.ptb_machine.specs.Steps.{step_miss}

-- o is to have no lines given
abbrev pub Runs : (Refusal → Type 0) → StoredProgram → Rules → Devices → Devices → Result Ending RunFault → Type 0
Runs refused p rules o n r =
    (rest : List (List ℕ)) → MayFollow n rest rules.choose → RunComes refused p rules rest o n r

-- the same rules, by which INPUT asks for an answer with this bound where no line is left, if there is one
abbrev pub choosing : Rules → (choose : Option ℤ) → IfSome choose (λ n. pos 1 ≤ℤ n) → Rules
choosing rules choose range = record rules { choose = choose; in_range = range }

-- that of its last step
abbrev pub run_miss : Result Ending RunFault → Miss
run_miss (Ok ending) = step_miss (Ok (Some ending))
run_miss (Err fault) = step_miss (Err fault)

pub record IsCompleteRun {C S L : Type 0} (chooser : choosers.Ghosts C) (screen : screens.Ghosts S)
    (source : sources.Ghosts L) (p : StoredProgram) (rules : Rules) (o n : RunDevices C S L)
    (r : Result Ending RunFault) : Type 0 where
  -- the lines that the source gave
  pub given : List (List ℕ)
  pub gives : source.gives o.source given n.source
  -- whichever bound it is, as long as the source can give more lines
  pub runs :
      (choose : Option ℤ) (range : IfSome choose (λ n. pos 1 ≤ℤ n))
      → Runs (refusals chooser screen source n) p (choosing rules choose range)
      (held chooser screen source rules o []) (held chooser screen source rules n given) r
  pub missed : ReportsMissed source rules.choose o.source n.source (run_miss r)

-- ---- the line of an end

abbrev pub ending_alone : Result RunEnd RunFault → Result Ending RunFault
ending_alone (Ok end) = Ok end.ending
ending_alone (Err fault) = Err fault

-- whatever answers follow those that it took
pub record StopsAt (p : StoredProgram) (rules : Rules) (input : List (List ℕ)) (o n : Devices)
    (line : Option ℕ) : Type 0 where
  pub exchange : Exchange
  pub left : Answers → Outcome Finish (List ℕ)
  pub plays : Plays p rules input o n exchange left
  pub stops : (a : Answers) → line ≡ stopping_line p input rules (exchange.answers ++ a)

-- no other ending has a line
pub record IsLineOf (p : StoredProgram) (rules : Rules) (o n : Devices) (end : RunEnd) : Type 0 where
  pub at_limit : end.ending ≡ endings.Limit → (rest : List (List ℕ)) → MayFollow n rest rules.choose
      → StopsAt p rules (n.given ++ rest) o n end.line
  pub elsewhere : ¬ (end.ending ≡ endings.Limit) → end.line ≡ None

pub record IsRunToEnd {C S L : Type 0} (chooser : choosers.Ghosts C) (screen : screens.Ghosts S)
    (source : sources.Ghosts L) (p : StoredProgram) (rules : Rules) (o n : RunDevices C S L)
    (r : Result RunEnd RunFault) : Type 0 where
  pub run : IsCompleteRun chooser screen source p rules o n (ending_alone r)
  pub line : IfOk r
      (IsLineOf p rules (held chooser screen source rules o []) (held chooser screen source rules n run.given))
