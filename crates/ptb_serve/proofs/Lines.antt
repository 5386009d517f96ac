-- This file proves which line is said of a run that the limit stopped.
-- Main lemma: `run_line`.
use Rattle.std.proofs.Common.{◌≡◌, ◌∙◌, ℕ, List, Option, Some, None, Result, Ok, Err, IfOk, refl, ap, sym, subst, arith}
use Rattle.ptb_text.specs.Lines.{input_lines}
use Rattle.ptb_text.specs.ProgramTexts.{IsLoaded}
use Rattle.ptb_text.specs.Statements.{StoredProgram}
use Rattle.ptb_answers.specs.Outcome.{Answers}
use Rattle.ptb_command.specs.declared.ending.Ending.{Ending}
use Rattle.ptb_command.specs.declared.ending.Ending.TheVariants as endings
use Rattle.ptb_machine.specs.Play.{status, stopping_line}
use Rattle.ptb_machine.specs.Runs.{ending_alone}
use Rattle.ptb_machine.specs.declared.fault.RunFault.{RunFault}
use Rattle.ptb_machine.specs.declared.fault.RunFault.TheVariants as faults
use Rattle.ptb_machine.specs.declared.run_end.RunEnd.{RunEnd}
use Rattle.ptb_options.specs.declared.request.Mode.{Mode}
use Rattle.ptb_options.specs.declared.request.Request.{Request}
use Rattle.ptb_machine.specs.PlainRuns.{HasLine}
use Rattle.ptb_machine.specs.Streams.{Reads}
use Rattle.ptb_serve.specs.declared.note.Note.{Note}
use Rattle.ptb_serve.specs.declared.note.Note.TheVariants as notes
use Rattle.ptb_serve.specs.LoadedPrograms.{IsRunStatus, ReportsLine, line_in_mode, end_line}
use Rattle.ptb_serve.specs.Replies.{program_of_text}
use Rattle.ptb_serve.specs.ServedRequests.{IsInput, outcome_of}
use Rattle.ptb_serve.specs.Statuses.{note_status}
use Rattle.ptb_serve.proofs.ServedPrograms.{at_known, program_of_text-ok}

-- ---- a status that is that of the limit

limit_alone : (ending : Ending) → status ending ≡ 4 → ending ≡ endings.Limit
limit_alone endings.End e = absurd (omega (arith, e))
limit_alone endings.Stop e = absurd (omega (arith, e))
limit_alone endings.What e = absurd (omega (arith, e))
limit_alone endings.How e = absurd (omega (arith, e))
limit_alone endings.Sorry e = absurd (omega (arith, e))
limit_alone endings.Limit e = refl
limit_alone endings.NoInput e = absurd (omega (arith, e))
limit_alone endings.NoAnswer e = absurd (omega (arith, e))
limit_alone endings.BadAnswer e = absurd (omega (arith, e))

-- no note has it
pub note_beyond : (note : Note) → note_status note ≡ 4 → ⊥
note_beyond (notes.Load line fault) e = omega (arith, e)
note_beyond notes.ProgramUnread e = omega (arith, e)
note_beyond notes.InputUnread e = omega (arith, e)
note_beyond notes.NoBeginning e = omega (arith, e)
note_beyond notes.NoRun e = omega (arith, e)
note_beyond notes.OutOfMemory e = omega (arith, e)
note_beyond notes.Unwritten e = omega (arith, e)

pub served_at_limit : (result : Result ℕ Note) → (outcome_of result).status ≡ 4 → result ≡ Ok 4
served_at_limit (Ok n) e = ap Ok e
served_at_limit (Err note) e = absurd (note_beyond note e)

pub status_at_limit : (result : Result ℕ Note) → result ≡ Ok 4 → (outcome_of result).status ≡ 4
status_at_limit result e = ap (λ (r : Result ℕ Note). (outcome_of r).status) e

-- ---- runs

-- a run that a fault has ended isn't stopped by the limit
fault_beyond : (fault : RunFault) (result : Result ℕ Note) → IsRunStatus (Err fault) result → result ≡ Ok 4 → ⊥
fault_beyond faults.Memory result h e = let clash : Err notes.OutOfMemory ≡ Ok 4 = sym h ∙ e in cc
fault_beyond faults.Read result h e = let clash : Err notes.InputUnread ≡ Ok 4 = sym h ∙ e in cc
fault_beyond faults.Write result h e = let clash : Err notes.Unwritten ≡ Ok 4 = sym h ∙ e in cc
fault_beyond faults.Spent result h e = absurd h

ok_status : (n m : ℕ) (result : Result ℕ Note) → result ≡ Ok n → result ≡ Ok m → n ≡ m
ok_status n m result e h = let same : Ok n ≡ Ok m = sym e ∙ h in cc

module _ {R : Type 0} (mode : Mode) (request : Request) (p : StoredProgram) (answers : List (List ℕ)
    → Answers) (input : Reads R)
    (known : (c : List ℕ) → IsInput mode input.bytes c → input.bytes ≡ Some c)
    (same : (lines : List (List ℕ)) → stopping_line p lines request.rules (answers lines)
    ≡ line_in_mode mode p lines request.rules) where
  pub run_line : (ended : Result RunEnd RunFault) (result : Result ℕ Note) → IsRunStatus (ending_alone ended) result
      → IfOk ended (HasLine p request.rules answers input)
      → ReportsLine mode request p input.bytes result (end_line ended)
  run_line (Ok end) result h line = record {
    at_limit = λ e c is.
        at_known (λ d. end.line ≡ stopping_line p (input_lines d) request.rules (answers (input_lines d))) c
        (known c is)
        (line.at_limit (limit_alone end.ending (ok_status (status end.ending) 4 result h e)))
        ∙ same (input_lines c);
    elsewhere = λ other. line.elsewhere (λ limit. other (h ∙ ap (λ (x : Ending). Ok (status x)) limit));
  }
  run_line (Err fault) result h line =
      record { at_limit = λ e c is. absurd (fault_beyond fault result h e); elsewhere = λ _. refl }

-- ---- other modes have none

pub none_stopped : (mode : Mode) (request : Request) (p : StoredProgram) (known : Option (List ℕ))
    (result : Result ℕ Note)
    → ((lines : List (List ℕ)) → line_in_mode mode p lines request.rules ≡ None)
    → ReportsLine mode request p known result None
none_stopped mode request p known result none =
    record { at_limit = λ e c is. sym (none (input_lines c)); elsewhere = λ _. refl }

-- ---- for a program that was loaded

pub line_loaded : (mode : Mode) (request : Request) (b : List ℕ) (lines : List (List ℕ)) (p : StoredProgram)
    (line : Option ℕ)
    → IsLoaded request.memory b p.lines → p.memory ≡ request.memory
    → line ≡ line_in_mode mode p lines request.rules
    → IfOk (program_of_text request.memory b)
    (λ q. line ≡ line_in_mode mode (record { lines = q; memory = request.memory }) lines request.rules)
line_loaded mode request b lines p line h e is =
    let stored : record { lines = p.lines; memory = request.memory } ≡ p = ap (λ m. record p { memory = m }) (sym e) in
    rw (program_of_text-ok request.memory b p.lines h)
    (subst (λ q. line ≡ line_in_mode mode q lines request.rules) (sym stored) is)
