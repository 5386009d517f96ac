-- This file joins all that is known of a program that was loaded, by the mode in which it was served.
-- Main lemmas: `served_plain` and `served_all`.
use Rattle.std.proofs.Common.{◌≡◌, ℕ, List, [], Option, None, Result, Ok, Err, IfOk, IsErrOf, ap, sym, subst, ◌∙◌, refl}
use Rattle.std.specs.Io.KnownBytes.{Appends}
use Rattle.ptb_text.specs.Statements.{StoredProgram}
use Rattle.ptb_command.specs.declared.ending.Ending.{Ending}
use Rattle.ptb_answers.specs.Outcome.{Answers}
use Rattle.ptb_answers.specs.declared.form.Form.{Form}
use Rattle.ptb_answers.specs.declared.form.Marked.{Marked}
use Rattle.ptb_machine.specs.declared.fault.RunFault.{RunFault}
use Rattle.ptb_machine.specs.declared.fault.RunFault.TheVariants as faults
use Rattle.ptb_options.specs.declared.request.Mode.{Mode}
use Rattle.ptb_options.specs.declared.request.Mode.TheVariants as modes
use Rattle.ptb_options.specs.declared.request.Request.{Request}
use Rattle.ptb_serve.specs.declared.list_mismatch.ListMismatch.{ListMismatch}
use Rattle.ptb_serve.specs.declared.note.Note.{Note}
use Rattle.ptb_machine.specs.Runs.{ending_alone}
use Rattle.ptb_machine.specs.declared.run_end.RunEnd.{RunEnd}
use Rattle.ptb_machine.specs.PlainRuns.{HasLine, WantsMemory}
use Rattle.ptb_machine.specs.Streams.{Reads, Writes}
use Rattle.ptb_serve.specs.LoadedPrograms.{IsServed, IsServedIn, IsServedUnread, IsRunStatus, ReadsInput, ServesProgram}
use Rattle.ptb_serve.specs.LoadedPrograms.{ReportsFailures, ReportsLine, ReportsMismatch, line_in_mode, end_line}
use Rattle.ptb_machine.specs.SeededRuns.{seeded_answers}
use Rattle.ptb_serve.specs.ServedRequests.{IsPlainRun, NeedsInput, NeedsWholeInput}
use Rattle.ptb_serve.proofs.Lines.{none_stopped, run_line}
use Rattle.ptb_serve.proofs.ServedListings.{untouched_reads}
use Rattle.ptb_serve.proofs.ServedPrograms.{unread}
use Rattle.ptb_serve.proofs.Mismatches.{none_told, run_refuses_none}
use Rattle.ptb_serve.proofs.PlainRuns.{Ran, plain_reads, plain_serves, run_failures, seeded_reads, seeded_serves}

module _ (request : Request) (p : StoredProgram) where
  module _ {R : Type 0} (input : Reads R) (out : Writes) where
    module _ (end : Result RunEnd RunFault) (result : Result ℕ Note) (mode : Mode)
        (status : IsRunStatus (ending_alone end) result) (memory : p.memory ≡ request.memory) where
      abbrev r : Result Ending RunFault
      r = ending_alone end

      -- a run with a list of answers, which are a by another name
      pub served_plain : (a b : Answers) → mode ≡ modes.Plain a → b ≡ a → Ran request p (λ _. b) input out r
          → (IsErrOf r faults.Memory → Appends out.before out.after [])
          → IfOk end (HasLine p request.rules (λ _. b) input)
          → IsServedIn request p input out result None (end_line end) mode
      served_plain a b is same ran quiet line =
          subst (IsServedIn request p input out result None (end_line end)) (ap modes.Plain same ∙ sym is)
          (record {
            serves = plain_serves request p input out r result status b ran memory quiet;
            reads = plain_reads request p input out r result status b ran;
            line =
                run_line (modes.Plain b) request p (λ _. b) input (λ c is. is) (λ lines. refl) end result status line;
            failures = run_failures request p (λ _ _. b) input out r result status ran;
            mismatch = none_told _ _ _ _ _ (run_refuses_none r result status);
            input_kept = λ x. absurd (x tt);
          })

      -- a run by a seed
      pub served_seeded : (seed : ℕ) → mode ≡ modes.Seeded seed
          → Ran request p (λ lines. seeded_answers seed p lines request.rules) input out r
          → (IsErrOf r faults.Memory
          → WantsMemory p request.rules (λ lines. seeded_answers seed p lines request.rules) input out)
          → IfOk end (HasLine p request.rules (λ lines. seeded_answers seed p lines request.rules) input)
          → IsServedIn request p input out result None (end_line end) mode
      served_seeded seed is ran wants line =
          subst (IsServedIn request p input out result None (end_line end)) (sym is)
          (record {
            serves = seeded_serves request p input out r result status seed ran memory wants;
            reads = seeded_reads request p input out r result status seed ran;
            line =
                run_line (modes.Seeded seed) request p (λ lines. seeded_answers seed p lines request.rules) input
                (λ c is. is) (λ lines. refl) end result status line;
            failures =
                run_failures request p
                (λ q lines. seeded_answers seed q lines request.rules) input out r result status ran;
            mismatch = none_told _ _ _ _ _ (run_refuses_none r result status);
            input_kept = λ x. absurd (x tt);
          })

    -- a listing of its runs
    pub served_all : (result : Result ℕ Note) (mismatch : Option ListMismatch) (mode : Mode)
        (under after : Option (List Marked)) (first : Option ℕ) (form : Form)
        → mode ≡ modes.All under after first form
        → ServesProgram (modes.All under after first form) request p input.bytes input.left out.before out.after result
        → ReadsInput (modes.All under after first form) input.bytes input.left input.failed input.fails input.gave
        input.gives result
        → ReportsFailures out.failed out.fails result
        → ReportsMismatch (modes.All under after first form) request p input.bytes result mismatch
        → IsServedIn request p input out result mismatch None mode
    served_all result mismatch mode under after first form is serves reads tells said =
        subst (IsServedIn request p input out result mismatch None) (sym is)
        (record {
          serves = serves;
          reads = reads;
          failures = tells;
          mismatch = said;
          line = none_stopped _ _ _ _ _ (λ lines. refl);
          input_kept = λ x. absurd (x tt);
        })

    -- what is served in a mode by another name, where no list and no line are spoken of
    served_alone : (result : Result ℕ Note) (mode other : Mode) → mode ≡ other → IsServed other request p input out
        result
        → ReportsLine other request p input.bytes result None → NeedsInput other
        → IsServedIn request p input out result None None mode
    served_alone result mode other is x line needs =
        subst (IsServedIn request p input out result None None) (sym is)
        (record {
          serves = x.serves;
          reads = x.reads;
          failures = x.failures;
          mismatch = none_told _ _ _ _ _ x.no_list;
          line = line;
          input_kept = λ y. absurd (y needs);
        })

    -- the lists that split its runs
    pub served_shares : (result : Result ℕ Note) (mode : Mode) (n : ℕ) (form : Form) → mode ≡ modes.Shares n form
        → IsServed (modes.Shares n form) request p input out result
        → IsServedIn request p input out result None None mode
    served_shares result mode n form is x =
        served_alone result mode (modes.Shares n form) is x (none_stopped _ _ _ _ _ (λ lines. refl)) tt

    -- a sample of its runs
    pub served_sample : (result : Result ℕ Note) (mode : Mode) (seed runs : ℕ) (form : Form)
        → mode ≡ modes.Sample seed runs form
        → IsServed (modes.Sample seed runs form) request p input out result
        → IsServedIn request p input out result None None mode
    served_sample result mode seed runs form is x =
        served_alone result mode (modes.Sample seed runs form) is x (none_stopped _ _ _ _ _ (λ lines. refl)) tt

    -- the table of its chances
    pub served_chances : (result : Result ℕ Note) (mode : Mode) → mode ≡ modes.Chances
        → IsServed modes.Chances request p input out result → IsServedIn request p input out result None None mode
    served_chances result mode is x =
        served_alone result mode modes.Chances is x (none_stopped _ _ _ _ _ (λ lines. refl)) tt

  -- a mode that leaves the input alone
  pub served_unread : {R : Type 0} (i : R) (known : Option (List ℕ)) (failed gave : ℕ) (out : Writes)
      (result : Result ℕ Note) (mode other : Mode) → mode ≡ other → (NeedsWholeInput other → ⊥)
      → (IsPlainRun other → ⊥) → ((lines : List (List ℕ)) → line_in_mode other p lines request.rules ≡ None)
      → p.memory ≡ request.memory → IsServedUnread other p out result
      → IsServedIn request p (unread i known gave failed) out result None None mode
  served_unread i known failed gave out result mode other is part plain line memory x =
      subst (IsServedIn request p (unread i known gave failed) out result None None) (sym is)
      (record {
        serves = x.serves request memory known;
        reads = untouched_reads other part plain known failed gave result x.read x.no_list;
        failures = x.failures;
        mismatch = none_told _ _ _ _ _ x.no_list;
        line = none_stopped _ _ _ _ _ line;
        input_kept = λ _. refl;
      })
