-- This file joins all that is known of a run on the lines of a reader, by whether its source has come to a fault.
-- Main lemmas: `ran_whole` and `ran_unread`.
use Rattle.std.proofs.Common.{◌≡◌, ◌≤◌, ◌+◌, ◌⊎◌, inl, inr, Bool, ℕ, ℤ, List, [], ◌++◌, length}
use Rattle.std.proofs.Common.{Option, Some, None, Result, Ok, Err, IfOk, IfSome, IsErrOf, OnOk}
use Rattle.std.proofs.Common.{pos, ◌≤ℤ◌, refl, sym, ap, subst, ◌∙◌}
use Rattle.std.specs.Borrow.{MutBor}
use Rattle.std.specs.Io.KnownBytes.{Appends, Consumes}
use Rattle.ptb_text.specs.Device.{GivesAtMost, GivesExactly, HasFailed}
use Rattle.ptb_text.specs.Lines.{input_lines}
use Rattle.ptb_text.specs.Statements.{StoredProgram}
use Rattle.ptb_answers.specs.declared.pause.Pause.{Pause}
use Rattle.ptb_answers.specs.declared.pause.Pause.TheVariants as pauses
use Rattle.ptb_answers.specs.declared.rules.Rules.{Rules}
use Rattle.ptb_answers.specs.Choices.{Choices}
use Rattle.ptb_answers.specs.Outcome.{Answers}
use Rattle.ptb_command.specs.declared.ending.Ending.{Ending}
use Rattle.ptb_command.specs.Devices.{devices, refused_by}
use Rattle.ptb_command.specs.Stops.{NotMissed, UnlessMissed}
use Rattle.ptb_text.specs.declared.device_fault.DeviceFault.{DeviceFault}
use Rattle.ptb_devices.specs.declared.reader_lines.ReaderLines.{ReaderLines}
use Rattle.ptb_devices.specs.Inputs.{InputNow, InputState, ReadsOn, Refuses, missed_in, fault_at}
use Rattle.ptb_devices.specs.Inputs.{fresh_input, known_lines, most_lines}
use Rattle.ptb_devices.specs.InputLaws.{none_known}
use Rattle.ptb_devices.specs.Readers.{GivesFrom, input_of, line_input, line_reader}
use Rattle.ptb_devices.specs.Sources.{ConsumesAtMost, NoneLeft}
use Rattle.ptb_machine.specs.declared.fault.RunFault.{RunFault}
use Rattle.ptb_machine.specs.declared.fault.RunFault.TheVariants as runs
use Rattle.ptb_machine.specs.declared.run_end.RunEnd.{RunEnd}
use Rattle.ptb_machine.specs.Play.{stopping_line}
use Rattle.ptb_machine.specs.Runs.{IsLineOf, Runs, choosing, run_miss}
use Rattle.ptb_machine.specs.MemoryNotes.{noted, noted_result}
use Rattle.ptb_machine.specs.PlainRuns.{GoesBy, HasLine, IsUnreadable, PlaysWith, ReadsFor}
use Rattle.ptb_machine.specs.PlainRuns.{ReadsLines, WantsMemory, input_limit, lines_taken}
use Rattle.ptb_machine.specs.PlainRuns.{lines_wanted, without_choose}
use Rattle.ptb_machine.specs.RunFaults.{fault_of_device}
use Rattle.ptb_machine.specs.Streams.{Reads, Writes, reads_of, writes_of}
use Rattle.ptb_machine.proofs.WriterRuns.{IsRunBetween, IsUnreadBetween, led_line, led_run, led_run_dry}
use Rattle.ptb_machine.proofs.WriterRuns.{led_run_takes, run_between, state_of, unread_between}
use Rattle.ptb_machine.proofs.TakenInput.{begins_input, failed_or_given, fault_missed, fault_unread}
use Rattle.ptb_machine.proofs.TakenInput.{fault_without_memory, fresh, given_at_most, is_unreadable, more_at_fault}
use Rattle.ptb_machine.proofs.TakenInput.{never_unread, noted_read, noted_within, of_input, reads_for}
use Rattle.ptb_machine.proofs.TakenInput.{reads_unfailed, shows_come, shows_input, stops_input, taken_by}
use Rattle.ptb_machine.proofs.TakenInput.{takes_at_most, takes_within, wanted_at_fault, wanted_within}
use Rattle.ptb_machine.proofs.TakenInput.{where_err, where_ok}

-- what is known of a run whose chooser refuses so and had these choices before and after
pub record RanOn {R : Type 0} (p : StoredProgram) (rules : Rules) (refuses : Pause → ℤ
    → Type 0) (c d : Choices) (input : Reads R) (out : Writes) (result : Result Ending RunFault) : Type 0 where
  pub plays : (answers : List (List ℕ) → Answers) → GoesBy refuses c d answers p rules
      → PlaysWith p rules answers input out result
  pub refused : (answers : List (List ℕ) → Answers) → GoesBy refuses c d answers p rules → IsErrOf result runs.Memory
      → Appends out.before out.after [] ⊎ ((n : ℤ) × refuses pauses.Memory n)
  pub memory : (answers : List (List ℕ) → Answers) → GoesBy refuses c d answers p rules → IsErrOf result runs.Memory
      → WantsMemory p rules answers input out
  pub reads : ReadsLines input result

-- what holds of the end of a run holds of the end that is concluded from it
pub concluded : (P Q : RunEnd → Type 0) (r ended : Result RunEnd RunFault) → IfOk r (λ end. ended ≡ Ok end)
    → ((end : RunEnd) → P end → Q end) → IfOk ended P → IfOk r Q
concluded P Q (Ok end) ended is each h = each end (subst (λ (x : Result RunEnd RunFault). IfOk x P) is h)
concluded P Q (Err fault) ended is each h = tt

-- a reader and a writer, by what their contracts say of them
module _ {R W : Type 0} (remaining : R → Option (List ℕ)) (counted failures : R → ℕ) (contents : W
    → Option (List ℕ)) (written : W → ℕ) where
  -- the source, the reader i and the writer w before, and the source, the reader j and the writer v after
  module _ (p : StoredProgram) (rules : Rules) (refuses : Pause → ℤ → Type 0) (noticed : Bool) (c d : Choices)
      (source later : ReaderLines R) (i j : R) (screen screen_later : MutBor W) (w v : W) (lines : List (List ℕ))
      (ended : Result Ending RunFault)
      (state : line_input source ≡ fresh_input) (reader : (line_reader source).now ≡ i)
      (gives : GivesFrom remaining counted failures source lines later)
      (ends : (line_reader later).ghost_name ≡ (line_reader source).ghost_name → j ≡ (line_reader later).now)
      (writer : screen.now ≡ w) (writes : screen.ghost_name ≡ screen_later.ghost_name → v ≡ screen_later.now)
      (ran : (choose : Option ℤ) (range : IfSome choose (λ n. pos 1 ≤ℤ n))
      → Runs (refused_by (noted noticed refuses) (Refuses (line_input later).end)
      (known_lines (input_of remaining counted failures later))) p (choosing rules choose range)
      (devices c (state_of contents written screen) (most_lines (line_input source)) rules.choose [])
      (devices d (state_of contents written screen_later) (most_lines (line_input later)) rules.choose lines) ended)
      (missed : UnlessMissed (Refuses (line_input later).end) (NotMissed rules.choose (missed_in (line_input source))
      (missed_in (line_input later)) (most_lines (line_input later))) (run_miss ended)) where
    -- the input as the source leaves it
    abbrev now : InputNow
    now = input_of remaining counted failures later

    abbrev Goes : (List (List ℕ) → Answers) → Type 0
    Goes answers = GoesBy refuses c d answers p rules

    abbrev IsRan : Result Ending RunFault → Type 0
    IsRan result =
        RanOn p rules refuses c d (reads_of remaining counted failures i j) (writes_of contents written w v) result

    -- what the source took of the input
    on : ReadsOn (missed_in (line_input later)) (fresh (remaining i) (counted i) (failures i)) lines now
    on = taken_by remaining counted failures source later lines i state reader gives

    -- the result, where it is noted whether memory was refused
    abbrev result : Result Ending RunFault
    result = noted_result noticed ended

    left_by : j ≡ (line_reader later).now
    left_by = ends gives.same_borrow

    -- it took no more than a source may
    took_bounded : ConsumesAtMost (remaining i) (remaining j) (input_limit + 1)
    took_bounded = subst (λ (x : R). ConsumesAtMost (remaining i) (remaining x) (input_limit + 1)) (sym left_by)
        (takes_at_most _ _ _ _ now lines on)

    given_bounded : GivesAtMost (counted i) (counted j) (input_limit + 1)
    given_bounded = subst (λ (x : R). GivesAtMost (counted i) (counted x) (input_limit + 1)) (sym left_by)
        (given_at_most _ _ _ _ now lines on)

    -- what is said of the run, whatever lines come after those that it was given
    between : (answers : List (List ℕ) → Answers) → Goes answers → (following : List (List ℕ))
        → (NoneLeft (known_lines now) → following ≡ [])
        → IsRunBetween contents written p rules (lines ++ following) (answers (lines ++ following)) refuses w v result
    between answers goes following none =
        run_between contents written p rules (lines ++ following)
        (answers (lines ++ following)) refuses screen screen_later w v result writer writes
        (led_run p rules answers refuses noticed c d (state_of contents written screen) (state_of contents written
        screen_later) (most_lines (line_input source)) (most_lines (line_input later)) lines
        (Refuses (line_input later).end) (known_lines now) ended goes ran (none_known now) refl
        (fault_without_memory (line_input later).end) following none)

    -- where the limit stopped it
    pub has_line : (end : RunEnd)
        → IsLineOf p rules
        (devices c (state_of contents written screen) (most_lines (line_input source)) rules.choose [])
        (devices d (state_of contents written screen_later) (most_lines (line_input later)) rules.choose lines) end
        → (answers : List (List ℕ) → Answers) → Goes answers
        → HasLine p rules answers (reads_of remaining counted failures i j) end
    has_line end h answers goes = record {
      at_limit = λ is.
          of_input (λ ls. end.line ≡ stopping_line p ls rules (answers ls)) (missed_in (line_input later)) (counted i)
          (failures i) now lines
          (led_line p rules answers refuses noticed c d (state_of contents written screen) (state_of contents written
          screen_later) (most_lines (line_input source)) (most_lines (line_input later)) lines
          (Refuses (line_input later).end) (known_lines now) goes (none_known now) end h is) (remaining i) on;
      elsewhere = h.elsewhere;
    }

    -- it took the lines that it was given
    takes : (answers : List (List ℕ) → Answers) → Goes answers → (following : List (List ℕ))
        → (NoneLeft (known_lines now) → following ≡ [])
        → length lines ≤ lines_taken p (lines ++ following) rules (answers (lines ++ following))
    takes answers goes following none =
        led_run_takes p rules answers refuses noticed c d (state_of contents written screen)
        (state_of contents written screen_later) (most_lines (line_input source)) (most_lines (line_input later)) lines
        (Refuses (line_input later).end) (known_lines now) ended goes ran (none_known now) refl
        (fault_without_memory (line_input later).end) following none

    -- and asked for one more at most where it says so
    unmissed : UnlessMissed (Refuses (line_input later).end)
        (NotMissed rules.choose 0 (missed_in (line_input later)) (most_lines (line_input later))) (run_miss ended)
    unmissed =
        subst (λ (s : InputState). UnlessMissed (Refuses (line_input later).end) (NotMissed rules.choose (missed_in s)
        (missed_in (line_input later)) (most_lines (line_input later))) (run_miss ended))
        state missed

    -- the source has come to no fault
    ran_noted : fault_at (line_input later).end ≡ None → IsRan result
    ran_noted none =
        let unread : IsErrOf result runs.Read → ⊥ =
        λ e. never_unread p rules (noted noticed refuses) _ _ (line_input later).end (known_lines now) none ended
        (ran rules.choose rules.in_range [] (λ _. (refl, refl))) (noted_read noticed ended e) in
        let same = sym left_by in
        record {
          plays = λ answers goes.
              let none_after = between answers goes [] (λ _. refl) in
              record {
                ended =
                    shows_input contents written p rules answers refuses w v result (missed_in (line_input later))
                    (counted i) (failures i) now lines (between answers goes) (remaining i) on;
                broken_off = where_err result _
                    (begins_input contents written p rules answers refuses w v result (missed_in (line_input later))
                    (counted i) (failures i) now lines (between answers goes) (remaining i) on);
                unread = λ e. absurd (unread e);
                asked = (
                  on.taken,
                  subst (λ (x : R). Consumes (remaining i) (remaining x) on.taken) same on.consumed,
                  reads_for p rules answers (missed_in (line_input later)) (counted i) (failures i) now lines
                      (takes answers goes) result
                      (noted_within noticed rules ended (missed_in (line_input later)) (most_lines (line_input later))
                      (wanted_within (line_input later) (most_lines (line_input later)) rules ended unmissed))
                      (remaining i) on,
                );
                failed = none_after.failed;
                unfailed = none_after.unfailed;
                unspent = none_after.unspent;
              };
          refused = λ answers goes is.
              elim ((between answers goes [] (λ _. refl)).memory is) [
                | inl nothing ↦ inl nothing
                | inr asks ↦ inr asks.0
              ];
          memory = λ answers goes is.
              stops_input contents written p rules answers refuses w v result (missed_in (line_input later)) (counted i)
              (failures i) now lines (between answers goes) is (remaining i) on;
          reads = record {
            within =
                subst (λ (x : R). OnOk result (ConsumesAtMost (remaining i) (remaining x) input_limit)) same
                (where_ok result _ (takes_within _ _ _ _ now lines on none));
            bounded = took_bounded;
            given = given_bounded;
            unreadable = λ e. absurd (unread e);
            unfailed = λ _. subst (λ (x : R). failures x ≡ failures i) same (reads_unfailed _ _ _ _ now lines on none);
            failed_or_given = λ e. absurd (unread e);
          };
        }

    pub ran_whole : fault_at (line_input later).end ≡ None → (answer : Result Ending RunFault) → answer ≡ result
        → IsRan answer
    ran_whole none answer is = subst IsRan (sym is) (ran_noted none)

    -- it has come to one
    module _ (fault : DeviceFault) (is : fault_at (line_input later).end ≡ Some fault) where
      -- on the lines that it was given it ends for lack of one, where no answer is asked for instead
      dry : (answers : List (List ℕ) → Answers) → Goes answers
          → IsUnreadBetween contents written p (without_choose rules) (lines ++ []) (answers (lines ++ [])) w v
      dry answers goes =
          unread_between contents written p (without_choose rules) (lines ++ [])
          (answers (lines ++ [])) screen screen_later w v writer writes
          (led_run_dry p rules answers refuses noticed c d (state_of contents written screen) (state_of contents written
          screen_later) (most_lines (line_input source)) (most_lines (line_input later)) lines
          (Refuses (line_input later).end) (known_lines now) ended goes ran (none_known now)
          (fault_without_memory (line_input later).end)
          (NotMissed rules.choose 0 (missed_in (line_input later)) (most_lines (line_input later)))
          (fault_missed (line_input later) rules.choose fault is) unmissed (more_at_fault (line_input later) fault is))

      pub ran_unread : (answer : RunFault) → answer ≡ fault_of_device fault → IsRan (Err answer)
      ran_unread answer told =
          let same = sym left_by in
          let reads : answer ≡ runs.Read = told ∙ fault_unread (line_input later).end fault is in
          record {
            plays = λ answers goes. record {
              ended = tt;
              broken_off =
                  begins_input contents written p rules answers refuses w v result (missed_in (line_input later))
                  (counted i) (failures i) now lines (between answers goes) (remaining i) on;
              unread = λ _. (
                on.taken,
                subst (λ (x : R). Consumes (remaining i) (remaining x) on.taken) same on.consumed,
                shows_come contents written p (without_choose rules) answers w v (missed_in (line_input later))
                    (counted i)
                    (failures i) now lines (remaining i) on fault is (dry answers goes),
              );
              asked = (
                on.taken,
                subst (λ (x : R). Consumes (remaining i) (remaining x) on.taken) same on.consumed,
                subst (λ (f : RunFault). IfSome (remaining i)
                    (λ b. ReadsFor on.taken (lines_wanted rules.choose (length (input_lines b))
                    (lines_taken p (input_lines b) rules (answers (input_lines b))) (Err f)))) (sym told)
                    (reads_for p rules answers (missed_in (line_input later)) (counted i) (failures i) now lines
                    (takes answers goes) (Err (fault_of_device fault))
                    (wanted_at_fault (line_input later) (most_lines (line_input later)) rules fault is)
                    (remaining i) on),
              );
              failed = λ e. absurd (let clash : runs.Read ≡ runs.Write = cc in cc);
              unfailed = λ _. (dry answers goes).unfailed;
              unspent = λ e. absurd (let clash : runs.Read ≡ runs.Spent = cc in cc);
            };
            refused = λ answers goes e. absurd (let clash : runs.Read ≡ runs.Memory = cc in cc);
            memory = λ answers goes e. absurd (let clash : runs.Read ≡ runs.Memory = cc in cc);
            reads = record {
              within = tt;
              bounded = took_bounded;
              given = given_bounded;
              unreadable =
                  λ _. subst (λ (x : R). IsUnreadable (remaining i) (failures i) (failures x)) same
                  (is_unreadable _ _ _ _ now lines on fault is);
              unfailed = λ unread. absurd (unread (ap Err reads));
              failed_or_given = λ _. subst (λ (x : R). HasFailed (failures i) (failures x) ⊎ GivesExactly (counted i)
                  (counted x) (input_limit + 1)) same (failed_or_given _ _ _ _ now lines on fault is);
            };
          }
