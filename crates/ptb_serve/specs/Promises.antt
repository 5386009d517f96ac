-- This file states what `serve` promises.
-- Main definition: `Served`.
--     Served                  what is written, the status and the note
--     ReadsOnlyWhatIsAsked    what is read of the program's text and of the input
--     FailsLoudly             a note says what failed, and nothing else is said to have failed
use Rattle.std.specs.Prelude.{◌≡◌, ◌≤◌, ◌+◌, ◌⊎◌, ℕ, List, length, None, Some, IfErr, IfOk, IfSome, IsSome, MatchOption}
use Rattle.ptb_text.specs.Device.{GivesAtMost, GivesExactly, HasFailed}
use Rattle.ptb_text.specs.Lines.{input_lines}
use Rattle.ptb_text.specs.Statements.{program_limit}
use Rattle.ptb_devices.specs.Sources.{ConsumesAtMost}
use Rattle.ptb_machine.specs.PlainRuns.{IsUnreadable, input_limit}
use Rattle.ptb_machine.specs.Streams.{Reads, Writes}
use Rattle.ptb_options.specs.declared.request.Request.{Request}
use Rattle.ptb_serve.specs.declared.note.Note.TheVariants as notes
use Rattle.ptb_serve.specs.declared.service.Outcome.{Outcome}
use Rattle.ptb_serve.specs.ListMismatches.{IsMismatchOf, mismatch_note}
use Rattle.ptb_serve.specs.LoadedPrograms.{line_in_mode}
use Rattle.ptb_serve.specs.Replies.{program_of_text, refusal, reply_to}
use Rattle.ptb_serve.specs.ServedRequests.{IsCheck, IsInput, IsPlainRun, IsUnloaded, NeedsInput}
use Rattle.ptb_serve.specs.ServedRequests.{NeedsWholeInput, ReadsForRun, Serves, ServesUnread, SilentBy}
use Rattle.ptb_serve.specs.ServedRequests.{StopsForMemory, ReportsLength, ReportsRefusal}
use Rattle.ptb_serve.specs.Statuses.{note_status}

module _ {P R : Type 0} (request : Request) (text : Reads P) (input : Reads R) where
  pub record Served (out : Writes) (outcome : Outcome) : Type 0 where
    -- The reply to the request is written, and the status and the note are those of the reply. Where a device failed
    -- or memory was refused, a prefix of the reply is written, and the note says what it was.
    pub reply : (c : List ℕ) → IsInput request.mode input.bytes c
        → IfSome text.bytes (λ b. Serves (reply_to request b c) out.before out.after outcome)
    -- A text that is refused is refused whatever the input is.
    pub refusal : IfSome text.bytes
        (λ b. IfErr (program_of_text request.memory b)
        (λ e. Serves (refusal (notes.Load e.0 e.1)) out.before out.after outcome))
    -- A note of a refusal has the line and the fault of the text's first refusal.
    pub refused_at : ReportsRefusal request.memory text.bytes outcome.note
    -- Each note has its own status, 64 or more. Without a note the status is at most 7,
    pub status : MatchOption outcome.note (outcome.status ≤ 7) (λ note. outcome.status ≡ note_status note)
    -- and it is 0 where the request is no plain run and no check,
    pub success : ¬ IsPlainRun request.mode → ¬ IsCheck request.mode → outcome.note ≡ None → outcome.status ≡ 0
    -- and at most 1 where it is a check.
    pub checked : IsCheck request.mode → outcome.note ≡ None → outcome.status ≤ 1
    -- With a note nothing is written, except where a write failed, where memory was refused within a listing or a run
    -- by a seed, or where a line that a run asked for could not be read.
    pub silent : SilentBy request.mode outcome.note out.before out.after
    -- Where memory is refused in a listing, the reports of the first of its runs are written, fewer than all, and
    -- nothing else.
    -- Where it is refused in a run by a seed, nothing is written, or exactly what the run shows up to a question.
    pub stopped : outcome.note ≡ Some notes.OutOfMemory
        → (c : List ℕ) → IsInput request.mode input.bytes c
        → IfSome text.bytes (λ b. StopsForMemory request.mode request b c out.before out.after)
    -- Where a line can't be read, what a run shows on the lines that came complete is written.
    pub unread : outcome.note ≡ Some notes.InputUnread
        → IfSome text.bytes (λ b. ServesUnread request.mode request input.bytes input.left b out.before out.after)
    -- Where a list fits no run, it is said why. This is said only with the note that refuses the list, and it is what
    -- the definition says.
    pub mismatch_said : (outcome.note ≡ Some notes.NoBeginning) ⊎ (outcome.note ≡ Some notes.NoRun)
        → IsSome outcome.mismatch
    pub mismatch_noted : IfSome outcome.mismatch (λ m. outcome.note ≡ Some (mismatch_note m))
    pub mismatch : (c : List ℕ) → IsInput request.mode input.bytes c
        → IfSome text.bytes (λ b. IfOk (program_of_text request.memory b) (λ p. IfSome outcome.mismatch (IsMismatchOf
        request.mode (record { lines = p; memory = request.memory }) (input_lines c) request.rules)))
    -- Where the limit stopped a run, the line is the number of the statement in which its next command begins. There
    -- is no line with any other status.
    pub line : outcome.status ≡ 4 → (c : List ℕ) → IsInput request.mode input.bytes c
        → IfSome text.bytes (λ b. IfOk (program_of_text request.memory b) (λ p. outcome.line ≡ line_in_mode request.mode
        (record { lines = p; memory = request.memory }) (input_lines c) request.rules))
    pub no_line : ¬ (outcome.status ≡ 4) → outcome.line ≡ None

  pub record ReadsOnlyWhatIsAsked (outcome : Outcome) : Type 0 where
    -- The text is loaded first: where it is refused, the input is left alone, and is not at fault.
    pub load_first : IfSome text.bytes
        (λ b. IfErr (program_of_text request.memory b) (λ _. (input.new ≡ input.old)
        × ¬ (outcome.note ≡ Some notes.InputUnread)))
    -- So it is where the text could not be read, or is noted as refused,
    pub unloaded : IsUnloaded outcome.note → input.new ≡ input.old
    -- and where the request needs no input.
    pub unneeded : ¬ NeedsInput request.mode → (input.new ≡ input.old) × ¬ (outcome.note ≡ Some notes.InputUnread)
    -- A run reads on only while fewer lines are complete than it asked for.
    pub for_run : IfSome text.bytes
        (λ b. IfSome input.bytes (λ c. ReadsForRun request.mode request b c input.left outcome))
    -- A run that ends has taken at most 16,777,216 bytes,
    pub run_within : IsPlainRun request.mode → outcome.note ≡ None → ConsumesAtMost input.bytes input.left input_limit
    -- and where the input is read to its end, a longer one is never served,
    pub whole_within : NeedsWholeInput request.mode → outcome.note ≡ None
        → IfSome input.bytes (λ c. length c ≤ input_limit)
    -- nor said to have no run that begins so,
    pub no_beginning_within : outcome.note ≡ Some notes.NoBeginning → IfSome input.bytes (λ c. length c ≤ input_limit)
    -- nor no run to list after.
    pub no_run_within : outcome.note ≡ Some notes.NoRun → IfSome input.bytes (λ c. length c ≤ input_limit)
    -- Of a text at most 1,048,577 bytes are read, and of an input at most 16,777,217, even if they never end.
    pub text_consumed : ConsumesAtMost text.bytes text.left (program_limit + 1)
    pub text_given : GivesAtMost text.gave text.gives (program_limit + 1)
    pub input_consumed : ConsumesAtMost input.bytes input.left (input_limit + 1)
    pub input_given : GivesAtMost input.gave input.gives (input_limit + 1)

pub record FailsLoudly {P R : Type 0} (text : Reads P) (input : Reads R) (out : Writes)
    (outcome : Outcome) : Type 0 where
  -- The text is noted as unread where its reader failed, and only there.
  pub text_failed : outcome.note ≡ Some notes.ProgramUnread → HasFailed text.failed text.fails
  pub text_unfailed : ¬ (outcome.note ≡ Some notes.ProgramUnread) → text.fails ≡ text.failed
  -- It is noted as too long only where 1,048,577 bytes came.
  pub text_too_long : ReportsLength text.gave text.gives outcome.note
  -- The input is noted as unread where its reader failed, and only there or where it has more than 16,777,216 bytes
  pub input_failed : outcome.note ≡ Some notes.InputUnread → IsUnreadable input.bytes input.failed input.fails
  pub input_unfailed : ¬ (outcome.note ≡ Some notes.InputUnread) → input.fails ≡ input.failed
  -- and gave 16,777,217.
  pub input_too_long : outcome.note ≡ Some notes.InputUnread
      → HasFailed input.failed input.fails ⊎ GivesExactly input.gave input.gives (input_limit + 1)
  -- The output is noted as unwritten where a write failed, and only there.
  pub out_failed : outcome.note ≡ Some notes.Unwritten → HasFailed out.failed out.fails
  pub out_unfailed : ¬ (outcome.note ≡ Some notes.Unwritten) → out.fails ≡ out.failed
