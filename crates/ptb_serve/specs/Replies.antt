-- This file defines what the tool answers to a request.
-- Main definition: `reply_to`.
--     Reply                    what is written, the status, and what goes to standard error
--     reply_to request b c     the reply for the program text b and the input c
use Rattle.std.specs.Prelude.{ℕ, nat_lt, Bool, true, false, ◌&&◌, List, [], length, Option, Some, None, Result, Ok, Err}
use Rattle.ptb_text.specs.declared.fault.LoadFault.{LoadFault}
use Rattle.ptb_text.specs.declared.fault.LoadFault.TheVariants.{TooLong}
use Rattle.ptb_text.specs.Lines.{input_lines}
use Rattle.ptb_text.specs.Statements.{Statements, StoredProgram, program, program_limit, listing}
use Rattle.ptb_answers.specs.Outcome.{Answers, Outcome, bounds, is_open, is_whole}
use Rattle.ptb_command.specs.declared.ending.Ending.{Ending}
use Rattle.ptb_answers.specs.declared.rules.Rules.{Rules}
use Rattle.ptb_machine.specs.Play.{Finish, play, plain, status}
use Rattle.ptb_machine.specs.Questions.{most_answers}
use Rattle.ptb_answers.specs.declared.form.Form.{Form}
use Rattle.ptb_answers.specs.declared.form.Marked.{Marked}
use Rattle.ptb_answers.specs.AnswerText.{answers_of}
use Rattle.ptb_answers.specs.DrawnAnswers.{sampled_runs}
use Rattle.ptb_answers.specs.Seeds.{generator_of}
use Rattle.ptb_explore.specs.MarkedRuns.{states_bounds}
use Rattle.ptb_explore.specs.Openings.{first_front}
use Rattle.ptb_machine.specs.RunTree.{begins_with, runs_left}
use Rattle.ptb_explore.specs.Beginnings.{beginning_line, beginnings}
use Rattle.ptb_chances.specs.Chances.{chances}
use Rattle.ptb_explore.specs.Listing.{text}
use Rattle.ptb_explore.specs.Report.{report}
use Rattle.ptb_serve.specs.declared.note.Note.{Note}
use Rattle.ptb_serve.specs.declared.note.Note.TheVariants as notes
use Rattle.ptb_options.specs.declared.request.Mode.{Mode}
use Rattle.ptb_options.specs.declared.request.Mode.TheVariants as modes
use Rattle.ptb_options.specs.declared.request.Request.{Request}
use Rattle.ptb_check.specs.Mistakes.{mistakes, mistakes_text}
use Rattle.ptb_check.specs.WrittenMistakes.{has_any}
use Rattle.ptb_machine.specs.SeededRuns.{seeded_run}
use Rattle.ptb_serve.specs.Statuses.{note_status}

-- ---- replies

pub record Reply : Type 0 where
  pub bytes : List ℕ
  pub status : ℕ
  pub note : Option Note

-- nothing is written, and a note says why
abbrev pub refusal : Note → Reply
refusal note = record { bytes = []; status = note_status note; note = Some note }

abbrev pub reply_with : List ℕ → Reply
reply_with bytes = record { bytes = bytes; status = 0; note = None }

-- the bytes and the ending of a run
abbrev pub run_reply : List ℕ × Ending → Reply
run_reply r = record { bytes = r.0; status = status r.1; note = None }

-- a run of a program on these lines, and on those of an input
abbrev pub lines_reply : Rules → Answers → List (List ℕ) → StoredProgram → Reply
lines_reply rules a lines p = run_reply (plain p lines rules a)

abbrev pub plain_reply : Rules → Answers → List ℕ → StoredProgram → Reply
plain_reply rules a c p = lines_reply rules a (input_lines c) p

-- a run by a seed
abbrev pub seeded_lines_reply : Rules → ℕ → List (List ℕ) → StoredProgram → Reply
seeded_lines_reply rules seed lines p = run_reply (seeded_run seed p lines rules)

abbrev pub seeded_reply : Rules → ℕ → List ℕ → StoredProgram → Reply
seeded_reply rules seed c p = seeded_lines_reply rules seed (input_lines c) p

abbrev pub check_status : Bool → ℕ
check_status false = 0
check_status true = 1

abbrev pub listing_reply : StoredProgram → Reply
listing_reply p = reply_with (listing p.lines)

-- each mistake in the text, and status 1 where there is one
abbrev pub check_reply : StoredProgram → Reply
check_reply p =
    record { bytes = mistakes_text p.lines; status = check_status (has_any (mistakes p.lines)); note = None }

-- ---- the program

-- a text that is too long is refused as a whole, at line 0
unfoldable pub program_of_text : ℕ → List ℕ → Result Statements (ℕ × LoadFault)
program_of_text memory b = elim (nat_lt program_limit (length b)) [ true ↦ Err (0, TooLong) | false ↦ program memory b ]

-- the first refusal of a text is noted with its source line
abbrev pub reply_or_refusal : (StoredProgram → Reply) → ℕ → Result Statements (ℕ × LoadFault) → Reply
reply_or_refusal next memory (Ok p) = next (record { lines = p; memory = memory })
reply_or_refusal next memory (Err fault) = refusal (notes.Load fault.0 fault.1)

abbrev pub program_reply : ℕ → List ℕ → (StoredProgram → Reply) → Reply
program_reply memory b next = reply_or_refusal next memory (program_of_text memory b)

-- ---- all runs

-- a listing begins with the first run, or after a run that is named; it has the runs that begin with these answers, or
-- all
abbrev pub share_prefix : Option (List Marked) → Answers
share_prefix None = []
share_prefix (Some list) = answers_of list

-- a run must begin with them, and each bound that is stated must be that of its question
abbrev pub begins_runs : (Answers → Outcome Finish (List ℕ)) → Option (List Marked) → Bool
begins_runs game None = true
begins_runs game (Some list) = is_open (game (answers_of list)) && states_bounds list (bounds game (answers_of list))

-- so it is with the run after which it begins, which must be one of the listing
abbrev pub is_front : (Answers → Outcome Finish (List ℕ)) → Answers → Option (List Marked) → Bool
is_front game under None = true
is_front game under (Some list) =
    is_whole (game (answers_of list)) && states_bounds list (bounds game (answers_of list))
    && begins_with (answers_of list) under

-- why no listing is begun: the beginning is looked at first
abbrev pub note_of : Bool → Bool → Option Note
note_of false is_front = Some notes.NoBeginning
note_of true false = Some notes.NoRun
note_of true true = None

abbrev pub front_note : (Answers → Outcome Finish (List ℕ)) → Option (List Marked) → Option (List Marked) → Option Note
front_note game under after = note_of (begins_runs game under) (is_front game (share_prefix under) after)

-- the runs that a listing has, where none has more answers than `most`
abbrev pub runs_due : (Answers → Outcome Finish (List ℕ)) → ℕ → Option (List Marked) → Option (List Marked) → Option ℕ
    → List Answers
runs_due game most under after first = runs_left game most (share_prefix under) (first_front after) first

-- their reports
abbrev pub listed_runs : (Answers → Outcome Finish (List ℕ)) → ℕ → Option (List Marked) → Option (List Marked)
    → Option ℕ → Form → List ℕ
listed_runs game most under after first form = text (report form game) (runs_due game most under after first)

-- a list that begins no run, is no run of the listing, or states another bound is refused before anything is written
unfoldable pub runs_reply : (Answers → Outcome Finish (List ℕ)) → ℕ → Option (List Marked) → Option (List Marked)
    → Option ℕ → Form → Reply
runs_reply game most under after first form =
    elim (front_note game under after) [
      | None ↦ reply_with (listed_runs game most under after first form)
      | Some note ↦ refusal note
    ]

-- the runs of a program on these input lines
abbrev pub all_reply : StoredProgram → List (List ℕ) → Rules → Option (List Marked) → Option (List Marked) → Option ℕ
    → Form → Reply
all_reply p input rules under after first form =
    runs_reply (play p input rules) (most_answers p input rules.limit) under after first form

-- ---- the lists that split all runs

-- those of at most n answers, a line each
abbrev pub shares_reply : StoredProgram → List (List ℕ) → Rules → ℕ → Form → Reply
shares_reply p input rules n form =
    reply_with (text (beginning_line form (play p input rules)) (beginnings n (play p input rules)))

-- ---- a sample

-- the runs that a seed draws, one after the other, where none has more answers than `most`
abbrev pub runs_drawn : (Answers → Outcome Finish (List ℕ)) → ℕ → ℕ → ℕ → List Answers
runs_drawn game most seed runs = sampled_runs most game (generator_of seed) runs

-- their reports
abbrev pub sample_reply : StoredProgram → List (List ℕ) → Rules → ℕ → ℕ → Form → Reply
sample_reply p input rules seed runs form = reply_with (text (report form (play p input rules))
    (runs_drawn (play p input rules) (most_answers p input rules.limit) seed runs))

-- ---- the chances

-- the table of all results that runs have
abbrev pub chances_reply : StoredProgram → List (List ℕ) → Rules → Reply
chances_reply p input rules = reply_with (chances (play p input rules) (most_answers p input rules.limit))

-- ---- the complete tool

-- the reply for a program that was loaded
abbrev pub program_reply_in_mode : Mode → Rules → List ℕ → StoredProgram → Reply
program_reply_in_mode (modes.Plain a) rules c = plain_reply rules a c
program_reply_in_mode (modes.Seeded seed) rules c = seeded_reply rules seed c
program_reply_in_mode (modes.All under after first form) rules c =
    λ p. all_reply p (input_lines c) rules under after first form
program_reply_in_mode (modes.Shares answers form) rules c = λ p. shares_reply p (input_lines c) rules answers form
program_reply_in_mode (modes.Sample seed runs form) rules c = λ p. sample_reply p (input_lines c) rules seed runs form
program_reply_in_mode modes.List rules c = listing_reply
program_reply_in_mode modes.Check rules c = check_reply
program_reply_in_mode modes.Chances rules c = λ p. chances_reply p (input_lines c) rules

abbrev pub reply_in_mode : Mode → Request → List ℕ → List ℕ → Reply
reply_in_mode mode request b c = program_reply request.memory b (program_reply_in_mode mode request.rules c)

abbrev pub reply_to : Request → List ℕ → List ℕ → Reply
reply_to request b c = reply_in_mode request.mode request b c
