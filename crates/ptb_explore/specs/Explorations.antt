-- This file defines what contracts see of an explorer, and what its calls leave.
-- Main definition: `exploration`.
--     Exploration                  what is explored, and where the explorer is
--     exploration p input ..       an explorer of a program on these lines
--     play_of e, most_of e         what is played, and how many answers a run can have
--     game_of r                    what a runner plays
--     IsSameListing old new        what is explored stays, wherever the explorer is
--     IsSameGame old new           a runner plays what it did
--     report_finish r                  how the run of a report ended
--     Reports play r               r is the report of the run of its answers
--     NextReports play u f r found it is that of the next run, or there is none
--     HasRunCopies old new         the copies are of the run of the report
--     NextLeaves old result new    what the search for the next run leaves
--     Resumes r common             a plan can be played on from a copy
--     CanPlayOn r m shown source   and from where a machine is
--     AreCopiesAt ..               the copies are of the run at which an explorer is
--     AreKeptAt f runs             the same, of what contracts see of them
--     IsPlayed play a n            the run of these answers has so many steps
--     IsAdded play a old new       its steps were added to those played
--     steps_of_outcome outcome     the steps of a run
--     steps_of_runs steps runs     those of some runs together
--     steps_left e                 those of the runs that are left
--     PlaysRuns old new            no more steps were played than the runs have that are no longer left
--     PlaysOneMore old new         the same, or more by less than one play can add
--     NextPlays ..                 how many steps were played after the next run
use Rattle.std.specs.Prelude.{◌≡◌, ℕ, ◌+◌, ◌-◌, ◌<◌, ◌≤◌, List, [], ◌∷◌, length, drop, Bool, true, false, Option}
use Rattle.std.specs.Prelude.{Some, None, Result, Ok, Err}
use Rattle.std.specs.declared.alloc.AllocError.{AllocError}
use Rattle.std.specs.Borrow.{Bor}
use Rattle.ptb_text.specs.Statements.{StoredProgram}
use Rattle.ptb_answers.specs.Outcome.{Answers, Outcome, Done, Asks, Out, bounds}
use Rattle.ptb_answers.specs.declared.rules.Rules.{Rules}
use Rattle.ptb_command.specs.Configuration.{Configuration}
use Rattle.ptb_devices.specs.Sources.{LineList}
use Rattle.ptb_machine.specs.Play.{Finish, play}
use Rattle.ptb_machine.specs.Questions.{most_answers}
use Rattle.ptb_answers.specs.AskedQuestions.{answers_in, bounds_in}
use Rattle.ptb_explore.specs.declared.copies.KeptCopy.{KeptCopy}
use Rattle.ptb_explore.specs.declared.plan.ListingPosition.{ListingPosition}
use Rattle.ptb_explore.specs.declared.plan.ListingPosition.TheVariants.{AtStart, AtRun, AtEnd}
use Rattle.ptb_explore.specs.declared.report.Report.{Report}
use Rattle.ptb_explore.specs.declared.runner.Runner.{Runner}
use Rattle.ptb_explore.specs.Copies.{KeptRun, Agrees, AreCopies, ArePrefixes, kept_steps, more_played, play_limit}
use Rattle.ptb_explore.specs.PlannedPlays.{IsRunPrefix}
use Rattle.ptb_explore.specs.Plans.{IsFresh}
use Rattle.ptb_explore.specs.Recorders.{recorded, recorder_choices}
use Rattle.ptb_machine.specs.RunTree.{Front, Start, At, End, IsNextRun, IsLast, runs_after}

-- ---- explorers

pub record Exploration : Type 0 where
  pub program : StoredProgram
  pub input : List (List ℕ)
  pub rules : Rules
  -- each of its runs begins with these answers
  pub prefix : Answers
  pub front : Front
  -- the copies that are kept of the run at which it is, the one with the fewest answers first
  pub kept : List KeptRun
  -- how many commands were played in all
  pub played : ℕ

-- it has the runs that begin with `prefix`, and is at the front
abbrev pub exploration : StoredProgram → List (List ℕ) → Rules → Answers → Front → List KeptRun → ℕ → Exploration
exploration p input rules prefix front kept played = record {
  program = p;
  input = input;
  rules = rules;
  prefix = prefix;
  front = front;
  kept = kept;
  played = played;
}

abbrev pub IsSameListing : Exploration → Exploration → Type 0
IsSameListing old new = new ≡ record old { front = new.front; kept = new.kept; played = new.played }

abbrev pub play_of : Exploration → Answers → Outcome Finish (List ℕ)
play_of e = play e.program e.input e.rules

abbrev pub most_of : Exploration → ℕ
most_of e = most_answers e.program e.input e.rules.limit

-- ---- what plays its runs

abbrev pub game_of : Runner → Answers → Outcome Finish (List ℕ)
game_of r = play r.player r.lines.now r.rules

abbrev pub IsSameGame : Runner → Runner → Type 0
IsSameGame old new = new ≡ record old {
  chooser = new.chooser;
  report = new.report;
  copies = new.copies;
  played = new.played;
}

-- ---- reports

abbrev pub report_finish : Report → Finish
report_finish r = record { ending = r.ending; steps = r.steps; shown = r.transcript.items }

pub record Reports (play : Answers → Outcome Finish (List ℕ)) (r : Report) : Type 0 where
  pub outcome : play (answers_in r.asked.items) ≡ Done (report_finish r) []
  pub bounds_are : bounds_in r.asked.items ≡ bounds play (answers_in r.asked.items)

abbrev pub NextReports : (Answers → Outcome Finish (List ℕ)) → Answers → Front → Report → Bool → Type 0
NextReports play under f r true = Reports play r × IsNextRun play under f (answers_in r.asked.items)
NextReports play under f r false = IsLast play under f

-- the copies of a runner that plays on are those of the run of its report
abbrev pub HasRunCopies : Runner → Runner → Type 0
HasRunCopies old new = AreCopies old.player old.lines.now old.rules (answers_in new.report.asked.items)
    new.report.transcript.items new.copies.kept.items

-- a plan can be played on from a copy: it begins with as many answers of the report as `common` says
pub record Resumes (r : Runner) (common : ℕ) : Type 0 where
  pub fresh : IsFresh r.chooser
  pub agrees : Agrees (game_of r) common (recorded r.chooser) (answers_in r.report.asked.items)
      (bounds_in r.chooser.asked.items)
  pub copies : AreCopies r.player r.lines.now r.rules (answers_in r.report.asked.items) r.report.transcript.items
      r.copies.kept.items

-- the run of its plan has come to where the machine is, and the copies are of that run
pub record CanPlayOn (r : Runner) (m : Configuration) (shown : List ℕ) (source : LineList) : Type 0 where
  pub unspent : m.spent ≡ false
  pub within : source.taken ≤ length source.lines
  pub run_prefix : IsRunPrefix r.player source.lines r.rules (recorder_choices r.chooser) shown
      (drop source.taken source.lines) m
  pub copies : AreCopies r.player source.lines r.rules (recorder_choices r.chooser).taken shown r.copies.kept.items

-- ---- what is left

-- the commands that a run has in common with that of a copy are not played again
abbrev pub played_after : List KeptRun → ℕ → Report → ℕ
played_after kept played r = more_played played (r.steps - kept_steps (answers_in r.asked.items) kept)

-- it is at the run whose report is lent; the count doesn't fall
pub record FoundNext (old : Exploration) (r : Report) (new : Exploration) : Type 0 where
  pub now : new ≡ record old
      { front = At (answers_in r.asked.items); kept = new.kept; played = played_after old.kept old.played r }
  pub kept : ArePrefixes 0 (answers_in r.asked.items) new.kept
  pub rises : old.played ≤ new.played

-- no copy is kept; the count doesn't fall, and rises by less than one play can add
pub record RefusedNext (old new : Exploration) : Type 0 where
  pub now : new ≡ record old { kept = []; played = new.played }
  pub played : old.played ≤ new.played
  pub once : new.played < old.played + play_limit

-- or past the last run, or where it was
abbrev pub NextLeaves : Exploration → Result (Option (Bor Report)) AllocError → Exploration → Type 0
NextLeaves old (Ok (Some r)) new = FoundNext old r.now new
NextLeaves old (Ok None) new = new ≡ record old { front = End; kept = [] }
NextLeaves old (Err e) new = RefusedNext old new

-- ---- copies

-- where it is at no run there are none
abbrev pub AreCopiesAt : StoredProgram → List (List ℕ) → Rules → ListingPosition → Report → List KeptCopy → Type 0
AreCopiesAt p input rules AtStart r ks = ks ≡ []
AreCopiesAt p input rules AtRun r ks = AreCopies p input rules (answers_in r.asked.items) r.transcript.items ks
AreCopiesAt p input rules AtEnd r ks = ks ≡ []

abbrev pub AreKeptAt : Front → List KeptRun → Type 0
AreKeptAt Start runs = runs ≡ []
AreKeptAt (At a) runs = ArePrefixes 0 a runs
AreKeptAt End runs = runs ≡ []

-- ---- how many steps were played

abbrev pub IsPlayed : (Answers → Outcome Finish (List ℕ)) → Answers → ℕ → Type 0
IsPlayed play a n = (f : Finish) → play a ≡ Done f [] → n ≡ f.steps

-- fewer than one play can add
abbrev pub IsAdded : (Answers → Outcome Finish (List ℕ)) → Answers → ℕ → ℕ → Type 0
IsAdded play a old new = (f : Finish) → play a ≡ Done f [] → (new ≡ more_played old f.steps) × (f.steps < play_limit)

-- of what is no run there are none
abbrev pub steps_of_outcome : Outcome Finish (List ℕ) → ℕ
steps_of_outcome (Done f rest) = f.steps
steps_of_outcome (Asks n shown) = 0
steps_of_outcome (Out n shown) = 0

abbrev pub steps_of_runs : (Answers → ℕ) → List Answers → ℕ
steps_of_runs steps [] = 0
steps_of_runs steps (a ∷ list) = steps a + steps_of_runs steps list

-- those of the runs that it has left
abbrev pub steps_left : Exploration → ℕ
steps_left e = steps_of_runs (λ a. steps_of_outcome (play_of e a)) (runs_after (play_of e) (most_of e) e.prefix e.front)

-- no more were played than the runs have that are no longer left
abbrev pub PlaysRuns : Exploration → Exploration → Type 0
PlaysRuns old new = new.played + steps_left new ≤ old.played + steps_left old

-- or more by less than one play can add
abbrev pub PlaysOneMore : Exploration → Exploration → Type 0
PlaysOneMore old new = new.played + steps_left new < old.played + steps_left old + play_limit

abbrev pub NextPlays : List KeptRun → ℕ → Report → ℕ → Bool → Type 0
NextPlays kept old r new true = new ≡ played_after kept old r
NextPlays kept old r new false = new ≡ old
