-- This file proves that a listing plays no more steps than its runs have, and those of one play that was refused
-- memory.
-- Main lemmas: `next_played` and `next_once`.
use Rattle.std.proofs.Common.{◌≡◌, ℕ, ◌+◌, ◌<◌, ◌≤◌, [], Option, Some, None, Result, Ok, Err}
use Rattle.std.proofs.Common.{Bool, true, false, ◌&&◌, IfOk, IfSome, refl, ap, sym, subst, ◌∙◌, arith}
use Rattle.std.proofs.lemmas.Bool.{false≢true}
use Rattle.std.specs.Borrow.{Bor}
use Rattle.std.specs.declared.alloc.AllocError.{AllocError}
use Rattle.ptb_answers.specs.AskedQuestions.{answers_in}
use Rattle.ptb_answers.specs.Outcome.{Answers, IsReader}
use Rattle.ptb_devices.specs.Screens.{IsScreenFault}
use Rattle.ptb_explore.specs.declared.fault.ExploreFault.{ExploreFault}
use Rattle.ptb_explore.specs.declared.fault.ExploreFault.TheVariants.{Memory}
use Rattle.ptb_explore.specs.declared.report.Report.{Report}
use Rattle.ptb_explore.specs.Copies.{play_limit}
use Rattle.ptb_explore.specs.Explorations.{Exploration, FoundNext, NextLeaves, PlaysOneMore, PlaysRuns, Reports}
use Rattle.ptb_explore.specs.Explorations.{most_of, play_of, played_after, steps_left, steps_of_outcome, steps_of_runs}
use Rattle.ptb_explore.specs.Listing.{fault_after}
use Rattle.ptb_machine.specs.RunTree.{At, End, IsNextRun, begins_with, is_left, runs_after}
use Rattle.ptb_explore.proofs.NextRuns.{left_next, left_none}
use Rattle.ptb_text.specs.declared.device_fault.DeviceFault.{DeviceFault}
use Rattle.ptb_text.specs.declared.device_fault.DeviceFault.TheVariants as next

and_false : (b : Bool) → b && false ≡ false
and_false true = refl
and_false false = refl

-- ---- one after the other

-- each number is of the commands that were played and of those that are left: no more at a later place, or more by
-- less than one play can add

pub once_then : {first second third : ℕ} → second ≤ first → third < second + play_limit → third < first + play_limit
once_then h k = omega (arith, h, k)

pub plays_once : {first second : ℕ} → second ≤ first → second < first + play_limit
plays_once h = omega (arith, h)

-- ---- the next run

abbrev Found : Type 0
Found = Result (Option (Bor Report)) AllocError

-- past the last run none is left
pub none_left : (under b : Answers) → is_left under End b ≡ true → ⊥
none_left under b h = absurd (false≢true (sym (and_false (begins_with b under)) ∙ h))

abbrev steps_by : Exploration → Answers → ℕ
steps_by e a = steps_of_outcome (play_of e a)

module _ (old new : Exploration) (reads : IsReader (play_of old) (most_of old)) where
  -- it was played, and is no longer left
  found_plays : (r : Report) → FoundNext old r new → Reports (play_of old) r
      → IsNextRun (play_of old) old.prefix old.front (answers_in r.asked.items) → PlaysRuns old new
  found_plays r h reports first =
      let a = answers_in r.asked.items in
      let left : steps_left new
      ≡ steps_of_runs (steps_by old) (runs_after (play_of old) (most_of old) old.prefix (At a)) = ap steps_left h.now in
      let plays : new.played ≡ played_after old.kept old.played r = ap (λ (x : Exploration). x.played) h.now in
      let run : steps_of_outcome (play_of old a) ≡ r.steps = ap steps_of_outcome reports.outcome in
      let was : steps_left old ≡ steps_of_outcome (play_of old a) + steps_of_runs (steps_by old)
      (runs_after (play_of old) (most_of old) old.prefix (At a)) =
      ap (steps_of_runs (steps_by old)) (left_next (play_of old) (most_of old) reads old.prefix old.front a first) in
      omega (arith, left, plays, run, was)

  -- none is left
  last_plays : new ≡ record old { front = End; kept = [] } → PlaysRuns old new
  last_plays h =
      let left : steps_left new ≡ 0 =
      ap steps_left h ∙ ap (steps_of_runs (steps_by old))
      (left_none (play_of old) (most_of old) reads old.prefix End (λ b run k. absurd (none_left old.prefix b k))) in
      let plays : new.played ≡ old.played = ap (λ (x : Exploration). x.played) h in
      omega (arith, left, plays)

  next_plays : (o : Option (Bor Report)) → NextLeaves old (Ok o) new
      → IfSome o (λ r. Reports (play_of old) r.now)
      → IfSome o (λ r. IsNextRun (play_of old) old.prefix old.front (answers_in r.now.asked.items)) → PlaysRuns old new
  next_plays (Some r) h reports first = found_plays r.now h reports first
  next_plays None h reports first = last_plays h

  refused_plays : (e : AllocError) → NextLeaves old (Err e) new → PlaysOneMore old new
  refused_plays e h =
      let left : steps_left new ≡ steps_left old = ap steps_left h.now in
      omega (arith, left, h.once)

  -- by what the search for it promises
  module _ (result : Found) (h : NextLeaves old result new)
      (reports : IfOk result (λ o. IfSome o (λ r. Reports (play_of old) r.now)))
      (first : IfOk result (λ o. IfSome o (λ r. IsNextRun (play_of old) old.prefix old.front
      (answers_in r.now.asked.items)))) where
    pub next_played : (o : Option (Bor Report)) → result ≡ Ok o → PlaysRuns old new
    next_played o e = next_plays o (subst (λ (x : Found). NextLeaves old x new) e h)
        (subst (λ (x : Found). IfOk x (λ o. IfSome o (λ r. Reports (play_of old) r.now))) e reports)
        (subst (λ (x : Found). IfOk x (λ o. IfSome o (λ r. IsNextRun (play_of old) old.prefix old.front
        (answers_in r.now.asked.items)))) e first)

  pub next_once : (result : Found) → NextLeaves old result new
      → IfOk result (λ o. IfSome o (λ r. Reports (play_of old) r.now))
      → IfOk result (λ o. IfSome o (λ r. IsNextRun (play_of old) old.prefix old.front (answers_in r.now.asked.items)))
      → PlaysOneMore old new
  next_once (Ok o) h reports first = plays_once (next_plays o h reports first)
  next_once (Err e) h reports first = refused_plays e h

-- ---- at the end of a listing

write_no_memory : {T P : Type 0} → ◌≡◌ {A = Result T DeviceFault} (Err next.Write) (Err next.Memory) → P
write_no_memory h = absurd cc

-- where no memory was refused, it was not refused for the last report
pub ended_played : {S T P : Type 0} (x : DeviceFault) → IsScreenFault x
    → ((◌≡◌ {A = Result S DeviceFault} (Err x) (Err next.Memory) → ⊥) → P) → (n : ℕ)
    → ((k : ℕ) → ◌≡◌ {A = Result T ExploreFault} (Err (fault_after x n)) (Err (Memory k)) → ⊥) → P
ended_played next.Write s played n none = played (λ h. write_no_memory h)
ended_played next.Memory s played n none = absurd (none n refl)
ended_played next.Read s played n none = absurd s
ended_played next.TooLong s played n none = absurd s
