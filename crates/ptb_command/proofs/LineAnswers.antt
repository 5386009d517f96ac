-- This file proves the result of asking for a line, from what is known of each step.
-- Main lemmas: `answering_done` and `answering_fails`.
use Rattle.std.proofs.Common.{◌≡◌, ◌≤◌, ℕ, Bool, true, false, List, [], Option}
use Rattle.std.proofs.Common.{Some, None, Result, Ok, Err, ℤ, IfErr, IfOk, IfNone, subst, sym, Bor}
use Rattle.std.specs.Prelude.{if◌then◌else◌}
use Rattle.std.specs.Result.{IsErrAnd}
use Rattle.ptb_text.specs.declared.device_fault.DeviceFault.{DeviceFault}
use Rattle.ptb_devices.specs.Sources.{IsSourceFault, NoneLeft}
use Rattle.ptb_answers.specs.declared.pause.Pause.{Pause}
use Rattle.ptb_expr.specs.declared.store.Target.{Target}
use Rattle.ptb_expr.specs.Store.{Cells}
use Rattle.ptb_expr.specs.Tree.{Tree}
use Rattle.ptb_command.specs.declared.stop.CommandStop.{CommandStop}
use Rattle.ptb_command.specs.declared.stop.CommandStop.TheVariants as stops
use Rattle.ptb_command.specs.Act.{answer_instead, ask_for}
use Rattle.ptb_command.specs.Actions.{Action, goes_on}
use Rattle.ptb_command.specs.Act.{item_action}
use Rattle.ptb_command.specs.Devices.{Devices, nothing_refused, refused_answers, refused_by}
use Rattle.ptb_command.specs.Stops.{Stops, RefinesPartTo, Comes}
use Rattle.ptb_command.specs.Traces.{Trace, trace, with_pending, still_pending, RefinesPart}
use Rattle.ptb_command.proofs.Actions.{refines_part_on, stops_unrefused}
use Rattle.ptb_command.proofs.PendingBytes.{stops_none}
use Rattle.ptb_command.proofs.Dispatch.{answers_refused}
use Rattle.ptb_command.proofs.InputItems.{with_most, fewer_left, flush_stops, line_left}
use Rattle.ptb_command.proofs.InputItems.{take_ask_stops, take_unread, take_dry}
use Rattle.ptb_command.proofs.InputItems.{take_instead}
use Rattle.ptb_command.proofs.MissedLines.{none_more}
use Rattle.ptb_command.proofs.PartRefinement.{refines_part_then}
use Rattle.ptb_command.proofs.Stops.{comes_err, comes_after, comes_more, stops_after, stops_more}

-- The source has no line at hand, and can give so many; what is gathered is shown then.
pub waiting : {A : Type 0} {o m : Trace} (f : Action A) (v : A) (most : ℕ) (d : Devices) (fresh : Bool) (cells : Cells)
    (pending : List ℕ)
    → RefinesPart o m f (goes_on v) → most ≤ m.devices.most
    → RefinesPart (with_most most m) (trace d fresh cells) (goes_on (tt {0})) (goes_on (tt {0})) → pending ≡ []
    → RefinesPart o (with_pending pending (trace d fresh cells)) f (goes_on v)
waiting {o = o} {m = m} f v most d fresh cells pending a fewer b empty =
    let shown : RefinesPart (with_most most m) (trace d fresh cells) (goes_on v) (goes_on v) =
    refines_part_on (λ u. goes_on v) b in
    subst (λ (k : List ℕ). RefinesPart o (with_pending k (trace d fresh cells)) f (goes_on v)) (sym empty)
    (refines_part_then (refines_part_then a (fewer_left m most fewer (goes_on v))) shown)

-- The lines that were given so far had no value in front, and the item is to be done.
module _ (said : List ℕ) (x : Tree) (prompt : List ℕ) {i o : Trace}
    (was : RefinesPart i o (item_action said x prompt) (item_action said x prompt)) where
  -- it stops before a line is wanted
  pub answering_stops : {X : Type 0} (answers : Pause → ℤ → Type 0) (unread : DeviceFault → Type 0)
      (lines : Option (List (List ℕ))) (n : Trace) (ok : X → Action (Unit {0})) (r : Result X CommandStop)
      (e : CommandStop)
      → IsErrAnd r (λ y. y ≡ e)
      → Stops (refused_answers answers) (RefinesPartTo o (with_pending (still_pending n.pending e) n)
      (ask_for said x prompt))
      n.devices e
      → Comes (refused_by answers unread lines) i n (item_action said x prompt) ok r
  answering_stops answers unread lines n ok r e is h =
      let end = with_pending (still_pending n.pending e) n in
      comes_err (refused_by answers unread lines) i n (item_action said x prompt) ok r e is
      (stops_after (refused_by answers unread lines) end was e
      (take_ask_stops said x prompt (refused_by answers unread lines) o end e
      (stops_more (refused_answers answers) (refused_by answers unread lines) (answers_refused answers unread lines)
      o end (ask_for said x prompt) e h)))

  -- what is gathered before a line is waited for can't be shown
  pub answering_unshown : {X : Type 0} (answers : Pause → ℤ → Type 0) (unread : DeviceFault → Type 0)
      (lines : Option (List (List ℕ))) {m : Trace} (n : Trace) (at : Target) (ok : X → Action (Unit {0}))
      (r : Result X CommandStop) (e : CommandStop)
      → IsErrAnd r (λ y. y ≡ e) → RefinesPart o m (ask_for said x prompt) (goes_on at)
      → Stops nothing_refused (RefinesPartTo m (with_pending (still_pending n.pending e) n) (goes_on (tt {0})))
      n.devices e
      → Comes (refused_by answers unread lines) i n (item_action said x prompt) ok r
  answering_unshown answers unread lines {m = m} n at ok r e is comes h =
      let end = with_pending (still_pending n.pending e) n in
      comes_err (refused_by answers unread lines) i n (item_action said x prompt) ok r e is
      (stops_after (refused_by answers unread lines) end was e
      (flush_stops said x prompt (refused_by answers unread lines) end at e comes
      (stops_unrefused (refused_by answers unread lines) m end (goes_on (tt {0})) e h)))

  -- it has come to a target, and the source then holds so many lines at most
  module _ {m : Trace} (at : Target) (comes : RefinesPart o m (ask_for said x prompt) (goes_on at)) (most : ℕ) where
    -- the source fails
    pub answering_unread : {X : Type 0} (answers : Pause → ℤ → Type 0) (unread : DeviceFault → Type 0)
        (lines : Option (List (List ℕ))) (ok : X → Action (Unit {0})) (r : Result X CommandStop) (f : DeviceFault)
        → IsErrAnd r (λ y. y ≡ stops.Device f) → m.pending ≡ [] → most ≤ m.devices.most
        → (line : Result (Option (Bor (List ℕ))) DeviceFault) → line ≡ Err f → IfErr line IsSourceFault
        → IfErr line unread
        → Comes (refused_by answers unread lines) i (with_most most m) (item_action said x prompt) ok r
    answering_unread answers unread lines ok r f is empty fewer line fails k h =
        comes_err (refused_by answers unread lines) i (with_most most m) (item_action said x prompt) ok r
        (stops.Device f) is
        (stops_none (refused_by answers unread lines) i (with_most most m) (item_action said x prompt)
        (stops.Device f) empty
        (stops_after (refused_by answers unread lines) (with_most most m) was (stops.Device f)
        (take_unread said x prompt (refused_by answers unread lines) most at f
        (subst (λ (y : Result (Option (Bor (List ℕ))) DeviceFault). IfErr y IsSourceFault) fails k) fewer comes
        (subst (λ (y : Result (Option (Bor (List ℕ))) DeviceFault). IfErr y unread) fails h))))

    -- the source has none
    module _ (line : Result (Option (Bor (List ℕ))) DeviceFault) (none : line ≡ Ok None)
        (no_more : IfOk line (λ l. IfNone l (most ≡ 0))) where
      -- the run ends for lack of a line
      pub answering_ends : (answers : Pause → ℤ → Type 0) (unread : DeviceFault → Type 0)
          (lines : Option (List (List ℕ)))
          → m.pending ≡ [] → m.devices.choose ≡ None → IfOk line (λ l. IfNone l (NoneLeft lines))
          → Stops (refused_by answers unread lines) (RefinesPartTo i
          (with_pending (still_pending m.pending stops.NoInput)
          (with_most most m)) (item_action said x prompt)) (with_most most m).devices stops.NoInput
      answering_ends answers unread lines empty choose h =
          stops_none (refused_by answers unread lines) i (with_most most m)
          (item_action said x prompt) stops.NoInput empty
          (stops_after (refused_by answers unread lines) (with_most most m) was stops.NoInput
          (take_dry said x prompt (refused_by answers unread lines) most at
          (none_more (λ (z : ℕ). z) line none no_more) choose comes
          (subst (λ (y : Result (Option (Bor (List ℕ))) DeviceFault). IfOk y (λ l. IfNone l (NoneLeft lines))) none h)))

      -- an answer is asked for instead
      pub answering_instead : (answers : Pause → ℤ → Type 0) (unread : DeviceFault → Type 0)
          (lines : Option (List (List ℕ))) (n : Trace) (bound : ℤ)
          → m.devices.choose ≡ Some bound → (r : Result (Unit {0}) CommandStop)
          → Comes (refused_answers answers) (with_most most m) n (answer_instead bound at) (λ u. goes_on tt) r
          → Comes (refused_by answers unread lines) i n (item_action said x prompt) (λ u. goes_on tt) r
      answering_instead answers unread lines n bound choose r h =
          comes_after (refused_by answers unread lines) n (λ u. goes_on tt)
          (refines_part_then was
          (take_instead said x prompt most bound at (none_more (λ (z : ℕ). z) line none no_more) choose comes))
          r (comes_more (refused_answers answers) (refused_by answers unread lines)
          (answers_refused answers unread lines)
          (with_most most m) n (answer_instead bound at) (λ u. goes_on tt) r h)

-- A line was given, so this is left to do of the item.
module _ (said : List ℕ) (x : Tree) (prompt : List ℕ) (at : Target) (l : List ℕ) {i k : Trace}
    (given : RefinesPart i k (item_action said x prompt) (line_left said x prompt at l)) where
  -- a device fails, or a question is refused, before the item is done
  pub answering_fails : {X : Type 0} (answers : Pause → ℤ → Type 0) (unread : DeviceFault → Type 0)
      (lines : Option (List (List ℕ))) (n : Trace) (ok : X → Action (Unit {0})) (r : Result X CommandStop)
      (e : CommandStop)
      → IsErrAnd r (λ y. y ≡ e)
      → Stops (refused_answers answers)
      (RefinesPartTo k (with_pending (still_pending n.pending e) n) (line_left said x prompt at l)) n.devices e
      → Comes (refused_by answers unread lines) i n (item_action said x prompt) ok r
  answering_fails answers unread lines n ok r e is h =
      let end = with_pending (still_pending n.pending e) n in
      comes_err (refused_by answers unread lines) i n (item_action said x prompt) ok r e is
      (stops_after (refused_by answers unread lines) end given e
      (stops_more (refused_answers answers) (refused_by answers unread lines) (answers_refused answers unread lines)
      k end (line_left said x prompt at l) e h))

  -- the line has a value in front, or the item is to be done again
  pub answering_done : (n : Trace) (stored : Bool) → stored ≡ true
      → RefinesPart k n (line_left said x prompt at l) (if stored then goes_on tt else item_action said x prompt)
      → RefinesPart i n (item_action said x prompt) (goes_on tt)
  answering_done n stored is h =
      refines_part_then given (subst (λ (b : Bool). RefinesPart k n (line_left said x prompt at l)
      (if b then goes_on tt else item_action said x prompt)) is h)

  pub answering_again : (n : Trace) (stored : Bool) → stored ≡ false
      → RefinesPart k n (line_left said x prompt at l) (if stored then goes_on tt else item_action said x prompt)
      → RefinesPart i n (item_action said x prompt) (item_action said x prompt)
  answering_again n stored is h =
      refines_part_then given (subst (λ (b : Bool). RefinesPart k n (line_left said x prompt at l)
      (if b then goes_on tt else item_action said x prompt)) is h)
