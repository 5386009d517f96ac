-- This file proves the results of gathering bytes and of showing them together.
-- Main lemma: `finished`.
use Rattle.std.proofs.Common.{◌≡◌, Bool, true, false, List, [], ◌++◌, ℕ, Result, Ok, Err, sym, ap, subst, ◌∙◌}
use Rattle.std.proofs.Common.{append_assoc}
use Rattle.ptb_expr.specs.Store.{Cells}
use Rattle.ptb_command.specs.declared.ending.Ending.TheVariants as endings
use Rattle.ptb_command.specs.declared.stop.CommandStop.{CommandStop}
use Rattle.ptb_command.specs.declared.stop.CommandStop.TheVariants as stops
use Rattle.ptb_command.specs.State.{State}
use Rattle.ptb_command.specs.Actions.{Faults, Ends, Action, goes_on, halt, show}
use Rattle.ptb_command.specs.Devices.{Devices, Refusal, no_exchange, nothing_refused}
use Rattle.ptb_command.specs.Traces.{Trace, trace, with_pending, still_pending, following, once_shown, state_after}
use Rattle.ptb_command.specs.Traces.{Leaves, RefinesPart}
use Rattle.ptb_command.specs.Stops.{Stops, RefinesPartTo, Comes, still_shows}
use Rattle.ptb_command.proofs.Actions.{show_adds, halt_adds, refines_part_on, stops_unrefused}
use Rattle.ptb_command.proofs.PendingBytes.{after_is, pending_stays, pending_goes}
use Rattle.ptb_command.proofs.Exchanges.{exchanges_none}
use Rattle.ptb_command.proofs.PartRefinement.{leaves_to, leaves_itself, after_nothing, freshens_nothing}
use Rattle.ptb_command.proofs.PartRefinement.{refines_part_then}
use Rattle.ptb_command.proofs.Stops.{Adds, stops_along, stops_after, comes_after, stops_under}

-- nothing is done
abbrev idle : Action (Unit {0})
idle = goes_on tt

-- ---- more is gathered

after_more : (shown pending bytes : List ℕ) → following shown pending ++ bytes ≡ following shown (pending ++ bytes)
after_more shown pending bytes = ap (λ s. s ++ bytes) (after_is shown pending) ∙ append_assoc shown pending bytes
    ∙ sym (after_is shown (pending ++ bytes))

gathered_more : (o : Trace) (pending bytes : List ℕ)
    → RefinesPart (with_pending pending o) (with_pending (pending ++ bytes) o) (show bytes) idle
gathered_more o pending bytes = record {
  exchange = no_exchange;
  exchanges = exchanges_none o.devices;
  fresh = freshens_nothing o.fresh;
  leaves = λ S rest _ w.
      leaves_to (idle (once_shown (pending ++ bytes) (state_after o [] rest S)))
      (ap (λ (s : List ℕ). idle (record S { shown = s })) (after_more S.shown pending bytes)
      ∙ ap (λ (T : State). idle (once_shown (pending ++ bytes) T)) (after_nothing (with_pending pending o) rest S w))
      (leaves_itself (show bytes (once_shown pending S)));
}

pub gathered : (o : Trace) (old new bytes : List ℕ) → new ≡ old ++ bytes
    → RefinesPart (with_pending old o) (with_pending new o) (show bytes) idle
gathered o old new bytes e = subst (λ (pending : List ℕ). RefinesPart (with_pending old o) (with_pending pending o)
    (show bytes) idle)
    (sym e) (gathered_more o old bytes)

-- ---- what was gathered is shown

module _ (d : Devices) (fresh : Bool) (cells : Cells) (pending : List ℕ) where
  pending_shown : {n : Trace} {g : Action (Unit {0})} → RefinesPart (trace d fresh cells) n (show pending) g
      → RefinesPart (with_pending pending (trace d fresh cells)) n idle g
  pending_shown {n = n} {g = g} m = record {
    exchange = m.exchange;
    exchanges = m.exchanges;
    fresh = m.fresh;
    leaves = λ S rest f w.
        subst (λ (s : List ℕ). Leaves (idle (record S { shown = s })) m.exchange.answers m.exchange.bounds
        (g (once_shown n.pending (state_after n m.exchange.bytes rest S))))
        (sym (after_is S.shown pending))
        (m.leaves S rest f (record { fresh = w.fresh; cells = w.cells; lines = w.lines }));
  }

  pub flush_comes : (n : Trace) (r : Result (Unit {0}) CommandStop)
      → Comes nothing_refused (trace d fresh cells) n (show pending) goes_on r
      → Comes nothing_refused (with_pending pending (trace d fresh cells)) n idle goes_on r
  flush_comes n (Ok x) h = pending_shown h
  flush_comes n (Err e) h =
      let k = with_pending (still_pending n.pending e) n in
      stops_along nothing_refused nothing_refused (λ r x. x) (RefinesPartTo (trace d fresh cells) k (show pending))
      (RefinesPartTo (with_pending pending (trace d fresh cells)) k idle) (λ j g m. pending_shown m) k.devices e h

-- ---- before bytes for which there was no room

-- nothing is gathered then
module _ (o : Trace) (d : Devices) (fresh : Bool) (cells : Cells) (pending bytes : List ℕ) (none : pending ≡ []) where
  pub unflushed : (e : CommandStop) → Stops nothing_refused (RefinesPartTo o (trace d fresh cells) idle) d e
      → Stops nothing_refused (RefinesPartTo o (with_pending (still_pending pending e) (trace d fresh cells))
      (show bytes)) d e
  unflushed e h =
      subst (λ (x : List ℕ). Stops nothing_refused
      (RefinesPartTo o (with_pending (still_pending x e) (trace d fresh cells)) (show bytes)) d e) (sym none)
      (stops_under nothing_refused o (trace d fresh cells) idle (λ u. show bytes) (λ u. show_adds bytes) e h)

  pub flushed_gathered : (new : List ℕ) → new ≡ pending ++ bytes → RefinesPart o (trace d fresh cells) idle idle
      → RefinesPart o (with_pending new (trace d fresh cells)) (show bytes) idle
  flushed_gathered new e a = refines_part_then (refines_part_on (λ u. show bytes) a)
      (gathered (trace d fresh cells) [] new bytes (e ∙ ap (λ (x : List ℕ). x ++ bytes) none))

  pub flushed_shown : (new : List ℕ) → new ≡ pending → (l : Devices) (now : Bool) (r : Result (Unit {0}) CommandStop)
      → RefinesPart o (trace d fresh cells) idle idle
      → Comes nothing_refused (trace d fresh cells) (trace l now cells) (show bytes) goes_on r
      → Comes nothing_refused o (with_pending new (trace l now cells)) (show bytes) goes_on r
  flushed_shown new e l now r a h =
      subst (λ (x : List ℕ). Comes nothing_refused o (with_pending x (trace l now cells)) (show bytes) goes_on r)
      (sym (e ∙ none))
      (comes_after nothing_refused (trace l now cells) goes_on (refines_part_on (λ u. show bytes) a) r h)

-- ---- the end of a command

-- where nothing more is shown
pub unfinished : {A X : Type 0} (refused : Refusal → Type 0) (o : Trace) (d : Devices) (fresh : Bool) (cells : Cells)
    (pending : List ℕ) (f : Action A) (ok : X → Action A) (r : Result X CommandStop)
    → still_shows r ≡ false → Comes refused o (with_pending pending (trace d fresh cells)) f ok r
    → Comes refused o (trace d fresh cells) f ok r
unfinished refused o d fresh cells pending f ok (Ok x) k h = cc
unfinished refused o d fresh cells pending f ok (Err e) k h =
    subst (λ (x : List ℕ). Stops refused (RefinesPartTo o (with_pending x (trace d fresh cells)) f) d e)
    (pending_goes pending e k) h

module _ {A X : Type 0} (refused : Refusal → Type 0) (o m : Trace) (f : Action A) (ok : X → Action A) where
  stop_there : (e : CommandStop) → still_shows {X = X} (Err e) ≡ true → Comes refused o m f ok (Err e)
      → Stops refused (RefinesPartTo o m f) m.devices e
  stop_there e k h = subst (λ (x : List ℕ). Stops refused (RefinesPartTo o (with_pending x m) f) m.devices e)
      (pending_stays m.pending e k) h

  -- what was gathered is shown
  pub finished : (d : Devices) (fresh : Bool) (cells : Cells) → RefinesPart m (trace d fresh cells) idle idle
      → (r : Result X CommandStop) → still_shows r ≡ true → Comes refused o m f ok r
      → Comes refused o (trace d fresh cells) f ok r
  finished d fresh cells a (Ok x) k h = refines_part_then h (refines_part_on (λ u. ok x) a)
  finished d fresh cells a (Err (stops.Fault x)) k h =
      refines_part_then (stop_there (stops.Fault x) k h) (refines_part_on (λ u. halt (Faults x)) a)
  finished d fresh cells a (Err stops.Over) k h =
      refines_part_then (stop_there stops.Over k h) (refines_part_on (λ u. halt (Ends endings.Stop)) a)
  finished d fresh cells a (Err stops.NoInput) k h = cc
  finished d fresh cells a (Err (stops.Pause z)) k h =
      let w = stop_there (stops.Pause z) k h in
      record {
        left = w.left;
        bound = w.bound;
        comes = refines_part_then w.comes (refines_part_on (λ u. w.left) a);
        question = w.question;
        continues = w.continues;
        pause = w.pause;
        refuses = w.refuses;
      }
  finished d fresh cells a (Err (stops.Device fault)) k h = cc

  -- the screen breaks
  module _ (n : Trace) (adds : (x : X) → Adds (ok x)) (e : CommandStop)
      (s : Stops nothing_refused (RefinesPartTo m n idle) n.devices e) where
    breaks_before : (g : Action A) → Adds g → RefinesPart o m f g → Stops refused (RefinesPartTo o n f) n.devices e
    breaks_before g goes h = stops_after refused n h e
        (stops_unrefused refused m n g e (stops_under nothing_refused m n idle (λ u. g) (λ u. goes) e s))

    pub finish_breaks : (r : Result X CommandStop) → still_shows r ≡ true → Comes refused o m f ok r
        → Stops refused (RefinesPartTo o n f) n.devices e
    finish_breaks (Ok x) k h = breaks_before (ok x) (adds x) h
    finish_breaks (Err (stops.Fault x)) k h =
        breaks_before (halt (Faults x)) (halt_adds (Faults x)) (stop_there (stops.Fault x) k h)
    finish_breaks (Err stops.Over) k h =
        breaks_before (halt (Ends endings.Stop)) (halt_adds (Ends endings.Stop)) (stop_there stops.Over k h)
    finish_breaks (Err stops.NoInput) k h = cc
    finish_breaks (Err (stops.Pause z)) k h =
        let w = stop_there (stops.Pause z) k h in
        breaks_before w.left
        (record { at = λ S a. record { shown = w.continues.begins S a; lines = w.continues.takes S a } }) w.comes
    finish_breaks (Err (stops.Device fault)) k h = cc
