-- This file proves what is left of bytes that are gathered, and not shown yet, where a part of a command stops.
-- Main lemma: `stops_pending`.
use Rattle.std.proofs.Common.{◌≡◌, Bool, true, false, cond, List, [], ◌∷◌, ◌++◌, ℕ, Result, Err, refl}
use Rattle.std.proofs.Common.{sym, ap, subst, ◌∙◌, append-nil}
use Rattle.ptb_answers.specs.Outcome.{Answers, Outcome}
use Rattle.ptb_command.specs.declared.stop.CommandStop.{CommandStop}
use Rattle.ptb_command.specs.declared.stop.CommandStop.TheVariants as stops
use Rattle.ptb_command.specs.State.{State}
use Rattle.ptb_command.specs.Actions.{Action}
use Rattle.ptb_command.specs.Devices.{Refusal}
use Rattle.ptb_command.specs.Traces.{Trace, with_pending, still_pending, following, once_shown, RefinesPart}
use Rattle.ptb_command.specs.Stops.{Stops, RefinesPartTo, Comes, still_shows}

pub after_is : (shown pending : List ℕ) → following shown pending ≡ shown ++ pending
after_is shown [] = sym (append-nil shown)
after_is shown (b ∷ pending) = refl

abbrev is_shown_at : CommandStop → Bool
is_shown_at e = still_shows {X = Unit {0}} (Err e)

none_either_way : (b : Bool) → ◌≡◌ {A = List ℕ} (cond b [] []) []
none_either_way true = refl
none_either_way false = refl

pending_is : (pending : List ℕ) (e : CommandStop) → still_pending pending e ≡ cond (is_shown_at e) pending []
pending_is [] e = sym (none_either_way (is_shown_at e))
pending_is (b ∷ pending) (stops.Fault f) = refl
pending_is (b ∷ pending) stops.Over = refl
pending_is (b ∷ pending) stops.NoInput = refl
pending_is (b ∷ pending) (stops.Pause z) = refl
pending_is (b ∷ pending) (stops.Device fault) = refl

pub pending_stays : (pending : List ℕ) (e : CommandStop) → is_shown_at e ≡ true → still_pending pending e ≡ pending
pending_stays pending e h = pending_is pending e ∙ ap (λ (k : Bool). cond k pending []) h

pub pending_goes : (pending : List ℕ) (e : CommandStop) → is_shown_at e ≡ false → still_pending pending e ≡ []
pending_goes pending e h = pending_is pending e ∙ ap (λ (k : Bool). cond k pending []) h

-- what is dropped is left to do
pub refines_part_dropped : {A : Type 0} {o n : Trace} {f g : State → Answers → Outcome A State} → RefinesPart o n f g
    → RefinesPart o (with_pending [] n) f (λ S. g (once_shown n.pending S))
refines_part_dropped m = record { exchange = m.exchange; exchanges = m.exchanges; fresh = m.fresh; leaves = m.leaves }

-- where it is shown later, and where it isn't
pub stops_pending : {A : Type 0} (refused : Refusal → Type 0) (o n : Trace) (f : Action A) (e : CommandStop)
    → is_shown_at e ≡ true
    → Stops refused (RefinesPartTo o n f) n.devices e
    → Stops refused (RefinesPartTo o (with_pending (still_pending n.pending e) n) f) n.devices e
stops_pending refused o n f e k h = subst (λ (pending : List ℕ). Stops refused
    (RefinesPartTo o (with_pending pending n) f) n.devices e)
    (sym (pending_stays n.pending e k)) h

pub stops_dropped : {A : Type 0} (refused : Refusal → Type 0) (o n : Trace) (f : Action A) (e : CommandStop)
    → is_shown_at e ≡ false → Stops refused (RefinesPartTo o (with_pending [] n) f) n.devices e
    → Stops refused (RefinesPartTo o (with_pending (still_pending n.pending e) n) f) n.devices e
stops_dropped refused o n f e k h = subst
    (λ (pending : List ℕ). Stops refused (RefinesPartTo o (with_pending pending n) f) n.devices e)
    (sym (pending_goes n.pending e k)) h

-- where nothing is gathered
pub stops_none : {A : Type 0} (refused : Refusal → Type 0) (o n : Trace) (f : Action A) (e : CommandStop)
    → n.pending ≡ []
    → Stops refused (RefinesPartTo o n f) n.devices e
    → Stops refused (RefinesPartTo o (with_pending (still_pending n.pending e) n) f) n.devices e
stops_none refused o n f e none h =
    subst (λ (pending : List ℕ). Stops refused (RefinesPartTo o (with_pending pending n) f) n.devices e)
    (none ∙ sym (ap (λ (pending : List ℕ). still_pending pending e) none)) h

pub comes_emptied : {A X : Type 0} (refused : Refusal → Type 0) (o n : Trace) (f : Action A) (ok : X → Action A)
    (pending : List ℕ)
    → pending ≡ [] → (r : Result X CommandStop) → Comes refused o (with_pending [] n) f ok r
    → Comes refused o (with_pending pending n) f ok r
comes_emptied refused o n f ok pending none r h = subst (λ (x : List ℕ). Comes refused o (with_pending x n) f ok r)
    (sym none) h
