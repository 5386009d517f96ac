-- This file proves how stops are put together: what stops a part of a command stops the command.
-- Main lemma: `stops_before`.
use Rattle.std.proofs.Common.{◌≡◌, ℕ, List, ◌++◌, Option, Some, None, Result, Ok, Err, ℤ, refl, sym, ap, subst, ◌∙◌}
use Rattle.std.specs.Result.{IsErrAnd}
use Rattle.std.proofs.lemmas.Result.{err_from_is_err_and}
use Rattle.ptb_expr.specs.declared.fault.Fault.{Fault}
use Rattle.ptb_answers.specs.declared.pause.Pause.{Pause}
use Rattle.ptb_answers.specs.declared.pause.Pause.TheVariants as pauses
use Rattle.ptb_answers.specs.Outcome.{Answers, Outcome, Done, Asks, Out, go_on}
use Rattle.ptb_answers.specs.Choices.{SaysOut}
use Rattle.ptb_expr.specs.Store.{Cells}
use Rattle.ptb_expr.specs.Value.{Work}
use Rattle.ptb_command.specs.declared.ending.Ending.TheVariants as endings
use Rattle.ptb_text.specs.declared.device_fault.DeviceFault.{DeviceFault}
use Rattle.ptb_command.specs.declared.stop.CommandStop.{CommandStop}
use Rattle.ptb_command.specs.declared.stop.CommandStop.TheVariants as stops
use Rattle.ptb_command.specs.State.{State}
use Rattle.ptb_command.specs.Commands.{Part}
use Rattle.ptb_command.specs.Actions.{Ends, Progress, Goes, Halts, Action, on_progress, and_then, evaluation, or_halt}
use Rattle.ptb_command.specs.Act.{parts_action}
use Rattle.ptb_command.specs.Effects.{action_state, Begins, TakesLines}
use Rattle.ptb_command.specs.Devices.{Devices, with_screen, Refusal, Unanswered, NoLine}
use Rattle.ptb_command.specs.Traces.{Trace, with_pending, still_pending, RefinesPart}
use Rattle.ptb_command.specs.Stops.{AsksNext, DeviceFails, Continues, LacksLine, WantsLine, Stops, RefinesPartTo, Comes}
use Rattle.ptb_command.proofs.Effects.{Preserves, begins_itself, begins_joined, takes_itself}
use Rattle.ptb_command.proofs.Effects.{takes_joined, evaluation_state, parts_part, parts_take}
use Rattle.ptb_command.proofs.Exchanges.{has_broken_from}
use Rattle.ptb_command.proofs.PartRefinement.{refines_part_then, refines_part_under}

-- ---- actions take back nothing that was shown, and give back no line

pub record GoesForward (S T : State) : Type 0 where
  pub shown : Begins S.shown T.shown
  pub lines : TakesLines S.lines T.lines

pub forward_itself : (S : State) → GoesForward S S
forward_itself S = record { shown = begins_itself S.shown; lines = takes_itself S.lines }

pub forward_joined : (S T U : State) → GoesForward S T → GoesForward T U → GoesForward S U
forward_joined S T U p q = record {
  shown = begins_joined S.shown T.shown U.shown p.shown q.shown;
  lines = takes_joined S.lines T.lines U.lines p.lines q.lines;
}

abbrev pub Adds : {A : Type 0} → Action A → Type 0
Adds m = Preserves GoesForward m

pub parts_add : (parts : List Part) (w : ℕ) (operands : List ℤ) → Adds (parts_action parts w operands)
parts_add parts w operands = record {
  at = λ S a. record {
    shown = ((parts_part parts w operands).at S a).shown;
    lines = (parts_take parts w operands).at S a;
  };
}

-- working something out changes nothing
pub evaluation_adds : {A : Type 0} (f : Cells → Work A) → Adds (evaluation f)
evaluation_adds f = record { at = λ S a. subst (GoesForward S) (sym (evaluation_state f S a)) (forward_itself S) }

-- a fault halts, and shows nothing
pub or_halt_adds : {A : Type 0} (r : Result A Fault) → Adds (or_halt r)
or_halt_adds (Ok v) = record { at = λ S a. forward_itself S }
or_halt_adds (Err e) = record { at = λ S a. forward_itself S }

begins_before : {A B : Type 0} (next : A → Action B) → ((x : A) → Adds (next x))
    → (shown : List ℕ) (o : Outcome (Progress A) State) → Begins shown (action_state o).shown
    → Begins shown (action_state (go_on o (on_progress next))).shown
begins_before next adds shown (Done (Goes x S) rest) b = begins_joined shown S.shown _ b ((adds x).at S rest).shown
begins_before next adds shown (Done (Halts h S) rest) b = b
begins_before next adds shown (Asks n S) b = b
begins_before next adds shown (Out n S) b = b

takes_before : {A B : Type 0} (next : A → Action B) → ((x : A) → Adds (next x))
    → (lines : List (List ℕ)) (o : Outcome (Progress A) State) → TakesLines lines (action_state o).lines
    → TakesLines lines (action_state (go_on o (on_progress next))).lines
takes_before next adds lines (Done (Goes x S) rest) t = takes_joined lines S.lines _ t ((adds x).at S rest).lines
takes_before next adds lines (Done (Halts h S) rest) t = t
takes_before next adds lines (Asks n S) t = t
takes_before next adds lines (Out n S) t = t

lacks_before : {A B : Type 0} (into : Outcome A State → Outcome B State) (ends : State → A) (over : State → B)
    → ((S : State) (a : Answers) → into (Done (ends S) a) ≡ Done (over S) a)
    → ((n : ℤ) (S : State) → into (Asks n S) ≡ Asks n S)
    → (left : State → Answers → Outcome A State) (S : State) (choose : Option ℤ) → LacksLine choose ends left S
    → LacksLine choose over (λ S a. into (left S a)) S
lacks_before into ends over same asks left S None w = λ a. ap into (w a) ∙ same S a
lacks_before into ends over same asks left S (Some n) w = λ h. ap into (w h) ∙ asks n S

-- what wants a line wants it before what comes next
pub wants_before : {A B : Type 0} (into : Outcome A State → Outcome B State) (ends : State → A) (over : State → B)
    → ((S : State) (a : Answers) → into (Done (ends S) a) ≡ Done (over S) a)
    → ((n : ℤ) (S : State) → into (Asks n S) ≡ Asks n S)
    → (part : List ℕ) (left : State → Answers → Outcome A State) → WantsLine ends part left
    → WantsLine over part (λ S a. into (left S a))
wants_before into ends over same asks part left w =
    (w.0, λ S k. lacks_before into ends over same asks left S S.choose (w.1 S k))

-- ---- before what comes next

pub out_before : {A B V W : Type 0} (into : Outcome A V → Outcome B W) (beside : V → W)
    → ((n : ℤ) (v : V) → into (Out n v) ≡ Out n (beside v)) → (f : Answers → Outcome A V) (n : ℤ) (v : V) (z : Pause)
    → SaysOut f n v z → SaysOut (λ a. into (f a)) n (beside v) z
out_before into beside outs f n v pauses.Ended h = tt
out_before into beside outs f n v (pauses.OutOfRange k) h = λ later. ap into (h later) ∙ outs n v
out_before into beside outs f n v pauses.Memory h = tt

pub asks_before : {A B V W : Type 0} (into : Outcome A V → Outcome B W) (beside : V → W)
    → ((n : ℤ) (v : V) → into (Asks n v) ≡ Asks n (beside v)) → ((n : ℤ) (v : V) → into (Out n v) ≡ Out n (beside v))
    → (f : Answers → Outcome A V) (n : ℤ) (v : V) (z : Pause) → AsksNext f n v z
    → AsksNext (λ a. into (f a)) n (beside v) z
asks_before into beside asks outs f n v z h =
    record { asks = ap into h.asks ∙ asks n v; outside = out_before into beside outs f n v z h.outside }

continues_before : {A B : Type 0} (next : A → Action B) → ((x : A) → Adds (next x))
    → (shown : State → List ℕ) (left : Action A) → Continues action_state shown left
    → Continues action_state shown (and_then left next)
continues_before next adds shown left h = record {
  begins = λ S a. begins_before next adds (shown S) (left S a) (h.begins S a);
  takes = λ S a. takes_before next adds S.lines (left S a) (h.takes S a);
}

-- what stops an action stops it before what comes next
module _ {A B : Type 0} (refused : Refusal → Type 0) (R : Devices → Action A → Type 0) (Q : Devices → Action B
    → Type 0) (next : A → Action B) (adds : (x : A) → Adds (next x)) (under : (d : Devices) (g : Action A) → R d g
    → Q d (and_then g next)) (n : Devices) where
  breaks_before : (fault : DeviceFault) → DeviceFails refused R n action_state (Halts (Ends endings.NoInput)) fault
      → DeviceFails refused Q n action_state (Halts (Ends endings.NoInput)) fault
  breaks_before fault h = record {
    left = and_then h.left next;
    screen = h.screen;
    bytes = h.bytes;
    comes = under (with_screen h.screen n) h.left h.comes;
    shows = h.shows;
    continues = continues_before next adds (λ S. S.shown ++ h.bytes) h.left h.continues;
    line = λ unread. wants_before (λ o. go_on o (on_progress next)) (Halts (Ends endings.NoInput))
        (Halts (Ends endings.NoInput)) (λ S a. refl) (λ n S. refl) h.bytes h.left (h.line unread);
    broken = h.broken;
  }

  pub stops_before : (e : CommandStop) → Stops refused R n e → Stops refused Q n e
  stops_before (stops.Fault f) h = under n _ h
  stops_before stops.Over h = under n _ h
  stops_before stops.NoInput h = record {
    left = and_then h.left next;
    comes = under n h.left h.comes;
    dry = λ S a e. ap (λ o. go_on o (on_progress next)) (h.dry S a e);
    refuses = h.refuses;
  }
  stops_before (stops.Pause z) h = record {
    left = and_then h.left next;
    bound = h.bound;
    comes = under n h.left h.comes;
    question = λ S. asks_before (λ o. go_on o (on_progress next)) (λ T. T) (λ k T. refl) (λ k T. refl)
        (h.left S) h.bound S z (h.question S);
    continues = continues_before next adds (λ S. S.shown) h.left h.continues;
    pause = h.pause;
    refuses = h.refuses;
  }
  stops_before (stops.Device fault) h = breaks_before fault h

-- what has come from one action has come from another that leads to it, even if more may be refused
module _ {A : Type 0} (refused others : Refusal → Type 0) (more : (r : Refusal) → refused r → others r) (R Q : Devices
    → Action A → Type 0) (along : (d : Devices) (g : Action A) → R d g → Q d g) (n : Devices) where
  breaks_along : (fault : DeviceFault) → DeviceFails refused R n action_state (Halts (Ends endings.NoInput)) fault
      → DeviceFails others Q n action_state (Halts (Ends endings.NoInput)) fault
  breaks_along fault h = record {
    left = h.left;
    screen = h.screen;
    bytes = h.bytes;
    comes = along (with_screen h.screen n) h.left h.comes;
    shows = h.shows;
    continues = h.continues;
    line = h.line;
    broken = has_broken_from refused others more h.screen h.screen n.screen refl refl fault h.broken;
  }

  pub stops_along : (e : CommandStop) → Stops refused R n e → Stops others Q n e
  stops_along (stops.Fault f) h = along n _ h
  stops_along stops.Over h = along n _ h
  stops_along stops.NoInput h = record {
    left = h.left;
    comes = along n h.left h.comes;
    dry = h.dry;
    refuses = more NoLine h.refuses;
  }
  stops_along (stops.Pause z) h = record {
    left = h.left;
    bound = h.bound;
    comes = along n h.left h.comes;
    question = h.question;
    continues = h.continues;
    pause = h.pause;
    refuses = more (Unanswered z h.bound) h.refuses;
  }
  stops_along (stops.Device fault) h = breaks_along fault h

-- ---- from trace to trace

pub stops_under : {A B : Type 0} (refused : Refusal → Type 0) (o n : Trace) (f : Action A) (next : A → Action B)
    → ((x : A) → Adds (next x)) → (e : CommandStop) → Stops refused (RefinesPartTo o n f) n.devices e
    → Stops refused (RefinesPartTo o n (and_then f next)) n.devices e
stops_under refused o n f next adds e h =
    stops_before refused (RefinesPartTo o n f) (RefinesPartTo o n (and_then f next)) next adds
    (λ d g m. refines_part_under next m) n.devices e h

pub stops_after : {A : Type 0} (refused : Refusal → Type 0) {o m : Trace} (n : Trace) {f g : Action A}
    → RefinesPart o m f g → (e : CommandStop) → Stops refused (RefinesPartTo m n g) n.devices e
    → Stops refused (RefinesPartTo o n f) n.devices e
stops_after refused {o = o} {m = m} n {f = f} {g = g} a e h =
    stops_along refused refused (λ r x. x) (RefinesPartTo m n g) (RefinesPartTo o n f)
    (λ d k b. refines_part_then a b) n.devices e h

pub stops_more : {A : Type 0} (refused others : Refusal → Type 0) → ((r : Refusal) → refused r → others r)
    → (o n : Trace) (f : Action A) (e : CommandStop) → Stops refused (RefinesPartTo o n f) n.devices e
    → Stops others (RefinesPartTo o n f) n.devices e
stops_more refused others more o n f e h =
    stops_along refused others more (RefinesPartTo o n f) (RefinesPartTo o n f) (λ d k b. b) n.devices e h

pub comes_after : {A X : Type 0} (refused : Refusal → Type 0) {o m : Trace} (n : Trace) {f g : Action A}
    (ok : X → Action A)
    → RefinesPart o m f g → (r : Result X CommandStop) → Comes refused m n g ok r → Comes refused o n f ok r
comes_after refused n ok a (Ok x) h = refines_part_then a h
comes_after refused n ok a (Err e) h = stops_after refused (with_pending (still_pending n.pending e) n) a e h

pub comes_more : {A X : Type 0} (refused others : Refusal → Type 0) → ((r : Refusal) → refused r → others r)
    → (o n : Trace) (f : Action A) (ok : X → Action A) (r : Result X CommandStop) → Comes refused o n f ok r
    → Comes others o n f ok r
comes_more refused others more o n f ok (Ok x) h = h
comes_more refused others more o n f ok (Err e) h =
    stops_more refused others more o (with_pending (still_pending n.pending e) n) f e h

-- at the exit of a `?`
pub comes_err : {A X : Type 0} (refused : Refusal → Type 0) (o n : Trace) (f : Action A) (ok : X → Action A)
    (r : Result X CommandStop) (e : CommandStop)
    → IsErrAnd r (λ y. y ≡ e) → Stops refused (RefinesPartTo o (with_pending (still_pending n.pending e) n) f) n.devices
    e
    → Comes refused o n f ok r
comes_err {A = A} {X = X} refused o n f ok r e k s =
    let p = err_from_is_err_and r k in
    subst (λ (x : Result X CommandStop). Comes refused o n f ok x) (sym (p.1 ∙ ap Err p.2)) s
