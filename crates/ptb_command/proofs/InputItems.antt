-- This file proves the result of an item of INPUT, step by step.
-- Main lemmas: `line_asked` and `take_dry`.
use Rattle.std.proofs.Common.{◌≡◌, ◌≤◌, ◌+◌, ℕ, Bool, true, List, [], ◌∷◌, ◌++◌, Option, Some, None}
use Rattle.std.proofs.Common.{Result, Ok, Err, ℤ, pos, refl, sym, ap, subst, ◌∙◌, append_assoc}
use Rattle.std.proofs.Common.{append-nil, arith, inl, inr, Bor}
use Rattle.std.proofs.lemmas.Int.{ints}
use Rattle.std.specs.Prelude.{if◌then◌else◌, int_le, ◌≤ℤ◌}
use Rattle.std.specs.Fmt.{signed_decimal}
use Rattle.ptb_expr.specs.declared.fault.FaultKind.TheVariants.{How}
use Rattle.std.proofs.Math.Path.{fun_ext}
use Rattle.ptb_expr.specs.declared.fault.Fault.{Fault}
use Rattle.ptb_expr.specs.declared.fault.Stop.{Stop as NoValue}
use Rattle.ptb_expr.specs.declared.fault.Stop.TheVariants as values
use Rattle.ptb_answers.specs.declared.pause.Pause.{Pause}
use Rattle.ptb_expr.specs.declared.store.Target.{Target}
use Rattle.ptb_answers.specs.Choices.{Choices}
use Rattle.ptb_expr.specs.Evaluation.{WorkComes}
use Rattle.ptb_answers.specs.Outcome.{Answers, Outcome, Done, Asks, Out, go_on, map_outcome, failure, answer}
use Rattle.ptb_expr.specs.Reading.{item_of, expression}
use Rattle.ptb_expr.specs.Store.{Cells}
use Rattle.ptb_expr.specs.Tree.{Tree}
use Rattle.ptb_expr.specs.Value.{Work, fault, random_number, chosen, value}
use Rattle.ptb_command.specs.declared.ending.Ending.TheVariants as endings
use Rattle.ptb_text.specs.declared.device_fault.DeviceFault.{DeviceFault}
use Rattle.ptb_text.specs.declared.device_fault.DeviceFault.TheVariants as reads
use Rattle.ptb_devices.specs.Sources.{IsSourceFault}
use Rattle.ptb_command.specs.declared.stop.CommandStop.{CommandStop}
use Rattle.ptb_command.specs.declared.stop.CommandStop.TheVariants as stops
use Rattle.ptb_command.specs.Commands.{Part, Take}
use Rattle.ptb_command.specs.State.{State}
use Rattle.ptb_command.specs.Actions.{Ends, Progress, Goes, Halts, Action, on_progress, and_then}
use Rattle.ptb_command.specs.Actions.{goes_on, halt, show, evaluation, or_halt, work_action}
use Rattle.ptb_command.specs.Act.{newline, fault_word, target_action, store, take_line, ask_for}
use Rattle.ptb_command.specs.Act.{store_or_again, answer_instead, without_line, input_action}
use Rattle.ptb_command.specs.Act.{parts_action}
use Rattle.ptb_command.specs.Act.{item_action}
use Rattle.ptb_command.specs.Effects.{action_state}
use Rattle.ptb_devices.specs.Sources.{given_lines}
use Rattle.ptb_command.specs.Devices.{Devices, Exchanges, no_exchange, with_choices, Refusal}
use Rattle.ptb_command.specs.Devices.{Unread, NoLine, refused_answers}
use Rattle.ptb_command.specs.Devices.{HasBroken}
use Rattle.ptb_command.specs.Traces.{Trace, trace, with_pending, still_pending, state_after, once_shown, RefinesPart}
use Rattle.ptb_command.specs.Stops.{stop_of, LacksLine, WantsLine, DeviceFails, Stops}
use Rattle.ptb_command.specs.Stops.{RefinesPartTo, Comes}
use Rattle.ptb_command.proofs.Effects.{takes_joined, ask_lines, input_part, input_takes}
use Rattle.ptb_expr.proofs.PublicLemmas.{with_answers_nil}
use Rattle.ptb_command.proofs.Exchanges.{shows_nothing}
use Rattle.ptb_command.proofs.PartRefinement.{leaves_to, leaves_itself, after_nothing, once_nothing}
use Rattle.ptb_command.proofs.PartRefinement.{freshens_nothing, refines_part_refl}
use Rattle.ptb_command.proofs.PartRefinement.{refines_part_then}
use Rattle.ptb_command.proofs.Stops.{GoesForward, forward_itself, Adds, parts_add, evaluation_adds, stops_after}
use Rattle.ptb_command.proofs.Stops.{stops_under}
use Rattle.ptb_command.proofs.Actions.{goes_adds, show_adds, then_adds, work_action_adds, refines_part_on}
use Rattle.ptb_command.proofs.Assignments.{store_adds}
use Rattle.ptb_command.proofs.Parts.{refines_part_part, stops_part}
use Rattle.ptb_command.proofs.Pieces.{both_move, first_stops, second_stops}
use Rattle.ptb_command.proofs.WorkedParts.{has_result, has_paused, has_value, has_no_value}

-- ---- a line is worth a value, or has a fault

abbrev pub line_value : List ℕ → Action (Result ℤ Fault)
line_value l = evaluation (λ c. value c (item_of (expression l 0)))

module _ (refused : Pause → ℤ → Type 0) (l : List ℕ) (c e : Choices) (d : Devices) (fresh : Bool) (pending : List ℕ)
    (cells : Cells) where
  pub line_values : (v u : ℤ) → u ≡ v → WorkComes refused (value cells (item_of (expression l 0))) c e (Ok v)
      → RefinesPart (with_pending pending (trace (with_choices c d) fresh cells))
      (with_pending pending (trace (with_choices e d) fresh cells)) (line_value l) (goes_on (Ok u))
  line_values v u k h =
      subst (λ (z : ℤ). RefinesPart (with_pending pending (trace (with_choices c d) fresh cells))
      (with_pending pending (trace (with_choices e d) fresh cells)) (line_value l) (goes_on (Ok z))) (sym k)
      (has_result (λ c. value c (item_of (expression l 0))) c e d fresh pending cells (Ok v) h)

  pub line_faults : (s : NoValue) (f : Fault) → s ≡ values.Fault f
      → WorkComes refused (value cells (item_of (expression l 0))) c e (Err s)
      → RefinesPart (with_pending pending (trace (with_choices c d) fresh cells))
      (with_pending pending (trace (with_choices e d) fresh cells)) (line_value l) (goes_on (Err f))
  line_faults s f k h =
      has_result (λ c. value c (item_of (expression l 0))) c e d fresh pending cells (Err f)
      (subst (λ (x : NoValue). WorkComes refused (value cells (item_of (expression l 0))) c e (Err x)) k h)

  pub line_pauses : (s : NoValue) (z : Pause) → s ≡ values.Pause z
      → WorkComes refused (value cells (item_of (expression l 0))) c e (Err s) → (k : CommandStop)
      → k ≡ stop_of (values.Pause z)
      → Stops (refused_answers refused) (RefinesPartTo (with_pending pending (trace (with_choices c d) fresh cells))
      (with_pending (still_pending pending k) (trace (with_choices e d) fresh cells)) (line_value l))
      (with_choices e d) k
  line_pauses s z p h k q =
      subst (λ (x : CommandStop). Stops (refused_answers refused)
      (RefinesPartTo (with_pending pending (trace (with_choices c d) fresh cells))
      (with_pending (still_pending pending x)
      (trace (with_choices e d) fresh cells)) (line_value l)) (with_choices e d) x) (sym q)
      (has_paused (λ c. value c (item_of (expression l 0))) c e d fresh pending cells refused z
      (subst (λ (x : NoValue). WorkComes refused (value cells (item_of (expression l 0))) c e (Err x)) p h))

line_adds : (l : List ℕ) → Adds (line_value l)
line_adds l = evaluation_adds (λ c. value c (item_of (expression l 0)))

-- ---- lines are left as they are

-- what comes next is looked at in states with these lines alone
next_same : {A B : Type 0} (F G : A → Action B) (ls : List (List ℕ))
    → ((x : A) (T : State) → T.lines ≡ ls → F x T ≡ G x T) → (o : Outcome (Progress A) State)
    → (action_state o).lines ≡ ls → go_on o (on_progress F) ≡ go_on o (on_progress G)
next_same F G ls same (Done (Goes x T) rest) e = ap (λ h. h rest) (same x T e)
next_same F G ls same (Done (Halts h T) rest) e = refl
next_same F G ls same (Asks n T) e = refl
next_same F G ls same (Out n T) e = refl

-- ---- a source that can give less

abbrev pub with_most : ℕ → Trace → Trace
with_most most m = record m { devices = record m.devices { most = most } }

abbrev pub with_given : List (List ℕ) → Trace → Trace
with_given given m = record m { devices = record m.devices { given = given } }

exchanges_most : (d : Devices) (most : ℕ) → most ≤ d.most → Exchanges d (record d { most = most }) no_exchange
exchanges_most d most fewer = record {
  grown = sym (with_answers_nil d.choices);
  shows = shows_nothing d.screen;
  unfailed = refl;
  given = sym (append-nil d.given);
  falls = omega (arith, fewer);
  same_choose = refl;
}

pub fewer_left : {A : Type 0} (m : Trace) (most : ℕ) → most ≤ m.devices.most → (f : Action A)
    → RefinesPart m (with_most most m) f f
fewer_left m most fewer f = record {
  exchange = no_exchange;
  exchanges = exchanges_most m.devices most fewer;
  fresh = freshens_nothing m.fresh;
  leaves =
      λ S rest _ w. leaves_to (f (once_shown m.pending (state_after m [] rest S)))
      (ap f (once_nothing m m.pending rest S w))
      (leaves_itself (f (once_shown m.pending S)));
}

-- ---- an answer instead of a line

random_chosen : (n : ℤ) (m : ℕ) → pos 1 ≤ℤ n → chosen n ≡ random_number n m
unfolding random_number
random_chosen n m h =
    let b : int_le (pos 1) n ≡ true = grind (arith, ints) in
    sym (ap (λ (c : Bool). if c then chosen n else failure (fault How m)) b)

chosen_asks : (n : ℤ) → chosen n [] ≡ Asks n tt
unfolding answer
chosen_asks n = refl

-- with a value that is found as RND finds it
module _ (n : ℤ) (at : Target) where
  abbrev pub instead_value : Action ℤ
  instead_value = work_action (λ c. random_number n 0)

  instead_next : ℤ → Action (Unit {0})
  instead_next v = and_then (show (signed_decimal v ++ newline)) (λ u. store at v)

  instead_next_adds : (v : ℤ) → Adds (instead_next v)
  unfolding instead_next
  instead_next_adds v = then_adds (show (signed_decimal v ++ newline)) (λ u. store at v) (show_adds _)
      (λ u. store_adds at v)

  instead_asks : pos 1 ≤ℤ n → (S : State) → answer_instead n at S [] ≡ Asks n S
  instead_asks h S =
      ap (λ (f : Work ℤ). and_then (work_action (λ c. f))
      (λ v. and_then (show (signed_decimal v ++ newline)) (λ u. store at v)) S []) (sym (random_chosen n 0 h))
      ∙ ap (λ o. go_on (go_on (map_outcome (λ r. Goes r S) (λ u. S) o) (on_progress or_halt))
      (on_progress (λ v. and_then (show (signed_decimal v ++ newline)) (λ u. store at v)))) (chosen_asks n)

  pub instead_value_stops : (refused : Refusal → Type 0) (o k : Trace) (e : CommandStop)
      → Stops refused (RefinesPartTo o k instead_value) k.devices e
      → Stops refused (RefinesPartTo o k (answer_instead n at)) k.devices e
  unfolding instead_value instead_next
  instead_value_stops refused o k e h = stops_under refused o k instead_value instead_next instead_next_adds e h

  value_then : {o m : Trace} (v u : ℤ) → u ≡ v → RefinesPart o m instead_value (goes_on u)
      → RefinesPart o m (answer_instead n at) (instead_next v)
  unfolding instead_value instead_next
  value_then {o = o} {m = m} v u k a =
      refines_part_on instead_next (subst (λ (z : ℤ). RefinesPart o m instead_value (goes_on z)) k a)

  pub instead_digits_stops : (refused : Refusal → Type 0) {o m : Trace} (k : Trace) (v u : ℤ) → u ≡ v
      → (e : CommandStop)
      → RefinesPart o m instead_value (goes_on u)
      → Stops refused (RefinesPartTo m k (show (signed_decimal v))) k.devices e
      → Stops refused (RefinesPartTo o k (answer_instead n at)) k.devices e
  unfolding instead_next
  instead_digits_stops refused {m = m} k v u is e a h =
      stops_after refused k (value_then v u is a) e
      (stops_under refused m k (show (signed_decimal v ++ newline)) (λ u. store at v) (λ u. store_adds at v) e
      (first_stops (signed_decimal v) newline refused m k e h))

  pub instead_newline_stops : (refused : Refusal → Type 0) {o m l : Trace} (k : Trace) (v u : ℤ) → u ≡ v
      → (e : CommandStop)
      → RefinesPart o m instead_value (goes_on u) → RefinesPart m l (show (signed_decimal v)) (goes_on tt)
      → Stops refused (RefinesPartTo l k (show newline)) k.devices e
      → Stops refused (RefinesPartTo o k (answer_instead n at)) k.devices e
  unfolding instead_next
  instead_newline_stops refused {m = m} k v u is e a b h =
      stops_after refused k (value_then v u is a) e
      (stops_under refused m k (show (signed_decimal v ++ newline)) (λ u. store at v) (λ u. store_adds at v) e
      (second_stops (signed_decimal v) newline refused k e b h))

  pub instead_stored : {o m l j k : Trace} (v u : ℤ) → u ≡ v → RefinesPart o m instead_value (goes_on u)
      → RefinesPart m l (show (signed_decimal v)) (goes_on tt) → RefinesPart l j (show newline) (goes_on tt)
      → RefinesPart j k (store at v) (goes_on tt) → RefinesPart o k (answer_instead n at) (goes_on tt)
  unfolding instead_next
  instead_stored v u is a b c d =
      refines_part_then (value_then v u is a)
      (refines_part_then (refines_part_on (λ u. store at v) (both_move (signed_decimal v) newline b c)) d)

-- the result of the chooser, as the value
module _ (refused : Pause → ℤ → Type 0) (n : ℤ) (c e : Choices) (d : Devices) (fresh : Bool) (pending : List ℕ)
    (cells : Cells) (high : pos 1 ≤ℤ n) where
  pub chosen_value : (at : Target) (v : ℤ) → WorkComes refused (chosen n) c e (Ok v)
      → RefinesPart (with_pending pending (trace (with_choices c d) fresh cells))
      (with_pending pending (trace (with_choices e d) fresh cells)) (instead_value n at) (goes_on v)
  unfolding instead_value
  chosen_value at v h =
      has_value (λ c. random_number n 0) c e d fresh pending cells v v refl
      (subst (λ (f : Work ℤ). WorkComes refused f c e (Ok v)) (random_chosen n 0 high) h)

  pub chosen_stops : (at : Target) (s : NoValue) → WorkComes refused (chosen n) c e (Err s)
      → Stops (refused_answers refused) (RefinesPartTo (with_pending pending (trace (with_choices c d) fresh cells))
      (with_pending (still_pending pending (stop_of s)) (trace (with_choices e d) fresh cells)) (instead_value n at))
      (with_choices e d) (stop_of s)
  unfolding instead_value
  chosen_stops at s h =
      has_no_value (λ c. random_number n 0) c e d fresh pending cells refused s
      (subst (λ (f : Work ℤ). WorkComes refused f c e (Err s)) (random_chosen n 0 high) h)

-- ---- before a line is taken

-- an item that asks: what it says, its variable, and its prompt
module _ (said : List ℕ) (x : Tree) (prompt : List ℕ) where
  prompt_next : Target → Action Target
  prompt_next at = and_then (show prompt) (λ u. goes_on at)

  target_next : Action Target
  target_next = and_then (target_action x) prompt_next

  prompt_next_adds : (at : Target) → Adds (prompt_next at)
  unfolding prompt_next
  prompt_next_adds at = then_adds (show prompt) (λ u. goes_on at) (show_adds prompt) (λ u. goes_adds at)

  target_next_adds : Adds target_next
  unfolding target_next
  target_next_adds = then_adds (target_action x) prompt_next (work_action_adds _) prompt_next_adds

  said_first : {o m : Trace} → RefinesPart o m (show said) (goes_on tt)
      → RefinesPart o m (ask_for said x prompt) target_next
  unfolding target_next prompt_next
  said_first a = refines_part_on (λ u. target_next) a

  target_then : {o m n : Trace} (at : Target) → RefinesPart o m (show said) (goes_on tt)
      → RefinesPart m n (target_action x) (goes_on at) → RefinesPart o n (ask_for said x prompt) (prompt_next at)
  unfolding target_next
  target_then at a b = refines_part_then (said_first a) (refines_part_on prompt_next b)

  ask_refines_part : {o m k n : Trace} (at : Target) → RefinesPart o m (show said) (goes_on tt)
      → RefinesPart m k (target_action x) (goes_on at) → RefinesPart k n (show prompt) (goes_on tt)
      → RefinesPart o n (ask_for said x prompt) (goes_on at)
  unfolding prompt_next
  ask_refines_part at a b c = refines_part_then (target_then at a b) (refines_part_on (λ u. goes_on at) c)

  pub ask_said_stops : (refused : Refusal → Type 0) (o n : Trace) (e : CommandStop)
      → Stops refused (RefinesPartTo o n (show said)) n.devices e
      → Stops refused (RefinesPartTo o n (ask_for said x prompt)) n.devices e
  unfolding target_next prompt_next
  ask_said_stops refused o n e h = stops_under refused o n (show said) (λ u. target_next) (λ u. target_next_adds) e h

  pub ask_target_stops : (refused : Refusal → Type 0) {o m : Trace} (n : Trace) (e : CommandStop)
      → RefinesPart o m (show said) (goes_on tt) → Stops refused (RefinesPartTo m n (target_action x)) n.devices e
      → Stops refused (RefinesPartTo o n (ask_for said x prompt)) n.devices e
  unfolding target_next
  ask_target_stops refused {m = m} n e a h = stops_after refused n (said_first a) e
      (stops_under refused m n (target_action x) prompt_next prompt_next_adds e h)

  ask_prompt_stops : (refused : Refusal → Type 0) {o m k : Trace} (n : Trace) (at : Target) (e : CommandStop)
      → RefinesPart o m (show said) (goes_on tt) → RefinesPart m k (target_action x) (goes_on at)
      → Stops refused (RefinesPartTo k n (show prompt)) n.devices e
      → Stops refused (RefinesPartTo o n (ask_for said x prompt)) n.devices e
  unfolding prompt_next
  ask_prompt_stops refused {k = k} n at e a b h =
      stops_after refused n (target_then at a b) e
      (stops_under refused k n (show prompt) (λ u. goes_on at) (λ u. goes_adds at) e h)

  -- a prompt whose text is known before its colon
  module _ (name : List ℕ) (is : prompt ≡ name ++ 58 ∷ []) where
    pub ask_known_stops : (refused : Refusal → Type 0) {o m k : Trace} (n : Trace) (at : Target) (e : CommandStop)
        → RefinesPart o m (show said) (goes_on tt) → RefinesPart m k (target_action x) (goes_on at)
        → Stops refused (RefinesPartTo k n (show (name ++ 58 ∷ []))) n.devices e
        → Stops refused (RefinesPartTo o n (ask_for said x prompt)) n.devices e
    ask_known_stops refused {k = k} n at e a b h =
        ask_prompt_stops refused n at e a b
        (subst (λ (s : List ℕ). Stops refused (RefinesPartTo k n (show s)) n.devices e) (sym is) h)

    pub ask_known_refines_part : {o m k n : Trace} (at : Target) → RefinesPart o m (show said) (goes_on tt)
        → RefinesPart m k (target_action x) (goes_on at) → RefinesPart k n (show (name ++ 58 ∷ [])) (goes_on tt)
        → RefinesPart o n (ask_for said x prompt) (goes_on at)
    ask_known_refines_part {k = k} {n = n} at a b c =
        ask_refines_part at a b (subst (λ (s : List ℕ). RefinesPart k n (show s) (goes_on tt)) (sym is) c)

  -- ---- a line is taken

  pub item_action_adds : Adds (item_action said x prompt)
  item_action_adds = record {
    at = λ S a. record {
      shown = ((input_part said x prompt S.lines).at S a).shown;
      lines = input_takes said x prompt S.lines S a refl;
    };
  }

  -- once a line's value is known, or its fault
  pub answered : Target → Result ℤ Fault → Action (Unit {0})
  answered at = store_or_again at (item_action said x prompt)

  answered_adds : (at : Target) (r : Result ℤ Fault) → Adds (answered at r)
  unfolding answered
  answered_adds at (Ok v) = store_adds at v
  answered_adds at (Err f) = then_adds (show (fault_word f.kind ++ newline)) (λ u. item_action said x prompt)
      (show_adds _) (λ u. item_action_adds)

  -- once a line is shown
  pub worth : Target → List ℕ → Action (Unit {0})
  worth at l = and_then (line_value l) (answered at)

  worth_adds : (at : Target) (l : List ℕ) → Adds (worth at l)
  unfolding worth
  worth_adds at l = then_adds (line_value l) (answered at) (line_adds l) (answered_adds at)

  -- once a line is given
  pub line_next : Target → List ℕ → Action (Unit {0})
  line_next at l = and_then (show (l ++ newline)) (λ u. worth at l)

  -- by the lines that are left
  answer_by : Target → List (List ℕ) → Action (Unit {0})
  answer_by at [] = λ S. without_line S.choose at S
  answer_by at (l ∷ ls) =
      and_then (take_line l ls) (λ u. and_then (line_value l) (store_or_again at (input_action said x prompt ls)))

  -- a line is wanted
  pub wants : Target → Action (Unit {0})
  wants at S = answer_by at S.lines S

  by_lines : (ls : List (List ℕ)) (S : State) (a : Answers) → S.lines ≡ ls
      → input_action said x prompt ls S a ≡ and_then (ask_for said x prompt) wants S a
  unfolding input_action wants answer_by
  by_lines [] S a e =
      next_same (λ at S. without_line S.choose at S) wants [] (λ at T k. ap (λ ls. answer_by at ls T) (sym k))
      (ask_for said x prompt S a) ((ask_lines said x prompt).at S a ∙ e)
  by_lines (l ∷ ls) S a e =
      next_same (λ at. answer_by at (l ∷ ls)) wants (l ∷ ls) (λ at T k. ap (λ ls. answer_by at ls T) (sym k))
      (ask_for said x prompt S a) ((ask_lines said x prompt).at S a ∙ e)

  item_action_asks : item_action said x prompt ≡ and_then (ask_for said x prompt) wants
  item_action_asks = fun_ext (λ S. fun_ext (λ a. by_lines S.lines S a refl))

  -- a line that is left is given
  again_same : (at : Target) (ls : List (List ℕ)) (S : State) → S.lines ≡ ls → (o : Outcome (Result ℤ Fault) (Unit {0}))
      → go_on (map_outcome (λ r. Goes r S) (λ u. S) o) (on_progress (store_or_again at (input_action said x prompt ls)))
      ≡ go_on (map_outcome (λ r. Goes r S) (λ u. S) o) (on_progress (answered at))
  unfolding answered
  again_same at ls S e (Done (Ok v) rest) = refl
  again_same at ls S e (Done (Err f) rest) = ap
      (λ k. input_action said x prompt k (record S { shown = S.shown ++ (fault_word f.kind ++ newline) }) rest) (sym e)
  again_same at ls S e (Asks n w) = refl
  again_same at ls S e (Out n w) = refl

  given_same : (at : Target) (l : List ℕ) (ls : List (List ℕ)) (S : State)
      → answer_by at (l ∷ ls) S ≡ line_next at l (record S { lines = ls })
  unfolding answer_by line_next worth
  given_same at l ls S =
      ap (λ (s : List ℕ). and_then (line_value l) (store_or_again at (input_action said x prompt ls))
      (record S { lines = ls; shown = s })) (append_assoc S.shown l newline)
      ∙ fun_ext (λ a. again_same at ls (record S { lines = ls; shown = S.shown ++ (l ++ newline) }) refl
      (value S.cells (item_of (expression l 0)) a))

  -- without a line
  without_adds : (choose : Option ℤ) (at : Target) → Adds (without_line choose at)
  without_adds None at = record { at = λ S a. forward_itself S }
  without_adds (Some n) at = then_adds (work_action (λ _. random_number n 0)) _ (work_action_adds _)
      (λ v. then_adds (show _) _ (show_adds _) (λ _. store_adds at v))

  -- one line is taken, and what is left of the item takes more
  answer_adds : (at : Target) (ls : List (List ℕ)) (S : State) (a : Answers) → S.lines ≡ ls
      → GoesForward S (action_state (answer_by at ls S a))
  unfolding answer_by line_next worth
  answer_adds at [] S a e = (without_adds S.choose at).at S a
  answer_adds at (l ∷ ls) S a e =
      let T : State = record S { lines = ls } in
      let f = (then_adds (show (l ++ newline)) (λ u. worth at l) (show_adds _) (λ u. worth_adds at l)).at T a in
      subst (λ (g : Answers → Outcome (Progress (Unit {0})) State). GoesForward S (action_state (g a)))
      (sym (given_same at l ls S))
      (record { shown = f.shown; lines = takes_joined S.lines ls _ (l ∷ [], e) f.lines })

  wants_adds : (at : Target) → Adds (wants at)
  unfolding wants
  wants_adds at = record { at = λ S a. answer_adds at S.lines S a refl }

  -- what asks has come to a target, and wants a line
  wanted : {o n : Trace} (at : Target) → RefinesPart o n (ask_for said x prompt) (goes_on at)
      → RefinesPart o n (item_action said x prompt) (wants at)
  wanted {o = o} {n = n} at a = subst (λ (f : Action (Unit {0})). RefinesPart o n f (wants at)) (sym item_action_asks)
      (refines_part_on wants a)

  -- what is gathered can't be shown before a line is waited for
  pub flush_stops : (refused : Refusal → Type 0) {o m : Trace} (n : Trace) (at : Target) (e : CommandStop)
      → RefinesPart o m (ask_for said x prompt) (goes_on at)
      → Stops refused (RefinesPartTo m n (goes_on (tt {0}))) n.devices e
      → Stops refused (RefinesPartTo o n (item_action said x prompt)) n.devices e
  flush_stops refused {m = m} n at e a h = stops_after refused n (wanted at a) e
      (stops_under refused m n (goes_on (tt {0})) (λ u. wants at) (λ u. wants_adds at) e h)

  -- it stops before
  pub take_ask_stops : (refused : Refusal → Type 0) (o n : Trace) (e : CommandStop)
      → Stops refused (RefinesPartTo o n (ask_for said x prompt)) n.devices e
      → Stops refused (RefinesPartTo o n (item_action said x prompt)) n.devices e
  take_ask_stops refused o n e h =
      subst (λ (f : Action (Unit {0})). Stops refused (RefinesPartTo o n f) n.devices e) (sym item_action_asks)
      (stops_under refused o n (ask_for said x prompt) wants wants_adds e h)

  -- the source can give none, so none is left
  no_line : (m : Trace) (most : ℕ) (at : Target) → most ≡ 0
      → RefinesPart m (with_most most m) (wants at) (without_line m.devices.choose at)
  unfolding wants answer_by
  no_line m most at none = record {
    exchange = no_exchange;
    exchanges = exchanges_most m.devices most (omega (arith, none));
    fresh = freshens_nothing m.fresh;
    leaves = λ S rest f w.
        let lines : S.lines ≡ [] = w.lines ∙ (f none).0 in
        leaves_to (without_line m.devices.choose at (once_shown m.pending (state_after m [] rest S)))
        (ap (λ ls. answer_by at ls (once_shown m.pending S)) lines
        ∙ ap (λ c. without_line c at (once_shown m.pending S)) (f none).1
        ∙ ap (without_line m.devices.choose at) (once_nothing m m.pending rest S w))
        (leaves_itself (wants at (once_shown m.pending S)));
  }

  pub take_none : {o m : Trace} (most : ℕ) (at : Target) → most ≡ 0
      → RefinesPart o m (ask_for said x prompt) (goes_on at)
      → RefinesPart o (with_most most m) (item_action said x prompt) (without_line m.devices.choose at)
  take_none {m = m} most at none a = refines_part_then (wanted at a) (no_line m most at none)

  -- the run ends for lack of a line
  pub take_dry : (refused : Refusal → Type 0) {o m : Trace} (most : ℕ) (at : Target) → most ≡ 0
      → m.devices.choose ≡ None → RefinesPart o m (ask_for said x prompt) (goes_on at) → refused NoLine
      → Stops refused (RefinesPartTo o (with_most most m) (item_action said x prompt))
      (with_most most m).devices stops.NoInput
  take_dry refused {o = o} {m = m} most at none choose a h = record {
    left = halt (Ends endings.NoInput);
    comes = subst (λ c. RefinesPart o (with_most most m) (item_action said x prompt) (without_line c at)) choose
        (take_none most at none a);
    dry = λ S b e. refl;
    refuses = h;
  }

  -- an answer is asked for instead
  pub take_instead : {o m : Trace} (most : ℕ) (n : ℤ) (at : Target) → most ≡ 0 → m.devices.choose ≡ Some n
      → RefinesPart o m (ask_for said x prompt) (goes_on at)
      → RefinesPart o (with_most most m) (item_action said x prompt) (answer_instead n at)
  take_instead {o = o} {m = m} most n at none choose a =
      subst (λ c. RefinesPart o (with_most most m) (item_action said x prompt) (without_line c at)) choose
      (take_none most at none a)

  -- the lines can't be read
  lacks_line : (at : Target) (S : State) (choose : Option ℤ) → wants at S ≡ without_line choose at S
      → LacksLine choose (Halts (Ends endings.NoInput)) (wants at) S
  lacks_line at S None e = λ b. ap (λ (f : Answers → Outcome (Progress (Unit {0})) State). f b) e
  lacks_line at S (Some n) e = λ h. ap (λ (f : Answers → Outcome (Progress (Unit {0})) State). f []) e
      ∙ instead_asks n at h S

  line_wanted : (at : Target) → WantsLine (Halts (Ends endings.NoInput)) [] (wants at)
  unfolding wants answer_by
  line_wanted at = (refl, λ S k. lacks_line at S S.choose (ap (λ ls. answer_by at ls S) k))

  unread : (refused : Refusal → Type 0) {o m : Trace} (most : ℕ) (at : Target) (f : DeviceFault)
      → most ≤ m.devices.most
      → RefinesPart o m (ask_for said x prompt) (goes_on at) → HasBroken refused m.devices.screen m.devices.screen f
      → DeviceFails refused (RefinesPartTo o (with_most most m) (item_action said x prompt))
      (with_most most m).devices action_state (Halts (Ends endings.NoInput)) f
  unread refused {m = m} most at f fewer a h = record {
    left = wants at;
    screen = m.devices.screen;
    bytes = [];
    comes = refines_part_then (wanted at a) (fewer_left m most fewer (wants at));
    shows = shows_nothing m.devices.screen;
    continues = record {
      begins = λ S b. let more = ((wants_adds at).at S b).shown in
          (more.0, more.1 ∙ ap (λ s. s ++ more.0) (sym (append-nil S.shown)));
      takes = λ S b. ((wants_adds at).at S b).lines;
    };
    line = λ _. line_wanted at;
    broken = h;
  }

  pub take_unread : (refused : Refusal → Type 0) {o m : Trace} (most : ℕ) (at : Target) (f : DeviceFault)
      → IsSourceFault f
      → most ≤ m.devices.most → RefinesPart o m (ask_for said x prompt) (goes_on at) → refused (Unread f)
      → Stops refused (RefinesPartTo o (with_most most m) (item_action said x prompt)) (with_most most m).devices
      (stops.Device f)
  take_unread refused most at reads.Read k fewer a h = unread refused most at reads.Read fewer a (h, refl)
  take_unread refused most at reads.TooLong k fewer a h = unread refused most at reads.TooLong fewer a (h, refl)
  take_unread refused most at reads.Write k fewer a h = absurd k
  take_unread refused most at reads.Memory k fewer a h =
      unread refused most at reads.Memory fewer a (record { by = inr (inr h) }, refl)

  -- the lines given are then k
  line_given : (m : Trace) (most : ℕ) (at : Target) (l : List ℕ) (k : List (List ℕ)) → most + 1 ≤ m.devices.most
      → k ≡ m.devices.given ++ l ∷ [] → RefinesPart m (with_given k (with_most most m)) (wants at) (line_next at l)
  unfolding wants
  line_given m most at l k fewer e = record {
    exchange = record { answers = []; bounds = []; bytes = []; given = l ∷ [] };
    exchanges = record {
      grown = sym (with_answers_nil m.devices.choices);
      shows = shows_nothing m.devices.screen;
      unfailed = refl;
      given = e;
      falls = omega (arith, fewer);
      same_choose = refl;
    };
    fresh = freshens_nothing m.fresh;
    leaves = λ S rest f w.
        let taken : record S { lines = rest } ≡ state_after m [] rest S =
        after_nothing m rest (record S { lines = rest })
        (record { fresh = w.fresh; cells = w.cells; lines = refl }) in
        leaves_to (line_next at l (once_shown m.pending (state_after m [] rest S)))
        (ap (λ ls. answer_by at ls (once_shown m.pending S)) w.lines ∙ given_same at l rest (once_shown m.pending S)
        ∙ ap (λ T. line_next at l (once_shown m.pending T)) taken)
        (leaves_itself (wants at (once_shown m.pending S)));
  }

  take_given : {o m : Trace} (most : ℕ) (at : Target) (l : List ℕ) (k : List (List ℕ)) → most + 1 ≤ m.devices.most
      → k ≡ m.devices.given ++ l ∷ [] → RefinesPart o m (ask_for said x prompt) (goes_on at)
      → RefinesPart o (with_given k (with_most most m)) (item_action said x prompt) (line_next at l)
  take_given {m = m} most at l k fewer e a = refines_part_then (wanted at a) (line_given m most at l k fewer e)

  -- ---- once a line is given

  -- all that is left to do then
  abbrev pub line_left : Target → List ℕ → Action (Unit {0})
  line_left at l =
      and_then (show (l ++ newline)) (λ u. and_then (line_value l) (store_or_again at (item_action said x prompt)))

  line_refines_part : {o m n : Trace} (at : Target) (l : List ℕ) → RefinesPart o m (show l) (goes_on tt)
      → RefinesPart m n (show newline) (goes_on tt) → RefinesPart o n (line_next at l) (worth at l)
  unfolding line_next
  line_refines_part at l a b = refines_part_on (λ u. worth at l) (both_move l newline a b)

  worth_stops : (refused : Refusal → Type 0) (o n : Trace) (at : Target) (l : List ℕ) (e : CommandStop)
      → Stops refused (RefinesPartTo o n (line_value l)) n.devices e
      → Stops refused (RefinesPartTo o n (worth at l)) n.devices e
  unfolding worth
  worth_stops refused o n at l e h = stops_under refused o n (line_value l) (answered at) (answered_adds at) e h

  -- the code has the value v as u
  stored_refines_part : {o m n : Trace} (at : Target) (l : List ℕ) (v u : ℤ) → u ≡ v
      → RefinesPart o m (line_value l) (goes_on (Ok v)) → RefinesPart m n (store at u) (goes_on tt)
      → RefinesPart o n (worth at l) (goes_on tt)
  unfolding worth answered
  stored_refines_part {m = m} {n = n} at l v u k a b = refines_part_then (refines_part_on (answered at) a)
      (subst (λ (z : ℤ). RefinesPart m n (store at z) (goes_on tt)) k b)

  again_refines_part : {o m n : Trace} (at : Target) (l : List ℕ) (f : Fault) (bytes : List ℕ)
      → bytes ≡ fault_word f.kind ++ newline → RefinesPart o m (line_value l) (goes_on (Err f))
      → RefinesPart m n (show bytes) (goes_on tt) → RefinesPart o n (worth at l) (item_action said x prompt)
  unfolding worth answered
  again_refines_part {m = m} {n = n} at l f bytes k a b =
      refines_part_then (refines_part_on (answered at) a) (refines_part_on (λ u. item_action said x prompt)
      (subst (λ (s : List ℕ). RefinesPart m n (show s) (goes_on tt)) k b))

  -- where it stops, once it is shown
  pub line_worth_stops : (refused : Refusal → Type 0) {o m k : Trace} (n : Trace) (at : Target) (l : List ℕ)
      (e : CommandStop)
      → RefinesPart o m (show l) (goes_on tt) → RefinesPart m k (show newline) (goes_on tt)
      → Stops refused (RefinesPartTo k n (line_value l)) n.devices e
      → Stops refused (RefinesPartTo o n (line_left at l)) n.devices e
  unfolding line_next worth answered
  line_worth_stops refused {k = k} n at l e a b h =
      stops_after refused n (line_refines_part at l a b) e (worth_stops refused k n at l e h)

  pub line_stored : {o m k j n : Trace} (at : Target) (l : List ℕ) (v u : ℤ) (r : Result ℤ Fault) → u ≡ v → r ≡ Ok v
      → RefinesPart o m (show l) (goes_on tt) → RefinesPart m k (show newline) (goes_on tt)
      → RefinesPart k j (line_value l) (goes_on r) → RefinesPart j n (store at u) (goes_on tt)
      → RefinesPart o n (line_left at l) (goes_on tt)
  unfolding line_next worth answered
  line_stored {k = k} {j = j} at l v u r same is a b c d =
      refines_part_then (line_refines_part at l a b)
      (stored_refines_part at l v u same
      (subst (λ (x : Result ℤ Fault). RefinesPart k j (line_value l) (goes_on x)) is c) d)

  pub line_again : {o m k j n : Trace} (at : Target) (l : List ℕ) (f : Fault) (bytes : List ℕ) (r : Result ℤ Fault)
      → bytes ≡ fault_word f.kind ++ newline → r ≡ Err f → RefinesPart o m (show l) (goes_on tt)
      → RefinesPart m k (show newline) (goes_on tt) → RefinesPart k j (line_value l) (goes_on r)
      → RefinesPart j n (show bytes) (goes_on tt) → RefinesPart o n (line_left at l) (item_action said x prompt)
  unfolding line_next worth answered
  line_again {k = k} {j = j} at l f bytes r same is a b c d =
      refines_part_then (line_refines_part at l a b)
      (again_refines_part at l f bytes same
      (subst (λ (x : Result ℤ Fault). RefinesPart k j (line_value l) (goes_on x)) is c) d)

  -- a line is given, to which nothing but lines without a value led
  pub line_asked : {i o m : Trace} (most : ℕ) (at : Target) (l : List ℕ) (k : List (List ℕ))
      → RefinesPart i o (item_action said x prompt) (item_action said x prompt)
      → RefinesPart o m (ask_for said x prompt) (goes_on at) → most + 1 ≤ m.devices.most → k ≡ m.devices.given ++ l ∷ []
      → RefinesPart i (with_given k (with_most most m)) (item_action said x prompt) (line_left at l)
  unfolding line_next worth answered
  line_asked most at l k before a fewer e = refines_part_then before (take_given most at l k fewer e a)

-- ---- the part

module _ (rest : List Part) (w : ℕ) (operands : List ℤ) where
  pub take_refines_part : {o n : Trace} (said : List ℕ) (x : Tree) (prompt : List ℕ)
      → RefinesPart o n (item_action said x prompt) (goes_on tt)
      → RefinesPart o n (parts_action (Take said x prompt ∷ rest) w operands) (parts_action rest w operands)
  unfolding parts_action
  take_refines_part said x prompt a = refines_part_on (λ u. parts_action rest w operands) a

  pub take_stops : (refused : Refusal → Type 0) (o n : Trace) (said : List ℕ) (x : Tree) (prompt : List ℕ)
      (e : CommandStop)
      → Stops refused (RefinesPartTo o n (item_action said x prompt)) n.devices e
      → Stops refused (RefinesPartTo o n (parts_action (Take said x prompt ∷ rest) w operands)) n.devices e
  unfolding parts_action
  take_stops refused o n said x prompt e h = stops_under refused o n (item_action said x prompt)
      (λ u. parts_action rest w operands) (λ u. parts_add rest w operands) e h

  -- all its results
  pub take_comes : {X : Type 0} (refused : Refusal → Type 0) (o n : Trace) (said : List ℕ) (x : Tree) (prompt : List ℕ)
      (p : Part)
      → p ≡ Take said x prompt → (r : Result X CommandStop)
      → Comes refused o n (item_action said x prompt) (λ u. goes_on tt) r
      → Comes refused o n (parts_action (p ∷ rest) w operands) (λ u. parts_action rest w operands) r
  take_comes refused o n said x prompt p k (Ok y) h =
      refines_part_part rest w operands p (Take said x prompt) k (take_refines_part said x prompt h)
  take_comes refused o n said x prompt p k (Err e) h =
      let m = with_pending (still_pending n.pending e) n in
      stops_part rest w operands refused o m p (Take said x prompt) k e (take_stops refused o m said x prompt e h)

-- ---- the lines that a source gives

-- a source that is the same has given the same
pub gives_same : {L : Type 0} (gives : L → List (List ℕ) → L → Type 0) (s : L) (xs : List (List ℕ)) (u t : L) → t ≡ u
    → gives s xs u → gives s xs t
gives_same gives s xs u t e = subst (gives s xs) (sym e)

module _ {L : Type 0} (gives : L → List (List ℕ) → L → Type 0) (more : (s t u : L) (xs ys : List (List ℕ))
    → gives s xs t → gives t ys u → gives s (xs ++ ys) u) where
  -- a call that gave none
  pub gives_no_more : (s t u : L) (xs : List (List ℕ)) (r : Result (Option (Bor (List ℕ))) DeviceFault)
      → given_lines r ≡ [] → gives s xs t → gives t (given_lines r) u → gives s xs u
  gives_no_more s t u xs r e a b = subst (λ (ys : List (List ℕ)). gives s ys u) (append-nil xs)
      (more s t u xs [] a (subst (λ (ys : List (List ℕ)). gives t ys u) e b))

  -- a call that gave one
  pub gives_one_more : (s t u : L) (xs : List (List ℕ)) (l : List ℕ) (r : Result (Option (Bor (List ℕ))) DeviceFault)
      → given_lines r ≡ l ∷ [] → gives s xs t → gives t (given_lines r) u → gives s (xs ++ l ∷ []) u
  gives_one_more s t u xs l r e a b = more s t u xs (l ∷ []) a (subst (λ (ys : List (List ℕ)). gives t ys u) e b)

-- where no line is given
pub none_given : {A : Type 0} (o : Trace) (f : Action A)
    → RefinesPart o (record o { devices = record o.devices { given = o.devices.given ++ [] } }) f f
none_given o f =
    subst (λ (ks : List (List ℕ)). RefinesPart o (record o { devices = record o.devices { given = ks } }) f f)
    (sym (append-nil o.devices.given)) (refines_part_refl o f)
