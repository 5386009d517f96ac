-- This file proves the result of a run: its steps, one after the other.
-- Main lemmas: `run_over` and `run_on`.
use Rattle.std.proofs.Common.{◌≡◌, inr, ℕ, zero, suc, ◌+◌, ◌-◌, ◌<◌, ◌≤◌, length, Bool, true, false}
use Rattle.std.proofs.Common.{List, [], ◌++◌, Option, Some, None, IfSome, Ok, Err, ℤ, pos}
use Rattle.std.proofs.Common.{◌≤ℤ◌, refl, sym, ap, subst, ◌∙◌, append-nil, append_assoc, arith}
use Rattle.std.proofs.Math.Path.{fun_ext}
use Rattle.std.proofs.lemmas.Bool.{false≢true}
use Rattle.std.proofs.lemmas.List.{append_cancel_left}
use Rattle.ptb_text.specs.Statements.{StoredProgram}
use Rattle.ptb_text.specs.declared.device_fault.DeviceFault.{DeviceFault}
use Rattle.ptb_text.specs.declared.device_fault.DeviceFault.TheVariants as devices
use Rattle.ptb_answers.specs.declared.pause.Pause.{Pause}
use Rattle.ptb_answers.specs.declared.pause.Pause.TheVariants as pauses
use Rattle.ptb_answers.specs.Outcome.{Answers, Outcome, Done, Asks, Out, go_on, map_outcome}
use Rattle.ptb_command.specs.declared.ending.Ending.{Ending}
use Rattle.ptb_command.specs.declared.ending.Ending.TheVariants as endings
use Rattle.ptb_machine.specs.declared.fault.RunFault.{RunFault}
use Rattle.ptb_machine.specs.declared.fault.RunFault.TheVariants as faults
use Rattle.ptb_command.specs.State.{Place, State, first_state}
use Rattle.ptb_command.specs.Act.{StepResult, Next, Over}
use Rattle.ptb_machine.specs.Play.{FinalState, last_in, after_turn, turn, all_turns, last_state}
use Rattle.ptb_machine.specs.Play.{unasked_lines, next_number, Finish, finish_of, turns, play}
use Rattle.ptb_command.specs.Effects.{act_state, Begins, TakesLines}
use Rattle.ptb_command.specs.Devices.{ScreenState, Devices, with_screen, Shows, Exchange}
use Rattle.ptb_command.specs.Devices.{no_exchange, both_exchanges, Exchanges, MayFollow, Refusal, nothing_refused}
use Rattle.ptb_command.specs.Traces.{Leaves}
use Rattle.ptb_command.specs.Stops.{AsksNext, Continues, LacksLine, AsksUnanswered, IsOutOfLines, DeviceFails}
use Rattle.ptb_command.specs.Stops.{WantsLine}
use Rattle.ptb_answers.specs.declared.rules.Rules.{Rules}
use Rattle.ptb_command.specs.Configuration.{Configuration}
use Rattle.ptb_command.specs.Locations.{PlacesAre}
use Rattle.ptb_command.specs.Representation.{Represents}
use Rattle.ptb_machine.specs.PlayResults.{played_bytes, Plays, refused_by_pause, IsFinished}
use Rattle.ptb_machine.specs.PlayResults.{IsUnanswered, IsUnfinished, LacksInput, RunComes}
use Rattle.ptb_machine.specs.RunFaults.{fault_of_device}
use Rattle.ptb_machine.specs.Runs.{Runs, StopsAt}
use Rattle.ptb_machine.specs.Steps.{IsStateBefore, DoesStep, PlainTurns}
use Rattle.ptb_machine.specs.TurnResults.{StepsTo, goes, ends, StepComes}
use Rattle.ptb_command.proofs.PublicLemmas.{begins_joined, takes_joined, shows_then, exchanges_none}
use Rattle.ptb_command.proofs.PublicLemmas.{exchanges_then, no_lines, has_broken_from, leaves_itself, leaves_then}
use Rattle.ptb_command.proofs.PublicLemmas.{leaves_to, leaves_under, leaves_at, asks_before}
use Rattle.ptb_machine.proofs.Turns.{all_by_turn, turn_goes, all_change}

-- ---- a turn, and the turns after it

-- what is left of a turn, and then of the run
abbrev pub then_turns : StoredProgram → ℕ → (State → Answers → Outcome StepResult State) → State → Answers
    → Outcome FinalState State
then_turns p limit g S a = go_on (g S a) (after_turn (all_turns p limit))

turns_leave : (p : StoredProgram) (limit : ℕ) (S T : State) (g : State → Answers → Outcome StepResult State)
    {ts : Answers} {bs : List ℤ}
    → Leaves (turn p limit S) ts bs (g T) → Leaves (all_turns p limit S) ts bs (then_turns p limit g T)
turns_leave p limit S T g {ts = ts} {bs = bs} l =
    subst (λ f. Leaves f ts bs (then_turns p limit g T)) (sym (fun_ext (all_by_turn p limit S)))
    (leaves_under (λ u. go_on u (after_turn (all_turns p limit))) (λ (U : State). U) (λ k U. refl) l)

-- devices after those of a step, which began with no lines given
abbrev pub onto : Devices → Devices → Devices
onto d e = record e { given = d.given ++ e.given }

exchanges_onto : (d e : Devices) (x : Exchange) → Exchanges (record d { given = [] }) e x → Exchanges d (onto d e) x
exchanges_onto d e x h = record {
  grown = h.grown;
  shows = h.shows;
  unfailed = h.unfailed;
  given = ap (λ l. d.given ++ l) h.given;
  falls = h.falls;
  same_choose = h.same_choose;
}

-- the run of p with this input has come to g
abbrev pub RunsTo : StoredProgram → Rules → Configuration → Devices → List (List ℕ) → List (List ℕ) → Devices
    → (State → Answers → Outcome FinalState State) → Type 0
RunsTo p rules m o input rest d g =
    StepsTo p.lines m o (first_state p input rules.choose) rest
    (all_turns p rules.limit (first_state p input rules.choose)) d g

-- it has come to a machine, whatever lines are left
abbrev pub HasRun : StoredProgram → Rules → Configuration → Devices → Devices → Type 0
HasRun p rules m o d = (input rest : List (List ℕ)) → MayFollow d rest rules.choose → input ≡ d.given ++ rest
    → RunsTo p rules m o input rest d (all_turns p rules.limit)

pub run_begins : (p : StoredProgram) (rules : Rules) (m : Configuration) (o : Devices) → o.given ≡ []
    → ((input : List (List ℕ)) → Represents p.lines m (first_state p input rules.choose)) → HasRun p rules m o o
run_begins p rules m o none first input rest _ e = record {
  exchange = no_exchange;
  exchanges = exchanges_none o;
  leads = record {
    state = first_state p input rules.choose;
    leaves = leaves_itself (all_turns p rules.limit (first_state p input rules.choose));
    represents = first input;
    shown = refl;
    lines = e ∙ ap (λ l. l ++ rest) none;
    choose = refl;
  };
}

-- where the run has come to a machine, its next turn leads it on
run_then : (p : StoredProgram) (rules : Rules) (m n : Configuration) (o d e : Devices) (input left rest : List (List ℕ))
    (g : State → Answers → Outcome StepResult State) (h : RunsTo p rules m o input left d (all_turns p rules.limit))
    → StepsTo p.lines n (record d { given = [] }) h.leads.state rest (turn p rules.limit h.leads.state) e g
    → RunsTo p rules n o input rest (onto d e) (then_turns p rules.limit g)
run_then p rules m n o d e input left rest g h s = record {
  exchange = both_exchanges h.exchange s.exchange;
  exchanges = exchanges_then h.exchanges (exchanges_onto d e s.exchange s.exchanges);
  leads = record {
    state = s.leads.state;
    leaves = leaves_then h.leads.leaves (turns_leave p rules.limit h.leads.state s.leads.state g s.leads.leaves);
    represents = s.leads.represents;
    shown = s.leads.shown ∙ ap (λ l. l ++ s.exchange.bytes) h.leads.shown;
    lines = s.leads.lines;
    choose = s.leads.choose ∙ h.leads.choose;
  };
}

-- ---- plays

-- as it is reported
abbrev pub as_played : Outcome FinalState State → Outcome Finish (List ℕ)
as_played u = map_outcome (λ f. f) (λ (T : State). T.shown) (map_outcome finish_of (λ (T : State). T) u)

abbrev pub playing : (State → Answers → Outcome FinalState State) → State → Answers → Outcome Finish (List ℕ)
playing g S a = as_played (g S a)

plays_to : (p : StoredProgram) (rules : Rules) (m : Configuration) (o d : Devices) (input rest : List (List ℕ))
    (g : State → Answers → Outcome FinalState State) (h : RunsTo p rules m o input rest d g)
    → Plays p rules input o d h.exchange (playing g h.leads.state)
unfolding play turns
plays_to p rules m o d input rest g h = record {
  exchanges = h.exchanges;
  leaves = leaves_under as_played (λ (T : State). T.shown) (λ k T. refl) h.leads.leaves;
}

plays_as : (p : StoredProgram) (rules : Rules) (input : List (List ℕ)) (o d : Devices) (x : Exchange)
    (f g : Answers → Outcome Finish (List ℕ))
    → f ≡ g → Plays p rules input o d x f → Plays p rules input o d x g
plays_as p rules input o d x f g e h = record { exchanges = h.exchanges; leaves = leaves_to g e h.leaves }

-- the lines that are left after those that were given are those of the last state
lines_are : (p : StoredProgram) (rules : Rules) (m : Configuration) (o d : Devices) (input rest : List (List ℕ))
    (g : State → Answers → Outcome FinalState State) (h : RunsTo p rules m o input rest d g)
    → input ≡ d.given ++ rest → (later : Answers) → (last_state (g h.leads.state later)).lines ≡ h.leads.state.lines
    → input ≡ d.given ++ unasked_lines p input rules (h.exchange.answers ++ later)
lines_are p rules m o d input rest g h k later same =
    k ∙ ap (λ l. d.given ++ l)
    (sym (ap (λ u. (last_state u).lines) (leaves_at h.leads.leaves later) ∙ same ∙ h.leads.lines))

-- it is over
run_ends : (refused : Refusal → Type 0) (p : StoredProgram) (rules : Rules) (m : Configuration) (o d : Devices)
    (input rest : List (List ℕ)) (ending : Ending) (g : State → Answers → Outcome FinalState State)
    (h : RunsTo p rules m o input rest d g)
    → input ≡ d.given ++ rest → ((a : Answers) → g h.leads.state a ≡ Done (last_in ending h.leads.state) a)
    → IsFinished refused p rules input o d ending
run_ends refused p rules m o d input rest ending g h k e = record {
  exchange = h.exchange;
  steps = h.leads.state.steps;
  plays = plays_as p rules input o d h.exchange _ _ (fun_ext (λ a. ap as_played (e a) ∙ ap (λ (s : List ℕ). Done
      (record { ending = ending; steps = h.leads.state.steps; shown = s }) a) h.leads.shown))
      (plays_to p rules m o d input rest g h);
  within_limit = subst (λ (T : State). T.steps ≤ rules.limit) (ap last_state (leaves_at h.leads.leaves [] ∙ e []))
      ((all_change p rules.limit (first_state p input rules.choose) (h.exchange.answers ++ [])).steps (omega arith));
  lines = λ a. lines_are p rules m o d input rest g h k a (ap (λ u. (last_state u).lines) (e a));
}

-- with a refused answer it asks, or is out
abbrev refusal_of : ℤ → State → Pause → Outcome FinalState State
refusal_of bound T pauses.Ended = Asks bound T
refusal_of bound T (pauses.OutOfRange k) = Out bound T
refusal_of bound T pauses.Memory = Asks bound T

refused_at : (g : Answers → Outcome FinalState State) (bound : ℤ) (T : State) (z : Pause) (later : Answers)
    → AsksNext g bound T z → g (refused_by_pause z later) ≡ refusal_of bound T z
refused_at g bound T pauses.Ended later h = h.asks
refused_at g bound T (pauses.OutOfRange k) later h = h.outside later
refused_at g bound T pauses.Memory later h = h.asks

refused_state : (bound : ℤ) (T : State) (z : Pause) → (last_state (refusal_of bound T z)).lines ≡ T.lines
refused_state bound T pauses.Ended = refl
refused_state bound T (pauses.OutOfRange k) = refl
refused_state bound T pauses.Memory = refl

played_shown : (u : Outcome FinalState State) → played_bytes (as_played u) ≡ (last_state u).shown
played_shown (Done l rest) = refl
played_shown (Asks k S) = refl
played_shown (Out k S) = refl

-- a question is refused
run_waits : (refused : Refusal → Type 0) (p : StoredProgram) (rules : Rules) (m : Configuration) (o d : Devices)
    (input rest : List (List ℕ)) (z : Pause)
    → input ≡ d.given ++ rest → (w : AsksUnanswered {A = FinalState} refused
    (RunsTo p rules m o input rest) d last_state z)
    → IsUnanswered refused p rules input o d z
run_waits refused p rules m o d input rest z k w =
    let T = w.comes.leads.state in
    record {
      exchange = w.comes.exchange;
      left = playing w.left T;
      plays = plays_to p rules m o d input rest w.left w.comes;
      bound = w.bound;
      question = subst (λ (s : List ℕ). AsksNext (playing w.left T) w.bound s z) w.comes.leads.shown
          (asks_before as_played (λ (S : State). S.shown) (λ k S. refl) (λ k S. refl) (w.left T) w.bound T z
          (w.question T));
      refuses = w.refuses;
      lines = λ later. lines_are p rules m o d input rest w.left w.comes k (refused_by_pause z later)
          (ap (λ u. (last_state u).lines) (refused_at (w.left T) w.bound T z later (w.question T))
          ∙ refused_state w.bound T z);
      continues = record {
        begins = λ a.
            subst (Begins w.comes.exchange.bytes) (sym (played_shown (w.left T a)))
            (subst (λ (s : List ℕ). Begins s (last_state (w.left T a)).shown) w.comes.leads.shown
            (w.continues.begins T a));
        more_lines = λ a.
            let more = w.continues.takes T a in (
              more.0,
              k ∙ ap (λ l. d.given ++ l) (sym w.comes.leads.lines ∙ more.1
                  ∙ ap (λ u. more.0 ++ (last_state u).lines) (sym (leaves_at w.comes.leads.leaves a))),
            );
      };
    }

-- the turns after a turn show more
more_shown : (p : StoredProgram) (rules : Rules) (shown : List ℕ) (u : Outcome StepResult State)
    → Begins shown (act_state u).shown
    → Begins shown (last_state (go_on u (after_turn (all_turns p rules.limit)))).shown
more_shown p rules shown (Done (Next S) rest) b =
    begins_joined shown S.shown _ b (all_change p rules.limit S rest).shown
more_shown p rules shown (Done (Over e S) rest) b = b
more_shown p rules shown (Asks k S) b = b
more_shown p rules shown (Out k S) b = b

-- and take more lines
more_taken : (p : StoredProgram) (rules : Rules) (lines : List (List ℕ)) (u : Outcome StepResult State)
    → TakesLines lines (act_state u).lines
    → TakesLines lines (last_state (go_on u (after_turn (all_turns p rules.limit)))).lines
more_taken p rules lines (Done (Next S) rest) t = takes_joined lines S.lines _ t (all_change p rules.limit S rest).lines
more_taken p rules lines (Done (Over e S) rest) t = t
more_taken p rules lines (Asks k S) t = t
more_taken p rules lines (Out k S) t = t

more_continues : (p : StoredProgram) (rules : Rules) (shown : State → List ℕ)
    (left : State → Answers → Outcome StepResult State)
    → Continues act_state shown left → Continues last_state shown (then_turns p rules.limit left)
more_continues p rules shown left h = record {
  begins = λ S a. more_shown p rules (shown S) (left S a) (h.begins S a);
  takes = λ S a. more_taken p rules S.lines (left S a) (h.takes S a);
}

-- ---- steps, one after the other

module _ (refused : Refusal → Type 0) (p : StoredProgram) (rules : Rules) (m n : Configuration) (o d e : Devices)
    (same : e.choose ≡ d.choose) (falls : e.most + length e.given ≤ d.most) (h : HasRun p rules m o d) where
  -- the run before the step, where these lines are left after it
  before : (input rest : List (List ℕ)) → MayFollow e rest rules.choose → input ≡ (d.given ++ e.given) ++ rest
      → RunsTo p rules m o input (e.given ++ rest) d (all_turns p rules.limit)
  before input rest f k =
      h input (e.given ++ rest) (λ none.
      let left : (rest ≡ []) × (rules.choose ≡ e.choose) = f (omega (arith, falls, none)) in
      (no_lines e.given rest (omega (arith, falls, none)) left.0, left.1 ∙ same))
      (k ∙ append_assoc d.given e.given rest)

  -- so its state is one before the step
  before_step : {input : List (List ℕ)} (rest : List (List ℕ)) (f : MayFollow e rest rules.choose)
      (b : RunsTo p rules m o input (e.given ++ rest) d (all_turns p rules.limit))
      → IsStateBefore p.lines m e b.leads.state rest
  before_step rest f b = record {
    represents = b.leads.represents;
    lines = b.leads.lines;
    follow = subst (MayFollow e rest) (sym b.leads.choose) f;
  }

  -- the run continues
  pub run_on : DoesStep refused p rules.limit m n (record d { given = [] }) e (Ok None) → HasRun p rules n o (onto d e)
  run_on s input rest f k =
      let b = before input rest f k in
      run_then p rules m n o d e input (e.given ++ rest) rest goes b (s b.leads.state rest (before_step rest f b))

  pub run_falls : rules.choose ≡ e.choose → DoesStep refused p rules.limit m n (record d { given = [] }) e (Ok None)
      → rules.limit - n.steps < rules.limit - m.steps
  run_falls chosen s =
      let b = before ((d.given ++ e.given) ++ []) [] (λ _. (refl, chosen)) refl in
      let x = s b.leads.state [] (before_step [] (λ _. (refl, chosen)) b) in
      let goes_on = turn_goes p rules.limit b.leads.state x.leads.state (x.exchange.answers ++ []) []
      (leaves_at x.leads.leaves []) in
      omega (arith, goes_on.0, goes_on.1, b.leads.represents.steps, x.leads.represents.steps)

  module _ (rest : List (List ℕ)) (f : MayFollow e rest rules.choose) where
    abbrev whole : List (List ℕ)
    whole = (d.given ++ e.given) ++ rest

    b : RunsTo p rules m o whole (e.given ++ rest) d (all_turns p rules.limit)
    b = before whole rest f refl

    -- the last step has come to g, with devices that hold f
    abbrev LastStep : Devices → (State → Answers → Outcome StepResult State) → Type 0
    LastStep f g = StepsTo p.lines n (record d { given = [] }) b.leads.state rest (turn p rules.limit b.leads.state) f g

    last : (f : Devices) (g : State → Answers → Outcome StepResult State) → LastStep f g
        → RunsTo p rules n o whole rest (onto d f) (then_turns p rules.limit g)
    last f g s = run_then p rules m n o d f whole (e.given ++ rest) rest g b s

    ended : (ending : Ending) → LastStep e (ends ending) → IsFinished refused p rules whole o (onto d e) ending
    ended ending s = run_ends refused p rules n o (onto d e) whole rest ending (then_turns p rules.limit (ends ending))
        (last e (ends ending) s) refl (λ a. refl)

    waited : (z : Pause) → AsksUnanswered refused LastStep e act_state z
        → IsUnanswered refused p rules whole o (onto d e) z
    waited z w = run_waits refused p rules n o (onto d e) whole rest z refl (record {
      left = then_turns p rules.limit w.left;
      bound = w.bound;
      comes = last e w.left w.comes;
      question = λ S. asks_before (λ u. go_on u (after_turn (all_turns p rules.limit))) (λ (T : State). T) (λ k T. refl)
          (λ k T. refl) (w.left S) w.bound S z (w.question S);
      continues = more_continues p rules (λ S. S.shown) w.left w.continues;
      pause = w.pause;
      refuses = w.refuses;
    })

    -- what is left wants a line, and none is left
    ends_dry : (left : State → Answers → Outcome StepResult State) (x : LastStep e left)
        → ((a : Answers)
        → left (last e left x).leads.state a ≡ Done (Over endings.NoInput (last e left x).leads.state) a)
        → IsFinished refused p rules whole o (onto d e) endings.NoInput
    ends_dry left x dry =
        run_ends refused p rules n o (onto d e) whole rest endings.NoInput (then_turns p rules.limit left)
        (last e left x) refl
        (λ a. ap (λ u. go_on u (after_turn (all_turns p rules.limit))) (dry a))

    drained : (w : IsOutOfLines refused LastStep e (Over endings.NoInput)) → rest ≡ []
        → IsFinished refused p rules (d.given ++ e.given) o (onto d e) endings.NoInput
    drained w none =
        subst (λ (input : List (List ℕ)). IsFinished refused p rules input o (onto d e) endings.NoInput)
        (ap (λ l. (d.given ++ e.given) ++ l) none ∙ append-nil (d.given ++ e.given))
        (ends_dry w.left w.comes
        (λ a. w.dry (last e w.left w.comes).leads.state a ((last e w.left w.comes).leads.lines ∙ none)))

    -- a step up to a screen that showed nothing more, nor failed
    up_to : (middle : ScreenState) (left : State → Answers → Outcome StepResult State) → Shows middle e.screen []
        → e.screen.failures ≡ middle.failures → LastStep (with_screen middle e) left → LastStep e left
    up_to middle left shows unfailed s = record {
      exchange = record s.exchange { bytes = s.exchange.bytes ++ [] };
      exchanges = record {
        grown = s.exchanges.grown;
        shows = shows_then d.screen middle e.screen s.exchange.bytes [] s.exchanges.shows shows;
        unfailed = unfailed ∙ s.exchanges.unfailed;
        given = s.exchanges.given;
        falls = s.exchanges.falls;
        same_choose = s.exchanges.same_choose;
      };
      leads = record {
        state = s.leads.state;
        leaves = s.leads.leaves;
        represents = s.leads.represents;
        shown = s.leads.shown ∙ ap (λ l. b.leads.state.shown ++ l) (sym (append-nil s.exchange.bytes));
        lines = s.leads.lines;
        choose = s.leads.choose;
      };
    }

    -- where the input can't be read a line was wanted
    module _ (fault : DeviceFault) (w : DeviceFails refused LastStep e act_state (Over endings.NoInput) fault)
        (line : WantsLine (Over endings.NoInput) w.bytes w.left)
        (unfailed : e.screen.failures ≡ w.screen.failures) where
      abbrev run_so : RunsTo p rules n o whole rest (onto d (with_screen w.screen e)) (then_turns p rules.limit w.left)
      run_so = last (with_screen w.screen e) w.left w.comes

      unread : LastStep e w.left
      unread = up_to w.screen w.left (subst (λ (bytes : List ℕ). Shows w.screen e.screen bytes) line.0 w.shows)
          unfailed w.comes

      same_state : (last e w.left unread).leads.state ≡ run_so.leads.state
      unfolding last run_then unread up_to
      same_state = refl

      shown_so : run_so.leads.state.shown ≡ run_so.exchange.bytes ++ w.bytes
      shown_so = run_so.leads.shown
          ∙ sym (ap (λ l. run_so.exchange.bytes ++ l) line.0 ∙ append-nil run_so.exchange.bytes)

      lacks : (choose : Option ℤ) → IfSome choose (λ n. pos 1 ≤ℤ n)
          → LacksLine choose (Over endings.NoInput) w.left run_so.leads.state
          → LacksInput refused p rules whole o (onto d e) choose (run_so.exchange.bytes ++ w.bytes)
          (playing (then_turns p rules.limit w.left) run_so.leads.state)
      lacks None high dry = ends_dry w.left unread
          (λ a. subst (λ (T : State). w.left T a ≡ Done (Over endings.NoInput T) a) (sym same_state) (dry a))
      lacks (Some k) high asks = ap (λ u. as_played (go_on u (after_turn (all_turns p rules.limit)))) (asks high)
          ∙ ap (λ (s : List ℕ). Asks k s) shown_so

      unread_dry : rest ≡ []
          → LacksInput refused p rules whole o (onto d e) rules.choose (run_so.exchange.bytes ++ w.bytes)
          (playing (then_turns p rules.limit w.left) run_so.leads.state)
      unread_dry none =
          subst (λ (choose : Option ℤ). LacksInput refused p rules whole o (onto d e) choose
          (run_so.exchange.bytes ++ w.bytes) (playing (then_turns p rules.limit w.left) run_so.leads.state))
          run_so.leads.choose
          (lacks run_so.leads.state.choose (subst (λ (choose : Option ℤ). IfSome choose (λ n. pos 1 ≤ℤ n))
          (sym run_so.leads.choose) rules.in_range)
          (line.1 run_so.leads.state (run_so.leads.lines ∙ none)))

    dry_by : (device : DeviceFault) (w : DeviceFails refused LastStep e act_state (Over endings.NoInput) device)
        → fault_of_device device ≡ faults.Read → rest ≡ []
        → LacksInput refused p rules whole o (onto d e) rules.choose
        ((last (with_screen w.screen e) w.left w.comes).exchange.bytes ++ w.bytes)
        (playing (then_turns p rules.limit w.left) (last (with_screen w.screen e) w.left w.comes).leads.state)
    dry_by devices.Read w is none = unread_dry devices.Read w (w.line tt) w.broken.1 none
    dry_by devices.TooLong w is none = unread_dry devices.TooLong w (w.line tt) w.broken.1 none
    dry_by devices.Write w is none = absurd (let clash : faults.Write ≡ faults.Read = is in cc)
    dry_by devices.Memory w is none = absurd (let clash : faults.Memory ≡ faults.Read = is in cc)

    broken : (fault : RunFault) (device : DeviceFault) → fault ≡ fault_of_device device
        → DeviceFails refused LastStep e act_state (Over endings.NoInput) device
        → IsUnfinished refused p rules whole o (onto d e) fault
    broken fault device is w =
        let x = last (with_screen w.screen e) w.left w.comes in
        let shows = shows_then o.screen w.screen e.screen x.exchange.bytes w.bytes x.exchanges.shows w.shows in
        record {
          device = device;
          is = is;
          exchange = record x.exchange { bytes = x.exchange.bytes ++ w.bytes };
          left = playing (then_turns p rules.limit w.left) x.leads.state;
          plays = record {
            exchanges = record {
              grown = x.exchanges.grown;
              shows = record { shown = shows.shown; same_borrow = shows.same_borrow; same_memory = shows.same_memory };
              unfailed = refl;
              given = x.exchanges.given;
              falls = x.exchanges.falls;
              same_choose = x.exchanges.same_choose;
            };
            leaves = (plays_to p rules n o (onto d (with_screen w.screen e)) whole rest
                (then_turns p rules.limit w.left) x).leaves;
          };
          broken = has_broken_from refused refused (λ r y. y) o.screen w.screen e.screen x.exchanges.unfailed
              x.exchanges.shows.same_memory device w.broken;
          continues = record {
            begins = λ a.
                subst (Begins (x.exchange.bytes ++ w.bytes))
                (sym (played_shown (then_turns p rules.limit w.left x.leads.state a)))
                (more_shown p rules (x.exchange.bytes ++ w.bytes) (w.left x.leads.state a)
                (subst (λ (s : List ℕ). Begins (s ++ w.bytes) (act_state (w.left x.leads.state a)).shown) x.leads.shown
                (w.continues.begins x.leads.state a)));
            more_lines = λ a.
                let T : State = x.leads.state in
                let more = more_taken p rules T.lines (w.left T a) (w.continues.takes T a) in (
                  more.0,
                  ap (λ l. (d.given ++ e.given) ++ l) (sym x.leads.lines ∙ more.1
                      ∙ ap (λ u. more.0 ++ (last_state u).lines) (sym (leaves_at x.leads.leaves a))),
                );
          };
          dry = λ unread all. dry_by device w (sym is ∙ unread)
              (append_cancel_left (d.given ++ e.given) rest [] (all ∙ sym (append-nil (d.given ++ e.given))));
        }

    comes_ended : (ending : Ending) → StepComes refused LastStep e (Ok (Some ending))
        → RunComes refused p rules rest o (onto d e) (Ok ending)
    comes_ended endings.End s = ended endings.End s
    comes_ended endings.Stop s = ended endings.Stop s
    comes_ended endings.What s = ended endings.What s
    comes_ended endings.How s = ended endings.How s
    comes_ended endings.Sorry s = ended endings.Sorry s
    comes_ended endings.Limit s = ended endings.Limit s
    comes_ended endings.NoInput s = (s.refuses, drained s)
    comes_ended endings.NoAnswer s = waited pauses.Ended s
    comes_ended endings.BadAnswer s = (s.0, waited (pauses.OutOfRange s.0) s.1)

    comes_broken : (fault : RunFault) → (fault ≡ faults.Spent → ⊥) → StepComes refused LastStep e (Err fault)
        → RunComes refused p rules rest o (onto d e) (Err fault)
    comes_broken faults.Memory fresh s = inr (broken faults.Memory s.0 s.1 s.2)
    comes_broken faults.Read fresh s = broken faults.Read s.0 s.1 s.2
    comes_broken faults.Write fresh s = broken faults.Write s.0 s.1 s.2
    comes_broken faults.Spent fresh s = absurd (fresh refl)

  -- it is over
  pub run_over : (ending : Ending) → DoesStep refused p rules.limit m n (record d { given = [] }) e (Ok (Some ending))
      → Runs refused p rules o (onto d e) (Ok ending)
  run_over ending s rest f = comes_ended rest f ending (s (b rest f).leads.state rest (before_step rest f (b rest f)))

  -- at its limit, where this is the line of the machine's next command
  pub run_stops : (line : Option ℕ) → ((q : Option Place) → PlacesAre p.lines q n.place → line ≡ next_number p.lines q)
      → DoesStep refused p rules.limit m n (record d { given = [] }) e (Ok (Some endings.Limit))
      → (rest : List (List ℕ)) → MayFollow e rest rules.choose
      → StopsAt p rules ((d.given ++ e.given) ++ rest) o (onto d e) line
  run_stops line is s rest f =
      let b = before ((d.given ++ e.given) ++ rest) rest f refl in
      let x = run_then p rules m n o d e ((d.given ++ e.given) ++ rest) (e.given ++ rest) rest (ends endings.Limit) b
      (s b.leads.state rest (before_step rest f b)) in
      record {
        exchange = x.exchange;
        left = playing (then_turns p rules.limit (ends endings.Limit)) x.leads.state;
        plays = plays_to p rules n o (onto d e) ((d.given ++ e.given) ++ rest) rest
            (then_turns p rules.limit (ends endings.Limit)) x;
        stops = λ a. is x.leads.state.place x.leads.represents.place
            ∙ sym (ap (λ u. next_number p.lines (last_state u).place) (leaves_at x.leads.leaves a));
      }

  pub run_breaks : (fault : RunFault) → (fault ≡ faults.Spent → ⊥)
      → DoesStep refused p rules.limit m n (record d { given = [] }) e (Err fault)
      → Runs refused p rules o (onto d e) (Err fault)
  run_breaks fault fresh s rest f =
      comes_broken rest f fault fresh (s (b rest f).leads.state rest (before_step rest f (b rest f)))

-- ---- plain turns

pub run_advanced : (p : StoredProgram) (rules : Rules) (n : ℕ) (old new : Configuration) (o d : Devices)
    → HasRun p rules old o d → PlainTurns p rules.limit n old new → HasRun p rules new o d
run_advanced p rules zero old new o d h same = subst (λ (m : Configuration). HasRun p rules m o d) (sym same) h
run_advanced p rules (suc n) old new o d h turns =
    let plain = record d { given = [] } in
    subst (λ (given : List (List ℕ)). HasRun p rules new o (record d { given = given })) (append-nil d.given)
    (run_on nothing_refused p rules turns.0 new o d plain refl (omega arith)
    (run_advanced p rules n old turns.0 o d h turns.1) (turns.2 plain refl))

-- ---- at the exits of the loop

pub not_spent : (b : Bool) (fault : RunFault) → b ≡ false → (fault ≡ faults.Spent → b ≡ true) → fault ≡ faults.Spent → ⊥
not_spent b fault e h k = false≢true (sym e ∙ h k)
