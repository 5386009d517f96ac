-- This file proves how a run continues that is played step by step, and how it ends.
-- Main lemmas: `step_ends` and `step_goes`.
use Rattle.std.proofs.Common.{◌≡◌, ℕ, ◌+◌, ◌-◌, ◌<◌, ◌≤◌, List, [], ◌∷◌, ◌++◌, zero, suc, true}
use Rattle.std.proofs.Common.{Option, Some, None, Result, Ok, Err, ℤ, refl, sym, ap}
use Rattle.std.proofs.Common.{subst, ◌∙◌, arith, append_assoc, append-nil, length, drop}
use Rattle.std.proofs.Common.{length-append, length-drop}
use Rattle.std.proofs.Math.Path.{fun_ext}
use Rattle.ptb_text.specs.Statements.{StoredProgram}
use Rattle.ptb_answers.specs.declared.pause.Pause.{Pause}
use Rattle.ptb_answers.specs.declared.pause.Pause.TheVariants as pauses
use Rattle.ptb_devices.specs.Sources.{LineList, Gives}
use Rattle.ptb_answers.specs.Outcome.{Answers, Outcome, Done, Asks, Out, go_on, map_outcome, bounds}
use Rattle.ptb_answers.specs.Choices.{Choices, AsksFor, Reaches}
use Rattle.ptb_command.specs.declared.ending.Ending.{Ending}
use Rattle.ptb_command.specs.declared.ending.Ending.TheVariants as endings
use Rattle.ptb_machine.specs.declared.fault.RunFault.{RunFault}
use Rattle.ptb_machine.specs.declared.fault.RunFault.TheVariants as faults
use Rattle.ptb_command.specs.State.{State, first_state}
use Rattle.ptb_command.specs.Act.{StepResult, Next, Over}
use Rattle.ptb_machine.specs.Play.{Finish, turn, after_step_result, turns, play}
use Rattle.ptb_machine.specs.Laws.{RunLaws}
use Rattle.ptb_command.specs.Devices.{ScreenState, devices, Refusal, nothing_refused, refused_by}
use Rattle.ptb_command.specs.Configuration.{Configuration}
use Rattle.ptb_command.specs.Effects.{act_state}
use Rattle.ptb_command.specs.Representation.{Represents}
use Rattle.ptb_command.specs.Stops.{AsksUnanswered, IsOutOfLines}
use Rattle.ptb_machine.specs.Steps.{PlainTurns, DoesStep}
use Rattle.ptb_machine.specs.TurnResults.{StepsTo, goes, ends, StepComes}
use Rattle.ptb_answers.specs.declared.rules.Rules.{Rules}
use Rattle.ptb_machine.specs.Questions.{most_answers}
use Rattle.ptb_machine.proofs.PublicLemmas.{fault_in_memory, of_turn}
use Rattle.ptb_explore.specs.Laws.{TreeLaws}
use Rattle.ptb_machine.specs.RunEffects.{steps_of_run}
use Rattle.ptb_explore.specs.PlannedPlays.{Holds, NextIsOutside, PlayEnds, IsRunPrefix, play_steps}
use Rattle.ptb_machine.specs.Play.{run_from}
use Rattle.ptb_explore.specs.Recorders.{RefusedByPlan}
use Rattle.ptb_explore.proofs.Limits.{play-is, turn_below}
use Rattle.ptb_explore.proofs.Tree.{tree_laws}
use Rattle.ptb_explore.proofs.AskedBounds.{holds_on, holds_at_first}

-- what a screen in memory holds
abbrev pub text_state : List ℕ → ScreenState
text_state s = record { shown = Some s; failures = 0; borrow = None; takes_memory = true }

-- what is left of a run once a turn has come to an outcome
abbrev pub from_turn : StoredProgram → Rules → Outcome StepResult State → Outcome Finish (List ℕ)
from_turn p rules o = map_outcome (λ f. f) (λ (T : State). T.shown) (go_on o (after_step_result (turns p rules.limit)))

pub run_prefix_at_first : (p : StoredProgram) (input : List (List ℕ)) (rules : Rules) (c : Choices) (m : Configuration)
    → c.taken ≡ [] → c.kept ≡ Some [] → Represents p.lines m (first_state p input rules.choose)
    → IsRunPrefix p input rules c [] input m
run_prefix_at_first p input rules c m t k s =
    let h = holds_at_first (play p input rules) c t k in
    record {
      state = first_state p input rules.choose;
      represents = s;
      shown_is = refl;
      left_is = refl;
      choose = refl;
      holds = record { bounds_are = h.bounds_are; rest = λ later. h.rest later ∙ play-is p input rules later };
      within = omega arith;
      reached = λ limit within later.
          ap (λ a. turns p limit (first_state p input rules.choose) (a ++ later)) t;
    }

-- a turn that is put into a run asks what it asked before
asked_in_run : (p : StoredProgram) (rules : Rules) (f : Answers → Outcome StepResult State) (ts : Answers) (bs : List ℤ)
    → AsksFor f ts bs → AsksFor (λ a. from_turn p rules (f a)) ts bs
asked_in_run p rules f [] [] h = tt
asked_in_run p rules f [] (n ∷ bs) h = absurd h
asked_in_run p rules f (k ∷ ts) [] h = absurd h
asked_in_run p rules f (k ∷ ts) (n ∷ bs) h =
    ((h.0.0.shown, ap (from_turn p rules) h.0.1), asked_in_run p rules (λ later. f (k ∷ later)) ts bs h.1)

holds_to : {A W : Type 0} (f : Answers → Outcome A W) (c : Choices) (g h : Answers → Outcome A W)
    → ((later : Answers) → g later ≡ h later) → Holds f c g → Holds f c h
holds_to f c g h same x = record { bounds_are = x.bounds_are; rest = λ later. x.rest later ∙ same later }

module _ (laws : RunLaws) (p : StoredProgram) (input : List (List ℕ)) (rules : Rules) where
  -- a run is one turn, and then the turns after it
  by_turn : (S : State) → run_from p rules S ≡ (λ a. from_turn p rules (turn p rules.limit S a))
  by_turn S = fun_ext (λ a. ap (map_outcome (λ f. f) (λ (T : State). T.shown)) (laws.by_turn p rules.limit S a))

  -- ---- the turn of a run that is underway has come to g

  module _ (m new : Configuration) (c d : Choices) (s t : List ℕ) (given left rest : List (List ℕ))
      (most few : ℕ) (u : IsRunPrefix p input rules c s left m) (g : State → Answers → Outcome StepResult State)
      (x : StepsTo p.lines new (devices c (text_state s) most rules.choose []) u.state rest (turn p rules.limit u.state)
      (devices d (text_state t) few rules.choose given) g) where
    abbrev there : State
    there = x.leads.state

    turn_reaches : Reaches (run_from p rules u.state) c d (λ a. from_turn p rules (g there a))
    turn_reaches =
        let asked = asked_in_run p rules (turn p rules.limit u.state) x.exchange.answers x.exchange.bounds
        x.leads.leaves.asked in
        record {
          answers = x.exchange.answers;
          bounds = x.exchange.bounds;
          grown = x.exchanges.grown;
          asked = subst (λ f. AsksFor f x.exchange.answers x.exchange.bounds) (sym (by_turn u.state)) asked;
          rest = ap (λ f. λ later. f (x.exchange.answers ++ later)) (by_turn u.state)
              ∙ ap (λ g. λ later. from_turn p rules (g later)) x.leads.leaves.rest;
        }

    turn_holds : (d.plan ≡ c.plan) × Holds (play p input rules) d (λ a. from_turn p rules (g there a))
    turn_holds = holds_on (play p input rules) c d (run_from p rules u.state)
        (λ a. from_turn p rules (g there a)) u.holds turn_reaches

    shown_there : there.shown ≡ t
    shown_there = x.leads.shown ∙ ap (λ b. b ++ x.exchange.bytes) u.shown_is ∙ sym x.exchanges.shows.shown

  -- it continues
  module _ (m new : Configuration) (c d : Choices) (s t : List ℕ)
      (given left rest : List (List ℕ)) (most few : ℕ) (u : IsRunPrefix p input rules c s left m)
      (x : StepsTo p.lines new (devices c (text_state s) most rules.choose []) u.state rest (turn p rules.limit u.state)
      (devices d (text_state t) few rules.choose given) goes) where
    goes_reached : (limit : ℕ) → x.leads.state.steps ≤ limit → (later : Answers)
        → turns p limit (first_state p input rules.choose) (d.taken ++ later) ≡ turns p limit x.leads.state later
    goes_reached limit within later =
        let ts = x.exchange.answers in
        let one = laws.one_step p rules.limit u.state x.leads.state (ts ++ []) []
        (ap (λ f. f []) x.leads.leaves.rest) in
        let below : u.state.steps < limit = omega (arith, one.1, within) in
        let goes_so : turn p limit u.state (ts ++ later) ≡ Done (Next x.leads.state) later =
        turn_below p rules.limit limit u.state (ts ++ later) one.0 below ∙ ap (λ f. f later) x.leads.leaves.rest in
        let taken : d.taken ≡ c.taken ++ ts = ap (λ y. y.taken) x.exchanges.grown in
        let first = first_state p input rules.choose in
        ap (λ a. turns p limit first (a ++ later)) taken
        ∙ ap (turns p limit first) (append_assoc c.taken ts later)
        ∙ u.reached limit (omega (arith, below)) (ts ++ later) ∙ laws.by_turn p limit u.state (ts ++ later)
        ∙ ap (λ o. go_on o (after_step_result (turns p limit))) goes_so

    goes_below : (m.steps < rules.limit) × (new.steps ≡ m.steps + 1)
    goes_below =
        let e : turn p rules.limit u.state (x.exchange.answers ++ []) ≡ Done (Next x.leads.state) [] =
        ap (λ f. f []) x.leads.leaves.rest in
        let one = laws.one_step p rules.limit u.state x.leads.state (x.exchange.answers ++ []) [] e in
        (omega (arith, one.0, u.represents.steps), omega (arith, one.1, u.represents.steps, x.leads.represents.steps))

    goes_run_prefix : IsRunPrefix p input rules d t rest new
    goes_run_prefix = record {
      state = x.leads.state;
      represents = x.leads.represents;
      shown_is = shown_there m new c d s t given left rest most few u goes x;
      left_is = x.leads.lines;
      choose = x.leads.choose ∙ u.choose;
      holds = (turn_holds m new c d s t given left rest most few u goes x).1;
      within = omega (arith, goes_below.0, goes_below.1, x.leads.represents.steps);
      reached = goes_reached;
    }

  -- it ends
  module _ (m new : Configuration) (c d : Choices) (s t : List ℕ) (given left rest : List (List ℕ)) (most few : ℕ)
      (u : IsRunPrefix p input rules c s left m) where
    over_is : (e : Ending) (T : State) → Represents p.lines new T → T.shown ≡ t → (a : Answers)
        → from_turn p rules (ends e T a) ≡ Done (record { ending = e; steps = new.steps; shown = t }) a
    over_is e T y h a = ap (λ (n : ℕ). Done (record { ending = e; steps = n; shown = T.shown }) a) y.steps
        ∙ ap (λ (b : List ℕ). Done (record { ending = e; steps = new.steps; shown = b }) a) h

    abbrev Ended : Ending → Type 0
    Ended e = Holds (play p input rules) d (λ later. Done (record { ending = e; steps = new.steps; shown = t }) later)

    pub ends_so : (e : Ending)
        → StepsTo p.lines new (devices c (text_state s) most rules.choose []) u.state rest (turn p rules.limit u.state)
        (devices d (text_state t) few rules.choose given) (ends e)
        → (d.plan ≡ c.plan) × Ended e
    ends_so e x =
        let h = turn_holds m new c d s t given left rest most few u (ends e) x in (
          h.0,
          holds_to (play p input rules) d _ _ (over_is e x.leads.state x.leads.represents
              (shown_there m new c d s t given left rest most few u (ends e) x)) h.1,
        )

    -- INPUT finds no line left
    pub ends_dry : (refuses : Pause → ℤ → Type 0)
        → IsOutOfLines (refused_by refuses (λ _. ⊥) (Some rest)) (StepsTo p.lines new
        (devices c (text_state s) most rules.choose []) u.state rest (turn p rules.limit u.state))
        (devices d (text_state t) few rules.choose given) (Over endings.NoInput)
        → (d.plan ≡ c.plan) × Ended endings.NoInput
    ends_dry refuses w =
        let x = w.comes in
        let T : State = x.leads.state in
        let none : T.lines ≡ [] = x.leads.lines ∙ w.refuses in
        let h = turn_holds m new c d s t given left rest most few u w.left x in (
          h.0,
          holds_to (play p input rules) d _ _
              (λ a. ap (from_turn p rules) (w.dry T a none) ∙ over_is endings.NoInput T x.leads.represents
              (shown_there m new c d s t given left rest most few u w.left x) a) h.1,
        )

  module _ (m new : Configuration) (c d : Choices) (bound : ℤ) (s t : List ℕ) (given left rest : List (List ℕ))
      (most few : ℕ) (u : IsRunPrefix p input rules c s left m) where
    -- the plan's next answer is outside its bound
    ends_outside : (k : ℤ)
        → AsksUnanswered (refused_by (RefusedByPlan d bound) (λ _. ⊥) (Some rest)) (StepsTo p.lines new
        (devices c (text_state s) most rules.choose []) u.state rest (turn p rules.limit u.state))
        (devices d (text_state t) few rules.choose given) act_state (pauses.OutOfRange k)
        → (d.plan ≡ c.plan) × NextIsOutside (play p input rules) d bound
    ends_outside k w =
        let x = w.comes in
        let T : State = x.leads.state in
        let h = turn_holds m new c d s t given left rest most few u w.left x in
        let reads = laws.reads p input rules in
        let later = w.refuses.0.0 in
        let asks : play p input rules d.taken ≡ Asks w.bound T.shown = ap (play p input rules)
        (sym (append-nil d.taken)) ∙ h.1.rest [] ∙ ap (from_turn p rules) (w.question T).asks in
        let out : play p input rules (d.taken ++ k ∷ []) ≡ Out w.bound T.shown =
        reads.outside d.taken w.bound k T.shown asks w.refuses.1 in
        let all : play p input rules ((d.taken ++ k ∷ []) ++ later) ≡ Out w.bound T.shown =
        reads.out (d.taken ++ k ∷ []) later w.bound T.shown out in (
          h.0,
          subst (λ (n : ℤ). NextIsOutside (play p input rules) d n) (sym w.refuses.2) (record {
            next = k;
            later = later;
            plan_is = w.refuses.0.1;
            bounds_are = h.1.bounds_are;
            beside = T.shown;
            asks = asks;
            outside = w.refuses.1;
            out = ap (play p input rules) (w.refuses.0.1 ∙ sym (append_assoc d.taken (k ∷ []) later)) ∙ all;
          }),
        )

    ending_comes : (e : Ending)
        → StepComes (refused_by (RefusedByPlan d bound) (λ _. ⊥) (Some rest)) (StepsTo p.lines new
        (devices c (text_state s) most rules.choose []) u.state rest (turn p rules.limit u.state))
        (devices d (text_state t) few rules.choose given) (Ok (Some e))
        → (d.plan ≡ c.plan) × PlayEnds (play p input rules) d bound new.steps t e
    ending_comes endings.End x = ends_so m new c d s t given left rest most few u endings.End x
    ending_comes endings.Stop x = ends_so m new c d s t given left rest most few u endings.Stop x
    ending_comes endings.What x = ends_so m new c d s t given left rest most few u endings.What x
    ending_comes endings.How x = ends_so m new c d s t given left rest most few u endings.How x
    ending_comes endings.Sorry x = ends_so m new c d s t given left rest most few u endings.Sorry x
    ending_comes endings.Limit x = ends_so m new c d s t given left rest most few u endings.Limit x
    ending_comes endings.NoInput w = ends_dry m new c d s t given left rest most few u (RefusedByPlan d bound) w
    ending_comes endings.NoAnswer w = absurd w.refuses
    ending_comes endings.BadAnswer w = ends_outside w.0 w.1

  -- ---- how many commands were begun then

  module _ (refuses : Pause → ℤ → Type 0) (m new : Configuration) (c d : Choices) (s t : List ℕ)
      (given left rest : List (List ℕ)) (most few : ℕ) (u : IsRunPrefix p input rules c s left m) where
    abbrev Comes : (State → Answers → Outcome StepResult State) → Type 0
    Comes g = StepsTo p.lines new (devices c (text_state s) most rules.choose []) u.state rest
        (turn p rules.limit u.state) (devices d (text_state t) few rules.choose given) g

    -- with the answers that were taken, the turns come to what is left
    turns_there : (g : State → Answers → Outcome StepResult State) (x : Comes g)
        → turns p rules.limit (first_state p input rules.choose) d.taken
        ≡ go_on (g x.leads.state []) (after_step_result (turns p rules.limit))
    turns_there g x =
        let ts = x.exchange.answers in
        let taken : d.taken ≡ c.taken ++ (ts ++ []) =
        ap (λ y. y.taken) x.exchanges.grown ∙ ap (λ a. c.taken ++ a) (sym (append-nil ts)) in
        ap (turns p rules.limit (first_state p input rules.choose)) taken
        ∙ u.reached rules.limit u.within (ts ++ []) ∙ laws.by_turn p rules.limit u.state (ts ++ [])
        ∙ ap (λ (f : Answers → Outcome StepResult State). go_on (f []) (after_step_result (turns p rules.limit)))
        x.leads.leaves.rest

    begun_there : (g : State → Answers → Outcome StepResult State) (x : Comes g) (o : Outcome StepResult State)
        → g x.leads.state [] ≡ o
        → steps_of_run (go_on o (after_step_result (turns p rules.limit))) ≡ x.leads.state.steps
        → new.steps ≡ play_steps p input rules d.taken
    begun_there g x o is steps = sym (ap steps_of_run (turns_there g x)
        ∙ ap (λ o. steps_of_run (go_on o (after_step_result (turns p rules.limit)))) is ∙ steps
        ∙ x.leads.represents.steps)

    ending_begun : (e : Ending)
        → StepComes (refused_by refuses (λ _. ⊥) (Some rest)) (StepsTo p.lines new
        (devices c (text_state s) most rules.choose []) u.state rest (turn p rules.limit u.state))
        (devices d (text_state t) few rules.choose given) (Ok (Some e))
        → new.steps ≡ play_steps p input rules d.taken
    ending_begun endings.End x = begun_there (ends endings.End) x _ refl refl
    ending_begun endings.Stop x = begun_there (ends endings.Stop) x _ refl refl
    ending_begun endings.What x = begun_there (ends endings.What) x _ refl refl
    ending_begun endings.How x = begun_there (ends endings.How) x _ refl refl
    ending_begun endings.Sorry x = begun_there (ends endings.Sorry) x _ refl refl
    ending_begun endings.Limit x = begun_there (ends endings.Limit) x _ refl refl
    ending_begun endings.NoInput w =
        begun_there w.left w.comes _ (w.dry w.comes.leads.state [] (w.comes.leads.lines ∙ w.refuses)) refl
    ending_begun endings.NoAnswer w = begun_there w.left w.comes _ (w.question w.comes.leads.state).asks refl
    ending_begun endings.BadAnswer w =
        begun_there w.1.left w.1.comes _ (w.1.question w.1.comes.leads.state).asks refl

  -- ---- a step, by its result

  pub step_goes : (m new : Configuration) (c d : Choices) (s t : List ℕ) (given left rest : List (List ℕ))
      (most few : ℕ) (refused : Refusal → Type 0) (r : Result (Option Ending) RunFault)
      → r ≡ Ok None → IsRunPrefix p input rules c s left m → left ≡ given ++ rest → (few ≡ 0 → rest ≡ [])
      → DoesStep refused p rules.limit m new (devices c (text_state s) most rules.choose [])
      (devices d (text_state t) few rules.choose given) r
      → (d.plan ≡ c.plan) × IsRunPrefix p input rules d t rest new
      × ((m.steps < rules.limit) × (new.steps ≡ m.steps + 1))
  step_goes m new c d s t given left rest most few refused r e u l follows steps =
      let x = subst (λ r. StepComes refused (StepsTo p.lines new (devices c (text_state s) most rules.choose [])
      u.state rest (turn p rules.limit u.state)) (devices d (text_state t) few rules.choose given) r) e
      (steps u.state rest (record {
        represents = u.represents;
        lines = u.left_is ∙ l;
        follow = λ none. (follows none, u.choose);
      })) in (
        (turn_holds m new c d s t given left rest most few u goes x).0,
        goes_run_prefix m new c d s t given left rest
            most few u x,
        goes_below m new c d s t given left rest most few u x,
      )

  -- ---- turns that ask nothing

  pub advanced : (n : ℕ) (old new : Configuration) (c : Choices) (s : List ℕ) (left : List (List ℕ))
      → IsRunPrefix p input rules c s left old → PlainTurns p rules.limit n old new
      → IsRunPrefix p input rules c s left new
  advanced zero old new c s left u same = subst (IsRunPrefix p input rules c s left) (sym same) u
  advanced (suc n) old new c s left u turns =
      (step_goes turns.0 new c c s s [] left left 1 1 nothing_refused (Ok None) refl
      (advanced n old turns.0 c s left u turns.1) refl (λ none. absurd (omega (arith, none)))
      (turns.2 (devices c (text_state s) 1 rules.choose []) refl)).1

  pub step_ends : (m new : Configuration) (c d : Choices) (bound : ℤ) (s t : List ℕ) (given left rest : List (List ℕ))
      (most few : ℕ) (e : Ending) (r : Result (Option Ending) RunFault)
      → r ≡ Ok (Some e) → IsRunPrefix p input rules c s left m → left ≡ given ++ rest → (few ≡ 0 → rest ≡ [])
      → DoesStep (refused_by (RefusedByPlan d bound) (λ _. ⊥) (Some rest)) p rules.limit m new
      (devices c (text_state s) most rules.choose []) (devices d (text_state t) few rules.choose given) r
      → (d.plan ≡ c.plan) × PlayEnds (play p input rules) d bound new.steps t e
  step_ends m new c d bound s t given left rest most few e r is u l follows steps =
      let x = subst (λ r. StepComes (refused_by (RefusedByPlan d bound) (λ _. ⊥) (Some rest)) (StepsTo p.lines new
      (devices c (text_state s) most rules.choose []) u.state rest (turn p rules.limit u.state))
      (devices d (text_state t) few rules.choose given) r) is (steps u.state rest
      (record { represents = u.represents; lines = u.left_is ∙ l; follow = λ none. (follows none, u.choose) })) in
      ending_comes m new c d bound s t given left rest most few u e x

  -- where it ends, or asks, as many commands were begun as its play begins
  pub step_begun : (refuses : Pause → ℤ → Type 0) (m new : Configuration) (c d : Choices) (s t : List ℕ)
      (given left rest : List (List ℕ)) (most few : ℕ) (e : Ending) (r : Result (Option Ending) RunFault)
      → r ≡ Ok (Some e) → IsRunPrefix p input rules c s left m → left ≡ given ++ rest → (few ≡ 0 → rest ≡ [])
      → DoesStep (refused_by refuses (λ _. ⊥) (Some rest)) p rules.limit m new
      (devices c (text_state s) most rules.choose []) (devices d (text_state t) few rules.choose given) r
      → new.steps ≡ play_steps p input rules d.taken
  step_begun refuses m new c d s t given left rest most few e r is u l follows steps =
      let x = subst (λ r. StepComes (refused_by refuses (λ _. ⊥) (Some rest)) (StepsTo p.lines new
      (devices c (text_state s) most rules.choose []) u.state rest (turn p rules.limit u.state))
      (devices d (text_state t) few rules.choose given) r) is (steps u.state rest
      (record { represents = u.represents; lines = u.left_is ∙ l; follow = λ none. (follows none, u.choose) })) in
      ending_begun refuses m new c d s t given left rest most few u e x

  -- a machine that isn't spent, whose bytes and lines are in memory, has no fault except lack of memory
  module _ (refuses : Pause → ℤ → Type 0) (m new : Configuration) (c d : Choices) (s t : List ℕ)
      (given left rest : List (List ℕ)) (most few : ℕ) (r : Result (Option Ending) RunFault)
      (u : IsRunPrefix p input rules c s left m) (l : left ≡ given ++ rest) (follows : few ≡ 0
      → rest ≡ []) (steps : DoesStep (refused_by refuses (λ _. ⊥) (Some rest)) p rules.limit m new
      (devices c (text_state s) most rules.choose []) (devices d (text_state t) few rules.choose given) r) where
    faulted : (f : RunFault) → r ≡ Err f → StepComes (refused_by refuses (λ _. ⊥) (Some rest))
        (StepsTo p.lines new (devices c (text_state s) most rules.choose []) u.state rest (turn p rules.limit u.state))
        (devices d (text_state t) few rules.choose given) (Err f)
    faulted f is = subst (λ r. StepComes (refused_by refuses (λ _. ⊥) (Some rest)) (StepsTo p.lines new
        (devices c (text_state s) most rules.choose []) u.state rest (turn p rules.limit u.state))
        (devices d (text_state t) few rules.choose given) r) is (steps u.state rest
        (record { represents = u.represents; lines = u.left_is ∙ l; follow = λ none. (follows none, u.choose) }))

    pub only_memory : (r ≡ Err faults.Spent → ⊥) → (f : RunFault) → r ≡ Err f → f ≡ faults.Memory
    only_memory unspent f is = fault_in_memory refuses (Some rest) p.lines new
        (devices c (text_state s) most rules.choose []) (devices d (text_state t) few rules.choose given)
        u.state rest (turn p rules.limit u.state) refl refl f (λ spent. unspent (is ∙ ap Err spent)) (faulted f is)

-- ---- a chooser that took the same answers

pub prefix_to : (p : StoredProgram) (input : List (List ℕ)) (rules : Rules) (c d : Choices) (s t : List ℕ)
    (left rest : List (List ℕ)) (m : Configuration)
    → IsRunPrefix p input rules c s left m
    → c.taken ≡ d.taken → d.kept ≡ Some (bounds (play p input rules) d.taken) → s ≡ t → left ≡ rest
    → IsRunPrefix p input rules d t rest m
prefix_to p input rules c d s t left rest m u taken kept shown lines = record {
  state = u.state;
  represents = u.represents;
  shown_is = u.shown_is ∙ shown;
  left_is = u.left_is ∙ lines;
  choose = u.choose;
  holds = record {
    bounds_are = kept;
    rest = λ later. ap (λ a. play p input rules (a ++ later)) (sym taken)
        ∙ u.holds.rest later;
  };
  within = u.within;
  reached = λ limit within later.
      ap (λ a. turns p limit (first_state p input rules.choose) (a ++ later)) (sym taken)
      ∙ u.reached limit within later;
}

-- ---- what a step adds

pub record Extends (c d : Choices) (s t : List ℕ) : Type 0 where
  pub answers : Answers
  pub bytes : List ℕ
  pub taken : d.taken ≡ c.taken ++ answers
  pub shown : t ≡ s ++ bytes

module _ (p : StoredProgram) (input : List (List ℕ)) (rules : Rules) (m new : Configuration)
    (c d : Choices) (s t : List ℕ) (given left rest : List (List ℕ)) (most few : ℕ) (refused : Refusal
    → Type 0) (u : IsRunPrefix p input rules c s left m) where
  turn_extends : (g : State → Answers → Outcome StepResult State)
      → StepsTo p.lines new (devices c (text_state s) most rules.choose []) u.state rest (turn p rules.limit u.state)
      (devices d (text_state t) few rules.choose given) g
      → Extends c d s t
  turn_extends g x = record {
    answers = x.exchange.answers;
    bytes = x.exchange.bytes;
    taken = ap (λ y. y.taken) x.exchanges.grown;
    shown = x.exchanges.shows.shown;
  }

  ending_extends : (e : Ending)
      → StepComes refused (StepsTo p.lines new (devices c (text_state s) most rules.choose []) u.state rest
      (turn p rules.limit u.state)) (devices d (text_state t) few rules.choose given) (Ok (Some e))
      → Extends c d s t
  ending_extends e x = of_turn refused (StepsTo p.lines new (devices c (text_state s) most rules.choose []) u.state rest
      (turn p rules.limit u.state)) (devices d (text_state t) few rules.choose given) turn_extends e x

  pub step_extends : (o : Option Ending) (r : Result (Option Ending) RunFault) → r ≡ Ok o → left ≡ given ++ rest
      → (few ≡ 0 → rest ≡ [])
      → DoesStep refused p rules.limit m new (devices c (text_state s) most rules.choose [])
      (devices d (text_state t) few rules.choose given) r
      → Extends c d s t
  step_extends None r is l follows steps =
      turn_extends goes (subst (λ r. StepComes refused (StepsTo p.lines new
      (devices c (text_state s) most rules.choose []) u.state rest (turn p rules.limit u.state))
      (devices d (text_state t) few rules.choose given) r) is (steps u.state rest
      (record { represents = u.represents; lines = u.left_is ∙ l; follow = λ none. (follows none, u.choose) })))
  step_extends (Some e) r is l follows steps =
      ending_extends e (subst (λ r. StepComes refused (StepsTo p.lines new
      (devices c (text_state s) most rules.choose []) u.state rest (turn p rules.limit u.state))
      (devices d (text_state t) few rules.choose given) r) is (steps u.state rest
      (record { represents = u.represents; lines = u.left_is ∙ l; follow = λ none. (follows none, u.choose) })))

-- where a list can give no line, none is left
pub none_follow : (s : LineList) → length s.lines - s.taken ≡ 0 → drop s.taken s.lines ≡ []
none_follow s none = nothing (drop s.taken s.lines) (omega (arith, none, length-drop s.taken s.lines)) where
  nothing : (ls : List (List ℕ)) → length ls ≡ 0 → ls ≡ []
  nothing [] e = refl
  nothing (l ∷ ls) e = absurd (omega (arith, e))

-- lines that were taken were there
pub taken_within : (s t : LineList) (xs : List (List ℕ)) → Gives s xs t → s.taken ≤ length s.lines
    → t.taken ≤ length s.lines
taken_within s t xs gives l =
    omega (arith, l, gives.counted, sym (length-drop s.taken s.lines) ∙ ap length gives.first ∙ length-append xs _)

-- the runs of a program have the laws of what takes answers one by one
pub program_laws : (laws : RunLaws) (p : StoredProgram) (input : List (List ℕ)) (rules : Rules)
    → TreeLaws (play p input rules) (most_answers p input rules.limit)
program_laws laws p input rules = tree_laws (play p input rules) (most_answers p input rules.limit)
    (laws.reads p input rules)
