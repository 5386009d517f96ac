-- This file proves what the steps of a play result in, in each state that the machine represents.
-- Main lemma: `step_plays`.
use Rattle.std.proofs.Common.{◌≡◌, ℕ, ◌-◌, ◌≤◌, List, [], ◌∷◌, ◌++◌, zero, suc, true, false, Option}
use Rattle.std.proofs.Common.{Some, None, Result, Ok, Err, ℤ, refl, sym, ap, subst, ◌∙◌}
use Rattle.std.proofs.Common.{arith, append_assoc, append-nil, length, take, drop, length-append}
use Rattle.std.proofs.Common.{length-drop}
use Rattle.ptb_text.specs.Lines.{lines}
use Rattle.ptb_text.specs.Statements.{StoredProgram}
use Rattle.ptb_answers.specs.declared.pause.Pause.{Pause}
use Rattle.ptb_answers.specs.declared.pause.Pause.TheVariants as pauses
use Rattle.ptb_answers.specs.Outcome.{Answers, Outcome, Asks, Out, go_on, map_outcome, is_open}
use Rattle.ptb_answers.specs.Choices.{Choices}
use Rattle.ptb_answers.specs.declared.rules.Rules.{Rules}
use Rattle.ptb_command.specs.declared.ending.Ending.{Ending}
use Rattle.ptb_command.specs.declared.ending.Ending.TheVariants as endings
use Rattle.ptb_machine.specs.declared.fault.RunFault.{RunFault}
use Rattle.ptb_machine.specs.declared.fault.RunFault.TheVariants as faults
use Rattle.ptb_command.specs.State.{State}
use Rattle.ptb_command.specs.Act.{StepResult, Over}
use Rattle.ptb_machine.specs.Play.{Finish, finish_in, turn, after_step_result, turns}
use Rattle.ptb_machine.specs.Laws.{RunLaws}
use Rattle.ptb_command.specs.Devices.{ScreenState, devices, Refusal, nothing_refused, refused_by}
use Rattle.ptb_command.specs.Configuration.{Configuration}
use Rattle.ptb_command.specs.Effects.{act_state}
use Rattle.ptb_command.specs.Stops.{AsksUnanswered, IsOutOfLines}
use Rattle.ptb_devices.specs.Sources.{Gives, LineList}
use Rattle.ptb_machine.specs.Steps.{FitsProgram, PlainTurns, DoesStep}
use Rattle.ptb_machine.specs.TurnResults.{StepsTo, goes, ends, StepComes}
use Rattle.ptb_chances.specs.Chances.{last_line}
use Rattle.ptb_machine.specs.Play.{run_from}
use Rattle.ptb_machine.proofs.PublicLemmas.{fault_in_memory, of_turn}
use Rattle.ptb_chances.specs.PlanChoosers.{PlanAnswers, plan_choices, RefusedByPlanAnswers}
use Rattle.ptb_chances.specs.StagePlays.{SameEnd, IsStageAt, Came, IsOver, IsAsked, PlaysTo, played_of}
use Rattle.ptb_chances.specs.declared.plays.Played.{Played}
use Rattle.ptb_chances.proofs.PickedAnswers.{all_taken, next_taken}

-- what a screen in memory holds
abbrev pub text_state : List ℕ → ScreenState
text_state s = record { shown = Some s; failures = 0; borrow = None; takes_memory = true }

-- what is left of a run once a turn has come to an outcome
abbrev pub from_turn : StoredProgram → Rules → Outcome StepResult State → Outcome Finish (List ℕ)
from_turn p rules o = map_outcome (λ f. f) (λ (T : State). T.shown) (go_on o (after_step_result (turns p rules.limit)))

pub line_same : (s t : List ℕ) → SameEnd s t → last_line (lines s) ≡ last_line (lines t)
line_same s t h = ap (λ b. last_line (lines b)) (sym (append-nil s)) ∙ h []
    ∙ ap (λ b. last_line (lines b)) (append-nil t)

pub end_more : (s t u v bytes : List ℕ) → SameEnd s t → u ≡ s ++ bytes → v ≡ t ++ bytes → SameEnd u v
end_more s t u v bytes same first second more =
    ap (λ b. last_line (lines (b ++ more))) first ∙ ap (λ b. last_line (lines b)) (append_assoc s bytes more)
    ∙ same (bytes ++ more)
    ∙ sym (ap (λ b. last_line (lines (b ++ more))) second ∙ ap (λ b. last_line (lines b)) (append_assoc t bytes more))

module _ (laws : RunLaws) (p : StoredProgram) (rules : Rules) where
  by_turn : (S : State) (a : Answers) → run_from p rules S a ≡ from_turn p rules (turn p rules.limit S a)
  by_turn S a = ap (map_outcome (λ f. f) (λ (T : State). T.shown)) (laws.by_turn p rules.limit S a)

  -- ---- the turn of a run that is underway has come to g

  module _ (S : State) (m new : Configuration) (c d : Choices) (s t : List ℕ) (given left rest : List (List ℕ))
      (most few : ℕ) (u : Came p rules S c.taken m left s) where
    abbrev Turned : (State → Answers → Outcome StepResult State) → Type 0
    Turned g = StepsTo p.lines new (devices c (text_state s) most rules.choose []) u.state rest
        (turn p rules.limit u.state) (devices d (text_state t) few rules.choose given) g

    turned : (g : State → Answers → Outcome StepResult State) (x : Turned g) (later : Answers)
        → run_from p rules S (d.taken ++ later) ≡ from_turn p rules (g x.leads.state later)
    turned g x later =
        let ts = x.exchange.answers in
        let taken : d.taken ≡ c.taken ++ ts = ap (λ (y : Choices). y.taken) x.exchanges.grown in
        ap (λ a. run_from p rules S (a ++ later)) taken ∙ ap (run_from p rules S) (append_assoc c.taken ts later)
        ∙ u.reached (ts ++ later)
        ∙ by_turn u.state (ts ++ later) ∙ ap (λ f. from_turn p rules (f later)) x.leads.leaves.rest

    same_end : (g : State → Answers → Outcome StepResult State) (x : Turned g) → SameEnd x.leads.state.shown t
    same_end g x = end_more u.state.shown s x.leads.state.shown t x.exchange.bytes u.stands.same_end x.leads.shown
        x.exchanges.shows.shown

    turn_came : Turned goes → Came p rules S d.taken new rest t
    turn_came x = record {
      state = x.leads.state;
      stands = record {
        represents = x.leads.represents;
        lines_left = x.leads.lines;
        choose = x.leads.choose ∙ u.stands.choose;
        same_end = same_end goes x;
      };
      reached = turned goes x;
    }

    turn_over : (e : Ending) → Turned (ends e) → IsOver p rules S d.taken e t
    turn_over e x = record {
      finish = finish_in e x.leads.state;
      outcome = turned (ends e) x;
      ending_is = refl;
      line_is = line_same x.leads.state.shown t (same_end (ends e) x);
    }

    turn_dry : (refuses : Pause → ℤ → Type 0)
        → IsOutOfLines (refused_by refuses (λ _. ⊥) (Some rest)) (StepsTo p.lines new
        (devices c (text_state s) most rules.choose []) u.state rest (turn p rules.limit u.state))
        (devices d (text_state t) few rules.choose given) (Over endings.NoInput)
        → IsOver p rules S d.taken endings.NoInput t
    turn_dry refuses w =
        let x = w.comes in
        let T : State = x.leads.state in
        let none : T.lines ≡ [] = x.leads.lines ∙ w.refuses in
        record {
          finish = finish_in endings.NoInput T;
          outcome = λ later. turned w.left x later ∙ ap (from_turn p rules) (w.dry T later none);
          ending_is = refl;
          line_is = line_same T.shown t (same_end w.left x);
        }

  module _ (S : State) (m new : Configuration) (c : Choices) (l : PlanAnswers) (s t : List ℕ)
      (given left rest : List (List ℕ)) (most few : ℕ) (u : Came p rules S c.taken m left s) where
    abbrev Paused : Pause → Type 0
    Paused z = AsksUnanswered (refused_by (RefusedByPlanAnswers l) (λ _. ⊥) (Some rest))
        (StepsTo p.lines new (devices c (text_state s) most rules.choose []) u.state rest (turn p rules.limit u.state))
        (devices (plan_choices l) (text_state t) few rules.choose given) act_state z

    turn_asks : Paused pauses.Ended → IsAsked p rules S l.answers l.refused_bound
    turn_asks w =
        let x = w.comes in
        let T : State = x.leads.state in
        let all : take l.given l.answers ++ [] ≡ l.answers = all_taken l.answers l.given w.refuses.0 in
        let asks : run_from p rules S l.answers ≡ Asks w.bound T.shown =
        ap (run_from p rules S) (sym all) ∙ turned S m new c (plan_choices l) s t given left rest most few u w.left x []
        ∙ ap (from_turn p rules) (w.question T).asks in
        record { shown = T.shown; asks = asks ∙ ap (λ (n : ℤ). Asks n T.shown) (sym w.refuses.1) }

    turn_out : (k : ℤ) → Paused (pauses.OutOfRange k) → is_open (run_from p rules S l.answers) ≡ true → ⊥
    turn_out k w opens =
        let x = w.comes in
        let T : State = x.leads.state in
        let all : l.answers ≡ take l.given l.answers ++ k ∷ drop (suc l.given) l.answers =
        next_taken l.answers l.given k w.refuses.0 in
        let out : run_from p rules S l.answers ≡ Out w.bound T.shown =
        ap (run_from p rules S) all
        ∙ turned S m new c (plan_choices l) s t given left rest most few u w.left x (k ∷ drop (suc l.given) l.answers)
        ∙ ap (from_turn p rules) ((w.question T).outside (drop (suc l.given) l.answers)) in
        let never : false ≡ true = ap is_open (sym out) ∙ opens in
        absurd cc

    turn_ends : (e : Ending) → (e ≡ endings.NoAnswer → ⊥) → (e ≡ endings.BadAnswer → ⊥)
        → StepComes (refused_by (RefusedByPlanAnswers l) (λ _. ⊥) (Some rest)) (StepsTo p.lines new
        (devices c (text_state s) most rules.choose []) u.state rest (turn p rules.limit u.state))
        (devices (plan_choices l) (text_state t) few rules.choose given) (Ok (Some e))
        → IsOver p rules S (take l.given l.answers) e t
    turn_ends endings.End a b x = turn_over S m new c (plan_choices l) s t given left rest most few u endings.End x
    turn_ends endings.Stop a b x = turn_over S m new c (plan_choices l) s t given left rest most few u endings.Stop x
    turn_ends endings.What a b x = turn_over S m new c (plan_choices l) s t given left rest most few u endings.What x
    turn_ends endings.How a b x = turn_over S m new c (plan_choices l) s t given left rest most few u endings.How x
    turn_ends endings.Sorry a b x = turn_over S m new c (plan_choices l) s t given left rest most few u endings.Sorry x
    turn_ends endings.Limit a b x = turn_over S m new c (plan_choices l) s t given left rest most few u endings.Limit x
    turn_ends endings.NoInput a b w = turn_dry S m new c (plan_choices l) s t given left rest most few u
        (RefusedByPlanAnswers l) w
    turn_ends endings.NoAnswer a b w = absurd (a refl)
    turn_ends endings.BadAnswer a b w = absurd (b refl)

  -- ---- a step, by its result

  module _ (S : State) (m new : Configuration) (c d : Choices) (s t : List ℕ) (given left rest : List (List ℕ))
      (most few : ℕ) (refused : Refusal → Type 0) (r answer : Result (Option Ending) RunFault)
      (u : Came p rules S c.taken m left s) (is : r ≡ answer) (l : left ≡ given ++ rest) (follows : few ≡ 0
      → rest ≡ []) (steps : DoesStep refused p rules.limit m new (devices c (text_state s) most rules.choose [])
      (devices d (text_state t) few rules.choose given) r) where
    pub step_comes : StepComes refused
        (StepsTo p.lines new (devices c (text_state s) most rules.choose []) u.state rest (turn p rules.limit u.state))
        (devices d (text_state t) few rules.choose given) answer
    step_comes = subst (λ r. StepComes refused (StepsTo p.lines new (devices c (text_state s) most rules.choose [])
        u.state rest (turn p rules.limit u.state)) (devices d (text_state t) few rules.choose given) r) is
        (steps u.state rest (record {
          represents = u.stands.represents;
          lines = u.stands.lines_left ∙ l;
          follow = λ none. (follows none, u.stands.choose);
        }))

  pub step_came : (S : State) (m new : Configuration) (c d : Choices) (s t : List ℕ) (given left rest : List (List ℕ))
      (most few : ℕ) (refused : Refusal → Type 0) (r : Result (Option Ending) RunFault)
      → r ≡ Ok None → Came p rules S c.taken m left s → left ≡ given ++ rest → (few ≡ 0 → rest ≡ [])
      → DoesStep refused p rules.limit m new (devices c (text_state s) most rules.choose [])
      (devices d (text_state t) few rules.choose given) r
      → Came p rules S d.taken new rest t
  step_came S m new c d s t given left rest most few refused r is u l follows steps =
      turn_came S m new c d s t given left rest most few u
      (step_comes S m new c d s t given left rest most few refused r (Ok None) u is l follows steps)

  pub advanced : (n : ℕ) (S : State) (old new : Configuration) (a : Answers) (s : List ℕ) (left : List (List ℕ))
      → Came p rules S a old left s → PlainTurns p rules.limit n old new → Came p rules S a new left s
  advanced zero S old new a s left u same = subst (λ (m : Configuration). Came p rules S a m left s) (sym same) u
  advanced (suc n) S old new a s left u turns =
      let c : Choices = record { plan = []; taken = a; kept = None } in
      step_came S turns.0 new c c s s [] left left 1 1 nothing_refused (Ok None) refl
      (advanced n S old turns.0 a s left u turns.1) refl (λ none. absurd (omega (arith, none)))
      (turns.2 (devices c (text_state s) 1 rules.choose []) refl)

  module _ (S : State) (m new : Configuration) (c : Choices) (l : PlanAnswers) (s t : List ℕ)
      (given left rest : List (List ℕ)) (most few : ℕ) (r : Result (Option Ending) RunFault)
      (u : Came p rules S c.taken m left s) (lines_are : left ≡ given ++ rest) (follows : few ≡ 0 → rest ≡ [])
      (steps : DoesStep (refused_by (RefusedByPlanAnswers l) (λ _. ⊥) (Some rest)) p rules.limit m new
      (devices c (text_state s)
      most rules.choose []) (devices (plan_choices l) (text_state t) few rules.choose given) r) where
    abbrev Comes : Result (Option Ending) RunFault → Type 0
    Comes answer = StepComes (refused_by (RefusedByPlanAnswers l) (λ _. ⊥) (Some rest))
        (StepsTo p.lines new (devices c (text_state s) most rules.choose []) u.state rest (turn p rules.limit u.state))
        (devices (plan_choices l) (text_state t) few rules.choose given) answer

    comes : (answer : Result (Option Ending) RunFault) → r ≡ answer → Comes answer
    comes answer is = step_comes S m new c (plan_choices l) s t given left rest most few
        (refused_by (RefusedByPlanAnswers l) (λ _. ⊥) (Some rest)) r answer u is lines_are follows steps

    abbrev Led : (State → Answers → Outcome StepResult State) → Type 0
    Led g = StepsTo p.lines new (devices c (text_state s) most rules.choose []) u.state rest
        (turn p rules.limit u.state) (devices (plan_choices l) (text_state t) few rules.choose given) g

    turn_plan : (g : State → Answers → Outcome StepResult State) → Led g → l.answers ≡ c.plan
    turn_plan g x = ap (λ (y : Choices). y.plan) x.exchanges.grown

    -- the plan stays
    pub step_plan : (o : Option Ending) → r ≡ Ok o → l.answers ≡ c.plan
    step_plan None is = turn_plan goes (comes (Ok None) is)
    step_plan (Some e) is = of_turn (refused_by (RefusedByPlanAnswers l) (λ _. ⊥) (Some rest))
        (StepsTo p.lines new (devices c (text_state s) most rules.choose []) u.state rest (turn p rules.limit u.state))
        (devices (plan_choices l) (text_state t) few rules.choose given) turn_plan e (comes (Ok (Some e)) is)

    step_asks : r ≡ Ok (Some endings.NoAnswer) → IsAsked p rules S l.answers l.refused_bound
    step_asks is = turn_asks S m new c l s t given left rest most few u (comes (Ok (Some endings.NoAnswer)) is)

    step_over : (e : Ending) → (e ≡ endings.NoAnswer → ⊥) → (e ≡ endings.BadAnswer → ⊥) → r ≡ Ok (Some e)
        → IsOver p rules S (take l.given l.answers) e t
    step_over e a b is = turn_ends S m new c l s t given left rest most few u e a b (comes (Ok (Some e)) is)

    over_or_asks : (e : Ending) → (e ≡ endings.BadAnswer → ⊥) → r ≡ Ok (Some e)
        → PlaysTo p rules S (take l.given l.answers) l.answers new rest t (played_of e l.refused_bound)
    over_or_asks endings.End b is = step_over endings.End (λ e. absurd cc) b is
    over_or_asks endings.Stop b is = step_over endings.Stop (λ e. absurd cc) b is
    over_or_asks endings.What b is = step_over endings.What (λ e. absurd cc) b is
    over_or_asks endings.How b is = step_over endings.How (λ e. absurd cc) b is
    over_or_asks endings.Sorry b is = step_over endings.Sorry (λ e. absurd cc) b is
    over_or_asks endings.Limit b is = step_over endings.Limit (λ e. absurd cc) b is
    over_or_asks endings.NoInput b is = step_over endings.NoInput (λ e. absurd cc) b is
    over_or_asks endings.NoAnswer b is = step_asks is
    over_or_asks endings.BadAnswer b is = absurd (b refl)

    -- it is over, or it asks
    pub step_plays : (e : Ending) (plan : Answers) (x : Played) → l.answers ≡ plan
        → (e ≡ endings.BadAnswer → ⊥) → r ≡ Ok (Some e) → x ≡ played_of e l.refused_bound
        → PlaysTo p rules S (take l.given plan) plan new rest t x
    step_plays e plan x answers b is same =
        subst (λ (y : Played). PlaysTo p rules S (take l.given plan) plan new rest t y) (sym same)
        (subst (λ (a : Answers). PlaysTo p rules S (take l.given a) a new rest t (played_of e l.refused_bound)) answers
        (over_or_asks e b is))

    pub never_out : is_open (run_from p rules S l.answers) ≡ true → r ≡ Ok (Some endings.BadAnswer) → ⊥
    never_out opens is = let w : Comes (Ok (Some endings.BadAnswer)) = comes (Ok (Some endings.BadAnswer)) is in
        turn_out S m new c l s t given left rest most few u w.0 w.1 opens

    -- bytes and lines are in memory
    pub only_memory : (r ≡ Err faults.Spent → ⊥) → (f : RunFault) → r ≡ Err f → f ≡ faults.Memory
    only_memory unspent f is = fault_in_memory (RefusedByPlanAnswers l) (Some rest) p.lines new
        (devices c (text_state s) most rules.choose []) (devices (plan_choices l) (text_state t) few rules.choose given)
        u.state rest (turn p rules.limit u.state) refl refl f (λ spent. unspent (is ∙ ap Err spent)) (comes (Err f) is)

-- where a list can give no line, none is left
pub none_follow : (s : LineList) → length s.lines - s.taken ≡ 0 → drop s.taken s.lines ≡ []
none_follow s none = nothing (drop s.taken s.lines) (omega (arith, none, length-drop s.taken s.lines)) where
  nothing : (ls : List (List ℕ)) → length ls ≡ 0 → ls ≡ []
  nothing [] e = refl
  nothing (l ∷ ls) e = absurd (omega (arith, e))

pub fits_there : (p : StoredProgram) (rules : Rules) (S : State) (a : Answers) (m : Configuration)
    (left : List (List ℕ)) (shown : List ℕ)
    → Came p rules S a m left shown → FitsProgram p m
fits_there p rules S a m left shown u = record { state = u.state; represents = u.stands.represents }

pub came_first : (p : StoredProgram) (rules : Rules) (S : State) (a : Answers) (m : Configuration)
    (left : List (List ℕ)) (shown : List ℕ)
    → a ≡ [] → IsStageAt p rules m left shown S → Came p rules S a m left shown
came_first p rules S a m left shown none h =
    record { state = S; stands = h; reached = λ later. ap (λ b. run_from p rules S (b ++ later)) none }

-- ---- the same, by other names

pub came_by : (p : StoredProgram) (rules : Rules) (S : State) (a b : Answers) (m : Configuration)
    (left now : List (List ℕ)) (shown : List ℕ)
    → a ≡ b → left ≡ now → Came p rules S a m left shown → Came p rules S b m now shown
came_by p rules S a b m left now shown answers lines_are x =
    subst (λ (d : Answers). Came p rules S d m now shown) answers
    (subst (λ (ls : List (List ℕ)). Came p rules S a m ls shown) lines_are x)

pub plays_by : (p : StoredProgram) (rules : Rules) (S : State) (given plan : Answers) (m : Configuration)
    (left now : List (List ℕ)) (shown : List ℕ) (x : Played)
    → left ≡ now → PlaysTo p rules S given plan m left shown x → PlaysTo p rules S given plan m now shown x
plays_by p rules S given plan m left now shown x same y =
    subst (λ (ls : List (List ℕ)). PlaysTo p rules S given plan m ls shown x) same y

pub stands_by : (p : StoredProgram) (rules : Rules) (S : State) (m n : Configuration) (left now : List (List ℕ))
    (shown text : List ℕ)
    → m ≡ n → left ≡ now → shown ≡ text → IsStageAt p rules m left shown S → IsStageAt p rules n now text S
stands_by p rules S m n left now shown text machine lines_are end x =
    subst (λ (k : Configuration). IsStageAt p rules k now text S) machine (subst (λ (ls : List (List ℕ)). IsStageAt p
    rules m ls text S) lines_are (subst (λ (b : List ℕ). IsStageAt p rules m left b S) end x))

-- lines that were taken were there
pub taken_within : (s t : LineList) (xs : List (List ℕ)) → Gives s xs t → s.taken ≤ length s.lines
    → t.taken ≤ length s.lines
taken_within s t xs gives l =
    omega (arith, l, gives.counted, sym (length-drop s.taken s.lines) ∙ ap length gives.first ∙ length-append xs _)
