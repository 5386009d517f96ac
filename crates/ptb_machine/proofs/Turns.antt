-- This file proves what a turn and a run may change, and that a run is one turn and then the turns after it.
-- Main lemma: `turns_shown`.
use Rattle.std.proofs.Common.{◌≡◌, ℕ, zero, suc, ◌+◌, ◌-◌, ◌<◌, ◌≤◌, Bool, true, false, leb, Option}
use Rattle.std.proofs.Common.{Some, None, refl, sym, ap, subst, ◌∙◌, arith}
use Rattle.std.proofs.lemmas.Bool.{leb-false}
use Rattle.ptb_text.specs.Statements.{StoredProgram}
use Rattle.ptb_answers.specs.Outcome.{Answers, Outcome, Done, Asks, Out, go_on, map_outcome}
use Rattle.ptb_command.specs.Commands.{Command}
use Rattle.ptb_command.specs.State.{Place, State, next_command}
use Rattle.ptb_command.specs.Act.{StepResult, Next, Over, with_step}
use Rattle.ptb_machine.specs.Play.{FinalState, act_unless, turn_by, turn, after_turn, turns_within}
use Rattle.ptb_machine.specs.Play.{all_turns, last_state, finish_of, after_step_result, turns}
use Rattle.ptb_command.specs.Effects.{act_state, Begins, CommandChange}
use Rattle.ptb_machine.specs.RunEffects.{run_shown, steps_of_run, TurnChange}
use Rattle.ptb_command.proofs.PublicLemmas.{begins_itself, begins_joined, takes_itself, takes_joined, act_keeps}

-- ---- one turn

turn_itself : (limit : ℕ) (S : State) → TurnChange limit S S
turn_itself limit S = record {
  shown = begins_itself S.shown;
  lines = takes_itself S.lines;
  nested = λ h. h;
  steps = λ h. h;
}

of_command : (limit : ℕ) (S T : State) → S.steps < limit → CommandChange (with_step S) T → TurnChange limit S T
of_command limit S T l c = record {
  shown = c.shown;
  lines = c.lines;
  nested = c.nested;
  steps = λ h. omega (arith, c.steps);
}

unless_change : (p : StoredProgram) (limit : ℕ) (r : Place × Command) (S : State) (a : Answers) (b : Bool)
    → leb limit S.steps ≡ b → TurnChange limit S (act_state (act_unless p r b S a))
unless_change p limit r S a true h = turn_itself limit S
unless_change p limit r S a false h = of_command limit S _ (leb-false limit S.steps h) (act_keeps p.lines r.0 r.1 S a)

by_change : (p : StoredProgram) (limit : ℕ) (o : Option (Place × Command)) (S : State) (a : Answers)
    → TurnChange limit S (act_state (turn_by p limit o S a))
by_change p limit None S a = turn_itself limit S
by_change p limit (Some r) S a = unless_change p limit r S a (leb limit S.steps) refl

pub turn_change : (p : StoredProgram) (limit : ℕ) (S : State) (a : Answers)
    → TurnChange limit S (act_state (turn p limit S a))
unfolding turn
turn_change p limit S a = by_change p limit (next_command p.lines S.place) S a

-- a turn that continues is a step below the limit
unless_goes : (p : StoredProgram) (limit : ℕ) (r : Place × Command) (S T : State) (a rest : Answers) (b : Bool)
    → leb limit S.steps ≡ b → act_unless p r b S a ≡ Done (Next T) rest → (S.steps < limit) × (T.steps ≡ S.steps + 1)
unless_goes p limit r S T a rest true h e = absurd cc
unless_goes p limit r S T a rest false h e = (
  leb-false limit S.steps h,
  (subst (λ (o : Outcome StepResult State). CommandChange (with_step S) (act_state o)) e
      (act_keeps p.lines r.0 r.1 S a)).steps,
)

by_goes : (p : StoredProgram) (limit : ℕ) (o : Option (Place × Command)) (S T : State) (a rest : Answers)
    → turn_by p limit o S a ≡ Done (Next T) rest → (S.steps < limit) × (T.steps ≡ S.steps + 1)
by_goes p limit None S T a rest e = absurd cc
by_goes p limit (Some r) S T a rest e = unless_goes p limit r S T a rest (leb limit S.steps) refl e

pub turn_goes : (p : StoredProgram) (limit : ℕ) (S T : State) (a rest : Answers) → turn p limit S a ≡ Done (Next T) rest
    → (S.steps < limit) × (T.steps ≡ S.steps + 1)
unfolding turn
turn_goes p limit S T a rest e = by_goes p limit (next_command p.lines S.place) S T a rest e

-- ---- runs

-- two ways to continue agree after a turn if they agree where it continues
go_on_same : (f g : State → Answers → Outcome FinalState State) (o : Outcome StepResult State)
    → ((T : State) (rest : Answers) → o ≡ Done (Next T) rest → f T rest ≡ g T rest)
    → go_on o (after_turn f) ≡ go_on o (after_turn g)
go_on_same f g (Done (Next T) rest) same = same T rest refl
go_on_same f g (Done (Over ending T) rest) same = refl
go_on_same f g (Asks n T) same = refl
go_on_same f g (Out n T) same = refl

-- enough turns are enough
pub turns_within_same : (n m : ℕ) (p : StoredProgram) (limit : ℕ) (S : State) (a : Answers) → limit - S.steps < n
    → limit - S.steps < m → turns_within n p limit S a ≡ turns_within m p limit S a
unfolding turns_within
turns_within_same zero m p limit S a h k = absurd (omega arith)
turns_within_same (suc n) zero p limit S a h k = absurd (omega arith)
turns_within_same (suc n) (suc m) p limit S a h k =
    go_on_same (turns_within n p limit) (turns_within m p limit) (turn p limit S a)
    (λ T rest e. let g = turn_goes p limit S T a rest e in
    turns_within_same n m p limit T rest (omega (arith, g.0, g.1)) (omega (arith, g.0, g.1)))

pub enough_turns : (n : ℕ) (p : StoredProgram) (limit : ℕ) (S : State) (a : Answers) → limit - S.steps < n
    → turns_within n p limit S a ≡ all_turns p limit S a
unfolding all_turns
enough_turns n p limit S a h = turns_within_same n (suc (limit - S.steps)) p limit S a h (omega arith)

-- a run is one turn, and then the turns after it
pub all_by_turn : (p : StoredProgram) (limit : ℕ) (S : State) (a : Answers)
    → all_turns p limit S a ≡ go_on (turn p limit S a) (after_turn (all_turns p limit))
unfolding all_turns turns_within
all_by_turn p limit S a =
    go_on_same (turns_within (limit - S.steps) p limit) (all_turns p limit) (turn p limit S a)
    (λ T rest e. let g = turn_goes p limit S T a rest e in turns_within_same (limit - S.steps)
    (suc (limit - T.steps)) p limit T rest (omega (arith, g.0, g.1)) (omega arith))

-- the same as it is reported
told_after : (p : StoredProgram) (limit : ℕ) (o : Outcome StepResult State)
    → map_outcome finish_of (λ (T : State). T) (go_on o (after_turn (all_turns p limit)))
    ≡ go_on o (after_step_result (turns p limit))
unfolding turns
told_after p limit (Done (Next T) rest) = refl
told_after p limit (Done (Over ending T) rest) = refl
told_after p limit (Asks n T) = refl
told_after p limit (Out n T) = refl

pub turns_by_turn : (p : StoredProgram) (limit : ℕ) (S : State) (a : Answers)
    → turns p limit S a ≡ go_on (turn p limit S a) (after_step_result (turns p limit))
unfolding turns
turns_by_turn p limit S a = ap (map_outcome finish_of (λ (T : State). T)) (all_by_turn p limit S a)
    ∙ told_after p limit (turn p limit S a)

-- what is shown only grows, lines are taken, and no more commands are begun than the limit says
change_joined : (limit : ℕ) (S T U : State) → TurnChange limit S T → TurnChange limit T U → TurnChange limit S U
change_joined limit S T U c d = record {
  shown = begins_joined S.shown T.shown U.shown c.shown d.shown;
  lines = takes_joined S.lines T.lines U.lines c.lines d.lines;
  nested = λ h. d.nested (c.nested h);
  steps = λ h. d.steps (c.steps h);
}

pub after_change : (f : State → Answers → Outcome FinalState State) (limit : ℕ) (S : State)
    (o : Outcome StepResult State)
    → TurnChange limit S (act_state o) → ((T : State) (rest : Answers) → TurnChange limit T (last_state (f T rest)))
    → TurnChange limit S (last_state (go_on o (after_turn f)))
after_change f limit S (Done (Next T) rest) c others = change_joined limit S T _ c (others T rest)
after_change f limit S (Done (Over ending T) rest) c others = c
after_change f limit S (Asks n T) c others = c
after_change f limit S (Out n T) c others = c

within_change : (n : ℕ) (p : StoredProgram) (limit : ℕ) (S : State) (a : Answers)
    → TurnChange limit S (last_state (turns_within n p limit S a))
unfolding turns_within
within_change zero p limit S a = turn_itself limit S
within_change (suc n) p limit S a = after_change (turns_within n p limit) limit S (turn p limit S a)
    (turn_change p limit S a) (λ T rest. within_change n p limit T rest)

pub all_change : (p : StoredProgram) (limit : ℕ) (S : State) (a : Answers)
    → TurnChange limit S (last_state (all_turns p limit S a))
unfolding all_turns
all_change p limit S a = within_change (suc (limit - S.steps)) p limit S a

told_shown : (u : Outcome FinalState State) → run_shown (map_outcome finish_of (λ (T : State). T) u) ≡
    (last_state u).shown
told_shown (Done l rest) = refl
told_shown (Asks n T) = refl
told_shown (Out n T) = refl

told_steps : (u : Outcome FinalState State) → steps_of_run (map_outcome finish_of (λ (T : State). T) u) ≡
    (last_state u).steps
told_steps (Done l rest) = refl
told_steps (Asks n T) = refl
told_steps (Out n T) = refl

pub turns_shown : (p : StoredProgram) (limit : ℕ) (S : State) (a : Answers)
    → Begins S.shown (run_shown (turns p limit S a))
unfolding turns
turns_shown p limit S a = subst (Begins S.shown) (sym (told_shown (all_turns p limit S a)))
    (all_change p limit S a).shown

pub turns_steps : (p : StoredProgram) (limit : ℕ) (S : State) (a : Answers) → S.steps ≤ limit
    → steps_of_run (turns p limit S a) ≤ limit
unfolding turns
turns_steps p limit S a h = subst (λ (n : ℕ). n ≤ limit) (sym (told_steps (all_turns p limit S a)))
    ((all_change p limit S a).steps h)
