-- This file proves what the limit of a run changes: nothing before it is met.
-- Main lemma: `taken_by`.
use Rattle.std.proofs.Common.{◌≡◌, ℕ, ◌-◌, ◌+◌, ◌<◌, ◌≤◌, List, [], ◌∷◌, ◌++◌, length, true, Option}
use Rattle.std.proofs.Common.{Some, None, refl, ap, sym, ◌∙◌, arith, append-nil}
use Rattle.std.proofs.lemmas.Bool.{le-leb, lt-leb}
use Rattle.ptb_text.specs.Statements.{StoredProgram}
use Rattle.ptb_answers.specs.Choices.{Choices}
use Rattle.ptb_answers.specs.Outcome.{Answers, Done, go_on, is_whole, map_outcome}
use Rattle.ptb_answers.specs.declared.rules.Rules.{Rules}
use Rattle.ptb_command.specs.Act.{Over}
use Rattle.ptb_command.specs.Commands.{Command}
use Rattle.ptb_command.specs.Configuration.{Configuration}
use Rattle.ptb_command.specs.declared.ending.Ending.{Ending}
use Rattle.ptb_command.specs.declared.ending.Ending.TheVariants as endings
use Rattle.ptb_command.specs.State.{Place, State, first_state, next_command}
use Rattle.ptb_machine.specs.Laws.{RunLaws}
use Rattle.ptb_machine.specs.Play.{Finish, act_unless, after_step_result, finish_in, play, turn, turn_by, turns}
use Rattle.ptb_explore.specs.Copies.{AreTakenBy}
use Rattle.ptb_explore.specs.PlannedPlays.{IsRunPrefix, limited}
use Rattle.ptb_machine.specs.Play.{run_from}

-- ---- turns

-- below two limits a turn is the same
same_below : (p : StoredProgram) (l k : ℕ) (S : State) (a : Answers) (r : Option (Place × Command)) → S.steps < l
    → S.steps < k → turn_by p k r S a ≡ turn_by p l r S a
same_below p l k S a None h g = refl
same_below p l k S a (Some r) h g = ap (λ b. act_unless p r b S a) (lt-leb k S.steps g ∙ sym (lt-leb l S.steps h))

pub turn_below : (p : StoredProgram) (l k : ℕ) (S : State) (a : Answers) → S.steps < l → S.steps < k
    → turn p k S a ≡ turn p l S a
unfolding turn
turn_below p l k S a h g = same_below p l k S a (next_command p.lines S.place) h g

-- at its limit a run is over
over_by : (p : StoredProgram) (l : ℕ) (S : State) (a : Answers) (r : Option (Place × Command)) → l ≤ S.steps
    → (e : Ending) × (turn_by p l r S a ≡ Done (Over e S) a)
over_by p l S a None h = (endings.End, refl)
over_by p l S a (Some r) h = (endings.Limit, ap (λ b. act_unless p r b S a) (le-leb l S.steps h))

turn_over : (p : StoredProgram) (l : ℕ) (S : State) (a : Answers) → l ≤ S.steps
    → (e : Ending) × (turn p l S a ≡ Done (Over e S) a)
unfolding turn
turn_over p l S a h = over_by p l S a (next_command p.lines S.place) h

run_over : (laws : RunLaws) (p : StoredProgram) (rules : Rules) (S : State) (a : Answers) → rules.limit ≤ S.steps
    → (f : Finish) × (run_from p rules S a ≡ Done f a)
run_over laws p rules S a h =
    let t = turn_over p rules.limit S a h in
    let o = laws.by_turn p rules.limit S a ∙ ap (λ o. go_on o (after_step_result (turns p rules.limit))) t.1 in
    (finish_in t.0 S, ap (map_outcome (λ f. f) (λ (T : State). T.shown)) o)

-- ---- from its first state

pub play-is : (p : StoredProgram) (input : List (List ℕ)) (rules : Rules) (a : Answers)
    → play p input rules a ≡ run_from p rules (first_state p input rules.choose) a
unfolding play
play-is p input rules a = refl

-- a run that is underway is so under each limit that isn't less than its steps
play_reached : (p : StoredProgram) (input : List (List ℕ)) (rules : Rules) (c : Choices) (s : List ℕ)
    (left : List (List ℕ)) (m : Configuration) (u : IsRunPrefix p input rules c s left m) (limit : ℕ)
    → u.state.steps ≤ limit → (later : Answers)
    → play p input (limited rules limit) (c.taken ++ later) ≡ run_from p (limited rules limit) u.state later
play_reached p input rules c s left m u limit within later =
    play-is p input (limited rules limit) (c.taken ++ later)
    ∙ ap (map_outcome (λ f. f) (λ (T : State). T.shown)) (u.reached limit within later)

-- ---- by which command answers are taken

rest_left : (f : Finish) (rest : Answers) → 0 < length rest → is_whole {A = Finish} {W = List ℕ} (Done f rest) ≡ true
    → ⊥
rest_left f [] more h = absurd (omega (arith, more))
rest_left f (k ∷ rest) more h = absurd cc

-- where a step took answers, they are taken by as many commands as were begun then, and no fewer
pub taken_by : (laws : RunLaws) (p : StoredProgram) (input : List (List ℕ)) (rules : Rules) (m new : Configuration)
    (c d : Choices) (s t : List ℕ) (left rest : List (List ℕ)) (more : Answers)
    → IsRunPrefix p input rules c s left m → IsRunPrefix p input rules d t rest new → d.taken ≡ c.taken ++ more
    → 0 < length more → new.steps ≡ m.steps + 1 → AreTakenBy p input rules d.taken new.steps
taken_by laws p input rules m new c d s t left rest more u v taken some step = record {
  all =
      let here : v.state.steps ≡ new.steps = v.represents.steps in
      let over = run_over laws p (limited rules new.steps) v.state [] (omega (arith, here)) in
      let is : play p input (limited rules new.steps) d.taken ≡ Done over.0 [] =
      ap (play p input (limited rules new.steps)) (sym (append-nil d.taken))
      ∙ play_reached p input rules d t rest new v new.steps (omega (arith, here)) [] ∙ over.1 in
      ap is_whole is;
  no_sooner = λ run.
      let n = new.steps - 1 in
      let here : u.state.steps ≡ m.steps = u.represents.steps in
      let over = run_over laws p (limited rules n) u.state more (omega (arith, here, step)) in
      let is : play p input (limited rules n) d.taken ≡ Done over.0 more =
      ap (play p input (limited rules n)) taken
      ∙ play_reached p input rules c s left m u n (omega (arith, here, step)) more ∙ over.1 in
      rest_left over.0 more some (sym (ap is_whole is) ∙ run);
}
