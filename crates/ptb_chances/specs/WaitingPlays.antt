-- This file defines the plays that wait to be continued.
-- Main definition: `Accounted`.
--     WaitingPlay                    where plays are, the answers that each of them takes next, their chance and
--                                    their number
--     planned, unplanned             what the code holds of it
--     waiting_plays w                all that is left to be played
--     Waits p input rules w q        the play with the answers q waits there
--     CountsFor p input rules w qs   these plays wait there, and no others
--     below play most qs             the runs that begin with one of some lists of answers
--     Accounted ..                   with what waits, the tally is the account of all runs
--     Takes old w new                one of them was taken out
--     Puts old w new                 one was put in: by itself, or together with one in the same state
--     after_answer w n k             the same plays after the answer k to a question with bound n
--     work_left limit most ws        more than is left to be done
use Rattle.std.specs.Prelude.{◌≡◌, ◌⊎◌, ◌<◌, ◌≤◌, ℕ, zero, suc, ◌+◌, ◌-◌, ◌*◌, List, [], ◌∷◌, ◌++◌}
use Rattle.std.specs.Prelude.{map, length, drop, true, false, ℤ, pos}
use Rattle.std.specs.List.{flat_map, AllByRecursion}
use Rattle.ptb_numbers.specs.Fractions.{Ratio, Equals, plus}
use Rattle.ptb_text.specs.Statements.{StoredProgram}
use Rattle.ptb_answers.specs.Outcome.{Answers, bounds, is_open}
use Rattle.ptb_answers.specs.declared.rules.Rules.{Rules}
use Rattle.ptb_command.specs.Configuration.{Configuration}
use Rattle.ptb_command.specs.State.{State}
use Rattle.ptb_machine.specs.Play.{play}
use Rattle.ptb_chances.specs.Chances.{Row, answer_count, bound_product, chance_of_all}
use Rattle.ptb_machine.specs.Play.{run_from}
use Rattle.ptb_machine.specs.RunTree.{leaves, tree}
use Rattle.ptb_chances.specs.declared.worklist.SavedState.{SavedState}
use Rattle.ptb_chances.specs.declared.worklist.Plan.{Plan}
use Rattle.ptb_chances.specs.declared.worklist.Waiting.{Waiting}
use Rattle.ptb_chances.specs.declared.worklist.Worklist.{Worklist}
use Rattle.ptb_chances.specs.Accounts.{AreAlike, IsAccountOf, account}
use Rattle.ptb_chances.specs.StagePlays.{IsStageAt}

pub record WaitingPlay : Type 0 where
  pub machine : Configuration
  -- how many lines were taken
  pub taken : ℕ
  -- the end of what was shown
  pub shown : List ℕ
  pub plan : Answers
  pub chance : Ratio
  pub runs : ℕ

-- ---- what the code holds

abbrev pub planned : SavedState → Plan → WaitingPlay
planned state plan = record {
  machine = state.machine;
  taken = state.taken;
  shown = state.shown.items;
  plan = plan.answers.items;
  chance = plan.chance;
  runs = plan.runs;
}

abbrev pub unplanned : Waiting → WaitingPlay
unplanned w = record {
  machine = w.state.machine;
  taken = w.state.taken;
  shown = w.state.shown.items;
  plan = [];
  chance = w.chance;
  runs = w.runs;
}

abbrev pub in_map : ℕ × Waiting → WaitingPlay
in_map e = unplanned e.1

abbrev pub states_left : Worklist → List WaitingPlay
states_left w = map unplanned w.others.items ++ map in_map w.states.entries

abbrev pub waiting_plays : Worklist → List WaitingPlay
waiting_plays w = map (planned w.state) w.plans.items ++ states_left w

-- at the beginning of all runs
abbrev pub first_waiting : Configuration → WaitingPlay
first_waiting m = record {
  machine = m;
  taken = 0;
  shown = [];
  plan = [];
  chance = record { numerator = 1; denominator = 1 };
  runs = 1;
}

-- where a machine is, after the last answer of a plan
abbrev pub gone_to : Configuration → ℕ → List ℕ → Ratio → ℕ → WaitingPlay
gone_to m taken shown chance runs = record {
  machine = m;
  taken = taken;
  shown = shown;
  plan = [];
  chance = chance;
  runs = runs;
}

-- ---- which plays these are

module _ (p : StoredProgram) (input : List (List ℕ)) (rules : Rules) where
  pub record Waits (w : WaitingPlay) (q : Answers) : Type 0 where
    pub state : State
    pub stands : IsStageAt p rules w.machine (drop w.taken input) w.shown state
    pub begun : Answers
    pub answers : q ≡ begun ++ w.plan
    pub reached : (later : Answers) → play p input rules (begun ++ later) ≡ run_from p rules state later
    pub opens : is_open (play p input rules q) ≡ true
    pub positive : 0 < bound_product (bounds (play p input rules) q)

  pub record CountsFor (w : WaitingPlay) (qs : List Answers) : Type 0 where
    pub all : AllByRecursion (Waits w) qs
    pub unspent : w.machine.spent ≡ false
    pub within : w.taken ≤ length input
    pub chance : Equals w.chance (chance_of_all (play p input rules) qs)
    pub positive : 0 < w.chance.denominator
    pub runs : w.runs ≡ length qs
    pub some : 0 < w.runs

  abbrev pub below : ℕ → List Answers → List Answers
  below most qs = flat_map (λ q. leaves (play p input rules) q most) qs

  -- these runs, and those to which the plays that wait may come, are all runs
  abbrev pub Covers : ℕ → List Answers → List WaitingPlay → Type 0
  Covers most done [] = AreAlike (account (play p input rules) (tree (play p input rules) most))
      (account (play p input rules) done)
  Covers most done (w ∷ ws) = (qs : List Answers) × CountsFor w qs × Covers most (below most qs ++ done) ws

  pub record Accounted (most : ℕ) (tally : List Row) (ws : List WaitingPlay) : Type 0 where
    pub done : List Answers
    pub account_is : IsAccountOf (play p input rules) done tally
    pub covers : Covers most done ws

-- ---- taking out and putting in

pub record Takes (old : List WaitingPlay) (w : WaitingPlay) (new : List WaitingPlay) : Type 0 where
  pub prefix : List WaitingPlay
  pub suffix : List WaitingPlay
  pub old_is : old ≡ prefix ++ w ∷ suffix
  pub new_is : new ≡ prefix ++ suffix

pub record SamePlace (v u : WaitingPlay) : Type 0 where
  pub machine : v.machine ≡ u.machine
  pub taken : v.taken ≡ u.taken
  pub shown : v.shown ≡ u.shown
  pub plan : v.plan ≡ u.plan

-- u stands for the plays of both
pub record IsJoined (v w u : WaitingPlay) : Type 0 where
  pub first : SamePlace v u
  pub second : SamePlace w u
  pub chance : Equals u.chance (plus v.chance w.chance)
  pub positive : 0 < u.chance.denominator
  pub runs : u.runs ≡ v.runs + w.runs

pub record PutsWith (old : List WaitingPlay) (w : WaitingPlay) (new : List WaitingPlay) : Type 0 where
  pub other : WaitingPlay
  pub both : WaitingPlay
  pub rest : List WaitingPlay
  pub before : Takes old other rest
  pub after : Takes new both rest
  pub joined : IsJoined other w both

abbrev pub Puts : List WaitingPlay → WaitingPlay → List WaitingPlay → Type 0
Puts old w new = Takes new w old ⊎ PutsWith old w new

abbrev pub after_answer : WaitingPlay → ℤ → ℤ → WaitingPlay
after_answer w n k = record w {
  plan = w.plan ++ k ∷ [];
  chance = record { numerator = w.chance.numerator; denominator = w.chance.denominator * answer_count n };
}

-- those after the answers 1 to k were put in
abbrev pub PutsAnswers : WaitingPlay → ℤ → ℕ → List WaitingPlay → List WaitingPlay → Type 0
PutsAnswers w n zero old new = new ≡ old
PutsAnswers w n (suc k) old new = (mid : List WaitingPlay) × PutsAnswers w n k old mid
    × Takes new (after_answer w n (pos (suc k))) mid

-- ---- how much is left

-- with each answer, and with each command, it is less
abbrev pub depth_left : ℕ → ℕ → WaitingPlay → ℕ
depth_left limit most w = (limit - w.machine.steps) * (most + 1) + (most - length w.plan)

-- a question has fewer answers than 65536
abbrev pub power : ℕ → ℕ
power zero = 1
power (suc n) = 65536 * power n

abbrev pub work_of : ℕ → ℕ → WaitingPlay → ℕ
work_of limit most w = power (depth_left limit most w)

abbrev pub work_left : ℕ → ℕ → List WaitingPlay → ℕ
work_left limit most [] = 0
work_left limit most (w ∷ ws) = work_of limit most w + work_left limit most ws
