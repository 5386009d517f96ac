-- This file defines the lists of at most n answers that split the runs of what takes answers one by one.
-- Main definition: `beginnings`.
--     stopped n play            play, which is over where it asks for more than n answers
--     beginnings n play         its runs
--     IsBeginning n play u      u is a run of at most n answers, or n answers after which play asks
--     BeginningLaws play most n the laws of these lists
--     beginning_line form play u    the line of a list: its answers, in a form
--     Splitting                 what contracts see of a search for these lists
--     IsSameSearch old new      what is searched stays, wherever the search is
--     split_play s              what is searched
--     MovesTo play f f' found   the search is at the next list, or past the last
--     FindsBeginning play f r found     r has the answers and bounds of the next list, or there is none
--     list_steps s u            the commands that the play of a list begins
--     list_steps_left s         those of the lists that are left
--     PlaysList old new found   no more was played for the next list than its play begins, and nothing where none is
--                               left
--     PlaysLists old new        no more was played than the plays begin of the lists that are no longer left
--     PlaysOneListMore old new  the same, or more by less than one play can add
use Rattle.std.specs.Prelude.{◌≡◌, ℕ, ◌+◌, ◌<◌, ◌≤◌, nat_lt, List, [], ◌∷◌, ◌++◌, length, take, drop, Bool}
use Rattle.std.specs.Prelude.{true, false, ◌⊎◌, ◌↔◌, ℤ, Contains}
use Rattle.std.specs.List.{flat_map}
use Rattle.ptb_text.specs.Statements.{StoredProgram}
use Rattle.ptb_answers.specs.Outcome.{Answers, Outcome, Done, Asks, Out, bounds}
use Rattle.ptb_answers.specs.AnswerText.{items_in}
use Rattle.ptb_answers.specs.declared.form.Form.{Form}
use Rattle.ptb_answers.specs.declared.rules.Rules.{Rules}
use Rattle.ptb_machine.specs.Play.{Finish, play}
use Rattle.ptb_explore.specs.ReportText.{list_line}
use Rattle.ptb_answers.specs.AskedQuestions.{answers_in, bounds_in}
use Rattle.ptb_explore.specs.declared.report.Report.{Report}
use Rattle.ptb_explore.specs.Listing.{text}
use Rattle.ptb_explore.specs.PlannedPlays.{play_steps}
use Rattle.ptb_explore.specs.Explorations.{steps_of_runs}
use Rattle.ptb_explore.specs.Copies.{play_limit}
use Rattle.ptb_machine.specs.RunTree.{Front, Start, At, End, IsLast, IsNextRun, IsRising, IsRun, runs_after, tree}

-- ---- the lists

-- where it may take more answers, a question stays what it is; otherwise it is over
abbrev pub stop : {A W : Type 0} → Bool → Answers → Outcome A W → Outcome (Unit {0}) W
stop more later (Done x rest) = Done tt (rest ++ later)
stop true later (Asks bound w) = Asks bound w
stop false later (Asks bound w) = Done tt later
stop more later (Out bound w) = Out bound w

-- it is played with the first n answers
abbrev pub stopped : {A W : Type 0} → ℕ → (Answers → Outcome A W) → Answers → Outcome (Unit {0}) W
stopped n play a = stop (nat_lt (length a) n) (drop n a) (play (take n a))

abbrev pub beginnings : {A W : Type 0} → ℕ → (Answers → Outcome A W) → List Answers
beginnings n play = tree (stopped n play) n

-- ---- their laws

abbrev pub IsBeginning : {A W : Type 0} → ℕ → (Answers → Outcome A W) → Answers → Type 0
IsBeginning {W = W} n play u = (IsRun play u × (length u ≤ n))
    ⊎ ((length u ≡ n) × ((bound : ℤ) × (w : W) × (play u ≡ Asks bound w)))

pub record BeginningLaws {A W : Type 0} (play : Answers → Outcome A W) (most n : ℕ) : Type 0 where
  -- they are these and no others, in rising order
  pub lists : (u : Answers) → Contains (beginnings n play) u ↔ IsBeginning n play u
  pub order : IsRising (beginnings n play)
  -- none begins with another
  pub apart : (u later : Answers) (k : ℤ) → Contains (beginnings n play) u
      → Contains (beginnings n play) (u ++ k ∷ later) → ⊥
  -- the reports of the runs that begin with the first list, the second and so on are those of all runs
  pub whole_text :
      (report : Answers → List ℕ)
      → flat_map (λ u. text report (runs_after play most u Start)) (beginnings n play) ≡ text report (tree play most)

-- ---- how they are written

abbrev pub beginning_line : {A W : Type 0} → Form → (Answers → Outcome A W) → Answers → List ℕ
beginning_line form play u = list_line (items_in form u (bounds play u))

-- ---- a search for them

pub record Splitting : Type 0 where
  pub program : StoredProgram
  pub input : List (List ℕ)
  pub rules : Rules
  -- the most answers that a list has
  pub most : ℕ
  pub front : Front
  -- how many commands were played in all
  pub played : ℕ

abbrev pub IsSameSearch : Splitting → Splitting → Type 0
IsSameSearch old new = new ≡ record old { front = new.front; played = new.played }

abbrev pub split_play : Splitting → Answers → Outcome Finish (List ℕ)
split_play s = play s.program s.input s.rules

abbrev pub MovesTo : {A W : Type 0} → (Answers → Outcome A W) → Front → Front → Bool → Type 0
MovesTo play f f' true = (u : Answers) × IsNextRun play [] f u × (f' ≡ At u)
MovesTo play f f' false = IsLast play [] f × (f' ≡ End)

abbrev pub FindsBeginning : {A W : Type 0} → (Answers → Outcome A W) → Front → Report → Bool → Type 0
FindsBeginning play f r true = IsNextRun play [] f (answers_in r.asked.items)
    × (bounds_in r.asked.items ≡ bounds play (answers_in r.asked.items))
FindsBeginning play f r false = IsLast play [] f

-- ---- how far lists are played

abbrev pub list_steps : Splitting → Answers → ℕ
list_steps s u = play_steps s.program s.input s.rules u

abbrev pub list_steps_left : Splitting → ℕ
list_steps_left s = steps_of_runs (list_steps s) (runs_after (stopped s.most (split_play s)) s.most [] s.front)

abbrev pub PlaysList : Splitting → Splitting → Bool → Type 0
PlaysList old new true = (u : Answers) → new.front ≡ At u → new.played ≤ old.played + list_steps old u
PlaysList old new false = new.played ≡ old.played

abbrev pub PlaysLists : Splitting → Splitting → Type 0
PlaysLists old new = new.played + list_steps_left new ≤ old.played + list_steps_left old

abbrev pub PlaysOneListMore : Splitting → Splitting → Type 0
PlaysOneListMore old new = new.played + list_steps_left new < old.played + list_steps_left old + play_limit
