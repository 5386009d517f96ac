-- This file defines where a play is, and its results with some more answers.
-- Main definition: `IsStageAt`.
--     SameEnd s t                      whatever is shown next, the last line is the same after s and after t
--     IsStageAt p rules m left shown S      a machine represents the state S; these lines are left, and this was shown
--                                          last
--     IsStageAtSaved stage state S      the same of the machine of a saved state
--     CanPlay stage state plan         a plan that is open can be played on from a saved state
--     Came p rules S a m left shown    with the answers a, a run has come from the state S to where a machine is
--     IsOver p rules S a ending shown  with these answers it is over
--     IsAsked p rules S a n            with these answers it asks a question with bound n
--     played_of ending n               how a play has ended
--     PlaysTo ..                       one of the three
use Rattle.std.specs.Prelude.{◌≡◌, ℕ, ◌≤◌, List, ◌++◌, ℤ, drop, length, false, true}
use Rattle.ptb_text.specs.Lines.{lines}
use Rattle.ptb_text.specs.Statements.{StoredProgram}
use Rattle.ptb_answers.specs.Outcome.{Answers, Done, Asks, is_open}
use Rattle.ptb_answers.specs.declared.rules.Rules.{Rules}
use Rattle.ptb_command.specs.declared.ending.Ending.{Ending}
use Rattle.ptb_command.specs.declared.ending.Ending.TheVariants as endings
use Rattle.ptb_command.specs.Configuration.{Configuration}
use Rattle.ptb_command.specs.Representation.{Represents}
use Rattle.ptb_command.specs.State.{State}
use Rattle.ptb_machine.specs.Play.{Finish}
use Rattle.ptb_chances.specs.Chances.{last_line}
use Rattle.ptb_machine.specs.Play.{run_from}
use Rattle.ptb_chances.specs.declared.plays.Played.{Played}
use Rattle.ptb_chances.specs.declared.plays.Played.TheVariants as played
use Rattle.ptb_chances.specs.declared.stage.Stage.{Stage}
use Rattle.ptb_chances.specs.declared.worklist.SavedState.{SavedState}

abbrev pub SameEnd : List ℕ → List ℕ → Type 0
SameEnd s t = (more : List ℕ) → last_line (lines (s ++ more)) ≡ last_line (lines (t ++ more))

-- of what was shown before, only the last line matters
pub record IsStageAt (p : StoredProgram) (rules : Rules) (m : Configuration) (left : List (List ℕ)) (shown : List ℕ)
    (S : State) : Type 0 where
  pub represents : Represents p.lines m S
  pub lines_left : S.lines ≡ left
  pub choose : S.choose ≡ rules.choose
  pub same_end : SameEnd S.shown shown

abbrev pub IsStageAtSaved : Stage → SavedState → State → Type 0
IsStageAtSaved s state S = IsStageAt s.player s.rules state.machine (drop state.taken s.devices.source.lines)
    state.shown.items S

pub record CanPlay (s : Stage) (state : SavedState) (plan : Answers) : Type 0 where
  pub unspent : state.machine.spent ≡ false
  pub within : state.taken ≤ length s.devices.source.lines
  pub opens : (S : State) × IsStageAtSaved s state S × (is_open (run_from s.player s.rules S plan) ≡ true)

pub record Came (p : StoredProgram) (rules : Rules) (S : State) (answers : Answers) (m : Configuration)
    (left : List (List ℕ)) (shown : List ℕ) : Type 0 where
  pub state : State
  pub stands : IsStageAt p rules m left shown state
  pub reached : (later : Answers) → run_from p rules S (answers ++ later) ≡ run_from p rules state later

pub record IsOver (p : StoredProgram) (rules : Rules) (S : State) (answers : Answers) (ending : Ending)
    (shown : List ℕ) : Type 0 where
  pub finish : Finish
  pub outcome : (later : Answers) → run_from p rules S (answers ++ later) ≡ Done finish later
  pub ending_is : finish.ending ≡ ending
  pub line_is : last_line (lines finish.shown) ≡ last_line (lines shown)

pub record IsAsked (p : StoredProgram) (rules : Rules) (S : State) (answers : Answers) (bound : ℤ) : Type 0 where
  pub shown : List ℕ
  pub asks : run_from p rules S answers ≡ Asks bound shown

-- a play that lacks an answer asks
abbrev pub played_of : Ending → ℤ → Played
played_of endings.NoAnswer bound = played.Asks bound
played_of ending bound = played.Over ending

-- of a plan, these answers were given
abbrev pub PlaysTo : StoredProgram → Rules → State → Answers → Answers → Configuration → List (List ℕ) → List ℕ → Played
    → Type 0
PlaysTo p rules S given plan m left shown (played.Over ending) = IsOver p rules S given ending shown
PlaysTo p rules S given plan m left shown (played.Asks n) = IsAsked p rules S plan n
PlaysTo p rules S given plan m left shown played.Goes = Came p rules S plan m left shown
