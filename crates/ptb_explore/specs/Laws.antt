-- This file states the laws of runs.
-- Main definition: `TreeLaws`.
--     TreeLaws        the tree has the runs, each once, in order
--     ListingLaws     what a listing has left, and that one after a run resumes where one that ended with it stopped
--     ShareLaws       the runs that begin with some answers are those of its shares, one after the other
--     AreNumbers a    each answer is at most 32767
--     ReportLaws      two runs have two different reports
use Rattle.std.specs.Prelude.{◌≡◌, ℕ, ◌<◌, List, [], ◌∷◌, ◌++◌, length, true, ℤ, pos, ◌≤ℤ◌, ◌↔◌, Contains}
use Rattle.std.specs.List.{AllByRecursion, filter, flat_map}
use Rattle.ptb_answers.specs.Outcome.{Answers, Outcome, Asks, is_open}
use Rattle.ptb_answers.specs.declared.form.Form.{Form}
use Rattle.ptb_machine.specs.Play.{Finish}
use Rattle.ptb_explore.specs.Listing.{text}
use Rattle.ptb_explore.specs.Report.{report}
use Rattle.ptb_machine.specs.RunTree.{Front, Start, At, Before, IsRun, IsRising, answers_to}
use Rattle.ptb_machine.specs.RunTree.{begins_with, is_after, is_left, runs_after, tree}

pub record TreeLaws {A W : Type 0} (play : Answers → Outcome A W) (most : ℕ) : Type 0 where
  -- the tree has the runs and nothing else, in rising order
  pub runs : (a : Answers) → Contains (tree play most) a ↔ IsRun play a
  pub order : IsRising (tree play most)
  -- where something is asked, fewer answers were given
  pub few : (q : Answers) (n : ℤ) (w : W) → play q ≡ Asks n w → length q < most
  -- a run with more answers after it is no run
  pub apart : (a later : Answers) (k : ℤ) → IsRun play a → IsRun play (a ++ k ∷ later) → ⊥

pub record ListingLaws {A W : Type 0} (play : Answers → Outcome A W) (most : ℕ) : Type 0 where
  -- after a run come those that the tree has after it
  pub following :
      (prefix rest : List Answers) (r : Answers) → tree play most ≡ prefix ++ r ∷ rest
      → runs_after play most [] (At r) ≡ rest
  -- so the reports up to a run, and those after it, are all reports
  pub whole_text :
      (report : Answers → List ℕ) (prefix rest : List Answers) (r : Answers) → tree play most ≡ prefix ++ r ∷ rest
      → text report (prefix ++ r ∷ []) ++ text report (runs_after play most [] (At r)) ≡ text report (tree play most)
  -- what a listing has left are the runs after the place where it is and nothing else, in rising order
  pub runs : (under : Answers) (f : Front) (a : Answers)
      → Contains (runs_after play most under f) a ↔ (IsRun play a × (is_left under f a ≡ true))
  pub order : (under : Answers) (f : Front) → IsRising (runs_after play most under f)

-- a share has the runs that begin with some answers
pub record ShareLaws {A W : Type 0} (play : Answers → Outcome A W) (most : ℕ) : Type 0 where
  -- the share of no answers is the whole
  pub whole : (f : Front) → runs_after play most [] f ≡ filter (is_after f) (tree play most)
  -- where a question comes after the answers, the reports of its shares, in the order of their answers, are all reports
  pub question :
      (report : Answers → List ℕ) (under : Answers) (n : ℤ) (w : W) (f : Front) → play under ≡ Asks n w
      → text report (runs_after play most under f)
      ≡ flat_map (λ k. text report (runs_after play most (under ++ k ∷ []) f)) (answers_to n)
  -- some run begins with answers where they are one, or where a question comes after them, and nowhere else
  pub beginning : (under : Answers)
      → (is_open (play under) ≡ true) ↔ ((a : Answers) × IsRun play a × (begins_with a under ≡ true))
  -- the share of a run is that run
  pub run : (a : Answers) → IsRun play a → runs_after play most a Start ≡ a ∷ []
  -- where one list is before another, their shares have no run in common
  pub apart :
      (u v a : Answers) (f g : Front) → Before u v → Contains (runs_after play most u f) a
      → Contains (runs_after play most v g) a → ⊥

-- every answer that the program reads is a number of 16 bits
abbrev pub AreNumbers : Answers → Type 0
AreNumbers a = AllByRecursion (λ k. k ≤ℤ pos 32767) a

-- a report shows the answers of its run
pub record ReportLaws (play : Answers → Outcome Finish (List ℕ)) (most : ℕ) : Type 0 where
  -- so two runs have two different reports
  pub differ :
      (form : Form) (a b : Answers) → IsRun play a → IsRun play b → AreNumbers a → AreNumbers b
      → report form play a ≡ report form play b → a ≡ b
  -- and where one list is before another, their shares have no report in common
  pub apart :
      (form : Form) (u v a b : Answers) (f g : Front) → Before u v → Contains (runs_after play most u f) a
      → Contains (runs_after play most v g) b
      → AreNumbers a → AreNumbers b → report form play a ≡ report form play b → ⊥
