-- This file has worked rows of runs and of their reports.
-- Main definition: `TreeRows`.
--     TreeRows        rows of the runs of a program
--     ReportRows     rows of their reports
use Rattle.std.specs.Prelude.{◌≡◌, ℕ, [], ◌∷◌, ◌++◌, codes, false, true, Some, None, pos}
use Rattle.ptb_answers.specs.Outcome.{Answers, is_whole, bounds}
use Rattle.ptb_rows.specs.ExpressionRows.{worth}
use Rattle.ptb_explore.specs.Beginnings.{beginnings}
use Rattle.ptb_machine.specs.RunTree.{At, End, is_before, tree, runs_left}
use Rattle.ptb_answers.specs.AnswerText.{answers_of, marked, spelling, unmarked}
use Rattle.ptb_explore.specs.MarkedRuns.{states_bounds}
use Rattle.ptb_explore.specs.ReportText.{report_text}

-- a list of one answer, and of two
abbrev pub one : ℕ → Answers
one j = pos j ∷ []

abbrev pub two : ℕ → ℕ → Answers
two j k = pos j ∷ pos k ∷ []

pub record TreeRows : Type 0 where
  -- the runs of an expression that is worked out
  pub no_question : tree (worth (codes "7")) 0 ≡ [] ∷ []
  pub two_rolls : tree (worth (codes "RND(2)*RND(2)")) 2 ≡ two 1 1 ∷ two 1 2 ∷ two 2 1 ∷ two 2 2 ∷ []
  pub nested_roll : tree (worth (codes "RND(RND(2))")) 2 ≡ two 1 1 ∷ two 2 1 ∷ two 2 2 ∷ []
  pub with_fault : tree (worth (codes "RND(RND(2)-1)")) 2 ≡ one 1 ∷ two 2 1 ∷ []
  -- what is left of them
  pub after_first : runs_left (worth (codes "RND(2)*RND(2)")) 2 [] (At (two 1 1)) (Some 2) ≡ two 1 2 ∷ two 2 1 ∷ []
  pub after_last : runs_left (worth (codes "RND(2)*RND(2)")) 2 [] (At (two 2 2)) None ≡ []
  pub past_end : runs_left (worth (codes "RND(2)*RND(2)")) 2 [] End None ≡ []
  -- the lists that split the runs after so many answers
  pub split_after_none : beginnings 0 (worth (codes "RND(2)")) ≡ [] ∷ []
  pub split_of_no_question : beginnings 1 (worth (codes "7")) ≡ [] ∷ []
  pub split_after_one : beginnings 1 (worth (codes "RND(2)*RND(2)")) ≡ one 1 ∷ one 2 ∷ []
  pub split_after_two : beginnings 2 (worth (codes "RND(2)*RND(2)*RND(2)")) ≡ two 1 1 ∷ two 1 2 ∷ two 2 1 ∷ two 2 2 ∷ []
  pub split_with_fault : beginnings 2 (worth (codes "RND(RND(2)-1)*RND(2)")) ≡ one 1 ∷ two 2 1 ∷ []
  pub split_past_end : beginnings 9 (worth (codes "RND(RND(2))")) ≡ two 1 1 ∷ two 2 1 ∷ two 2 2 ∷ []
  -- lists that are runs, and that are none
  pub whole : is_whole (worth (codes "RND(RND(2))") (two 2 1)) ≡ true
  pub beginning : is_whole (worth (codes "RND(RND(2))") (one 2)) ≡ false
  pub too_long : is_whole (worth (codes "RND(2)") (two 2 1)) ≡ false
  pub outside : is_whole (worth (codes "RND(2)") (one 3)) ≡ false
  pub their_bounds : bounds (worth (codes "RND(RND(5))")) (two 3 2) ≡ pos 5 ∷ pos 3 ∷ []
  -- the order goes by the first difference, not by the number of answers
  pub shorter : is_before (one 2) (two 1 9) ≡ false
  pub longer : is_before (two 1 9) (one 2) ≡ true
  pub smaller : is_before (one 1) (two 2 1) ≡ true
  pub greater : is_before (two 2 1) (one 1) ≡ false
  -- answers are numbers, and not texts
  pub numbers : is_before (one 9) (one 10) ≡ true
  pub ten_after_nine : runs_left (worth (codes "RND(10)")) 1 [] (At (one 9)) None ≡ one 10 ∷ []
  -- a list is before none that it begins, nor after it
  pub beginning_before : is_before (one 1) (two 1 1) ≡ false
  pub beginning_after : is_before (two 1 1) (one 1) ≡ false

pub record ReportRows : Type 0 where
  pub none : report_text [] (codes "END") 0 [] ≡ codes "RUN none END 0 0\n\n"
  pub one_answer : report_text (unmarked (one 1)) (codes "END") 1 (codes "     1\n") ≡ codes "RUN 1 END 1 7\n     1\n\n"
  pub two_answers : report_text (unmarked (two 2 3)) (codes "END") 4
      (codes "     3\n") ≡ codes "RUN 2,3 END 4 7\n     3\n\n"
  pub no_steps_left : report_text [] (codes "LIMIT") 5 [] ≡ codes "RUN none LIMIT 5 0\n\n"
  pub no_newline_shown : report_text [] (codes "NOINPUT") 1 (codes "A:") ≡ codes "RUN none NOINPUT 1 2\nA:\n"
  -- each answer with its bound
  pub one_bound : report_text (marked (one 1) (one 2)) (codes "END") 2 [] ≡ codes "RUN 1/2 END 2 0\n\n"
  pub two_bounds : report_text (marked (two 2 1) (two 2 3)) (codes "END") 4
      (codes "     1\n") ≡ codes "RUN 2/2,1/3 END 4 7\n     1\n\n"
  pub no_bounds : report_text (marked [] []) (codes "END") 0 [] ≡ codes "RUN none END 0 0\n\n"
  pub some_bounds : spelling (marked (one 2) (one 2) ++ unmarked (one 1)) ≡ codes "2/2,1"
  -- of a fault, and of the greatest numbers
  pub fault : report_text (unmarked (two 2 1)) (codes "HOW") 2 (codes "     1\n") ≡ codes "RUN 2,1 HOW 2 7\n     1\n\n"
  pub fault_with_bounds : report_text (marked (two 2 1) (two 2 3)) (codes "HOW") 2
      (codes "     1\n") ≡ codes "RUN 2/2,1/3 HOW 2 7\n     1\n\n"
  pub greatest : report_text (unmarked (one 32767)) (codes "STOP") 1000000000
      (codes "x") ≡ codes "RUN 32767 STOP 1000000000 1\nx\n"
  pub greatest_with_bound : report_text (marked (one 32767) (one 32767)) (codes "STOP") 1000000000
      (codes "x") ≡ codes "RUN 32767/32767 STOP 1000000000 1\nx\n"
  -- bounds that are stated of the answers of a run
  pub right_bounds : states_bounds (marked (two 2 1) (two 2 3)) (two 2 3) ≡ true
  pub right_first : states_bounds (marked (one 2) (one 2) ++ unmarked (one 1)) (two 2 3) ≡ true
  pub right_last : states_bounds (unmarked (one 2) ++ marked (one 1) (one 3)) (two 2 3) ≡ true
  pub wrong_first : states_bounds (marked (two 2 1) (two 3 3)) (two 2 3) ≡ false
  pub wrong_last : states_bounds (marked (two 2 1) (two 2 2)) (two 2 3) ≡ false
  pub none_stated : states_bounds (unmarked (two 2 1)) (two 2 3) ≡ true
  pub their_answers : answers_of (marked (one 2) (one 2) ++ unmarked (one 1)) ≡ two 2 1
