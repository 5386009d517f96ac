-- This file defines the reports of runs.
-- Main definition: `report`.
--     report form play answers                the report of the run of these answers, in a form
use Rattle.std.specs.Prelude.{ℕ, List, []}
use Rattle.ptb_answers.specs.Outcome.{Answers, Outcome, Done, Asks, Out, bounds}
use Rattle.ptb_machine.specs.Play.{Finish}
use Rattle.ptb_machine.specs.EndingWords.{ending_word}
use Rattle.ptb_answers.specs.declared.form.Form.{Form}
use Rattle.ptb_answers.specs.declared.form.Marked.{Marked}
use Rattle.ptb_answers.specs.AnswerText.{items_in}
use Rattle.ptb_explore.specs.ReportText.{report_text}

-- what is no run has none
abbrev pub report_of : List Marked → Outcome Finish (List ℕ) → List ℕ
report_of items (Done f rest) = report_text items (ending_word f.ending) f.steps f.shown
report_of items (Asks n shown) = []
report_of items (Out n shown) = []

abbrev pub report : Form → (Answers → Outcome Finish (List ℕ)) → Answers → List ℕ
report form play answers = report_of (items_in form answers (bounds play answers)) (play answers)
