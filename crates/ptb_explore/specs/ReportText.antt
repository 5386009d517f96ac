-- This file defines the text of a report and of a list of answers.
-- Main definition: `report_text`.
--     header items word steps size            the first line: RUN, the answers, how the run ended, its steps, how many
--                                             bytes it showed
--     asked_items form asked                  the answers of a run, each with its bound, as a form has them
--     report_text items word steps shown      the header, what the run showed, and a newline
--     text_of_report report                          the same of what a report has
--     list_line items                         a list of answers, and a newline
--     report_ending word steps shown          what a report has after its answers
use Rattle.std.specs.Prelude.{ℕ, List, ◌++◌, length, codes, decimal}
use Rattle.ptb_answers.specs.declared.asked.Asked.{Asked}
use Rattle.ptb_answers.specs.declared.form.Form.{Form}
use Rattle.ptb_answers.specs.declared.form.Marked.{Marked}
use Rattle.ptb_answers.specs.AskedQuestions.{answers_in, bounds_in}
use Rattle.ptb_answers.specs.AnswerText.{items_in, spelling}
use Rattle.ptb_machine.specs.EndingWords.{field}
use Rattle.ptb_explore.specs.declared.report_text.Parts.{Parts}

abbrev pub asked_items : Form → List Asked → List Marked
asked_items form asked = items_in form (answers_in asked) (bounds_in asked)

abbrev pub header : List Marked → List ℕ → ℕ → ℕ → List ℕ
header items word steps size = codes "RUN " ++ spelling items ++ field word ++ field (decimal steps)
    ++ field (decimal size) ++ codes "\n"

abbrev pub report_text : List Marked → List ℕ → ℕ → List ℕ → List ℕ
report_text items word steps shown = header items word steps (length shown) ++ shown ++ codes "\n"

abbrev pub text_of_report : Parts → List ℕ
text_of_report report = report_text (asked_items report.form report.asked.now) report.word.now report.steps
    report.transcript.now

abbrev pub report_ending : List ℕ → ℕ → List ℕ → List ℕ
report_ending word steps shown = field word ++ field (decimal steps) ++ field (decimal (length shown)) ++ codes "\n"
    ++ shown ++ codes "\n"

abbrev pub list_line : List Marked → List ℕ
list_line items = spelling items ++ codes "\n"
