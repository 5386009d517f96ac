-- This file proves what a play of the answers of a list says of the runs that begin with them.
-- Main lemma: `begun_stated`.
use Rattle.std.proofs.Common.{◌≡◌, ◌∙◌, ap, sym, subst, ℕ, List, length, take, true}
use Rattle.std.specs.Prelude.{ℤ}
use Rattle.ptb_answers.specs.AnswerText.{answers_of}
use Rattle.ptb_answers.specs.declared.form.Marked.{Marked}
use Rattle.ptb_answers.specs.declared.rules.Rules.{Rules}
use Rattle.ptb_answers.specs.Outcome.{Answers, bounds, is_open}
use Rattle.ptb_text.specs.Statements.{StoredProgram}
use Rattle.ptb_machine.specs.Play.{play}
use Rattle.ptb_explore.specs.MarkedRuns.{states_bounds}
use Rattle.ptb_explore.proofs.StatedBounds.{states_begun}

-- The plan is the answers of the list.
module _ (p : StoredProgram) (input : List (List ℕ)) (rules : Rules) (list : List Marked) (plan : Answers)
    (is : plan ≡ answers_of list) where
  pub list_opens : is_open (play p input rules plan) ≡ true → is_open (play p input rules (answers_of list)) ≡ true
  list_opens h = subst (λ (a : Answers). is_open (play p input rules a) ≡ true) is h

  -- bounds of the plan and of what comes after it
  module _ (given : List ℤ) (front : take (length plan) given ≡ bounds (play p input rules) plan) where
    states_same : states_bounds list given ≡ states_bounds list (bounds (play p input rules) (answers_of list))
    states_same = states_begun list plan given _ is (front ∙ ap (bounds (play p input rules)) is)

    pub begun_stated : states_bounds list given ≡ true
        → states_bounds list (bounds (play p input rules) (answers_of list)) ≡ true
    begun_stated right = sym states_same ∙ right
