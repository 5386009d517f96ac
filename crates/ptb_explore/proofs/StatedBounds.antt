-- This file proves how the bounds that are stated of a list are looked at, one after the other.
-- Main lemma: `unmarked_run`.
use Rattle.std.proofs.Common.{◌≡◌, ◌∙◌, ap, sym, subst, ℕ, zero, suc, ◌+◌, ◌<◌, ◌≤◌, List, [], ◌∷◌}
use Rattle.std.proofs.Common.{length, take, drop, get_or, true, false, refl, arith}
use Rattle.std.proofs.lemmas.List.{length-map}
use Rattle.std.specs.Prelude.{ℤ, ◌&&◌, Result, Ok, Err}
use Rattle.std.specs.Result.{OnOk}
use Rattle.ptb_answers.specs.declared.form.Marked.{Marked}
use Rattle.ptb_answers.specs.Outcome.{Answers, Outcome, bounds}
use Rattle.ptb_answers.specs.AnswerText.{answers_of, unmarked}
use Rattle.std.specs.Ordering.{int_eq}
use Rattle.std.proofs.Math.Bool.{and-false}
use Rattle.ptb_explore.specs.MarkedRuns.{IsMarkedRun, is_bound, states_bounds}
use Rattle.ptb_machine.specs.RunTree.{IsRun, begins_with}
use Rattle.ptb_machine.proofs.PublicLemmas.{length-bounds}
use Rattle.ptb_explore.proofs.Order.{same_from}

-- bounds after those of the list are not looked at
pub states_front : (list : List Marked) (bounds : List ℤ) (n : ℕ) → length list ≤ n
    → states_bounds list (take n bounds) ≡ states_bounds list bounds
states_front [] bounds n l = refl
states_front (m ∷ list) bounds zero l = absurd (omega arith)
states_front (m ∷ list) [] (suc n) l = refl
states_front (m ∷ list) (b ∷ bounds) (suc n) l =
    ap (λ t. is_bound m.bound b && t) (states_front list bounds n (omega arith))

pub states_begun : (list : List Marked) (plan : Answers) (given bounds : List ℤ) → plan ≡ answers_of list
    → take (length plan) given ≡ bounds → states_bounds list given ≡ states_bounds list bounds
states_begun list plan given bounds is front =
    let n : length plan ≡ length list = ap length is ∙ length-map list (λ (m : Marked). m.answer) in
    sym (states_front list given (length plan) (omega arith)) ∙ ap (states_bounds list) front

-- ---- whether the answers of a list begin with those of another

-- the answers at a place, and then those after it
each_answer : (list under : List Marked) (k : ℕ) (m : Marked) → k < length under → length under ≤ length list
    → begins_with (answers_of (drop k list)) (answers_of (drop k under)) ≡ (int_eq (get_or list k m).answer
    (get_or under k m).answer && begins_with (answers_of (drop (suc k) list)) (answers_of (drop (suc k) under)))
each_answer list [] k m lt le = absurd (omega arith)
each_answer [] (y ∷ under) k m lt le = absurd (omega arith)
each_answer (x ∷ list) (y ∷ under) zero m lt le = refl
each_answer (x ∷ list) (y ∷ under) (suc k) m lt le = each_answer list under k m (omega arith) (omega arith)

module _ (list under : List Marked) (k : ℕ) (m : Marked) (lt : k < length under) (le : length under ≤ length list) where
  pub same_answer : (get_or list k m).answer ≡ (get_or under k m).answer
      → begins_with (answers_of (drop (k + 1) list)) (answers_of (drop (k + 1) under))
      ≡ begins_with (answers_of (drop k list)) (answers_of (drop k under))
  same_answer same =
      let next : k + 1 ≡ suc k = omega arith in
      let right : int_eq (get_or list k m).answer (get_or under k m).answer ≡ true =
      rw same (same_from (get_or under k m).answer) in
      ap (λ j. begins_with (answers_of (drop j list)) (answers_of (drop j under))) next
      ∙ sym (each_answer list under k m lt le
      ∙ ap (λ b. b && begins_with (answers_of (drop (suc k) list)) (answers_of (drop (suc k) under))) right)

pub too_short : (list under : List Marked) → length list < length under
    → begins_with (answers_of list) (answers_of under) ≡ false
too_short list [] l = absurd (omega arith)
too_short [] (y ∷ under) l = refl
too_short (x ∷ list) (y ∷ under) l = ap (λ b. int_eq x.answer y.answer && b) (too_short list under (omega arith))
    ∙ and-false (int_eq x.answer y.answer)

-- ---- answers without bounds

pub unmarked_answers : (answers : Answers) → answers_of (unmarked answers) ≡ answers
unmarked_answers [] = refl
unmarked_answers (k ∷ answers) = ap (λ a. k ∷ a) (unmarked_answers answers)

-- they state none
unmarked_states : (answers : Answers) (bounds : List ℤ) → length bounds ≡ length answers
    → states_bounds (unmarked answers) bounds ≡ true
unmarked_states [] bounds l = refl
unmarked_states (k ∷ answers) [] l = absurd (omega arith)
unmarked_states (k ∷ answers) (n ∷ bounds) l = unmarked_states answers bounds (omega arith)

module _ {A W : Type 0} (play : Answers → Outcome A W) (answers : Answers) (list : List Marked)
    (is : list ≡ unmarked answers) where
  pub unmarked_run : IsRun play answers → IsMarkedRun play list
  unmarked_run run =
      let same : answers_of list ≡ answers = ap answers_of is ∙ unmarked_answers answers in (
        subst (IsRun play) (sym same) run,
        ap (λ l. states_bounds l (bounds play (answers_of list))) is
            ∙ unmarked_states answers (bounds play (answers_of list))
            (length-bounds play [] (answers_of list) ∙ ap length same),
      )

  pub unmarked_run_ok : {T E : Type 0} (r : Result T E) → OnOk r (IsMarkedRun play list) → OnOk r (IsRun play answers)
  unmarked_run_ok (Ok x) run = subst (IsRun play) (ap answers_of is ∙ unmarked_answers answers) run.0
  unmarked_run_ok (Err e) run = tt
