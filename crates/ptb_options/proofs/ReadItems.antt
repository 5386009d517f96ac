-- This file proves the results at the exits of reading an item, from what its reader knows of each step.
-- Main lemmas: `number_only` and `both`.
use Rattle.std.proofs.Common.{◌≡◌, ◌∙◌, ap, ap₂, sym, arith, List, ℕ, ℤ, Option, Some, None}
use Rattle.std.proofs.Common.{FitsSigned, of_z, subst, to_z, to_z-of_z, w16}
use Rattle.std.specs.Borrow.{Bor}
use Rattle.std.proofs.lemmas.Int.{ints}
use Rattle.std.proofs.lemmas.Option.{none-some, same_Some}
use Rattle.std.proofs.lemmas.Str.Pattern.{IsSplitOnceResult, split_parts}
use Rattle.ptb_answers.specs.declared.form.Marked.{Marked}
use Rattle.ptb_answers.specs.AnswerText.{with_bound, without_bound}
use Rattle.ptb_options.specs.AnswerLists.{IsAnswer, SpellsItem, SpellsNumber}
use Rattle.ptb_options.proofs.AnswerTexts.{item_is_number, item_is_numbers, item_of_number, item_of_numbers}

-- a number of a list is the same as the code has it
kept : (k : ℤ) → IsAnswer k → to_z w16 (of_z w16 k) ≡ k
kept k h =
    let fits : FitsSigned w16 k = omega (arith, ints) in
    to_z-of_z fits

-- the text has no `/`
module _ (text : List ℕ) (cut : IsSplitOnceResult 47 text None) where
  pub no_number : {X : Type 0} (m : Marked) → SpellsItem text m
      → ((k : ℤ) → SpellsNumber text k → ◌≡◌ {A = Option ℤ} None (Some k)) → X
  no_number m h only =
      let number = item_is_number text m (split_parts 47 text None cut (omega arith)) h in
      absurd (none-some m.answer (only m.answer number.0))

  pub number_alone : (k : ℤ) → SpellsNumber text k → SpellsItem text (without_bound (to_z w16 (of_z w16 k)))
  number_alone k h = subst (λ (j : ℤ). SpellsItem text (without_bound j)) (sym (kept k h.0)) (item_of_number text k h)

  pub number_only : (k : ℤ) → SpellsNumber text k → (m : Marked) → SpellsItem text m
      → ((j : ℤ) → SpellsNumber text j → Some k ≡ Some j) → Some (without_bound (to_z w16 (of_z w16 k))) ≡ Some m
  number_only k spells m h only =
      let number = item_is_number text m (split_parts 47 text None cut (omega arith)) h in
      ap (λ (j : ℤ). Some (without_bound j)) (kept k spells.0 ∙ same_Some k m.answer (only m.answer number.0))
      ∙ ap Some (sym number.1)

-- it is cut there into a text and another
module _ (text : List ℕ) (a b : Bor (List ℕ)) (cut : IsSplitOnceResult 47 text (Some (a, b))) where
  numbers : (m : Marked) → SpellsItem text m
      → (n : ℤ) × SpellsNumber a.now m.answer × SpellsNumber b.now n × (m ≡ with_bound m.answer n)
  numbers m h =
      let parts = split_parts 47 text (Some (a, b)) cut (omega arith) in
      item_is_numbers text a.now b.now m parts.0 parts.1 h

  pub no_answer : {X : Type 0} (m : Marked) → SpellsItem text m
      → ((k : ℤ) → SpellsNumber a.now k → ◌≡◌ {A = Option ℤ} None (Some k)) → X
  no_answer m h only = absurd (none-some m.answer (only m.answer (numbers m h).1))

  pub no_bound : {X : Type 0} (m : Marked) → SpellsItem text m
      → ((k : ℤ) → SpellsNumber b.now k → ◌≡◌ {A = Option ℤ} None (Some k)) → X
  no_bound m h only = let n = numbers m h in absurd (none-some n.0 (only n.0 n.2))

  module _ (k n : ℤ) (answer : SpellsNumber a.now k) (bound : SpellsNumber b.now n) where
    pub both : SpellsItem text (with_bound (to_z w16 (of_z w16 k)) (to_z w16 (of_z w16 n)))
    both =
        let parts = split_parts 47 text (Some (a, b)) cut (omega arith) in
        subst (λ (j : ℤ). SpellsItem text (with_bound (to_z w16 (of_z w16 k)) j)) (sym (kept n bound.0))
        (subst (λ (j : ℤ). SpellsItem text (with_bound j n)) (sym (kept k answer.0))
        (item_of_numbers text a.now b.now k n parts.0 answer bound))

    pub both_only : (m : Marked) → SpellsItem text m → ((j : ℤ) → SpellsNumber a.now j → Some k ≡ Some j)
        → ((j : ℤ) → SpellsNumber b.now j → Some n ≡ Some j)
        → Some (with_bound (to_z w16 (of_z w16 k)) (to_z w16 (of_z w16 n))) ≡ Some m
    both_only m h first second =
        let found = numbers m h in
        ap₂ (λ (i j : ℤ). Some (with_bound i j)) (kept k answer.0 ∙ same_Some k m.answer (first m.answer found.1))
        (kept n bound.0 ∙ same_Some n found.0 (second found.0 found.2)) ∙ ap Some (sym found.3)
