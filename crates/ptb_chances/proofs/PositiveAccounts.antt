-- This file proves that the account of all runs has no denominator 0.
-- Main lemma: `all_positive`.
use Rattle.std.proofs.Common.{◌≡◌, ℕ, zero, suc, ◌*◌, ◌<◌, List, [], ◌∷◌, subst, arith}
use Rattle.ptb_answers.specs.Outcome.{Answers, Outcome, IsReader, bounds}
use Rattle.ptb_machine.specs.Play.{Finish}
use Rattle.ptb_chances.specs.Chances.{bound_product, chance_of_all}
use Rattle.ptb_machine.specs.RunTree.{tree}
use Rattle.ptb_chances.proofs.ChanceSums.{sum_positive}
use Rattle.ptb_chances.specs.Accounts.{ArePositive, account}

factors_positive : (a b : ℕ) → 0 < a * b → (0 < a) × (0 < b)
factors_positive zero b some = absurd (let none : 0 < 0 = subst (λ n. 0 < n) (let e : zero * b ≡ 0 = omega arith in
    e) some in omega (arith, none))
factors_positive (suc a) zero some =
    absurd (let none : 0 < 0 = subst (λ n. 0 < n) (let e : suc a * zero ≡ 0 = omega arith in e) some in
    omega (arith, none))
factors_positive (suc a) (suc b) some = (omega arith, omega arith)

parts_positive : (play : Answers → Outcome Finish (List ℕ)) (runs : List Answers)
    → 0 < (chance_of_all play runs).denominator → ArePositive (account play runs)
parts_positive play [] some = tt
parts_positive play (a ∷ runs) some =
    let parts = factors_positive (bound_product (bounds play a)) (chance_of_all play runs).denominator some in
    (record { denominator = parts.0; runs = omega arith }, parts_positive play runs parts.1)

pub all_positive : (play : Answers → Outcome Finish (List ℕ)) (most : ℕ) → IsReader play most
    → ArePositive (account play (tree play most))
all_positive play most reads = parts_positive play (tree play most) (sum_positive play most reads)
