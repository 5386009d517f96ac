-- This file proves what a plan is that was played.
-- Main lemma: `ends_at`.
use Rattle.std.proofs.Common.{◌≡◌, ℕ, zero, suc, ◌-◌, ◌<◌, ◌≤◌, List, [], ◌∷◌, ◌++◌, length, take}
use Rattle.std.proofs.Common.{drop, replicate, true, false, inl, inr, refl, ap, sym, ◌∙◌, arith}
use Rattle.std.proofs.Common.{append_assoc, length-drop}
use Rattle.std.specs.Prelude.{ℤ, pos}
use Rattle.std.proofs.lemmas.Bool.{cases_lt}
use Rattle.std.proofs.lemmas.List.{take-append-drop}
use Rattle.std.proofs.Math.Seq.{take-length}
use Rattle.ptb_answers.specs.Outcome.{Answers, Outcome, Done, Asks, Out, IsReader, is_answer, is_open, bounds}
use Rattle.ptb_answers.proofs.PublicLemmas.{whole_is}
use Rattle.ptb_machine.specs.RunTree.{IsRun}
use Rattle.ptb_explore.specs.Plans.{AllOnes, PlanEndsWith}

pub all_ones : (n : ℕ) → AllOnes (replicate n (pos 1))
all_ones zero = tt
all_ones (suc n) = (refl, all_ones n)

drop_cons : {X : Type 0} (s : List X) (n : ℕ) → n < length s → (x : X) × (rest : List X) × (s ≡ take n s ++ x ∷ rest)
drop_cons {X = X} s n l = by_cases (drop n s) refl
  where
    by_cases : (d : List X) → drop n s ≡ d → (x : X) × (rest : List X) × (s ≡ take n s ++ x ∷ rest)
    by_cases [] e = absurd (omega (arith, length-drop n s, ap length e))
    by_cases (x ∷ rest) e = (x, rest, sym (take-append-drop n s) ∙ ap (λ d. take n s ++ d) e)

module _ {A W : Type 0} (play : Answers → Outcome A W) (most : ℕ) (reads : IsReader play most) where
  -- an answer out of range closes every list that continues with it
  pub out_closes : (plan t rest : Answers) (x n : ℤ) (w : W) → plan ≡ t ++ x ∷ rest → play t ≡ Asks n w
      → is_answer n x ≡ false → is_open (play plan) ≡ true → ⊥
  out_closes plan t rest x n w e a o h =
      let f = reads.out (t ++ x ∷ []) rest n w (reads.outside t n x w a o) in
      let s : play plan ≡ Out n w = ap play (e ∙ sym (append_assoc t (x ∷ []) rest)) ∙ f in
      let c : is_open (play plan) ≡ false = ap is_open s in cc

  -- what continues after a run is not open
  pub run_closes : (t rest : Answers) (x : ℤ) (f : A) → play t ≡ Done f [] → is_open (play (t ++ x ∷ rest)) ≡ true → ⊥
  run_closes t rest x f e h = let s : is_open (play (t ++ x ∷ rest)) ≡ false =
      ap is_open (reads.done t (x ∷ rest) [] f e) in cc

  pub run_opens : (plan : Answers) → IsRun play plan → is_open (play plan) ≡ true
  run_opens plan r = let w = whole_is (play plan) r in rw w.1 refl

-- Of `answers`, the first `planned` are a plan and the others, if any, are ones; the first `count` of them were
-- taken, all of them where there are ones, and play had a result.
pub record Took {A W : Type 0} (play : Answers → Outcome A W) (plan answers : Answers) (planned count : ℕ)
    (result : A) : Type 0 where
  pub plan_is : take planned answers ≡ plan
  pub planned_within : planned ≤ length answers
  pub count_within : count ≤ length answers
  pub all_with_ones : planned < length answers → count ≡ length answers
  pub ones_after : answers ≡ take planned answers ++ replicate (length answers - planned) (pos 1)
  pub came : play (take count answers) ≡ Done result []

module _ {A W : Type 0} (play : Answers → Outcome A W) (most : ℕ) (reads : IsReader play most) (plan answers : Answers)
    (planned count : ℕ) (result : A) (took : Took play plan answers planned count result) where
  -- all of a plan that is open is taken
  pub all_taken : is_open (play plan) ≡ true → take count answers ≡ answers
  all_taken o = elim (cases_lt count (length answers)) [
    | inr m ↦ let u = took.count_within in let c : count ≡ length answers = omega arith in
        ap (λ n. take n answers) c ∙ take-length answers
    | inl m ↦
        let u = took.planned_within in
        let p : planned ≡ length answers = elim (cases_lt planned (length answers))
        [ inl k ↦ let x = took.all_with_ones k in absurd (omega arith) | inr k ↦ omega arith ] in
        let same : plan ≡ answers = sym took.plan_is ∙ ap (λ n. take n answers) p ∙ take-length answers in
        let r = drop_cons answers count m in
        absurd (run_closes play most reads (take count answers) r.1 r.0 result took.came (rw (← r.2, ← same) o))
  ]

  pub ends_at : (bounded : List ℤ) → is_open (play plan) ≡ true → bounded ≡ bounds play (take count answers)
      → PlanEndsWith play plan answers bounded result
  ends_at bounded o b =
      let t = all_taken o in
      record {
        ones = replicate (length answers - planned) (pos 1);
        all_ones = all_ones (length answers - planned);
        answers_are = took.ones_after ∙ ap (λ p. p ++ replicate (length answers - planned) (pos 1)) took.plan_is;
        outcome = ap play (sym t) ∙ took.came;
        bounds_are = b ∙ ap (bounds play) t;
      }
