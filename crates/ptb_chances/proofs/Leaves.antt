-- This file proves what the runs are that begin with some answers.
-- Main lemmas: `done_leaves` and `asked_leaves`.
use Rattle.std.proofs.Common.{◌≡◌, ℕ, zero, suc, ◌+◌, ◌≤◌, true, List, [], ◌∷◌, ◌++◌, map, length}
use Rattle.std.proofs.Common.{refl, ap, sym, ◌∙◌, inl, inr, arith, length-append}
use Rattle.std.specs.Prelude.{ℤ, pos, negsuc}
use Rattle.std.specs.List.{flat_map, range_with_len}
use Rattle.ptb_answers.specs.Outcome.{Answers, Outcome, Done, Asks, IsReader, is_open, is_answer}
use Rattle.ptb_machine.specs.Play.{Finish}
use Rattle.ptb_machine.specs.RunTree.{answers_to, leaves, leaves_of}
use Rattle.ptb_machine.proofs.PublicLemmas.{is_answer_from}
use Rattle.ptb_answers.proofs.PublicLemmas.{open_is}

pub done_leaves : (f : Answers → Outcome Finish (List ℕ)) (d : ℕ) (q : Answers) (x : Finish) → f q ≡ Done x []
    → leaves f q d ≡ q ∷ []
done_leaves f zero q x h = ap (leaves_of q _) h
done_leaves f (suc d) q x h = ap (leaves_of q _) h

pub asked_leaves : (f : Answers → Outcome Finish (List ℕ)) (d : ℕ) (q : Answers) (n : ℤ) (shown : List ℕ)
    → f q ≡ Asks n shown → leaves f q (suc d) ≡ flat_map (λ k. leaves f (q ++ k ∷ []) d) (answers_to n)
asked_leaves f d q n shown h = ap (leaves_of q _) h

-- ---- what is left after an answer

each_answer : {X : Type 0} (f g : ℤ → List X) (n s m : ℕ) → 1 ≤ s → s + m ≤ n + 1
    → ((k : ℤ) → is_answer (pos n) k ≡ true → f k ≡ g k)
    → flat_map f (map pos (range_with_len s m)) ≡ flat_map g (map pos (range_with_len s m))
each_answer f g n s zero low high same = refl
each_answer f g n s (suc m) low high same =
    ap (λ xs. xs ++ flat_map f (map pos (range_with_len (s + 1) m)))
    (same (pos s) (is_answer_from n s low (omega arith)))
    ∙ ap (λ ys. g (pos s) ++ ys) (each_answer f g n (s + 1) m (omega arith) (omega arith) same)

pub all_answers : {X : Type 0} (f g : ℤ → List X) (n : ℤ) → ((k : ℤ) → is_answer n k ≡ true → f k ≡ g k)
    → flat_map f (answers_to n) ≡ flat_map g (answers_to n)
all_answers f g (pos n) same = each_answer f g n 1 n (omega arith) (omega arith) same
all_answers f g (negsuc n) same = refl

-- more room for answers than are asked for changes nothing
module _ (f : Answers → Outcome Finish (List ℕ)) (most : ℕ) (reads : IsReader f most) where
  pub roomy : (d : ℕ) (q : Answers) → is_open (f q) ≡ true → most ≤ length q + d → leaves f q (suc d) ≡ leaves f q d
  roomy zero q opens room = elim (open_is (f q) opens) [
    | inl e ↦ done_leaves f (suc zero) q e.0 e.1 ∙ sym (done_leaves f zero q e.0 e.1)
    | inr e ↦ absurd (omega (arith, reads.few q e.0 e.1 e.2))
  ]
  roomy (suc d) q opens room = elim (open_is (f q) opens) [
    | inl e ↦ done_leaves f (suc (suc d)) q e.0 e.1 ∙ sym (done_leaves f (suc d) q e.0 e.1)
    | inr e ↦ asked_leaves f (suc d) q e.0 e.1 e.2 ∙ all_answers (λ k. leaves f (q ++ k ∷ []) (suc d))
        (λ k. leaves f (q ++ k ∷ []) d) e.0 (λ k inside. roomy d (q ++ k ∷ []) (reads.inside q e.0 k e.1 e.2 inside)
        (omega (arith, length-append q (k ∷ [])))) ∙ sym (asked_leaves f d q e.0 e.1 e.2)
  ]
