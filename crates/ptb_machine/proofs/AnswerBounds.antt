-- This file proves laws of answers and of their bounds.
-- Main lemma: `bounds-append`.
use Rattle.std.proofs.Common.{◌≡◌, ℕ, ◌≤◌, List, [], ◌∷◌, ◌++◌, length, true, refl, ap, sym, ◌∙◌, arith}
use Rattle.std.proofs.Common.{append_assoc, append-nil}
use Rattle.std.specs.Prelude.{pos, int_le}
use Rattle.std.proofs.lemmas.Bool.{and_from, le-leb}
use Rattle.ptb_answers.specs.Outcome.{Answers, Outcome, bound_of, bounds_after, is_answer}

pub is_answer_from : (n k : ℕ) → 1 ≤ k → k ≤ n → is_answer (pos n) (pos k) ≡ true
is_answer_from n k l u = and_from (int_le (pos 1) (pos k)) (int_le (pos k) (pos n)) (le-leb 1 k l) (le-leb k n u)

module _ {A W : Type 0} (play : Answers → Outcome A W) where
  pub length-bounds : (p a : Answers) → length (bounds_after play p a) ≡ length a
  length-bounds p [] = refl
  length-bounds p (k ∷ a) = let e = length-bounds (p ++ k ∷ []) a in omega arith

  pub bounds-append : (p s t : Answers)
      → bounds_after play p (s ++ t) ≡ bounds_after play p s ++ bounds_after play (p ++ s) t
  bounds-append p [] t = ap (λ q. bounds_after play q t) (sym (append-nil p))
  bounds-append p (k ∷ s) t =
      ap (λ l. bound_of (play p) ∷ l) (bounds-append (p ++ k ∷ []) s t
      ∙ ap (λ q. bounds_after play (p ++ k ∷ []) s ++ bounds_after play q t) (append_assoc p (k ∷ []) s))
