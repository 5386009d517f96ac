-- This file proves what the next two bytes make of a pair.
-- Main lemma: `pair_cut`.
use Rattle.std.proofs.Common.{◌≡◌, ℕ, ◌+◌, ◌<◌, ◌≤◌, sym, true, false, cond, List, [], ◌∷◌, length}
use Rattle.std.proofs.Common.{get_or, eqb, arith, refl, Option, Some, None, inl, inr}
use Rattle.std.specs.Prelude.{◌&&◌}
use Rattle.std.proofs.lemmas.Bool.{eq-eqb, ne_eqb, cases_lt}
use Rattle.std.proofs.lemmas.List.{drop_more, drop_all}
use Rattle.ptb_text.specs.Words.{past_blanks, bytes_at}

pub pair_there : (c d : ℕ) (t : List ℕ) (i : ℕ) → past_blanks t i + 1 < length t → get_or t (past_blanks t i) 0 ≡ c
    → get_or t (past_blanks t i + 1) 0 ≡ d → bytes_at (c ∷ d ∷ []) t i ≡ Some (past_blanks t (past_blanks t i + 2))
unfolding bytes_at
pair_there c d t i h e f =
    let first : past_blanks t i < length t = omega arith in
    rw (
      drop_more t (past_blanks t i) 0 first,
      drop_more t (past_blanks t i + 1) 0 h,
      eq-eqb c (get_or t (past_blanks t i) 0) (sym e),
      eq-eqb d (get_or t (past_blanks t i + 1) 0) (sym f),
    ) refl

pub pair_other : (c d : ℕ) (t : List ℕ) (i : ℕ) → past_blanks t i < length t → (get_or t (past_blanks t i) 0 ≡ c → ⊥)
    → bytes_at (c ∷ d ∷ []) t i ≡ None
unfolding bytes_at
pair_other c d t i h n =
    rw (drop_more t (past_blanks t i) 0 h, ne_eqb c (get_or t (past_blanks t i) 0) (λ e. n (sym e))) refl

pub pair_other_second : (c d : ℕ) (t : List ℕ) (i : ℕ) → past_blanks t i + 1 < length t
    → (get_or t (past_blanks t i + 1) 0 ≡ d → ⊥) → bytes_at (c ∷ d ∷ []) t i ≡ None
unfolding bytes_at
pair_other_second c d t i h n =
    let first : past_blanks t i < length t = omega arith in
    rw (
      drop_more t (past_blanks t i) 0 first,
      drop_more t (past_blanks t i + 1) 0 h,
      ne_eqb d
          (get_or t (past_blanks t i + 1) 0) (λ e. n (sym e)),
    ) (elim (eqb c (get_or t (past_blanks t i) 0)) as
    (λ v. ◌≡◌ {A = Option ℕ} (cond (v && false) (Some (past_blanks t (past_blanks t i + 2))) None) None)
    [ true ↦ refl | false ↦ refl ])

pair_end : (c d : ℕ) (t : List ℕ) (i : ℕ) → length t ≤ past_blanks t i → bytes_at (c ∷ d ∷ []) t i ≡ None
unfolding bytes_at
pair_end c d t i h = rw (drop_all (past_blanks t i) t h) refl

pair_last : (c d : ℕ) (t : List ℕ) (i : ℕ) → past_blanks t i < length t → length t ≤ past_blanks t i + 1
    → bytes_at (c ∷ d ∷ []) t i ≡ None
unfolding bytes_at
pair_last c d t i h last = rw (drop_more t (past_blanks t i) 0 h, drop_all (past_blanks t i + 1) t last)
    (elim (eqb c (get_or t (past_blanks t i) 0)) as (λ v. ◌≡◌ {A = Option ℕ}
    (cond (v && false) (Some (past_blanks t (past_blanks t i + 2))) None) None) [ true ↦ refl | false ↦ refl ])

pub pair_cut : (c d : ℕ) (t : List ℕ) (i : ℕ) → length t ≤ past_blanks t i + 1 → bytes_at (c ∷ d ∷ []) t i ≡ None
pair_cut c d t i h = elim (cases_lt (past_blanks t i) (length t)) [
  | inl first ↦ pair_last c d t i first h
  | inr end ↦ pair_end c d t i end
]
