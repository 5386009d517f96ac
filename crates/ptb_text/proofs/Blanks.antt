-- This file proves how blanks are passed.
-- Main lemma: `past_blanks_twice`.
use Rattle.std.proofs.Common.{◌≡◌, ℕ, ◌+◌, ◌<◌, ◌≤◌, List, length, drop, get_or, arith, length-drop}
use Rattle.std.proofs.Common.{get_or-drop, inl, inr}
use Rattle.std.specs.List.{prefix_len}
use Rattle.std.proofs.lemmas.Bool.{cases_lt, eqb-false, eq-eqb, ne_eqb}
use Rattle.std.proofs.lemmas.List.{at_drop_all}
use Rattle.std.proofs.lemmas.List.Sums.{prefix_len-drop_yes, prefix_len-drop_no, prefix_len-le-length, prefix_len_stops}
use Rattle.ptb_text.specs.Digits.{is_blank}
use Rattle.ptb_text.specs.Words.{past_blanks}

-- ---- the place moves over a blank, and stays at another byte and at the end

pub past_blanks_more : (t : List ℕ) (i : ℕ) → i < length t → get_or t i 0 ≡ 32 → past_blanks t (i + 1) ≡ past_blanks t i
unfolding past_blanks
past_blanks_more t i h e = omega (arith, prefix_len-drop_yes is_blank t i 0 h (eq-eqb (get_or t i 0) 32 e))

pub past_blanks_stop : (t : List ℕ) (i : ℕ) → i < length t → (get_or t i 0 ≡ 32 → ⊥) → past_blanks t i ≡ i
unfolding past_blanks
past_blanks_stop t i h ne = omega (arith, prefix_len-drop_no is_blank t i 0 h (ne_eqb (get_or t i 0) 32 ne))

pub past_blanks_end : (t : List ℕ) (i : ℕ) → length t ≤ i → past_blanks t i ≡ i
unfolding past_blanks
past_blanks_end t i h = omega (arith, at_drop_all (prefix_len is_blank) t i h)

pub past_blanks_none : (t : List ℕ) (i : ℕ) → (get_or t i 0 ≡ 32 → ⊥) → past_blanks t i ≡ i
past_blanks_none t i ne = elim (cases_lt i (length t)) [
  | inl h ↦ past_blanks_stop t i h ne
  | inr h ↦ past_blanks_end t i h
]

-- ---- where it is

pub past_blanks_from : (t : List ℕ) (i : ℕ) → i ≤ past_blanks t i
unfolding past_blanks
past_blanks_from t i = omega arith

pub past_blanks_within : (t : List ℕ) (i : ℕ) → i ≤ length t → past_blanks t i ≤ length t
unfolding past_blanks
past_blanks_within t i h = omega (arith, prefix_len-le-length is_blank (drop i t), length-drop i t)

-- no blank is there
not_blank : (t : List ℕ) (i : ℕ) → past_blanks t i < length t → get_or t (past_blanks t i) 0 ≡ 32 → ⊥
unfolding past_blanks
not_blank t i h =
    let short : prefix_len is_blank (drop i t) < length (drop i t) = omega (arith, length-drop i t) in
    let stops = prefix_len_stops is_blank (drop i t) 0 short in
    eqb-false _ _ (rw (get_or-drop i t (prefix_len is_blank (drop i t)) 0) at stops)

-- blanks that are passed need not be passed again
pub past_blanks_twice : (t : List ℕ) (i : ℕ) → past_blanks t (past_blanks t i) ≡ past_blanks t i
past_blanks_twice t i = elim (cases_lt (past_blanks t i) (length t)) [
  | inl h ↦ past_blanks_stop t (past_blanks t i) h (not_blank t i h)
  | inr h ↦ past_blanks_end t (past_blanks t i) h
]
