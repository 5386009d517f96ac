-- This file proves what a loop over digits keeps.
-- Main lemma: `digits_more`.
use Rattle.std.proofs.Common.{◌≡◌, ◌∙◌, ℕ, ◌+◌, ◌-◌, ◌*◌, ◌<◌, ◌≤◌, false, List, length, take, drop, get_or, arith}
use Rattle.std.proofs.Common.{ap, length-drop, get_or-drop}
use Rattle.std.proofs.lemmas.List.{drop_more}
use Rattle.std.specs.List.{prefix_len}
use Rattle.std.proofs.lemmas.List.Sums.{prefix_len-drop_yes, prefix_len-drop_no, prefix_len-drop_all, fold_more}
use Rattle.std.proofs.lemmas.Bool.Decides.{nat_tests}
use Rattle.ptb_text.specs.Digits.{is_digit, digits_value}

pub digits_more : (s : List ℕ) (i : ℕ) → i < length s → 48 ≤ get_or s i 0 → get_or s i 0 ≤ 57
    → prefix_len is_digit (drop i s) ≡ 1 + prefix_len is_digit (drop (i + 1) s)
digits_more s i h low high = prefix_len-drop_yes is_digit s i 0 h (grind (arith, nat_tests))

pub digits_stop : (s : List ℕ) (i : ℕ) → i < length s → is_digit (get_or s i 0) ≡ false
    → prefix_len is_digit (drop i s) ≡ 0
digits_stop s i h n = prefix_len-drop_no is_digit s i 0 h n

pub digits_end : (s : List ℕ) (i : ℕ) → length s ≤ i → prefix_len is_digit (drop i s) ≡ 0
digits_end s i h = prefix_len-drop_all is_digit s i h

pub digits_value_more : (s : List ℕ) (i : ℕ) → i < length s
    → digits_value (take (i + 1) s) ≡ digits_value (take i s) * 10 + (get_or s i 0 - 48)
digits_value_more s i h = fold_more (λ n d. n * 10 + (d - 48)) 0 s i 0 h

-- of the digits from a place on
pub digits_value_first : (s : List ℕ) (i : ℕ) → i < length s
    → digits_value (take (i + 1 - i) (drop i s)) ≡ get_or s i 0 - 48
digits_value_first s i h =
    let one : i + 1 - i ≡ 1 = omega arith in
    rw (one, drop_more s i 0 h) (omega arith)

pub digits_value_next : (s : List ℕ) (i e : ℕ) → i ≤ e → e < length s
    → digits_value (take (e + 1 - i) (drop i s)) ≡ digits_value (take (e - i) (drop i s)) * 10 + (get_or s e 0 - 48)
digits_value_next s i e h inside =
    let more : e + 1 - i ≡ (e - i) + 1 = omega arith in
    let place : i + (e - i) ≡ e = omega arith in
    let there = digits_value_more (drop i s) (e - i) (omega (arith, length-drop i s)) in
    rw more (there ∙ ap (λ b. digits_value (take (e - i) (drop i s)) * 10 + (b - 48))
    (get_or-drop i s (e - i) 0 ∙ ap (λ (k : ℕ). get_or s k 0) place))
