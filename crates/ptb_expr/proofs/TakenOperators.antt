-- This file proves which operator is next, by the next byte.
-- Main lemmas: `number_alone` and `number_alone_spelled`.
use Rattle.std.proofs.Common.{◌≡◌, ℕ, ℤ, ◌+◌, ◌≤◌, ◌∙◌, Bool, true, false, List, refl, ap, eqb, leb}
use Rattle.std.proofs.Common.{sym, subst, length, Option, Some, None, arith}
use Rattle.std.specs.Prelude.{IsFalse, IsNone, ◌&&◌, if◌then◌else◌}
use Rattle.std.proofs.lemmas.Bool.{ne_eqb, and_parts, false≢true, leb-true, lt-leb}
use Rattle.ptb_text.specs.declared.word.Table.TheVariants.{Functions}
use Rattle.ptb_text.specs.Digits.{is_digit}
use Rattle.ptb_text.specs.declared.word.Number.TheVariants.{Value}
use Rattle.ptb_text.specs.Words.{past_blanks, next_byte_at, letter_at, number_at, is_number, is_over}
use Rattle.ptb_text.specs.Words.{token_at, pair_at, word_at, is_letter}
use Rattle.ptb_text.specs.FoundParts.{IsNextToken, FindingLaws, is_next, past_byte}
use Rattle.ptb_expr.specs.declared.operator.Operator.TheVariants.{Plus, Minus, Multiply, Divide}
use Rattle.ptb_expr.specs.declared.operator.Operator.TheVariants.{GreaterEqual, NotEqual, Greater}
use Rattle.ptb_expr.specs.declared.operator.Operator.TheVariants.{Equals, LessEqual, Less}
use Rattle.ptb_expr.specs.Operators.{product_operator, sum_operator, comparison}
use Rattle.ptb_expr.specs.Reading.{Whole}
use Rattle.ptb_expr.specs.Spells.{Expr, Spells}
use Rattle.ptb_expr.specs.Spells as spells
use Rattle.ptb_expr.specs.Tree.{Num}

-- the next byte is not c
other_byte : (c b : ℕ) → (b ≡ c → ⊥) → eqb c b ≡ false
other_byte c b h = ne_eqb c b (λ e. h (sym e))

-- ---- `*` and `/`

pub times_next : (t : List ℕ) (i : ℕ) → IsNextToken t i (Some 42)
    → product_operator t i ≡ Some (Multiply, past_byte t i)
unfolding product_operator
times_next t i s = rw (s.token 42) refl

pub over_next : (t : List ℕ) (i : ℕ) → IsNextToken t i (Some 47) → product_operator t i ≡ Some (Divide, past_byte t i)
unfolding product_operator
over_next t i s = rw (s.token 42, s.token 47) refl

pub no_product_operator_end : (t : List ℕ) (i : ℕ) → IsNextToken t i None → product_operator t i ≡ None
unfolding product_operator
no_product_operator_end t i s = rw (s.token 42, s.token 47) refl

pub no_product_operator : (t : List ℕ) (i b : ℕ) → IsNextToken t i (Some b) → (b ≡ 42 → ⊥) → (b ≡ 47 → ⊥)
    → product_operator t i ≡ None
unfolding product_operator
no_product_operator t i b s f g = rw (s.token 42, s.token 47, other_byte 42 b f, other_byte 47 b g) refl

-- ---- `+` and `-`

pub plus_next : (t : List ℕ) (i : ℕ) → IsNextToken t i (Some 43) → sum_operator t i ≡ Some (Plus, past_byte t i)
unfolding sum_operator
plus_next t i s = rw (s.token 43) refl

pub minus_next : (t : List ℕ) (i : ℕ) → IsNextToken t i (Some 45) → sum_operator t i ≡ Some (Minus, past_byte t i)
unfolding sum_operator
minus_next t i s = rw (s.token 43, s.token 45) refl

pub no_sum_operator_end : (t : List ℕ) (i : ℕ) → IsNextToken t i None → sum_operator t i ≡ None
unfolding sum_operator
no_sum_operator_end t i s = rw (s.token 43, s.token 45) refl

pub no_sum_operator : (t : List ℕ) (i b : ℕ) → IsNextToken t i (Some b) → (b ≡ 43 → ⊥) → (b ≡ 45 → ⊥)
    → sum_operator t i ≡ None
unfolding sum_operator
no_sum_operator t i b s f g = rw (s.token 43, s.token 45, other_byte 43 b f, other_byte 45 b g) refl

-- ---- comparisons

pub at_least_next : (t : List ℕ) (i j : ℕ) → pair_at 62 61 t i ≡ Some j → comparison t i ≡ Some (GreaterEqual, j)
unfolding comparison
at_least_next t i j e = rw e refl

pub at_most_next : (t : List ℕ) (i j : ℕ) → IsNextToken t i (Some 60) → pair_at 60 61 t i ≡ Some j
    → comparison t i ≡ Some (LessEqual, j)
unfolding comparison
at_most_next t i j s e = rw (s.pair 62 61 refl, s.token 35, s.token 62, s.token 61, e) refl

pub not_equal_next : (t : List ℕ) (i : ℕ) → IsNextToken t i (Some 35) → comparison t i ≡ Some (NotEqual, past_byte t i)
unfolding comparison
not_equal_next t i s = rw (s.pair 62 61 refl, s.token 35) refl

pub above_next : (t : List ℕ) (i : ℕ) → IsNextToken t i (Some 62) → pair_at 62 61 t i ≡ None
    → comparison t i ≡ Some (Greater, past_byte t i)
unfolding comparison
above_next t i s e = rw (e, s.token 35, s.token 62) refl

pub equals_next : (t : List ℕ) (i : ℕ) → IsNextToken t i (Some 61) → comparison t i ≡ Some (Equals, past_byte t i)
unfolding comparison
equals_next t i s = rw (s.pair 62 61 refl, s.token 35, s.token 62, s.token 61) refl

pub below_next : (t : List ℕ) (i : ℕ) → IsNextToken t i (Some 60) → pair_at 60 61 t i ≡ None
    → comparison t i ≡ Some (Less, past_byte t i)
unfolding comparison
below_next t i s e = rw (s.pair 62 61 refl, s.token 35, s.token 62, s.token 61, e, s.token 60) refl

pub no_comparison_end : (t : List ℕ) (i : ℕ) → IsNextToken t i None → comparison t i ≡ None
unfolding comparison
no_comparison_end t i s = rw (s.pair 62 61 refl, s.token 35, s.token 62, s.token 61, s.pair 60 61 refl, s.token 60) refl

pub no_comparison : (t : List ℕ) (i b : ℕ) → IsNextToken t i (Some b) → (b ≡ 62 → ⊥) → (b ≡ 60 → ⊥) → (b ≡ 35 → ⊥)
    → (b ≡ 61 → ⊥) → comparison t i ≡ None
unfolding comparison
no_comparison t i b s above below unequal equal =
    let no_above : IsFalse (is_next (λ d. eqb 62 d) (Some b)) = other_byte 62 b above in
    let no_below : IsFalse (is_next (λ d. eqb 60 d) (Some b)) = other_byte 60 b below in
    rw (
      s.pair 62 61 no_above,
      s.token 35,
      s.token 62,
      s.token 61,
      s.pair 60 61 no_below,
      s.token 60,
      other_byte 35 b unequal,
      other_byte 62 b above,
      other_byte 61 b equal,
      other_byte 60 b below,
    ) refl

-- ---- functions

pub no_function_end : (t : List ℕ) (i : ℕ) → IsNextToken t i None → word_at Functions t i ≡ None
no_function_end t i s = s.word Functions refl

pub no_function : (t : List ℕ) (i b : ℕ) → IsNextToken t i (Some b) → (b ≡ 82 → ⊥) → (b ≡ 65 → ⊥) → (b ≡ 83 → ⊥)
    → word_at Functions t i ≡ None
no_function t i b s r a z = s.word Functions (rw (ne_eqb b 82 r, ne_eqb b 65 a, ne_eqb b 83 z) refl)

-- ---- letters

-- no function begins without a letter
no_letter_no_function : (t : List ℕ) (i b : ℕ) (r : Option ℕ) → IsNextToken t i (Some b)
    → r ≡ (if is_letter b then Some b else None) → IsNone r → word_at Functions t i ≡ None
no_letter_no_function t i b r s e none = go (is_letter b) refl (subst IsNone e none) where
  go : (x : Bool) → is_letter b ≡ x → IsNone (if◌then◌else◌ {A = Option ℕ} x (Some b) None)
      → word_at Functions t i ≡ None
  go true h absent = absurd (cc absent)
  go false h absent = no_function t i b s (λ d. false≢true (sym h ∙ ap is_letter d))
      (λ d. false≢true (sym h ∙ ap is_letter d)) (λ d. false≢true (sym h ∙ ap is_letter d))

pub no_letter_here : FindingLaws → (t : List ℕ) (i : ℕ) → letter_at t i ≡ None → word_at Functions t i ≡ None
no_letter_here laws t i none = go (next_byte_at t i) (laws.next t i) where
  without : (b j : ℕ) (x : Bool) → if◌then◌else◌ {A = Option (ℕ × ℕ)} x (Some (b, j)) None ≡ None
      → IsNone (if◌then◌else◌ {A = Option ℕ} x (Some b) None)
  without b j true e = absurd cc
  without b j false e = refl

  go : (next : Option ℕ) → IsNextToken t i next → word_at Functions t i ≡ None
  go None s = no_function_end t i s
  go (Some b) s =
      no_letter_no_function t i b (if is_letter b then Some b else None) s refl
      (without b (past_byte t i) (is_letter b) (sym s.letter ∙ none))

-- ---- numbers

-- where a number is, nothing else is
pub record IsAlone (t : List ℕ) (i : ℕ) : Type 0 where
  pub no_function : word_at Functions t i ≡ None
  pub no_letter : letter_at t i ≡ None
  pub no_element : token_at 64 t i ≡ None
  pub no_minus : token_at 45 t i ≡ None
  pub no_plus : token_at 43 t i ≡ None

digit_alone : (t : List ℕ) (i : ℕ) (next : Option ℕ) → IsNextToken t i next → is_next is_digit next ≡ true → IsAlone t i
digit_alone t i None s h = absurd (false≢true h)
digit_alone t i (Some b) s h =
    let range = and_parts (leb 48 b) (leb b 57) h in
    let low : 48 ≤ b = leb-true 48 b range.0 in
    let high : b ≤ 57 = leb-true b 57 range.1 in
    record {
      no_function = no_function t i b s (λ e. omega (arith, e)) (λ e. omega (arith, e)) (λ e. omega (arith, e));
      no_letter = s.letter ∙ ap (λ (x : Bool). if x && leb b 90 then Some (b, past_blanks t (past_blanks t i + 1)) else
          None) (lt-leb 65 b (omega arith));
      no_element = s.token 64 ∙ ap (λ (x : Bool). if x then Some (past_byte t i) else None)
          (ne_eqb 64 b (λ e. omega (arith, e)));
      no_minus = s.token 45 ∙ ap (λ (x : Bool). if x then Some (past_byte t i) else None)
          (ne_eqb 45 b (λ e. omega (arith, e)));
      no_plus = s.token 43 ∙ ap (λ (x : Bool). if x then Some (past_byte t i) else None)
          (ne_eqb 43 b (λ e. omega (arith, e)));
    }

pub number_alone : FindingLaws → (t : List ℕ) (i : ℕ) → is_number (number_at t i).0 ≡ true → IsAlone t i
number_alone laws t i e = digit_alone t i (next_byte_at t i) (laws.next t i) (sym (laws.next t i).number ∙ e)

-- where a parenthesis is, no other factor begins
pub record Opens (t : List ℕ) (i : ℕ) : Type 0 where
  pub no_function : word_at Functions t i ≡ None
  pub no_letter : letter_at t i ≡ None
  pub no_element : token_at 64 t i ≡ None

pub paren_opens : (t : List ℕ) (i : ℕ) → IsNextToken t i (Some 40) → Opens t i
paren_opens t i s = record {
  no_function = s.word Functions refl;
  no_letter = s.letter;
  no_element = s.token 64;
}

number_before_end : FindingLaws → (t : List ℕ) (i j : ℕ) (v : ℤ) (next : Option ℕ) → number_at t i ≡ (Value v, j)
    → IsNextToken t j next → is_over t j ≡ true → Spells t Expr i (Whole (Num v) j)
number_before_end laws t i j v (Some b) here ends over = absurd (false≢true (sym ends.over ∙ over))
number_before_end laws t i j v None here ends over =
    let alone = number_alone laws t i (ap (λ n. is_number n.0) here) in
    spells.sum_alone
    (spells.sum (spells.no_sign alone.no_minus alone.no_plus
    (spells.product (spells.number alone.no_function alone.no_letter alone.no_element here)
    (spells.product_end (no_product_operator_end t j ends))))
    (spells.sum_end (no_sum_operator_end t j ends)))
    (no_comparison_end t j ends)

-- a number with nothing after it is an expression
pub number_alone_spelled : FindingLaws → (t : List ℕ) (i j : ℕ) (v : ℤ) → number_at t i ≡ (Value v, j)
    → is_over t j ≡ true → Spells t Expr i (Whole (Num v) (length t))
number_alone_spelled laws t i j v here over =
    let ahead = laws.number t i (Value v) j here refl in
    let low : length t ≤ past_blanks t j = leb-true (length t) (past_blanks t j) over in
    let end : j ≡ length t = omega (arith, ahead.settled, ahead.within, low) in
    subst (λ (k : ℕ). Spells t Expr i (Whole (Num v) k)) end
    (number_before_end laws t i j v (next_byte_at t j) here (laws.next t j) over)
