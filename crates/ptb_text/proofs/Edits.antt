-- This file proves that a program stays one when a text is stored or a statement deleted, and what it then costs.
-- Main lemmas: `is_program-with_text` and `is_program-without_number`.
use Rattle.std.proofs.Common.{◌≡◌, ℕ, ◌+◌, ◌<◌, ◌≤◌, Bool, true, false, not, cond, ◌==◌, ◌&&◌, List}
use Rattle.std.proofs.Common.{[], ◌∷◌, length, get_or, Ok, Err, refl, sym, ap, ◌∙◌, arith}
use Rattle.std.specs.List.{list_all}
use Rattle.std.specs.Ordering.{nat_cmp}
use Rattle.std.specs.FinMap.{put}
use Rattle.std.proofs.Math.Dec.{T}
use Rattle.std.specs.declared.cmp.Ordering.TheVariants.{Less, Equal, Greater}
use Rattle.std.specs.FinMap.Entries.{by_order, is_sorted-put, is_sorted-where_key}
use Rattle.std.proofs.lemmas.Cmp.{nat_cmp_total}
use Rattle.std.proofs.lemmas.Bool.Decides.{nat_tests}
use Rattle.std.proofs.lemmas.Float.{T_from_true}
use Rattle.std.proofs.lemmas.List.Sums.{get_or-le-sum_by, sum_by-set, sum_by-insert, sum_by-remove}
use Rattle.ptb_text.specs.declared.fault.LoadFault.{LoadFault}
use Rattle.ptb_text.specs.declared.fault.LoadFault.TheVariants.{Full, Memory}
use Rattle.ptb_text.specs.Statements.{Statements, StoredProgram, cost, if_room, is_program}
use Rattle.ptb_text.specs.Statements.{is_statement, with_text, without_number}
use Rattle.ptb_text.specs.EnteredLines.{Enters}
use Rattle.ptb_text.specs.NumberOrder.{IsAt, IsGapFor}
use Rattle.ptb_text.proofs.Entries.{with_text-place, with_text-gap, without_number-place}
use Rattle.ptb_text.proofs.SoundPrograms.{both_true}
use Rattle.ptb_text.proofs.Searches.{same_from_equal}

-- ---- a program stays one

true_from_T : (b : Bool) → T b → b ≡ true
true_from_T true h = refl
true_from_T false h = absurd h

pub both : (a b : Bool) → a ≡ true → b ≡ true → (a && b) ≡ true
both a b p q = ap (λ c. c && b) p ∙ q

all_with_text : (p : Statements) (n : ℕ) (text : List ℕ) → list_all is_statement p ≡ true
    → is_statement (n, text) ≡ true → list_all is_statement (with_text p n text) ≡ true
all_with_text [] n text all one = both _ _ one refl
all_with_text (s ∷ p) n text all one =
    let first = (both_true _ _ all).0 in
    let others = (both_true _ _ all).1 in
    elim (nat_cmp n s.0) as (λ o. nat_cmp n s.0 ≡ o → list_all is_statement
    (by_order o ((n, text) ∷ s ∷ p) ((s.0, text) ∷ p) (s ∷ put nat_cmp n text p)) ≡ true) [
      | Less ↦ λ e. both _ _ one all
      | Equal ↦ λ e. both _ _ (ap (λ k. is_statement (k, text)) (sym (same_from_equal n s.0 e)) ∙ one) others
      | Greater ↦ λ e. both _ _ first (all_with_text p n text others one)
    ] refl

pub is_program-with_text : (p : Statements) (n : ℕ) (text : List ℕ) → is_program p ≡ true
    → is_statement (n, text) ≡ true → is_program (with_text p n text) ≡ true
is_program-with_text p n text is one =
    let parts = both_true _ _ is in
    both _ _ (true_from_T _ (is_sorted-put nat_cmp nat_cmp_total n text p (T_from_true _ parts.0)))
    (all_with_text p n text parts.1 one)

all_without : (p : Statements) (n : ℕ) → list_all is_statement p ≡ true
    → list_all is_statement (without_number p n) ≡ true
all_without [] n all = refl
all_without (s ∷ p) n all =
    let first = (both_true _ _ all).0 in
    let rest = all_without p n (both_true _ _ all).1 in
    elim (not (s.0 == n))
    as (λ b. list_all is_statement (cond b (s ∷ without_number p n) (without_number p n)) ≡ true) [
      | true ↦ both _ _ first rest
      | false ↦ rest
    ]

pub is_program-without_number : (p : Statements) (n : ℕ) → is_program p ≡ true → is_program (without_number p n) ≡ true
is_program-without_number p n is =
    let parts = both_true _ _ is in
    both _ _ (true_from_T _ (is_sorted-where_key nat_cmp (λ k. not (k == n)) p (T_from_true _ parts.0)))
    (all_without p n parts.1)

-- ---- its cost

-- what one statement costs
abbrev pub one_cost : ℕ × List ℕ → ℕ
one_cost s = length s.1 + 3

pub one_cost-le-cost : (p : Statements) (i : ℕ) → i < length p → one_cost (get_or p i (0, [])) ≤ cost p
one_cost-le-cost p i in_range = get_or-le-sum_by one_cost p i (0, []) in_range

pub cost-with_text_place : (p : Statements) (n i : ℕ) (text : List ℕ) → IsAt p n i
    → cost (with_text p n text) + one_cost (get_or p i (0, [])) ≡ cost p + (length text + 3)
cost-with_text_place p n i text at =
    rw (with_text-place p n i text at) (sum_by-set one_cost p i (n, text) (0, []) at.in_range)

pub cost-with_text_gap : (p : Statements) (n i : ℕ) (text : List ℕ) → IsGapFor p n i
    → cost (with_text p n text) ≡ cost p + (length text + 3)
cost-with_text_gap p n i text gap = rw (with_text-gap p n i text gap) (sum_by-insert one_cost p i (n, text))

pub cost-without_place : (p : Statements) (n i : ℕ) → IsAt p n i
    → cost (without_number p n) + one_cost (get_or p i (0, [])) ≡ cost p
cost-without_place p n i at = rw (without_number-place p n i at) (sum_by-remove one_cost p i (0, []) at.in_range)

-- ---- what a call that stores a text answers

pub Enters-ok : (q : Statements) (old new : StoredProgram) → new.lines ≡ q → new.memory ≡ old.memory
    → cost q ≤ old.memory → Enters (if_room old.memory q) old new (Ok tt)
Enters-ok q old new lines memory fits =
    record { ok = grind (arith, nat_tests); refused = tt; memory_last = tt; err = tt; memory = memory }

pub Enters-full : (q : Statements) (old : StoredProgram) → old.memory < cost q
    → Enters (if_room old.memory q) old old (Err Full)
Enters-full q old over = record {
  ok = tt;
  refused = λ _. grind (arith, nat_tests);
  memory_last = λ no_line_fault. absurd (no_line_fault tt);
  err = refl;
  memory = refl;
}

pub Enters-memory : (q : Statements) (old new : StoredProgram) (f : LoadFault) → f ≡ Memory → new ≡ old
    → cost q ≤ old.memory → Enters (if_room old.memory q) old new (Err f)
Enters-memory q old new f is same fits = record {
  ok = tt;
  refused = λ line_fault. absurd (rw is at line_fault);
  memory_last = λ _. (is, grind (arith, nat_tests));
  err = same;
  memory = ap (λ p. p.memory) same;
}
