-- This file proves what a tally has after a chance was added to that of a result.
-- Main lemma: `added`.
use Rattle.std.proofs.Common.{◌≡◌, ℕ, Bool, true, false, cond, List, [], ◌∷◌, Option, Some, None}
use Rattle.std.proofs.Common.{refl, ap, sym, subst, arith}
use Rattle.std.specs.BTreeMap.{insert_entry, is_at}
use Rattle.std.specs.Map.{lookup, remove_entry}
use Rattle.std.specs.Ordering.{is_eq, on, match_ordering}
use Rattle.std.specs.declared.cmp.Ordering.{Ordering}
use Rattle.std.specs.declared.cmp.Ordering.TheVariants.{Less, Equal, Greater}
use Rattle.ptb_numbers.specs.Fractions.{Ratio}
use Rattle.ptb_chances.specs.Chances.{Row, result_order}
use Rattle.ptb_chances.specs.declared.result_key.ResultKey.{ResultKey}
use Rattle.ptb_chances.specs.declared.tally.ResultTotal.{ResultTotal}
use Rattle.ptb_chances.specs.Accounts.{AreAlike, AddsRow, AreSame, HasChance, ArePositive}
use Rattle.ptb_chances.specs.Keys.{Joins, key_result, row_of_total, rows_of}
use Rattle.ptb_chances.proofs.Accounts.{alike_self, alike_then, alike_back, alike_more}
use Rattle.ptb_chances.proofs.Accounts.{alike_turned, same_from_alike, same_alike, alike_same}
use Rattle.ptb_chances.proofs.Accounts.{joined}
use Rattle.ptb_chances.proofs.Orders.{result_exact}

abbrev order : ResultKey → ResultKey → Ordering
order = on key_result result_order

abbrev row : ResultKey → Ratio → ℕ → Row
row k chance runs = record { result = key_result k; chance = chance; runs = runs }

module _ (key : ResultKey) where
  -- ---- where the key is not there

  inserted : (v : ResultTotal) (es : List (ResultKey × ResultTotal)) → lookup (is_at (order key)) es ≡ None
      → AreAlike (rows_of (insert_entry order es key v)) (row_of_total (key, v) ∷ rows_of es)
  inserted v [] none = alike_self (row_of_total (key, v) ∷ [])
  inserted v (e ∷ es) none = by_order (inserted v es) (order key e.0) none
    where
      by_order : (lookup (is_at (order key)) es ≡ None
          → AreAlike (rows_of (insert_entry order es key v)) (row_of_total (key, v) ∷ rows_of es))
          → (o : Ordering) → cond (is_eq o) (Some e.1) (lookup (is_at (order key)) es) ≡ None
          → AreAlike (rows_of (match_ordering o ((key, v) ∷ e ∷ es) ((e.0, v) ∷ es) (e ∷ insert_entry order es key v)))
          (row_of_total (key, v) ∷ row_of_total e ∷ rows_of es)
      by_order later Less h = alike_self (row_of_total (key, v) ∷ row_of_total e ∷ rows_of es)
      by_order later Equal h = absurd cc
      by_order later Greater h =
          alike_then (row_of_total e ∷ rows_of (insert_entry order es key v)) (row_of_total e ∷ row_of_total (key, v)
          ∷ rows_of es) (row_of_total (key, v) ∷ row_of_total e ∷ rows_of es)
          (alike_more (row_of_total e) (rows_of (insert_entry order es key v)) (row_of_total (key, v) ∷ rows_of es)
          (later h))
          (alike_turned (row_of_total e) (row_of_total (key, v)) (rows_of es))

  none_removed : (es : List (ResultKey × ResultTotal)) → lookup (is_at (order key)) es ≡ None
      → remove_entry (is_at (order key)) es ≡ es
  none_removed [] none = refl
  none_removed (e ∷ es) none = by_test (none_removed es) (is_at (order key) e.0) none
    where
      by_test : (lookup (is_at (order key)) es ≡ None → remove_entry (is_at (order key)) es ≡ es) → (b : Bool)
          → cond b (Some e.1) (lookup (is_at (order key)) es) ≡ None
          → cond b es (e ∷ remove_entry (is_at (order key)) es) ≡ e ∷ es
      by_test later true h = absurd cc
      by_test later false h = ap (λ fs. e ∷ fs) (later h)

  -- ---- where it is there

  same_row : (k : ResultKey) (v w : ResultTotal) → is_eq (order key k) ≡ true → Some w ≡ Some v
      → row_of_total (k, w) ≡ row_of_total (key, v)
  same_row k v w h is =
      let same : w ≡ v = cc in
      let result : key_result k ≡ key_result key =
      sym (result_exact (key_result key) (key_result k) (equal_from (order key k) h)) in
      rw (same, result) refl
    where
      equal_from : (o : Ordering) → is_eq o ≡ true → o ≡ Equal
      equal_from Less h = absurd cc
      equal_from Equal h = refl
      equal_from Greater h = absurd cc

  taken_out : (v : ResultTotal) (es : List (ResultKey × ResultTotal)) → lookup (is_at (order key)) es ≡ Some v
      → AreAlike (rows_of es) (row_of_total (key, v) ∷ rows_of (remove_entry (is_at (order key)) es))
  taken_out v [] is = absurd cc
  taken_out v (e ∷ es) is = by_test (taken_out v es) (is_at (order key) e.0) refl is
    where
      by_test : (lookup (is_at (order key)) es ≡ Some v
          → AreAlike (rows_of es) (row_of_total (key, v) ∷ rows_of (remove_entry (is_at (order key)) es)))
          → (b : Bool) → is_at (order key) e.0 ≡ b → cond b (Some e.1) (lookup (is_at (order key)) es) ≡ Some v
          → AreAlike (row_of_total e ∷ rows_of es)
          (row_of_total (key, v) ∷ rows_of (cond b es (e ∷ remove_entry (is_at (order key)) es)))
      by_test later true test h = subst (λ (w : Row). AreAlike (row_of_total e ∷ rows_of es) (w ∷ rows_of es))
          (same_row e.0 v e.1 test h) (alike_self (row_of_total e ∷ rows_of es))
      by_test later false test h =
          alike_then (row_of_total e ∷ rows_of es)
          (row_of_total e ∷ row_of_total (key, v) ∷ rows_of (remove_entry (is_at (order key)) es))
          (row_of_total (key, v) ∷ row_of_total e ∷ rows_of (remove_entry (is_at (order key)) es))
          (alike_more (row_of_total e) (rows_of es)
          (row_of_total (key, v) ∷ rows_of (remove_entry (is_at (order key)) es)) (later h))
          (alike_turned (row_of_total e) (row_of_total (key, v)) (rows_of (remove_entry (is_at (order key)) es)))

  -- ---- rows that are positive

  insert_positive : (v : ResultTotal) (es : List (ResultKey × ResultTotal)) → HasChance (row_of_total (key, v))
      → ArePositive (rows_of es) → lookup (is_at (order key)) es ≡ None
      → ArePositive (rows_of (insert_entry order es key v))
  insert_positive v [] one all none = (one, tt)
  insert_positive v (e ∷ es) one all none = by_order (insert_positive v es one all.1) (order key e.0) none
    where
      by_order : (lookup (is_at (order key)) es ≡ None → ArePositive (rows_of (insert_entry order es key v)))
          → (o : Ordering) → cond (is_eq o) (Some e.1) (lookup (is_at (order key)) es) ≡ None
          → ArePositive
          (rows_of (match_ordering o ((key, v) ∷ e ∷ es) ((e.0, v) ∷ es) (e ∷ insert_entry order es key v)))
      by_order later Less h = (one, all)
      by_order later Equal h = absurd cc
      by_order later Greater h = (all.0, later h)

  remove_positive : (es : List (ResultKey × ResultTotal)) → ArePositive (rows_of es)
      → ArePositive (rows_of (remove_entry (is_at (order key)) es))
  remove_positive [] all = tt
  remove_positive (e ∷ es) all = by_test (remove_positive es all.1) (is_at (order key) e.0)
    where
      by_test : ArePositive (rows_of (remove_entry (is_at (order key)) es)) → (b : Bool)
          → ArePositive (rows_of (cond b es (e ∷ remove_entry (is_at (order key)) es)))
      by_test later true = all.1
      by_test later false = (all.0, later)

  -- ---- what was added

  module _ (chance : Ratio) (runs : ℕ) (total : ResultTotal) (es : List (ResultKey × ResultTotal)) where
    total_positive : (old : Option ResultTotal) → Joins old chance runs total → HasChance (row key chance runs)
        → HasChance (row_of_total (key, total))
    total_positive None j one = record { denominator = rw j.0 (one.denominator); runs = rw j.1 (one.runs) }
    total_positive (Some v) j one = record { denominator = j.1; runs = omega (arith, j.2, one.runs) }

    same_after : (old : Option ResultTotal) → old ≡ lookup (is_at (order key)) es → Joins old chance runs total
        → AreSame (row_of_total (key, total) ∷ rows_of (remove_entry (is_at (order key)) es))
        (row key chance runs ∷ rows_of es)
    same_after None is j =
        let whole : row_of_total (key, total) ≡ row key chance runs = rw (j.0, j.1) refl in
        let rest = ap rows_of (none_removed es (sym is)) in
        same_from_alike (row_of_total (key, total) ∷ rows_of (remove_entry (is_at (order key)) es))
        (row key chance runs ∷ rows_of es)
        (rw (whole, rest) (alike_self (row key chance runs ∷ rows_of es)))
    same_after (Some v) is j =
        same_alike (row_of_total (key, total) ∷ rows_of (remove_entry (is_at (order key)) es))
        (row key chance runs ∷ row_of_total (key, v) ∷ rows_of (remove_entry (is_at (order key)) es))
        (row key chance runs ∷ rows_of es)
        (joined (row key chance runs) (row_of_total (key, v)) (row_of_total (key, total))
        (rows_of (remove_entry (is_at (order key)) es)) refl refl j.0 j.2)
        (alike_more (row key chance runs) (row_of_total (key, v) ∷ rows_of (remove_entry (is_at (order key)) es))
        (rows_of es) (alike_back (rows_of es)
        (row_of_total (key, v) ∷ rows_of (remove_entry (is_at (order key)) es)) (taken_out v es (sym is))))

    pub added : (old : Option ResultTotal) (es' es'' : List (ResultKey × ResultTotal))
        → old ≡ lookup (is_at (order key)) es
        → es' ≡ remove_entry (is_at (order key)) es → lookup (is_at (order key)) es' ≡ None
        → es'' ≡ insert_entry order es' key total → Joins old chance runs total
        → AddsRow (rows_of es) (row key chance runs) (rows_of es'')
    added old es' es'' is removed none insert j = record {
      same =
          let alike : AreAlike (rows_of es'') (row_of_total (key, total) ∷ rows_of es') =
          rw insert (inserted total es' none) in
          let rest : AreAlike (rows_of es'') (row_of_total (key, total) ∷ rows_of
          (remove_entry (is_at (order key)) es)) = subst (λ (fs : List (ResultKey × ResultTotal)). AreAlike
          (rows_of es'') (row_of_total (key, total) ∷ rows_of fs)) removed alike in
          alike_same (rows_of es'') (row_of_total (key, total) ∷ rows_of (remove_entry (is_at (order key)) es))
          (row key chance runs ∷ rows_of es) rest (same_after old is j);
      positive = λ one all. rw insert
          (insert_positive total es' (total_positive old j one) (rw removed (remove_positive es all)) none);
    }
