-- This file proves what values are that are saved without the zeros after them.
-- Main lemmas: `same_saved` and `same_elements`.
use Rattle.std.proofs.Common.{◌≡◌, ◌≤◌, ◌+◌, ◌-◌, ◌∙◌, ◌++◌, ℕ, List, length, take, drop, replicate}
use Rattle.std.proofs.Common.{refl, sym, ap, arith, append_assoc}
use Rattle.std.specs.Prelude.{ℤ, pos, unsigned_abs, ◌/◌}
use Rattle.std.proofs.lemmas.List.{drop-append-le, length-append, length-drop}
use Rattle.std.proofs.lemmas.List.{replicate-append-replicate, take-append-drop, take-append-le}
use Rattle.std.proofs.lemmas.List.{take-replicate, take_at, drop_at}
use Rattle.std.proofs.lemmas.Slice.{drop-append-drop}
use Rattle.ptb_expr.specs.SavedStores.{with_zeros}
use Rattle.ptb_expr.specs.Store.{Cells, IsZeroFrom}
use Rattle.ptb_expr.proofs.Zeros.{zeros_after}

abbrev zeros : ℕ → List ℤ
zeros n = replicate n (pos 0)

-- ---- values that are put in front of zeros

pub front_put : (front xs : List ℤ) → length front ≤ length xs → length (front ++ drop (length front) xs) ≡ length xs
front_put front xs fits = rw (length-append, length-drop) (omega (arith, fits))

pub front_zeros : (front xs : List ℤ) (used end : ℕ) → used ≤ end → length front ≤ end → length front ≤ length xs
    → IsZeroFrom used xs → IsZeroFrom end (front ++ drop (length front) xs)
front_zeros front xs used end a b fits following =
    rw (front_put front xs fits, drop-append-drop (length front) xs front end b refl)
    (zeros_after end used xs a following)

pub all_put : (front xs : List ℤ) (end n : ℕ) → length front ≤ end → end ≤ n → length xs ≡ n
    → take end xs ≡ front ++ zeros (end - length front) → IsZeroFrom end xs → xs ≡ with_zeros n front
all_put front xs end n longer within same put following =
    let all : end - length front + (n - end) ≡ n - length front = omega (arith, longer, within) in
    sym (take-append-drop end xs) ∙ ap (λ l. l ++ drop end xs) put
    ∙ ap (λ l. (front ++ zeros (end - length front)) ++ l) (following ∙ ap (λ k. zeros (k - end)) same)
    ∙ append_assoc front (zeros (end - length front)) (zeros (n - end))
    ∙ ap (λ l. front ++ l) (replicate-append-replicate (end - length front) (n - end) (pos 0) ∙ ap zeros all)

-- ---- values that are the same with their zeros

pub same_values : (xs ys : List ℤ) (n : ℕ) → length xs ≤ length ys → length ys ≤ n → take (length xs) ys ≡ xs
    → drop (length xs) ys ≡ zeros (length ys - length xs) → with_zeros n xs ≡ with_zeros n ys
same_values xs ys n shorter within front rest =
    let all : length ys - length xs + (n - length ys) ≡ n - length xs = omega (arith, shorter, within) in
    let parts : ys ≡ xs ++ zeros (length ys - length xs) = sym (take-append-drop (length xs) ys)
    ∙ ap (λ l. l ++ drop (length xs) ys) front ∙ ap (λ l. xs ++ l) rest in
    let whole : xs ++ zeros (n - length xs) ≡ (xs ++ zeros (length ys - length xs)) ++ zeros (n - length ys) =
    ap (λ l. xs ++ l) (ap zeros (sym all) ∙ sym (replicate-append-replicate (length ys - length xs) (n - length ys)
    (pos 0))) ∙ sym (append_assoc xs (zeros (length ys - length xs)) (zeros (n - length ys))) in
    whole ∙ ap (λ l. l ++ zeros (n - length ys)) (sym parts)

pub same_front : (xs ys : List ℤ) (n : ℕ) → length xs ≤ length ys → with_zeros n xs ≡ with_zeros n ys
    → take (length xs) ys ≡ xs
same_front xs ys n shorter same =
    sym (take-append-le (length xs) ys (zeros (n - length ys)) shorter) ∙ ap (λ l. take (length xs) l) (sym same)
    ∙ take_at xs (zeros (n - length xs)) (length xs) refl

pub same_rest : (xs ys : List ℤ) (n : ℕ) → length xs ≤ length ys → length ys ≤ n → with_zeros n xs ≡ with_zeros n ys
    → drop (length xs) ys ≡ zeros (length ys - length xs)
same_rest xs ys n shorter within same =
    let few : length ys - length xs ≤ n - length xs = omega (arith, within) in
    let long : length (drop (length xs) ys) ≡ length ys - length xs = length-drop (length xs) ys in
    let rest : drop (length xs) ys ++ zeros (n - length ys) ≡ zeros (n - length xs) =
    sym (drop-append-le (length xs) ys (zeros (n - length ys)) shorter) ∙ ap (λ l. drop (length xs) l) (sym same)
    ∙ drop_at xs (zeros (n - length xs)) (length xs) refl in
    sym (take_at (drop (length xs) ys) (zeros (n - length ys)) (length ys - length xs) long) ∙ ap
    (λ l. take (length ys - length xs) l) rest ∙ take-replicate (length ys - length xs) (n - length xs) (pos 0) few

-- ---- what is saved of a store

abbrev pub saved : ℤ → List ℤ → List ℤ → Cells
saved size values elements = record {
  size = size;
  values = values;
  elements = with_zeros (unsigned_abs size / 2 + 1) elements;
}

pub same_saved : (s t : ℤ) (v w a b : List ℤ) → s ≡ t → v ≡ w
    → with_zeros (unsigned_abs s / 2 + 1) a ≡ with_zeros (unsigned_abs s / 2 + 1) b → saved s v a ≡ saved t w b
same_saved s t v w a b size values elements =
    let all : with_zeros (unsigned_abs s / 2 + 1) a ≡ with_zeros (unsigned_abs t / 2 + 1) b =
    elements ∙ ap (λ (k : ℤ). with_zeros (unsigned_abs k / 2 + 1) b) size in
    λ i. record { size = size i; values = values i; elements = all i }

pub same_elements : (s t : ℤ) (v w a b : List ℤ) → s ≡ t → saved s v a ≡ saved t w b
    → with_zeros (unsigned_abs s / 2 + 1) a ≡ with_zeros (unsigned_abs s / 2 + 1) b
same_elements s t v w a b size same = ap (λ (c : Cells). c.elements) same
    ∙ ap (λ (k : ℤ). with_zeros (unsigned_abs k / 2 + 1) b) (sym size)
