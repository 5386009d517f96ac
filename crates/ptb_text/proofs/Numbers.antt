-- This file proves what is known of a number with a sign once it was converted to one without.
-- Main lemmas: `look_up-found` and `look_up-absent`.
use Rattle.std.proofs.Common.{◌≡◌, ℕ, ◌+◌, ℤ, pos, negsuc, nat_abs, Result, Ok, Err, Option, Some}
use Rattle.std.proofs.Common.{None, List, [], IfSome, IsNone, option_map, slice_get, add-one, IfOk}
use Rattle.std.proofs.Common.{IfErr, OnSome, refl, sym, subst, ap, ◌∙◌, arith}
use Rattle.std.specs.Result.{OkIff, result_ok}
use Rattle.std.specs.Int.{FitsUnsignedBits}
use mir.Syntax.{w16}
use mir.Val.{to_z, of_z, SFits}
use Rattle.std.proofs.lemmas.Int.{to_z-of_z}
use Rattle.std.proofs.lemmas.Option.{slice_get-get_or}
use Rattle.ptb_text.specs.Statements.{Statements, text_of_number, number_above}
use Rattle.ptb_text.specs.NumberOrder.{IsGapFor, IsAt, statement_at}
use Rattle.ptb_text.proofs.Entries.{text_at-gap, number_after-place, number_after-gap}

converted : {E : Type 0} (r : Result ℕ E) (n : ℤ) (m : ℕ) → OkIff r (FitsUnsignedBits 16 n) (nat_abs n)
    → result_ok r ≡ Some m → n ≡ pos m
converted (Ok x) (pos k) m is e = cc
converted (Ok x) (negsuc k) m is e = absurd is.0
converted (Err x) n m is e = cc

-- a number that could be converted has no sign
pub is_whole : {E : Type 0} (r : Result ℕ E) (n : ℤ) (m : ℕ) → SFits w16 n
    → OkIff r (FitsUnsignedBits 16 (to_z w16 (of_z w16 n))) (nat_abs (to_z w16 (of_z w16 n))) → result_ok r ≡ Some m
    → n ≡ pos m
is_whole r n m fits is = converted r n m (simp to_z-of_z at is)

-- and under one that couldn't be there is nothing
unconverted : {E : Type 0} (p : Statements) (r : Result ℕ E) (n : ℤ) (v : ℕ) → SFits w16 n
    → OkIff r (FitsUnsignedBits 16 n) v → result_ok r ≡ None → text_of_number p n ≡ None
unconverted p (Ok x) n v fits is e = cc
unconverted p (Err x) (pos k) v fits is e = absurd (is (omega (arith, fits)))
unconverted p (Err x) (negsuc k) v fits is e = refl

pub text_of_number-unconverted : {E : Type 0} (p : Statements) (r : Result ℕ E) (n : ℤ) → SFits w16 n
    → OkIff r (FitsUnsignedBits 16 (to_z w16 (of_z w16 n))) (nat_abs (to_z w16 (of_z w16 n))) → result_ok r ≡ None
    → text_of_number p n ≡ None
text_of_number-unconverted p r n fits is e = unconverted p r n _ fits (simp to_z-of_z at is) e

-- where nothing is answered nothing is to be shown
pub on_none : {T : Type 0} (X : Type 0) (o : Option T) → o ≡ None → OnSome o X
on_none X o e = subst (λ (x : Option _). OnSome x X) (sym e) tt

pub if_none : {T : Type 0} (P : T → Type 0) (o : Option T) → o ≡ None → IfSome o P
if_none P o e = subst (λ (x : Option _). IfSome x P) (sym e) tt

-- a search that finds nothing
pub text_of_number-absent : (p : Statements) (n : ℤ) (m : ℕ) (r : Result ℕ ℕ) → n ≡ pos m → IfErr r (IsGapFor p m)
    → result_ok r ≡ None → text_of_number p n ≡ None
text_of_number-absent p n m (Ok i) is gap e = cc
text_of_number-absent p n m (Err i) is gap e = ap (text_of_number p) is ∙ text_at-gap p m i gap

-- and one that does
pub IsAt-found : (p : Statements) (m i : ℕ) (r : Result ℕ ℕ) → IfOk r (IsAt p m) → result_ok r ≡ Some i → IsAt p m i
IsAt-found p m i (Ok j) at e = let same : j ≡ i = cc in rw same at at
IsAt-found p m i (Err j) at e = cc

number_there : (o : Option (ℕ × List ℕ))
    → option_map {T = ℤ × List ℕ} (λ s. s.0) (option_map (λ s. (pos s.0, s.1)) o) ≡ option_map (λ s. pos s.0) o
number_there None = refl
number_there (Some s) = refl

-- the place that a look-up gives
pub look_up-found : (p : Statements) (n : ℤ) (m : ℕ) (o : Option ℕ) (r : Result ℕ ℕ) → n ≡ pos m → IfOk r (IsAt p m)
    → o ≡ result_ok r → IfSome o (λ i. option_map (λ s. s.0) (statement_at p i) ≡ Some n)
look_up-found p n m None r is at e = tt
look_up-found p n m (Some i) r is at e =
    let place = IsAt-found p m i r at (sym e) in
    let line = slice_get-get_or p i (0, []) place.in_range in
    number_there (slice_get p i) ∙ ap (option_map (λ s. pos s.0)) line ∙ ap (λ k. Some (pos k)) place.has_number
    ∙ ap Some (sym is)

pub look_up-absent : (p : Statements) (n : ℤ) (m : ℕ) (o : Option ℕ) (r : Result ℕ ℕ) → n ≡ pos m
    → IfErr r (IsGapFor p m) → o ≡ result_ok r → IsNone o → text_of_number p n ≡ None
look_up-absent p n m None r is gap e none = text_of_number-absent p n m r is gap (sym e)
look_up-absent p n m (Some i) r is gap e none = cc

-- ---- the next number

pos-first : (o : Option (ℕ × List ℕ)) → option_map (λ s. pos s.0) o ≡ option_map pos (option_map (λ s. s.0) o)
pos-first None = refl
pos-first (Some s) = refl

pub number_above-place : (p : Statements) (n : ℤ) (m i : ℕ) → n ≡ pos m → IsAt p m i
    → option_map (λ s. pos s.0) (slice_get p (i + 1)) ≡ option_map pos (number_above p n)
number_above-place p n m i is at =
    pos-first _ ∙ ap (option_map pos) (rw add-one (sym (number_after-place p m i at)) ∙ ap (number_above p) (sym is))

pub number_above-gap : (p : Statements) (n : ℤ) (m i : ℕ) → n ≡ pos m → IsGapFor p m i
    → option_map (λ s. pos s.0) (slice_get p i) ≡ option_map pos (number_above p n)
number_above-gap p n m i is gap =
    pos-first _ ∙ ap (option_map pos) (sym (number_after-gap p m i gap) ∙ ap (number_above p) (sym is))
