-- This file proves what bytes after other bytes are cut into. `InputLaws` cites these proofs, and is in `specs/`.
-- Main lemma: `whole_lines-append`.
--     last_piece-append      the last piece of bytes after other bytes
--     whole_lines-append     the complete lines of bytes after other bytes
use Rattle.std.proofs.Common.{◌≡◌, ℕ, Bool, true, false, List, [], ◌∷◌, ◌++◌, Option, Some, None, refl, ap}
use Rattle.std.specs.Prelude.{◌==◌, if◌then◌else◌}
use Rattle.ptb_devices.specs.CutLines.{with_byte, kept_bytes, whole_lines, last_piece}

last_piece-at : (t : Bool) (ys : List ℕ) (p q x y : Option (List ℕ)) → x ≡ last_piece p ys → y ≡ last_piece q ys
    → (if t then x else y) ≡ last_piece (if t then p else q) ys
last_piece-at true ys p q x y e f = e
last_piece-at false ys p q x y e f = f

pub last_piece-append : (p : Option (List ℕ)) (xs ys : List ℕ)
    → last_piece p (xs ++ ys) ≡ last_piece (last_piece p xs) ys
last_piece-append p [] ys = refl
last_piece-append p (b ∷ xs) ys =
    let q = Some (with_byte (kept_bytes p) b) in
    last_piece-at (b == 10) ys (last_piece None xs) (last_piece q xs) _ _ (last_piece-append None xs ys)
    (last_piece-append q xs ys)

whole_lines-at : (t : Bool) (ys k : List ℕ) (ls ms x y : List (List ℕ)) (p q : Option (List ℕ))
    → x ≡ ls ++ whole_lines p ys → y ≡ ms ++ whole_lines q ys
    → (if t then k ∷ x else y) ≡ (if t then k ∷ ls else ms) ++ whole_lines (if t then p else q) ys
whole_lines-at true ys k ls ms x y p q e f = ap (λ l. k ∷ l) e
whole_lines-at false ys k ls ms x y p q e f = f

pub whole_lines-append : (p : Option (List ℕ)) (xs ys : List ℕ)
    → whole_lines p (xs ++ ys) ≡ whole_lines p xs ++ whole_lines (last_piece p xs) ys
whole_lines-append p [] ys = refl
whole_lines-append p (b ∷ xs) ys =
    let q = Some (with_byte (kept_bytes p) b) in
    whole_lines-at (b == 10) ys (kept_bytes p) (whole_lines None xs) (whole_lines q xs) _ _ (last_piece None xs)
    (last_piece q xs)
    (whole_lines-append None xs ys) (whole_lines-append q xs ys)
