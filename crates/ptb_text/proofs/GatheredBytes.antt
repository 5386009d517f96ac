-- This file proves how bytes that are gathered and then taken add up. Crates that gather bytes cite it.
-- Main lemmas: `gathers_more` and `all_more`.
use Rattle.std.proofs.Common.{◌≡◌, ℕ, ◌+◌, ◌<◌, ◌≤◌, get_or, List, [], ◌∷◌, ◌++◌, length, take, drop}
use Rattle.std.proofs.Common.{Option, refl, sym, ap, ◌∙◌, subst, append_assoc, append-nil, arith}
use Rattle.std.proofs.Common.{length-append}
use Rattle.std.proofs.lemmas.List.{take-append-drop, take-append-le, take_all, take_more}
use Rattle.std.proofs.lemmas.List.Concat.{flat_map-append}
use Rattle.std.specs.List.{flat_map}
use Rattle.std.proofs.Math.Seq.{take-length}
use Rattle.std.specs.Io.KnownBytes.{Appends}
use Rattle.std.proofs.KnownBytes.{Appends-nil, Appends-trans}
use Rattle.ptb_text.specs.Device.{Gathers, TakesSome}

-- nothing taken, all pending
pub gathers_none : (a : Option (List ℕ)) (s : List ℕ) → Gathers a a s s
gathers_none a s = record { prefix = []; whole = refl; growth = Appends-nil a }

-- what was pending, and x after it
pub gathers_more : (a b c : Option (List ℕ)) (s p x q : List ℕ) → Gathers a b s p → Gathers b c (p ++ x) q
    → Gathers a c (s ++ x) q
gathers_more a b c s p x q g h = record {
  prefix = g.prefix ++ h.prefix;
  whole =
      ap (λ z. z ++ x) g.whole ∙ append_assoc g.prefix p x ∙ ap (λ z. g.prefix ++ z) h.whole
      ∙ sym (append_assoc g.prefix h.prefix q);
  growth = Appends-trans a b c g.prefix h.prefix g.growth h.growth;
}

pub gathers_same : {a b : Option (List ℕ)} {s t p : List ℕ} → s ≡ t → Gathers a b s p → Gathers a b t p
gathers_same {a} {b} {s} {t} {p} e g = subst (λ z. Gathers a b z p) e g

-- ---- faults

gathers_some : (a b : Option (List ℕ)) (s p : List ℕ) → Gathers a b s p → TakesSome a b s
gathers_some a b s p g =
    let l : length s ≡ length g.prefix + length p = ap length g.whole ∙ length-append g.prefix p in
    let t : take (length g.prefix) s ≡ g.prefix = ap (take (length g.prefix)) g.whole
    ∙ take-append-le (length g.prefix) g.prefix p (omega arith) ∙ take-length g.prefix in
    (length g.prefix, omega arith, subst (Appends a b) (sym t) g.growth)

some_gathers : (a b : Option (List ℕ)) (s : List ℕ) → (t : TakesSome a b s) → Gathers a b s (drop t.0 s)
some_gathers a b s t = record { prefix = take t.0 s; whole = sym (take-append-drop t.0 s); growth = t.2 }

-- a prefix of the first bytes is a prefix of all
pub some_more : (a b : Option (List ℕ)) (s x : List ℕ) → TakesSome a b s → TakesSome a b (s ++ x)
some_more a b s x t = (t.0, omega (arith, t.1, length-append s x), rw (take-append-le t.0 s x t.1) t.2)

-- a prefix of what was pending and x after it
pub some_after : (a b c : Option (List ℕ)) (s p x : List ℕ) → Gathers a b s p → TakesSome b c (p ++ x)
    → TakesSome a c (s ++ x)
some_after a b c s p x g t =
    gathers_some a c (s ++ x) (drop t.0 (p ++ x))
    (gathers_more a b c s p x (drop t.0 (p ++ x)) g (some_gathers b c (p ++ x) t))

-- ---- all at once

-- all that was pending was taken
pub all_after : (a b c : Option (List ℕ)) (s p : List ℕ) → Gathers a b s p → Appends b c p → Appends a c s
all_after a b c s p g t = subst (Appends a c) (sym g.whole) (Appends-trans a b c g.prefix p g.growth t)

-- a prefix of what was pending was taken
pub some_rest : (a b c : Option (List ℕ)) (s p : List ℕ) → Gathers a b s p → TakesSome b c p → TakesSome a c s
some_rest a b c s p g t =
    let q : TakesSome b c (p ++ []) = rw append-nil t in
    rw append-nil at (some_after a b c s p [] g q)

pub gathers_written : (a b : Option (List ℕ)) (s : List ℕ) → Appends a b s → Gathers a b s []
gathers_written a b s t = record { prefix = s; whole = sym (append-nil s); growth = t }

-- all that was pending and x after it was taken
pub all_more : (a b c : Option (List ℕ)) (s p x : List ℕ) → Gathers a b s p → Appends b c (p ++ x)
    → Appends a c (s ++ x)
all_more a b c s p x g t =
    all_after a c c (s ++ x) [] (gathers_more a b c s p x [] g (gathers_written b c (p ++ x) t)) (Appends-nil c)

-- ---- one piece after the other: s, and then a piece for each of xs, of which i are done; x is the next piece

module _ {X : Type 0} (f : X → List ℕ) (xs : List X) (i : ℕ) (d : X) (within : i < length xs)
    (x : List ℕ) (next : x ≡ f (get_or xs i d)) (a b c : Option (List ℕ)) (s p : List ℕ)
    (so_far : Gathers a b (s ++ flat_map f (take i xs)) p) where
  pieces_more : (s ++ flat_map f (take i xs)) ++ x ≡ s ++ flat_map f (take (i + 1) xs)
  pieces_more =
      append_assoc s (flat_map f (take i xs)) x
      ∙ ap (λ z. s ++ z) (ap (λ z. flat_map f (take i xs) ++ z) (next ∙ sym (append-nil (f (get_or xs i d))))
      ∙ sym (ap (flat_map f) (take_more xs i d within) ∙ flat_map-append f (take i xs) (get_or xs i d ∷ [])))

  pieces_all : (s ++ flat_map f (take (i + 1) xs)) ++ flat_map f (drop (i + 1) xs) ≡ s ++ flat_map f xs
  pieces_all =
      append_assoc s (flat_map f (take (i + 1) xs)) (flat_map f (drop (i + 1) xs))
      ∙ ap (λ z. s ++ z)
      (sym (flat_map-append f (take (i + 1) xs) (drop (i + 1) xs)) ∙ ap (flat_map f) (take-append-drop (i + 1) xs))

  pub gathers_piece : (q : List ℕ) → Gathers b c (p ++ x) q → Gathers a c (s ++ flat_map f (take (i + 1) xs)) q
  gathers_piece q g =
      subst (λ z. Gathers a c z q) pieces_more (gathers_more a b c (s ++ flat_map f (take i xs)) p x q so_far g)

  pub some_piece : TakesSome b c (p ++ x) → TakesSome a c (s ++ flat_map f xs)
  some_piece t =
      let upto : TakesSome a c (s ++ flat_map f (take (i + 1) xs)) =
      subst (TakesSome a c) pieces_more (some_after a b c (s ++ flat_map f (take i xs)) p x so_far t) in
      subst (TakesSome a c) pieces_all
      (some_more a c (s ++ flat_map f (take (i + 1) xs)) (flat_map f (drop (i + 1) xs)) upto)

-- after the last of them
pub gathers_pieces : {X : Type 0} (f : X → List ℕ) (xs : List X) (i : ℕ) (a b : Option (List ℕ)) (s q : List ℕ)
    → length xs ≤ i → Gathers a b (s ++ flat_map f (take i xs)) q → Gathers a b (s ++ flat_map f xs) q
gathers_pieces {X} f xs i a b s q over g =
    subst (λ (z : List X). Gathers a b (s ++ flat_map f z) q) (take_all i xs over) g
