-- This file proves how bytes that are taken in pieces add up to the bytes as a whole.
-- Main lemmas: `piece_taken` and `gathers_all`.
use Rattle.std.proofs.Common.{◌≡◌, ℕ, ◌+◌, ◌-◌, ◌<◌, ◌≤◌, List, [], ◌∷◌, ◌++◌, length, take, drop}
use Rattle.std.proofs.Common.{Option, sym, ap, ◌∙◌}
use Rattle.std.proofs.Common.{subst, append_assoc, append-nil, arith, length-append, length-drop}
use Rattle.std.proofs.Common.{length-take}
use Rattle.std.proofs.Math.Seq.{take-append-add}
use Rattle.std.proofs.lemmas.List.{take-append-drop, take-append-le, take_all}
use Rattle.std.specs.Io.KnownBytes.{Appends}
use Rattle.std.proofs.KnownBytes.{Appends-trans}
use Rattle.ptb_text.specs.Device.{Gathers, TakesSome}

-- n bytes of the rest are taken then, and m are left
pub gathers_rest : {a b : Option (List ℕ)} {bytes rest : List ℕ} (c : Option (List ℕ)) (n m : ℕ) → m ≡ length rest - n
    → Gathers a b bytes rest → Appends b c (take n rest) → Gathers a c bytes (take m (drop n rest))
gathers_rest {a} {b} {bytes} {rest} c n m left before now =
    let all : take m (drop n rest) ≡ drop n rest = take_all m (drop n rest) (omega (arith, length-drop n rest)) in
    record {
      prefix = before.prefix ++ take n rest;
      whole =
          before.whole
          ∙ ap (λ r. before.prefix ++ r) (sym (take-append-drop n rest) ∙ ap (λ r. take n rest ++ r) (sym all))
          ∙ sym (append_assoc before.prefix (take n rest) (take m (drop n rest)));
      growth = Appends-trans a b c before.prefix (take n rest) before.growth now;
    }

-- and in the end all
pub gathers_all : {a b : Option (List ℕ)} {bytes : List ℕ} (rest : List ℕ) → Gathers a b bytes rest → length rest ≡ 0
    → Appends a b bytes
gathers_all {a} {b} [] before e = subst (Appends a b) (sym (before.whole ∙ append-nil before.prefix)) before.growth
gathers_all (x ∷ rest) before e = absurd (omega arith)

-- where the next piece fails, a prefix of all the bytes was taken
pub gathers_fault : {a b : Option (List ℕ)} {bytes rest : List ℕ} (c : Option (List ℕ)) → Gathers a b bytes rest
    → TakesSome b c rest → TakesSome a c bytes
gathers_fault {a} {b} {bytes} {rest} c before now =
    let prefix = before.prefix in
    let m = now.0 in
    let same : take (length prefix + m) bytes ≡ prefix ++ take m rest =
    ap (take (length prefix + m)) before.whole ∙ take-append-add prefix rest m in
    let size : length bytes ≡ length prefix + length rest = ap length before.whole ∙ length-append prefix rest in (
      length prefix + m,
      omega (arith, now.1),
      subst (Appends a c) (sym same)
          (Appends-trans a b c prefix (take m rest) before.growth now.2),
    )

-- ---- what is taken without failing

rest_within : {a b : Option (List ℕ)} {bytes rest : List ℕ} → Gathers a b bytes rest → length rest ≤ length bytes
rest_within {a} {b} {bytes} {rest} before = omega (arith, ap length before.whole, length-append before.prefix rest)

-- a writer that took all bytes but the rest
module _ (first now : ℕ → Type 0) {a b : Option (List ℕ)} {bytes rest : List ℕ} (before : Gathers a b bytes rest)
    (sure : (k : ℕ) → length bytes ≤ k → first k → now (k - (length bytes - length rest))) where
  -- it takes n bytes of the rest
  pub sure_more : (next : ℕ → Type 0) (n : ℕ) → n ≤ length rest
      → ((k : ℕ) → length rest ≤ k → now k → (0 < length rest → 0 < n) × next (k - n))
      → (k : ℕ) → length bytes ≤ k → first k → next (k - (length bytes - length (take (length rest - n) (drop n rest))))
  sure_more next n some takes k within was =
      let left : length (take (length rest - n) (drop n rest)) ≡ length rest - n =
      omega (arith, length-take (length rest - n) (drop n rest), length-drop n rest) in
      let size : length rest ≤ length bytes = rest_within before in
      let took = (takes (k - (length bytes - length rest)) (omega (arith, size, within)) (sure k within was)).1 in
      subst next (omega (arith, left, size, some, within)) took

  -- the next write does not fail
  pub sure_written : ((k : ℕ) → length rest ≤ k → now k → ⊥) → (k : ℕ) → length bytes ≤ k → first k → ⊥
  sure_written fails k within was =
      fails (k - (length bytes - length rest)) (omega (arith, rest_within before, within)) (sure k within was)

  -- there is no rest
  pub sure_all : length rest ≡ 0 → (k : ℕ) → length bytes ≤ k → first k → now (k - length bytes)
  sure_all none k within was = subst now (omega (arith, none)) (sure k within was)

-- ---- a piece at a time

pub piece_taken : {a b : Option (List ℕ)} {bytes rest : List ℕ} (c : Option (List ℕ)) (piece others : List ℕ)
    → rest ≡ piece ++ others → Gathers a b bytes rest → Appends b c piece → Gathers a c bytes others
piece_taken {a} {b} {bytes} {rest} c piece others parts before now = record {
  prefix = before.prefix ++ piece;
  whole = before.whole ∙ ap (λ r. before.prefix ++ r) parts ∙ sym (append_assoc before.prefix piece others);
  growth = Appends-trans a b c before.prefix piece before.growth now;
}

pub piece_fault : {a b : Option (List ℕ)} {bytes rest : List ℕ} (c : Option (List ℕ)) (piece others : List ℕ)
    → rest ≡ piece ++ others → Gathers a b bytes rest → TakesSome b c piece → TakesSome a c bytes
piece_fault {a} {b} {bytes} {rest} c piece others parts before now =
    let size : length rest ≡ length piece + length others = ap length parts ∙ length-append piece others in
    let same : take now.0 rest ≡ take now.0 piece = ap (take now.0) parts ∙ take-append-le now.0 piece others now.1 in
    gathers_fault c before (now.0, omega (arith, now.1), subst (Appends b c) (sym same) now.2)
