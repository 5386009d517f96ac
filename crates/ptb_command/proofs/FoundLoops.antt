-- This file proves which loop is found in a list of open loops and calls, and when nothing is removed from it.
-- Main lemmas: `found_letter` and `unchanged_full`.
use Rattle.std.proofs.Common.{◌≡◌, ℕ, Bool, true, false, cond, List, [], ◌∷◌, ◌++◌, length}
use Rattle.std.proofs.Common.{reverse, refl, sym, ap, ◌∙◌, Option, Some, None, arith}
use Rattle.std.specs.Prelude.{◌==◌, ◌≤◌, if◌then◌else◌}
use Rattle.std.proofs.lemmas.List.{reverse-append}
use Rattle.std.proofs.lemmas.Bool.{eqb-true}
use Rattle.ptb_command.specs.declared.stack.OpenLoop.{OpenLoop}
use Rattle.ptb_command.specs.declared.stack.Open.{Open}
use Rattle.ptb_command.specs.declared.stack.Open.TheVariants as opens
use Rattle.ptb_command.specs.Stacks.{loop_of, without}

pub reverse_push : (xs : List Open) (x : Open) → reverse (xs ++ x ∷ []) ≡ x ∷ reverse xs
reverse_push xs x = reverse-append xs (x ∷ [])

-- ---- the loop of a variable

pub some_none : {A : Type 0} {x : A} → Some x ≡ None → ⊥
some_none e = cc

abbrev pub found_loop : OpenLoop → List Open → Option (OpenLoop × List Open)
found_loop m os = Some (m, os)

pub same_pair : (m m' : OpenLoop) (os below : List Open) → found_loop m os ≡ found_loop m' below
    → (m ≡ m') × (os ≡ below)
same_pair m m' os below e = (
  ap (λ (o : Option (OpenLoop × List Open)). elim o [ Some y ↦ y.0 | None ↦ m ]) e,
  ap (λ (o : Option (OpenLoop × List Open)). elim o [ Some y ↦ y.1 | None ↦ os ]) e,
)

-- the loop that is found is the variable's
pub found_letter : (x : ℕ) (os : List Open) (m' : OpenLoop) (below : List Open) → loop_of x os ≡ Some (m', below)
    → m'.letter ≡ x
found_letter x [] m' below e = absurd (some_none (sym e))
found_letter x (opens.Loop m ∷ os) m' below e =
    elim (m.letter == x) as (λ (b : Bool). (m.letter == x) ≡ b → m'.letter ≡ x) [
      | true ↦ λ k.
          let q = same_pair m m' os below (sym (ap (λ (b : Bool). cond b (Some (m, os)) (loop_of x os)) k) ∙ e) in
          ap (λ (y : OpenLoop). y.letter) (sym q.0) ∙ eqb-true m.letter x k
      | false ↦ λ k. found_letter x os m' below (sym (ap (λ (b : Bool). cond b (Some (m, os)) (loop_of x os)) k) ∙ e)
    ] refl
found_letter x (opens.Call b ∷ os) m' below e = absurd (some_none (sym e))

-- ---- without room

shorter : (b : Bool) (o : Open) (ws os : List Open) → length ws ≤ length os
    → length (if b then ws else o ∷ ws) ≤ length (o ∷ os)
shorter true o ws os h = omega (arith, h)
shorter false o ws os h = omega (arith, h)

no_longer : (x : ℕ) (os : List Open) → length (without x os) ≤ length os
no_longer x [] = omega arith
no_longer x (opens.Call back ∷ os) = omega arith
no_longer x (opens.Loop m ∷ os) = shorter (m.letter == x) (opens.Loop m) (without x os) os (no_longer x os)

as_long : (b : Bool) (o : Open) (ws os : List Open) → length ws ≤ length os → (length os ≤ length ws → ws ≡ os)
    → length (o ∷ os) ≤ length (if b then ws else o ∷ ws) → (if b then ws else o ∷ ws) ≡ o ∷ os
as_long true o ws os h same k = absurd (omega (arith, h, k))
as_long false o ws os h same k = ap (λ (xs : List Open). o ∷ xs) (same (omega (arith, k)))

-- where no less is open, nothing was removed
none_removed : (x : ℕ) (os : List Open) → length os ≤ length (without x os) → without x os ≡ os
none_removed x [] h = refl
none_removed x (opens.Call back ∷ os) h = refl
none_removed x (opens.Loop m ∷ os) h = as_long (m.letter == x) (opens.Loop m) (without x os) os (no_longer x os)
    (none_removed x os) h

pub unchanged_full : (x n : ℕ) (old mid new : List Open) → mid ≡ without x old → length old ≤ n
    → (new ≡ mid) × (n ≤ length mid) → new ≡ old
unchanged_full x n old mid new e few full =
    let same : length mid ≡ length (without x old) = ap (λ (xs : List Open). length xs) e in
    let more = full.1 in
    full.0 ∙ e ∙ none_removed x old (omega (arith, few, more, same))
