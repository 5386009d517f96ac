-- This file proves how mistakes that are written one after the other add up to all of them.
-- Main lemmas: `more_written` and `all_written`.
use Rattle.std.proofs.Common.{◌≡◌, ◌∙◌, ℕ, ◌+◌, Bool, true, false, List, [], ◌∷◌, ◌++◌, length}
use Rattle.std.proofs.Common.{take, Option, Ok, Err, sym, ap, subst, refl, append_assoc, append-nil}
use Rattle.std.proofs.Common.{arith, length-append}
use Rattle.std.specs.Prelude.{flat_map, ◌||◌}
use Rattle.std.specs.Io.KnownBytes.{Appends}
use Rattle.std.proofs.KnownBytes.{Appends-trans}
use Rattle.std.proofs.Math.Seq.{take-append-add}
use Rattle.std.proofs.lemmas.List.{take-append-le}
use Rattle.ptb_text.specs.declared.device_fault.DeviceFault.{DeviceFault}
use Rattle.ptb_check.specs.Mistakes.{Mistake, mistake_text}
use Rattle.ptb_check.specs.WrittenMistakes.{WritesMistakes, has_any, texts}

flat_map-append : {X Y : Type 0} (f : X → List Y) (xs ys : List X)
    → flat_map f (xs ++ ys) ≡ flat_map f xs ++ flat_map f ys
flat_map-append f [] ys = refl
flat_map-append f (x ∷ xs) ys =
    ap (λ l. f x ++ l) (flat_map-append f xs ys) ∙ sym (append_assoc (f x) (flat_map f xs) (flat_map f ys))

has_any-append : (ms ns : List Mistake) → has_any (ms ++ ns) ≡ has_any ms || has_any ns
has_any-append [] ns = refl
has_any-append (m ∷ ms) ns = refl

or_true : (b : Bool) → b || true ≡ true
or_true true = refl
or_true false = refl

or_swap : (a b : Bool) → a || b ≡ b || a
or_swap true b = sym (or_true b)
or_swap false true = refl
or_swap false false = refl

-- of all mistakes these are left, and `any` says whether one was written
pub record IsWrittenUpTo (old now : Option (List ℕ)) (any : Bool) (all rest : List Mistake) : Type 0 where
  pub done : List Mistake
  pub split : all ≡ done ++ rest
  pub bytes : Appends old now (texts done)
  pub any_is : any ≡ has_any done

pub more_written : {a b : Option (List ℕ)} {any : Bool} {all rest : List Mistake} (c : Option (List ℕ)) (some : Bool)
    (due others : List Mistake)
    → rest ≡ due ++ others
    → IsWrittenUpTo a b any all rest → WritesMistakes due b c (Ok some) → IsWrittenUpTo a c (some || any) all others
more_written {a} {b} {any} {all} {rest} c some due others parts before now = record {
  done = before.done ++ due;
  split = before.split ∙ ap (λ r. before.done ++ r) parts ∙ sym (append_assoc before.done due others);
  bytes =
      subst (Appends a c) (sym (flat_map-append mistake_text before.done due))
      (Appends-trans a b c (texts before.done) (texts due) before.bytes now.ok);
  any_is =
      or_swap some any ∙ ap (λ x. x || some) before.any_is ∙ ap (λ x. has_any before.done || x) now.any
      ∙ sym (has_any-append before.done due);
}

pub all_written : {a b : Option (List ℕ)} {any : Bool} {all rest : List Mistake} → rest ≡ []
    → IsWrittenUpTo a b any all rest → WritesMistakes all a b (Ok any)
all_written {a} {b} {any} {all} {rest} none before =
    let whole : all ≡ before.done = before.split ∙ ap (λ r. before.done ++ r) none ∙ append-nil before.done in
    record {
      ok = subst (λ ms. Appends a b (texts ms)) (sym whole) before.bytes;
      any = before.any_is ∙ ap has_any (sym whole);
      fault = tt;
    }

pub not_written : {a b : Option (List ℕ)} {any : Bool} {all rest : List Mistake} (c : Option (List ℕ))
    (fault other : DeviceFault) (due others : List Mistake)
    → rest ≡ due ++ others
    → IsWrittenUpTo a b any all rest → WritesMistakes due b c (Err fault) → WritesMistakes all a c (Err other)
not_written {a} {b} {any} {all} {rest} c fault other due others parts before now =
    let front = texts before.done in
    let bytes : texts all ≡ front ++ (texts due ++ texts others) =
    ap texts (before.split ∙ ap (λ r. before.done ++ r) parts)
    ∙ flat_map-append mistake_text before.done (due ++ others)
    ∙ ap (λ l. front ++ l) (flat_map-append mistake_text due others)
    in
    let n = now.fault.0 in
    let same : take (length front + n) (texts all) ≡ front ++ take n (texts due) =
    ap (take (length front + n)) bytes ∙ take-append-add front (texts due ++ texts others) n
    ∙ ap (λ l. front ++ l) (take-append-le n (texts due) (texts others) now.fault.1)
    in
    let size : length (texts all) ≡ length front + (length (texts due) + length (texts others)) =
    ap length bytes ∙ length-append front (texts due ++ texts others)
    ∙ ap (λ k. length front + k) (length-append (texts due) (texts others))
    in
    record {
      ok = tt;
      any = tt;
      fault = (
        length front + n,
        omega (arith, size, now.fault.1),
        subst (Appends a c) (sym same) (Appends-trans a b c front (take n (texts due)) before.bytes now.fault.2),
      );
    }
