-- This file proves the result of showing bytes in pieces.
-- Main lemmas: `piece_shown`, `piece_fails` and `pieces_shown`.
use Rattle.std.proofs.Common.{◌≡◌, Bool, List, [], ◌∷◌, ◌++◌, ℕ, ◌+◌, ◌<◌, ◌≤◌, get_or, length, take, drop}
use Rattle.std.proofs.Common.{Result, Ok, Err, refl, sym, ap, subst, ◌∙◌, append-nil}
use Rattle.std.proofs.lemmas.List.{take-append-drop, take_all, take_more}
use Rattle.std.proofs.lemmas.List.Concat.{flat_map-append}
use Rattle.std.proofs.lemmas.Result.{err_from_is_err_and}
use Rattle.std.specs.List.{flat_map}
use Rattle.std.specs.Result.{IsErrAnd}
use Rattle.ptb_expr.specs.Store.{Cells}
use Rattle.ptb_text.specs.declared.device_fault.DeviceFault.{DeviceFault}
use Rattle.ptb_command.specs.declared.stop.CommandStop.TheVariants as stops
use Rattle.ptb_command.specs.Actions.{goes_on, show}
use Rattle.ptb_command.specs.Devices.{Devices, nothing_refused}
use Rattle.ptb_command.specs.Traces.{Trace, trace, with_pending}
use Rattle.ptb_command.specs.Stops.{as_stop, Comes}
use Rattle.ptb_command.specs.ShowResults.{IsShown}
use Rattle.ptb_command.proofs.GatheredBytes.{unfinished}
use Rattle.ptb_command.proofs.Pieces.{first_stops, second_comes}
use Rattle.ptb_command.proofs.Stops.{comes_after}

-- at the exit of a `?`
pub shown_err : (o n : Trace) (bytes : List ℕ) (r : Result (Unit {0}) DeviceFault) (e : DeviceFault)
    → IsErrAnd r (λ y. y ≡ e) → IsShown o n bytes (Err e) → IsShown o n bytes r
shown_err o n bytes r e k s =
    let q = err_from_is_err_and r k in
    subst (λ (x : Result (Unit {0}) DeviceFault). IsShown o n bytes x) (sym (q.1 ∙ ap Err q.2)) s

-- ---- in two pieces

-- the first is shown, or gathered
pub shown_then : {o m : Trace} (n : Trace) (xs ys : List ℕ) (r : Result (Unit {0}) DeviceFault)
    → IsShown o m xs (Ok tt) → IsShown m n ys r → IsShown o n (xs ++ ys) r
shown_then n xs ys r a b = second_comes xs ys nothing_refused n a (as_stop r) b

-- it isn't: then nothing is gathered
pub first_fails : (o : Trace) (d : Devices) (fresh : Bool) (cells : Cells) (pending xs ys : List ℕ) (e : DeviceFault)
    → IsShown o (with_pending pending (trace d fresh cells)) xs (Err e)
    → IsShown o (trace d fresh cells) (xs ++ ys) (Err e)
first_fails o d fresh cells pending xs ys e h =
    first_stops xs ys nothing_refused o (trace d fresh cells) (stops.Device e)
    (unfinished nothing_refused o d fresh cells pending (show xs) goes_on (Err (stops.Device e)) refl h)

-- ---- one piece after the other, of which i are done

module _ {X : Type 0} (f : X → List ℕ) (xs : List X) (i : ℕ) (x : X) (within : i < length xs) {o m : Trace}
    (before : IsShown o m (flat_map f (take i xs)) (Ok tt)) where
  with_next : flat_map f (take i xs) ++ f (get_or xs i x) ≡ flat_map f (take (i + 1) xs)
  with_next =
      ap (λ z. flat_map f (take i xs) ++ z) (sym (append-nil (f (get_or xs i x))))
      ∙ sym (ap (flat_map f) (take_more xs i x within) ∙ flat_map-append f (take i xs) (get_or xs i x ∷ []))

  with_rest : flat_map f (take (i + 1) xs) ++ flat_map f (drop (i + 1) xs) ≡ flat_map f xs
  with_rest = sym (flat_map-append f (take (i + 1) xs) (drop (i + 1) xs))
      ∙ ap (flat_map f) (take-append-drop (i + 1) xs)

  pub piece_shown : (n : Trace) (r : Result (Unit {0}) DeviceFault) → IsShown m n (f (get_or xs i x)) r
      → IsShown o n (flat_map f (take (i + 1) xs)) r
  piece_shown n r h = subst (λ (s : List ℕ). IsShown o n s r) with_next
      (shown_then n (flat_map f (take i xs)) (f (get_or xs i x)) r before h)

  pub piece_fails : (d : Devices) (fresh : Bool) (cells : Cells) (pending : List ℕ) (e : DeviceFault)
      → IsShown m (with_pending pending (trace d fresh cells)) (f (get_or xs i x)) (Err e)
      → IsShown o (trace d fresh cells) (flat_map f xs) (Err e)
  piece_fails d fresh cells pending e h =
      subst (λ (s : List ℕ). IsShown o (trace d fresh cells) s (Err e)) with_rest
      (first_fails o d fresh cells pending (flat_map f (take (i + 1) xs)) (flat_map f (drop (i + 1) xs)) e
      (piece_shown (with_pending pending (trace d fresh cells)) (Err e) h))

-- after the last of them, what is gathered is shown
pub pieces_shown : {X : Type 0} (f : X → List ℕ) (xs : List X) (i : ℕ) {o m : Trace} (n : Trace) → length xs ≤ i
    → IsShown o m (flat_map f (take i xs)) (Ok tt) → (r : Result (Unit {0}) DeviceFault)
    → Comes nothing_refused m n (goes_on tt) goes_on (as_stop r) → IsShown o n (flat_map f xs) r
pieces_shown {X} f xs i {o = o} {m = m} n over before r h =
    comes_after nothing_refused n goes_on
    (subst (λ (z : List X). IsShown o m (flat_map f z) (Ok tt)) (take_all i xs over) before) (as_stop r) h
