-- This file proves what is known of lines that were asked for without success.
-- Main lemmas: `missed_out` and `fewer_missed`.
use Rattle.std.proofs.Common.{◌≡◌, true, ◌≤◌, ◌+◌, length, inl, inr, ℕ, List, Option, Some, None, ℤ}
use Rattle.std.proofs.Common.{Result, Ok, Err, IfOk, IfSome, IfNone, OnErr, [], ◌∷◌, sym, ap, subst, ◌∙◌}
use Rattle.std.proofs.Common.{arith, Bor}
use Rattle.std.proofs.Math.Nat.{le_refl}
use Rattle.std.specs.Result.{IsErrAnd}
use Rattle.std.proofs.lemmas.Result.{err_from_is_err_and}
use Rattle.ptb_text.specs.declared.device_fault.DeviceFault.{DeviceFault}
use Rattle.ptb_devices.specs.Sources.{given_lines}
use Rattle.ptb_command.specs.declared.stop.CommandStop.{CommandStop}
use Rattle.ptb_command.specs.declared.stop.CommandStop.TheVariants as stops
use Rattle.ptb_command.specs.Stops.{still_shows, Miss, NoMiss, LineMiss, MemoryMiss, UnlessMissed}
use Rattle.ptb_command.specs.Stops.{stop_miss, miss_of, NotMissed}

-- ---- after a fault

-- what holds of any result
pub at_err : {X E : Type 0} (r : Result X E) (P : Type 0) → P → OnErr r P
at_err (Ok x) P p = tt
at_err (Err e) P p = p

pub err_then : {X E : Type 0} (r : Result X E) (P Q : Type 0) → (P → Q) → OnErr r P → OnErr r Q
err_then (Ok x) P Q f h = tt
err_then (Err e) P Q f h = f h

-- ---- a line that was asked for

module _ (refused : DeviceFault → Type 0) (P : Type 0) where
  -- what holds in any case
  pub miss_unmissed : P → (m : Miss) → UnlessMissed refused P m
  miss_unmissed p NoMiss = p
  miss_unmissed p LineMiss = tt
  miss_unmissed p MemoryMiss = inl p

  pub stop_unmissed : P → (e : CommandStop) → UnlessMissed refused P (stop_miss e)
  stop_unmissed p e = miss_unmissed p (stop_miss e)

  pub unmissed : {X : Type 0} → P → (r : Result X CommandStop) → UnlessMissed refused P (miss_of r)
  unmissed p r = miss_unmissed p (miss_of r)

  -- where what is gathered is still shown
  pub missed_none : {X : Type 0} (r : Result X CommandStop) → still_shows r ≡ true → UnlessMissed refused P (miss_of r)
      → P
  missed_none (Ok x) k h = h
  missed_none (Err (stops.Fault f)) k h = h
  missed_none (Err stops.Over) k h = h
  missed_none (Err stops.NoInput) k h = cc
  missed_none (Err (stops.Pause z)) k h = h
  missed_none (Err (stops.Device fault)) k h = cc

  -- at the exit of a `?`
  pub missed_err : {X : Type 0} (r : Result X CommandStop) (e : CommandStop) → IsErrAnd r (λ y. y ≡ e)
      → UnlessMissed refused P (stop_miss e) → UnlessMissed refused P (miss_of r)
  missed_err {X = X} r e k h =
      let p = err_from_is_err_and r k in
      subst (λ (x : Result X CommandStop). UnlessMissed refused P (miss_of x)) (sym (p.1 ∙ ap Err p.2)) h

  -- what follows from it
  module _ (Q : Type 0) (follows : P → Q) where
    pub missed_from : (m : Miss) → UnlessMissed refused P m → UnlessMissed refused Q m
    missed_from NoMiss h = follows h
    missed_from LineMiss h = tt
    missed_from MemoryMiss h = elim h [ inl p ↦ inl (follows p) | inr r ↦ inr r ]

-- ---- where answers may be asked for instead

pub not_missed : (choose : Option ℤ) (old new most : ℕ) → new ≤ old → NotMissed choose old new most
not_missed None old new most h = h
not_missed (Some n) old new most h = inl h

-- where the source has given no more since then, or has said that it can give none, this is so now
pub not_missed_then : (choose : Option ℤ) (a b c m n : ℕ) → n ≤ m → NotMissed choose a b m → NotMissed choose b c n
    → NotMissed choose a c n
not_missed_then None a b c m n fewer h k = omega (arith, h, k)
not_missed_then (Some z) a b c m n fewer h (inr k) = inr k
not_missed_then (Some z) a b c m n fewer (inl h) (inl k) = inl (omega (arith, h, k))
not_missed_then (Some z) a b c m n fewer (inr h) (inl k) = inr (omega (arith, fewer, h))

-- what a source gives, it can give no more
pub fewer_lines : {L : Type 0} (gives : L → List (List ℕ) → L → Type 0) (most : L → ℕ)
    → ((s t : L) (xs : List (List ℕ)) → gives s xs t → most t + length xs ≤ most s) → (s t : L) (xs : List (List ℕ))
    → gives s xs t → most t ≤ most s
fewer_lines gives most falls s t xs h = omega (arith, falls s t xs h)

-- one line fewer, where one is given
pub falls_one : {L : Type 0} (gives : L → List (List ℕ) → L → Type 0) (most : L → ℕ)
    → ((s t : L) (xs : List (List ℕ)) → gives s xs t → most t + length xs ≤ most s)
    → (s t : L) (r : Result (Option (Bor (List ℕ))) DeviceFault) (l : List ℕ) → given_lines r ≡ l ∷ []
    → gives s (given_lines r) t → most t + 1 ≤ most s
falls_one gives most falls s t r l e h = omega (arith, falls s t (given_lines r) h, ap length e)

-- none, where the source says so
pub none_more : {L : Type 0} (most : L → ℕ) {u : L} (r : Result (Option (Bor (List ℕ))) DeviceFault) → r ≡ Ok None
    → IfOk r (λ l. IfNone l (most u ≡ 0)) → most u ≡ 0
none_more most {u = u} r e h =
    subst (λ (x : Result (Option (Bor (List ℕ))) DeviceFault). IfOk x (λ l. IfNone l (most u ≡ 0))) e h

-- a call that gave a line
pub given_missed : {L : Type 0} (missed : L → ℕ) (s t u : L) (line : Bor (List ℕ))
    (r : Result (Option (Bor (List ℕ))) DeviceFault)
    → r ≡ Ok (Some line) → missed t ≤ missed s → IfOk r (λ l. IfSome l (λ _. missed u ≤ missed t)) → missed u ≤ missed s
given_missed missed s t u line r e h k =
    let last : missed u ≤ missed t =
    subst (λ (x : Result (Option (Bor (List ℕ))) DeviceFault). IfOk x (λ l. IfSome l (λ _. missed u ≤ missed t))) e k in
    omega (arith, h, last)

-- ---- a source that has come from s to t

module _ {L : Type 0} (refused : L → DeviceFault → Type 0) (missed most : L → ℕ) (choose : Option ℤ) (s : L) where
  -- no line more was asked for without success
  pub fewer_missed : {X : Type 0} (t : L) → missed t ≤ missed s → (r : Result X CommandStop)
      → UnlessMissed (refused t) (NotMissed choose (missed s) (missed t) (most t)) (miss_of r)
  fewer_missed t h = unmissed (refused t) (NotMissed choose (missed s) (missed t) (most t))
      (not_missed choose (missed s) (missed t) (most t) h)

  -- what was gathered before r is still shown, and the source is the same
  pub shown_missed : {X Y : Type 0} (u t : L) → t ≡ u → (r : Result X CommandStop) → still_shows r ≡ true
      → UnlessMissed (refused u) (NotMissed choose (missed s) (missed u) (most u)) (miss_of r)
      → (q : Result Y CommandStop)
      → UnlessMissed (refused t) (NotMissed choose (missed s) (missed t) (most t)) (miss_of q)
  shown_missed u t e r shows h =
      unmissed (refused t) (NotMissed choose (missed s) (missed t) (most t))
      (subst (λ (v : L). NotMissed choose (missed s) (missed v) (most v)) (sym e)
      (missed_none (refused u) (NotMissed choose (missed s) (missed u) (most u)) r shows h))

  -- a part of a command has come from s to u, and the next one from u to t
  module _ (u t : L) (fewer : most t ≤ most u) (h : NotMissed choose (missed s) (missed u) (most u)) (b : Option ℤ)
      (is : b ≡ choose) where
    pub missed_on : NotMissed b (missed u) (missed t) (most t) → NotMissed choose (missed s) (missed t) (most t)
    missed_on k = not_missed_then choose (missed s) (missed u) (missed t) (most u) (most t) fewer h
        (subst (λ (x : Option ℤ). NotMissed x (missed u) (missed t) (most t)) is k)

    -- at the exit of a `?`
    pub missed_out : {X : Type 0} (r : Result X CommandStop) (e : CommandStop) → IsErrAnd r (λ y. y ≡ e)
        → UnlessMissed (refused t) (NotMissed b (missed u) (missed t) (most t)) (stop_miss e)
        → UnlessMissed (refused t) (NotMissed choose (missed s) (missed t) (most t)) (miss_of r)
    missed_out r e out k =
        missed_err (refused t) (NotMissed choose (missed s) (missed t) (most t)) r e out
        (missed_from (refused t) (NotMissed b (missed u) (missed t) (most t))
        (NotMissed choose (missed s) (missed t) (most t)) missed_on (stop_miss e) k)

-- a command that takes no line from the source
pub alone_missed : {L X : Type 0} (refused : L → DeviceFault → Type 0) (missed most : L → ℕ) (choose : Option ℤ)
    (s t : L) → t ≡ s → (r : Result X CommandStop)
    → UnlessMissed (refused t) (NotMissed choose (missed s) (missed t) (most t)) (miss_of r)
alone_missed {L = L} refused missed most choose s t e r =
    subst (λ (u : L). UnlessMissed (refused u) (NotMissed choose (missed s) (missed u) (most u)) (miss_of r)) (sym e)
    (fewer_missed refused missed most choose s s (le_refl (missed s)) r)

-- what was missed stays
pub missed_same : {L : Type 0} (missed : L → ℕ) (s u t : L) → t ≡ u → missed u ≤ missed s → missed t ≤ missed s
missed_same missed s u t e h = omega (arith, ap missed e, h)
