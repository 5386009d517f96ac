-- This file proves what is said where a function ends with a fault.
-- Main lemma: `passed_on`.
use Rattle.std.proofs.Common.{◌≡◌, Option, Some, Result, Ok, Err, ap, subst}
use Rattle.std.specs.Option.{OnSome}
use Rattle.std.specs.Result.{IsErrAnd, OnOk}
use Rattle.ptb_explore.specs.declared.fault.OpenFault.{OpenFault}
use Rattle.ptb_explore.specs.declared.fault.OpenFault.TheVariants.{NoBeginning, NotARun}
use Rattle.ptb_explore.specs.declared.mismatch.Mismatch.{Mismatch}

-- a result is no fault
pub ok_no_err : {T E P : Type 0} {x : T} {e : E} → ◌≡◌ {A = Result T E} (Ok x) (Err e) → P
ok_no_err h = absurd cc

-- a fault that is passed on is the fault
pub passed_on : {T S E : Type 0} (r : Result T E) (e x : E) → IsErrAnd r (λ y. y ≡ e) → r ≡ Err x
    → ◌≡◌ {A = Result S E} (Err e) (Err x)
passed_on (Ok t) e x h k = absurd h
passed_on (Err y) e x h k =
    let same : e ≡ x = cc in
    ap Err same

-- the reason of a fault is the one that is found
pub same_reason : {T : Type 0} (P : Mismatch → Type 0) (m n : Mismatch)
    → ◌≡◌ {A = Result T OpenFault} (Err (NotARun m)) (Err (NotARun n)) → P m → P n
same_reason P m n h x =
    let same : m ≡ n = cc in
    subst P same x

-- what holds anyway holds of a result
pub on_ok_always : {T E Q : Type 0} (r : Result T E) → Q → OnOk r Q
on_ok_always (Ok x) q = q
on_ok_always (Err e) q = tt

-- two facts of a result give a third
pub on_ok_both : {T E P Q R : Type 0} (r : Result T E) → (P → Q → R) → OnOk r P → OnOk r Q → OnOk r R
on_ok_both (Ok x) f p q = f p q
on_ok_both (Err e) f p q = tt

-- a fault is no result
pub err_no_ok : {T E P : Type 0} {x : T} {e : E} → ◌≡◌ {A = Result T E} (Err e) (Ok x) → P
err_no_ok h = absurd cc

-- what is said of a result that holds something
pub on_some_at : {T Q : Type 0} {o : Option T} {x : T} → o ≡ Some x → OnSome o Q → Q
on_some_at {Q = Q} is h = subst (λ o. OnSome o Q) is h

-- the same of the other fault
pub same_misfit : {T : Type 0} (P : Mismatch → Type 0) (m n : Mismatch)
    → ◌≡◌ {A = Result T OpenFault} (Err (NoBeginning m)) (Err (NoBeginning n)) → P m → P n
same_misfit P m n h x =
    let same : m ≡ n = cc in
    subst P same x
