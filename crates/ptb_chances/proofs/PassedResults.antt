-- This file proves what is known if the result of a call is passed on.
-- Main lemmas: `on_ok`, `on_ok_four` and `if_ok`.
use Rattle.std.proofs.Common.{Result, Ok, Err}
use Rattle.std.specs.Result.{IfOk, OnOk}

pub on_ok : {T E P Q : Type 0} (r : Result T E) → OnOk r P → (P → Q) → OnOk r Q
on_ok (Ok x) p f = f p
on_ok (Err e) p f = tt

pub on_ok_four : {T E P Q R S U : Type 0} (r : Result T E) → OnOk r P → OnOk r Q → OnOk r R → OnOk r S
    → (P → Q → R → S → U) → OnOk r U
on_ok_four (Ok x) p q r s f = f p q r s
on_ok_four (Err e) p q r s f = tt

pub if_ok : {T E : Type 0} {P Q : T → Type 0} (r : Result T E) → IfOk r P → ((x : T) → P x → Q x) → IfOk r Q
if_ok (Ok x) p f = f x p
if_ok (Err e) p f = tt
