-- This file proves what a call says that writes a text by other calls, from what these say. Crates that write texts
-- cite it.
-- Main lemmas: `fails` and `text_after`.
use Rattle.std.proofs.Common.{◌≡◌, ◌∙◌, ℕ, ◌+◌, ◌<◌, ◌≤◌, List, [], ◌++◌, Option, Result, Ok, Err, inl, inr, subst, sym}
use Rattle.std.proofs.Common.{ap, arith, refl}
use Rattle.std.specs.Prelude.{◌⊎◌, min}
use Rattle.std.specs.Result.{IsErrAnd}
use Rattle.std.specs.Io.KnownBytes.{Appends}
use Rattle.std.proofs.KnownBytes.{Appends-nil}
use Rattle.std.proofs.lemmas.Bool.{cases_lt}
use Rattle.std.proofs.lemmas.Result.{on_ok_weaker, on_err_weaker}
use Rattle.ptb_text.specs.declared.device_fault.DeviceFault.{DeviceFault}
use Rattle.ptb_text.specs.declared.device_fault.DeviceFault.TheVariants.{Write}
use Rattle.ptb_text.specs.Device.{Gathers, HasFailed, TakesSome}
use Rattle.ptb_text.specs.Streams.{GathersText, Writes, WritesOrFails, WritesText}
use Rattle.ptb_text.proofs.GatheredBytes.{all_after, all_more, gathers_more, gathers_written}
use Rattle.ptb_text.proofs.GatheredBytes.{some_after, some_rest}

-- ---- counts

-- a fault after calls that counted none
pub failed_after : (i j k : ℕ) → j ≡ i → HasFailed j k → HasFailed i k
failed_after i j k same h = subst (λ (n : ℕ). HasFailed n k) same h

-- a fault that was counted, up to the limit of the count
pub failed_once : (i j k limit : ℕ) → j ≡ i → j ≤ limit → k ≡ min (j + 1) limit → (i < k) ⊎ (i ≡ limit)
failed_once i j k limit same within counted = elim (cases_lt j limit) [
  | inl lt ↦ inl (omega arith)
  | inr ge ↦ inr (omega arith)
]

-- ---- faults

-- a fault that is passed on
pub fails : {T : Type 0} (out : Writes) (text : List ℕ) (done : Type 0) (r : Result T DeviceFault) (e : DeviceFault)
    → IsErrAnd r (λ y. y ≡ e) → TakesSome out.before out.after text → HasFailed out.failed out.fails → e ≡ Write
    → WritesOrFails out text done r
fails out text done (Ok x) e is some failed kind = absurd is
fails out text done (Err y) e is some failed kind =
    record { ok = tt; fault = some; failed = failed; kind = is ∙ kind; unfailed = tt }

-- ---- texts

pub text_same : {T : Type 0} (out : Writes) (text other : List ℕ) (r : Result T DeviceFault) → text ≡ other
    → WritesText out text r → WritesText out other r
text_same out text other r e w = subst (λ (t : List ℕ). WritesText out t r) e w

pub gathered_same : {T : Type 0} (out : Writes) (text other pending : List ℕ) (r : Result T DeviceFault) → text ≡ other
    → GathersText out text pending r → GathersText out other pending r
gathered_same out text other pending r e w = subst (λ (t : List ℕ). GathersText out t pending r) e w

-- all of s waits, and nothing was written: the writer has a, and has failed i times
pub gathered_alone : {T : Type 0} (a : Option (List ℕ)) (i : ℕ) (s q : List ℕ) (u : T) → q ≡ s
    → GathersText (record { before = a; after = a; failed = i; fails = i }) s q (Ok u)
gathered_alone a i s q u is = record {
  ok = record { prefix = []; whole = sym is; growth = Appends-nil a };
  fault = tt;
  failed = tt;
  kind = tt;
  unfailed = refl;
}

-- s was written by a call before which the writer had a, and had failed i times; then x waits
pub gathered_then : {T : Type 0} (a b : Option (List ℕ)) (i j : ℕ) (s x q : List ℕ) (u : T) → j ≡ i → q ≡ x
    → Appends a b s → GathersText (record { before = a; after = b; failed = i; fails = j }) (s ++ x) q (Ok u)
gathered_then a b i j s x q u same is first = record {
  ok = record { prefix = s; whole = ap (λ (z : List ℕ). s ++ z) (sym is); growth = first };
  fault = tt;
  failed = tt;
  kind = tt;
  unfailed = same;
}

-- The writer had a, b and c before, between and after two calls, and had failed i, j and k times.
module _ {T : Type 0} (a b c : Option (List ℕ)) (i j k : ℕ) (same : j ≡ i) (r : Result T DeviceFault) where
  -- what was pending after the first call was written by the second
  pub text_after : (s p : List ℕ) → Gathers a b s p
      → WritesText (record { before = b; after = c; failed = j; fails = k }) p r
      → WritesText (record { before = a; after = c; failed = i; fails = k }) s r
  text_after s p first w = record {
    ok = on_ok_weaker r (λ e. all_after a b c s p first e) w.ok;
    fault = on_err_weaker r (λ e. some_rest a b c s p first e) w.fault;
    failed = on_err_weaker r (λ h. failed_after i j k same h) w.failed;
    kind = w.kind;
    unfailed = on_ok_weaker r (λ e. e ∙ same) w.unfailed;
  }

  -- what was pending and x after it was
  pub text_more : (s p x : List ℕ) → Gathers a b s p
      → WritesText (record { before = b; after = c; failed = j; fails = k }) (p ++ x) r
      → WritesText (record { before = a; after = c; failed = i; fails = k }) (s ++ x) r
  text_more s p x first w = record {
    ok = on_ok_weaker r (λ e. all_more a b c s p x first e) w.ok;
    fault = on_err_weaker r (λ e. some_after a b c s p x first e) w.fault;
    failed = on_err_weaker r (λ h. failed_after i j k same h) w.failed;
    kind = w.kind;
    unfailed = on_ok_weaker r (λ e. e ∙ same) w.unfailed;
  }

  -- all was written by the first call, and then x by the second
  pub gathered_after : (s x q : List ℕ) → q ≡ [] → Appends a b s
      → WritesText (record { before = b; after = c; failed = j; fails = k }) x r
      → GathersText (record { before = a; after = c; failed = i; fails = k }) (s ++ x) q r
  gathered_after s x q none first w =
      let whole = gathers_written a b s first in
      record {
        ok = on_ok_weaker r (λ e. subst (Gathers a c (s ++ x)) (sym none)
            (gathers_more a b c s [] x [] whole (gathers_written b c x e))) w.ok;
        fault = on_err_weaker r (λ e. some_after a b c s [] x whole e) w.fault;
        failed = on_err_weaker r (λ h. failed_after i j k same h) w.failed;
        kind = w.kind;
        unfailed = on_ok_weaker r (λ e. e ∙ same) w.unfailed;
      }
