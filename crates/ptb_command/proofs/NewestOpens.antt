-- This file proves which loop or call is the newest.
-- Main lemma: `newest_last`.
use Rattle.std.proofs.Common.{◌≡◌, ◌<◌, ◌-◌, ℕ, Bool, cond, List, [], ◌∷◌, length, get_or, reverse}
use Rattle.std.proofs.Common.{Option, Some, refl, sym, ap, subst, ◌∙◌, arith}
use Rattle.std.specs.Prelude.{slice_get, IsSome}
use Rattle.std.proofs.lemmas.List.{get_or-reverse, length-reverse}
use Rattle.std.proofs.lemmas.Bool.{eq-eqb}
use Rattle.std.proofs.lemmas.Option.{same_Some, none-some, slice_get_within, get_or_from_slice_get}
use Rattle.ptb_command.specs.declared.location.Location.{Location}
use Rattle.ptb_command.specs.declared.stack.OpenLoop.{OpenLoop}
use Rattle.ptb_command.specs.declared.stack.Open.{Open}
use Rattle.ptb_command.specs.declared.stack.Open.TheVariants as opens
use Rattle.ptb_command.specs.Stacks.{call_of, loop_of, newest_loop, newest_return, ClosesCall}
use Rattle.ptb_command.specs.Stacks.{ClosesNewer, ClosesNewest}

-- items are kept with the newest last
head_last : (xs os : List Open) (first last : Open) → slice_get xs (length xs - 1) ≡ Some last → reverse xs ≡ first ∷ os
    → first ≡ last
head_last xs os first last there view =
    let within : length xs - 1 < length xs = slice_get_within xs (length xs - 1) last there in
    sym (ap (λ (ys : List Open). get_or ys 0 first) view) ∙ get_or-reverse xs 0 first (omega (arith, within))
    ∙ ap (λ (k : ℕ). get_or xs k first) (omega arith) ∙ get_or_from_slice_get xs (length xs - 1) last first there

-- what depends on the newest item alone is known from the last that is kept
first_last : {X : Type 0} (f : List Open → X) → ((o : Open) (os : List Open) → f (o ∷ os) ≡ f (o ∷ []))
    → (xs os : List Open) (last : Open) → slice_get xs (length xs - 1) ≡ Some last → reverse xs ≡ os
    → f os ≡ f (last ∷ [])
first_last f alone xs [] last there view =
    let within : length xs - 1 < length xs = slice_get_within xs (length xs - 1) last there in
    let none : length xs ≡ 0 = sym (length-reverse xs) ∙ ap (λ (ys : List Open). length ys) view in
    absurd (omega (arith, within, none))
first_last f alone xs (o ∷ os) last there view =
    alone o os ∙ ap (λ (x : Open). f (x ∷ [])) (head_last xs os o last there view)

newest_alone : (o : Open) (os : List Open) → newest_loop (o ∷ os) ≡ newest_loop (o ∷ [])
newest_alone (opens.Loop m) os = refl
newest_alone (opens.Call back) os = refl

return_alone : (o : Open) (os : List Open) → newest_return (o ∷ os) ≡ newest_return (o ∷ [])
return_alone (opens.Loop m) os = refl
return_alone (opens.Call back) os = refl

pub newest_last : (xs os : List Open) (last : Open) → slice_get xs (length xs - 1) ≡ Some last → reverse xs ≡ os
    → newest_loop os ≡ newest_loop (last ∷ [])
newest_last = first_last newest_loop newest_alone

-- a loop that is the newest becomes the newest as it is
pub newest_stays : (x : ℕ) (os : List Open) (m : OpenLoop) → Some m ≡ newest_loop os → m.letter ≡ x
    → (item : OpenLoop) × ClosesNewer x os os (Some item)
newest_stays x [] m is same = absurd (none-some m (sym is))
newest_stays x (opens.Loop n ∷ os) m is same =
    let mine : n.letter ≡ x = ap (λ (y : OpenLoop). y.letter) (sym (same_Some m n is)) ∙ same in
    (n, (os, ap (λ (b : Bool). cond b (Some (n, os)) (loop_of x os)) (eq-eqb n.letter x mine), refl))
newest_stays x (opens.Call back ∷ os) m is same = absurd (none-some m (sym is))

pub newest_given : (x : ℕ) (old new : List Open) (r : Option OpenLoop)
    → ((item : OpenLoop) × ClosesNewer x old new (Some item)) → r ≡ newest_loop new → ClosesNewer x old new r
newest_given x old new r closes is =
    subst (λ (o : Option OpenLoop). ClosesNewer x old new o) (sym (is ∙ ap newest_loop closes.1.2)) closes.1

-- ---- calls

pub return_last : (xs os : List Open) (last : Open) → slice_get xs (length xs - 1) ≡ Some last → reverse xs ≡ os
    → newest_return os ≡ newest_return (last ∷ [])
return_last = first_last newest_return return_alone

-- a call that becomes the newest is the newest call
pub call_brought : (old new below : List Open) (back : Location) → new ≡ opens.Call back ∷ below
    → call_of old ≡ Some (back, below) → IsSome (newest_return new) × (call_of new ≡ call_of old)
call_brought old new below back is found =
    (subst (λ (os : List Open). IsSome (newest_return os)) (sym is) refl, ap call_of is ∙ sym found)

pub call_closed : (old mid new : List Open) (back : Location) → call_of mid ≡ call_of old
    → Some back ≡ newest_return mid → ClosesNewest mid new → ClosesCall old new (Some back)
call_closed old [] new back same is closes = absurd (none-some back (sym is))
call_closed old (opens.Loop m ∷ os) new back same is closes = absurd (none-some back (sym is))
call_closed old (opens.Call b ∷ os) new back same is closes =
    sym same ∙ ap (λ (l : Location). Some (l, os)) (sym (same_Some back b is))
    ∙ ap (λ (xs : List Open). Some (back, xs)) (sym closes)
