-- This file proves which copy is the newest of those that are kept, and what its drop leaves.
-- Main lemmas: `newest_split` and `newest_dropped`.
use Rattle.std.proofs.Common.{◌≡◌, ◌∙◌, ap, sym, refl, subst, arith, ℕ, ◌+◌, ◌-◌, ◌<◌, List, [], ◌∷◌, ◌++◌, length}
use Rattle.std.proofs.Common.{append_assoc, get_or, length-append, take, take_all, Option, Some, None}
use Rattle.std.specs.Borrow.{Bor}
use Rattle.std.specs.Prelude.{option_copied, slice_get}
use Rattle.std.proofs.lemmas.List.{get_or_push, take_more}
use Rattle.std.proofs.lemmas.Option.{get_or_from_slice_get, slice_get-get_or, slice_get_within}
use Rattle.ptb_explore.specs.declared.copies.KeptCopy.{KeptCopy}
use Rattle.ptb_explore.specs.Copies.{GoesBack}

-- the last of a slice of them is the newest
pub last_newest : (ks slice : List KeptCopy) (found : Option (Bor KeptCopy)) → slice ≡ ks
    → option_copied found ≡ slice_get slice (length slice - 1) → slice_get ks (length ks - 1) ≡ option_copied found
last_newest ks slice found all last = ap (λ (l : List KeptCopy). slice_get l (length l - 1)) (sym all) ∙ sym last

-- those that are kept end with the newest
pub newest_split : (ks : List KeptCopy) (k : KeptCopy) → slice_get ks (length ks - 1) ≡ Some k
    → ks ≡ take (length ks - 1) ks ++ k ∷ []
newest_split ks k last =
    let within : length ks - 1 < length ks = slice_get_within ks (length ks - 1) k last in
    sym (take_all (length ks - 1 + 1) ks (omega (arith, within))) ∙ take_more ks (length ks - 1) k within
    ∙ ap (λ (j : KeptCopy). take (length ks - 1) ks ++ j ∷ []) (get_or_from_slice_get ks (length ks - 1) k k last)

-- where there is no newest, none are kept
pub none_kept : (ks : List KeptCopy) → slice_get ks (length ks - 1) ≡ None → ks ≡ []
none_kept [] none = refl
none_kept (k ∷ ks) none =
    let there = slice_get-get_or (k ∷ ks) (length (k ∷ ks) - 1) k (omega arith) in
    absurd cc

-- the one that is taken out is the newest
taken_out : (ks left : List KeptCopy) (k j : KeptCopy) → slice_get ks (length ks - 1) ≡ Some k → ks ≡ left ++ j ∷ []
    → k ≡ j
taken_out ks left k j last split =
    let place : length ks - 1 ≡ length left = omega (arith, ap length split, length-append left (j ∷ [])) in
    sym (get_or_from_slice_get ks (length ks - 1) k k last)
    ∙ ap (λ n. get_or ks n k) place ∙ ap (λ (l : List KeptCopy). get_or l (length left) k) split
    ∙ get_or_push left j k (length left) refl

-- without the newest, which had taken too many answers
pub newest_dropped : (most : ℕ) (old ks left : List KeptCopy) (k j : KeptCopy) → GoesBack most old ks
    → slice_get ks (length ks - 1) ≡ Some k → most < k.taken → ks ≡ left ++ j ∷ [] → GoesBack most old left
newest_dropped most old ks left k j back last more split = record {
  dropped = j ∷ back.dropped;
  split = back.split ∙ ap (λ (l : List KeptCopy). l ++ back.dropped) split ∙ append_assoc left (j ∷ []) back.dropped;
  beyond = (subst (λ (x : KeptCopy). most < x.taken) (taken_out ks left k j last split) more, back.beyond);
}
