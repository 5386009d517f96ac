-- This file proves which arguments are looked at for a wrong number.
-- Main lemmas: `some_found` and `none_after`.
use Rattle.std.proofs.Common.{◌≡◌, ◌≢◌, ◌∙◌, ap, sym, subst, refl, arith, inl, inr, Bool, true}
use Rattle.std.proofs.Common.{false, leb, leb-true, leb-false, ℕ, ◌+◌, ◌<◌, ◌≤◌, below_more, List}
use Rattle.std.proofs.Common.{[], length, Option, Some, None, IfSome}
use Rattle.std.specs.Prelude.{codes, is_some, nat_eq, slice_get}
use lib.Pointwise.{pointwise}
use Rattle.std.proofs.lemmas.Bool.{false≢true}
use Rattle.std.proofs.lemmas.Option.{none-some, same_Some, slice_get-get_or, slice_get_past}
use Rattle.std.proofs.lemmas.Slice.Eq.{bytes_eq-Decides}
use Rattle.ptb_options.specs.WrongNumbers.{HasNoWrongNumber, HasNoWrongValue, IsWrongAt, IsWrongNumber, IsWrongValue}
use Rattle.ptb_options.specs.declared.wrong_numbers.WrongNumber.{WrongNumber}

abbrev pub dashes : List ℕ
dashes = codes "--"

-- an argument that was skipped: it is not `--`, and gives no wrong value
pub record IsPassed (arguments : List (List ℕ)) (index : ℕ) : Type 0 where
  pub other : slice_get arguments index ≢ Some dashes
  pub right : HasNoWrongValue (slice_get arguments index) (slice_get arguments (index + 1))

abbrev pub ArePassed : List (List ℕ) → ℕ → Type 0
ArePassed arguments i = (j : ℕ) → j < i → 1 ≤ j → IsPassed arguments j

-- no value of theirs is wrong
pub none_before : (arguments : List (List ℕ)) (i : ℕ) → ArePassed arguments i → (index : ℕ) (w : WrongNumber)
    → index < i
    → IsWrongAt arguments index w → ⊥
none_before arguments i passed index w below wrong = (passed index below wrong.may_be.after_name).right w wrong.value

-- where an argument is `--`, none after it gives one
none_at_dashes : (arguments : List (List ℕ)) (i : ℕ) → ArePassed arguments i → 1 ≤ i
    → slice_get arguments i ≡ Some dashes
    → HasNoWrongNumber arguments
none_at_dashes arguments i passed low here index w wrong =
    let before : index < i → ⊥ = λ below. none_before arguments i passed index w below wrong in
    wrong.may_be.before_dashes i low (not_below before) here
  where
    not_below : (index < i → ⊥) → i ≤ index
    not_below h = omega arith

-- an argument that is none gives none
missing : (arguments : List (List ℕ)) (index : ℕ) (w : WrongNumber) → slice_get arguments index ≡ None
    → IsWrongValue (slice_get arguments index) (slice_get arguments (index + 1)) w → ⊥
missing arguments index w none wrong = elim wrong.given [
  | inl e ↦ none-some _ (sym none ∙ e)
  | inr e ↦ none-some _ (sym none ∙ e.0)
]

-- where all were skipped, there is none
pub none_after : (arguments : List (List ℕ)) (i : ℕ) → ArePassed arguments i → length arguments ≤ i
    → HasNoWrongNumber arguments
none_after arguments i passed all index w wrong = by_index (leb i index) refl where
  by_index : (b : Bool) → leb i index ≡ b → ⊥
  by_index true e = missing arguments index w (slice_get_past arguments index (let le = leb-true _ _ e in
      omega arith)) wrong.value
  by_index false e = none_before arguments i passed index w (let below = leb-false _ _ e in omega arith) wrong

-- each index below their number has one
pub there_is : (arguments : List (List ℕ)) (i : ℕ) (found : Option (List ℕ)) → i < length arguments
    → found ≡ slice_get arguments i
    → found ≡ None → ⊥
there_is arguments i found within at none = none-some _ (sym none ∙ at ∙ slice_get-get_or arguments i [] within)

-- what is found, and what is not
pub none_found : (wrong : Option WrongNumber) (b : Bool) → b ≡ is_some wrong → b ≡ false → wrong ≡ None
none_found None b told is = refl
none_found (Some w) b told is = absurd (false≢true (sym is ∙ told))

pub some_found : {X : Type 0} (wrong : Option WrongNumber) (b : Bool) → b ≡ is_some wrong → b ≡ true → wrong ≡ None → X
some_found None b told is e = absurd (false≢true (sym told ∙ is))
some_found (Some w) b told is e = absurd cc

-- an argument at an index
module _ (arguments : List (List ℕ)) (i : ℕ) (argument : List ℕ) (found : Option (List ℕ)) (same : Bool)
    (at : found ≡ slice_get arguments i) (is : found ≡ Some argument) (told : same ≡ pointwise nat_eq argument dashes)
    (passed : ArePassed arguments i) where
  here : slice_get arguments i ≡ Some argument
  here = sym at ∙ is

  -- that is `--`
  pub dashes_here : 1 ≤ i → same ≡ true → HasNoWrongNumber arguments
  dashes_here low equal =
      none_at_dashes arguments i passed low (here ∙ ap Some ((bytes_eq-Decides argument dashes).0 (sym told ∙ equal)))

  -- that is not `--`
  module _ (not : same ≡ false) where
    other : slice_get arguments i ≢ Some dashes
    other e =
        let its : argument ≡ dashes = same_Some argument dashes (sym here ∙ e) in
        false≢true (sym not ∙ told ∙ ap (λ (t : List ℕ). pointwise nat_eq t dashes) its)

    before_more : (j : ℕ) → j < i + 1 → 1 ≤ j → slice_get arguments j ≢ Some dashes
    before_more =
        below_more (λ (j : ℕ). 1 ≤ j → slice_get arguments j ≢ Some dashes) i
        (λ j below low. (passed j below low).other)
        (λ (_ : 1 ≤ i). other)

    -- and gives no wrong value, so that one more is skipped
    pub passed_more : (next : Option (List ℕ)) → next ≡ slice_get arguments (i + 1)
        → HasNoWrongValue (Some argument) next
        → ArePassed arguments (i + 1)
    passed_more next follows right =
        below_more (λ (j : ℕ). 1 ≤ j → IsPassed arguments j) i passed
        (λ (_ : 1 ≤ i). record {
          other = other;
          right = subst (λ (o : Option (List ℕ)). HasNoWrongValue o
              (slice_get arguments (i + 1))) (sym here) (subst (HasNoWrongValue (Some argument)) follows right);
        })

    -- or gives one, which is the first
    pub wrong_here : (wrong : Option WrongNumber) (next : Option (List ℕ)) → 1 ≤ i → next ≡ slice_get arguments (i + 1)
        → IfSome wrong (IsWrongValue (Some argument) next) → IfSome wrong (IsWrongNumber arguments)
    wrong_here None next low follows h = tt
    wrong_here (Some w) next low follows h = record {
      index = i;
      is = record {
        may_be = record { after_name = low; before_dashes = λ j one le. before_more j (omega (arith, le)) one };
        value =
            subst (λ (o : Option (List ℕ)). IsWrongValue o (slice_get arguments (i + 1)) w) (sym here)
            (subst (λ (o : Option (List ℕ)). IsWrongValue (Some argument) o w) follows h);
      };
      first = λ j v below wrong. none_before arguments i passed j v below wrong;
    }
