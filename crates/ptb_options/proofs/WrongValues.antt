-- This file proves that no value of an option is skipped that is no number in the option's range.
-- Main lemmas: `accepted_next` and `accepted_after`.
use Rattle.std.proofs.Common.{◌≡◌, ◌∙◌, ap, append_assoc, sym, subst, arith, inl, inr, ℕ, ◌<◌}
use Rattle.std.proofs.Common.{false, List, [], ◌∷◌, ◌++◌, length, Option, Some, None, IfSome}
use Rattle.std.specs.Prelude.{codes}
use Rattle.std.specs.Borrow.{Bor}
use Rattle.std.specs.List.{position_or_len}
use Rattle.std.proofs.lemmas.Str.Pattern.{IsSplitOnceResult, split_once_first, split_parts}
use Rattle.std.proofs.lemmas.Option.{none-some, same_Some}
use Rattle.clap.specs.Words.{Accepts}
use Rattle.clap.specs.declared.builder.ValueParser.{ValueParser}
use Rattle.ptb_options.specs.WrongNumbers.{HasNoWrongValue, IsNumberOption, IsWrongFor}
use Rattle.ptb_options.specs.WrongNumbers.{IsWrongValue, NamesNoNumber, option_argument}
use Rattle.ptb_options.specs.declared.wrong_numbers.NumberOption.{NumberOption}
use Rattle.ptb_options.specs.declared.wrong_numbers.WrongNumber.{WrongNumber}
use Rattle.ptb_options.proofs.NumberRules.{IsCut, cut, is_equals, one_range}

names_injective : (a b : List ℕ) → option_argument a ≡ option_argument b → a ≡ b
names_injective a b e = cc

-- a value that the option accepts is not wrong
accepted : (o : NumberOption) (argument : List ℕ) (w : WrongNumber) (next : Option (List ℕ)) (value : List ℕ)
    (given : Option (List ℕ))
    → IsNumberOption argument o → Accepts false o.range value
    → IsWrongValue given next w → option_argument w.option.name.now ≡ argument → w.value.now ≡ value → ⊥
accepted o argument w next value given named good wrong name same =
    let ranges : o.range ≡ w.option.range =
    one_range o.name.now w.option.name.now o.range w.option.range named.rule wrong.rule
    (names_injective o.name.now w.option.name.now (sym named.named ∙ sym name)) in
    wrong.refused
    (subst (λ (r : ValueParser). Accepts false r w.value.now) ranges (subst (Accepts false o.range) (sym same) good))

-- ---- the argument has a `=`

module _ (argument : List ℕ) (next : Option (List ℕ)) (name value : Bor (List ℕ))
    (split : IsSplitOnceResult 61 argument (Some (name, value))) where
  record IsGivenAfter (w : WrongNumber) : Type 0 where
    name_is : option_argument w.option.name.now ≡ name.now
    value_is : w.value.now ≡ value.now

  -- the option's name is before it, and the value after it
  after_equals : (w : WrongNumber) → IsWrongValue (Some argument) next w → IsGivenAfter w
  after_equals w h =
      let its : IsCut w.option.name.now = cut w.option.name.now w.option.range h.rule in
      let first = split_once_first 61 argument (Some (name, value)) split (omega arith) in
      elim h.given [
        | inl e ↦
            let all : argument ≡ option_argument w.option.name.now ++ 61 ∷ w.value.now =
            same_Some _ _ e ∙ append_assoc (option_argument w.option.name.now) (61 ∷ []) w.value.now in
            record {
              name_is = sym (its.before w.value.now) ∙ sym (rw all at first.1);
              value_is = sym (its.after w.value.now) ∙ sym (rw all at first.2);
            }
        | inr e ↦
            let all : argument ≡ option_argument w.option.name.now = same_Some _ _ e.0 in
            let inside : position_or_len is_equals (option_argument w.option.name.now)
            < length (option_argument w.option.name.now) = rw all at first.0 in
            let alone = its.alone in
            absurd (omega arith)
      ]

  pub unnamed_after : NamesNoNumber name.now → HasNoWrongValue (Some argument) next
  unnamed_after none w h =
      let given = after_equals w h in
      none w.option (record { named = sym given.name_is; rule = h.rule })

  module _ (o : NumberOption) (named : IsNumberOption name.now o) where
    pub accepted_after : Accepts false o.range value.now → HasNoWrongValue (Some argument) next
    accepted_after good w h =
        let given = after_equals w h in
        accepted o name.now w next value.now (Some argument) named good h given.name_is given.value_is

    -- its value may be wrong
    pub wrong_after : (wrong : Option WrongNumber) → IfSome wrong (IsWrongFor o value)
        → IfSome wrong (IsWrongValue (Some argument) next)
    wrong_after None h = tt
    wrong_after (Some w) h =
        let parts = split_parts 61 argument (Some (name, value)) split (omega arith) in
        let all : argument ≡ (option_argument o.name.now ++ codes "=") ++ value.now =
        parts.0 ∙ ap (λ (l : List ℕ). l ++ 61 ∷ value.now) named.named
        ∙ sym (append_assoc (option_argument o.name.now) (61 ∷ []) value.now) in
        subst (IsWrongValue (Some argument) next) (sym h.is)
        (record { rule = named.rule; given = inl (ap Some all); refused = h.refused })

-- ---- it has none

module _ (argument : List ℕ) (next : Option (List ℕ)) (split : IsSplitOnceResult 61 argument None) where
  record IsGivenNext (w : WrongNumber) : Type 0 where
    name_is : option_argument w.option.name.now ≡ argument
    value_is : next ≡ Some w.value.now

  next_given : (w : WrongNumber) → IsWrongValue (Some argument) next w → IsGivenNext w
  next_given w h =
      let its : IsCut w.option.name.now = cut w.option.name.now w.option.range h.rule in
      let none = split_once_first 61 argument None split (omega arith) in
      elim h.given [
        | inl e ↦
            let all : argument ≡ option_argument w.option.name.now ++ 61 ∷ w.value.now =
            same_Some _ _ e ∙ append_assoc (option_argument w.option.name.now) (61 ∷ []) w.value.now in
            let inside = its.inside w.value.now in
            let ends : position_or_len is_equals (option_argument w.option.name.now ++ 61 ∷ w.value.now)
            ≡ length (option_argument w.option.name.now ++ 61 ∷ w.value.now) = rw all at none in
            absurd (omega arith)
        | inr e ↦ record { name_is = sym (same_Some _ _ e.0); value_is = e.1 }
      ]

  pub last : next ≡ None → HasNoWrongValue (Some argument) next
  last missing w h = none-some w.value.now (sym missing ∙ (next_given w h).value_is)

  pub accepted_next : (o : NumberOption) (value : List ℕ) → next ≡ Some value → IsNumberOption argument o
      → Accepts false o.range value → HasNoWrongValue (Some argument) next
  accepted_next o value there named good w h =
      let given = next_given w h in
      accepted o argument w next value (Some argument) named good h given.name_is
      (same_Some _ _ (sym given.value_is ∙ there))
