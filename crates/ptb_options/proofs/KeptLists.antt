-- This file proves that memory is wanted only for the items of a request's lists.
-- Main lemmas: `answers_refused`, `under_refused` and `after_refused`.
use Rattle.std.proofs.Common.{◌≡◌, ◌∙◌, ap, refl, subst, sym, inl, inr, Result, Err, IfErr, Bool}
use Rattle.std.proofs.Common.{false, true, List, ℕ, Option, Some, None}
use Rattle.std.specs.Prelude.{IsSomeAnd, is_some}
use Rattle.std.specs.Option.{ForSome}
use Rattle.std.specs.Result.{IsErrAnd}
use Rattle.std.proofs.lemmas.Bool.{false≢true}
use Rattle.std.proofs.lemmas.Result.{err_from_is_err_and}
use Rattle.ptb_answers.specs.declared.form.Marked.{Marked}
use Rattle.ptb_options.specs.AnswerLists.{HasNoAnswers, IsMisspelled}
use Rattle.ptb_options.specs.ListMistakes.{IsListOf}
use Rattle.ptb_options.specs.declared.mistakes.BoundRule.{BoundRule}
use Rattle.ptb_options.specs.declared.mistakes.BoundRule.TheVariants.{Allowed, Refused}
use Rattle.ptb_options.specs.declared.mistakes.ListOption.{ListOption}
use Rattle.ptb_options.specs.declared.mistakes.ListOption.TheVariants.{After, Answers, Under}
use Rattle.ptb_options.specs.declared.mistakes.ListMistake.{ListMistake}
use Rattle.ptb_options.specs.declared.mistakes.MisspelledList.{MisspelledList}
use Rattle.ptb_options.specs.declared.request.Mode.{Mode}
use Rattle.ptb_options.specs.declared.request.Mode.TheVariants as modes
use Rattle.ptb_options.specs.declared.usage.UsageFault.{UsageFault}
use Rattle.ptb_options.specs.declared.usage.UsageFault.TheVariants.{BadList, Memory}
use Rattle.ptb_options.specs.Options.{HasMistake, IsFirstMisspelled, IsMisspelledIn, IsSpelled}
use Rattle.ptb_options.specs.Options.{Options, RunsIt, RefusesAnswers, RefusesIfGiven}
use Rattle.ptb_options.specs.Options.{SpellsIfGiven, LacksMemory, bounds_for, form_of, list_argument}

-- a list with a mistake is none
mistaken : (bounds : BoundRule) (text : Option (List ℕ)) (m : ListMistake) → HasMistake bounds text m
    → IsSomeAnd text (λ s. IsListOf bounds s → ⊥)
mistaken bounds None m h = h
mistaken bounds (Some s) m h = h.not_list

pub first_misspelled : (o : Options) (m : MisspelledList) → IsFirstMisspelled o m → IsMisspelledIn o m.option
first_misspelled o m h = mistaken (bounds_for m.option) (list_argument o m.option) m.mistake h.1

-- o are the options, and v is how the code has them
module _ (o v : Options) (same : v ≡ o) (under : ForSome v.under (IsListOf Allowed)) (m : ListMistake) where
  pub after_is_first : HasMistake Allowed v.after m → IsFirstMisspelled o (record { option = After; mistake = m })
  after_is_first h =
      subst (λ (z : Options). IsFirstMisspelled z (record { option = After; mistake = m })) same (under, h)

  pub answers_are_first : ForSome v.after (IsListOf Allowed) → HasMistake Refused v.answers m
      → IsFirstMisspelled o (record { option = Answers; mistake = m })
  answers_are_first after h =
      subst (λ (z : Options). IsFirstMisspelled z (record { option = Answers; mistake = m })) same ((under, after), h)

-- whether one was found
pub no_list_found : (found : Option MisspelledList) (b : Bool) → b ≡ is_some found → b ≡ false → found ≡ None
no_list_found None b told is = refl
no_list_found (Some m) b told is = absurd (false≢true (sym is ∙ told))

pub list_found : (found : Option MisspelledList) (b : Bool) → b ≡ is_some found → b ≡ true
    → (m : MisspelledList) × (found ≡ Some m)
list_found None b told is = absurd (false≢true (sym told ∙ is))
list_found (Some m) b told is = (m, refl)

-- a list that is spelled is not refused as misspelled
spelled_list : {X : Type 0} (text : Option (List ℕ)) → ForSome text (IsListOf Allowed) → IsSomeAnd text IsMisspelled → X
spelled_list None spelled bad = absurd bad
spelled_list (Some s) spelled bad = let list = spelled s refl in absurd (bad list.0 list.1)

spelled_answers : {X : Type 0} (text : Option (List ℕ)) → ForSome text (IsListOf Refused) → IsSomeAnd text HasNoAnswers
    → X
spelled_answers None spelled bad = absurd bad
spelled_answers (Some s) spelled bad = let list = spelled s refl in absurd (bad list.0 list.1)

-- a list that may be left out
list_if_given : (text : Option (List ℕ)) → ForSome text (IsListOf Allowed)
    → (list : Option (List Marked)) × SpellsIfGiven text list
list_if_given None spelled = (None, tt)
list_if_given (Some s) spelled = let list = spelled s refl in (Some list.0, list.1)

-- o are the options, all of whose lists are spelled, and v is how the code has them; a list was refused
module _ (o v : Options) (same : v ≡ o) (all_spelled : (x : ListOption) → IsSpelled o x) (result : Result Mode
    UsageFault) (fault : UsageFault) (is : IsErrAnd result (λ y. y ≡ fault)) (runs : RunsIt v) where
  spelled : (x : ListOption) → IsSpelled v x
  spelled x = subst (λ (z : Options). IsSpelled z x) (sym same) (all_spelled x)

  refused : LacksMemory v fault → IfErr result (LacksMemory o)
  refused h =
      let e = err_from_is_err_and result is in
      subst (λ (r : Result Mode UsageFault). IfErr r (LacksMemory o)) (sym (e.1 ∙ ap Err e.2))
      (subst (λ (z : Options). LacksMemory z fault) same h)

  wants_under : (f : UsageFault) → v.all ≡ true → v.shares ≡ None → RefusesIfGiven v.under f → LacksMemory v f
  wants_under BadList all unsplit h = spelled_list v.under (spelled Under) h
  wants_under Memory all unsplit h =
      let after = list_if_given v.after (spelled After) in (
        refl,
        (
          modes.All (Some h.0) after.0 v.first (form_of v.form),
          (runs, all, unsplit, h.1, after.1, refl, refl),
          inl h.2,
        ),
      )
  wants_under f all unsplit h = absurd h

  wants_after : (f : UsageFault) → v.all ≡ true → v.shares ≡ None → RefusesIfGiven v.after f → LacksMemory v f
  wants_after BadList all unsplit h = spelled_list v.after (spelled After) h
  wants_after Memory all unsplit h =
      let under = list_if_given v.under (spelled Under) in (
        refl,
        (
          modes.All under.0 (Some h.0) v.first (form_of v.form),
          (runs, all, unsplit, under.1, h.1, refl, refl),
          inr h.2,
        ),
      )
  wants_after f all unsplit h = absurd h

  wants_answers : (f : UsageFault) → v.all ≡ false → v.seed ≡ None → RefusesAnswers v.answers f → LacksMemory v f
  wants_answers BadList one unseeded h = spelled_answers v.answers (spelled Answers) h
  wants_answers Memory one unseeded h = (refl, (modes.Plain h.0, (runs, one, unseeded, h.1), h.2))
  wants_answers f one unseeded h = absurd h

  pub under_refused : v.all ≡ true → v.shares ≡ None → RefusesIfGiven v.under fault → IfErr result (LacksMemory o)
  under_refused all unsplit h = refused (wants_under fault all unsplit h)

  pub after_refused : v.all ≡ true → v.shares ≡ None → RefusesIfGiven v.after fault → IfErr result (LacksMemory o)
  after_refused all unsplit h = refused (wants_after fault all unsplit h)

  pub answers_refused : v.all ≡ false → v.seed ≡ None → RefusesAnswers v.answers fault → IfErr result (LacksMemory o)
  answers_refused one unseeded h = refused (wants_answers fault one unseeded h)
