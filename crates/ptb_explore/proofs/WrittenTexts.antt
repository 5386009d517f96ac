-- This file proves what was written of a report or of a list, from what is known of each of its pieces.
-- Main lemmas: `all_written` and `answers_gathered`.
use Rattle.std.proofs.Common.{◌≡◌, ◌∙◌, ap, subst, ℕ, List, [], ◌++◌, length, codes, decimal, Option, Result, Ok, Err}
use Rattle.std.specs.Result.{OnErr}
use Rattle.ptb_text.specs.declared.device_fault.DeviceFault.{DeviceFault}
use Rattle.ptb_text.specs.Device.{Gathers, TakesSome}
use Rattle.ptb_text.specs.Streams.{WritesText}
use Rattle.ptb_text.proofs.PublicLemmas.{gathers_more, gathers_same, some_more, some_after, text_more, text_same}
use Rattle.ptb_answers.specs.AnswerText.{spelling}
use Rattle.ptb_answers.specs.declared.form.Marked.{Marked}
use Rattle.ptb_explore.specs.ReportText.{list_line, report_text}
use Rattle.ptb_explore.proofs.ReportText.{after_answers, report_in_pieces}

-- what holds anyway holds at a fault
pub on_err_always : {T E Q : Type 0} (r : Result T E) → Q → OnErr r Q
on_err_always (Ok x) q = tt
on_err_always (Err e) q = q

-- The device held a before; `none` is what was pending then, and p and q are what is pending after RUN and after the
-- answers.
module _ (items : List Marked) (word : List ℕ) (steps : ℕ) (shown : List ℕ) (a : Option (List ℕ)) (none : List ℕ)
    (is : none ≡ []) where
  -- what follows the answers
  abbrev following : List ℕ
  following = after_answers word (decimal steps) (decimal (length shown)) shown

  pub first_fails : (b : Option (List ℕ)) → TakesSome a b (none ++ codes "RUN ")
      → TakesSome a b (report_text items word steps shown)
  first_fails b t =
      let some : TakesSome a b (codes "RUN ") = subst (λ (z : List ℕ). TakesSome a b (z ++ codes "RUN ")) is t in
      subst (TakesSome a b) (report_in_pieces items word steps shown)
      (some_more a b (codes "RUN " ++ spelling items) following (some_more a b (codes "RUN ") (spelling items) some))

  module _ (b : Option (List ℕ)) (p : List ℕ) (first : Gathers a b (none ++ codes "RUN ") p) where
    begun : Gathers a b (codes "RUN ") p
    begun = gathers_same (ap (λ (z : List ℕ). z ++ codes "RUN ") is) first

    pub answers_fail : (c : Option (List ℕ)) → TakesSome b c (p ++ spelling items)
        → TakesSome a c (report_text items word steps shown)
    answers_fail c t =
        subst (TakesSome a c) (report_in_pieces items word steps shown)
        (some_more a c (codes "RUN " ++ spelling items) following
        (some_after a b c (codes "RUN ") p (spelling items) begun t))

    module _ (c : Option (List ℕ)) (q : List ℕ) (second : Gathers b c (p ++ spelling items) q) (counted : List ℕ)
        (count : counted ≡ decimal steps) (sized : List ℕ) (size : sized ≡ decimal (length shown)) where
      listed : Gathers a c (codes "RUN " ++ spelling items) q
      listed = gathers_more a b c (codes "RUN ") p (spelling items) q begun second

      same_after : q ++ after_answers word counted sized shown ≡ q ++ following
      same_after =
          ap (λ (z : List ℕ). q ++ after_answers word z sized shown) count
          ∙ ap (λ (z : List ℕ). q ++ after_answers word (decimal steps) z shown) size

      -- what is written after the answers completes the report
      pub all_written : {T : Type 0} (d : Option (List ℕ)) (i j k : ℕ) → j ≡ i → (result : Result T DeviceFault)
          → WritesText (record { before = c; after = d; failed = j; fails = k })
          (q ++ after_answers word counted sized shown) result
          → WritesText (record { before = a; after = d; failed = i; fails = k })
          (report_text items word steps shown) result
      all_written d i j k same result w =
          text_same _ _ _ result (report_in_pieces items word steps shown)
          (text_more a c d i j k same result (codes "RUN " ++ spelling items) q following listed
          (text_same _ _ _ result same_after w))

-- ---- a list of answers

-- The device had a before; `none` is what was pending then, and p and q are what is pending after the answers and the
-- newline.
module _ (items : List Marked) (a : Option (List ℕ)) (none : List ℕ) (is : none ≡ []) where
  pub list_fails : (b : Option (List ℕ)) → TakesSome a b (none ++ spelling items) → TakesSome a b (list_line items)
  list_fails b t = some_more a b (spelling items) (codes "\n")
      (subst (λ (z : List ℕ). TakesSome a b (z ++ spelling items)) is t)

  module _ (b : Option (List ℕ)) (p : List ℕ) (first : Gathers a b (none ++ spelling items) p) where
    pub answers_gathered : Gathers a b (spelling items) p
    answers_gathered = gathers_same (ap (λ (z : List ℕ). z ++ spelling items) is) first
