-- This file answers what is left to prove of `parse_number`.
use Rattle.std.proofs.Common.{ap, ◌∙◌, ℤ, Result, Ok, Err, IfOk, IfSome, ◌≤◌, get_or, arith}
use Rattle.std.specs.Result.{result_ok}
use Rattle.ptb_options.specs.AnswerLists.{SpellsNumber}
use Rattle.ptb_options.proofs.AnswerTexts.{SpellsNumber-first, SpellsNumber-from_parse, parse-SpellsNumber}
use Rattle.ptb_options.proofs.items.parse_number.Goals as goal
use Rattle.ptb_options.proofs.items.parse_number.Goals.{then-is_empty-via-then-is_empty}
use Rattle.ptb_options.proofs.items.parse_number.Goals.{then-is_empty-via-else-is_empty+then-bytes-lt49}
use Rattle.ptb_options.proofs.items.parse_number.Goals.{then-is_empty-via-else-is_empty+else-bytes-lt49+then-bytes-gt57}

IfSome-result_ok : (E : Type 0) (P : ℤ → Type 0) (r : Result ℤ E) → IfOk r P → IfSome (result_ok r) P
IfSome-result_ok E P (Ok k) h = h
IfSome-result_ok E P (Err e) h = tt

pub returns-then-is_empty-clause-only : goal.returns-then-is_empty-clause-only
returns-then-is_empty-clause-only c k h =
    let first = rw (← c.as_bytes-bytes.ensures.value) at (SpellsNumber-first c.args.text.now k h) in
    elim c.then-is_empty.branch [
      | then-is_empty-via-then-is_empty w ↦ absurd (grind (arith, w.if-is_empty.ensures))
      | then-is_empty-via-else-is_empty+then-bytes-lt49 w ↦ absurd (omega arith)
      | then-is_empty-via-else-is_empty+else-bytes-lt49+then-bytes-gt57 w ↦ absurd (omega arith)
    ]

pub returns-clause-some : goal.returns-clause-some
returns-clause-some c =
    let low : 49 ≤ get_or c.args.text.now 0 0 = rw (← c.as_bytes-bytes.ensures.value) (omega arith) in
    let high : get_or c.args.text.now 0 0 ≤ 57 = rw (← c.as_bytes-bytes.ensures.value) (omega arith) in
    let spelled = SpellsNumber-from_parse _ c.args.text.now c.parse.result low high c.parse.ensures.value.0 in
    rw c.ok.ensures.value (IfSome-result_ok _ (SpellsNumber c.args.text.now) c.parse.result spelled)

pub returns-clause-only : goal.returns-clause-only
returns-clause-only c k h =
    c.ok.ensures.value ∙ ap result_ok (parse-SpellsNumber _ c.args.text.now k c.parse.result h c.parse.ensures.value.0)
