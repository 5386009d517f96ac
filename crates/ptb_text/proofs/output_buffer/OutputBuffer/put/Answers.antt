-- This file answers that what doesn't fit the buffer is written after what waits.
use Rattle.std.proofs.Common.{◌≡◌, ◌∙◌, ◌++◌, [], ap, refl, rules, subst}
use Rattle.std.specs.Io.KnownBytes.{Appends}
use Rattle.ptb_text.proofs.GatheredBytes.{some_more}
use Rattle.ptb_text.proofs.WrittenTexts.{fails, gathered_after, gathered_alone, gathered_then, text_same}
use Rattle.ptb_text.proofs.output_buffer.OutputBuffer.put.Goals as goal

-- there is room
pub returns-then-try_append-clause-gathers : goal.returns-then-try_append-clause-gathers
returns-then-try_append-clause-gathers g c =
    let was : c.self.inside.pending ≡ c.args.self.now = search rules in
    gathered_alone _ _ _ _ _ (c.if-try_append.ensures.taken refl ∙ ap (λ z. z ++ c.args.bytes.now) was)

pub returns-in_err-flush-clause-gathers : goal.returns-in_err-flush-clause-gathers
returns-in_err-flush-clause-gathers g c =
    let failed = text_same _ _ c.args.self.now _ (c.if-try_append.ensures.full refl ∙ search rules)
    c.in_err-flush.ensures.writes in
    fails _ _ _ c.from_residual.result _ c.from_residual.ensures.1
    (some_more _ _ c.args.self.now c.args.bytes.now failed.fault) failed.failed failed.kind

-- there is room then
pub returns-then-try_append-2-clause-gathers : goal.returns-then-try_append-2-clause-gathers
returns-then-try_append-2-clause-gathers g c =
    let first = subst (Appends _ _) (c.if-try_append.ensures.full refl ∙ search rules)
    c.in_ok-flush.ensures.writes.ok in
    let none : c.self-2.inside.pending ≡ [] = search rules in
    gathered_then _ _ _ _ c.args.self.now c.args.bytes.now _ _ c.in_ok-flush.ensures.writes.unfailed
    (c.if-try_append-2.ensures.taken refl ∙ ap (λ z. z ++ c.args.bytes.now) none) first

pub returns-clause-gathers : goal.returns-clause-gathers
returns-clause-gathers g c =
    let first = subst (Appends _ _) (c.if-try_append.ensures.full refl ∙ search rules)
    c.in_ok-flush.ensures.writes.ok in
    let none : c.self-2.inside.pending ≡ [] = search rules in
    gathered_after _ _ _ _ _ _ c.in_ok-flush.ensures.writes.unfailed c.write_all.result c.args.self.now
    c.args.bytes.now _ (c.if-try_append-2.ensures.full refl ∙ none) first c.write_all.ensures.writes
