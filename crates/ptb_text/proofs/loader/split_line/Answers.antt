-- This file answers what is left to prove of `split_line`.
use Rattle.std.proofs.Common.{◌≡◌, ◌+◌, ◌-◌, [], ◌∷◌, length, take, drop, sym, ap, ◌∙◌, arith}
use Rattle.std.proofs.lemmas.Slice.{between_to_end}
use Rattle.ptb_text.specs.Lines.{lines}
use Rattle.ptb_text.proofs.Pieces.{lines-cut, lines-whole}
use Rattle.ptb_text.proofs.loader.split_line.Goals as goal

pub returns-in-Some-clause-lines : goal.returns-in-Some-clause-lines
returns-in-Some-clause-lines c =
    let t = c.args.text.now in
    let end = c.in-Some.end in
    let following : take (length t - (end + 1)) (drop (end + 1) t) ≡ drop (end + 1) t =
    between_to_end t (end + 1) (length t) (omega arith) in
    lines-cut t end (sym c.in-Some.ensures.value)
    ∙ ap (λ l. l ∷ lines (drop (end + 1) t)) (sym c.strip_carriage_return.ensures)
    ∙ ap (λ r. c.strip_carriage_return.result.now ∷ lines r) (sym following)

pub returns-in-None-clause-lines : goal.returns-in-None-clause-lines
returns-in-None-clause-lines c =
    lines-whole c.args.text.now c.requires (sym c.in-None.ensures.value)
    ∙ ap (λ l. l ∷ []) (sym c.strip_carriage_return-in-None.ensures)
