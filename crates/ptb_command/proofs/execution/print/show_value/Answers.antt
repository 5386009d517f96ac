-- This file answers what is left to prove of `show_value`.
use Rattle.std.proofs.Common.{◌≡◌, ◌∙◌, ◌+◌, ◌-◌, ◌≤◌, ◌++◌, ℕ, List, ap, append-nil, arith, drop, length, rules}
use Rattle.std.proofs.Common.{length-drop, sym, take, take-append-drop, to_z, of_z, w16}
use Rattle.std.specs.Fmt.{signed_decimal}
use Rattle.std.specs.Prelude.{replicate}
use Rattle.std.proofs.lemmas.List.{take-replicate, take_all}
use Rattle.ptb_command.specs.Act.{padded_decimal}
use Rattle.ptb_command.proofs.ShownBytes.{padded_parts, short_decimal, shown_as}
use Rattle.ptb_command.proofs.execution.print.show_value.Goals as goal

pub write_decimal-start-requires : goal.write_decimal-start-requires
write_decimal-start-requires g c =
    let v : to_z w16 (of_z w16 c.args.value) ≡ c.args.value = search rules in
    let short = short_decimal c.args.value c.ranges.value in
    (rw v (omega (arith, short)), omega arith)

pub returns-clause-comes : goal.returns-clause-comes
returns-clause-comes g c given cells =
    let v : to_z w16 (of_z w16 c.args.value) ≡ c.args.value = search rules in
    let decimals : List ℕ = signed_decimal c.args.value in
    let text = c.write_decimal-start.new.bytes in
    let start = c.write_decimal-start.result in
    let from = c.min-from.result in
    let ends : start + length decimals ≡ 255 = rw v at c.write_decimal-start.ensures.start in
    let short : start ≤ 255 = omega (arith, ends) in
    let whole : text ≡ replicate start 32 ++ decimals =
    sym (take-append-drop start text)
    ∙ ap (λ (x : List ℕ). x ++ drop start text)
    (c.write_decimal-start.ensures.before ∙ take-replicate start 255 32 short)
    ∙ ap (λ (x : List ℕ). replicate start 32 ++ x) (rw v at c.write_decimal-start.ensures.written)
    ∙ ap (λ (x : List ℕ). replicate start 32 ++ x) (append-nil decimals) in
    let few : from ≤ start = omega (arith, c.min-from.ensures) in
    let size : 0 + (start - from) ≡ c.args.width - length decimals = omega (arith, ends, c.min-from.ensures) in
    let padded : take (255 - from) (drop from text) ≡ padded_decimal c.args.width c.args.value =
    take_all (255 - from) (drop from text) (omega (arith, length-drop from text, c.write_decimal-start.auto.bytes))
    ∙ padded_parts decimals text start from 0 c.args.width whole few (omega arith) size in
    shown_as _ _ _ _ c.show.result padded (c.show.ensures.comes given cells)
