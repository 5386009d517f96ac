-- This file answers that a number of one or two digits is these digits.
use Rattle.std.proofs.Common.{arith, rules, ◌≡◌, ◌∙◌, ap, ◌∷◌, [], ◌++◌, sym, append_assoc, ◌+◌}
use Rattle.std.proofs.Common.{◌<◌, ◌/◌, ◌%◌, ◌^◌, decimal}
use Rattle.std.proofs.lemmas.Fmt.{decimal_digit, decimal_step}
use Rattle.ptb_explore.proofs.report_writer.add_short.Goals as goal

pub returns-then-number-lt10-clause-text : goal.returns-then-number-lt10-clause-text
returns-then-number-lt10-clause-text c =
    c.push.ensures ∙ ap (λ z. c.args.text.now ++ z) (sym (decimal_digit c.args.number c.if-number-lt10.true))

pub returns-else-number-lt10-clause-text : goal.returns-else-number-lt10-clause-text
returns-else-number-lt10-clause-text c =
    let n = c.args.number in
    let small : n < 2 ^ 64 = search rules in
    let tens : n / 10 < 10 = omega (arith, c.requires.short) in
    let digits : decimal n ≡ (48 + n / 10) ∷ (48 + n % 10) ∷ [] = decimal_step n c.if-number-lt10.false small
    ∙ ap (λ z. z ++ (48 + n % 10) ∷ []) (decimal_digit (n / 10) tens) in
    c.push-else-number-lt10-2.ensures ∙ ap (λ z. z ++ (48 + n % 10) ∷ []) c.push-else-number-lt10.ensures
    ∙ append_assoc c.args.text.now ((48 + n / 10) ∷ []) ((48 + n % 10) ∷ [])
    ∙ ap (λ z. c.args.text.now ++ z) (sym digits)
