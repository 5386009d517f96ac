-- This file proves what two accounts, one after the other, have together.
-- Main lemma: `same_joined`.
use Rattle.std.proofs.Common.{◌≡◌, ◌+◌, ◌*◌, Bool, true, false, List, [], ◌∷◌, ◌++◌, ap, sym, subst, ◌∙◌, arith}
use Rattle.ptb_numbers.specs.Fractions.{Ratio, plus, Equals}
use Rattle.ptb_chances.specs.Chances.{RunResult, Row}
use Rattle.ptb_chances.specs.Accounts.{AreSame, chance_in, chance_of_rows, has_result, rows_with, runs_in, runs_of_rows}
use Rattle.ptb_chances.proofs.Accounts.{maybe}
use Rattle.ptb_chances.proofs.Sums.{equals_plus, nothing, parts_same, plus_assoc}

nothing_plus : (f : Ratio) → plus nothing f ≡ f
nothing_plus f = parts_same (0 * f.denominator + f.numerator * 1) (1 * f.denominator) f.numerator f.denominator
    (omega arith) (omega arith)

pub chance_joined : (r : RunResult) (ws vs : List Row) → chance_in r (ws ++ vs) ≡ plus (chance_in r ws) (chance_in r vs)
chance_joined r [] vs = sym (nothing_plus (chance_in r vs))
chance_joined r (w ∷ ws) vs = by_test (has_result r w) (chance_joined r ws vs)
  where
    by_test : (b : Bool) → chance_in r (ws ++ vs) ≡ plus (chance_in r ws) (chance_in r vs)
        → chance_of_rows (maybe b w (rows_with r (ws ++ vs)))
        ≡ plus (chance_of_rows (maybe b w (rows_with r ws))) (chance_in r vs)
    by_test true h = ap (plus w.chance) h ∙ sym (plus_assoc w.chance (chance_in r ws) (chance_in r vs))
    by_test false h = h

pub runs_joined : (r : RunResult) (ws vs : List Row) → runs_in r (ws ++ vs) ≡ runs_in r ws + runs_in r vs
runs_joined r [] vs = omega arith
runs_joined r (w ∷ ws) vs = by_test (has_result r w) (runs_joined r ws vs)
  where
    by_test : (b : Bool) → runs_in r (ws ++ vs) ≡ runs_in r ws + runs_in r vs
        → runs_of_rows (maybe b w (rows_with r (ws ++ vs))) ≡ runs_of_rows (maybe b w (rows_with r ws)) + runs_in r vs
    by_test true h = omega (arith, h)
    by_test false h = h

pub same_joined : (ws ws' vs vs' : List Row) → AreSame ws ws' → AreSame vs vs' → AreSame (ws ++ vs) (ws' ++ vs')
same_joined ws ws' vs vs' first second = record {
  chances = λ r.
      let sums = equals_plus (chance_in r ws) (chance_in r ws') (chance_in r vs) (chance_in r vs') (first.chances r)
      (second.chances r) in
      let left = subst (λ (f : Ratio). Equals f (plus (chance_in r ws') (chance_in r vs')))
      (sym (chance_joined r ws vs)) sums in
      subst (λ (f : Ratio). Equals (chance_in r (ws ++ vs)) f) (sym (chance_joined r ws' vs')) left;
  runs = λ r. runs_joined r ws vs ∙ ap (λ n. n + runs_in r vs) (first.runs r)
      ∙ ap (λ n. runs_in r ws' + n) (second.runs r) ∙ sym (runs_joined r ws' vs');
}
