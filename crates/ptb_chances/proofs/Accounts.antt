-- This file proves laws of accounts.
-- Main lemma: `joined`.
use Rattle.std.proofs.Common.{◌≡◌, ℕ, ◌+◌, ◌<◌, Bool, true, false, cond, List, [], ◌∷◌, length}
use Rattle.std.proofs.Common.{refl, ap, sym, subst, ◌∙◌, arith}
use Rattle.ptb_numbers.specs.Fractions.{Ratio, plus, Equals}
use Rattle.ptb_answers.specs.Outcome.{Answers, Outcome, bounds}
use Rattle.ptb_machine.specs.Play.{Finish}
use Rattle.ptb_chances.specs.Chances.{RunResult, Row, chance, chance_of_all, result_of, result_order, runs_with}
use Rattle.ptb_chances.specs.Accounts.{has_result, rows_with, chance_of_rows, runs_of_rows}
use Rattle.ptb_chances.specs.Accounts.{chance_in, runs_in, AreAlike, AreSame, HasChance}
use Rattle.ptb_chances.specs.Accounts.{ArePositive, account, row_of_run}
use Rattle.std.specs.Ordering.{is_eq}
use Rattle.ptb_chances.proofs.Sums.{plus_assoc, plus_turn, equals_plus, equals_then, plus_positive}

-- ---- one row more

-- where a row is before others, or is left out
abbrev pub maybe : Bool → Row → List Row → List Row
maybe b w ws = cond b (w ∷ ws) ws

chance_turned : (b c : Bool) (w v : Row) (ws : List Row)
    → chance_of_rows (maybe b w (maybe c v ws)) ≡ chance_of_rows (maybe c v (maybe b w ws))
chance_turned true true w v ws = plus_turn w.chance v.chance (chance_of_rows ws)
chance_turned true false w v ws = refl
chance_turned false true w v ws = refl
chance_turned false false w v ws = refl

runs_turned : (b c : Bool) (w v : Row) (ws : List Row)
    → runs_of_rows (maybe b w (maybe c v ws)) ≡ runs_of_rows (maybe c v (maybe b w ws))
runs_turned true true w v ws = omega arith
runs_turned true false w v ws = refl
runs_turned false true w v ws = refl
runs_turned false false w v ws = refl

chance_after : (b : Bool) (w : Row) (ws vs : List Row) → chance_of_rows ws ≡ chance_of_rows vs
    → chance_of_rows (maybe b w ws) ≡ chance_of_rows (maybe b w vs)
chance_after true w ws vs h = ap (plus w.chance) h
chance_after false w ws vs h = h

runs_after : (b : Bool) (w : Row) (ws vs : List Row) → runs_of_rows ws ≡ runs_of_rows vs
    → runs_of_rows (maybe b w ws) ≡ runs_of_rows (maybe b w vs)
runs_after true w ws vs h = ap (λ n. w.runs + n) h
runs_after false w ws vs h = h

-- ---- accounts with the same rows

pub alike_self : (ws : List Row) → AreAlike ws ws
alike_self ws = record { chances = λ r. refl; runs = λ r. refl }

pub alike_then : (us vs ws : List Row) → AreAlike us vs → AreAlike vs ws → AreAlike us ws
alike_then us vs ws a b = record { chances = λ r. a.chances r ∙ b.chances r; runs = λ r. a.runs r ∙ b.runs r }

pub alike_back : (ws vs : List Row) → AreAlike ws vs → AreAlike vs ws
alike_back ws vs a = record { chances = λ r. sym (a.chances r); runs = λ r. sym (a.runs r) }

pub alike_more : (w : Row) (ws vs : List Row) → AreAlike ws vs → AreAlike (w ∷ ws) (w ∷ vs)
alike_more w ws vs a = record {
  chances = λ r. chance_after (has_result r w) w (rows_with r ws) (rows_with r vs) (a.chances r);
  runs = λ r. runs_after (has_result r w) w (rows_with r ws) (rows_with r vs) (a.runs r);
}

pub alike_turned : (w v : Row) (ws : List Row) → AreAlike (w ∷ v ∷ ws) (v ∷ w ∷ ws)
alike_turned w v ws = record {
  chances = λ r. chance_turned (has_result r w) (has_result r v) w v (rows_with r ws);
  runs = λ r. runs_turned (has_result r w) (has_result r v) w v (rows_with r ws);
}

-- ---- sums

total_positive : (ws : List Row) → ArePositive ws → 0 < (chance_of_rows ws).denominator
total_positive [] p = omega arith
total_positive (w ∷ ws) p = let one : 0 < w.chance.denominator = (p.0).denominator in
    plus_positive w.chance (chance_of_rows ws) one (total_positive ws p.1)

maybe_positive : (b : Bool) (w : Row) (ws : List Row) → HasChance w → ArePositive ws → ArePositive (maybe b w ws)
maybe_positive true w ws one p = (one, p)
maybe_positive false w ws one p = p

rows_positive : (r : RunResult) (ws : List Row) → ArePositive ws → ArePositive (rows_with r ws)
rows_positive r [] p = tt
rows_positive r (w ∷ ws) p = maybe_positive (has_result r w) w (rows_with r ws) p.0 (rows_positive r ws p.1)

pub chance_positive : (r : RunResult) (ws : List Row) → ArePositive ws → 0 < (chance_in r ws).denominator
chance_positive r ws p = total_positive (rows_with r ws) (rows_positive r ws p)

-- ---- accounts that are the same

pub same_from_alike : (ws vs : List Row) → AreAlike ws vs → AreSame ws vs
same_from_alike ws vs a = record {
  chances = λ r. subst (λ (f : Ratio). Equals (chance_in r ws) f) (a.chances r) refl;
  runs = a.runs;
}

pub same_then : (us vs ws : List Row) → ArePositive vs → AreSame us vs → AreSame vs ws → AreSame us ws
same_then us vs ws p a b = record {
  chances = λ r. equals_then (chance_in r us) (chance_in r vs) (chance_in r ws) (chance_positive r vs p) (a.chances r)
      (b.chances r);
  runs = λ r. a.runs r ∙ b.runs r;
}

pub same_alike : (us vs ws : List Row) → AreSame us vs → AreAlike vs ws → AreSame us ws
same_alike us vs ws a b = record {
  chances = λ r. subst (λ (f : Ratio). Equals (chance_in r us) f) (b.chances r) (a.chances r);
  runs = λ r. a.runs r ∙ b.runs r;
}

pub alike_same : (us vs ws : List Row) → AreAlike us vs → AreSame vs ws → AreSame us ws
alike_same us vs ws a b = record {
  chances = λ r. subst (λ (f : Ratio). Equals f (chance_in r ws)) (sym (a.chances r)) (b.chances r);
  runs = λ r. a.runs r ∙ b.runs r;
}

-- ---- two rows of a result as one

joined_chance : (b : Bool) (w v u : Row) (ws : List Row) → Equals u.chance (plus v.chance w.chance)
    → Equals (chance_of_rows (maybe b u ws)) (chance_of_rows (maybe b w (maybe b v ws)))
joined_chance true w v u ws sum =
    let one = equals_plus u.chance (plus v.chance w.chance) (chance_of_rows ws) (chance_of_rows ws) sum refl in
    subst (λ (f : Ratio). Equals (plus u.chance (chance_of_rows ws)) f) (joined_terms w v ws) one
  where
    joined_terms : (w v : Row) (ws : List Row)
        → plus (plus v.chance w.chance) (chance_of_rows ws) ≡ plus w.chance (plus v.chance (chance_of_rows ws))
    joined_terms w v ws = plus_assoc v.chance w.chance (chance_of_rows ws)
        ∙ plus_turn v.chance w.chance (chance_of_rows ws)
joined_chance false w v u ws sum = refl

joined_runs : (b : Bool) (w v u : Row) (ws : List Row) → u.runs ≡ v.runs + w.runs
    → runs_of_rows (maybe b u ws) ≡ runs_of_rows (maybe b w (maybe b v ws))
joined_runs true w v u ws sum = omega (arith, sum)
joined_runs false w v u ws sum = refl

pub joined : (w v u : Row) (ws : List Row) → u.result ≡ w.result → v.result ≡ w.result
    → Equals u.chance (plus v.chance w.chance) → u.runs ≡ v.runs + w.runs → AreSame (u ∷ ws) (w ∷ v ∷ ws)
joined w v u ws first second sum count = record {
  chances = λ r. alike_tests r (joined_chance (has_result r w) w v u (rows_with r ws) sum);
  runs = λ r. alike_runs r (joined_runs (has_result r w) w v u (rows_with r ws) count);
}
  where
    of_u : (r : RunResult) → has_result r w ≡ has_result r u
    of_u r = ap (λ x. is_eq (result_order x r)) (sym first)

    of_v : (r : RunResult) → has_result r w ≡ has_result r v
    of_v r = ap (λ x. is_eq (result_order x r)) (sym second)

    alike_tests : (r : RunResult)
        → Equals (chance_of_rows (maybe (has_result r w) u (rows_with r ws)))
        (chance_of_rows (maybe (has_result r w) w (maybe (has_result r w) v (rows_with r ws))))
        → Equals (chance_in r (u ∷ ws)) (chance_in r (w ∷ v ∷ ws))
    alike_tests r h =
        let left = subst (λ (b : Bool). Equals (chance_of_rows (maybe b u (rows_with r ws)))
        (chance_of_rows (maybe (has_result r w) w (maybe (has_result r w) v (rows_with r ws))))) (of_u r) h in
        subst (λ (b : Bool). Equals (chance_in r (u ∷ ws))
        (chance_of_rows (maybe (has_result r w) w (maybe b v (rows_with r ws))))) (of_v r) left

    alike_runs : (r : RunResult)
        → runs_of_rows (maybe (has_result r w) u (rows_with r ws))
        ≡ runs_of_rows (maybe (has_result r w) w (maybe (has_result r w) v (rows_with r ws)))
        → runs_in r (u ∷ ws) ≡ runs_in r (w ∷ v ∷ ws)
    alike_runs r h =
        let left = subst (λ (b : Bool). runs_of_rows (maybe b u (rows_with r ws))
        ≡ runs_of_rows (maybe (has_result r w) w (maybe (has_result r w) v (rows_with r ws)))) (of_u r) h in
        subst (λ (b : Bool). runs_in r (u ∷ ws) ≡ runs_of_rows (maybe (has_result r w) w (maybe b v (rows_with r ws))))
        (of_v r) left

-- ---- the account of runs

module _ (play : Answers → Outcome Finish (List ℕ)) where
  account_chance : (b : Bool) (a : Answers) (ws : List Row) (runs : List Answers)
      → chance_of_rows ws ≡ chance_of_all play runs
      → chance_of_rows (maybe b (row_of_run play a) ws) ≡ chance_of_all play (cond b (a ∷ runs) runs)
  account_chance true a ws runs h = ap (plus (chance (bounds play a))) h
  account_chance false a ws runs h = h

  -- what the account of some runs has for a result is what these runs have
  pub chance_is : (r : RunResult) (runs : List Answers)
      → chance_in r (account play runs) ≡ chance_of_all play (runs_with play r runs)
  chance_is r [] = refl
  chance_is r (a ∷ runs) = account_chance (is_eq (result_order (result_of (play a)) r)) a
      (rows_with r (account play runs)) (runs_with play r runs) (chance_is r runs)

  account_runs : (b : Bool) (a : Answers) (ws : List Row) (runs : List Answers) → runs_of_rows ws ≡ length runs
      → runs_of_rows (maybe b (row_of_run play a) ws) ≡ length (cond b (a ∷ runs) runs)
  account_runs true a ws runs h = omega (arith, h)
  account_runs false a ws runs h = h

  pub runs_are : (r : RunResult) (runs : List Answers) → runs_in r (account play runs) ≡ length (runs_with play r runs)
  runs_are r [] = refl
  runs_are r (a ∷ runs) = account_runs (is_eq (result_order (result_of (play a)) r)) a (rows_with r (account play runs))
      (runs_with play r runs) (runs_are r runs)
