-- This file proves laws of the rows of a tally: their order, and how their text continues.
-- Main lemma: `rows_rise`.
use Rattle.std.proofs.Common.{◌≡◌, List, [], ◌∷◌, map}
use Rattle.std.specs.List.{AllByRecursion}
use Rattle.std.specs.List.Sorted.{IsStrictlySortedBy}
use Rattle.std.specs.Ordering.{on}
use Rattle.std.specs.Map.{keys_of}
use Rattle.std.specs.declared.cmp.Ordering.TheVariants.{Less}
use Rattle.ptb_chances.specs.Chances.{result_order}
use Rattle.ptb_chances.specs.declared.result_key.ResultKey.{ResultKey}
use Rattle.ptb_chances.specs.declared.tally.ResultTotal.{ResultTotal}
use Rattle.ptb_chances.specs.Accounts.{ResultsRise}
use Rattle.ptb_chances.specs.Keys.{key_result, rows_of}

less_rows : (k : ResultKey) (es : List (ResultKey × ResultTotal))
    → AllByRecursion (λ y. on key_result result_order k y ≡ Less) (keys_of es)
    → AllByRecursion (λ r. result_order (key_result k) r ≡ Less) (map (λ w. w.result) (rows_of es))
less_rows k [] h = tt
less_rows k (e ∷ es) h = (h.0, less_rows k es h.1)

pub rows_rise : (es : List (ResultKey × ResultTotal)) → IsStrictlySortedBy (on key_result result_order) (keys_of es)
    → ResultsRise (rows_of es)
unfolding IsStrictlySortedBy
rows_rise [] up = tt
rows_rise (e ∷ es) up = (less_rows e.0 es up.0, rows_rise es up.1)
