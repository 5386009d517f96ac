-- This file proves which words a reading of a list takes: what is between its commas.
-- Main lemma: `words_of`.
use Rattle.std.proofs.Common.{◌≡◌, ◌∙◌, ap, ℕ, true, List, lit<}
use Rattle.std.specs.Prelude.{◌==◌}
use Rattle.std.specs.List.{slice_split}
use Rattle.std.specs.Str.Pattern.{FindsChar}
use Rattle.std.specs.Str.Iter.{split_steps, split_text, split_has_more, split_pattern}
use Rattle.std.proofs.lemmas.Iterator.{YieldsList}
use Rattle.std.proofs.lemmas.Iterator.Splits.{YieldsList-from_str_split}

pub words_of : {s t : _} (text : List ℕ) → t ≡ s → split_text {P = ℕ} s ≡ text → split_has_more {P = ℕ} s ≡ true
    → split_pattern {P = ℕ} s ≡ 44
    → YieldsList (split_steps FindsChar (λ a b. b ≡ a)) (λ x. x.now) t (slice_split (λ b. b == 44) text)
words_of text same whole more comma =
    YieldsList-from_str_split 44 text (lit< tt) (ap split_text same ∙ whole) (ap split_has_more same ∙ more)
    (ap split_pattern same ∙ comma)
