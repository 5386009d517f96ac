-- This file proves the laws of a source of lines over a reader. The proofs are in `specs/` because ghost members of
-- `ReaderLines` state the laws, and may name only what is here.
-- Main lemma: `GivesFrom_more`.
--     GivesFrom_none, GivesFrom_more     no line was given; lines were given in two parts
use Rattle.std.proofs.Common.{ℕ, List, [], ◌++◌, Option, refl, ◌∙◌}
use Rattle.ptb_devices.specs.declared.reader_lines.ReaderLines.{ReaderLines}
use Rattle.ptb_devices.specs.Inputs.{missed_in}
use Rattle.ptb_devices.specs.InputLaws.{ReadsOn_none, ReadsOn_more}
use Rattle.ptb_devices.specs.Readers.{line_input, input_of, GivesFrom}

module _ {R : Type 0} (remaining : R → Option (List ℕ)) (given failures : R → ℕ) where
  pub GivesFrom_none : (s : ReaderLines R) → GivesFrom remaining given failures s [] s
  GivesFrom_none s =
      record {
        same_borrow = refl;
        reads = ReadsOn_none (missed_in (line_input s))
            (input_of remaining given failures s);
      }

  pub GivesFrom_more : (s t u : ReaderLines R) (xs ys : List (List ℕ)) → GivesFrom remaining given failures s xs t
      → GivesFrom remaining given failures t ys u → GivesFrom remaining given failures s (xs ++ ys) u
  GivesFrom_more s t u xs ys first then = record {
    same_borrow = then.same_borrow ∙ first.same_borrow;
    reads = ReadsOn_more (input_of remaining given failures s) (input_of remaining given failures t)
        (input_of remaining given failures u) xs ys first.reads then.reads;
  }
