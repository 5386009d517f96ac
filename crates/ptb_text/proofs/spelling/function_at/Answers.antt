-- This file proves that the function words that the first byte leaves are the ones to try.
use Rattle.std.proofs.Common.{◌≡◌, get_or, false, arith}
use Rattle.std.proofs.lemmas.Bool.Decides.{nat_tests}
use Rattle.ptb_text.specs.Words.{begins_word}
use Rattle.ptb_text.specs.declared.word.Table.TheVariants.{Functions}
use Rattle.ptb_text.proofs.Words.{finds_begins, finds_none}
use Rattle.ptb_text.proofs.spelling.function_at.Goals as goal

pub returns-in-82-clause-value : goal.returns-in-82-clause-value
returns-in-82-clause-value c = finds_begins Functions 82 _ _ _ c.requires c.in-82.is c.spelled_word.ensures.value

pub returns-in-65-clause-value : goal.returns-in-65-clause-value
returns-in-65-clause-value c = finds_begins Functions 65 _ _ _ c.requires c.in-65.is c.spelled_word-in-65.ensures.value

pub returns-in-83-clause-value : goal.returns-in-83-clause-value
returns-in-83-clause-value c = finds_begins Functions 83 _ _ _ c.requires c.in-83.is c.spelled_word-in-83.ensures.value

pub returns-in_default-clause-value : goal.returns-in_default-clause-value
returns-in_default-clause-value c =
    let none : begins_word Functions (get_or c.args.text.now c.args.place 0) ≡ false = grind (arith, nat_tests) in
    finds_none Functions _ _ c.requires none
