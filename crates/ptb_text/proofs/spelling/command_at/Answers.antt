-- This file proves that the command words that the first byte leaves are the ones to try.
use Rattle.ptb_text.specs.declared.word.Table.TheVariants.{Commands}
use Rattle.std.proofs.Common.{◌≡◌, get_or, false, rules, arith, refl}
use Rattle.std.specs.Prelude.{codes}
use Rattle.std.proofs.Math.Nat.{le_of_lt}
use Rattle.std.proofs.lemmas.Bool.{ltb-true}
use Rattle.std.proofs.lemmas.Bool.Decides.{nat_tests}
use Rattle.ptb_text.specs.declared.word.Word.TheVariants.{InputKw, GosubKw, RemKw}
use Rattle.ptb_text.specs.Words.{begins_word, IsCommand}
use Rattle.ptb_text.proofs.Words.{is_of, finds_begins, begins_either, finds_none}
use Rattle.ptb_text.proofs.spelling.command_at.Goals as goal

pub spelled_word-requires : goal.spelled_word-requires
spelled_word-requires c = record { within = le_of_lt c.requires; some = ltb-true 0 _ refl; no_period = refl }

pub spelled_word-requires-in-76 : goal.spelled_word-requires-in-76
spelled_word-requires-in-76 c = record { within = le_of_lt c.requires; some = ltb-true 0 _ refl; no_period = refl }

pub spelled_word-found_if-requires : goal.spelled_word-found_if-requires
spelled_word-found_if-requires c = record { within = le_of_lt c.requires; some = ltb-true 0 _ refl; no_period = refl }

pub spelled_word-found_goto-requires : goal.spelled_word-found_goto-requires
spelled_word-found_goto-requires c = record { within = le_of_lt c.requires; some = ltb-true 0 _ refl; no_period = refl }

pub spelled_word-found_return-requires : goal.spelled_word-found_return-requires
spelled_word-found_return-requires c =
    record { within = le_of_lt c.requires; some = ltb-true 0 _ refl; no_period = refl }

pub spelled_word-requires-in-70 : goal.spelled_word-requires-in-70
spelled_word-requires-in-70 c = record { within = le_of_lt c.requires; some = ltb-true 0 _ refl; no_period = refl }

pub spelled_word-requires-in-80 : goal.spelled_word-requires-in-80
spelled_word-requires-in-80 c = record { within = le_of_lt c.requires; some = ltb-true 0 _ refl; no_period = refl }

pub spelled_word-requires-in-83 : goal.spelled_word-requires-in-83
spelled_word-requires-in-83 c = record { within = le_of_lt c.requires; some = ltb-true 0 _ refl; no_period = refl }

pub returns-in-78 : goal.returns-in-78
returns-in-78 c = record {
  value = finds_begins Commands 78 _ _ _ c.requires c.in-78.is c.spelled_word.ensures.value;
  word = is_of IsCommand _ _ c.spelled_word.ensures.word tt;
}

pub returns-in-76 : goal.returns-in-76
returns-in-76 c = record {
  value = finds_begins Commands 76 _ _ _ c.requires c.in-76.is c.spelled_word-in-76.ensures.value;
  word = is_of IsCommand _ _ c.spelled_word-in-76.ensures.word tt;
}

pub returns-in-73-clause-value : goal.returns-in-73-clause-value
returns-in-73-clause-value c =
    begins_either Commands 73 _ (InputKw, codes "INPUT") _ _ _ _ refl c.requires c.in-73.is
    c.spelled_word-found_if.ensures.value
    (search rules fits 50 depth 2) (search rules fits 50 depth 2)

pub returns-in-71-clause-value : goal.returns-in-71-clause-value
returns-in-71-clause-value c =
    begins_either Commands 71 _ (GosubKw, codes "GOSUB") _ _ _ _ refl c.requires c.in-71.is
    c.spelled_word-found_goto.ensures.value
    (search rules fits 50 depth 2) (search rules fits 50 depth 2)

pub returns-in-82-clause-value : goal.returns-in-82-clause-value
returns-in-82-clause-value c =
    begins_either Commands 82 _ (RemKw, codes "REM") _ _ _ _ refl c.requires c.in-82.is
    c.spelled_word-found_return.ensures.value
    (search rules fits 50 depth 2) (search rules fits 50 depth 2)

pub returns-in-70 : goal.returns-in-70
returns-in-70 c = record {
  value = finds_begins Commands 70 _ _ _ c.requires c.in-70.is c.spelled_word-in-70.ensures.value;
  word = is_of IsCommand _ _ c.spelled_word-in-70.ensures.word tt;
}

pub returns-in-80 : goal.returns-in-80
returns-in-80 c = record {
  value = finds_begins Commands 80 _ _ _ c.requires c.in-80.is c.spelled_word-in-80.ensures.value;
  word = is_of IsCommand _ _ c.spelled_word-in-80.ensures.word tt;
}

pub returns-in-83 : goal.returns-in-83
returns-in-83 c = record {
  value = finds_begins Commands 83 _ _ _ c.requires c.in-83.is c.spelled_word-in-83.ensures.value;
  word = is_of IsCommand _ _ c.spelled_word-in-83.ensures.word tt;
}

pub returns-in_default-clause-value : goal.returns-in_default-clause-value
returns-in_default-clause-value c =
    let none : begins_word Commands (get_or c.args.text.now c.args.place 0) ≡ false = grind (arith, nat_tests) in
    finds_none Commands _ _ c.requires none
