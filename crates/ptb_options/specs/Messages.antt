-- This file defines the texts of messages about the arguments.
-- Main definition: `number_text`.
--     option_text option     an option that takes a list, as it is written
--     range_text range       which numbers an option takes
--     number_text wrong      a value that is no number in the range of its option
use Rattle.std.specs.Prelude.{List, [], ◌++◌, ℕ, codes, decimal}
use Rattle.std.specs.Fmt.{signed_decimal}
use Rattle.clap.specs.declared.builder.ValueParser.{ValueParser}
use Rattle.clap.specs.declared.builder.ValueParser.TheVariants.{Signed, Unsigned}
use Rattle.ptb_options.specs.declared.mistakes.ListOption.{ListOption}
use Rattle.ptb_options.specs.declared.mistakes.ListOption.TheVariants.{After, Answers, Under}
use Rattle.ptb_options.specs.declared.wrong_numbers.WrongNumber.{WrongNumber}

abbrev pub option_text : ListOption → List ℕ
option_text Under = codes "--under"
option_text After = codes "--after"
option_text Answers = codes "--answers"

abbrev pub from_to : List ℕ → List ℕ → List ℕ
from_to least most = codes "expected a number from " ++ least ++ codes " to " ++ most

abbrev pub range_text : ValueParser → List ℕ
range_text (Signed least most) = from_to (signed_decimal least) (signed_decimal most)
range_text (Unsigned least most) = from_to (decimal least) (decimal most)
range_text _ = []

-- in the form of clap's errors
abbrev pub number_text : WrongNumber → List ℕ
number_text wrong =
    codes "error: invalid value '" ++ wrong.value.now ++ codes "' for '--" ++ wrong.option.name.now ++ codes " <N>': "
    ++ range_text wrong.option.range ++ codes "\n\nFor more information, try '--help'.\n"
