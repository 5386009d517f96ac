-- This file proves the worked rows of the command line by computation.
-- Main lemmas: `option_rows`, `clash_rows` and `fault_rows`.
use Rattle.std.specs.Prelude.{refl}
use Rattle.clap.proofs.OnLiterals.{clap_on_literals}
use Rattle.ptb_rows.specs.Rows.{ClashRows, OptionRows, FaultRows}

pub clash_rows : ClashRows
unfolding clap_on_literals
clash_rows = record {
  after_listing = refl;
  all_listing = refl;
  answers_listing = refl;
  first_listing = refl;
  after_alone = refl;
  after_and_first = refl;
  first_alone = refl;
  form_alone = refl;
  form_and_first = refl;
  form_and_seed = refl;
  form_listing = refl;
  form_and_all = refl;
  under_alone = refl;
  under_and_form = refl;
  under_and_answers = refl;
  under_listing = refl;
  under_and_all = refl;
  shares_alone = refl;
  shares_and_sample = refl;
  shares_and_form = refl;
  shares_and_under = refl;
  shares_beside_after = refl;
  shares_beside_first = refl;
  shares_beside_under = refl;
  shares_listing = refl;
  shares_and_answers = refl;
  shares_and_all = refl;
  sample_alone = refl;
  sample_and_shares = refl;
  sample_and_after = refl;
  sample_and_all = refl;
  sample_and_answers = refl;
  sample_listing = refl;
  sample_and_seed = refl;
  answers_and_all = refl;
  seed_listing = refl;
  seed_and_after = refl;
  seed_and_both = refl;
  seed_and_all = refl;
  seed_and_answers = refl;
  seed_alone = refl;
  choice_listing = refl;
  choice_and_all = refl;
  choice_alone = refl;
  steps_listing = refl;
  check_listing = refl;
  check_and_all = refl;
  check_and_answers = refl;
  check_and_after = refl;
  check_and_sample = refl;
  check_and_choice = refl;
  chances_listing = refl;
  chances_check = refl;
  chances_and_all = refl;
  chances_and_answers = refl;
  chances_and_after = refl;
  chances_and_form = refl;
  chances_and_sample = refl;
  chances_alone = refl;
  check_alone = refl;
}

pub option_rows : OptionRows
unfolding clap_on_literals
option_rows = record {
  none = refl;
  operand = refl;
  numbers = refl;
  lists = refl;
  seed = refl;
  choice = refl;
  form = refl;
  under = refl;
  shares = refl;
  sample = refl;
  switches = refl;
  check = refl;
  chances = refl;
}

pub fault_rows : FaultRows
unfolding clap_on_literals
fault_rows = record {
  no_steps = refl;
  most_steps = refl;
  many_steps = refl;
  little_memory = refl;
  least_memory = refl;
  most_memory = refl;
  much_memory = refl;
  no_first = refl;
  most_first = refl;
  many_first = refl;
  least_seed = refl;
  most_seed = refl;
  great_seed = refl;
  no_choice = refl;
  least_choice = refl;
  most_choices = refl;
  many_choices = refl;
  no_shares = refl;
  least_shares = refl;
  most_shares = refl;
  many_shares = refl;
  no_sample = refl;
  most_sample = refl;
  many_sample = refl;
  no_number = refl;
  unknown = refl;
  second_operand = refl;
  twice = refl;
  help = refl;
}
