-- This file says what the loop of `number_option` keeps.
use Rattle.std.proofs.Common.{◌≡◌, map, take}
use Rattle.ptb_options.specs.CommandLine.{rule_of_listed, rules}
use Rattle.ptb_options.proofs.NumberOptions.{NamesNoneBefore}
use Rattle.ptb_options.proofs.wrong_numbers.number_option.Given as goal

-- the arguments so far have the tool's rules, and none of them is named
abbrev pub invariant-loop-listed : goal.invariant-loop-listed
invariant-loop-listed l = record {
  so_far : map rule_of_listed (take l.listed-index l.listed-items) ≡ take l.listed-index rules;
  unnamed : NamesNoneBefore l.argument l.listed-index;
}
