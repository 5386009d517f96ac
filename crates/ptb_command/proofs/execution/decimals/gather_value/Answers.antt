-- This file answers what is left to prove of `gather_value`.
use Rattle.std.proofs.Common.{◌≡◌, ◌+◌, arith, length, rules, to_z, of_z, w16}
use Rattle.std.specs.Fmt.{signed_decimal}
use Rattle.ptb_command.proofs.ShownBytes.{after_blanks, short_decimal}
use Rattle.ptb_command.proofs.execution.decimals.gather_value.Goals as goal

pub write_decimal-start-requires : goal.write_decimal-start-requires
write_decimal-start-requires c =
    let v : to_z w16 (of_z w16 c.args.value) ≡ c.args.value = search rules in
    let short = short_decimal c.args.value c.ranges.value in
    (rw v (omega (arith, short)), omega arith)

pub gather_decimals-requires : goal.gather_decimals-requires
gather_decimals-requires c =
    let v : to_z w16 (of_z w16 c.args.value) ≡ c.args.value = search rules in
    let ends : c.write_decimal-start.result + length (signed_decimal c.args.value) ≡ 16 =
    rw v at c.write_decimal-start.ensures.start in
    record {
      text = (omega (arith, c.write_decimal-start.auto.bytes), omega (arith, ends));
      blanks = c.requires.blanks;
      block = c.requires.block;
    }

pub returns : goal.returns
returns c =
    let v : to_z w16 (of_z w16 c.args.value) ≡ c.args.value = search rules in
    c.gather_decimals.ensures (signed_decimal c.args.value)
    (after_blanks (signed_decimal c.args.value) c.write_decimal-start.new.bytes c.write_decimal-start.result
    (rw v at c.write_decimal-start.ensures.start) (rw v at c.write_decimal-start.ensures.written)
    c.write_decimal-start.ensures.before)
