-- This file answers what is left to prove of `ReaderLines::take_ready`.
use Rattle.std.proofs.Common.{refl, arith}
use Rattle.ptb_devices.specs.Readers.{input_of}
use Rattle.ptb_devices.specs.InputLaws.{ReadsOn_none}
use Rattle.ptb_devices.proofs.GivenLines.{taken_ready}
use Rattle.ptb_devices.proofs.reader_lines.ReaderLinesLineSource.take_ready.Goals as goal

pub returns-then-not-may_have_more : goal.returns-then-not-may_have_more
returns-then-not-may_have_more g c = (
  (refl, λ _. tt, (record { same_borrow = refl; reads = ReadsOn_none _ _ }, omega arith)),
  record { after = tt; short = tt },
)

pub returns : goal.returns
returns g c =
    let taken = taken_ready (input_of g.R.Read.remaining g.R.Read.given g.R.Read.failures c.args.self.now) _
    c.take_whole.follows.lender-at-none c.take_whole.result
    (c.may_have_more.ensures c.if-not-may_have_more.false) c.forget_given.ensures
    c.take_whole.follows.holds-at-none in (
      (refl, λ _. tt, (record { same_borrow = refl; reads = taken.0 }, taken.1)),
      record {
        after = tt;
        short = c.take_whole.ensures.short;
      },
    )
