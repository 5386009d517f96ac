-- This file answers what is left to prove of `program_text`: what holds where it returns, and what its loop keeps.
use Rattle.std.proofs.Common.{◌≡◌, Ok, refl, ap, arith}
use Rattle.ptb_text.proofs.LimitedReads.{ReadsUpTo_after, TakesUpTo_none, all_taken, falls}
use Rattle.ptb_text.proofs.loader.program_text.Goals as goal

-- nothing is read yet
pub loop-text-init : goal.loop-text-init
loop-text-init g c = record {
  reads = rw (c.new-left.ensures, c.new-text.ensures.items)
      (TakesUpTo_none g.R.Read.remaining g.R.Read.given g.R.Read.failures 1048576 c.args.reader.now);
  sure = λ h. h;
}

-- the end was reached
pub returns-in-Ok-End : goal.returns-in-Ok-End
returns-in-Ok-End g c =
    let p = c.loop-text in
    record {
      ok = all_taken g.R.Read.remaining g.R.Read.given g.R.Read.failures 1048576 c.args.reader.now p.reader
          c.read.new.reader _ _ p.text.items _ _ p.invariant.reads c.in-Ok-End.ensures.reads
          (ap Ok c.in-Ok-End.field-0-is) (λ b. b ≡ p.text.items) refl;
      short = omega (arith, p.text.ok.0, p.invariant.reads.room, p.invariant.reads.some);
      whole = tt;
      reads = ReadsUpTo_after g.R.Read.remaining g.R.Read.given g.R.Read.failures 1048576 c.args.reader.now p.reader
          c.read.new.reader _ _ p.text.items _ _ p.invariant.reads c.in-Ok-End.ensures.reads _ _ _
          (λ _. ap Ok c.in-Ok-End.field-0-is) (λ h. absurd h) (λ h. absurd h) (λ _. refl);
      sure = λ _ h. h;
    }

pub loop-text-smaller : goal.loop-text-smaller
loop-text-smaller g c =
    let p = c.loop-text in
    falls g.R.Read.remaining g.R.Read.given g.R.Read.failures 1048576 c.args.reader.now p.reader c.read.new.reader _ _
    p.text.items _ _ p.invariant.reads c.in-Ok-Bytes.ensures.reads c.in-Ok-Bytes.count (ap Ok c.in-Ok-Bytes.field-0-is)

-- the piece could not be kept
pub returns-then-is_err-clause-reads : goal.returns-then-is_err-clause-reads
returns-then-is_err-clause-reads g c =
    let p = c.loop-text in
    ReadsUpTo_after g.R.Read.remaining g.R.Read.given g.R.Read.failures 1048576 c.args.reader.now p.reader
    c.read.new.reader _ _ p.text.items _ _ p.invariant.reads c.in-Ok-Bytes.ensures.reads _ _ _
    (λ h. absurd (omega arith)) (λ h. absurd cc) (λ h. absurd cc) (λ _. refl)

-- there was more than the limit
pub returns-in-Ok-TooLong-clause-reads : goal.returns-in-Ok-TooLong-clause-reads
returns-in-Ok-TooLong-clause-reads g c =
    let p = c.loop-text in
    ReadsUpTo_after g.R.Read.remaining g.R.Read.given g.R.Read.failures 1048576 c.args.reader.now p.reader
    c.read.new.reader _ _ p.text.items _ _ p.invariant.reads c.in-Ok-TooLong.ensures.reads _ _ _
    (λ h. absurd (omega arith)) (λ _. ap Ok c.in-Ok-TooLong.field-0-is) (λ h. absurd cc) (λ _. refl)
