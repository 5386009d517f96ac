-- This file answers what is left to prove of `read_lines`.
use Rattle.std.proofs.Common.{◌≡◌, Ok, refl, ap, true, false}
use Rattle.ptb_text.specs.declared.device_fault.DeviceFault.TheVariants as faults
use Rattle.ptb_text.proofs.PublicLemmas.{falls}
use Rattle.ptb_devices.proofs.ReadLines.{IsCutUpTo_more, IsCutUpTo_none}
use Rattle.ptb_devices.proofs.WholeInputs.{told_all, told_failed, told_long, told_wanting}
use Rattle.ptb_devices.proofs.whole_input.read_lines.Goals as goal

never_fails : false ≡ true → ⊥
never_fails h = cc h

pub loop-lines-init : goal.loop-lines-init
loop-lines-init g c = record {
  read = rw (c.new-left.ensures, c.new-lines.ensures.items, c.new-cutter.ensures)
      (IsCutUpTo_none g.R.Read.remaining g.R.Read.given g.R.Read.failures 16777216 c.args.reader.now);
  sure = λ h. h;
}

pub loop-lines-smaller : goal.loop-lines-smaller
loop-lines-smaller g c =
    let p = c.loop-lines in
    falls g.R.Read.remaining g.R.Read.given g.R.Read.failures 16777216 c.args.reader.now p.reader c.read.new.reader _ _
    p.invariant.read.bytes _ _ p.invariant.read.reads c.in_ok-read.ensures.reads c.in-Bytes.count (ap Ok c.in-Bytes.is)

pub loop-lines-preserved : goal.loop-lines-preserved
loop-lines-preserved g c =
    let p = c.loop-lines in
    record {
      read = IsCutUpTo_more g.R.Read.remaining g.R.Read.given g.R.Read.failures 16777216 c.args.reader.now p.reader
          c.read.new.reader _ _ p.lines.items p.cutter _ _ p.invariant.read c.in_ok-read.ensures.reads
          c.in-Bytes.count (ap Ok c.in-Bytes.is) c.push_whole.new.lines.items c.push_whole.new.cutter
          c.in_ok-push_whole-in-Bytes.ensures;
      sure = λ reliable. (c.in_ok-read.ensures.sure (p.invariant.sure reliable)).1;
    }

pub returns-in_err-read : goal.returns-in_err-read
returns-in_err-read g c =
    let p = c.loop-lines in
    let told =
    told_failed (λ v. v.items) 16777216 g.R.Read.remaining g.R.Read.given g.R.Read.failures g.R.Read.reliable
    c.args.reader.now c.read.new.reader p.reader _ _ p.lines.items p.cutter _ _ p.invariant.read
    c.in_err-read.ensures.reads refl c.from_residual.result _ c.from_residual.ensures.1 c.in_err-read.ensures.kind
    (λ reliable. never_fails (c.in_err-read.ensures.sure (p.invariant.sure reliable)).0)
    in
    record { lines = told.lines; reads = told.reads; kind = told.kind; sure = told.sure }

pub returns-in_err-push_last-in-End : goal.returns-in_err-push_last-in-End
returns-in_err-push_last-in-End g c =
    let p = c.loop-lines in
    let told =
    told_wanting (λ v. v.items) 16777216 g.R.Read.remaining g.R.Read.given g.R.Read.failures g.R.Read.reliable
    c.args.reader.now c.read.new.reader p.reader _ _ p.lines.items p.cutter _ _ p.invariant.read
    c.in_ok-read.ensures.reads refl c.from_residual-in_err-push_last-in-End.result faults.Memory
    c.from_residual-in_err-push_last-in-End.ensures.1 refl
    in
    record { lines = told.lines; reads = told.reads; kind = told.kind; sure = told.sure }

pub returns-in-End : goal.returns-in-End
returns-in-End g c =
    let p = c.loop-lines in
    let told =
    told_all (λ v. v.items) 16777216 g.R.Read.remaining g.R.Read.given g.R.Read.failures g.R.Read.reliable
    c.args.reader.now c.read.new.reader p.reader _ _ p.lines.items p.cutter _ _ p.invariant.read
    c.in_ok-read.ensures.reads (ap Ok c.in-End.is) c.push_last.new.lines c.in_ok-push_last-in-End.ensures
    in
    record { lines = told.lines; reads = told.reads; kind = told.kind; sure = told.sure }

pub returns-in_err-push_whole-in-Bytes : goal.returns-in_err-push_whole-in-Bytes
returns-in_err-push_whole-in-Bytes g c =
    let p = c.loop-lines in
    let told =
    told_wanting (λ v. v.items) 16777216 g.R.Read.remaining g.R.Read.given g.R.Read.failures g.R.Read.reliable
    c.args.reader.now c.read.new.reader p.reader _ _ p.lines.items p.cutter _ _ p.invariant.read
    c.in_ok-read.ensures.reads refl c.from_residual-in_err-push_whole-in-Bytes.result faults.Memory
    c.from_residual-in_err-push_whole-in-Bytes.ensures.1 refl
    in
    record { lines = told.lines; reads = told.reads; kind = told.kind; sure = told.sure }

pub returns-in-TooLong : goal.returns-in-TooLong
returns-in-TooLong g c =
    let p = c.loop-lines in
    let told =
    told_long (λ v. v.items) 16777216 g.R.Read.remaining g.R.Read.given g.R.Read.failures g.R.Read.reliable
    c.args.reader.now c.read.new.reader p.reader _ _ p.lines.items p.cutter _ _ p.invariant.read
    c.in_ok-read.ensures.reads (ap Ok c.in-TooLong.is)
    in
    record { lines = told.lines; reads = told.reads; kind = told.kind; sure = told.sure }
