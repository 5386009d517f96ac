-- This file answers what is left to prove of `LineBuffer::fill`.
use Rattle.std.proofs.Common.{◌≡◌, ◌<◌, length, take, Ok, refl, sym, subst, ap, ◌∙◌, rules}
use Rattle.ptb_devices.specs.declared.line_buffer.InputEnd.TheVariants.{Ended, Failed, Exceeded}
use Rattle.ptb_devices.specs.Inputs.{fault_at}
use Rattle.ptb_devices.specs.InputLaws.{ReadsOn_none}
use Rattle.ptb_devices.proofs.ContinuedReads.{state_at, state_open, slice_range-none, slice_range-read, ReadsOn_at}
use Rattle.ptb_devices.proofs.ContinuedReads.{read_bytes, read_end, read_failed, read_falls, read_too_long}
use Rattle.ptb_devices.proofs.line_buffer.LineBuffer.fill.Goals as goal

pub returns-in-Ended : goal.returns-in-Ended
returns-in-Ended g c = record {
  on = ReadsOn_none _ _;
  same_piece = (refl, refl);
  more = λ e. absurd (cc);
  end = λ _. sym (ap (λ s. s.end) c.self.view_is) ∙ c.in-Ended.is;
  same_fault = refl;
  fault = tt;
}

pub returns-in-Failed : goal.returns-in-Failed
returns-in-Failed g c = record {
  on = ReadsOn_none _ _;
  same_piece = (refl, refl);
  more = tt;
  end = tt;
  same_fault = tt;
  fault = ap fault_at (sym (ap (λ s. s.end) c.self.view_is) ∙ c.in-Failed.is);
}

pub returns-in-Exceeded : goal.returns-in-Exceeded
returns-in-Exceeded g c = record {
  on = ReadsOn_none _ _;
  same_piece = (refl, refl);
  more = tt;
  end = tt;
  same_fault = tt;
  fault = ap fault_at (sym (ap (λ s. s.end) c.self.view_is) ∙ c.in-Exceeded.is);
}

pub returns-in-Err : goal.returns-in-Err
returns-in-Err g c = record {
  on =
      let was = state_open _ _ _ _ _ _ c.self.view_is c.requires c.in-Open.is in
      let none = slice_range-none c.self.inside.bytes _ _ _ c.self.invariant.ordered c.self.invariant.in_buffer
      (ap (λ s. s.waiting) c.self.view_is ∙ c.requires) in
      ReadsOn_at 1 _ _ _ _ was
      (ap (λ w. state_at c.self.inside.cutter c.self.inside.is_given w c.read.new.self Failed) none)
      (read_failed g.R.Read.remaining g.R.Read.given g.R.Read.failures c.args.reader.now c.read.new.reader _ _ _ _ _ _
      c.in-Err.ensures.reads (c.self.invariant.room c.in-Open.is) refl c.in-Err.ensures.reads.described);
  same_piece = (ap (λ s. s.piece) c.self.view_is, ap (λ s. s.is_given) c.self.view_is);
  more = tt;
  end = tt;
  same_fault = tt;
  fault = refl;
}

pub returns-in-Ok-End : goal.returns-in-Ok-End
returns-in-Ok-End g c = record {
  on =
      let was = state_open _ _ _ _ _ _ c.self.view_is c.requires c.in-Open.is in
      let none = slice_range-none c.self.inside.bytes _ _ _ c.self.invariant.ordered c.self.invariant.in_buffer
      (ap (λ s. s.waiting) c.self.view_is ∙ c.requires) in
      ReadsOn_at 1 _ _ _ _ was
      (ap (λ w. state_at c.self.inside.cutter c.self.inside.is_given w c.read.new.self Ended) none)
      (read_end g.R.Read.remaining g.R.Read.given g.R.Read.failures c.args.reader.now c.read.new.reader _ _ _ _ _ _
      c.in-Ok-End.ensures.reads (c.self.invariant.room c.in-Open.is) (ap Ok c.in-Ok-End.field-0-is));
  same_piece = (ap (λ s. s.piece) c.self.view_is, ap (λ s. s.is_given) c.self.view_is);
  more = λ e. absurd (cc);
  end = λ _. refl;
  same_fault = ap fault_at (sym c.in-Open.is ∙ ap (λ s. s.end) c.self.view_is);
  fault = tt;
}

pub returns-in-Ok-TooLong : goal.returns-in-Ok-TooLong
returns-in-Ok-TooLong g c = record {
  on =
      let was = state_open _ _ _ _ _ _ c.self.view_is c.requires c.in-Open.is in
      let none = slice_range-none c.self.inside.bytes _ _ _ c.self.invariant.ordered c.self.invariant.in_buffer
      (ap (λ s. s.waiting) c.self.view_is ∙ c.requires) in
      ReadsOn_at 1 _ _ _ _ was
      (ap (λ w. state_at c.self.inside.cutter c.self.inside.is_given w c.read.new.self Exceeded) none)
      (read_too_long g.R.Read.remaining g.R.Read.given g.R.Read.failures c.args.reader.now c.read.new.reader _ _ _ _ _
      _ c.in-Ok-TooLong.ensures.reads (c.self.invariant.room c.in-Open.is) (ap Ok c.in-Ok-TooLong.field-0-is));
  same_piece = (ap (λ s. s.piece) c.self.view_is, ap (λ s. s.is_given) c.self.view_is);
  more = tt;
  end = tt;
  same_fault = tt;
  fault = refl;
}

pub returns-in-Ok-Bytes : goal.returns-in-Ok-Bytes
returns-in-Ok-Bytes g c =
    let count = c.in-Ok-Bytes.count in
    let room : 0 < c.self.inside.left = c.self.invariant.room c.in-Open.is in
    record {
      on =
          let was = state_open _ _ _ _ _ _ c.self.view_is c.requires c.in-Open.is in
          let size : length c.read.new.buffer ≡ 4096 = search rules in
          ReadsOn_at 1 _ _ _ _ was (ap (λ w. state_at c.self.inside.cutter c.self.inside.is_given w c.read.new.self
          c.self.inside.end) (slice_range-read count c.read.new.buffer)
          ∙ ap (λ e. state_at c.self.inside.cutter c.self.inside.is_given (take count c.read.new.buffer)
          c.read.new.self e) c.in-Open.is)
          (read_bytes g.R.Read.remaining g.R.Read.given g.R.Read.failures c.args.reader.now c.read.new.reader _ _ _ _ _
          _ c.in-Ok-Bytes.ensures.reads room count (ap Ok c.in-Ok-Bytes.field-0-is) size);
      same_piece = (ap (λ s. s.piece) c.self.view_is, ap (λ s. s.is_given) c.self.view_is);
      more = λ _. subst (λ k. c.read.new.self < k) (ap (λ s. s.left) c.self.view_is)
          (read_falls g.R.Read.remaining g.R.Read.given g.R.Read.failures c.args.reader.now c.read.new.reader
          c.self.inside.cutter c.self.inside.is_given _ _ _ _ c.in-Ok-Bytes.ensures.reads room count
          (ap Ok c.in-Ok-Bytes.field-0-is));
      end = λ e. absurd (cc);
      same_fault = ap (λ s. fault_at s.end) c.self.view_is;
      fault = tt;
    }
