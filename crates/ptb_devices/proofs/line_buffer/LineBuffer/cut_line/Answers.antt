-- This file answers what is left to prove of `LineBuffer::cut_line`.
use Rattle.std.proofs.Common.{◌≡◌, ◌≤◌, ◌+◌, ◌-◌, ◌∷◌, [], None, true, length, take, drop}
use Rattle.std.proofs.Common.{slice_range, sym, ap, subst, ◌∙◌, arith, length-take, length-drop}
use Rattle.ptb_devices.specs.CutLines.{kept_bytes, Cuts}
use Rattle.ptb_devices.specs.Inputs.{InputState}
use Rattle.ptb_devices.proofs.ContinuedReads.{range_size, slice_range-front}
use Rattle.ptb_devices.proofs.line_buffer.LineBuffer.cut_line.Goals as goal

pub returns-in-Some : goal.returns-in-Some
returns-in-Some c =
    let s = c.self.inside in
    let count = c.in-Some.count in
    let waiting = slice_range s.bytes s.from s.to in
    let bytes : c.between.result.now ≡ waiting = c.between.ensures in
    let long = range_size s.bytes s.from s.to c.self.invariant.in_buffer c.self.invariant.ordered in
    let size : count ≤ s.to - s.from = omega (arith, c.in-Some.ensures.size.1, ap length bytes, long) in
    let same : c.self.inside.cutter ≡ c.args.self.now.piece = ap (λ i. i.piece) c.self.view_is in
    record {
      prefix = take count waiting;
      whole = sym (ap (λ i. i.waiting) c.self.view_is) ∙ slice_range-front s.bytes s.from s.to count
          (omega (arith, size, c.self.invariant.ordered));
      some = omega (arith, length-take count waiting, long, size, c.in-Some.ensures.size.0);
      cut = subst (λ p. Cuts p (take count waiting) (kept_bytes c.take_line.new.self ∷ []) None) same
          (subst (λ l. Cuts c.self.inside.cutter (take count l) (kept_bytes c.take_line.new.self ∷ []) None) bytes
          c.in-Some.ensures.whole);
      rest = ap (λ (i : InputState). record i {
        piece = c.take_line.new.self;
        is_given = true;
        waiting = slice_range s.bytes (s.from + count) s.to;
      }) c.self.view_is;
    }
