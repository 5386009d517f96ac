-- This file answers what is left to prove of `LineBuffer::take_whole`.
use Rattle.std.proofs.Common.{◌≡◌, ℕ, ◌<◌, ◌+◌, ◌-◌, List, ◌++◌, length, take, drop, take-take}
use Rattle.std.proofs.Common.{slice_range, Option, Some, None, refl, sym, ap, subst, ◌∙◌, arith}
use Rattle.std.proofs.Common.{length-take, length-drop}
use Rattle.std.specs.Prelude.{IsSome}
use Rattle.ptb_devices.specs.CutLines.{IsLine}
use Rattle.ptb_devices.specs.Inputs.{InputState}
use Rattle.ptb_devices.proofs.GivenLines.{true_or_false}
use Rattle.ptb_devices.proofs.ContinuedReads.{range_size, slice_range-front}
use Rattle.ptb_devices.proofs.line_buffer.LineBuffer.take_whole.Goals as goal

none_if : (p : Option (List ℕ)) → (IsSome p → ⊥) → p ≡ None
none_if None h = refl
none_if (Some l) h = absurd (h refl)

pub returns : goal.returns
returns c =
    let s = c.self.inside in
    let count = c.in_ok-count.count in
    let waiting = slice_range s.bytes s.from s.to in
    let bytes : c.between.result.now ≡ waiting = c.between.ensures in
    let long = range_size s.bytes s.from s.to c.self.invariant.in_buffer c.self.invariant.ordered in
    let size : count < s.to - s.from = omega (arith, c.in_ok-count.ensures.within, ap length bytes, long) in
    let line : c.between-2.result.now ≡ take count waiting =
    c.between-2.ensures ∙ ap (λ n. take n (drop s.from s.bytes)) (let e : (s.from + count) - s.from ≡ count = omega
    arith in
    e) ∙ sym (take-take count (s.to - s.from) (drop s.from s.bytes) (omega (arith, size))) in
    let past : s.from + (count + 1) ≡ s.from + count + 1 = omega arith in (
      (
        refl,
        λ _. tt,
        record {
          prefix = take (count + 1) waiting;
          whole = sym (ap (λ i. i.waiting) c.self.view_is)
              ∙ slice_range-front s.bytes s.from s.to (count + 1) (omega (arith, size, c.self.invariant.ordered))
              ∙ ap (λ n. take (count + 1) waiting ++ slice_range s.bytes n s.to) past;
          some = omega (arith, length-take (count + 1) waiting, long, size);
          unstarted = sym (ap (λ i. i.piece) c.self.view_is)
              ∙ none_if c.self.inside.cutter (λ h. true_or_false c.if-has_started.false (c.has_started.ensures.1 h));
          cut = subst (λ l. IsLine l (take (count + 1) waiting)) (sym line)
              (subst (λ l. IsLine (take count l) (take (count + 1) l)) bytes c.in_ok-count.ensures.line);
          rest = ap (λ (i : InputState). record i { waiting = slice_range s.bytes (s.from + count + 1) s.to })
              c.self.view_is;
        },
      ),
      record {
        after = tt;
        short = omega (arith, ap length line, length-take count waiting, c.in_ok-count.ensures.short);
      },
    )
