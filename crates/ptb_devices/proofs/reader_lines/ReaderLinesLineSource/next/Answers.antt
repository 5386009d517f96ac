-- This file answers what is left to prove of `ReaderLines::next`.
use Rattle.std.proofs.Common.{◌∙◌, refl, ap}
use Rattle.ptb_devices.specs.Inputs.{InputState, fault_at}
use Rattle.ptb_devices.specs.Readers.{input_of, line_input}
use Rattle.std.proofs.lemmas.Result.{err_from_is_err_and}
use Rattle.ptb_devices.proofs.GivenLines.{cut_asked, last_asked, line_given, all_cut, read_on}
use Rattle.ptb_devices.proofs.GivenLines.{last_given, none_given, none_more, none_left_before}
use Rattle.ptb_devices.proofs.GivenLines.{fault_reads, drained, refused_by_source, true_or_false}
use Rattle.ptb_devices.proofs.ContinuedReads.{ReadsOn_forget}
use Rattle.ptb_devices.proofs.reader_lines.ReaderLinesLineSource.next.Goals as goal

pub loop-self-init : goal.loop-self-init
loop-self-init g c = record {
  unfinished = ap (λ s. s.is_given) c.forget_given.ensures;
  same_fault = ap (λ (s : InputState). fault_at s.end) c.forget_given.ensures;
  same_borrow = refl;
  reads = rw c.forget_given.ensures
      (ReadsOn_forget 1 (input_of g.R.Read.remaining g.R.Read.given g.R.Read.failures c.args.self.now));
}

pub returns-in_err-fill : goal.returns-in_err-fill
returns-in_err-fill g c =
    let p = err_from_is_err_and c.from_residual.result c.from_residual.ensures.1 in
    let cut = all_cut _ _ c.loop-self.invariant.reads _ c.loop-self.invariant.unfinished c.loop-self-test.ensures in
    rw (p.1, p.2) (
      (
        refl,
        λ _. tt,
        (
          record {
            same_borrow = c.loop-self.invariant.same_borrow;
            reads = fault_reads _ _ _ c.in_err-fill.ensures.fault (read_on _ _ cut _ c.in_err-fill.ensures.on);
          },
          c.in_err-fill.ensures.fault,
          tt,
          tt,
          tt,
        ),
      ),
      record { after = tt; end = tt; kind = refused_by_source _ _ c.in_err-fill.ensures.fault; short = tt },
    )

pub returns-then-give_last : goal.returns-then-give_last
returns-then-give_last g c =
    let cut = all_cut _ _ c.loop-self.invariant.reads _ c.loop-self.invariant.unfinished c.loop-self-test.ensures in
    let on = c.in_ok-fill.ensures.on in
    let given = c.in_ok-fill.ensures.same_piece.1 ∙ ap (λ s. s.is_given) c.loop-self-test.ensures.rest in
    let ended = c.in_ok-fill.ensures.end c.if-not-branch.true in
    let none = drained _ _ on (ap (λ s. s.waiting) c.loop-self-test.ensures.rest) ended in (
      (
        refl,
        λ _. tt,
        (
          record {
            same_borrow = c.loop-self.invariant.same_borrow;
            reads = rw c.kept.ensures.value
                (last_given _ _ (read_on _ _ cut _ on) given none ended _ c.give_last.result c.give_last.ensures.given
                c.if-give_last.true (c.give_last.ensures.begun.0 c.if-give_last.true));
          },
          tt,
          tt,
          last_asked _ _ (read_on _ _ cut _ on) given none ended _ c.give_last.result c.give_last.ensures.given
              c.if-give_last.true _,
          tt,
        ),
      ),
      record { after = tt; end = tt; kind = tt; short = c.kept.ensures.short },
    )

pub returns-then-not-branch : goal.returns-then-not-branch
returns-then-not-branch g c =
    let cut = all_cut _ _ c.loop-self.invariant.reads _ c.loop-self.invariant.unfinished c.loop-self-test.ensures in
    let on = c.in_ok-fill.ensures.on in
    let given = c.in_ok-fill.ensures.same_piece.1 ∙ ap (λ s. s.is_given) c.loop-self-test.ensures.rest in
    let ended = c.in_ok-fill.ensures.end c.if-not-branch.true in
    let none = drained _ _ on (ap (λ s. s.waiting) c.loop-self-test.ensures.rest) ended in
    let last = none_given _ _ (read_on _ _ cut _ on) given none ended _ c.give_last.result c.give_last.ensures.given
    c.if-give_last.false
    (λ h. true_or_false c.if-give_last.false (c.give_last.ensures.begun.1 h)) in
    let more = none_more _ _ (read_on _ _ cut _ on) given none ended _ c.give_last.result c.give_last.ensures.given
    c.if-give_last.false
    (λ h. true_or_false c.if-give_last.false (c.give_last.ensures.begun.1 h)) in (
      (
        refl,
        λ _. tt,
        (record { same_borrow = c.loop-self.invariant.same_borrow; reads = last.0 }, tt, last.1, tt, more),
      ),
      record { after = tt; end = none_left_before _ _ last.0.loses last.1; kind = tt; short = tt },
    )

pub loop-self-preserved : goal.loop-self-preserved
loop-self-preserved g c =
    let cut = all_cut _ _ c.loop-self.invariant.reads _ c.loop-self.invariant.unfinished c.loop-self-test.ensures in
    record {
      unfinished = c.in_ok-fill.ensures.same_piece.1 ∙ ap (λ s. s.is_given) c.loop-self-test.ensures.rest;
      same_fault = c.in_ok-fill.ensures.same_fault
          ∙ ap (λ (s : InputState). fault_at s.end) c.loop-self-test.ensures.rest ∙ c.loop-self.invariant.same_fault;
      same_borrow = c.loop-self.invariant.same_borrow;
      reads = read_on _ _ cut _ c.in_ok-fill.ensures.on;
    }

pub returns : goal.returns
returns g c =
    let given = line_given _ _ c.loop-self.invariant.reads _ c.loop-self.invariant.unfinished
    c.loop-self-test.ensures in (
      (
        refl,
        λ _. tt,
        (
          record { same_borrow = c.loop-self.invariant.same_borrow; reads = rw c.kept-2.ensures.value given },
          tt,
          tt,
          cut_asked _ _ (line_input c.args.self.now) c.loop-self-test.ensures c.loop-self.invariant.same_fault,
          tt,
        ),
      ),
      record { after = tt; end = tt; kind = tt; short = c.kept-2.ensures.short },
    )
