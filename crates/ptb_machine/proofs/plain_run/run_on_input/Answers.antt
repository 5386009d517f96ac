-- This file answers what is known of a run on an input, by whether the source of its lines has come to a fault.
use Rattle.std.proofs.Common.{sym, ◌∙◌}
use Rattle.ptb_machine.specs.Runs.{ending_alone}
use Rattle.ptb_machine.proofs.ReaderRuns.{concluded, has_line, ran_unread, ran_whole}
use Rattle.ptb_machine.proofs.plain_run.run_on_input.Goals as goal

-- it has come to one
pub returns-in-Some : goal.returns-in-Some
returns-in-Some g c =
    let ran =
    ran_unread g.R.Read.remaining g.R.Read.given g.R.Read.failures g.W.Write.contents g.W.Write.failures
    c.args.program.now c.args.rules (g.C.Chooser.refused c.run_to_end-ended.new.chooser.chooser)
    c.run_to_end-ended.new.chooser.refused (g.C.Chooser.choices c.args.chooser.now.chooser)
    (g.C.Chooser.choices c.run_to_end-ended.new.chooser.chooser)
    c.new-source.result c.run_to_end-ended.new.source c.args.input.now c.input-1.given.0 c.new-screen.result.writer
    c.run_to_end-ended.new.screen.writer c.args.out.now c.out-1.given.0 c.run_to_end-ended.ensures.run.given
    (ending_alone c.run_to_end-ended.result)
    c.new-source.ensures.input c.new-source.ensures.reader c.run_to_end-ended.ensures.run.gives
    (λ e. c.input-1.given.1 (sym c.new-source.ensures.same_borrow ∙ sym e))
    c.new-screen.ensures.writer (λ e. c.out-1.given.1 (sym c.new-screen.ensures.same_borrow ∙ e))
    c.run_to_end-ended.ensures.run.runs c.run_to_end-ended.ensures.run.missed
    c.in-Some.fault (sym c.fault.ensures ∙ c.in-Some.is) c.from.result c.from.ensures
    in
    record { plays = ran.plays; refused = ran.refused; memory = ran.memory; reads = ran.reads; line = λ _ _. tt }

-- it has come to none
pub returns-in-None : goal.returns-in-None
returns-in-None g c =
    let ran =
    ran_whole g.R.Read.remaining g.R.Read.given g.R.Read.failures g.W.Write.contents g.W.Write.failures
    c.args.program.now c.args.rules (g.C.Chooser.refused c.run_to_end-ended.new.chooser.chooser)
    c.run_to_end-ended.new.chooser.refused (g.C.Chooser.choices c.args.chooser.now.chooser)
    (g.C.Chooser.choices c.run_to_end-ended.new.chooser.chooser)
    c.new-source.result c.run_to_end-ended.new.source c.args.input.now c.input-1.given.0 c.new-screen.result.writer
    c.run_to_end-ended.new.screen.writer c.args.out.now c.out-1.given.0 c.run_to_end-ended.ensures.run.given
    (ending_alone c.run_to_end-ended.result)
    c.new-source.ensures.input c.new-source.ensures.reader c.run_to_end-ended.ensures.run.gives
    (λ e. c.input-1.given.1 (sym c.new-source.ensures.same_borrow ∙ sym e))
    c.new-screen.ensures.writer (λ e. c.out-1.given.1 (sym c.new-screen.ensures.same_borrow ∙ e))
    c.run_to_end-ended.ensures.run.runs c.run_to_end-ended.ensures.run.missed
    (sym c.fault.ensures ∙ c.in-None.is) (ending_alone c.conclude.result) c.conclude.ensures.result
    in
    record {
      plays = ran.plays;
      refused = ran.refused;
      memory = ran.memory;
      reads = ran.reads;
      line = λ answers goes.
          concluded _ _ c.conclude.result c.run_to_end-ended.result c.conclude.ensures.end
          (λ end h. has_line g.R.Read.remaining g.R.Read.given g.R.Read.failures g.W.Write.contents g.W.Write.failures
          c.args.program.now c.args.rules (g.C.Chooser.refused c.run_to_end-ended.new.chooser.chooser)
          c.run_to_end-ended.new.chooser.refused (g.C.Chooser.choices c.args.chooser.now.chooser)
          (g.C.Chooser.choices c.run_to_end-ended.new.chooser.chooser)
          c.new-source.result c.run_to_end-ended.new.source c.args.input.now c.input-1.given.0
          c.new-screen.result.writer c.run_to_end-ended.new.screen.writer c.args.out.now c.out-1.given.0
          c.run_to_end-ended.ensures.run.given (ending_alone c.run_to_end-ended.result)
          c.new-source.ensures.input c.new-source.ensures.reader c.run_to_end-ended.ensures.run.gives
          (λ e. c.input-1.given.1 (sym c.new-source.ensures.same_borrow ∙ sym e))
          c.new-screen.ensures.writer (λ e. c.out-1.given.1 (sym c.new-screen.ensures.same_borrow ∙ e))
          c.run_to_end-ended.ensures.run.runs c.run_to_end-ended.ensures.run.missed end h answers goes)
          c.run_to_end-ended.ensures.line;
    }
