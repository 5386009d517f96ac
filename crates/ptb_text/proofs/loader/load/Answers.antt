-- This file answers what is left to prove of `load`.
use Rattle.std.proofs.Common.{◌≡◌, map, ap, ◌∙◌, arith}
use Rattle.std.proofs.lemmas.List.{take_at}
use Rattle.ptb_text.specs.Lines.{tab_as_space}
use Rattle.ptb_text.specs.Streams.{reads_of}
use Rattle.ptb_text.proofs.EnteredLines.{loaded, loaded_reads, loaded_sure, unread_loads, unread_reads, unread_sure}
use Rattle.ptb_text.proofs.loader.load.Goals as goal
use Rattle.ptb_text.proofs.loader.load.Goals.{After-enter_lines}

-- the text could not be read
pub returns-in_err-text : goal.returns-in_err-text
returns-in_err-text g c =
    let e = c.in_err-text.ensures in
    let given = c.from_residual.ensures.1 in
    record {
      loads = unread_loads c.args.memory _ _ e.whole.0 e.whole.1 c.from_residual.result given;
      reads = unread_reads (reads_of g.R.Read.remaining g.R.Read.given g.R.Read.failures c.args.reader.now
          c.program_text.new.reader) _ c.from_residual.result given e.reads;
      sure = λ reliable. unread_sure _ c.from_residual.result given (e.sure reliable);
    }

-- the lines that are entered are those of the text with its tabs written over
spaces : (g : _) (c : After-enter_lines g) → c.deref.result.now ≡ map tab_as_space c.in_ok-text.text.items
spaces g c =
    c.deref.ensures.value
    ∙ take_at c.tabs_to_spaces.new.text _ c.in_ok-text.text.len (c.tabs_to_spaces.auto.text ∙ c.deref_mut.ensures.len)
    ∙ c.tabs_to_spaces.ensures ∙ ap (map tab_as_space) c.deref_mut.ensures.value

-- its lines were entered
pub returns : goal.returns
returns g c =
    let e = c.in_ok-text.ensures in
    let lines = c.enter_lines.ensures in
    record {
      loads =
          loaded _ c.args.memory c.in_ok-text.text.items c.deref.result.now e.ok
          (spaces g (goal.at.returns g c).After-enter_lines) (omega (arith, e.short, c.in_ok-text.text.ok.0))
          c.new.result.memory (ap (λ p. p.memory) c.new.ensures) c.enter_lines.result lines.memory lines.ok
          lines.refused lines.memory_last lines.memory_line;
      reads = loaded_reads (reads_of g.R.Read.remaining g.R.Read.given g.R.Read.failures c.args.reader.now
          c.program_text.new.reader) c.in_ok-text.text e.reads _ c.enter_lines.result lines.memory_last;
      sure = λ _. loaded_sure _ c.enter_lines.result lines.memory_last;
    }
