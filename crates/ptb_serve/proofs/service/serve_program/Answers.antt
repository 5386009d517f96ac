-- This file answers how each mode serves a program that was loaded.
use Rattle.std.proofs.Common.{◌∙◌, ap, sym, refl}
use Rattle.ptb_machine.specs.SeededRuns.{seeded_answers}
use Rattle.ptb_machine.specs.Streams.{reads_of, writes_of}
use Rattle.ptb_options.specs.declared.request.Mode.TheVariants as modes
use Rattle.ptb_serve.specs.declared.shares.Shares.{Shares}
use Rattle.ptb_serve.proofs.Modes.{served_all, served_chances, served_plain}
use Rattle.ptb_serve.proofs.Modes.{served_sample, served_seeded, served_shares, served_unread}
use Rattle.ptb_serve.proofs.service.serve_program.Goals as goal

-- a run with a list of answers
pub returns-in-Plain : goal.returns-in-Plain
returns-in-Plain g c =
    let run = c.run_plain_to_end-ended.ensures in
    rw (c.run_attempt.ensures.mismatch, c.run_attempt.ensures.line) (served_plain c.args.request.now c.args.program.now
    (reads_of g.R.Read.remaining g.R.Read.given g.R.Read.failures c.args.input.now c.run_plain_to_end-ended.new.input)
    (writes_of g.W.Write.contents g.W.Write.failures c.args.out.now c.run_plain_to_end-ended.new.out)
    c.run_plain_to_end-ended.result c.run_attempt.result.served c.args.request.now.mode c.run_attempt.ensures.status
    c.requires.memory _ c.as_slice-answers.result.now c.in-Plain.is c.as_slice-answers.ensures
    (record { plays = run.plays; reads = run.reads }) run.memory run.line)

-- a run by a seed
pub run_attempt-requires-in-Seeded : goal.run_attempt-requires-in-Seeded
run_attempt-requires-in-Seeded g c =
    let run = c.run_seeded_to_end-ended.ensures in
    let seed = c.in-Seeded.seed in
    let request = c.args.request.now in
    let p = c.args.program.now in
    (run.plays (λ lines. seeded_answers seed p lines request.rules)
    (λ lines. run.laws.drawn seed p lines request.rules)).unspent

pub returns-in-Seeded : goal.returns-in-Seeded
returns-in-Seeded g c =
    let run = c.run_seeded_to_end-ended.ensures in
    let attempt = c.run_attempt-in-Seeded in
    let seed = c.in-Seeded.seed in
    let request = c.args.request.now in
    let p = c.args.program.now in
    rw (attempt.ensures.mismatch, attempt.ensures.line) (served_seeded request p
    (reads_of g.R.Read.remaining g.R.Read.given g.R.Read.failures c.args.input.now c.run_seeded_to_end-ended.new.input)
    (writes_of g.W.Write.contents g.W.Write.failures c.args.out.now c.run_seeded_to_end-ended.new.out)
    c.run_seeded_to_end-ended.result attempt.result.served request.mode attempt.ensures.status c.requires.memory seed
    c.in-Seeded.is
    (record {
      plays = run.plays (λ lines. seeded_answers seed p lines request.rules)
          (λ lines. run.laws.drawn seed p lines request.rules);
      reads = run.reads;
    })
    (run.memory (λ lines. seeded_answers seed p lines request.rules)
    (λ lines. run.laws.drawn seed p lines request.rules))
    (run.line (λ lines. seeded_answers seed p lines request.rules)
    (λ lines. run.laws.drawn seed p lines request.rules)))

-- a listing of its runs
pub returns-in-All : goal.returns-in-All
returns-in-All g c =
    let l = c.list_runs.ensures in
    rw l.no_line (served_all c.args.request.now c.args.program.now
    (reads_of g.R.Read.remaining g.R.Read.given g.R.Read.failures c.args.input.now c.list_runs.new.input)
    (writes_of g.W.Write.contents g.W.Write.failures c.args.out.now c.list_runs.new.out)
    c.list_runs.result.served c.list_runs.result.mismatch c.args.request.now.mode _ _ _ _
    (c.in-All.is ∙ sym c.new-listing.ensures) l.serves l.reads l.failures l.mismatch)

-- the lists that split its runs
pub returns-in-Shares : goal.returns-in-Shares
returns-in-Shares g c =
    rw c.without_mismatch.ensures (served_shares c.args.request.now c.args.program.now _ _ c.list_shares-served.result
    c.args.request.now.mode _ _
    (c.in-Shares.is ∙ ap (λ (s : Shares). modes.Shares s.answers s.form) (sym c.new-shares.ensures))
    c.list_shares-served.ensures)

-- a sample of its runs
pub returns-in-Sample : goal.returns-in-Sample
returns-in-Sample g c =
    rw c.without_mismatch-in-Sample.ensures (served_sample c.args.request.now c.args.program.now _ _
    c.list_sample-served.result c.args.request.now.mode _ _ _ c.in-Sample.is c.list_sample-served.ensures)

-- a listing of its text
pub returns-in-List : goal.returns-in-List
returns-in-List g c =
    rw c.without_mismatch-in-List.ensures (served_unread c.args.request.now c.args.program.now c.args.input.now
    (g.R.Read.remaining c.args.input.now) (g.R.Read.failures c.args.input.now) (g.R.Read.given c.args.input.now)
    (writes_of g.W.Write.contents g.W.Write.failures c.args.out.now c.list_text.new.out) c.list_text.result
    c.args.request.now.mode modes.List c.in-List.is (λ x. x) (λ x. x) (λ lines. refl) c.requires.memory
    c.list_text.ensures)

-- the table of its chances
pub returns-in-Chances : goal.returns-in-Chances
returns-in-Chances g c =
    rw c.without_mismatch-in-Chances.ensures (served_chances c.args.request.now c.args.program.now _ _
    c.list_table.result c.args.request.now.mode c.in-Chances.is c.list_table.ensures)

-- the mistakes in its text
pub returns-in-Check : goal.returns-in-Check
returns-in-Check g c =
    rw c.without_mismatch-in-Check.ensures (served_unread c.args.request.now c.args.program.now c.args.input.now
    (g.R.Read.remaining c.args.input.now) (g.R.Read.failures c.args.input.now) (g.R.Read.given c.args.input.now)
    (writes_of g.W.Write.contents g.W.Write.failures c.args.out.now c.list_mistakes.new.out) c.list_mistakes.result
    c.args.request.now.mode modes.Check c.in-Check.is (λ x. x) (λ x. x) (λ lines. refl) c.requires.memory
    c.list_mistakes.ensures)
