-- This file answers that the reports of a sample are written, and which runs it has.
use Rattle.std.proofs.Common.{rules}
use Rattle.ptb_answers.specs.Seeds.{generator_of}
use Rattle.ptb_machine.specs.Play.{play}
use Rattle.ptb_machine.specs.Questions.{most_answers}
use Rattle.ptb_explore.specs.Report.{report}
use Rattle.ptb_explore.proofs.Samples.{refused_at_first, sample_laws}
use Rattle.ptb_explore.proofs.sampler.write_sample.Goals as goal

pub returns-then-runs-eq0-clause-laws : goal.returns-then-runs-eq0-clause-laws
returns-then-runs-eq0-clause-laws g c =
    sample_laws _ _ (c.run_laws.ensures.reads c.args.program.now c.args.lines.now c.args.rules)

pub returns-in-Ok-clause-laws : goal.returns-in-Ok-clause-laws
returns-in-Ok-clause-laws g c =
    sample_laws _ _ (c.run_laws.ensures.reads c.args.program.now c.args.lines.now c.args.rules)

pub returns-in-Err-clause-laws : goal.returns-in-Err-clause-laws
returns-in-Err-clause-laws g c =
    sample_laws _ _ (c.run_laws.ensures.reads c.args.program.now c.args.lines.now c.args.rules)

pub returns-in-Err-clause-writes : goal.returns-in-Err-clause-writes
returns-in-Err-clause-writes g c =
    refused_at_first (play c.args.program.now c.args.lines.now c.args.rules)
    (most_answers c.args.program.now c.args.lines.now c.args.rules.limit)
    (report c.args.sample.form (play c.args.program.now c.args.lines.now c.args.rules))
    (generator_of c.args.sample.seed) c.args.sample.runs _ (λ none. c.if-runs-eq0.false none)

pub returns-then-runs-eq0-clause-writes : goal.returns-then-runs-eq0-clause-writes
returns-then-runs-eq0-clause-writes g c = search rules

pub returns-then-runs-eq0-clause-failed : goal.returns-then-runs-eq0-clause-failed
returns-then-runs-eq0-clause-failed g c = search rules fits 50 depth 2

pub returns-then-runs-eq0-clause-unfailed : goal.returns-then-runs-eq0-clause-unfailed
returns-then-runs-eq0-clause-unfailed g c = search rules fits 50 depth 2

pub write_runs-requires : goal.write_runs-requires
write_runs-requires g c = search rules fits 50 depth 2

pub returns-in-Ok-clause-writes : goal.returns-in-Ok-clause-writes
returns-in-Ok-clause-writes g c = search rules

pub returns-in-Ok-clause-failed : goal.returns-in-Ok-clause-failed
returns-in-Ok-clause-failed g c = search rules fits 50 depth 2

pub returns-in-Ok-clause-unfailed : goal.returns-in-Ok-clause-unfailed
returns-in-Ok-clause-unfailed g c = search rules fits 50 depth 2

pub returns-in-Err-clause-failed : goal.returns-in-Err-clause-failed
returns-in-Err-clause-failed g c = search rules fits 50 depth 2

pub returns-in-Err-clause-unfailed : goal.returns-in-Err-clause-unfailed
returns-in-Err-clause-unfailed g c = search rules fits 50 depth 2
