-- This file answers that the runs of each program have the laws of trees, of listings, of shares, of the lists that
-- split them and of samples.
use Rattle.ptb_explore.proofs.ListingLaws.{listing_laws}
use Rattle.ptb_explore.proofs.ReportAnswers.{report_laws}
use Rattle.ptb_explore.proofs.Samples.{sample_laws}
use Rattle.ptb_explore.proofs.Shares.{share_laws}
use Rattle.ptb_explore.proofs.StoppedPlays.{beginning_laws}
use Rattle.ptb_explore.proofs.Tree.{tree_laws}
use Rattle.ptb_explore.proofs.laws.program_laws.Goals as goal

pub returns-clause-tree : goal.returns-clause-tree
returns-clause-tree c = λ p input rules. tree_laws _ _ (c.run_laws.ensures.reads p input rules)

pub returns-clause-listing : goal.returns-clause-listing
returns-clause-listing c = λ p input rules. listing_laws _ _ (c.run_laws.ensures.reads p input rules)

pub returns-clause-share : goal.returns-clause-share
returns-clause-share c = λ p input rules. share_laws _ _ (c.run_laws.ensures.reads p input rules)

pub returns-clause-beginning : goal.returns-clause-beginning
returns-clause-beginning c = λ p input rules n. beginning_laws _ n _ (c.run_laws.ensures.reads p input rules)

pub returns-clause-report : goal.returns-clause-report
returns-clause-report c = λ p input rules. report_laws _ _ (c.run_laws.ensures.reads p input rules)

pub returns-clause-sample : goal.returns-clause-sample
returns-clause-sample c = λ p input rules. sample_laws _ _ (c.run_laws.ensures.reads p input rules)
