-- This file proves goals of `refusal_status` by short searches, so that a planted bug is refused soon.
use Rattle.std.proofs.Common.{rules}
use Rattle.ptb_options.proofs.command_line.refusal_status.Goals as goal

pub returns-in-DisplayHelp : goal.returns-in-DisplayHelp
returns-in-DisplayHelp c = search rules fits 50 depth 2

pub returns-in-DisplayVersion : goal.returns-in-DisplayVersion
returns-in-DisplayVersion c = search rules fits 50 depth 2
