-- This file defines the status that the program exits with where there is no request to serve.
-- Main definitions: `usage_status` and `refusal_status`.
--     usage_status fault         where the options don't go together
--     refusal_status kind        where clap refuses the arguments, or shows the help or the version
use Rattle.std.specs.Prelude.{ℕ}
use Rattle.clap.specs.declared.error.ErrorKind.{ErrorKind}
use Rattle.clap.specs.declared.error.ErrorKind.TheVariants.{DisplayHelp, DisplayVersion, OutOfMemory}
use Rattle.ptb_options.specs.declared.usage.UsageFault.{UsageFault}
use Rattle.ptb_options.specs.declared.usage.UsageFault.TheVariants as usage

abbrev pub usage_status : UsageFault → ℕ
usage_status usage.Memory = 71
usage_status _ = 64

abbrev pub refusal_status : ErrorKind → ℕ
refusal_status DisplayHelp = 0
refusal_status DisplayVersion = 0
refusal_status OutOfMemory = 71
refusal_status _ = 64
