-- This file defines what a machine holds, as contracts see it.
-- Main definition: `Configuration`.
--     Configuration                        the record that contracts see of a machine
--     configuration r steps fresh spent    the configuration with these registers
use Rattle.std.specs.Prelude.{ℕ, Bool, List, Option}
use Rattle.ptb_expr.specs.Store.{Cells}
use Rattle.ptb_command.specs.declared.location.Location.{Location}
use Rattle.ptb_command.specs.declared.stack.Open.{Open}
use Rattle.ptb_command.specs.declared.registers.Registers.{Registers}

pub record Configuration : Type 0 where
  -- the next command, if one is left
  pub place : Option Location
  pub cells : Cells
  -- the open loops and calls, newest first
  pub stack : List Open
  -- how many commands were begun
  pub steps : ℕ
  -- whether nothing was shown, or a newline last
  pub fresh : Bool
  -- whether the run is over
  pub spent : Bool

-- these registers; how many commands were begun; whether the transcript is fresh; and whether the run is over
abbrev pub configuration : Registers → ℕ → Bool → Bool → Configuration
configuration r steps fresh spent = record {
  place = r.place;
  cells = r.store;
  stack = r.stack;
  steps = steps;
  fresh = fresh;
  spent = spent;
}
