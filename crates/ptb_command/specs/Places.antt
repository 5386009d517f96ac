-- This file defines where in the text of a statement its commands begin.
-- Main definition: `IsSamePlace`.
--     IsSamePlace t k b        index k among the commands of t, and byte place b in t, are one place
--     start_of_command t k     the byte place at which the command of index k begins
--     commands_after t r       the commands that a round reads, and those after it
use Rattle.std.specs.Prelude.{◌≡◌, ℕ, zero, suc, ◌≤◌, List, ◌∷◌, length, drop, Option, Some, None}
use Rattle.std.specs.Option.{option_and_then}
use Rattle.ptb_expr.specs.Reading.{item_of}
use Rattle.ptb_command.specs.Items.{Round, Last, Onward}
use Rattle.ptb_command.specs.Commands.{Command, command_round, commands_from, commands}

-- from there on the same commands are left
pub record IsSamePlace (t : List ℕ) (k b : ℕ) : Type 0 where
  pub left : drop k (commands t) ≡ commands_from t b
  pub within : b ≤ length t

-- where the next round reads, if there is one
abbrev pub next_place : Round Command → Option ℕ
next_place (Last r) = None
next_place (Onward c j) = Some j

unfoldable pub start_of_command : List ℕ → ℕ → Option ℕ
start_of_command t zero = Some 0
start_of_command t (suc k) = option_and_then (λ b. next_place (command_round t b)) (start_of_command t k)

abbrev pub commands_after : List ℕ → Round Command → List Command
commands_after t (Last r) = item_of r
commands_after t (Onward c j) = c ∷ commands_from t j
