-- This file defines the state of a run.
-- Main definition: `State`.
--     State                            the place, what is stored and open, the lines left, what was shown, the steps
--     first_state p input choose       where a run begins
--     next_command p place             the command that is next at a place, with its own place
use Rattle.std.specs.Prelude.{ℕ, ◌+◌, if◌then◌else◌, List, [], length, Option, Some, None, is_some, unwrap_or}
use Rattle.std.specs.Prelude.{ℤ, pos, negsuc, sum_by, slice_get, option_map}
use Rattle.ptb_text.specs.Statements.{Statements, StoredProgram, text_at, first_number, number_after, size_of}
use Rattle.ptb_expr.specs.Store.{Cells, empty_cells}
use Rattle.ptb_command.specs.Commands.{Command, commands}

-- a statement's number, and the index of one of its commands; at the count of its commands the next statement is meant
pub record Place : Type 0 where
  pub number : ℕ
  pub index : ℕ

-- an open FOR: its variable, limit and step, and the place after it
pub record Loop : Type 0 where
  pub letter : ℕ
  pub limit : ℤ
  pub step : ℤ
  pub back : Place

-- an open GOSUB: the place to return to, and the loops of the level from which it was called, newest first
pub record Call : Type 0 where
  pub back : Place
  pub loops : List Loop

-- where a run is: at the end no place is left; the loops of the newest level, newest first; the calls, newest
-- first; what is left of the input, what was shown, how many commands were begun; and, as long as the run lasts, the
-- bound with which
-- INPUT asks for an answer where no line is left, if it does
pub record State : Type 0 where
  pub place : Option Place
  pub cells : Cells
  pub loops : List Loop
  pub calls : List Call
  pub lines : List (List ℕ)
  pub shown : List ℕ
  pub steps : ℕ
  pub choose : Option ℤ

-- how many loops and calls are open
abbrev pub nesting : State → ℕ
nesting S = length S.loops + sum_by (λ c. length c.loops + 1) S.calls

-- how many may be open together
abbrev pub nesting_limit : ℕ
nesting_limit = 256

-- ---- places

abbrev pub start_of : ℕ → Place
start_of n = record { number = n; index = 0 }

abbrev pub first_place : Statements → Option Place
first_place p = option_map start_of (first_number p)

-- the beginning of the statement after number n
abbrev pub place_after : Statements → ℕ → Option Place
place_after p n = option_map start_of (number_after p n)

-- the beginning of the statement of a number, if there is one
abbrev pub statement : Statements → ℤ → Option Place
statement p (pos n) = if is_some (text_at p n) then Some (start_of n) else None
statement p (negsuc n) = None

abbrev pub next_index : Place → Place
next_index q = record { number = q.number; index = q.index + 1 }

-- a statement's text; empty where there is no such statement
abbrev pub text_of : Statements → ℕ → List ℕ
text_of p n = unwrap_or (text_at p n) []

abbrev pub command_there : Statements → Place → Option Command
command_there p q = slice_get (commands (text_of p q.number)) q.index

-- a command, beside its place
abbrev pub placed_at : Place → Option Command → Option (Place × Command)
placed_at q c = option_map (λ c. (q, c)) c

abbrev pub first_command : Statements → Option Place → Option (Place × Command)
first_command p None = None
first_command p (Some q) = placed_at q (command_there p q)

-- the command at its index, or the first of the next statement
abbrev pub command_or_next : Statements → Place → Option Command → Option (Place × Command)
command_or_next p q (Some c) = Some (q, c)
command_or_next p q None = first_command p (place_after p q.number)

unfoldable pub next_command : Statements → Option Place → Option (Place × Command)
next_command p None = None
next_command p (Some q) = command_or_next p q (command_there p q)

-- ---- the first state

-- a run starts at the least number, with zeros everywhere and nothing open
abbrev pub first_state : StoredProgram → List (List ℕ) → Option ℤ → State
first_state p input choose = record {
  place = first_place p.lines;
  cells = empty_cells (pos (size_of p));
  loops = [];
  calls = [];
  lines = input;
  shown = [];
  steps = 0;
  choose = choose;
}
