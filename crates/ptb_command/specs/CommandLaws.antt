-- This file states how the parts of a command and the commands of a statement follow one another.
-- Main definition: `CommandLaws`.
--     CommandLaws                               the laws, in one record
--     let_round, input_round, print_round t     one round of the items of LET, INPUT and PRINT
use Rattle.std.specs.Prelude.{◌≡◌, ℕ, ◌+◌, ◌-◌, ◌<◌, true, false, List, [], ◌∷◌, length, Some, None, slice_get}
use Rattle.ptb_text.specs.declared.word.Word.{Word}
use Rattle.ptb_text.specs.Words.{is_over}
use Rattle.ptb_expr.specs.Reading.{Whole}
use Rattle.ptb_command.specs.Items.{Round, Last, Onward, with_others, items_within, items, Advances, LiesOn}
use Rattle.ptb_command.specs.Commands.{Part, Command, comma_round, assignment, print_item}
use Rattle.ptb_command.specs.Commands.{item_round, input_item, parts_of, command_at, command_round}
use Rattle.ptb_command.specs.Commands.{commands_from, commands}
use Rattle.ptb_command.specs.Places.{IsSamePlace, start_of_command, commands_after}

-- ---- parts and commands

-- the rounds of LET, INPUT and PRINT
abbrev pub let_round : List ℕ → ℕ → Round Part
let_round t i = comma_round t (assignment t i)

abbrev pub input_round : List ℕ → ℕ → Round Part
input_round t i = comma_round t (input_item t i)

abbrev pub print_round : List ℕ → ℕ → Round Part
print_round t i = item_round t (print_item t i)

pub record CommandLaws : Type 0 where
  -- a round that continues takes something
  pub let_advances : (t : List ℕ) → Advances t (let_round t)
  pub input_advances : (t : List ℕ) → Advances t (input_round t)
  pub print_advances : (t : List ℕ) → Advances t (print_round t)
  pub commands_advance : (t : List ℕ) → Advances t (command_round t)
  -- so items are read one after the other, with no bound on their number
  pub items_by_round :
      (t : List ℕ) (round : ℕ → Round Part) (i : ℕ) → Advances t round
      → items t round i ≡ with_others (items t round) (round i)
  pub enough_rounds :
      (t : List ℕ) (round : ℕ → Round Part) (n i : ℕ) → Advances t round → length t - i < n
      → items_within n round i ≡ items t round i
  pub commands_by_round : (t : List ℕ) (i : ℕ) → commands_from t i ≡ commands_after t (command_round t i)
  pub enough_commands :
      (t : List ℕ) (n i : ℕ) → length t - i < n
      → items_within n (command_round t) i ≡ items t (command_round t) i
  -- what is whole doesn't go back, and stays within the text
  pub parts_end :
      (word : Word) (t : List ℕ) (i e : ℕ) (parts : List Part) → parts_of word t i ≡ Whole parts e → LiesOn t i e
  -- an index and a byte place, from the statement's beginning on
  pub at_first : (t : List ℕ) → IsSamePlace t 0 0
  pub at_next :
      (t : List ℕ) (k b j : ℕ) (c : Command) → IsSamePlace t k b → command_round t b ≡ Onward c j
      → IsSamePlace t (k + 1) j
  pub at_last :
      (t : List ℕ) (k b e : ℕ) (c : Command) → IsSamePlace t k b → command_round t b ≡ Last (Whole (c ∷ []) e)
      → is_over t e ≡ true → IsSamePlace t (k + 1) e
  -- which command is there, if one is
  pub at_there :
      (t : List ℕ) (k b : ℕ) → IsSamePlace t k b → is_over t b ≡ false
      → slice_get (commands t) k ≡ Some (command_at t b)
  pub at_none : (t : List ℕ) (k b : ℕ) → IsSamePlace t k b → is_over t b ≡ true → slice_get (commands t) k ≡ None
  -- each command has a byte place, from which on the text lists it and those after it
  pub begins_at : (t : List ℕ) (k b : ℕ) → start_of_command t k ≡ Some b → IsSamePlace t k b
  pub begins :
      (t : List ℕ) (k : ℕ) (c : Command) → slice_get (commands t) k ≡ Some c
      → (b : ℕ) × (start_of_command t k ≡ Some b) × (is_over t b ≡ false) × (command_at t b ≡ c)
