-- This file defines what the fields of a program show, and what they keep.
-- Main definition: `stored_program`.
--     text_in pool s               the text of a statement: a part of the pool
--     stored_program p             the texts of the statements under their numbers, and the memory
--     lengths ss                   how long the texts of statements are together
--     laid_out place ss            statements whose texts are directly one after the other, from a place on
--     texts_length p               how long the texts of a program are together
--     IsKept p                     the program is sound, and its statements cut the pool into their texts without gaps
use Rattle.std.specs.Prelude.{◌≡◌, ℕ, ◌+◌, List, [], ◌∷◌, length, map, sum_by, slice_range}
use Rattle.ptb_text.specs.declared.program.Statement.{Statement}
use Rattle.ptb_text.specs.declared.program.Program.TheInside.{Inside}
use Rattle.ptb_text.specs.Statements.{Statements, StoredProgram, IsSound}

abbrev pub text_in : List ℕ → Statement → List ℕ
text_in pool s = slice_range pool s.place (s.place + s.length)

abbrev pub stored_program : Inside → StoredProgram
stored_program p =
    record { lines = map (λ s. (s.number, text_in p.pool.items s)) p.statements.items; memory = p.memory }

abbrev pub lengths : List Statement → ℕ
lengths ss = sum_by (λ s. s.length) ss

abbrev pub texts_length : Statements → ℕ
texts_length p = sum_by (λ s. length s.1) p

-- the first text begins at the place, and each other one where the one before it ends
abbrev pub laid_out : ℕ → List Statement → List Statement
laid_out place [] = []
laid_out place (s ∷ ss) = record s { place = place } ∷ laid_out (place + s.length) ss

-- the texts follow one another from the pool's beginning to its end
pub record IsKept (p : Inside) : Type 0 where
  pub sound : IsSound (stored_program p)
  pub without_gaps : p.statements.items ≡ laid_out 0 p.statements.items
  pub to_the_end : length p.pool.items ≡ lengths p.statements.items
