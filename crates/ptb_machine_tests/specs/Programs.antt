-- This file defines two programs whose commands are at the same places.
-- Main definitions: `IsCounting` and `IsPrinting`.
--     IsCounting p     the program of a sum, done again and again
--     IsPrinting p     the program of an empty line, shown again and again
use Rattle.std.specs.Prelude.{◌≡◌, codes, Ok}
use Rattle.ptb_text.specs.Statements.{StoredProgram, program}

abbrev pub IsCounting : StoredProgram → Type 0
IsCounting p = program 4096 (codes "10 A=A+1\n20 GOTO 10") ≡ Ok p.lines

abbrev pub IsPrinting : StoredProgram → Type 0
IsPrinting p = program 4096 (codes "10 PRINT\n20 GOTO 10") ≡ Ok p.lines
