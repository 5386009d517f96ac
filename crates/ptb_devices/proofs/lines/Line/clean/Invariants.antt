-- This file says what the loops of `Line::clean` keep.
use Rattle.std.proofs.Common.{◌≡◌, take}
use Rattle.ptb_text.specs.Lines.{clean_line}
use Rattle.ptb_devices.specs.CutLines.{kept_bytes}
use Rattle.ptb_devices.proofs.lines.Line.clean.Given as goal

-- of the bytes before the index it keeps what the cleaned line keeps
abbrev pub invariant-loop-byte : goal.invariant-loop-byte
invariant-loop-byte l = kept_bytes l.cutter ≡ clean_line (take l.byte-index l.bytes)
