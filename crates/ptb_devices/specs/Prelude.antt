-- This file passes on the definitions that the clauses of this crate cite most. It declares nothing.
pub use Rattle.std.proofs.Common.{rules}
pub use Rattle.std.proofs.lemmas.Grind.{common_steps}
pub use Rattle.std.specs.Borrow.{sem}
pub use Rattle.std.specs.Int.{w64, trailing_zeros}
pub use Rattle.std.specs.Io.BufRead.{Rests}
pub use Rattle.ptb_text.specs.Device.{HasFailed, TakesSome}
pub use Rattle.ptb_text.specs.Lines.{line_limit, clean_line, input_lines}
pub use Rattle.ptb_text.specs.Streams.{ReadsUpTo, reads_of}
pub use Rattle.ptb_text.specs.declared.device_fault.DeviceFault.{DeviceFault}
pub use Rattle.ptb_devices.specs.CutLines.{kept_bytes, IsLine, IsClean, line_of_piece, Cuts, AddsLines, StayUpTo}
pub use Rattle.ptb_devices.specs.Inputs.{fresh_input, fault_at, open_piece, input_now, CutsLine, CutsAll, TakesWhole}
pub use Rattle.ptb_devices.specs.Inputs.{ReadsOn, Refuses}
pub use Rattle.ptb_devices.specs.Screens.{screen_writer, IsScreenFault}
pub use Rattle.ptb_devices.specs.Sources.{Loses, NoneLeft, given_lines, ready_lines, LineList, Gives, IsSourceFault}
pub use Rattle.ptb_devices.specs.declared.line_buffer.InputEnd.TheVariants.{Open}
