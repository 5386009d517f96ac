-- This file defines what a screen holds.
-- Main definition: `screen_writer`.
--     screen_writer s          the reference to the writer that a screen shows its bytes to
--     IsScreenFault fault      a screen can have this fault
use Rattle.std.specs.Borrow.{MutBor}
use Rattle.ptb_text.specs.declared.device_fault.DeviceFault.{DeviceFault}
use Rattle.ptb_text.specs.declared.device_fault.DeviceFault.TheVariants as faults
use Rattle.ptb_devices.specs.declared.screen.WriterScreen.{WriterScreen}

abbrev pub screen_writer : {W : Type 0} → WriterScreen W → MutBor W
screen_writer s = s.writer

-- its writer failed, or memory was refused
abbrev pub IsScreenFault : DeviceFault → Type 0
IsScreenFault faults.Write = Unit {0}
IsScreenFault faults.Memory = Unit {0}
IsScreenFault _ = ⊥
