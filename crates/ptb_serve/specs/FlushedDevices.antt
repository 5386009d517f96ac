-- This file defines what the writer of standard output writes to.
-- Main definition: `flushed_device`.
--     flushed_device f     the device that is flushed after each write
use Rattle.ptb_text.specs.declared.device.Device.{Device}
use Rattle.ptb_serve.specs.declared.flushing_writer.FlushingWriter.{FlushingWriter}

abbrev pub flushed_device : {W : Type 0} → FlushingWriter W → Device W
flushed_device f = f.device
