-- This file defines which fault of a run the fault of a device is.
-- Main definition: `fault_of_device`.
--     fault_of_device fault     this fault of a device as the fault of a step, and of a run
use Rattle.ptb_text.specs.declared.device_fault.DeviceFault.{DeviceFault}
use Rattle.ptb_text.specs.declared.device_fault.DeviceFault.TheVariants as devices
use Rattle.ptb_machine.specs.declared.fault.RunFault.{RunFault}
use Rattle.ptb_machine.specs.declared.fault.RunFault.TheVariants as faults

abbrev pub fault_of_device : DeviceFault → RunFault
fault_of_device devices.Read = faults.Read
fault_of_device devices.TooLong = faults.Read
fault_of_device devices.Write = faults.Write
fault_of_device devices.Memory = faults.Memory
