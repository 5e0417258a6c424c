-- The host's fault in the result of a dump.
use Rattle.std.specs.Prelude.{Option, Some, None, Result, Ok, Err}
use Rattle.pm_model.specs.declared.host.HostFault.{HostFault}
use Rattle.graph_dump.specs.declared.fault.DumpFault.{DumpFault}
use Rattle.graph_dump.specs.declared.fault.DumpFault.TheVariants.{Memory, Host}

-- The host's fault, or None if there was no error or allocation failed.
abbrev pub fault_in : {T : Type 0} → Result T DumpFault → Option HostFault
fault_in (Ok x) = None
fault_in (Err Memory) = None
fault_in (Err (Host fault)) = Some fault
