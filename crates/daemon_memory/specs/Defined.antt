-- What the daemon replies to the definition of a type, by what became of it.
use Rattle.std.specs.Prelude.{Result, Ok, Err}
use Rattle.pm_model.specs.declared.host.HostFault.{HostFault}
use Rattle.pud_defs.specs.declared.machine.Refusal.TheVariants as refusals
use Rattle.pud_defs.specs.declared.machine.Reply.{Reply}
use Rattle.pud_defs.specs.declared.machine.Reply.TheVariants as replies
use Rattle.type_maps.specs.declared.TypeFault.{TypeFault}
use Rattle.type_maps.specs.declared.TypeFault.TheVariants as faults

abbrev pub reply_of_definition : Result (Unit {0}) TypeFault → Result Reply HostFault
reply_of_definition (Ok x) = Ok replies.Ok
reply_of_definition (Err faults.Clash) = Ok (replies.No refusals.Clash)
reply_of_definition (Err faults.Full) = Ok (replies.No refusals.Full)
reply_of_definition (Err (faults.Host fault)) = Err fault
