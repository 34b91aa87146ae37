-- The reader's fault, whole, as the session's.
use Rattle.text.specs.declared.faults.ReadFault.{ReadFault}
use Rattle.session.specs.declared.faults.Fault.{Fault}
use Rattle.session.specs.declared.faults.Fault.TheVariants.{Script}

abbrev pub fault_of : ReadFault → Fault
fault_of f = Script f
