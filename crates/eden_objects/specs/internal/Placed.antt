-- What the result of one put call is to an import.
use Rattle.std.specs.Prelude.{ℕ}
use Rattle.eden_objects.specs.declared.fault.PutFault.{PutFault}
use Rattle.eden_objects.specs.declared.fault.PutFault.TheVariants as puts
use Rattle.eden_objects.specs.declared.import.ImportFault.{ImportFault}
use Rattle.eden_objects.specs.declared.import.ImportFault.TheVariants as imports

abbrev pub fault_at : ℕ → PutFault → ImportFault
fault_at place puts.NoMemory = imports.NoMemory
fault_at place fault = imports.BadObject place fault
