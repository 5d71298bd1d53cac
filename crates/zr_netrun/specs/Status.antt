-- The numbers of the statuses.
use Rattle.std.specs.Prelude.{ℕ}
use Rattle.zr_netrun.specs.declared.status.Status.{Status}
use Rattle.zr_netrun.specs.declared.status.Status.TheVariants.{Done, Refused, Words, NoMemory, ReadFault, WriteFault, HostFault}

abbrev pub number_of : Status → ℕ
number_of Done = 0
number_of Refused = 1
number_of Words = 2
number_of NoMemory = 3
number_of ReadFault = 4
number_of WriteFault = 5
number_of HostFault = 6
