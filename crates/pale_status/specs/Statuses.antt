-- The numbers of the statuses.
use Rattle.std.specs.Prelude.{ℕ}
use Rattle.pale_status.specs.declared.status.Status.{Status}
use Rattle.pale_status.specs.declared.status.Status.TheVariants.{Good, Bad, Words, Text, Limit, Memory, ReadFault, WriteFault}

abbrev pub number_of : Status → ℕ
number_of Good = 0
number_of Bad = 1
number_of Words = 2
number_of Text = 3
number_of Limit = 4
number_of Memory = 5
number_of ReadFault = 6
number_of WriteFault = 7
