-- How many atoms and how many `new` stand on a flow, which are those of its code.
use Rattle.std.specs.Prelude.{ℕ, ◌+◌, List, min}
use Rattle.pale_tables.specs.Faults.{Fault, ◌>>◌, first_of}
use Rattle.store_exec.specs.Fits.{news_of_item}
use Rattle.hoare_split.specs.declared.counts.Count.{Count}
use Rattle.hoare_split.specs.Flows.{Flow, ends, does, branches}
use Rattle.hoare_split.specs.Passages.{Started}
use Rattle.hoare_split.specs.Counts.{atoms_of_item}
use Rattle.hoare_split.specs.Triples.{start_fault}

abbrev pub atoms_on : Flow → ℕ
atoms_on (ends a) = 0
atoms_on (does i rest) = atoms_of_item i + atoms_on rest
atoms_on (branches line c taken other) = 1 + (atoms_on taken + atoms_on other)

abbrev pub news_on : Flow → ℕ
news_on (ends a) = 0
news_on (does i rest) = news_of_item i + news_on rest
news_on (branches line c taken other) = news_on taken + news_on other

-- both, where more than are allowed count as one more than are allowed
unfoldable pub count_of : Flow → Count
count_of flow = record { atoms = min 129 (atoms_on flow); news = min 65 (news_on flow) }

-- the fault, or a later one
abbrev pub or_later : Fault → Fault → Fault
or_later fault later = fault >> later

-- the first fault of the triples that start there, or a later one
abbrev pub first_fault : List Started → Fault → Fault
first_fault starts later = first_of start_fault starts >> later
