-- The search ends: with each turn fewer goals are left to settle, or as many, and fewer wait.
use Rattle.std.specs.Prelude.{ℕ, zero, suc, ◌+◌, ◌*◌, ◌^◌, ◌<◌, Bool, false, Option, Some, None, if◌then◌else◌}
use Rattle.std.specs.BinaryHeap.{heap_len}
use Rattle.gta_witness.specs.declared.goal.Goal.{Goal}
use Rattle.gta_witness.specs.declared.goal.Goal.TheVariants.{State, Node, Row, Column}
use Rattle.gta_witness.specs.declared.goal.Found.{Found}
use Rattle.gta_witness.specs.declared.relax.Search.{Search}
use Rattle.gta_witness.specs.declared.search.Turn.{Turn}
use Rattle.gta_witness.specs.declared.search.Turn.TheVariants.{More, Over, Accepting}
use Rattle.gta_witness.specs.Searching.{Findings, found_by}

-- whether what is found is settled
abbrev pub is_settled_in : Option Found → Bool
is_settled_in None = false
is_settled_in (Some entry) = entry.is_settled

-- how many numbers below a bound fail the test
unfoldable pub failing : (ℕ → Bool) → ℕ → ℕ
failing test zero = 0
failing test (suc n) = (if test n then 0 else 1) + failing test n

-- how many pairs of numbers fail it, the first below one bound and the second below another
unfoldable pub failing_pairs : (ℕ → ℕ → Bool) → ℕ → ℕ → ℕ
failing_pairs test bound zero = 0
failing_pairs test bound (suc n) = failing (test n) bound + failing_pairs test bound n

-- how many goals of a kind aren't settled; their numbers have 32 bits
unfoldable pub unsettled_of : Findings → (ℕ → ℕ → Goal) → ℕ
unsettled_of found kind = failing_pairs (λ s i. is_settled_in (found (kind s i))) (2 ^ 32) (2 ^ 32)

-- how many goals aren't settled
unfoldable pub unsettled : Findings → ℕ
unsettled found = unsettled_of found State + unsettled_of found Node + unsettled_of found Row + unsettled_of found Column

-- a number that falls with each turn: the queue has room for fewer than 2^63
abbrev pub turns_left : Search → ℕ
turns_left search = unsettled (found_by search) * 2 ^ 63 + heap_len search.queue

-- where the search goes on, fewer turns are left
abbrev pub IsNearer : ℕ → ℕ → Turn → Type 0
IsNearer before after More = after < before
IsNearer before after Over = Unit {0}
IsNearer before after (Accepting state weight) = Unit {0}

-- the numbers of a goal have 32 bits
abbrev pub HasBits : Goal → Type 0
HasBits (State s q) = (s < 2 ^ 32) × (q < 2 ^ 32)
HasBits (Node s i) = (s < 2 ^ 32) × (i < 2 ^ 32)
HasBits (Row s class) = (s < 2 ^ 32) × (class < 2 ^ 32)
HasBits (Column s class) = (s < 2 ^ 32) × (class < 2 ^ 32)
