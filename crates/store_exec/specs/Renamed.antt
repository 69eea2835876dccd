-- Runs of two stores that are the same but for the names of their cells.
use Rattle.std.specs.Prelude.{◌≡◌, ℕ, zero, suc, ◌+◌, ◌<◌, List, ◌∷◌, Result, Ok, Err}
use Rattle.store_core.specs.declared.ids.CellId.{CellId}
use Rattle.store_core.specs.Stores.{StoreMap}
use Rattle.routing_walks.specs.Pairing.{IsPair, ArePaired}
use Rattle.store_exec.specs.declared.cause.Cause.{Cause}
use Rattle.store_exec.specs.declared.outcome.Outcome.{Outcome}
use Rattle.store_exec.specs.declared.outcome.Outcome.TheVariants as outcome

-- the stores are the same but for the pairs, which are of numbers below the next ones
pub record AreRenamed (pairs : List (CellId × CellId)) (s t : StoreMap) : Type 0 where
  pub paired : ArePaired (IsPair pairs) s t
  pub below : (c d : CellId) → IsPair pairs c d → (c.0 < s.next) × (d.0 < t.next)

-- the pairs, and so many more: of the cells from m on with those from n on
abbrev pub with_new : List (CellId × CellId) → ℕ → ℕ → ℕ → List (CellId × CellId)
with_new pairs m n zero = pairs
with_new pairs m n (suc count) = with_new ((record { 0 = m }, record { 0 = n }) ∷ pairs) (m + 1) (n + 1) count

-- s and t were the same but for the pairs, and their next stores are so too: both have made as many cells, and the pairs of these,
-- in the order in which they were made, are new
pub record StayRenamed (pairs : List (CellId × CellId)) (s t next other : StoreMap) : Type 0 where
  pub made : ℕ
  pub number : next.next ≡ s.next + made
  pub other_number : other.next ≡ t.next + made
  pub renamed : AreRenamed (with_new pairs s.next t.next made) next other

-- two values of which this is so, or the same cause
abbrev pub Alike : {X Y : Type 0} → (X → Y → Type 0) → Result X Cause → Result Y Cause → Type 0
Alike K (Ok x) (Ok y) = K x y
Alike K (Err why) (Err other) = why ≡ other
Alike K _ _ = ⊥

-- the same cut with stores that are so, or the same cause at the same line
abbrev pub EndAlike : List (CellId × CellId) → StoreMap → StoreMap → Outcome → Outcome → Type 0
EndAlike pairs s t (outcome.End place next) (outcome.End there other) = (place ≡ there) × StayRenamed pairs s t next other
EndAlike pairs s t (outcome.Fail why line) (outcome.Fail other at) = (why ≡ other) × (line ≡ at)
EndAlike pairs s t _ _ = ⊥
