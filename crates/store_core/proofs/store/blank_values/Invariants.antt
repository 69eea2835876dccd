use Rattle.std.proofs.Common.{◌≡◌, map, take}
use Rattle.store_core.specs.Tables.{fields_of}
use Rattle.store_core.specs.Stores.{blank_slot}
use Rattle.store_core.proofs.store.blank_values.Given as goal

-- the fields so far have their values
abbrev pub invariant-loop-index : goal.invariant-loop-index
invariant-loop-index l = l.values ≡ map (blank_slot l.v.index) (take l.index (fields_of l.types l.v.ty))
