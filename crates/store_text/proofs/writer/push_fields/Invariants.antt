use Rattle.std.proofs.Common.{◌≡◌, ◌++◌, take}
use Rattle.std.specs.List.{flat_map, zip}
use Rattle.store_core.specs.Tables.{fields_of}
use Rattle.store_text.specs.StoreText.{slot_text}
use Rattle.store_text.proofs.writer.push_fields.Given as goal

-- the fields so far
abbrev pub invariant-loop-index : goal.invariant-loop-index
invariant-loop-index l = l.text.items ≡ l.initial.text.items ++ flat_map (λ slot. slot_text slot.0.name slot.1)
    (take l.index (zip (fields_of l.types l.ty) l.slots))
