use Rattle.std.proofs.Common.{◌≡◌, drop}
use Rattle.std.specs.Prelude.{unwrap_or}
use Rattle.std.specs.Option.{option_copied}
use Rattle.store_logic.specs.Terms.{null, value_along}
use Rattle.store_sat.proofs.terms.Place.along.Given as goal

-- the fields that are left lead from the value to where all lead from the start
abbrev pub invariant-loop-field : goal.invariant-loop-field
invariant-loop-field l = value_along l.self.store.now (unwrap_or (option_copied l.value) null) (drop l.field-index l.fields)
    ≡ value_along l.self.store.now (unwrap_or (option_copied l.start) null) l.fields
