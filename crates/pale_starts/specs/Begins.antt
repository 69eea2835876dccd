-- What comes of a store text at a start: of a triple, as of a procedure's entry. (Hoare 1969; Møller and Schwartzbach, PLDI 2001.)
use Rattle.std.specs.Prelude.{◌≡◌, ℕ, List, Ok, Err}
use Rattle.store_core.specs.Tables.{TypeEntry, VarEntry}
use Rattle.store_core.specs.Stores.{StoreMap}
use Rattle.routing_walks.specs.declared.fault.WfFault.{WfFault}
use Rattle.routing_walks.specs.WellFormed.{IsWellFormed, IsFirstFault}
use Rattle.store_exec.specs.declared.triple.Start.{Start}
use Rattle.store_exec.specs.Failing.{StartHolds}
use Rattle.store_text.specs.declared.fault.StoreFault.{StoreFault}
use Rattle.store_text.specs.Reading.{read_text}
use Rattle.pale_starts.specs.declared.begun.Begun.{Begun}
use Rattle.pale_starts.specs.declared.begun.Begun.TheVariants as begun

-- the store isn't well-formed; it is, and the start doesn't hold there; or it holds
pub data StandsAt (types : List TypeEntry) (vars : List VarEntry) (start : Start) (s : StoreMap) : Begun → Type 0 where
  not_well_formed : (wrong : WfFault) → IsFirstFault types vars s wrong → StandsAt types vars start s (begun.NotWellFormed wrong)
  start_false : IsWellFormed types vars s → (StartHolds types vars start s → ⊥) → StandsAt types vars start s begun.StartFalse
  meets : IsWellFormed types vars s → StartHolds types vars start s → StandsAt types vars start s (begun.Meets s)

-- the lines spell no store, and have this first fault; or they spell one, of which this comes
pub data Begins (types : List TypeEntry) (vars : List VarEntry) (start : Start) (lines : List (List ℕ)) : Begun → Type 0 where
  refused : (fault : StoreFault) → read_text types vars lines ≡ Err fault → Begins types vars start lines (begun.Refused fault)
  store : (s : StoreMap) (b : Begun) → read_text types vars lines ≡ Ok s → StandsAt types vars start s b → Begins types vars start lines b
