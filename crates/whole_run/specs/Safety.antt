-- Programs of which no triple fails, and the stores from which their whole runs start. (Hoare 1969; Møller and Schwartzbach, PLDI 2001.)
use Rattle.std.specs.Prelude.{◌≡◌, ℕ, map, Some, slice_get, Contains}
use Rattle.store_core.specs.Stores.{StoreMap}
use Rattle.store_exec.specs.declared.cause.Cause.{Cause}
use Rattle.store_exec.specs.declared.triple.Triple.{Triple}
use Rattle.store_exec.specs.Failing.{Meets, Fails}
use Rattle.pale_typed.specs.declared.typed.ProcEntry.{ProcEntry}
use Rattle.pale_typed.specs.TypedPrograms.{TypedProgram}
use Rattle.hoare_split.specs.Triples.{starts_of, triple_of, triples_of}

-- no store that meets a triple of the program fails
abbrev pub NoTripleFails : TypedProgram → Type 0
NoTripleFails program = (t : Triple) (entry : ProcEntry) (s : StoreMap) (why : Cause) (line : ℕ) → Contains (triples_of program) t →
    slice_get program.procs t.proc ≡ Some entry → Meets program.types entry.vars t s → Fails program.types entry.vars t s why line → ⊥

-- the triple that starts at the entry of the procedure of this number: the first of those that start in it
abbrev pub IsEntryTriple : TypedProgram → ℕ → ProcEntry → Triple → Type 0
IsEntryTriple program number entry t = slice_get (map (triple_of number) (starts_of program.procs entry)) 0 ≡ Some t

-- the store meets the triple that starts at the entry of the procedure of this number
pub record MeetsEntry (program : TypedProgram) (number : ℕ) (s : StoreMap) : Type 0 where
  pub entry : ProcEntry
  pub there : slice_get program.procs number ≡ Some entry
  pub triple : Triple
  pub first : IsEntryTriple program number entry triple
  pub meets : Meets program.types entry.vars triple s
