-- The triple that starts at a procedure's entry.
use Rattle.std.proofs.Common.{◌≡◌, ◌∙◌, ◌≤◌, ℕ, Option, Some, None, IsSome, slice_get, refl, sym, ap, subst, arith}
use Rattle.std.proofs.lemmas.Option.{same_Some}
use Rattle.store_core.specs.Stores.{StoreMap}
use Rattle.routing_walks.specs.WellFormed.{IsWellFormed}
use Rattle.routing_walks.proofs.FreshLemmas.{IsFresh-well_formed}
use Rattle.store_exec.specs.declared.triple.Triple.{Triple}
use Rattle.store_exec.specs.Failing.{StartHolds}
use Rattle.store_exec.specs.Fits.{StartFits}
use Rattle.pale_typed.specs.declared.typed.ProcEntry.{ProcEntry}
use Rattle.pale_typed.specs.TypedPrograms.{TypedProgram}
use Rattle.pale_typed.specs.Fitting.{ProcFits, ProgramFits}
use Rattle.hoare_split.specs.Starts.{entry_start}
use Rattle.hoare_split.specs.Statements.{block_of}
use Rattle.hoare_split.specs.Triples.{exit_of, triple_of}
use Rattle.hoare_split.proofs.FittingVariableLemmas.{all-at}
use Rattle.hoare_split.proofs.FittingClaimLemmas.{entry-starts}
use Rattle.whole_run.specs.Safety.{MeetsEntry}
use Rattle.whole_exec.specs.Starting.{CanStart}

-- what is there
pub the_one : {X : Type 0} (o : Option X) → IsSome o → (x : X) × (o ≡ Some x)
the_one None some = absurd (cc)
the_one (Some x) some = (x, refl)

module _ (program : TypedProgram) (number : ℕ) (e : ProcEntry) (there : slice_get program.procs number ≡ Some e) where
  first_triple : Triple
  first_triple = triple_of number (record {
    place = e.proc.place;
    start = entry_start e.vars e.proc;
    flow = (block_of program.procs e.vars e.proc.body).flow (exit_of e.vars e.proc);
  })

  -- a store in which its start holds meets it
  pub meets_entry : (s : StoreMap) → IsWellFormed program.types e.vars s → StartHolds program.types e.vars (entry_start e.vars e.proc) s →
      MeetsEntry program number s
  unfolding first_triple
  meets_entry s well holds = record {
    entry = e;
    there = there;
    triple = first_triple;
    first = refl;
    meets = record { well_formed = well; start = holds };
  }

  -- and the other way round
  pub entry_holds : (s : StoreMap) → MeetsEntry program number s → StartHolds program.types e.vars (entry_start e.vars e.proc) s
  entry_holds s meets =
      let same = same_Some meets.entry e (sym meets.there ∙ there) in
      let start : entry_start meets.entry.vars meets.entry.proc ≡ meets.triple.start = ap (λ (t : Triple). t.start)
      (same_Some (triple_of number (record {
        place = meets.entry.proc.place;
        start = entry_start meets.entry.vars meets.entry.proc;
        flow = (block_of program.procs meets.entry.vars meets.entry.proc.body).flow (exit_of meets.entry.vars meets.entry.proc);
      })) meets.triple meets.first) in
      subst (λ (d : ProcEntry). StartHolds program.types d.vars (entry_start d.vars d.proc) s) same
      (subst (λ st. StartHolds program.types meets.entry.vars st s) (sym start) meets.meets.start)

  proc_fits : ProgramFits program → ProcFits program.types program.procs e
  proc_fits fits = all-at (ProcFits program.types program.procs) program.procs number e fits.procs there

  pub start_fits : ProgramFits program → StartFits program.types e.vars (entry_start e.vars e.proc)
  start_fits fits = (entry-starts program.types program.procs e (proc_fits fits)).fits

  -- the procedure can be run from a well-formed store whose cells have small numbers
  pub can_start : (s : StoreMap) (steps : ℕ) → IsWellFormed program.types e.vars s → s.next ≤ 1000001 → steps ≤ 100000 →
      CanStart program number s steps
  can_start s steps well small few = record {
    entry = e;
    there = there;
    fits = well.fits;
    fresh = (IsFresh-well_formed program.types e.vars s well).1;
    room = omega (arith, small, few);
  }
