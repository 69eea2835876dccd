-- What is known of each procedure of a program whose triples never fail, and so of each whole run.
use Rattle.std.proofs.Common.{◌≡◌, ◌≢◌, ◌+◌, ℕ, zero, suc, List, [], ◌∷◌, map, flat_map, Some, slice_get, sym, ◌∙◌, subst, arith}
use Rattle.std.specs.List.{AllByRecursion, AllPairs}
use Rattle.std.proofs.lemmas.Option.{slice_get_within, get_or_from_slice_get}
use Rattle.store_core.specs.Tables.{TypeEntry}
use Rattle.store_core.specs.Stores.{StoreMap}
use Rattle.store_core.proofs.FreshLemmas.{AllByRecursion-from}
use Rattle.routing_walks.proofs.FreshLemmas.{IsFresh-well_formed}
use Rattle.store_logic.proofs.ExpandingLists.{all-first, all-second}
use Rattle.store_exec.specs.declared.cause.Cause.{Cause}
use Rattle.store_exec.specs.declared.triple.Triple.{Triple}
use Rattle.store_exec.specs.Failing.{Meets, Fails}
use Rattle.pale_text.specs.declared.place.Pos.{Pos}
use Rattle.pale_typed.specs.declared.typed.ProcEntry.{ProcEntry}
use Rattle.pale_typed.specs.TypedPrograms.{TypedProgram}
use Rattle.pale_typed.specs.Fitting.{ProcFits, ProgramFits}
use Rattle.hoare_split.specs.Flows.{arrivals_of}
use Rattle.hoare_split.specs.Passages.{Started}
use Rattle.hoare_split.specs.Starts.{entry_start}
use Rattle.hoare_split.specs.Statements.{block_of}
use Rattle.hoare_split.specs.Triples.{exit_of, starts_of, triple_of, triples_from, triples_of}
use Rattle.hoare_split.proofs.FittingVariableLemmas.{all-at}
use Rattle.whole_run.specs.States.{runs, Fail}
use Rattle.whole_run.specs.Runs.{WholeRun}
use Rattle.whole_run.specs.Places.{cut_places, PlacesAreDistinct}
use Rattle.whole_run.specs.Safety.{NoTripleFails, MeetsEntry}
use Rattle.whole_run.proofs.CallLaws.{Laws}
use Rattle.whole_run.proofs.Points.{IsOwn, own_are_one, starts_own, safe_of}
use Rattle.whole_run.proofs.Standing.{IsGood, IsRunning}
use Rattle.whole_run.proofs.Steps.{IsSound}
use Rattle.whole_run.proofs.Runs.{never_fails}

some_same : {X : Type 0} (x y : X) → Some x ≡ Some y → x ≡ y
some_same x y e = cc

all_unmap : {X Y : Type 0} (f : X → Y) (P : Y → Type 0) (xs : List X) → AllByRecursion P (map f xs) → AllByRecursion (λ x. P (f x)) xs
all_unmap f P [] all = tt
all_unmap f P (x ∷ xs) all = (all.0, all_unmap f P xs all.1)

module _ (law : Laws) (program : TypedProgram) (fits : ProgramFits program) (distinct : PlacesAreDistinct program) (never : NoTripleFails program) where
  abbrev types : List TypeEntry
  types = program.types

  abbrev procs : List ProcEntry
  procs = program.procs

  -- no store that meets it fails
  abbrev NeverFails : Triple → Type 0
  NeverFails t = (entry : ProcEntry) (s : StoreMap) (why : Cause) (line : ℕ) → slice_get procs t.proc ≡ Some entry → Meets types entry.vars t s →
      Fails types entry.vars t s why line → ⊥

  all_never : AllByRecursion NeverFails (triples_of program)
  all_never = AllByRecursion-from NeverFails (triples_of program) (λ i t at entry s why line there meets fails.
      never t entry s why line (i, slice_get_within (triples_of program) i t at, get_or_from_slice_get (triples_of program) i t t at) there meets fails)

  -- those of one procedure
  of_one : (k : ℕ) (entries : List ProcEntry) (n : ℕ) (e : ProcEntry) → AllByRecursion NeverFails (triples_from procs k entries) →
      slice_get entries n ≡ Some e → AllByRecursion (λ at. NeverFails (triple_of (k + n) at)) (starts_of procs e)
  of_one k [] n e all there = absurd cc
  of_one k (x ∷ entries) zero e all there =
      let same : x ≡ e = cc in
      let number : k ≡ k + 0 = omega arith in
      subst (λ (m : ℕ). AllByRecursion (λ at. NeverFails (triple_of m at)) (starts_of procs e)) number
      (all_unmap (triple_of k) NeverFails (starts_of procs e)
      (subst (λ (y : ProcEntry). AllByRecursion NeverFails (map (triple_of k) (starts_of procs y))) same
      (all-first NeverFails (map (triple_of k) (starts_of procs x)) (triples_from procs (k + 1) entries) all)))
  of_one k (x ∷ entries) (suc n) e all there =
      let number : (k + 1) + n ≡ k + suc n = omega arith in
      subst (λ (m : ℕ). AllByRecursion (λ at. NeverFails (triple_of m at)) (starts_of procs e)) number
      (of_one (k + 1) entries n e (all-second NeverFails (map (triple_of k) (starts_of procs x)) (triples_from procs (k + 1) entries) all) there)

  module _ (number : ℕ) (entry : ProcEntry) (there : slice_get procs number ≡ Some entry) where
    apart : AllPairs (λ (p q : Pos). p ≢ q) (flat_map cut_places entry.proc.body)
    apart = all-at (λ (e : ProcEntry). AllPairs (λ (p q : Pos). p ≢ q) (flat_map cut_places e.proc.body)) procs number entry distinct there

    each_never : AllByRecursion (λ at. NeverFails (triple_of number at)) (starts_of procs entry)
    unfolding triples_of
    each_never =
        let same : 0 + number ≡ number = omega arith in
        subst (λ (m : ℕ). AllByRecursion (λ at. NeverFails (triple_of m at)) (starts_of procs entry)) same (of_one 0 procs number entry all_never there)

    all_good : (starts : List Started) → AllByRecursion (λ (at : Started). AllByRecursion (IsOwn procs entry apart) (arrivals_of at.flow)) starts →
        AllByRecursion (λ at. NeverFails (triple_of number at)) starts → AllByRecursion (IsGood program entry.vars) starts
    all_good [] own none = tt
    all_good (at ∷ starts) own none = (
      λ s formed start. safe_of types entry.vars (IsOwn procs entry apart) (own_are_one procs entry apart) number at own.0 s
          (λ why line fails. none.0 entry s why line there (record { well_formed = formed; start = start }) fails),
      all_good starts own.1 none.1,
    )

    pub is_sound : IsSound law program fits entry
    is_sound =
        let good = all_good (starts_of procs entry) (starts_own procs entry apart) each_never in
        let proc = all-at (ProcFits types procs) procs number entry fits.procs there in
        record { ready = record { proc = proc; statements = proc.body; starts = good.1 }; safe = good.0 }

  pub runs_never_fail : (number : ℕ) (s : StoreMap) (n : ℕ) (why : Cause) (line : ℕ) → MeetsEntry program number s →
      WholeRun program number s n (Fail why line) → ⊥
  runs_never_fail number s n why line met (entry, there, ends) =
      never_fails law program fits (λ m e at. is_sound m e at) n (runs (record { entry = entry; store = s; left = entry.proc.body }) []) why line running ends
    where
      same : met.entry ≡ entry
      same = some_same met.entry entry (sym met.there ∙ there)

      meets : Meets types entry.vars met.triple s
      meets = subst (λ (e : ProcEntry). Meets types e.vars met.triple s) same met.meets

      at_entry : Started
      at_entry = record {
        place = entry.proc.place;
        start = entry_start entry.vars entry.proc;
        flow = (block_of procs entry.vars entry.proc.body).flow (exit_of entry.vars entry.proc);
      }

      first : triple_of number at_entry ≡ met.triple
      first = some_same (triple_of number at_entry) met.triple
          (subst (λ (e : ProcEntry). slice_get (map (triple_of number) (starts_of procs e)) 0 ≡ Some met.triple) same met.first)

      running : IsRunning program entry [] entry.proc.body s
      running =
          let sound = is_sound number entry there in
          let own = subst (λ (t : Triple). Meets types entry.vars t s) (sym first) meets in
          record {
            ready = sound.ready;
            well = record { fits = own.well_formed.fits; fresh = (IsFresh-well_formed types entry.vars s own.well_formed).1 };
            stands = tt;
            safe = sound.safe s own.well_formed own.start;
          }
