-- The triples of a program that fits can be judged over the variables of their procedures.
use Rattle.std.proofs.Common.{◌≡◌, ◌<◌, ℕ, zero, suc, List, [], ◌∷◌, length, map, slice_get, Option, Some, None, option_map, refl, ap, ◌∙◌, subst, sym}
use Rattle.std.specs.List.{AllByRecursion}
use Rattle.std.proofs.lemmas.Option.{same_Some}
use Rattle.store_core.specs.declared.ids.VarId.{VarId}
use Rattle.store_core.specs.Tables.{VarEntry}
use Rattle.store_logic.specs.declared.region.Region.{Region}
use Rattle.store_logic.specs.Fits.{KnowsVars}
use Rattle.store_exec.specs.declared.code.Code.{Code}
use Rattle.store_exec.specs.declared.code.Tail.TheOpen.{Tail-F}
use Rattle.store_exec.specs.declared.code.Tail.TheFolds.{fold-Code}
use Rattle.store_exec.specs.declared.triple.Claim.{Claim}
use Rattle.store_exec.specs.declared.triple.Cut.{Cut}
use Rattle.store_exec.specs.declared.triple.Triple.{Triple}
use Rattle.triple_meaning.specs.Claims.Given.{IsRegionOf}
use Rattle.pale_typed.specs.declared.typed.ProcEntry.{ProcEntry}
use Rattle.pale_typed.specs.declared.typed.TypedProc.{TypedProc}
use Rattle.pale_typed.specs.TypedPrograms.{TypedProgram}
use Rattle.pale_typed.specs.Fitting.{ProgramFits, ProcFits}
use Rattle.hoare_split.specs.Fitting as fitting
use Rattle.hoare_split.specs.Fitting.{FitsProgram, AreReadAt, regions_at}
use Rattle.store_ends.specs.Places.{places_at, places_of}
use Rattle.triple_judge.specs.Standing.{AreOn, CanBeJudged}

-- ---- lists

by_recursion_there : {X : Type 0} (P : X → Type 0) (xs : List X) (i : ℕ) (x : X) → AllByRecursion P xs → slice_get xs i ≡ Some x → P x
by_recursion_there P [] i x all e = absurd cc
by_recursion_there P (y ∷ ys) zero x all e = let same : y ≡ x = cc in subst P same all.0
by_recursion_there P (y ∷ ys) (suc i) x all e = by_recursion_there P ys i x all.1 e

all-weaker : {X : Type 0} (P Q : X → Type 0) → ((x : X) → P x → Q x) → (xs : List X) → AllByRecursion P xs → AllByRecursion Q xs
all-weaker P Q from [] h = tt
all-weaker P Q from (x ∷ xs) h = (from x h.0, all-weaker P Q from xs h.1)

all-map : {X Y : Type 0} (P : Y → Type 0) (f : X → Y) (xs : List X) → AllByRecursion P (map f xs) → AllByRecursion (λ x. P (f x)) xs
all-map P f [] h = tt
all-map P f (x ∷ xs) h = (h.0, all-map P f xs h.1)

-- ---- tails

each-place : (x : Tail-F (List ℕ) (List ℕ)) → fitting.places_at x ≡ places_at x
each-place (Tail-F.Cut place) = refl
each-place (Tail-F.Branch line c taken other) = refl

places-same : (c : Code) → fitting.places_of c ≡ places_of c
places-same c = λ i. fold-Code (List ℕ) (List ℕ) (λ x. each-place x i) (λ x. x.tail) c

-- ---- claims

regions-on : (part : Option (List VarId)) → AllByRecursion (IsRegionOf part) (regions_at part)
regions-on None = (tt, tt)
regions-on (Some roots) = (refl, (refl, tt))

claims-on : (part : Option (List VarId)) (claims : List Claim) → AreReadAt part claims → AreOn part claims
claims-on part claims read =
    all-map (IsRegionOf part) (λ (claim : Claim). claim.region) claims
    (subst (λ (regions : List Region). AllByRecursion (IsRegionOf part) regions) (sym read) (regions-on part))

-- ---- triples

module _ (program : TypedProgram) (t : Triple) (own : FitsProgram program t) where
  pub can-be-judged-by : CanBeJudged program.types own.entry.vars t
  can-be-judged-by = record {
    fits = own.fits;
    tails = subst (λ (places : List ℕ). AllByRecursion (λ place. place < length t.cuts) places) (places-same t.code) own.tails;
    start = claims-on t.start.returned t.start.asserts own.start;
    cuts = all-weaker (λ (cut : Cut). AreReadAt cut.handed cut.asserts) (λ (cut : Cut). AreOn cut.handed cut.asserts)
        (λ cut read. claims-on cut.handed cut.asserts read) t.cuts own.cuts;
  }

  -- the same over the variables that a call finds for its procedure
  module _ (vars : List VarEntry) (at : Some vars ≡ option_map (λ (e : ProcEntry). e.vars) (slice_get program.procs t.proc)) where
    pub vars-same : own.entry.vars ≡ vars
    vars-same = sym (same_Some vars own.entry.vars (at ∙ ap (option_map (λ (e : ProcEntry). e.vars)) own.there))

    pub vars-known : ProgramFits program → KnowsVars program.types vars
    vars-known fits =
        let proc = by_recursion_there (ProcFits program.types program.procs) program.procs t.proc own.entry fits.procs own.there in
        subst (λ (vs : List VarEntry). KnowsVars program.types vs) vars-same proc.kinds

    pub can-be-judged : CanBeJudged program.types vars t
    can-be-judged = subst (λ (vs : List VarEntry). CanBeJudged program.types vs t) vars-same can-be-judged-by

  -- the same of the procedure that a call finds
  module _ (proc : TypedProc) (at : Some proc ≡ option_map (λ (e : ProcEntry). e.proc) (slice_get program.procs t.proc)) where
    pub proc-same : own.entry.proc ≡ proc
    proc-same = sym (same_Some proc own.entry.proc (at ∙ ap (option_map (λ (e : ProcEntry). e.proc)) own.there))
