-- The triple that asks for the stores which meet another one.
use Rattle.std.proofs.Common.{◌≡◌, ◌∙◌, inl, inr, ◌<◌, ℕ, List, [], ◌∷◌, length, refl, sym, ap, subst, arith, Err}
use Rattle.std.specs.List.{AllByRecursion}
use mathlib.Core.Path.{transport}
use Rattle.store_core.specs.Tables.{TypeEntry, VarEntry}
use Rattle.store_core.specs.Stores.{StoreMap}
use Rattle.store_logic.specs.declared.act.Act.TheVariants.{Assert}
use Rattle.store_logic.specs.declared.assertion.Assertion.TheVariants.{False}
use Rattle.store_logic.specs.Satisfaction.{Says}
use Rattle.store_logic.specs.Terms.{outside}
use Rattle.store_logic.proofs.HoldsLemmas.{Holds-False}
use Rattle.claim_laws.proofs.FitForms.{Fits-True, Fits-False}
use Rattle.store_exec.specs.declared.cause.Cause.TheVariants as cause
use Rattle.store_exec.specs.declared.cause.Cause.{Cause}
use Rattle.store_exec.specs.declared.fault.Fault.{Fault}
use Rattle.store_exec.specs.declared.code.Code.{Code, roll-out-Code, out-Code}
use Rattle.store_exec.specs.declared.code.Tail.{Tail}
use Rattle.store_exec.specs.declared.code.Tail.TheVariants as tail
use Rattle.store_exec.specs.declared.code.Tail.TheOpen.{Tail-F, Code-F}
use Rattle.store_exec.specs.declared.code.Tail.TheFolds.{rec-roll-Tail, rec-roll-Code, fold-Tail, fold-roll-Tail, fold-roll-Code, map-Tail, map-Code}
use Rattle.store_exec.specs.declared.triple.Triple.{Triple}
use Rattle.store_exec.specs.Fits.{ItemsFit, TailFitsNode, CodeFitsNode, CodeFits}
use Rattle.store_exec.specs.Failing.{Meets, Fails}
use Rattle.store_exec.proofs.CanRunLemmas.{TailFits}
use Rattle.store_exec.proofs.CodeLemmas.{items-stop}
use Rattle.store_exec.proofs.RunLemmas.{RunsItem-Do}
use Rattle.pale_typed.specs.TypedPrograms.{TypedProgram}
use Rattle.hoare_split.specs.Fitting.{FitsProgram, places_at, places_of}
use Rattle.hoare_split.proofs.FittingCodeLemmas.{Do-fits}
use Rattle.triple_judge.specs.Judging.{IsValid, IsLeastFailing}
use Rattle.program_judge.specs.Starts.{asking, falsehood, bare_cut, IsUnmet, IsLeastMeeting}

-- ---- it fails from each store

module _ (types : List TypeEntry) (vars : List VarEntry) (t : Triple) where
  pub meets-asking : (s : StoreMap) → Meets types vars t s → Meets types vars (asking t) s
  meets-asking s m = record { well_formed = m.well_formed; start = m.start }

  pub asking-meets : (s : StoreMap) → Meets types vars (asking t) s → Meets types vars t s
  asking-meets s m = record { well_formed = m.well_formed; start = m.start }

  abbrev stops : Fault
  stops = record { cause = cause.Assert; line = t.line }

  pub asking-fails : (s : StoreMap) → Fails types vars (asking t) s cause.Assert t.line
  asking-fails s = inl (items-stop types (falsehood t.line) s stops (inr (
    stops,
    (RunsItem-Do types t.line (Assert False) s (Err stops)).1 ((refl, (Holds-False types s (Says types s []) outside).0), refl),
    refl,
  )))

  pub unmet-valid : IsUnmet types vars t → IsValid types vars (asking t)
  unmet-valid none s why line meets fails = none s (asking-meets s meets)

  pub valid-unmet : IsValid types vars (asking t) → IsUnmet types vars t
  valid-unmet valid s meets = valid s cause.Assert t.line (meets-asking s meets) (asking-fails s)

  pub unmet-itself : IsUnmet types vars t → IsValid types vars t
  unmet-itself none s why line meets fails = none s meets

  pub failing-meeting : (s : StoreMap) (why : Cause) (line : ℕ) → IsLeastFailing types vars (asking t) s why line → IsLeastMeeting types vars t s
  failing-meeting s why line least = record {
    meets = asking-meets s least.meets;
    numbers = least.numbers;
    fewest = λ u meets. least.fewest u cause.Assert t.line (meets-asking u meets) (asking-fails u);
  }

-- ---- its code fits

module _ (types : List TypeEntry) (vars : List VarEntry) where
  natural-tail : (T C : Type 0) (v : T → Tail) (w : C → Code) (k : Tail → Type 0) (l : Code → Type 0) (x : Tail-F T C) →
      TailFitsNode types vars T C v w (λ p. k (v p)) (λ p. l (w p)) x ≡ TailFitsNode types vars Tail Code (λ y. y) (λ y. y) k l (map-Tail T C Tail Code v w x)
  natural-tail T C v w k l (Tail-F.Cut place) = refl
  natural-tail T C v w k l (Tail-F.Branch line c taken other) = refl

  natural-code : (T C : Type 0) (v : T → Tail) (w : C → Code) (k : Tail → Type 0) (l : Code → Type 0) (x : Code-F T C) →
      CodeFitsNode types vars T C v w (λ p. k (v p)) (λ p. l (w p)) x ≡ CodeFitsNode types vars Tail Code (λ y. y) (λ y. y) k l (map-Code T C Tail Code v w x)
  natural-code T C v w k l x = refl

  cut-fits : (place : ℕ) → TailFits types vars (tail.Cut place)
  cut-fits place = transport (λ i. sym (ap (TailFits types vars) (sym (tail.rolls-Cut place))
      ∙ rec-roll-Tail (Type 0) (Type 0) (TailFitsNode types vars) (CodeFitsNode types vars) natural-tail (Tail-F.Cut place)) i) tt

  code-fits : (c : Code) → ItemsFit types vars c.items → TailFits types vars c.tail → CodeFits types vars c
  code-fits c h g = transport (λ i. sym (ap (CodeFits types vars) (sym (roll-out-Code c))
      ∙ rec-roll-Code (Type 0) (Type 0) (TailFitsNode types vars) (CodeFitsNode types vars) natural-code (out-Code c)) i) (h, g)

  pub falsehood-fits : (line : ℕ) → CodeFits types vars (falsehood line)
  falsehood-fits line = code-fits (falsehood line) (Do-fits types vars line (Assert False) ((Fits-False types _).1 tt), tt) (cut-fits 0)

-- its one tail names its one cut
pub one-place : (line : ℕ) → places_of (falsehood line) ≡ 0 ∷ []
one-place line = ap places_of (sym (roll-out-Code (falsehood line)))
    ∙ fold-roll-Code (List ℕ) (List ℕ) places_at (λ x. x.tail) (out-Code (falsehood line))
    ∙ ap (fold-Tail (List ℕ) (List ℕ) places_at (λ x. x.tail)) (sym (tail.rolls-Cut 0))
    ∙ fold-roll-Tail (List ℕ) (List ℕ) places_at (λ x. x.tail) (Tail-F.Cut 0)

-- it fits the program as the other one does
abbrev pub asking-fits : (program : TypedProgram) (t : Triple) → FitsProgram program t → FitsProgram program (asking t)
asking-fits program t own = record {
  entry = own.entry;
  there = own.there;
  fits = record {
    start = own.fits.start;
    code = falsehood-fits program.types own.entry.vars t.line;
    cuts = (record { handed = tt; inside = tt; asserts = (record { region = tt; assertion = (Fits-True program.types _).1 tt }, tt) }, tt);
  };
  tails = subst (AllByRecursion (λ place. place < length (bare_cut t.line ∷ []))) (sym (one-place t.line)) (omega arith, tt);
  start = own.start;
  cuts = (refl, tt);
}
