-- A claim on all cells stays met where the logic sets are restricted to the live cells.
use Rattle.std.proofs.Common.{List, [], ◌∷◌, is_some, refl, sym, subst}
use Rattle.std.specs.List.{AllByRecursion}
use Rattle.std.proofs.lemmas.List.Elements.{All-from_recursion, recursion_from_All}
use Rattle.store_core.specs.declared.ids.CellId.{CellId}
use Rattle.store_core.specs.declared.value.Value.{Value}
use Rattle.store_core.specs.declared.value.Value.TheVariants as value
use Rattle.store_core.specs.Tables.{TypeEntry, VarEntry}
use Rattle.store_core.specs.Stores.{StoreMap, cell_of}
use Rattle.store_logic.specs.declared.term.Base.{Base}
use Rattle.store_logic.specs.declared.term.Base.TheVariants as base
use Rattle.store_logic.specs.declared.assertion.Assertion.{Assertion}
use Rattle.store_logic.specs.Uses.{NameUse, names_in}
use Rattle.store_logic.specs.Terms.{outside}
use Rattle.store_logic.specs.Satisfaction.{SatAll}
use Rattle.store_logic.specs.Fits.{AssertionFits}
use Rattle.store_exec.specs.Steps.{variable}
use Rattle.store_exec.specs.Restricted.{live_part, restricted}
use Rattle.store_exec.specs.Cuts.{IsMet, AreMet}
use Rattle.pale_typed.specs.Fitting.{NameMayBe, StatedFits}
use Rattle.hoare_split.specs.Calls.{on_all}
use Rattle.whole_run.proofs.Holding.{Alike, satisfied_too}
use Rattle.whole_run.proofs.HandedStart.{left_in, kept_in, variable_now}
use Rattle.whole_run.proofs.ReturnedClaims.{alike_same}
use Rattle.whole_run.proofs.CallLaws.{MetStays}

alike_part : (s : StoreMap) (y : Value) → Alike s y (live_part s y)
alike_part s (value.Bool truth) = alike_same s (value.Bool truth)
alike_part s (value.Cell c) = alike_same s (value.Cell c)
alike_part s (value.Cells cells) = record {
  cells = refl;
  truths = refl;
  sets = λ c live. (
    λ m. kept_in (λ (d : CellId). is_some (cell_of s d)) cells c live m,
    λ m. left_in (λ (d : CellId). is_some (cell_of s d)) cells c m,
  );
}

-- an assertion may name any variable
any_name : (n : NameUse) → NameMayBe (λ v. Unit {0}) n.name
any_name n = by n.name
  where
    by : (name : Base) → NameMayBe (λ v. Unit {0}) name
    by (base.Var v) = tt
    by (base.Bound k) = tt
    by (base.Param k) = tt

any_names : (names : List NameUse) → AllByRecursion (λ (n : NameUse). NameMayBe (λ v. Unit {0}) n.name) names
any_names [] = tt
any_names (n ∷ names) = (any_name n, any_names names)

module _ (types : List TypeEntry) (vars : List VarEntry) (s : StoreMap) (a : Assertion) (fits : AssertionFits types vars a) where
  stated : StatedFits types vars (λ v. Unit {0}) a
  stated = record { fits = fits; names = any_names (names_in a) }

  satisfied_still : SatAll types [] s outside a → SatAll types [] (restricted s) outside a
  satisfied_still sat =
      let put = (satisfied_too s s.vars s.next types vars [] (λ v. Unit {0}) a stated (λ v sort may is. alike_same s (variable s v))).1 sat in
      (satisfied_too s (restricted s).vars s.next types vars [] (λ v. Unit {0}) a stated
      (λ v sort may is. subst (Alike s (variable s v)) (sym (variable_now s v)) (alike_part s (variable s v)))).0 put

  claim_met : AreMet types vars s (on_all a) → AreMet types vars (restricted s) (on_all a)
  claim_met met = All-from_recursion (IsMet types vars (restricted s)) (on_all a)
      (satisfied_still (recursion_from_All (IsMet types vars s) (on_all a) met).0, tt)

pub met_stays : MetStays
met_stays = λ types vars s a fits met. claim_met types vars s a fits met
