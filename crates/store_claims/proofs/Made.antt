-- The formulas that are made are those of claims.
use Rattle.std.proofs.Common.{◌≡◌, ℕ, suc, Bool, List, map, Some, ap, ap₂, ◌∙◌}
use Rattle.store_core.specs.declared.ids.VarId.{VarId}
use Rattle.store_core.specs.Tables.{TypeEntry, VarEntry}
use Rattle.store_logic.specs.declared.assertion.Assertion.{Assertion}
use Rattle.ws2s_core.specs.declared.formula.Formula.{Formula}
use Rattle.ws2s_core.specs.declared.formula.Formula.TheVariants.{And, Ex2}
use Rattle.ws2s_forms.specs.Forms.{track}
use Rattle.tree_encode.specs.Tracks.{track_count}
use Rattle.graph_view.specs.declared.view.Sym.{Sym}
use Rattle.graph_view.specs.declared.view.View.{View}
use Rattle.graph_view.specs.Sights.{sight_of}
use Rattle.graph_meaning.specs.Fields.Beginning.{first_view}
use Rattle.site_list.specs.States.{value_of}
use Rattle.site_list.specs.Claims.{assertion}
use Rattle.site_list.specs.Parts.{is_part}
use Rattle.store_claims.specs.Formulas.{on_all, on_part}

module _ (types : List TypeEntry) (vars : List VarEntry) (it : Assertion) where
  pub all-made : (count : ℕ) (view : View) → count ≡ track_count types vars → view ≡ first_view types vars count →
      assertion types (sight_of vars view) view.vars it count ≡ on_all types vars it
  all-made count view few is =
      ap (λ (v : View). assertion types (sight_of vars v) v.vars it count) is
      ∙ ap (λ (n : ℕ). assertion types (sight_of vars (first_view types vars n)) (first_view types vars n).vars it n) few

  abbrev whole : Bool → ℕ → ℕ → View → List Sym → Formula
  whole inside count next view values = Ex2 (track count) (And (is_part types (sight_of vars view) values count next)
      (assertion types (sight_of vars (record view { region = Some (track count, inside) })) view.vars it next))

  pub part-made : (roots : List VarId) (inside : Bool) (count next : ℕ) (view : View) (values : List Sym) (part holds : Formula) →
      count ≡ track_count types vars → next ≡ suc count → view ≡ first_view types vars next → values ≡ map (value_of view.vars) roots →
      part ≡ is_part types (sight_of vars view) values count next →
      holds ≡ assertion types (sight_of vars (record view { region = Some (track count, inside) })) view.vars it next →
      Ex2 (track count) (And part holds) ≡ on_part types vars roots inside it
  part-made roots inside count next view values part holds few after is roots_are part_is holds_is =
      ap₂ (λ (p h : Formula). Ex2 (track count) (And p h)) part_is holds_is
      ∙ ap (λ (vs : List Sym). whole inside count next view vs) roots_are
      ∙ ap (λ (v : View). whole inside count next v (map (value_of v.vars) roots)) is
      ∙ ap (λ (n : ℕ). whole inside count n (first_view types vars n) (map (value_of (first_view types vars n).vars) roots)) after
      ∙ ap (λ (c : ℕ). whole inside c (suc c) (first_view types vars (suc c)) (map (value_of (first_view types vars (suc c)).vars) roots)) few
