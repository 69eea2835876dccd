-- Places at cells.
use Rattle.std.proofs.Common.{◌≡◌, ℕ, List, Option, Some, None, refl, sym, ap, ◌∙◌}
use Rattle.std.specs.Option.{option_map_or}
use Rattle.store_core.specs.declared.ids.FieldId.{FieldId}
use Rattle.store_core.specs.declared.ids.VariantId.{VariantId}
use Rattle.store_core.specs.Tables.{TypeEntry, VarEntry}
use Rattle.store_exec.specs.declared.cause.Cause.TheVariants as cause
use Rattle.ws2s_core.specs.declared.formula.Formula.{Formula}
use Rattle.tree_formula.specs.WellEncoded.{owner}
use Rattle.graph_view.specs.declared.view.Sym.{Sym}
use Rattle.graph_view.specs.Sights.{sight_of}
use Rattle.graph_view.specs.Syms.{is_null}
use Rattle.graph_view.specs.Live.{is_dead}
use Rattle.site_list.specs.States.{Text, State, check, sight}
use Rattle.site_list.specs.Reading.{lacks, check_cell, check_access}
use Rattle.symbolic_steps.specs.declared.walker.Walker.{Walker}
use Rattle.symbolic_steps.specs.Shown.{shown, checked}
use Rattle.symbolic_steps.proofs.ShownLemmas.{step-checked}

-- by the variant that has the field
abbrev owned : List TypeEntry → List VarEntry → ℕ → Text → FieldId → Sym → State → Option VariantId → State
owned types vars line text field cell s o =
    option_map_or (λ (v : VariantId). check line text cause.Variant (lacks types (sight vars s) field cell) (check_cell types vars line text cell s))
    o (check_cell types vars line text cell s)

module _ (types : List TypeEntry) (vars : List VarEntry) (line next wanted : ℕ) (text : Text) (s : State) (reached : Formula) (cell : Sym)
    (reaches : reached ≡ text next) where
  pub cell-checked : (w0 w1 w2 : Walker) → w0 ≡ shown next wanted s → w1 ≡ checked reached (is_null w0.view.next cell) w0 →
      w2 ≡ checked reached (is_dead types (sight_of vars w1.view) w1.view.next cell) w1 →
      w2 ≡ shown next wanted (check_cell types vars line text cell s)
  cell-checked w0 w1 w2 is one two =
      step-checked vars next wanted line cause.Dangling text (check line text cause.Null (λ n. is_null n cell) s) w1 w2 reached
      (λ seen values n. is_dead types seen n cell) reaches
      (step-checked vars next wanted line cause.Null text s w0 w1 reached (λ seen values n. is_null n cell) reaches is one) two

  module _ (field : FieldId) where
    pub access-owned : (v : VariantId) (w1 w2 : Walker) → owner types field ≡ Some v → w1 ≡ shown next wanted (check_cell types vars line text cell s) →
        w2 ≡ checked reached (lacks types (sight_of vars w1.view) field cell w1.view.next) w1 →
        w2 ≡ shown next wanted (check_access types vars line text field cell s)
    access-owned v w1 w2 has is made =
        step-checked vars next wanted line cause.Variant text (check_cell types vars line text cell s) w1 w2 reached
        (λ seen values n. lacks types seen field cell n) reaches is made
        ∙ ap (λ o. shown next wanted (owned types vars line text field cell s o)) (sym has)

    pub access-common : (w1 : Walker) → owner types field ≡ None → w1 ≡ shown next wanted (check_cell types vars line text cell s) →
        w1 ≡ shown next wanted (check_access types vars line text field cell s)
    access-common w1 common is = is ∙ ap (λ o. shown next wanted (owned types vars line text field cell s o)) (sym common)

-- nothing else changes
pub access-keeps : (types : List TypeEntry) (vars : List VarEntry) (line : ℕ) (text : Text) (field : FieldId) (cell : Sym) (s : State) →
    check_access types vars line text field cell s ≡ record s { checks = (check_access types vars line text field cell s).checks }
access-keeps types vars line text field cell s = by (owner types field)
  where
    by : (o : Option VariantId) →
        owned types vars line text field cell s o ≡ record s { checks = (owned types vars line text field cell s o).checks }
    by None = refl
    by (Some v) = refl
