-- What follows from a formula may be joined to it.
use Rattle.std.proofs.Common.{◌≡◌, ◌≤◌, List, sym, subst, arith}
use Rattle.ws2s_core.specs.declared.formula.Formula.{Formula}
use Rattle.ws2s_core.specs.declared.formula.Formula.TheVariants.{And}
use Rattle.ws2s_core.specs.Satisfaction.{WSat, Same}
use Rattle.ws2s_core.proofs.SatisfactionLemmas.{WSat-And}
use Rattle.store_core.specs.declared.ids.FieldId.{FieldId}
use Rattle.store_core.specs.Tables.{TypeEntry, VarEntry, IsTypeTable}
use Rattle.tree_encode.specs.Tracks.{track_count}
use Rattle.tree_formula.specs.WellEncoded.{well_encoded}
use Rattle.tree_apart.specs.Apart.{HoldsOfTrees}
use Rattle.tree_store.proofs.FormulaLemmas.{well_encoded-means}
use Rattle.tree_store.proofs.TablesLemmas.{owners-there}
use Rattle.tree_reached.specs.Alike.{LaysOutTrees}
use Rattle.graph_view.specs.Sights.{var_slots, at_first}
use Rattle.graph_view.specs.Cuts.{field_forks, field_formula}
use Rattle.field_judge.specs.Known.{FollowsFrom}

-- a formula, and what is made of it joined to what follows from it, have the same satisfying assignments
pub same-joined : (formula known joined easier : Formula) → FollowsFrom formula known → joined ≡ And known formula → Same joined easier →
    Same formula easier
same-joined formula known joined easier follows is same = record {
  satisfied = λ a finite.
      let both = WSat-And known formula a in (
        (λ sat. (same.satisfied a finite).0 (subst (λ (f : Formula). WSat f a) (sym is) (both.1 (follows a finite sat, sat)))),
        (λ sat. (both.0 (subst (λ (f : Formula). WSat f a) is ((same.satisfied a finite).1 sat))).1),
      );
}

-- what follows from a formula follows from one that means the same
pub follows-same : (formula easier known : Formula) → FollowsFrom formula known → Same formula easier → FollowsFrom easier known
follows-same formula easier known follows same a finite sat = follows a finite ((same.satisfied a finite).1 sat)

-- trees alone satisfy the formula of a field
pub field-lays-out : (types : List TypeEntry) (vars : List VarEntry) (f : FieldId) (formula : Formula) → IsTypeTable types →
    formula ≡ field_formula types vars f → LaysOutTrees types vars formula
field-lays-out types vars f formula table is a finite sat =
    let first = track_count types vars in
    let few : track_count types vars ≤ first = omega arith in
    (well_encoded-means types vars (owners-there types table) a first few finite).0
    ((WSat-And (well_encoded first types vars) (field_forks types (at_first (var_slots vars)) first f) a).0 (subst (λ (g : Formula). WSat g a) is sat)).0

-- what holds of trees follows from the formula of a field
pub follows-field : (types : List TypeEntry) (vars : List VarEntry) (f : FieldId) (formula known : Formula) → HoldsOfTrees types vars known →
    formula ≡ field_formula types vars f → FollowsFrom formula known
follows-field types vars f formula known holds is a finite sat =
    let first = track_count types vars in
    holds first a (omega arith) finite
    ((WSat-And (well_encoded first types vars) (field_forks types (at_first (var_slots vars)) first f) a).0 (subst (λ (g : Formula). WSat g a) is sat)).0
