-- A field is functional exactly where no assignment satisfies its formula.
use Rattle.std.proofs.Common.{◌≡◌, ◌↔◌, ℕ, ◌<◌, List, Option, Some, None, IsSomeAnd, IfSome, sym, ap, ◌∙◌, subst}
use Rattle.std.specs.Prelude.{IsSome, length}
use Rattle.std.proofs.lemmas.Bool.{false≢true}
use Rattle.std.proofs.lemmas.Option.{slice_get_within}
use Rattle.gta_theory.specs.Assignments.{Assignment, IsFinite, Covers}
use Rattle.gta_theory.proofs.AssignmentsLemmas.{Covers-finite}
use Rattle.ws2s_core.specs.Satisfaction.{WSat}
use Rattle.store_core.specs.declared.ids.FieldId.{FieldId}
use Rattle.store_core.specs.declared.kind.VarKind.TheVariants as var
use Rattle.store_core.specs.declared.value.Value.{Value}
use Rattle.store_core.specs.Tables.{TypeEntry, VarEntry, IsTypeTable, var_at}
use Rattle.store_core.specs.Stores.{StoreMap, field_value, var_value}
use Rattle.store_core.proofs.FittingLemmas.{IfSome-from, IsSomeAnd-at}
use Rattle.routing_walks.specs.WellFormed.{IsFunctional, SetHoldsLive}
use Rattle.routing_walks.proofs.LiveLemmas.{IsSome-and}
use Rattle.routing_walks.specs.Refuting.{IsOneEach, Refutes}
use Rattle.routing_walks.proofs.OneEachLemmas.{functional_from}
use Rattle.tree_store.specs.Premises.{SetsHoldLive}
use Rattle.graph_view.specs.Cuts.{field_formula}
use Rattle.graph_meaning.specs.Fields.Forking.{HasFork}
use Rattle.graph_meaning.proofs.fields.AssignmentLemmas.{assignment}
use Rattle.graph_meaning.proofs.fields.ForkingLemmas.{field_formula-store, field_formula-means}

-- where all variables are data variables, there is no logic set
pub no-sets : (types : List TypeEntry) (vars : List VarEntry) (s : StoreMap) → IsOneEach types vars → SetsHoldLive vars s
no-sets types vars s each v =
    IfSome-from (var_at vars v) (λ entry. IfSome (var_value s v) (SetHoldsLive s entry.kind)) (λ entry there.
    IfSome-from (var_value s v) (SetHoldsLive s entry.kind) (λ x is.
    let inside : v.0 < length types = subst (λ n. v.0 < n) each.count (slice_get_within vars v.0 entry there) in
    let (own, found, kind) = IsSomeAnd-at (var_at vars v) (λ e. e.kind ≡ var.Data (record { 0 = v.0 })) (each.each v.0 inside) in
    let two : Some own ≡ Some entry = sym found ∙ there in
    let same : own ≡ entry = cc in
    subst (λ k. SetHoldsLive s k x) (sym (sym (ap (λ (e : VarEntry). e.kind) same) ∙ kind)) tt))

fork-of : (types : List TypeEntry) (vars : List VarEntry) (s : StoreMap) (f : FieldId) → Refutes types vars s f → HasFork types s f
fork-of types vars s f refutes = (
  refutes.cell,
  record {
    has = IsSome-and (field_value s refutes.cell f) (λ x. Unit {0}) refutes.has;
    one = refutes.one;
    other = refutes.other;
    apart = refutes.apart;
    to_one = refutes.to_one;
    to_other = refutes.to_other;
  },
)

some-value : (o : Option Value) → IsSome o → IsSomeAnd o (λ x. Unit {0})
some-value None h = absurd (false≢true h)
some-value (Some x) h = tt

module _ (types : List TypeEntry) (vars : List VarEntry) (f : FieldId) (table : IsTypeTable types) where
  pub no-tree : (a : Assignment) → IsFinite a → WSat (field_formula types vars f) a → IsFunctional types f → ⊥
  no-tree a finite satisfied functional =
      let of_one = (field_formula-means types vars a f table finite).0 satisfied in
      let (c, fork) = of_one.fork in
      fork.apart (functional.at_most_one vars of_one.store of_one.fits of_one.backbone c fork.one fork.other
      (some-value (field_value of_one.store c f) fork.has) fork.to_one fork.to_other)

  pub functional-means : IsOneEach types vars →
      IsFunctional types f ↔ ((depth : ℕ) (a : Assignment) → Covers depth a → WSat (field_formula types vars f) a → ⊥)
  functional-means each = (
    (λ functional depth a covers satisfied. no-tree a (Covers-finite depth a covers) satisfied functional),
    (λ none. functional_from types vars f each (λ s refutes.
        let (depth, a, covers, means) = assignment types vars s refutes.backbone in
        none depth a covers
        ((field_formula-store types vars a f table (Covers-finite depth a covers) s refutes.fits refutes.backbone (no-sets types vars s each) means).1
        (fork-of types vars s f refutes)))),
  )
