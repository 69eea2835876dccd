-- The backbone that a lightest tree lays out is one of the fewest cells with a fork.
use Rattle.std.proofs.Common.{◌≡◌, ◌≤◌, ℕ, List, length, Option, Some, None, IsSome, IsSomeAnd, refl, sym, ap, ◌∙◌, subst, arith}
use Rattle.std.specs.FinMap.{keys}
use Rattle.std.proofs.lemmas.Bool.{false≢true}
use Rattle.gta_theory.specs.Assignments.{Assignment, IsFinite}
use Rattle.gta_theory.specs.Weights.{weight}
use Rattle.gta_theory.proofs.AssignmentsLemmas.{Covers-finite}
use Rattle.gta_witness.specs.Lightest.{each_once}
use Rattle.ws2s_core.specs.declared.track.Track.{Track}
use Rattle.ws2s_core.specs.declared.formula.Formula.{Formula}
use Rattle.ws2s_core.specs.declared.label_tree.TreeNode.{TreeNode}
use Rattle.ws2s_core.specs.LabelTrees.{assignment_of}
use Rattle.ws2s_core.specs.Satisfaction.{WSat}
use Rattle.ws2s_core.proofs.LabelTreesLemmas.{Covers-tree}
use Rattle.ws2s_core.proofs.SatisfactionLemmas.{WSat-And}
use Rattle.ws2s_decide.specs.Deciding.{IsUnsatisfiable, IsLightestModel}
use Rattle.store_core.specs.declared.ids.FieldId.{FieldId}
use Rattle.store_core.specs.declared.ids.CellId.{CellId}
use Rattle.store_core.specs.declared.kind.FieldKind.{FieldKind}
use Rattle.store_core.specs.declared.kind.FieldKind.TheVariants as field
use Rattle.store_core.specs.declared.value.Value.{Value}
use Rattle.store_core.specs.declared.value.Value.TheVariants as value
use Rattle.store_core.specs.Tables.{TypeEntry, VarEntry, FieldEntry, IsTypeTable, field_at}
use Rattle.store_core.specs.Stores.{StoreMap, Fits, field_value}
use Rattle.store_core.proofs.FittingLemmas.{IfSome-from, IsSomeAnd-at}
use Rattle.routing_walks.specs.Destinations.{IsPointer}
use Rattle.routing_walks.specs.Gathering.{HasAll}
use Rattle.routing_walks.specs.WellFormed.{IsBackbone, IsFunctional, IsFirstCell}
use Rattle.routing_walks.specs.Refuting.{Refutes}
use Rattle.tree_encode.specs.Tracks.{track_count}
use Rattle.tree_store.proofs.WeighingLemmas.{weight-cells}
use Rattle.tree_formula.specs.WellEncoded.{well_encoded}
use Rattle.tree_store.specs.Shapes.{LaysOut}
use Rattle.tree_store.proofs.FormulaLemmas.{well_encoded-means}
use Rattle.tree_store.proofs.TablesLemmas.{owners-there}
use Rattle.tree_store.specs.Decoded.{Standing, field_in, decoded}
use Rattle.tree_store.specs.Stores.{IsStoreOf}
use Rattle.tree_store.proofs.StoreLemmas.{IsStoreOf-decoded}
use Rattle.tree_store.proofs.ValuesLemmas.{here_value}
use Rattle.graph_view.specs.Sights.{var_slots, at_first}
use Rattle.graph_view.specs.Cuts.{field_forks, field_formula}
use Rattle.graph_meaning.specs.Fields.Forking.{Forks, HasFork}
use Rattle.graph_meaning.proofs.fields.ForkingLemmas.{field_formula-store}
use Rattle.graph_meaning.proofs.fields.FunctionalLemmas.{functional-means}
use Rattle.graph_meaning.proofs.fields.AloneLemmas.{light-tree}
use Rattle.witness_store.specs.Results.{IsReadOff}
use Rattle.field_judge.specs.OneEach.{type_vars}
use Rattle.field_judge.specs.Weighed.{IsVariantTrack}
use Rattle.field_judge.specs.Judging.{formula_of, IsLightestFork, ArePointersNull, IsLeastFork}
use Rattle.field_judge.proofs.OneEachLemmas.{one_each}
use Rattle.field_judge.proofs.WeighedLemmas.{are-variant_tracks}

-- ---- what is read off has null in its pointer fields

null-read : (types : List TypeEntry) (vars : List VarEntry) (a : Assignment) (cells : List Standing) → ArePointersNull types (decoded types vars a cells)
null-read types vars a cells c f pointer = IfSome-from (field_value (decoded types vars a cells) c f) (λ x. x ≡ value.Cell None) (λ x held.
    let at = here_value types vars a cells c f x held in
    let (entry, found, kind) = IsSomeAnd-at (field_at types f) (λ (e : FieldEntry). IsPointer e.kind) pointer in
    let two : Some entry ≡ Some at.entry = sym found ∙ at.there in
    let same : entry ≡ at.entry = cc in
    at.is ∙ by (at.cell).at at.entry.kind (subst (λ (e : FieldEntry). IsPointer e.kind) same kind))
  where
    by : (p : _) (kind : FieldKind) → IsPointer kind → field_in types a cells p f kind ≡ value.Cell None
    by p field.Bool pointer = absurd pointer
    by p (field.Data target) pointer = absurd pointer
    by p (field.Pointer target along) pointer = refl

-- ---- lightest trees

module _ (types : List TypeEntry) (f : FieldId) (table : IsTypeTable types) (nodes : List TreeNode) (lightest : IsLightestFork types f nodes) where
  abbrev vars : List VarEntry
  vars = type_vars types

  abbrev a : Assignment
  a = assignment_of nodes

  finite : IsFinite a
  finite = Covers-finite (length nodes) a (Covers-tree nodes)

  pub lays-out : LaysOut types (type_vars types) (assignment_of nodes)
  lays-out =
      let first = track_count types vars in
      let encoded = ((WSat-And (well_encoded first types vars) (field_forks types (at_first (var_slots vars)) first f) a).0 lightest.satisfies).0 in
      (well_encoded-means types vars (owners-there types table) a first (omega arith) finite).0 encoded

  module _ (s : StoreMap) (read : IsReadOff types (type_vars types) (assignment_of nodes) s) where
    of : IsStoreOf types vars a s
    of = subst (IsStoreOf types vars a) (sym read.is) (IsStoreOf-decoded types vars a read.cells lays-out read.cells_are)

    pub has-fork : HasFork types s f
    has-fork = (field_formula-store types vars a f table finite s of.fits of.backbone of.sets of.assignment).0 lightest.satisfies

    count : weight lightest.tracks (length nodes) a ≡ length (keys s.cells)
    count = weight-cells types vars s a lightest.tracks (length nodes) of.fits of.backbone of.assignment lightest.weighed (Covers-tree nodes)

    fewest : (others : List VarEntry) (t : StoreMap) → Fits types others t → IsBackbone types others t → HasFork types t f →
        length (keys s.cells) ≤ length (keys t.cells)
    fewest others t fits backbone fork =
        let light = light-tree types vars others t f table (one_each types) fits backbone fork in
        let no_less = lightest.least light.depth light.sets light.covered light.satisfies in
        let few = light.light lightest.tracks lightest.weighed in
        omega (arith, count, no_less, few)

    pub least-fork : (c : CellId) → IsFirstCell (Forks types s f) c → IsLeastFork types f s c
    least-fork c lowest = record {
      fits = of.fits;
      backbone = of.backbone;
      nulls = subst (ArePointersNull types) (sym read.is) (null-read types vars a read.cells);
      numbers = of.numbers;
      lowest = lowest;
      fewest = fewest;
    }

-- ---- verdicts

pub lightest-from : (types : List TypeEntry) (f : FieldId) (tracks : List Track) (formula : Formula) (nodes : List TreeNode) (w : ℕ) →
    HasAll tracks (IsVariantTrack types) → formula ≡ formula_of types f → IsLightestModel tracks formula nodes w → IsLightestFork types f nodes
lightest-from types f tracks formula nodes w all is lightest =
    let model : IsLightestModel tracks (formula_of types f) nodes w = subst (λ g. IsLightestModel tracks g nodes w) is lightest in
    record {
      satisfies = model.satisfies;
      tracks = each_once tracks;
      weighed = are-variant_tracks types tracks all;
      least = λ n b covers satisfied. subst (λ k. k ≤ weight (each_once tracks) n b) (sym model.weighs) (model.least n b covers satisfied);
    }

pub functional-from : (types : List TypeEntry) (f : FieldId) (formula : Formula) → IsTypeTable types → formula ≡ formula_of types f → IsUnsatisfiable formula →
    IsFunctional types f
functional-from types f formula table is none =
    (functional-means types (type_vars types) f table (one_each types)).1 (λ n a covers satisfied. none n a covers (subst (λ g. WSat g a) (sym is) satisfied))

-- the formula over a table of variables is that over one data variable a type, where these are the variables
pub formula-is : (types : List TypeEntry) (others : List VarEntry) (f : FieldId) (formula : Formula) → others ≡ type_vars types →
    formula ≡ field_formula types others f → formula ≡ formula_of types f
formula-is types others f formula are is = is ∙ ap (λ vs. field_formula types vs f) are

-- ---- what the answers exclude

some-value : (o : Option Value) → IsSome o → IsSomeAnd o (λ x. Unit {0})
some-value None h = absurd (false≢true h)
some-value (Some x) h = tt

pub refutes-from : (types : List TypeEntry) (f : FieldId) (s : StoreMap) (c : CellId) → IsLeastFork types f s c → Refutes types (type_vars types) s f
refutes-from types f s c least =
    let fork = least.lowest.here in
    record {
      fits = least.fits;
      backbone = least.backbone;
      nulls = least.nulls;
      cell = c;
      has = some-value (field_value s c f) fork.has;
      one = fork.one;
      other = fork.other;
      apart = fork.apart;
      to_one = fork.to_one;
      to_other = fork.to_other;
    }

pub not-functional : (types : List TypeEntry) (f : FieldId) (s : StoreMap) (c : CellId) → IsLeastFork types f s c → IsFunctional types f → ⊥
not-functional types f s c least functional =
    let fork = least.lowest.here in
    fork.apart (functional.at_most_one (type_vars types) s least.fits least.backbone c fork.one fork.other
    (some-value (field_value s c f) fork.has) fork.to_one fork.to_other)
