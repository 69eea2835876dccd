-- Every pointer field is judged somehow: it is functional, or a least backbone with its first fork shows that it isn't.
use Rattle.std.proofs.Common.{◌≡◌, ◌⊎◌, inl, inr, ◌+◌, ◌<◌, ℕ, zero, suc, List, [], ◌∷◌, length, slice_get, Option, Some, None, IsSome, refl, sym, ap, ◌∙◌}
use Rattle.std.proofs.Common.{subst, arith}
use Rattle.std.specs.FinMap.{keys}
use Rattle.std.proofs.lemmas.Bool.{cases_lt, false≢true}
use Rattle.gta_theory.specs.Assignments.{Assignment, IsFinite}
use Rattle.gta_theory.proofs.AssignmentsLemmas.{Covers-finite}
use Rattle.ws2s_core.proofs.SatisfactionLemmas.{WSat-And}
use Rattle.ws2s_core.specs.Satisfaction.{WSat}
use Rattle.ws2s_least.specs.Lightest.{IsLightestFor}
use Rattle.ws2s_least.proofs.LightestLemmas.{lightest-exists}
use Rattle.store_core.specs.declared.ids.FieldId.{FieldId}
use Rattle.store_core.specs.declared.ids.CellId.{CellId}
use Rattle.store_core.specs.declared.kind.FieldKind.{FieldKind}
use Rattle.store_core.specs.declared.kind.FieldKind.TheVariants as field
use Rattle.store_core.specs.declared.value.Value.{Value}
use Rattle.store_core.specs.declared.value.Value.TheVariants as value
use Rattle.store_core.specs.Tables.{TypeEntry, VarEntry, FieldEntry, IsTypeTable, field_at}
use Rattle.store_core.specs.Stores.{StoreMap, field_value}
use Rattle.store_core.proofs.FittingLemmas.{IfSome-from, IsSomeAnd-at}
use Rattle.witness_store.specs.Only.{HasTwo}
use Rattle.routing_walks.specs.Destinations.{Dest, IsPointer}
use Rattle.routing_walks.specs.Sets.{Lists}
use Rattle.routing_walks.specs.WellFormed.{IsFunctional, IsFirstCell}
use Rattle.routing_walks.proofs.GatheringLemmas.{Contains-none, Contains-at, Contains-one}
use Rattle.routing_walks.specs.Deciding.{Decided}
use Rattle.routing_walks.proofs.DecidedStores.{dests}
use Rattle.tree_encode.specs.Tracks.{track_count, variants_from}
use Rattle.tree_store.proofs.WeighingLemmas.{weight-cells}
use Rattle.tree_formula.specs.WellEncoded.{well_encoded}
use Rattle.tree_store.specs.Shapes.{LaysOut}
use Rattle.tree_store.proofs.FormulaLemmas.{well_encoded-means}
use Rattle.tree_store.proofs.TablesLemmas.{owners-there}
use Rattle.tree_store.specs.Decoded.{Standing, AreCells, field_in, cells_below, decoded}
use Rattle.tree_store.specs.Stores.{IsStoreOf}
use Rattle.tree_store.proofs.StoreLemmas.{IsStoreOf-decoded}
use Rattle.tree_store.proofs.ValuesLemmas.{here_value}
use Rattle.tree_store.proofs.ExistenceLemmas.{AreCells-below, bound, cell_short}
use Rattle.graph_view.specs.Sights.{var_slots, at_first}
use Rattle.graph_view.specs.Cuts.{field_forks}
use Rattle.graph_meaning.specs.Fields.Forking.{Forks, HasFork}
use Rattle.graph_meaning.proofs.fields.ForkingLemmas.{field_formula-store}
use Rattle.graph_meaning.proofs.fields.FunctionalLemmas.{functional-means}
use Rattle.graph_meaning.proofs.fields.AloneLemmas.{light-tree}
use Rattle.field_judge.specs.OneEach.{type_vars}
use Rattle.field_judge.specs.Judging.{formula_of, ArePointersNull, IsLeastFork}
use Rattle.field_judge.proofs.OneEachLemmas.{one_each}
use Rattle.field_judge.proofs.ForksLemmas.{NoneBefore, none-start, none-next, first-found, none-found}
use Rattle.triple_judge.proofs.ExistenceLemmas.{tracks-to, variant-tracks}

-- ---- forks are decided

listed-two : (P : CellId → Type 0) (cells : List CellId) → Lists P cells → 1 < length cells → HasTwo P
listed-two P [] listed many = absurd (omega arith)
listed-two P (c ∷ []) listed many = absurd (omega arith)
listed-two P (c ∷ d ∷ cells) listed many =
    let below = listed.rising.0.0 in
    record {
      one = c;
      other = d;
      apart = λ same. let numbers : c.0 ≡ d.0 = ap (λ (x : CellId). x.0) same in absurd (omega arith);
      one_is = (listed.members c).0 (Contains-at (c ∷ d ∷ cells) 0 c refl);
      other_is = (listed.members d).0 (Contains-at (c ∷ d ∷ cells) 1 d refl);
    }

two-listed : (P : CellId → Type 0) (cells : List CellId) → Lists P cells → HasTwo P → 1 < length cells
two-listed P [] listed two = absurd (Contains-none two.one ((listed.members two.one).1 two.one_is))
two-listed P (c ∷ []) listed two =
    absurd (two.apart (Contains-one c two.one ((listed.members two.one).1 two.one_is) ∙ sym
    (Contains-one c two.other ((listed.members two.other).1 two.other_is))))
two-listed P (c ∷ d ∷ cells) listed two = omega arith

module _ (types : List TypeEntry) (s : StoreMap) (f : FieldId) where
  fork-decided : (c : CellId) → Decided (Forks types s f c)
  fork-decided c = by (field_value s c f) refl
    where
      listed : (cells : List CellId) × Lists (Dest types s c f) cells
      listed = dests types s c f

      by : (o : Option Value) → field_value s c f ≡ o → Decided (Forks types s f c)
      by None at = inr (λ fork. false≢true (subst IsSome at fork.has))
      by (Some x) at = elim (cases_lt 1 (length listed.0)) as (λ _. Decided (Forks types s f c)) [
        | inl many ↦
            (let two = listed-two (Dest types s c f) listed.0 listed.1 many in
            inl (record {
              has = subst IsSome (sym at) refl;
              one = two.one;
              other = two.other;
              apart = two.apart;
              to_one = two.one_is;
              to_other = two.other_is;
            }))
        | inr few ↦ inr (λ fork.
            let many = two-listed (Dest types s c f) listed.0 listed.1 (record {
              one = fork.one;
              other = fork.other;
              apart = fork.apart;
              one_is = fork.to_one;
              other_is = fork.to_other;
            }) in
            absurd (omega (arith, few, many)))
      ]

  -- ---- the first of them

  abbrev HasFirst : Type 0
  HasFirst = (c : CellId) × IsFirstCell (Forks types s f) c

  at-place : (n : ℕ) → NoneBefore types s f n → (o : Option ℕ) → slice_get (keys s.cells) n ≡ o → NoneBefore types s f (n + 1) ⊎ HasFirst
  at-place n none None at = inl (λ k d below there fork. elim (cases_lt k n) [
    | inl less ↦ none k d less there fork
    | inr more ↦
        (let same : k ≡ n = omega (arith, below, more) in
        let both : None ≡ Some d.0 = sym at ∙ subst (λ (j : ℕ). slice_get (keys s.cells) j ≡ Some d.0) same there in
        absurd (cc))
  ])
  at-place n none (Some k) at =
      let c : CellId = record { 0 = k } in
      elim (fork-decided c) as (λ _. NoneBefore types s f (n + 1) ⊎ HasFirst) [
        | inl fork ↦ inr (c, first-found types s f n c at none fork)
        | inr not ↦ inl (none-next types s f n c at not none)
      ]

  look : (n : ℕ) → NoneBefore types s f n ⊎ HasFirst
  look zero = inl (none-start types s f)
  look (suc n) =
      let e : n + 1 ≡ suc n = omega arith in
      elim (look n) as (λ _. NoneBefore types s f (suc n) ⊎ HasFirst) [
        | inl none ↦ subst (λ (m : ℕ). NoneBefore types s f m ⊎ HasFirst) e (at-place n none (slice_get (keys s.cells) n) refl)
        | inr found ↦ inr found
      ]

  first-fork : HasFork types s f → HasFirst
  first-fork fork = elim (look (length (keys s.cells))) as (λ _. HasFirst) [
    | inl none ↦ absurd (none-found types s f (length (keys s.cells)) (omega arith) none fork)
    | inr found ↦ found
  ]

-- ---- judgements

null-read : (types : List TypeEntry) (vars : List VarEntry) (a : Assignment) (cells : List Standing) → ArePointersNull types (decoded types vars a cells)
null-read types vars a cells c f pointer = IfSome-from (field_value (decoded types vars a cells) c f) (λ x. x ≡ value.Cell None) (λ x held.
    let at = here_value types vars a cells c f x held in
    let (entry, found, kind) = IsSomeAnd-at (field_at types f) (λ (e : FieldEntry). IsPointer e.kind) pointer in
    let two : Some entry ≡ Some at.entry = sym found ∙ at.there in
    let same : entry ≡ at.entry = cc in
    at.is ∙ by (at.cell).at at.entry.kind (subst (λ (e : FieldEntry). IsPointer e.kind) same kind))
  where
    by : (p : _) (kind : FieldKind) → IsPointer kind → field_in types a cells p f kind ≡ value.Cell None
    by p field.Bool pointer = absurd pointer
    by p (field.Data target) pointer = absurd pointer
    by p (field.Pointer target along) pointer = refl

module _ (types : List TypeEntry) (f : FieldId) (table : IsTypeTable types) where
  abbrev vars : List VarEntry
  vars = type_vars types

  abbrev all-tracks : List ℕ
  all-tracks = tracks-to (length (variants_from 0 types))

  abbrev HasLeast : Type 0
  HasLeast = (s : StoreMap) × (c : CellId) × IsLeastFork types f s c

  lays : (a : Assignment) → IsFinite a → WSat (formula_of types f) a → LaysOut types vars a
  lays a finite sat =
      let first = track_count types vars in
      let encoded = ((WSat-And (well_encoded first types vars) (field_forks types (at_first (var_slots vars)) first f) a).0 sat).0 in
      (well_encoded-means types vars (owners-there types table) a first (omega arith) finite).0 encoded

  from-cells : (depth : ℕ) (a : Assignment) → IsLightestFor all-tracks (formula_of types f) depth a → IsFinite a → LaysOut types vars a →
      (cells : List Standing) → AreCells types a cells → HasLeast
  from-cells depth a own finite laid cells are =
      let s = decoded types vars a cells in
      let of : IsStoreOf types vars a s = IsStoreOf-decoded types vars a cells laid are in
      let fork = (field_formula-store types vars a f table finite s of.fits of.backbone of.sets of.assignment).0 own.satisfies in
      let (c, lowest) = first-fork types s f fork in
      let count = weight-cells types vars s a all-tracks depth of.fits of.backbone of.assignment (variant-tracks types) own.covers in (
        s,
        c,
        record {
          fits = of.fits;
          backbone = of.backbone;
          nulls = null-read types vars a cells;
          numbers = of.numbers;
          lowest = lowest;
          fewest = λ others t fits backbone fork_t.
              let light = light-tree types vars others t f table (one_each types) fits backbone fork_t in
              let no_less = own.least light.depth light.sets light.covered light.satisfies in
              let few = light.light all-tracks (variant-tracks types) in
              omega (arith, count, no_less, few);
        },
      )

  from-sets : (depth : ℕ) (a : Assignment) → IsLightestFor all-tracks (formula_of types f) depth a → HasLeast
  from-sets depth a own =
      let finite = Covers-finite depth a own.covers in
      let laid = lays a finite own.satisfies in
      let deep = bound types vars a laid finite (length (variants_from 0 types)) in
      from-cells depth a own finite laid (cells_below types a deep []) (AreCells-below types vars a laid deep (cell_short types vars a laid finite))

  pub field-somehow : IsFunctional types f ⊎ HasLeast
  field-somehow = elim (lightest-exists (formula_of types f) all-tracks) as (λ _. IsFunctional types f ⊎ HasLeast) [
    | inl none ↦ inl ((functional-means types vars f table (one_each types)).1 none)
    | inr (depth, a, own) ↦ inr (from-sets depth a own)
  ]
