-- The formula of trees keeps the cells of each two variants apart.
use Rattle.std.proofs.Common.{◌≡◌, ◌≢◌, ℕ, zero, suc, ◌<◌, ◌≤◌, inl, inr, List, [], ◌∷◌, ◌++◌, map, flat_map, length, Contains, append-nil}
use Rattle.std.proofs.Common.{sym, ap, ◌∙◌, subst, arith}
use Rattle.std.proofs.lemmas.List.Elements.{Contains-append_cases}
use Rattle.std.proofs.lemmas.Grind.{flat_map-append}
use Rattle.std.proofs.lemmas.List.Concat.{flat_map-cons}
use Rattle.gta_theory.specs.Assignments.{Assignment, IsFinite}
use Rattle.gta_theory.proofs.ListsLemmas.{Contains-first, Contains-later, Contains-none, Contains-mapped, All-from_contains}
use Rattle.ws2s_core.specs.declared.formula.Formula.{Formula}
use Rattle.ws2s_core.specs.Satisfaction.{WSat}
use Rattle.ws2s_forms.proofs.LawsLemmas.{law-and_list}
use Rattle.store_core.specs.declared.ids.TypeId.{TypeId}
use Rattle.store_core.specs.declared.ids.VariantId.{VariantId}
use Rattle.store_core.specs.Tables.{TypeEntry, VarEntry, IsTypeTable, variant_count}
use Rattle.tree_encode.specs.Tracks.{track_count}
use Rattle.tree_formula.specs.WellEncoded.{named, type_id, variant_in, types_in, variants_of, are_apart, well_encoded}
use Rattle.tree_store.specs.Shapes.{LaysOut}
use Rattle.tree_store.specs.Premises.{OwnersAreThere}
use Rattle.tree_store.proofs.FormulaLemmas.{well_encoded-means}
use Rattle.tree_store.proofs.ListsLemmas.{named-inside, flat_map-inside, Contains-one}
use Rattle.tree_store.proofs.MarksLemmas.{one-variant}
use Rattle.tree_store.proofs.TablesLemmas.{owners-there}
use Rattle.tree_store.proofs.VariantsLemmas.{are_apart-means}
use Rattle.tree_apart.specs.Apart.{all_variants, pairs, cells_apart, HoldsOfTrees}

-- ---- each is related to each later one

abbrev pub AreOrdered : {X : Type 0} → (X → X → Type 0) → List X → Type 0
AreOrdered R [] = Unit {0}
AreOrdered {X} R (x ∷ xs) = ((y : X) → Contains xs y → R x y) × AreOrdered R xs

ordered-append : {X : Type 0} (R : X → X → Type 0) (xs ys : List X) → AreOrdered R xs → AreOrdered R ys →
    ((x y : X) → Contains xs x → Contains ys y → R x y) → AreOrdered R (xs ++ ys)
ordered-append R [] ys first second across = second
ordered-append R (x ∷ xs) ys first second across = (
  (λ y among. elim (Contains-append_cases xs ys y among) as (λ _. R x y) [
    | inl here ↦ first.0 y here
    | inr later ↦ across x y (Contains-first x xs) later
  ]),
  ordered-append R xs ys first.1 second (λ z y among later. across z y (Contains-later x z xs among) later),
)

ordered-one : {X : Type 0} (R : X → X → Type 0) (x : X) → AreOrdered R (x ∷ [])
ordered-one R x = ((λ y none. absurd (Contains-none y none)), tt)

-- those that come from numbers
ordered-named : {X : Type 0} (R : X → X → Type 0) (name : ℕ → X) → ((i j : ℕ) → i < j → R (name i) (name j)) → (n : ℕ) → AreOrdered R (named name n)
ordered-named R name rise zero = tt
ordered-named R name rise (suc n) =
    ordered-append R (named name n) (name n ∷ []) (ordered-named R name rise n) (ordered-one R (name n)) (λ x y among last.
    let (i, below, is) = named-inside name n x among in
    let same : name n ≡ y = Contains-one (name n) y last in
    subst (λ z. R z y) is (subst (λ z. R (name i) z) same (rise i n below)))

-- lists end to end, each from a number
ordered-flat : {X Y : Type 0} (R : Y → Y → Type 0) (f : X → List Y) (name : ℕ → X) → ((i : ℕ) → AreOrdered R (f (name i))) →
    ((i j : ℕ) (x y : Y) → i < j → Contains (f (name i)) x → Contains (f (name j)) y → R x y) → (n : ℕ) → AreOrdered R (flat_map f (named name n))
ordered-flat R f name each rise zero = tt
ordered-flat R f name each rise (suc n) =
    subst (AreOrdered R) (sym (flat_map-append f (named name n) (name n ∷ []) ∙ ap (λ ys. flat_map f (named name n) ++ ys) (last n)))
    (ordered-append R (flat_map f (named name n)) (f (name n)) (ordered-flat R f name each rise n) (each n) (λ x y among later.
    let (z, inside, of_z) = flat_map-inside f (named name n) x among in
    let (i, below, is) = named-inside name n z inside in
    rise i n x y below (subst (λ u. Contains (f u) x) (sym is) of_z) later))
  where
    last : (n : ℕ) → flat_map f (name n ∷ []) ≡ f (name n)
    last n = flat_map-cons f (name n) [] ∙ append-nil (f (name n))

-- ---- what the pairs are

pub record IsPair {X Y : Type 0} (R : X → X → Type 0) (pair : X → X → Y) (xs : List X) (f : Y) : Type 0 where
  pub one : X
  pub other : X
  pub first : Contains xs one
  pub second : Contains xs other
  pub related : R one other
  pub is : pair one other ≡ f

pairs-inside : {X Y : Type 0} (R : X → X → Type 0) (pair : X → X → Y) (xs : List X) (f : Y) → AreOrdered R xs → Contains (pairs pair xs) f →
    IsPair R pair xs f
pairs-inside R pair [] f ordered among = absurd (Contains-none f among)
pairs-inside R pair (x ∷ xs) f ordered among =
    elim (Contains-append_cases (map (pair x) xs) (pairs pair xs) f among) as (λ _. IsPair R pair (x ∷ xs) f) [
      | inl here ↦
          (let (y, later, is) = Contains-mapped (pair x) xs f here in
          record {
            one = x;
            other = y;
            first = Contains-first x xs;
            second = Contains-later x y xs later;
            related = ordered.0 y later;
            is = is;
          })
      | inr later ↦
          (let found = pairs-inside R pair xs f ordered.1 later in
          record {
            one = found.one;
            other = found.other;
            first = Contains-later x found.one xs found.first;
            second = Contains-later x found.other xs found.second;
            related = found.related;
            is = found.is;
          })
    ]

-- ---- variants

of-type : (types : List TypeEntry) (ty : TypeId) (v : VariantId) → Contains (variants_of types ty) v → (v.ty ≡ ty) × (v.index < variant_count types v.ty)
of-type types ty v among =
    let (i, below, is) = named-inside (variant_in ty) (variant_count types ty) v among in (
      ap (λ (u : VariantId). u.ty) (sym is),
      subst (λ (u : VariantId). u.index < variant_count types u.ty) is below,
    )

known : (types : List TypeEntry) (v : VariantId) → Contains (all_variants types) v → v.index < variant_count types v.ty
known types v among =
    let (ty, listed, of_ty) = flat_map-inside (variants_of types) (types_in types) v among in
    (of-type types ty v of_ty).1

all-differ : (types : List TypeEntry) → AreOrdered (λ (v w : VariantId). v ≢ w) (all_variants types)
all-differ types =
    ordered-flat (λ (v w : VariantId). v ≢ w) (variants_of types) type_id
    (λ i. ordered-named (λ (v w : VariantId). v ≢ w) (variant_in (type_id i)) (λ j k below same.
    let index : j ≡ k = ap (λ (v : VariantId). v.index) same in
    omega (arith, index, below)) (variant_count types (type_id i)))
    (λ i j v w below one other same.
    let typed : type_id i ≡ type_id j = sym (of-type types (type_id i) v one).0 ∙ ap (λ (u : VariantId). u.ty) same ∙ (of-type types (type_id j) w other).0 in
    let number : i ≡ j = ap (λ (t : TypeId). t.0) typed in
    omega (arith, number, below))
    (length types)

-- ---- the law

module _ (types : List TypeEntry) (vars : List VarEntry) (owners : OwnersAreThere types) (a : Assignment) (finite : IsFinite a) where
  laid-apart : (bound : ℕ) → track_count types vars ≤ bound → LaysOut types vars a → WSat (cells_apart bound types) a
  laid-apart bound few laid =
      (law-and_list bound (pairs (are_apart bound types) (all_variants types)) a).1
      (All-from_contains (λ (f : Formula). WSat f a) (pairs (are_apart bound types) (all_variants types)) (λ f among.
      let found = pairs-inside (λ (v w : VariantId). v ≢ w) (are_apart bound types) (all_variants types) f (all-differ types) among in
      subst (λ (g : Formula). WSat g a) found.is
      ((are_apart-means types vars a bound few finite found.one found.other (known types found.one found.first) (known types found.other found.second)).1
      (λ p one other. found.related (one-variant types vars a laid found.one found.other p one other)))))

  pub cells-apart : (next bound : ℕ) → track_count types vars ≤ next → track_count types vars ≤ bound → WSat (well_encoded next types vars) a →
      WSat (cells_apart bound types) a
  cells-apart next bound few within sat = laid-apart bound within ((well_encoded-means types vars owners a next few finite).0 sat)

-- so the formula holds of trees
pub cells-hold : (types : List TypeEntry) (vars : List VarEntry) (f : Formula) → IsTypeTable types → f ≡ cells_apart (track_count types vars) types →
    HoldsOfTrees types vars f
cells-hold types vars f table is next a few finite sat =
    subst (λ (g : Formula). WSat g a) (sym is)
    (cells-apart types vars (owners-there types table) a finite next (track_count types vars) few (omega arith) sat)
