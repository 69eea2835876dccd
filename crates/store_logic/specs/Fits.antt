-- When assertions, predicates and regions fit their tables: what they name is there, and of the sort that its place needs.
use Rattle.std.specs.Prelude.{◌≡◌, ℕ, List, [], ◌∷◌, length, reverse, slice_get, IsSomeAnd}
use Rattle.std.specs.List.{AllByRecursion}
use Rattle.store_core.specs.declared.ids.TypeId.{TypeId}
use Rattle.store_core.specs.declared.ids.FieldId.{FieldId}
use Rattle.store_core.specs.declared.ids.VarId.{VarId}
use Rattle.store_core.specs.declared.ids.VariantId.{VariantId}
use Rattle.store_core.specs.declared.kind.FieldKind.{FieldKind}
use Rattle.store_core.specs.declared.kind.FieldKind.TheVariants as field
use Rattle.store_core.specs.declared.kind.Route.{Route}
use Rattle.store_core.specs.declared.kind.Route.TheOpen.{Route-F}
use Rattle.store_core.specs.declared.kind.Route.TheFolds.{rec-Route}
use Rattle.store_core.specs.Tables.{TypeEntry, VarEntry, KnowsType, KnowsVariant, KnowsVarKind, field_at, var_at}
use Rattle.routing_walks.specs.Walks.{DataAndPointers, IsFollowed, IsNamed}
use Rattle.routing_walks.specs.WellFormed.{IsDataVar}
use Rattle.store_logic.specs.declared.term.Base.{Base}
use Rattle.store_logic.specs.declared.term.Term.{Term}
use Rattle.store_logic.specs.declared.assertion.Assertion.{Assertion}
use Rattle.store_logic.specs.declared.assertion.Assertion.TheOpen.{Assertion-F}
use Rattle.store_logic.specs.declared.assertion.Assertion.TheFolds.{rec-Assertion}
use Rattle.store_logic.specs.declared.pred.PredDef.{PredDef}
use Rattle.store_logic.specs.declared.region.Region.{Region}
use Rattle.store_logic.specs.declared.region.Region.TheVariants as region
use Rattle.store_logic.specs.Sorts.{Sort, Truth, Cell, Set, Scope, scope_of, under, BaseFits, TermFits, ArgsFit}

-- the kinds of the variables name types of the table
abbrev pub KnowsVars : List TypeEntry → List VarEntry → Type 0
KnowsVars types vars = AllByRecursion (λ entry. KnowsVarKind types entry.kind) vars

-- ---- routes of assertions

-- some type has a field of this name, of a kind that this is so of
pub record HasFieldNamed (types : List TypeEntry) (IsSo : FieldKind → Type 0) (name : List ℕ) : Type 0 where
  pub field : FieldId
  pub named : IsNamed types field name
  pub kind : IsSomeAnd (field_at types field) (λ entry. IsSo entry.kind)

abbrev pub IsBoolField : FieldKind → Type 0
IsBoolField field.Bool = Unit {0}
IsBoolField (field.Data target) = ⊥
IsBoolField (field.Pointer target along) = ⊥

-- one form of route names what is there, where its parts do
abbrev pub RouteFitsNode : List TypeEntry → (Part : Type 0) → (Part → Route) → (Part → Type 0) → Route-F Part → Type 0
RouteFitsNode types Part whole fits (Route-F.Down name) = HasFieldNamed types (IsFollowed DataAndPointers) name
RouteFitsNode types Part whole fits (Route-F.Up name) = HasFieldNamed types (IsFollowed DataAndPointers) name
RouteFitsNode types Part whole fits Route-F.UpAny = Unit {0}
RouteFitsNode types Part whole fits Route-F.Root = Unit {0}
RouteFitsNode types Part whole fits Route-F.Leaf = Unit {0}
RouteFitsNode types Part whole fits (Route-F.IsType ty) = KnowsType types ty
RouteFitsNode types Part whole fits (Route-F.IsVariant v) = KnowsVariant types v
RouteFitsNode types Part whole fits (Route-F.IsBool name truth) = HasFieldNamed types IsBoolField name
RouteFitsNode types Part whole fits (Route-F.Then first second) = fits first × fits second
RouteFitsNode types Part whole fits (Route-F.Or one other) = fits one × fits other
RouteFitsNode types Part whole fits (Route-F.Star round) = fits round

-- the route of an assertion names data and pointer fields, bool fields, types and variants that are there
abbrev pub RouteFits : List TypeEntry → Route → Type 0
RouteFits types = rec-Route (Type 0) (RouteFitsNode types)

-- ---- assertions without parts

-- the term is null or a cell of the type of the variant, which is there
pub record VariantTestFits (types : List TypeEntry) (scope : Scope) (t : Term) (v : VariantId) : Type 0 where
  pub variant : KnowsVariant types v
  pub term : TermFits types scope t (Cell v.ty)

-- the terms are null or cells of one type
pub record SameTestFits (types : List TypeEntry) (scope : Scope) (t u : Term) : Type 0 where
  pub ty : TypeId
  pub left : TermFits types scope t (Cell ty)
  pub right : TermFits types scope u (Cell ty)

-- the term is null or a cell of the type of the set
pub record MemberTestFits (types : List TypeEntry) (scope : Scope) (t : Term) (set : Base) : Type 0 where
  pub ty : TypeId
  pub member : TermFits types scope t (Cell ty)
  pub of_set : BaseFits scope set (Set ty)

-- the sets are of one type
pub record SubsetTestFits (scope : Scope) (set other : Base) : Type 0 where
  pub ty : TypeId
  pub left : BaseFits scope set (Set ty)
  pub right : BaseFits scope other (Set ty)

-- the terms are null or cells, of whatever types, and the route fits
pub record WalkTestFits (types : List TypeEntry) (scope : Scope) (t : Term) (along : Route) (u : Term) : Type 0 where
  pub from_type : TypeId
  pub from : TermFits types scope t (Cell from_type)
  pub route : RouteFits types along
  pub to_type : TypeId
  pub to : TermFits types scope u (Cell to_type)

-- ---- assertions

-- one form fits where its parts do; what a quantifier governs has one bound name more
abbrev pub AssertionFitsNode : List TypeEntry →
    (Part : Type 0) → (Part → Assertion) → (Part → Scope → Type 0) → Assertion-F Part → Scope → Type 0
AssertionFitsNode types Part whole fits Assertion-F.True scope = Unit {0}
AssertionFitsNode types Part whole fits Assertion-F.False scope = Unit {0}
AssertionFitsNode types Part whole fits (Assertion-F.Truth t) scope = TermFits types scope t Truth
AssertionFitsNode types Part whole fits (Assertion-F.Is t v) scope = VariantTestFits types scope t v
AssertionFitsNode types Part whole fits (Assertion-F.Same t u) scope = SameTestFits types scope t u
AssertionFitsNode types Part whole fits (Assertion-F.Member t set) scope = MemberTestFits types scope t set
AssertionFitsNode types Part whole fits (Assertion-F.Subset set other) scope = SubsetTestFits scope set other
AssertionFitsNode types Part whole fits (Assertion-F.Walk t along u) scope = WalkTestFits types scope t along u
AssertionFitsNode types Part whole fits (Assertion-F.Pred k args) scope = IsSomeAnd (slice_get scope.preds k) (ArgsFit types scope args)
AssertionFitsNode types Part whole fits (Assertion-F.Not a) scope = fits a scope
AssertionFitsNode types Part whole fits (Assertion-F.And a b) scope = fits a scope × fits b scope
AssertionFitsNode types Part whole fits (Assertion-F.Or a b) scope = fits a scope × fits b scope
AssertionFitsNode types Part whole fits (Assertion-F.Imp a b) scope = fits a scope × fits b scope
AssertionFitsNode types Part whole fits (Assertion-F.Iff a b) scope = fits a scope × fits b scope
AssertionFitsNode types Part whole fits (Assertion-F.Ex ty a) scope = KnowsType types ty × fits a (under (Cell ty) scope)
AssertionFitsNode types Part whole fits (Assertion-F.All ty a) scope = KnowsType types ty × fits a (under (Cell ty) scope)
AssertionFitsNode types Part whole fits (Assertion-F.ExSet ty a) scope = KnowsType types ty × fits a (under (Set ty) scope)
AssertionFitsNode types Part whole fits (Assertion-F.AllSet ty a) scope = KnowsType types ty × fits a (under (Set ty) scope)

-- the assertion fits where this can be named
abbrev pub FitsIn : List TypeEntry → Assertion → Scope → Type 0
FitsIn types = rec-Assertion (Scope → Type 0) (AssertionFitsNode types)

-- the assertion fits the tables: it has no predicate and no parameter, and each bound name is one of a quantifier around it
abbrev pub AssertionFits : List TypeEntry → List VarEntry → Assertion → Type 0
AssertionFits types vars a = FitsIn types a (scope_of vars)

-- ---- predicates

-- the predicates of a list, the last of them first, have parameters of these sorts, and each body fits: it names its parameters
-- and the predicates before it, and no variable
abbrev pub PredsFit : List TypeEntry → List PredDef → List (List Sort) → Type 0
PredsFit types [] [] = Unit {0}
PredsFit types [] (own ∷ before) = ⊥
PredsFit types (p ∷ earlier) [] = ⊥
PredsFit types (p ∷ earlier) (own ∷ before) =
    (length own ≡ p.params) × FitsIn types p.body (record { vars = []; bound = []; params = own; preds = reverse before }) × PredsFit types earlier before

-- ---- regions

-- a data variable of the table
abbrev pub IsKnownDataVar : List VarEntry → VarId → Type 0
IsKnownDataVar vars v = IsSomeAnd (var_at vars v) (λ entry. IsDataVar entry.kind)

-- the region is named by data variables
abbrev pub RegionFits : List VarEntry → Region → Type 0
RegionFits vars region.All = Unit {0}
RegionFits vars (region.Part roots) = AllByRecursion (IsKnownDataVar vars) roots
RegionFits vars (region.Rest roots) = AllByRecursion (IsKnownDataVar vars) roots
