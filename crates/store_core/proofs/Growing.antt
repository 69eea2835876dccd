-- What a table knows, a greater one knows; and a table stays one as it grows.
use Rattle.std.proofs.Common.{◌≡◌, ℕ, zero, suc, ◌<◌, ◌≤◌, Bool, IsTrue, ◌&&◌, List, [], ◌∷◌, ◌++◌, length, set, Option, Some, None, refl, sym, ap}
use Rattle.std.proofs.Common.{◌∙◌, subst, arith, slice_get, IfSome}
use Rattle.std.proofs.lemmas.List.{length-set, length_push, map_push}
use Rattle.std.specs.Option.{option_map_or}
use Rattle.std.specs.List.{AllByRecursion}
use Rattle.store_core.specs.declared.ids.VariantId.{VariantId}
use Rattle.store_core.specs.declared.kind.Route.{Route}
use Rattle.store_core.specs.declared.kind.Route.TheOpen.{Route-F}
use Rattle.store_core.specs.declared.kind.Route.TheFolds.{fold-Route, fold-roll-Route, ind-Route, map-Route}
use Rattle.store_core.specs.declared.kind.FieldKind.{FieldKind}
use Rattle.store_core.specs.declared.kind.FieldKind.TheVariants as field
use Rattle.store_core.specs.Tables.{TypeEntry, FieldEntry, KnowsVariant, KnowsKind, KnowsRoute, knows_node, count_of_variants, type_names}
use Rattle.store_core.specs.Tables.{IsFieldEntry, IsTypeEntry, IsTypeTable, AreDistinct}

-- every type and variant stays
pub record Grows (old new : List TypeEntry) : Type 0 where
  pub types : length old ≤ length new
  pub variants : (v : VariantId) → KnowsVariant old v → KnowsVariant new v

abbrev Keeps : List TypeEntry → List TypeEntry → Route → Type 0
Keeps old new along = KnowsRoute old along → KnowsRoute new along

both : (a b c d : Bool) → (IsTrue a → IsTrue c) → (IsTrue b → IsTrue d) → IsTrue (a && b) → IsTrue (c && d)
both a b c d f g h = grind arith

pub AllByRecursion-weaker : {X : Type 0} (P Q : X → Type 0) → ((x : X) → P x → Q x) → (xs : List X) → AllByRecursion P xs → AllByRecursion Q xs
AllByRecursion-weaker P Q step [] all = tt
AllByRecursion-weaker P Q step (x ∷ xs) all = (step x all.0, AllByRecursion-weaker P Q step xs all.1)

pub AllByRecursion-push : {X : Type 0} (P : X → Type 0) (xs : List X) (y : X) → AllByRecursion P xs → P y → AllByRecursion P (xs ++ y ∷ [])
AllByRecursion-push P [] y all last = (last, tt)
AllByRecursion-push P (x ∷ xs) y all last = (all.0, AllByRecursion-push P xs y all.1 last)

pub AllByRecursion-set : {X : Type 0} (P : X → Type 0) (xs : List X) (i : ℕ) (y : X) → AllByRecursion P xs → P y → AllByRecursion P (set xs i y)
AllByRecursion-set P [] i y all here = tt
AllByRecursion-set P (x ∷ xs) zero y all here = (here, all.1)
AllByRecursion-set P (x ∷ xs) (suc i) y all here = (all.0, AllByRecursion-set P xs i y all.1 here)

module _ (old new : List TypeEntry) (grows : Grows old new) where
  kept : (y : Route-F ((r : Route) × Keeps old new r))
      → IsTrue (knows_node old (map-Route Route Bool (fold-Route Bool (knows_node old)) (map-Route ((r : Route) × Keeps old new r) Route (λ e. e.0) y)))
      → IsTrue (knows_node new (map-Route Route Bool (fold-Route Bool (knows_node new)) (map-Route ((r : Route) × Keeps old new r) Route (λ e. e.0) y)))
  kept (Route-F.Down name) h = h
  kept (Route-F.Up name) h = h
  kept Route-F.UpAny h = h
  kept Route-F.Root h = h
  kept Route-F.Leaf h = h
  kept (Route-F.IsType ty) h = let grown = grows.types in grind arith
  kept (Route-F.IsVariant v) h = let grown = grows.variants v in grind arith
  kept (Route-F.IsBool name value) h = h
  kept (Route-F.Then first second) h = both _ _ _ _ first.1 second.1 h
  kept (Route-F.Or one other) h = both _ _ _ _ one.1 other.1 h
  kept (Route-F.Star round) h = round.1 h

  pub KnowsRoute-grows : (along : Route) → Keeps old new along
  KnowsRoute-grows = ind-Route (Keeps old new) (λ x y is h.
      subst IsTrue (sym (fold-roll-Route Bool (knows_node new) x))
      (subst (λ z. IsTrue (knows_node old (map-Route Route Bool (fold-Route Bool (knows_node old)) z)) →
      IsTrue (knows_node new (map-Route Route Bool (fold-Route Bool (knows_node new)) z))) is (kept y)
      (subst IsTrue (fold-roll-Route Bool (knows_node old) x) h)))

  pub KnowsKind-grows : (kind : FieldKind) → KnowsKind old kind → KnowsKind new kind
  KnowsKind-grows field.Bool h = tt
  KnowsKind-grows (field.Data target) h = let grown = grows.types in omega arith
  KnowsKind-grows (field.Pointer target along) h = let grown = grows.types in (omega (arith, h.0), KnowsRoute-grows along h.1)

  pub IsFieldEntry-grows : (m n : ℕ) → m ≤ n → (f : FieldEntry) → IsFieldEntry old m f → IsFieldEntry new n f
  IsFieldEntry-grows m n more f is = record { owner = owned f.only is.owner; kind = KnowsKind-grows f.kind is.kind }
    where
      owned : (only : Option ℕ) → IfSome only (λ i. i < m) → IfSome only (λ i. i < n)
      owned None h = h
      owned (Some i) h = omega arith

  pub IsTypeEntry-grows : (t : TypeEntry) → IsTypeEntry old t → IsTypeEntry new t
  IsTypeEntry-grows t is = record {
    few_variants = is.few_variants;
    few_fields = is.few_fields;
    variants = is.variants;
    names = is.names;
    fields = AllByRecursion-weaker _ _ (IsFieldEntry-grows (count_of_variants t) (count_of_variants t) (omega arith)) t.fields is.fields;
  }

-- ---- a type more

Grows-push : (types : List TypeEntry) (t : TypeEntry) → Grows types (types ++ t ∷ [])
Grows-push types t = record {
  types = omega (arith, length_push types t);
  variants = λ v known. still types t v.ty.0 v.index known;
}
  where
    still : (types : List TypeEntry) (t : TypeEntry) (i n : ℕ) → n < option_map_or count_of_variants (slice_get types i) 0 →
        n < option_map_or count_of_variants (slice_get (types ++ t ∷ []) i) 0
    still [] t i n h = absurd (omega arith)
    still (u ∷ types) t zero n h = h
    still (u ∷ types) t (suc i) n h = still types t i n h

pub IsTypeTable-push : (types : List TypeEntry) (t : TypeEntry) → IsTypeTable types → length types < 4294967295 → AreDistinct (type_names types ++ t.name ∷ [])
    → IsTypeEntry (types ++ t ∷ []) t → IsTypeTable (types ++ t ∷ [])
IsTypeTable-push types t table room distinct entry = record {
  few = omega (arith, length_push types t);
  names = subst AreDistinct (sym (map_push (λ u. u.name) types t)) distinct;
  each = AllByRecursion-push _ types t (AllByRecursion-weaker _ _ (IsTypeEntry-grows types (types ++ t ∷ []) (Grows-push types t)) types table.each) entry;
}

-- ---- a type changed

-- an element as long as the one in its place keeps what is counted at each place
counts_more : (types : List TypeEntry) (i : ℕ) (t u : TypeEntry) → slice_get types i ≡ Some t → count_of_variants t ≤ count_of_variants u
    → (j n : ℕ) → n < option_map_or count_of_variants (slice_get types j) 0 → n < option_map_or count_of_variants (slice_get (set types i u) j) 0
counts_more [] i t u at more j n h = absurd (cc)
counts_more (w ∷ types) zero t u at more zero n h = let same : w ≡ t = cc in let lt = subst (λ (v : TypeEntry). n < count_of_variants v) same h in omega arith
counts_more (w ∷ types) zero t u at more (suc j) n h = h
counts_more (w ∷ types) (suc i) t u at more zero n h = h
counts_more (w ∷ types) (suc i) t u at more (suc j) n h = counts_more types i t u at more j n h

names_stay : (types : List TypeEntry) (i : ℕ) (t u : TypeEntry) → slice_get types i ≡ Some t → u.name ≡ t.name → type_names (set types i u) ≡ type_names types
names_stay [] i t u at same = refl
names_stay (w ∷ types) zero t u at same = let is : w ≡ t = cc in λ j. (same ∙ ap (λ (v : TypeEntry). v.name) (sym is)) j ∷ type_names types
names_stay (w ∷ types) (suc i) t u at same = ap (λ names. w.name ∷ names) (names_stay types i t u at same)

pub Grows-set : (types : List TypeEntry) (i : ℕ) (t u : TypeEntry) → slice_get types i ≡ Some t →
    count_of_variants t ≤ count_of_variants u → Grows types (set types i u)
Grows-set types i t u at more = record {
  types = omega (arith, length-set types i u);
  variants = λ v known. counts_more types i t u at more v.ty.0 v.index known;
}

pub IsTypeTable-set : (types : List TypeEntry) (i : ℕ) (t u : TypeEntry) → IsTypeTable types → slice_get types i ≡ Some t →
    u.name ≡ t.name → count_of_variants t ≤ count_of_variants u
    → IsTypeEntry (set types i u) u → IsTypeTable (set types i u)
IsTypeTable-set types i t u table at same more entry = record {
  few = omega (arith, length-set types i u, table.few);
  names = subst AreDistinct (sym (names_stay types i t u at same)) table.names;
  each = AllByRecursion-set _ types i u (AllByRecursion-weaker _ _
      (IsTypeEntry-grows types (set types i u) (Grows-set types i t u at more)) types table.each) entry;
}
