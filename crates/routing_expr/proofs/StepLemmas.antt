-- Where single steps lead, by names and by the index of links.
use Rattle.std.proofs.Common.{◌≡◌, ◌↔◌, ◌<◌, ◌≤◌, ℕ, Bool, true, false, IsTrue, Result, Ok, Err, IfOk, List, [], ◌∷◌, ◌++◌, length, get_or, Option}
use Rattle.std.proofs.Common.{Some, None, IsSomeAnd, refl, sym, ap, ◌∙◌, subst, arith, slice_get, Contains}
use Rattle.std.specs.Option.{option_map, option_map_or}
use Rattle.std.specs.Str.{bytes_eq}
use Rattle.std.proofs.lemmas.Option.{slice_get_within, slice_get-get_or, slice_get-map, same_Some}
use Rattle.std.proofs.lemmas.Slice.Eq.{bytes_eq-Decides}
use Rattle.std.proofs.lemmas.List.Quantifiers.{position-Some}
use Rattle.std.specs.Bool.{Decides}
use Rattle.store_core.specs.declared.ids.TypeId.{TypeId}
use Rattle.store_core.specs.declared.ids.FieldId.{FieldId}
use Rattle.store_core.specs.declared.ids.CellId.{CellId}
use Rattle.store_core.specs.declared.kind.FieldKind.{FieldKind}
use Rattle.store_core.specs.declared.kind.FieldKind.TheVariants as field
use Rattle.store_core.specs.Tables.{TypeEntry, FieldEntry, type_at, fields_of, field_at, field_names, field_named, place_of, AreDistinct, IsTypeTable}
use Rattle.store_core.specs.Tables.{IsTypeEntry}
use Rattle.store_core.specs.Stores.{StoreMap}
use Rattle.store_core.proofs.Bodies.{AllByRecursion-at}
use Rattle.store_core.proofs.Names.{place_of-at}
use Rattle.routing_walks.proofs.WalkLemmas.{Walk-Root, Walk-Leaf, Walk-IsType, Walk-IsVariant, Walk-IsBool}
use Rattle.routing_walks.specs.Walks.{Fields, Stays, DataAlone, IsFollowed, Leads, LeadsByName, IsParent, IsNamed}
use Rattle.routing_walks.specs.Gathering.{Gathers, HasAll, Before}
use Rattle.routing_walks.proofs.GatheringLemmas.{Contains-at, place_in, Gathers-none, Gathers-push, Gathers-alike}
use Rattle.routing_expr.specs.declared.links.Link.{Link}
use Rattle.routing_expr.specs.declared.machine.Test.{Test}
use Rattle.routing_expr.specs.declared.machine.Test.TheVariants as test
use Rattle.routing_expr.specs.Machines.{label_of_test, Takes}
use Rattle.routing_expr.specs.Searches.{IsLink}

-- ---- names

abbrev name_of : FieldEntry → List ℕ
name_of f = f.name

distinct_fields : (types : List TypeEntry) (ty : TypeId) → IsTypeTable types → AreDistinct (field_names (fields_of types ty))
distinct_fields types ty table = by (type_at types ty) refl
  where
    by : (o : Option TypeEntry) → type_at types ty ≡ o → AreDistinct (field_names (option_map_or (λ t. t.fields) o []))
    by None at = tt
    by (Some t) at = (AllByRecursion-at (IsTypeEntry types) types ty.0 t table.each at).names

-- a field of a type that is there
pub named-known : (types : List TypeEntry) (f : FieldId) (P : FieldEntry → Type 0) → IsSomeAnd (field_at types f) P → f.ty.0 < length types
named-known types f P h = by (type_at types f.ty) refl h
  where
    by : (o : Option TypeEntry) → type_at types f.ty ≡ o → IsSomeAnd (slice_get (option_map_or (λ t. t.fields) o []) f.index) P → f.ty.0 < length types
    by None at h = absurd h
    by (Some t) at h = slice_get_within types f.ty.0 t at

named-there : (types : List TypeEntry) (ty : TypeId) (name : List ℕ) (i : ℕ) → IsTypeTable types →
    IsSomeAnd (slice_get (fields_of types ty) i) (λ entry. entry.name ≡ name) →
    place_of name (field_names (fields_of types ty)) ≡ Some i
named-there types ty name i table h = place_of-at (field_names (fields_of types ty)) i name (distinct_fields types ty table)
    (slice_get-map name_of (fields_of types ty) i ∙ by (slice_get (fields_of types ty) i) h)
  where
    by : (o : Option FieldEntry) → IsSomeAnd o (λ entry. entry.name ≡ name) → option_map name_of o ≡ Some name
    by None h = absurd h
    by (Some entry) h = ap Some h

named-back : (types : List TypeEntry) (ty : TypeId) (name : List ℕ) (i : ℕ) → place_of name (field_names (fields_of types ty)) ≡ Some i →
    IsSomeAnd (slice_get (fields_of types ty) i) (λ entry. entry.name ≡ name)
named-back types ty name i at =
    let found = position-Some (bytes_eq name) (field_names (fields_of types ty)) i name at in
    by (slice_get (fields_of types ty) i) (sym (slice_get-map name_of (fields_of types ty) i) ∙ slice_get-get_or
    (field_names (fields_of types ty)) i name found.0) found.1
  where
    same_name : (xs ys : List ℕ) → bytes_eq xs ys ≡ true → xs ≡ ys
    same_name xs ys e = decided (bytes_eq xs ys) e (bytes_eq-Decides xs ys)
      where
        decided : (b : Bool) → b ≡ true → Decides b (xs ≡ ys) → xs ≡ ys
        decided true e d = d.0 refl
        decided false e d = absurd (cc)

    by : (o : Option FieldEntry) → option_map name_of o ≡ Some (get_or (field_names (fields_of types ty)) i name) →
        bytes_eq name (get_or (field_names (fields_of types ty)) i name) ≡ true →
        IsSomeAnd o (λ entry. entry.name ≡ name)
    by None at test = absurd (cc)
    by (Some entry) at test = same_Some entry.name (get_or (field_names (fields_of types ty)) i name) at ∙
        sym (same_name name (get_or (field_names (fields_of types ty)) i name) test)

-- the field that is found by a name is the one that has it
pub named : (types : List TypeEntry) (ty : TypeId) (name : List ℕ) → IsTypeTable types → (f : FieldId) →
    (field_named types ty name ≡ Some f) ↔ ((f.ty ≡ ty) × IsNamed types f name)
named types ty name table f = (found (place_of name (field_names (fields_of types ty))) refl, there)
  where
    found : (o : Option ℕ) → place_of name (field_names (fields_of types ty)) ≡ o →
        option_map (λ i. record { ty = ty; index = i }) o ≡ Some f → (f.ty ≡ ty) × IsNamed types f name
    found None at is = absurd (cc)
    found (Some i) at is =
        let same : record { ty = ty; index = i } ≡ f = same_Some (record { ty = ty; index = i }) f is in
        (ap (λ (g : FieldId). g.ty) (sym same), subst (λ (g : FieldId). IsNamed types g name) same (named-back types ty name i at))

    there : (f.ty ≡ ty) × IsNamed types f name → field_named types ty name ≡ Some f
    there h =
        ap (option_map (λ i. record { ty = ty; index = i }))
        (named-there types ty name f.index table (subst (λ t. IsSomeAnd (slice_get (fields_of types t) f.index) (λ entry. entry.name ≡ name)) h.0 h.1))
        ∙ (λ i. Some (record { ty = sym h.0 i; index = f.index }))

-- ---- the links to a cell

-- the link at the place is by a field that passes, and comes from a
pub record LinkOf (links : List Link) (P : FieldId → Type 0) (i : ℕ) (a : CellId) : Type 0 where
  pub link : Link
  pub at : slice_get links i ≡ Some link
  pub passes : P link.field
  pub is : a ≡ link.parent

module _ (types : List TypeEntry) (s : StoreMap) (fields : Fields) (all links : List Link) (child : CellId)
    (indexed : HasAll all (IsLink types s fields)) (to_child : HasAll links (λ link. Contains all link × (link.child ≡ child))) where
  pub LinkOf-leads : (P : FieldId → Type 0) (i : ℕ) (a : CellId) → LinkOf links P i a → (f : FieldId) × P f × Leads types s fields f a child
  LinkOf-leads P i a h =
      let held = (to_child h.link).0 (Contains-at links i h.link h.at) in (
        h.link.field,
        h.passes,
        subst (λ x. Leads types s fields h.link.field x child) (sym h.is)
            (subst (λ x. Leads types s fields h.link.field h.link.parent x) held.1 ((indexed h.link).0 held.0)),
      )

  pub LinkOf-some : (P : FieldId → Type 0) (n : ℕ) → length links ≤ n → (f : FieldId) (a : CellId) → P f →
      Leads types s fields f a child → Before (LinkOf links P) n a
  LinkOf-some P n enough f a passes leads =
      let l : Link = record { child = child; parent = a; field = f } in
      let place = place_in links l ((to_child l).1 ((indexed l).1 leads, refl)) in
      let inside = slice_get_within links place.0 l place.1 in
      record { place = place.0; before = omega arith; at = record { link = l; at = place.1; passes = passes; is = refl } }

  pub LinkOf-named : (name : List ℕ) (n : ℕ) → length links ≤ n → (a : CellId) →
      Before (LinkOf links (λ f. IsNamed types f name)) n a ↔ LeadsByName types s fields name a child
  LinkOf-named name n enough a = (
    λ h. let step = LinkOf-leads (λ f. IsNamed types f name) h.place a h.at in record { field = step.0; named = step.1; leads = step.2 },
    λ h. LinkOf-some (λ f. IsNamed types f name) n enough h.field a h.named h.leads,
  )

-- a data field is followed whatever the fields are
followed-more : (fields : Fields) (o : Option FieldEntry) → IsSomeAnd o (λ entry. IsFollowed DataAlone entry.kind) →
    IsSomeAnd o (λ entry. IsFollowed fields entry.kind)
followed-more fields None h = absurd h
followed-more fields (Some entry) h = kind fields entry.kind h
  where
    kind : (fields : Fields) (k : FieldKind) → IsFollowed DataAlone k → IsFollowed fields k
    kind fields field.Bool h = absurd h
    kind fields (field.Data target) h = tt
    kind fields (field.Pointer target along) h = absurd h

abbrev pub IsData : List TypeEntry → FieldId → Type 0
IsData types f = IsSomeAnd (field_at types f) (λ entry. IsFollowed DataAlone entry.kind)

module _ (types : List TypeEntry) (s : StoreMap) (fields : Fields) (all links : List Link) (child : CellId)
    (indexed : HasAll all (IsLink types s fields)) (to_child : HasAll links (λ link. Contains all link × (link.child ≡ child))) where
  pub LinkOf-parent : (i : ℕ) (a : CellId) → LinkOf links (IsData types) i a → IsParent types s a child
  LinkOf-parent i a h =
      let step = LinkOf-leads types s fields all links child indexed to_child (IsData types) i a h in
      record { field = step.0; leads = record { kind = step.1; value = step.2.value; live = step.2.live } }

  pub LinkOf-parents : (n : ℕ) → length links ≤ n → (a : CellId) → Before (LinkOf links (IsData types)) n a ↔ IsParent types s a child
  LinkOf-parents n enough a = (
    λ h. LinkOf-parent h.place a h.at,
    λ h. LinkOf-some types s fields all links child indexed to_child (IsData types) n enough h.field a h.leads.kind
        (record { kind = followed-more fields (field_at types h.field) h.leads.kind; value = h.leads.value; live = h.leads.live }),
  )

-- what the link at a place adds
pub LinkOf-one : (links : List Link) (P : FieldId → Type 0) (i : ℕ) (l : Link) → slice_get links i ≡ Some l → P l.field →
    (a : CellId) → (a ≡ l.parent) ↔ LinkOf links P i a
LinkOf-one links P i l at passes a = (
  λ is. record { link = l; at = at; passes = passes; is = is },
  λ h. h.is ∙ ap (λ (x : Link). x.parent) (same_Some h.link l (sym h.at ∙ at)),
)

pub LinkOf-not : (links : List Link) (P : FieldId → Type 0) (i : ℕ) (l : Link) → slice_get links i ≡ Some l → (P l.field → ⊥) →
    (a : CellId) → LinkOf links P i a → ⊥
LinkOf-not links P i l at fails a h = fails (subst (λ (x : Link). P x.field) (same_Some h.link l (sym h.at ∙ at)) h.passes)

-- a list of parents after the link at a place: longer by the link's where its field passes, and the same where it doesn't
module _ (links : List Link) (P : FieldId → Type 0) (i : ℕ) (l : Link) (at : slice_get links i ≡ Some l) (old new : List CellId) where
  pub parent-added : new ≡ old ++ l.parent ∷ [] → P l.field → Gathers old new (LinkOf links P i)
  parent-added is passes = subst (λ cells. Gathers old cells (LinkOf links P i)) (sym is)
      (Gathers-alike old (old ++ l.parent ∷ []) (λ x. x ≡ l.parent) (LinkOf links P i)
      (Gathers-push old l.parent) (LinkOf-one links P i l at passes))

  pub parent-left : new ≡ old → (P l.field → ⊥) → Gathers old new (LinkOf links P i)
  parent-left is fails = subst (λ cells. Gathers old cells (LinkOf links P i)) (sym is)
      (Gathers-none old (LinkOf links P i) (LinkOf-not links P i l at fails))

-- what is read past the end of a list of links
abbrev pub no_link : Link
no_link = record { child = record { 0 = 0 }; parent = record { 0 = 0 }; field = record { ty = record { 0 = 0 }; index = 0 } }

-- a test decides whether the cell stays
pub stays-by : {W : Type 0} (Passes : CellId → Type 0) (cell : CellId) (r : Bool) → W ↔ Stays Passes cell cell → IsTrue r ↔ Passes cell → IsTrue r ↔ W
stays-by Passes cell r w p = (λ t. w.1 (refl, p.0 t), λ h. p.1 (w.0 h).1)

pub IfOk-by : {T E : Type 0} (r : Result T E) {P Q : T → Type 0} → IfOk r P → ((x : T) → P x → Q x) → IfOk r Q
IfOk-by (Ok x) p f = f x p
IfOk-by (Err e) p f = tt

-- a test leads nowhere else
pub Takes-test : (types : List TypeEntry) (s : StoreMap) (fields : Fields) (t : Test) (a b : CellId) → Takes types s fields (label_of_test t) a b → a ≡ b
Takes-test types s fields test.Live a b h = h.0
Takes-test types s fields test.Root a b h = ((Walk-Root types s fields a b).0 h).0
Takes-test types s fields test.Leaf a b h = ((Walk-Leaf types s fields a b).0 h).0
Takes-test types s fields (test.IsType ty) a b h = ((Walk-IsType types s fields ty a b).0 h).0
Takes-test types s fields (test.IsVariant v) a b h = ((Walk-IsVariant types s fields v a b).0 h).0
Takes-test types s fields (test.IsBool name truth) a b h = ((Walk-IsBool types s fields name.now truth a b).0 h).0
