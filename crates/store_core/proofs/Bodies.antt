-- The kept types against the list of types that they stand for.
use Rattle.std.proofs.Common.{◌≡◌, ℕ, List, [], ◌∷◌, ◌++◌, map, Option, Some, None, refl, sym, ap, ◌∙◌, subst, arith, slice_get, zero, suc, cond, position, set}
use Rattle.std.specs.Option.{option_map, option_map_or}
use Rattle.std.specs.List.{AllByRecursion}
use Rattle.std.specs.Map.{keys_of, values_of}
use Rattle.std.specs.Str.{bytes_eq}
use Rattle.indexmap.specs.IndexMap.{insert_entry}
use Rattle.indexmap.specs.Layout.{set_value_at}
use Rattle.store_core.proofs.Names.{position_none-cons, position-keys}
use Rattle.std.specs.declared.vec.Vec.{Vec}
use Rattle.std.specs.declared.alloc.Global.{Global}
use Rattle.std.proofs.lemmas.Option.{slice_get-map}
use Rattle.std.proofs.lemmas.List.{length-map, map_push}
use Rattle.store_core.specs.declared.ids.TypeId.{TypeId}
use Rattle.store_core.specs.declared.types.TypeBody.{TypeBody}
use Rattle.store_core.specs.Tables.{TypeEntry, fields_of, variants_of, type_names, place_of, with_type, add_type, IsTypeTable, IsTypeEntry}
use Rattle.store_core.specs.TypeBodies.{body_entry, type_entry, field_entry, entries_of, IsBodyOf}

-- what holds of each element holds of the one at a place
pub AllByRecursion-at : {X : Type 0} (P : X → Type 0) (xs : List X) (i : ℕ) (x : X) → AllByRecursion P xs → slice_get xs i ≡ Some x → P x
AllByRecursion-at P [] i x all at = absurd (cc)
AllByRecursion-at P (y ∷ xs) zero x all at = let same : y ≡ x = cc in subst P same all.0
AllByRecursion-at P (y ∷ xs) (suc i) x all at = AllByRecursion-at P xs i x all.1 at

-- the body at a place is that of the type with this number
pub IsBodyOf-at : (es : List (Vec ℕ Global × TypeBody)) (types : List TypeEntry) (ty : TypeId) (k : Vec ℕ Global) (body : TypeBody)
    → entries_of es ≡ types → IsTypeTable (entries_of es) → slice_get es ty.0 ≡ Some (k, body) → IsBodyOf types ty body
IsBodyOf-at es types ty k body is table at =
    let there : slice_get (entries_of es) ty.0 ≡ Some (body_entry k.items body) = slice_get-map type_entry es ty.0 ∙ ap (option_map type_entry) at in
    let entry = AllByRecursion-at (IsTypeEntry (entries_of es)) (entries_of es) ty.0 (body_entry k.items body) table.each there in
    record {
      name = k.items;
      at = subst (λ t. slice_get t ty.0 ≡ Some (body_entry k.items body)) is there;
      few_variants = omega (arith, entry.few_variants, length-map body.variants.entries (λ v. v.0.items));
      few_fields = omega (arith, entry.few_fields, length-map body.fields.entries field_entry);
    }

-- the same where only the body is known to stand there
pub IsBodyOf-value : (es : List (Vec ℕ Global × TypeBody)) (types : List TypeEntry) (ty : TypeId) (body : TypeBody)
    → entries_of es ≡ types → IsTypeTable (entries_of es) → slice_get (values_of es) ty.0 ≡ Some body → IsBodyOf types ty body
IsBodyOf-value es types ty body is table at = let found = keyed es ty.0 at in IsBodyOf-at es types ty found.0 body is table found.1
  where
    keyed : (es : List (Vec ℕ Global × TypeBody)) (i : ℕ) → slice_get (values_of es) i ≡ Some body → (k : Vec ℕ Global) × (slice_get es i ≡ Some (k, body))
    keyed [] i at = absurd (cc)
    keyed (e ∷ es) zero at = let same : e.1 ≡ body = cc in (e.0, ap (λ b. Some (e.0, b)) same)
    keyed (e ∷ es) (suc i) at = keyed es i at

-- a known type's fields and variants are those of its body
pub fields_of-body : (types : List TypeEntry) (ty : TypeId) (body : TypeBody) → IsBodyOf types ty body →
    fields_of types ty ≡ map field_entry body.fields.entries
fields_of-body types ty body is = ap (λ o. option_map_or (λ t. t.fields) o []) is.at

pub variants_of-body : (types : List TypeEntry) (ty : TypeId) (body : TypeBody) → IsBodyOf types ty body →
    variants_of types ty ≡ map (λ v. v.0.items) body.variants.entries
variants_of-body types ty body is = ap (λ o. option_map_or (λ t. t.variants) o []) is.at

-- a new name goes last
pub insert_entry-absent : {B : Type 0} (k : Vec ℕ Global) (v : B) (es : List (Vec ℕ Global × B)) → position (λ x. bytes_eq k.items x.items) (keys_of es) ≡ None
    → insert_entry (λ x y. bytes_eq x.items y.items) es k v ≡ es ++ (k, v) ∷ []
insert_entry-absent k v [] none = refl
insert_entry-absent k v (e ∷ es) none =
    let parts = position_none-cons (λ x. bytes_eq k.items x.items) e.0 (keys_of es) none in
    ap (λ b. cond b ((e.0, v) ∷ es) (e ∷ insert_entry (λ x y. bytes_eq x.items y.items) es k v)) parts.0 ∙
    ap (λ rest. e ∷ rest) (insert_entry-absent k v es parts.1)

-- and so it does in what is shown of each entry
pub map-insert_entry : {B E : Type 0} (entry : Vec ℕ Global × B → E) (k : Vec ℕ Global) (v : B) (es : List (Vec ℕ Global × B)) →
    position (λ x. bytes_eq k.items x.items) (keys_of es) ≡ None
    → map entry (insert_entry (λ x y. bytes_eq x.items y.items) es k v) ≡ map entry es ++ entry (k, v) ∷ []
map-insert_entry entry k v es none = ap (map entry) (insert_entry-absent k v es none) ∙ map_push entry es (k, v)

pub entries_of-insert : (es : List (Vec ℕ Global × TypeBody)) (k : Vec ℕ Global) (body : TypeBody) (name : List ℕ) →
    k.items ≡ name → body.variants.entries ≡ [] → body.fields.entries ≡ []
    → place_of name (type_names (entries_of es)) ≡ None → entries_of (insert_entry (λ x y. bytes_eq x.items y.items) es k body) ≡ add_type (entries_of es) name
entries_of-insert es k body name named variants fields new =
    ap entries_of (insert_entry-absent k body es
    (position-keys k.items type_entry (λ t. t.name) (λ e. refl) es ∙ ap (λ n. place_of n (type_names (entries_of es))) named ∙ new))
    ∙ map_push type_entry es (k, body)
    ∙ (λ i. entries_of es ++ record { name = named i; variants = map (λ v. v.0.items) (variants i); fields = map field_entry (fields i) } ∷ [])

-- a body written over the one at a place is a type changed
pub entries_of-set : (es : List (Vec ℕ Global × TypeBody)) (ty : TypeId) (body after : TypeBody) (change : TypeEntry → TypeEntry) →
    slice_get (values_of es) ty.0 ≡ Some body
    → ((k : List ℕ) → body_entry k after ≡ change (body_entry k body)) → entries_of (set_value_at es ty.0 after) ≡ with_type (entries_of es) ty change
entries_of-set es ty body after change at same = by es ty.0 at
  where
    under : (t : TypeEntry) (o : Option TypeEntry) (f : TypeEntry → List TypeEntry) (d : List TypeEntry) →
        t ∷ option_map_or f o d ≡ option_map_or (λ u. t ∷ f u) o (t ∷ d)
    under t None f d = refl
    under t (Some u) f d = refl

    by : (es : List (Vec ℕ Global × TypeBody)) (i : ℕ) → slice_get (values_of es) i ≡ Some body
        → entries_of (set_value_at es i after) ≡ option_map_or (λ t. set (entries_of es) i (change t)) (slice_get (entries_of es) i) (entries_of es)
    by [] i at = absurd (cc)
    by (e ∷ es) zero at = let is : e.1 ≡ body = cc in λ j. (same e.0.items ∙ ap (λ b. change (body_entry e.0.items b)) (sym is)) j ∷ entries_of es
    by (e ∷ es) (suc i) at = ap (λ rest. type_entry e ∷ rest) (by es i at) ∙ under (type_entry e) (slice_get (entries_of es) i)
        (λ t. set (entries_of es) i (change t)) (entries_of es)

-- and one that shows the same fields and variants changes nothing
pub entries_of-same : (es : List (Vec ℕ Global × TypeBody)) (i : ℕ) (body after : TypeBody) → slice_get (values_of es) i ≡ Some body
    → after.variants.entries ≡ body.variants.entries → after.fields.entries ≡ body.fields.entries → entries_of (set_value_at es i after) ≡ entries_of es
entries_of-same [] i body after at variants fields = refl
entries_of-same (e ∷ es) zero body after at variants fields =
    let is : e.1 ≡ body = cc in
    ap (λ (t : TypeEntry). t ∷ entries_of es)
    ((λ j. record { name = e.0.items; variants = map (λ v. v.0.items) (variants j); fields = map field_entry (fields j) }) ∙ ap (body_entry e.0.items) (sym is))
entries_of-same (e ∷ es) (suc i) body after at variants fields = ap (λ rest. type_entry e ∷ rest) (entries_of-same es i body after at variants fields)
