-- Names of one kind.
use Rattle.std.proofs.Common.{◌≡◌, Bool, true, false, not, List, [], ◌∷◌, ◌++◌, ℕ, Option, Some, None, is_some, is_none, nat_lt, length}
use Rattle.std.proofs.Common.{if◌then◌else◌, unwrap_or, slice_get, refl, sym, ap, ◌∙◌, subst}
use Rattle.std.specs.Option.{option_map, option_and_then}
use Rattle.store_core.specs.Tables.{place_of}
use Rattle.store_core.specs.declared.ids.TypeId.{TypeId}
use Rattle.store_core.specs.declared.ids.VariantId.{VariantId}
use Rattle.pale_text.specs.declared.refusal.RefusalKind.{RefusalKind}
use Rattle.pale_text.specs.declared.refusal.RefusalKind.TheVariants as kind
use Rattle.pale_text.specs.declared.refusal.TextStop.{TextStop}
use Rattle.pale_text.specs.Refusals.{refused_at}
use Rattle.pale_syntax.specs.declared.tree.names.Name.{Name}
use Rattle.pale_tables.specs.declared.type_names.TypeNames.{TypeNames}
use Rattle.pale_tables.specs.Faults.{need, ◌>>◌, IsStop}
use Rattle.pale_tables.specs.Routes.{is_among, is_field, type_named, variant_named, type_or_first, bool_fault, type_fault, variant_fault}
use Rattle.pale_tables.proofs.FaultLemmas.{stop-then, stop-after}
use Rattle.pale_tables.specs.Names.{with_name, new_fault}

-- a name that is there isn't added
pub with_name-known : (names : List (List ℕ)) (name : List ℕ) → is_some (place_of name names) ≡ true → with_name names name ≡ names
with_name-known names name known = by (place_of name names) known
  where
    by : (place : Option ℕ) → is_some place ≡ true → (if is_none place then names ++ name ∷ [] else names) ≡ names
    by None e = absurd (cc)
    by (Some i) e = refl

-- a new one goes last
pub with_name-new : (names : List (List ℕ)) (name : List ℕ) → place_of name names ≡ None → with_name names name ≡ names ++ name ∷ []
with_name-new names name new = ap (λ place. if is_none place then names ++ name ∷ [] else names) new

pub none_of : (place : Option ℕ) → is_some place ≡ false → place ≡ None
none_of None e = refl
none_of (Some i) e = absurd (cc)

-- ---- `?f` and `!f`

pub bool-first : (names : TypeNames) (f : Name) (any : Bool) (e : TextStop) → any ≡ is_field names f.bytes → IsStop (need any kind.Unknown f.place) e →
    IsStop (bool_fault names f) e
unfolding bool_fault
bool-first names f any e same is = stop-then _ _ e (subst (λ b. IsStop (need b kind.Unknown f.place) e) same is)

pub bool-second : (names : TypeNames) (f : Name) (any has : Bool) (e : TextStop) → any ≡ is_field names f.bytes → need any kind.Unknown f.place ≡ None →
    has ≡ is_among names.bool_fields f.bytes → IsStop (need has kind.Kind f.place) e → IsStop (bool_fault names f) e
unfolding bool_fault
bool-second names f any has e same none known is =
    stop-after _ _ e (ap (λ b. need b kind.Unknown f.place) (sym same) ∙ none) (subst (λ b. IsStop (need b kind.Kind f.place) e) known is)

-- ---- `@T:v`

-- the type is there
pub type_first : (names : TypeNames) (ty : Name) (found : TypeId) → type_named names ty.bytes ≡ Some found → type_fault names ty ≡ None
unfolding type_fault
type_first names ty found is = ap (λ o. need (is_some o) kind.Unknown ty.place) is

pub variant-missing : (names : TypeNames) (ty v : Name) (found : TypeId) → type_named names ty.bytes ≡ Some found →
    variant_named names found v.bytes ≡ None → variant_fault names ty v ≡ Some (refused_at v.place kind.Unknown)
unfolding variant_fault
variant-missing names ty v found is none =
    ap (λ f. f >> need (is_some (variant_named names (type_or_first names ty) v.bytes)) kind.Unknown v.place) (type_first names ty found is)
    ∙ ap (λ t. need (is_some (variant_named names (unwrap_or t (record { 0 = 0 })) v.bytes)) kind.Unknown v.place) is
    ∙ ap (λ o. need (is_some o) kind.Unknown v.place) none

-- the place in the list is that of the variant
pub variant-at : (names : TypeNames) (ty : TypeId) (name : List ℕ) (place : Option ℕ) →
    place ≡ option_and_then (place_of name) (slice_get names.variants ty.0) →
    variant_named names ty name ≡ option_map (λ i. record { ty = ty; index = i }) place
variant-at names ty name place is = ap (option_map (λ i. record { ty = ty; index = i })) (sym is)

pub variant-found : (names : TypeNames) (ty v : Name) (found : TypeId) (variant : VariantId) → type_named names ty.bytes ≡ Some found →
    variant_named names found v.bytes ≡ Some variant → variant_fault names ty v ≡ None
unfolding variant_fault
variant-found names ty v found variant is at =
    ap (λ f. f >> need (is_some (variant_named names (type_or_first names ty) v.bytes)) kind.Unknown v.place) (type_first names ty found is)
    ∙ ap (λ t. need (is_some (variant_named names (unwrap_or t (record { 0 = 0 })) v.bytes)) kind.Unknown v.place) is
    ∙ ap (λ o. need (is_some o) kind.Unknown v.place) at

-- ---- a name that is to be added

pub new-first : (most : ℕ) (many : RefusalKind) (before : List (List ℕ)) (name : Name) (is : Bool) (e : TextStop) →
    is ≡ is_none (place_of name.bytes before) → IsStop (need is kind.Duplicate name.place) e → IsStop (new_fault most many before name) e
unfolding new_fault
new-first most many before name is e same stops = stop-then _ _ e (subst (λ b. IsStop (need b kind.Duplicate name.place) e) same stops)

pub new-second : (most : ℕ) (many : RefusalKind) (before : List (List ℕ)) (name : Name) (is few : Bool) (e : TextStop) →
    is ≡ is_none (place_of name.bytes before) → need is kind.Duplicate name.place ≡ None → few ≡ nat_lt (length before) most →
    IsStop (need few many name.place) e → IsStop (new_fault most many before name) e
unfolding new_fault
new-second most many before name is few e same none fewer stops =
    stop-after _ _ e (ap (λ b. need b kind.Duplicate name.place) (sym same) ∙ none) (subst (λ b. IsStop (need b many name.place) e) fewer stops)

pub none_is : {X : Type 0} (b : Bool) (o : Option X) → not b ≡ is_some o → b ≡ is_none o
none_is true None e = refl
none_is true (Some x) e = absurd (cc)
none_is false None e = absurd (cc)
none_is false (Some x) e = refl
