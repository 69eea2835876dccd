-- Scopes as they are kept.
use Rattle.std.proofs.Common.{◌≡◌, ℕ, zero, suc, ◌-◌, Bool, true, false, cond, List, [], ◌∷◌, length, Option, Some, None, refl, sym, ap, ◌∙◌, slice_get}
use Rattle.std.proofs.Common.{position}
use Rattle.std.specs.Option.{option_map, option_and_then}
use Rattle.std.specs.Map.{keys_of, values_of}
use Rattle.std.specs.Str.{bytes_eq}
use Rattle.std.specs.declared.vec.Vec.{Vec}
use Rattle.std.specs.declared.alloc.Global.{Global}
use Rattle.std.proofs.lemmas.Option.{slice_get-map}
use Rattle.std.proofs.lemmas.List.{length-map}
use Rattle.store_core.specs.Tables.{place_of}
use Rattle.store_core.proofs.Names.{position-keys, position-cons, position_none-cons}
use Rattle.pale_terms.specs.declared.scope.Visible.{Visible}
use Rattle.pale_terms.specs.Visibles.{Entry, entry_of, entries_of}
use Rattle.pale_terms.specs.Scopes.{visible_names, sight_of, allowed, with_may}
use Rattle.indexmap.specs.Layout.{set_value_at}

-- the place of a name among the keys
pub place-kept : (name : List ℕ) (es : List (Vec ℕ Global × Visible)) →
    position (λ k. bytes_eq name k.items) (keys_of es) ≡ place_of name (visible_names (entries_of es))
place-kept name es = position-keys name entry_of (λ e. e.name) (λ e. refl) es

sighted : List Entry → ℕ → Option (Visible × ℕ)
sighted scope place = option_map (λ e. (e.visible, length scope - 1 - place)) (slice_get scope place)

-- a name that is no key isn't visible
pub sight-missing : (name : List ℕ) (es : List (Vec ℕ Global × Visible)) →
    position (λ k. bytes_eq name k.items) (keys_of es) ≡ None → sight_of (entries_of es) name ≡ None
unfolding sight_of sighted
sight-missing name es none = ap (option_and_then (sighted (entries_of es))) (sym (place-kept name es) ∙ none)

-- a key shows what is visible under it
pub sight-kept : (name : List ℕ) (es : List (Vec ℕ Global × Visible)) (place : ℕ) (key : Vec ℕ Global) (v : Visible) →
    position (λ k. bytes_eq name k.items) (keys_of es) ≡ Some place → slice_get es place ≡ Some (key, v) →
    sight_of (entries_of es) name ≡ Some (v, length es - 1 - place)
unfolding sight_of sighted
sight-kept name es place key v found at =
    ap (option_and_then (sighted (entries_of es))) (sym (place-kept name es) ∙ found)
    ∙ ap (option_map (λ (e : Entry). (e.visible, length (entries_of es) - 1 - place))) (slice_get-map entry_of es place ∙ ap (option_map entry_of) at)
    ∙ ap (λ n. Some (v, n - 1 - place)) (length-map es entry_of)

some-inj : {X : Type 0} {x y : X} → Some x ≡ Some y → x ≡ y
some-inj e = cc

no-suc : (r : Option ℕ) → option_map suc r ≡ Some 0 → ⊥
no-suc None e = absurd (cc)
no-suc (Some k) e = absurd (cc)

suc-inj : (r : Option ℕ) (place : ℕ) → option_map suc r ≡ Some (suc place) → r ≡ Some place
suc-inj None place e = absurd (cc)
suc-inj (Some k) place e = cc

-- a name that isn't visible changes nothing
pub allowed-missing : (name : List ℕ) (may : Bool) (scope : List Entry) → place_of name (visible_names scope) ≡ None →
    allowed name may scope ≡ scope
allowed-missing name may [] none = refl
allowed-missing name may (e ∷ scope) none =
    let split = position_none-cons (bytes_eq name) e.name (visible_names scope) none in
    ap (λ b. cond b (with_may may e ∷ scope) (e ∷ allowed name may scope)) split.0 ∙ ap (λ s. e ∷ s) (allowed-missing name may scope split.1)

-- what is written at the place of a name among the first one and the others
written-cons : (name : List ℕ) (may : Bool) (e : Vec ℕ Global × Visible) (es : List (Vec ℕ Global × Visible)) (v : Visible) →
    ((place : ℕ) → place_of name (visible_names (entries_of es)) ≡ Some place → slice_get (values_of es) place ≡ Some v →
    entries_of (set_value_at es place (record v { may = may })) ≡ allowed name may (entries_of es)) →
    (b : Bool) → bytes_eq name e.0.items ≡ b → (place : ℕ) →
    cond b (Some 0) (option_map suc (place_of name (visible_names (entries_of es)))) ≡ Some place →
    slice_get (values_of (e ∷ es)) place ≡ Some v →
    entries_of (set_value_at (e ∷ es) place (record v { may = may })) ≡ allowed name may (entries_of (e ∷ es))
written-cons name may e es v others true is zero found at =
    ap (λ w. record { name = e.0.items; visible = record w { may = may } } ∷ entries_of es) (sym (some-inj at))
    ∙ sym (ap (λ b. cond b (with_may may (entry_of e) ∷ entries_of es) (entry_of e ∷ allowed name may (entries_of es))) is)
written-cons name may e es v others true is (suc place) found at = absurd (cc)
written-cons name may e es v others false is zero found at = absurd (no-suc (place_of name (visible_names (entries_of es))) found)
written-cons name may e es v others false is (suc place) found at =
    ap (λ s. entry_of e ∷ s) (others place (suc-inj (place_of name (visible_names (entries_of es))) place found) at)
    ∙ sym (ap (λ b. cond b (with_may may (entry_of e) ∷ entries_of es) (entry_of e ∷ allowed name may (entries_of es))) is)

-- a visible name has its value written
pub allowed-written : (name : List ℕ) (may : Bool) (es : List (Vec ℕ Global × Visible)) (place : ℕ) (v : Visible) →
    place_of name (visible_names (entries_of es)) ≡ Some place → slice_get (values_of es) place ≡ Some v →
    entries_of (set_value_at es place (record v { may = may })) ≡ allowed name may (entries_of es)
allowed-written name may [] place v found at = absurd (cc)
allowed-written name may (e ∷ es) place v found at =
    written-cons name may e es v (λ k there here. allowed-written name may es k v there here) (bytes_eq name e.0.items) refl place
    (sym (position-cons (bytes_eq name) e.0.items (visible_names (entries_of es))) ∙ found) at
