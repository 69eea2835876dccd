-- What a `keep` may not name is given back after it.
use Rattle.std.proofs.Common.{◌≡◌, ℕ, Bool, true, false, cond, ◌⊎◌, inl, inr, List, [], ◌∷◌, map, None, refl, sym, ap, ◌∙◌, subst}
use Rattle.std.proofs.lemmas.Cmp.{nat_list_eq_equiv}
use Rattle.std.specs.List.{AllByRecursion}
use Rattle.std.specs.Str.{bytes_eq}
use Rattle.store_core.specs.Tables.{VarEntry, place_of, AreDistinct}
use Rattle.store_core.proofs.Names.{position_none-cons}
use Rattle.pale_terms.specs.Visibles.{Entry}
use Rattle.pale_terms.specs.Scopes.{visible_names, with_may, allowed}
use Rattle.pale_fitting.specs.Standing.{IsVariable, AreVariables}
use Rattle.pale_calls.specs.Calls.{allowed_each}
use Rattle.pale_sights.specs.Framing.{MayBeNamed}

-- ---- variables stay variables

allow-variable : (vars : List VarEntry) (may : Bool) (e : Entry) → IsVariable vars e → IsVariable vars (with_may may e)
allow-variable vars may e is = record { var = is.var; origin = is.origin; sort = is.sort }

allow-by : (vars : List VarEntry) (may : Bool) (e : Entry) (scope after : List Entry) (b : Bool) → AreVariables vars (e ∷ scope) → AreVariables vars after →
    AreVariables vars (cond b (with_may may e ∷ scope) (e ∷ after))
allow-by vars may e scope after true are rest = (allow-variable vars may e are.0, are.1)
allow-by vars may e scope after false are rest = (are.0, rest)

allow-variables : (vars : List VarEntry) (name : List ℕ) (may : Bool) (scope : List Entry) → AreVariables vars scope →
    AreVariables vars (allowed name may scope)
allow-variables vars name may [] are = tt
allow-variables vars name may (e ∷ scope) are =
    allow-by vars may e scope (allowed name may scope) (bytes_eq name e.name) are (allow-variables vars name may scope are.1)

pub allowed-variables : (vars : List VarEntry) (may : Bool) (scope : List Entry) (names : List (List ℕ)) → AreVariables vars scope →
    AreVariables vars (allowed_each may scope names)
allowed-variables vars may scope [] are = are
allowed-variables vars may scope (name ∷ names) are = allowed-variables vars may (allowed name may scope) names (allow-variables vars name may scope are)

-- ---- what is the same whatever may be named

-- it is the same of an entry with either permission
abbrev IsBlind : {X : Type 0} → (Entry → X) → Type 0
IsBlind f = (may : Bool) (e : Entry) → f (with_may may e) ≡ f e

blind-by : {X : Type 0} (f : Entry → X) (may : Bool) (e : Entry) (scope after : List Entry) (b : Bool) → f (with_may may e) ≡ f e →
    map f after ≡ map f scope → map f (cond b (with_may may e ∷ scope) (e ∷ after)) ≡ map f (e ∷ scope)
blind-by f may e scope after true one rest = ap (λ x. x ∷ map f scope) one
blind-by f may e scope after false one rest = ap (λ l. f e ∷ l) rest

blind-one : {X : Type 0} (f : Entry → X) → IsBlind f → (name : List ℕ) (may : Bool) (scope : List Entry) → map f (allowed name may scope) ≡ map f scope
blind-one f blind name may [] = refl
blind-one f blind name may (e ∷ scope) =
    blind-by f may e scope (allowed name may scope) (bytes_eq name e.name) (blind may e) (blind-one f blind name may scope)

blind-each : {X : Type 0} (f : Entry → X) → IsBlind f → (may : Bool) (scope : List Entry) (names : List (List ℕ)) →
    map f (allowed_each may scope names) ≡ map f scope
blind-each f blind may scope [] = refl
blind-each f blind may scope (name ∷ names) = blind-each f blind may (allowed name may scope) names ∙ blind-one f blind name may scope

abbrev name_in : Entry → List ℕ
name_in e = e.name

wide-is : (scope : List Entry) → AllByRecursion MayBeNamed scope → map (with_may true) scope ≡ scope
wide-is [] wide = refl
wide-is (e ∷ scope) wide =
    ap (λ may. with_may may e ∷ map (with_may true) scope) (sym wide.0) ∙ ap (λ rest. e ∷ rest) (wide-is scope wide.1)

-- ---- what may not be named has one of these names

abbrev IsAmong : List (List ℕ) → List ℕ → Type 0
IsAmong [] x = ⊥
IsAmong (name ∷ names) x = (bytes_eq name x ≡ true) ⊎ IsAmong names x

abbrev OpenBut : List (List ℕ) → Entry → Type 0
OpenBut left e = IsAmong left e.name ⊎ MayBeNamed e

open-but : (left : List (List ℕ)) (scope : List Entry) → AllByRecursion MayBeNamed scope → AllByRecursion (OpenBut left) scope
open-but left [] wide = tt
open-but left (e ∷ scope) wide = (inr wide.0, open-but left scope wide.1)

withheld-by : (left : List (List ℕ)) (e : Entry) (scope after : List Entry) (b : Bool) → (b ≡ true → IsAmong left e.name) →
    AllByRecursion (OpenBut left) (e ∷ scope) → AllByRecursion (OpenBut left) after →
    AllByRecursion (OpenBut left) (cond b (with_may false e ∷ scope) (e ∷ after))
withheld-by left e scope after true among wide rest = (inl (among refl), wide.1)
withheld-by left e scope after false among wide rest = (wide.0, rest)

withheld-one : (left : List (List ℕ)) (name : List ℕ) (scope : List Entry) → ((x : List ℕ) → bytes_eq name x ≡ true → IsAmong left x) →
    AllByRecursion (OpenBut left) scope → AllByRecursion (OpenBut left) (allowed name false scope)
withheld-one left name [] among wide = tt
withheld-one left name (e ∷ scope) among wide =
    withheld-by left e scope (allowed name false scope) (bytes_eq name e.name) (among e.name) wide (withheld-one left name scope among wide.1)

withheld-each : (left : List (List ℕ)) (scope : List Entry) (names : List (List ℕ)) → ((x : List ℕ) → IsAmong names x → IsAmong left x) →
    AllByRecursion (OpenBut left) scope → AllByRecursion (OpenBut left) (allowed_each false scope names)
withheld-each left scope [] among wide = wide
withheld-each left scope (name ∷ names) among wide =
    withheld-each left (allowed name false scope) names (λ x is. among x (inr is))
    (withheld-one left name scope (λ x is. among x (inl is)) wide)

-- an entry of another name is open but for the others
other-open : (left : List (List ℕ)) (name : List ℕ) (e : Entry) → bytes_eq name e.name ≡ false → OpenBut (name ∷ left) e → OpenBut left e
other-open left name e not (inl (inl same)) = absurd (cc)
other-open left name e not (inl (inr other)) = inl other
other-open left name e not (inr may) = inr may

-- where no name is this one, the entries are open but for the others
others-open : (left : List (List ℕ)) (name key : List ℕ) (scope : List Entry) → bytes_eq name key ≡ true → place_of key (visible_names scope) ≡ None →
    AllByRecursion (OpenBut (name ∷ left)) scope → AllByRecursion (OpenBut left) scope
others-open left name key [] is none wide = tt
others-open left name key (e ∷ scope) is none wide =
    let parts = position_none-cons (bytes_eq key) e.name (visible_names scope) none in
    (other-open left name e (nat_list_eq_equiv.congr name key e.name is ∙ parts.0) wide.0, others-open left name key scope is parts.1 wide.1)

given-by : (left : List (List ℕ)) (name : List ℕ) (e : Entry) (scope after : List Entry) (b : Bool) → bytes_eq name e.name ≡ b →
    OpenBut (name ∷ left) e → (b ≡ true → AllByRecursion (OpenBut left) scope) → AllByRecursion (OpenBut left) after →
    AllByRecursion (OpenBut left) (cond b (with_may true e ∷ scope) (e ∷ after))
given-by left name e scope after true is own others rest = (inr refl, others refl)
given-by left name e scope after false is own others rest = (other-open left name e is own, rest)

given-one : (left : List (List ℕ)) (name : List ℕ) (scope : List Entry) → AreDistinct (visible_names scope) →
    AllByRecursion (OpenBut (name ∷ left)) scope → AllByRecursion (OpenBut left) (allowed name true scope)
given-one left name [] distinct wide = tt
given-one left name (e ∷ scope) distinct wide =
    given-by left name e scope (allowed name true scope) (bytes_eq name e.name) refl wide.0
    (λ is. others-open left name e.name scope is distinct.0 wide.1) (given-one left name scope distinct.1 wide.1)

given-each : (scope : List Entry) (names : List (List ℕ)) → AreDistinct (visible_names scope) → AllByRecursion (OpenBut names) scope →
    AllByRecursion (OpenBut []) (allowed_each true scope names)
given-each scope [] distinct wide = wide
given-each scope (name ∷ names) distinct wide =
    given-each (allowed name true scope) names (subst AreDistinct (sym (blind-one name_in (λ may e. refl) name true scope)) distinct)
    (given-one names name scope distinct wide)

none-open : (e : Entry) → OpenBut [] e → MayBeNamed e
none-open e (inl none) = absurd none
none-open e (inr may) = may

all-open : (scope : List Entry) → AllByRecursion (OpenBut []) scope → AllByRecursion MayBeNamed scope
all-open [] wide = tt
all-open (e ∷ scope) wide = (none-open e wide.0, all-open scope wide.1)

-- an open scope is in the end as it was
pub given-back : (scope : List Entry) (names : List (List ℕ)) → AllByRecursion MayBeNamed scope → AreDistinct (visible_names scope) →
    allowed_each true (allowed_each false scope names) names ≡ scope
given-back scope names wide distinct =
    sym (wide-is after is_wide) ∙ blind-each (with_may true) (λ may e. refl) true within names ∙ blind-each (with_may true) (λ may e. refl) false scope names
    ∙ wide-is scope wide
  where
    within : List Entry
    within = allowed_each false scope names

    after : List Entry
    after = allowed_each true within names

    is_wide : AllByRecursion MayBeNamed after
    is_wide =
        all-open after
        (given-each within names (subst AreDistinct (sym (blind-each name_in (λ may e. refl) false scope names)) distinct)
        (withheld-each names scope names (λ x is. is) (open-but names scope wide)))
