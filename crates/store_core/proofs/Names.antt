-- Places of names in a list, and names that stand once.
use Rattle.std.proofs.Common.{◌≡◌, ℕ, zero, suc, ◌+◌, Bool, true, false, cond, not, List, [], ◌∷◌, ◌++◌, length, map, Option, Some, None, position}
use Rattle.std.proofs.Common.{refl, sym, ap, ◌∙◌, arith, slice_get, nat_lt, Result, Ok, Err, OnErr, IfNone}
use Rattle.std.specs.Option.{option_map}
use Rattle.std.specs.Str.{bytes_eq}
use Rattle.std.proofs.lemmas.Cmp.{nat_list_eq_equiv}
use Rattle.std.specs.Map.{keys_of}
use Rattle.std.specs.declared.vec.Vec.{Vec}
use Rattle.std.specs.declared.alloc.Global.{Global}
use Rattle.store_core.specs.Tables.{place_of, AreDistinct}

lt_suc : (n l : ℕ) → nat_lt (1 + n) (suc l) ≡ nat_lt n l
lt_suc n l = grind arith

lt_zero : (l : ℕ) → nat_lt 0 (suc l) ≡ true
lt_zero l = grind arith

moved : (b : Bool) (n : ℕ) → cond b (Some (1 + n)) None ≡ option_map suc (cond b (Some n) None)
moved true n = ap Some (omega arith)
moved false n = refl

cons_by : (b : Bool) (n l : ℕ) → cond (nat_lt (cond (not b) (1 + n) 0) (suc l)) (Some (cond (not b) (1 + n) 0)) None ≡ cond b
    (Some 0) (option_map suc (cond (nat_lt n l) (Some n) None))
cons_by true n l = ap (λ t. cond t (Some 0) None) (lt_zero l)
cons_by false n l = ap (λ t. cond t (Some (1 + n)) None) (lt_suc n l) ∙ moved (nat_lt n l) n

-- the place in a longer list is that in its tail, one on, unless the head passes
pub position-cons : {X : Type 0} (p : X → Bool) (x : X) (xs : List X) → position p (x ∷ xs) ≡ cond (p x) (Some 0) (option_map suc (position p xs))
position-cons p x xs = cons_by (p x) _ (length xs)

-- the place in a list of images
pub position-map : {X Y : Type 0} (p : Y → Bool) (f : X → Y) (xs : List X) → position p (map f xs) ≡ position (λ x. p (f x)) xs
position-map p f [] = refl
position-map p f (x ∷ xs) =
    position-cons p (f x) (map f xs) ∙ ap (λ r. cond (p (f x)) (Some 0) (option_map suc r)) (position-map p f xs) ∙ sym (position-cons (λ x. p (f x)) x xs)

-- two tests that answer alike find the same place
pub position-same : {X : Type 0} (p q : X → Bool) → ((x : X) → p x ≡ q x) → (xs : List X) → position p xs ≡ position q xs
position-same p q same [] = refl
position-same p q same (x ∷ xs) =
    position-cons p x xs ∙ (λ i. cond (same x i) (Some 0) (option_map suc (position-same p q same xs i))) ∙ sym (position-cons q x xs)

-- the place of a name among the keys of a map
pub position-keys : {B E : Type 0} (name : List ℕ) (entry : Vec ℕ Global × B → E) (name_of : E → List ℕ) →
    ((e : Vec ℕ Global × B) → name_of (entry e) ≡ e.0.items)
    → (es : List (Vec ℕ Global × B)) → position (λ k. bytes_eq name k.items) (keys_of es) ≡ place_of name (map name_of (map entry es))
position-keys {B = B} name entry name_of same es =
    position-map (λ k. bytes_eq name k.items) (λ (e : Vec ℕ Global × B). e.0) es
    ∙ position-same (λ e. bytes_eq name e.0.items) (λ e. bytes_eq name (name_of (entry e))) (λ e. ap (bytes_eq name) (sym (same e))) es
    ∙ sym (position-map (λ t. bytes_eq name (name_of t)) entry es)
    ∙ sym (position-map (bytes_eq name) name_of (map entry es))

-- where no element passes, none of the head and the tail does
pub position_none-cons : {X : Type 0} (p : X → Bool) (x : X) (xs : List X) → position p (x ∷ xs) ≡ None → (p x ≡ false) × (position p xs ≡ None)
position_none-cons p x xs none = by (p x) (position p xs) (sym (position-cons p x xs) ∙ none)
  where
    by : (b : Bool) (r : Option ℕ) → cond b (Some 0) (option_map suc r) ≡ None → (b ≡ false) × (r ≡ None)
    by true r e = absurd (cc)
    by false None e = (refl, refl)
    by false (Some i) e = absurd (cc)

-- and the other way round
pub position_none-from : {X : Type 0} (p : X → Bool) (x : X) (xs : List X) → p x ≡ false → position p xs ≡ None → position p (x ∷ xs) ≡ None
position_none-from p x xs head tail = position-cons p x xs ∙ (λ i. cond (head i) (Some 0) (option_map suc (tail i)))

pub position_none-push : {X : Type 0} (p : X → Bool) (xs : List X) (y : X) → position p xs ≡ None → p y ≡ false → position p (xs ++ y ∷ []) ≡ None
position_none-push p [] y none last = position_none-from p y [] last refl
position_none-push p (x ∷ xs) y none last =
    let parts = position_none-cons p x xs none in
    position_none-from p x (xs ++ y ∷ []) parts.0 (position_none-push p xs y parts.1 last)

-- where no element passes, the one at a place does not
pub position_none-at : {X : Type 0} (p : X → Bool) (xs : List X) (i : ℕ) (x : X) → position p xs ≡ None → slice_get xs i ≡ Some x → p x ≡ false
position_none-at p [] i x none at = absurd (cc)
position_none-at p (y ∷ xs) zero x none at =
    let same : y ≡ x = cc in ap p (sym same) ∙ (position_none-cons p y xs none).0
position_none-at p (y ∷ xs) (suc i) x none at = position_none-at p xs i x (position_none-cons p y xs none).1 at

-- a name that isn't there may go last
pub AreDistinct-push : (names : List (List ℕ)) (name : List ℕ) → AreDistinct names → place_of name names ≡ None → AreDistinct (names ++ name ∷ [])
AreDistinct-push [] name distinct new = (refl, tt)
AreDistinct-push (first ∷ names) name distinct new =
    let parts = position_none-cons (bytes_eq name) first names new in
    (position_none-push (bytes_eq first) names name distinct.0 (nat_list_eq_equiv.symm first name ∙ parts.0), AreDistinct-push names name distinct.1 parts.1)

-- each name of a list without repetition is found at its place
pub place_of-at : (names : List (List ℕ)) (i : ℕ) (name : List ℕ) → AreDistinct names → slice_get names i ≡ Some name → place_of name names ≡ Some i
place_of-at [] i name distinct at = absurd (cc)
place_of-at (first ∷ names) zero name distinct at =
    position-cons (bytes_eq name) first names ∙ ap (λ b. cond b (Some 0) (option_map suc (place_of name names)))
    (ap (bytes_eq name) (some_same first name at) ∙ nat_list_eq_equiv.refl name)
  where
    some_same : (a b : List ℕ) → Some a ≡ Some b → a ≡ b
    some_same a b e = cc
place_of-at (first ∷ names) (suc i) name distinct at =
    position-cons (bytes_eq name) first names
    ∙ (λ j. cond (apart j) (Some 0) (option_map suc (place_of-at names i name distinct.1 at j)))
  where
    apart : bytes_eq name first ≡ false
    apart = nat_list_eq_equiv.symm name first ∙ position_none-at (bytes_eq first) names i name distinct.0 at

-- a number that was not found was not found before it got its type
pub none_found : {X Y : Type 0} (f : X → Y) (o : Option X) → option_map f o ≡ None → o ≡ None
none_found f None e = refl
none_found f (Some x) e = absurd (cc)

-- the place of a name among keys that show nothing else
pub position-names : {B : Type 0} (name : List ℕ) (es : List (Vec ℕ Global × B)) → position (λ k. bytes_eq name k.items)
    (keys_of es) ≡ place_of name (map (λ e. e.0.items) es)
position-names {B = B} name es = position-map (λ k. bytes_eq name k.items) (λ (e : Vec ℕ Global × B). e.0) es ∙
    sym (position-map (bytes_eq name) (λ (e : Vec ℕ Global × B). e.0.items) es)

-- a name that is not among the names that the keys show is no key
pub no_key : {B : Type 0} (name : List ℕ) (es : List (Vec ℕ Global × B)) → place_of name (map (λ e. e.0.items) es) ≡ None →
    position (λ k. bytes_eq name k.items) (keys_of es) ≡ None
no_key name es none = position-names name es ∙ none

-- what holds anyway holds where there is an error
pub always_OnErr : {X E P : Type 0} (r : Result X E) → P → OnErr r P
always_OnErr (Ok x) p = tt
always_OnErr (Err e) p = p

-- what holds anyway holds where there is nothing
pub always_IfNone : {X P : Type 0} (o : Option X) → P → IfNone o P
always_IfNone None p = p
always_IfNone (Some x) p = tt
