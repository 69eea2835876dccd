-- Lists of roots that may be missing.
use Rattle.std.proofs.Common.{◌≡◌, ℕ, zero, suc, ◌+◌, ◌<◌, List, [], ◌∷◌, ◌++◌, length, get_or, map, take, Option, Some, None}
use Rattle.std.proofs.Common.{sym, ◌∙◌, ap, refl}
use Rattle.std.specs.Prelude.{slice_get, IsSome, is_some}
use Rattle.std.proofs.lemmas.Bool.{false≢true}
use Rattle.std.proofs.lemmas.List.{map_push, map_more}
use Rattle.bdd_nodes.specs.declared.node_ref.NodeRef.{NodeRef}
use Rattle.gta_merge.specs.Lines.{some_root}

-- lists that are equal as lists of what is there are equal
pub map-some_root : (xs ys : List NodeRef) → map some_root xs ≡ map some_root ys → xs ≡ ys
map-some_root [] [] e = refl
map-some_root [] (y ∷ ys) e = absurd cc
map-some_root (x ∷ xs) [] e = absurd cc
map-some_root (x ∷ xs) (y ∷ ys) e =
    let first : x ≡ y = cc in
    let rest : map some_root xs ≡ map some_root ys = cc in
    ap (λ (r : NodeRef). r ∷ xs) first ∙ ap (λ (rs : List NodeRef). y ∷ rs) (map-some_root xs ys rest)

pub map-same : {Y : Type 0} (f h : ℕ → Y) → ((k : ℕ) → f k ≡ h k) → (xs : List ℕ) → map f xs ≡ map h xs
map-same f h same [] = refl
map-same {Y} f h same (x ∷ xs) = ap (λ (r : Y). r ∷ map f xs) (same x) ∙ ap (λ (rs : List Y). h x ∷ rs) (map-same f h same xs)

pub map-at : {Y : Type 0} (f h : ℕ → Y) (xs : List ℕ) → map f xs ≡ map h xs → (k x : ℕ) → slice_get xs k ≡ Some x → f x ≡ h x
map-at f h [] e k x there = absurd cc
map-at f h (y ∷ ys) e zero x there = let is : y ≡ x = cc in let first : f y ≡ h y = cc in sym (ap f is) ∙ first ∙ ap h is
map-at f h (y ∷ ys) e (suc k) x there = let rest : map f ys ≡ map h ys = cc in map-at f h ys rest k x there

-- where nothing can be, nothing is
pub none-there : {X : Type 0} (o : Option X) → (IsSome o → ⊥) → o ≡ None
none-there None never = refl
none-there (Some x) never = absurd (never refl)

pub some-there : {X : Type 0} (o : Option X) (x : X) → o ≡ Some x → IsSome o
some-there {X} o x at = ap (λ (p : Option X). is_some p) at

pub not-none : {X : Type 0} (o : Option X) → o ≡ None → IsSome o → ⊥
not-none {X} o none there = false≢true (sym (ap (λ (p : Option X). is_some p) none) ∙ there)

-- one root more
pub line-more : (f : ℕ → Option NodeRef) (others : List ℕ) (i : ℕ) (line : List NodeRef) (root : NodeRef) → i < length others →
    map some_root line ≡ map f (take i others) → f (get_or others i 0) ≡ Some root → map some_root (line ++ root ∷ []) ≡ map f (take (i + 1) others)
line-more f others i line root inside so_far at =
    map_push some_root line root
    ∙ ap (λ (rs : List (Option NodeRef)). rs ++ Some root ∷ []) so_far
    ∙ ap (λ (o : Option NodeRef). map f (take i others) ++ o ∷ []) (sym at)
    ∙ sym (map_more f others i 0 inside)
