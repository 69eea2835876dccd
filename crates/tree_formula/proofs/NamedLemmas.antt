-- One step of each loop over numbers.
use Rattle.std.proofs.Common.{◌≡◌, ℕ, suc, ◌+◌, List, [], ◌∷◌, ◌++◌, map, flat_map, sym, ap, ◌∙◌, append_assoc, append-nil, arith}
use Rattle.std.proofs.lemmas.List.{map-append}
use Rattle.std.proofs.lemmas.Grind.{flat_map-append}
use Rattle.std.proofs.lemmas.List.Concat.{flat_map-cons}
use Rattle.tree_formula.specs.WellEncoded.{named}

more : (n : ℕ) → n + 1 ≡ suc n
more n = omega arith

pub flat-next : {X Y : Type 0} (f : X → List Y) (name : ℕ → X) (n : ℕ) (old made new : List Y) → made ≡ old ++ flat_map f (named name n) →
    new ≡ made ++ f (name n) → new ≡ old ++ flat_map f (named name (n + 1))
flat-next f name n old made new is next =
    next ∙ ap (λ ys. ys ++ f (name n)) is ∙ append_assoc old (flat_map f (named name n)) (f (name n))
    ∙ ap (λ ys. old ++ (flat_map f (named name n) ++ ys)) (sym (flat_map-cons f (name n) [] ∙ append-nil (f (name n))))
    ∙ ap (λ ys. old ++ ys) (sym (flat_map-append f (named name n) (name n ∷ [])))
    ∙ ap (λ m. old ++ flat_map f (named name m)) (sym (more n))

pub map-next : {X Y : Type 0} (f : X → Y) (name : ℕ → X) (n : ℕ) (made new : List Y) → made ≡ map f (named name n) →
    new ≡ made ++ f (name n) ∷ [] → new ≡ map f (named name (n + 1))
map-next f name n made new is next =
    next ∙ ap (λ ys. ys ++ f (name n) ∷ []) is ∙ sym (map-append f (named name n) (name n ∷ [])) ∙ ap (λ m. map f (named name m)) (sym (more n))
