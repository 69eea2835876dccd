-- On numbers that are no more than the Sizes of automata that wait: one more automaton adds its pairs of child states.
use Rattle.std.proofs.Common.{◌≡◌, ℕ, zero, suc, ◌+◌, ◌-◌, ◌<◌, ◌≤◌, Bool, true, false, if◌then◌else◌, List, [], ◌∷◌, ◌++◌, length, map, All, Some, slice_get}
use Rattle.std.proofs.Common.{refl, sym, ◌∙◌, ap, subst, arith}
use Rattle.std.specs.Prelude.{reverse}
use Rattle.std.specs.List.{sum_by}
use Rattle.std.proofs.lemmas.Option.{slice_get_within}
use Rattle.std.proofs.lemmas.List.{reverse-append}
use Rattle.std.proofs.lemmas.List.Elements.{All-head, All-tail}
use Rattle.std.proofs.lemmas.List.Sums.{sum_by-cons}
use Rattle.bdd_nodes.specs.Shelf.{Contents}
use Rattle.gta_theory.specs.Guides.{Spaces}
use Rattle.gta_core.specs.Auto.{AutoView}
use Rattle.gta_core.specs.Sizes.{IsSized}
use Rattle.ws2s_decide.specs.declared.waiting.Held.{Held}
use Rattle.ws2s_decide.specs.Counting.{IsInSizes, ArePast, AreCounted}

-- no automata have no pairs
pub IsInSizes-none : (autos : List AutoView) → IsInSizes autos 0
IsInSizes-none autos g shelf sum have = omega arith

-- one more
module _ (a : AutoView) (autos : List AutoView) (m n p : ℕ) (of_a : (g : Spaces) (shelf : Contents) (size : ℕ) → IsSized g shelf (a, size) → m ≤ size)
    (of_rest : IsInSizes autos n) (few : p ≤ n + m) where
  split : (g : Spaces) (shelf : Contents) (sum : ℕ) (sized : List (AutoView × ℕ)) → map (λ one. one.0) sized ≡ a ∷ autos → All (IsSized g shelf) sized →
      sum_by (λ one. one.1) sized ≡ sum → p ≤ sum
  split g shelf sum [] are each is = absurd cc
  split g shelf sum (one ∷ rest) are each is =
      let first : one.0 ≡ a = cc in
      let others : map (λ (x : AutoView × ℕ). x.0) rest ≡ autos = cc in
      let head = subst (λ (x : AutoView). IsSized g shelf (x, one.1)) first (All-head (IsSized g shelf) one rest each) in
      let size = of_a g shelf one.1 head in
      let tail = of_rest g shelf (sum_by (λ (x : AutoView × ℕ). x.1) rest)
      (record { sized = rest; are = others; each = All-tail (IsSized g shelf) one rest each; is_sum = refl }) in
      let both = sum_by-cons (λ (x : AutoView × ℕ). x.1) one rest in
      omega (arith, few, size, tail, both, is)

  pub IsInSizes-more : IsInSizes (a ∷ autos) p
  IsInSizes-more g shelf sum have = split g shelf sum have.sized have.are have.each have.is_sum

-- a number below one that is no more
pub ArePast-below : (autos : List AutoView) (m n : ℕ) → m < n → IsInSizes autos n → ArePast autos m
ArePast-below autos m n below counted g shelf sum have =
    let most = counted g shelf sum have in
    omega (arith, below, most)

-- what stands last in a list
ends-with : {X : Type 0} (xs : List X) (k : ℕ) (x : X) → length xs ≡ suc k → slice_get xs k ≡ Some x → (front : List X) × (xs ≡ front ++ x ∷ [])
ends-with [] k x many at = absurd (omega (arith, many))
ends-with (y ∷ []) zero x many at = ([], (let same : y ≡ x = cc in ap (λ z. z ∷ []) same))
ends-with (y ∷ []) (suc k) x many at = absurd (omega (arith, many))
ends-with (y ∷ (z ∷ ys)) zero x many at = absurd (omega (arith, many))
ends-with (y ∷ (z ∷ ys)) (suc k) x many at =
    let rest = ends-with (z ∷ ys) k x (omega (arith, many)) at in (y ∷ rest.0, ap (λ xs. y ∷ xs) rest.1)

reverse-last : {X : Type 0} (front : List X) (x : X) → reverse (front ++ x ∷ []) ≡ x ∷ reverse front
reverse-last front x = reverse-append front (x ∷ [])

abbrev waiting : List Held → List AutoView
waiting held = map (λ one. one.auto) (reverse held)

-- the number beside the last one
pub IsInSizes-last : (held : List Held) (one : Held) → slice_get held (length held - 1) ≡ Some one → AreCounted (reverse held) →
    IsInSizes (waiting held) one.pairs
IsInSizes-last held one at counted =
    let inside = slice_get_within held (length held - 1) one at in
    let (front, is) = ends-with held (length held - 1) one (omega (arith, inside)) at in
    let same : reverse held ≡ one ∷ reverse front = ap (λ (xs : List Held). reverse xs) is ∙ reverse-last front one in
    subst (λ (xs : List Held). IsInSizes (map (λ x. x.auto) xs) one.pairs) (sym same)
    (subst (λ (xs : List Held). AreCounted xs) same counted).0

-- one more is counted, where there was memory for it
pub AreCounted-push : (b : Bool) (held new : List Held) (one : Held) → new ≡ (if b then held ++ one ∷ [] else held) →
    IsInSizes (one.auto ∷ waiting held) one.pairs → AreCounted (reverse held) → AreCounted (reverse new)
AreCounted-push true held new one is first rest =
    subst (λ (xs : List Held). AreCounted xs) (sym (ap (λ (xs : List Held). reverse xs) is ∙ reverse-last held one)) (first, rest)
AreCounted-push false held new one is first rest =
    subst (λ (xs : List Held). AreCounted (reverse xs)) (sym is) rest
