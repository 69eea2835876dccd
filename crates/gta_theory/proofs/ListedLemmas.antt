-- On lists whose nodes name earlier ones.
use Rattle.std.proofs.Common.{◌≡◌, ℕ, zero, suc, ◌+◌, ◌<◌, ◌⊎◌, inl, inr, List, [], ◌∷◌, ◌++◌, length, take, fold, Some}
use Rattle.std.proofs.Common.{slice_get, refl, sym, ap, ◌∙◌, subst, arith, append_assoc, append-nil, length-append}
use Rattle.gta_theory.specs.Listed.{meanings}

module _ {N M : Type 0} (meaning : List M → N → M) where
  -- what more nodes mean, after what is known
  abbrev pub meanings_from : List M → List N → List M
  meanings_from known nodes = fold (λ earlier node. earlier ++ meaning earlier node ∷ []) known nodes

  meanings_from-append : (known : List M) (xs ys : List N) → meanings_from known (xs ++ ys) ≡ meanings_from (meanings_from known xs) ys
  meanings_from-append known [] ys = refl
  meanings_from-append known (x ∷ xs) ys = meanings_from-append (known ++ meaning known x ∷ []) xs ys

  pub meanings-push : (xs : List N) (y : N) → meanings meaning (xs ++ y ∷ []) ≡ meanings meaning xs ++ meaning (meanings meaning xs) y ∷ []
  meanings-push xs y = meanings_from-append [] xs (y ∷ [])

  -- what was known stays in front
  meanings_from-front : (known : List M) (ys : List N) → (more : List M) × (length more ≡ length ys) × (meanings_from known ys ≡ known ++ more)
  meanings_from-front known [] = ([], refl, sym (append-nil known))
  meanings_from-front known (y ∷ ys) =
      let rest = meanings_from-front (known ++ meaning known y ∷ []) ys in
      (meaning known y ∷ rest.0, ap suc rest.1, rest.2 ∙ append_assoc known (meaning known y ∷ []) rest.0)

  pub meanings-front : (xs ys : List N) → (more : List M) × (length more ≡ length ys) × (meanings meaning (xs ++ ys) ≡ meanings meaning xs ++ more)
  meanings-front xs ys =
      let rest = meanings_from-front (meanings meaning xs) ys in
      (rest.0, rest.1, meanings_from-append [] xs ys ∙ rest.2)

  pub length-meanings : (xs : List N) → length (meanings meaning xs) ≡ length xs
  length-meanings xs = let all = meanings_from-front [] xs in ap length all.2 ∙ all.1

-- elements in front, and at the end
pub slice_get-front : {X : Type 0} (xs ys : List X) (k : ℕ) → k < length xs → slice_get (xs ++ ys) k ≡ slice_get xs k
slice_get-front [] ys k inside = absurd (omega arith)
slice_get-front (x ∷ xs) ys zero inside = refl
slice_get-front (x ∷ xs) ys (suc k) inside = slice_get-front xs ys k (omega arith)

pub slice_get-last : {X : Type 0} (xs : List X) (y : X) → slice_get (xs ++ y ∷ []) (length xs) ≡ Some y
slice_get-last [] y = refl
slice_get-last (x ∷ xs) y = slice_get-last xs y

pub slice_get-push : {X : Type 0} (xs : List X) (y z : X) (k : ℕ) → slice_get (xs ++ y ∷ []) k ≡ Some z →
    (slice_get xs k ≡ Some z) ⊎ ((k ≡ length xs) × (y ≡ z))
slice_get-push [] y z zero e = inr (refl, cc)
slice_get-push [] y z (suc k) e = absurd cc
slice_get-push (x ∷ xs) y z zero e = inl e
slice_get-push (x ∷ xs) y z (suc k) e =
    elim (slice_get-push xs y z k e) as (λ _. (slice_get xs k ≡ Some z) ⊎ ((suc k ≡ suc (length xs)) × (y ≡ z))) [
      | inl h ↦ inl h
      | inr h ↦ inr (ap suc h.0, h.1)
    ]

take-front : {X : Type 0} (xs ys : List X) → take (length xs) (xs ++ ys) ≡ xs
take-front [] ys = refl
take-front (x ∷ xs) ys = ap (λ zs. x ∷ zs) (take-front xs ys)

-- what a node means, by what those before it mean
module _ {N M : Type 0} (meaning : List M → N → M) where
  meaning-from : (known : List M) (nodes : List N) (k : ℕ) (node : N) → slice_get nodes k ≡ Some node →
      slice_get (meanings_from meaning known nodes) (length known + k)
      ≡ Some (meaning (take (length known + k) (meanings_from meaning known nodes)) node)
  meaning-from known [] k node e = absurd cc
  meaning-from known (x ∷ nodes) zero node e =
      let m = meaning known x in
      let rest = meanings_from-front meaning (known ++ m ∷ []) nodes in
      let split : meanings_from meaning (known ++ m ∷ []) nodes ≡ known ++ (m ∷ rest.0) = rest.2 ∙ append_assoc known (m ∷ []) rest.0 in
      let n : length known + 0 ≡ length known = omega arith in
      let same : x ≡ node = cc in
      let at : slice_get (meanings_from meaning (known ++ m ∷ []) nodes) (length known + 0) ≡ Some m =
      ap (λ i. slice_get (meanings_from meaning (known ++ m ∷ []) nodes) i) n
      ∙ ap (λ zs. slice_get zs (length known)) rest.2
      ∙ slice_get-front (known ++ m ∷ []) rest.0 (length known) (omega (arith, length-append known (m ∷ [])))
      ∙ slice_get-last known m in
      let before : take (length known + 0) (meanings_from meaning (known ++ m ∷ []) nodes) ≡ known =
      ap (λ i. take i (meanings_from meaning (known ++ m ∷ []) nodes)) n ∙ ap (take (length known)) split ∙ take-front known (m ∷ rest.0) in
      at ∙ ap (λ y. Some (meaning known y)) same ∙ sym (ap (λ zs. Some (meaning zs node)) before)
  meaning-from known (x ∷ nodes) (suc k) node e =
      let m = meaning known x in
      let h = meaning-from (known ++ m ∷ []) nodes k node e in
      let n : length (known ++ m ∷ []) + k ≡ length known + suc k = omega (arith, length-append known (m ∷ [])) in
      subst (λ i. slice_get (meanings_from meaning (known ++ m ∷ []) nodes) i
      ≡ Some (meaning (take i (meanings_from meaning (known ++ m ∷ []) nodes)) node)) n h

  pub slice_get-meanings : (nodes : List N) (k : ℕ) (node : N) → slice_get nodes k ≡ Some node →
      slice_get (meanings meaning nodes) k ≡ Some (meaning (take k (meanings meaning nodes)) node)
  slice_get-meanings nodes k node e =
      let n : 0 + k ≡ k = omega arith in
      subst (λ i. slice_get (meanings meaning nodes) i ≡ Some (meaning (take i (meanings meaning nodes)) node)) n
      (meaning-from [] nodes k node e)
