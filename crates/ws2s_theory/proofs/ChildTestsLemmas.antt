-- On merging: each guide has a test of which spaces are children of positions' spaces.
use Rattle.std.proofs.Common.{◌≡◌, ℕ, Bool, true, false, List, [], ◌∷◌, ◌++◌, length, Contains, flat_map, refl, ap, ◌∙◌, eqb, eqb-true, eq-eqb}
use Rattle.std.proofs.lemmas.Bool.{cases_eq}
use Rattle.std.proofs.lemmas.List.Elements.{All-nil, All-cons, All-contains}
use Rattle.gta_theory.specs.Assignments.{Position}
use Rattle.gta_theory.specs.Guides.{Spaces, IsGuide, IsSpace, left, right, space_at}
use Rattle.gta_theory.proofs.ClosingLemmas.{IsClosedList, closed-list}
use Rattle.gta_theory.proofs.ListsLemmas.{Contains-first, Contains-later, Contains-flat_map, All-flat_map, numbers, Contains-numbers, numbers-below}
use Rattle.ws2s_theory.specs.Merging.{child_space, IsChildTest}
use Rattle.ws2s_theory.proofs.MergingLemmas.{space_at-child}
use Rattle.ws2s_theory.proofs.TestsLemmas.{some-pass, some-pass-at, some-pass-of}

module _ (g : Spaces) (guide : IsGuide g) where
  abbrev IsPlaced : ℕ → Type 0
  IsPlaced s = (u : Position) × (space_at g 0 u ≡ s)

  abbrev children : ℕ → List ℕ
  children s = left g s ∷ right g s ∷ []

  -- the root's space, and the children of spaces
  abbrev made : List ℕ → List ℕ
  made xs = 0 ∷ flat_map children xs

  abbrev Fits : ℕ → Type 0
  Fits s = Contains (numbers (length g)) s × IsPlaced s

  stays : (xs : List ℕ) → ((s : ℕ) → Contains xs s → Fits s) → (s : ℕ) → Contains (made xs) s → Fits s
  stays xs fits s h =
      All-contains Fits (made xs) s
      (All-cons Fits 0 (flat_map children xs) (Contains-numbers (length g) 0 guide.not_empty, ([], refl))
      (All-flat_map Fits children xs (λ r in_xs.
      let fine = fits r in_xs in
      let there : IsSpace g r = numbers-below (length g) r fine.0 in
      let u = fine.1 in
      All-cons Fits (left g r) (right g r ∷ [])
      (Contains-numbers (length g) (left g r) (guide.left_inside r there), (u.0 ++ false ∷ [], space_at-child g guide u.0 false 0 ∙ ap (left g) u.1))
      (All-cons Fits (right g r) []
      (Contains-numbers (length g) (right g r) (guide.right_inside r there), (u.0 ++ true ∷ [], space_at-child g guide u.0 true 0 ∙ ap (right g) u.1))
      (All-nil Fits)))))
      h

  abbrev IsPlacedList : List ℕ → Type 0
  IsPlacedList = IsClosedList cases_eq (numbers (length g)) made IsPlaced stays

  module _ (ys : List ℕ) (of_ys : IsPlacedList ys) where
    in-list : (u : Position) (s : ℕ) → Contains ys s → Contains ys (space_at g s u)
    in-list [] s h = h
    in-list (false ∷ u) s h = in-list u (left g s) (of_ys.closed (left g s)
        (Contains-later 0 (left g s) (flat_map children ys)
        (Contains-flat_map children ys s (left g s) h (Contains-first (left g s) (right g s ∷ [])))))
    in-list (true ∷ u) s h = in-list u (right g s) (of_ys.closed (right g s)
        (Contains-later 0 (right g s) (flat_map children ys)
        (Contains-flat_map children ys s (right g s) h (Contains-later (left g s) (right g s) (right g s ∷ []) (Contains-first (right g s) [])))))

    abbrev is_child : Bool → ℕ → Bool
    is_child letter s = some-pass (λ r. eqb (child_space g letter r) s) ys

    IsChildTest-listed : IsChildTest g is_child
    IsChildTest-listed = record {
      exactly = λ letter s there. (
        (λ is.
            let r = some-pass-at (λ r. eqb (child_space g letter r) s) ys is in
            let u = of_ys.good r.0 r.1 in
            (u.0, ap (child_space g letter) u.1 ∙ eqb-true (child_space g letter r.0) s r.2)),
        (λ h. some-pass-of (λ r. eqb (child_space g letter r) s) ys (space_at g 0 h.0)
            (in-list h.0 0 (of_ys.closed 0 (Contains-first 0 (flat_map children ys))))
            (eq-eqb (child_space g letter (space_at g 0 h.0)) s h.1)),
      );
    }

  pub IsChildTest-exists : (test : Bool → ℕ → Bool) × IsChildTest g test
  IsChildTest-exists =
      let found = closed-list cases_eq (numbers (length g)) made IsPlaced stays in
      (is_child found.0 found.1, IsChildTest-listed found.0 found.1)
