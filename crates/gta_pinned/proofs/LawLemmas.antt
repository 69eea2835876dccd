-- The law of acceptance: what is accepted where the steps are those of the shapes of a tree.
use Rattle.std.proofs.Common.{◌≡◌, ◌≢◌, ◌↔◌, ℕ, zero, suc, ◌+◌, ◌<◌, max, true, false, nat_eq, List, [], ◌∷◌, length, get_or, Contains, Option, Some, None}
use Rattle.std.proofs.Common.{slice_get, refl, sym, ◌∙◌, ap, subst, inl, inr, arith, zero-le, eqb-true, eq-eqb}
use Rattle.std.proofs.lemmas.Option.{slice_get_within}
use Rattle.labels.specs.Labels.{Label, empty_label}
use Rattle.bdd_nodes.specs.Shelf.{Contents, IsShelf, state_of}
use Rattle.gta_theory.specs.Assignments.{Position, Assignment, Covers, half, root_label}
use Rattle.gta_theory.specs.Guides.{Spaces, IsGuide, IsSpace, left, right}
use Rattle.gta_theory.specs.Automata.{Automaton, value, IsStable, Accepts}
use Rattle.gta_theory.proofs.AssignmentsLemmas.{Covers-half, Covers-more}
use Rattle.gta_theory.proofs.AutomataLemmas.{value-same, Accepts-at}
use Rattle.ws2s_core.specs.declared.label_tree.TreeNode.{TreeNode}
use Rattle.ws2s_core.specs.LabelTrees.{assignment_of, IsTree}
use Rattle.ws2s_core.proofs.LabelTreesLemmas.{Covers-tree}
use Rattle.ws2s_theory.specs.Trees.{label_of, last_place, value_at, child_value, child_at}
use Rattle.ws2s_theory.proofs.TreesLemmas.{value-step, root-at}
use Rattle.gta_core.specs.Accepting.{AreSpacesFrom}
use Rattle.gta_core.proofs.AcceptingLemmas.{child-before}
use Rattle.gta_core.proofs.CellsLemmas.{get-index}
use Rattle.gta_pinned.specs.declared.shapes.Shape.{Shape}
use Rattle.gta_pinned.specs.Shapes.{AreSameOn, Fits, IsStep, astray, shaped, AreShapes, IsShape, shapes_in}
use Rattle.gta_pinned.specs.States.{child_state, AreStates}
use Rattle.gta_pinned.specs.Parts.{count_in}
use Rattle.gta_pinned.proofs.TellsLemmas.{AreSameOn-sym, tests-same}
use Rattle.gta_pinned.proofs.ShapesLemmas.{shapes-same}

-- the two assignments have the same set on each of the numbered tracks
abbrev pub AreAlike : List ℕ → Assignment → Assignment → Type 0
AreAlike tracks a b = (t : ℕ) (p : Position) → Contains tracks t → a t p ≡ b t p

-- the automaton goes from shape to shape
pub record HasSteps (g : Spaces) (shelf : Contents) (lists : List (List Shape)) (A : Automaton ℕ) : Type 0 where
  pub initial : (s : ℕ) → IsSpace g s → A.initial s ≡ 1
  pub step : (s l r : ℕ) (label : Label) → IsSpace g s → l < count_in lists (left g s) → r < count_in lists (right g s) →
      IsStep shelf (shapes_in lists s) (length (shapes_in lists s)) l r label (A.step s l r label)

-- a state that isn't astray is that of a shape
pub record IsOfShape (shelf : Contents) (shapes : List Shape) (l r : ℕ) (label : Label) (q : ℕ) : Type 0 where
  pub place : ℕ
  pub shape : Shape
  pub is : q ≡ suc place
  pub at : slice_get shapes place ≡ Some shape
  pub fits : Fits shelf shape l r label

of-shape : (shelf : Contents) (shapes : List Shape) (n l r : ℕ) (label : Label) (q : ℕ) → IsStep shelf shapes n l r label q → q ≢ 0 →
    IsOfShape shelf shapes l r label q
of-shape shelf shapes n l r label _ (astray none) other = absurd (other refl)
of-shape shelf shapes n l r label _ (shaped k shape inside at fits) other = record { place = k; shape = shape; is = refl; at = at; fits = fits }

pub step-small : (shelf : Contents) (shapes : List Shape) (n l r : ℕ) (label : Label) (q : ℕ) → IsStep shelf shapes n l r label q → q < n + 1
step-small shelf shapes n l r label _ (astray none) = omega arith
step-small shelf shapes n l r label _ (shaped k shape inside at fits) = omega arith

module _ (g : Spaces) (guide : IsGuide g) (shelf : Contents) (is_shelf : IsShelf shelf) (tracks : List ℕ) (lists : List (List Shape))
    (shapes : AreShapes g shelf tracks lists) where
  abbrev Step : ℕ → ℕ → ℕ → Label → ℕ → Type 0
  Step s l r label q = IsStep shelf (shapes_in lists s) (length (shapes_in lists s)) l r label q

  -- a shape that fits a label fits each label with the same tracks, and no other shape does
  fits-also : (s i : ℕ) (x : Shape) (l r : ℕ) (a b : Label) → IsSpace g s → slice_get (shapes_in lists s) i ≡ Some x → Fits shelf x l r a →
      AreSameOn tracks a b → Fits shelf x l r b
  fits-also s i x l r a b there at fits same =
      let tells = (shapes.each s i x there at).tells in
      record { left = fits.left; right = fits.right; told = tells.same b (λ t inside. tells.only a fits.told t inside ∙ same t inside) }

  fits-once : (s i j : ℕ) (x y : Shape) (l r : ℕ) (a b : Label) → IsSpace g s → slice_get (shapes_in lists s) i ≡ Some x →
      slice_get (shapes_in lists s) j ≡ Some y → Fits shelf x l r a → Fits shelf y l r b → AreSameOn tracks a b → i ≡ j
  fits-once s i j x y l r a b there at_x at_y fits_x fits_y same =
      let of_x = shapes.each s i x there at_x in
      let of_y = shapes.each s j y there at_y in
      let test : x.test ≡ y.test = tests-same shelf is_shelf tracks of_x.known of_y.known x.test y.test of_x.tells of_y.tells
      (λ t inside. of_x.tells.only a fits_x.told t inside ∙ same t inside ∙ sym (of_y.tells.only b fits_y.told t inside)) in
      let e : y ≡ x = sym (shapes-same x y (fits_x.left ∙ sym fits_y.left) (fits_x.right ∙ sym fits_y.right) test) in
      (shapes.listed s there).once i j x at_x (at_y ∙ ap (λ (z : Shape). let o : Option Shape = Some z in o) e)

  -- labels with the same tracks have one step
  step-once : (s l r : ℕ) (a b : Label) (p q : ℕ) → IsSpace g s → AreSameOn tracks a b → Step s l r a p → Step s l r b q → p ≡ q
  step-once s l r a b _ _ there same (astray none) (astray none') = refl
  step-once s l r a b _ _ there same (astray none) (shaped k y inside at fits) =
      absurd (none k y inside at (fits-also s k y l r b a there at fits (AreSameOn-sym tracks a b same)))
  step-once s l r a b _ _ there same (shaped k x inside at fits) (astray none) =
      absurd (none k x inside at (fits-also s k x l r a b there at fits same))
  step-once s l r a b _ _ there same (shaped i x inside_x at_x fits_x) (shaped j y inside_y at_y fits_y) =
      ap suc (fits-once s i j x y l r a b there at_x at_y fits_x fits_y same)

  pub some-shape : (s : ℕ) → IsSpace g s → 1 < count_in lists s
  some-shape s there = let first = shapes.empty s there in omega (arith, slice_get_within (shapes_in lists s) 0 first.shape first.there)

  empty-step : (s : ℕ) → IsSpace g s → Step s 1 1 empty_label 1
  empty-step s there =
      let first = shapes.empty s there in
      shaped 0 first.shape (slice_get_within (shapes_in lists s) 0 first.shape first.there) first.there
      (record { left = first.left; right = first.right; told = first.tells.same empty_label (λ t inside. refl) })

  module _ (A : Automaton ℕ) (has : HasSteps g shelf lists A) where
    pub stable : IsStable g A
    stable = record {
      at = λ s there.
          let l = has.initial (left g s) (guide.left_inside s there) in
          let r = has.initial (right g s) (guide.right_inside s there) in
          (λ i. A.step s (l i) (r i) empty_label)
          ∙ step-once s 1 1 empty_label empty_label (A.step s 1 1 empty_label) 1 there (λ t inside. refl)
          (has.step s 1 1 empty_label there (some-shape (left g s) (guide.left_inside s there)) (some-shape (right g s) (guide.right_inside s there)))
          (empty-step s there)
          ∙ sym (has.initial s there);
    }

    value-small : (n s : ℕ) (a : Assignment) → IsSpace g s → value g A s n a < count_in lists s
    value-small zero s a there = subst (λ (q : ℕ). q < count_in lists s) (sym (has.initial s there)) (some-shape s there)
    value-small (suc n) s a there =
        step-small shelf (shapes_in lists s) (length (shapes_in lists s)) _ _ (root_label a) _
        (has.step s (value g A (left g s) n (half false a)) (value g A (right g s) n (half true a)) (root_label a) there
        (value-small n (left g s) (half false a) (guide.left_inside s there)) (value-small n (right g s) (half true a) (guide.right_inside s there)))

    value-steps : (n s : ℕ) (a : Assignment) → IsSpace g s →
        Step s (value g A (left g s) n (half false a)) (value g A (right g s) n (half true a)) (root_label a) (value g A s (suc n) a)
    value-steps n s a there =
        has.step s (value g A (left g s) n (half false a)) (value g A (right g s) n (half true a)) (root_label a) there
        (value-small n (left g s) (half false a) (guide.left_inside s there)) (value-small n (right g s) (half true a) (guide.right_inside s there))

    -- assignments that are alike have one value
    value-alike : (n s : ℕ) (a b : Assignment) → IsSpace g s → AreAlike tracks a b → value g A s n a ≡ value g A s n b
    value-alike zero s a b there alike = refl
    value-alike (suc n) s a b there alike =
        let l = value-alike n (left g s) (half false a) (half false b) (guide.left_inside s there) (λ t p inside. alike t (false ∷ p) inside) in
        let r = value-alike n (right g s) (half true a) (half true b) (guide.right_inside s there) (λ t p inside. alike t (true ∷ p) inside) in
        step-once s (value g A (left g s) n (half false b)) (value g A (right g s) n (half true b)) (root_label a) (root_label b)
        (value g A s (suc n) a) (value g A s (suc n) b) there (λ t inside. alike t [] inside)
        (subst (λ (q : ℕ). Step s q (value g A (right g s) n (half true b)) (root_label a) (value g A s (suc n) a)) l
        (subst (λ (q : ℕ). Step s (value g A (left g s) n (half false a)) q (root_label a) (value g A s (suc n) a)) r (value-steps n s a there)))
        (value-steps n s b there)

    -- assignments of one value that isn't astray are alike: those of one shape are where their halves are
    alike-step : (n s : ℕ) (a b : Assignment) → IsSpace g s → value g A s (suc n) a ≡ value g A s (suc n) b → value g A s (suc n) a ≢ 0 →
        (value g A (left g s) n (half false a) ≡ value g A (left g s) n (half false b) → value g A (left g s) n (half false a) ≢ 0 →
        AreAlike tracks (half false a) (half false b)) →
        (value g A (right g s) n (half true a) ≡ value g A (right g s) n (half true b) → value g A (right g s) n (half true a) ≢ 0 →
        AreAlike tracks (half true a) (half true b)) → AreAlike tracks a b
    alike-step n s a b there same other below_left below_right = whole
      where
        of_a : IsOfShape shelf (shapes_in lists s) (value g A (left g s) n (half false a)) (value g A (right g s) n (half true a)) (root_label a)
            (value g A s (suc n) a)
        of_a = of-shape shelf (shapes_in lists s) (length (shapes_in lists s)) _ _ _ _ (value-steps n s a there) other

        of_b : IsOfShape shelf (shapes_in lists s) (value g A (left g s) n (half false b)) (value g A (right g s) n (half true b)) (root_label b)
            (value g A s (suc n) b)
        of_b = of-shape shelf (shapes_in lists s) (length (shapes_in lists s)) _ _ _ _ (value-steps n s b there) (λ e. other (same ∙ e))

        one : of_b.shape ≡ of_a.shape
        one =
            let k : of_a.place ≡ of_b.place = (let x = of_a.is in let y = of_b.is in omega arith) in
            let e : ◌≡◌ {A = Option Shape} (Some of_b.shape) (Some of_a.shape) = sym of_b.at ∙ ap (slice_get (shapes_in lists s)) (sym k) ∙ of_a.at in cc

        shape : IsShape g shelf tracks lists s of_a.shape
        shape = shapes.each s of_a.place of_a.shape there of_a.at

        at_left : AreAlike tracks (half false a) (half false b)
        at_left = below_left (sym of_a.fits.left ∙ ap (λ (x : Shape). x.left) (sym one) ∙ of_b.fits.left)
            (λ e. let low = shape.left.0 in let is = of_a.fits.left in omega arith)

        at_right : AreAlike tracks (half true a) (half true b)
        at_right = below_right (sym of_a.fits.right ∙ ap (λ (x : Shape). x.right) (sym one) ∙ of_b.fits.right)
            (λ e. let low = shape.right.0 in let is = of_a.fits.right in omega arith)

        whole : AreAlike tracks a b
        whole t [] inside =
            sym (shape.tells.only (root_label a) of_a.fits.told t inside)
            ∙ shape.tells.only (root_label b) (ap (λ (x : Shape). state_of shelf x.test (root_label b)) (sym one) ∙ of_b.fits.told) t inside
        whole t (false ∷ p) inside = at_left t p inside
        whole t (true ∷ p) inside = at_right t p inside

    alike-value : (n s : ℕ) (a b : Assignment) → IsSpace g s → Covers n a → Covers n b → value g A s n a ≡ value g A s n b →
        value g A s n a ≢ 0 → AreAlike tracks a b
    alike-value zero s a b there in_a in_b same other = λ t p inside. in_a t p zero-le ∙ sym (in_b t p zero-le)
    alike-value (suc n) s a b there in_a in_b same other =
        alike-step n s a b there same other
        (alike-value n (left g s) (half false a) (half false b) (guide.left_inside s there) (Covers-half n false a in_a) (Covers-half n false b in_b))
        (alike-value n (right g s) (half true a) (half true b) (guide.right_inside s there) (Covers-half n true a in_a) (Covers-half n true b in_b))

    -- the tree's own values
    module _ (nodes : List TreeNode) (tree : IsTree nodes) (spaces : List ℕ) (are_spaces : AreSpacesFrom g nodes 0 spaces) (states : List ℕ)
        (many : length states ≡ length nodes) (are : AreStates shelf tracks lists nodes spaces states) where
      child-is : (k : ℕ) → ((j : ℕ) → j < k → get_or states j 0 ≡ value_at g A (get_or spaces j 0) nodes j) → (child : Option ℕ) (s : ℕ) → IsSpace g s →
          ((j : ℕ) → child ≡ Some j → (j < k) × (get_or spaces j 0 ≡ s)) → child_state states child ≡ child_value g A s nodes child
      child-is k so_far None s there of_child = sym (has.initial s there)
      child-is k so_far (Some j) s there of_child =
          let here = of_child j refl in
          so_far j here.0 ∙ ap (λ (m : ℕ). value_at g A m nodes j) here.1

      node-step : (k : ℕ) → ((j : ℕ) → j < k → get_or states j 0 ≡ value_at g A (get_or spaces j 0) nodes j) → (node : TreeNode) →
          slice_get nodes k ≡ Some node → get_or states k 0 ≡ value_at g A (get_or spaces k 0) nodes k
      node-step k so_far node at =
          let s = get_or spaces k 0 in
          let there : IsSpace g s = are_spaces.inside k in
          let state = are.each k node (omega (arith, slice_get_within nodes k node at)) at in
          let shape = shapes.each s state.is.place state.shape there state.is.there in
          let l = child-is k so_far node.left (left g s) (guide.left_inside s there)
          (λ j child. (child-before nodes tree k j node at (inl child), are_spaces.left k j node (omega arith) at child)) in
          let r = child-is k so_far node.right (right g s) (guide.right_inside s there)
          (λ j child. (child-before nodes tree k j node at (inr child), are_spaces.right k j node (omega arith) at child)) in
          let vl = child_value g A (left g s) nodes node.left in
          let vr = child_value g A (right g s) nodes node.right in
          let label = label_of node.tracks in
          let left_in : vl < count_in lists (left g s) = (let top = shape.left.1 in let e = state.left in omega (arith, l)) in
          let right_in : vr < count_in lists (right g s) = (let top = shape.right.1 in let e = state.right in omega (arith, r)) in
          state.is.is
          ∙ step-once s vl vr label label (suc state.is.place) (A.step s vl vr label) there (λ t inside. refl)
          (shaped state.is.place state.shape (slice_get_within (shapes_in lists s) state.is.place state.shape state.is.there) state.is.there
          (record { left = state.left ∙ l; right = state.right ∙ r; told = state.tells.same label (λ t inside. refl) }))
          (has.step s vl vr label there left_in right_in)
          ∙ sym (value-step g guide A stable nodes s k node there tree at)

      node-is : (n k : ℕ) → k < n → k < length nodes → get_or states k 0 ≡ value_at g A (get_or spaces k 0) nodes k
      node-is zero k less inside = absurd (omega arith)
      node-is (suc n) k less inside =
          let node = get-index nodes k inside in
          node-step k (λ j before. node-is n j (omega arith) (omega arith)) node.0 node.1

      module _ (root : ℕ) (is_root : root ≡ child_state states (last_place 0 (length nodes))) where
        last-state : (n : ℕ) → length nodes ≡ suc n → root ≡ get_or states n 0
        last-state n e =
            let f : 0 + n ≡ n = omega arith in
            is_root ∙ ap (λ (m : ℕ). child_state states (last_place 0 m)) e ∙ ap (λ (m : ℕ). get_or states m 0) f

        root-other : root ≢ 0
        root-other = pick (length nodes) refl
          where
            pick : (n : ℕ) → length nodes ≡ n → root ≢ 0
            pick zero e none = (let is = is_root ∙ ap (λ (m : ℕ). child_state states (last_place 0 m)) e in omega arith)
            pick (suc n) e none =
                let node = get-index nodes n (omega arith) in
                let state = (are.each n node.0 (omega arith) node.1).is.is in
                omega (arith, last-state n e)

        root-value : value g A 0 (length nodes) (assignment_of nodes) ≡ root
        root-value = pick (length nodes) refl
          where
            pick : (n : ℕ) → length nodes ≡ n → value g A 0 (length nodes) (assignment_of nodes) ≡ root
            pick zero e =
                ap (λ (m : ℕ). value g A 0 m (assignment_of nodes)) e ∙ has.initial 0 guide.not_empty
                ∙ sym (is_root ∙ ap (λ (m : ℕ). child_state states (last_place 0 m)) e)
            pick (suc n) e =
                let f : 0 + n ≡ n = omega arith in
                ap (value g A 0 (length nodes)) (root-at nodes ∙ ap (λ (m : ℕ). child_at nodes (last_place 0 m)) e)
                ∙ ap (λ (m : ℕ). value_at g A 0 nodes m) f
                ∙ ap (λ (s : ℕ). value_at g A s nodes n) (sym (are_spaces.root n (sym e)))
                ∙ sym (node-is (suc n) n (omega arith) (omega arith)) ∙ sym (last-state n e)

        module _ (accepting : (q : ℕ) → q < count_in lists 0 → A.accepting q ≡ nat_eq q root) (n : ℕ) (a : Assignment) (covers : Covers n a) where
          abbrev T : Assignment
          T = assignment_of nodes

          abbrev depth : ℕ
          depth = max n (length nodes)

          covers-a : Covers depth a
          covers-a = Covers-more n depth a (omega arith) covers

          covers-T : Covers depth T
          covers-T = Covers-more (length nodes) depth T (omega arith) (Covers-tree nodes)

          value-T : value g A 0 depth T ≡ root
          value-T = value-same g guide A stable 0 depth (length nodes) T guide.not_empty covers-T (Covers-tree nodes) ∙ root-value

          pub accepts-alike : Accepts g A a ↔ AreAlike tracks (assignment_of nodes) a
          accepts-alike = (
            (λ accepts.
                let value-a : value g A 0 depth a ≡ root = eqb-true (value g A 0 depth a) root
                (sym (accepting (value g A 0 depth a) (value-small depth 0 a guide.not_empty)) ∙ Accepts-at g guide A stable depth a covers-a accepts) in
                alike-value depth 0 T a guide.not_empty covers-T covers-a (value-T ∙ sym value-a) (λ e. root-other (sym value-T ∙ e))),
            (λ alike. record {
              depth = depth;
              covers = covers-a;
              accepted = accepting (value g A 0 depth a) (value-small depth 0 a guide.not_empty)
                  ∙ eq-eqb (value g A 0 depth a) root (sym (value-alike depth 0 T a guide.not_empty alike) ∙ value-T);
            }),
          )
