-- Roots for pairs of states, shape after shape.
use Rattle.std.proofs.Common.{◌≡◌, ◌≢◌, ℕ, suc, ◌+◌, ◌*◌, ◌/◌, ◌<◌, List, [], length, get_or, set, Option, Some, slice_get}
use Rattle.std.proofs.Common.{refl, sym, ◌∙◌, ap, subst, inl, inr, arith, get_or-set_same, get_or-set_other}
use Rattle.std.specs.Prelude.{replicate, unwrap_or}
use Rattle.std.proofs.lemmas.Bool.{cases_eq}
use Rattle.std.proofs.lemmas.Nat.{div-mul-add, mul-add-lt}
use Rattle.std.proofs.Math.Nat.{mul_comm}
use Rattle.std.proofs.lemmas.List.{length-set, length-replicate, get_or-replicate}
use Rattle.std.proofs.lemmas.Option.{slice_get_within, slice_get_read, slice_get-get_or, get_or_from_slice_get}
use Rattle.labels.specs.Labels.{Label}
use Rattle.bdd_nodes.specs.declared.node_ref.NodeRef.{NodeRef}
use Rattle.bdd_nodes.specs.Shelf.{Contents, IsValid, IsLeaf, state_of}
use Rattle.bdd_nodes.specs.Changes.{Keeps}
use Rattle.gta_theory.specs.Guides.{Spaces, IsSpace, left, right}
use Rattle.gta_core.specs.declared.build.SpacePart.{SpacePart}
use Rattle.gta_pinned.specs.declared.shapes.Shape.{Shape}
use Rattle.gta_pinned.specs.Making.{chosen}
use Rattle.gta_pinned.specs.Shapes.{Fits, IsStep, astray, shaped, shapes_in}
use Rattle.gta_pinned.specs.Parts.{AreAllUsable, AreRoots, IsPartIn, count_in}
use Rattle.gta_pinned.proofs.MakingLemmas.{chosen-there, chosen-elsewhere}

-- a pair has a place of its own
pair-left : (w l r m n : ℕ) → r < w → n < w → l * w + r ≡ m * w + n → l ≡ m
pair-left w l r m n r_in n_in same = sym (div-mul-add l w r r_in) ∙ ap (λ (k : ℕ). k / w) same ∙ div-mul-add m w n n_in

pair-right : (w l r m n : ℕ) → r < w → n < w → l * w + r ≡ m * w + n → r ≡ n
pair-right w l r m n r_in n_in same =
    let e = ap (λ (k : ℕ). k * w) (pair-left w l r m n r_in n_in same) in omega (arith, same, e)

pub pair-inside : (height width l r : ℕ) → l < height → r < width → l * width + r < height * width
pair-inside height width l r l_in r_in = omega (arith, mul-add-lt l width r height l_in r_in, mul_comm height width)

-- what is read of a list with one element changed
get-set-same : {X : Type 0} (xs : List X) (i : ℕ) (x y : X) → i < length xs → slice_get (set xs i x) i ≡ Some y → x ≡ y
get-set-same xs i x y inside at = sym (get_or-set_same xs i x y inside) ∙ get_or_from_slice_get (set xs i x) i y y at

get-set-other : {X : Type 0} (xs : List X) (i j : ℕ) (x y : X) → j ≢ i → slice_get (set xs i x) j ≡ Some y → slice_get xs j ≡ Some y
get-set-other {X} xs i j x y other at =
    let inside = slice_get_within (set xs i x) j y at in
    slice_get-get_or xs j y (omega (arith, length-set xs i x))
    ∙ ap (λ (z : X). let o : Option X = Some z in o) (sym (get_or-set_other xs i j x y other) ∙ get_or_from_slice_get (set xs i x) j y y at)

module _ (old new : Contents) (keeps : Keeps old new) where
  Fits-kept : (shape : Shape) (l r : ℕ) (label : Label) → IsValid old shape.test → Fits old shape l r label → Fits new shape l r label
  Fits-kept shape l r label valid fits = record {
    left = fits.left;
    right = fits.right;
    told = keeps.states shape.test label valid ∙ fits.told;
  }

  Fits-was : (shape : Shape) (l r : ℕ) (label : Label) → IsValid old shape.test → Fits new shape l r label → Fits old shape l r label
  Fits-was shape l r label valid fits = record {
    left = fits.left;
    right = fits.right;
    told = sym (keeps.states shape.test label valid) ∙ fits.told;
  }

  module _ (shapes : List Shape) (tests : (k : ℕ) (shape : Shape) → slice_get shapes k ≡ Some shape → IsValid old shape.test) where
    IsStep-kept : (n l r : ℕ) (label : Label) (q : ℕ) → IsStep old shapes n l r label q → IsStep new shapes n l r label q
    IsStep-kept n l r label _ (astray none) = astray (λ k shape inside at fits. none k shape inside at (Fits-was shape l r label (tests k shape at) fits))
    IsStep-kept n l r label _ (shaped k shape inside at fits) = shaped k shape inside at (Fits-kept shape l r label (tests k shape at) fits)

    -- a shape more that doesn't fit
    IsStep-next : (n l r : ℕ) (label : Label) (q : ℕ) → IsStep old shapes n l r label q →
        ((shape : Shape) → slice_get shapes n ≡ Some shape → Fits old shape l r label → ⊥) → IsStep new shapes (suc n) l r label q
    IsStep-next n l r label _ (astray none) unfit = astray (λ k shape inside at fits.
        let was = Fits-was shape l r label (tests k shape at) fits in
        elim (cases_eq k n) [
          | inl last ↦ unfit shape (ap (slice_get shapes) (sym last) ∙ at) was
          | inr before ↦ none k shape (omega arith) at was
        ])
    IsStep-next n l r label _ (shaped k shape inside at fits) unfit = shaped k shape (omega arith) at (Fits-kept shape l r label (tests k shape at) fits)

    AreRoots-kept : (n height width : ℕ) (roots : List NodeRef) → AreRoots old shapes n height width roots → AreRoots new shapes n height width roots
    AreRoots-kept n height width roots are = record {
      many = are.many;
      valid = λ k d inside. keeps.valid (get_or roots k d) (are.valid k d inside);
      steps = λ l r root label l_in r_in at.
          let valid : IsValid old root = subst (IsValid old) (get_or_from_slice_get roots (l * width + r) root root at)
          (are.valid (l * width + r) root (slice_get_within roots (l * width + r) root at)) in
          subst (λ (q : ℕ). IsStep new shapes n l r label q) (sym (keeps.states root label valid))
          (IsStep-kept n l r label (state_of old root label) (are.steps l r root label l_in r_in at));
    }

    -- one shape more: its pair of states gets a root that chooses its state
    module _ (n height width : ℕ) (roots : List NodeRef) (are : AreRoots old shapes n height width roots) (shape : Shape)
        (at : slice_get shapes n ≡ Some shape) (in_left : shape.left < height) (in_right : shape.right < width) (here made : NodeRef)
        (there : slice_get roots (shape.left * width + shape.right) ≡ Some here) (valid : IsValid new made)
        (value : (label : Label) → state_of new made label ≡ chosen (n + 1) (state_of old shape.test label) (state_of old here label)) where
      abbrev place : ℕ
      place = shape.left * width + shape.right

      inside-place : place < length roots
      inside-place = slice_get_within roots place here there

      others : (l r : ℕ) (label : Label) → r < width → (l * width + r ≢ place) → (x : Shape) → slice_get shapes n ≡ Some x → Fits old x l r label → ⊥
      others l r label r_in other x is fits =
          let e : ◌≡◌ {A = Option Shape} (Some shape) (Some x) = sym at ∙ is in
          let same : shape ≡ x = cc in
          other (λ i. (sym fits.left ∙ ap (λ (y : Shape). y.left) (sym same)) i * width + (sym fits.right ∙ ap (λ (y : Shape). y.right) (sym same)) i)

      at-place : (l r : ℕ) (label : Label) → shape.left ≡ l → shape.right ≡ r → l < height → r < width →
          IsStep new shapes (suc n) l r label (state_of new made label)
      at-place l r label left_is right_is l_in r_in = elim (cases_eq (state_of old shape.test label) 1) [
        | inl one ↦
            let next : n + 1 ≡ suc n = omega arith in
            subst (λ (q : ℕ). IsStep new shapes (suc n) l r label q)
            (sym (value label ∙ chosen-there (n + 1) (state_of old shape.test label) (state_of old here label) one ∙ next))
            (shaped n shape (omega arith) at (Fits-kept shape l r label (tests n shape at) (record { left = left_is; right = right_is; told = one })))
        | inr other ↦
            let at_here : slice_get roots (l * width + r) ≡ Some here = (λ i. slice_get roots (sym left_is i * width + sym right_is i)) ∙ there in
            subst (λ (q : ℕ). IsStep new shapes (suc n) l r label q)
            (sym (value label ∙ chosen-elsewhere (n + 1) (state_of old shape.test label) (state_of old here label) other))
            (IsStep-next n l r label (state_of old here label) (are.steps l r here label l_in r_in at_here) (λ x is fits.
            let e : ◌≡◌ {A = Option Shape} (Some x) (Some shape) = sym is ∙ at in
            let same : x ≡ shape = cc in
            other (ap (λ (y : Shape). state_of old y.test label) (sym same) ∙ fits.told)))
      ]

      pub AreRoots-more : AreRoots new shapes (suc n) height width (set roots place made)
      AreRoots-more = record {
        many = length-set roots place made ∙ are.many;
        valid = λ k d inside. elim (cases_eq k place) [
          | inl same ↦ subst (λ (m : ℕ). IsValid new (get_or (set roots place made) m d)) (sym same)
              (subst (IsValid new) (sym (get_or-set_same roots place made d inside-place)) valid)
          | inr other ↦ subst (IsValid new) (sym (get_or-set_other roots place k made d other))
              (keeps.valid (get_or roots k d) (are.valid k d (omega (arith, length-set roots place made))))
        ];
        steps = λ l r root label l_in r_in is. elim (cases_eq (l * width + r) place) [
          | inl same ↦
              let e : made ≡ root = get-set-same roots place made root inside-place (ap (slice_get (set roots place made)) (sym same) ∙ is) in
              subst (λ (x : NodeRef). IsStep new shapes (suc n) l r label (state_of new x label)) e
              (at-place l r label (sym (pair-left width l r shape.left shape.right r_in in_right same))
              (sym (pair-right width l r shape.left shape.right r_in in_right same)) l_in r_in)
          | inr other ↦
              let was = get-set-other roots place (l * width + r) made root other is in
              let was_valid : IsValid old root = subst (IsValid old) (get_or_from_slice_get roots (l * width + r) root root was)
              (are.valid (l * width + r) root (slice_get_within roots (l * width + r) root was)) in
              subst (λ (q : ℕ). IsStep new shapes (suc n) l r label q) (sym (keeps.states root label was_valid))
              (IsStep-next n l r label (state_of old root label) (are.steps l r root label l_in r_in was) (others l r label r_in other))
        ];
      }

-- without shapes
pub AreRoots-none : (shelf : Contents) (shapes : List Shape) (height width : ℕ) (leaf : NodeRef) → IsLeaf leaf 0 →
    AreRoots shelf shapes 0 height width (replicate (height * width) leaf)
AreRoots-none shelf shapes height width leaf is_leaf = record {
  many = length-replicate (height * width) leaf;
  valid = λ k d inside. subst (IsValid shelf) (sym (get_or-replicate (height * width) k leaf d (omega (arith, length-replicate (height * width) leaf))))
      (is_leaf.valid shelf);
  steps = λ l r root label l_in r_in at.
      let inside = slice_get_within (replicate (height * width) leaf) (l * width + r) root at in
      let e : leaf ≡ root = sym (get_or-replicate (height * width) (l * width + r) leaf root (omega (arith, length-replicate (height * width) leaf)))
      ∙ get_or_from_slice_get (replicate (height * width) leaf) (l * width + r) root root at in
      subst (λ (q : ℕ). IsStep shelf shapes 0 l r label q) (sym (ap (λ (x : NodeRef). state_of shelf x label) (sym e) ∙ is_leaf.states shelf label))
      (astray (λ k shape before is fits. omega arith));
}

-- what may be used may be used later
pub AreAllUsable-kept : (g : Spaces) (old new : Contents) (lists : List (List Shape)) → Keeps old new → AreAllUsable g old lists → AreAllUsable g new lists
AreAllUsable-kept g old new lists keeps usable = record {
  many = usable.many;
  each = λ s there.
      let was = usable.each s there in
      record {
        test = λ k shape at. keeps.valid shape.test (was.test k shape at);
        left = was.left;
        right = was.right;
        few = was.few;
        low = was.low;
        narrow = was.narrow;
      };
}

pub IsPartIn-kept : (g : Spaces) (old new : Contents) (lists : List (List Shape)) (s : ℕ) (part : SpacePart) → IsSpace g s → Keeps old new →
    AreAllUsable g old lists → IsPartIn g old lists s part → IsPartIn g new lists s part
IsPartIn-kept g old new lists s part there keeps usable is = record {
  states = is.states;
  initial = is.initial;
  roots = AreRoots-kept old new keeps (shapes_in lists s) (usable.each s there).test (length (shapes_in lists s)) (count_in lists (left g s))
      (count_in lists (right g s)) part.roots is.roots;
}

pub AreRoots-same : (shelf : Contents) (one other : List Shape) (h height w width : ℕ) (roots : List NodeRef) → one ≡ other → h ≡ height → w ≡ width →
    AreRoots shelf one (length one) h w roots → AreRoots shelf other (length other) height width roots
AreRoots-same shelf one other h height w width roots shapes high wide are =
    subst (λ (xs : List Shape). AreRoots shelf xs (length xs) height width roots) shapes
    (subst (λ (n : ℕ). AreRoots shelf one (length one) n width roots) high (subst (λ (n : ℕ). AreRoots shelf one (length one) h n roots) wide are))

-- the shapes at a place
pub shapes-at : (lists : List (List Shape)) (s : ℕ) (shapes : List Shape) → s < length lists → shapes ≡ get_or lists s shapes → shapes ≡ shapes_in lists s
shapes-at lists s shapes inside is =
    sym (ap (λ (o : Option (List Shape)). unwrap_or o []) (slice_get_read lists (length lists) s shapes refl inside is))
