-- The roots of pairs, one after the other.
use Rattle.std.proofs.Common.{◌≡◌, ℕ, All, List, [], ◌∷◌, ◌++◌, Option, Some, None, Contains, sym, ◌∙◌, ap, refl, subst, inl, inr}
use Rattle.std.proofs.lemmas.List.Elements.{Contains-append_left, Contains-append_right, Contains-append_cases}
use Rattle.std.specs.Prelude.{nat_eq, option_and_then, slice_get}
use Rattle.std.specs.Cmp.{IsEquivalence, nat_eq_equiv}
use Rattle.bdd_nodes.specs.Shelf.{root_of}
use Rattle.gta_theory.proofs.ListsLemmas.{Contains-first, Contains-cases, Contains-none, All-from_contains}
use Rattle.bdd_nodes.specs.declared.node_ref.NodeRef.{NodeRef}
use Rattle.bdd_nodes.specs.Shelf.{Contents, IsShelf, IsValid}
use Rattle.gta_core.specs.declared.part.Part.{Part}
use Rattle.gta_core.specs.Auto.{AutoView, place_in, place_of, table_of, root_among, root_at}
use Rattle.gta_core.proofs.FactoredLemmas.{root_among-is}
use Rattle.gta_subsets.specs.Roots.{Rooting, rooting_in, AreRoots, AddRoots}

same_root : (a b : NodeRef) → ◌≡◌ {A = Option NodeRef} (Some a) (Some b) → a ≡ b
same_root a b e = cc

-- references with one word are the same
pub refs-equal : IsEquivalence (λ (x y : NodeRef). nat_eq x.word y.word)
refs-equal = record {
  refl = λ x. nat_eq_equiv.refl x.word;
  symm = λ x y. nat_eq_equiv.symm x.word y.word;
  congr = λ x y z. nat_eq_equiv.congr x.word y.word z.word;
}

-- a root that stands in the table is valid
valid-root : (shelf : Contents) → IsShelf shelf → (a : AutoView) (s l r : ℕ) (root : NodeRef) → root_at shelf a s l r ≡ Some root → IsValid shelf root
unfolding root_at
valid-root shelf is_shelf a s l r root is = pick (place_of a s l r) is
  where
    none : ◌≡◌ {A = Option NodeRef} None (Some root) → ⊥
    none e = cc

    pick : (place : Option ℕ) → option_and_then (root_of shelf a.table) place ≡ Some root → IsValid shelf root
    pick None is = absurd (none is)
    pick (Some place) is = is_shelf.roots a.table place root is

module _ (at : Rooting) where
  pub AddRoots-none : (lefts : List ℕ) (roots : List NodeRef) → AddRoots at lefts [] roots roots
  AddRoots-none lefts roots = record {
    kept = λ root there. there;
    each = λ l r root in_l in_r is. absurd (Contains-none r in_r);
    only = λ root there. inl there;
  }

  pub AddRoots-nobody : (rights : List ℕ) (roots : List NodeRef) → AddRoots at [] rights roots roots
  AddRoots-nobody rights roots = record {
    kept = λ root there. there;
    each = λ l r root in_l in_r is. absurd (Contains-none l in_l);
    only = λ root there. inl there;
  }

  -- a right state more
  pub AddRoots-right : (left : ℕ) (rights : List ℕ) (right : ℕ) (old now : List NodeRef) (root : NodeRef) →
      AddRoots at (left ∷ []) rights old now → at left right ≡ Some root →
      AddRoots at (left ∷ []) (rights ++ right ∷ []) old (now ++ root ∷ [])
  AddRoots-right left rights right old now root adds is = record {
    kept = λ x there. Contains-append_left now (root ∷ []) x (adds.kept x there);
    each = λ l r x in_l in_r there. elim (Contains-append_cases rights (right ∷ []) r in_r) [
      | inl before ↦ Contains-append_left now (root ∷ []) x (adds.each l r x in_l before there)
      | inr last ↦
          let same_r = alone right r last in
          let same_l = alone left l in_l in
          let found : x ≡ root = same_root x root (sym there ∙ ap (λ (n : ℕ). at n r) (sym same_l) ∙ ap (at left)
          (sym same_r) ∙ is) in
          Contains-append_right now (root ∷ []) x (subst (λ (y : NodeRef). Contains (root ∷ []) y) (sym found) (Contains-first root []))
    ];
    only = λ x there. elim (Contains-append_cases now (root ∷ []) x there) [
      | inl before ↦ elim (adds.only x before) [
        | inl was ↦ inl was
        | inr of ↦ inr (record {
          left = of.left;
          right = of.right;
          in_left = of.in_left;
          in_right = Contains-append_left rights
              (right ∷ []) of.right of.in_right;
          is = of.is;
        })
      ]
      | inr last ↦ inr (record {
        left = left;
        right = right;
        in_left = Contains-first left [];
        in_right = Contains-append_right rights (right ∷ []) right (Contains-first right []);
        is = is ∙ ap (λ (y : NodeRef). let o : Option NodeRef = Some y in o) (alone root x last);
      })
    ];
  }
    where
      alone : {X : Type 0} (y x : X) → Contains (y ∷ []) x → y ≡ x
      alone y x there = elim (Contains-cases y x [] there) [ inl same ↦ same | inr later ↦ absurd (Contains-none x later) ]

  -- a left state more
  pub AddRoots-left : (lefts : List ℕ) (left : ℕ) (rights : List ℕ) (old now new : List NodeRef) →
      AddRoots at lefts rights old now → AddRoots at (left ∷ []) rights now new →
      AddRoots at (lefts ++ left ∷ []) rights old new
  AddRoots-left lefts left rights old now new adds step = record {
    kept = λ x there. step.kept x (adds.kept x there);
    each = λ l r x in_l in_r there. elim (Contains-append_cases lefts (left ∷ []) l in_l) [
      | inl before ↦ step.kept x (adds.each l r x before in_r there)
      | inr last ↦ step.each l r x last in_r there
    ];
    only = λ x there. elim (step.only x there) [
      | inl before ↦ elim (adds.only x before) [
        | inl was ↦ inl was
        | inr of ↦ inr (record {
          left = of.left;
          right = of.right;
          in_left = Contains-append_left lefts
              (left ∷ []) of.left of.in_left;
          in_right = of.in_right;
          is = of.is;
        })
      ]
      | inr of ↦ inr (record {
        left = of.left;
        right = of.right;
        in_left = Contains-append_right lefts
            (left ∷ []) of.left of.in_left;
        in_right = of.in_right;
        is = of.is;
      })
    ];
  }

  -- a list with the roots that were put in
  pub AreRoots-made : (lefts rights : List ℕ) (made : List NodeRef) → AddRoots at lefts rights [] made → AreRoots at lefts rights made
  AreRoots-made lefts rights made adds = record {
    each = adds.each;
    only = λ x there. elim (adds.only x there) [ inl none ↦ absurd (Contains-none x none) | inr of ↦ of ];
  }

  -- another list with the same roots
  pub AreRoots-moved : (lefts rights : List ℕ) (made roots : List NodeRef) → AreRoots at lefts rights made →
      ((x : NodeRef) → Contains made x → Contains roots x) → ((x : NodeRef) → Contains roots x → Contains made x) → AreRoots at lefts rights roots
  AreRoots-moved lefts rights made roots are there back = record {
    each = λ l r x in_l in_r is. there x (are.each l r x in_l in_r is);
    only = λ x is. are.only x (back x is);
  }

  -- where others are the same
  pub AreRoots-same : (other : Rooting) → ((l r : ℕ) → at l r ≡ other l r) → (lefts rights : List ℕ) (roots : List NodeRef) →
      AreRoots at lefts rights roots → AreRoots other lefts rights roots
  AreRoots-same other same lefts rights roots are = record {
    each = λ l r x in_l in_r is. are.each l r x in_l in_r (same l r ∙ is);
    only = λ x there.
        let of = are.only x there in
        record {
          left = of.left;
          right = of.right;
          in_left = of.in_left;
          in_right = of.in_right;
          is = sym (same of.left of.right) ∙ of.is;
        };
  }

  pub AddRoots-same : (other : Rooting) → ((l r : ℕ) → at l r ≡ other l r) → (lefts rights : List ℕ) (old new : List NodeRef) →
      AddRoots at lefts rights old new → AddRoots other lefts rights old new
  AddRoots-same other same lefts rights old new adds = record {
    kept = adds.kept;
    each = λ l r x in_l in_r is. adds.each l r x in_l in_r (same l r ∙ is);
    only = λ x there. elim (adds.only x there) [
      | inl was ↦ inl was
      | inr of ↦ inr (record {
        left = of.left;
        right = of.right;
        in_left = of.in_left;
        in_right = of.in_right;
        is = sym (same of.left of.right) ∙ of.is;
      })
    ];
  }

-- no root is there for a space that isn't
pub AreRoots-nowhere : (a : AutoView) (table : List NodeRef) (s : ℕ) → slice_get a.parts s ≡ None → (lefts rights : List ℕ) →
    AreRoots (rooting_in a table s) lefts rights []
AreRoots-nowhere a table s none lefts rights = record {
  each = λ l r x in_l in_r is. absurd (no_root (sym (ap (λ (o : Option Part). option_and_then (λ part. root_among table part l r) o) none) ∙ is));
  only = λ x there. absurd (Contains-none x there);
}
  where
    no_root : {x : NodeRef} → ◌≡◌ {A = Option NodeRef} None (Some x) → ⊥
    no_root e = cc

-- those of the space's part
pub rooting-of_part : (a : AutoView) (table : List NodeRef) (s : ℕ) (part : Part) → slice_get a.parts s ≡ Some part → (l r : ℕ) →
    root_among table part l r ≡ rooting_in a table s l r
rooting-of_part a table s part there l r = sym (ap (λ (o : Option Part). option_and_then (λ p. root_among table p l r) o) there)

-- those of the automaton's table
pub rooting-is : (shelf : Contents) (a : AutoView) (table : List NodeRef) → table ≡ table_of shelf a → (s l r : ℕ) →
    rooting_in a table s l r ≡ root_at shelf a s l r
unfolding root_at
rooting-is shelf a table are s l r = ap (λ (roots : List NodeRef). rooting_in a roots s l r) are ∙ pick (slice_get a.parts s) refl
  where
    pick : (part : Option Part) → slice_get a.parts s ≡ part → rooting_in a (table_of shelf a) s l r ≡ root_at shelf a s l r
    pick None none = ap (λ (o : Option Part). option_and_then (λ p. root_among (table_of shelf a) p l r) o) none
        ∙ sym (ap (λ (o : Option Part). option_and_then (root_of shelf a.table) (option_and_then (λ p. place_in p l r) o)) none)
    pick (Some part) there = sym (rooting-of_part a (table_of shelf a) s part there l r) ∙ root_among-is shelf a s part there l r

-- they are valid
pub AreRoots-valid : (shelf : Contents) → IsShelf shelf → (a : AutoView) (s : ℕ) (lefts rights : List ℕ) (roots : List NodeRef) →
    AreRoots (root_at shelf a s) lefts rights roots → All (IsValid shelf) roots
AreRoots-valid shelf is_shelf a s lefts rights roots are =
    All-from_contains (IsValid shelf) roots (λ x is. let of = are.only x is in valid-root shelf is_shelf a s of.left of.right x of.is)

-- the list that is read, where the automaton's table has these roots
pub found-are : (shelf : Contents) (a : AutoView) (table : List NodeRef) → table ≡ table_of shelf a → (s : ℕ) (lefts rights : List ℕ)
    (found roots : List NodeRef) → roots ≡ found → AreRoots (rooting_in a table s) lefts rights found → AreRoots (root_at shelf a s) lefts rights roots
found-are shelf a table are s lefts rights found roots same there =
    subst (λ (rs : List NodeRef). AreRoots (root_at shelf a s) lefts rights rs) (sym same)
    (AreRoots-same (rooting_in a table s) (root_at shelf a s) (rooting-is shelf a table are s) lefts rights found there)
