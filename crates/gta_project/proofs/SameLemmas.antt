-- Spaces that stay as they are, and parts that outlive joins.
use Rattle.std.proofs.Common.{◌≡◌, ℕ, suc, ◌+◌, ◌*◌, List, [], ◌∷◌, ◌++◌, length, Option, Some, None, slice_get, sym, ◌∙◌, ap, subst, refl, inl, inr, arith}
use Rattle.std.proofs.lemmas.Bool.{cases_lt}
use Rattle.std.proofs.lemmas.Option.{slice_get_within}
use Rattle.bdd_nodes.specs.declared.node_ref.NodeRef.{NodeRef}
use Rattle.bdd_nodes.specs.Shelf.{Contents}
use Rattle.bdd_nodes.specs.Changes.{Keeps}
use Rattle.gta_theory.specs.Guides.{Spaces}
use Rattle.gta_theory.specs.Automata.{Automaton}
use Rattle.gta_core.specs.declared.part.Part.{Part}
use Rattle.gta_core.specs.Auto.{AutoView}
use Rattle.gta_core.specs.Placing.{Grows}
use Rattle.gta_core.proofs.AutoLemmas.{past-none}
use Rattle.gta_subsets.specs.Numbers.{AreNumbers, Extends}
use Rattle.gta_project.specs.Building.{AreSpaces, IsBuilt, IsPartOf, AreParts, ExtendAll}
use Rattle.gta_subsets.proofs.NumbersLemmas.{Extends-refl, Extends-trans, get-snoc, get-kept, get-last}
use Rattle.gta_core.proofs.CellsLemmas.{cell-inside, get-index}
use Rattle.gta_project.proofs.JoinsLemmas.{IsCell-kept}

ext : {X : Type 0} (xs ys : List X) → ((i : ℕ) → slice_get xs i ≡ slice_get ys i) → xs ≡ ys
ext [] [] same = refl
ext [] (y ∷ ys) same = let e = same 0 in absurd cc
ext (x ∷ xs) [] same = let e = same 0 in absurd cc
ext {X} (x ∷ xs) (y ∷ ys) same =
    let e : ◌≡◌ {A = Option X} (Some x) (Some y) = same 0 in
    let first : x ≡ y = cc in
    ap (λ (z : X). z ∷ xs) first ∙ ap (λ (zs : List X). y ∷ zs) (ext xs ys (λ i. same (suc i)))

pub ExtendAll-refl : (spaces : List (List (List ℕ))) → ExtendAll spaces spaces
ExtendAll-refl spaces = record {
  many = refl;
  each = λ s sets more was is. subst (λ (ps : List (List ℕ)). Extends sets ps) (same_list sets more (sym was ∙ is)) (Extends-refl sets);
}
  where
    same_list : (a b : List (List ℕ)) → ◌≡◌ {A = Option (List (List ℕ))} (Some a) (Some b) → a ≡ b
    same_list a b e = cc

pub ExtendAll-trans : (old middle new : List (List (List ℕ))) → ExtendAll old middle → ExtendAll middle new → ExtendAll old new
ExtendAll-trans old middle new first second = record {
  many = second.many ∙ first.many;
  each = λ s sets more was is.
      let between = get-index middle s (omega (arith, first.many, slice_get_within old s sets was)) in
      Extends-trans sets between.0 more (first.each s sets between.0 was between.1) (second.each s between.0 more between.1 is);
}

-- lists of which each extends the other
both-lists : (old new : List (List ℕ)) → Extends old new → Extends new old → old ≡ new
both-lists old new there back = ext old new (λ k. pick k (slice_get old k) (slice_get new k) refl refl)
  where
    pick : (k : ℕ) (o n : Option (List ℕ)) → slice_get old k ≡ o → slice_get new k ≡ n → slice_get old k ≡ slice_get new k
    pick k None None none gone = none ∙ sym gone
    pick k None (Some set) none is = back.kept k set is ∙ sym is
    pick k (Some set) n was is = was ∙ sym (there.kept k set was)

pub both-spaces : (old new : List (List (List ℕ))) → ExtendAll old new → ExtendAll new old → old ≡ new
both-spaces old new there back = ext old new (λ s. pick s (slice_get old s) (slice_get new s) refl refl)
  where
    pick : (s : ℕ) (o n : Option (List (List ℕ))) → slice_get old s ≡ o → slice_get new s ≡ n → slice_get old s ≡ slice_get new s
    pick s None None none gone = none ∙ sym gone
    pick s None (Some more) none is = absurd (omega (arith, past-none old s none, slice_get_within new s more is, there.many))
    pick s (Some sets) None was gone = absurd (omega (arith, past-none new s gone, slice_get_within old s sets was, there.many))
    pick s (Some sets) (Some more) was is = was
        ∙ ap (λ (ps : List (List ℕ)). let o : Option (List (List ℕ)) = Some ps in o) (both-lists sets more (there.each s sets more was is)
        (back.each s more sets is was))
        ∙ sym is

module _ (g : Spaces) (Sets : Automaton (List ℕ)) (a : AutoView) (spaces : List (List (List ℕ))) (are : AreSpaces g Sets spaces)
    (shelf now : Contents) (keeps : Keeps shelf now) (old new : List NodeRef) (grown : Grows old new) where
  IsBuilt-kept : (s : ℕ) (lefts rights sets : List (List ℕ)) (own part : Part) → AreNumbers sets →
      IsBuilt g Sets s lefts rights sets own shelf old part → IsBuilt g Sets s lefts rights sets own now new part
  IsBuilt-kept s lefts rights sets own part numbers built = record {
    children = built.children;
    states = built.states;
    initial = built.initial;
    rows = built.rows;
    columns = built.columns;
    row_classes = built.row_classes;
    column_classes = built.column_classes;
    width = built.width;
    cells = built.cells;
    within = omega (arith, built.within, grown.longer);
    cell = λ i j row column root at_row at_column there.
        let inside = cell-inside (length built.rows) (length built.columns) i j (slice_get_within built.rows i row at_row) (slice_get_within
        built.columns j column at_column) in
        IsCell-kept Sets.step s sets sets row column shelf now root keeps numbers (Extends-refl sets)
        (built.cell i j row column root at_row at_column
        (sym (grown.kept (part.first + (i * length built.columns + j)) (omega (arith, inside, built.within))) ∙ there));
  }

  IsPartOf-kept : (s : ℕ) (part : Part) → IsPartOf g Sets a spaces spaces shelf old s part → IsPartOf g Sets a spaces spaces now new s part
  IsPartOf-kept s part of = record {
    lefts = of.lefts;
    rights = of.rights;
    sets = of.sets;
    own = of.own;
    at_left = of.at_left;
    at_right = of.at_right;
    at = of.at;
    in_own = of.in_own;
    built = IsBuilt-kept s of.lefts of.rights of.sets of.own part (are.each s of.sets of.at).numbers of.built;
  }

  -- a part more, behind the roots that were there
  pub AreParts-more : (parts : List Part) (part : Part) → AreParts g Sets a spaces spaces shelf old parts →
      IsPartOf g Sets a spaces spaces now new (length parts) part → part.first ≡ length old → length new ≡ length old + length part.cells →
      AreParts g Sets a spaces spaces now new (parts ++ part ∷ [])
  AreParts-more parts part before here start many = record {
    each = λ s p there. elim (get-snoc parts part p s there) [
      | inl early ↦ IsPartOf-kept s p (before.each s p early)
      | inr last ↦ subst (λ (q : Part). IsPartOf g Sets a spaces spaces now new s q) (sym last.1)
          (subst (λ (n : ℕ). IsPartOf g Sets a spaces spaces now new n part) (sym last.0) here)
    ];
    used = λ place within. elim (cases_lt place (length old)) [
      | inl early ↦
          let u = before.used place early in
          record { space = u.space; part = u.part; at = get-kept parts (part ∷ []) u.part u.space u.at; from = u.from; to = u.to }
      | inr late ↦ record {
        space = length parts;
        part = part;
        at = get-last parts part;
        from = omega (arith, start);
        to = omega (arith, start, many);
      }
    ];
  }

pub AreParts-none : (g : Spaces) (Sets : Automaton (List ℕ)) (a : AutoView) (spaces : List (List (List ℕ))) (shelf : Contents) (roots : List NodeRef) →
    roots ≡ [] → AreParts g Sets a spaces spaces shelf roots []
AreParts-none g Sets a spaces shelf roots none = record {
  each = λ s part there. absurd (omega (arith, slice_get_within [] s part there));
  used = λ place within. absurd (omega (arith, within, ap (λ (rs : List NodeRef). length rs) none));
}
