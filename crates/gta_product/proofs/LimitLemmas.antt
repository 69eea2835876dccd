-- What has no room is no more than the Size of the product.
use Rattle.std.proofs.Common.{◌≡◌, ◌≢◌, ℕ, ◌+◌, ◌*◌, ◌<◌, ◌≤◌, Bool, List, [], ◌∷◌, length, refl}
use Rattle.std.proofs.Common.{Option, Some, slice_get, slice_index_or}
use Rattle.std.proofs.Common.{sym, ◌∙◌, ap, arith}
use Rattle.std.specs.List.{All, AllPairs}
use Rattle.std.proofs.Math.Path.{fun_ext}
use Rattle.std.proofs.lemmas.Option.{slice_get_within}
use Rattle.std.proofs.lemmas.List.Elements.{All-contains}
use Rattle.labels.specs.Labels.{Label, Function, with_below}
use Rattle.bdd_nodes.specs.Shelf.{Contents, count_of, limit_of}
use Rattle.bdd_walk.specs.Under.{IsMissingAmong}
use Rattle.gta_theory.specs.Guides.{Spaces, IsGuide, IsSpace, left, right}
use Rattle.gta_theory.specs.Automata.{Automaton, IsStable, Has}
use Rattle.gta_theory.specs.Constructions.{pairs, IsProduct}
use Rattle.gta_theory.specs.Generated.{Generated, starts, steps}
use Rattle.gta_theory.specs.Sizes.{IsPart, SizeIn, SizeOf}
use Rattle.gta_theory.proofs.AutomataLemmas.{IsClosed-values, IsStable-product}
use Rattle.gta_theory.proofs.CountingLemmas.{matched-le}
use Rattle.gta_theory.proofs.ListsLemmas.{place-once}
use Rattle.gta_theory.proofs.SizesLemmas.{length-partners}
use Rattle.gta_product.specs.Building.{IsStepFunction, ExceedsSteps, HasManyCells}
use Rattle.gta_core.proofs.SpacesLemmas.{all_spaces, term-le}
use Rattle.gta_core.proofs.CellsLemmas.{IsInTable, in-table}
use Rattle.gta_product.proofs.ShelfLemmas.{Contains-get}

same_pair : (a b : ℕ × ℕ) → ◌≡◌ {A = Option (ℕ × ℕ)} (Some a) (Some b) → a ≡ b
same_pair a b e = cc

module _ (g : Spaces) (guide : IsGuide g) (A B C : Automaton ℕ) (of_A : IsStable g A) (of_B : IsStable g B)
    (states : ℕ → ℕ → Bool) (pair : ℕ → ℕ → ℕ × ℕ) (product : IsProduct g A B C (Has states) pair) where
  -- each generated pair has a name
  record IsNamed (s : ℕ) (p : ℕ × ℕ) : Type 0 where
    name : ℕ
    there : Has states s name
    is : pair s name ≡ p

  named : (s : ℕ) (p : ℕ × ℕ) → Generated g (pairs A B) s p → IsNamed s p
  named _ _ (starts s inside) =
      let closed = IsClosed-values g guide C (IsStable-product g guide A B of_A of_B C (Has states) pair product) in
      record {
        name = C.initial s;
        there = (product.reached.state s (C.initial s) inside).1 (closed.initial s inside);
        is = product.naming.initial s inside;
      }
  named _ _ (steps s p q label inside l r) =
      let closed = IsClosed-values g guide C (IsStable-product g guide A B of_A of_B C (Has states) pair product) in
      let x = named (left g s) p l in
      let y = named (right g s) q r in
      record {
        name = C.step s x.name y.name label;
        there = (product.reached.state s (C.step s x.name y.name label) inside).1
            (closed.step s x.name y.name label inside
            ((product.reached.state (left g s) x.name (guide.left_inside s inside)).0 x.there)
            ((product.reached.state (right g s) y.name (guide.right_inside s inside)).0 y.there));
        is = product.naming.step s x.name y.name label inside x.there y.there
            ∙ ap (λ (u : ℕ × ℕ). (pairs A B).step s u (pair (right g s) y.name) label) x.is
            ∙ ap (λ (v : ℕ × ℕ). (pairs A B).step s p v label) y.is;
      }

  -- many cells: each stands for a pair of child states of its own
  module _ (n : ℕ) (size : SizeOf g C (Has states) n) (shelf : Contents) (many : HasManyCells g (pairs A B) shelf) where
    in_space : SizeIn g C (Has states) many.space (size.sizes many.space)
    in_space = size.in_space many.space many.inside

    -- the cell at this place has the names at that one
    record IsCellOf (k j : ℕ) : Type 0 where
      place : IsInTable (length many.rows) (length many.columns) k
      names : ℕ × ℕ
      there : slice_get in_space.pairs j ≡ Some names
      row : pair (left g many.space) names.0 ≡ slice_index_or many.rows place.row (0, 0)
      column : pair (right g many.space) names.1 ≡ slice_index_or many.columns place.column (0, 0)

    cell-of : (k : ℕ) → k < length many.rows * length many.columns → (j : ℕ) × (j < length in_space.pairs) × IsCellOf k j
    cell-of k within =
        let place = in-table (length many.rows) (length many.columns) k within in
        let l = slice_index_or many.rows place.row (0, 0) in
        let r = slice_index_or many.columns place.column (0, 0) in
        let x = named (left g many.space) l (many.in_left place.row (0, 0) place.row_within) in
        let y = named (right g many.space) r (many.in_right place.column (0, 0) place.column_within) in
        let at = Contains-get in_space.pairs (x.name, y.name) (in_space.all_pairs.every (x.name, y.name) (x.there, y.there)) in (
          at.0,
          slice_get_within in_space.pairs at.0 (x.name, y.name) at.1,
          record {
            place = place;
            names = (x.name, y.name);
            there = at.1;
            row = x.is;
            column = y.is;
          },
        )

    one-cell : (k m j : ℕ) → IsCellOf k j → IsCellOf m j → k ≡ m
    one-cell k m j x y =
        let same = same_pair x.names y.names (sym x.there ∙ y.there) in
        let row = place-once many.rows many.rows_differ x.place.row y.place.row (0, 0) x.place.row_within y.place.row_within
        (sym x.row ∙ ap (λ (p : ℕ × ℕ). pair (left g many.space) p.0) same ∙ y.row) in
        let column = place-once many.columns many.columns_differ x.place.column y.place.column (0, 0) x.place.column_within y.place.column_within
        (sym x.column ∙ ap (λ (p : ℕ × ℕ). pair (right g many.space) p.1) same ∙ y.column) in
        x.place.is ∙ ap (λ (i : ℕ). i * length many.columns + x.place.column) row
        ∙ ap (λ (i : ℕ). y.place.row * length many.columns + i) column ∙ sym y.place.is

    -- where there are many cells, the limit is below the Size
    pub cells-below : limit_of shelf < count_of shelf + n
    cells-below =
        let fit = matched-le (length in_space.pairs) (length many.rows * length many.columns) IsCellOf
        (record { partner = cell-of; once = one-cell }) in
        let part = term-le size.sizes (length g) many.space many.inside in
        omega (arith, fit, part, many.many, in_space.is_sum, size.is_sum)

  module _ (given : ℕ → List ℕ → ℕ) where
    -- the number that is given to the pair of a state
    seen : ℕ → ℕ → ℕ
    seen s q = given s ((pair s q).0 ∷ (pair s q).1 ∷ [])

    -- the function is what is seen of the other one
    IsSeen : Function → ℕ × Function → Type 0
    IsSeen f c = (label : Label) → f label ≡ seen c.0 (c.1 label)

    one-seen : (f h : Function) (c : ℕ × Function) → IsSeen f c → IsSeen h c → f ≢ h → ⊥
    unfolding IsSeen
    one-seen f h c of_f of_h other = other (fun_ext (λ (label : Label). of_f label ∙ sym (of_h label)))

    module _ (shelf : Contents) (wholes : List Function) (each : All (IsStepFunction g (pairs A B) given) wholes) where
      record HasPart (f : Function) : Type 0 where
        space : ℕ
        part : Function
        inside : IsSpace g space
        is_part : IsPart g C (Has states) space part
        is_seen : IsSeen f (space, part)

      part-of : (f : Function) → IsMissingAmong shelf wholes f → HasPart f
      unfolding IsSeen seen
      part-of f is =
          let step = All-contains (IsStepFunction g (pairs A B) given) wholes is.whole each is.among in
          let x = named (left g step.space) step.at_left step.in_left in
          let y = named (right g step.space) step.at_right step.in_right in
          let under = is.missing.under in
          let s = step.space in
          let part : Function = λ label. C.step s x.name y.name (with_below under.below under.fixed label) in
          let names = λ (label : Label).
          let r : pair s (part label) ≡ (pairs A B).step s step.at_left step.at_right (with_below under.below under.fixed label) =
          product.naming.step s x.name y.name (with_below under.below under.fixed label) step.inside x.there y.there
          ∙ ap (λ (u : ℕ × ℕ). (pairs A B).step s u (pair (right g s) y.name) (with_below under.below under.fixed label)) x.is
          ∙ ap (λ (v : ℕ × ℕ). (pairs A B).step s step.at_left v (with_below under.below under.fixed label)) y.is in r in
          let sees = λ (label : Label).
          let r : f label ≡ given s ((pair s (part label)).0 ∷ (pair s (part label)).1 ∷ []) =
          under.states label ∙ step.states (with_below under.below under.fixed label)
          ∙ ap (λ (p : ℕ × ℕ). given s (p.0 ∷ p.1 ∷ [])) (sym (names label)) in r in
          record {
            space = s;
            part = part;
            inside = step.inside;
            is_part = record {
              under = record {
                at_left = x.name;
                at_right = y.name;
                in_left = x.there;
                in_right = y.there;
                below = under.below;
                fixed = under.fixed;
                states = λ label. refl;
              };
              varied = record {
                one = is.missing.varies.one;
                other = is.missing.varies.other;
                differs = λ same. is.missing.varies.differs (sees is.missing.varies.one
                    ∙ ap (λ (q : ℕ). given s ((pair s q).0 ∷ (pair s q).1 ∷ [])) same ∙ sym (sees is.missing.varies.other));
              };
            };
            is_seen = sees;
          }

      pub missing-le : (n : ℕ) → SizeOf g C (Has states) n → (parts : List Function) → AllPairs (λ x y. x ≢ y) parts →
          All (IsMissingAmong shelf wholes) parts → length parts ≤ n
      missing-le n size parts distinct missing =
          let all = all_spaces g C (Has states) n size in
          let fit = length-partners (λ x y. x ≢ y) IsSeen one-seen parts all.parts distinct (λ f there.
          let has = part-of f (All-contains (IsMissingAmong shelf wholes) parts f missing there) in
          ((has.space, has.part), all.every has.space has.part has.inside has.is_part, has.is_seen)) in
          omega (arith, fit, all.few)

    -- where there is no room, the limit is below the count and the Size
    pub limit-below : (shelf : Contents) (n : ℕ) → SizeOf g C (Has states) n → ExceedsSteps g (pairs A B) shelf given →
        limit_of shelf < count_of shelf + n
    limit-below shelf n size exceeds =
        let fit = missing-le shelf exceeds.wholes exceeds.each n size exceeds.exceeds.parts exceeds.exceeds.distinct exceeds.exceeds.missing in
        omega (arith, fit, exceeds.exceeds.more)
