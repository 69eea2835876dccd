-- What has no room is no more than the Size of the projection.
use Rattle.std.proofs.Common.{◌≡◌, ◌≢◌, ℕ, ◌+◌, ◌-◌, ◌*◌, ◌<◌, ◌≤◌, Bool, List, [], length, Option, Contains, ◌↔◌, refl}
use Rattle.std.proofs.Common.{Some, slice_get, slice_index_or, sym, ◌∙◌, ap, subst, arith}
use Rattle.std.specs.Prelude.{IsTrue, unwrap_or}
use Rattle.std.specs.List.{All, AllPairs}
use Rattle.std.proofs.Math.Path.{fun_ext}
use Rattle.std.proofs.lemmas.Option.{slice_get_within}
use Rattle.std.proofs.lemmas.List.Elements.{All-contains}
use Rattle.labels.specs.Labels.{Label, Function, with_below}
use Rattle.bdd_nodes.specs.Shelf.{Contents, count_of, limit_of}
use Rattle.bdd_walk.specs.Under.{IsMissingAmong}
use Rattle.gta_theory.specs.Guides.{Spaces, IsGuide, IsSpace, left, right}
use Rattle.gta_theory.specs.Automata.{Automaton, IsStable, Has}
use Rattle.gta_theory.specs.Constructions.{IsStepOf, IsSubset}
use Rattle.gta_theory.specs.Generated.{Generated, starts, steps}
use Rattle.gta_theory.specs.Sizes.{IsPart, SizeIn, SizeOf}
use Rattle.gta_theory.proofs.SubsetLemmas.{IsClosed-subset}
use Rattle.gta_theory.proofs.CountingLemmas.{matched-le}
use Rattle.gta_theory.proofs.ListsLemmas.{place-once}
use Rattle.gta_theory.proofs.SizesLemmas.{length-partners}
use Rattle.bdd_walk.specs.Sets.{IsSet}
use Rattle.gta_subsets.specs.Subsets.{subsets, IsInitial, AreInitial}
use Rattle.bdd_walk.proofs.SetsLemmas.{sets-same}
use Rattle.gta_subsets.proofs.SubsetsLemmas.{set_step-has, set_step-only, IsSet-step}
use Rattle.gta_core.proofs.SpacesLemmas.{all_spaces, term-le}
use Rattle.gta_core.proofs.CellsLemmas.{get-index, IsInTable, in-table}
use Rattle.gta_project.specs.Building.{IsStepFunction, ExceedsSteps, HasManyCells}
use Rattle.gta_project.proofs.ShelfLemmas.{Contains-get}

same_pair : (a b : ℕ × ℕ) → ◌≡◌ {A = Option (ℕ × ℕ)} (Some a) (Some b) → a ≡ b
same_pair a b e = cc

-- a step from other sets with the same states
step-sets : (A : Automaton ℕ) (t s : ℕ) (Left Right More_left More_right : ℕ → Type 0) (label : Label) (q : ℕ) →
    ((l : ℕ) → Left l → More_left l) → ((r : ℕ) → Right r → More_right r) → IsStepOf A t s Left Right label q → IsStepOf A t s More_left More_right label q
step-sets A t s Left Right More_left More_right label q of_left of_right step = record {
  left = step.left;
  right = step.right;
  bit = step.bit;
  in_left = of_left step.left step.in_left;
  in_right = of_right step.right step.in_right;
  is_step = step.is_step;
}

module _ (g : Spaces) (guide : IsGuide g) (A : Automaton ℕ) (stable : IsStable g A) (t : ℕ) (initials : List (List ℕ))
    (are_initial : AreInitial g A t initials) (B : Automaton ℕ) (states : ℕ → ℕ → Bool) (member : ℕ → ℕ → ℕ → Bool)
    (subset : IsSubset g A t B (Has states) (λ s x q. IsTrue (member s x q))) where
  abbrev pub Sets : Automaton (List ℕ)
  Sets = subsets A t initials

  -- the state has the states of the set
  Names : ℕ → ℕ → List ℕ → Type 0
  Names s x set = (q : ℕ) → IsTrue (member s x q) ↔ Contains set q

  -- each generated set has a name
  record IsNamed (s : ℕ) (set : List ℕ) : Type 0 where
    name : ℕ
    there : Has states s name
    is : Names s name set

  initial-named : (s : ℕ) → IsSpace g s → IsNamed s (Sets.initial s)
  unfolding Names
  initial-named s inside =
      let closed = IsClosed-subset g guide A stable t B (Has states) (λ s x q. IsTrue (member s x q)) subset in
      let set = get-index initials s (omega (arith, are_initial.many)) in
      let is = subst (IsInitial g A t s) (sym (ap (λ (o : Option (List ℕ)). unwrap_or o []) set.1)) (are_initial.each s set.0 set.1) in
      record {
        name = B.initial s;
        there = closed.initial s inside;
        is = λ q. (
          (λ has. (is.settled q).1 ((subset.initial s q inside).0 has)),
          (λ there. (subset.initial s q inside).1 ((is.settled q).0 there)),
        );
      }

  step-named : (s : ℕ) → IsSpace g s → (x y : ℕ) (lefts rights : List ℕ) → Has states (left g s) x → Has states (right g s) y →
      Names (left g s) x lefts → Names (right g s) y rights → (label : Label) → Names s (B.step s x y label) (Sets.step s lefts rights label)
  unfolding Names
  step-named s inside x y lefts rights in_left in_right is_left is_right label = λ q.
      let step = subset.step s x y label q inside in_left in_right in (
        (λ has. set_step-has A t s lefts rights label q
            (step-sets A t s _ _ _ _ label q (λ l. (is_left l).0) (λ r. (is_right r).0) (step.0 has))),
        (λ there. step.1 (step-sets A t s _ _ _ _ label q (λ l. (is_left l).1) (λ r. (is_right r).1)
            (set_step-only A t s lefts rights label q there))),
      )

  named : (s : ℕ) (set : List ℕ) → Generated g Sets s set → IsNamed s set
  named _ _ (starts s inside) = initial-named s inside
  named _ _ (steps s lefts rights label inside l r) =
      let closed = IsClosed-subset g guide A stable t B (Has states) (λ s x q. IsTrue (member s x q)) subset in
      let x = named (left g s) lefts l in
      let y = named (right g s) rights r in
      record {
        name = B.step s x.name y.name label;
        there = closed.step s x.name y.name label inside x.there y.there;
        is = step-named s inside x.name y.name lefts rights x.there y.there x.is y.is label;
      }

  -- a state names one set
  one-set : (s x : ℕ) (set other : List ℕ) → IsSet set → IsSet other → Names s x set → Names s x other → set ≡ other
  unfolding Names
  one-set s x set other is_set is_other of_set of_other =
      sets-same set other is_set is_other (λ q there. (of_other q).0 ((of_set q).1 there)) (λ q there. (of_set q).0 ((of_other q).1 there))

  generated-set : (s : ℕ) (set : List ℕ) → Generated g Sets s set → IsSet set
  generated-set _ _ (starts s inside) =
      let set = get-index initials s (omega (arith, are_initial.many)) in
      (subst (IsInitial g A t s) (sym (ap (λ (o : Option (List ℕ)). unwrap_or o []) set.1)) (are_initial.each s set.0 set.1)).set
  generated-set _ _ (steps s lefts rights label inside l r) = IsSet-step A t s lefts rights label

  -- many cells: each stands for a pair of child states of its own
  module _ (n : ℕ) (size : SizeOf g B (Has states) n) (shelf : Contents) (many : HasManyCells g Sets shelf) where
    in_space : SizeIn g B (Has states) many.space (size.sizes many.space)
    in_space = size.in_space many.space many.inside

    -- the cell at this place has the names at that one
    record IsCellOf (k j : ℕ) : Type 0 where
      place : IsInTable (length many.rows) (length many.columns) k
      names : ℕ × ℕ
      there : slice_get in_space.pairs j ≡ Some names
      row : Names (left g many.space) names.0 (slice_index_or many.rows place.row [])
      column : Names (right g many.space) names.1 (slice_index_or many.columns place.column [])

    cell-of : (k : ℕ) → k < length many.rows * length many.columns → (j : ℕ) × (j < length in_space.pairs) × IsCellOf k j
    cell-of k within =
        let place = in-table (length many.rows) (length many.columns) k within in
        let l = slice_index_or many.rows place.row [] in
        let r = slice_index_or many.columns place.column [] in
        let x = named (left g many.space) l (many.in_left place.row [] place.row_within) in
        let y = named (right g many.space) r (many.in_right place.column [] place.column_within) in
        let at = Contains-get in_space.pairs (x.name, y.name) (in_space.all_pairs.every (x.name, y.name) (x.there, y.there)) in (
          at.0,
          slice_get_within in_space.pairs at.0 (x.name, y.name) at.1,
          record {
            place = place;
            names = (x.name, y.name);
            there = at.1;
            row = x.is;
            column = y.is;
          },
        )

    one-cell : (k m j : ℕ) → IsCellOf k j → IsCellOf m j → k ≡ m
    one-cell k m j x y =
        let same = same_pair x.names y.names (sym x.there ∙ y.there) in
        let row = place-once many.rows many.rows_differ x.place.row y.place.row [] x.place.row_within y.place.row_within
        (one-set (left g many.space) y.names.0 _ _ (generated-set _ _ (many.in_left x.place.row [] x.place.row_within))
        (generated-set _ _ (many.in_left y.place.row [] y.place.row_within))
        (subst (λ (p : ℕ × ℕ). Names (left g many.space) p.0 (slice_index_or many.rows x.place.row [])) same x.row) y.row) in
        let column = place-once many.columns many.columns_differ x.place.column y.place.column [] x.place.column_within y.place.column_within
        (one-set (right g many.space) y.names.1 _ _ (generated-set _ _ (many.in_right x.place.column [] x.place.column_within))
        (generated-set _ _ (many.in_right y.place.column [] y.place.column_within))
        (subst (λ (p : ℕ × ℕ). Names (right g many.space) p.1 (slice_index_or many.columns x.place.column [])) same x.column) y.column) in
        x.place.is ∙ ap (λ (i : ℕ). i * length many.columns + x.place.column) row
        ∙ ap (λ (i : ℕ). y.place.row * length many.columns + i) column ∙ sym y.place.is

    -- where there are many cells, the limit is below the Size
    pub cells-below : limit_of shelf < count_of shelf + n
    cells-below =
        let fit = matched-le (length in_space.pairs) (length many.rows * length many.columns) IsCellOf
        (record { partner = cell-of; once = one-cell }) in
        let part = term-le size.sizes (length g) many.space many.inside in
        omega (arith, fit, part, many.many, in_space.is_sum, size.is_sum)

  module _ (given : ℕ → List ℕ → ℕ) where
    -- the number is what is given to the set that the state names
    record IsSeenAs (s x n : ℕ) : Type 0 where
      set : List ℕ
      is_set : IsSet set
      names : Names s x set
      gives : n ≡ given s set

    seen-once : (s x m n : ℕ) → IsSeenAs s x m → IsSeenAs s x n → m ≡ n
    seen-once s x m n of_m of_n =
        of_m.gives ∙ ap (given s) (one-set s x of_m.set of_n.set of_m.is_set of_n.is_set of_m.names of_n.names) ∙ sym of_n.gives

    -- the function is what is seen of the other one
    IsSeen : Function → ℕ × Function → Type 0
    IsSeen f c = (label : Label) → IsSeenAs c.0 (c.1 label) (f label)

    one-seen : (f h : Function) (c : ℕ × Function) → IsSeen f c → IsSeen h c → f ≢ h → ⊥
    unfolding IsSeen
    one-seen f h c of_f of_h other = other (fun_ext (λ (label : Label). seen-once c.0 (c.1 label) (f label) (h label) (of_f label) (of_h label)))

    module _ (shelf : Contents) (wholes : List Function) (each : All (IsStepFunction g Sets given) wholes) where
      record HasPart (f : Function) : Type 0 where
        space : ℕ
        part : Function
        inside : IsSpace g space
        is_part : IsPart g B (Has states) space part
        is_seen : IsSeen f (space, part)

      part-of : (f : Function) → IsMissingAmong shelf wholes f → HasPart f
      unfolding IsSeen
      part-of f is =
          let step = All-contains (IsStepFunction g Sets given) wholes is.whole each is.among in
          let x = named (left g step.space) step.at_left step.in_left in
          let y = named (right g step.space) step.at_right step.in_right in
          let under = is.missing.under in
          let s = step.space in
          let part : Function = λ label. B.step s x.name y.name (with_below under.below under.fixed label) in
          let sees = λ (label : Label).
          let fixed = with_below under.below under.fixed label in
          let r : IsSeenAs s (part label) (f label) = record {
            set = Sets.step s step.at_left step.at_right fixed;
            is_set = IsSet-step A t s step.at_left step.at_right fixed;
            names = step-named s step.inside x.name y.name step.at_left step.at_right x.there y.there x.is y.is fixed;
            gives = under.states label ∙ step.states fixed;
          } in r in
          record {
            space = s;
            part = part;
            inside = step.inside;
            is_part = record {
              under = record {
                at_left = x.name;
                at_right = y.name;
                in_left = x.there;
                in_right = y.there;
                below = under.below;
                fixed = under.fixed;
                states = λ label. refl;
              };
              varied = record {
                one = is.missing.varies.one;
                other = is.missing.varies.other;
                differs = λ same. is.missing.varies.differs (seen-once s (part is.missing.varies.other) _ _
                    (subst (λ (n : ℕ). IsSeenAs s n (f is.missing.varies.one)) same (sees is.missing.varies.one)) (sees is.missing.varies.other));
              };
            };
            is_seen = sees;
          }

      pub missing-le : (n : ℕ) → SizeOf g B (Has states) n → (parts : List Function) → AllPairs (λ x y. x ≢ y) parts →
          All (IsMissingAmong shelf wholes) parts → length parts ≤ n
      missing-le n size parts distinct missing =
          let all = all_spaces g B (Has states) n size in
          let fit = length-partners (λ x y. x ≢ y) IsSeen one-seen parts all.parts distinct (λ f there.
          let has = part-of f (All-contains (IsMissingAmong shelf wholes) parts f missing there) in
          ((has.space, has.part), all.every has.space has.part has.inside has.is_part, has.is_seen)) in
          omega (arith, fit, all.few)

    -- where there is no room, the limit is below the count and the Size
    pub limit-below : (shelf : Contents) (n : ℕ) → SizeOf g B (Has states) n → ExceedsSteps g Sets shelf given →
        limit_of shelf < count_of shelf + n
    limit-below shelf n size exceeds =
        let fit = missing-le shelf exceeds.wholes exceeds.each n size exceeds.exceeds.parts exceeds.exceeds.distinct exceeds.exceeds.missing in
        omega (arith, fit, exceeds.exceeds.more)
