-- The inner nodes under the roots of an automaton's table are no more than its Size.
use Rattle.std.proofs.Common.{◌≡◌, ◌≢◌, ℕ, zero, suc, ◌<◌, ◌≤◌, true, false, List, [], ◌∷◌, ◌++◌, length, Option, Some}
use Rattle.std.proofs.Common.{Contains, AllPairs, get_or, refl, sym, ◌∙◌, ap, subst, inl, inr, arith, length-append}
use Rattle.std.specs.Prelude.{All, IsSome, is_some, slice_get, option_and_then}
use Rattle.std.specs.List.{sum_by}
use Rattle.std.proofs.lemmas.Bool.{cases_lt}
use Rattle.std.proofs.lemmas.Option.{slice_get-get_or, option_and_then_some}
use Rattle.std.proofs.lemmas.List.Sums.{sum_by-cons}
use Rattle.std.proofs.lemmas.List.Elements.{All-contains, Contains-append_left, Contains-append_right}
use Rattle.labels.specs.Labels.{Function, with_below, with_track}
use Rattle.bdd_nodes.specs.declared.node_ref.NodeRef.{NodeRef}
use Rattle.bdd_nodes.specs.Nodes.{node_of}
use Rattle.bdd_nodes.specs.Shelf.{Contents, IsShelf, IsValid, state_of, roots_of, root_of}
use Rattle.bdd_nodes.specs.Changes.{IsHeld, CountsHeld}
use Rattle.bdd_nodes.proofs.CanonicalLemmas.{changes_named}
use Rattle.bdd_nodes.proofs.SplitLemmas.{same_reference}
use Rattle.bdd_nodes.proofs.UnderLemmas.{IsUnder-reached, IsValid-reached}
use Rattle.gta_theory.specs.Guides.{Spaces, IsSpace}
use Rattle.gta_theory.specs.Automata.{Automaton}
use Rattle.gta_theory.specs.Numbered.{Below}
use Rattle.gta_theory.specs.Sizes.{IsPart, sum_below, SizeOf}
use Rattle.gta_theory.proofs.ListsLemmas.{Contains-none, Contains-first, Contains-later, Contains-cases, All-from_contains}
use Rattle.gta_theory.proofs.SizesLemmas.{length-partners}
use Rattle.gta_core.specs.Auto.{AutoView, states_of, root_at, automaton_of, IsUsed, IsAuto}
use Rattle.gta_core.specs.Sizes.{IsNodeOf, CountsNodes, IsSized, IsTableOf}
use Rattle.gta_core.proofs.AutoLemmas.{step-some}

-- an inner node under a root of a table is valid
IsValid-node : (shelf : Contents) → IsShelf shelf → (table : ℕ) (r : NodeRef) → IsNodeOf shelf table r → IsValid shelf r
IsValid-node shelf is_shelf table r node =
    IsValid-reached shelf is_shelf node.root r (is_shelf.roots table node.place node.root node.registered) node.reached

-- the parts of the spaces below a number, in one list
pub record ListsParts (g : Spaces) (A : Automaton ℕ) (has : ℕ → ℕ → Type 0) (below count : ℕ) : Type 0 where
  pub parts : List Function
  pub every : (s : ℕ) (f : Function) → s < below → IsPart g A has s f → Contains parts f
  pub few : length parts ≤ count

module _ (g : Spaces) (A : Automaton ℕ) (has : ℕ → ℕ → Type 0) (n : ℕ) (size : SizeOf g A has n) where
  parts_below : (m : ℕ) → m ≤ length g → ListsParts g A has m (sum_below size.sizes m)
  parts_below zero within = record { parts = []; every = λ s f below part. absurd (omega arith); few = omega arith }
  parts_below (suc m) within =
      let before = parts_below m (omega arith) in
      let here = size.in_space m (omega arith) in
      record {
        parts = before.parts ++ here.parts;
        every = λ s f below part. elim (cases_lt s m) [
          | inl early ↦ Contains-append_left before.parts here.parts f (before.every s f early part)
          | inr last ↦ (let same : s ≡ m = omega arith in
              Contains-append_right before.parts here.parts f ((here.all_parts).every f (subst (λ (k : ℕ). IsPart g A has k f) same part)))
        ];
        few = omega (arith, length-append before.parts here.parts, before.few, here.is_sum);
      }

  -- so those of all spaces are no more than the Size
  pub all_parts : ListsParts g A has (length g) n
  all_parts = subst (ListsParts g A has (length g)) size.is_sum (parts_below (length g) (omega arith))

-- the function of an inner node under a root is a part of some space
record IsPartSomewhere (g : Spaces) (A : Automaton ℕ) (has : ℕ → ℕ → Type 0) (f : Function) : Type 0 where
  space : ℕ
  inside : IsSpace g space
  part : IsPart g A has space f

module _ (g : Spaces) (shelf : Contents) (is_shelf : IsShelf shelf) (a : AutoView) (auto : IsAuto g shelf a) where
  root_at-used : (place : ℕ) (root : NodeRef) → root_of shelf a.table place ≡ Some root → (u : IsUsed a place) →
      root_at shelf a u.space u.left u.right ≡ Some root
  unfolding root_at
  root_at-used place root registered u = ap (λ (o : Option ℕ). option_and_then (root_of shelf a.table) o) u.there ∙ registered

  IsPart-node : (r : NodeRef) → IsNodeOf shelf a.table r → IsPartSomewhere g (automaton_of shelf a) (Below (states_of a)) (state_of shelf r)
  IsPart-node r node =
      let u = auto.used node.place (ap (λ (o : Option NodeRef). is_some o) node.registered) in
      let at = root_at-used node.place node.root node.registered u in
      let pair = (auto.complete u.space u.left u.right).0 (ap (λ (o : Option NodeRef). is_some o) at) in
      let root_valid = is_shelf.roots a.table node.place node.root node.registered in
      let under = IsUnder-reached shelf is_shelf node.root r root_valid node.reached in
      let changes = changes_named shelf.nodes is_shelf.canonical (node_of r) node.track (IsValid-node shelf is_shelf a.table r node) node.inner in
      record {
        space = u.space;
        inside = pair.0;
        part = record {
          under = record {
            at_left = u.left;
            at_right = u.right;
            in_left = pair.1.0;
            in_right = pair.1.1;
            below = under.below;
            fixed = under.fixed;
            states = λ label. under.states label
                ∙ step-some shelf a u.space u.left u.right (with_below under.below under.fixed label) node.root at;
          };
          varied = record {
            one = with_track changes.0 node.track false;
            other = with_track changes.0 node.track true;
            differs = changes.1;
          };
        };
      }

-- references with a function among these are no more than the functions
module _ (shelf : Contents) (is_shelf : IsShelf shelf) where
  HasFunction : NodeRef → Function → Type 0
  HasFunction r f = IsValid shelf r × (f ≡ state_of shelf r)

  one-reference : (r q : NodeRef) (f : Function) → HasFunction r f → HasFunction q f → r ≢ q → ⊥
  unfolding HasFunction
  one-reference r q f of_r of_q other =
      let same = sym of_r.1 ∙ of_q.1 in
      other (same_reference shelf r q is_shelf of_r.0 of_q.0 (λ label. ap (λ (h : Function). h label) same))

  length-functions : (nodes : List NodeRef) (functions : List Function) → AllPairs (λ x y. x ≢ y) nodes →
      ((r : NodeRef) → Contains nodes r → IsValid shelf r × Contains functions (state_of shelf r)) → length nodes ≤ length functions
  unfolding HasFunction
  length-functions nodes functions once each =
      length-partners (λ x y. x ≢ y) HasFunction one-reference nodes functions once
      (λ r there. let h = each r there in (state_of shelf r, h.1, (h.0, refl)))

-- each once, so any two are other ones
once-pairs : (nodes : List NodeRef) →
    ((i j : ℕ) (r : NodeRef) → slice_get nodes i ≡ Some r → slice_get nodes j ≡ Some r → i ≡ j) → AllPairs (λ x y. x ≢ y) nodes
once-pairs nodes once i j d less inside same =
    let at_i = slice_get-get_or nodes i d (omega arith) in
    let at_j = slice_get-get_or nodes j d inside in
    absurd (let e = once i j (get_or nodes i d) at_i (at_j ∙ ap Some (sym same)) in omega arith)

-- inner nodes that are listed, each once
module _ (g : Spaces) (shelf : Contents) (is_shelf : IsShelf shelf) (a : AutoView) (auto : IsAuto g shelf a) (n : ℕ)
    (size : SizeOf g (automaton_of shelf a) (Below (states_of a)) n) where
  pub nodes-le : (nodes : List NodeRef) → AllPairs (λ x y. x ≢ y) nodes → All (IsNodeOf shelf a.table) nodes → length nodes ≤ n
  nodes-le nodes once each =
      let parts = all_parts g (automaton_of shelf a) (Below (states_of a)) n size in
      let fit = length-functions shelf is_shelf nodes parts.parts once (λ r there.
      let node = All-contains (IsNodeOf shelf a.table) nodes r each there in
      let part = IsPart-node g shelf is_shelf a auto r node in
      (IsValid-node shelf is_shelf a.table r node, parts.every part.space (state_of shelf r) part.inside part.part)) in
      omega (arith, fit, parts.few)

  pub count-le : (count : ℕ) → CountsNodes shelf a.table count → count ≤ n
  count-le count counts =
      let fit = nodes-le counts.nodes (once-pairs counts.nodes counts.once)
      (All-from_contains (IsNodeOf shelf a.table) counts.nodes (λ r there. (counts.each r).0 there)) in
      omega (arith, fit, counts.length)

-- the parts of all automata, in one list
record ListsAll (g : Spaces) (shelf : Contents) (autos : List (AutoView × ℕ)) : Type 0 where
  parts : List Function
  every : (auto : AutoView × ℕ) (f : Function) → Contains autos auto →
      IsPartSomewhere g (automaton_of shelf auto.0) (Below (states_of auto.0)) f → Contains parts f
  few : length parts ≤ sum_by (λ auto. auto.1) autos

module _ (g : Spaces) (shelf : Contents) where
  all_listed : (autos : List (AutoView × ℕ)) → ((auto : AutoView × ℕ) → Contains autos auto → IsSized g shelf auto) → ListsAll g shelf autos
  all_listed [] sized = record { parts = []; every = λ auto f there part. absurd (Contains-none auto there); few = omega arith }
  all_listed (a ∷ autos) sized =
      let here = all_parts g (automaton_of shelf a.0) (Below (states_of a.0)) a.1 (sized a (Contains-first a autos)).size in
      let rest = all_listed autos (λ b later. sized b (Contains-later a b autos later)) in
      record {
        parts = here.parts ++ rest.parts;
        every = λ b f there part. elim (Contains-cases a b autos there) [
          | inl same ↦ (let moved = subst (λ (c : AutoView × ℕ). IsPartSomewhere g (automaton_of shelf c.0) (Below (states_of c.0)) f) (sym same) part in
              Contains-append_left here.parts rest.parts f (here.every moved.space f moved.inside moved.part))
          | inr later ↦ Contains-append_right here.parts rest.parts f (rest.every b f later part)
        ];
        few = omega (arith, length-append here.parts rest.parts, here.few, rest.few, sum_by-cons (λ (auto : AutoView × ℕ). auto.1) a autos);
      }

-- all nodes under registered roots
module _ (g : Spaces) (shelf : Contents) (is_shelf : IsShelf shelf) (autos : List (AutoView × ℕ)) (sized : All (IsSized g shelf) autos)
    (tables : (table : ℕ) → IsSome (roots_of shelf table) → IsTableOf autos table) where
  held-table : (r : NodeRef) (held : IsHeld shelf r) → IsTableOf autos held.number
  held-table r held = tables held.number
      (option_and_then_some (λ (roots : List NodeRef). slice_get roots held.index) (roots_of shelf held.number) held.root held.registered
      (λ roots at is. ap (λ (o : Option (List NodeRef)). is_some o) at))

  held-node : (r : NodeRef) (held : IsHeld shelf r) → IsNodeOf shelf held.number r
  held-node r held = record {
    track = held.track;
    inner = held.inner;
    place = held.index;
    root = held.root;
    registered = held.registered;
    reached = held.reached;
  }

  pub held-le : (count : ℕ) → CountsHeld shelf count → count ≤ sum_by (λ auto. auto.1) autos
  held-le count counts =
      let all = all_listed g shelf autos (λ auto there. All-contains (IsSized g shelf) autos auto sized there) in
      let fit = length-functions shelf is_shelf counts.held all.parts (once-pairs counts.held counts.once) (λ r there.
      let held = (counts.each r).0 there in
      let node = held-node r held in
      let of = held-table r held in
      let node_of_auto = subst (λ (table : ℕ). IsNodeOf shelf table r) (sym of.has) node in
      let is = All-contains (IsSized g shelf) autos of.auto sized of.there in (
        IsValid-node shelf is_shelf held.number r node,
        all.every of.auto (state_of shelf r) of.there (IsPart-node g shelf is_shelf (of.auto).0 is.auto r node_of_auto),
      )) in
      omega (arith, fit, all.few, counts.length)
