-- The automaton of merged parts.
use Rattle.std.proofs.Common.{◌≡◌, ℕ, suc, ◌+◌, ◌-◌, ◌<◌, Bool, false, List, [], ◌∷◌, ◌++◌, length, Option, Some, None, inl, inr}
use Rattle.std.proofs.Common.{sym, ◌∙◌, ap, refl, subst, arith}
use Rattle.std.specs.Prelude.{IsSome, is_some, unwrap_or, slice_get, option_map, option_and_then, ◌↔◌}
use mathlib.Core.Path.{fun_ext}
use Rattle.std.proofs.lemmas.Bool.{cases_lt}
use Rattle.std.proofs.lemmas.List.{length-map}
use Rattle.std.proofs.lemmas.Option.{slice_get_within, slice_get_past, slice_get-map}
use Rattle.bdd_nodes.specs.declared.node_ref.NodeRef.{NodeRef}
use Rattle.bdd_nodes.specs.declared.node.Node.{Node}
use Rattle.bdd_nodes.specs.Nodes.{node_of, first_track}
use Rattle.bdd_nodes.specs.Shelf.{Contents, state_of, root_of, top_of}
use Rattle.bdd_nodes.specs.Changes.{AddsTable, Reaches}
use Rattle.gta_theory.specs.Guides.{Spaces, IsGuide, IsSpace}
use Rattle.gta_theory.specs.Automata.{Automaton, IsStable}
use Rattle.gta_theory.specs.Constructions.{IsClosed}
use Rattle.gta_theory.specs.Numbered.{Below}
use Rattle.gta_theory.specs.Sizes.{IsChildPair}
use Rattle.gta_theory.proofs.ListedLemmas.{slice_get-front, slice_get-last, slice_get-push}
use Rattle.gta_core.specs.declared.part.Part.{Part}
use Rattle.gta_core.specs.Auto.{AutoView, states_of, initial_of, is_accepting, guide_of, place_in, place_of, root_at, automaton_of, IsUsed, IsAuto, IsWhole}
use Rattle.gta_core.specs.Placing.{Grows}
use Rattle.gta_core.specs.Sizes.{IsNodeOf}
use Rattle.gta_core.proofs.AutoLemmas.{past-none, functions-same}
use Rattle.gta_core.proofs.PlacingLemmas.{unwrap-inside}
use Rattle.gta_merge.specs.Merged.{AreClasses, HaveEqualRows, HaveEqualColumns, IsMerged}
use Rattle.gta_merge.specs.Parts.{IsPartOf, UsesAfter, ArePartsOf}
use Rattle.gta_merge.proofs.ListsLemmas.{some-there, not-none}

-- lists with the same elements are the same
pub ext : {X : Type 0} (xs ys : List X) → ((i : ℕ) → slice_get xs i ≡ slice_get ys i) → xs ≡ ys
ext [] [] same = refl
ext [] (y ∷ ys) same = let e = same 0 in absurd cc
ext (x ∷ xs) [] same = let e = same 0 in absurd cc
ext {X} (x ∷ xs) (y ∷ ys) same =
    let e : ◌≡◌ {A = Option X} (Some x) (Some y) = same 0 in
    let first : x ≡ y = cc in
    ap (λ (z : X). z ∷ xs) first ∙ ap (λ (zs : List X). y ∷ zs) (ext xs ys (λ i. same (suc i)))

some-within : {X : Type 0} (xs : List X) (i : ℕ) → IsSome (slice_get xs i) → i < length xs
some-within xs i some = elim (cases_lt i (length xs)) [
  | inl inside ↦ inside
  | inr past ↦ absurd (not-none (slice_get xs i) (slice_get_past xs i past) some)
]

-- a chain that gives something has its first link
and_then-some : {X : Type 0} (f : ℕ → Option X) (o : Option ℕ) (x : X) → option_and_then f o ≡ Some x → (y : ℕ) × (o ≡ Some y) × (f y ≡ Some x)
and_then-some f None x e = absurd cc
and_then-some f (Some y) x e = (y, refl, e)

-- an automaton is one over its own guide
pub own-guide : (shelf : Contents) (a : AutoView) (g : Spaces) → IsAuto g shelf a → IsAuto (guide_of a) shelf a
own-guide shelf a g is = subst (λ (h : Spaces). IsAuto h shelf a) (sym is.over) is

pub spaces-are : (shelf : Contents) (a : AutoView) (g : Spaces) → IsAuto g shelf a → length a.parts ≡ length g
spaces-are shelf a g is = sym (length-map a.parts (λ (part : Part). part.children)) ∙ ap (λ (h : Spaces). length h) is.over

-- the flags of all states
pub accepting-same : (a : AutoView) (flags : List Bool) → IsWhole a → length flags ≡ states_of a 0 →
    ((q : ℕ) → q < states_of a 0 → slice_get flags q ≡ Some (is_accepting a q)) → flags ≡ a.accepting
accepting-same a flags whole many each = ext flags a.accepting (λ q. elim (cases_lt q (states_of a 0)) [
  | inl inside ↦ each q inside ∙ sym (unwrap-inside a.accepting q false (let w = whole.accepting in omega arith))
  | inr past ↦ slice_get_past flags q (omega arith) ∙ sym (slice_get_past a.accepting q (let w = whole.accepting in omega arith))
])

-- the parts so far
module _ (shelf : Contents) (a : AutoView) where
  pub ArePartsOf-none : ArePartsOf shelf a [] []
  ArePartsOf-none = record { each = λ s part there. absurd cc; used = λ place inside. absurd (omega arith) }

  IsPartOf-grown : (old new : List NodeRef) → Grows old new → (s : ℕ) (part : Part) → IsPartOf shelf a old s part → IsPartOf shelf a new s part
  IsPartOf-grown old new grows s part is = record {
    own = is.own;
    there = is.there;
    states = is.states;
    initial = is.initial;
    children = is.children;
    within = λ l r place at. let w = is.within l r place at in let g = grows.longer in omega arith;
    same = λ l r. pick l r (place_in part l r) refl ∙ is.same l r;
    merged = is.merged;
  }
    where
      pick : (l r : ℕ) (o : Option ℕ) → place_in part l r ≡ o →
          option_and_then (λ place. slice_get new place) o ≡ option_and_then (λ place. slice_get old place) o
      pick l r None at = refl
      pick l r (Some place) at = grows.kept place (is.within l r place at)

  pub ArePartsOf-push : (parts : List Part) (old new : List NodeRef) (part : Part) → ArePartsOf shelf a old parts → Grows old new →
      IsPartOf shelf a new (length parts) part → UsesAfter old new part → ArePartsOf shelf a new (parts ++ part ∷ [])
  ArePartsOf-push parts old new part so_far grows is uses = record {
    each = λ s other there. elim (slice_get-push parts part other s there) as (λ _. IsPartOf shelf a new s other) [
      | inl before ↦ IsPartOf-grown old new grows s other (so_far.each s other before)
      | inr last ↦ subst (λ (k : ℕ). IsPartOf shelf a new k other) (sym last.0) (subst (IsPartOf shelf a new (length parts)) last.1 is)
    ];
    used = λ place inside. elim (cases_lt place (length old)) [
      | inl before ↦
          let usage = so_far.used place before in
          record {
            space = usage.space;
            part = usage.part;
            there = slice_get-front parts (part ∷ []) usage.space (slice_get_within parts usage.space usage.part usage.there) ∙ usage.there;
            has = usage.has;
          }
      | inr past ↦
          let e : length old + (place - length old) ≡ place = omega arith in
          let has = uses (place - length old) (omega arith) in
          record {
            space = length parts;
            part = part;
            there = slice_get-last parts part;
            has = record {
              left = has.left;
              right = has.right;
              there = has.there ∙ ap (λ (k : ℕ). let o : Option ℕ = Some k in o) e;
            };
          }
    ];
  }

-- states that are alike in two ways that say the same
AreClasses-like : (one other : ℕ → ℕ → Type 0) → ((q r : ℕ) → one q r → other q r) → ((q r : ℕ) → other q r → one q r) →
    (many : ℕ) (classes : List ℕ) → AreClasses one many classes → AreClasses other many classes
AreClasses-like one other to back many classes are = record {
  within = are.within;
  each = are.each;
  shared = λ q r class second q_at r_at. (
    λ same. to q r ((are.shared q r class second q_at r_at).0 same),
    λ like. (are.shared q r class second q_at r_at).1 (back q r like),
  );
}

module _ (shelf : Contents) (a : AutoView) (whole : IsWhole a) (parts : List Part) (roots : List NodeRef)
    (are : ArePartsOf shelf a roots parts) (many : length parts ≡ length a.parts) (accepting : List Bool) (same_accepting : accepting ≡ a.accepting)
    (table : ℕ) where
  abbrev pub merged : AutoView
  merged = record { table = table; parts = parts; accepting = accepting }

  unknown : (s : ℕ) → slice_get parts s ≡ None → slice_get a.parts s ≡ None
  unknown s none = slice_get_past a.parts s (let p = past-none parts s none in omega arith)

  guide-same : guide_of merged ≡ guide_of a
  guide-same = ext (guide_of merged) (guide_of a) (λ s.
      slice_get-map (λ part. part.children) parts s ∙ pick s (slice_get parts s) refl ∙ sym (slice_get-map (λ part. part.children) a.parts s))
    where
      pick : (s : ℕ) (o : Option Part) → slice_get parts s ≡ o →
          option_map (λ (part : Part). part.children) o ≡ option_map (λ (part : Part). part.children) (slice_get a.parts s)
      pick s None at = ap (λ (o : Option Part). option_map (λ (part : Part). part.children) o) (sym (unknown s at))
      pick s (Some part) at =
          let is = are.each s part at in
          ap (λ (c : ℕ × ℕ). let o : Option (ℕ × ℕ) = Some c in o) is.children
          ∙ ap (λ (o : Option Part). option_map (λ (part : Part). part.children) o) (sym is.there)

  states-same : (s : ℕ) → states_of merged s ≡ states_of a s
  states-same s = pick (slice_get parts s) refl
    where
      pick : (o : Option Part) → slice_get parts s ≡ o → unwrap_or (option_map (λ part. part.states) o) 0 ≡ states_of a s
      pick None at = ap (λ (o : Option Part). unwrap_or (option_map (λ part. part.states) o) 0) (sym (unknown s at))
      pick (Some part) at =
          let is = are.each s part at in
          is.states ∙ ap (λ (o : Option Part). unwrap_or (option_map (λ part. part.states) o) 0) (sym is.there)

  initial-same : (s : ℕ) → initial_of merged s ≡ initial_of a s
  initial-same s = pick (slice_get parts s) refl
    where
      pick : (o : Option Part) → slice_get parts s ≡ o → unwrap_or (option_map (λ part. part.initial) o) 0 ≡ initial_of a s
      pick None at = ap (λ (o : Option Part). unwrap_or (option_map (λ part. part.initial) o) 0) (sym (unknown s at))
      pick (Some part) at =
          let is = are.each s part at in
          is.initial ∙ ap (λ (o : Option Part). unwrap_or (option_map (λ part. part.initial) o) 0) (sym is.there)

  pub IsWhole-merged : IsWhole merged
  IsWhole-merged = record {
    guide = subst IsGuide (sym guide-same) whole.guide;
    few = λ s. let e = states-same s in let f = whole.few s in omega arith;
    accepting = ap (λ (bs : List Bool). length bs) same_accepting ∙ whole.accepting ∙ sym (states-same 0);
  }

  -- in a shelf with its table
  module _ (after : Contents) (adds : AddsTable shelf after table roots) (auto : IsAuto (guide_of a) shelf a) where
    root-of : (place : ℕ) → root_of after table place ≡ slice_get roots place
    root-of place = ap (λ (o : Option (List NodeRef)). option_and_then (λ (rs : List NodeRef). slice_get rs place) o) adds.roots

    root-same : (s l r : ℕ) → root_at after merged s l r ≡ root_at shelf a s l r
    unfolding root_at
    root-same s l r = pick (slice_get parts s) refl
      where
        by-place : (o : Option ℕ) → option_and_then (root_of after table) o ≡ option_and_then (λ place. slice_get roots place) o
        by-place None = refl
        by-place (Some place) = root-of place

        pick : (o : Option Part) → slice_get parts s ≡ o →
            option_and_then (root_of after table) (option_and_then (λ part. place_in part l r) o) ≡ root_at shelf a s l r
        pick None at = ap (λ (o : Option Part). option_and_then (root_of shelf a.table) (option_and_then (λ part. place_in part l r) o))
            (sym (unknown s at))
        pick (Some part) at = by-place (place_in part l r) ∙ (are.each s part at).same l r

    automaton-same : automaton_of after merged ≡ automaton_of shelf a
    unfolding automaton_of
    automaton-same = λ i. record {
      initial = fun_ext initial-same i;
      step = λ s l r. unwrap_or (step-same s l r i) (λ label. 0);
      accepting = λ q. unwrap_or (slice_get (same_accepting i) q) false;
    }
      where
        step-same : (s l r : ℕ) → option_map (state_of after) (root_at after merged s l r) ≡ option_map (state_of shelf) (root_at shelf a s l r)
        step-same s l r =
            functions-same shelf after adds.nodes (root_at after merged s l r)
            ∙ ap (λ (o : Option NodeRef). option_map (state_of shelf) o) (root-same s l r)

    used-merged : (place : ℕ) → IsSome (root_of after table place) → IsUsed merged place
    used-merged place some =
        let usage = are.used place (some-within roots place (subst (λ (o : Option NodeRef). IsSome o) (root-of place) some)) in
        record {
          space = usage.space;
          left = usage.has.left;
          right = usage.has.right;
          there = ap (λ (o : Option Part). option_and_then (λ (part : Part). place_in part usage.has.left usage.has.right) o) usage.there ∙ usage.has.there;
        }

    complete-merged : (s l r : ℕ) → IsSome (root_at after merged s l r)
        ↔ (IsSpace (guide_of a) s × IsChildPair (guide_of a) (Below (states_of merged)) s (l, r))
    complete-merged s l r =
        subst (λ (count : ℕ → ℕ). IsSome (root_at after merged s l r) ↔ (IsSpace (guide_of a) s × IsChildPair (guide_of a) (Below count) s (l, r)))
        (sym (fun_ext states-same))
        (subst (λ (o : Option NodeRef). IsSome o ↔ (IsSpace (guide_of a) s × IsChildPair (guide_of a) (Below (states_of a)) s (l, r)))
        (sym (root-same s l r)) (auto.complete s l r))

    IsAuto-merged : IsAuto (guide_of a) after merged
    IsAuto-merged = record {
      over = guide-same;
      registered = ap (λ (o : Option (List NodeRef)). is_some o) adds.roots;
      complete = complete-merged;
      used = used-merged;
      closed = subst (λ (A : Automaton ℕ). IsClosed (guide_of a) A (Below (states_of merged))) (sym automaton-same)
          (subst (λ (count : ℕ → ℕ). IsClosed (guide_of a) (automaton_of shelf a) (Below count)) (sym (fun_ext states-same)) auto.closed);
      stable = subst (λ (A : Automaton ℕ). IsStable (guide_of a) A) (sym automaton-same) auto.stable;
    }

    IsMerged-merged : IsMerged after merged
    IsMerged-merged = record {
      each = λ s part at.
          let is = (are.each s part at).merged in
          record {
            height = is.height;
            rows = AreClasses-like (HaveEqualRows shelf a s) (HaveEqualRows after merged s)
                (λ l m same r. root-same s l r ∙ same r ∙ sym (root-same s m r))
                (λ l m same r. sym (root-same s l r) ∙ same r ∙ root-same s m r) is.height part.rows is.rows;
            columns = AreClasses-like (HaveEqualColumns shelf a s) (HaveEqualColumns after merged s)
                (λ r q same l. root-same s l r ∙ same l ∙ sym (root-same s l q))
                (λ r q same l. sym (root-same s l r) ∙ same l ∙ root-same s l q) part.width part.columns is.columns;
            cells = is.cells;
          };
    }

    -- the same nodes are under the roots
    top-same : (r : NodeRef) → top_of after r ≡ top_of shelf r
    top-same r = ap (λ (nodes : List Node). first_track nodes (node_of r)) (adds.nodes).nodes

    place-of : (shelf : Contents) (v : AutoView) (s l r : ℕ) (root : NodeRef) → root_at shelf v s l r ≡ Some root →
        (place : ℕ) × (place_of v s l r ≡ Some place) × (root_of shelf v.table place ≡ Some root)
    unfolding root_at
    place-of shelf v s l r root at = and_then-some (root_of shelf v.table) (place_of v s l r) root at

    root-used : (shelf : Contents) (v : AutoView) (place : ℕ) (root : NodeRef) → root_of shelf v.table place ≡ Some root → (usage : IsUsed v place) →
        root_at shelf v usage.space usage.left usage.right ≡ Some root
    unfolding root_at
    root-used shelf v place root at usage = ap (option_and_then (root_of shelf v.table)) usage.there ∙ at

    node-before : (r : NodeRef) → IsNodeOf after table r → IsNodeOf shelf a.table r
    node-before r node =
        let usage = used-merged node.place (some-there (root_of after table node.place) node.root node.registered) in
        let at = sym (root-same usage.space usage.left usage.right) ∙ root-used after merged node.place node.root node.registered usage in
        let place = place-of shelf a usage.space usage.left usage.right node.root at in
        record {
          track = node.track;
          inner = sym (top-same r) ∙ node.inner;
          place = place.0;
          root = node.root;
          registered = place.2;
          reached = subst (λ (nodes : List Node). Reaches nodes node.root r) (adds.nodes).nodes node.reached;
        }

    node-after : (r : NodeRef) → IsNodeOf shelf a.table r → IsNodeOf after table r
    node-after r node =
        let usage = auto.used node.place (some-there (root_of shelf a.table node.place) node.root node.registered) in
        let at = root-same usage.space usage.left usage.right ∙ root-used shelf a node.place node.root node.registered usage in
        let place = place-of after merged usage.space usage.left usage.right node.root at in
        record {
          track = node.track;
          inner = top-same r ∙ node.inner;
          place = place.0;
          root = node.root;
          registered = place.2;
          reached = subst (λ (nodes : List Node). Reaches nodes node.root r) (sym (adds.nodes).nodes) node.reached;
        }

    same-nodes : (r : NodeRef) → IsNodeOf after table r ↔ IsNodeOf shelf a.table r
    same-nodes r = (node-before r, node-after r)

-- the automaton that has these parts
module _ (shelf : Contents) (a : AutoView) (whole : IsWhole a) (parts : List Part) (roots : List NodeRef)
    (are : ArePartsOf shelf a roots parts) (many : length parts ≡ length a.parts) (accepting : List Bool) (same_accepting : accepting ≡ a.accepting)
    (table : ℕ) (m : AutoView) (is : m ≡ record { table = table; parts = parts; accepting = accepting }) (after : Contents)
    (adds : AddsTable shelf after m.table roots) (auto : IsAuto (guide_of a) shelf a) where
  view-is : record { table = m.table; parts = parts; accepting = accepting } ≡ m
  view-is = ap (λ (n : ℕ). let v : AutoView = record { table = n; parts = parts; accepting = accepting } in v) (ap (λ (v : AutoView). v.table) is) ∙ sym is

  pub IsAuto-made : (g : Spaces) → IsAuto g shelf a → IsAuto g after m
  IsAuto-made g is_auto = subst (λ (h : Spaces). IsAuto h after m) is_auto.over (subst (IsAuto (guide_of a) after) view-is
      (IsAuto-merged shelf a whole parts roots are many accepting same_accepting m.table after adds auto))

  pub automaton-made : automaton_of after m ≡ automaton_of shelf a
  automaton-made = subst (λ (v : AutoView). automaton_of after v ≡ automaton_of shelf a) view-is
      (automaton-same shelf a whole parts roots are many accepting same_accepting m.table after adds auto)

  pub states-made : (s : ℕ) → states_of m s ≡ states_of a s
  states-made = subst (λ (v : AutoView). (s : ℕ) → states_of v s ≡ states_of a s) view-is
      (states-same shelf a whole parts roots are many accepting same_accepting m.table)

  pub roots-made : (s l r : ℕ) → root_at after m s l r ≡ root_at shelf a s l r
  roots-made = subst (λ (v : AutoView). (s l r : ℕ) → root_at after v s l r ≡ root_at shelf a s l r) view-is
      (root-same shelf a whole parts roots are many accepting same_accepting m.table after adds auto)

  pub nodes-made : (r : NodeRef) → IsNodeOf after m.table r ↔ IsNodeOf shelf a.table r
  nodes-made = same-nodes shelf a whole parts roots are many accepting same_accepting m.table after adds auto

  pub IsMerged-made : IsMerged after m
  IsMerged-made = subst (IsMerged after) view-is
      (IsMerged-merged shelf a whole parts roots are many accepting same_accepting m.table after adds auto)
