-- A tree that was made from the root down, turned about.
use Rattle.std.proofs.Common.{◌≡◌, ◌≢◌, ◌↔◌, ℕ, suc, ◌+◌, ◌-◌, ◌<◌, ◌≤◌, IsTrue, true, false, cond, inl, inr, List, [], ◌∷◌, ◌++◌, length, map, reverse}
use Rattle.std.proofs.Common.{slice_get, get_or, Bool, ◌==◌, option_map, Option, Some, None, IfSome, Contains, refl, sym, ap, ◌∙◌, subst, arith, eq-eqb, ne_eqb}
use Rattle.std.specs.List.{list_any}
use Rattle.std.specs.Option.{option_and_then}
use Rattle.std.proofs.lemmas.Bool.{cases_eq, eqb-true}
use Rattle.std.proofs.lemmas.List.Folds.{Any-from_list_any, list_any-from_Any}
use Rattle.gta_theory.proofs.ListsLemmas.{Contains-none}
use Rattle.std.proofs.lemmas.List.{length-map, length-reverse, reverse-append, get_or-reverse, map-append}
use Rattle.std.proofs.lemmas.Option.{slice_get_within, slice_get-map, slice_get-get_or, get_or_from_slice_get}
use Rattle.gta_theory.specs.Assignments.{Position, Assignment}
use Rattle.ws2s_core.specs.declared.track.Track.{Track}
use Rattle.ws2s_core.specs.declared.label_tree.TreeNode.{TreeNode}
use Rattle.ws2s_core.specs.LabelTrees.{IsTree, times_named, assignment_of}
use Rattle.ws2s_theory.specs.Trees.{assignment_at, child_at, last_place}
use Rattle.ws2s_theory.proofs.JoiningLemmas.{hits, times-cons, hits-same}
use Rattle.ws2s_theory.proofs.TreesLemmas.{label-at, left-at, right-at, root-at}
use Rattle.store_core.specs.Tables.{TypeEntry, VarEntry}
use Rattle.store_core.specs.Stores.{StoreMap}
use Rattle.tree_store.specs.declared.rows.Rows.{Rows}
use Rattle.tree_store.specs.declared.spots.Spot.{Spot}
use Rattle.tree_store.specs.declared.spots.Spot.TheVariants.{Slot}
use Rattle.tree_store.specs.Spots.{spot_below, spot_after, spot_at, SpotHasTrack, Adds}
use Rattle.tree_store.specs.Growing.{LinksTo, IsNodeAt, IsGrown, turned_node}
use Rattle.tree_store.proofs.GrowingLemmas.{times-push}
use Rattle.tree_store.proofs.SpotsLemmas.{map-some, present}

-- ---- places in the turned list

module _ (f : TreeNode → TreeNode) (nodes : List TreeNode) where
  pub turned-from : (k : ℕ) (node : TreeNode) → slice_get (map f (reverse nodes)) k ≡ Some node →
      (old : TreeNode) × (k < length nodes) × (slice_get nodes (length nodes - 1 - k) ≡ Some old) × (node ≡ f old)
  turned-from k node at =
      let (old, there, same) = map-some f (slice_get (reverse nodes) k) node (sym (slice_get-map f (reverse nodes) k) ∙ at) in
      let long : length (reverse nodes) ≡ length nodes = length-reverse nodes in
      let inside : k < length nodes = omega (arith, slice_get_within (reverse nodes) k old there, long) in (
        old,
        inside,
        slice_get-get_or nodes (length nodes - 1 - k) old (omega (arith, inside))
            ∙ ap (λ x. Some x) (sym (get_or-reverse nodes k old inside) ∙ get_or_from_slice_get (reverse nodes) k old old there),
        sym same,
      )

  pub turned-at : (i : ℕ) (node : TreeNode) → slice_get nodes i ≡ Some node → slice_get (map f (reverse nodes)) (length nodes - 1 - i) ≡ Some (f node)
  turned-at i node at =
      let inside : i < length nodes = slice_get_within nodes i node at in
      let k = length nodes - 1 - i in
      let below : k < length nodes = omega (arith, inside) in
      let back : length nodes - 1 - k ≡ i = omega (arith, inside) in
      let long : length (reverse nodes) ≡ length nodes = length-reverse nodes in
      slice_get-map f (reverse nodes) k
      ∙ ap (λ o. option_map f o)
      (slice_get-get_or (reverse nodes) k node (omega (arith, below, long))
      ∙ ap (λ x. Some x) (get_or-reverse nodes k node below ∙ ap (λ j. get_or nodes j node) back ∙ get_or_from_slice_get nodes i node node at))

  pub length-turned : length (map f (reverse nodes)) ≡ length nodes
  length-turned = length-map (reverse nodes) f ∙ length-reverse nodes

-- ---- how often places are named

hits-other : (j k : ℕ) → j ≢ k → hits (Some j) k ≡ 0
hits-other j k other = ap (λ b. cond b 1 0) (ne_eqb j k other)

hits-turned : (last k : ℕ) (link : Option ℕ) → IfSome link (λ j. j ≤ last) → k ≤ last → hits (option_map (λ j. last - j) link) k ≡ hits link (last - k)
hits-turned last k None inside below = refl
hits-turned last k (Some j) inside below = elim (cases_eq (last - j) k) as (λ _. hits (Some (last - j)) k ≡ hits (Some j) (last - k)) [
  | inl same ↦ hits-same (last - j) k same ∙ sym (hits-same j (last - k) (omega (arith, same, inside, below)))
  | inr other ↦ hits-other (last - j) k other ∙ sym (hits-other j (last - k) (λ e. other (omega (arith, e, inside, below))))
]

-- all links are within the last place
record AreWithin (last : ℕ) (nodes : List TreeNode) : Type 0 where
  at : (k : ℕ) (node : TreeNode) → slice_get nodes k ≡ Some node → IfSome node.left (λ j. j ≤ last) × IfSome node.right (λ j. j ≤ last)

times-turned : (last k : ℕ) (nodes : List TreeNode) → AreWithin last nodes → k ≤ last →
    times_named (map (turned_node last) (reverse nodes)) k ≡ times_named nodes (last - k)
times-turned last k [] within below = refl
times-turned last k (node ∷ nodes) within below =
    let split : map (turned_node last) (reverse (node ∷ nodes)) ≡ map (turned_node last) (reverse nodes) ++ turned_node last node ∷ [] =
    ap (λ xs. map (turned_node last) xs) (reverse-append (node ∷ []) nodes) ∙ map-append (turned_node last) (reverse nodes) (node ∷ []) in
    let first = within.at 0 node refl in
    let rest = times-turned last k nodes (record { at = λ j other there. within.at (suc j) other there }) below in
    omega (
      arith,
      ap (λ xs. times_named xs k) split,
      times-push (map (turned_node last) (reverse nodes)) (turned_node last node) k,
      rest,
      hits-turned last k node.left first.0 below,
      hits-turned last k node.right first.1 below,
      times-cons node nodes (last - k),
    )

-- ---- what a label has

pub adds-any : (P : Track → Type 0) (tracks : List Track) → Adds P [] tracks → (t : ℕ) →
    IsTrue (list_any (λ track. track.0 == t) tracks) ↔ P (record { 0 = t })
adds-any P tracks adds t = (there, back)
  where
    any-at : (xs : List Track) → list_any (λ track. track.0 == t) xs ≡ true → (x : Track) × Contains xs x × (x.0 ≡ t)
    any-at xs found =
        let (k, x, inside, at, test) = Any-from_list_any (λ (track : Track). track.0 == t) xs found in (x, (k, inside, at), eqb-true x.0 t test)

    there : IsTrue (list_any (λ track. track.0 == t) tracks) → P (record { 0 = t })
    there found =
        let (track, listed, same) = any-at tracks found in
        elim (adds.only track listed) as (λ _. P (record { 0 = t })) [
          | inl none ↦ absurd (Contains-none track none)
          | inr is ↦ (let Q : ℕ → Type 0 = λ n. P (record { 0 = n }) in subst (λ n. Q n) same is)
        ]

    any-of : (xs : List Track) (x : Track) → Contains xs x → x.0 ≡ t → list_any (λ track. track.0 == t) xs ≡ true
    any-of xs x listed same = list_any-from_Any (λ (track : Track). track.0 == t) xs (listed.0, x, listed.1, listed.2, eq-eqb x.0 t same)

    back : P (record { 0 = t }) → IsTrue (list_any (λ track. track.0 == t) tracks)
    back is = any-of tracks (record { 0 = t }) (adds.added (record { 0 = t }) is) refl

-- ---- the tree

module _ (types : List TypeEntry) (vars : List VarEntry) (s : StoreMap) (rows : Rows) (spots : List Spot) (nodes : List TreeNode)
    (grown : IsGrown types vars s rows spots nodes) (whole : length nodes ≡ length spots) where
  abbrev last : ℕ
  last = length nodes - 1

  abbrev turned : List TreeNode
  turned = map (turned_node last) (reverse nodes)

  link-inside : (k : ℕ) (want : Option Spot) (link : Option ℕ) → LinksTo spots k want link → IfSome link (λ m. (k < m) × (m < length nodes))
  link-inside k None None links = tt
  link-inside k None (Some m) links = absurd links
  link-inside k (Some spot) None links = tt
  link-inside k (Some spot) (Some m) links = (links.0, omega (arith, slice_get_within spots m spot links.1, whole))

  link-low : (k : ℕ) (link : Option ℕ) → IfSome link (λ m. (k < m) × (m < length nodes)) → IfSome link (λ j. j ≤ last)
  link-low k None inside = tt
  link-low k (Some m) inside = omega (arith, inside.0, inside.1)

  within : AreWithin last nodes
  within = record {
    at = λ k node there. let is = grown.each k node there in (
      link-low k node.left (link-inside k (spot_below rows s is.spot) node.left is.left),
      link-low k node.right (link-inside k (spot_after rows s is.spot) node.right is.right),
    );
  }

  before-turned : (k : ℕ) (link : Option ℕ) → k < length nodes → IfSome link (λ m. (length nodes - 1 - k < m) × (m < length nodes)) →
      IfSome (option_map (λ j. last - j) link) (λ child. child < k)
  before-turned k None inside before = tt
  before-turned k (Some m) inside before = omega (arith, inside, before.0, before.1)

  pub turned-tree : IsTree turned
  turned-tree = record {
    few = omega (arith, length-turned (turned_node last) nodes, grown.few, whole);
    left_before = λ k node at.
        let (old, inside, there, same) = turned-from (turned_node last) nodes k node at in
        let is = grown.each (length nodes - 1 - k) old there in
        subst (λ (n : TreeNode). IfSome n.left (λ child. child < k)) (sym same)
        (before-turned k old.left inside (link-inside (length nodes - 1 - k) (spot_below rows s is.spot) old.left is.left));
    right_before = λ k node at.
        let (old, inside, there, same) = turned-from (turned_node last) nodes k node at in
        let is = grown.each (length nodes - 1 - k) old there in
        subst (λ (n : TreeNode). IfSome n.right (λ child. child < k)) (sym same)
        (before-turned k old.right inside (link-inside (length nodes - 1 - k) (spot_after rows s is.spot) old.right is.right));
    once = λ k inside.
        let below : k + 1 < length nodes = omega (arith, inside, length-turned (turned_node last) nodes) in
        let place : last - k ≡ (last - k - 1) + 1 = omega (arith, below) in
        times-turned last k nodes within (omega (arith, below)) ∙ ap (λ m. times_named nodes m) place
        ∙ grown.once (last - k - 1) (omega (arith, below, whole));
  }

  -- the spot at the end of the word has the track
  abbrev pub Ends : Option Spot → ℕ → Type 0
  Ends o t = (q : Spot) × (o ≡ Some q) × SpotHasTrack types vars s q (record { 0 = t })

  link-reads : (k : ℕ) (want : Option Spot) (link : Option ℕ) (t : ℕ) (w : Position) → LinksTo spots k want link →
      ((m : ℕ) (spot : Spot) → slice_get spots m ≡ Some spot → IsTrue (assignment_at turned (last - m) t w) ↔ Ends (spot_at rows s spot w) t) →
      IsTrue (child_at turned (option_map (λ j. last - j) link) t w) ↔ Ends (option_and_then (λ next. spot_at rows s next w) want) t
  link-reads k None None t w links reads = (λ no. cc, λ (q, none, has). absurd (let no : None ≡ Some q = none in cc))
  link-reads k None (Some m) t w links reads = absurd links
  link-reads k (Some spot) None t w links reads = absurd links
  link-reads k (Some spot) (Some m) t w links reads = reads m spot links.1

  spot-one : (a b : Spot) → Some a ≡ Some b → a ≡ b
  spot-one a b e = cc

  node-at : (i : ℕ) (spot : Spot) → slice_get spots i ≡ Some spot →
      (node : TreeNode) × (is : IsNodeAt types vars s rows spots i node) × (slice_get turned (last - i) ≡ Some (turned_node last node)) × (is.spot ≡ spot)
  node-at i spot there =
      let (node, at) = present nodes i (omega (arith, slice_get_within spots i spot there, whole)) in
      let is = grown.each i node at in
      (node, is, turned-at (turned_node last) nodes i node at, spot-one is.spot spot (sym is.here ∙ there))

  reads : (w : Position) (i : ℕ) (spot : Spot) (t : ℕ) → slice_get spots i ≡ Some spot →
      IsTrue (assignment_at turned (last - i) t w) ↔ Ends (spot_at rows s spot w) t
  reads [] i spot t there =
      let (node, is, at, same) = node-at i spot there in
      let label : assignment_at turned (last - i) t [] ≡ list_any (λ track. track.0 == t) node.tracks =
      ap (λ (l : ℕ → Bool). l t) (label-at turned (last - i) (turned_node last node) at) in
      let any = adds-any (SpotHasTrack types vars s is.spot) node.tracks is.label t in
      subst (λ (x : Spot). IsTrue (assignment_at turned (last - i) t []) ↔ Ends (spot_at rows s x []) t) same (
        λ there_is. (is.spot, refl, any.0 (sym label ∙ there_is)),
        λ (q, e, has). label ∙ any.1 (subst (λ (x : Spot). SpotHasTrack types vars s x (record { 0 = t })) (sym (spot-one is.spot q e)) has),
      )
  reads (false ∷ w) i spot t there =
      let (node, is, at, same) = node-at i spot there in
      let half_is : assignment_at turned (last - i) t (false ∷ w) ≡ child_at turned (option_map (λ j. last - j) node.left) t w =
      ap (λ (a : Assignment). a t w) (left-at turned (last - i) (turned_node last node) turned-tree at) in
      let below = link-reads i (spot_below rows s is.spot) node.left t w is.left (λ m next found. reads w m next t found) in
      subst (λ (x : Spot). IsTrue (assignment_at turned (last - i) t (false ∷ w)) ↔ Ends (spot_at rows s x (false ∷ w)) t) same
      (λ there_is. below.0 (sym half_is ∙ there_is), λ ends. half_is ∙ below.1 ends)
  reads (true ∷ w) i spot t there =
      let (node, is, at, same) = node-at i spot there in
      let half_is : assignment_at turned (last - i) t (true ∷ w) ≡ child_at turned (option_map (λ j. last - j) node.right) t w =
      ap (λ (a : Assignment). a t w) (right-at turned (last - i) (turned_node last node) turned-tree at) in
      let below = link-reads i (spot_after rows s is.spot) node.right t w is.right (λ m next found. reads w m next t found) in
      subst (λ (x : Spot). IsTrue (assignment_at turned (last - i) t (true ∷ w)) ↔ Ends (spot_at rows s x (true ∷ w)) t) same
      (λ there_is. below.0 (sym half_is ∙ there_is), λ ends. half_is ∙ below.1 ends)

  pub root-reads : (t : ℕ) (w : Position) → IsTrue (assignment_of turned t w) ↔ Ends (spot_at rows s (Slot 0) w) t
  root-reads t w =
      let some : 0 < length nodes = omega (arith, slice_get_within spots 0 (Slot 0) grown.first, whole) in
      let long : length turned ≡ suc last = omega (arith, length-turned (turned_node last) nodes, some) in
      let place : 0 + last ≡ last - 0 = omega arith in
      let is : assignment_of turned t w ≡ assignment_at turned (last - 0) t w =
      ap (λ (a : Assignment). a t w) (root-at turned) ∙ ap (λ n. child_at turned (last_place 0 n) t w) long ∙ ap (λ n. assignment_at turned n t w) place in
      let read = reads w 0 (Slot 0) t grown.first in
      (λ there_is. read.0 (sym is ∙ there_is), λ ends. is ∙ read.1 ends)
