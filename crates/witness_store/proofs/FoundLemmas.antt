-- What is found at the nodes in preorder are the cells of the tree.
use Rattle.std.proofs.Common.{◌≡◌, ℕ, zero, suc, ◌+◌, ◌<◌, true, eqb, nat_lt, take, IsTrue, List, [], ◌∷◌, ◌++◌, length, map, slice_get, Option, Some, None}
use Rattle.std.proofs.Common.{IsSomeAnd, refl, sym, ap, ◌∙◌, subst, arith, eqb-true, eq-eqb}
use Rattle.std.specs.Option.{option_map_or, option_and_then}
use Rattle.std.proofs.lemmas.Bool.{ltb-true}
use Rattle.std.proofs.lemmas.List.{length-map}
use Rattle.std.proofs.lemmas.List.Folds.{Any-from_list_any, list_any-from_Any}
use Rattle.std.proofs.lemmas.Option.{slice_get_within, slice_get-get_or, same_Some}
use Rattle.store_core.proofs.FittingLemmas.{IsSomeAnd-at}
use Rattle.gta_theory.specs.Assignments.{Position, Assignment}
use Rattle.ws2s_core.specs.declared.track.Track.{Track}
use Rattle.ws2s_core.specs.declared.label_tree.TreeNode.{TreeNode}
use Rattle.ws2s_core.specs.LabelTrees.{IsTree, assignment_of}
use Rattle.ws2s_theory.specs.Trees.{StandsAt, label_of}
use Rattle.store_core.specs.declared.ids.VariantId.{VariantId}
use Rattle.store_core.specs.Tables.{TypeEntry, VarEntry, KnowsVariant, variant_count}
use Rattle.tree_encode.specs.Tracks.{variants_from, variant_track, track_at}
use Rattle.tree_encode.specs.Counting.{variants_in}
use Rattle.tree_encode.proofs.TracksLemmas.{and_then-some, cond-some}
use Rattle.tree_store.specs.Shapes.{IsCellOf, LaysOut}
use Rattle.tree_store.proofs.MarksLemmas.{one-variant}
use Rattle.tree_store.specs.Preorder.{ComesBefore}
use Rattle.tree_store.specs.Decoded.{Standing, AreCells}
use Rattle.tree_store.proofs.CellsLemmas.{one_place}
use Rattle.tree_store.proofs.ExistenceLemmas.{variant-listed}
use Rattle.witness_store.specs.declared.cells.Found.{Found}
use Rattle.witness_store.specs.Orders.{preorder_of}
use Rattle.witness_store.specs.Finding.{variant_on, variant_in, found_among, IsFoundAs, AreFoundAs, AreFound, FindsCells, AreInside}
use Rattle.witness_store.proofs.ListsLemmas.{present, mapped-at, few-numbers}
use Rattle.witness_store.proofs.NamedLemmas.{one-position}
use Rattle.witness_store.proofs.NodesLemmas.{Node, node, places_of, nodes_in, places-in, stands-in, order-in, all-in}
use Rattle.witness_store.proofs.ReadingLemmas.{inside, tracks-at, node-on}
use Rattle.witness_store.proofs.VariantsLemmas.{listed-track}

-- ---- lists that are found one by one

AreFoundAs-none : (nodes : List TreeNode) → AreFoundAs nodes [] []
AreFoundAs-none nodes = record { count = refl; each = λ i f x at also. absurd (cc) }

AreFoundAs-first : (nodes : List TreeNode) (f : Found) (x : Standing) (found : List Found) (cells : List Standing) → IsFoundAs nodes f x →
    AreFoundAs nodes found cells → AreFoundAs nodes (f ∷ found) (x ∷ cells)
AreFoundAs-first nodes f x found cells here rest = record { count = ap (λ n. suc n) rest.count; each = by }
  where
    by : (i : ℕ) (g : Found) (y : Standing) → slice_get (f ∷ found) i ≡ Some g → slice_get (x ∷ cells) i ≡ Some y → IsFoundAs nodes g y
    by zero g y at also = subst (λ h. IsFoundAs nodes h y) (same_Some f g at) (subst (IsFoundAs nodes f) (same_Some x y also) here)
    by (suc i) g y at also = rest.each i g y at also

-- ---- the cells among nodes

module _ (variant : ℕ → Option VariantId) where
  cell_or : Option VariantId → Position → List Standing → List Standing
  cell_or o p cells = option_map_or (λ v. record { variant = v; at = p } ∷ cells) o cells

  found_or : Option VariantId → ℕ → List Found → List Found
  found_or o k found = option_map_or (λ v. record { node = k; variant = v } ∷ found) o found

  cells_among : List Node → List Standing
  cells_among [] = []
  cells_among (x ∷ xs) = cell_or (variant x.place) x.at (cells_among xs)

  found-one : (nodes : List TreeNode) (xs : List Node) → ((i : ℕ) (x : Node) → slice_get xs i ≡ Some x → StandsAt nodes x.place x.at) →
      AreFoundAs nodes (found_among variant (places_of xs)) (cells_among xs)
  unfolding cells_among cell_or
  found-one nodes [] stands = AreFoundAs-none nodes
  found-one nodes (x ∷ xs) stands = by (found-one nodes xs (λ i y at. stands (suc i) y at)) (stands 0 x refl) (variant x.place)
    where
      by : AreFoundAs nodes (found_among variant (places_of xs)) (cells_among xs) → StandsAt nodes x.place x.at → (o : Option VariantId) →
          AreFoundAs nodes (option_map_or (λ v. record { node = x.place; variant = v } ∷ found_among variant (places_of xs)) o
          (found_among variant (places_of xs)))
          (option_map_or (λ v. record { variant = v; at = x.at } ∷ cells_among xs) o (cells_among xs))
      by rest here None = rest
      by rest here (Some v) = AreFoundAs-first nodes _ _ _ _ (record { variant = refl; node = here }) rest

  -- a cell comes from a node
  record IsAmong (xs : List Node) (y : Standing) : Type 0 where
    place : ℕ
    from : Node
    at : slice_get xs place ≡ Some from
    variant_is : variant from.place ≡ Some y.variant
    position : from.at ≡ y.at

  later_among : (x : Node) (xs : List Node) (y : Standing) → IsAmong xs y → IsAmong (x ∷ xs) y
  later_among x xs y h = record { place = suc h.place; from = h.from; at = h.at; variant_is = h.variant_is; position = h.position }

  among : (xs : List Node) (i : ℕ) (y : Standing) → slice_get (cells_among xs) i ≡ Some y → IsAmong xs y
  unfolding cells_among cell_or
  among [] i y at = absurd (cc)
  among (x ∷ xs) i y at = by (λ j e. among xs j y e) (variant x.place) refl i at
    where
      by : ((j : ℕ) → slice_get (cells_among xs) j ≡ Some y → IsAmong xs y) → (o : Option VariantId) → variant x.place ≡ o → (i : ℕ) →
          slice_get (option_map_or (λ v. record { variant = v; at = x.at } ∷ cells_among xs) o (cells_among xs)) i ≡ Some y → IsAmong (x ∷ xs) y
      by rest None is i at = later_among x xs y (rest i at)
      by rest (Some v) is zero at =
          let same = same_Some (record { variant = v; at = x.at }) y at in
          record { place = 0; from = x; at = refl; variant_is = is ∙ ap (λ (z : Standing). Some z.variant) same; position = ap (λ (z : Standing). z.at) same }
      by rest (Some v) is (suc i) at = later_among x xs y (rest i at)

  -- and each node with a variant gives one
  all-among : (xs : List Node) (k : ℕ) (x : Node) (v : VariantId) → slice_get xs k ≡ Some x → variant x.place ≡ Some v →
      (i : ℕ) × (slice_get (cells_among xs) i ≡ Some (record { variant = v; at = x.at }))
  unfolding cells_among cell_or
  all-among [] k x v at is = absurd (cc)
  all-among (y ∷ xs) zero x v at is =
      let same = same_Some y x at in (
        0,
        ap (λ o. slice_get (cell_or o y.at (cells_among xs)) 0) (ap (λ (z : Node). variant z.place) same ∙ is)
            ∙ ap (λ (z : Node). Some (record { variant = v; at = z.at })) same,
      )
  all-among (y ∷ xs) (suc k) x v at is = by (all-among xs k x v at is) (variant y.place)
    where
      by : (i : ℕ) × (slice_get (cells_among xs) i ≡ Some (record { variant = v; at = x.at })) → (o : Option VariantId) →
          (i : ℕ) × (slice_get (option_map_or (λ w. record { variant = w; at = y.at } ∷ cells_among xs) o (cells_among xs)) i ≡ Some
          (record { variant = v; at = x.at }))
      by rest None = rest
      by rest (Some w) = (suc rest.0, rest.1)

  order-among : (xs : List Node) →
      ((i j : ℕ) (x y : Node) → i < j → slice_get xs i ≡ Some x → slice_get xs j ≡ Some y → ComesBefore x.at y.at) →
      (i j : ℕ) (x y : Standing) → i < j → slice_get (cells_among xs) i ≡ Some x → slice_get (cells_among xs) j ≡ Some y → ComesBefore x.at y.at
  unfolding cells_among cell_or
  order-among [] order i j x y less at also = absurd (cc)
  order-among (z ∷ zs) order i j x y less at also =
      by (λ m n one other. order-among zs (λ a b u w l. order (suc a) (suc b) u w (omega arith)) m n x y one other) (variant z.place) i j less at also
    where
      by : ((m n : ℕ) → m < n → slice_get (cells_among zs) m ≡ Some x → slice_get (cells_among zs) n ≡ Some y → ComesBefore x.at y.at) →
          (o : Option VariantId) (i j : ℕ) → i < j →
          slice_get (option_map_or (λ v. record { variant = v; at = z.at } ∷ cells_among zs) o (cells_among zs)) i ≡ Some x →
          slice_get (option_map_or (λ v. record { variant = v; at = z.at } ∷ cells_among zs) o (cells_among zs)) j ≡ Some y → ComesBefore x.at y.at
      by rest None i j less at also = rest i j less at also
      by rest (Some v) zero zero less at also = absurd (omega arith)
      by rest (Some v) zero (suc j) less at also =
          let h = among zs j y also in
          subst (λ p. ComesBefore p y.at) (ap (λ (u : Standing). u.at) (same_Some (record { variant = v; at = z.at }) x at))
          (subst (ComesBefore z.at) h.position (order 0 (suc h.place) z h.from (omega arith) refl h.at))
      by rest (Some v) (suc i) zero less at also = absurd (omega arith)
      by rest (Some v) (suc i) (suc j) less at also = rest i j (omega arith) at also

-- one place more
pub found-more : (variant : ℕ → Option VariantId) (places : List ℕ) (k : ℕ) →
    found_among variant (places ++ k ∷ []) ≡ found_among variant places ++ option_map_or (λ v. record { node = k; variant = v } ∷ []) (variant k) []
found-more variant [] k = refl
found-more variant (j ∷ places) k =
    ap (λ l. option_map_or (λ v. record { node = j; variant = v } ∷ l) (variant j) l) (found-more variant places k) ∙ by (variant j)
  where
    by : (o : Option VariantId) →
        option_map_or (λ v. record { node = j; variant = v } ∷
        (found_among variant places ++ option_map_or (λ w. record { node = k; variant = w } ∷ []) (variant k) [])) o
        (found_among variant places ++ option_map_or (λ w. record { node = k; variant = w } ∷ []) (variant k) [])
        ≡ option_map_or (λ v. record { node = j; variant = v } ∷ found_among variant places) o (found_among variant places)
        ++ option_map_or (λ w. record { node = k; variant = w } ∷ []) (variant k) []
    by None = refl
    by (Some v) = refl

-- ---- the variant of a node

-- the first of the tracks that is a variant's is one of them
record IsOnTrack (variants : List VariantId) (tracks : List Track) (v : VariantId) : Type 0 where
  track : ℕ
  on : label_of tracks track ≡ true
  variant_is : slice_get variants track ≡ Some v

labelled : (tracks : List Track) (k : ℕ) (t : Track) → slice_get tracks k ≡ Some t → label_of tracks t.0 ≡ true
labelled [] k t at = absurd (cc)
labelled (u ∷ tracks) zero t at =
    let same : u.0 ≡ t.0 = ap (λ (w : Track). w.0) (same_Some u t at) in
    list_any-from_Any (λ (track : Track). eqb track.0 t.0) (u ∷ tracks) (0, u, omega arith, refl, eq-eqb u.0 t.0 same)
labelled (u ∷ tracks) (suc k) t at =
    let (i, x, within, is, test) = Any-from_list_any (λ (track : Track). eqb track.0 t.0) tracks (labelled tracks k t at) in
    list_any-from_Any (λ (track : Track). eqb track.0 t.0) (u ∷ tracks) (suc i, x, omega arith, is, test)

labelled_by : (tracks : List Track) (n : ℕ) → label_of tracks n ≡ true → (k : ℕ) × (t : Track) × (slice_get tracks k ≡ Some t) × (t.0 ≡ n)
labelled_by tracks n on =
    let (i, x, within, is, test) = Any-from_list_any (λ (track : Track). eqb track.0 n) tracks on in
    (i, x, slice_get-get_or tracks i x within ∙ ap (λ t. Some t) is, eqb-true x.0 n test)

on-later : (variants : List VariantId) (t : Track) (tracks : List Track) (v : VariantId) → IsOnTrack variants tracks v → IsOnTrack variants (t ∷ tracks) v
on-later variants t tracks v h =
    let (k, u, at, same) = labelled_by tracks h.track h.on in
    record { track = h.track; on = subst (λ n. label_of (t ∷ tracks) n ≡ true) same (labelled (t ∷ tracks) (suc k) u at); variant_is = h.variant_is }

on-track : (variants : List VariantId) (tracks : List Track) (v : VariantId) → variant_on variants tracks ≡ Some v → IsOnTrack variants tracks v
on-track variants [] v is = absurd (cc)
on-track variants (t ∷ tracks) v is = by (λ e. on-track variants tracks v e) (slice_get variants t.0) refl is
  where
    by : (variant_on variants tracks ≡ Some v → IsOnTrack variants tracks v) → (o : Option VariantId) → slice_get variants t.0 ≡ o →
        option_map_or (λ w. Some w) o (variant_on variants tracks) ≡ Some v → IsOnTrack variants (t ∷ tracks) v
    by rest None at is = on-later variants t tracks v (rest is)
    by rest (Some w) at is = record { track = t.0; on = labelled (t ∷ tracks) 0 t refl; variant_is = at ∙ is }

-- where there is one, one is found
on-some : (variants : List VariantId) (tracks : List Track) (k : ℕ) (t : Track) (v : VariantId) → slice_get tracks k ≡ Some t → slice_get variants t.0 ≡
    Some v →
    (w : VariantId) × (variant_on variants tracks ≡ Some w)
on-some variants [] k t v at is = absurd (cc)
on-some variants (u ∷ tracks) zero t v at is =
    (v, ap (λ o. option_map_or (λ w. Some w) o (variant_on variants tracks)) (ap (λ (w : Track). slice_get variants w.0) (same_Some u t at) ∙ is))
on-some variants (u ∷ tracks) (suc k) t v at is = by (on-some variants tracks k t v at is) (slice_get variants u.0)
  where
    by : (w : VariantId) × (variant_on variants tracks ≡ Some w) → (o : Option VariantId) →
        (w : VariantId) × (option_map_or (λ x. Some x) o (variant_on variants tracks) ≡ Some w)
    by rest None = rest
    by rest (Some w) = (w, refl)

-- ---- the cells of a tree

module _ (types : List TypeEntry) (vars : List VarEntry) (nodes : List TreeNode) (tree : IsTree nodes) (lays : LaysOut types vars (assignment_of nodes)) where
  abbrev a : Assignment
  a = assignment_of nodes

  abbrev variants : List VariantId
  variants = variants_from 0 types

  cell-here : (k : ℕ) (p : Position) (v : VariantId) → StandsAt nodes k p → variant_in nodes variants k ≡ Some v → IsCellOf types a v p
  cell-here k p v above is =
      let found = and_then-some (λ (y : TreeNode). variant_on variants y.tracks) (slice_get nodes k) v is in
      let h = on-track variants found.0.tracks v found.2 in
      subst (λ o. IsSomeAnd o (λ t. IsTrue (a t.0 p))) (sym (listed-track types h.track v h.variant_is))
      (tracks-at nodes tree k p found.0 above found.1 h.track ∙ h.on)

  here-cell : (k : ℕ) (p : Position) (v : VariantId) → StandsAt nodes k p → IsCellOf types a v p → variant_in nodes variants k ≡ Some v
  here-cell k p v above is =
      let (t, track, on) = IsSomeAnd-at (variant_track types v) (λ t. IsTrue (a t.0 p)) is in
      let (y, at) = present nodes k (inside nodes tree k p above) in
      let (i, u, there, same) = labelled_by y.tracks t.0 (sym (tracks-at nodes tree k p y above at t.0) ∙ on) in
      let some = on-some variants y.tracks i u v there (ap (slice_get variants) same ∙ variant-listed types v t track) in
      let of : variant_in nodes variants k ≡ Some some.0 = ap (λ o. option_and_then (λ (z : TreeNode). variant_on variants z.tracks) o) at ∙ some.1 in
      of ∙ ap (λ w. Some w) (one-variant types vars a lays some.0 v p (cell-here k p some.0 above of) is)

  cells_here : List Standing
  cells_here = cells_among (variant_in nodes variants) (nodes_in nodes)

  AreCells-here : AreCells types a cells_here
  unfolding cells_here
  AreCells-here = record {
    each = λ i x at.
        let h = among (variant_in nodes variants) (nodes_in nodes) i x at in
        cell-here h.from.place x.at x.variant (subst (StandsAt nodes h.from.place) h.position (stands-in nodes h.place h.from h.at)) h.variant_is;
    all = λ v p is.
        let (t, track, on) = IsSomeAnd-at (variant_track types v) (λ t. IsTrue (a t.0 p)) is in
        let (k, above) = node-on nodes tree t.0 p on in
        let (i, at) = all-in nodes tree k p above in
        all-among (variant_in nodes variants) (nodes_in nodes) i (node k p) v at (here-cell k p v above is);
    in_order = order-among (variant_in nodes variants) (nodes_in nodes) (order-in nodes);
  }

  pub FindsCells-here : (found : List Found) → found ≡ found_among (variant_in nodes variants) (preorder_of nodes) → FindsCells types nodes found
  unfolding cells_here
  FindsCells-here found is = (
    cells_here,
    record {
      cells_are = AreCells-here;
      found_as = subst (λ l. AreFoundAs nodes l cells_here) (ap (found_among (variant_in nodes variants)) (places-in nodes) ∙ sym is)
          (found-one (variant_in nodes variants) nodes (nodes_in nodes) (stands-in nodes));
    },
  )

-- ---- how many they are

module _ (types : List TypeEntry) (nodes : List TreeNode) (tree : IsTree nodes) (found : List Found) (cells : List Standing)
    (are : AreFound types nodes found cells) where
  standing : (i : ℕ) (f : Found) → slice_get found i ≡ Some f → (x : Standing) × (slice_get cells i ≡ Some x) × StandsAt nodes f.node x.at
  standing i f at =
      let within = slice_get_within found i f at in
      let count = are.found_as.count in
      let (x, also) = present cells i (omega arith) in
      (x, also, (are.found_as.each i f x at also).node)

  pub found-apart : (i j : ℕ) (f g : Found) → slice_get found i ≡ Some f → slice_get found j ≡ Some g → f.node ≡ g.node → i ≡ j
  found-apart i j f g at also same =
      let (x, x_at, x_above) = standing i f at in
      let (y, y_at, y_above) = standing j g also in
      one_place types (assignment_of nodes) cells are.cells_are i j x y x_at y_at
      (one-position nodes tree f.node x.at y.at x_above (subst (λ k. StandsAt nodes k y.at) (sym same) y_above))

  pub AreInside-found : AreInside found (length nodes)
  AreInside-found = record {
    few =
        let less = few-numbers (map (λ f. f.node) found) (length nodes)
        (λ i j k at also.
        let (f, f_at, f_is) = mapped-at (λ (f : Found). f.node) found i k at in
        let (g, g_at, g_is) = mapped-at (λ (f : Found). f.node) found j k also in
        found-apart i j f g f_at g_at (f_is ∙ sym g_is))
        (λ i k at.
        let (f, f_at, f_is) = mapped-at (λ (f : Found). f.node) found i k at in
        let (x, x_at, above) = standing i f f_at in
        let within = inside nodes tree f.node x.at above in omega arith) in
        let long = length-map found (λ (f : Found). f.node) in
        let few = tree.few in omega arith;
    inside = λ i f at. let (x, also, above) = standing i f at in inside nodes tree f.node x.at above;
  }

-- ---- the variant of a cell

-- a variant of which a cell stands somewhere is in the table
pub cell-known : (types : List TypeEntry) (a : Assignment) (v : VariantId) (p : Position) → IsCellOf types a v p → KnowsVariant types v
cell-known types a v p is =
    let (t, track, on) = IsSomeAnd-at (variant_track types v) (λ t. IsTrue (a t.0 p)) is in
    let both = cond-some (nat_lt v.index (variant_count types v.ty)) (track_at (variants_in (take v.ty.0 types) + v.index)) t track in
    ltb-true v.index (variant_count types v.ty) both.0
