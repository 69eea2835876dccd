-- A tree that is made from the root down.
use Rattle.std.proofs.Common.{◌≡◌, ◌≢◌, ℕ, suc, ◌+◌, ◌<◌, ◌≤◌, cond, eqb, inl, inr, List, [], ◌∷◌, ◌++◌, length, flat_map, sum_by, slice_get, option_map}
use Rattle.std.proofs.Common.{option_to_list, Option, Some, None, refl, sym, ap, ◌∙◌, subst, arith, ne_eqb, length-append}
use Rattle.std.proofs.lemmas.Bool.{cases_lt}
use Rattle.std.proofs.lemmas.List.{length_push}
use Rattle.std.proofs.lemmas.List.Sums.{sum_by-append}
use Rattle.std.proofs.lemmas.Grind.{flat_map-append}
use Rattle.std.proofs.lemmas.Option.{slice_get_within}
use Rattle.gta_theory.proofs.ListedLemmas.{slice_get-front, slice_get-last, slice_get-push}
use Rattle.ws2s_core.specs.declared.track.Track.{Track}
use Rattle.ws2s_core.specs.declared.label_tree.TreeNode.{TreeNode}
use Rattle.ws2s_core.specs.LabelTrees.{children_of, times_named}
use Rattle.ws2s_theory.proofs.JoiningLemmas.{hits, times-cons, hits-same}
use Rattle.store_core.specs.Tables.{TypeEntry, VarEntry}
use Rattle.store_core.specs.Stores.{StoreMap}
use Rattle.tree_store.specs.declared.rows.Rows.{Rows}
use Rattle.tree_store.specs.declared.spots.Spot.{Spot}
use Rattle.tree_store.specs.declared.spots.Spot.TheVariants.{Slot}
use Rattle.tree_store.specs.Spots.{spot_below, spot_after, SpotHasTrack, Adds}
use Rattle.tree_store.specs.Growing.{LinksTo, IsNodeAt, IsGrown}

-- ---- how often a place is named

times-append : (xs ys : List TreeNode) (k : ℕ) → times_named (xs ++ ys) k ≡ times_named xs k + times_named ys k
times-append xs ys k =
    ap (sum_by (λ child. cond (eqb child k) 1 0)) (flat_map-append children_of xs ys)
    ∙ sum_by-append (λ child. cond (eqb child k) 1 0) (flat_map children_of xs) (flat_map children_of ys)

pub times-push : (nodes : List TreeNode) (node : TreeNode) (k : ℕ) →
    times_named (nodes ++ node ∷ []) k ≡ times_named nodes k + (hits node.left k + hits node.right k)
times-push nodes node k =
    let one = times-cons node [] k in
    let all = times-append nodes (node ∷ []) k in
    omega (arith, one, all)

hits-other : (j k : ℕ) → j ≢ k → hits (Some j) k ≡ 0
hits-other j k other = ap (λ b. cond b 1 0) (ne_eqb j k other)

-- ---- spots that are put behind the others

slice_get-later : {X : Type 0} (xs ys : List X) (k : ℕ) → slice_get (xs ++ ys) (length xs + k) ≡ slice_get ys k
slice_get-later [] ys k = let e : 0 + k ≡ k = omega arith in ap (slice_get ys) e
slice_get-later (x ∷ xs) ys k =
    let e : suc (length xs) + k ≡ suc (length xs + k) = omega arith in ap (slice_get (x ∷ xs ++ ys)) e ∙ slice_get-later xs ys k

-- a link stays where more spots follow
LinksTo-more : (spots more : List Spot) (k : ℕ) (want : Option Spot) (link : Option ℕ) → LinksTo spots k want link → LinksTo (spots ++ more) k want link
LinksTo-more spots more k None None links = tt
LinksTo-more spots more k None (Some m) links = absurd links
LinksTo-more spots more k (Some spot) None links = absurd links
LinksTo-more spots more k (Some spot) (Some m) links = (links.0, slice_get-front spots more m (slice_get_within spots m spot links.1) ∙ links.1)

-- the place of the spot that was put behind the others
LinksTo-new : (spots : List Spot) (k : ℕ) (want : Option Spot) → k < length spots →
    LinksTo (spots ++ option_to_list want) k want (option_map (λ (spot : Spot). length spots) want)
LinksTo-new spots k None inside = tt
LinksTo-new spots k (Some spot) inside = (inside, slice_get-last spots spot)

hits-new : (spots : List Spot) (want : Option Spot) (m : ℕ) → m < length spots → hits (option_map (λ (spot : Spot). length spots) want) m ≡ 0
hits-new spots None m inside = refl
hits-new spots (Some spot) m inside = hits-other (length spots) m (λ e. omega (arith, e))

-- the place is named exactly where a spot was put there
hits-there : (spots : List Spot) (want : Option Spot) (m : ℕ) → length spots ≤ m → m < length (spots ++ option_to_list want) →
    hits (option_map (λ (spot : Spot). length spots) want) m ≡ 1
hits-there spots None m past inside =
    let long : length (spots ++ []) ≡ length spots + 0 = length-append spots [] in
    absurd (omega (arith, long))
hits-there spots (Some spot) m past inside =
    let long : length (spots ++ spot ∷ []) ≡ length spots + 1 = length_push spots spot in
    hits-same (length spots) m (omega (arith, long))

hits-past : (spots : List Spot) (want : Option Spot) (m : ℕ) → length (spots ++ option_to_list want) ≤ m →
    hits (option_map (λ (spot : Spot). length spots) want) m ≡ 0
hits-past spots None m past = refl
hits-past spots (Some spot) m past =
    let long : length (spots ++ spot ∷ []) ≡ length spots + 1 = length_push spots spot in
    hits-other (length spots) m (λ e. omega (arith, e, long))

-- ---- one node more

module _ (types : List TypeEntry) (vars : List VarEntry) (s : StoreMap) (rows : Rows) where
  IsNodeAt-more : (spots more : List Spot) (k : ℕ) (node : TreeNode) → IsNodeAt types vars s rows spots k node →
      IsNodeAt types vars s rows (spots ++ more) k node
  IsNodeAt-more spots more k node is = record {
    spot = is.spot;
    here = slice_get-front spots more k (slice_get_within spots k is.spot is.here) ∙ is.here;
    label = is.label;
    left = LinksTo-more spots more k (spot_below rows s is.spot) node.left is.left;
    right = LinksTo-more spots more k (spot_after rows s is.spot) node.right is.right;
  }

  pub IsGrown-none : (spots : List Spot) → spots ≡ Slot 0 ∷ [] → IsGrown types vars s rows spots []
  IsGrown-none spots is = subst (λ xs. IsGrown types vars s rows xs []) (sym is) (record {
    few = omega arith;
    made = omega arith;
    first = refl;
    each = λ k node at. absurd (let none : None ≡ Some node = at in cc);
    once = λ m inside. absurd (omega arith);
    no_more = λ m past. refl;
  })

  -- a spot's node, and the spots at its children behind the others
  pub IsGrown-more : (spots mid new : List Spot) (nodes more : List TreeNode) (spot : Spot) (tracks : List Track) (left right : Option ℕ) →
      IsGrown types vars s rows spots nodes → slice_get spots (length nodes) ≡ Some spot → Adds (SpotHasTrack types vars s spot) [] tracks →
      mid ≡ spots ++ option_to_list (spot_below rows s spot) → left ≡ option_map (λ (x : Spot). length spots) (spot_below rows s spot) →
      new ≡ mid ++ option_to_list (spot_after rows s spot) → right ≡ option_map (λ (x : Spot). length mid) (spot_after rows s spot) →
      length new < 4294967295 → more ≡ nodes ++ record { tracks = tracks; left = left; right = right } ∷ [] → IsGrown types vars s rows new more
  IsGrown-more spots mid new nodes more spot tracks left right old here label mid_is left_is new_is right_is few more_is =
      subst (λ ns. IsGrown types vars s rows new ns) (sym more_is) (record {
        few = few;
        made = made;
        first = in_new 0 (Slot 0) old.first;
        each = each;
        once = once;
        no_more = no_more;
      })
    where
      node : TreeNode
      node = record { tracks = tracks; left = left; right = right }

      inside : length nodes < length spots
      inside = slice_get_within spots (length nodes) spot here

      to_mid : length spots ≤ length mid
      to_mid =
          let long : length mid ≡ length spots + length (option_to_list (spot_below rows s spot)) =
          ap (λ (xs : List Spot). length xs) mid_is ∙ length-append spots (option_to_list (spot_below rows s spot)) in
          omega (arith, long)

      to_new : length mid ≤ length new
      to_new =
          let long : length new ≡ length mid + length (option_to_list (spot_after rows s spot)) =
          ap (λ (xs : List Spot). length xs) new_is ∙ length-append mid (option_to_list (spot_after rows s spot)) in
          omega (arith, long)

      made : length (nodes ++ node ∷ []) ≤ length new
      made = omega (arith, length_push nodes node, inside, to_mid, to_new)

      in_new : (k : ℕ) (x : Spot) → slice_get spots k ≡ Some x → slice_get new k ≡ Some x
      in_new k x at =
          let in_mid : slice_get mid k ≡ Some x =
          ap (λ (xs : List Spot). slice_get xs k) mid_is ∙ slice_get-front spots (option_to_list (spot_below rows s spot)) k (slice_get_within spots
          k x at) ∙ at in
          ap (λ (xs : List Spot). slice_get xs k) new_is
          ∙ slice_get-front mid (option_to_list (spot_after rows s spot)) k (slice_get_within mid k x in_mid) ∙ in_mid

      own : IsNodeAt types vars s rows new (length nodes) node
      own = record {
        spot = spot;
        here = in_new (length nodes) spot here;
        label = label;
        left = subst (λ (xs : List Spot). LinksTo xs (length nodes) (spot_below rows s spot) left) (sym new_is)
            (LinksTo-more mid (option_to_list (spot_after rows s spot)) (length nodes) (spot_below rows s spot) left
            (subst (λ (o : Option ℕ). LinksTo mid (length nodes) (spot_below rows s spot) o) (sym left_is)
            (subst (λ (xs : List Spot). LinksTo xs (length nodes) (spot_below rows s spot) (option_map (λ (x : Spot). length spots) (spot_below rows
            s spot))) (sym mid_is)
            (LinksTo-new spots (length nodes) (spot_below rows s spot) inside))));
        right = subst (λ (o : Option ℕ). LinksTo new (length nodes) (spot_after rows s spot) o) (sym right_is)
            (subst (λ (xs : List Spot). LinksTo xs (length nodes) (spot_after rows s spot) (option_map (λ (x : Spot). length mid) (spot_after rows s
            spot))) (sym new_is)
            (LinksTo-new mid (length nodes) (spot_after rows s spot) (omega (arith, inside, to_mid))));
      }

      each : (k : ℕ) (other : TreeNode) → slice_get (nodes ++ node ∷ []) k ≡ Some other → IsNodeAt types vars s rows new k other
      each k other at = elim (slice_get-push nodes node other k at) as (λ _. IsNodeAt types vars s rows new k other) [
        | inl before ↦
            subst (λ (xs : List Spot). IsNodeAt types vars s rows xs k other) (sym new_is)
            (IsNodeAt-more mid (option_to_list (spot_after rows s spot)) k other
            (subst (λ (xs : List Spot). IsNodeAt types vars s rows xs k other) (sym mid_is)
            (IsNodeAt-more spots (option_to_list (spot_below rows s spot)) k other (old.each k other before))))
        | inr end ↦
            subst (λ m. IsNodeAt types vars s rows new m other) (sym end.0) (subst (λ n. IsNodeAt types vars s rows new (length nodes) n) end.1 own)
      ]

      -- how often the two links name a place
      left_below : (m : ℕ) → m < length spots → hits left m ≡ 0
      left_below m below = ap (λ o. hits o m) left_is ∙ hits-new spots (spot_below rows s spot) m below

      left_there : (m : ℕ) → length spots ≤ m → m < length mid → hits left m ≡ 1
      left_there m past below =
          ap (λ o. hits o m) left_is
          ∙ hits-there spots (spot_below rows s spot) m past (subst (λ (xs : List Spot). m < length xs) mid_is below)

      left_past : (m : ℕ) → length mid ≤ m → hits left m ≡ 0
      left_past m past = ap (λ o. hits o m) left_is ∙ hits-past spots (spot_below rows s spot) m (subst (λ (xs : List Spot). length xs ≤ m) mid_is past)

      right_below : (m : ℕ) → m < length mid → hits right m ≡ 0
      right_below m below = ap (λ o. hits o m) right_is ∙ hits-new mid (spot_after rows s spot) m below

      right_there : (m : ℕ) → length mid ≤ m → m < length new → hits right m ≡ 1
      right_there m past below =
          ap (λ o. hits o m) right_is
          ∙ hits-there mid (spot_after rows s spot) m past (subst (λ (xs : List Spot). m < length xs) new_is below)

      right_past : (m : ℕ) → length new ≤ m → hits right m ≡ 0
      right_past m past = ap (λ o. hits o m) right_is ∙ hits-past mid (spot_after rows s spot) m (subst (λ (xs : List Spot). length xs ≤ m) new_is past)

      once : (m : ℕ) → m + 1 < length new → times_named (nodes ++ node ∷ []) (m + 1) ≡ 1
      once m below =
          let all = times-push nodes node (m + 1) in
          elim (cases_lt (m + 1) (length spots)) as (λ _. times_named (nodes ++ node ∷ []) (m + 1) ≡ 1) [
            | inl early ↦ omega (arith, all, old.once m early, left_below (m + 1) early, right_below (m + 1) (omega (arith, early, to_mid)))
            | inr late ↦ elim (cases_lt (m + 1) (length mid)) as (λ _. times_named (nodes ++ node ∷ []) (m + 1) ≡ 1) [
              | inl first ↦ omega (arith, all, old.no_more (m + 1) late, left_there (m + 1) late first, right_below (m + 1) first)
              | inr second ↦ omega (arith, all, old.no_more (m + 1) late, left_past (m + 1) second, right_there (m + 1) second below)
            ]
          ]

      no_more : (m : ℕ) → length new ≤ m → times_named (nodes ++ node ∷ []) m ≡ 0
      no_more m past =
          omega (
            arith,
            times-push nodes node m,
            old.no_more m (omega (arith, past, to_mid, to_new)),
            left_past m (omega (arith, past, to_new)),
            right_past m past,
          )
