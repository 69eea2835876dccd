-- The formulas of walks mean the pairs of walks, route form by route form.
use Rattle.std.proofs.Common.{◌≡◌, ◌↔◌, ◌⊎◌, inl, inr, ℕ, suc, Bool, true, IsTrue, List, sym, ap, ◌∙◌, subst, arith}
use Rattle.std.proofs.lemmas.Bool.{and_parts, ltb-true}
use Rattle.gta_theory.specs.Assignments.{Position, Assignment}
use Rattle.ws2s_core.specs.declared.formula.Formula.TheVariants.{And}
use Rattle.ws2s_forms.specs.Forms.{or, ex1}
use Rattle.ws2s_forms.specs.Places.{with_position}
use Rattle.store_core.specs.declared.ids.CellId.{CellId}
use Rattle.store_core.specs.declared.kind.FieldKind.{FieldKind}
use Rattle.store_core.specs.declared.kind.Route.{Route, roll-Route}
use Rattle.store_core.specs.declared.kind.Route.TheVariants.{Down, Up, UpAny, Root, Leaf, IsType, IsVariant, IsBool, Then, Or, Star, rolls-Down}
use Rattle.store_core.specs.declared.kind.Route.TheVariants.{rolls-Up, rolls-UpAny, rolls-Root, rolls-Leaf, rolls-IsType, rolls-IsVariant}
use Rattle.store_core.specs.declared.kind.Route.TheVariants.{rolls-IsBool, rolls-Then, rolls-Or, rolls-Star}
use Rattle.store_core.specs.declared.kind.Route.TheOpen.{Route-F}
use Rattle.store_core.specs.declared.kind.Route.TheFolds.{fold-Route, fold-roll-Route, map-Route}
use Rattle.store_core.specs.Tables.{TypeEntry, KnowsRoute, knows_node, variant_count}
use Rattle.store_core.specs.Stores.{StoreMap, IsLive}
use Rattle.routing_walks.specs.Walks.{Fields, DataAlone, LeadsByName, IsParent, IsOfType, IsOfVariant, HasTruth, IsRoot, IsLeaf, Stays, Chain, stay, Walk}
use Rattle.routing_walks.specs.Regions.{has_number}
use Rattle.routing_walks.proofs.LiveLemmas.{Walk-live, Chain-live}
use Rattle.routing_walks.proofs.RouteLemmas.{IsHereditary, route-induction}
use Rattle.routing_walks.proofs.WalkLemmas.{Walk-Down, Walk-Up, Walk-UpAny, Walk-Root, Walk-Leaf, Walk-IsType, Walk-IsVariant, Walk-IsBool, Walk-Then, Walk-Or}
use Rattle.routing_walks.proofs.WalkLemmas.{Walk-Star}
use Rattle.routing_walks.proofs.DecidedWalks.{walk_ends}
use Rattle.routing_walks.proofs.RegionLemmas.{number_in, in_number}
use Rattle.graph_view.specs.Sights.{Sight}
use Rattle.graph_view.specs.Live.{is_live}
use Rattle.graph_view.specs.Routes.{Naming, Joining, names_by_data, edge, star, walk_rules, walk_by}
use Rattle.graph_view.specs.After.{Standing, IsAt}
use Rattle.graph_meaning.specs.Live.Meaning.{MeansPairs}
use Rattle.graph_meaning.specs.Live.Standing.{LiveAt}
use Rattle.graph_meaning.proofs.live.AgreeingLemmas.{Agrees-bound, IsOnly-bound, IsOnly-still, sat-and, sat-or, sat-ex1, sat-three}
use Rattle.graph_meaning.specs.Walks.Walking.{JoinsAt, WalkAt}
use Rattle.graph_meaning.proofs.walks.ListedLemmas.{places_of, on-place, place-on, places-finite}
use Rattle.graph_meaning.proofs.walks.ClosingLemmas.{IsLinked, closing, closing-means}
use Rattle.graph_meaning.proofs.walks.ChainLemmas.{chain-linked, chain-end}
use Rattle.graph_meaning.proofs.walks.GroundLemmas.{MeansNames, IsGround, IsTestOf, down-means, edge-means, root-means, leaf-means, type-means, variant-means}
use Rattle.graph_meaning.proofs.walks.GroundLemmas.{truth-means}

flip : {P Q : Type 0} → P ↔ Q → Q ↔ P
flip h = (h.1, h.0)

module _ (types : List TypeEntry) (sight : Sight) (count : ℕ) (a : Assignment) (s t : StoreMap) (at : Standing)
    (ground : IsGround types sight count a s t at) (fields : Fields) (followed : FieldKind → Bool) (naming : Naming) (test : IsTestOf fields followed)
    (means : MeansNames types t at count a fields naming) (by_data : MeansNames types t at count a DataAlone (names_by_data types sight)) where
  -- what the formula of a route means
  abbrev IsMeant : Joining → Route → Type 0
  IsMeant joins along = MeansPairs count a joins (WalkAt types t at fields along)

  -- relations of cells that are the same join the same positions
  same-pairs : (One Other : CellId → CellId → Type 0) → ((c d : CellId) → One c d ↔ Other c d) → (joins : Joining) →
      MeansPairs count a joins (JoinsAt at One) → MeansPairs count a joins (JoinsAt at Other)
  same-pairs One Other same joins meant b next y z p q agrees few before behind only also =
      let holds = meant b next y z p q agrees few before behind only also in (
        (λ h. let (c, d, here, there, one) = holds.0 h in (c, d, here, there, (same c d).0 one)),
        (λ (h : JoinsAt at Other p q). let (c, d, here, there, other) = h in holds.1 (c, d, here, there, (same c d).1 other)),
      )

  turned : (Joins : CellId → CellId → Type 0) (joins : Joining) → MeansPairs count a joins (JoinsAt at Joins) →
      MeansPairs count a (λ next y z. joins next z y) (JoinsAt at (λ c d. Joins d c))
  turned Joins joins meant b next y z p q agrees few before behind only also =
      let holds = meant b next z y q p agrees few behind before also only in (
        (λ h. let (c, d, here, there, one) = holds.0 h in (d, c, there, here, one)),
        (λ (h : JoinsAt at (λ c d. Joins d c) p q). let (c, d, here, there, one) = h in holds.1 (d, c, there, here, one)),
      )

  -- ---- forms with parts

  then-means : (one other : Joining) (first second : Route) → IsMeant one first → IsMeant other second →
      MeansPairs count a (λ next y z. ex1 next (And (one (suc next) y next) (other (suc next) next z))) (WalkAt types t at fields (Then first second))
  then-means one other first second meant also_meant b next y z p q agrees few before behind only also =
      let some = sat-ex1 next (And (one (suc next) y next) (other (suc next) next z)) b
      (λ u. WalkAt types t at fields first p u × WalkAt types t at fields second u q) (λ u.
      let agreed = Agrees-bound count a b next u agrees few in
      sat-and (one (suc next) y next) (other (suc next) next z) (with_position b next u) (WalkAt types t at fields first p u)
      (WalkAt types t at fields second u q)
      (meant (with_position b next u) (suc next) y next p u agreed (omega (arith, few)) (omega (arith, before)) (omega arith)
      (IsOnly-still b next y u p before only) (IsOnly-bound b next u))
      (also_meant (with_position b next u) (suc next) next z u q agreed (omega (arith, few)) (omega arith) (omega (arith, behind))
      (IsOnly-bound b next u) (IsOnly-still b next z u q behind also))) in (
        (λ h.
            let (u, parts) = some.0 h in
            let (c, e, here, at_u, walk) = parts.0 in
            let (f, d, also_u, there, further) = parts.1 in (
              c,
              d,
              here,
              there,
              (Walk-Then types t fields first second c d).1
                  (e, walk, subst (λ g. Walk types t fields second g d) (ground.apart f e u also_u at_u) further),
            )),
        (λ (h : WalkAt types t at fields (Then first second) p q).
            let (c, d, here, there, walk) = h in
            let (e, one_walk, further) = (Walk-Then types t fields first second c d).0 walk in
            let (u, at_u) = ground.there e (Walk-live types t fields first c e one_walk).1 in
            some.1 (u, ((c, e, here, at_u, one_walk), (e, d, at_u, there, further)))),
      )

  or-means : (one other : Joining) (first second : Route) → IsMeant one first → IsMeant other second →
      MeansPairs count a (λ next y z. or (one next y z) (other next y z)) (WalkAt types t at fields (Or first second))
  or-means one other first second meant also_meant b next y z p q agrees few before behind only also =
      let either = sat-or (one next y z) (other next y z) b (WalkAt types t at fields first p q) (WalkAt types t at fields second p q) agrees.finite
      (meant b next y z p q agrees few before behind only also) (also_meant b next y z p q agrees few before behind only also) in (
        (λ h. elim (either.0 h) as (λ _. WalkAt types t at fields (Or first second) p q) [
          | inl l ↦ (l.0, l.1, l.2, l.3, (Walk-Or types t fields first second l.0 l.1).1 (inl l.4))
          | inr r ↦ (r.0, r.1, r.2, r.3, (Walk-Or types t fields first second r.0 r.1).1 (inr r.4))
        ]),
        (λ (h : WalkAt types t at fields (Or first second) p q).
            let (c, d, here, there, walk) = h in
            either.1 (elim ((Walk-Or types t fields first second c d).0 walk) as
            (λ _. WalkAt types t at fields first p q ⊎ WalkAt types t at fields second p q) [
              | inl l ↦ inl (c, d, here, there, l)
              | inr r ↦ inr (c, d, here, there, r)
            ])),
      )

  -- ---- star: the least closed set

  module _ (round : Route) where
    abbrev Round : CellId → CellId → Type 0
    Round = Walk types t fields round

    -- what is in each closed set that has the start is the end of a chain: the positions of the ends of chains are such a set
    linked-chain : (c : CellId) (p q : Position) → IsAt at c p → IsLive t c → IsLinked (JoinsAt at Round) p q → JoinsAt at (Chain t Round) p q
    linked-chain c p q here live linked =
        let (cells, ends) = walk_ends types t fields (Star round) c in
        let chain-in : (d : CellId) → Chain t Round c d → has_number cells d.0 ≡ true = λ d chain.
        number_in cells d ((ends.members d).1 ((Walk-Star types t fields round c d).1 chain)) in
        let in-chain : (d : CellId) → has_number cells d.0 ≡ true → Chain t Round c d = λ d inside.
        (Walk-Star types t fields round c d).0 ((ends.members d).0 (in_number cells d inside)) in
        let inside = linked (places_of (λ d. has_number cells d.0) at) (places-finite (λ d. has_number cells d.0) at)
        (place-on (λ d. has_number cells d.0) at c p here (chain-in c (stay c live)))
        (λ u w on leads.
        let (d, at_u, so) = on-place (λ d. has_number cells d.0) at u on in
        let (e, f, also_u, at_w, step) = leads in
        let first : Round d f = subst (λ g. Round g f) (ground.apart e d u also_u at_u) step in
        place-on (λ d. has_number cells d.0) at f w at_w
        (chain-in f (chain-end t at ground.there ground.one Round (Walk-live types t fields round) c d f (in-chain d so) first))) in
        let (d, there, so) = on-place (λ d. has_number cells d.0) at q inside in
        (c, d, here, there, in-chain d so)

    star-means : (joins : Joining) → IsMeant joins round → MeansPairs count a (star types sight joins) (WalkAt types t at fields (Star round))
    star-means joins meant b next y z p q agrees few before behind only also =
        let whole = sat-three next (is_live types sight next y) (is_live types sight next z) (closing joins next y z) b (LiveAt t at p) (LiveAt t at q)
        (IsLinked (JoinsAt at Round) p q) (ground.live b next y p agrees few before only) (ground.live b next z q agrees few behind also)
        (closing-means count a joins (JoinsAt at Round) meant b next y z p q agrees few before behind only also) in (
          (λ h.
              let parts = whole.0 h in
              let (c, here, live) = parts.0 in
              let (e, d, at_p, there, chain) = linked-chain c p q here live parts.2 in
              (e, d, at_p, there, (Walk-Star types t fields round e d).1 chain)),
          (λ (h : WalkAt types t at fields (Star round) p q).
              let (c, d, here, there, walk) = h in
              let chain = (Walk-Star types t fields round c d).0 walk in
              let ends = Chain-live (Walk-live types t fields round) chain in
              whole.1 (
                (c, here, ends.0),
                (d, there, ends.1),
                chain-linked t at ground.there ground.one Round (Walk-live types t fields round) c d chain p
                    q here there,
              )),
        )

  -- ---- all routes

  abbrev formula : Route → Joining
  formula = walk_by types sight naming followed

  formula-is : (along : Route) (x : Route-F Route) → roll-Route x ≡ along →
      formula along ≡ walk_rules types sight naming followed (map-Route Route Joining formula x)
  formula-is along x e = ap formula (sym e) ∙ fold-roll-Route Joining (walk_rules types sight naming followed) x

  knows : (along : Route) (x : Route-F Route) → roll-Route x ≡ along → KnowsRoute types along →
      IsTrue (knows_node types (map-Route Route Bool (fold-Route Bool (knows_node types)) x))
  knows along x e known = sym (ap (fold-Route Bool (knows_node types)) (sym e) ∙ fold-roll-Route Bool (knows_node types) x) ∙ known

  meant-by : (along : Route) (x : Route-F Route) → roll-Route x ≡ along →
      IsMeant (walk_rules types sight naming followed (map-Route Route Joining formula x)) along → IsMeant (formula along) along
  meant-by along x e meant = subst (λ (j : Joining). IsMeant j along) (sym (formula-is along x e)) meant

  IsMeantKnown : Route → Type 0
  IsMeantKnown along = KnowsRoute types along → IsMeant (formula along) along

  hereditary : IsHereditary IsMeantKnown
  unfolding IsMeantKnown
  hereditary = record {
    of_Down = λ name known. meant-by (Down name) (Route-F.Down name) (rolls-Down name)
        (same-pairs (LeadsByName types t fields name) (Walk types t fields (Down name)) (λ c d. flip (Walk-Down types t fields name c d))
        (walk_rules types sight naming followed (Route-F.Down name))
        (down-means types sight count a s t at ground fields followed naming test means name));
    of_Up = λ name known. meant-by (Up name) (Route-F.Up name) (rolls-Up name)
        (same-pairs (λ c d. LeadsByName types t fields name d c) (Walk types t fields (Up name)) (λ c d. flip (Walk-Up types t fields name c d))
        (walk_rules types sight naming followed (Route-F.Up name))
        (turned (LeadsByName types t fields name) (walk_rules types sight naming followed (Route-F.Down name))
        (down-means types sight count a s t at ground fields followed naming test means name)));
    of_UpAny = λ known. meant-by UpAny Route-F.UpAny rolls-UpAny
        (same-pairs (λ c d. IsParent types t d c) (Walk types t fields UpAny) (λ c d. flip (Walk-UpAny types t fields c d))
        (walk_rules types sight naming followed Route-F.UpAny)
        (turned (IsParent types t) (edge types sight) (edge-means types sight count a s t at ground by_data)));
    of_Root = λ known. meant-by Root Route-F.Root rolls-Root
        (same-pairs (Stays (IsRoot types t)) (Walk types t fields Root) (λ c d. flip (Walk-Root types t fields c d))
        (walk_rules types sight naming followed Route-F.Root) (root-means types sight count a s t at ground by_data));
    of_Leaf = λ known. meant-by Leaf Route-F.Leaf rolls-Leaf
        (same-pairs (Stays (IsLeaf types t)) (Walk types t fields Leaf) (λ c d. flip (Walk-Leaf types t fields c d))
        (walk_rules types sight naming followed Route-F.Leaf) (leaf-means types sight count a s t at ground by_data));
    of_IsType = λ ty known. meant-by (IsType ty) (Route-F.IsType ty) (rolls-IsType ty)
        (same-pairs (Stays (IsOfType t ty)) (Walk types t fields (IsType ty)) (λ c d. flip (Walk-IsType types t fields ty c d))
        (walk_rules types sight naming followed (Route-F.IsType ty)) (type-means types sight count a s t at ground ty));
    of_IsVariant = λ v known. meant-by (IsVariant v) (Route-F.IsVariant v) (rolls-IsVariant v)
        (same-pairs (Stays (IsOfVariant t v)) (Walk types t fields (IsVariant v)) (λ c d. flip (Walk-IsVariant types t fields v c d))
        (walk_rules types sight naming followed (Route-F.IsVariant v))
        (variant-means types sight count a s t at ground v
        (ltb-true v.index (variant_count types v.ty) (knows (IsVariant v) (Route-F.IsVariant v) (rolls-IsVariant v) known))));
    of_IsBool = λ name truth known. meant-by (IsBool name truth) (Route-F.IsBool name truth) (rolls-IsBool name truth)
        (same-pairs (Stays (HasTruth types t name truth)) (Walk types t fields (IsBool name truth)) (λ c d. flip (Walk-IsBool types t fields name truth c d))
        (walk_rules types sight naming followed (Route-F.IsBool name truth)) (truth-means types sight count a s t at ground name truth));
    of_Then = λ first second one two known.
        let parts = and_parts (fold-Route Bool (knows_node types) first) (fold-Route Bool (knows_node types) second)
        (knows (Then first second) (Route-F.Then first second) (rolls-Then first second) known) in
        meant-by (Then first second) (Route-F.Then first second) (rolls-Then first second)
        (then-means (formula first) (formula second) first second (one parts.0) (two parts.1));
    of_Or = λ first second one two known.
        let parts = and_parts (fold-Route Bool (knows_node types) first) (fold-Route Bool (knows_node types) second)
        (knows (Or first second) (Route-F.Or first second) (rolls-Or first second) known) in
        meant-by (Or first second) (Route-F.Or first second) (rolls-Or first second)
        (or-means (formula first) (formula second) first second (one parts.0) (two parts.1));
    of_Star = λ round each known.
        meant-by (Star round) (Route-F.Star round) (rolls-Star round)
        (star-means round (formula round) (each (knows (Star round) (Route-F.Star round) (rolls-Star round) known)));
  }

  pub walk-means : (along : Route) → KnowsRoute types along → MeansPairs count a (walk_by types sight naming followed along) (WalkAt types t at fields along)
  unfolding IsMeantKnown
  walk-means = route-induction IsMeantKnown hereditary
