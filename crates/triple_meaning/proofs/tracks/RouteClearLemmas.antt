-- A track behind those of the layout, of values and of events isn't free in walks of routes, in what fields name, and in closed sets.
use Rattle.std.proofs.Common.{◌≡◌, ◌≢◌, ℕ, suc, ◌<◌, ◌≤◌, Bool, true, false, List, [], ◌∷◌, ◌++◌, map, flat_map, All, sym, ap, ◌∙◌, subst}
use Rattle.std.proofs.lemmas.List.Elements.{All-head, All-tail}
use Rattle.ws2s_core.specs.declared.formula.Formula.{Formula}
use Rattle.ws2s_core.specs.declared.formula.Formula.TheVariants.{Sub, And, Not}
use Rattle.ws2s_forms.specs.Forms.{track, false_at, or_list, imp, ex1, all2, equal}
use Rattle.store_core.specs.declared.ids.TypeId.{TypeId}
use Rattle.store_core.specs.declared.ids.FieldId.{FieldId}
use Rattle.store_core.specs.declared.kind.FieldKind.{FieldKind}
use Rattle.store_core.specs.declared.kind.FieldKind.TheVariants as field
use Rattle.store_core.specs.declared.kind.Route.{Route, roll-Route}
use Rattle.store_core.specs.declared.kind.Route.TheVariants.{Down, Up, UpAny, Root, Leaf, IsType, IsVariant, IsBool, Then, Or, Star, rolls-Down}
use Rattle.store_core.specs.declared.kind.Route.TheVariants.{rolls-Up, rolls-UpAny, rolls-Root, rolls-Leaf, rolls-IsType, rolls-IsVariant}
use Rattle.store_core.specs.declared.kind.Route.TheVariants.{rolls-IsBool, rolls-Then, rolls-Or, rolls-Star}
use Rattle.store_core.specs.declared.kind.Route.TheOpen.{Route-F}
use Rattle.store_core.specs.declared.kind.Route.TheFolds.{fold-roll-Route, map-Route}
use Rattle.store_core.specs.Tables.{TypeEntry, FieldEntry, VarEntry, field_at}
use Rattle.routing_walks.proofs.RouteLemmas.{IsHereditary, route-induction}
use Rattle.tree_encode.specs.Tracks.{track_count}
use Rattle.graph_view.specs.declared.view.Sym.{Sym}
use Rattle.graph_view.specs.Sights.{Sight, at_first}
use Rattle.graph_view.specs.Syms.{is_in}
use Rattle.graph_view.specs.Live.{lives, lives_in, has, is_live}
use Rattle.graph_view.specs.Fields.{is_true, is_bool, is_data, fields_named}
use Rattle.graph_view.specs.Routes.{Naming, Joining, names_by_data, edge, down, stays_at_root, stays_at_leaf, has_truth, stays_at_truth, is_left, star}
use Rattle.graph_view.specs.Routes.{walk_rules, walk_by, data_walk, destination, names_in, names}
use Rattle.graph_view.specs.Cuts.{has_value, closes}
use Rattle.graph_view.specs.After.{IsSymBelow}
use Rattle.triple_meaning.proofs.tracks.ClearLemmas.{above, later, IsClear, AreClear, clear-Sub, clear-And, clear-Not, clear-false, clear-and_list}
use Rattle.triple_meaning.proofs.tracks.ClearLemmas.{clear-or_list, clear-or, clear-imp, clear-map, clear-append, clear-ex1, clear-all2, clear-equal}
use Rattle.triple_meaning.proofs.tracks.SightClearLemmas.{clear-option, clear-is_in, IsSightBelow, first-below, clear-lives, clear-lives_in, clear-has}
use Rattle.triple_meaning.proofs.tracks.SightClearLemmas.{clear-is_live, clear-after, clear-is_true, clear-data_names, clear-by_data, clear-edge}
use Rattle.triple_meaning.proofs.tracks.SightClearLemmas.{IsClearJoining, clear-is_left, clear-has_value}

module _ (types : List TypeEntry) (vars : List VarEntry) (t : ℕ) (few : track_count types vars ≤ t) (some : 0 < t) where
  module _ (sight : Sight) (is : IsSightBelow t sight) where
    edge-clear : IsClearJoining t (edge types sight)
    edge-clear next a b less no_a no_b = clear-edge types vars t few some sight next a b is less no_a no_b

    live-clear : (next a : ℕ) → t < next → a ≢ t → IsClear t (is_live types sight next a)
    live-clear next a less no_a = clear-is_live types vars t few some sight next a is less no_a

    -- ---- routes

    module _ (naming : Naming) (followed : FieldKind → Bool)
        (named : (next : ℕ) (f : FieldId) (a b : ℕ) → t < next → a ≢ t → b ≢ t → IsClear t (naming next f a b)) where
      down-clear : (name : List ℕ) → IsClearJoining t (down types sight naming followed name)
      down-clear name next a b less no_a no_b =
          let fields : List Formula = map (λ f. naming next f a b) (fields_named types name followed) in
          clear-and_list t next (is_live types sight next a ∷ is_live types sight next b ∷ or_list next fields ∷ []) less (
            live-clear next a less no_a,
            (
              live-clear next b less no_b,
              (
                clear-or_list t next fields less
                    (clear-map t (λ f. naming next f a b) (λ f. named next f a b less no_a no_b) (fields_named types name followed)),
                tt,
              ),
            ),
          )

      root-clear : IsClearJoining t (stays_at_root types sight)
      root-clear next a b less no_a no_b =
          let above_it : Formula = edge types sight (suc next) next a in
          clear-and_list t next (is_live types sight next a ∷ equal a b ∷ Not (ex1 next above_it) ∷ []) less (
            live-clear next a less no_a,
            (
              clear-equal t a b no_a no_b,
              (
                clear-Not t (ex1 next above_it) (clear-ex1 t next above_it less
                    (edge-clear (suc next) next a (later t next less) (above t next less) no_a)),
                tt,
              ),
            ),
          )

      leaf-clear : IsClearJoining t (stays_at_leaf types sight)
      leaf-clear next a b less no_a no_b =
          let below_it : Formula = edge types sight (suc next) a next in
          clear-and_list t next (is_live types sight next a ∷ equal a b ∷ Not (ex1 next below_it) ∷ []) less (
            live-clear next a less no_a,
            (
              clear-equal t a b no_a no_b,
              (
                clear-Not t (ex1 next below_it) (clear-ex1 t next below_it less
                    (edge-clear (suc next) a next (later t next less) no_a (above t next less))),
                tt,
              ),
            ),
          )

      has_truth-clear : (value : Bool) (next a : ℕ) → t < next → a ≢ t → (f : FieldId) → IsClear t (has_truth types sight value next a f)
      has_truth-clear true next a less no_a f =
          clear-And t (has types sight next f a) (is_true types sight next f a) (clear-has types vars t few some sight next f a is less no_a)
          (clear-is_true types vars t few some sight next f a is less no_a)
      has_truth-clear false next a less no_a f =
          clear-And t (has types sight next f a) (Not (is_true types sight next f a)) (clear-has types vars t few some sight next f a is less no_a)
          (clear-Not t (is_true types sight next f a) (clear-is_true types vars t few some sight next f a is less no_a))

      truth-clear : (name : List ℕ) (value : Bool) → IsClearJoining t (stays_at_truth types sight name value)
      truth-clear name value next a b less no_a no_b =
          let fields : List Formula = map (has_truth types sight value next a) (fields_named types name is_bool) in
          clear-And t (equal a b) (or_list next fields) (clear-equal t a b no_a no_b)
          (clear-or_list t next fields less
          (clear-map t (has_truth types sight value next a) (has_truth-clear value next a less no_a) (fields_named types name is_bool)))

      star-clear : (joins : Joining) → IsClearJoining t joins → IsClearJoining t (star types sight joins)
      star-clear joins clear next a b less no_a no_b =
          let within : Formula = And (Sub (track a) (track next)) (Not (is_left joins (suc next) next)) in
          let each : Formula = imp within (Sub (track b) (track next)) in
          let bound = above t next less in
          clear-and_list t next (is_live types sight next a ∷ is_live types sight next b ∷ all2 next each ∷ []) less (
            live-clear next a less no_a,
            (
              live-clear next b less no_b,
              (
                clear-all2 t next each (clear-imp t within (Sub (track b) (track next))
                    (clear-And t (Sub (track a) (track next)) (Not (is_left joins (suc next) next)) (clear-Sub t (track a) (track next) no_a bound)
                    (clear-Not t (is_left joins (suc next) next) (clear-is_left t joins clear (suc next) next (later t next less) bound)))
                    (clear-Sub t (track b) (track next) no_b bound)),
                tt,
              ),
            ),
          )

      abbrev formula : Route → Joining
      formula = walk_by types sight naming followed

      abbrev IsClearRoute : Route → Type 0
      IsClearRoute along = IsClearJoining t (walk_by types sight naming followed along)

      clear-by : (along : Route) (x : Route-F Route) → roll-Route x ≡ along →
          IsClearJoining t (walk_rules types sight naming followed (map-Route Route Joining formula x)) → IsClearRoute along
      clear-by along x e clear =
          subst (λ (j : Joining). IsClearJoining t j)
          (sym (ap formula (sym e) ∙ fold-roll-Route Joining (walk_rules types sight naming followed) x)) clear

      hereditary : IsHereditary IsClearRoute
      hereditary = record {
        of_Down = λ name. clear-by (Down name) (Route-F.Down name) (rolls-Down name) (down-clear name);
        of_Up = λ name. clear-by (Up name) (Route-F.Up name) (rolls-Up name) (λ next a b less no_a no_b. down-clear name next b a less no_b no_a);
        of_UpAny = clear-by UpAny Route-F.UpAny rolls-UpAny (λ next a b less no_a no_b. edge-clear next b a less no_b no_a);
        of_Root = clear-by Root Route-F.Root rolls-Root root-clear;
        of_Leaf = clear-by Leaf Route-F.Leaf rolls-Leaf leaf-clear;
        of_IsType = λ ty. clear-by (IsType ty) (Route-F.IsType ty) (rolls-IsType ty) (λ next a b less no_a no_b.
            clear-And t (lives_in types sight next ty a) (equal a b) (clear-lives_in types vars t few some sight next ty a is less no_a)
            (clear-equal t a b no_a no_b));
        of_IsVariant = λ v. clear-by (IsVariant v) (Route-F.IsVariant v) (rolls-IsVariant v) (λ next a b less no_a no_b.
            clear-And t (lives types sight next v a) (equal a b) (clear-lives types vars t few some sight next v a is less no_a)
            (clear-equal t a b no_a no_b));
        of_IsBool = λ name truth. clear-by (IsBool name truth) (Route-F.IsBool name truth) (rolls-IsBool name truth) (truth-clear name truth);
        of_Then = λ first second one two. clear-by (Then first second) (Route-F.Then first second) (rolls-Then first second) (λ next a b less no_a no_b.
            let way : Formula = And (formula first (suc next) a next) (formula second (suc next) next b) in
            clear-ex1 t next way less
            (clear-And t (formula first (suc next) a next) (formula second (suc next) next b)
            (one (suc next) a next (later t next less) no_a (above t next less))
            (two (suc next) next b (later t next less) (above t next less) no_b)));
        of_Or = λ first second one two. clear-by (Or first second) (Route-F.Or first second) (rolls-Or first second) (λ next a b less no_a no_b.
            clear-or t (formula first next a b) (formula second next a b) (one next a b less no_a no_b) (two next a b less no_a no_b));
        of_Star = λ round each. clear-by (Star round) (Route-F.Star round) (rolls-Star round) (star-clear (formula round) each);
      }

      pub walk-clear : (along : Route) → IsClearRoute along
      walk-clear = route-induction IsClearRoute hereditary

    -- ---- closed sets

    roots-clear : (x : ℕ) (values : List Sym) → x ≢ t → All (IsSymBelow t) values → AreClear t (flat_map (has_value x) values)
    roots-clear x [] no_x under = tt
    roots-clear x (u ∷ values) no_x under =
        clear-append t (has_value x u) (flat_map (has_value x) values) (clear-has_value t x u no_x (All-head (IsSymBelow t) u values under))
        (roots-clear x values no_x (All-tail (IsSymBelow t) u values under))

    pub closes-clear : (values : List Sym) (next x : ℕ) → t < next → x ≢ t → All (IsSymBelow t) values → IsClear t (closes types sight values next x)
    closes-clear values next x less no_x under =
        let left : Formula = Not (is_left (edge types sight) next x) in
        clear-and_list t next (flat_map (has_value x) values ++ left ∷ []) less
        (clear-append t (flat_map (has_value x) values) (left ∷ []) (roots-clear x values no_x under)
        (clear-Not t (is_left (edge types sight) next x) (clear-is_left t (edge types sight) edge-clear next x less no_x), tt))

  -- ---- what fields name

  module _ (sight : Sight) (is : IsSightBelow t sight) where
    destination-clear : (next : ℕ) (f : FieldId) (target : TypeId) (along : Route) (a b : ℕ) → t < next → a ≢ t → b ≢ t →
        IsClear t (destination types (at_first sight.slots) next f target along a b)
    destination-clear next f target along a b less no_a no_b =
        let first : Sight = at_first sight.slots in
        let begun = first-below t sight in
        clear-and_list t next (has types first next f a ∷ data_walk types first along next a b ∷ lives_in types first next target b ∷ []) less (
          clear-has types vars t few some first next f a begun less no_a,
          (
            walk-clear first begun (names_by_data types first) is_data
                (λ n g c d more no_c no_d. clear-by_data types vars t few some first n g c d begun more no_c no_d) along next a b less no_a no_b,
            (clear-lives_in types vars t few some first next target b begun less no_b, tt),
          ),
        )

    names_in-clear : (next : ℕ) (f : FieldId) (a b : ℕ) (kind : FieldKind) → t < next → a ≢ t → b ≢ t → IsClear t (names_in types sight next f a b kind)
    names_in-clear next f a b field.Bool less no_a no_b = clear-false t next less
    names_in-clear next f a b (field.Data target) less no_a no_b = clear-data_names types vars t few some sight next f target a b is less no_a no_b
    names_in-clear next f a b (field.Pointer target along) less no_a no_b =
        clear-after types vars t few some next f a (is_in next b) (destination types (at_first sight.slots) next f target along a b) sight.events less no_a
        (λ u under. clear-is_in t next b u less no_b under) (destination-clear next f target along a b less no_a no_b) is.events

    pub names-clear : (next : ℕ) (f : FieldId) (a b : ℕ) → t < next → a ≢ t → b ≢ t → IsClear t (names types sight next f a b)
    names-clear next f a b less no_a no_b =
        clear-option t (λ (entry : FieldEntry). names_in types sight next f a b entry.kind) (false_at next) (field_at types f)
        (λ entry. names_in-clear next f a b entry.kind less no_a no_b) (clear-false t next less)
