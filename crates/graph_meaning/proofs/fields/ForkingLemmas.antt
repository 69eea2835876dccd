-- The formula of a field on the assignment of a backbone.
use Rattle.std.proofs.Common.{◌≡◌, ◌↔◌, ℕ, suc, ◌<◌, ◌≤◌, IsSomeAnd, List, [], ◌∷◌, Option, Some, None, refl, sym, ap, ◌∙◌, subst, arith}
use Rattle.std.specs.Prelude.{IsSome}
use Rattle.std.specs.Option.{option_map_or, option_and_then}
use Rattle.gta_theory.specs.Assignments.{Position, Assignment, IsFinite, IsOnly}
use Rattle.ws2s_core.specs.declared.formula.Formula.{Formula}
use Rattle.ws2s_core.specs.declared.formula.Formula.TheVariants.{Sub, Not}
use Rattle.ws2s_core.specs.Satisfaction.{WSat}
use Rattle.ws2s_core.proofs.SatisfactionLemmas.{WSat-And}
use Rattle.ws2s_theory.proofs.SetsLemmas.{both}
use Rattle.ws2s_forms.specs.Forms.{track, ex1, and_list, false_at}
use Rattle.ws2s_forms.specs.Places.{with_position}
use Rattle.ws2s_forms.proofs.ConnectivesLemmas.{WSat-false}
use Rattle.ws2s_forms.proofs.LawsLemmas.{law-member}
use Rattle.store_core.specs.declared.ids.CellId.{CellId}
use Rattle.store_core.specs.declared.ids.TypeId.{TypeId}
use Rattle.store_core.specs.declared.ids.FieldId.{FieldId}
use Rattle.store_core.specs.declared.kind.FieldKind.{FieldKind}
use Rattle.store_core.specs.declared.kind.FieldKind.TheVariants as field
use Rattle.store_core.specs.declared.kind.Route.{Route}
use Rattle.store_core.specs.Tables.{TypeEntry, FieldEntry, VarEntry, IsTypeTable, KnowsKind, field_at}
use Rattle.store_core.specs.Stores.{StoreMap, CellEntry, IsLive, Fits, cell_of, field_of, field_value}
use Rattle.store_core.proofs.FittingLemmas.{IsSomeAnd-at}
use Rattle.routing_walks.specs.Walks.{DataAlone, IsOfType, Walk}
use Rattle.routing_walks.specs.Destinations.{EndsKind, Dest}
use Rattle.routing_walks.specs.WellFormed.{IsBackbone}
use Rattle.routing_walks.proofs.LiveLemmas.{IsSome-and}
use Rattle.tree_encode.specs.Layouts.{LaidOut}
use Rattle.tree_encode.specs.Tracks.{track_count}
use Rattle.tree_store.specs.Encoding.{IsAssignmentOf}
use Rattle.tree_store.proofs.SpotsLemmas.{of-some}
use Rattle.tree_formula.specs.WellEncoded.{well_encoded}
use Rattle.tree_store.specs.Premises.{SetsHoldLive}
use Rattle.tree_store.proofs.FormulaLemmas.{well_encoded-means}
use Rattle.tree_store.proofs.HoldersLemmas.{backbone-lays}
use Rattle.tree_store.proofs.TablesLemmas.{owners-there}
use Rattle.tree_store.specs.Stores.{IsStoreOf}
use Rattle.tree_store.proofs.ExistenceLemmas.{store_of_finite}
use Rattle.graph_view.specs.declared.view.View.{View}
use Rattle.graph_view.specs.Sights.{Sight, var_slots, at_first}
use Rattle.graph_view.specs.Live.{has, lives_in}
use Rattle.graph_view.specs.Routes.{data_walk, destination}
use Rattle.graph_view.specs.Cuts.{forks, forks_in, field_forks, field_formula}
use Rattle.graph_view.specs.After.{Standing, IsAt, AreStanding}
use Rattle.graph_meaning.specs.Live.Meaning.{Agrees}
use Rattle.graph_meaning.specs.Live.Standing.{Sits, FieldAt, TypeAt}
use Rattle.graph_meaning.specs.Live.Showing.{Shows}
use Rattle.graph_meaning.proofs.live.AgreeingLemmas.{Agrees-itself, Agrees-bound, IsOnly-bound, IsOnly-still, sat-not, sat-ex1, sat-three}
use Rattle.graph_meaning.proofs.live.SeenLemmas.{seen-has, seen-lives_in}
use Rattle.graph_meaning.proofs.live.StandingLemmas.{Sits-first}
use Rattle.graph_meaning.specs.Walks.Walking.{WalkAt}
use Rattle.graph_meaning.proofs.walks.SeenLemmas.{kind-known, data_walk-means}
use Rattle.graph_meaning.specs.Fields.Beginning.{first_view}
use Rattle.graph_meaning.specs.Fields.Forking.{HasFork, IsOfFork}
use Rattle.graph_meaning.proofs.fields.StandingLemmas.{standing}
use Rattle.graph_meaning.proofs.fields.BeginningLemmas.{first-shows}

-- ---- destinations

-- a cell that has a field is live
pub live-with : (s : StoreMap) (c : CellId) (f : FieldId) → IsSome (field_value s c f) → IsLive s c
live-with s c f some = by (cell_of s c) some
  where
    by : (o : Option CellEntry) → IsSome (option_and_then (λ cell. field_of cell f) o) → IsSome o
    by None h = h
    by (Some cell) h = refl

-- a destination by the route of the field
module _ (types : List TypeEntry) (s : StoreMap) (f : FieldId) (entry : FieldEntry) (target : TypeId) (along : Route) (there : field_at types f ≡ Some entry)
    (kind : entry.kind ≡ field.Pointer target along) where
  is-dest : (c d : CellId) → Dest types s c f d ↔ (Walk types s DataAlone along c d × IsOfType s target d)
  is-dest c d = (
    (λ h.
        let (own, found, ends) = IsSomeAnd-at (field_at types f) (λ e. EndsKind types s e.kind c d) h in
        let two : Some own ≡ Some entry = sym found ∙ there in
        let same : own ≡ entry = cc in
        let so = subst (λ k. EndsKind types s k c d) (ap (λ (e : FieldEntry). e.kind) same ∙ kind) ends in
        (so.walk, so.of_target)),
    (λ h.
        of-some (λ e. EndsKind types s e.kind c d) (field_at types f) entry there
        (subst (λ k. EndsKind types s k c d) (sym kind) (record { walk = h.0; of_target = h.1 }))),
  )

-- a field of another kind has none
no-dest : (types : List TypeEntry) (s : StoreMap) (f : FieldId) (entry : FieldEntry) (c d : CellId) → field_at types f ≡ Some entry →
    (EndsKind types s entry.kind c d → ⊥) → Dest types s c f d → ⊥
no-dest types s f entry c d there none h =
    let (own, found, ends) = IsSomeAnd-at (field_at types f) (λ e. EndsKind types s e.kind c d) h in
    let two : Some own ≡ Some entry = sym found ∙ there in
    let same : own ≡ entry = cc in
    none (subst (λ (e : FieldEntry). EndsKind types s e.kind c d) same ends)

module _ (types : List TypeEntry) (vars : List VarEntry) (s : StoreMap) (a : Assignment) (at : Standing) (table : IsTypeTable types)
    (fits : Fits types vars s) (backbone : IsBackbone types vars s) (sets : SetsHoldLive vars s) (means : IsAssignmentOf types vars s a)
    (finite : IsFinite a) (stand : AreStanding types vars s at) where
  abbrev next : ℕ
  next = track_count types vars

  abbrev laid : LaidOut
  laid = record { types = types; vars = vars; spares = [] }

  abbrev view : View
  view = first_view types vars next

  abbrev sight : Sight
  sight = at_first (var_slots vars)

  shows : Shows laid view a s s s at next
  shows = first-shows laid s a at next (owners-there types table) fits backbone sets means stand (omega arith)

  sits : Sits s at
  sits = Sits-first types vars s at fits backbone stand

  module _ (f : FieldId) (entry : FieldEntry) (target : TypeId) (along : Route) (there : field_at types f ≡ Some entry)
      (kind : entry.kind ≡ field.Pointer target along) where
    -- the cell at the one position has the cell at the other as a destination, told by positions
    abbrev DestAt : Position → Position → Type 0
    DestAt p q = FieldAt s at f p × WalkAt types s at DataAlone along p q × TypeAt s at target q

    known : KnowsKind types (field.Pointer target along)
    known = subst (λ k. KnowsKind types k) kind (kind-known types f entry table there)

    destination-means : (b : Assignment) (n y z : ℕ) (p q : Position) → Agrees next a b → next ≤ n → y < n → z < n → IsOnly (b y) p → IsOnly (b z) q →
        WSat (destination types sight n f target along y z) b ↔ DestAt p q
    destination-means b n y z p q agrees few before behind only also =
        sat-three n (has types sight n f y) (data_walk types sight along n y z) (lives_in types sight n target z) b
        (FieldAt s at f p) (WalkAt types s at DataAlone along p q) (TypeAt s at target q)
        (seen-has laid view a s s s at next shows f entry there b n y p agrees few before only)
        (data_walk-means laid view a s s s at next shows along known.1 b n y z p q agrees few before behind only also)
        (seen-lives_in laid view a s s s at next shows target b n z q agrees few behind also)

    -- ---- two destinations, told by positions

    abbrev ForksAt : Position → Position → Position → Type 0
    ForksAt p q r = DestAt p q × DestAt p r × (q ≡ r → ⊥)

    abbrev inner : Formula
    inner =
        and_list (suc (suc (suc next)))
        (destination types sight (suc (suc (suc next))) f target along next (suc next)
        ∷ destination types sight (suc (suc (suc next))) f target along next (suc (suc next))
        ∷ Not (Sub (track (suc next)) (track (suc (suc next)))) ∷ [])

    abbrev one_bound : Position → Assignment
    one_bound p = with_position a next p

    abbrev two_bound : Position → Position → Assignment
    two_bound p q = with_position (one_bound p) (suc next) q

    abbrev all_bound : Position → Position → Position → Assignment
    all_bound p q r = with_position (two_bound p q) (suc (suc next)) r

    all-agree : (p q r : Position) → Agrees next a (all_bound p q r)
    all-agree p q r =
        Agrees-bound next a (two_bound p q) (suc (suc next)) r
        (Agrees-bound next a (one_bound p) (suc next) q (Agrees-bound next a a next p (Agrees-itself next a finite) (omega arith)) (omega arith)) (omega arith)

    first-only : (p q r : Position) → IsOnly (all_bound p q r next) p
    first-only p q r =
        IsOnly-still (two_bound p q) (suc (suc next)) next r p (omega arith)
        (IsOnly-still (one_bound p) (suc next) next q p (omega arith) (IsOnly-bound a next p))

    second-only : (p q r : Position) → IsOnly (all_bound p q r (suc next)) q
    second-only p q r = IsOnly-still (two_bound p q) (suc (suc next)) (suc next) r q (omega arith) (IsOnly-bound (one_bound p) (suc next) q)

    third-only : (p q r : Position) → IsOnly (all_bound p q r (suc (suc next))) r
    third-only p q r = IsOnly-bound (two_bound p q) (suc (suc next)) r

    inner-means : (p q r : Position) → WSat inner (all_bound p q r) ↔ ForksAt p q r
    inner-means p q r =
        sat-three (suc (suc (suc next))) (destination types sight (suc (suc (suc next))) f target along next (suc next))
        (destination types sight (suc (suc (suc next))) f target along next (suc (suc next)))
        (Not (Sub (track (suc next)) (track (suc (suc next))))) (all_bound p q r) (DestAt p q) (DestAt p r) (q ≡ r → ⊥)
        (destination-means (all_bound p q r) (suc (suc (suc next))) next (suc next) p q (all-agree p q r) (omega arith) (omega arith) (omega arith)
        (first-only p q r) (second-only p q r))
        (destination-means (all_bound p q r) (suc (suc (suc next))) next (suc (suc next)) p r (all-agree p q r) (omega arith) (omega arith) (omega arith)
        (first-only p q r) (third-only p q r))
        (sat-not (Sub (track (suc next)) (track (suc (suc next)))) (all_bound p q r) (q ≡ r)
        (both (law-member (suc next) (suc (suc next)) (all_bound p q r) q (second-only p q r)) (third-only p q r q)))

    forks-at : WSat (forks types sight next f target along) a ↔ ((p : Position) × ((q : Position) × ((r : Position) × ForksAt p q r)))
    forks-at =
        sat-ex1 next (ex1 (suc next) (ex1 (suc (suc next)) inner)) a (λ p. (q : Position) × ((r : Position) × ForksAt p q r)) (λ p.
        sat-ex1 (suc next) (ex1 (suc (suc next)) inner) (one_bound p) (λ q. (r : Position) × ForksAt p q r) (λ q.
        sat-ex1 (suc (suc next)) inner (two_bound p q) (λ r. ForksAt p q r) (λ r. inner-means p q r)))

    -- ---- and by cells

    cell-from : (c : CellId) (p q : Position) → IsAt at c p → DestAt p q → (d : CellId) × IsAt at d q × Dest types s c f d
    cell-from c p q here (has_f, walks, typed) =
        let (e, d, at_p, at_q, walk) = walks in
        let (g, also_q, of_target) = typed in (
          d,
          at_q,
          (is-dest types s f entry target along there kind c d).1 (
            subst (λ x. Walk types s DataAlone along x d) (sits.apart e c p at_p here) walk,
            subst (λ x. IsOfType s target x) (sits.apart g d q also_q at_q) of_target,
          ),
        )

    at-positions : (c d : CellId) (p q : Position) → IsAt at c p → IsAt at d q → IsSome (field_value s c f) → Dest types s c f d → DestAt p q
    at-positions c d p q here at_q some dest =
        let ends = (is-dest types s f entry target along there kind c d).0 dest in
        ((c, here, some), (c, d, here, at_q, ends.0), (d, at_q, ends.1))

    dest-stands : (c d : CellId) → Dest types s c f d → (q : Position) × IsAt at d q
    dest-stands c d dest =
        sits.there d (IsSome-and (cell_of s d) (λ e. e.variant.ty ≡ target) ((is-dest types s f entry target along there kind c d).0 dest).1)

    fork-from : (p q r : Position) → ForksAt p q r → HasFork types s f
    fork-from p q r (to_q, to_r, differ) =
        let (c, here, some) = to_q.0 in
        let (d, at_q, dest) = cell-from c p q here to_q in
        let (e, at_r, other_dest) = cell-from c p r here to_r in (
          c,
          record {
            has = some;
            one = d;
            other = e;
            apart = λ same. differ (sits.one d q r at_q (subst (λ x. IsAt at x r) (sym same) at_r));
            to_one = dest;
            to_other = other_dest;
          },
        )

    fork-at : HasFork types s f → (p : Position) × ((q : Position) × ((r : Position) × ForksAt p q r))
    fork-at (c, fork) =
        let (p, here) = sits.there c (live-with s c f fork.has) in
        let (q, at_q) = dest-stands c fork.one fork.to_one in
        let (r, at_r) = dest-stands c fork.other fork.to_other in (
          p,
          (
            q,
            (
              r,
              (
                at-positions c fork.one p q here at_q fork.has fork.to_one,
                at-positions c fork.other p r here at_r fork.has fork.to_other,
                λ same. fork.apart (sits.apart fork.one fork.other r (subst (λ w. IsAt at fork.one w) same at_q) at_r),
              ),
            ),
          ),
        )

    forks-means : WSat (forks types sight next f target along) a ↔ HasFork types s f
    forks-means = (
      (λ h. let (p, (q, (r, forked))) = forks-at.0 h in fork-from p q r forked),
      (λ fork. forks-at.1 (fork-at fork)),
    )

  -- ---- all kinds of field

  forks_in-means : (f : FieldId) (entry : FieldEntry) (k : FieldKind) → field_at types f ≡ Some entry → entry.kind ≡ k →
      WSat (forks_in types sight next f k) a ↔ HasFork types s f
  forks_in-means f entry field.Bool there is = (
    (λ h. absurd (WSat-false next a h)),
    (λ (fork : HasFork types s f). absurd (no-dest types s f entry fork.0 (fork.1).one there
        (λ ends. subst (λ k. EndsKind types s k fork.0 (fork.1).one) is ends) (fork.1).to_one)),
  )
  forks_in-means f entry (field.Data target) there is = (
    (λ h. absurd (WSat-false next a h)),
    (λ (fork : HasFork types s f). absurd (no-dest types s f entry fork.0 (fork.1).one there
        (λ ends. subst (λ k. EndsKind types s k fork.0 (fork.1).one) is ends) (fork.1).to_one)),
  )
  forks_in-means f entry (field.Pointer target along) there is = forks-means f entry target along there is

  field_forks-means : (f : FieldId) → WSat (field_forks types sight next f) a ↔ HasFork types s f
  field_forks-means f = by (field_at types f) refl
    where
      by : (o : Option FieldEntry) → field_at types f ≡ o →
          WSat (option_map_or (λ (entry : FieldEntry). forks_in types sight next f entry.kind) o (false_at next)) a ↔ HasFork types s f
      by None is = (
        (λ h. absurd (WSat-false next a h)),
        (λ (fork : HasFork types s f). absurd (subst (λ o. IsSomeAnd o (λ e. EndsKind types s e.kind fork.0 (fork.1).one)) is (fork.1).to_one)),
      )
      by (Some entry) is = forks_in-means f entry entry.kind is refl

-- ---- the whole formula

module _ (types : List TypeEntry) (vars : List VarEntry) (a : Assignment) (f : FieldId) (table : IsTypeTable types) (finite : IsFinite a) where
  abbrev first : ℕ
  first = track_count types vars

  abbrev forked : Formula
  forked = field_forks types (at_first (var_slots vars)) first f

  parts : WSat (field_formula types vars f) a ↔ (WSat (well_encoded first types vars) a × WSat forked a)
  parts = WSat-And (well_encoded first types vars) forked a

  forked-means : (s : StoreMap) → Fits types vars s → IsBackbone types vars s → SetsHoldLive vars s → IsAssignmentOf types vars s a →
      WSat forked a ↔ HasFork types s f
  forked-means s fits backbone sets means =
      let (at, stand) = standing types vars s backbone in
      field_forks-means types vars s a at table fits backbone sets means finite stand f

  pub field_formula-store : (s : StoreMap) → Fits types vars s → IsBackbone types vars s → SetsHoldLive vars s → IsAssignmentOf types vars s a →
      WSat (field_formula types vars f) a ↔ HasFork types s f
  field_formula-store s fits backbone sets means =
      let meant = forked-means s fits backbone sets means in
      let encoded = (well_encoded-means types vars (owners-there types table) a first (omega arith) finite).1
      (backbone-lays types vars s a fits backbone sets means) in (
        (λ h. meant.0 (parts.0 h).1),
        (λ fork. parts.1 (encoded, meant.1 fork)),
      )

  pub store-of_fork : WSat (field_formula types vars f) a → (s : StoreMap) × IsStoreOf types vars a s × HasFork types s f
  store-of_fork h =
      let (encoded, forks_there) = parts.0 h in
      let lays = (well_encoded-means types vars (owners-there types table) a first (omega arith) finite).0 encoded in
      let (s, is) = store_of_finite types vars a lays finite in
      (s, is, (forked-means s is.fits is.backbone is.sets is.assignment).0 forks_there)

  pub field_formula-means : WSat (field_formula types vars f) a ↔ IsOfFork types vars f a
  field_formula-means = (
    (λ h.
        let (s, is, fork) = store-of_fork h in
        record { store = s; fits = is.fits; backbone = is.backbone; sets = is.sets; assignment = is.assignment; fork = fork }),
    (λ of_one. (field_formula-store of_one.store of_one.fits of_one.backbone of_one.sets of_one.assignment).1 of_one.fork),
  )
