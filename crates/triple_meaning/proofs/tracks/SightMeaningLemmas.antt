-- What is said of live cells and of data fields, by the sets on the tracks in use, whichever these are: no store has to be seen.
use Rattle.std.proofs.Common.{◌≡◌, ◌↔◌, ◌⊎◌, ℕ, ◌+◌, ◌<◌, ◌≤◌, Bool, true, false, cond, IsTrue, List, [], ◌∷◌, map, Contains, Option, Some, None, refl, subst}
use Rattle.std.proofs.Common.{arith}
use Rattle.std.specs.Option.{option_map_or}
use Rattle.std.specs.Prelude.{unwrap_or}
use Rattle.gta_theory.specs.Assignments.{Position, Assignment, IsOnly}
use Rattle.ws2s_core.specs.declared.track.Track.{Track}
use Rattle.ws2s_core.specs.declared.formula.Formula.{Formula}
use Rattle.ws2s_core.specs.declared.formula.Formula.TheVariants.{And, Not}
use Rattle.ws2s_core.specs.Satisfaction.{WSat}
use Rattle.ws2s_forms.specs.Forms.{or, or_list, and_list, child, slot, false_at}
use Rattle.ws2s_forms.specs.Places.{child_of, slot_of}
use Rattle.ws2s_forms.proofs.PositionsLemmas.{IsOnly-same, IsOnly-along}
use Rattle.ws2s_forms.proofs.ConnectivesLemmas.{WSat-false}
use Rattle.ws2s_forms.proofs.GoingLemmas.{WSat-go, WSat-slot}
use Rattle.store_core.specs.declared.ids.TypeId.{TypeId}
use Rattle.store_core.specs.declared.ids.VariantId.{VariantId}
use Rattle.store_core.specs.declared.ids.FieldId.{FieldId}
use Rattle.store_core.specs.declared.kind.FieldKind.{FieldKind}
use Rattle.store_core.specs.declared.kind.FieldKind.TheVariants as field
use Rattle.store_core.specs.Tables.{TypeEntry, FieldEntry, VarEntry, field_at, unnamed_of}
use Rattle.tree_encode.specs.Tracks.{of_variant, track_count, variant_track, child_number}
use Rattle.tree_formula.specs.WellEncoded.{types_in, variants_of, track_or_first, owner}
use Rattle.tree_store.proofs.TablesLemmas.{track-few}
use Rattle.graph_view.specs.declared.view.Sym.{Sym}
use Rattle.graph_view.specs.declared.view.Sym.TheVariants.{Null, At}
use Rattle.graph_view.specs.declared.view.Event.{Event}
use Rattle.graph_view.specs.declared.view.Event.TheVariants.{New, Write, Free}
use Rattle.graph_view.specs.Sights.{Sight, at_first}
use Rattle.graph_view.specs.Syms.{is_in, guard, is_changed}
use Rattle.graph_view.specs.Live.{is_variant, is_made, live_of, lives, lives_in, has, is_live}
use Rattle.graph_view.specs.Fields.{is_field, is_data, after, first_child, fields_of_kind}
use Rattle.graph_view.specs.Routes.{data_names_in, names_by_data, edge}
use Rattle.graph_view.specs.After.{IsTaken, IsSymBelow, IsGuardBelow, AreEventsBelow}
use Rattle.graph_meaning.specs.Live.Meaning.{MeansHere, MeansPairs}
use Rattle.graph_meaning.proofs.live.AgreeingLemmas.{member-agreed, sat-and, sat-not, sat-or, sat-three, sat-or_list}
use Rattle.graph_meaning.proofs.live.SymsLemmas.{guard-means}

-- ---- by tests

-- both ways, or the one alone
abbrev pub OrWhere : Bool → Type 0 → Type 0 → Type 0
OrWhere true P Q = P ⊎ Q
OrWhere false P Q = P

-- the one where the test says so, and else the other
abbrev pub Chosen : Bool → Type 0 → Type 0 → Type 0
Chosen true P Q = P
Chosen false P Q = Q

sat-or_where : (t : Bool) (f g : Formula) (c : Assignment) (P Q : Type 0) → WSat f c ↔ P → WSat (or f g) c ↔ (P ⊎ Q) →
    WSat (cond t (or f g) f) c ↔ OrWhere t P Q
sat-or_where true f g c P Q one either = either
sat-or_where false f g c P Q one either = one

sat-chosen : (t : Bool) (f g : Formula) (c : Assignment) (P Q : Type 0) → WSat f c ↔ P → WSat g c ↔ Q → WSat (cond t f g) c ↔ Chosen t P Q
sat-chosen true f g c P Q one other = one
sat-chosen false f g c P Q one other = other

sat-false : (next : ℕ) (c : Assignment) → WSat (false_at next) c ↔ ⊥
sat-false next c = ((λ h. WSat-false next c h), (λ h. absurd h))

-- this of what is there, or else the other
abbrev pub ThereOr : {X : Type 0} → (X → Type 0) → Option X → Type 0 → Type 0
ThereOr P None Q = Q
ThereOr P (Some x) Q = P x

sat-option : {X : Type 0} (f : X → Formula) (other : Formula) (o : Option X) (c : Assignment) (P : X → Type 0) (Q : Type 0) →
    ((x : X) → WSat (f x) c ↔ P x) → WSat other c ↔ Q → WSat (option_map_or f o other) c ↔ ThereOr P o Q
sat-option f other None c P Q each none = none
sat-option f other (Some x) c P Q each none = each x

-- all cells, after these events
abbrev pub whole : ℕ → List Event → Sight
whole slots events = record { slots = slots; events = events; region = None }

module _ (types : List TypeEntry) (slots : ℕ) (b : Assignment) where
  -- ---- what is said

  -- the position is in the value
  abbrev pub InSym : Sym → Position → Type 0
  InSym Null p = ⊥
  InSym (At x) p = IsTrue (b x.0 p)

  -- the event is taken, and the position is in its value
  abbrev pub IsChangedAt : Option Track → Sym → Position → Type 0
  IsChangedAt g u p = IsTaken b g × InSym u p

  -- a live cell of the variant stands there
  abbrev pub LivesAt : VariantId → List Event → Position → Type 0
  LivesAt v [] p = IsTrue (b (track_or_first (variant_track types v)).0 p)
  LivesAt v (New g k w ∷ earlier) p = OrWhere (is_variant v w) (LivesAt v earlier p) (IsTaken b g × (p ≡ slot_of (slots + k)))
  LivesAt v (Write g u f x ∷ earlier) p = LivesAt v earlier p
  LivesAt v (Free g u ∷ earlier) p = LivesAt v earlier p × (IsChangedAt g u p → ⊥)

  abbrev pub OfTypeAt : TypeId → List Event → Position → Type 0
  OfTypeAt ty events p =
      ThereOr (λ v. LivesAt v events p) (unnamed_of types ty) ((v : VariantId) × Contains (variants_of types ty) v × LivesAt v events p)

  abbrev pub HasAt : FieldId → List Event → Position → Type 0
  HasAt f events p = ThereOr (λ v. LivesAt v events p) (owner types f) (OfTypeAt f.ty events p)

  abbrev pub AliveAt : List Event → Position → Type 0
  AliveAt events p = (ty : TypeId) × Contains (types_in types) ty × OfTypeAt ty events p

  -- the data field of the one names the other
  abbrev pub FirstAt : FieldId → TypeId → Position → Position → Type 0
  FirstAt f target p q = HasAt f [] p × (q ≡ child_of (unwrap_or (child_number types f) 0) p) × OfTypeAt target [] q

  abbrev pub NamesAt : FieldId → TypeId → List Event → Position → Position → Type 0
  NamesAt f target [] p q = FirstAt f target p q
  NamesAt f target (New g k v ∷ earlier) p q = NamesAt f target earlier p q
  NamesAt f target (Free g u ∷ earlier) p q = NamesAt f target earlier p q
  NamesAt f target (Write g u h x ∷ earlier) p q =
      Chosen (is_field f h) ((IsTaken b g × InSym u p × InSym x q) ⊎ ((IsChangedAt g u p → ⊥) × NamesAt f target earlier p q)) (NamesAt f target earlier p q)

  abbrev pub ByKindAt : FieldId → List Event → Position → Position → FieldKind → Type 0
  ByKindAt f events p q field.Bool = ⊥
  ByKindAt f events p q (field.Data target) = NamesAt f target events p q
  ByKindAt f events p q (field.Pointer target along) = ⊥

  abbrev pub ByDataAt : FieldId → List Event → Position → Position → Type 0
  ByDataAt f events p q = ThereOr (λ (entry : FieldEntry). ByKindAt f events p q entry.kind) (field_at types f) ⊥

  abbrev pub EdgeAt : List Event → Position → Position → Type 0
  EdgeAt events p q =
      AliveAt events p × AliveAt events q × ((f : FieldId) × Contains (fields_of_kind types is_data) f × ByDataAt f events p q)

  -- ---- and that formulas say it

  module _ (vars : List VarEntry) (n : ℕ) (few : track_count types vars ≤ n) (some : 0 < n) where
    pub first-few : (v : VariantId) → (track_or_first (variant_track types v)).0 < n
    first-few v = by (variant_track types v) refl
      where
        by : (o : Option Track) → variant_track types v ≡ o → (track_or_first o).0 < n
        by None is = some
        by (Some x) is = (let inside = track-few types vars (of_variant v) x is in omega (arith, inside, few))

    pub in-means : (u : Sym) → IsSymBelow n u → MeansHere n b (λ next x. is_in next x u) (InSym u)
    in-means Null under c next x p agrees room less only = sat-false next c
    in-means (At t) under c next x p agrees room less only = member-agreed n b c x t.0 p agrees under only

    changed-means : (g : Option Track) (u : Sym) → IsGuardBelow n g → IsSymBelow n u → MeansHere n b (λ next x. is_changed next x g u) (IsChangedAt g u)
    changed-means g u guarded under c next x p agrees room less only =
        sat-and (guard next g) (is_in next x u) c (IsTaken b g) (InSym u p) (guard-means n b c next g agrees room guarded)
        (in-means u under c next x p agrees room less only)

    slot-means : (i : ℕ) → MeansHere n b (λ next x. slot next i x) (λ p. p ≡ slot_of i)
    slot-means i c next x p agrees room less only =
        let means = WSat-slot next i x c less in (
          (λ h. IsOnly-same (c x) p (slot_of i) only (means.0 h)),
          (λ e. means.1 (IsOnly-along (c x) p (slot_of i) e only)),
        )

    child-means : (j : ℕ) → MeansPairs n b (λ next x y. child next j x y) (λ p q. q ≡ child_of j p)
    child-means j c next x y p q agrees room less_x less_y only_p only_q =
        let goes = WSat-go j next x y c less_x less_y in (
          (λ h.
              let (u, at_u, at_y) = goes.0 h in
              let same = IsOnly-same (c x) u p at_u only_p in
              IsOnly-same (c y) q (child_of j p) only_q (subst (λ w. IsOnly (c y) (child_of j w)) same at_y)),
          (λ e. goes.1 (p, only_p, IsOnly-along (c y) q (child_of j p) e only_q)),
        )

    live-means : (v : VariantId) (events : List Event) → AreEventsBelow n events →
        MeansHere n b (λ next x. live_of types next slots v x events) (LivesAt v events)
    live-means v [] under c next x p agrees room less only = member-agreed n b c x (track_or_first (variant_track types v)).0 p agrees (first-few v) only
    live-means v (New g k w ∷ earlier) under c next x p agrees room less only =
        let old : Formula = live_of types next slots v x earlier in
        let new : Formula = is_made next slots x g k in
        let so = live-means v earlier under.1 c next x p agrees room less only in
        let made = sat-and (guard next g) (slot next (slots + k) x) c (IsTaken b g) (p ≡ slot_of (slots + k))
        (guard-means n b c next g agrees room under.0) (slot-means (slots + k) c next x p agrees room less only) in
        sat-or_where (is_variant v w) old new c (LivesAt v earlier p) (IsTaken b g × (p ≡ slot_of (slots + k))) so
        (sat-or old new c (LivesAt v earlier p) (IsTaken b g × (p ≡ slot_of (slots + k))) agrees.finite so made)
    live-means v (Write g u f z ∷ earlier) under c next x p agrees room less only = live-means v earlier under.1 c next x p agrees room less only
    live-means v (Free g u ∷ earlier) under c next x p agrees room less only =
        sat-and (live_of types next slots v x earlier) (Not (is_changed next x g u)) c (LivesAt v earlier p) (IsChangedAt g u p → ⊥)
        (live-means v earlier under.1 c next x p agrees room less only)
        (sat-not (is_changed next x g u) c (IsChangedAt g u p) (changed-means g u under.0.0 under.0.1 c next x p agrees room less only))

    pub of_type-means : (ty : TypeId) (events : List Event) → AreEventsBelow n events →
        MeansHere n b (λ next x. lives_in types (whole slots events) next ty x) (OfTypeAt ty events)
    of_type-means ty events under c next x p agrees room less only =
        sat-option (λ v. lives types (whole slots events) next v x) (or_list next (map (λ v. lives types (whole slots events) next v x) (variants_of types ty)))
        (unnamed_of types ty) c (λ v. LivesAt v events p) ((v : VariantId) × Contains (variants_of types ty) v × LivesAt v events p)
        (λ v. live-means v events under c next x p agrees room less only)
        (sat-or_list next (λ v. lives types (whole slots events) next v x) (variants_of types ty) c (λ v. LivesAt v events p) agrees.finite
        (λ v listed. live-means v events under c next x p agrees room less only))

    has-means : (f : FieldId) (events : List Event) → AreEventsBelow n events →
        MeansHere n b (λ next x. has types (whole slots events) next f x) (HasAt f events)
    has-means f events under c next x p agrees room less only =
        sat-option (λ v. lives types (whole slots events) next v x) (lives_in types (whole slots events) next f.ty x) (owner types f) c
        (λ v. LivesAt v events p)
        (OfTypeAt f.ty events p) (λ v. live-means v events under c next x p agrees room less only)
        (of_type-means f.ty events under c next x p agrees room less only)

    pub alive-means : (events : List Event) → AreEventsBelow n events → MeansHere n b (λ next x. is_live types (whole slots events) next x) (AliveAt events)
    alive-means events under c next x p agrees room less only =
        sat-or_list next (λ ty. lives_in types (whole slots events) next ty x) (types_in types) c (λ ty. OfTypeAt ty events p) agrees.finite
        (λ ty listed. of_type-means ty events under c next x p agrees room less only)

    first-means : (f : FieldId) (target : TypeId) (events : List Event) →
        MeansPairs n b (λ next x y. first_child types (whole slots events) next f target x y) (FirstAt f target)
    first-means f target events c next x y p q agrees room less_x less_y only_p only_q =
        sat-three next (has types (at_first slots) next f x) (child next (unwrap_or (child_number types f) 0) x y)
        (lives_in types (at_first slots) next target y) c (HasAt f [] p) (q ≡ child_of (unwrap_or (child_number types f) 0) p) (OfTypeAt target [] q)
        (has-means f [] tt c next x p agrees room less_x only_p)
        (child-means (unwrap_or (child_number types f) 0) c next x y p q agrees room less_x less_y only_p only_q)
        (of_type-means target [] tt c next y q agrees room less_y only_q)

    names-means : (f : FieldId) (target : TypeId) (all events : List Event) → AreEventsBelow n events →
        MeansPairs n b (λ next x y. after next f x (is_in next y) (first_child types (whole slots all) next f target x y) events) (NamesAt f target events)
    names-means f target all [] under c next x y p q agrees room less_x less_y only_p only_q = first-means f target all c next x y p q agrees room less_x
        less_y only_p only_q
    names-means f target all (New g k v ∷ earlier) under c next x y p q agrees room less_x less_y only_p only_q =
        names-means f target all earlier under.1 c next x y p q agrees room less_x less_y only_p only_q
    names-means f target all (Free g u ∷ earlier) under c next x y p q agrees room less_x less_y only_p only_q =
        names-means f target all earlier under.1 c next x y p q agrees room less_x less_y only_p only_q
    names-means f target all (Write g u h z ∷ earlier) under c next x y p q agrees room less_x less_y only_p only_q =
        let old : Formula = after next f x (is_in next y) (first_child types (whole slots all) next f target x y) earlier in
        let now : Formula = and_list next (guard next g ∷ is_in next x u ∷ is_in next y z ∷ []) in
        let kept : Formula = And (Not (is_changed next x g u)) old in
        let so = names-means f target all earlier under.1 c next x y p q agrees room less_x less_y only_p only_q in
        let written = sat-three next (guard next g) (is_in next x u) (is_in next y z) c (IsTaken b g) (InSym u p) (InSym z q)
        (guard-means n b c next g agrees room under.0.0) (in-means u under.0.1 c next x p agrees room less_x only_p)
        (in-means z under.0.2 c next y q agrees room less_y only_q) in
        let stays = sat-and (Not (is_changed next x g u)) old c (IsChangedAt g u p → ⊥) (NamesAt f target earlier p q)
        (sat-not (is_changed next x g u) c (IsChangedAt g u p) (changed-means g u under.0.0 under.0.1 c next x p agrees room less_x only_p)) so in
        sat-chosen (is_field f h) (or now kept) old c
        ((IsTaken b g × InSym u p × InSym z q) ⊎ ((IsChangedAt g u p → ⊥) × NamesAt f target earlier p q)) (NamesAt f target earlier p q)
        (sat-or now kept c (IsTaken b g × InSym u p × InSym z q) ((IsChangedAt g u p → ⊥) × NamesAt f target earlier p q) agrees.finite written stays) so

    kind-means : (f : FieldId) (events : List Event) (kind : FieldKind) → AreEventsBelow n events →
        MeansPairs n b (λ next x y. data_names_in types (whole slots events) next f x y kind) (λ p q. ByKindAt f events p q kind)
    kind-means f events field.Bool under c next x y p q agrees room less_x less_y only_p only_q = sat-false next c
    kind-means f events (field.Pointer target along) under c next x y p q agrees room less_x less_y only_p only_q = sat-false next c
    kind-means f events (field.Data target) under c next x y p q agrees room less_x less_y only_p only_q =
        names-means f target events events under c next x y p q agrees room less_x less_y only_p only_q

    by_data-means : (f : FieldId) (events : List Event) → AreEventsBelow n events →
        MeansPairs n b (λ next x y. names_by_data types (whole slots events) next f x y) (ByDataAt f events)
    by_data-means f events under c next x y p q agrees room less_x less_y only_p only_q =
        sat-option (λ (entry : FieldEntry). data_names_in types (whole slots events) next f x y entry.kind) (false_at next) (field_at types f) c
        (λ entry. ByKindAt f events p q entry.kind) ⊥
        (λ entry. kind-means f events entry.kind under c next x y p q agrees room less_x less_y only_p only_q) (sat-false next c)

    pub edge-means : (events : List Event) → AreEventsBelow n events → MeansPairs n b (edge types (whole slots events)) (EdgeAt events)
    edge-means events under c next x y p q agrees room less_x less_y only_p only_q =
        sat-three next (is_live types (whole slots events) next x) (is_live types (whole slots events) next y)
        (or_list next (map (λ f. names_by_data types (whole slots events) next f x y) (fields_of_kind types is_data))) c (AliveAt events p) (AliveAt events q)
        ((f : FieldId) × Contains (fields_of_kind types is_data) f × ByDataAt f events p q)
        (alive-means events under c next x p agrees room less_x only_p) (alive-means events under c next y q agrees room less_y only_q)
        (sat-or_list next (λ f. names_by_data types (whole slots events) next f x y) (fields_of_kind types is_data) c (λ f. ByDataAt f events p q) agrees.finite
        (λ f listed. by_data-means f events under c next x y p q agrees room less_x less_y only_p only_q))
