-- Stores that are seen after one event or one assignment more.
use Rattle.std.proofs.Common.{◌≡◌, ◌≢◌, inl, inr, ℕ, zero, suc, ◌+◌, Bool, true, false, IsSome, IsSomeAnd, IfSome, List, [], ◌∷◌, slice_get, set, Contains}
use Rattle.std.proofs.Common.{Option, Some, None, refl, sym, ap, ap₂, ◌∙◌, subst, arith, length-set, ◌==◌, eqb-true, eq-eqb}
use Rattle.std.proofs.lemmas.Bool.{false≢true}
use Rattle.std.specs.Ordering.{nat_cmp}
use Rattle.std.specs.Option.{option_map_or, option_and_then}
use Rattle.std.specs.FinMap.{FinMap, get, insert, remove}
use Rattle.gta_theory.specs.Assignments.{Position, Assignment}
use Rattle.ws2s_forms.specs.Places.{slot_of}
use Rattle.store_core.specs.declared.ids.CellId.{CellId}
use Rattle.store_core.specs.declared.ids.FieldId.{FieldId}
use Rattle.store_core.specs.declared.ids.TypeId.{TypeId}
use Rattle.store_core.specs.declared.ids.VarId.{VarId}
use Rattle.store_core.specs.declared.ids.VariantId.{VariantId}
use Rattle.store_core.specs.declared.kind.FieldKind.{FieldKind}
use Rattle.store_core.specs.declared.kind.FieldKind.TheVariants as field
use Rattle.store_core.specs.declared.value.Value.{Value}
use Rattle.store_core.specs.declared.value.Value.TheVariants as value
use Rattle.store_core.specs.Tables.{TypeEntry, FieldEntry, VarEntry, KnowsVariant, field_at}
use Rattle.store_core.specs.Stores.{StoreMap, CellEntry, IsLive, Fits, FieldFits, NamesType, cell_of, field_of, field_value, var_value, blank_cell, with_field}
use Rattle.store_core.specs.Stores.{put_cell, set_field, set_var, remove_cell}
use Rattle.store_core.proofs.FittingLemmas.{IfSome-from, IfSome-at, IsSomeAnd-at}
use Rattle.store_laws.proofs.CellLemmas.{get-set_elsewhere}
use Rattle.ws2s_core.specs.declared.track.Track.{Track}
use Rattle.tree_store.proofs.SpotsLemmas.{of-some}
use Rattle.graph_view.specs.declared.view.Sym.{Sym}
use Rattle.graph_view.specs.declared.view.Sym.TheVariants.{Null, At}
use Rattle.graph_view.specs.declared.view.Event.{Event}
use Rattle.graph_view.specs.declared.view.Event.TheVariants.{New, Write, Free}
use Rattle.graph_view.specs.Sights.{var_slots}
use Rattle.graph_view.specs.After.{Standing, IsAt, StandsForCell, StandsFor, IsTaken, IsGuard, guard_of, new_cell, IsSeen}
use Rattle.graph_meaning.specs.Live.Standing.{Sits}
use Rattle.graph_meaning.proofs.live.StandingLemmas.{NewOrOld, new-or-old, old-here}

-- ---- an event that isn't taken

pub seen-passed : (types : List TypeEntry) (vars : List VarEntry) (values : List Sym) (e : Event) (events : List Event) (a : Assignment) (first t : StoreMap)
    (at : Standing) → IsGuard a (guard_of e) → (IsTaken a (guard_of e) → ⊥) → IsSeen types vars values events a first t at →
    IsSeen types vars values (e ∷ events) a first t at
seen-passed types vars values e events a first t at guard passed seen = record {
  start = seen.start;
  stand = seen.stand;
  ends = seen.ends;
  lead = (record { store = seen.ends; at = at }, seen.lead, record { guard = guard; taken = λ taken. absurd (passed taken); passed = λ no. refl });
  cells = seen.cells;
  next = seen.next;
  fits = seen.fits;
  count = seen.count;
  values = seen.values;
}

-- ---- a cell more that stands

-- the cells of sets stand before, so that a new one is none of them
pub stands-grown : (a : Assignment) (t : StoreMap) (at : Standing) (place : Position) (u : Sym) (x : Value) → Sits t at → StandsFor a at u x →
    StandsFor a ((new_cell t, place) ∷ at) u x
stands-grown a t at place Null (value.Bool b) sits stands = absurd stands
stands-grown a t at place (At h) (value.Bool true) sits stands = stands
stands-grown a t at place (At h) (value.Bool false) sits stands = stands
stands-grown a t at place Null (value.Cell None) sits stands = tt
stands-grown a t at place Null (value.Cell (Some c)) sits stands = absurd stands
stands-grown a t at place (At h) (value.Cell None) sits stands = stands
stands-grown a t at place (At h) (value.Cell (Some c)) sits stands =
    let (p, only, here) = stands in (p, only, old-here t at place c p here)
stands-grown a t at place Null (value.Cells cells) sits stands = absurd stands
stands-grown a t at place (At h) (value.Cells cells) sits stands = record {
  each = λ p. (
    (λ on. let (c, inside, here) = (stands.each p).0 on in (c, inside, old-here t at place c p here)),
    (λ (h : (c : CellId) × Contains cells c × IsAt ((new_cell t, place) ∷ at) c p).
        let (c, inside, here) = h in
        (stands.each p).1 (c, inside, by c inside p (new-or-old t at place c p here))),
  );
  all = λ c inside. let (p, here) = stands.all c inside in (p, old-here t at place c p here);
}
  where
    by : (c : CellId) → Contains cells c → (p : Position) → NewOrOld t at place c p → IsAt at c p
    by c inside p (inr old) = old
    by c inside p (inl new) =
        let (q, here) = stands.all c inside in
        let less = sits.below c q here in
        let number : c.0 ≡ t.next = ap (λ (d : CellId). d.0) new.0 in
        let no : ⊥ = omega (arith, less, number) in absurd no

-- ---- a variable gets another value

-- what stands where something was put
put-there : {X : Type 0} (xs : List X) (i : ℕ) (one other : X) → slice_get (set xs i one) i ≡ Some other → one ≡ other
put-there [] i one other e = absurd (cc)
put-there (x ∷ xs) zero one other e = cc
put-there (x ∷ xs) (suc i) one other e = put-there xs i one other e

-- what stands for a variable, after one was put
abbrev PutStands : List Sym → StoreMap → Assignment → Standing → VarId → Sym → Value → VarId → Type 0
PutStands values t a at v u x w = IfSome (slice_get (set values v.0 u) w.0) (λ y. IfSome (slice_get (set t.vars v.0 x) w.0) (StandsFor a at y))

pub seen-assigned : (types : List TypeEntry) (vars : List VarEntry) (values : List Sym) (events : List Event) (a : Assignment) (first t : StoreMap)
    (at : Standing) (v : VarId) (u : Sym) (x : Value) → Fits types vars (set_var t v x) → StandsFor a at u x →
    IsSeen types vars values events a first t at → IsSeen types vars (set values v.0 u) events a first (set_var t v x) at
seen-assigned types vars values events a first t at v u x fits stands seen = record {
  start = seen.start;
  stand = seen.stand;
  ends = seen.ends;
  lead = seen.lead;
  cells = seen.cells;
  next = seen.next;
  fits = fits;
  count = length-set t.vars v.0 x ∙ seen.count ∙ sym (length-set values v.0 u);
  values = λ w. by w (v.0 == w.0) refl;
}
  where
    same : (w : VarId) → w.0 ≡ v.0 → PutStands values t a at v u x w
    same w number =
        IfSome-from (slice_get (set values v.0 u) w.0) (λ y. IfSome (slice_get (set t.vars v.0 x) w.0) (StandsFor a at y)) (λ y y_is.
        IfSome-from (slice_get (set t.vars v.0 x) w.0) (StandsFor a at y) (λ z z_is.
        let u_is : u ≡ y = put values u y (sym (ap (λ n. slice_get (set values v.0 u) n) number) ∙ y_is) in
        let x_is : x ≡ z = put t.vars x z (sym (ap (λ n. slice_get (set t.vars v.0 x) n) number) ∙ z_is) in
        subst (λ q. StandsFor a at q z) u_is (subst (λ q. StandsFor a at u q) x_is stands)))
      where
        put : {X : Type 0} (xs : List X) (one other : X) → slice_get (set xs v.0 one) v.0 ≡ Some other → one ≡ other
        put xs one other e = put-there xs v.0 one other e

    apart : (w : VarId) → w.0 ≢ v.0 → PutStands values t a at v u x w
    apart w other =
        subst (λ o. IfSome o (λ y. IfSome (slice_get (set t.vars v.0 x) w.0) (StandsFor a at y))) (sym (get-set_elsewhere values v.0 w.0 u other))
        (subst (λ o. IfSome (slice_get values w.0) (λ y. IfSome o (StandsFor a at y))) (sym (get-set_elsewhere t.vars v.0 w.0 x other)) (seen.values w))

    by : (w : VarId) (b : Bool) → (v.0 == w.0) ≡ b → PutStands values t a at v u x w
    by w true is = same w (sym (eqb-true v.0 w.0 is))
    by w false is = apart w (λ e. false≢true (sym is ∙ eq-eqb v.0 w.0 (sym e)))

-- ---- a new cell

module _ (types : List TypeEntry) (vars : List VarEntry) (values : List Sym) (events : List Event) (a : Assignment) (first t : StoreMap) (at : Standing)
    (seen : IsSeen types vars values events a first t at) where
  -- the cells are those to which the events lead
  abbrev ends : StoreMap
  ends = seen.ends

  same-new : new_cell ends ≡ new_cell t
  same-new = λ i. record { 0 = sym seen.next i }

  pub seen-made : (k : ℕ) (v : VariantId) (g : Option Track) → KnowsVariant types v → Fits types vars (put_cell t types v) → Sits t at → IsGuard a g →
      IsTaken a g → ((c : CellId) → IsAt at c (slot_of (var_slots vars + k)) → ⊥) →
      IsSeen types vars values (New g k v ∷ events) a first (put_cell t types v) ((new_cell t, slot_of (var_slots vars + k)) ∷ at)
  seen-made k v g known fits sits guard taken empty =
      subst (λ c. IsSeen types vars values (New g k v ∷ events) a first (put_cell t types v) ((c, slot_of (var_slots vars + k)) ∷ at)) same-new (record {
        start = seen.start;
        stand = seen.stand;
        ends = put_cell ends types v;
        lead = (
          record { store = ends; at = at },
          seen.lead,
          record {
            guard = guard;
            taken = λ is_taken. record { known = known; empty = empty; store = refl; at = refl };
            passed = λ no. absurd (no taken);
          },
        );
        cells = ap₂ (λ (cells : FinMap nat_cmp CellEntry) (n : ℕ). insert cells n (blank_cell types v)) seen.cells seen.next;
        next = ap (λ n. n + 1) seen.next;
        fits = fits;
        count = seen.count;
        values = λ w. subst (λ c. IfSome (slice_get values w.0) (λ u. IfSome (var_value t w) (StandsFor a ((c, slot_of (var_slots vars + k)) ∷ at) u)))
            (sym same-new) (grown w);
      })
    where
      grown : (w : VarId) → IfSome (slice_get values w.0) (λ u. IfSome (var_value t w) (StandsFor a ((new_cell t, slot_of (var_slots vars + k)) ∷ at) u))
      grown w =
          IfSome-from (slice_get values w.0) (λ u. IfSome (var_value t w) (StandsFor a ((new_cell t, slot_of (var_slots vars + k)) ∷ at) u)) (λ u u_is.
          IfSome-from (var_value t w) (StandsFor a ((new_cell t, slot_of (var_slots vars + k)) ∷ at) u) (λ x x_is.
          stands-grown a t at (slot_of (var_slots vars + k)) u x sits
          (IfSome-at (var_value t w) (StandsFor a at u) x x_is
          (IfSome-at (slice_get values w.0) (λ y. IfSome (var_value t w) (StandsFor a at y)) u u_is (seen.values w)))))

  -- ---- a field that is written

  same-cell : (c : CellId) → cell_of t c ≡ cell_of ends c
  same-cell c = ap (λ (m : FinMap nat_cmp CellEntry). get m c.0) seen.cells

  pub seen-written : (g : Option Track) (u : Sym) (f : FieldId) (w : Sym) (c : CellId) (x : Value) → Fits types vars (set_field t c f x) → IsGuard a g →
      IsTaken a g → StandsForCell a at u (Some c) → IsSome (field_value t c f) → IsSomeAnd (field_at types f) (λ entry. FieldFits t entry.kind x) →
      StandsFor a at w x → IsSeen types vars values (Write g u f w ∷ events) a first (set_field t c f x) at
  seen-written g u f w c x fits guard taken names has_f field_fits stands = record {
    start = seen.start;
    stand = seen.stand;
    ends = set_field ends c f x;
    lead = (
      record { store = ends; at = at },
      seen.lead,
      record {
        guard = guard;
        taken = λ is_taken. record {
          cell = c;
          names = names;
          has = subst (λ o. IsSome (option_and_then (λ (e : CellEntry). field_of e f) o)) (same-cell c) has_f;
          value = x;
          fits = field-fits;
          stands = stands;
          store = refl;
          at = refl;
        };
        passed = λ no. absurd (no taken);
      },
    );
    cells = ap (λ (cells : FinMap nat_cmp CellEntry). option_map_or (λ (e : CellEntry). insert cells c.0 (with_field e f x)) (get cells c.0) cells) seen.cells;
    next = seen.next;
    fits = fits;
    count = seen.count;
    values = seen.values;
  }
    where
      -- what fits depends on the cells alone
      fits-on : (kind : FieldKind) → FieldFits t kind x → FieldFits ends kind x
      fits-on kind h = by kind x h
        where
          name : (target : TypeId) (o : Option CellId) → IfSome o (NamesType t target) → IfSome o (NamesType ends target)
          name target None h = tt
          name target (Some d) h = subst (λ o. IfSome o (λ (e : CellEntry). e.variant.ty ≡ target)) (same-cell d) h

          by : (kind : FieldKind) (y : Value) → FieldFits t kind y → FieldFits ends kind y
          by field.Bool (value.Bool b) h = tt
          by field.Bool (value.Cell o) h = absurd h
          by field.Bool (value.Cells cells) h = absurd h
          by (field.Data target) (value.Bool b) h = absurd h
          by (field.Data target) (value.Cell o) h = name target o h
          by (field.Data target) (value.Cells cells) h = absurd h
          by (field.Pointer target along) (value.Bool b) h = absurd h
          by (field.Pointer target along) (value.Cell o) h = name target o h
          by (field.Pointer target along) (value.Cells cells) h = absurd h

      field-fits : IsSomeAnd (field_at types f) (λ entry. FieldFits ends entry.kind x)
      field-fits =
          let (entry, there, fit) = IsSomeAnd-at (field_at types f) (λ (e : FieldEntry). FieldFits t e.kind x) field_fits in
          of-some (λ (e : FieldEntry). FieldFits ends e.kind x) (field_at types f) entry there (fits-on entry.kind fit)

  -- ---- a cell that is freed

  pub seen-freed : (g : Option Track) (u : Sym) (c : CellId) → Fits types vars (remove_cell t c) → IsGuard a g → IsTaken a g →
      StandsForCell a at u (Some c) → IsLive t c → IsSeen types vars values (Free g u ∷ events) a first (remove_cell t c) at
  seen-freed g u c fits guard taken names live = record {
    start = seen.start;
    stand = seen.stand;
    ends = remove_cell ends c;
    lead = (
      record { store = ends; at = at },
      seen.lead,
      record {
        guard = guard;
        taken = λ is_taken. record { cell = c; names = names; live = subst IsSome (same-cell c) live; store = refl; at = refl };
        passed = λ no. absurd (no taken);
      },
    );
    cells = ap (λ (cells : FinMap nat_cmp CellEntry). remove cells c.0) seen.cells;
    next = seen.next;
    fits = fits;
    count = seen.count;
    values = seen.values;
  }
