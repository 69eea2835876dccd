-- Trees, leaks, shared cells and destinations are decided, and what shows that a store isn't well-formed.
use Rattle.std.proofs.Common.{◌≡◌, ◌⊎◌, inl, inr, List, length, Option, Some, None, IsSome, IsSomeAnd, refl, sym, subst, Contains}
use Rattle.std.proofs.lemmas.Bool.{false≢true}
use Rattle.store_core.specs.declared.ids.FieldId.{FieldId}
use Rattle.store_core.specs.declared.ids.VarId.{VarId}
use Rattle.store_core.specs.declared.ids.CellId.{CellId}
use Rattle.store_core.specs.declared.kind.FieldKind.{FieldKind}
use Rattle.store_core.specs.declared.kind.FieldKind.TheVariants as field
use Rattle.store_core.specs.declared.kind.VarKind.{VarKind}
use Rattle.store_core.specs.declared.kind.VarKind.TheVariants as var
use Rattle.store_core.specs.declared.value.Value.{Value}
use Rattle.store_core.specs.declared.value.Value.TheVariants as value
use Rattle.store_core.specs.Tables.{TypeEntry, VarEntry, field_at, var_at}
use Rattle.store_core.specs.Stores.{StoreMap, IsLive, CellEntry, cell_of, field_value, var_value, Fits}
use Rattle.store_core.proofs.FittingLemmas.{IfSome-from, IsSomeAnd-at, var_at_value, slot_at_value}
use Rattle.routing_walks.specs.declared.fault.Place.{Place}
use Rattle.routing_walks.specs.declared.fault.Place.TheVariants as place
use Rattle.routing_walks.specs.Walks.{DataAlone, IsParent, Chain, stay, go}
use Rattle.routing_walks.specs.Destinations.{EndsKind, Dest, IsOnlyDestination, IsPointer}
use Rattle.routing_walks.specs.WellFormed.{value_at, IsDataVar, IsDataPlace, Names, IsInTree, NamesDead, HoldsDead, IsDanglingReference, IsDangling, IsThere}
use Rattle.routing_walks.specs.WellFormed.{IsShared, IsLeaked, IsWrongField, IsWellFormed, IsRightField}
use Rattle.routing_walks.specs.declared.fault.CutFault.{CutFault}
use Rattle.routing_walks.specs.declared.fault.CutFault.TheVariants as fault
use Rattle.routing_walks.specs.CutFaults.{HasDanglingReference, HasShared, HasWrongField, IsSound, IsFirstCutFault}
use Rattle.routing_walks.specs.Reaching.{IsInSomeTree}
use Rattle.routing_walks.specs.Sets.{Lists}
use Rattle.routing_walks.specs.Regions.{IsReachedFrom, IsPart, IsOutside, IsRest}
use Rattle.routing_walks.proofs.LiveLemmas.{IsParent-live, IsSome-and, IsOfType-live, IsLive-field_value, Chain-live}
use Rattle.routing_walks.proofs.TreeLemmas.{IsInTree-live, IsInTree-child}
use Rattle.routing_walks.proofs.FaultLemmas.{place_cases, no_reference, no_shared, no_leak, no_wrong_field, no_dangling, backbone_from, well_formed_from}
use Rattle.routing_walks.specs.Deciding.{Decided}
use Rattle.routing_walks.specs.Shown.{HasFault, dangling, shared, leaked, wrong, HasLeakSet, HasOther, HasDest, ShowsWrong}
use Rattle.routing_walks.specs.Shown.{HasCause, at_reference, at_shared, at_leak, at_field}
use Rattle.routing_walks.proofs.DecidedLemmas.{decided_as, decided_both, decided_either, decided_not, holds_from, decided_some, decided_there}
use Rattle.routing_walks.proofs.DecidedLemmas.{decided_in, decided_one_of, decided_below}
use Rattle.routing_walks.proofs.DecidedWalks.{decided_cell, listed, decided_same_cell, decided_reference, decided_followed, within, decided_field}
use Rattle.routing_walks.proofs.DecidedWalks.{decided_live, decided_parent, decided_of_type, decided_steps, decided_walk}

decided_data_var : (kind : VarKind) → Decided (IsDataVar kind)
decided_data_var var.Bool = inr (λ h. h)
decided_data_var (var.Data target) = inl tt
decided_data_var (var.Pointer target) = inr (λ h. h)
decided_data_var (var.LogicSet target) = inr (λ h. h)
decided_data_var var.LogicBool = inr (λ h. h)

decided_pointer : (kind : FieldKind) → Decided (IsPointer kind)
decided_pointer field.Bool = inr (λ h. h)
decided_pointer (field.Data target) = inr (λ h. h)
decided_pointer (field.Pointer target along) = inl tt

module _ (types : List TypeEntry) (vars : List VarEntry) (s : StoreMap) where
  -- ---- places

  decided_data_place : (p : Place) → Decided (IsDataPlace types vars p)
  decided_data_place (place.Var v) = decided_some (var_at vars v) _ (λ entry. decided_data_var entry.kind)
  decided_data_place (place.Field c f) = decided_some (field_at types f) _ (λ entry. decided_followed DataAlone entry.kind)

  pub decided_names : (p : Place) (c : CellId) → Decided (Names types vars s p c)
  decided_names p c = decided_as (λ h. record { place = h.0; value = h.1 }) (λ h. (h.place, h.value))
      (decided_both (decided_data_place p) (decided_reference (value_at s p) c))

  -- one of the variables of the table
  decided_var : (P : VarId → Type 0) → ((v : VarId) → Decided (P v)) → ((v : VarId) → P v → IsSome (var_at vars v)) → Decided ((v : VarId) × P v)
  decided_var P each there = decided_as (λ h. (record { 0 = h.0 }, h.2)) (λ h. (h.0.0, within vars h.0.0 (there h.0 h.1), h.1))
      (decided_below (λ n. P (record { 0 = n })) (λ n. each (record { 0 = n })) (length vars))

  -- a place of a variable of the table, or of a field of the table of a live cell
  IsKnown : Place → Type 0
  IsKnown (place.Var v) = IsSome (var_at vars v)
  IsKnown (place.Field c f) = IsLive s c × IsSome (field_at types f)

  -- one of these places
  decided_place : (P : Place → Type 0) → ((p : Place) → Decided (P p)) → ((p : Place) → P p → IsKnown p) → Decided ((p : Place) × P p)
  unfolding IsKnown
  decided_place P each known = decided_as
      (λ h. elim h [ inl v ↦ (place.Var v.0, v.1) | inr c ↦ (place.Field c.0 c.1.0, c.1.1) ])
      (λ h. split h.0 h.1)
      (decided_either
      (decided_var (λ v. P (place.Var v)) (λ v. each (place.Var v)) (λ v h. known (place.Var v) h))
      (decided_cell s (λ c. (f : FieldId) × P (place.Field c f))
      (λ c. decided_field types (λ f. P (place.Field c f)) (λ f. each (place.Field c f)) (λ f h. (known (place.Field c f) h).1))
      (λ c h. (known (place.Field c h.0) h.1).0)))
    where
      split : (p : Place) → P p → ((v : VarId) × P (place.Var v)) ⊎ ((c : CellId) × ((f : FieldId) × P (place.Field c f)))
      split (place.Var v) h = inl (v, h)
      split (place.Field c f) h = inr (c, (f, h))

  known_name : (p : Place) (c : CellId) → Names types vars s p c → IsKnown p
  unfolding IsKnown
  known_name (place.Var v) c h = IsSome-and (var_at vars v) _ h.place
  known_name (place.Field d f) c h = (IsLive-field_value s d f _ h.value, IsSome-and (field_at types f) _ h.place)

  -- ---- trees

  pub decided_tree : (v : VarId) (c : CellId) → Decided (IsInTree types vars s v c)
  decided_tree v c = decided_as
      (λ h. record { root = h.0; named = h.1.0; path = h.1.1 })
      (λ h. (h.root, (h.named, h.path)))
      (decided_cell s (λ root. Names types vars s (place.Var v) root × Chain s (IsParent types s) root c)
      (λ root. decided_both (decided_names (place.Var v) root)
      (decided_steps types s (IsParent types s) (IsParent-live types s) (decided_parent types s) root c))
      (λ root h. (Chain-live (IsParent-live types s) h.1).0))

  pub decided_some_tree : (c : CellId) → Decided (IsInSomeTree types vars s c)
  decided_some_tree c = decided_as
      (λ h. record { var = h.0; in_tree = h.1 })
      (λ h. (h.var, h.in_tree))
      (decided_var (λ v. IsInTree types vars s v c) (λ v. decided_tree v c) (λ v h. IsSome-and (var_at vars v) _ h.named.place))

  pub decided_reached : (roots : List VarId) (c : CellId) → Decided (IsReachedFrom types vars s roots c)
  decided_reached roots c = decided_as
      (λ h. record { root = h.0; listed = h.1; in_tree = h.2 })
      (λ h. (h.root, h.listed, h.in_tree))
      (decided_one_of (λ v. IsInTree types vars s v c) (λ v. decided_tree v c) roots)

  -- the cells reached from listed variables, as a list
  pub part_of : (roots : List VarId) → (cells : List CellId) × IsPart types vars s roots cells
  part_of roots = listed s (IsReachedFrom types vars s roots) (decided_reached roots) (λ c h. IsInTree-live types vars s h.root c h.in_tree)

  -- ---- leaked and shared cells

  pub decided_leaked : (c : CellId) → Decided (IsLeaked types vars s c)
  decided_leaked c = decided_as
      (λ h. record { live = h.0; unreached = λ v t. h.1 (record { var = v; in_tree = t }) })
      (λ h. (h.live, λ t. h.unreached t.var t.in_tree))
      (decided_both (decided_live types s c) (decided_not (decided_some_tree c)))

  pub decided_shared : (c : CellId) → Decided (IsShared types vars s c)
  decided_shared c = decided_as
      (λ h. record { live = h.0; one = h.1.0; other = h.1.1.0; apart = h.1.1.1.1; by_one = h.1.1.1.0.0; by_other = h.1.1.1.0.1 })
      (λ h. (h.live, (h.one, (h.other, ((h.by_one, h.by_other), h.apart)))))
      (decided_both (decided_live types s c)
      (decided_place (λ p. (q : Place) × ((Names types vars s p c × Names types vars s q c) × (p ≡ q → ⊥)))
      (λ p. decided_place (λ q. (Names types vars s p c × Names types vars s q c) × (p ≡ q → ⊥))
      (λ q. decided_both (decided_both (decided_names p c) (decided_names q c)) (decided_not (place_cases p q)))
      (λ q h. known_name q c h.0.1))
      (λ p h. known_name p c h.1.0.0)))

  -- a cell in no tree is shown by the cells in the trees
  pub leak_set : (c : CellId) → IsLeaked types vars s c → HasLeakSet types vars s c
  leak_set c h =
      let cells = listed s (IsInSomeTree types vars s) decided_some_tree (λ d t. IsInTree-live types vars s t.var d t.in_tree) in
      record {
        cells = cells.0;
        shows = record {
          live = h.live;
          rising = cells.1.rising;
          roots = λ v root live names. (cells.1.members root).1
              (record { var = v; in_tree = record { root = root; named = names; path = stay root live } });
          closed = λ a b m p. let t = (cells.1.members a).0 m in
              (cells.1.members b).1 (record { var = t.var; in_tree = IsInTree-child types vars s t.var a b t.in_tree p });
          without = λ m. let t = (cells.1.members c).0 m in h.unreached t.var t.in_tree;
        };
      }

  stays_in : (cells : List CellId) → ((a b : CellId) → Contains cells a → IsParent types s a b → Contains cells b) → {a c : CellId} →
      Chain s (IsParent types s) a c → Contains cells a → Contains cells c
  stays_in cells closed (stay a live) m = m
  stays_in cells closed (go a b c step chain) m = stays_in cells closed chain (closed a b m step)

  pub set_leaks : (c : CellId) → HasLeakSet types vars s c → IsLeaked types vars s c
  set_leaks c h = record {
    live = h.shows.live;
    unreached = λ v t. h.shows.without (stays_in h.cells h.shows.closed t.path
        (h.shows.roots v t.root (Chain-live (IsParent-live types s) t.path).0 t.named));
  }

-- ---- destinations

module _ (types : List TypeEntry) (s : StoreMap) where
  decided_ends : (kind : FieldKind) (c d : CellId) → Decided (EndsKind types s kind c d)
  decided_ends field.Bool c d = inr (λ h. h)
  decided_ends (field.Data target) c d = inr (λ h. h)
  decided_ends (field.Pointer target along) c d = decided_as (λ h. record { walk = h.0; of_target = h.1 }) (λ h. (h.walk, h.of_target))
      (decided_both (decided_walk types s DataAlone along c d) (decided_of_type types s target d))

  pub decided_dest : (c : CellId) (f : FieldId) (d : CellId) → Decided (Dest types s c f d)
  decided_dest c f d = decided_some (field_at types f) _ (λ entry. decided_ends entry.kind c d)

  ends_live : (kind : FieldKind) (c d : CellId) → EndsKind types s kind c d → IsLive s d
  ends_live field.Bool c d h = absurd h
  ends_live (field.Data target) c d h = absurd h
  ends_live (field.Pointer target along) c d h = IsOfType-live types s target d h.of_target

  pub dest_live : (c : CellId) (f : FieldId) (d : CellId) → Dest types s c f d → IsLive s d
  dest_live c f d h = let entry = IsSomeAnd-at (field_at types f) _ h in ends_live entry.0.kind c d entry.2

  pub dests : (c : CellId) (f : FieldId) → (cells : List CellId) × Lists (Dest types s c f) cells
  dests c f = listed s (Dest types s c f) (decided_dest c f) (dest_live c f)

  has_dest : (c : CellId) (f : FieldId) → Decided (HasDest types s c f)
  has_dest c f = decided_as (λ h. record { cell = h.0; dest = h.1 }) (λ h. (h.cell, h.dest))
      (decided_cell s (Dest types s c f) (decided_dest c f) (dest_live c f))

  has_other : (c : CellId) (f : FieldId) (d : CellId) → Decided (HasOther types s c f d)
  has_other c f d = decided_as (λ h. record { other = h.0; apart = h.1.1; dest = h.1.0 }) (λ h. (h.other, (h.dest, h.apart)))
      (decided_cell s (λ e. Dest types s c f e × (e ≡ d → ⊥)) (λ e. decided_both (decided_dest c f e) (decided_not (decided_same_cell e d)))
      (λ e h. dest_live c f e h.0))

  only_from : (c : CellId) (f : FieldId) (d : CellId) → (HasOther types s c f d → ⊥) → (e : CellId) → Dest types s c f e → e ≡ d
  only_from c f d none e dest = holds_from (decided_same_cell e d) (λ apart. none (record { other = e; apart = apart; dest = dest }))

  -- it is the only destination, or something shows that it isn't
  pub only_or_shown : (c : CellId) (f : FieldId) (x : Value) → IsOnlyDestination types s c f x ⊎ ShowsWrong types s c f x
  only_or_shown c f (value.Bool truth) = inr tt
  only_or_shown c f (value.Cell None) = elim (has_dest c f) [ inl h ↦ inr h | inr none ↦ inl (λ d h. none (record { cell = d; dest = h })) ]
  only_or_shown c f (value.Cell (Some d)) = elim (decided_dest c f d) [
    | inl here ↦ elim (has_other c f d) [ inl h ↦ inr (inr h) | inr none ↦ inl (here, only_from c f d none) ]
    | inr never ↦ inr (inl never)
  ]
  only_or_shown c f (value.Cells cells) = inr tt

  pub shown_not_only : (c : CellId) (f : FieldId) (x : Value) → ShowsWrong types s c f x → IsOnlyDestination types s c f x → ⊥
  shown_not_only c f (value.Bool truth) h only = only
  shown_not_only c f (value.Cell None) h only = only h.cell h.dest
  shown_not_only c f (value.Cell (Some d)) (inl never) only = never only.0
  shown_not_only c f (value.Cell (Some d)) (inr h) only = h.apart (only.1 h.other h.dest)
  shown_not_only c f (value.Cells cells) h only = only

  pub decided_only : (c : CellId) (f : FieldId) (x : Value) → Decided (IsOnlyDestination types s c f x)
  decided_only c f x = elim (only_or_shown c f x) [ inl h ↦ inl h | inr h ↦ inr (shown_not_only c f x h) ]

  -- a pointer field is wrong where this holds of its value
  pub decided_wrong : (c : CellId) (f : FieldId) → Decided (IsWrongField types s c f)
  decided_wrong c f = decided_as (λ h. record { kind = h.0; wrong = h.1 }) (λ h. (h.kind, h.wrong))
      (decided_both (decided_some (field_at types f) _ (λ entry. decided_pointer entry.kind))
      (decided_some (field_value s c f) _ (λ x. decided_not (decided_only c f x))))

  right_from : (c : CellId) (f : FieldId) → (IsWrongField types s c f → ⊥) → IsRightField types s c f
  right_from c f never pointer = IfSome-from (field_value s c f) (IsOnlyDestination types s c f)
      (λ x at. holds_from (decided_only c f x) (λ wrong. never
      (record { kind = pointer; wrong = subst (λ o. IsSomeAnd o (λ y. IsOnlyDestination types s c f y → ⊥)) (sym at) wrong })))

-- ---- faults

dead_cell : (o : Option CellEntry) → Decided (o ≡ None)
dead_cell None = inl refl
dead_cell (Some cell) = inr (λ e. cc)

module _ (s : StoreMap) where
  names_dead : (x : Value) → Decided (NamesDead s x)
  names_dead (value.Bool truth) = inr (λ h. h)
  names_dead (value.Cell c) = decided_some c _ (λ cell. dead_cell (cell_of s cell))
  names_dead (value.Cells cells) = inr (λ h. h)

  holds_dead : (x : Value) → Decided (HoldsDead s x)
  holds_dead (value.Bool truth) = inr (λ h. h)
  holds_dead (value.Cell c) = inr (λ h. h)
  holds_dead (value.Cells cells) = decided_as (λ h. (h.1.0, h.0, h.1.1, h.1.2, h.2)) (λ h. (h.1, (h.0, h.2, h.3), h.4))
      (decided_one_of (λ cell. cell_of s cell ≡ None) (λ cell. dead_cell (cell_of s cell)) cells)

  pub decided_reference_dangles : (p : Place) → Decided (IsDanglingReference s p)
  decided_reference_dangles p = decided_some (value_at s p) _ names_dead

  pub decided_dangles : (p : Place) → Decided (IsDangling s p)
  decided_dangles p = decided_either (decided_reference_dangles p) (decided_some (value_at s p) _ holds_dead)

module _ (types : List TypeEntry) (vars : List VarEntry) (s : StoreMap) (fits : Fits types vars s) where
  -- where a value stands, the tables know the place
  known : (p : Place) → IsThere s p → IsKnown types vars s p
  unfolding IsKnown
  known (place.Var v) there = var_known (var_value s v) refl there
    where
      var_known : (o : Option Value) → var_value s v ≡ o → IsSome o → IsSome (var_at vars v)
      var_known None at h = absurd (false≢true h)
      var_known (Some x) at h = let entry = var_at_value types vars s fits v x at in subst IsSome (sym entry.at) refl
  known (place.Field c f) there = field_known (field_value s c f) refl there
    where
      field_known : (o : Option Value) → field_value s c f ≡ o → IsSome o → IsLive s c × IsSome (field_at types f)
      field_known None at h = absurd (false≢true h)
      field_known (Some x) at h = let entry = slot_at_value types vars s fits c f x at in
          (IsLive-field_value s c f x at, subst IsSome (sym entry.at) refl)

  some_dangles : Decided ((p : Place) × IsDangling s p)
  some_dangles = decided_place types vars s (IsDangling s) (decided_dangles s)
      (λ p h. known p (elim h [ inl d ↦ IsSome-and (value_at s p) _ d | inr d ↦ IsSome-and (value_at s p) _ d ]))

  some_reference_dangles : Decided ((p : Place) × IsDanglingReference s p)
  some_reference_dangles = decided_place types vars s (IsDanglingReference s) (decided_reference_dangles s) (λ p h. known p (IsSome-and (value_at s p) _ h))

  some_shared : Decided ((c : CellId) × IsShared types vars s c)
  some_shared = decided_cell s (IsShared types vars s) (decided_shared types vars s) (λ c h. h.live)

  some_leaked : Decided ((c : CellId) × IsLeaked types vars s c)
  some_leaked = decided_cell s (IsLeaked types vars s) (decided_leaked types vars s) (λ c h. h.live)

  some_wrong : Decided ((c : CellId) × ((f : FieldId) × IsWrongField types s c f))
  some_wrong = decided_cell s (λ c. (f : FieldId) × IsWrongField types s c f)
      (λ c. decided_field types (IsWrongField types s c) (decided_wrong types s c) (λ f h. IsSome-and (field_at types f) _ h.kind))
      (λ c h. let at = IsSomeAnd-at (field_value s c h.0) _ h.1.wrong in IsLive-field_value s c h.0 at.0 at.1)

  in_a_tree : (((c : CellId) × IsLeaked types vars s c) → ⊥) → (c : CellId) → IsLive s c → IsInSomeTree types vars s c
  in_a_tree none c live = holds_from (decided_some_tree types vars s c)
      (λ lost. none (c, record { live = live; unreached = λ v t. lost (record { var = v; in_tree = t }) }))

  pub well_formed_or_fault : IsWellFormed types vars s ⊎ HasFault types vars s
  well_formed_or_fault = elim some_dangles [
    | inl d ↦ inr (dangling d.0 d.1)
    | inr none ↦ elim some_shared [
      | inl c ↦ inr (shared c.0 c.1)
      | inr single ↦ elim some_leaked [
        | inl c ↦ inr (leaked c.0 c.1)
        | inr kept ↦ elim some_wrong [
          | inl c ↦ inr (wrong c.0 c.1.0 c.1.1)
          | inr right ↦ inl (well_formed_from types vars s fits (λ p h. none (p, h)) (λ c h. single (c, h)) (in_a_tree kept)
              (λ c f. right_from types s c f (λ h. right (c, (f, h)))))
        ]
      ]
    ]
  ]

  pub no_fault : IsWellFormed types vars s → HasFault types vars s → ⊥
  no_fault is (dangling p h) = no_dangling types vars s fits is p h
  no_fault is (shared c h) = no_shared types vars s fits is.backbone is.pointers c h
  no_fault is (leaked c h) = no_leak types vars s fits is.backbone is.pointers c h
  no_fault is (wrong c f h) = no_wrong_field types vars s fits is.backbone is.pointers c f h

  pub sound_or_cause : IsSound types vars s ⊎ HasCause types vars s
  sound_or_cause = elim some_reference_dangles [
    | inl d ↦ inr (at_reference d.0 d.1)
    | inr none ↦ elim some_shared [
      | inl c ↦ inr (at_shared c.0 c.1)
      | inr single ↦ elim some_leaked [
        | inl c ↦ inr (at_leak c.0 c.1)
        | inr kept ↦ elim some_wrong [
          | inl c ↦ inr (at_field c.0 c.1.0 c.1.1)
          | inr right ↦ inl (record {
            backbone = backbone_from types vars s fits (λ p h. none (p, h)) (λ c h. single (c, h)) (in_a_tree kept);
            pointers = λ c f. right_from types s c f (λ h. right (c, (f, h)));
          })
        ]
      ]
    ]
  ]

  -- of the causes one comes first
  pub first_cause : HasCause types vars s → (cause : CutFault) × IsFirstCutFault types vars s cause
  first_cause has = elim some_reference_dangles [
    | inl d ↦ (fault.DanglingReference, record { place = d.0; dangling = d.1 })
    | inr none ↦ let no_reference_dangles : HasDanglingReference s → ⊥ = λ h. none (h.place, h.dangling) in elim some_shared [
      | inl c ↦ (fault.Shared, (no_reference_dangles, record { cell = c.0; shared = c.1 }))
      | inr single ↦ let no_cell_is_shared : HasShared types vars s → ⊥ = λ h. single (h.cell, h.shared) in elim some_leaked [
        | inl c ↦ (fault.Leak, (no_reference_dangles, no_cell_is_shared, record { cell = c.0; leaked = c.1 }))
        | inr kept ↦ (
          fault.Field,
          (
            no_reference_dangles,
            no_cell_is_shared,
            λ h. kept (h.cell, h.leaked),
            wrong_field (λ p d. none (p, d)) (λ c h. single (c, h)) (λ c h. kept (c, h)) has,
          ),
        )
      ]
    ]
  ]
    where
      wrong_field : ((p : Place) → IsDanglingReference s p → ⊥) → ((c : CellId) → IsShared types vars s c → ⊥) →
          ((c : CellId) → IsLeaked types vars s c → ⊥) → HasCause types vars s → HasWrongField types s
      wrong_field none single kept (at_reference p h) = absurd (none p h)
      wrong_field none single kept (at_shared c h) = absurd (single c h)
      wrong_field none single kept (at_leak c h) = absurd (kept c h)
      wrong_field none single kept (at_field c f h) = record { cell = c; field = f; wrong = h }

  pub no_cause : IsSound types vars s → HasCause types vars s → ⊥
  no_cause is (at_reference p h) = no_reference types vars s fits is.backbone is.pointers p h
  no_cause is (at_shared c h) = no_shared types vars s fits is.backbone is.pointers c h
  no_cause is (at_leak c h) = no_leak types vars s fits is.backbone is.pointers c h
  no_cause is (at_field c f h) = no_wrong_field types vars s fits is.backbone is.pointers c f h

-- the rest of a set, as a list
pub rest_of : (s : StoreMap) (cells : List CellId) → (rest : List CellId) × IsRest s cells rest
rest_of s cells = listed s (IsOutside s cells)
    (λ c. decided_both (decided_there (cell_of s c)) (decided_not (decided_in decided_same_cell cells c))) (λ c h. h.0)
