-- What a search from data variables along the data fields has reached.
use Rattle.std.proofs.Common.{◌≡◌, ◌⊎◌, ◌↔◌, ℕ, zero, suc, ◌+◌, ◌<◌, ◌≤◌, List, [], ◌∷◌, ◌++◌, length, slice_get, Some, IsSomeAnd, refl, sym, ap, ◌∙◌}
use Rattle.std.proofs.Common.{subst, arith, inl, inr}
use Rattle.std.specs.Prelude.{option_map, Contains}
use Rattle.std.specs.List.{AllByRecursion}
use Rattle.std.specs.FinMap.{keys}
use Rattle.std.proofs.lemmas.Bool.{cases_lt}
use Rattle.std.proofs.lemmas.Option.{same_Some, slice_get_within, slice_get-get_or, get_or_from_slice_get}
use Rattle.store_core.specs.declared.ids.TypeId.{TypeId}
use Rattle.store_core.specs.declared.ids.VarId.{VarId}
use Rattle.store_core.specs.declared.ids.FieldId.{FieldId}
use Rattle.store_core.specs.declared.ids.CellId.{CellId}
use Rattle.store_core.specs.Tables.{TypeEntry, VarEntry, fields_of}
use Rattle.store_core.specs.Stores.{StoreMap, CellEntry, IsLive, cell_of}
use Rattle.store_core.proofs.Rising.{AreRising-push}
use Rattle.store_core.proofs.FreshLemmas.{AllByRecursion-from}
use Rattle.routing_walks.specs.declared.fault.Place.TheVariants as place
use Rattle.routing_walks.specs.Walks.{DataAlone, IsParent, Chain, stay, go}
use Rattle.routing_walks.specs.WellFormed.{Names}
use Rattle.routing_walks.specs.Regions.{IsReachedFrom, IsPart}
use Rattle.routing_walks.specs.Sets.{Lists, Has}
use Rattle.routing_walks.specs.Reaching.{IsUnreached}
use Rattle.routing_expr.specs.declared.reach.Reach.{Reach}
use Rattle.routing_expr.specs.Reached.{IsRootCell, IsChild, Reaches, IsReach}
use Rattle.std.proofs.lemmas.List.Elements.{Contains-push, Contains-push_cases, Contains-append_left}
use Rattle.routing_walks.proofs.LiveLemmas.{Leads-live, IsParent-live, Chain-live}
use Rattle.routing_walks.proofs.KeyLemmas.{keys-rise, key_of_live, live_of_key}
use Rattle.routing_walks.proofs.TreeLemmas.{Names-there}
use Rattle.routing_expr.proofs.PlaceLemmas.{typed, the_field}

-- one of the first of these data variables, as many as this, names the cell
pub record IsRootBelow (types : List TypeEntry) (vars : List VarEntry) (s : StoreMap) (roots : List VarId) (n : ℕ) (c : CellId) : Type 0 where
  pub spot : ℕ
  pub below : spot < n
  pub var : VarId
  pub at : slice_get roots spot ≡ Some var
  pub names : Names types vars s (place.Var var) c

-- a data field of the parent with a number below this names the cell
pub record IsChildBelow (types : List TypeEntry) (vars : List VarEntry) (s : StoreMap) (parent : CellId) (n : ℕ) (c : CellId) : Type 0 where
  pub field : FieldId
  pub below : field.index < n
  pub names : Names types vars s (place.Field parent field) c

-- one of the first live cells by number, as many as this
pub record IsOneOfFirst (s : StoreMap) (n : ℕ) (c : CellId) : Type 0 where
  pub place : ℕ
  pub below : place < n
  pub at : slice_get (keys s.cells) place ≡ Some c.0

-- nothing is named
pub reaches_none : (IsNamed : CellId → Type 0) (reach : Reach) → ((c : CellId) → IsNamed c → ⊥) → Reaches IsNamed reach reach
reaches_none IsNamed reach none = record {
  was_left = λ c h. h;
  unnamed = λ c h n. none c n;
  taken = λ c h. inl h;
  waits = λ c h. h;
  came = λ c h. inl h;
  size = refl;
}

-- the same is named
pub reaches_alike : (P Q : CellId → Type 0) (old new : Reach) → ((c : CellId) → P c ↔ Q c) → Reaches P old new → Reaches Q old new
reaches_alike P Q old new alike h = record {
  was_left = h.was_left;
  unnamed = λ c k n. h.unnamed c k ((alike c).1 n);
  taken = h.taken;
  waits = h.waits;
  came = λ c k. elim (h.came c k) [ inl o ↦ inl o | inr n ↦ inr (n.0, (alike c).0 n.1) ];
  size = h.size;
}

-- one after the other
pub reaches_both : (P Q : CellId → Type 0) (old mid new : Reach) → Reaches P old mid → Reaches Q mid new → Reaches (λ c. P c ⊎ Q c) old new
reaches_both P Q old mid new h k = record {
  was_left = λ c l. h.was_left c (k.was_left c l);
  unnamed = λ c l n. elim n [ inl p ↦ h.unnamed c (k.was_left c l) p | inr q ↦ k.unnamed c l q ];
  taken = λ c l. elim (h.taken c l) [ inl m ↦ k.taken c m | inr w ↦ inr (k.waits c w) ];
  waits = λ c w. k.waits c (h.waits c w);
  came = λ c w. elim (k.came c w) [
    | inl m ↦ elim (h.came c m) [ inl o ↦ inl o | inr n ↦ inr (n.0, inl n.1) ]
    | inr n ↦ inr (h.was_left c n.0, inr n.1)
  ];
  size = k.size ∙ h.size;
}

-- ---- what is named, one place after the other

module _ (types : List TypeEntry) (vars : List VarEntry) (s : StoreMap) where
  pub root_step : (roots : List VarId) (n : ℕ) (v : VarId) → slice_get roots n ≡ Some v → (c : CellId) →
      (IsRootBelow types vars s roots n c ⊎ Names types vars s (place.Var v) c) ↔ IsRootBelow types vars s roots (n + 1) c
  root_step roots n v at c = (
    λ h. elim h [
      | inl old ↦ record { spot = old.spot; below = omega (arith, old.below); var = old.var; at = old.at; names = old.names }
      | inr new ↦ record { spot = n; below = omega arith; var = v; at = at; names = new }
    ],
    λ h. elim (cases_lt h.spot n) [
      | inl less ↦ inl (record { spot = h.spot; below = less; var = h.var; at = h.at; names = h.names })
      | inr more ↦
          let here : h.spot ≡ n = omega (arith, h.below) in
          let same : h.var ≡ v = same_Some h.var v (sym h.at ∙ ap (λ k. slice_get roots k) here ∙ at) in
          inr (subst (λ w. Names types vars s (place.Var w) c) same h.names)
    ],
  )

  pub known_within : {X : Type 0} (xs : List X) (i : ℕ) (P : X → Type 0) → IsSomeAnd (slice_get xs i) P → i < length xs
  known_within [] i P h = absurd h
  known_within (x ∷ xs) zero P h = omega arith
  known_within (x ∷ xs) (suc i) P h = let rest = known_within xs i P h in omega arith

  pub roots_all : (roots : List VarId) (n : ℕ) → length roots ≤ n → (c : CellId) → IsRootBelow types vars s roots n c ↔ IsRootCell types vars s roots c
  roots_all roots n all c = (
    λ h. record {
      var = h.var;
      listed = (h.spot, slice_get_within roots h.spot h.var h.at, get_or_from_slice_get roots h.spot h.var h.var h.at);
      names = h.names;
    },
    λ h. record {
      spot = h.listed.0;
      below = omega (arith, h.listed.1);
      var = h.var;
      at = slice_get-get_or roots h.listed.0 h.var h.listed.1 ∙ ap (λ (v : VarId). Some v) h.listed.2;
      names = h.names;
    },
  )

  pub child_step : (parent : CellId) (ty : TypeId) (n : ℕ) → option_map (λ (cell : CellEntry). cell.variant.ty) (cell_of s parent) ≡ Some ty → (c : CellId)
      → (IsChildBelow types vars s parent n c ⊎ Names types vars s (place.Field parent (record { ty = ty; index = n })) c) ↔
      IsChildBelow types vars s parent (n + 1) c
  child_step parent ty n of c = (
    λ h. elim h [
      | inl old ↦ record { field = old.field; below = omega (arith, old.below); names = old.names }
      | inr new ↦ record { field = record { ty = ty; index = n }; below = omega arith; names = new }
    ],
    λ h. elim (cases_lt h.field.index n) [
      | inl less ↦ inl (record { field = h.field; below = less; names = h.names })
      | inr more ↦
          inr (subst (λ p. Names types vars s p c)
          (the_field s parent ty n of parent h.field refl (omega (arith, h.below)) (Names-there types vars s _ c h.names)) h.names)
    ],
  )

  pub children_all : (parent : CellId) (ty : TypeId) (n : ℕ) → option_map (λ (cell : CellEntry). cell.variant.ty)
      (cell_of s parent) ≡ Some ty → length (fields_of types ty) ≤ n → (c : CellId)
      → IsChildBelow types vars s parent n c ↔ IsChild types vars s parent c
  children_all parent ty n of all c = (
    λ h. record { field = h.field; names = h.names },
    λ h. record {
      field = h.field;
      below =
          let w = known_within (fields_of types h.field.ty) h.field.index _ h.names.place in
          let same : h.field.ty ≡ ty = ap (λ (k : ℕ). record { 0 = k })
          (typed (cell_of s parent) h.field ty (Names-there types vars s (place.Field parent h.field) c h.names) of) in
          let count : length (fields_of types h.field.ty) ≡ length (fields_of types ty) = ap (λ t. length (fields_of types t)) same in
          omega arith;
      names = h.names;
    },
  )

-- ---- the live cells

pub live_step : (s : StoreMap) (n : ℕ) (cell : CellId) → slice_get (keys s.cells) n ≡ Some cell.0 → (c : CellId) →
    (IsOneOfFirst s n c ⊎ (c.0 ≡ cell.0)) ↔ IsOneOfFirst s (n + 1) c
live_step s n cell at c = (
  λ h. elim h [
    | inl old ↦ record { place = old.place; below = omega (arith, old.below); at = old.at }
    | inr same ↦ record { place = n; below = omega arith; at = at ∙ ap (λ (k : ℕ). Some k) (sym same) }
  ],
  λ h. elim (cases_lt h.place n) [
    | inl less ↦ inl (record { place = h.place; below = less; at = h.at })
    | inr more ↦ let here : h.place ≡ n = omega (arith, h.below) in inr (same_Some c.0 cell.0 (sym h.at ∙ ap (λ k. slice_get (keys s.cells) k) here ∙ at))
  ],
)

pub live_all : (s : StoreMap) (n : ℕ) → length (keys s.cells) ≤ n → (c : CellId) → IsOneOfFirst s n c ↔ IsLive s c
live_all s n all c = (
  λ h. live_of_key s c h.place h.at,
  λ live. let k = key_of_live s c live in record { place = k.0; below = let w = slice_get_within (keys s.cells) k.0 c.0 k.1 in omega arith; at = k.1 },
)

-- ---- the search

chain_more : {s : StoreMap} {Step : CellId → CellId → Type 0} {a b : CellId} (c : CellId) → Chain s Step a b → Step b c → IsLive s c → Chain s Step a c
chain_more c (stay a h) step live = go a c c step (stay c live)
chain_more c (go a b d first chain) step live = go a b c first (chain_more c chain step live)

module _ (types : List TypeEntry) (vars : List VarEntry) (s : StoreMap) (roots : List VarId) where
  parent_of : (c d : CellId) → IsChild types vars s c d → IsLive s d → IsParent types s c d
  parent_of c d h live = record { field = h.field; leads = record { kind = h.names.place; value = h.names.value; live = live } }

  child_of : (c d : CellId) → IsParent types s c d → IsChild types vars s c d
  child_of c d h = record { field = h.field; names = record { place = h.leads.kind; value = h.leads.value } }

  root_tree : (c : CellId) → IsRootCell types vars s roots c → IsLive s c → IsReachedFrom types vars s roots c
  root_tree c h live = record { root = h.var; listed = h.listed; in_tree = record { root = c; named = h.names; path = stay c live } }

  child_tree : (c d : CellId) → IsReachedFrom types vars s roots c → IsChild types vars s c d → IsLive s d → IsReachedFrom types vars s roots d
  child_tree c d h child live = record {
    root = h.root;
    listed = h.listed;
    in_tree = record { root = h.in_tree.root; named = h.in_tree.named; path = chain_more d h.in_tree.path (parent_of c d child live) live };
  }

  -- from the data variables
  pub reach_init : (old new : Reach) → ((c : CellId) → Has old.left c ↔ IsLive s c) → old.waiting.items ≡ [] →
      Reaches (IsRootCell types vars s roots) old new → IsReach types vars s roots new
  reach_init old new left none h = record {
    live = λ c l. (left c).0 (h.was_left c l);
    waiting = in_tree;
    sound = λ c live. elim (h.taken c ((left c).1 live)) [ inl l ↦ inl l | inr w ↦ inr (in_tree c w) ];
    closed = λ c live. elim (h.taken c ((left c).1 live)) [ inl l ↦ inl l | inr w ↦ inr (inl w) ];
    no_root = λ c root l. h.unnamed c l root;
  }
    where
      empty : (c : CellId) → Contains old.waiting.items c → ⊥
      empty c m = let m' : Contains [] c = subst (λ xs. Contains xs c) none m in omega (arith, m'.1)

      in_tree : (c : CellId) → Contains new.waiting.items c → IsReachedFrom types vars s roots c
      in_tree c w = elim (h.came c w) [ inl m ↦ absurd (empty c m) | inr r ↦ root_tree c r.1 ((left c).0 r.0) ]

  -- one cell's children
  pub reach_step : (old mid new : Reach) (cell : CellId) → mid.left ≡ old.left → old.waiting.items ≡ mid.waiting.items ++ cell ∷ [] →
      Reaches (IsChild types vars s cell) mid new
      → IsReach types vars s roots old → IsReach types vars s roots new
  reach_step old mid new cell same popped h is = record {
    live = λ c l. is.live c (was c l);
    waiting = in_tree;
    sound = λ c live. elim (is.sound c live) [
      | inl l ↦ elim (h.taken c (now c l)) [ inl m ↦ inl m | inr w ↦ inr (in_tree c w) ]
      | inr t ↦ inr t
    ];
    closed = λ c live. elim (is.closed c live) [
      | inl l ↦ elim (h.taken c (now c l)) [ inl m ↦ inl m | inr w ↦ inr (inl w) ]
      | inr (inl w) ↦ elim (waited c w) [
        | inl m ↦ inr (inl (h.waits c m))
        | inr is_cell ↦ inr (inr (λ d parent l. h.unnamed d l (subst (λ e. IsChild types vars s e d) is_cell (child_of c d parent))))
      ]
      | inr (inr done) ↦ inr (inr (λ d parent l. done d parent (was d l)))
    ];
    no_root = λ c root l. is.no_root c root (was c l);
  }
    where
      now : (c : CellId) → Has old.left c → Has mid.left c
      now c l = subst (λ set. Has set c) (sym same) l

      was : (c : CellId) → Has new.left c → Has old.left c
      was c l = subst (λ set. Has set c) same (h.was_left c l)

      waited : (c : CellId) → Contains old.waiting.items c → Contains mid.waiting.items c ⊎ (c ≡ cell)
      waited c w = elim (Contains-push_cases mid.waiting.items cell c (subst (λ xs. Contains xs c) popped w)) [ inl m ↦ inl m | inr e ↦ inr (sym e) ]

      cell_tree : IsReachedFrom types vars s roots cell
      cell_tree = is.waiting cell (subst (λ xs. Contains xs cell) (sym popped) (Contains-push mid.waiting.items cell))

      in_tree : (c : CellId) → Contains new.waiting.items c → IsReachedFrom types vars s roots c
      in_tree c w = elim (h.came c w) [
        | inl m ↦ is.waiting c (subst (λ xs. Contains xs c) (sym popped) (Contains-append_left mid.waiting.items (cell ∷ []) c m))
        | inr new ↦ child_tree cell c cell_tree new.1 (is.live c (subst (λ set. Has set c) same new.0))
      ]

  reached_along : (reach : Reach) → IsReach types vars s roots reach → reach.waiting.items ≡ [] → {a c : CellId} →
      Chain s (IsParent types s) a c → (Has reach.left a → ⊥) → Has reach.left c → ⊥
  reached_along reach is none (stay a live) reached l = reached l
  reached_along reach is none (go a b c step chain) reached l = reached_along reach is none chain (λ m. next m) l
    where
      next : Has reach.left b → ⊥
      next m = elim (is.closed a (Leads-live types s DataAlone step.field a b step.leads).0) [
        | inl l ↦ reached l
        | inr (inl w) ↦ let w' : Contains [] a = subst (λ xs. Contains xs a) none w in omega (arith, w'.1)
        | inr (inr done) ↦ done b step m
      ]

  -- nothing waits any more
  pub reach_done : (reach : Reach) → IsReach types vars s roots reach → reach.waiting.items ≡ [] → (c : CellId) → Has reach.left c
      → IsUnreached types vars s roots c
  reach_done reach is none c l = record {
    live = is.live c l;
    unreached = λ r. reached_along reach is none r.in_tree.path
        (λ m. is.no_root r.in_tree.root (record { var = r.root; listed = r.listed; names = r.in_tree.named }) m) l;
  }

-- ---- the cells that are reached, by number

-- one of the first live cells by number, as many as this, and not left
pub record IsTakenOfFirst (s : StoreMap) (IsLeft : CellId → Type 0) (n : ℕ) (c : CellId) : Type 0 where
  pub first : IsOneOfFirst s n c
  pub not_left : IsLeft c → ⊥

module _ (s : StoreMap) (IsLeft : CellId → Type 0) where
  pub taken_none : (cells : List CellId) → cells ≡ [] → Lists (IsTakenOfFirst s IsLeft 0) cells
  taken_none cells is = subst (Lists (IsTakenOfFirst s IsLeft 0)) (sym is) (record {
    rising = tt;
    members = λ d. (λ m. absurd (omega (arith, m.1)), λ h. absurd (omega (arith, h.first.below)));
  })

  -- the next cell is above those of before
  pub taken_below : (n : ℕ) (cell : CellId) (cells : List CellId) → slice_get (keys s.cells) n ≡ Some cell.0 →
      Lists (IsTakenOfFirst s IsLeft n) cells → AllByRecursion (λ d. d.0 < cell.0) cells
  taken_below n cell cells at lists = AllByRecursion-from (λ d. d.0 < cell.0) cells (λ i d is.
      let t = (lists.members d).0 (i, slice_get_within cells i d is, get_or_from_slice_get cells i d d is) in
      keys-rise s t.first.place n d.0 cell.0 t.first.below t.first.at at)

  -- it is taken
  pub taken_step : (n : ℕ) (cell : CellId) (cells : List CellId) → slice_get (keys s.cells) n ≡ Some cell.0 → (IsLeft cell → ⊥) →
      Lists (IsTakenOfFirst s IsLeft n) cells → Lists (IsTakenOfFirst s IsLeft (n + 1)) (cells ++ cell ∷ [])
  taken_step n cell cells at free lists = record {
    rising = AreRising-push cells cell lists.rising (taken_below n cell cells at lists);
    members = λ d. (
      λ m. elim (Contains-push_cases cells cell d m) [
        | inl old ↦ let t = (lists.members d).0 old in record { first = (live_step s n cell at d).0 (inl t.first); not_left = t.not_left }
        | inr new ↦ subst (IsTakenOfFirst s IsLeft (n + 1)) new (record { first = (live_step s n cell at cell).0 (inr refl); not_left = free })
      ],
      λ t. elim ((live_step s n cell at d).1 t.first) [
        | inl old ↦ Contains-append_left cells (cell ∷ []) d ((lists.members d).1 (record { first = old; not_left = t.not_left }))
        | inr same ↦ subst (Contains (cells ++ cell ∷ [])) (ap (λ (k : ℕ). record { 0 = k }) (sym same)) (Contains-push cells cell)
      ],
    );
  }

  -- it is left
  pub left_step : (n : ℕ) (cell : CellId) (cells : List CellId) → slice_get (keys s.cells) n ≡ Some cell.0 → IsLeft cell →
      Lists (IsTakenOfFirst s IsLeft n) cells → Lists (IsTakenOfFirst s IsLeft (n + 1)) cells
  left_step n cell cells at left lists = record {
    rising = lists.rising;
    members = λ d. (
      λ m. let t = (lists.members d).0 m in record { first = (live_step s n cell at d).0 (inl t.first); not_left = t.not_left },
      λ t. elim ((live_step s n cell at d).1 t.first) [
        | inl old ↦ (lists.members d).1 (record { first = old; not_left = t.not_left })
        | inr same ↦ absurd (t.not_left (subst IsLeft (ap (λ (k : ℕ). record { 0 = k }) (sym same)) left))
      ],
    );
  }

  pub taken_all : (n : ℕ) (cells : List CellId) → length (keys s.cells) ≤ n → Lists (IsTakenOfFirst s IsLeft n) cells →
      Lists (λ c. IsLive s c × (IsLeft c → ⊥)) cells
  taken_all n cells all lists = record {
    rising = lists.rising;
    members = λ d. (
      λ m. let t = (lists.members d).0 m in ((live_all s n all d).0 t.first, t.not_left),
      λ h. (lists.members d).1 (record { first = (live_all s n all d).1 h.0; not_left = h.1 }),
    );
  }

-- the live cells that aren't left are those that are reached
pub IsPart-taken : (types : List TypeEntry) (vars : List VarEntry) (s : StoreMap) (roots : List VarId) (IsLeft : CellId → Type 0) (cells : List CellId) →
    ((c : CellId) → IsLeft c → IsUnreached types vars s roots c) → ((c : CellId) → IsLive s c → IsLeft c ⊎ IsReachedFrom types vars s roots c) →
    Lists (λ c. IsLive s c × (IsLeft c → ⊥)) cells → IsPart types vars s roots cells
IsPart-taken types vars s roots IsLeft cells unreached reached lists = record {
  rising = lists.rising;
  members = λ d. (
    λ m. let h = (lists.members d).0 m in elim (reached d h.0) [ inl left ↦ absurd (h.1 left) | inr r ↦ r ],
    λ r. (lists.members d).1 ((Chain-live (IsParent-live types s) r.in_tree.path).1, λ left. (unreached d left).unreached r),
  );
}
