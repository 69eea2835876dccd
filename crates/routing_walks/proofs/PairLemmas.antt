-- Paired stores: what stands in them, and what routes and data fields join.
use Rattle.std.proofs.Common.{◌≡◌, ℕ, zero, suc, Bool, true, false, List, [], ◌∷◌, slice_get, Option, Some, None, IsSome, IsSomeAnd, refl, sym, ap}
use Rattle.std.proofs.Common.{◌∙◌, subst, ◌==◌, if◌then◌else◌}
use Rattle.std.specs.Option.{option_and_then}
use Rattle.store_core.specs.declared.ids.TypeId.{TypeId}
use Rattle.store_core.specs.declared.ids.VariantId.{VariantId}
use Rattle.store_core.specs.declared.ids.FieldId.{FieldId}
use Rattle.store_core.specs.declared.ids.VarId.{VarId}
use Rattle.store_core.specs.declared.ids.CellId.{CellId}
use Rattle.store_core.specs.declared.kind.FieldKind.{FieldKind}
use Rattle.store_core.specs.declared.kind.FieldKind.TheVariants as field
use Rattle.store_core.specs.declared.kind.Route.{Route}
use Rattle.store_core.specs.declared.value.Value.{Value}
use Rattle.store_core.specs.declared.value.Value.TheVariants as value
use Rattle.store_core.specs.Tables.{TypeEntry, VarEntry, FieldEntry, field_at}
use Rattle.store_core.specs.Stores.{StoreMap, CellEntry, IsLive, cell_of, field_of, field_value, var_value}
use Rattle.routing_walks.specs.declared.fault.Place.{Place}
use Rattle.routing_walks.specs.declared.fault.Place.TheVariants as place
use Rattle.routing_walks.specs.Walks.{Fields, DataAlone, Leads, IsParent, IsOfType, IsOfVariant, Walk, Chain}
use Rattle.routing_walks.specs.Destinations.{EndsKind, Dest, IsOnlyDestination}
use Rattle.routing_walks.specs.WellFormed.{value_at, IsDataPlace, Names, IsInTree, IsThere}
use Rattle.routing_walks.proofs.LiveLemmas.{Leads-live, Walk-live, IsParent-live, Chain-live}
use Rattle.routing_walks.proofs.MatchLemmas.{Matches, Walk-matched, Walk-match, Chain-matched, parent_down}
use Rattle.routing_walks.specs.Pairing.{PairsReference, PairsValue, PairsSlot, Pairwise, PairsCell, PairsEntry, ArePaired, PairsPlace, JoinAlike}
use Rattle.routing_walks.proofs.DecidedStores.{dest_live}

-- ---- the other way about

abbrev pub turn : (CellId → CellId → Type 0) → CellId → CellId → Type 0
turn R c a = R a c

Pairwise-turned : {X : Type 0} (R Q : X → X → Type 0) → ((x y : X) → R x y → Q y x) → (xs ys : List X) → Pairwise R xs ys → Pairwise Q ys xs
Pairwise-turned R Q each [] [] h = tt
Pairwise-turned R Q each [] (y ∷ ys) h = absurd h
Pairwise-turned R Q each (x ∷ xs) [] h = absurd h
Pairwise-turned R Q each (x ∷ xs) (y ∷ ys) h = (each x y h.0, Pairwise-turned R Q each xs ys h.1)

module _ (R : CellId → CellId → Type 0) where
  reference_turned : (c d : Option CellId) → PairsReference R c d → PairsReference (turn R) d c
  reference_turned None None h = tt
  reference_turned None (Some d) h = absurd h
  reference_turned (Some c) None h = absurd h
  reference_turned (Some c) (Some d) h = h

  pub value_turned : (x y : Value) → PairsValue R x y → PairsValue (turn R) y x
  value_turned (value.Bool truth) (value.Bool other) h = sym h
  value_turned (value.Cell c) (value.Cell d) h = reference_turned c d h
  value_turned (value.Cells cells) (value.Cells others) h = (h.1, h.0, h.3, h.2)
  value_turned x y h = absurd h

  slot_turned : (x y : Option Value) → PairsSlot R x y → PairsSlot (turn R) y x
  slot_turned None None h = tt
  slot_turned None (Some y) h = absurd h
  slot_turned (Some x) None h = absurd h
  slot_turned (Some x) (Some y) h = value_turned x y h

  entry_turned : (o p : Option CellEntry) → PairsEntry R o p → PairsEntry (turn R) p o
  entry_turned None None h = tt
  entry_turned None (Some other) h = absurd h
  entry_turned (Some cell) None h = absurd h
  entry_turned (Some cell) (Some other) h = record {
    variant = sym h.variant;
    values = Pairwise-turned (PairsSlot R) (PairsSlot (turn R)) slot_turned cell.values other.values h.values;
  }

  pub place_turned : (p q : Place) → PairsPlace R p q → PairsPlace (turn R) q p
  place_turned (place.Var v) (place.Var w) h = sym h
  place_turned (place.Var v) (place.Field c g) h = absurd h
  place_turned (place.Field a f) (place.Var w) h = absurd h
  place_turned (place.Field a f) (place.Field c g) h = (h.0, sym h.1)

  pub ArePaired-turned : (s t : StoreMap) → ArePaired R s t → ArePaired (turn R) t s
  ArePaired-turned s t h = record {
    one = λ c a b x y. h.other a b c x y;
    other = λ c d a x y. h.one a c d x y;
    forth = h.back;
    back = h.forth;
    cells = λ c a x. entry_turned (cell_of s a) (cell_of t c) (h.cells a c x);
    vars = Pairwise-turned (PairsValue R) (PairsValue (turn R)) value_turned s.vars t.vars h.vars;
  }

  -- ---- what stands at a place

  slot_at : (xs ys : List (Option Value)) (k : ℕ) → Pairwise (PairsSlot R) xs ys →
      PairsSlot R (option_and_then (λ v. v) (slice_get xs k)) (option_and_then (λ v. v) (slice_get ys k))
  slot_at [] [] k h = tt
  slot_at [] (y ∷ ys) k h = absurd h
  slot_at (x ∷ xs) [] k h = absurd h
  slot_at (x ∷ xs) (y ∷ ys) zero h = h.0
  slot_at (x ∷ xs) (y ∷ ys) (suc k) h = slot_at xs ys k h.1

  var_at_place : (xs ys : List Value) (k : ℕ) → Pairwise (PairsValue R) xs ys → PairsSlot R (slice_get xs k) (slice_get ys k)
  var_at_place [] [] k h = tt
  var_at_place [] (y ∷ ys) k h = absurd h
  var_at_place (x ∷ xs) [] k h = absurd h
  var_at_place (x ∷ xs) (y ∷ ys) zero h = h.0
  var_at_place (x ∷ xs) (y ∷ ys) (suc k) h = var_at_place xs ys k h.1

  slot_if : (b : Bool) (x y : Option Value) → PairsSlot R x y → PairsSlot R (if b then x else None) (if b then y else None)
  slot_if true x y h = h
  slot_if false x y h = tt

  field_of_paired : (f : FieldId) (cell other : CellEntry) → PairsCell R cell other → PairsSlot R (field_of cell f) (field_of other f)
  field_of_paired f cell other h =
      subst (λ (v : VariantId). PairsSlot R (field_of cell f)
      (if v.ty.0 == f.ty.0 then option_and_then (λ v. v) (slice_get other.values f.index) else None)) h.variant
      (slot_if (cell.variant.ty.0 == f.ty.0) _ _ (slot_at cell.values other.values f.index h.values))

  field_at_entry : (f : FieldId) (o p : Option CellEntry) → PairsEntry R o p →
      PairsSlot R (option_and_then (λ cell. field_of cell f) o) (option_and_then (λ cell. field_of cell f) p)
  field_at_entry f None None h = tt
  field_at_entry f None (Some other) h = absurd h
  field_at_entry f (Some cell) None h = absurd h
  field_at_entry f (Some cell) (Some other) h = field_of_paired f cell other h

  pub reference_to : (x y : Option Value) (b : CellId) → PairsSlot R x y → x ≡ Some (value.Cell (Some b)) →
      (d : CellId) × R b d × (y ≡ Some (value.Cell (Some d)))
  reference_to None y b h e = absurd (cc)
  reference_to (Some (value.Bool truth)) y b h e = absurd (cc)
  reference_to (Some (value.Cell None)) y b h e = absurd (cc)
  reference_to (Some (value.Cells cells)) y b h e = absurd (cc)
  reference_to (Some (value.Cell (Some a))) None b h e = absurd h
  reference_to (Some (value.Cell (Some a))) (Some (value.Bool truth)) b h e = absurd h
  reference_to (Some (value.Cell (Some a))) (Some (value.Cell None)) b h e = absurd h
  reference_to (Some (value.Cell (Some a))) (Some (value.Cells cells)) b h e = absurd h
  reference_to (Some (value.Cell (Some a))) (Some (value.Cell (Some d))) b h e =
      let same : a ≡ b = cc in (d, subst (λ x. R x d) same h, refl)

  truth_to : (x y : Option Value) (b : Bool) → PairsSlot R x y → x ≡ Some (value.Bool b) → y ≡ Some (value.Bool b)
  truth_to None y b h e = cc
  truth_to (Some (value.Cell c)) y b h e = cc
  truth_to (Some (value.Cells cells)) y b h e = cc
  truth_to (Some (value.Bool truth)) None b h e = absurd h
  truth_to (Some (value.Bool truth)) (Some (value.Bool other)) b h e = sym (ap (λ x. Some (value.Bool x)) h) ∙ e
  truth_to (Some (value.Bool truth)) (Some (value.Cell c)) b h e = absurd h
  truth_to (Some (value.Bool truth)) (Some (value.Cells cells)) b h e = absurd h

  live_entry : (o p : Option CellEntry) → PairsEntry R o p → IsSome o → IsSome p
  live_entry None None h live = live
  live_entry None (Some other) h live = refl
  live_entry (Some cell) None h live = absurd h
  live_entry (Some cell) (Some other) h live = refl

  variant_entry : (P : VariantId → Type 0) (o p : Option CellEntry) → PairsEntry R o p → IsSomeAnd o (λ cell. P cell.variant)
      → IsSomeAnd p (λ cell. P cell.variant)
  variant_entry P None p h is = absurd is
  variant_entry P (Some cell) None h is = absurd h
  variant_entry P (Some cell) (Some other) h is = subst P h.variant is

module _ (R : CellId → CellId → Type 0) (s t : StoreMap) (h : ArePaired R s t) where
  pub field_paired : (a c : CellId) (f : FieldId) → R a c → PairsSlot R (field_value s a f) (field_value t c f)
  field_paired a c f p = field_at_entry R f (cell_of s a) (cell_of t c) (h.cells a c p)

  pub var_paired : (v : VarId) → PairsSlot R (var_value s v) (var_value t v)
  var_paired v = var_at_place R s.vars t.vars v.0 h.vars

  pub place_paired : (p q : Place) → PairsPlace R p q → PairsSlot R (value_at s p) (value_at t q)
  place_paired (place.Var v) (place.Var w) e = subst (λ x. PairsSlot R (var_value s v) (var_value t x)) e (var_paired v)
  place_paired (place.Var v) (place.Field c g) e = absurd e
  place_paired (place.Field a f) (place.Var w) e = absurd e
  place_paired (place.Field a f) (place.Field c g) e = subst (λ x. PairsSlot R (field_value s a f) (field_value t c x)) e.1 (field_paired a c f e.0)

  pub live_to : (a c : CellId) → R a c → IsLive s a → IsLive t c
  live_to a c p live = live_entry R (cell_of s a) (cell_of t c) (h.cells a c p) live

  pub type_to : (ty : TypeId) (a c : CellId) → R a c → IsOfType s ty a → IsOfType t ty c
  type_to ty a c p is = variant_entry R (λ (v : VariantId). v.ty ≡ ty) (cell_of s a) (cell_of t c) (h.cells a c p) is

  variant_to : (v : VariantId) (a c : CellId) → R a c → IsOfVariant s v a → IsOfVariant t v c
  variant_to v a c p is = variant_entry R (λ (w : VariantId). w ≡ v) (cell_of s a) (cell_of t c) (h.cells a c p) is

  truth_there : (a c : CellId) → R a c → (f : FieldId) (b : Bool) → field_value s a f ≡ Some (value.Bool b) → field_value t c f ≡ Some (value.Bool b)
  truth_there a c p f b e = truth_to R (field_value s a f) (field_value t c f) b (field_paired a c f p) e

  leads_to : (types : List TypeEntry) (fields : Fields) (f : FieldId) (a b c : CellId) → R a c → Leads types s fields f a b →
      (d : CellId) × R b d × Leads types t fields f c d
  leads_to types fields f a b c p leads =
      let k = reference_to R (field_value s a f) (field_value t c f) b (field_paired a c f p) leads.value in
      (k.0, k.1, record { kind = leads.kind; value = k.2; live = live_to b k.0 k.1 leads.live })

  leads_up : (types : List TypeEntry) (fields : Fields) (f : FieldId) (a b d : CellId) → R b d → Leads types s fields f a b →
      (c : CellId) × R a c × Leads types t fields f c d
  leads_up types fields f a b d p leads =
      let c = h.forth a (Leads-live types s fields f a b leads).0 in
      let k = leads_to types fields f a b c.0 c.1 leads in
      (c.0, c.1, subst (λ x. Leads types t fields f c.0 x) (h.one b k.0 d k.1 p) k.2)

  -- a place where a value stands has a pair
  pub place_forth : (p : Place) → IsThere s p → (q : Place) × PairsPlace R p q
  place_forth (place.Var v) there = (place.Var v, refl)
  place_forth (place.Field a f) there = let c = h.forth a (live_at (cell_of s a) there) in (place.Field c.0 f, (c.1, refl))
    where
      live_at : (o : Option CellEntry) → IsSome (option_and_then (λ cell. field_of cell f) o) → IsSome o
      live_at None k = k
      live_at (Some cell) k = refl

  -- and no other place has the same one
  pub place_one : (p q r : Place) → PairsPlace R p r → PairsPlace R q r → p ≡ q
  place_one (place.Var v) (place.Var w) (place.Var x) e k = ap (λ y. place.Var y) (e ∙ sym k)
  place_one (place.Field a f) (place.Field b g) (place.Field c i) e k =
      ap (λ y. place.Field y f) (h.other a b c e.0 k.0) ∙ ap (λ y. place.Field b y) (e.1 ∙ sym k.1)
  place_one (place.Var v) (place.Field b g) (place.Var x) e k = absurd k
  place_one (place.Var v) q (place.Field c i) e k = absurd e
  place_one (place.Field a f) q (place.Var x) e k = absurd e
  place_one (place.Field a f) (place.Var w) (place.Field c i) e k = absurd k

-- a live cell with its pair
Live : (CellId → CellId → Type 0) → StoreMap → CellId → CellId → Type 0
Live R s a c = R a c × IsLive s a

module _ (types : List TypeEntry) (fields : Fields) (R : CellId → CellId → Type 0) (s t : StoreMap) (h : ArePaired R s t) where
  turned : ArePaired (turn R) t s
  turned = ArePaired-turned R s t h

  Matches-paired : Matches types fields (Live R s) s t
  unfolding Live
  Matches-paired = record {
    one = λ a c d x y. h.one a c d x.0 y.0;
    other = λ a b c x y. h.other a b c x.0 y.0;
    live = λ a c x. (x.1, live_to R s t h a c x.0 x.1);
    variant = λ a c x v. (variant_to R s t h v a c x.0, variant_to (turn R) t s turned v c a x.0);
    truth = λ a c x f b. (truth_there R s t h a c x.0 f b, truth_there (turn R) t s turned c a x.0 f b);
    down = λ f a b c x leads. let k = leads_to R s t h types fields f a b c x.0 leads in (k.0, (k.1, leads.live), k.2);
    up = λ f a b d x leads. let k = leads_up R s t h types fields f a b d x.0 leads in (k.0, (k.1, (Leads-live types s fields f a b leads).0), k.2);
    down_back = λ f a c d x leads. let k = leads_to (turn R) t s turned types fields f c d a x.0 leads in (k.0, (k.1, k.2.live), k.2);
    up_back = λ f b c d x leads. let k = leads_up (turn R) t s turned types fields f c d b x.0 leads in
        (k.0, (k.1, (Leads-live types s fields f k.0 b k.2).0), k.2);
  }

  pub walk_to : (along : Route) (a b c d : CellId) → R a c → R b d → Walk types s fields along a b → Walk types t fields along c d
  unfolding Live
  walk_to along a b c d p q w = let live = Walk-live types s fields along a b w in
      Walk-match types fields (Live R s) s t Matches-paired along a b c d (p, live.0) (q, live.1) w

  pub walk_goes : (along : Route) (a b c : CellId) → R a c → Walk types s fields along a b → (d : CellId) × R b d × Walk types t fields along c d
  unfolding Live
  walk_goes along a b c p w =
      let k = Walk-matched types fields (Live R s) s t Matches-paired along a b c (p, (Walk-live types s fields along a b w).0) w in (k.0, k.1.0, k.2)

  chain_goes : {a b : CellId} → Chain s (IsParent types s) a b → (c : CellId) → R a c → (d : CellId) × R b d × Chain t (IsParent types t) c d
  unfolding Live
  chain_goes {a = a} chain c p =
      let k = Chain-matched types fields (Live R s) s t Matches-paired (parent_down types fields (Live R s) s t Matches-paired) chain c
      (p, (Chain-live (IsParent-live types s) chain).0) in
      (k.0, k.1.0, k.2)

module _ (types : List TypeEntry) (R : CellId → CellId → Type 0) (s t : StoreMap) (h : ArePaired R s t) where
  ends_to : (kind : FieldKind) (a b c d : CellId) → R a c → R b d → EndsKind types s kind a b → EndsKind types t kind c d
  ends_to field.Bool a b c d p q e = e
  ends_to (field.Data target) a b c d p q e = e
  ends_to (field.Pointer target along) a b c d p q e =
      record { walk = walk_to types DataAlone R s t h along a b c d p q e.walk; of_target = type_to R s t h target b d q e.of_target }

  pub dest_to : (f : FieldId) (a b c d : CellId) → R a c → R b d → Dest types s a f b → Dest types t c f d
  dest_to f a b c d p q e = some_to (field_at types f) e
    where
      some_to : (o : Option FieldEntry) → IsSomeAnd o (λ entry. EndsKind types s entry.kind a b) → IsSomeAnd o (λ entry. EndsKind types t entry.kind c d)
      some_to None k = k
      some_to (Some entry) k = ends_to entry.kind a b c d p q k

  pub dest_goes : (f : FieldId) (a b c : CellId) → R a c → Dest types s a f b → (d : CellId) × R b d × Dest types t c f d
  dest_goes f a b c p e = let d = h.forth b (dest_live types s a f b e) in (d.0, d.1, dest_to f a b c d.0 p d.1 e)

  pub names_to : (vars : List VarEntry) (p q : Place) (b d : CellId) → PairsPlace R p q → R b d → Names types vars s p b → Names types vars t q d
  names_to vars p q b d e r n =
      let k = reference_to R (value_at s p) (value_at t q) b (place_paired R s t h p q e) n.value in
      record { place = data_place p q e n.place; value = k.2 ∙ ap (λ x. Some (value.Cell (Some x))) (h.one b k.0 d k.1 r) }
    where
      data_place : (p q : Place) → PairsPlace R p q → IsDataPlace types vars p →
          IsDataPlace types vars q
      data_place (place.Var v) (place.Var w) e k = subst (λ x. IsDataPlace types vars (place.Var x)) e k
      data_place (place.Var v) (place.Field c g) e k = absurd e
      data_place (place.Field a f) (place.Var w) e k = absurd e
      data_place (place.Field a f) (place.Field c g) e k = subst (λ x. IsDataPlace types vars (place.Field c x)) e.1 k

  pub tree_to : (vars : List VarEntry) (v : VarId) (a c : CellId) → R a c → IsInTree types vars s v a → IsInTree types vars t v c
  tree_to vars v a c p tree =
      let root = reference_to R (var_value s v) (var_value t v) tree.root (var_paired R s t h v) tree.named.value in
      let path = chain_goes types DataAlone R s t h tree.path root.0 root.1 in
      record {
        root = root.0;
        named = record { place = tree.named.place; value = root.2 };
        path = subst (λ x. Chain t (IsParent types t) root.0 x) (h.one a path.0 c path.1 p) path.2;
      }

module _ (types : List TypeEntry) (R : CellId → CellId → Type 0) (s t : StoreMap) (h : ArePaired R s t) where
  back : ArePaired (turn R) t s
  back = ArePaired-turned R s t h

  pub only_to : (f : FieldId) (a c : CellId) (x y : Value) → R a c → PairsValue R x y → IsOnlyDestination types s a f x → IsOnlyDestination types t c f y
  only_to f a c (value.Bool truth) (value.Bool other) p e only = only
  only_to f a c (value.Cell None) (value.Cell None) p e only = λ d dest. let k = dest_goes types (turn R) t s back f c d a p dest in only k.0 k.2
  only_to f a c (value.Cell (Some b)) (value.Cell (Some d)) p e only = (
    dest_to types R s t h f a b c d p e only.0,
    λ g dest. let k = dest_goes types (turn R) t s back f c g a p dest in h.one b g d (subst (λ x. R x g) (only.1 k.0 k.2) k.1) e,
  )
  only_to f a c (value.Cells cells) (value.Cells others) p e only = only
  only_to f a c x y p e only = absurd e

module _ (types : List TypeEntry) (R : CellId → CellId → Type 0) (s t : StoreMap) (h : ArePaired R s t) where
  backwards : ArePaired (turn R) t s
  backwards = ArePaired-turned R s t h

  pub JoinAlike-paired : JoinAlike types R s t
  JoinAlike-paired = record {
    walks = λ fields along a b c d p q. (walk_to types fields R s t h along a b c d p q, walk_to types fields (turn R) t s backwards along c d a b p q);
    ends = λ fields along a b c p w. walk_goes types fields R s t h along a b c p w;
    destinations = λ f a b c d p q. (dest_to types R s t h f a b c d p q, dest_to types (turn R) t s backwards f c d a b p q);
    only = λ f a c x y p e. (only_to types R s t h f a c x y p e, only_to types (turn R) t s backwards f c a y x p (value_turned R x y e));
    trees = λ vars v a c p. (tree_to types R s t h vars v a c p, tree_to types (turn R) t s backwards vars v c a p);
  }
