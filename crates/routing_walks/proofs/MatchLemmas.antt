-- Walks go along where cells of two stores are matched one to one and their fields lead from match to match.
use Rattle.std.proofs.Common.{◌≡◌, ◌↔◌, inl, inr, ℕ, Bool, List, Option, Some, None, IsSomeAnd, refl, sym, subst}
use Rattle.store_core.specs.declared.ids.FieldId.{FieldId}
use Rattle.store_core.specs.declared.ids.TypeId.{TypeId}
use Rattle.store_core.specs.declared.ids.VariantId.{VariantId}
use Rattle.store_core.specs.declared.ids.CellId.{CellId}
use Rattle.store_core.specs.declared.kind.FieldKind.{FieldKind}
use Rattle.store_core.specs.declared.kind.FieldKind.TheVariants as field
use Rattle.store_core.specs.declared.kind.Route.{Route}
use Rattle.store_core.specs.declared.value.Value.TheVariants as value
use Rattle.store_core.specs.Tables.{TypeEntry, FieldEntry, field_at}
use Rattle.store_core.specs.Stores.{StoreMap, CellEntry, IsLive, cell_of, field_value}
use Rattle.routing_walks.specs.Walks.{Fields, DataAlone, IsFollowed, Leads, IsParent, Stays, IsRoot, IsLeaf, IsOfType, IsOfVariant, HasTruth, Chain}
use Rattle.routing_walks.specs.Walks.{stay, go, Walk}
use Rattle.routing_walks.proofs.RouteLemmas.{IsHereditary, route-induction}
use Rattle.routing_walks.proofs.WalkLemmas.{Walk-Down, Walk-Up, Walk-UpAny, Walk-Root, Walk-Leaf, Walk-IsType, Walk-IsVariant, Walk-IsBool, Walk-Then}
use Rattle.routing_walks.proofs.WalkLemmas.{Walk-Or, Walk-Star}

-- cells of s are matched one to one with cells of t of the same variant and truth values, and a followed field leads to or
-- from a cell where it does to or from its match
pub record Matches (types : List TypeEntry) (fields : Fields) (R : CellId → CellId → Type 0) (s t : StoreMap) : Type 0 where
  pub one : (a c d : CellId) → R a c → R a d → c ≡ d
  pub other : (a b c : CellId) → R a c → R b c → a ≡ b
  pub live : (a c : CellId) → R a c → IsLive s a × IsLive t c
  pub variant : (a c : CellId) → R a c → (v : VariantId) → IsOfVariant s v a ↔ IsOfVariant t v c
  pub truth : (a c : CellId) → R a c → (f : FieldId) (b : Bool) → (field_value s a f ≡ Some (value.Bool b)) ↔ (field_value t c f ≡ Some (value.Bool b))
  pub down : (f : FieldId) (a b c : CellId) → R a c → Leads types s fields f a b → (d : CellId) × R b d × Leads types t fields f c d
  pub up : (f : FieldId) (a b d : CellId) → R b d → Leads types s fields f a b → (c : CellId) × R a c × Leads types t fields f c d
  pub down_back : (f : FieldId) (a c d : CellId) → R a c → Leads types t fields f c d → (b : CellId) × R b d × Leads types s fields f a b
  pub up_back : (f : FieldId) (b c d : CellId) → R b d → Leads types t fields f c d → (a : CellId) × R a c × Leads types s fields f a b

-- the other way about
pub Matches-turned : (types : List TypeEntry) (fields : Fields) (R : CellId → CellId → Type 0) (s t : StoreMap) → Matches types fields R s t →
    Matches types fields (λ c a. R a c) t s
Matches-turned types fields R s t m = record {
  one = λ c a b h k. m.other a b c h k;
  other = λ c d a h k. m.one a c d h k;
  live = λ c a h. let l = m.live a c h in (l.1, l.0);
  variant = λ c a h v. let e = m.variant a c h v in (e.1, e.0);
  truth = λ c a h f b. let e = m.truth a c h f b in (e.1, e.0);
  down = λ f c d a h leads. m.down_back f a c d h leads;
  up = λ f c d b h leads. m.up_back f b c d h leads;
  down_back = λ f c a b h leads. m.down f a b c h leads;
  up_back = λ f d a b h leads. m.up f a b d h leads;
}

followed_too : (fields : Fields) (kind : FieldKind) → IsFollowed DataAlone kind → IsFollowed fields kind
followed_too fields field.Bool h = absurd h
followed_too fields (field.Data target) h = tt
followed_too fields (field.Pointer target along) h = absurd h

kind_too : (fields : Fields) (o : Option FieldEntry) → IsSomeAnd o (λ entry. IsFollowed DataAlone entry.kind)
    → IsSomeAnd o (λ entry. IsFollowed fields entry.kind)
kind_too fields None h = absurd h
kind_too fields (Some entry) h = followed_too fields entry.kind h

module _ (types : List TypeEntry) (fields : Fields) (R : CellId → CellId → Type 0) (s t : StoreMap) (m : Matches types fields R s t) where
  -- a data field is followed whatever else is
  as_followed : (u : StoreMap) (f : FieldId) (a b : CellId) → Leads types u DataAlone f a b → Leads types u fields f a b
  as_followed u f a b h = record { kind = kind_too fields (field_at types f) h.kind; value = h.value; live = h.live }

  as_data : (u w : StoreMap) (f : FieldId) (a b c d : CellId) → Leads types u DataAlone f a b → Leads types w fields f c d → Leads types w DataAlone f c d
  as_data u w f a b c d h k = record { kind = h.kind; value = k.value; live = k.live }

  -- the same of data fields alone
  pub Matches-data : Matches types DataAlone R s t
  Matches-data = record {
    one = m.one;
    other = m.other;
    live = m.live;
    variant = m.variant;
    truth = m.truth;
    down = λ f a b c h leads. let k = m.down f a b c h (as_followed s f a b leads) in (k.0, k.1, as_data s t f a b c k.0 leads k.2);
    up = λ f a b d h leads. let k = m.up f a b d h (as_followed s f a b leads) in (k.0, k.1, as_data s t f a b k.0 d leads k.2);
    down_back = λ f a c d h leads. let k = m.down_back f a c d h (as_followed t f c d leads) in (k.0, k.1, as_data t s f c d a k.0 leads k.2);
    up_back = λ f b c d h leads. let k = m.up_back f b c d h (as_followed t f c d leads) in (k.0, k.1, as_data t s f c d k.0 b leads k.2);
  }

  pub parent_down : (a b c : CellId) → R a c → IsParent types s a b → (d : CellId) × R b d × IsParent types t c d
  parent_down a b c h p = let k = Matches-data.down p.field a b c h p.leads in (k.0, k.1, record { field = p.field; leads = k.2 })

  pub parent_up : (a b d : CellId) → R b d → IsParent types s a b → (c : CellId) × R a c × IsParent types t c d
  parent_up a b d h p = let k = Matches-data.up p.field a b d h p.leads in (k.0, k.1, record { field = p.field; leads = k.2 })

  parent_down_back : (a c d : CellId) → R a c → IsParent types t c d → (b : CellId) × R b d × IsParent types s a b
  parent_down_back a c d h p = let k = Matches-data.down_back p.field a c d h p.leads in (k.0, k.1, record { field = p.field; leads = k.2 })

  parent_up_back : (b c d : CellId) → R b d → IsParent types t c d → (a : CellId) × R a c × IsParent types s a b
  parent_up_back b c d h p = let k = Matches-data.up_back p.field b c d h p.leads in (k.0, k.1, record { field = p.field; leads = k.2 })

  -- ---- tests

  root_matched : (a c : CellId) → R a c → IsRoot types s a → IsRoot types t c
  root_matched a c h root = record { live = (m.live a c h).1; alone = λ p k. let b = parent_up_back a p c h k in root.alone b.0 b.2 }

  leaf_matched : (a c : CellId) → R a c → IsLeaf types s a → IsLeaf types t c
  leaf_matched a c h leaf = record { live = (m.live a c h).1; alone = λ p k. let b = parent_down_back a c p h k in leaf.alone b.0 b.2 }

  variant_of : (o p : Option CellEntry) → ((v : VariantId) → IsSomeAnd o (λ cell. cell.variant ≡ v) → IsSomeAnd p (λ cell. cell.variant ≡ v)) →
      (ty : TypeId) → IsSomeAnd o (λ cell. cell.variant.ty ≡ ty) → IsSomeAnd p (λ cell. cell.variant.ty ≡ ty)
  variant_of None p same ty h = absurd h
  variant_of (Some cell) None same ty h = absurd (same cell.variant refl)
  variant_of (Some cell) (Some there) same ty h = subst (λ (v : VariantId). v.ty ≡ ty) (sym (same cell.variant refl)) h

  pub type_matched : (a c : CellId) → R a c → (ty : TypeId) → IsOfType s ty a → IsOfType t ty c
  type_matched a c h ty is = variant_of (cell_of s a) (cell_of t c) (λ v k. (m.variant a c h v).0 k) ty is

  truth_matched : (name : List ℕ) (truth : Bool) (a c : CellId) → R a c → HasTruth types s name truth a → HasTruth types t name truth c
  truth_matched name truth a c h k = record { field = k.field; named = k.named; value = (m.truth a c h k.field truth).0 k.value }

  test_matched : (One Other : CellId → Type 0) → ((a c : CellId) → R a c → One a → Other c) → (a b c : CellId) → R a c → Stays One a b →
      (d : CellId) × R b d × Stays Other c d
  test_matched One Other each a b c h k = (c, subst (λ x. R x c) k.0 h, (refl, each a c h k.1))

  -- ---- walks

  pub Chain-matched : {Step Other : CellId → CellId → Type 0} →
      ((a b c : CellId) → R a c → Step a b → (d : CellId) × R b d × Other c d) →
      {a b : CellId} → Chain s Step a b → (c : CellId) → R a c → (d : CellId) × R b d × Chain t Other c d
  Chain-matched each (stay a live) c h = (c, h, stay c (m.live a c h).1)
  Chain-matched each (go a b e step chain) c h =
      let first = each a b c h step in
      let rest = Chain-matched each chain first.0 first.1 in
      (rest.0, rest.1, go c first.0 rest.0 first.2 rest.2)

  IsMatched : Route → Type 0
  IsMatched along = (a b c : CellId) → R a c → Walk types s fields along a b → (d : CellId) × R b d × Walk types t fields along c d

  -- the pair in t, by the cases of the route
  hereditary : IsHereditary IsMatched
  unfolding IsMatched
  hereditary = record {
    of_Down = λ name a b c h w. let n = (Walk-Down types s fields name a b).0 w in
        let k = m.down n.field a b c h n.leads in
        (k.0, k.1, (Walk-Down types t fields name c k.0).1 (record { field = n.field; named = n.named; leads = k.2 }));
    of_Up = λ name a b c h w. let n = (Walk-Up types s fields name a b).0 w in
        let k = m.up n.field b a c h n.leads in
        (k.0, k.1, (Walk-Up types t fields name c k.0).1 (record { field = n.field; named = n.named; leads = k.2 }));
    of_UpAny = λ a b c h w. let k = parent_up b a c h ((Walk-UpAny types s fields a b).0 w) in (k.0, k.1, (Walk-UpAny types t fields c k.0).1 k.2);
    of_Root = λ a b c h w. let k = test_matched (IsRoot types s) (IsRoot types t) root_matched a b c h ((Walk-Root types s fields a b).0 w) in
        (k.0, k.1, (Walk-Root types t fields c k.0).1 k.2);
    of_Leaf = λ a b c h w. let k = test_matched (IsLeaf types s) (IsLeaf types t) leaf_matched a b c h ((Walk-Leaf types s fields a b).0 w) in
        (k.0, k.1, (Walk-Leaf types t fields c k.0).1 k.2);
    of_IsType = λ ty a b c h w.
        let k = test_matched (IsOfType s ty) (IsOfType t ty) (λ a c h. type_matched a c h ty) a b c h ((Walk-IsType types s fields ty a b).0 w) in
        (k.0, k.1, (Walk-IsType types t fields ty c k.0).1 k.2);
    of_IsVariant = λ v a b c h w.
        let k = test_matched (IsOfVariant s v) (IsOfVariant t v) (λ a c h. (m.variant a c h v).0) a b c h ((Walk-IsVariant types s fields v a b).0 w) in
        (k.0, k.1, (Walk-IsVariant types t fields v c k.0).1 k.2);
    of_IsBool = λ name truth a b c h w.
        let k = test_matched (HasTruth types s name truth) (HasTruth types t name truth) (truth_matched name truth) a b c h
        ((Walk-IsBool types s fields name truth a b).0 w) in
        (k.0, k.1, (Walk-IsBool types t fields name truth c k.0).1 k.2);
    of_Then = λ first second one two a e c h w. let n = (Walk-Then types s fields first second a e).0 w in
        let k = one a n.0 c h n.1 in
        let l = two n.0 e k.0 k.1 n.2 in
        (l.0, l.1, (Walk-Then types t fields first second c l.0).1 (k.0, k.2, l.2));
    of_Or = λ one other left right a b c h w. elim ((Walk-Or types s fields one other a b).0 w) [
      | inl n ↦ let k = left a b c h n in (k.0, k.1, (Walk-Or types t fields one other c k.0).1 (inl k.2))
      | inr n ↦ let k = right a b c h n in (k.0, k.1, (Walk-Or types t fields one other c k.0).1 (inr k.2))
    ];
    of_Star = λ round each a b c h w. let k = Chain-matched each ((Walk-Star types s fields round a b).0 w) c h in
        (k.0, k.1, (Walk-Star types t fields round c k.0).1 k.2);
  }

  pub Walk-matched : (along : Route) (a b c : CellId) → R a c → Walk types s fields along a b → (d : CellId) × R b d × Walk types t fields along c d
  unfolding IsMatched
  Walk-matched = route-induction IsMatched hereditary

  -- between the matches of its ends
  pub Walk-match : (along : Route) (a b c d : CellId) → R a c → R b d → Walk types s fields along a b → Walk types t fields along c d
  Walk-match along a b c d h k w =
      let n = Walk-matched along a b c h w in subst (λ x. Walk types t fields along c x) (m.one b n.0 d n.1 k) n.2
