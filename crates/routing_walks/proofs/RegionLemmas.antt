-- Walks and destinations on a set of cells that no field leads into or out of.
use Rattle.std.proofs.Common.{◌≡◌, ◌↔◌, inl, inr, ℕ, Bool, true, false, List, [], ◌∷◌, Option, Some, None, IsSome, IsSomeAnd, refl, sym, ap, ◌∙◌}
use Rattle.std.proofs.Common.{subst, arith, Contains, cond, nat_eq}
use Rattle.std.specs.Prelude.{◌||◌}
use Rattle.std.specs.Option.{option_and_then}
use Rattle.std.specs.FinMap.{get-retain_keys, nat_cmp-IsAntisymmetric}
use Rattle.std.proofs.lemmas.Bool.{false≢true, false_from_ne_true, or_left, or_right}
use Rattle.std.proofs.lemmas.Bool.Decides.{nat_tests}
use Rattle.store_core.specs.declared.ids.FieldId.{FieldId}
use Rattle.store_core.specs.declared.ids.VarId.{VarId}
use Rattle.store_core.specs.declared.ids.CellId.{CellId}
use Rattle.store_core.specs.declared.kind.FieldKind.{FieldKind}
use Rattle.store_core.specs.declared.kind.FieldKind.TheVariants as field
use Rattle.store_core.specs.declared.kind.Route.{Route}
use Rattle.store_core.specs.declared.value.Value.{Value}
use Rattle.store_core.specs.declared.value.Value.TheVariants as value
use Rattle.store_core.specs.Tables.{TypeEntry, VarEntry, FieldEntry, field_at}
use Rattle.store_core.specs.Stores.{StoreMap, IsLive, cell_of, field_of, field_value}
use Rattle.store_core.proofs.FittingLemmas.{IfSome-at, IsSomeAnd-at}
use Rattle.routing_walks.specs.declared.fault.Place.{Place}
use Rattle.routing_walks.specs.Walks.{Fields, DataAlone, DataAndPointers, IsFollowed, Leads, IsParent, IsOfVariant, Chain, stay, go, Walk}
use Rattle.routing_walks.specs.Destinations.{EndsKind, Dest, IsOnlyDestination, IsPointer}
use Rattle.routing_walks.specs.WellFormed.{Names}
use Rattle.routing_walks.specs.CutFaults.{IsSound}
use Rattle.routing_walks.specs.Regions.{has_number, store_on, IsOn, IsPart, IsRest, IsClosedUnderFields, IsApart}
use Rattle.routing_walks.proofs.LiveLemmas.{Leads-live, Walk-live}
use Rattle.routing_walks.proofs.TreeLemmas.{IsInTree-child, IsInTree-parent}
use Rattle.routing_walks.proofs.MatchLemmas.{Matches, Matches-turned, Walk-matched}
use Rattle.routing_walks.specs.Pieces.{IsLikeOn}
use Rattle.routing_walks.proofs.DecidedLemmas.{in_none, in_rest, in_cases, decided_in, holds_from}
use Rattle.routing_walks.proofs.DecidedWalks.{decided_same_cell}
use Rattle.routing_walks.proofs.DecidedStores.{rest_of}

-- ---- whether a number is that of a cell of the set

itself : (x y : ℕ) → x ≡ y → nat_eq x y ≡ true
itself x y e = grind (arith, nat_tests)

same_number : (x y : ℕ) → nat_eq x y ≡ true → x ≡ y
same_number x y e = grind (arith, nat_tests)

pub number_in : (cells : List CellId) (c : CellId) → Contains cells c → has_number cells c.0 ≡ true
number_in [] c m = absurd (in_none c m)
number_in (d ∷ cells) c m = elim (in_cases d c cells m) [
  | inl same ↦ or_left _ _ (itself d.0 c.0 (ap (λ (x : CellId). x.0) same))
  | inr rest ↦ or_right _ _ (number_in cells c rest)
]

pub in_number : (cells : List CellId) (c : CellId) → has_number cells c.0 ≡ true → Contains cells c
in_number [] c e = absurd (false≢true e)
in_number (d ∷ cells) c e = cased (nat_eq d.0 c.0) refl (in_number cells c)
  where
    cased : (b : Bool) → nat_eq d.0 c.0 ≡ b → (has_number cells c.0 ≡ true → Contains cells c) → Contains (d ∷ cells) c
    cased true same rest = (0, omega arith, ap (λ (n : ℕ). record { 0 = n }) (same_number d.0 c.0 same))
    cased false apart rest = in_rest d c cells (rest (subst (λ b. (b || has_number cells c.0) ≡ true) apart e))

pub number_out : (cells : List CellId) (c : CellId) → (Contains cells c → ⊥) → has_number cells c.0 ≡ false
number_out cells c out = false_from_ne_true (has_number cells c.0) (λ e. out (in_number cells c e))

-- the store on a set has its cells
pub store_on-IsOn : (s : StoreMap) (cells : List CellId) → IsOn cells s (store_on s cells)
store_on-IsOn s cells = record {
  inside = λ c m. at c ∙ ap (λ b. cond b (cell_of s c) None) (number_in cells c m);
  outside = λ c out. at c ∙ ap (λ b. cond b (cell_of s c) None) (number_out cells c out);
}
  where
    at : (c : CellId) → cell_of (store_on s cells) c ≡ cond (has_number cells c.0) (cell_of s c) None
    at c = get-retain_keys s.cells (has_number cells) c.0 (λ x e. ap (has_number cells) (sym (nat_cmp-IsAntisymmetric c.0 x e)))

-- ---- a store on a set

module _ (cells : List CellId) (s t : StoreMap) (on : IsOn cells s t) where
  pub live_on : (c : CellId) → IsLive t c → Contains cells c × IsLive s c
  live_on c live =
      let m : Contains cells c = holds_from (decided_in decided_same_cell cells c) (λ out. false≢true (subst IsSome (on.outside c out) live)) in
      (m, subst IsSome (on.inside c m) live)

  pub on_live : (c : CellId) → Contains cells c → IsLive s c → IsLive t c
  on_live c m live = subst IsSome (sym (on.inside c m)) live

  pub value_on : (c : CellId) (f : FieldId) → Contains cells c → field_value t c f ≡ field_value s c f
  value_on c f m = ap (option_and_then (λ cell. field_of cell f)) (on.inside c m)

  pub leads_off : (types : List TypeEntry) (fields : Fields) (f : FieldId) (a b : CellId) → Leads types t fields f a b →
      Contains cells a × Contains cells b × Leads types s fields f a b
  leads_off types fields f a b h =
      let from = live_on a (Leads-live types t fields f a b h).0 in
      let to = live_on b h.live in
      (from.0, to.0, record { kind = h.kind; value = sym (value_on a f from.0) ∙ h.value; live = to.1 })

  pub leads_on : (types : List TypeEntry) (fields : Fields) (f : FieldId) (a b : CellId) → Contains cells a → Contains cells b →
      Leads types s fields f a b → Leads types t fields f a b
  leads_on types fields f a b from to h = record { kind = h.kind; value = value_on a f from ∙ h.value; live = on_live b to h.live }

  -- a path of data fields to a cell of the set, where no data field leads into it or out of it
  pub chain_on : (types : List TypeEntry) → IsApart types s DataAlone cells → {a b : CellId} → Chain s (IsParent types s) a b → Contains cells b →
      Contains cells a × Chain t (IsParent types t) a b
  chain_on types whole (stay a live) m = (m, stay a (on_live a m live))
  chain_on types whole (go a b c step chain) m =
      let rest = chain_on types whole chain m in
      let from = (whole step.field a b step.leads).1 rest.0 in
      (from, go a b c (record { field = step.field; leads = leads_on types DataAlone step.field a b from rest.0 step.leads }) rest.1)

-- a live cell of the set goes with itself
pub Within : List CellId → StoreMap → CellId → CellId → Type 0
Within cells s a c = (a ≡ c) × Contains cells a × IsLive s a

module _ (types : List TypeEntry) (fields : Fields) (cells : List CellId) (s t : StoreMap) (on : IsOn cells s t) (whole : IsApart types s fields cells) where
  pub Matches-on : Matches types fields (Within cells s) s t
  unfolding Within
  Matches-on = record {
    one = λ a c d h k. sym h.0 ∙ k.0;
    other = λ a b c h k. h.0 ∙ sym k.0;
    live = λ a c h. (h.2, subst (IsLive t) h.0 (on_live cells s t on a h.1 h.2));
    variant = λ a c h v. subst (λ x. IsOfVariant s v a ↔ IsOfVariant t v x) h.0 (
      λ is. subst (λ o. IsSomeAnd o (λ cell. cell.variant ≡ v)) (sym (on.inside a h.1)) is,
      λ is. subst (λ o. IsSomeAnd o (λ cell. cell.variant ≡ v)) (on.inside a h.1) is,
    );
    truth = λ a c h f b. subst (λ x. (field_value s a f ≡ Some (value.Bool b)) ↔ (field_value t x f ≡ Some (value.Bool b))) h.0 (
      λ is. value_on cells s t on a f h.1 ∙ is,
      λ is. sym (value_on cells s t on a f h.1) ∙ is,
    );
    down = λ f a b c h leads. let m = (whole f a b leads).0 h.1 in
        (b, (refl, m, leads.live), subst (λ x. Leads types t fields f x b) h.0 (leads_on cells s t on types fields f a b h.1 m leads));
    up = λ f a b d h leads. let m = (whole f a b leads).1 h.1 in (
      a,
      (refl, m, (Leads-live types s fields f a b leads).0),
      subst (λ x. Leads types t fields f a x) h.0
          (leads_on cells s t on types fields f a b m h.1 leads),
    );
    down_back = λ f a c d h leads. let k = leads_off cells s t on types fields f c d leads in
        (d, (refl, k.1, k.2.live), subst (λ x. Leads types s fields f x d) (sym h.0) k.2);
    up_back = λ f b c d h leads. let k = leads_off cells s t on types fields f c d leads in
        (c, (refl, k.0, (Leads-live types s fields f c d k.2).0), subst (λ x. Leads types s fields f c x) (sym h.0) k.2);
  }

  walk_in : (along : Route) (a b : CellId) → Contains cells a → Walk types s fields along a b → Contains cells b × Walk types t fields along a b
  unfolding Within
  walk_in along a b m w =
      let live = Walk-live types s fields along a b w in
      let k = Walk-matched types fields (Within cells s) s t Matches-on along a b a (refl, m, live.0) w in
      (k.1.1, subst (λ x. Walk types t fields along a x) (sym k.1.0) k.2)

  walk_out : (along : Route) (a b : CellId) → Contains cells a → Walk types t fields along a b → Walk types s fields along a b
  unfolding Within
  walk_out along a b m w =
      let live = Walk-live types t fields along a b w in
      let from = live_on cells s t on a live.0 in
      let k = Walk-matched types fields (λ c a. Within cells s a c) t s (Matches-turned types fields (Within cells s) s t Matches-on) along a b a
      (refl, from.0, from.1) w in
      subst (λ x. Walk types s fields along a x) k.1.0 k.2

  pub walks_on : (along : Route) (a b : CellId) → Contains cells a → Walk types s fields along a b ↔ Walk types t fields along a b
  walks_on along a b m = (λ w. (walk_in along a b m w).1, walk_out along a b m)

  pub walk_ends_in : (along : Route) (a b : CellId) → Walk types s fields along a b → Contains cells a → Contains cells b
  walk_ends_in along a b w m = (walk_in along a b m w).0

-- no field leads into the rest of the set or out of it
pub rest_apart : (types : List TypeEntry) (fields : Fields) (s : StoreMap) (cells rest : List CellId) → IsRest s cells rest →
    IsApart types s fields cells → IsApart types s fields rest
rest_apart types fields s cells rest is whole f a b leads =
    let live = Leads-live types s fields f a b leads in
    let same = whole f a b leads in (
      λ m. (is.members b).1 (live.1, λ k. ((is.members a).0 m).1 (same.1 k)),
      λ m. (is.members a).1 (live.0, λ k. ((is.members b).0 m).1 (same.0 k)),
    )

data_too : (types : List TypeEntry) (fields : Fields) (s : StoreMap) (f : FieldId) (a b : CellId) → Leads types s DataAlone f a b → Leads types s fields f a b
data_too types fields s f a b h = record { kind = kind_too (field_at types f) h.kind; value = h.value; live = h.live }
  where
    followed_too : (fields : Fields) (kind : FieldKind) → IsFollowed DataAlone kind → IsFollowed fields kind
    followed_too fields field.Bool h = absurd h
    followed_too fields (field.Data target) h = tt
    followed_too fields (field.Pointer target along) h = absurd h

    kind_too : (o : Option FieldEntry) → IsSomeAnd o (λ entry. IsFollowed DataAlone entry.kind) → IsSomeAnd o (λ entry. IsFollowed fields entry.kind)
    kind_too None h = absurd h
    kind_too (Some entry) h = followed_too fields entry.kind h

-- no data field does where no followed one does
pub data_apart : (types : List TypeEntry) (fields : Fields) (s : StoreMap) (cells : List CellId) → IsApart types s fields cells
    → IsApart types s DataAlone cells
data_apart types fields s cells whole f a b leads = whole f a b (data_too types fields s f a b leads)

module _ (types : List TypeEntry) (fields : Fields) (cells : List CellId) (s t : StoreMap) (on : IsOn cells s t) (whole : IsApart types s fields cells) where
  -- a walk that ends in the set begins there
  walk_begins_in : (along : Route) (a b : CellId) → Walk types s fields along a b → Contains cells b → Contains cells a
  walk_begins_in along a b w m = holds_from (decided_in decided_same_cell cells a) (λ out.
      let rest = rest_of s cells in
      let live = Walk-live types s fields along a b w in
      let there : Contains rest.0 b = walk_ends_in types fields rest.0 s (store_on s rest.0) (store_on-IsOn s rest.0)
      (rest_apart types fields s cells rest.0 rest.1 whole) along a b w ((rest.1.members a).1 (live.0, out)) in
      ((rest.1.members b).0 there).1 m)

  dest_to : (kind : FieldKind) (c d : CellId) → Contains cells c → EndsKind types s kind c d → EndsKind types t kind c d
  dest_to field.Bool c d m h = h
  dest_to (field.Data target) c d m h = h
  dest_to (field.Pointer target along) c d m h =
      let apart = data_apart types fields s cells whole in
      let k = walk_ends_in types DataAlone cells s t on apart along c d h.walk m in
      record {
        walk = (walks_on types DataAlone cells s t on apart along c d m).0 h.walk;
        of_target = subst (λ o. IsSomeAnd o (λ cell. cell.variant.ty ≡ target)) (sym (on.inside d k)) h.of_target;
      }

  dest_from : (kind : FieldKind) (c d : CellId) → Contains cells c → EndsKind types t kind c d → EndsKind types s kind c d
  dest_from field.Bool c d m h = h
  dest_from (field.Data target) c d m h = h
  dest_from (field.Pointer target along) c d m h =
      let k = live_on cells s t on d (Walk-live types t DataAlone along c d h.walk).1 in
      record {
        walk = (walks_on types DataAlone cells s t on (data_apart types fields s cells whole) along c d m).1 h.walk;
        of_target = subst (λ o. IsSomeAnd o (λ cell. cell.variant.ty ≡ target)) (on.inside d k.0) h.of_target;
      }

  some_to : (P Q : FieldEntry → Type 0) → ((entry : FieldEntry) → P entry → Q entry) → (o : Option FieldEntry) → IsSomeAnd o P → IsSomeAnd o Q
  some_to P Q each None h = h
  some_to P Q each (Some entry) h = each entry h

  pub dests_on : (c : CellId) (f : FieldId) (d : CellId) → Contains cells c → Dest types s c f d ↔ Dest types t c f d
  dests_on c f d m = (
    some_to _ _ (λ entry. dest_to entry.kind c d m) (field_at types f),
    some_to _ _ (λ entry. dest_from entry.kind c d m) (field_at types f),
  )

  pub only_on : (c : CellId) (f : FieldId) (x : Value) → Contains cells c → IsOnlyDestination types s c f x ↔ IsOnlyDestination types t c f x
  only_on c f (value.Bool truth) m = (λ h. h, λ h. h)
  only_on c f (value.Cell None) m = (λ h d k. h d ((dests_on c f d m).1 k), λ h d k. h d ((dests_on c f d m).0 k))
  only_on c f (value.Cell (Some d)) m = (
    λ h. ((dests_on c f d m).0 h.0, λ e k. h.1 e ((dests_on c f e m).1 k)),
    λ h. ((dests_on c f d m).1 h.0, λ e k. h.1 e ((dests_on c f e m).0 k)),
  )
  only_on c f (value.Cells others) m = (λ h. h, λ h. h)

  pub IsLikeOn-on : IsLikeOn types fields cells s t
  IsLikeOn-on = record {
    inside = λ along a b w. (walk_ends_in types fields cells s t on whole along a b w, walk_begins_in along a b w);
    walks = λ along a b m. walks_on types fields cells s t on whole along a b m;
    destinations = dests_on;
    only = only_on;
  }

-- ---- parts

module _ (types : List TypeEntry) (vars : List VarEntry) (s : StoreMap) (roots : List VarId) (cells : List CellId)
    (part : IsPart types vars s roots cells) where
  pub part_closed : IsClosedUnderFields types s cells
  part_closed a b m p = let h = (part.members a).0 m in
      (part.members b).1 (record { root = h.root; listed = h.listed; in_tree = IsInTree-child types vars s h.root a b h.in_tree p })

  -- where each live cell is named once, no data field leads into a part or out of it
  pub part_apart : ((c : CellId) (p q : Place) → IsLive s c → Names types vars s p c → Names types vars s q c → p ≡ q) → IsApart types s DataAlone cells
  part_apart once f a b leads = (
    λ m. part_closed a b m (record { field = f; leads = leads }),
    λ m. let h = (part.members b).0 m in
        (part.members a).1 (record {
          root = h.root;
          listed = h.listed;
          in_tree = IsInTree-parent types vars s once h.root a b h.in_tree (record { field = f; leads = leads });
        }),
  )

-- where pointer fields are right, no pointer field leads where no data field does
pub pointers_apart : (types : List TypeEntry) (vars : List VarEntry) (s : StoreMap) (cells : List CellId) → IsSound types vars s →
    IsApart types s DataAlone cells → IsApart types s DataAndPointers cells
pointers_apart types vars s cells sound whole f a b leads =
    let entry = IsSomeAnd-at (field_at types f) _ leads.kind in cased entry.0.kind (entry.0) entry.1 refl entry.2
  where
    like : IsLikeOn types DataAlone cells s (store_on s cells)
    like = IsLikeOn-on types DataAlone cells s (store_on s cells) (store_on-IsOn s cells) whole

    ends : (kind : FieldKind) → EndsKind types s kind a b → Contains cells a ↔ Contains cells b
    ends field.Bool h = absurd h
    ends (field.Data target) h = absurd h
    ends (field.Pointer target along) h = like.inside along a b h.walk

    cased : (kind : FieldKind) (entry : FieldEntry) → field_at types f ≡ Some entry → entry.kind ≡ kind → IsFollowed DataAndPointers kind
        → Contains cells a ↔ Contains cells b
    cased field.Bool entry at is h = absurd h
    cased (field.Data target) entry at is h = whole f a b (record {
      kind = subst (λ o. IsSomeAnd o (λ e. IsFollowed DataAlone e.kind)) (sym at) (subst (IsFollowed DataAlone) (sym is) tt);
      value = leads.value;
      live = leads.live;
    })
    cased (field.Pointer target along) entry at is h =
        let only = IfSome-at _ (IsOnlyDestination types s a f) _ leads.value
        (sound.pointers a f (subst (λ o. IsSomeAnd o (λ e. IsPointer e.kind)) (sym at) (subst IsPointer (sym is) tt))) in
        let dest = IsSomeAnd-at (field_at types f) _ only.0 in
        ends dest.0.kind dest.2

-- ---- two stores with the same cells in the set

pub walks_alike : (types : List TypeEntry) (fields : Fields) (cells : List CellId) (s t : StoreMap) →
    ((c : CellId) → Contains cells c → cell_of t c ≡ cell_of s c) → IsApart types s fields cells → IsApart types t fields cells →
    (along : Route) (a b : CellId) → Contains cells a → Walk types s fields along a b ↔ Walk types t fields along a b
walks_alike types fields cells s t same whole other along a b m =
    let here = store_on-IsOn s cells in
    let there : IsOn cells t (store_on s cells) =
    record { inside = λ c k. here.inside c k ∙ sym (same c k); outside = here.outside } in
    let one = walks_on types fields cells s (store_on s cells) here whole along a b m in
    let two = walks_on types fields cells t (store_on s cells) there other along a b m in
    (λ w. two.1 (one.0 w), λ w. one.1 (two.0 w))
