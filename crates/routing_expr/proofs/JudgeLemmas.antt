-- Whether a pointer field holds what it has to.
use Rattle.std.proofs.Common.{◌≡◌, ◌↔◌, ℕ, zero, suc, ◌<◌, Bool, true, false, not, IsTrue, List, [], ◌∷◌, length, get_or, Option, Some, None, IsSome}
use Rattle.std.proofs.Common.{IsSomeAnd, IfSome, refl, sym, ap, ◌∙◌, subst, arith}
use Rattle.std.specs.Bool.{OnTrue, OnFalse}
use Rattle.std.specs.Prelude.{option_map, Contains}
use Rattle.std.proofs.lemmas.Bool.{false≢true}
use Rattle.store_core.specs.declared.ids.TypeId.{TypeId}
use Rattle.store_core.specs.declared.ids.FieldId.{FieldId}
use Rattle.store_core.specs.declared.ids.CellId.{CellId}
use Rattle.store_core.specs.declared.kind.FieldKind.TheVariants as field
use Rattle.store_core.specs.declared.kind.Route.{Route}
use Rattle.store_core.specs.declared.value.Value.{Value}
use Rattle.store_core.specs.declared.value.Value.TheVariants as value
use Rattle.store_core.specs.CellLists.{AreRising}
use Rattle.store_core.specs.Tables.{TypeEntry, FieldEntry, field_at}
use Rattle.store_core.specs.Stores.{StoreMap, field_value}
use Rattle.routing_walks.specs.declared.fault.Place.{Place}
use Rattle.routing_walks.specs.declared.fault.Place.TheVariants as place
use Rattle.routing_walks.specs.Destinations.{EndsWalk, EndsKind, Dest, IsOnlyDestination, IsPointer}
use Rattle.routing_walks.specs.WellFormed.{IsWrongField, IsWrongPlace, IsRightField, IsThere}
use Rattle.routing_walks.specs.Sets.{Lists}
use Rattle.routing_walks.proofs.LiveLemmas.{IsSome-and}
use Rattle.routing_expr.specs.Places.{ArePlaces}
use Rattle.routing_expr.specs.Judging.{IsOnly, IsRightPlace}

at_first : (d e : CellId) (cells : List CellId) → d ≡ e → Contains (d ∷ cells) e
at_first d e cells same = (0, omega arith, same)

-- a list of one has that one alone
in_one : (d e : CellId) → Contains (d ∷ []) e → d ≡ e
in_one d e (zero, within, is) = is
in_one d e (suc k, within, is) = absurd (omega arith)

module _ (types : List TypeEntry) (s : StoreMap) (c : CellId) (f : FieldId) (target : TypeId) (along : Route)
    (cells : List CellId) (kind : option_map (λ (entry : FieldEntry). entry.kind) (field_at types f) ≡ Some (field.Pointer target along))
    (lists : Lists (EndsWalk types s along target c) cells) where
  ends_kind : (o : Option FieldEntry) (d : CellId) → option_map (λ (entry : FieldEntry). entry.kind) o ≡ Some
      (field.Pointer target along) → IsSomeAnd o (λ entry. EndsKind types s entry.kind c d) ↔ EndsWalk types s along target c d
  ends_kind None d e = absurd (cc)
  ends_kind (Some entry) d e = let is : entry.kind ≡ field.Pointer target along = cc in
      (λ h. subst (λ k. EndsKind types s k c d) is h, λ h. subst (λ k. EndsKind types s k c d) (sym is) h)

  dest_in : (d : CellId) → Dest types s c f d → Contains cells d
  dest_in d h = (lists.members d).1 ((ends_kind (field_at types f) d kind).0 h)

  in_dest : (d : CellId) → Contains cells d → Dest types s c f d
  in_dest d m = (ends_kind (field_at types f) d kind).1 ((lists.members d).0 m)

  none_there : (xs : List CellId) → cells ≡ xs → ((d : CellId) → Dest types s c f d → ⊥) → xs ≡ []
  none_there [] is none = refl
  none_there (d ∷ xs) is none = absurd (none d (in_dest d (subst (λ ys. Contains ys d) (sym is) (at_first d d xs refl))))

  one_there : (xs : List CellId) (d : CellId) → cells ≡ xs → Dest types s c f d → ((e : CellId) → Dest types s c f e → e ≡ d) → xs ≡ d ∷ []
  one_there [] d is there only = let m : Contains [] d = subst (λ ys. Contains ys d) is (dest_in d there) in absurd (omega (arith, m.1))
  one_there (e ∷ []) d is there only = ap (λ x. x ∷ []) (only e (in_dest e (subst (λ ys. Contains ys e) (sym is) (at_first e e [] refl))))
  one_there (e ∷ g ∷ xs) d is there only =
      let first : e ≡ d = only e (in_dest e (subst (λ ys. Contains ys e) (sym is) (at_first e e (g ∷ xs) refl))) in
      let second : g ≡ d = only g (in_dest g (subst (λ ys. Contains ys g) (sym is) (1, omega arith, refl))) in
      let rising = subst (λ ys. AreRising ys) is lists.rising in
      let same : e.0 ≡ g.0 = ap (λ (x : CellId). x.0) (first ∙ sym second) in
      absurd (omega (arith, rising.0.0))

  -- the value is the one cell that the search found, or null where it found none
  pub only_iff : (x : Value) → IsOnly cells x ↔ IsOnlyDestination types s c f x
  only_iff (value.Bool truth) = (λ h. h, λ h. h)
  only_iff (value.Cell None) = (
    λ none d h. let m : Contains [] d = subst (λ ys. Contains ys d) none (dest_in d h) in omega (arith, m.1),
    λ none. none_there cells refl none,
  )
  only_iff (value.Cell (Some d)) = (
    λ one. (in_dest d (subst (λ ys. Contains ys d) (sym one) (at_first d d [] refl)), λ e h. sym (in_one d e (subst (λ ys. Contains ys e) one (dest_in e h)))),
    λ h. one_there cells d refl h.0 h.1,
  )
  only_iff (value.Cells others) = (λ h. h, λ h. h)

  pointer_kind : (o : Option FieldEntry) → option_map (λ (entry : FieldEntry). entry.kind) o ≡ Some (field.Pointer target along) →
      IsSomeAnd o (λ entry. IsPointer entry.kind)
  pointer_kind None e = absurd (cc)
  pointer_kind (Some entry) e = let is : entry.kind ≡ field.Pointer target along = cc in subst IsPointer (sym is) tt

  module _ (x : Value) (r : Bool) (value : field_value s c f ≡ Some x) (found : IsTrue r ↔ IsOnly cells x) where
    pub wrong_from : OnTrue (not r) (IsWrongField types s c f)
    wrong_from = go r found
      where
        go : (r : Bool) → (IsTrue r ↔ IsOnly cells x) → OnTrue (not r) (IsWrongField types s c f)
        go true found = tt
        go false found = record {
          kind = pointer_kind (field_at types f) kind;
          wrong = subst (λ o. IsSomeAnd o (λ y. IsOnlyDestination types s c f y → ⊥)) (sym value) (λ only. false≢true (found.1 ((only_iff x).1 only)));
        }

    pub right_from : OnFalse (not r) (IsRightField types s c f)
    right_from = go r found
      where
        go : (r : Bool) → (IsTrue r ↔ IsOnly cells x) → OnFalse (not r) (IsRightField types s c f)
        go true found = λ pointer. subst (λ o. IfSome o (IsOnlyDestination types s c f)) (sym value) ((only_iff x).0 (found.0 refl))
        go false found = tt

-- what is right isn't wrong
pub not_wrong : (types : List TypeEntry) (s : StoreMap) (p : Place) → IsRightPlace types s p → IsWrongPlace types s p → ⊥
not_wrong types s (place.Var v) right wrong = wrong
not_wrong types s (place.Field c f) right wrong = both (field_value s c f) (right wrong.kind) wrong.wrong
  where
    both : (o : Option Value) → IfSome o (IsOnlyDestination types s c f) → IsSomeAnd o (λ x. IsOnlyDestination types s c f x → ⊥) → ⊥
    both None right wrong = wrong
    both (Some x) right wrong = wrong right

pub wrong_there : (types : List TypeEntry) (s : StoreMap) (p : Place) → IsWrongPlace types s p → IsThere s p
wrong_there types s (place.Var v) wrong = absurd wrong
wrong_there types s (place.Field c f) wrong = IsSome-and (field_value s c f) _ wrong.wrong

-- where all places are right, all fields are
pub all_right : (types : List TypeEntry) (s : StoreMap) (places : List Place) → ArePlaces s places →
    ((k : ℕ) (d : Place) → k < length places → IsRightPlace types s (get_or places k d))
    → (c : CellId) (f : FieldId) → IsRightField types s c f
all_right types s places are right c f pointer = opened (field_value s c f) refl
  where
    opened : (o : Option Value) → field_value s c f ≡ o → IfSome o (IsOnlyDestination types s c f)
    opened None is = tt
    opened (Some x) is =
        let m = are.complete (place.Field c f) (subst IsSome (sym is) refl) in
        subst (λ o. IfSome o (IsOnlyDestination types s c f)) is (subst (IsRightPlace types s) m.2 (right m.0 (place.Field c f) m.1) pointer)
