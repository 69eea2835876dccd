-- What no two ways that may begin at one position have between them.
use Rattle.std.proofs.Common.{◌≡◌, ℕ, zero, suc, ◌≤◌, ◌+◌, ◌-◌, ◌⊎◌, inl, inr, Bool, true, false, cond, ◌==◌, ◌&&◌, ◌||◌, List, [], ◌∷◌, ◌++◌}
use Rattle.std.proofs.Common.{Option, Some, None, Contains, append-nil, append_assoc, refl, sym, ap, ◌∙◌, subst, arith}
use Rattle.std.specs.List.{list_any}
use Rattle.std.specs.Option.{option_map, option_map_or}
use Rattle.std.proofs.lemmas.Bool.{true≢false, eqb-true, eq-eqb}
use Rattle.std.proofs.lemmas.List.{same_from_push}
use Rattle.gta_theory.specs.Assignments.{Position, Assignment}
use Rattle.gta_theory.proofs.ListsLemmas.{Contains-none, Contains-cases}
use Rattle.ws2s_forms.specs.Places.{ones, child_of, slot_of}
use Rattle.store_core.specs.declared.ids.TypeId.{TypeId}
use Rattle.store_core.specs.declared.ids.FieldId.{FieldId}
use Rattle.store_core.specs.declared.kind.Owner.{Owner}
use Rattle.store_core.specs.declared.kind.Owner.TheVariants as owner
use Rattle.store_core.specs.Tables.{TypeEntry, FieldEntry, VarEntry, field_at, owner_of, is_had}
use Rattle.tree_formula.specs.WellEncoded.{named}
use Rattle.tree_store.specs.Shapes.{variant_in, HasFieldAt, LaysOut}
use Rattle.tree_store.proofs.ListsLemmas.{flat_map-inside, Contains-one}
use Rattle.tree_store.proofs.MarksLemmas.{one-variant, cell-ends}
use Rattle.tree_store.proofs.TablesLemmas.{has_field-had, had-own}
use Rattle.tree_store.proofs.WordsLemmas.{slots-apart, slot-not_child, children-apart}
use Rattle.tree_reached.specs.declared.ways.Way.{Way}
use Rattle.tree_reached.specs.ByField.{owners_alike, holders_alike, comes_later, is_before, is_between, gap_at, number, gaps, last_number}
use Rattle.tree_reached.proofs.BeginsLemmas.{IsFrom, Begins, KnowsHolders}

-- ---- tests

or-left : (b c : Bool) → b ≡ true → (b || c) ≡ true
or-left true c e = refl
or-left false c e = absurd (true≢false (sym e))

or-right : (b c : Bool) → c ≡ true → (b || c) ≡ true
or-right true c e = refl
or-right false c e = e

and-both : (b c : Bool) → b ≡ true → c ≡ true → (b && c) ≡ true
and-both true c one other = other
and-both false c one other = absurd (true≢false (sym one))

any-found : {X : Type 0} (test : X → Bool) (xs : List X) (x : X) → Contains xs x → test x ≡ true → list_any test xs ≡ true
any-found test [] x among holds = absurd (Contains-none x among)
any-found test (y ∷ ys) x among holds = elim (Contains-cases y x ys among) as (λ _. list_any test (y ∷ ys) ≡ true) [
  | inl is ↦ or-left (test y) (list_any test ys) (ap test is ∙ holds)
  | inr later ↦ or-right (test y) (list_any test ys) (any-found test ys x later holds)
]

gap-inside : (b : Bool) (n d : ℕ) → Contains (cond b [] (n ∷ [])) d → (b ≡ false) × (n ≡ d)
gap-inside true n d among = absurd (Contains-none d among)
gap-inside false n d among = (refl, Contains-one n d among)

-- a gap is between no two ways
pub gap-parts : (types : List TypeEntry) (ws : List Way) (gap : ℕ) → Contains (gaps types ws) gap → is_between types ws gap ≡ false
gap-parts types ws gap listed =
    let (n, among, of_n) = flat_map-inside (gap_at types ws) (named number (last_number ws)) gap listed in
    let (none, is) = gap-inside (is_between types ws n) n gap of_n in
    subst (λ (m : ℕ). is_between types ws m ≡ false) is none

pub between : (types : List TypeEntry) (ws : List Way) (gap : ℕ) (v w : Way) → Contains ws v → Contains ws w → v.number + gap ≡ w.number →
    holders_alike types v.holder w.holder ≡ true → is_between types ws gap ≡ true
between types ws gap v w one other so_many alike =
    any-found (is_before types ws gap) ws v one
    (any-found (comes_later types v gap) ws w other (and-both (v.number + gap == w.number) (holders_alike types v.holder w.holder)
    (eq-eqb (v.number + gap) w.number so_many) alike))

-- ---- fields of one cell

owners-by : (f g : FieldId) (one other : Option ℕ) → ((i j : ℕ) → one ≡ Some i → other ≡ Some j → i ≡ j) →
    owners_alike (Some (option_map_or (λ (i : ℕ). owner.Variant (record { ty = f.ty; index = i })) one (owner.Common f.ty)))
    (Some (option_map_or (λ (i : ℕ). owner.Variant (record { ty = g.ty; index = i })) other (owner.Common g.ty))) ≡ true
owners-by f g None None same = refl
owners-by f g None (Some j) same = refl
owners-by f g (Some i) None same = refl
owners-by f g (Some i) (Some j) same = eq-eqb i j (same i j refl refl)

module _ (types : List TypeEntry) (vars : List VarEntry) (a : Assignment) (laid : LaysOut types vars a) where
  fields-alike : (f g : FieldId) (e h : FieldEntry) (p : Position) → field_at types f ≡ Some e → field_at types g ≡ Some h →
      HasFieldAt types a f p → HasFieldAt types a g p → holders_alike types (Some f) (Some g) ≡ true
  fields-alike f g e h p there also one other =
      let same = one-variant types vars a laid (variant_in f.ty one.index) (variant_in g.ty other.index) p one.here other.here in
      let typed : f.ty.0 ≡ g.ty.0 = ap (λ v. v.ty.0) same in
      let index : one.index ≡ other.index = ap (λ v. v.index) same in
      let first = has_field-had types f e one.index there one.has in
      let second = has_field-had types g h other.index also other.has in
      let owners = owners-by f g e.only h.only (λ i j own its.
      had-own e i one.index own first ∙ index ∙ sym (had-own h j other.index its second)) in
      and-both (f.ty.0 == g.ty.0) (owners_alike (option_map (owner_of f) (field_at types f)) (option_map (owner_of g) (field_at types g)))
      (eq-eqb f.ty.0 g.ty.0 typed)
      (subst (λ (o : Option FieldEntry). owners_alike (option_map (owner_of f) o) (option_map (owner_of g) (field_at types g)) ≡ true) (sym there)
      (subst (λ (o : Option FieldEntry). owners_alike (Some (owner_of f e)) (option_map (owner_of g) o) ≡ true) (sym also) owners))

  -- from two positions where ways begin the same position is so many steps below only if both are the same
  pub begun-once : (ws : List Way) → KnowsHolders types ws → (v w : Way) (p q : Position) (i j : ℕ) → Contains ws v → Contains ws w →
      IsFrom types a v.holder p → IsFrom types a w.holder q → child_of i p ≡ child_of j q →
      (i ≡ j) × (holders_alike types v.holder w.holder ≡ true)
  begun-once ws known v w p q i j one other from_v from_w e = by v.holder w.holder refl refl from_v from_w
    where
      by : (h g : Option FieldId) → v.holder ≡ h → w.holder ≡ g → IsFrom types a h p → IsFrom types a g q →
          (i ≡ j) × (holders_alike types h g ≡ true)
      by None None first second at also =
          (slots-apart i j (ap (λ (u : Position). child_of i u) (sym at) ∙ e ∙ ap (λ (u : Position). child_of j u) also), refl)
      by None (Some g) first second at has =
          absurd (slot-not_child i j q (cell-ends types vars a laid (variant_in g.ty has.index) q has.here)
          (ap (λ (u : Position). child_of i u) (sym at) ∙ e))
      by (Some f) None first second has at =
          absurd (slot-not_child j i p (cell-ends types vars a laid (variant_in f.ty has.index) p has.here)
          (ap (λ (u : Position). child_of j u) (sym at) ∙ sym e))
      by (Some f) (Some g) first second has also =
          let (so_many, same) = children-apart i j p q (cell-ends types vars a laid (variant_in f.ty has.index) p has.here)
          (cell-ends types vars a laid (variant_in g.ty also.index) q also.here) e in
          let (x, there) = known v f one first in
          let (y, found) = known w g other second in
          (so_many, fields-alike f g x y p there found has (subst (HasFieldAt types a g) (sym same) also))

-- ---- steps by 1

ones-last : (n : ℕ) → ones n ++ true ∷ [] ≡ ones (suc n)
ones-last zero = refl
ones-last (suc n) = ap (λ (w : Position). true ∷ w) (ones-last n)

pushed : (u : Position) (n : ℕ) → (u ++ ones n) ++ true ∷ [] ≡ u ++ ones (suc n)
pushed u n = append_assoc u (ones n) (true ∷ []) ∙ ap (λ (w : Position). u ++ w) (ones-last n)

-- below two positions by steps by 1, one of them is below the other
pub split-ones : (q r : Position) (j m : ℕ) → q ++ ones j ≡ r ++ ones m →
    ((m ≤ j) × (r ≡ q ++ ones (j - m))) ⊎ ((s : ℕ) × (m ≡ j + suc s) × (q ≡ r ++ ones (suc s)))
split-ones q r zero zero e = inl (omega arith, sym (append-nil r) ∙ sym e)
split-ones q r zero (suc m) e = inr (m, omega arith, sym (append-nil q) ∙ e)
split-ones q r (suc j) zero e =
    let all : suc j ≡ suc j - 0 = omega arith in
    inl (omega arith, sym (append-nil r) ∙ sym e ∙ ap (λ (n : ℕ). q ++ ones n) all)
split-ones q r (suc j) (suc m) e =
    let (same, letters) = same_from_push (q ++ ones j) (r ++ ones m) true true (pushed q j ∙ e ∙ sym (pushed r m)) in
    elim (split-ones q r j m same) as (λ _. ((suc m ≤ suc j) × (r ≡ q ++ ones (suc j - suc m)))
    ⊎ ((s : ℕ) × (suc m ≡ suc j + suc s) × (q ≡ r ++ ones (suc s)))) [
      | inl above ↦
          (let rest : j - m ≡ suc j - suc m = omega arith in
          inl (omega (arith, above.0), above.1 ∙ ap (λ (n : ℕ). q ++ ones n) rest))
      | inr below ↦ inr (below.0, omega (arith, below.1), below.2)
    ]

pub child-ones : (q r : Position) (j m : ℕ) → child_of j q ≡ child_of m r → q ++ ones j ≡ r ++ ones m
child-ones q r j m e =
    let (same, letters) = same_from_push (q ++ ones j) (r ++ ones m) false false
    (append_assoc q (ones j) (false ∷ []) ∙ e ∙ sym (append_assoc r (ones m) (false ∷ []))) in
    same

pub below-child : (q r : Position) (s : ℕ) → q ≡ r ++ ones s → q ++ false ∷ [] ≡ child_of s r
below-child q r s e = ap (λ (w : Position). w ++ false ∷ []) e ∙ append_assoc r (ones s) (false ∷ [])
