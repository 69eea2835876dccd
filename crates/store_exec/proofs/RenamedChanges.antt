-- What the changes of two stores that are the same but for the names of their cells keep.
use Rattle.std.proofs.Common.{◌≡◌, ◌≢◌, ◌⊎◌, inl, inr, ℕ, zero, suc, ◌+◌, ◌<◌, Bool, true, false, List, [], ◌∷◌, map, slice_set, Option, Some, None}
use Rattle.std.proofs.Common.{IsSome, refl, sym}
use Rattle.std.proofs.Common.{ap, ap₂, ◌∙◌, subst, arith, if◌then◌else◌}
use Rattle.std.specs.Ordering.{nat_cmp}
use Rattle.std.specs.FinMap.{FinMap, get}
use Rattle.store_core.specs.declared.ids.VariantId.{VariantId}
use Rattle.store_core.specs.declared.ids.FieldId.{FieldId}
use Rattle.store_core.specs.declared.ids.VarId.{VarId}
use Rattle.store_core.specs.declared.ids.CellId.{CellId}
use Rattle.store_core.specs.declared.kind.FieldKind.{FieldKind}
use Rattle.store_core.specs.declared.kind.FieldKind.TheVariants as field
use Rattle.store_core.specs.declared.value.Value.{Value}
use Rattle.store_core.specs.declared.value.Value.TheVariants as value
use Rattle.store_core.specs.Tables.{TypeEntry, FieldEntry, fields_of, is_had}
use Rattle.store_core.specs.Stores.{StoreMap, CellEntry, cell_of, IsLive, blank, field_class, blank_slot, blank_cell, put_cell, with_field, set_field, set_var}
use Rattle.store_core.specs.Stores.{remove_cell}
use Rattle.store_laws.specs.Changed.{next_cell}
use Rattle.store_laws.proofs.CellLemmas.{cell_cases, put_here, put_elsewhere, set_nothing, set_here, set_elsewhere, gone_here, gone_elsewhere}
use Rattle.store_laws.proofs.ChangeLemmas.{IsRemoved-remove_cell}
use Rattle.routing_walks.specs.Pairing.{IsPair, PairsReference, PairsValue, PairsSlot, Pairwise, PairsCell, PairsEntry, ArePaired}
use Rattle.routing_walks.proofs.DecidedLemmas.{in_first, in_rest, in_cases}
use Rattle.store_logic.proofs.RenamingLemmas.{Pairwise-each}
use Rattle.store_exec.specs.Renamed.{AreRenamed, with_new, StayRenamed}

-- ---- more pairs

module _ (R L : CellId → CellId → Type 0) (each : (c d : CellId) → R c d → L c d) where
  reference_grown : (o p : Option CellId) → PairsReference R o p → PairsReference L o p
  reference_grown None None k = tt
  reference_grown (Some c) (Some d) k = each c d k
  reference_grown o p k = absurd k

  pub value_grown : (x y : Value) → PairsValue R x y → PairsValue L x y
  value_grown (value.Bool truth) (value.Bool other) k = k
  value_grown (value.Cell c) (value.Cell d) k = reference_grown c d k
  value_grown (value.Cells cells) (value.Cells others) k = (
    k.0,
    k.1,
    (λ c m. let d = k.2 c m in (d.0, d.1, each c d.0 d.2)),
    (λ d m. let c = k.3 d m in (c.0, c.1, each c.0 d c.2)),
  )
  value_grown x y k = absurd k

  slot_grown : (o p : Option Value) → PairsSlot R o p → PairsSlot L o p
  slot_grown None None k = tt
  slot_grown (Some x) (Some y) k = value_grown x y k
  slot_grown o p k = absurd k

  pub entry_grown : (o p : Option CellEntry) → PairsEntry R o p → PairsEntry L o p
  entry_grown None None k = tt
  entry_grown (Some cell) (Some other) k = record {
    variant = k.variant;
    values = Pairwise-each (PairsSlot R) (PairsSlot L) slot_grown cell.values other.values k.values;
  }
  entry_grown o p k = absurd k

  pub vars_grown : (xs ys : List Value) → Pairwise (PairsValue R) xs ys → Pairwise (PairsValue L) xs ys
  vars_grown = Pairwise-each (PairsValue R) (PairsValue L) value_grown

-- ---- lists with one element changed

pairwise_set : {X : Type 0} (K : X → X → Type 0) (xs ys : List X) (i : ℕ) (x y : X) → Pairwise K xs ys → K x y →
    Pairwise K (slice_set xs i x) (slice_set ys i y)
pairwise_set K [] [] i x y h k = tt
pairwise_set K [] (b ∷ ys) i x y h k = absurd h
pairwise_set K (a ∷ xs) [] i x y h k = absurd h
pairwise_set K (a ∷ xs) (b ∷ ys) zero x y h k = (k, h.1)
pairwise_set K (a ∷ xs) (b ∷ ys) (suc i) x y h k = (h.0, pairwise_set K xs ys i x y h.1 k)

-- ---- changes of cells that stand

live_before : (s : StoreMap) (c : CellId) (f : FieldId) (x : Value) (a : CellId) → IsLive (set_field s c f x) a → IsLive s a
live_before s c f x a live = by (cell_of s c) refl
  where
    by : (o : Option CellEntry) → cell_of s c ≡ o → IsLive s a
    by None is = subst (λ (m : FinMap nat_cmp CellEntry). IsSome (get m a.0)) (set_nothing s c f x is) live
    by (Some cell) is = elim (cell_cases a c) [
      | inl same ↦ subst IsSome (sym (ap (cell_of s) same ∙ is)) refl
      | inr apart ↦ subst IsSome (set_elsewhere s c f x a apart) live
    ]

module _ (R : CellId → CellId → Type 0) (s t : StoreMap) (h : ArePaired R s t) where
  entries : (o u p w : Option CellEntry) → u ≡ o → w ≡ p → PairsEntry R o p → PairsEntry R u w
  entries o u p w e k i = subst (λ x. PairsEntry R x w) (sym e) (subst (PairsEntry R o) (sym k) i)

  partner : (a b c d : CellId) → R a b → R c d → a ≡ c → b ≡ d
  partner a b c d p k same = h.one c b d (subst (λ x. R x b) same p) k

  others_apart : (a b c d : CellId) → R a b → R c d → a ≢ c → b ≢ d
  others_apart a b c d p k apart e = apart (h.other a c d (subst (R a) e p) k)

  pub removed-paired : (c d : CellId) → R c d → ArePaired R (remove_cell s c) (remove_cell t d)
  removed-paired c d k = record {
    one = h.one;
    other = h.other;
    forth = λ a live. h.forth a (((IsRemoved-remove_cell s c).live a).0 live).0;
    back = λ b live. h.back b (((IsRemoved-remove_cell t d).live b).0 live).0;
    cells = λ a b p. elim (cell_cases a c) [
      | inl same ↦ entries None (cell_of (remove_cell s c) a) None (cell_of (remove_cell t d) b)
          (ap (cell_of (remove_cell s c)) same ∙ gone_here s c)
          (ap (cell_of (remove_cell t d)) (partner a b c d p k same) ∙ gone_here t d) tt
      | inr apart ↦ entries (cell_of s a) (cell_of (remove_cell s c) a) (cell_of t b) (cell_of (remove_cell t d) b)
          (gone_elsewhere s c a apart) (gone_elsewhere t d b (others_apart a b c d p k apart)) (h.cells a b p)
    ];
    vars = h.vars;
  }

  pub set-paired : (c d : CellId) (f : FieldId) (x y : Value) → R c d → PairsValue R x y → ArePaired R (set_field s c f x) (set_field t d f y)
  set-paired c d f x y k values = record {
    one = h.one;
    other = h.other;
    forth = λ a live. h.forth a (live_before s c f x a live);
    back = λ b live. h.back b (live_before t d f y b live);
    cells = λ a b p. elim (cell_cases a c) [
      | inl same ↦ entries (cell_of (set_field s c f x) c) (cell_of (set_field s c f x) a) (cell_of (set_field t d f y) d) (cell_of (set_field t d f y) b)
          (ap (cell_of (set_field s c f x)) same) (ap (cell_of (set_field t d f y)) (partner a b c d p k same))
          (here (cell_of s c) (cell_of t d) refl refl (h.cells c d k))
      | inr apart ↦ entries (cell_of s a) (cell_of (set_field s c f x) a) (cell_of t b) (cell_of (set_field t d f y) b)
          (set_elsewhere s c f x a apart) (set_elsewhere t d f y b (others_apart a b c d p k apart)) (h.cells a b p)
    ];
    vars = h.vars;
  }
    where
      here : (o p : Option CellEntry) → cell_of s c ≡ o → cell_of t d ≡ p → PairsEntry R o p →
          PairsEntry R (cell_of (set_field s c f x) c) (cell_of (set_field t d f y) d)
      here None None is at e = entries None (cell_of (set_field s c f x) c) None (cell_of (set_field t d f y) d)
          (ap (λ (m : FinMap nat_cmp CellEntry). get m c.0) (set_nothing s c f x is) ∙ is)
          (ap (λ (m : FinMap nat_cmp CellEntry). get m d.0) (set_nothing t d f y at) ∙ at) tt
      here (Some cell) (Some other) is at e = entries (Some (with_field cell f x)) (cell_of (set_field s c f x) c)
          (Some (with_field other f y)) (cell_of (set_field t d f y) d) (set_here s c f x cell is) (set_here t d f y other at) (record {
            variant = e.variant;
            values = pairwise_set (PairsSlot R) cell.values other.values f.index (Some x) (Some y) e.values values;
          })
      here o p is at e = absurd e

  pub var-paired : (v : VarId) (x y : Value) → PairsValue R x y → ArePaired R (set_var s v x) (set_var t v y)
  var-paired v x y k = record {
    one = h.one;
    other = h.other;
    forth = h.forth;
    back = h.back;
    cells = h.cells;
    vars = pairwise_set (PairsValue R) s.vars t.vars v.0 x y h.vars k;
  }

-- ---- a new cell

module _ (K : CellId → CellId → Type 0) where
  blank_value : (kind : FieldKind) → PairsValue K (blank (field_class kind)) (blank (field_class kind))
  blank_value field.Bool = refl
  blank_value (field.Data target) = tt
  blank_value (field.Pointer target along) = tt

  blank_paired : (b : Bool) (x : Value) → PairsValue K x x → PairsSlot K (if b then Some x else None) (if b then Some x else None)
  blank_paired true x k = k
  blank_paired false x k = tt

  blanks_paired : (index : ℕ) (fs : List FieldEntry) → Pairwise (PairsSlot K) (map (blank_slot index) fs) (map (blank_slot index) fs)
  blanks_paired index [] = tt
  blanks_paired index (f ∷ fs) = (blank_paired (is_had index f) (blank (field_class f.kind)) (blank_value f.kind), blanks_paired index fs)

module _ (types : List TypeEntry) (v : VariantId) (pairs : List (CellId × CellId)) (s t : StoreMap) (h : AreRenamed pairs s t) where
  abbrev more : List (CellId × CellId)
  more = (next_cell s, next_cell t) ∷ pairs

  kept : (c d : CellId) → IsPair pairs c d → IsPair more c d
  kept c d p = in_rest (next_cell s, next_cell t) (c, d) pairs p

  new_or_kept : (c d : CellId) → IsPair more c d → ((c ≡ next_cell s) × (d ≡ next_cell t)) ⊎ IsPair pairs c d
  new_or_kept c d p = elim (in_cases (next_cell s, next_cell t) (c, d) pairs p) [
    | inl same ↦ inl (sym (ap (λ (x : CellId × CellId). x.0) same), sym (ap (λ (x : CellId × CellId). x.1) same))
    | inr old ↦ inr old
  ]

  not_next : (c d : CellId) → IsPair pairs c d → c ≢ next_cell s
  not_next c d p e = let below = (h.below c d p).0 in let is : c.0 ≡ s.next = ap (λ (x : CellId). x.0) e in omega (arith, below, is)

  not_next_other : (c d : CellId) → IsPair pairs c d → d ≢ next_cell t
  not_next_other c d p e = let below = (h.below c d p).1 in let is : d.0 ≡ t.next = ap (λ (x : CellId). x.0) e in omega (arith, below, is)

  one_partner : (c d e : CellId) → IsPair more c d → IsPair more c e → d ≡ e
  one_partner c d e p q = elim (new_or_kept c d p) [
    | inl new ↦ elim (new_or_kept c e q) [
      | inl also ↦ new.1 ∙ sym also.1
      | inr old ↦ absurd (not_next c e old new.0)
    ]
    | inr old ↦ elim (new_or_kept c e q) [
      | inl new ↦ absurd (not_next c d old new.0)
      | inr also ↦ h.paired.one c d e old also
    ]
  ]

  other_partner : (b c d : CellId) → IsPair more b d → IsPair more c d → b ≡ c
  other_partner b c d p q = elim (new_or_kept b d p) [
    | inl new ↦ elim (new_or_kept c d q) [
      | inl also ↦ new.0 ∙ sym also.0
      | inr old ↦ absurd (not_next_other c d old new.1)
    ]
    | inr old ↦ elim (new_or_kept c d q) [
      | inl new ↦ absurd (not_next_other b d old new.1)
      | inr also ↦ h.paired.other b c d old also
    ]
  ]

  forth : (c : CellId) → IsLive (put_cell s types v) c → (d : CellId) × IsPair more c d
  forth c live = elim (cell_cases c (next_cell s)) [
    | inl same ↦ (next_cell t, subst (λ x. IsPair more x (next_cell t)) (sym same) (in_first (next_cell s, next_cell t) pairs))
    | inr apart ↦ let d = h.paired.forth c (subst IsSome (put_elsewhere types s v c apart) live) in (d.0, kept c d.0 d.1)
  ]

  back : (d : CellId) → IsLive (put_cell t types v) d → (c : CellId) × IsPair more c d
  back d live = elim (cell_cases d (next_cell t)) [
    | inl same ↦ (next_cell s, subst (λ x. IsPair more (next_cell s) x) (sym same) (in_first (next_cell s, next_cell t) pairs))
    | inr apart ↦ let c = h.paired.back d (subst IsSome (put_elsewhere types t v d apart) live) in (c.0, kept c.0 d c.1)
  ]

  same_entries : (o u p w : Option CellEntry) → u ≡ o → w ≡ p → PairsEntry (IsPair more) o p → PairsEntry (IsPair more) u w
  same_entries o u p w e k i = subst (λ x. PairsEntry (IsPair more) x w) (sym e) (subst (PairsEntry (IsPair more) o) (sym k) i)

  blanks : PairsCell (IsPair more) (blank_cell types v) (blank_cell types v)
  blanks = record { variant = refl; values = blanks_paired (IsPair more) v.index (fields_of types v.ty) }

  cells : (c d : CellId) → IsPair more c d → PairsEntry (IsPair more) (cell_of (put_cell s types v) c) (cell_of (put_cell t types v) d)
  cells c d p = elim (new_or_kept c d p) [
    | inl new ↦ same_entries (Some (blank_cell types v)) (cell_of (put_cell s types v) c) (Some (blank_cell types v)) (cell_of (put_cell t types v) d)
        (ap (cell_of (put_cell s types v)) new.0 ∙ put_here types s v) (ap (cell_of (put_cell t types v)) new.1 ∙ put_here types t v) blanks
    | inr old ↦ same_entries (cell_of s c) (cell_of (put_cell s types v) c) (cell_of t d) (cell_of (put_cell t types v) d)
        (put_elsewhere types s v c (not_next c d old)) (put_elsewhere types t v d (not_next_other c d old))
        (entry_grown (IsPair pairs) (IsPair more) kept (cell_of s c) (cell_of t d) (h.paired.cells c d old))
  ]

  still_below : (c d : CellId) → IsPair more c d → (c.0 < s.next + 1) × (d.0 < t.next + 1)
  still_below c d p = elim (new_or_kept c d p) [
    | inl new ↦
        let one : c.0 ≡ s.next = ap (λ (x : CellId). x.0) new.0 in
        let other : d.0 ≡ t.next = ap (λ (x : CellId). x.0) new.1 in
        (omega (arith, one), omega (arith, other))
    | inr old ↦
        let one = (h.below c d old).0 in
        let other = (h.below c d old).1 in
        (omega (arith, one), omega (arith, other))
  ]

  pub put-renamed : AreRenamed more (put_cell s types v) (put_cell t types v)
  put-renamed = record {
    paired = record {
      one = one_partner;
      other = other_partner;
      forth = forth;
      back = back;
      cells = cells;
      vars = vars_grown (IsPair pairs) (IsPair more) kept s.vars t.vars h.paired.vars;
    };
    below = still_below;
  }

-- ---- so many new pairs

pub with_new-has : (count m n : ℕ) (pairs : List (CellId × CellId)) (c d : CellId) → IsPair pairs c d → IsPair (with_new pairs m n count) c d
with_new-has zero m n pairs c d p = p
with_new-has (suc count) m n pairs c d p = with_new-has count (m + 1) (n + 1) ((record { 0 = m }, record { 0 = n }) ∷ pairs) c d
    (in_rest (record { 0 = m }, record { 0 = n }) (c, d) pairs p)

with_new-then : (count further m n k l : ℕ) (pairs : List (CellId × CellId)) → k ≡ m + count → l ≡ n + count →
    with_new (with_new pairs m n count) k l further ≡ with_new pairs m n (count + further)
with_new-then zero further m n k l pairs e i =
    let one : k ≡ m = omega (arith, e) in let other : l ≡ n = omega (arith, i) in let all : further ≡ 0 + further = omega arith in
    ap₂ (λ (a b : ℕ). with_new pairs a b further) one other ∙ ap (with_new pairs m n) all
with_new-then (suc count) further m n k l pairs e i =
    let all : suc (count + further) ≡ suc count + further = omega arith in
    with_new-then count further (m + 1) (n + 1) k l ((record { 0 = m }, record { 0 = n }) ∷ pairs) (omega (arith, e)) (omega (arith, i))
    ∙ ap (with_new pairs m n) all

abbrev pub stay-same : (pairs : List (CellId × CellId)) (s t : StoreMap) → AreRenamed pairs s t → StayRenamed pairs s t s t
stay-same pairs s t h = record { made = 0; number = omega arith; other_number = omega arith; renamed = h }

abbrev pub stay-put : (types : List TypeEntry) (v : VariantId) (pairs : List (CellId × CellId)) (s t : StoreMap) → AreRenamed pairs s t →
    StayRenamed pairs s t (put_cell s types v) (put_cell t types v)
stay-put types v pairs s t h = record { made = 1; number = refl; other_number = refl; renamed = put-renamed types v pairs s t h }

pub stay-then : (pairs : List (CellId × CellId)) (s t u w next other : StoreMap) (one : StayRenamed pairs s t u w) →
    StayRenamed (with_new pairs s.next t.next one.made) u w next other → StayRenamed pairs s t next other
stay-then pairs s t u w next other one two = record {
  made = one.made + two.made;
  number = let first = one.number in let second = two.number in omega (arith, first, second);
  other_number = let first = one.other_number in let second = two.other_number in omega (arith, first, second);
  renamed = subst (λ ps. AreRenamed ps next other)
      (with_new-then one.made two.made s.next t.next u.next w.next pairs one.number one.other_number) two.renamed;
}
