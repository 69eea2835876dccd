-- Which changes keep a store fresh.
use Rattle.std.proofs.Common.{◌≡◌, ℕ, ◌<◌, ◌+◌, Bool, true, false, cond, List, [], ◌∷◌, map, Option, Some, None, IsSome, IfSome, refl, sym, subst}
use Rattle.std.proofs.Common.{arith, inl, inr}
use Rattle.std.specs.List.{AllByRecursion}
use Rattle.std.specs.Ordering.{nat_cmp}
use Rattle.std.specs.FinMap.{get, get-empty}
use Rattle.store_core.specs.declared.ids.CellId.{CellId}
use Rattle.store_core.specs.declared.ids.FieldId.{FieldId}
use Rattle.store_core.specs.declared.ids.VarId.{VarId}
use Rattle.store_core.specs.declared.ids.VariantId.{VariantId}
use Rattle.store_core.specs.declared.value.Class.{Class}
use Rattle.store_core.specs.declared.value.Class.TheVariants.{Truth, Reference, Set}
use Rattle.store_core.specs.declared.value.Value.{Value}
use Rattle.store_core.specs.declared.value.Value.TheVariants as value
use Rattle.store_core.specs.Tables.{TypeEntry, FieldEntry, VarEntry, fields_of, is_had}
use Rattle.store_core.specs.Stores.{StoreMap, CellEntry, cell_of, field_class, var_class, blank, blank_slot, empty_store, put_cell, set_field}
use Rattle.store_core.specs.Stores.{set_var, remove_cell, NamesBelow, IsFresh}
use Rattle.store_core.proofs.Growing.{AllByRecursion-weaker, AllByRecursion-set}
use Rattle.store_core.proofs.FittingLemmas.{IfSome-at}
use Rattle.store_laws.specs.Changed.{next_cell}
use Rattle.store_laws.proofs.CellLemmas.{cell_cases, put_here, put_elsewhere, set_here, set_elsewhere, set_nothing, gone_here, gone_elsewhere}
use Rattle.store_laws.proofs.ChangeLemmas.{IsRemoved-remove_cell}
use Rattle.store_laws.proofs.KeepingLemmas.{all-weaker}
use Rattle.store_laws.proofs.FitsLemmas.{Fits-empty, above_put, above_alike}

-- a value of a slot names cells below the number
abbrev SlotBelow : ℕ → Option Value → Type 0
SlotBelow n o = IfSome o (NamesBelow n)

-- all values of a cell do
abbrev CellBelow : ℕ → CellEntry → Type 0
CellBelow n cell = AllByRecursion (SlotBelow n) cell.values

blank_below : (n : ℕ) (class : Class) → NamesBelow n (blank class)
blank_below n Truth = tt
blank_below n Reference = tt
blank_below n Set = tt

blank_slot_below : (n index : ℕ) (f : FieldEntry) (b : Bool) → SlotBelow n (cond b (Some (blank (field_class f.kind))) None)
blank_slot_below n index f true = blank_below n (field_class f.kind)
blank_slot_below n index f false = tt

blank_slots_below : (n index : ℕ) (fs : List FieldEntry) → AllByRecursion (SlotBelow n) (map (blank_slot index) fs)
blank_slots_below n index [] = tt
blank_slots_below n index (f ∷ fs) = (blank_slot_below n index f (is_had index f), blank_slots_below n index fs)

more_below : (n : ℕ) (x : Value) → NamesBelow n x → NamesBelow (n + 1) x
more_below n (value.Bool b) h = tt
more_below n (value.Cell None) h = tt
more_below n (value.Cell (Some c)) h = omega arith
more_below n (value.Cells cells) h = AllByRecursion-weaker _ _ (λ (c : CellId) (lt : c.0 < n). omega arith) cells h

pub IsFresh-empty : (vars : List VarEntry) → IsFresh (empty_store vars)
IsFresh-empty vars = record {
  cells = (Fits-empty [] vars).above;
  values = λ c. subst (λ (o : Option CellEntry). IfSome o (CellBelow 1)) (sym (get-empty nat_cmp c.0)) tt;
  vars = below vars;
}
  where
    below : (vs : List VarEntry) → AllByRecursion (NamesBelow 1) (map (λ v. blank (var_class v.kind)) vs)
    below [] = tt
    below (v ∷ vs) = (blank_below 1 (var_class v.kind), below vs)

pub IsFresh-put_cell : (types : List TypeEntry) (s : StoreMap) (v : VariantId) → IsFresh s → IsFresh (put_cell s types v)
IsFresh-put_cell types s v fresh = record {
  cells = above_put types s v fresh.cells;
  values = λ c. elim (cell_cases c (next_cell s)) [
    | inl same ↦ subst (λ d. IfSome (cell_of t d) (CellBelow n)) (sym same)
        (subst (λ (o : Option CellEntry). IfSome o (CellBelow n)) (sym (put_here types s v)) (blank_slots_below n v.index (fields_of types v.ty)))
    | inr apart ↦ subst (λ (o : Option CellEntry). IfSome o (CellBelow n)) (sym (put_elsewhere types s v c apart))
        (all-weaker (CellBelow s.next) (CellBelow n) (λ cell h. AllByRecursion-weaker _ _ (λ o below. all-weaker _ _ (more_below s.next) o below) cell.values h)
        (cell_of s c) (fresh.values c))
  ];
  vars = AllByRecursion-weaker _ _ (more_below s.next) s.vars fresh.vars;
}
  where
    t : StoreMap
    t = put_cell s types v

    n : ℕ
    n = s.next + 1

pub IsFresh-set_field : (s : StoreMap) (c : CellId) (f : FieldId) (x : Value) → IsFresh s → NamesBelow s.next x → IsFresh (set_field s c f x)
IsFresh-set_field s c f x fresh below = record {
  cells = above_alike s (set_field s c f x) refl live fresh.cells;
  values = λ d. elim (cell_cases d c) [
    | inl same ↦ subst (λ e. IfSome (cell_of (set_field s c f x) e) (CellBelow s.next)) (sym same) (here (cell_of s c) refl)
    | inr apart ↦ subst (λ (o : Option CellEntry). IfSome o (CellBelow s.next)) (sym (set_elsewhere s c f x d apart)) (fresh.values d)
  ];
  vars = fresh.vars;
}
  where
    here : (o : Option CellEntry) → cell_of s c ≡ o → IfSome (cell_of (set_field s c f x) c) (CellBelow s.next)
    here None is = subst (λ m. IfSome (get m c.0) (CellBelow s.next)) (sym (set_nothing s c f x is)) (fresh.values c)
    here (Some cell) is = subst (λ (o : Option CellEntry). IfSome o (CellBelow s.next)) (sym (set_here s c f x cell is))
        (AllByRecursion-set (SlotBelow s.next) cell.values f.index (Some x) (IfSome-at (cell_of s c) (CellBelow s.next) cell is (fresh.values c)) below)

    live_here : (o : Option CellEntry) → cell_of s c ≡ o → IsSome (cell_of (set_field s c f x) c) → IsSome (cell_of s c)
    live_here None is h = subst (λ m. IsSome (get m c.0)) (set_nothing s c f x is) h
    live_here (Some cell) is h = subst IsSome (sym is) refl

    live : (d : CellId) → IsSome (cell_of (set_field s c f x) d) → IsSome (cell_of s d)
    live d h = elim (cell_cases d c) [
      | inl same ↦ subst (λ e. IsSome (cell_of s e)) (sym same) (live_here (cell_of s c) refl (subst (λ e. IsSome (cell_of (set_field s c f x) e)) same h))
      | inr apart ↦ subst IsSome (set_elsewhere s c f x d apart) h
    ]

pub IsFresh-set_var : (s : StoreMap) (v : VarId) (x : Value) → IsFresh s → NamesBelow s.next x → IsFresh (set_var s v x)
IsFresh-set_var s v x fresh below = record {
  cells = fresh.cells;
  values = fresh.values;
  vars = AllByRecursion-set (NamesBelow s.next) s.vars v.0 x fresh.vars below;
}

pub IsFresh-remove_cell : (s : StoreMap) (c : CellId) → IsFresh s → IsFresh (remove_cell s c)
IsFresh-remove_cell s c fresh = record {
  cells = above_alike s (remove_cell s c) refl (λ d h. (((IsRemoved-remove_cell s c).live d).0 h).0) fresh.cells;
  values = λ d. elim (cell_cases d c) [
    | inl same ↦ subst (λ e. IfSome (cell_of (remove_cell s c) e) (CellBelow s.next)) (sym same)
        (subst (λ (o : Option CellEntry). IfSome o (CellBelow s.next)) (sym (gone_here s c)) tt)
    | inr apart ↦ subst (λ (o : Option CellEntry). IfSome o (CellBelow s.next)) (sym (gone_elsewhere s c d apart)) (fresh.values d)
  ];
  vars = fresh.vars;
}
