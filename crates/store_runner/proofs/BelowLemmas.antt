-- What is read in a fresh store names cells below the next number, which a new cell leaves as they are.
use Rattle.std.proofs.Common.{◌≡◌, ◌<◌, ℕ, Bool, true, false, cond, List, [], ◌∷◌, Option, Some, None, IfSome, IsSomeAnd, is_some, slice_get, unwrap_or}
use Rattle.std.proofs.Common.{Result, Ok, Err, refl, sym, ap, ◌∙◌, subst, arith}
use Rattle.std.specs.Option.{option_and_then, ok_or}
use Rattle.store_core.specs.declared.ids.FieldId.{FieldId}
use Rattle.store_core.specs.declared.ids.VarId.{VarId}
use Rattle.store_core.specs.declared.ids.CellId.{CellId}
use Rattle.store_core.specs.declared.ids.VariantId.{VariantId}
use Rattle.store_core.specs.declared.value.Class.TheVariants.{Reference}
use Rattle.store_core.specs.declared.value.Value.{Value}
use Rattle.store_core.specs.declared.value.Value.TheVariants as value
use Rattle.store_core.specs.Tables.{TypeEntry}
use Rattle.store_core.specs.Stores.{StoreMap, CellEntry, class_of, cell_of, field_of, field_value, var_value, IsFresh, NamesBelow, put_cell, set_field}
use Rattle.store_core.proofs.Bodies.{AllByRecursion-at}
use Rattle.store_core.proofs.FittingLemmas.{IfSome-at, same_type}
use Rattle.store_laws.proofs.CellLemmas.{put_elsewhere}
use Rattle.store_logic.specs.Terms.{null, cell_in}
use Rattle.store_exec.specs.declared.cause.Cause.{Cause}
use Rattle.store_exec.specs.declared.cause.Cause.TheVariants as cause
use Rattle.store_exec.specs.Steps.{and_then, made_of, cell_through, field_read, read, read_along, variable, field_written, written}
use Rattle.store_exec.proofs.SortLemmas.{none-some, err-ok, ok-one}
use Rattle.store_runner.specs.Conditions.{cell_written}

flat-slot : (o : Option (Option Value)) (x : Value) → option_and_then (λ (v : Option Value). v) o ≡ Some x → o ≡ Some (Some x)
flat-slot None x e = none-some x e
flat-slot (Some None) x e = none-some x e
flat-slot (Some (Some y)) x e = cc

module _ (s : StoreMap) (fresh : IsFresh s) where
  field-below : (c : CellId) (f : FieldId) (x : Value) → field_value s c f ≡ Some x → NamesBelow s.next x
  field-below c f x e = by (cell_of s c) refl e
    where
      by : (o : Option CellEntry) → cell_of s c ≡ o → option_and_then (λ (cell : CellEntry). field_of cell f) o ≡ Some x → NamesBelow s.next x
      by None is g = none-some x g
      by (Some cell) is g = AllByRecursion-at (λ o. IfSome o (NamesBelow s.next)) cell.values f.index (Some x)
          (IfSome-at (cell_of s c) _ cell is (fresh.values c)) (flat-slot (slice_get cell.values f.index) x (same_type cell f x g).1)

  variable-below : (v : VarId) → NamesBelow s.next (variable s v)
  variable-below v = by (var_value s v) refl
    where
      by : (o : Option Value) → var_value s v ≡ o → NamesBelow s.next (unwrap_or o null)
      by None is = tt
      by (Some x) is = AllByRecursion-at (NamesBelow s.next) s.vars v.0 x fresh.vars is

  read-below : (x y : Value) (f : FieldId) → read s x f ≡ Ok y → NamesBelow s.next y
  read-below x y f e = by (cell_through s x) e
    where
      at_cell : (c : CellId) (o : Option Value) → field_value s c f ≡ o → ok_or o cause.Variant ≡ Ok y → NamesBelow s.next y
      at_cell c None is g = err-ok cause.Variant g
      at_cell c (Some z) is g = subst (NamesBelow s.next) (ok-one z y g) (field-below c f z is)

      by : (r : Result CellId Cause) → and_then (field_read s f) r ≡ Ok y → NamesBelow s.next y
      by (Ok c) g = at_cell c (field_value s c f) refl g
      by (Err why) g = err-ok why g

  below-after : (f : FieldId) (fields : List FieldId) (x y : Value) → ((z : Value) → read s x f ≡ Ok z → read_along s z fields ≡ Ok y → NamesBelow s.next y) →
      (r : Result Value Cause) → read s x f ≡ r → and_then (λ z. read_along s z fields) r ≡ Ok y → NamesBelow s.next y
  below-after f fields x y next (Ok z) is rest = next z is rest
  below-after f fields x y next (Err why) is rest = err-ok why rest

  along-below : (fields : List FieldId) (x y : Value) → NamesBelow s.next x → read_along s x fields ≡ Ok y → NamesBelow s.next y
  along-below [] x y h g = subst (NamesBelow s.next) (ok-one x y g) h
  along-below (f ∷ fields) x y h g =
      below-after f fields x y (λ z is rest. along-below fields z y (read-below x z f is) rest) (read s x f) refl g

  -- the cell to which fields lead from a variable
  pub cell-below : (v : VarId) (fields : List FieldId) (through : Option CellId) →
      made_of cell_in (read_along s (variable s v) fields) ≡ Ok through → IfSome through (λ c. c.0 < s.next)
  cell-below v fields through e = by (read_along s (variable s v) fields) refl e
    where
      of_value : (x : Value) → NamesBelow s.next x → IfSome (cell_in x) (λ c. c.0 < s.next)
      of_value (value.Bool truth) h = tt
      of_value (value.Cell c) h = h
      of_value (value.Cells cells) h = tt

      by : (r : Result Value Cause) → read_along s (variable s v) fields ≡ r → made_of cell_in r ≡ Ok through → IfSome through (λ c. c.0 < s.next)
      by (Ok x) is g = subst (λ (o : Option CellId). IfSome o (λ c. c.0 < s.next)) (ok-one (cell_in x) through g)
          (of_value x (along-below fields (variable s v) x (variable-below v) is))
      by (Err why) is g = err-ok why g

-- ---- beside a new cell

module _ (types : List TypeEntry) (s : StoreMap) (v : VariantId) where
  kept-cell : (c : CellId) → c.0 < s.next → cell_of (put_cell s types v) c ≡ cell_of s c
  kept-cell c less = put_elsewhere types s v c (λ e. let same : c.0 ≡ s.next = ap (λ (x : CellId). x.0) e in absurd (omega (arith, less, same)))

  pub kept-field : (c : CellId) (f : FieldId) → c.0 < s.next → field_value (put_cell s types v) c f ≡ field_value s c f
  kept-field c f less = ap (λ (o : Option CellEntry). option_and_then (λ (cell : CellEntry). field_of cell f) o) (kept-cell c less)

  -- what can be written can be so beside a new cell, and what can't can't
  pub kept-written : (through : Option CellId) (f : FieldId) → IfSome through (λ c. c.0 < s.next) →
      cell_written (put_cell s types v) through f ≡ cell_written s through f
  kept-written None f less = refl
  kept-written (Some c) f less =
      ap (λ (o : Option CellEntry). and_then (λ (d : CellId). cond (is_some (field_value (put_cell s types v) d f)) (Ok d) (Err cause.Variant))
      (cond (is_some o) (Ok c) (Err cause.Dangling))) (kept-cell c less) ∙ by (is_some (cell_of s c))
    where
      by : (b : Bool) → and_then (λ (d : CellId). cond (is_some (field_value (put_cell s types v) d f)) (Ok d) (Err cause.Variant))
          (cond b (Ok c) (Err cause.Dangling))
          ≡ and_then (λ (d : CellId). cond (is_some (field_value s d f)) (Ok d) (Err cause.Variant)) (cond b (Ok c) (Err cause.Dangling))
      by true = ap (λ (o : Option Value). cond (is_some o) (Ok c) (Err cause.Variant)) (kept-field c f less)
      by false = refl

-- ---- what is written, by the cell

pub written-by : (s : StoreMap) (through : Option CellId) (f : FieldId) (y : Value) →
    written s (value.Cell through) f y ≡ made_of (λ c. set_field s c f y) (cell_written s through f)
written-by s through f y = by (cell_through s (value.Cell through))
  where
    at : (c : CellId) (b : Bool) → cond b (Ok (set_field s c f y)) (Err cause.Variant)
        ≡ made_of (λ (d : CellId). set_field s d f y) (cond b (Ok c) (Err cause.Variant))
    at c true = refl
    at c false = refl

    by : (r : Result CellId Cause) → and_then (field_written s f y) r
        ≡ made_of (λ c. set_field s c f y) (and_then (λ (d : CellId). cond (is_some (field_value s d f)) (Ok d) (Err cause.Variant)) r)
    by (Ok c) = at c (is_some (field_value s c f))
    by (Err why) = refl

-- the cell that is written is the one, and has the field
pub written-cell : (s : StoreMap) (through : Option CellId) (f : FieldId) (c : CellId) → cell_written s through f ≡ Ok c →
    (through ≡ Some c) × (is_some (field_value s c f) ≡ true)
written-cell s None f c e = err-ok cause.Null e
written-cell s (Some d) f c e = by (is_some (cell_of s d)) e
  where
    at : (b : Bool) → is_some (field_value s d f) ≡ b → cond b (Ok d) (Err cause.Variant) ≡ Ok c → (Some d ≡ Some c) × (is_some (field_value s c f) ≡ true)
    at true is g = let same : d ≡ c = ok-one d c g in (ap (λ (x : CellId). Some x) same, subst (λ (x : CellId). is_some (field_value s x f) ≡ true) same is)
    at false is g = err-ok cause.Variant g

    by : (b : Bool) → and_then (λ (x : CellId). cond (is_some (field_value s x f)) (Ok x) (Err cause.Variant)) (cond b (Ok d) (Err cause.Dangling)) ≡ Ok c →
        (Some d ≡ Some c) × (is_some (field_value s c f) ≡ true)
    by true g = at (is_some (field_value s d f)) refl g
    by false g = err-ok cause.Dangling g

pub written-err : (s : StoreMap) (through : Option CellId) (f : FieldId) (y : Value) (why : Cause) → cell_written s through f ≡ Err why →
    written s (value.Cell through) f y ≡ Err why
written-err s through f y why e = written-by s through f y ∙ ap (λ (r : Result CellId Cause). made_of (λ c. set_field s c f y) r) e

-- ---- a new cell that is written

module _ (types : List TypeEntry) (s : StoreMap) (v : VariantId) (through : Option CellId) (f : FieldId) (c : CellId)
    (below : IfSome through (λ d. d.0 < s.next)) (found : cell_written s through f ≡ Ok c) where
  below-it : c.0 < s.next
  below-it = subst (λ (o : Option CellId). IfSome o (λ d. d.0 < s.next)) (written-cell s through f c found).0 below

  pub new-fits : IfSome through (λ d. IfSome (field_value s d f) (λ old. class_of old ≡ Reference)) → (t : StoreMap) → t ≡ put_cell s types v →
      IsSomeAnd (field_value t c f) (λ old. Reference ≡ class_of old)
  new-fits class t is =
      let it = written-cell s through f c found in
      subst (λ (o : Option Value). IsSomeAnd o (λ old. Reference ≡ class_of old))
      (sym (ap (λ (u : StoreMap). field_value u c f) is ∙ kept-field types s v c f below-it))
      (by (field_value s c f) it.1 (subst (λ (o : Option CellId). IfSome o (λ d. IfSome (field_value s d f) (λ old. class_of old ≡ Reference))) it.0 class))
    where
      by : (o : Option Value) → is_some o ≡ true → IfSome o (λ old. class_of old ≡ Reference) → IsSomeAnd o (λ old. Reference ≡ class_of old)
      by None e h = absurd cc
      by (Some old) e h = sym h

  pub new-written : (made : CellId) (t u : StoreMap) → t ≡ put_cell s types v → made.0 ≡ s.next → u ≡ set_field t c f (value.Cell (Some made)) →
      written (put_cell s types v) (value.Cell through) f (value.Cell (Some (record { 0 = s.next }))) ≡ Ok u
  new-written made t u is number put =
      written-by (put_cell s types v) through f (value.Cell (Some (record { 0 = s.next })))
      ∙ ap (λ (r : Result CellId Cause). made_of (λ d. set_field (put_cell s types v) d f (value.Cell (Some (record { 0 = s.next })))) r)
      (kept-written types s v through f below ∙ found)
      ∙ sym (ap (λ (w : StoreMap). Ok w) (put ∙ ap (λ (w : StoreMap). set_field w c f (value.Cell (Some made))) is
      ∙ ap (λ (n : ℕ). set_field (put_cell s types v) c f (value.Cell (Some (record { 0 = n })))) number))
