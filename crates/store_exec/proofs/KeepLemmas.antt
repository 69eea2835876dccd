-- What acts keep: a store that fits its tables and is fresh stays so.
use Rattle.std.proofs.Common.{◌≡◌, Bool, true, false, cond, List, [], ◌∷◌, Option, Some, None, IfSome, IsSomeAnd, refl, sym}
use Rattle.std.proofs.Common.{ap, ◌∙◌, subst, arith}
use Rattle.std.proofs.Common.{slice_get, Result, Ok, Err, unwrap_or, is_some}
use Rattle.std.specs.Option.{option_and_then, ok_or}
use Rattle.store_core.specs.declared.ids.FieldId.{FieldId}
use Rattle.store_core.specs.declared.ids.VarId.{VarId}
use Rattle.store_core.specs.declared.ids.CellId.{CellId}
use Rattle.store_core.specs.declared.value.Value.{Value}
use Rattle.store_core.specs.declared.value.Value.TheVariants as value
use Rattle.store_core.specs.Tables.{TypeEntry, VarEntry, FieldEntry, fields_of, var_at}
use Rattle.store_core.specs.Stores.{StoreMap, CellEntry, cell_of, field_of, field_value, var_value, class_of, Fits, FieldFits, VarFits}
use Rattle.store_core.specs.Stores.{IsFresh, NamesBelow, put_cell, set_field}
use Rattle.store_core.specs.Stores.{set_var, remove_cell}
use Rattle.store_core.proofs.Bodies.{AllByRecursion-at}
use Rattle.store_core.proofs.FittingLemmas.{IfSome-from, IfSome-at, SlotAt, slot_at_value, same_type}
use Rattle.store_laws.specs.Changed.{next_cell}
use Rattle.store_laws.proofs.CellLemmas.{put_here}
use Rattle.store_laws.proofs.FitsLemmas.{Fits-put_cell, Fits-set_field, Fits-set_var, Fits-remove_cell}
use Rattle.store_laws.proofs.FreshLemmas.{IsFresh-put_cell, IsFresh-set_field, IsFresh-set_var, IsFresh-remove_cell}
use Rattle.store_logic.specs.declared.path.Path.{Path}
use Rattle.store_logic.specs.declared.path.Operand.{Operand}
use Rattle.store_logic.specs.declared.path.Operand.TheVariants as operand
use Rattle.store_logic.specs.declared.act.Rhs.{Rhs}
use Rattle.store_logic.specs.declared.act.Rhs.TheVariants as rhs
use Rattle.store_logic.specs.declared.act.Act.{Act}
use Rattle.store_logic.specs.declared.act.Act.TheVariants as act
use Rattle.store_logic.specs.Sorts.{Sort, sort_along}
use Rattle.store_logic.specs.FitsCode.{code_sort, PathFits, RhsFits, ActFits}
use Rattle.store_logic.specs.Terms.{null, cell_in}
use Rattle.store_exec.specs.declared.cause.Cause.{Cause}
use Rattle.store_exec.specs.declared.cause.Cause.TheVariants as cause
use Rattle.store_exec.specs.Steps.{and_then, made_of, cell_through, field_read, read, read_along, variable, operand_value, truth_of, evaluated}
use Rattle.store_exec.specs.Steps.{field_written, written, last_step, assigned, freed, Step}
use Rattle.store_exec.specs.Ready.{TakesClassAt, TakesClass}
use Rattle.store_exec.proofs.SortLemmas.{IsOfSort, class-of_sort, sort-of_field, field-of_sort, sort-of_var, var-of_sort, none-some}
use Rattle.store_exec.proofs.SortLemmas.{some-one, err-ok, ok-one}
use Rattle.store_exec.proofs.SortLemmas.{HeldBy, held_at, operand-sort, IsLastField, last-field}

-- ---- what is read names cells below the next number

flat-slot : (o : Option (Option Value)) (x : Value) → option_and_then (λ (v : Option Value). v) o ≡ Some x → o ≡ Some (Some x)
flat-slot None x e = none-some x e
flat-slot (Some None) x e = none-some x e
flat-slot (Some (Some y)) x e = cc

module _ (s : StoreMap) (fresh : IsFresh s) where
  field-below : (c : CellId) (f : FieldId) (x : Value) → field_value s c f ≡ Some x → NamesBelow s.next x
  field-below c f x e = by (cell_of s c) refl e
    where
      by : (o : Option CellEntry) → cell_of s c ≡ o → option_and_then (λ (cell : CellEntry). field_of cell f) o ≡ Some x → NamesBelow s.next x
      by None is g = none-some x g
      by (Some cell) is g = AllByRecursion-at (λ o. IfSome o (NamesBelow s.next)) cell.values f.index (Some x)
          (IfSome-at (cell_of s c) _ cell is (fresh.values c)) (flat-slot (slice_get cell.values f.index) x (same_type cell f x g).1)

  variable-below : (v : VarId) → NamesBelow s.next (variable s v)
  variable-below v = by (var_value s v) refl
    where
      by : (o : Option Value) → var_value s v ≡ o → NamesBelow s.next (unwrap_or o null)
      by None is = tt
      by (Some x) is = AllByRecursion-at (NamesBelow s.next) s.vars v.0 x fresh.vars is

  read-below : (x y : Value) (f : FieldId) → read s x f ≡ Ok y → NamesBelow s.next y
  read-below x y f e = by (cell_through s x) e
    where
      at_cell : (c : CellId) (o : Option Value) → field_value s c f ≡ o → ok_or o cause.Variant ≡ Ok y → NamesBelow s.next y
      at_cell c None is g = err-ok cause.Variant g
      at_cell c (Some z) is g = subst (NamesBelow s.next) (ok-one z y g) (field-below c f z is)

      by : (r : Result CellId Cause) → and_then (field_read s f) r ≡ Ok y → NamesBelow s.next y
      by (Ok c) g = at_cell c (field_value s c f) refl g
      by (Err why) g = err-ok why g

  below_after : (f : FieldId) (fields : List FieldId) (x y : Value) → ((z : Value) → read s x f ≡ Ok z → read_along s z fields ≡ Ok y → NamesBelow s.next y) →
      (r : Result Value Cause) → read s x f ≡ r → and_then (λ z. read_along s z fields) r ≡ Ok y → NamesBelow s.next y
  below_after f fields x y next (Ok z) is rest = next z is rest
  below_after f fields x y next (Err why) is rest = err-ok why rest

  along-below : (fields : List FieldId) (x y : Value) → NamesBelow s.next x → read_along s x fields ≡ Ok y → NamesBelow s.next y
  along-below [] x y h g = subst (NamesBelow s.next) (ok-one x y g) h
  along-below (f ∷ fields) x y h g = below_after f fields x y (λ z is rest. along-below fields z y (read-below x z f is) rest) (read s x f) refl g

  operand-below : (p : Operand) (y : Value) → operand_value s p ≡ Ok y → NamesBelow s.next y
  operand-below operand.Null y g = subst (NamesBelow s.next) (ok-one null y g) tt
  operand-below (operand.Path p) y g = along-below p.fields (variable s p.var) y (variable-below p.var) g

-- ---- what is assigned

-- the store and the value are good to go on with
pub record IsGood (types : List TypeEntry) (vars : List VarEntry) (s : StoreMap) (sort : Sort) (t : StoreMap) (x : Value) : Type 0 where
  pub fits : Fits types vars t
  pub fresh : IsFresh t
  pub of_sort : IsOfSort t sort x
  pub below : NamesBelow t.next x
  pub vars_kept : t.vars ≡ s.vars

module _ (types : List TypeEntry) (vars : List VarEntry) (s : StoreMap) (fits : Fits types vars s) (fresh : IsFresh s) where
  pub evaluated-good : (x : Rhs) (sort : Sort) (t : StoreMap) (y : Value) → RhsFits types vars x sort → evaluated types s x ≡ Ok (t, y) → IsGood types vars s
      sort t y
  evaluated-good (rhs.Cell p) sort t y h g = by (operand_value s p) refl g
    where
      by : (r : Result Value Cause) → operand_value s p ≡ r → made_of {Y = StoreMap × Value} (λ z. (s, z)) r ≡ Ok (t, y) → IsGood types vars s sort t y
      by (Err why) is q = err-ok why q
      by (Ok z) is q = subst (λ (got : StoreMap × Value). IsGood types vars s sort got.0 got.1) (ok-one (s, z) (t, y) q) (record {
        fits = fits;
        fresh = fresh;
        of_sort = operand-sort types vars s fits p sort z h.0 h.1 is;
        below = operand-below s fresh p z is;
        vars_kept = refl;
      })
  evaluated-good (rhs.New v) sort t y h g = subst (λ (got : StoreMap × Value). IsGood types vars s sort got.0 got.1)
      (ok-one (put_cell s types v, value.Cell (Some (next_cell s))) (t, y) g) (record {
        fits = Fits-put_cell types vars s v fits fresh h.0;
        fresh = IsFresh-put_cell types s v fresh;
        of_sort = subst (λ so. IsOfSort (put_cell s types v) so (value.Cell (Some (next_cell s)))) (sym h.1)
            (subst (λ (o : Option CellEntry). IfSome o (λ cell. cell.variant.ty ≡ v.ty)) (sym (put_here types s v)) refl);
        below = omega arith;
        vars_kept = refl;
      })
  evaluated-good (rhs.Truth c) sort t y h g = by (truth_of s c) g
    where
      by : (r : Result Bool Cause) → made_of {Y = StoreMap × Value} (λ truth. (s, value.Bool truth)) r ≡ Ok (t, y) → IsGood types vars s sort t y
      by (Err why) q = err-ok why q
      by (Ok truth) q = subst (λ (got : StoreMap × Value). IsGood types vars s sort got.0 got.1) (ok-one (s, value.Bool truth) (t, y) q) (record {
        fits = fits;
        fresh = fresh;
        of_sort = subst (λ so. IsOfSort s so (value.Bool truth)) (sym h.1) tt;
        below = tt;
        vars_kept = refl;
      })

-- ---- places

-- the place begins at a variable of code, and its fields lead to the sort
pub record IsPlace (types : List TypeEntry) (vars : List VarEntry) (v : VarId) (fields : List FieldId) (sort : Sort) : Type 0 where
  pub entry : VarEntry
  pub known : var_at vars v ≡ Some entry
  pub start : Sort
  pub coded : code_sort entry.kind ≡ Some start
  pub along : sort_along types start fields ≡ Some sort

pub place-of : (types : List TypeEntry) (vars : List VarEntry) (v : VarId) (fields : List FieldId) (sort : Sort) →
    option_and_then (λ start. sort_along types start fields) (option_and_then (λ (entry : VarEntry). code_sort entry.kind) (var_at vars v)) ≡ Some sort →
    IsPlace types vars v fields sort
place-of types vars v fields sort e = by (var_at vars v) refl e
  where
    by_start : (entry : VarEntry) → var_at vars v ≡ Some entry → (o : Option Sort) → code_sort entry.kind ≡ o →
        option_and_then (λ start. sort_along types start fields) o ≡ Some sort → IsPlace types vars v fields sort
    by_start entry known None is g = none-some sort g
    by_start entry known (Some start) is g = record { entry = entry; known = known; start = start; coded = is; along = g }

    by : (o : Option VarEntry) → var_at vars v ≡ o →
        option_and_then (λ start. sort_along types start fields) (option_and_then (λ (entry : VarEntry). code_sort entry.kind) o) ≡ Some sort →
        IsPlace types vars v fields sort
    by None is g = none-some sort g
    by (Some entry) is g = by_start entry is (code_sort entry.kind) refl g

-- a store that fits its tables and is fresh
pub record IsWell (types : List TypeEntry) (vars : List VarEntry) (s : StoreMap) : Type 0 where
  pub fits : Fits types vars s
  pub fresh : IsFresh s

module _ (types : List TypeEntry) (vars : List VarEntry) (s : StoreMap) (fits : Fits types vars s) (fresh : IsFresh s) where
  var-class : (v : VarId) (sort : Sort) (x : Rhs) → IsPlace types vars v [] sort → RhsFits types vars x sort → TakesClassAt types s v [] x
  var-class v sort x place h t y e = subst (λ o. IsSomeAnd o (λ old. class_of y ≡ class_of old)) (sym held.at)
      (class-of_sort t sort y good.of_sort ∙ sym (class-of_sort t sort held.held (sort-of_held)))
    where
      good : IsGood types vars s sort t y
      good = evaluated-good types vars s fits fresh x sort t y h e

      held : HeldBy t place.entry.kind v.0 t.vars
      held = held_at t vars t.vars v.0 place.entry good.fits.values place.known

      sort-of_held : IsOfSort t sort held.held
      sort-of_held = sort-of_var t place.entry.kind sort held.held (place.coded ∙ place.along) held.fits

  field-class : (v : VarId) (f : FieldId) (fields : List FieldId) (sort : Sort) (x : Rhs) → IsPlace types vars v (f ∷ fields) sort → RhsFits types vars x sort →
      TakesClassAt types s v (f ∷ fields) x
  field-class v f fields sort x place h t y e through last steps = IfSome-from (cell_in through) _
      (λ c is. IfSome-from (field_value t c last) _ (λ old at. same c old at))
    where
      good : IsGood types vars s sort t y
      good = evaluated-good types vars s fits fresh x sort t y h e

      it : IsLastField types sort last
      it = last-field types s fields f place.start sort (variable s v) through last place.along steps

      same : (c : CellId) (old : Value) → field_value t c last ≡ Some old → class_of y ≡ class_of old
      same c old at = let slot : SlotAt t (fields_of types last.ty) last.index old = slot_at_value types vars t good.fits c last old at in
          let is : slot.entry ≡ it.entry = some-one slot.entry it.entry (sym slot.at ∙ it.known) in
          let of_old = sort-of_field t it.entry.kind old (subst (λ (w : FieldEntry). FieldFits t w.kind old) is slot.fits) in
          class-of_sort t sort y good.of_sort ∙ sym (class-of_sort t sort old (subst (λ so. IsOfSort t so old) it.sort_is of_old))

  -- a place takes what is assigned to it
  pub place-takes : (p : Path) (sort : Sort) (x : Rhs) → PathFits types vars p sort → RhsFits types vars x sort → TakesClass types s p x
  place-takes p sort x e h = by p.fields (place-of types vars p.var p.fields sort e)
    where
      by : (fields : List FieldId) → IsPlace types vars p.var fields sort → TakesClassAt types s p.var fields x
      by [] place = var-class p.var sort x place h
      by (f ∷ fields) place = field-class p.var f fields sort x place h

  var-assigned : (v : VarId) (sort : Sort) (x : Rhs) (t : StoreMap) → IsPlace types vars v [] sort → RhsFits types vars x sort →
      assigned types s v [] x ≡ Ok t → IsWell types vars t
  var-assigned v sort x t place h e = by (evaluated types s x) refl e
    where
      by : (r : Result (StoreMap × Value) Cause) → evaluated types s x ≡ r → made_of (λ got. set_var got.0 v got.1) r ≡ Ok t → IsWell types vars t
      by (Err why) is g = err-ok why g
      by (Ok got) is g = let good : IsGood types vars s sort got.0 got.1 = evaluated-good types vars s fits fresh x sort got.0 got.1 h is in
          subst (IsWell types vars) (ok-one (set_var got.0 v got.1) t g) (record {
            fits = Fits-set_var types vars got.0 v got.1 good.fits (subst (λ o. IsSomeAnd o (λ entry. VarFits got.0 entry.kind got.1)) (sym place.known)
                (var-of_sort got.0 place.entry.kind sort got.1 (place.coded ∙ place.along) good.of_sort));
            fresh = IsFresh-set_var got.0 v got.1 good.fresh good.below;
          })

  field-assigned : (v : VarId) (f : FieldId) (fields : List FieldId) (sort : Sort) (x : Rhs) (t : StoreMap) → IsPlace types vars v (f ∷ fields) sort →
      RhsFits types vars x sort → assigned types s v (f ∷ fields) x ≡ Ok t → IsWell types vars t
  field-assigned v f fields sort x t place h e = by_step (last_step s (variable s v) f fields) refl e
    where
      by_field : (u : StoreMap) (y : Value) (last : FieldId) → IsGood types vars s sort u y → IsLastField types sort last → (c : CellId) (o : Option Value) →
          field_value u c last ≡ o → cond (is_some o) (Ok (set_field u c last y)) (Err cause.Variant) ≡ Ok t → IsWell types vars t
      by_field u y last good it c None is g = err-ok cause.Variant g
      by_field u y last good it c (Some old) is g = subst (IsWell types vars) (ok-one (set_field u c last y) t g) (record {
        fits = Fits-set_field types vars u c last y good.fits (ap is_some is) (subst (λ o. IsSomeAnd o (λ entry. FieldFits u entry.kind y)) (sym it.known)
            (field-of_sort u it.entry.kind y (subst (λ so. IsOfSort u so y) (sym it.sort_is) good.of_sort)));
        fresh = IsFresh-set_field u c last y good.fresh good.below;
      })

      by_cell : (u : StoreMap) (y : Value) (last : FieldId) → IsGood types vars s sort u y → IsLastField types sort last → (r : Result CellId Cause) →
          and_then (field_written u last y) r ≡ Ok t → IsWell types vars t
      by_cell u y last good it (Err why) g = err-ok why g
      by_cell u y last good it (Ok c) g = by_field u y last good it c (field_value u c last) refl g

      by_value : (through : Value) (last : FieldId) → IsLastField types sort last → (r : Result (StoreMap × Value) Cause) → evaluated types s x ≡ r →
          and_then (λ got. written got.0 through last got.1) r ≡ Ok t → IsWell types vars t
      by_value through last it (Err why) is g = err-ok why g
      by_value through last it (Ok got) is g = by_cell got.0 got.1 last (evaluated-good types vars s fits fresh x sort got.0 got.1 h is) it
          (cell_through got.0 through) g

      by_step : (r : Result (Value × FieldId) Cause) → last_step s (variable s v) f fields ≡ r →
          and_then (λ step. and_then (λ got. written got.0 step.0 step.1 got.1) (evaluated types s x)) r ≡ Ok t → IsWell types vars t
      by_step (Err why) is g = err-ok why g
      by_step (Ok step) is g = by_value step.0 step.1 (last-field types s fields f place.start sort (variable s v) step.0 step.1 place.along is)
          (evaluated types s x) refl g

  -- an act keeps the store fitting its tables and fresh
  pub Step-keeps : (a : Act) (t : StoreMap) → ActFits types vars a → Step types s a (Ok t) → IsWell types vars t
  Step-keeps (act.Assign p x) t h e = by p.fields (place-of types vars p.var p.fields h.0 h.1) e
    where
      by : (fields : List FieldId) → IsPlace types vars p.var fields h.0 → assigned types s p.var fields x ≡ Ok t → IsWell types vars t
      by [] place g = var-assigned p.var h.0 x t place h.2 g
      by (f ∷ fields) place g = field-assigned p.var f fields h.0 x t place h.2 g
  Step-keeps (act.Free v) t h e = by (variable s v) e
    where
      at : (c : CellId) (b : Bool) → cond b (Ok (remove_cell s c)) (Err cause.DoubleFree) ≡ Ok t → IsWell types vars t
      at c false g = err-ok cause.DoubleFree g
      at c true g = subst (IsWell types vars) (ok-one (remove_cell s c) t g)
          (record { fits = Fits-remove_cell types vars s c fits; fresh = IsFresh-remove_cell s c fresh })

      by : (y : Value) → freed s y ≡ Ok t → IsWell types vars t
      by (value.Bool truth) g = err-ok cause.Null g
      by (value.Cell None) g = err-ok cause.Null g
      by (value.Cell (Some c)) g = at c (is_some (cell_of s c)) g
      by (value.Cells cells) g = err-ok cause.Null g
  Step-keeps (act.Assert a) t h e = subst (IsWell types vars) (sym e.0) (record { fits = fits; fresh = fresh })
