-- What one act leaves as it was.
use Rattle.std.proofs.Common.{◌≡◌, ◌≢◌, ◌⊎◌, inl, inr, ℕ, ◌<◌, Bool, true, false, cond, List, [], ◌∷◌, Option, Some, None, IsSome, is_some, option_map}
use Rattle.std.proofs.Common.{refl, sym, ap}
use Rattle.std.proofs.Common.{◌∙◌, subst, arith, Result, Ok, Err}
use Rattle.std.proofs.lemmas.Bool.{cases_eq}
use Rattle.store_core.specs.declared.ids.VariantId.{VariantId}
use Rattle.store_core.specs.declared.ids.FieldId.{FieldId}
use Rattle.store_core.specs.declared.ids.VarId.{VarId}
use Rattle.store_core.specs.declared.ids.CellId.{CellId}
use Rattle.store_core.specs.declared.value.Value.{Value}
use Rattle.store_core.specs.declared.value.Value.TheVariants as value
use Rattle.store_core.specs.Tables.{TypeEntry}
use Rattle.store_core.specs.Stores.{StoreMap, CellEntry, cell_of, field_value, IsLive, IsAbove, put_cell, set_field, set_var, remove_cell}
use Rattle.store_core.proofs.AboveLemmas.{live_below, IsAbove-from}
use Rattle.store_laws.specs.Changed.{next_cell, IsPut, IsFieldSet, IsRemoved}
use Rattle.store_laws.proofs.CellLemmas.{cell_cases, get-set_elsewhere}
use Rattle.store_laws.proofs.ChangeLemmas.{IsPut-put_cell, IsFieldSet-set_field, IsRemoved-remove_cell}
use Rattle.store_logic.specs.declared.act.Rhs.{Rhs}
use Rattle.store_logic.specs.declared.act.Rhs.TheVariants as rhs
use Rattle.store_logic.specs.declared.act.Act.{Act}
use Rattle.store_logic.specs.declared.act.Act.TheVariants as act
use Rattle.store_exec.specs.declared.cause.Cause.{Cause}
use Rattle.store_exec.specs.declared.cause.Cause.TheVariants as cause
use Rattle.store_exec.specs.Steps.{and_then, made_of, cell_through, variable, operand_value, truth_of, evaluated, field_written, written, last_step, assigned}
use Rattle.store_exec.specs.Steps.{freed, Step}
use Rattle.store_exec.specs.Frames.{Acts, WritesAt, NoneFrees, NoneWrites, NoneWritesVar, Leave}
use Rattle.store_exec.proofs.SortLemmas.{ok-one, err-ok}

-- ---- more acts, none, and one after the other

pub Leave-more : (acts more : Acts) → ((u : StoreMap) (a : Act) → acts u a → more u a) → (s t : StoreMap) → Leave acts s t → Leave more s t
Leave-more acts more each s t h = record {
  cells = λ c live none. h.cells c live (λ u a k. none u a (each u a k));
  fields = λ c f live none same. h.fields c f live (λ u a k. none u a (each u a k)) (λ u a k. same u a (each u a k));
  vars = λ v none. h.vars v (λ u a k. none u a (each u a k));
  variants = h.variants;
  used = h.used;
  next = h.next;
}

-- the next number is above every cell still, and this is left as it was
pub record Goes (acts : Acts) (s t : StoreMap) : Type 0 where
  pub above : IsAbove t
  pub leave : Leave acts s t

pub Goes-more : (acts more : Acts) → ((u : StoreMap) (a : Act) → acts u a → more u a) → (s t : StoreMap) → Goes acts s t → Goes more s t
Goes-more acts more each s t h = record { above = h.above; leave = Leave-more acts more each s t h.leave }

pub Goes-same : (acts : Acts) (s : StoreMap) → IsAbove s → Goes acts s s
Goes-same acts s above = record {
  above = above;
  leave = record {
    cells = λ c live none. live;
    fields = λ c f live none same. refl;
    vars = λ v none. refl;
    variants = λ c live after. refl;
    used = λ c less live. live;
    next = omega arith;
  };
}

pub Goes-then : (acts : Acts) (s u t : StoreMap) → IsAbove s → Goes acts s u → Goes acts u t → Goes acts s t
Goes-then acts s u t above one two = record {
  above = two.above;
  leave = record {
    cells = λ c live none. k.cells c (h.cells c live none) none;
    fields = λ c f live none same. k.fields c f (h.cells c live none) none same ∙ h.fields c f live none same;
    vars = λ v none. k.vars v none ∙ h.vars v none;
    variants = λ c live after. let between = still c (live_below s c above live) after in k.variants c between after ∙ h.variants c live between;
    used = λ c less after. h.used c less (still c less after);
    next = let first = h.next in let second = k.next in omega (arith, first, second);
  };
}
  where
    h : Leave acts s u
    h = one.leave

    k : Leave acts u t
    k = two.leave

    still : (c : CellId) → c.0 < s.next → IsLive t c → IsLive u c
    still c less after = k.used c (let first = h.next in omega (arith, first, less)) after

-- ---- changes of a store

field_cases : (f g : FieldId) → (f ≡ g) ⊎ (f ≢ g)
field_cases f g = elim (cases_eq f.ty.0 g.ty.0) [
  | inr apart ↦ inr (λ e. apart (ap (λ (x : FieldId). x.ty.0) e))
  | inl type ↦ elim (cases_eq f.index g.index) [
    | inr apart ↦ inr (λ e. apart (ap (λ (x : FieldId). x.index) e))
    | inl index ↦ inl (ap (λ (n : ℕ). record { ty = record { 0 = n }; index = f.index }) type ∙ ap (λ (n : ℕ). record { ty = g.ty; index = n }) index)
  ]
]

module _ (acts : Acts) (s : StoreMap) (above : IsAbove s) where
  pub put-goes : (types : List TypeEntry) (v : VariantId) → Goes acts s (put_cell s types v)
  put-goes types v = record {
    above = IsAbove-from (put_cell s types v) (λ c live. elim ((is.live c).0 live) [
      | inl old ↦ let less = live_below s c above old in omega (arith, less)
      | inr new ↦ let number : c.0 ≡ s.next = ap (λ (x : CellId). x.0) new in omega (arith, number)
    ]);
    leave = record {
      cells = λ c live none. (is.live c).1 (inl live);
      fields = λ c f live none same. is.other_fields c f (apart c live);
      vars = λ v none. refl;
      variants = λ c live after. ap (option_map (λ (cell : CellEntry). cell.variant)) (is.other_cells c (apart c live));
      used = λ c less after. elim ((is.live c).0 after) [
        | inl old ↦ old
        | inr new ↦ let number : c.0 ≡ s.next = ap (λ (x : CellId). x.0) new in absurd (omega (arith, number, less))
      ];
      next = omega arith;
    };
  }
    where
      is : IsPut types v (next_cell s) s (put_cell s types v)
      is = IsPut-put_cell types s v above

      apart : (c : CellId) → IsLive s c → c ≢ next_cell s
      apart c live new = let less = live_below s c above live in
          let number : c.0 ≡ s.next = ap (λ (x : CellId). x.0) new in omega (arith, less, number)

  pub set-goes : (c : CellId) (f : FieldId) (x : Value) → IsSome (field_value s c f) → (NoneWrites acts c f → ⊥) → Goes acts s (set_field s c f x)
  set-goes c f x has writes = record {
    above = IsAbove-from (set_field s c f x) (λ d live. live_below s d above ((is.live d).0 live));
    leave = record {
      cells = λ d live none. (is.live d).1 live;
      fields = λ d g live none same. elim (cell_cases d c) [
        | inr apart ↦ is.fields_of_others d g apart
        | inl here ↦ subst (λ e. field_value (set_field s c f x) e g ≡ field_value s e g) (sym here) (elim (field_cases g f) [
          | inr apart ↦ is.other_fields g apart
          | inl also ↦ absurd (writes (subst (λ e. NoneWrites acts e f) here (subst (NoneWrites acts d) also same)))
        ])
      ];
      vars = λ v none. refl;
      variants = λ d live after. is.variants d;
      used = λ d less after. (is.live d).0 after;
      next = omega arith;
    };
  }
    where
      is : IsFieldSet c f x s (set_field s c f x)
      is = IsFieldSet-set_field s c f x has

  pub var-goes : (v : VarId) (x : Value) → (NoneWritesVar acts v → ⊥) → Goes acts s (set_var s v x)
  var-goes v x writes = record {
    above = above;
    leave = record {
      cells = λ c live none. live;
      fields = λ c f live none same. refl;
      vars = λ w none. elim (cases_eq w.0 v.0) [
        | inl same ↦ absurd (writes (subst (NoneWritesVar acts) (ap (λ (n : ℕ). record { 0 = n }) same) none))
        | inr apart ↦ get-set_elsewhere s.vars v.0 w.0 x apart
      ];
      variants = λ c live after. refl;
      used = λ c less live. live;
      next = omega arith;
    };
  }

  pub removed-goes : (c : CellId) → (NoneFrees acts c → ⊥) → Goes acts s (remove_cell s c)
  removed-goes c frees = record {
    above = IsAbove-from (remove_cell s c) (λ d live. live_below s d above ((is.live d).0 live).0);
    leave = record {
      cells = λ d live none. (is.live d).1 (live, apart d none);
      fields = λ d f live none same. is.other_fields d f (apart d none);
      vars = λ v none. refl;
      variants = λ d live after. ap (option_map (λ (cell : CellEntry). cell.variant)) (is.other_cells d ((is.live d).0 after).1);
      used = λ d less after. ((is.live d).0 after).0;
      next = omega arith;
    };
  }
    where
      is : IsRemoved c s (remove_cell s c)
      is = IsRemoved-remove_cell s c

      apart : (d : CellId) → NoneFrees acts d → d ≢ c
      apart d none same = frees (subst (NoneFrees acts) same none)

-- ---- acts

pub through-is : (u : StoreMap) (x : Value) (c : CellId) → cell_through u x ≡ Ok c → x ≡ value.Cell (Some c)
through-is u (value.Bool truth) c e = err-ok cause.Null e
through-is u (value.Cell None) c e = err-ok cause.Null e
through-is u (value.Cell (Some d)) c e = by (is_some (cell_of u d)) e
  where
    by : (b : Bool) → cond b (Ok d) (Err cause.Dangling) ≡ Ok c → value.Cell (Some d) ≡ value.Cell (Some c)
    by true g = ap (λ z. value.Cell (Some z)) (ok-one d c g)
    by false g = err-ok cause.Dangling g
through-is u (value.Cells cells) c e = err-ok cause.Null e

module _ (types : List TypeEntry) (s : StoreMap) (above : IsAbove s) where
  evaluated-goes : (acts : Acts) (x : Rhs) (t : StoreMap) (y : Value) → evaluated types s x ≡ Ok (t, y) → Goes acts s t
  evaluated-goes acts (rhs.Cell p) t y e = by (operand_value s p) e
    where
      by : (r : Result Value Cause) → made_of {Y = StoreMap × Value} (λ z. (s, z)) r ≡ Ok (t, y) → Goes acts s t
      by (Err why) g = err-ok why g
      by (Ok z) g = subst (Goes acts s) (ap (λ (got : StoreMap × Value). got.0) (ok-one (s, z) (t, y) g)) (Goes-same acts s above)
  evaluated-goes acts (rhs.New v) t y e = subst (Goes acts s)
      (ap (λ (got : StoreMap × Value). got.0) (ok-one (put_cell s types v, value.Cell (Some (next_cell s))) (t, y) e)) (put-goes acts s above types v)
  evaluated-goes acts (rhs.Truth c) t y e = by (truth_of s c) e
    where
      by : (r : Result Bool Cause) → made_of {Y = StoreMap × Value} (λ truth. (s, value.Bool truth)) r ≡ Ok (t, y) → Goes acts s t
      by (Err why) g = err-ok why g
      by (Ok truth) g = subst (Goes acts s) (ap (λ (got : StoreMap × Value). got.0) (ok-one (s, value.Bool truth) (t, y) g)) (Goes-same acts s above)

  var-assigned : (acts : Acts) (v : VarId) (x : Rhs) (t : StoreMap) → (NoneWritesVar acts v → ⊥) → assigned types s v [] x ≡ Ok t → Goes acts s t
  var-assigned acts v x t writes e = by (evaluated types s x) refl e
    where
      by : (r : Result (StoreMap × Value) Cause) → evaluated types s x ≡ r → made_of (λ got. set_var got.0 v got.1) r ≡ Ok t → Goes acts s t
      by (Err why) is g = err-ok why g
      by (Ok got) is g = let first = evaluated-goes acts x got.0 got.1 is in
          subst (Goes acts s) (ok-one (set_var got.0 v got.1) t g)
          (Goes-then acts s got.0 (set_var got.0 v got.1) above first (var-goes acts got.0 first.above v got.1 writes))

  field-assigned : (acts : Acts) (v : VarId) (f : FieldId) (fields : List FieldId) (x : Rhs) (t : StoreMap) →
      ((c : CellId) (g : FieldId) → last_step s (variable s v) f fields ≡ Ok (value.Cell (Some c), g) → NoneWrites acts c g → ⊥) →
      assigned types s v (f ∷ fields) x ≡ Ok t → Goes acts s t
  field-assigned acts v f fields x t writes e = by_step (last_step s (variable s v) f fields) refl e
    where
      by_field : (u : StoreMap) (y : Value) (last : FieldId) (c : CellId) → Goes acts s u → (NoneWrites acts c last → ⊥) → (o : Option Value) →
          field_value u c last ≡ o → cond (is_some o) (Ok (set_field u c last y)) (Err cause.Variant) ≡ Ok t → Goes acts s t
      by_field u y last c first here None is g = err-ok cause.Variant g
      by_field u y last c first here (Some old) is g = subst (Goes acts s) (ok-one (set_field u c last y) t g)
          (Goes-then acts s u (set_field u c last y) above first (set-goes acts u first.above c last y (ap is_some is) here))

      by_cell : (u : StoreMap) (y through : Value) (last : FieldId) → Goes acts s u → last_step s (variable s v) f fields ≡ Ok (through, last) →
          (r : Result CellId Cause) → cell_through u through ≡ r → and_then (field_written u last y) r ≡ Ok t → Goes acts s t
      by_cell u y through last first steps (Err why) is g = err-ok why g
      by_cell u y through last first steps (Ok c) is g = by_field u y last c first
          (writes c last (steps ∙ ap (λ (z : Value). Ok (z, last)) (through-is u through c is))) (field_value u c last) refl g

      by_value : (through : Value) (last : FieldId) → last_step s (variable s v) f fields ≡ Ok (through, last) → (r : Result (StoreMap × Value) Cause) →
          evaluated types s x ≡ r → and_then (λ got. written got.0 through last got.1) r ≡ Ok t → Goes acts s t
      by_value through last steps (Err why) is g = err-ok why g
      by_value through last steps (Ok got) is g = by_cell got.0 got.1 through last (evaluated-goes acts x got.0 got.1 is) steps
          (cell_through got.0 through) refl g

      by_step : (r : Result (Value × FieldId) Cause) → last_step s (variable s v) f fields ≡ r →
          and_then (λ step. and_then (λ got. written got.0 step.0 step.1 got.1) (evaluated types s x)) r ≡ Ok t → Goes acts s t
      by_step (Err why) is g = err-ok why g
      by_step (Ok step) is g = by_value step.0 step.1 is (evaluated types s x) refl g

  freed-goes : (acts : Acts) (y : Value) (t : StoreMap) → ((c : CellId) → y ≡ value.Cell (Some c) → NoneFrees acts c → ⊥) → freed s y ≡ Ok t → Goes acts s t
  freed-goes acts (value.Bool truth) t frees g = err-ok cause.Null g
  freed-goes acts (value.Cell None) t frees g = err-ok cause.Null g
  freed-goes acts (value.Cell (Some c)) t frees g = by (is_some (cell_of s c)) g
    where
      by : (b : Bool) → cond b (Ok (remove_cell s c)) (Err cause.DoubleFree) ≡ Ok t → Goes acts s t
      by false g = err-ok cause.DoubleFree g
      by true g = subst (Goes acts s) (ok-one (remove_cell s c) t g) (removed-goes acts s above c (frees c refl))
  freed-goes acts (value.Cells cells) t frees g = err-ok cause.Null g

  -- this act alone, on this store
  abbrev pub Alone : Act → Acts
  Alone a u b = (u ≡ s) × (b ≡ a)

  pub Step-goes : (a : Act) (t : StoreMap) → Step types s a (Ok t) → Goes (Alone a) s t
  Step-goes (act.Assign p x) t e = by p.fields refl e
    where
      by : (fields : List FieldId) → p.fields ≡ fields → assigned types s p.var fields x ≡ Ok t → Goes (Alone (act.Assign p x)) s t
      by [] is g = var-assigned (Alone (act.Assign p x)) p.var x t (λ none. none s (act.Assign p x) (refl, refl) (refl, is)) g
      by (f ∷ fields) is g = field-assigned (Alone (act.Assign p x)) p.var f fields x t
          (λ c last steps none. none s (act.Assign p x) (refl, refl) (subst (λ fs. WritesAt s p.var fs c last) (sym is) steps)) g
  Step-goes (act.Free v) t e = freed-goes (Alone (act.Free v)) (variable s v) t (λ c is none. none s (act.Free v) (refl, refl) is) e
  Step-goes (act.Assert a) t e = subst (Goes (Alone (act.Assert a)) s) (sym e.0) (Goes-same (Alone (act.Assert a)) s above)
