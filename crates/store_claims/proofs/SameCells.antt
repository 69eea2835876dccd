-- An assertion holds on a store exactly where it does on one with the same cells whose variables no assertion tells apart.
use Rattle.std.proofs.Common.{◌≡◌, ◌↔◌, ℕ, Bool, true, false, IsTrue, List, [], ◌∷◌, Contains, Option, Some, None, IsSomeAnd}
use Rattle.std.proofs.Common.{is_some, unwrap_or, slice_get, refl, sym, ap, ◌∙◌, subst, reverse}
use Rattle.std.specs.Prelude.{if◌then◌else◌}
use Rattle.store_core.specs.declared.ids.TypeId.{TypeId}
use Rattle.store_core.specs.declared.ids.FieldId.{FieldId}
use Rattle.store_core.specs.declared.ids.VarId.{VarId}
use Rattle.store_core.specs.declared.ids.CellId.{CellId}
use Rattle.store_core.specs.declared.value.Value.{Value}
use Rattle.store_core.specs.declared.value.Value.TheVariants as value
use Rattle.store_core.specs.Tables.{TypeEntry}
use Rattle.store_core.specs.Stores.{StoreMap, CellEntry, IsLive, cell_of}
use Rattle.routing_walks.specs.Walks.{DataAndPointers, Walk, IsOfVariant}
use Rattle.routing_walks.proofs.AloneLemmas.{Walk-same_cells}
use Rattle.store_logic.specs.declared.term.Base.{Base}
use Rattle.store_logic.specs.declared.term.Base.TheVariants as base
use Rattle.store_logic.specs.declared.term.Term.{Term}
use Rattle.store_logic.specs.declared.term.Term.TheVariants as term
use Rattle.store_logic.specs.declared.assertion.Assertion.{Assertion}
use Rattle.store_logic.specs.Terms.{Environment, outside, null, base_value, field_of_value, value_along, live_value, term_value, cell_in, truth_in, set_in}
use Rattle.store_logic.specs.Terms.{under, cell_at, set_at}
use Rattle.store_logic.specs.Satisfaction.{IsSetOf, Holds, SatAll, Says}
use Rattle.store_logic.proofs.AssertionLemmas.{assertion-induction}
use Rattle.store_logic.proofs.HoldsLemmas.{Holds-True, Holds-False, Holds-Truth, Holds-Is, Holds-Same, Holds-Member, Holds-Subset, Holds-Walk, Holds-Pred}
use Rattle.store_logic.proofs.HoldsLemmas.{Holds-Not, Holds-And, Holds-Or, Holds-Imp, Holds-Iff, Holds-Ex, Holds-All, Holds-ExSet, Holds-AllSet}
use Rattle.store_logic.proofs.ExpandingHolds.{chained}
use Rattle.store_logic.proofs.ExpandingValues.{live_along}
use Rattle.store_logic.proofs.SameLemmas.{both, itself, not-both, and-both, or-both, then-both, iff-both, some-both, all-both, IsSomeAnd-both}
use Rattle.store_exec.specs.Steps.{variable}

-- ---- values that no assertion tells apart

-- the same live cell or none, the same truth value, and sets with the same live cells
pub record Alike (s : StoreMap) (x y : Value) : Type 0 where
  pub cells : cell_in (live_value s x) ≡ cell_in (live_value s y)
  pub truths : truth_in x ≡ truth_in y
  pub sets : (c : CellId) → IsLive s c → Contains (set_in x) c ↔ Contains (set_in y) c

pub alike_same : (s : StoreMap) (x : Value) → Alike s x x
alike_same s x = record { cells = refl; truths = refl; sets = λ c live. itself }

live_none : (o : Option CellEntry) (c d : CellId) → cell_in (if is_some o then value.Cell (Some c) else null) ≡ Some d → (c ≡ d) × IsSomeAnd o (λ e. Unit {0})
live_none None c d e = let no : None ≡ Some d = e in absurd cc
live_none (Some cell) c d e = (let is : Some c ≡ Some d = e in cc, tt)

is_live : (s : StoreMap) (c : CellId) (o : Option CellEntry) → cell_of s c ≡ o → IsSomeAnd o (λ e. Unit {0}) → IsLive s c
is_live s c None e h = absurd h
is_live s c (Some cell) e h = ap is_some e

-- what a term stands for is live
live_cell : (s : StoreMap) (x : Value) (c : CellId) → cell_in (live_value s x) ≡ Some c → IsLive s c
live_cell s (value.Bool truth) c e = let no : None ≡ Some c = e in absurd cc
live_cell s (value.Cells cells) c e = let no : None ≡ Some c = e in absurd cc
live_cell s (value.Cell None) c e = let no : None ≡ Some c = e in absurd cc
live_cell s (value.Cell (Some d)) c e =
    let h = live_none (cell_of s d) d c e in subst (IsLive s) h.0 (is_live s d (cell_of s d) refl h.1)

term_live : (s : StoreMap) (e : Environment) (t : Term) (c : CellId) → cell_at s e t ≡ Some c → IsLive s c
term_live s e term.Null c is = let no : None ≡ Some c = is in absurd cc
term_live s e (term.At name fields) c is = live_cell s _ c is

-- both are cells of which this is so
some-live : (P : CellId → Type 0) {A B : CellId → Type 0} (o : Option CellId) → ((c : CellId) → o ≡ Some c → P c) → ((c : CellId) → P c → A c ↔ B c) →
    IsSomeAnd o A ↔ IsSomeAnd o B
some-live P None each same = itself
some-live P (Some c) each same = same c (each c refl)

moved : {X : Type 0} (P : X → Type 0) {x y : X} → x ≡ y → P x ↔ P y
moved P e = (λ h. subst P e h, λ h. subst P (sym e) h)

module _ (p : StoreMap) (xs : List Value) where
  -- the store with other variables
  abbrev pub q : StoreMap
  q = record p { vars = xs }

  live_same : (x : Value) → live_value p x ≡ live_value q x
  live_same (value.Bool truth) = refl
  live_same (value.Cells cells) = refl
  live_same (value.Cell None) = refl
  live_same (value.Cell (Some c)) = refl

  field_same : (x : Value) (f : FieldId) → field_of_value p x f ≡ field_of_value q x f
  field_same (value.Bool truth) f = refl
  field_same (value.Cells cells) f = refl
  field_same (value.Cell None) f = refl
  field_same (value.Cell (Some c)) f = refl

  along_same : (x : Value) (fields : List FieldId) → value_along p x fields ≡ value_along q x fields
  along_same x [] = refl
  along_same x (f ∷ fields) = ap (λ y. value_along p y fields) (field_same x f) ∙ along_same (field_of_value q x f) fields

  path_same : (x : Value) (fields : List FieldId) → live_value p (value_along p x fields) ≡ live_value q (value_along q x fields)
  path_same x fields = live_same (value_along p x fields) ∙ ap (live_value q) (along_same x fields)

  of_cell : (x : Value) (f : FieldId) → field_of_value p x f ≡ field_of_value p (value.Cell (cell_in x)) f
  of_cell (value.Bool truth) f = refl
  of_cell (value.Cell c) f = refl
  of_cell (value.Cells cells) f = refl

  through : (x : Value) (f : FieldId) (fields : List FieldId) →
      live_value p (value_along p x (f ∷ fields)) ≡ live_value p (value_along p (field_of_value p (value.Cell (cell_in (live_value p x))) f) fields)
  through x f fields = sym (live_along p x (f ∷ fields)) ∙ ap (λ y. live_value p (value_along p y fields)) (of_cell (live_value p x) f)

  truth_live : (x : Value) → truth_in (live_value p x) ≡ truth_in x
  truth_live (value.Bool truth) = refl
  truth_live (value.Cells cells) = refl
  truth_live (value.Cell None) = refl
  truth_live (value.Cell (Some c)) = of (is_some (cell_of p c))
    where
      of : (b : Bool) → truth_in (if b then value.Cell (Some c) else null) ≡ false
      of true = refl
      of false = refl

  -- what paths lead to from such values
  record Reads (x y : Value) : Type 0 where
    cell : cell_in x ≡ cell_in y
    truth : truth_in x ≡ truth_in y

  reads : (x y : Value) → Alike p x y → (fields : List FieldId) → Reads (live_value p (value_along p x fields)) (live_value q (value_along q y fields))
  reads x y alike [] = record {
    cell = alike.cells ∙ ap cell_in (live_same y);
    truth = truth_live x ∙ alike.truths ∙ sym (truth_live y) ∙ ap truth_in (live_same y);
  }
  reads x y alike (f ∷ fields) =
      let same = through x f fields ∙ ap (λ c. live_value p (value_along p (field_of_value p (value.Cell c) f) fields)) alike.cells
      ∙ sym (through y f fields) ∙ path_same y (f ∷ fields) in
      record { cell = ap cell_in same; truth = ap truth_in same }

  module _ (types : List TypeEntry) (said says : ℕ → List Value → Type 0) (unsaid : (k : ℕ) (args : List Value) → said k args → ⊥)
      (none : (k : ℕ) (args : List Value) → says k args → ⊥) (held : (v : VarId) → Alike p (variable p v) (variable q v)) where
    -- ---- names and terms

    name-alike : (e : Environment) (name : Base) → Alike p (base_value p e name) (base_value q e name)
    name-alike e (base.Var v) = held v
    name-alike e (base.Bound k) = alike_same p (unwrap_or (slice_get e.bound k) null)
    name-alike e (base.Param k) = alike_same p (unwrap_or (slice_get e.params k) null)

    term-reads : (e : Environment) (t : Term) → Reads (term_value p e t) (term_value q e t)
    term-reads e term.Null = record { cell = refl; truth = refl }
    term-reads e (term.At name fields) = reads (base_value p e name) (base_value q e name) (name-alike e name) fields

    term-cell : (e : Environment) (t : Term) → cell_at p e t ≡ cell_at q e t
    term-cell e t = (term-reads e t).cell

    same-set : (e : Environment) (name : Base) (c : CellId) → IsLive p c → Contains (set_at p e name) c ↔ Contains (set_at q e name) c
    same-set e name = (name-alike e name).sets

    set-of : (ty : TypeId) (cells : List CellId) → IsSetOf p ty cells ↔ IsSetOf q ty cells
    set-of ty cells = (λ h. record { rising = h.rising; members = h.members }, λ h. record { rising = h.rising; members = h.members })

    -- ---- assertions

    abbrev HoldsToo : Assertion → Type 0
    HoldsToo a = (e : Environment) → Holds types p said a e ↔ Holds types q says a e

    pub holds-too : (a : Assertion) → HoldsToo a
    holds-too = assertion-induction HoldsToo (record {
      of_True = λ e. both (Holds-True types p said e) itself (Holds-True types q says e);
      of_False = λ e. both (Holds-False types p said e) itself (Holds-False types q says e);
      of_Truth = λ t e. both (Holds-Truth types p said t e) (moved IsTrue (term-reads e t).truth) (Holds-Truth types q says t e);
      of_Is = λ t v e. both (Holds-Is types p said t v e)
          (moved (λ (c : Option CellId). IsSomeAnd c (IsOfVariant p v)) (term-cell e t)) (Holds-Is types q says t v e);
      of_Same = λ t u e. both (Holds-Same types p said t u e)
          (chained (moved (λ (c : Option CellId). c ≡ cell_at p e u) (term-cell e t))
          (moved (λ (c : Option CellId). cell_at q e t ≡ c) (term-cell e u))) (Holds-Same types q says t u e);
      of_Member = λ t set e. both (Holds-Member types p said t set e)
          (chained (moved (λ (c : Option CellId). IsSomeAnd c (Contains (set_at p e set))) (term-cell e t))
          (some-live (IsLive p) (cell_at q e t) (λ c is. term_live q e t c is) (same-set e set))) (Holds-Member types q says t set e);
      of_Subset = λ set more e. both (Holds-Subset types p said set more e) (
        λ sub c live among. (same-set e more c live).0 (sub c live ((same-set e set c live).1 among)),
        λ sub c live among. (same-set e more c live).1 (sub c live ((same-set e set c live).0 among)),
      ) (Holds-Subset types q says set more e);
      of_Walk = λ t along u e. both (Holds-Walk types p said t along u e)
          (chained (moved (λ (c : Option CellId). IsSomeAnd c (λ from. IsSomeAnd (cell_at p e u) (λ to. Walk types p DataAndPointers along from to)))
          (term-cell e t))
          (IsSomeAnd-both (cell_at q e t) (λ from. chained
          (moved (λ (c : Option CellId). IsSomeAnd c (λ to. Walk types p DataAndPointers along from to)) (term-cell e u))
          (IsSomeAnd-both (cell_at q e u) (λ to. Walk-same_cells types p q DataAndPointers along from to refl)))))
          (Holds-Walk types q says t along u e);
      of_Pred = λ k args e. both (Holds-Pred types p said k args e) (λ h. absurd (unsaid k _ h), λ h. absurd (none k _ h))
          (Holds-Pred types q says k args e);
      of_Not = λ a l e. both (Holds-Not types p said a e) (not-both (l e)) (Holds-Not types q says a e);
      of_And = λ a c l m e. both (Holds-And types p said a c e) (and-both (l e) (m e)) (Holds-And types q says a c e);
      of_Or = λ a c l m e. both (Holds-Or types p said a c e) (or-both (l e) (m e)) (Holds-Or types q says a c e);
      of_Imp = λ a c l m e. both (Holds-Imp types p said a c e) (then-both (l e) (m e)) (Holds-Imp types q says a c e);
      of_Iff = λ a c l m e. both (Holds-Iff types p said a c e) (iff-both (l e) (m e)) (Holds-Iff types q says a c e);
      of_Ex = λ ty a l e. both (Holds-Ex types p said ty a e)
          (some-both (λ c. itself) (λ c. l (under (value.Cell (Some c)) e))) (Holds-Ex types q says ty a e);
      of_All = λ ty a l e. both (Holds-All types p said ty a e)
          (all-both (λ c. itself) (λ c. l (under (value.Cell (Some c)) e))) (Holds-All types q says ty a e);
      of_ExSet = λ ty a l e. both (Holds-ExSet types p said ty a e)
          (some-both (set-of ty) (λ cells. l (under (value.Cells cells) e))) (Holds-ExSet types q says ty a e);
      of_AllSet = λ ty a l e. both (Holds-AllSet types p said ty a e)
          (all-both (set-of ty) (λ cells. l (under (value.Cells cells) e))) (Holds-AllSet types q says ty a e);
    })

-- an assertion is satisfied on all cells of the store exactly where it is with those other variables
pub satisfied_too : (p : StoreMap) (xs : List Value) (types : List TypeEntry) → ((v : VarId) → Alike p (variable p v) (variable (q p xs) v)) →
    (a : Assertion) → SatAll types [] p outside a ↔ SatAll types [] (q p xs) outside a
satisfied_too p xs types held a =
    holds-too p xs types (Says types p (reverse [])) (Says types (q p xs) (reverse [])) (λ k args h. h) (λ k args h. h) held a outside
