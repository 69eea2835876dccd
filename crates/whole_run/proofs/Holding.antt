-- An assertion of one procedure, with what is handed over put in, holds on a store of the other where it holds on one with the same
-- cells, whose variables hold what is handed over.
use Rattle.std.proofs.Common.{◌≡◌, ◌↔◌, ℕ, suc, Bool, true, false, IsTrue, List, [], ◌∷◌, ◌++◌, length, Contains, Option, Some, None, IsSomeAnd}
use Rattle.std.proofs.Common.{is_some, unwrap_or, slice_get, refl, sym, ap, ◌∙◌, subst, reverse}
use Rattle.std.specs.List.{AllByRecursion}
use Rattle.std.specs.Prelude.{option_map, if◌then◌else◌}
use Rattle.std.proofs.lemmas.Bool.{false≢true}
use Rattle.store_core.specs.declared.ids.TypeId.{TypeId}
use Rattle.store_core.specs.declared.ids.FieldId.{FieldId}
use Rattle.store_core.specs.declared.ids.VarId.{VarId}
use Rattle.store_core.specs.declared.ids.CellId.{CellId}
use Rattle.store_core.specs.declared.value.Class.{Class}
use Rattle.store_core.specs.declared.value.Class.TheVariants as class
use Rattle.store_core.specs.declared.value.Value.{Value}
use Rattle.store_core.specs.declared.value.Value.TheVariants as value
use Rattle.store_core.specs.Tables.{TypeEntry, VarEntry, var_at}
use Rattle.store_core.specs.Stores.{StoreMap, CellEntry, IsLive, cell_of}
use Rattle.routing_walks.specs.Walks.{DataAndPointers, Walk, IsOfVariant}
use Rattle.routing_walks.proofs.AloneLemmas.{Walk-same_cells}
use Rattle.store_logic.specs.declared.term.Base.{Base}
use Rattle.store_logic.specs.declared.term.Base.TheVariants as base
use Rattle.store_logic.specs.declared.term.Term.{Term}
use Rattle.store_logic.specs.declared.term.Term.TheVariants as term
use Rattle.store_logic.specs.declared.assertion.Assertion.{Assertion}
use Rattle.store_logic.specs.Terms.{Environment, outside, null, field_of_value, value_along, live_value, term_value, cell_in, truth_in, set_in}
use Rattle.store_logic.specs.Terms.{cell_at, truth_at, set_at}
use Rattle.store_logic.specs.Satisfaction.{IsSetOf, Holds, SatAll, Says}
use Rattle.store_logic.specs.Sorts.{Sort, Truth, Cell, Set, Scope, var_sort, BaseFits, TermFits}
use Rattle.store_logic.specs.Fits.{FitsIn}
use Rattle.store_logic.specs.Uses.{NameUse, term_names, set_name}
use Rattle.store_logic.specs.Filling.{shifted, path_from, truth_from, name_in, filled_term, filled_truth, filled_set, filled, constant}
use Rattle.store_logic.proofs.AssertionLemmas.{assertion-induction}
use Rattle.store_logic.proofs.HoldsLemmas.{Holds-True, Holds-False, Holds-Truth, Holds-Is, Holds-Same, Holds-Member, Holds-Subset, Holds-Walk}
use Rattle.store_logic.proofs.HoldsLemmas.{Holds-Not, Holds-And, Holds-Or, Holds-Imp, Holds-Iff, Holds-Ex, Holds-All, Holds-ExSet, Holds-AllSet}
use Rattle.store_logic.proofs.ExpandingForms.{filled-True, filled-False, filled-Truth, filled-Is, filled-Same, filled-Member, filled-Subset, filled-Walk}
use Rattle.store_logic.proofs.ExpandingForms.{filled-Not, filled-And, filled-Or, filled-Imp, filled-Iff, filled-Ex, filled-All, filled-ExSet, filled-AllSet}
use Rattle.store_logic.proofs.ExpandingForms.{names_at, names-Truth, names-Is, names-Same, names-Member, names-Subset, names-Walk}
use Rattle.store_logic.proofs.ExpandingForms.{names-Not, names-And, names-Or, names-Imp, names-Iff, names-Ex, names-All, names-ExSet, names-AllSet}
use Rattle.store_logic.proofs.ExpandingHolds.{chained, Holds-same}
use Rattle.store_logic.proofs.ExpandingLists.{all-first, all-second}
use Rattle.store_logic.proofs.ExpandingValues.{live_along}
use Rattle.store_logic.proofs.SameLemmas.{both, itself, turned, not-both, and-both, or-both, then-both, iff-both, some-both, all-both, IsSomeAnd-both}
use Rattle.claim_laws.proofs.FitForms.{Fits-Truth, Fits-Is, Fits-Same, Fits-Member, Fits-Subset, Fits-Walk, Fits-Pred}
use Rattle.claim_laws.proofs.FitForms.{Fits-Not, Fits-And, Fits-Or, Fits-Imp, Fits-Iff, Fits-Ex, Fits-All, Fits-ExSet, Fits-AllSet}
use Rattle.claim_laws.proofs.LeadLemmas.{leads-of}
use Rattle.store_exec.specs.Steps.{variable}
use Rattle.pale_calls.specs.declared.actual.Actual.{Actual}
use Rattle.pale_calls.specs.declared.actual.Actual.TheVariants as actual
use Rattle.pale_typed.specs.Fitting.{NameMayBe, StatedFits}
use Rattle.hoare_fill.specs.declared.putting.Put.{Put}
use Rattle.hoare_fill.specs.Putting.{actual_for, filling_of, put_for, with_puts}

-- ---- values that no assertion tells apart

-- the same live cell or none, the same truth value, and sets with the same live cells
pub record Alike (s : StoreMap) (x y : Value) : Type 0 where
  pub cells : cell_in (live_value s x) ≡ cell_in (live_value s y)
  pub truths : truth_in x ≡ truth_in y
  pub sets : (c : CellId) → IsLive s c → Contains (set_in x) c ↔ Contains (set_in y) c

-- no set
abbrev pub IsNoSet : Sort → Type 0
IsNoSet Truth = Unit {0}
IsNoSet (Cell ty) = Unit {0}
IsNoSet (Set ty) = ⊥

-- a variable of the sort holds this where that is handed over for it
abbrev pub IsHeld : StoreMap → Actual → Value → Sort → Type 0
IsHeld s (actual.Var u) y sort = Alike s (variable s u) y
IsHeld s actual.Null y sort = (y ≡ null) × IsNoSet sort
IsHeld s (actual.Truth truth) y sort = (y ≡ value.Bool truth) × IsNoSet sort

live_none : (o : Option CellEntry) (c d : CellId) → cell_in (if is_some o then value.Cell (Some c) else null) ≡ Some d → (c ≡ d) × IsSomeAnd o (λ e. Unit {0})
live_none None c d e = let no : None ≡ Some d = e in absurd cc
live_none (Some cell) c d e = (let is : Some c ≡ Some d = e in cc, tt)

is_live : (s : StoreMap) (c : CellId) (o : Option CellEntry) → cell_of s c ≡ o → IsSomeAnd o (λ e. Unit {0}) → IsLive s c
is_live s c None e h = absurd h
is_live s c (Some cell) e h = ap is_some e

-- what a term stands for is live
live_cell : (s : StoreMap) (x : Value) (c : CellId) → cell_in (live_value s x) ≡ Some c → IsLive s c
live_cell s (value.Bool truth) c e = let no : None ≡ Some c = e in absurd cc
live_cell s (value.Cells cells) c e = let no : None ≡ Some c = e in absurd cc
live_cell s (value.Cell None) c e = let no : None ≡ Some c = e in absurd cc
live_cell s (value.Cell (Some d)) c e =
    let h = live_none (cell_of s d) d c e in subst (IsLive s) h.0 (is_live s d (cell_of s d) refl h.1)

term_live : (s : StoreMap) (e : Environment) (t : Term) (c : CellId) → cell_at s e t ≡ Some c → IsLive s c
term_live s e term.Null c is = let no : None ≡ Some c = is in absurd cc
term_live s e (term.At name fields) c is = live_cell s _ c is

-- both are cells of which this is so
some-live : (P : CellId → Type 0) {A B : CellId → Type 0} (o : Option CellId) → ((c : CellId) → o ≡ Some c → P c) → ((c : CellId) → P c → A c ↔ B c) →
    IsSomeAnd o A ↔ IsSomeAnd o B
some-live P None each same = itself
some-live P (Some c) each same = same c (each c refl)

moved : {X : Type 0} (P : X → Type 0) {x y : X} → x ≡ y → P x ↔ P y
moved P e = (λ h. subst P e h, λ h. subst P (sym e) h)

never : ⊥ ↔ IsTrue false
never = (λ no. absurd no, λ no. absurd (false≢true no))

module _ (p : StoreMap) (xs : List Value) (n : ℕ) where
  -- the store with other variables
  abbrev pub q : StoreMap
  q = record p { vars = xs; next = n }

  live_same : (x : Value) → live_value p x ≡ live_value q x
  live_same (value.Bool truth) = refl
  live_same (value.Cells cells) = refl
  live_same (value.Cell None) = refl
  live_same (value.Cell (Some c)) = refl

  field_same : (x : Value) (f : FieldId) → field_of_value p x f ≡ field_of_value q x f
  field_same (value.Bool truth) f = refl
  field_same (value.Cells cells) f = refl
  field_same (value.Cell None) f = refl
  field_same (value.Cell (Some c)) f = refl

  along_same : (x : Value) (fields : List FieldId) → value_along p x fields ≡ value_along q x fields
  along_same x [] = refl
  along_same x (f ∷ fields) = ap (λ y. value_along p y fields) (field_same x f) ∙ along_same (field_of_value q x f) fields

  path_same : (x : Value) (fields : List FieldId) → live_value p (value_along p x fields) ≡ live_value q (value_along q x fields)
  path_same x fields = live_same (value_along p x fields) ∙ ap (live_value q) (along_same x fields)

  of_cell : (x : Value) (f : FieldId) → field_of_value p x f ≡ field_of_value p (value.Cell (cell_in x)) f
  of_cell (value.Bool truth) f = refl
  of_cell (value.Cell c) f = refl
  of_cell (value.Cells cells) f = refl

  through : (x : Value) (f : FieldId) (fields : List FieldId) →
      live_value p (value_along p x (f ∷ fields)) ≡ live_value p (value_along p (field_of_value p (value.Cell (cell_in (live_value p x))) f) fields)
  through x f fields = sym (live_along p x (f ∷ fields)) ∙ ap (λ y. live_value p (value_along p y fields)) (of_cell (live_value p x) f)

  truth_live : (x : Value) → truth_in (live_value p x) ≡ truth_in x
  truth_live (value.Bool truth) = refl
  truth_live (value.Cells cells) = refl
  truth_live (value.Cell None) = refl
  truth_live (value.Cell (Some c)) = of (is_some (cell_of p c))
    where
      of : (b : Bool) → truth_in (if b then value.Cell (Some c) else null) ≡ false
      of true = refl
      of false = refl

  -- what paths lead to from such values
  record Reads (x y : Value) : Type 0 where
    cell : cell_in x ≡ cell_in y
    truth : truth_in x ≡ truth_in y

  reads : (x y : Value) → Alike p x y → (fields : List FieldId) → Reads (live_value p (value_along p x fields)) (live_value q (value_along q y fields))
  reads x y alike [] = record {
    cell = alike.cells ∙ ap cell_in (live_same y);
    truth = truth_live x ∙ alike.truths ∙ sym (truth_live y) ∙ ap truth_in (live_same y);
  }
  reads x y alike (f ∷ fields) =
      let same = through x f fields ∙ ap (λ c. live_value p (value_along p (field_of_value p (value.Cell c) f) fields)) alike.cells
      ∙ sym (through y f fields) ∙ path_same y (f ∷ fields) in
      record { cell = ap cell_in same; truth = ap truth_in same }

  null_along : (fields : List FieldId) → value_along q null fields ≡ null
  null_along [] = refl
  null_along (f ∷ fields) = null_along fields

  null_reads : (y : Value) → y ≡ null → (fields : List FieldId) → live_value q (value_along q y fields) ≡ null
  null_reads y e fields = ap (λ z. live_value q (value_along q z fields)) e ∙ ap (live_value q) (null_along fields)

  truth_reads : (y : Value) (truth : Bool) → y ≡ value.Bool truth → (fields : List FieldId) → cell_in (live_value q (value_along q y fields)) ≡ None
  truth_reads y truth e [] = ap (λ z. cell_in (live_value q z)) e
  truth_reads y truth e (f ∷ fields) = ap (λ z. cell_in (live_value q (value_along q (field_of_value q z f) fields))) e
      ∙ ap (λ z. cell_in (live_value q z)) (null_along fields)

  truth_later : (y : Value) (truth : Bool) → y ≡ value.Bool truth → (f : FieldId) (fields : List FieldId) →
      truth_in (live_value q (value_along q y (f ∷ fields))) ≡ false
  truth_later y truth e f fields = ap (λ z. truth_in (live_value q (value_along q (field_of_value q z f) fields))) e
      ∙ ap (λ z. truth_in (live_value q z)) (null_along fields)

  module _ (types : List TypeEntry) (theirs : List VarEntry) (puts : List Put) (MayBe : VarId → Type 0) (said says : ℕ → List Value → Type 0)
      (held : (v : VarId) (s : Sort) → MayBe v → option_map (λ (e : VarEntry). var_sort e.kind) (var_at theirs v) ≡ Some s →
      IsHeld p (actual_for puts v) (variable q v) s) where
    abbrev inner : List Sort → Scope
    inner b = record { vars = theirs; bound = b; params = []; preds = [] }

    abbrev env : List Value → Environment
    env bound = record { bound = bound; params = [] }

    abbrev May : List NameUse → Type 0
    May = AllByRecursion (λ n. NameMayBe MayBe n.name)

    name-may : (name : Base) (fields : List FieldId) (of : Class) (d : ℕ) → May (term_names of (term.At name fields) d) → NameMayBe MayBe name
    name-may name [] of d may = may.0
    name-may name (f ∷ fields) of d may = may.0

    -- ---- terms

    path-cell : (k : ℕ) (x : Actual) (y : Value) (s : Sort) (bound : List Value) (fields : List FieldId) → IsHeld p x y s →
        cell_at p (env bound) (path_from (shifted k (filling_of x)) fields) ≡ cell_in (live_value q (value_along q y fields))
    path-cell k (actual.Var u) y s bound fields h = (reads (variable p u) y h fields).cell
    path-cell k actual.Null y s bound fields h = sym (ap cell_in (null_reads y h.0 fields))
    path-cell k (actual.Truth truth) y s bound fields h = sym (truth_reads y truth h.0 fields)

    term-cell : (k : ℕ) (b : List Sort) (t : Term) (ty : TypeId) (of : Class) (d : ℕ) (bound : List Value) → May (term_names of t d) →
        TermFits types (inner b) t (Cell ty) → cell_at p (env bound) (filled_term (put_for puts) k t) ≡ cell_at q (env bound) t
    term-cell k b term.Null ty of d bound may fits = refl
    term-cell k b (term.At (base.Var v) fields) ty of d bound may fits =
        let from = leads-of types (inner b) (base.Var v) fields (Cell ty) fits in
        path-cell k (actual_for puts v) (variable q v) from.start bound fields (held v from.start (name-may (base.Var v) fields of d may) from.stands)
    term-cell k b (term.At (base.Bound j) fields) ty of d bound may fits = ap cell_in (path_same (unwrap_or (slice_get bound j) null) fields)
    term-cell k b (term.At (base.Param j) fields) ty of d bound may fits =
        let from = leads-of types (inner b) (base.Param j) fields (Cell ty) fits in let no : None ≡ Some from.start = from.stands in absurd cc

    constant-holds : (truth : Bool) (e : Environment) → Holds types p said (constant truth) e ↔ IsTrue truth
    constant-holds true e = chained (Holds-True types p said e) (λ u. refl, λ h. tt)
    constant-holds false e = chained (Holds-False types p said e) never

    path-truth : (k : ℕ) (x : Actual) (y : Value) (s : Sort) (bound : List Value) (fields : List FieldId) → IsHeld p x y s →
        Holds types p said (truth_from (shifted k (filling_of x)) fields) (env bound) ↔ IsTrue (truth_in (live_value q (value_along q y fields)))
    path-truth k (actual.Var u) y s bound fields h =
        chained (Holds-Truth types p said (term.At (base.Var u) fields) (env bound)) (moved IsTrue (reads (variable p u) y h fields).truth)
    path-truth k actual.Null y s bound fields h =
        chained (Holds-False types p said (env bound)) (chained never (turned (moved IsTrue (ap truth_in (null_reads y h.0 fields)))))
    path-truth k (actual.Truth truth) y s bound [] h =
        chained (constant-holds truth (env bound)) (turned (moved IsTrue (ap (λ z. truth_in (live_value q z)) h.0)))
    path-truth k (actual.Truth truth) y s bound (f ∷ fields) h =
        chained (Holds-False types p said (env bound)) (chained never (turned (moved IsTrue (truth_later y truth h.0 f fields))))

    term-truth : (k : ℕ) (b : List Sort) (t : Term) (of : Class) (d : ℕ) (bound : List Value) → May (term_names of t d) →
        TermFits types (inner b) t Truth → Holds types p said (filled_truth (put_for puts) k t) (env bound) ↔ IsTrue (truth_at q (env bound) t)
    term-truth k b term.Null of d bound may fits = absurd fits
    term-truth k b (term.At (base.Var v) fields) of d bound may fits =
        let from = leads-of types (inner b) (base.Var v) fields Truth fits in
        path-truth k (actual_for puts v) (variable q v) from.start bound fields (held v from.start (name-may (base.Var v) fields of d may) from.stands)
    term-truth k b (term.At (base.Bound j) fields) of d bound may fits =
        chained (Holds-Truth types p said (term.At (base.Bound j) fields) (env bound))
        (moved IsTrue (ap truth_in (path_same (unwrap_or (slice_get bound j) null) fields)))
    term-truth k b (term.At (base.Param j) fields) of d bound may fits =
        let from = leads-of types (inner b) (base.Param j) fields Truth fits in let no : None ≡ Some from.start = from.stands in absurd cc

    -- ---- sets

    abbrev SameSets : List CellId → List CellId → Type 0
    SameSets ones others = (c : CellId) → IsLive p c → Contains ones c ↔ Contains others c

    held-set : (k : ℕ) (x : Actual) (name : Base) (y : Value) (ty : TypeId) (bound : List Value) → IsHeld p x y (Set ty) →
        SameSets (set_at p (env bound) (name_in (shifted k (filling_of x)) name)) (set_in y)
    held-set k (actual.Var u) name y ty bound h = h.sets
    held-set k actual.Null name y ty bound h = absurd h.1
    held-set k (actual.Truth truth) name y ty bound h = absurd h.1

    same-set : (k : ℕ) (b : List Sort) (name : Base) (ty : TypeId) (d : ℕ) (bound : List Value) → May (set_name name d) → BaseFits (inner b) name (Set ty) →
        SameSets (set_at p (env bound) (filled_set (put_for puts) k name)) (set_at q (env bound) name)
    same-set k b (base.Var v) ty d bound may fits = held-set k (actual_for puts v) (base.Var v) (variable q v) ty bound (held v (Set ty) may.0 fits)
    same-set k b (base.Bound j) ty d bound may fits = λ c live. itself
    same-set k b (base.Param j) ty d bound may fits = let no : None ≡ Some (Set ty) = fits in absurd cc

    -- ---- assertions

    abbrev IsSaid : Assertion → Type 0
    IsSaid a = (k : ℕ) (b : List Sort) (d : ℕ) (bound : List Value) → May (names_at a d) → FitsIn types a (inner b) →
        Holds types p said (filled (put_for puts) a k) (env bound) ↔ Holds types q says a (env bound)

    told : {xs ys : List NameUse} → xs ≡ ys → May xs → May ys
    told e all = subst May e all

    one : (xs ys : List NameUse) → May (xs ++ ys) → May xs
    one = all-first (λ n. NameMayBe MayBe n.name)

    other : (xs ys : List NameUse) → May (xs ++ ys) → May ys
    other = all-second (λ n. NameMayBe MayBe n.name)

    become : {a c : Assertion} → a ≡ c → (e : Environment) {B : Type 0} → Holds types p said c e ↔ B → Holds types p said a e ↔ B
    become same e h = chained (Holds-same types p said same e) h

    set-of : (ty : TypeId) (cells : List CellId) → IsSetOf p ty cells ↔ IsSetOf q ty cells
    set-of ty cells = (λ h. record { rising = h.rising; members = h.members }, λ h. record { rising = h.rising; members = h.members })

    said-so : (a : Assertion) → IsSaid a
    said-so = assertion-induction IsSaid (record {
      of_True = λ k b d bound may h. become (filled-True (put_for puts) k) (env bound)
          (both (Holds-True types p said (env bound)) itself (Holds-True types q says (env bound)));
      of_False = λ k b d bound may h. become (filled-False (put_for puts) k) (env bound)
          (both (Holds-False types p said (env bound)) itself (Holds-False types q says (env bound)));
      of_Truth = λ t k b d bound may h. become (filled-Truth (put_for puts) t k) (env bound)
          (chained (term-truth k b t _ d bound (told (names-Truth t d) may) ((Fits-Truth types (inner b) t).0 h))
          (turned (Holds-Truth types q says t (env bound))));
      of_Is = λ t v k b d bound may h. let f = (Fits-Is types (inner b) t v).0 h in become (filled-Is (put_for puts) t v k) (env bound)
          (both (Holds-Is types p said _ v (env bound))
          (moved (λ (c : Option CellId). IsSomeAnd c (IsOfVariant p v)) (term-cell k b t v.ty _ d bound (told (names-Is t v d) may) f.term))
          (Holds-Is types q says t v (env bound)));
      of_Same = λ t u k b d bound may h. let f = (Fits-Same types (inner b) t u).0 h in let pair = told (names-Same t u d) may in
          become (filled-Same (put_for puts) t u k) (env bound)
          (both (Holds-Same types p said _ _ (env bound))
          (chained (moved (λ (c : Option CellId). c ≡ cell_at p (env bound) (filled_term (put_for puts) k u))
          (term-cell k b t f.ty _ d bound (one _ _ pair) f.left))
          (moved (λ (c : Option CellId). cell_at q (env bound) t ≡ c) (term-cell k b u f.ty _ d bound (other _ _ pair) f.right)))
          (Holds-Same types q says t u (env bound)));
      of_Member = λ t set k b d bound may h. let f = (Fits-Member types (inner b) t set).0 h in let pair = told (names-Member t set d) may in
          become (filled-Member (put_for puts) t set k) (env bound)
          (both (Holds-Member types p said _ _ (env bound))
          (chained (moved (λ (c : Option CellId). IsSomeAnd c (Contains (set_at p (env bound) (filled_set (put_for puts) k set))))
          (term-cell k b t f.ty class.Reference d bound (one (term_names class.Reference t d) (set_name set d) pair) f.member))
          (some-live (IsLive p) (cell_at q (env bound) t) (λ c is. term_live q (env bound) t c is)
          (same-set k b set f.ty d bound (other (term_names class.Reference t d) (set_name set d) pair) f.of_set)))
          (Holds-Member types q says t set (env bound)));
      of_Subset = λ set more k b d bound may h. let f = (Fits-Subset types (inner b) set more).0 h in let pair = told (names-Subset set more d) may in
          let left = same-set k b set f.ty d bound (one (set_name set d) (set_name more d) pair) f.left in
          let right = same-set k b more f.ty d bound (other (set_name set d) (set_name more d) pair) f.right in
          become (filled-Subset (put_for puts) set more k) (env bound)
          (both (Holds-Subset types p said _ _ (env bound)) (
            λ sub c live among. (right c live).0 (sub c live ((left c live).1 among)),
            λ sub c live among. (right c live).1
                (sub c live ((left c live).0 among)),
          )
          (Holds-Subset types q says set more (env bound)));
      of_Walk = λ t along u k b d bound may h. let f = (Fits-Walk types (inner b) t along u).0 h in let pair = told (names-Walk t along u d) may in
          become (filled-Walk (put_for puts) t along u k) (env bound)
          (both (Holds-Walk types p said _ along _ (env bound))
          (chained (moved (λ (c : Option CellId). IsSomeAnd c (λ from. IsSomeAnd (cell_at p (env bound) (filled_term (put_for puts) k u))
          (λ to. Walk types p DataAndPointers along from to))) (term-cell k b t f.from_type _ d bound (one _ _ pair) f.from))
          (IsSomeAnd-both (cell_at q (env bound) t) (λ from. chained
          (moved (λ (c : Option CellId). IsSomeAnd c (λ to. Walk types p DataAndPointers along from to))
          (term-cell k b u f.to_type _ d bound (other _ _ pair) f.to))
          (IsSomeAnd-both (cell_at q (env bound) u) (λ to. Walk-same_cells types p q DataAndPointers along from to refl)))))
          (Holds-Walk types q says t along u (env bound)));
      of_Pred = λ j args k b d bound may h. let no : ⊥ = (Fits-Pred types (inner b) j args).0 h in absurd no;
      of_Not = λ a l k b d bound may h. become (filled-Not (put_for puts) a k) (env bound)
          (both (Holds-Not types p said _ (env bound))
          (not-both (l k b d bound (told (names-Not a d) may) ((Fits-Not types (inner b) a).0 h)))
          (Holds-Not types q says a (env bound)));
      of_And = λ a c l m k b d bound may h. let f = (Fits-And types (inner b) a c).0 h in let pair = told (names-And a c d) may in
          become (filled-And (put_for puts) a c k) (env bound)
          (both (Holds-And types p said _ _ (env bound))
          (and-both (l k b d bound (one _ _ pair) f.0) (m k b d bound (other _ _ pair) f.1)) (Holds-And types q says a c (env bound)));
      of_Or = λ a c l m k b d bound may h. let f = (Fits-Or types (inner b) a c).0 h in let pair = told (names-Or a c d) may in
          become (filled-Or (put_for puts) a c k) (env bound)
          (both (Holds-Or types p said _ _ (env bound))
          (or-both (l k b d bound (one _ _ pair) f.0) (m k b d bound (other _ _ pair) f.1)) (Holds-Or types q says a c (env bound)));
      of_Imp = λ a c l m k b d bound may h. let f = (Fits-Imp types (inner b) a c).0 h in let pair = told (names-Imp a c d) may in
          become (filled-Imp (put_for puts) a c k) (env bound)
          (both (Holds-Imp types p said _ _ (env bound))
          (then-both (l k b d bound (one _ _ pair) f.0) (m k b d bound (other _ _ pair) f.1)) (Holds-Imp types q says a c (env bound)));
      of_Iff = λ a c l m k b d bound may h. let f = (Fits-Iff types (inner b) a c).0 h in let pair = told (names-Iff a c d) may in
          become (filled-Iff (put_for puts) a c k) (env bound)
          (both (Holds-Iff types p said _ _ (env bound))
          (iff-both (l k b d bound (one _ _ pair) f.0) (m k b d bound (other _ _ pair) f.1)) (Holds-Iff types q says a c (env bound)));
      of_Ex = λ ty a l k b d bound may h. let f = (Fits-Ex types (inner b) ty a).0 h in become (filled-Ex (put_for puts) ty a k) (env bound)
          (both (Holds-Ex types p said ty _ (env bound))
          (some-both (λ c. itself) (λ c. l (suc k) (Cell ty ∷ b) (suc d) (value.Cell (Some c) ∷ bound) (told (names-Ex ty a d) may) f.1))
          (Holds-Ex types q says ty a (env bound)));
      of_All = λ ty a l k b d bound may h. let f = (Fits-All types (inner b) ty a).0 h in become (filled-All (put_for puts) ty a k) (env bound)
          (both (Holds-All types p said ty _ (env bound))
          (all-both (λ c. itself) (λ c. l (suc k) (Cell ty ∷ b) (suc d) (value.Cell (Some c) ∷ bound) (told (names-All ty a d) may) f.1))
          (Holds-All types q says ty a (env bound)));
      of_ExSet = λ ty a l k b d bound may h. let f = (Fits-ExSet types (inner b) ty a).0 h in become (filled-ExSet (put_for puts) ty a k) (env bound)
          (both (Holds-ExSet types p said ty _ (env bound))
          (some-both (set-of ty) (λ cells. l (suc k) (Set ty ∷ b) (suc d) (value.Cells cells ∷ bound) (told (names-ExSet ty a d) may) f.1))
          (Holds-ExSet types q says ty a (env bound)));
      of_AllSet = λ ty a l k b d bound may h. let f = (Fits-AllSet types (inner b) ty a).0 h in become (filled-AllSet (put_for puts) ty a k) (env bound)
          (both (Holds-AllSet types p said ty _ (env bound))
          (all-both (set-of ty) (λ cells. l (suc k) (Set ty ∷ b) (suc d) (value.Cells cells ∷ bound) (told (names-AllSet ty a d) may) f.1))
          (Holds-AllSet types q says ty a (env bound)));
    })

-- with what is handed over put in, an assertion that names these variables alone is satisfied on all cells of the store exactly where
-- it is on a store with the same cells whose variables hold what is handed over
pub satisfied_too : (p : StoreMap) (xs : List Value) (n : ℕ) (types : List TypeEntry) (theirs : List VarEntry) (puts : List Put) (MayBe : VarId → Type 0)
    (a : Assertion) → StatedFits types theirs MayBe a →
    ((v : VarId) (s : Sort) → MayBe v → option_map (λ (e : VarEntry). var_sort e.kind) (var_at theirs v) ≡ Some s →
    IsHeld p (actual_for puts v) (variable (q p xs n) v) s) →
    SatAll types [] p outside (with_puts puts a) ↔ SatAll types [] (q p xs n) outside a
satisfied_too p xs n types theirs puts MayBe a stated held =
    said-so p xs n types theirs puts MayBe (Says types p (reverse [])) (Says types (q p xs n) (reverse [])) held a 0 [] 0 [] stated.names stated.fits
