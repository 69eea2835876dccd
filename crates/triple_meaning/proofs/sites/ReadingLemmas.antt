-- Reading of cell fields, of paths to cells and of operands.
use Rattle.std.proofs.Common.{◌≡◌, ◌↔◌, ℕ, suc, ◌<◌, Bool, true, false, cond, ◌==◌, eqb-true, IsTrue, IfSome, List, [], ◌∷◌, ◌++◌, slice_get, All, Option, Some}
use Rattle.std.proofs.Common.{None, is_some, unwrap_or, Result, Ok, Err, refl, sym, ap, ◌∙◌, subst, arith, append_assoc}
use Rattle.std.specs.Option.{option_and_then, ok_or}
use Rattle.std.proofs.lemmas.Bool.{false≢true}
use Rattle.std.proofs.lemmas.List.{length-append}
use Rattle.std.proofs.lemmas.Option.{slice_get_within}
use Rattle.std.proofs.lemmas.List.Elements.{All-head, All-contains}
use Rattle.gta_theory.specs.Assignments.{Position, Assignment, IsFinite}
use Rattle.ws2s_core.specs.declared.formula.Formula.{Formula}
use Rattle.ws2s_core.specs.declared.formula.Formula.TheVariants.{Sub, And}
use Rattle.ws2s_core.specs.Satisfaction.{WSat}
use Rattle.ws2s_forms.specs.Forms.{track, iff, ex1}
use Rattle.ws2s_forms.specs.Places.{with_position}
use Rattle.ws2s_forms.proofs.LawsLemmas.{law-all1, law-iff, same_truth, IsFinite-position}
use Rattle.store_core.specs.declared.ids.CellId.{CellId}
use Rattle.store_core.specs.declared.ids.FieldId.{FieldId}
use Rattle.store_core.specs.declared.ids.TypeId.{TypeId}
use Rattle.store_core.specs.declared.ids.VarId.{VarId}
use Rattle.store_core.specs.declared.kind.FieldKind.{FieldKind}
use Rattle.store_core.specs.declared.kind.FieldKind.TheVariants as field
use Rattle.store_core.specs.declared.value.Value.{Value}
use Rattle.store_core.specs.declared.value.Value.TheVariants as one_value
use Rattle.store_core.specs.Tables.{TypeEntry, FieldEntry, VarEntry, field_at, var_at}
use Rattle.store_core.specs.Stores.{StoreMap, CellEntry, IsLive, Fits, FieldFits, NamesType, cell_of, field_value, var_value}
use Rattle.store_core.proofs.FittingLemmas.{IfSome-at}
use Rattle.routing_walks.specs.Walks.{DataAndPointers, IsFollowed}
use Rattle.routing_walks.proofs.DecidedLemmas.{in_at}
use Rattle.tree_store.proofs.SpotsLemmas.{present}
use Rattle.store_logic.specs.declared.path.Path.{Path}
use Rattle.store_logic.specs.declared.path.Operand.{Operand}
use Rattle.store_logic.specs.declared.path.Operand.TheVariants as operand
use Rattle.store_logic.specs.Sorts.{Sort, Truth, Cell, Set, field_sort, sort_along}
use Rattle.store_logic.specs.FitsCode.{code_sort, PathFits, OperandFits}
use Rattle.store_logic.specs.Terms.{null}
use Rattle.store_exec.specs.declared.cause.Cause.{Cause}
use Rattle.store_exec.specs.declared.cause.Cause.TheVariants as cause
use Rattle.store_exec.specs.Steps.{and_then, cell_through, field_read, variable}
use Rattle.store_exec.specs.Steps as exec
use Rattle.store_exec.proofs.SortLemmas.{IsOfSort, err-ok, ok-one, none-some, held_at, variable-sort, read-sort}
use Rattle.store_exec.proofs.KeepLemmas.{place-of}
use Rattle.graph_view.specs.declared.view.Sym.{Sym}
use Rattle.graph_view.specs.declared.view.Sym.TheVariants.{Null, At}
use Rattle.graph_view.specs.Syms.{is_in}
use Rattle.graph_view.specs.Routes.{names}
use Rattle.graph_view.specs.After.{Standing, IsAt, StandsForCell, StandsFor, IsSymBelow}
use Rattle.graph_meaning.specs.Live.Standing.{Sits}
use Rattle.graph_meaning.specs.Live.Fields.{FieldNamesAt}
use Rattle.graph_meaning.proofs.live.AgreeingLemmas.{Agrees-bound, IsOnly-bound, IsOnly-still, member-agreed}
use Rattle.graph_meaning.proofs.live.ReadLemmas.{is-some}
use Rattle.graph_meaning.proofs.live.SeenLemmas.{value-fits}
use Rattle.site_list.specs.States.{Text, State, Got, next_track, define, sight, value_of}
use Rattle.site_list.specs.Reading.{check_access, is_read, read, read_along, path_value, operand_value}
use Rattle.triple_meaning.specs.Sites.Places.{Answers}
use Rattle.triple_meaning.specs.Sites.Seeing.{HasRoom, AreDefined, Sees, with_more}
use Rattle.triple_meaning.specs.Sites.Answering.{Reads}
use Rattle.triple_meaning.proofs.sites.PlacesLemmas.{All-right, answers-so}
use Rattle.triple_meaning.proofs.sites.StatesLemmas.{Goes, means-at_once, means-then}
use Rattle.triple_meaning.proofs.sites.LookingLemmas.{sees-sits, here-itself, sees-names, sees-placed, some-cell}
use Rattle.triple_meaning.proofs.sites.AccessLemmas.{access_checks, access-is, access-idle, stops-read}

-- ---- execution

-- what is read of a field is its value at a live cell
pub read-ok : (t : StoreMap) (x y : Value) (f : FieldId) → exec.read t x f ≡ Ok y →
    (c : CellId) × (x ≡ one_value.Cell (Some c)) × IsLive t c × (field_value t c f ≡ Some y)
read-ok t (one_value.Bool b) y f e = err-ok cause.Null e
read-ok t (one_value.Cells cells) y f e = err-ok cause.Null e
read-ok t (one_value.Cell None) y f e = err-ok cause.Null e
read-ok t (one_value.Cell (Some c)) y f e = by (cell_of t c) refl e
  where
    at_field : IsLive t c → (o : Option Value) → field_value t c f ≡ o → ok_or o cause.Variant ≡ Ok y →
        (d : CellId) × (one_value.Cell (Some c) ≡ one_value.Cell (Some d)) × IsLive t d × (field_value t d f ≡ Some y)
    at_field live None is g = err-ok cause.Variant g
    at_field live (Some z) is g = (c, refl, live, is ∙ ap (λ w. Some w) (ok-one z y g))

    by : (o : Option CellEntry) → cell_of t c ≡ o → and_then (field_read t f) (cond (is_some o) (Ok c) (Err cause.Dangling)) ≡ Ok y →
        (d : CellId) × (one_value.Cell (Some c) ≡ one_value.Cell (Some d)) × IsLive t d × (field_value t d f ≡ Some y)
    by None is g = err-ok cause.Dangling g
    by (Some cell) is g = at_field (is-some (cell_of t c) cell is) (field_value t c f) refl g

pub then-ok : {X Y : Type 0} (r : Result X Cause) (step : X → Result Y Cause) (y : Y) → and_then step r ≡ Ok y → (x : X) × (r ≡ Ok x) × (step x ≡ Ok y)
then-ok (Err why) step y e = err-ok why e
then-ok (Ok x) step y e = (x, refl, e)

then-same : {X : Type 0} (r : Result X Cause) → r ≡ and_then (λ x. Ok x) r
then-same (Err why) = refl
then-same (Ok x) = refl

pub then-then : {X Y Z : Type 0} (r : Result X Cause) (one : X → Result Y Cause) (two : Y → Result Z Cause) →
    and_then two (and_then one r) ≡ and_then (λ x. and_then two (one x)) r
then-then (Err why) one two = refl
then-then (Ok x) one two = refl

-- ---- sorts

-- a value of a sort of cells is null or a cell
pub cell-of_sort : (t : StoreMap) (ty : TypeId) (x : Value) → IsOfSort t (Cell ty) x → (o : Option CellId) × (x ≡ one_value.Cell o) × IfSome o (NamesType t ty)
cell-of_sort t ty (one_value.Bool b) h = absurd h
cell-of_sort t ty (one_value.Cells cells) h = absurd h
cell-of_sort t ty (one_value.Cell o) h = (o, refl, h)

-- the first field is one of the type, and the others go on from it
pub record IsStep (types : List TypeEntry) (ty : TypeId) (f : FieldId) (fields : List FieldId) (end : Sort) : Type 0 where
  pub entry : FieldEntry
  pub there : field_at types f ≡ Some entry
  pub typed : f.ty ≡ ty
  pub rest : sort_along types (field_sort entry.kind) fields ≡ Some end

pub step-of : (types : List TypeEntry) (ty : TypeId) (f : FieldId) (fields : List FieldId) (end : Sort) →
    sort_along types (Cell ty) (f ∷ fields) ≡ Some end → IsStep types ty f fields end
step-of types ty f fields end e = by_type (f.ty.0 == ty.0) refl e
  where
    by_field : f.ty ≡ ty → (o : Option FieldEntry) → field_at types f ≡ o →
        option_and_then (λ (entry : FieldEntry). sort_along types (field_sort entry.kind) fields) o ≡ Some end → IsStep types ty f fields end
    by_field typed None is q = none-some end q
    by_field typed (Some entry) is q = record { entry = entry; there = is; typed = typed; rest = q }

    by_type : (b : Bool) → (f.ty.0 == ty.0) ≡ b →
        cond b (option_and_then (λ (entry : FieldEntry). sort_along types (field_sort entry.kind) fields) (field_at types f)) None ≡ Some end →
        IsStep types ty f fields end
    by_type false is q = none-some end q
    by_type true is q = by_field (let number = eqb-true f.ty.0 ty.0 is in (λ i. record { 0 = number i })) (field_at types f) refl q

-- nothing is read of a truth value or of a set
abbrev pub IsCellOf : Sort → Type 0
IsCellOf sort = (ty : TypeId) × (sort ≡ Cell ty)

pub cell-leads : (types : List TypeEntry) (sort : Sort) (fields : List FieldId) (end : TypeId) → sort_along types sort fields ≡ Some (Cell end) → IsCellOf sort
cell-leads types (Cell ty) fields end e = (ty, refl)
cell-leads types Truth [] end e = (let no : ⊥ = cc in absurd no)
cell-leads types Truth (f ∷ fields) end e = none-some (Cell end) e
cell-leads types (Set ty) [] end e = (let no : ⊥ = cc in absurd no)
cell-leads types (Set ty) (f ∷ fields) end e = none-some (Cell end) e

pub step-leads : (types : List TypeEntry) (sort : Sort) (f : FieldId) (fields : List FieldId) (end : Sort) →
    sort_along types sort (f ∷ fields) ≡ Some end → IsCellOf sort
step-leads types (Cell ty) f fields end e = (ty, refl)
step-leads types Truth f fields end e = none-some end e
step-leads types (Set ty) f fields end e = none-some end e

pub reference-kind : (kind : FieldKind) → IsCellOf (field_sort kind) → IsFollowed DataAndPointers kind
reference-kind field.Bool (ty, is) = (let no : ⊥ = cc in absurd no)
reference-kind (field.Data target) is = tt
reference-kind (field.Pointer target along) is = tt

cell-value : (t : StoreMap) (kind : FieldKind) (y : Value) → IsFollowed DataAndPointers kind → FieldFits t kind y → (o : Option CellId) × (y ≡ one_value.Cell o)
cell-value t field.Bool y follows fits = absurd follows
cell-value t (field.Data target) (one_value.Bool b) follows fits = absurd fits
cell-value t (field.Data target) (one_value.Cells cells) follows fits = absurd fits
cell-value t (field.Data target) (one_value.Cell o) follows fits = (o, refl)
cell-value t (field.Pointer target along) (one_value.Bool b) follows fits = absurd fits
cell-value t (field.Pointer target along) (one_value.Cells cells) follows fits = absurd fits
cell-value t (field.Pointer target along) (one_value.Cell o) follows fits = (o, refl)

-- ---- what has come so far: a value of a type of cells

pub record IsCome (types : List TypeEntry) (vars : List VarEntry) (line : ℕ) (reached : Text) (s : State) (got : Got) (ty : TypeId)
    (value : StoreMap → Result Value Cause) : Type 0 where
  pub reads : Reads types vars line reached s got value
  pub of_type : (t : StoreMap) → Fits types vars t → (x : Value) → value t ≡ Ok x → IsOfSort t (Cell ty) x

pub come-same : (types : List TypeEntry) (vars : List VarEntry) (line : ℕ) (reached : Text) (s : State) (got : Got) (ty : TypeId)
    (one other : StoreMap → Result Value Cause) → ((t : StoreMap) → one t ≡ other t) → IsCome types vars line reached s got ty one →
    IsCome types vars line reached s got ty other
come-same types vars line reached s got ty one other same come =
    subst (λ v. IsCome types vars line reached s got ty v) (λ i t. same t i) come

-- ---- one field

module _ (types : List TypeEntry) (vars : List VarEntry) (next : ℕ) (a : Assignment) (first : StoreMap) (s : State) (t : StoreMap) (at : Standing)
    (sees : Sees types vars next a first s t at) (u : Sym) (under : IsSymBelow next u) (f : FieldId) (entry : FieldEntry)
    (there : field_at types f ≡ Some entry) (follows : IsFollowed DataAndPointers entry.kind) (m : ℕ) (made : m < next)
    (defined : WSat (is_read types (sight vars s) f u m next) a) (c : CellId) (stands : StandsForCell a at u (Some c)) (live : IsLive t c) where
  abbrev sits : Sits t at
  sits = sees-sits types vars next a first s t at sees

  abbrev inner : Formula
  inner = ex1 (suc next) (And (is_in (suc (suc next)) (suc next) u) (names types (sight vars s) (suc (suc next)) f (suc next) next))

  inner-told : (q : Position) → WSat inner (with_position a next q) ↔ FieldNamesAt t at c f q
  inner-told q =
      let agrees = Agrees-bound next a a next q (here-itself types vars next a first s t at sees) (omega arith) in
      let some = some-cell types vars next a first s t at sees (with_position a next q) (suc next) u c
      (names types (sight vars s) (suc (suc next)) f (suc next) next) (λ p. FieldNamesAt t at c f q) agrees (omega arith) under stands (λ p here.
      sees-names types vars next a first s t at sees f entry (with_position (with_position a next q) (suc next) p) (suc (suc next)) (suc next) next p q c there
      follows (Agrees-bound next a (with_position a next q) (suc next) p agrees (omega arith)) (omega arith) (omega arith) (omega arith)
      (IsOnly-bound (with_position a next q) (suc next) p)
      (IsOnly-still (with_position a next q) (suc next) next p q (omega arith) (IsOnly-bound a next q)) here live) in (
        (λ h. (some.0 h).2),
        (λ h. let (p, here) = sits.there c live in some.1 (p, here, h)),
      )

  -- the track has the position of the cell that the field names
  pub on-track : (q : Position) → IsTrue (a m q) ↔ FieldNamesAt t at c f q
  on-track q =
      let b = with_position a next q in
      let finite : IsFinite b = IsFinite-position a next q sees.over.finite in
      let agrees = Agrees-bound next a a next q (here-itself types vars next a first s t at sees) (omega arith) in
      let each : WSat (iff (Sub (track next) (track m)) inner) b = (law-all1 next (iff (Sub (track next) (track m)) inner) a sees.over.finite).0 defined q in
      let same = (law-iff (Sub (track next) (track m)) inner b finite).0 each in
      let member = member-agreed next a b next m q agrees made (IsOnly-bound a next q) in (
        (λ h. (inner-told q).0 (same.0 (member.1 h))),
        (λ h. member.0 (same.1 ((inner-told q).1 h))),
      )

  -- so it stands for the value of the field
  pub stands-read : (y : Value) → field_value t c f ≡ Some y → StandsFor a at (At (track m)) y
  stands-read y is =
      let (o, y_is) = cell-value t entry.kind y follows (value-fits types vars t c f y entry sees.seen.fits is there) in
      subst (λ w. StandsFor a at (At (track m)) w) (sym y_is) (by o (is ∙ ap (λ w. Some w) y_is))
    where
      by : (o : Option CellId) → field_value t c f ≡ Some (one_value.Cell o) → StandsForCell a at (At (track m)) o
      by None null_is = λ q.
          same_truth (a m q) false (
            (λ h.
                let (d, at_q, named) = (on-track q).0 h in
                let both : Some (one_value.Cell (Some d)) ≡ Some (one_value.Cell None) = sym named ∙ null_is in
                let no : ⊥ = cc in absurd no),
            (λ e. absurd (false≢true e)),
          )
      by (Some d) cell_is =
          let (q, at_q) = sees-placed types vars next a first s t at sees f entry there follows c d cell_is in (
            q,
            (λ p. (
              (λ h.
                  let (e, at_p, named) = (on-track p).0 h in
                  let both : Some (one_value.Cell (Some e)) ≡ Some (one_value.Cell (Some d)) = sym named ∙ cell_is in
                  let same : e ≡ d = cc in
                  sits.one d p q (subst (λ g. IsAt at g p) same at_p) at_q),
              (λ is_q. (on-track p).1 (d, subst (λ r. IsAt at d r) (sym is_q) at_q, cell_is)),
            )),
            at_q,
          )

module _ (types : List TypeEntry) (vars : List VarEntry) (line : ℕ) (reached : Text) where
  abbrev read_text : FieldId → Got → Text
  read_text f got = is_read types (sight vars (got.1)) f (got.0) (next_track types vars (check_access types vars line reached f (got.0) (got.1)))

  read-is : (f : FieldId) (got : Got) → (read types vars line reached f got).1
      ≡ with_more (read_text f got ∷ []) (access_checks types vars line reached f (got.0) (got.1)) (got.1)
  read-is f got =
      ap (λ z. define (read_text f got) z) (access-is types vars line reached f (got.0) (got.1))
      ∙ (λ i. record (got.1) {
        defined = append_assoc (got.1).defined [] (read_text f got ∷ []) i;
        checks = (got.1).checks ++ access_checks types vars line reached f (got.0) (got.1);
      })

  track-made : (f : FieldId) (got : Got) (next : ℕ) → HasRoom types vars next ((read types vars line reached f got).1) →
      next_track types vars (check_access types vars line reached f (got.0) (got.1)) < next
  track-made f got next room =
      let more = length-append (check_access types vars line reached f (got.0) (got.1)).defined (read_text f got ∷ []) in omega (arith, room, more)

  track-defined : (f : FieldId) (got : Got) (next : ℕ) (a : Assignment) → AreDefined next a ((read types vars line reached f got).1) →
      WSat (read_text f got next) a
  track-defined f got next a defined =
      All-head (λ (text : Text). WSat (text next) a) (read_text f got) []
      (All-right (λ (text : Text). WSat (text next) a) (check_access types vars line reached f (got.0) (got.1)).defined (read_text f got ∷ []) defined)

  module _ (s : State) where
    -- one field more is read
    read-goes : (f : FieldId) (entry : FieldEntry) (got : Got) (value : StoreMap → Result Value Cause) → field_at types f ≡ Some entry →
        IsFollowed DataAndPointers entry.kind → IsCome types vars line reached s got f.ty value →
        Goes types vars line reached (got.1) ((read types vars line reached f got).1) (λ next a at x. StandsFor a at (got.0) x) value
        (λ next a at x. StandsFor a at ((read types vars line reached f got).0) x) (λ t x. exec.read t x f)
    read-goes f entry got value there follows come = record {
      made = read_text f got ∷ [];
      added = access_checks types vars line reached f (got.0) (got.1);
      is = read-is f got;
      idle = access-idle types vars line reached f (got.0) (got.1);
      told = λ next a first t at x is stands sees room defined here.
          let under = come.reads.below next sees.below in
          let (o, x_is, typed) = cell-of_sort t f.ty x (come.of_type t sees.seen.fits x is) in
          let stands_cell : StandsForCell a at (got.0) o = subst (λ w. StandsFor a at (got.0) w) x_is stands in
          answers-so next a (access_checks types vars line reached f (got.0) (got.1)) line (exec.read t x f)
          (λ y. StandsFor a at ((read types vars line reached f got).0) y)
          (subst (λ w. Answers next a (access_checks types vars line reached f (got.0) (got.1)) line (exec.read t w f) (λ y. Unit {0})) (sym x_is)
          (answers-so next a (access_checks types vars line reached f (got.0) (got.1)) line (exec.read t (one_value.Cell o) f) (λ y. Unit {0})
          (stops-read types vars next a first (got.1) t at sees line reached here (got.0) under f entry o there stands_cell typed) (λ y e. tt))).0
          (λ y e.
          let (c, cell_is, live, value_is) = read-ok t x y f e in
          stands-read types vars next a first (got.1) t at sees (got.0) under f entry there follows
          (next_track types vars (check_access types vars line reached f (got.0) (got.1))) (track-made f got next room) (track-defined f got next a defined) c
          (subst (λ w. StandsFor a at (got.0) w) cell_is stands) live y value_is);
    }

    pub come-read : (f : FieldId) (entry : FieldEntry) (got : Got) (ty target : TypeId) (value : StoreMap → Result Value Cause) →
        field_at types f ≡ Some entry → f.ty ≡ ty → field_sort entry.kind ≡ Cell target → IsCome types vars line reached s got ty value →
        IsCome types vars line reached s (read types vars line reached f got) target (λ t. and_then (λ x. exec.read t x f) (value t))
    come-read f entry got ty target value there typed sort come =
        let come_here : IsCome types vars line reached s got f.ty value =
        subst (λ k. IsCome types vars line reached s got k value) (sym typed) come in
        record {
          reads = record {
            means = means-then types vars line reached s (got.1) ((read types vars line reached f got).1) (λ next a at x. StandsFor a at (got.0) x) value
                (λ next a at x. StandsFor a at ((read types vars line reached f got).0) x) (λ t x. exec.read t x f) come.reads.means
                (read-goes f entry got value there (reference-kind entry.kind (target, sort)) come_here);
            below = λ next below. track-made f got next below.made;
          };
          of_type = λ t fits y e.
              let (x, is, reads_to) = then-ok (value t) (λ x. exec.read t x f) y e in
              subst (λ k. IsOfSort t k y) sort (read-sort types vars t fits x y f entry there reads_to);
        }

    -- ---- fields one after the other

    pub come-along : (fields : List FieldId) (got : Got) (ty end : TypeId) (value : StoreMap → Result Value Cause) →
        sort_along types (Cell ty) fields ≡ Some (Cell end) → IsCome types vars line reached s got ty value →
        IsCome types vars line reached s (read_along types vars line reached fields got) end (λ t. and_then (λ x. exec.read_along t x fields) (value t))
    come-along [] got ty end value e come =
        come-same types vars line reached s got end value (λ t. and_then (λ x. Ok x) (value t)) (λ t. then-same (value t))
        (let same : ty ≡ end = cc in subst (λ k. IsCome types vars line reached s got k value) same come)
    come-along (f ∷ fields) got ty end value e come =
        let step = step-of types ty f fields (Cell end) e in
        let (target, sort) = cell-leads types (field_sort step.entry.kind) fields end step.rest in
        come-same types vars line reached s (read_along types vars line reached fields (read types vars line reached f got)) end
        (λ t. and_then (λ x. exec.read_along t x fields) (and_then (λ x. exec.read t x f) (value t)))
        (λ t. and_then (λ x. exec.read_along t x (f ∷ fields)) (value t))
        (λ t. then-then (value t) (λ x. exec.read t x f) (λ x. exec.read_along t x fields))
        (come-along fields (read types vars line reached f got) target end (λ t. and_then (λ x. exec.read t x f) (value t))
        (ap (λ k. sort_along types k fields) (sym sort) ∙ step.rest)
        (come-read f step.entry got ty target value step.there step.typed sort come))

    -- ---- variables

    variable-below : (v : VarId) (next : ℕ) → All (IsSymBelow next) s.values → IsSymBelow next (value_of s.values v)
    variable-below v next below = by (slice_get s.values v.0) refl
      where
        by : (o : Option Sym) → slice_get s.values v.0 ≡ o → IsSymBelow next (unwrap_or o Null)
        by None is = tt
        by (Some u) is = All-contains (IsSymBelow next) s.values u below (in_at s.values v.0 u is)

    -- what stands for a variable stands for its value
    pub variable-stands : (v : VarId) (entry : VarEntry) → var_at vars v ≡ Some entry → (next : ℕ) (a : Assignment) (first t : StoreMap) (at : Standing) →
        Sees types vars next a first s t at → StandsFor a at (value_of s.values v) (variable t v)
    variable-stands v entry there next a first t at sees =
        let held = held_at t vars t.vars v.0 entry sees.seen.fits.values there in
        let inside = slice_get_within t.vars v.0 held.held held.at in
        let count = sees.seen.count in
        let (u, is) = present s.values v.0 (omega (arith, inside, count)) in
        subst (λ o. StandsFor a at (unwrap_or o Null) (variable t v)) (sym is)
        (subst (λ o. StandsFor a at u (unwrap_or o null)) (sym held.at)
        (IfSome-at (var_value t v) (StandsFor a at u) held.held held.at
        (IfSome-at (slice_get s.values v.0) (λ w. IfSome (var_value t v) (StandsFor a at w)) u is (sees.seen.values v))))

    pub variable-reads : (v : VarId) (entry : VarEntry) → var_at vars v ≡ Some entry →
        Reads types vars line reached s (value_of s.values v, s) (λ t. Ok (variable t v))
    variable-reads v entry there = record {
      means = means-at_once types vars line reached s (λ next a at x. StandsFor a at (value_of s.values v) x) (λ t. variable t v)
          (λ next a first t at sees. variable-stands v entry there next a first t at sees);
      below = λ next below. variable-below v next below.values;
    }

    pub come-variable : (v : VarId) (entry : VarEntry) (ty : TypeId) → var_at vars v ≡ Some entry → code_sort entry.kind ≡ Some (Cell ty) →
        IsCome types vars line reached s (value_of s.values v, s) ty (λ t. Ok (variable t v))
    come-variable v entry ty there coded = record {
      reads = variable-reads v entry there;
      of_type = λ t fits x e.
          subst (IsOfSort t (Cell ty)) (ok-one (variable t v) x e)
          (variable-sort types vars t fits v (Cell ty) (ap (λ o. option_and_then (λ (w : VarEntry). code_sort w.kind) o) there ∙ coded));
    }

    -- ---- paths and operands

    pub come-path : (p : Path) (ty : TypeId) → PathFits types vars p (Cell ty) →
        IsCome types vars line reached s (path_value types vars line reached p s) ty (λ t. exec.path_value t p)
    come-path p ty fits =
        let place = place-of types vars p.var p.fields (Cell ty) fits in
        let (start, is) = cell-leads types place.start p.fields ty place.along in
        come-along p.fields (value_of s.values p.var, s) start ty (λ t. Ok (variable t p.var)) (ap (λ k. sort_along types k p.fields) (sym is) ∙ place.along)
        (come-variable p.var place.entry start place.known (place.coded ∙ ap (λ k. Some k) is))

    pub come-null : (ty : TypeId) → IsCome types vars line reached s (Null, s) ty (λ t. Ok null)
    come-null ty = record {
      reads = record {
        means = means-at_once types vars line reached s (λ next a at x. StandsFor a at Null x) (λ t. null) (λ next a first t at sees. tt);
        below = λ next below. tt;
      };
      of_type = λ t fits x e. subst (IsOfSort t (Cell ty)) (ok-one null x e) tt;
    }

    pub come-operand : (p : Operand) (ty : TypeId) → OperandFits types vars p (Cell ty) →
        IsCome types vars line reached s (operand_value types vars line reached p s) ty (λ t. exec.operand_value t p)
    come-operand operand.Null ty fits = come-null ty
    come-operand (operand.Path p) ty fits = come-path p ty fits
