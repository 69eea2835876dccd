-- Reading of bool fields and bool variables, tests of variants, and whether two values are the same.
use Rattle.std.proofs.Common.{◌≡◌, ◌↔◌, ℕ, suc, ◌<◌, Bool, true, false, cond, eqb-true, eq-eqb, IsTrue, List, [], ◌∷◌, Option, Some, None, is_some, Result, Ok}
use Rattle.std.proofs.Common.{Err, refl, sym, ap, ◌∙◌, subst, arith}
use Rattle.std.specs.Option.{option_map_or, option_and_then}
use Rattle.std.proofs.lemmas.Bool.{false≢true}
use Rattle.gta_theory.specs.Assignments.{Position, Assignment, IsOnly}
use Rattle.ws2s_core.specs.Satisfaction.{WSat}
use Rattle.ws2s_forms.specs.Places.{with_position}
use Rattle.ws2s_forms.proofs.ConnectivesLemmas.{WSat-true}
use Rattle.ws2s_forms.proofs.PositionsLemmas.{IsOnly-inside}
use Rattle.ws2s_forms.proofs.LawsLemmas.{law-empty, law-equal, same_truth}
use Rattle.store_core.specs.declared.ids.CellId.{CellId}
use Rattle.store_core.specs.declared.ids.FieldId.{FieldId}
use Rattle.store_core.specs.declared.ids.TypeId.{TypeId}
use Rattle.store_core.specs.declared.ids.VarId.{VarId}
use Rattle.store_core.specs.declared.ids.VariantId.{VariantId}
use Rattle.store_core.specs.declared.kind.FieldKind.{FieldKind}
use Rattle.store_core.specs.declared.kind.FieldKind.TheVariants as field
use Rattle.store_core.specs.declared.value.Value.{Value}
use Rattle.store_core.specs.declared.value.Value.TheVariants as one_value
use Rattle.store_core.specs.Tables.{TypeEntry, FieldEntry, VarEntry, KnowsVariant, field_at, var_at}
use Rattle.store_core.specs.Stores.{StoreMap, CellEntry, IsLive, FieldFits, cell_of, field_value}
use Rattle.store_core.proofs.FittingLemmas.{IsSomeAnd-at}
use Rattle.routing_walks.specs.Walks.{IsOfVariant}
use Rattle.store_logic.specs.declared.path.Path.{Path}
use Rattle.store_logic.specs.Sorts.{Truth, Cell, field_sort, sort_along}
use Rattle.store_logic.specs.FitsCode.{code_sort, PathFits}
use Rattle.store_logic.specs.Terms.{truth_in}
use Rattle.store_exec.specs.declared.cause.Cause.{Cause}
use Rattle.store_exec.specs.declared.cause.Cause.TheVariants as cause
use Rattle.store_exec.specs.Steps.{and_then, made_of, cell_through, is_variant, is_of, variable}
use Rattle.store_exec.specs.Steps as exec
use Rattle.store_exec.proofs.SortLemmas.{IsOfSort, err-ok, ok-one, some-one, variable-sort, read-sort}
use Rattle.store_exec.proofs.KeepLemmas.{IsPlace, place-of}
use Rattle.tree_store.proofs.SpotsLemmas.{of-some}
use Rattle.graph_view.specs.declared.view.Sym.{Sym}
use Rattle.graph_view.specs.declared.view.Sym.TheVariants.{Null, At}
use Rattle.graph_view.specs.Syms.{is_same, truth}
use Rattle.graph_view.specs.Live.{lives}
use Rattle.graph_view.specs.Fields.{is_true}
use Rattle.graph_view.specs.After.{Standing, IsAt, StandsForCell, StandsFor, IsSymBelow}
use Rattle.graph_meaning.specs.Live.Standing.{Sits, VariantAt}
use Rattle.graph_meaning.proofs.live.AgreeingLemmas.{Agrees-bound, IsOnly-bound}
use Rattle.graph_meaning.proofs.live.LiveLemmas.{same-variant, variant-same}
use Rattle.graph_meaning.proofs.live.ReadLemmas.{is-some, is-none}
use Rattle.graph_meaning.proofs.live.FieldsLemmas.{truth-means}
use Rattle.site_list.specs.States.{Text, Check, State, Got, sight, value_of}
use Rattle.site_list.specs.Reading.{Told, check_cell, check_access, is_true_of, is_of_variant, read, truth_along, truth_at, path_truth}
use Rattle.site_list.specs.Conditions.{told_variant}
use Rattle.triple_meaning.specs.Sites.Places.{StopsAs, Answers}
use Rattle.triple_meaning.specs.Sites.Seeing.{Sees}
use Rattle.triple_meaning.specs.Sites.Answering.{Tells}
use Rattle.triple_meaning.proofs.sites.PlacesLemmas.{answers-so}
use Rattle.triple_meaning.proofs.sites.StatesLemmas.{Goes, means-at_once, means-then}
use Rattle.triple_meaning.proofs.sites.LookingLemmas.{sees-sits, here-itself, sees-truth, sees-variant, some-cell}
use Rattle.triple_meaning.proofs.sites.AccessLemmas.{cell_checks, access_checks, cell-is, access-is, cell-idle, access-idle, stops-null, stops-dead}
use Rattle.triple_meaning.proofs.sites.AccessLemmas.{passes-live, stops-read}
use Rattle.triple_meaning.proofs.sites.ReadingLemmas.{read-ok, then-then, cell-of_sort, step-of, step-leads, IsCome, come-read, come-variable, variable-reads}
use Rattle.triple_meaning.proofs.sites.ReadingLemmas.{variable-stands}

-- the meaning of a telling, of the same truth
pub tells-same : (types : List TypeEntry) (vars : List VarEntry) (line : ℕ) (reached : Text) (s : State) (told : Told)
    (one other : StoreMap → Result Bool Cause) → ((t : StoreMap) → one t ≡ other t) → Tells types vars line reached s told one →
    Tells types vars line reached s told other
tells-same types vars line reached s told one other same tells =
    subst (λ truth. Tells types vars line reached s told truth) (λ i t. same t i) tells

-- what is so exactly where it is true
abbrev pub IsToldAs : Text → ℕ → Assignment → Standing → Bool → Type 0
IsToldAs text next a at b = WSat (text next) a ↔ IsTrue b

-- ---- bool fields

bool-value : (t : StoreMap) (y : Value) → FieldFits t field.Bool y → (b : Bool) × (y ≡ one_value.Bool b)
bool-value t (one_value.Bool b) fits = (b, refl)
bool-value t (one_value.Cell c) fits = absurd fits
bool-value t (one_value.Cells cells) fits = absurd fits

truth-kind : (kind : FieldKind) → field_sort kind ≡ Truth → kind ≡ field.Bool
truth-kind field.Bool is = refl
truth-kind (field.Data target) is = (let no : ⊥ = cc in absurd no)
truth-kind (field.Pointer target along) is = (let no : ⊥ = cc in absurd no)

module _ (types : List TypeEntry) (vars : List VarEntry) (next : ℕ) (a : Assignment) (first : StoreMap) (s : State) (t : StoreMap) (at : Standing)
    (sees : Sees types vars next a first s t at) (u : Sym) (under : IsSymBelow next u) (c : CellId) (stands : StandsForCell a at u (Some c)) where
  abbrev sits : Sits t at
  sits = sees-sits types vars next a first s t at sees

  -- the bool field of the cell that the value is
  pub field-told : (f : FieldId) (entry : FieldEntry) → field_at types f ≡ Some entry → entry.kind ≡ field.Bool → IsLive t c →
      WSat (is_true_of types (sight vars s) f u next) a ↔ (field_value t c f ≡ Some (one_value.Bool true))
  field-told f entry there kind live =
      let some = some-cell types vars next a first s t at sees a next u c (is_true types (sight vars s) (suc next) f next)
      (λ p. field_value t c f ≡ Some (one_value.Bool true)) (here-itself types vars next a first s t at sees) (omega arith) under stands (λ p here.
      sees-truth types vars next a first s t at sees f entry (with_position a next p) (suc next) next p c there kind
      (Agrees-bound next a a next p (here-itself types vars next a first s t at sees) (omega arith)) (omega arith) (omega arith) (IsOnly-bound a next p) here
      live) in (
        (λ h. (some.0 h).2),
        (λ h. let (p, here) = sits.there c live in some.1 (p, here, h)),
      )

  -- its variant
  pub variant-told : (v : VariantId) → KnowsVariant types v → IsLive t c → WSat (is_of_variant types (sight vars s) v u next) a ↔ IsTrue (is_of t v c)
  variant-told v known live =
      let some = some-cell types vars next a first s t at sees a next u c (lives types (sight vars s) (suc next) v next)
      (λ p. VariantAt t at v p) (here-itself types vars next a first s t at sees) (omega arith) under stands (λ p here.
      sees-variant types vars next a first s t at sees v known (with_position a next p) (suc next) next p
      (Agrees-bound next a a next p (here-itself types vars next a first s t at sees) (omega arith)) (omega arith) (omega arith) (IsOnly-bound a next p)) in (
        (λ h.
            let (p, at_p, (d, at_d, of_v)) = some.0 h in
            by_variant (subst (λ e. IsOfVariant t v e) (sits.apart d c p at_d at_p) of_v)),
        (λ h.
            let (p, at_p) = sits.there c live in
            some.1 (p, at_p, (c, at_p, by_test (cell_of t c) refl h))),
      )
    where
      by_variant : IsOfVariant t v c → IsTrue (is_of t v c)
      by_variant of_v =
          let (cell, found, is) = IsSomeAnd-at (cell_of t c) (λ e. e.variant ≡ v) of_v in
          ap (λ o. option_map_or (λ (e : CellEntry). is_variant e.variant v) o false) found ∙ variant-same cell.variant v is

      by_test : (o : Option CellEntry) → cell_of t c ≡ o → IsTrue (option_map_or (λ (e : CellEntry). is_variant e.variant v) o false) → IsOfVariant t v c
      by_test None found h = absurd (false≢true h)
      by_test (Some cell) found h = of-some (λ (e : CellEntry). e.variant ≡ v) (cell_of t c) cell found (same-variant cell.variant v h)

-- what is read of a bool field
read-truth : (t : StoreMap) (c : CellId) (f : FieldId) (y : Value) (b : Bool) → field_value t c f ≡ Some y → y ≡ one_value.Bool b →
    (field_value t c f ≡ Some (one_value.Bool true)) ↔ IsTrue (truth_in y)
read-truth t c f y b is y_is = (
  (λ e.
      let both : Some y ≡ Some (one_value.Bool true) = sym is ∙ e in
      let same : y ≡ one_value.Bool true = cc in ap truth_in same),
  (λ h.
      let b_true : b ≡ true = sym (ap truth_in y_is) ∙ h in
      is ∙ ap (λ w. Some w) (y_is ∙ ap (λ k. one_value.Bool k) b_true)),
)

made-then : {X : Type 0} (r : Result X Cause) (step : X → Result Value Cause) →
    and_then (λ x. made_of truth_in (step x)) r ≡ made_of truth_in (and_then step r)
made-then (Err why) step = refl
made-then (Ok x) step = refl

then-last : (r : Result Value Cause) → r ≡ and_then (λ y. Ok y) r
then-last (Err why) = refl
then-last (Ok x) = refl

made-is : {X Y : Type 0} (r : Result X Cause) (make : X → Y) (y : Y) → made_of make r ≡ Ok y → (x : X) × (r ≡ Ok x) × (make x ≡ y)
made-is (Err why) make y e = err-ok why e
made-is (Ok x) make y e = (x, refl, ok-one (make x) y e)

stops-made : {X Y : Type 0} (next : ℕ) (a : Assignment) (checks : List Check) (line : ℕ) (r : Result X Cause) (make : X → Y) →
    StopsAs next a checks line r → StopsAs next a checks line (made_of make r)
stops-made next a checks line (Err why) make stops = stops
stops-made next a checks line (Ok x) make stops = stops

module _ (types : List TypeEntry) (vars : List VarEntry) (line : ℕ) (reached : Text) (s : State) where
  -- the last field is read, which is a bool field
  last-goes : (f : FieldId) (entry : FieldEntry) (got : Got) (value : StoreMap → Result Value Cause) → field_at types f ≡ Some entry →
      entry.kind ≡ field.Bool → IsCome types vars line reached s got f.ty value →
      Goes types vars line reached (got.1) (check_access types vars line reached f (got.0) (got.1)) (λ next a at x. StandsFor a at (got.0) x) value
      (IsToldAs (is_true_of types (sight vars (got.1)) f (got.0))) (λ t x. made_of truth_in (exec.read t x f))
  last-goes f entry got value there kind come = record {
    made = [];
    added = access_checks types vars line reached f (got.0) (got.1);
    is = access-is types vars line reached f (got.0) (got.1);
    idle = access-idle types vars line reached f (got.0) (got.1);
    told = λ next a first t at x is stands sees room defined here.
        let under = come.reads.below next sees.below in
        let (o, x_is, typed) = cell-of_sort t f.ty x (come.of_type t sees.seen.fits x is) in
        let stands_cell : StandsForCell a at (got.0) o = subst (λ w. StandsFor a at (got.0) w) x_is stands in
        let checks = access_checks types vars line reached f (got.0) (got.1) in
        let stops = stops-read types vars next a first (got.1) t at sees line reached here (got.0) under f entry o there stands_cell typed in
        answers-so next a checks line (made_of truth_in (exec.read t x f)) (IsToldAs (is_true_of types (sight vars (got.1)) f (got.0)) next a at)
        (stops-made next a checks line (exec.read t x f) truth_in (subst (λ w. StopsAs next a checks line (exec.read t w f)) (sym x_is) stops))
        (λ b e. told next a first t at x sees under stands b e);
  }
    where
      told : (next : ℕ) (a : Assignment) (first t : StoreMap) (at : Standing) (x : Value) → Sees types vars next a first (got.1) t at →
          IsSymBelow next (got.0) → StandsFor a at (got.0) x → (b : Bool) → made_of truth_in (exec.read t x f) ≡ Ok b →
          WSat (is_true_of types (sight vars (got.1)) f (got.0) next) a ↔ IsTrue b
      told next a first t at x sees under stands b e =
          let (y, reads_y, b_is) = made-is (exec.read t x f) truth_in b e in
          let (c, cell_is, live, value_is) = read-ok t x y f reads_y in
          let stands_c : StandsForCell a at (got.0) (Some c) = subst (λ w. StandsFor a at (got.0) w) cell_is stands in
          let of_sort = read-sort types vars t sees.seen.fits x y f entry there reads_y in
          let (k, y_is) = bool-of y (subst (λ so. IsOfSort t so y) (ap field_sort kind) of_sort) in
          let means = field-told types vars next a first (got.1) t at sees (got.0) under c stands_c f entry there kind live in
          let reads_b = read-truth t c f y k value_is y_is in (
            (λ h. sym b_is ∙ reads_b.0 (means.0 h)),
            (λ h. means.1 (reads_b.1 (b_is ∙ h))),
          )
        where
          bool-of : (y : Value) → IsOfSort t Truth y → (k : Bool) × (y ≡ one_value.Bool k)
          bool-of (one_value.Bool k) h = (k, refl)
          bool-of (one_value.Cell c) h = absurd h
          bool-of (one_value.Cells cells) h = absurd h

  -- cell fields are read, and last a bool field
  pub tells-along : (f : FieldId) (fields : List FieldId) (got : Got) (ty : TypeId) (value : StoreMap → Result Value Cause) →
      sort_along types (Cell ty) (f ∷ fields) ≡ Some Truth → IsCome types vars line reached s got ty value →
      Tells types vars line reached s (truth_along types vars line reached f fields got)
      (λ t. made_of truth_in (and_then (λ x. exec.read_along t x (f ∷ fields)) (value t)))
  tells-along f [] got ty value e come =
      let step = step-of types ty f [] Truth e in
      let sort : field_sort step.entry.kind ≡ Truth = some-one (field_sort step.entry.kind) Truth step.rest in
      tells-same types vars line reached s (truth_along types vars line reached f [] got)
      (λ t. and_then (λ x. made_of truth_in (exec.read t x f)) (value t))
      (λ t. made_of truth_in (and_then (λ x. exec.read_along t x (f ∷ [])) (value t)))
      (λ t. made-then (value t) (λ x. exec.read t x f)
      ∙ ap (λ (step : Value → Result Value Cause). made_of truth_in (and_then step (value t))) (λ i x. then-last (exec.read t x f) i))
      (means-then types vars line reached s (got.1) (check_access types vars line reached f (got.0) (got.1)) (λ next a at x. StandsFor a at (got.0) x) value
      (IsToldAs (is_true_of types (sight vars (got.1)) f (got.0))) (λ t x. made_of truth_in (exec.read t x f)) come.reads.means
      (last-goes f step.entry got value step.there (truth-kind step.entry.kind sort)
      (subst (λ k. IsCome types vars line reached s got k value) (sym step.typed) come)))
  tells-along f (g ∷ fields) got ty value e come =
      let step = step-of types ty f (g ∷ fields) Truth e in
      let (target, sort) = step-leads types (field_sort step.entry.kind) g fields Truth step.rest in
      tells-same types vars line reached s (truth_along types vars line reached g fields (read types vars line reached f got))
      (λ t. made_of truth_in (and_then (λ x. exec.read_along t x (g ∷ fields)) (and_then (λ x. exec.read t x f) (value t))))
      (λ t. made_of truth_in (and_then (λ x. exec.read_along t x (f ∷ g ∷ fields)) (value t)))
      (λ t. ap (λ (r : Result Value Cause). made_of truth_in r) (then-then (value t) (λ x. exec.read t x f) (λ x. exec.read_along t x (g ∷ fields))))
      (tells-along g fields (read types vars line reached f got) target (λ t. and_then (λ x. exec.read t x f) (value t))
      (ap (λ k. sort_along types k (g ∷ fields)) (sym sort) ∙ step.rest)
      (come-read types vars line reached s f step.entry got ty target value step.there step.typed sort come))

  -- ---- bool variables

  tells-variable : (v : VarId) (entry : VarEntry) → var_at vars v ≡ Some entry → code_sort entry.kind ≡ Some Truth →
      Tells types vars line reached s (λ next. truth next (value_of s.values v), s) (λ t. Ok (truth_in (variable t v)))
  tells-variable v entry there coded =
      means-at_once types vars line reached s (IsToldAs (λ next. truth next (value_of s.values v))) (λ t. truth_in (variable t v))
      (λ next a first t at sees.
      let stands = variable-stands types vars line reached s v entry there next a first t at sees in
      let under = (variable-reads types vars line reached s v entry there).below next sees.below in
      let of_sort = variable-sort types vars t sees.seen.fits v Truth
      (ap (λ o. option_and_then (λ (w : VarEntry). code_sort w.kind) o) there ∙ coded) in
      by next a first t at sees under (variable t v) stands of_sort)
    where
      by : (next : ℕ) (a : Assignment) (first t : StoreMap) (at : Standing) → Sees types vars next a first s t at → IsSymBelow next (value_of s.values v) →
          (x : Value) → StandsFor a at (value_of s.values v) x → IsOfSort t Truth x →
          WSat (truth next (value_of s.values v)) a ↔ IsTrue (truth_in x)
      by next a first t at sees under (one_value.Cell c) stands of_sort = absurd of_sort
      by next a first t at sees under (one_value.Cells cells) stands of_sort = absurd of_sort
      by next a first t at sees under (one_value.Bool b) stands of_sort =
          let means = truth-means next a a next at t (value_of s.values v) (one_value.Bool b) (here-itself types vars next a first s t at sees)
          (omega arith) stands
          tt under in (
            (λ h. ap truth_in (means.0 h)),
            (λ h. means.1 (ap (λ k. one_value.Bool k) h)),
          )

  -- what stands at a path to a truth value
  pub tells-path : (p : Path) → PathFits types vars p Truth →
      Tells types vars line reached s (path_truth types vars line reached p s) (λ t. made_of truth_in (exec.path_value t p))
  tells-path p fits = by p.fields (place-of types vars p.var p.fields Truth fits)
    where
      by : (fields : List FieldId) → IsPlace types vars p.var fields Truth →
          Tells types vars line reached s (truth_at types vars line reached fields (value_of s.values p.var, s))
          (λ t. made_of truth_in (exec.read_along t (variable t p.var) fields))
      by [] place = tells-variable p.var place.entry place.known (place.coded ∙ place.along)
      by (f ∷ fields) place =
          let (start, is) = step-leads types place.start f fields Truth place.along in
          tells-along f fields (value_of s.values p.var, s) start (λ t. Ok (variable t p.var))
          (ap (λ k. sort_along types k (f ∷ fields)) (sym is) ∙ place.along)
          (come-variable types vars line reached s p.var place.entry start place.known (place.coded ∙ ap (λ k. Some k) is))

  -- ---- variants

  through-made : (t : StoreMap) (v : VariantId) (r : Result Value Cause) →
      and_then (λ x. made_of (is_of t v) (cell_through t x)) r ≡ made_of (is_of t v) (and_then (cell_through t) r)
  through-made t v (Err why) = refl
  through-made t v (Ok x) = refl

  variant-goes : (v : VariantId) (got : Got) (value : StoreMap → Result Value Cause) → KnowsVariant types v → IsCome types vars line reached s got v.ty value →
      Goes types vars line reached (got.1) (check_cell types vars line reached (got.0) (got.1)) (λ next a at x. StandsFor a at (got.0) x) value
      (IsToldAs (is_of_variant types (sight vars (got.1)) v (got.0))) (λ t x. made_of (is_of t v) (cell_through t x))
  variant-goes v got value known come = record {
    made = [];
    added = cell_checks types vars line reached (got.0) (got.1);
    is = cell-is types vars line reached (got.0) (got.1);
    idle = cell-idle types vars line reached (got.0) (got.1);
    told = λ next a first t at x is stands sees room defined here.
        let under = come.reads.below next sees.below in
        let (o, x_is, typed) = cell-of_sort t v.ty x (come.of_type t sees.seen.fits x is) in
        subst (λ w. Answers next a (cell_checks types vars line reached (got.0) (got.1)) line (made_of (is_of t v) (cell_through t w))
        (IsToldAs (is_of_variant types (sight vars (got.1)) v (got.0)) next a at)) (sym x_is)
        (by next a first t at sees here under o (subst (λ w. StandsFor a at (got.0) w) x_is stands));
  }
    where
      by : (next : ℕ) (a : Assignment) (first t : StoreMap) (at : Standing) → Sees types vars next a first (got.1) t at → WSat (reached next) a →
          IsSymBelow next (got.0) → (o : Option CellId) → StandsForCell a at (got.0) o →
          Answers next a (cell_checks types vars line reached (got.0) (got.1)) line (made_of (is_of t v) (cell_through t (one_value.Cell o)))
          (IsToldAs (is_of_variant types (sight vars (got.1)) v (got.0)) next a at)
      by next a first t at sees here under None stands = (stops-null types vars next a first (got.1) t at sees line reached here (got.0) under [] stands, tt)
      by next a first t at sees here under (Some c) stands = at_cell (cell_of t c) refl
        where
          at_cell : (o : Option CellEntry) → cell_of t c ≡ o →
              Answers next a (cell_checks types vars line reached (got.0) (got.1)) line (made_of (is_of t v) (cond (is_some o) (Ok c) (Err cause.Dangling)))
              (IsToldAs (is_of_variant types (sight vars (got.1)) v (got.0)) next a at)
          at_cell None is =
              (stops-dead types vars next a first (got.1) t at sees line reached here (got.0) under [] c stands (is-none (cell_of t c) is), tt)
          at_cell (Some cell) is =
              let live = is-some (cell_of t c) cell is in (
                passes-live types vars next a first (got.1) t at sees line reached here (got.0) under c stands live,
                variant-told types vars next a first (got.1) t at sees (got.0) under c stands v known live,
              )

  pub tells-variant : (v : VariantId) (got : Got) (value : StoreMap → Result Value Cause) → KnowsVariant types v →
      IsCome types vars line reached s got v.ty value →
      Tells types vars line reached s (told_variant types vars line reached v got) (λ t. made_of (is_of t v) (and_then (cell_through t) (value t)))
  tells-variant v got value known come =
      tells-same types vars line reached s (told_variant types vars line reached v got)
      (λ t. and_then (λ x. made_of (is_of t v) (cell_through t x)) (value t)) (λ t. made_of (is_of t v) (and_then (cell_through t) (value t)))
      (λ t. through-made t v (value t))
      (means-then types vars line reached s (got.1) (check_cell types vars line reached (got.0) (got.1)) (λ next a at x. StandsFor a at (got.0) x) value
      (IsToldAs (is_of_variant types (sight vars (got.1)) v (got.0))) (λ t x. made_of (is_of t v) (cell_through t x)) come.reads.means
      (variant-goes v got value known come))

-- ---- the same value

module _ (types : List TypeEntry) (vars : List VarEntry) (next : ℕ) (a : Assignment) (at : Standing) (t : StoreMap) (sits : Sits t at) where
  not-empty : (x : ℕ) (c : CellId) → x < next → ((p : Position) × IsOnly (a x) p × IsAt at c p) → ((p : Position) → a x p ≡ false) → ⊥
  not-empty x c less stands none = false≢true (sym (none stands.0) ∙ IsOnly-inside (a x) stands.0 stands.1)

  pub same-told : (u w : Sym) (o q : Option CellId) → IsSymBelow next u → IsSymBelow next w → StandsForCell a at u o → StandsForCell a at w q →
      WSat (is_same next u w) a ↔ IsTrue (exec.is_same o q)
  same-told Null Null None None below also one other = ((λ h. refl), (λ h. WSat-true next a))
  same-told Null w (Some c) q below also one other = absurd one
  same-told Null Null None (Some d) below also one other = absurd other
  same-told Null (At y) None None below also one other = ((λ h. refl), (λ h. (law-empty next y.0 a also).1 other))
  same-told Null (At y) None (Some d) below also one other = (
    (λ h. absurd (not-empty y.0 d also other ((law-empty next y.0 a also).0 h))),
    (λ h. absurd (false≢true h)),
  )
  same-told (At x) Null None None below also one other = ((λ h. refl), (λ h. (law-empty next x.0 a below).1 one))
  same-told (At x) Null (Some c) None below also one other = (
    (λ h. absurd (not-empty x.0 c below one ((law-empty next x.0 a below).0 h))),
    (λ h. absurd (false≢true h)),
  )
  same-told (At x) Null o (Some d) below also one other = absurd other
  same-told (At x) (At y) None None below also one other = ((λ h. refl), (λ h. (law-equal x.0 y.0 a).1 (λ p. one p ∙ sym (other p))))
  same-told (At x) (At y) None (Some d) below also one other = (
    (λ h. absurd (not-empty y.0 d also other (λ p. sym ((law-equal x.0 y.0 a).0 h p) ∙ one p))),
    (λ h. absurd (false≢true h)),
  )
  same-told (At x) (At y) (Some c) None below also one other = (
    (λ h. absurd (not-empty x.0 c below one (λ p. (law-equal x.0 y.0 a).0 h p ∙ other p))),
    (λ h. absurd (false≢true h)),
  )
  same-told (At x) (At y) (Some c) (Some d) below also one other = (
    (λ h.
        let (p, only, at_p) = one in
        let (q, alone, at_q) = other in
        let on : IsTrue (a y.0 p) = sym ((law-equal x.0 y.0 a).0 h p) ∙ IsOnly-inside (a x.0) p only in
        let places : p ≡ q = (alone p).0 on in
        let cells : c ≡ d = sits.apart c d q (subst (λ r. IsAt at c r) places at_p) at_q in
        eq-eqb c.0 d.0 (ap (λ (e : CellId). e.0) cells)),
    (λ h.
        let (p, only, at_p) = one in
        let (q, alone, at_q) = other in
        let number = eqb-true c.0 d.0 h in
        let cells : c ≡ d = (λ i. record { 0 = number i }) in
        let places : p ≡ q = sits.one d p q (subst (λ e. IsAt at e p) cells at_p) at_q in
        (law-equal x.0 y.0 a).1 (λ r. same_truth (a x.0 r) (a y.0 r) (
          (λ on. (alone r).1 ((only r).0 on ∙ places)),
          (λ on. (only r).1 ((alone r).0 on ∙ sym places)),
        ))),
  )
