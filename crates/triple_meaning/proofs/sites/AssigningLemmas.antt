-- Assignments: to a variable, and to a field of what a path leads to.
use Rattle.std.proofs.Common.{◌≡◌, ℕ, Bool, true, false, cond, IsSome, IsSomeAnd, IfSome, List, [], ◌∷◌, ◌++◌, length, Option, Some, None, is_some, All, Result}
use Rattle.std.proofs.Common.{Ok, Err, refl, sym, ap, ◌∙◌, subst, arith, append-nil, append_assoc, length-set}
use Rattle.std.specs.Option.{ok_or}
use Rattle.std.proofs.lemmas.List.{length-append}
use Rattle.std.proofs.lemmas.List.Elements.{All-set}
use Rattle.gta_theory.specs.Assignments.{Assignment, IsFinite}
use Rattle.ws2s_core.specs.Satisfaction.{WSat}
use Rattle.store_core.specs.declared.ids.CellId.{CellId}
use Rattle.store_core.specs.declared.ids.FieldId.{FieldId}
use Rattle.store_core.specs.declared.ids.TypeId.{TypeId}
use Rattle.store_core.specs.declared.ids.VarId.{VarId}
use Rattle.store_core.specs.declared.value.Value.{Value}
use Rattle.store_core.specs.declared.value.Value.TheVariants as one_value
use Rattle.store_core.specs.Tables.{TypeEntry, FieldEntry, VarEntry, field_at}
use Rattle.store_core.specs.Stores.{StoreMap, Fits, IsFresh, FieldFits, NamesType, cell_of, field_value, set_field, set_var}
use Rattle.store_logic.specs.declared.act.Rhs.{Rhs}
use Rattle.store_logic.specs.declared.act.Act.TheVariants as act
use Rattle.store_logic.specs.Sorts.{Sort, Cell, field_sort, sort_along}
use Rattle.store_logic.specs.FitsCode.{PathFits, RhsFits}
use Rattle.store_exec.specs.declared.cause.Cause.{Cause}
use Rattle.store_exec.specs.declared.cause.Cause.TheVariants as cause
use Rattle.store_exec.specs.Runs.{Ending}
use Rattle.store_exec.specs.Steps.{and_then, made_of, cell_through, field_read, field_written, written, last_step, variable}
use Rattle.store_exec.specs.Steps as exec
use Rattle.store_exec.proofs.SortLemmas.{IsOfSort, field-of_sort, err-ok, ok-one, some-one}
use Rattle.store_exec.proofs.KeepLemmas.{IsWell, Step-keeps, evaluated-good, place-of}
use Rattle.tree_store.proofs.SpotsLemmas.{of-some}
use Rattle.graph_view.specs.declared.view.Event.TheVariants.{Write}
use Rattle.graph_view.specs.After.{Standing, StandsForCell, StandsFor, IsSeen, IsTaken, IsGuard, IsSymBelow, IsGuardBelow}
use Rattle.site_list.specs.States.{Text, Check, State, Got, guard, value_of, with_value, happens}
use Rattle.site_list.specs.Reading.{read}
use Rattle.site_list.specs.Acts.{evaluated, write_field, write_along, assigned}
use Rattle.triple_meaning.specs.Sites.Places.{ComesFirst, StopsAs, Answers}
use Rattle.triple_meaning.specs.Sites.Seeing.{HasRoom, IsBelow, AreDefined, Sees, with_more}
use Rattle.triple_meaning.specs.Sites.Doing.{Follows, IsIdle, Leads}
use Rattle.triple_meaning.proofs.sites.PlacesLemmas.{All-left, none-append, answers-then, answers-made, answers-so}
use Rattle.triple_meaning.proofs.sites.StatesLemmas.{below-after}
use Rattle.triple_meaning.proofs.sites.AccessLemmas.{access_checks, access-is, access-idle, stops-read}
use Rattle.triple_meaning.proofs.sites.ReadingLemmas.{then-then, cell-of_sort, step-of, step-leads, IsCome, come-read, come-variable}
use Rattle.triple_meaning.proofs.sites.EventsLemmas.{seen-passed, seen-assigned, seen-written}
use Rattle.triple_meaning.proofs.sites.EvaluatingLemmas.{IsEvaluated, Evaluates, reached-guard, means-idle, means-sees, rhs-evaluates}

-- ---- endings

-- an ending is that of a result, with the line of its cause
abbrev pub EndsBy : ℕ → Result StoreMap Cause → Ending → Type 0
EndsBy line r (Ok u) = r ≡ Ok u
EndsBy line r (Err fault) = (r ≡ Err fault.cause) × (fault.line ≡ line)

-- the state after it sees the store where it fits and is fresh
abbrev pub IsSeenThen : List TypeEntry → List VarEntry → ℕ → Assignment → StoreMap → State → StoreMap → Type 0
IsSeenThen types vars next a first after u = IsWell types vars u → (at : Standing) × Sees types vars next a first after u at

pub follows-by : (types : List TypeEntry) (vars : List VarEntry) (next : ℕ) (a : Assignment) (first : StoreMap) (after : State) (added : List Check) (line : ℕ)
    (r : Result StoreMap Cause) → Answers next a added line r (IsSeenThen types vars next a first after) → ((u : StoreMap) → r ≡ Ok u → IsWell types vars u) →
    (end : Ending) → EndsBy line r end → Follows types vars next a first after added end
follows-by types vars next a first after added line r answers keeps (Ok u) e =
    let so = subst (λ (q : Result StoreMap Cause). Answers next a added line q (IsSeenThen types vars next a first after)) e answers in
    (so.1 (keeps u e), so.0)
follows-by types vars next a first after added line r answers keeps (Err fault) e =
    let so = subst (λ (q : Result StoreMap Cause). Answers next a added line q (IsSeenThen types vars next a first after)) e.0 answers in
    subst (λ n. ComesFirst next a added fault.cause n) (sym e.1) so.0

-- ---- execution

-- a write stops where a read does
stops-written : (next : ℕ) (a : Assignment) (checks : List Check) (line : ℕ) (t : StoreMap) (x : Value) (f : FieldId) (y : Value) →
    StopsAs next a checks line (exec.read t x f) → StopsAs next a checks line (written t x f y)
stops-written next a checks line t x f y = through (cell_through t x)
  where
    through : (r : Result CellId Cause) → StopsAs next a checks line (and_then (field_read t f) r) →
        StopsAs next a checks line (and_then (field_written t f y) r)
    through (Err why) stops = stops
    through (Ok c) stops = at_field (field_value t c f) stops
      where
        at_field : (o : Option Value) → StopsAs next a checks line (ok_or o cause.Variant) →
            StopsAs next a checks line (cond (is_some o) (Ok (set_field t c f y)) (Err cause.Variant))
        at_field None stops = stops
        at_field (Some old) stops = stops

-- what is written is a field that the cell has
written-ok : (t : StoreMap) (o : Option CellId) (f : FieldId) (y : Value) (u : StoreMap) → written t (one_value.Cell o) f y ≡ Ok u →
    (c : CellId) × (o ≡ Some c) × IsSome (field_value t c f) × (set_field t c f y ≡ u)
written-ok t None f y u e = err-ok cause.Null e
written-ok t (Some c) f y u e = by (is_some (cell_of t c)) e
  where
    at_field : (b : Bool) → is_some (field_value t c f) ≡ b → cond b (Ok (set_field t c f y)) (Err cause.Variant) ≡ Ok u →
        (d : CellId) × (Some c ≡ Some d) × IsSome (field_value t d f) × (set_field t d f y ≡ u)
    at_field false is g = err-ok cause.Variant g
    at_field true is g = (c, refl, is, ok-one (set_field t c f y) u g)

    by : (b : Bool) → and_then (field_written t f y) (cond b (Ok c) (Err cause.Dangling)) ≡ Ok u →
        (d : CellId) × (Some c ≡ Some d) × IsSome (field_value t d f) × (set_field t d f y ≡ u)
    by false g = err-ok cause.Dangling g
    by true g = at_field (is_some (field_value t c f)) refl g

module _ (types : List TypeEntry) (vars : List VarEntry) (line : ℕ) (s : State) (x : Rhs) (sort : Sort) (fits : RhsFits types vars x sort) where
  -- ---- a variable

  module _ (v : VarId) where
    abbrev new : Got
    new = evaluated types vars line x s

    ev : Evaluates types vars line s (evaluated types vars line x s) (λ t. exec.evaluated types t x)
    ev = rhs-evaluates types vars line s x sort fits

    variable-below : (next : ℕ) → IsBelow types vars s next → HasRoom types vars next (with_value v new) → IsBelow types vars (with_value v new) next
    variable-below next below room =
        let was = ev.below next below room in
        record {
          made = room;
          guard = was.guard;
          values = All-set (IsSymBelow next) (new.1).values v.0 (new.0) (ev.symbol next was) was.values;
          events = was.events;
        }

    pub variable-leads : ((t u : StoreMap) → Fits types vars t → IsFresh t → exec.assigned types t v [] x ≡ Ok u → IsWell types vars u) →
        Leads types vars s (assigned types vars line v [] x s) (λ t end. EndsBy line (exec.assigned types t v [] x) end)
    variable-leads keeps = record {
      made = ev.made;
      defined = ev.defined;
      added = ev.added;
      checks = ev.checks;
      guard = ev.same_guard;
      count = length-set (new.1).values v.0 (new.0) ∙ ap length ev.same_values;
      news = ev.news;
      below = variable-below;
      reached = λ next a first t at end sees room defined taken ends.
          follows-by types vars next a first (with_value v new) ev.added line (exec.assigned types t v [] x)
          (answers-made next a ev.added line (exec.evaluated types t x) (λ got. set_var got.0 v got.1)
          (IsEvaluated types vars next a first (new.1) (new.0) t at) (IsSeenThen types vars next a first (with_value v new))
          (λ got is so well.
          let (places, sees_new, stands, stays) = so in (
            places,
            record {
              over = sees.over;
              below = variable-below next sees.below room;
              guarded = sees_new.guarded;
              seen = seen-assigned types vars (new.1).values (new.1).events a first (got.0) places v (new.0) (got.1) well.fits stands sees_new.seen;
              fresh = well.fresh;
              spare = sees_new.spare;
            },
          )) (ev.reached next a first t at sees room defined taken))
          (λ u e. keeps t u sees.seen.fits sees.fresh e) end ends;
      idle = λ next a finite room defined below guarded passed.
          let idle = ev.idle next a finite below guarded passed in record { none = idle.none; sees = idle.sees };
    }

  -- ---- a field of what has come

  module _ (f : FieldId) (entry : FieldEntry) (there : field_at types f ≡ Some entry) (sort_is : field_sort entry.kind ≡ sort) (got : Got)
      (value : StoreMap → Result Value Cause) (come : IsCome types vars line (guard s) s got f.ty value) where
    abbrev now : Got
    now = evaluated types vars line x (got.1)

    evaluation : Evaluates types vars line (got.1) (evaluated types vars line x (got.1)) (λ t. exec.evaluated types t x)
    evaluation = rhs-evaluates types vars line (got.1) x sort fits

    abbrev checks_now : List Check
    checks_now = access_checks types vars line (guard (now.1)) f (got.0) (now.1)

    abbrev after : State
    after = happens (Write (now.1).guard (got.0) f (now.0)) (with_more [] checks_now (now.1))

    after-is : write_field types vars line (got.0) f now ≡ after
    after-is = ap (λ z. happens (Write (now.1).guard (got.0) f (now.0)) z) (access-is types vars line (guard (now.1)) f (got.0) (now.1))

    abbrev result : StoreMap → Result StoreMap Cause
    result t = and_then (λ y. and_then (λ (g : StoreMap × Value). written g.0 y f g.1) (exec.evaluated types t x)) (value t)

    -- ---- states between

    guard-got : (got.1).guard ≡ s.guard
    guard-got = ap (λ (u : State). u.guard) come.reads.means.is

    guard-now : (now.1).guard ≡ s.guard
    guard-now = evaluation.same_guard ∙ guard-got

    room-now : (next : ℕ) → HasRoom types vars next after → HasRoom types vars next (now.1)
    room-now next room = (let more = length-append (now.1).defined [] in omega (arith, room, more))

    room-got : (next : ℕ) → HasRoom types vars next (now.1) → HasRoom types vars next (got.1)
    room-got next room =
        let same : length (now.1).defined ≡ length ((got.1).defined ++ evaluation.made) = ap length evaluation.defined in
        let more = length-append (got.1).defined evaluation.made in omega (arith, room, same, more)

    defined-now : (next : ℕ) (a : Assignment) → AreDefined next a after → AreDefined next a (now.1)
    defined-now next a defined = All-left (λ (text : Text). WSat (text next) a) (now.1).defined [] defined

    defined-got : (next : ℕ) (a : Assignment) → AreDefined next a (now.1) → AreDefined next a (got.1)
    defined-got next a defined =
        All-left (λ (text : Text). WSat (text next) a) (got.1).defined evaluation.made
        (subst (λ (texts : List Text). All (λ (text : Text). WSat (text next) a) texts) evaluation.defined defined)

    below-got : (next : ℕ) → IsBelow types vars s next → HasRoom types vars next after → IsBelow types vars (got.1) next
    below-got next below room =
        below-after types vars line (guard s) s (got.1) (λ next a at y. StandsFor a at (got.0) y) value next come.reads.means below
        (room-got next (room-now next room))

    below-now : (next : ℕ) → IsBelow types vars s next → HasRoom types vars next after → IsBelow types vars (now.1) next
    below-now next below room = evaluation.below next (below-got next below room) (room-now next room)

    below-then : (next : ℕ) → IsBelow types vars s next → HasRoom types vars next after → IsBelow types vars after next
    below-then next below room =
        let was = below-now next below room in
        record {
          made = room;
          guard = was.guard;
          values = was.values;
          events = ((was.guard, come.reads.below next (below-got next below room), evaluation.symbol next was), was.events);
        }

    -- ---- where it isn't reached

    field-idle : (next : ℕ) (a : Assignment) → IsFinite a → IsGuardBelow next s.guard → IsGuard a s.guard → (IsTaken a s.guard → ⊥) →
        IsIdle types vars next a s after (come.reads.means.added ++ (evaluation.added ++ checks_now))
    field-idle next a finite below guarded passed =
        let first_idle = means-idle types vars line s (got.1) (λ next a at y. StandsFor a at (got.0) y) value come.reads.means next a finite below passed in
        let below_got : IsGuardBelow next (got.1).guard = subst (λ g. IsGuardBelow next g) (sym guard-got) below in
        let below_now : IsGuardBelow next (now.1).guard = subst (λ g. IsGuardBelow next g) (sym guard-now) below in
        let guarded_got : IsGuard a (got.1).guard = subst (λ g. IsGuard a g) (sym guard-got) guarded in
        let guarded_now : IsGuard a (now.1).guard = subst (λ g. IsGuard a g) (sym guard-now) guarded in
        let passed_got : IsTaken a (got.1).guard → ⊥ = λ h. passed (subst (λ g. IsTaken a g) guard-got h) in
        let passed_now : IsTaken a (now.1).guard → ⊥ = λ h. passed (subst (λ g. IsTaken a g) guard-now h) in
        let then_idle = evaluation.idle next a finite below_got guarded_got passed_got in
        record {
          none = none-append next a come.reads.means.added (evaluation.added ++ checks_now) first_idle.none
              (none-append next a evaluation.added checks_now then_idle.none
              (access-idle types vars line (guard (now.1)) f (got.0) (now.1) next a
              (λ h. passed_now ((reached-guard types vars line (now.1) next a finite below_now).0 h))));
          sees = λ first values t at seen.
              seen-passed types vars values (Write (now.1).guard (got.0) f (now.0)) (now.1).events a first t at guarded_now passed_now
              (then_idle.sees first values t at (first_idle.sees first values t at seen));
        }

    -- ---- where it is reached

    field-sees : (next : ℕ) (a : Assignment) (first t : StoreMap) (at : Standing) → Sees types vars next a first s t at → HasRoom types vars next after →
        IsTaken a s.guard → (y : Value) → value t ≡ Ok y → StandsFor a at (got.0) y → (g : StoreMap × Value) → exec.evaluated types t x ≡ Ok g →
        IsEvaluated types vars next a first (now.1) (now.0) t at g →
        Answers next a checks_now line (written (g.0) y f (g.1)) (IsSeenThen types vars next a first after)
    field-sees next a first t at sees room taken y y_is stands g g_is (places, sees_now, stands_new, stays) =
        subst (λ w. Answers next a checks_now line (written (g.0) w f (g.1)) (IsSeenThen types vars next a first after)) (sym cell.1)
        (answers-so next a checks_now line (written (g.0) (one_value.Cell (cell.0)) f (g.1)) (IsSeenThen types vars next a first after)
        (stops-written next a checks_now line (g.0) (one_value.Cell (cell.0)) f (g.1)
        (stops-read types vars next a first (now.1) (g.0) places sees_now line (guard (now.1))
        ((reached-guard types vars line (now.1) next a sees.over.finite sees_now.below.guard).1 taken_now) (got.0) under f entry (cell.0) there later.0
        later.1))
        (λ u u_is well. (places, seen-then u u_is well)))
      where
        cell : (o : Option CellId) × (y ≡ one_value.Cell o) × IfSome o (NamesType t f.ty)
        cell = cell-of_sort t f.ty y (come.of_type t sees.seen.fits y y_is)

        later : StandsForCell a places (got.0) (cell.0) × IfSome (cell.0) (NamesType (g.0) f.ty)
        later = stays (got.0) (cell.0) f.ty (subst (λ w. StandsFor a at (got.0) w) (cell.1) stands) (cell.2)

        under : IsSymBelow next (got.0)
        under = come.reads.below next (below-got next sees.below room)

        taken_now : IsTaken a (now.1).guard
        taken_now = subst (λ k. IsTaken a k) (sym guard-now) taken

        field_fits : IsSomeAnd (field_at types f) (λ e. FieldFits (g.0) e.kind (g.1))
        field_fits =
            let good = evaluated-good types vars t sees.seen.fits sees.fresh x sort (g.0) (g.1) fits g_is in
            of-some (λ (e : FieldEntry). FieldFits (g.0) e.kind (g.1)) (field_at types f) entry there
            (field-of_sort (g.0) entry.kind (g.1) (subst (λ so. IsOfSort (g.0) so (g.1)) (sym sort_is) good.of_sort))

        seen-then : (u : StoreMap) → written (g.0) (one_value.Cell (cell.0)) f (g.1) ≡ Ok u → IsWell types vars u → Sees types vars next a first after u places
        seen-then u u_is well =
            let (c, c_is, has_f, set_is) = written-ok (g.0) (cell.0) f (g.1) u u_is in
            let names : StandsForCell a places (got.0) (Some c) = subst (λ o. StandsForCell a places (got.0) o) c_is (later.0) in
            record {
              over = sees.over;
              below = below-then next sees.below room;
              guarded = sees_now.guarded;
              seen = subst (λ w. IsSeen types vars (now.1).values (Write (now.1).guard (got.0) f (now.0) ∷ (now.1).events) a first w places) set_is
                  (seen-written types vars (now.1).values (now.1).events a first (g.0) places sees_now.seen (now.1).guard (got.0) f (now.0) c (g.1)
                  (subst (λ w. Fits types vars w) (sym set_is) well.fits) sees_now.guarded taken_now names has_f field_fits stands_new);
              fresh = well.fresh;
              spare = sees_now.spare;
            }

    answers-all : (next : ℕ) (a : Assignment) (first t : StoreMap) (at : Standing) → Sees types vars next a first s t at → HasRoom types vars next after →
        AreDefined next a after → IsTaken a s.guard →
        Answers next a (come.reads.means.added ++ (evaluation.added ++ checks_now)) line (result t) (IsSeenThen types vars next a first after)
    answers-all next a first t at sees room defined taken =
        answers-then next a come.reads.means.added (evaluation.added ++ checks_now) line (value t)
        (λ y. and_then (λ g. written g.0 y f g.1) (exec.evaluated types t x)) (λ y. StandsFor a at (got.0) y) (IsSeenThen types vars next a first after)
        (come.reads.means.told next a first t at sees room_got defined_got ((reached-guard types vars line s next a sees.over.finite sees.below.guard).1 taken))
        (λ y y_is stands.
        answers-then next a evaluation.added checks_now line (exec.evaluated types t x) (λ g. written g.0 y f g.1)
        (IsEvaluated types vars next a first (now.1) (now.0) t at) (IsSeenThen types vars next a first after)
        (evaluation.reached next a first t at sees_got (room-now next room) defined_now (subst (λ k. IsTaken a k) (sym guard-got) taken))
        (λ g g_is so. field-sees next a first t at sees room taken y y_is stands g g_is so))
      where
        room_got : HasRoom types vars next (got.1)
        room_got = room-got next (room-now next room)

        defined_now : AreDefined next a (now.1)
        defined_now = defined-now next a defined

        defined_got : AreDefined next a (got.1)
        defined_got = defined-got next a defined_now

        sees_got : Sees types vars next a first (got.1) t at
        sees_got = means-sees types vars line s (got.1) (λ next a at y. StandsFor a at (got.0) y) value come.reads.means next a first t at sees room_got

    pub field-leads : ((t u : StoreMap) → Fits types vars t → IsFresh t → result t ≡ Ok u → IsWell types vars u) →
        Leads types vars s (write_field types vars line (got.0) f (evaluated types vars line x (got.1))) (λ t end. EndsBy line (result t) end)
    field-leads keeps =
        subst (λ u. Leads types vars s u (λ t end. EndsBy line (result t) end)) (sym after-is) (record {
          made = come.reads.means.made ++ evaluation.made;
          defined = append-nil (now.1).defined ∙ evaluation.defined
              ∙ ap (λ l. l ++ evaluation.made) (ap (λ (u : State). u.defined) come.reads.means.is)
              ∙ append_assoc s.defined come.reads.means.made evaluation.made;
          added = come.reads.means.added ++ (evaluation.added ++ checks_now);
          checks = ap (λ l. l ++ checks_now) (evaluation.checks ∙ ap (λ l. l ++ evaluation.added) (ap (λ (u : State). u.checks) come.reads.means.is))
              ∙ append_assoc (s.checks ++ come.reads.means.added) evaluation.added checks_now
              ∙ append_assoc s.checks come.reads.means.added (evaluation.added ++ checks_now);
          guard = guard-now;
          count = ap length (evaluation.same_values ∙ ap (λ (u : State). u.values) come.reads.means.is);
          news = (let same : (got.1).news ≡ s.news = ap (λ (u : State). u.news) come.reads.means.is in
              let more = evaluation.news in omega (arith, same, more));
          below = below-then;
          reached = λ next a first t at end sees room defined taken ends.
              follows-by types vars next a first after (come.reads.means.added ++ (evaluation.added ++ checks_now)) line (result t)
              (answers-all next a first t at sees room defined taken) (λ u e. keeps t u sees.seen.fits sees.fresh e) end ends;
          idle = λ next a finite room defined below guarded passed. field-idle next a finite below guarded passed;
        })

  -- ---- the fields of a place

  -- what a place gets, once what has come is known
  abbrev place_result : FieldId → List FieldId → (StoreMap → Result Value Cause) → StoreMap → Result StoreMap Cause
  place_result f fields value t =
      and_then (λ (step : Value × FieldId). and_then (λ (g : StoreMap × Value). written g.0 step.0 step.1 g.1) (exec.evaluated types t x))
      (and_then (λ y. last_step t y f fields) (value t))

  leads-same : (after : State) (one other : StoreMap → Result StoreMap Cause) → ((t : StoreMap) → one t ≡ other t) →
      Leads types vars s after (λ t end. EndsBy line (one t) end) → Leads types vars s after (λ t end. EndsBy line (other t) end)
  leads-same after one other same leads =
      subst (λ (r : StoreMap → Result StoreMap Cause). Leads types vars s after (λ t end. EndsBy line (r t) end)) (λ i t. same t i) leads

  last-same : (f : FieldId) (t : StoreMap) (r : Result Value Cause) →
      and_then (λ y. and_then (λ (g : StoreMap × Value). written g.0 y f g.1) (exec.evaluated types t x)) r
      ≡ and_then (λ (step : Value × FieldId). and_then (λ (g : StoreMap × Value). written g.0 step.0 step.1 g.1) (exec.evaluated types t x))
      (and_then (λ y. Ok (y, f)) r)
  last-same f t (Err why) = refl
  last-same f t (Ok y) = refl

  pub place-leads : (fields : List FieldId) (f : FieldId) (got : Got) (ty : TypeId) (value : StoreMap → Result Value Cause) →
      sort_along types (Cell ty) (f ∷ fields) ≡ Some sort → IsCome types vars line (guard s) s got ty value →
      ((t u : StoreMap) → Fits types vars t → IsFresh t → place_result f fields value t ≡ Ok u → IsWell types vars u) →
      Leads types vars s (write_along types vars line f fields x got) (λ t end. EndsBy line (place_result f fields value t) end)
  place-leads [] f got ty value e come keeps =
      let step = step-of types ty f [] sort e in
      leads-same (write_along types vars line f [] x got)
      (λ t. and_then (λ y. and_then (λ (g : StoreMap × Value). written g.0 y f g.1) (exec.evaluated types t x)) (value t)) (place_result f [] value)
      (λ t. last-same f t (value t))
      (field-leads f step.entry step.there (some-one (field_sort step.entry.kind) sort step.rest) got value
      (subst (λ k. IsCome types vars line (guard s) s got k value) (sym step.typed) come)
      (λ t u fit fresh is. keeps t u fit fresh (sym (last-same f t (value t)) ∙ is)))
  place-leads (g ∷ fields) f got ty value e come keeps =
      let step = step-of types ty f (g ∷ fields) sort e in
      let (target, is_cell) = step-leads types (field_sort step.entry.kind) g fields sort step.rest in
      let further = come-read types vars line (guard s) s f step.entry got ty target value step.there step.typed is_cell come in
      let same = λ (t : StoreMap). ap (λ (r : Result (Value × FieldId) Cause).
      and_then (λ (step : Value × FieldId). and_then (λ (g : StoreMap × Value). written g.0 step.0 step.1 g.1) (exec.evaluated types t x)) r)
      (then-then (value t) (λ y. exec.read t y f) (λ y. last_step t y g fields)) in
      subst (λ (reached : Text). Leads types vars s (write_along types vars line g fields x (read types vars line reached f got))
      (λ t end. EndsBy line (place_result f (g ∷ fields) value t) end)) (sym (guard-of got value come))
      (leads-same (write_along types vars line g fields x (read types vars line (guard s) f got))
      (place_result g fields (λ t. and_then (λ y. exec.read t y f) (value t))) (place_result f (g ∷ fields) value) same
      (place-leads fields g (read types vars line (guard s) f got) target (λ t. and_then (λ y. exec.read t y f) (value t))
      (ap (λ k. sort_along types k (g ∷ fields)) (sym is_cell) ∙ step.rest) further
      (λ t u fit fresh is. keeps t u fit fresh (sym (same t) ∙ is))))
    where
      guard-of : (got : Got) (value : StoreMap → Result Value Cause) → IsCome types vars line (guard s) s got ty value → guard (got.1) ≡ guard s
      guard-of got value come = ap (λ (u : State). guard u) come.reads.means.is

-- ---- assignments

pub assign-leads : (types : List TypeEntry) (vars : List VarEntry) (line : ℕ) (s : State) (v : VarId) (fields : List FieldId) (x : Rhs) (sort : Sort) →
    PathFits types vars (record { var = v; fields = fields }) sort → RhsFits types vars x sort →
    Leads types vars s (assigned types vars line v fields x s) (λ t end. EndsBy line (exec.assigned types t v fields x) end)
assign-leads types vars line s v [] x sort path fits =
    variable-leads types vars line s x sort fits v (λ t u fit fresh e. Step-keeps types vars t fit fresh (act.Assign (record { var = v; fields = [] }) x) u
    (sort, path, fits) e)
assign-leads types vars line s v (f ∷ fields) x sort path fits =
    let place = place-of types vars v (f ∷ fields) sort path in
    let (start, is) = step-leads types place.start f fields sort place.along in
    place-leads types vars line s x sort fits fields f (value_of s.values v, s) start (λ t. Ok (variable t v))
    (ap (λ k. sort_along types k (f ∷ fields)) (sym is) ∙ place.along)
    (come-variable types vars line (guard s) s v place.entry start place.known (place.coded ∙ ap (λ k. Some k) is))
    (λ t u fit fresh e. Step-keeps types vars t fit fresh (act.Assign (record { var = v; fields = f ∷ fields }) x) u (sort, path, fits) e)
