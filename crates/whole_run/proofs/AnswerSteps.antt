-- Each step of a whole run keeps it standing.
use Rattle.std.proofs.Common.{◌≡◌, ◌+◌, ◌≤◌, inl, inr, ℕ, Bool, true, false, List, [], ◌∷◌, ◌++◌, map, None, Result, Ok, Err}
use Rattle.std.proofs.Common.{Option, IsSome, IsSomeAnd, is_some, if◌then◌else◌, refl, sym, ap, ◌∙◌, subst, arith}
use Rattle.std.specs.Ordering.{nat_cmp}
use Rattle.std.specs.FinMap.{FinMap, get}
use Rattle.std.proofs.lemmas.Bool.{false≢true}
use Rattle.std.specs.List.{AllByRecursion}
use Rattle.std.proofs.lemmas.List.Elements.{All-from_recursion}
use Rattle.store_core.specs.declared.ids.VarId.{VarId}
use Rattle.store_core.specs.declared.ids.CellId.{CellId}
use Rattle.store_core.specs.Tables.{TypeEntry, VarEntry}
use Rattle.store_core.specs.Stores.{StoreMap, CellEntry, cell_of, var_value}
use Rattle.routing_walks.specs.Regions.{store_on}
use Rattle.routing_walks.specs.WellFormed.{IsWellFormed}
use Rattle.routing_walks.proofs.FreshLemmas.{IsFresh-well_formed}
use Rattle.routing_walks.proofs.DecidedLemmas.{decided_in}
use Rattle.routing_walks.proofs.DecidedWalks.{decided_same_cell}
use Rattle.routing_walks.proofs.RegionLemmas.{store_on-IsOn}
use Rattle.store_logic.specs.declared.act.Act.{Act}
use Rattle.store_logic.specs.declared.act.Act.TheVariants as act
use Rattle.store_logic.specs.declared.act.Rhs.{Rhs}
use Rattle.store_logic.specs.declared.act.Rhs.TheVariants as rhs
use Rattle.store_logic.specs.declared.assertion.Assertion.{Assertion}
use Rattle.store_logic.specs.declared.cond.Cond.{Cond}
use Rattle.store_logic.proofs.ExpandingLists.{all-append}
use Rattle.store_exec.specs.declared.cause.Cause.{Cause}
use Rattle.store_exec.specs.declared.triple.Cut.{Cut}
use Rattle.store_exec.specs.Steps.{truth_of}
use Rattle.store_exec.specs.Runs.{Ending, Does, RunsItems}
use Rattle.store_exec.specs.Restricted.{restricted}
use Rattle.store_exec.specs.Cuts.{AtCut, AreMet}
use Rattle.store_exec.specs.Failing.{StartHolds, IsBlank}
use Rattle.store_exec.specs.Fits.{ItemsFit, news_of_act, news_of_rhs}
use Rattle.store_exec.proofs.KeepLemmas.{IsWell, Step-keeps}
use Rattle.store_exec.proofs.GoingLemmas.{Step-next}
use Rattle.store_exec.proofs.ItemsKeepLemmas.{items-keep}
use Rattle.store_exec.proofs.RestrictedLemmas.{well_formed-at_cut}
use Rattle.pale_text.specs.declared.place.Pos.{Pos}
use Rattle.pale_typed.specs.declared.typed.CallParts.{CallParts}
use Rattle.pale_typed.specs.declared.typed.ProcEntry.{ProcEntry}
use Rattle.pale_typed.specs.declared.typed.Stmt.{Stmt, out-Stmt}
use Rattle.pale_typed.specs.declared.typed.Stmt.TheOpen.{Stmt-F}
use Rattle.pale_typed.specs.TypedPrograms.{TypedProgram}
use Rattle.pale_typed.specs.Fitting.{ProcFits, StatementFits, StatementFitsNode, ProgramFits}
use Rattle.hoare_split.specs.Picking.{those, is_awaited, is_left}
use Rattle.hoare_split.specs.Settings.{setting, settings}
use Rattle.hoare_split.specs.Cuts.{plain_cut, call_cut}
use Rattle.hoare_split.specs.Starts.{entry_start}
use Rattle.hoare_split.proofs.FittingVariableLemmas.{all-at, left-program, settings-fit}
use Rattle.hoare_split.proofs.FittingClaimLemmas.{call-settings}
use Rattle.whole_run.specs.States.{Waiting, exited, Turn, goes, fails}
use Rattle.whole_run.specs.Handing.{handed_store, rest_store}
use Rattle.whole_run.specs.Turns.{from_ending, from_truth, on_with, Arrives, AfterSettings, Begins, TakesForm, Exits, Takes, behind_cut}
use Rattle.whole_run.specs.Leaving.{CameOf}
use Rattle.whole_run.proofs.Moving.{Moves, act_moves, restricted_moves}
use Rattle.whole_run.proofs.Settings.{AreSet, set_all}
use Rattle.whole_run.proofs.Blocks.{form_fits, behind_fits}
use Rattle.whole_run.proofs.AnswerLaws.{Laws}
use Rattle.whole_run.proofs.AnswerSettings.{news_none}
use Rattle.whole_run.proofs.AnswerStanding.{IsCalled, Stands, stands_move, IsRunning, OnTurn}

-- an act makes one cell at most
none_few : 0 ≤ 1
none_few = omega arith

one_few : 1 ≤ 1
one_few = omega arith

few_news : (x : Rhs) → news_of_rhs x ≤ 1
few_news (rhs.Cell p) = none_few
few_news (rhs.New v) = one_few
few_news (rhs.Truth c) = none_few

pub one_new : (a : Act) → news_of_act a ≤ 1
one_new (act.Assign p x) = few_news x
one_new (act.Free v) = none_few
one_new (act.Assert a) = none_few

one_more : (n : ℕ) → n ≤ n + 1
one_more n = omega arith

-- what is handed over has come of itself
handed_came : (r h : StoreMap) (cells : List CellId) → h.cells ≡ (store_on r cells).cells → h.next ≡ r.next → CameOf r cells h
handed_came r h cells same next = record {
  later = omega (arith, next);
  handed = λ c live less. elim (decided_in decided_same_cell cells c) [
    | inl m ↦ m
    | inr out ↦ absurd (dead (is_now c ∙ (store_on-IsOn r cells).outside c out) live)
  ];
  kept = λ c ty live less h. elim (decided_in decided_same_cell cells c) [
    | inl m ↦ subst (λ (o : Option CellEntry). IsSomeAnd o (λ cell. cell.variant.ty ≡ ty)) (sym (is_now c ∙ (store_on-IsOn r cells).inside c m)) h
    | inr out ↦ absurd (dead (is_now c ∙ (store_on-IsOn r cells).outside c out) live)
  ];
}
  where
    is_now : (c : CellId) → cell_of h c ≡ cell_of (store_on r cells) c
    is_now c = ap (λ (m : FinMap nat_cmp CellEntry). get m c.0) same

    dead : {o : Option CellEntry} → o ≡ None → IsSome o → ⊥
    dead none live = false≢true (sym (ap is_some none) ∙ live)

module _ (law : Laws) (program : TypedProgram) (fits : ProgramFits program) where
  abbrev types : List TypeEntry
  types = program.types

  abbrev procs : List ProcEntry
  procs = program.procs

  fails_on : (most : ℕ) (why : Cause) (line : ℕ) (turn : Turn) → turn ≡ fails why line → OnTurn program most turn
  fails_on most why line turn is = subst (OnTurn program most) (sym is) tt

  -- where the store arrives at a cut, the run goes on from there or fails
  arrives_on : (vars : List VarEntry) (s : StoreMap) (cut : Cut) (Next : StoreMap → Turn → Type 0) (most : ℕ) (turn : Turn) →
      (AtCut types vars cut s None → Next (restricted s) turn → OnTurn program most turn) → Arrives types vars s cut Next turn → OnTurn program most turn
  arrives_on vars s cut Next most turn on (inl (none, next)) = on none next
  arrives_on vars s cut Next most turn on (inr (why, first, is)) = fails_on most why cut.line turn is

  well_of : (vars : List VarEntry) (s : StoreMap) → IsWellFormed types vars s → IsWell types vars s
  well_of vars s is = record { fits = is.fits; fresh = (IsFresh-well_formed types vars s is).1 }

  -- the store from a cut on
  well_from : (vars : List VarEntry) (cut : Cut) (s : StoreMap) → IsWell types vars s → AtCut types vars cut s None → IsWell types vars (restricted s)
  well_from vars cut s well none = well_of vars (restricted s) (well_formed-at_cut types vars s well.fits cut none)

  module _ (entry : ProcEntry) (waiting : List Waiting) where
    abbrev vars : List VarEntry
    vars = entry.vars

    abbrev Fit : Stmt → Type 0
    Fit = StatementFits types procs vars

    abbrev Node : Stmt-F Stmt → Type 0
    Node = StatementFitsNode types procs vars Stmt (λ s. s) Fit

    -- what is known of the next statement, by its form
    record IsNext (y : Stmt-F Stmt) (left : List Stmt) (s : StoreMap) : Type 0 where
      proc : ProcFits types procs entry
      own : Node y
      others : AllByRecursion Fit left
      well : IsWell types vars s
      stands : Stands program entry s waiting

    running : (left : List Stmt) (s t : StoreMap) → ProcFits types procs entry → AllByRecursion Fit left → IsWell types vars t → Moves vars s t →
        Stands program entry s waiting → IsRunning program entry waiting left t
    running left s t proc all well moves stands = record {
      fitting = record { proc = proc; statements = all };
      well = well;
      stands = stands_move program entry waiting s t moves stands;
    }

    act_on : (line : ℕ) (a : Act) (left : List Stmt) (s : StoreMap) → IsNext (Stmt-F.Do line a) left s → (end : Ending) → Does types line s a end →
        (turn : Turn) → turn ≡ from_ending (on_with entry waiting left) end → OnTurn program (s.next + 1) turn
    act_on line a left s next (Ok t) did turn is = subst (OnTurn program (s.next + 1)) (sym is) (
      running left s t next.proc next.others (Step-keeps types vars s (next.well).fits (next.well).fresh a t next.own did)
          (act_moves types vars s t a (next.well).fresh next.own did) next.stands,
      (let bound = Step-next types s a t did in let few = one_new a in let most : t.next ≤ s.next + 1 = omega (arith, bound, few) in most),
    )
    act_on line a left s next (Err fault) did turn is = fails_on (s.next + 1) fault.cause fault.line turn is

    -- one of the blocks of an `if`
    into : (xs left : List Stmt) (s : StoreMap) → ProcFits types procs entry → AllByRecursion Fit xs → AllByRecursion Fit left → IsWell types vars s →
        Stands program entry s waiting → OnTurn program (s.next + 1) (goes (on_with entry waiting (xs ++ left) s))
    into xs left s proc one others well stands = (
      record { fitting = record { proc = proc; statements = all-append Fit xs left one others }; well = well; stands = stands },
      one_more s.next,
    )

    if_on : (line : ℕ) (c : Cond) (first other left : List Stmt) (s : StoreMap) → IsNext (Stmt-F.If line c first other) left s → (turn : Turn) →
        turn ≡ from_truth line (λ truth. on_with entry waiting ((if truth then first else other) ++ left) s) (truth_of s c) →
        OnTurn program (s.next + 1) turn
    if_on line c first other left s next turn is = subst (OnTurn program (s.next + 1)) (sym is) (by (truth_of s c))
      where
        by : (r : Result Bool Cause) →
            OnTurn program (s.next + 1) (from_truth line (λ truth. on_with entry waiting ((if truth then first else other) ++ left) s) r)
        by (Ok true) = into first left s next.proc next.own.1 next.others next.well next.stands
        by (Ok false) = into other left s next.proc next.own.2 next.others next.well next.stands
        by (Err why) = tt

    -- on behind a cut
    on_behind : (cut : Cut) (left : List Stmt) (s : StoreMap) → ProcFits types procs entry → AllByRecursion Fit left → IsWell types vars s →
        Stands program entry s waiting → AtCut types vars cut s None → (turn : Turn) → turn ≡ goes (on_with entry waiting left (restricted s)) →
        OnTurn program (s.next + 1) turn
    on_behind cut left s proc all well stands none turn is = subst (OnTurn program (s.next + 1)) (sym is)
        (running left s (restricted s) proc all (well_from vars cut s well none) (restricted_moves vars s) stands, one_more s.next)

    while_on : (place : Pos) (c : Cond) (invariant : Assertion) (body left : List Stmt) (s : StoreMap) →
        IsNext (Stmt-F.While place c invariant body) left s → (turn : Turn) →
        Arrives types vars s (plain_cut place.line invariant)
        (λ t after. after ≡ goes (on_with entry waiting (behind_cut place c invariant body ∷ left) t)) turn → OnTurn program (s.next + 1) turn
    while_on place c invariant body left s next turn k = arrives_on vars s (plain_cut place.line invariant)
        (λ t after. after ≡ goes (on_with entry waiting (behind_cut place c invariant body ∷ left) t)) (s.next + 1) turn
        (λ none is. on_behind (plain_cut place.line invariant) (behind_cut place c invariant body ∷ left) s next.proc
        (behind_fits types procs vars place c invariant body next.own, next.others) next.well next.stands none turn is) k

    split_on : (place : Pos) (a : Assertion) (left : List Stmt) (s : StoreMap) → IsNext (Stmt-F.Split place a) left s → (turn : Turn) →
        Arrives types vars s (plain_cut place.line a) (λ t after. after ≡ goes (on_with entry waiting left t)) turn → OnTurn program (s.next + 1) turn
    split_on place a left s next turn k = arrives_on vars s (plain_cut place.line a) (λ t after. after ≡ goes (on_with entry waiting left t))
        (s.next + 1) turn (λ none is. on_behind (plain_cut place.line a) left s next.proc next.others next.well next.stands none turn is) k

    -- settings before a cut keep the procedure standing
    set_on : (line : ℕ) (vs : List VarId) (s u : StoreMap) → IsWell types vars s →
        ItemsFit types vars (map (setting vars line) vs) → RunsItems types (map (setting vars line) vs) s (Ok u) → Stands program entry s waiting →
        AreSet types vars (λ z. Stands program entry z waiting) s u vs
    set_on line vs s u well fit ran stands = set_all types vars (λ z. Stands program entry z waiting)
        (λ x y fresh moves h. stands_move program entry waiting x y moves h) line vs s u well fit ran stands

    -- and make no cell
    set_next : (line : ℕ) (vs : List VarId) (s u : StoreMap) → IsWell types vars s →
        ItemsFit types vars (map (setting vars line) vs) → RunsItems types (map (setting vars line) vs) s (Ok u) → u.next ≤ s.next
    set_next line vs s u well fit ran =
        let after = items-keep types vars (map (setting vars line) vs) s u well fit ran in
        let bound = after.next in let none = news_none vars line vs in omega (arith, bound, none)

    call_on : (place : Pos) (call : CallParts) (left : List Stmt) (s : StoreMap) → IsNext (Stmt-F.Call place call) left s → (turn : Turn) →
        AfterSettings types (settings vars (is_awaited call) place.line) s (λ u.
        Arrives types vars u (call_cut procs vars place.line call)
        (λ t after. Begins program call (record { entry = entry; store = t; left = left }) waiting after) turn) → OnTurn program (s.next + 1) turn
    call_on place call left s next turn (u, ran, k) = arrives_on vars u (call_cut procs vars place.line call)
        (λ t after. Begins program call (record { entry = entry; store = t; left = left }) waiting after) (s.next + 1) turn begun k
      where
        fit : ItemsFit types vars (settings vars (is_awaited call) place.line)
        fit = call-settings law.puts types procs fits.procs vars call next.own place.line

        set : AreSet types vars (λ z. Stands program entry z waiting) s u (those (is_awaited call) vars)
        set = set_on place.line (those (is_awaited call) vars) s u next.well fit ran next.stands

        low : u.next ≤ s.next
        low = set_next place.line (those (is_awaited call) vars) s u next.well fit ran

        begun : AtCut types vars (call_cut procs vars place.line call) u None →
            Begins program call (record { entry = entry; store = restricted u; left = left }) waiting turn → OnTurn program (s.next + 1) turn
        begun none (callee, cells, there, part, is) = subst (OnTurn program (s.next + 1)) (sym is) (
          record {
            fitting = record { proc = callee_fits; statements = callee_fits.body };
            well = well_of callee.vars h handed.0;
            stands = (u, cells, called, stands_move program entry waiting u (restricted u) (restricted_moves vars u) set.kept);
          },
          (let most : u.next ≤ s.next + 1 = omega (arith, low) in most),
        )
          where
            h : StoreMap
            h = handed_store callee call (restricted u) cells

            callee_fits : ProcFits types procs callee
            callee_fits = all-at (ProcFits types procs) procs call.callee callee fits.procs there

            handed : IsWellFormed types callee.vars h
                × (AreMet types vars u (call_cut procs vars place.line call).asserts → StartHolds types callee.vars (entry_start callee.vars callee.proc) h)
            handed = law.handed program vars callee call place.line u cells fits next.own there (set.well).fits none part

            called : IsCalled program callee h
                (record { call = call; caller = record { entry = entry; store = rest_store (restricted u) cells; left = left } }) u cells
            called = record {
              line = place.line;
              there = there;
              call_fits = next.own;
              fits = (set.well).fits;
              none = none;
              awaits = All-from_recursion (λ v. IsSomeAnd (var_value u v) IsBlank) (those (is_awaited call) vars) set.own;
              part = part;
              rest = refl;
              came = handed_came (restricted u) h cells refl refl;
              fitting = record { proc = next.proc; statements = next.others };
            }

    exit_on : (s : StoreMap) → ProcFits types procs entry → IsWell types vars s → Stands program entry s waiting → (turn : Turn) →
        Exits program entry waiting s turn → OnTurn program (s.next + 1) turn
    exit_on s proc well stands turn (u, ran, k) = arrives_on vars u (plain_cut entry.proc.last entry.proc.post)
        (λ t after. after ≡ goes (exited t waiting)) (s.next + 1) turn (λ none is. subst (OnTurn program (s.next + 1)) (sym is) (
          (
            entry,
            u,
            record {
              proc = proc;
              is = refl;
              fits = (set.well).fits;
              none = none;
              leaves = All-from_recursion (λ v. IsSomeAnd (var_value u v) IsBlank) (those (is_left entry.proc) vars) set.own;
              stands = set.kept;
            },
          ),
          (let most : u.next ≤ s.next + 1 = omega (arith, low) in most),
        )) k
      where
        fit : ItemsFit types vars (settings vars (is_left entry.proc) entry.proc.last)
        fit = settings-fit types vars (is_left entry.proc) entry.proc.last (left-program vars entry.proc)

        set : AreSet types vars (λ z. Stands program entry z waiting) s u (those (is_left entry.proc) vars)
        set = set_on entry.proc.last (those (is_left entry.proc) vars) s u well fit ran stands

        low : u.next ≤ s.next
        low = set_next entry.proc.last (those (is_left entry.proc) vars) s u well fit ran

    form_on : (y : Stmt-F Stmt) (left : List Stmt) (s : StoreMap) (Later : Turn → Type 0) (turn : Turn) → IsNext y left s →
        (Later turn → OnTurn program (s.next + 1) turn) → TakesForm program entry waiting s left Later y turn → OnTurn program (s.next + 1) turn
    form_on Stmt-F.Skip left s Later turn next later k = later k
    form_on (Stmt-F.Do line a) left s Later turn next later k = act_on line a left s next k.0 k.1 turn k.2
    form_on (Stmt-F.If line c first other) left s Later turn next later k = if_on line c first other left s next turn k
    form_on (Stmt-F.While place c invariant body) left s Later turn next later k = while_on place c invariant body left s next turn k
    form_on (Stmt-F.Split place a) left s Later turn next later k = split_on place a left s next turn k
    form_on (Stmt-F.Call place call) left s Later turn next later k = call_on place call left s next turn k

    -- one step of a procedure
    pub takes_on : (left : List Stmt) (s : StoreMap) (turn : Turn) → IsRunning program entry waiting left s → Takes program entry waiting s left turn →
        OnTurn program (s.next + 1) turn
    takes_on [] s turn stand k = exit_on s (stand.fitting).proc stand.well stand.stands turn k
    takes_on (x ∷ left) s turn stand k =
        form_on (out-Stmt x) left s (Takes program entry waiting s left) turn next
        (λ later. takes_on left s turn (record {
          fitting = record { proc = next.proc; statements = next.others };
          well = next.well;
          stands = next.stands;
        }) later) k
      where
        next : IsNext (out-Stmt x) left s
        next = record {
          proc = (stand.fitting).proc;
          own = form_fits types procs vars x (stand.fitting).statements.0;
          others = (stand.fitting).statements.1;
          well = stand.well;
          stands = stand.stands;
        }
