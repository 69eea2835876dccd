-- Each step of a whole run keeps it standing so, when no triple fails.
use Rattle.std.proofs.Common.{◌≡◌, inl, inr, ℕ, Bool, true, false, List, []}
use Rattle.std.proofs.Common.{◌∷◌, ◌++◌, map, Some, None, Result, Ok, Err, slice_get, if◌then◌else◌}
use Rattle.std.proofs.Common.{Option, IsSome, IsSomeAnd, is_some, refl, sym, ap, ◌∙◌, subst, arith}
use Rattle.std.specs.Ordering.{nat_cmp}
use Rattle.std.specs.FinMap.{FinMap, get}
use Rattle.std.proofs.lemmas.Bool.{false≢true}
use Rattle.std.specs.List.{AllByRecursion}
use Rattle.std.proofs.lemmas.List.Elements.{All-from_recursion}
use Rattle.store_core.specs.declared.ids.VarId.{VarId}
use Rattle.store_core.specs.declared.ids.CellId.{CellId}
use Rattle.store_core.specs.Tables.{TypeEntry, VarEntry}
use Rattle.store_core.specs.Stores.{StoreMap, CellEntry, IsFresh, cell_of, var_value}
use Rattle.routing_walks.specs.Regions.{store_on}
use Rattle.routing_walks.specs.WellFormed.{IsWellFormed}
use Rattle.routing_walks.proofs.FreshLemmas.{IsFresh-well_formed}
use Rattle.routing_walks.proofs.DecidedLemmas.{decided_in}
use Rattle.routing_walks.proofs.DecidedWalks.{decided_same_cell}
use Rattle.routing_walks.proofs.RegionLemmas.{store_on-IsOn}
use Rattle.store_logic.specs.declared.act.Act.{Act}
use Rattle.store_logic.specs.declared.assertion.Assertion.{Assertion}
use Rattle.store_logic.specs.declared.cond.Cond.{Cond}
use Rattle.store_logic.specs.Fits.{AssertionFits}
use Rattle.store_logic.proofs.ExpandingLists.{all-first, all-second, all-append}
use Rattle.store_exec.specs.declared.cause.Cause.{Cause}
use Rattle.store_exec.specs.declared.cause.Cause.TheVariants as cause
use Rattle.store_exec.specs.declared.code.Item.TheVariants as item
use Rattle.store_exec.specs.declared.triple.Cut.{Cut}
use Rattle.store_exec.specs.Steps.{truth_of}
use Rattle.store_exec.specs.Runs.{Ending, Does, RunsItems}
use Rattle.store_exec.specs.Restricted.{restricted}
use Rattle.store_exec.specs.Cuts.{AtCut, AreMet}
use Rattle.store_exec.specs.Failing.{StartHolds, IsBlank}
use Rattle.store_exec.specs.Fits.{ItemsFit}
use Rattle.store_exec.proofs.KeepLemmas.{IsWell, Step-keeps}
use Rattle.store_exec.proofs.RunLemmas.{RunsItem-Do}
use Rattle.pale_text.specs.declared.place.Pos.{Pos}
use Rattle.pale_typed.specs.declared.typed.CallParts.{CallParts}
use Rattle.pale_typed.specs.declared.typed.ProcEntry.{ProcEntry}
use Rattle.pale_typed.specs.declared.typed.Stmt.{Stmt, out-Stmt, roll-out-Stmt}
use Rattle.pale_typed.specs.declared.typed.Stmt.TheOpen.{Stmt-F}
use Rattle.pale_typed.specs.declared.typed.Stmt.TheFolds.{map-Stmt}
use Rattle.pale_typed.specs.TypedPrograms.{TypedProgram}
use Rattle.pale_typed.specs.Fitting.{ProcFits, StatementFits, StatementFitsNode, ProgramFits}
use Rattle.hoare_split.specs.Picking.{those, is_awaited, is_left}
use Rattle.hoare_split.specs.Settings.{setting, settings}
use Rattle.hoare_split.specs.Flows.{Flow, ends, branches}
use Rattle.hoare_split.specs.Cuts.{plain_cut, call_cut, at_assertion, at_call, at_exit}
use Rattle.hoare_split.specs.Starts.{plain_start, entry_start}
use Rattle.hoare_split.specs.Passages.{Passage}
use Rattle.hoare_split.specs.Statements.{rules, passage_of, block_of}
use Rattle.hoare_split.specs.Triples.{exit_of}
use Rattle.hoare_split.proofs.StatementLemmas.{passage-form}
use Rattle.hoare_split.proofs.PlainLemmas.{plain-block}
use Rattle.hoare_split.proofs.FittingVariableLemmas.{left-program, settings-fit}
use Rattle.hoare_split.proofs.FittingClaimLemmas.{call-settings}
use Rattle.whole_run.specs.States.{Waiting, exited, Turn, goes}
use Rattle.whole_run.specs.Handing.{handed_store, rest_store}
use Rattle.whole_run.specs.Turns.{from_ending, from_truth, on_with, Arrives, AfterSettings, Begins, TakesForm, Exits, Takes, behind_cut}
use Rattle.whole_run.specs.Leaving.{CameOf}
use Rattle.whole_run.specs.FlowRuns.{arrives}
use Rattle.whole_run.specs.Segments.{flow_left}
use Rattle.whole_run.proofs.SafeFlows.{IsSafe, BothSafe, safe-unless, safe-item, no-fault, safe-after, choice-safe}
use Rattle.whole_run.proofs.Moving.{IsKept, variable_below, act_moves, restricted_moves}
use Rattle.whole_run.proofs.Settings.{AreSet, set_all}
use Rattle.whole_run.proofs.CallLaws.{Laws}
use Rattle.whole_run.proofs.Blocks.{flow_front, starts_front, choice_starts, behind_flow, behind_starts, form_fits, behind_fits}
use Rattle.whole_run.proofs.Standing.{SafeFrom, IsGood, IsReady, IsCalled, Stands, stands_move, IsRunning, Holds, OnTurn}

-- the store arrives at a cut that has no cause
arrived : (types : List TypeEntry) (vars : List VarEntry) (s : StoreMap) (cut : Cut) (Next : StoreMap → Turn → Type 0) (turn : Turn) →
    AtCut types vars cut s None → Arrives types vars s cut Next turn → Next (restricted s) turn
arrived types vars s cut Next turn none (inl h) = h.1
arrived types vars s cut Next turn none (inr (why, first, is)) = absurd (none why first.here)

-- what is handed over has come of itself
handed_came : (r h : StoreMap) (cells : List CellId) → h.cells ≡ (store_on r cells).cells → h.next ≡ r.next → CameOf r cells h
handed_came r h cells same next = record {
  later = omega (arith, next);
  handed = λ c live less. elim (decided_in decided_same_cell cells c) [
    | inl m ↦ m
    | inr out ↦ absurd (dead (is_now c ∙ (store_on-IsOn r cells).outside c out) live)
  ];
  kept = λ c ty live less h. elim (decided_in decided_same_cell cells c) [
    | inl m ↦ subst (λ (o : Option CellEntry). IsSomeAnd o (λ cell. cell.variant.ty ≡ ty)) (sym (is_now c ∙ (store_on-IsOn r cells).inside c m)) h
    | inr out ↦ absurd (dead (is_now c ∙ (store_on-IsOn r cells).outside c out) live)
  ];
}
  where
    is_now : (c : CellId) → cell_of h c ≡ cell_of (store_on r cells) c
    is_now c = ap (λ (m : FinMap nat_cmp CellEntry). get m c.0) same

    dead : {o : Option CellEntry} → o ≡ None → IsSome o → ⊥
    dead none live = false≢true (sym (ap is_some none) ∙ live)

module _ (law : Laws) (program : TypedProgram) (fits : ProgramFits program) where
  abbrev types : List TypeEntry
  types = program.types

  abbrev procs : List ProcEntry
  procs = program.procs

  -- what is known of a procedure's triples
  pub record IsSound (entry : ProcEntry) : Type 0 where
    pub ready : IsReady program entry entry.proc.body
    pub safe : SafeFrom program entry.vars (entry_start entry.vars entry.proc) (flow_left program entry entry.proc.body)

  module _ (sound : (number : ℕ) (entry : ProcEntry) → slice_get procs number ≡ Some entry → IsSound entry) where
    well_of : (vars : List VarEntry) (s : StoreMap) → IsWellFormed types vars s → IsWell types vars s
    well_of vars s is = record { fits = is.fits; fresh = (IsFresh-well_formed types vars s is).1 }

    module _ (entry : ProcEntry) (waiting : List Waiting) where
      abbrev vars : List VarEntry
      vars = entry.vars

      abbrev exit : Flow
      exit = exit_of entry.vars entry.proc

      abbrev F : List Stmt → Flow
      F left = flow_left program entry left

      abbrev block : List Stmt → Passage
      block = block_of procs vars

      abbrev passage : Stmt → Passage
      passage = passage_of procs vars

      abbrev Fit : Stmt → Type 0
      Fit = StatementFits types procs vars

      abbrev Node : Stmt-F Stmt → Type 0
      Node = StatementFitsNode types procs vars Stmt (λ s. s) Fit

      abbrev Good : List Stmt → Type 0
      Good left = AllByRecursion (IsGood program vars) ((block left).starts exit)

      -- what is known of the next statement, by its form
      record IsNext (y : Stmt-F Stmt) (left : List Stmt) (s : StoreMap) : Type 0 where
        proc : ProcFits types procs entry
        own : Node y
        others : AllByRecursion Fit left
        starts : AllByRecursion (IsGood program vars) ((rules procs vars (map-Stmt Stmt Passage passage y)).starts (F left))
        behind : Good left
        well : IsWell types vars s
        stands : Stands program entry s waiting
        safe : IsSafe types vars ((rules procs vars (map-Stmt Stmt Passage passage y)).flow (F left)) s

      act_on : (line : ℕ) (a : Act) (left : List Stmt) (s : StoreMap) → IsNext (Stmt-F.Do line a) left s → (end : Ending) → Does types line s a end →
          (turn : Turn) → turn ≡ from_ending (on_with entry waiting left) end → OnTurn program turn
      act_on line a left s next (Ok t) did turn is = subst (OnTurn program) (sym is) (record {
        ready = record { proc = next.proc; statements = next.others; starts = next.behind };
        well = Step-keeps types vars s (next.well).fits (next.well).fresh a t next.own did;
        stands = stands_move program entry next.proc waiting s t (next.well).fresh (act_moves types vars s t a (next.well).fresh next.own did) next.stands;
        safe = safe-item types vars (item.Do line a) (F left) s t next.safe ((RunsItem-Do types line a s (Ok t)).1 did);
      })
      act_on line a left s next (Err fault) did turn is =
          absurd (no-fault types vars (item.Do line a) (F left) s fault next.safe ((RunsItem-Do types line a s (Err fault)).1 did))

      -- one of the blocks of an `if`
      into : (xs left : List Stmt) (s : StoreMap) → ProcFits types procs entry → AllByRecursion Fit xs → AllByRecursion Fit left →
          AllByRecursion (IsGood program vars) ((block xs).starts (F left)) → Good left → IsWell types vars s → Stands program entry s waiting →
          IsSafe types vars ((block xs).flow (F left)) s → Holds program (on_with entry waiting (xs ++ left) s)
      into xs left s proc one others starts behind well stands safe = record {
        ready = record {
          proc = proc;
          statements = all-append Fit xs left one others;
          starts = starts_front procs vars (IsGood program vars) xs left exit starts behind;
        };
        well = well;
        stands = stands;
        safe = subst (λ f. IsSafe types vars f s) (sym (flow_front procs vars xs left exit)) safe;
      }

      if_on : (line : ℕ) (c : Cond) (first other left : List Stmt) (s : StoreMap) → IsNext (Stmt-F.If line c first other) left s → (turn : Turn) →
          turn ≡ from_truth line (λ truth. on_with entry waiting ((if truth then first else other) ++ left) s) (truth_of s c) → OnTurn program turn
      if_on line c first other left s next turn is =
          subst (OnTurn program) (sym is) (by (truth_of s c)
          (choice-safe types vars line c (block first) (block other) (F left) s (plain-block procs vars first) (plain-block procs vars other) next.safe))
        where
          parts : AllByRecursion (IsGood program vars) ((block first).starts (F left)) × AllByRecursion (IsGood program vars) ((block other).starts (F left))
          parts = choice_starts procs vars (IsGood program vars) line c (block first) (block other) (F left) (plain-block procs vars first)
              (plain-block procs vars other) next.starts

          by : (r : Result Bool Cause) → BothSafe types vars ((block first).flow (F left)) ((block other).flow (F left)) s r →
              OnTurn program (from_truth line (λ truth. on_with entry waiting ((if truth then first else other) ++ left) s) r)
          by (Ok true) safe = into first left s next.proc next.own.1 next.others parts.0 next.behind next.well next.stands safe
          by (Ok false) safe = into other left s next.proc next.own.2 next.others parts.1 next.behind next.well next.stands safe
          by (Err why) safe = safe

      -- from a cut that has no cause, with an assertion that is met there
      plain_safe : (line : ℕ) (a : Assertion) (s : StoreMap) (flow : Flow) → AssertionFits types vars a → IsWell types vars s →
          AtCut types vars (plain_cut line a) s None → SafeFrom program vars (plain_start a) flow → IsSafe types vars flow (restricted s)
      plain_safe line a s flow known well none from = safe-unless types vars flow (restricted s) (none cause.Post) (λ met.
          from (restricted s) (law.cut types vars (plain_cut line a) s well.fits none) (record {
            nulls = All-from_recursion (λ v. IsSomeAnd (var_value (restricted s) v) IsBlank) [] tt;
            pointers = tt;
            claims = law.met types vars s a known met;
          }))

      -- the store from there on
      well_from : (cut : Cut) (s : StoreMap) → IsWell types vars s → AtCut types vars cut s None → IsWell types vars (restricted s)
      well_from cut s well none = well_of vars (restricted s) (law.cut types vars cut s well.fits none)

      stands_from : (s : StoreMap) → ProcFits types procs entry → IsWell types vars s → Stands program entry s waiting →
          Stands program entry (restricted s) waiting
      stands_from s proc well stands = stands_move program entry proc waiting s (restricted s) well.fresh (restricted_moves vars s) stands

      while_on : (place : Pos) (c : Cond) (invariant : Assertion) (body left : List Stmt) (s : StoreMap) →
          IsNext (Stmt-F.While place c invariant body) left s → (turn : Turn) →
          Arrives types vars s (plain_cut place.line invariant)
          (λ t after. after ≡ goes (on_with entry waiting (behind_cut place c invariant body ∷ left) t)) turn → OnTurn program turn
      while_on place c invariant body left s next turn arrives_there =
          let none : AtCut types vars (plain_cut place.line invariant) s None = next.safe (arrives (at_assertion place invariant) s) refl in
          let is = arrived types vars s (plain_cut place.line invariant)
          (λ t after. after ≡ goes (on_with entry waiting (behind_cut place c invariant body ∷ left) t)) turn none arrives_there in
          subst (OnTurn program) (sym is) (record {
            ready = record {
              proc = next.proc;
              statements = (behind_fits types procs vars place c invariant body next.own, next.others);
              starts = all-append (IsGood program vars) ((passage (behind_cut place c invariant body)).starts (F left)) ((block left).starts exit)
                  (behind_starts procs vars place c invariant body (IsGood program vars) (F left) next.starts) next.behind;
            };
            well = well_from (plain_cut place.line invariant) s next.well none;
            stands = stands_from s next.proc next.well next.stands;
            safe = subst (λ f. IsSafe types vars f (restricted s)) (sym (behind_flow procs vars place c invariant body (F left)))
                (plain_safe place.line invariant s (branches place.line c ((block body).flow (ends (at_assertion place invariant))) (F left)) next.own.1
                next.well none next.starts.0);
          })

      split_on : (place : Pos) (a : Assertion) (left : List Stmt) (s : StoreMap) → IsNext (Stmt-F.Split place a) left s → (turn : Turn) →
          Arrives types vars s (plain_cut place.line a) (λ t after. after ≡ goes (on_with entry waiting left t)) turn → OnTurn program turn
      split_on place a left s next turn arrives_there =
          let none : AtCut types vars (plain_cut place.line a) s None = next.safe (arrives (at_assertion place a) s) refl in
          let is = arrived types vars s (plain_cut place.line a) (λ t after. after ≡ goes (on_with entry waiting left t)) turn none arrives_there in
          subst (OnTurn program) (sym is) (record {
            ready = record { proc = next.proc; statements = next.others; starts = next.behind };
            well = well_from (plain_cut place.line a) s next.well none;
            stands = stands_from s next.proc next.well next.stands;
            safe = plain_safe place.line a s (F left) next.own next.well none next.starts.0;
          })

      -- settings before a cut keep the procedure standing
      set_on : (line : ℕ) (vs : List VarId) (s u : StoreMap) → ProcFits types procs entry → IsWell types vars s →
          ItemsFit types vars (map (setting vars line) vs) → RunsItems types (map (setting vars line) vs) s (Ok u) → Stands program entry s waiting →
          AreSet types vars (λ z. Stands program entry z waiting) s u vs
      set_on line vs s u proc well fit ran stands = set_all types vars (λ z. Stands program entry z waiting)
          (λ x y fresh moves h. stands_move program entry proc waiting x y fresh moves h) line vs s u well fit ran stands

      all_kept : (h : StoreMap) → IsFresh h → (vs : List VarId) → AllByRecursion (IsKept h h) vs
      all_kept h fresh [] = tt
      all_kept h fresh (v ∷ vs) = ((variable_below h fresh v, refl), all_kept h fresh vs)

      call_on : (place : Pos) (call : CallParts) (left : List Stmt) (s : StoreMap) → IsNext (Stmt-F.Call place call) left s → (turn : Turn) →
          AfterSettings types (settings vars (is_awaited call) place.line) s (λ u.
          Arrives types vars u (call_cut procs vars place.line call)
          (λ t after. Begins program call (record { entry = entry; store = t; left = left }) waiting after) turn) → OnTurn program turn
      call_on place call left s next turn (u, ran, arrives_there) = subst (OnTurn program) (sym begins.4) (record {
        ready = own.ready;
        well = well_of callee.vars h handed.0;
        stands = (u, cells, called, stands_from u next.proc set.well set.kept);
        safe = safe-unless types callee.vars (flow_left program callee callee.proc.body) h (none cause.Post) (λ met. own.safe h handed.0 (handed.1 met));
      })
        where
          set : AreSet types vars (λ z. Stands program entry z waiting) s u (those (is_awaited call) vars)
          set = set_on place.line (those (is_awaited call) vars) s u next.proc next.well
              (call-settings law.puts types procs fits.procs vars call next.own place.line) ran next.stands

          none : AtCut types vars (call_cut procs vars place.line call) u None
          none = safe-after types vars (settings vars (is_awaited call) place.line) (ends (at_call procs vars place call)) s u next.safe ran
              (arrives (at_call procs vars place call) u) refl

          begins : Begins program call (record { entry = entry; store = restricted u; left = left }) waiting turn
          begins = arrived types vars u (call_cut procs vars place.line call)
              (λ t after. Begins program call (record { entry = entry; store = t; left = left }) waiting after) turn none arrives_there

          callee : ProcEntry
          callee = begins.0

          cells : List CellId
          cells = begins.1

          h : StoreMap
          h = handed_store callee call (restricted u) cells

          own : IsSound callee
          own = sound call.callee callee begins.2

          handed : IsWellFormed types callee.vars h
              × (AreMet types vars u (call_cut procs vars place.line call).asserts → StartHolds types callee.vars (entry_start callee.vars callee.proc) h)
          handed = law.handed program vars callee call place.line u cells fits next.own begins.2 (set.well).fits none begins.3

          called : IsCalled program callee h
              (record { call = call; caller = record { entry = entry; store = rest_store (restricted u) cells; left = left } }) u cells
          called = record {
            line = place.line;
            there = begins.2;
            call_fits = next.own;
            fits = (set.well).fits;
            none = none;
            awaits = All-from_recursion (λ v. IsSomeAnd (var_value u v) IsBlank) (those (is_awaited call) vars) set.own;
            part = begins.3;
            rest = refl;
            came = handed_came (restricted u) h cells refl refl;
            kept = all_kept h (IsFresh-well_formed types callee.vars h handed.0).1 callee.proc.logics;
            ready = record { proc = next.proc; statements = next.others; starts = next.behind };
            safe = next.starts.0;
          }

      exit_on : (s : StoreMap) → ProcFits types procs entry → IsWell types vars s → Stands program entry s waiting → IsSafe types vars exit s →
          (turn : Turn) → Exits program entry waiting s turn → OnTurn program turn
      exit_on s proc well stands safe turn (u, ran, arrives_there) =
          let set = set_on entry.proc.last (those (is_left entry.proc) vars) s u proc well
          (settings-fit types vars (is_left entry.proc) entry.proc.last (left-program vars entry.proc)) ran stands in
          let none : AtCut types vars (plain_cut entry.proc.last entry.proc.post) u None =
          safe-after types vars (settings vars (is_left entry.proc) entry.proc.last) (ends (at_exit entry.proc.last entry.proc.post)) s u safe ran
          (arrives (at_exit entry.proc.last entry.proc.post) u) refl in
          let is = arrived types vars u (plain_cut entry.proc.last entry.proc.post) (λ t after. after ≡ goes (exited t waiting)) turn none arrives_there in
          subst (OnTurn program) (sym is) (
            entry,
            u,
            record {
              proc = proc;
              is = refl;
              fits = (set.well).fits;
              none = none;
              leaves = All-from_recursion (λ v. IsSomeAnd (var_value u v) IsBlank) (those (is_left entry.proc) vars) set.own;
              stands = set.kept;
            },
          )

      form_on : (y : Stmt-F Stmt) (left : List Stmt) (s : StoreMap) (Later : Turn → Type 0) (turn : Turn) → IsNext y left s →
          (IsSafe types vars (F left) s → Later turn → OnTurn program turn) → TakesForm program entry waiting s left Later y turn → OnTurn program turn
      form_on Stmt-F.Skip left s Later turn next later k = later next.safe k
      form_on (Stmt-F.Do line a) left s Later turn next later k = act_on line a left s next k.0 k.1 turn k.2
      form_on (Stmt-F.If line c first other) left s Later turn next later k = if_on line c first other left s next turn k
      form_on (Stmt-F.While place c invariant body) left s Later turn next later k = while_on place c invariant body left s next turn k
      form_on (Stmt-F.Split place a) left s Later turn next later k = split_on place a left s next turn k
      form_on (Stmt-F.Call place call) left s Later turn next later k = call_on place call left s next turn k

      -- one step of a procedure
      pub takes_on : (left : List Stmt) (s : StoreMap) (turn : Turn) → IsRunning program entry waiting left s → Takes program entry waiting s left turn →
          OnTurn program turn
      takes_on [] s turn running k = exit_on s (running.ready).proc running.well running.stands running.safe turn k
      takes_on (x ∷ left) s turn running k =
          form_on (out-Stmt x) left s (Takes program entry waiting s left) turn next
          (λ safe later. takes_on left s turn (record {
            ready = record { proc = next.proc; statements = next.others; starts = next.behind };
            well = next.well;
            stands = next.stands;
            safe = safe;
          }) later) k
        where
          is : passage x ≡ rules procs vars (map-Stmt Stmt Passage passage (out-Stmt x))
          is = passage-form procs vars x (out-Stmt x) (sym (roll-out-Stmt x))

          next : IsNext (out-Stmt x) left s
          next = record {
            proc = (running.ready).proc;
            own = form_fits types procs vars x (running.ready).statements.0;
            others = (running.ready).statements.1;
            starts = subst (λ (p : Passage). AllByRecursion (IsGood program vars) (p.starts (F left))) is
                (all-first (IsGood program vars) ((passage x).starts (F left)) ((block left).starts exit) (running.ready).starts);
            behind = all-second (IsGood program vars) ((passage x).starts (F left)) ((block left).starts exit) (running.ready).starts;
            well = running.well;
            stands = running.stands;
            safe = subst (λ (p : Passage). IsSafe types vars (p.flow (F left)) s) is running.safe;
          }
