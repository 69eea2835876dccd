-- The store that is handed to a callee meets its entry, where the claims of the call's cut are met.
use Rattle.std.proofs.Common.{◌≡◌, ◌↔◌, ◌==◌, inl, inr, ℕ, Bool, true, false, cond, not, IsTrue, ◌||◌, List, [], ◌∷◌, ◌++◌, map, filter, slice_get}
use Rattle.std.proofs.Common.{Option, Some, None, IsSomeAnd, IfSome, Contains, if◌then◌else◌, unwrap_or, is_some, refl, sym, ap, ap₂, ◌∙◌, subst, arith}
use Rattle.std.specs.Prelude.{option_map}
use Rattle.std.specs.List.{AllByRecursion, AllZip, AllPairs, find}
use Rattle.std.specs.Option.{option_map_or}
use Rattle.std.proofs.lemmas.Bool.{false≢true}
use Rattle.std.proofs.lemmas.Option.{slice_get-map}
use Rattle.std.proofs.lemmas.List.{map-append}
use Rattle.std.proofs.lemmas.List.Elements.{All-from_recursion, recursion_from_All}
use Rattle.store_core.specs.declared.ids.VarId.{VarId}
use Rattle.store_core.specs.declared.ids.CellId.{CellId}
use Rattle.store_core.specs.declared.kind.VarKind.{VarKind}
use Rattle.store_core.specs.declared.kind.VarKind.TheVariants as var
use Rattle.store_core.specs.declared.value.Value.{Value}
use Rattle.store_core.specs.declared.value.Value.TheVariants as value
use Rattle.store_core.specs.Tables.{TypeEntry, VarEntry, var_at}
use Rattle.store_core.specs.Stores.{StoreMap, IsLive, Fits, cell_of, var_value, blank, var_class}
use Rattle.store_core.proofs.FittingLemmas.{IfSome-from, IfSome-at}
use Rattle.routing_walks.specs.declared.fault.Place.TheVariants as place
use Rattle.routing_walks.specs.Walks.{IsParent, Chain, stay, go}
use Rattle.routing_walks.specs.Regions.{has_number, store_on, IsReachedFrom, IsPart}
use Rattle.routing_walks.specs.WellFormed.{Names, IsWellFormed}
use Rattle.routing_walks.specs.Pieces.{value_on}
use Rattle.routing_walks.proofs.DecidedLemmas.{in_none, in_rest, in_cases}
use Rattle.routing_walks.proofs.RegionLemmas.{number_in, in_number, store_on-IsOn, live_on}
use Rattle.store_logic.specs.declared.assertion.Assertion.TheVariants as assertion
use Rattle.store_logic.specs.declared.region.Region.TheVariants as region
use Rattle.store_logic.specs.Terms.{null, outside, cell_in, live_value, set_in}
use Rattle.store_logic.specs.Satisfaction.{Sat, SatAll}
use Rattle.store_logic.specs.Sorts.{Sort, Truth, Cell, Set, var_sort}
use Rattle.store_logic.proofs.RegionLemmas.{Sat-on}
use Rattle.store_logic.proofs.SameLemmas.{itself}
use Rattle.store_exec.specs.Steps.{variable}
use Rattle.store_exec.specs.Restricted.{live_part, restricted}
use Rattle.store_exec.specs.Cuts.{IsMet, AreMet, AtCut}
use Rattle.store_exec.specs.Failing.{IsBlank, StartHolds}
use Rattle.store_exec.proofs.RestrictedLemmas.{well_formed-at_cut}
use Rattle.pale_calls.specs.declared.actual.Actual.{Actual}
use Rattle.pale_calls.specs.declared.actual.Actual.TheVariants as actual
use Rattle.pale_calls.specs.declared.class.VarClass.{VarClass}
use Rattle.pale_calls.specs.Classes.{class_of, holds_cell, holds_truth, is_logic}
use Rattle.pale_typed.specs.declared.typed.CallParts.{CallParts}
use Rattle.pale_typed.specs.declared.typed.ProcEntry.{ProcEntry}
use Rattle.pale_typed.specs.Fitting.{kind_at, IsProgramVariable, ActualFits, CallFits, ProcFits}
use Rattle.hoare_fill.specs.declared.putting.Put.{Put}
use Rattle.hoare_split.specs.Picking.{is_listed, those, is_fresh}
use Rattle.hoare_fill.specs.Putting.{beside, actual_for}
use Rattle.hoare_split.specs.Calls.{handed_by, pre_for, pre_of, on_part_and_rest, on_all}
use Rattle.hoare_split.specs.Cuts.{call_cut}
use Rattle.hoare_split.specs.Starts.{entry_start}
use Rattle.hoare_split.proofs.FittingVariableLemmas.{same-var, contained-listed, those-all}
use Rattle.whole_run.specs.Handing.{handed_value, blank_at, handed_vars, handed_store}
use Rattle.whole_run.proofs.Holding.{Alike, IsNoSet, IsHeld, satisfied_too}
use Rattle.whole_run.proofs.Handed.{listed_all, all_as, IsGiven, args_given, logics_given, results_blank, locals_blank}
use Rattle.whole_run.proofs.HandedRoots.{handed_well_formed}

-- ---- lists

pub left_in : {X : Type 0} (test : X → Bool) (xs : List X) (x : X) → Contains (filter test xs) x → Contains xs x
left_in test [] x m = m
left_in test (y ∷ xs) x m = of (λ rest. left_in test xs x rest) (test y) m
  where
    of : (Contains (filter test xs) x → Contains xs x) → (b : Bool) → Contains (if b then y ∷ filter test xs else filter test xs) x → Contains (y ∷ xs) x
    of later true m = elim (in_cases y x (filter test xs) m) [ inl same ↦ (0, omega arith, same) | inr rest ↦ in_rest y x xs (later rest) ]
    of later false m = in_rest y x xs (later m)

pub kept_in : {X : Type 0} (test : X → Bool) (xs : List X) (x : X) → test x ≡ true → Contains xs x → Contains (filter test xs) x
kept_in test [] x is m = absurd (in_none x m)
kept_in test (y ∷ xs) x is m = elim (in_cases y x xs m) [
  | inl same ↦ subst (λ (b : Bool). Contains (if b then y ∷ filter test xs else filter test xs) x) (sym (ap test same ∙ is)) (0, omega arith, same)
  | inr rest ↦ of (test y) (kept_in test xs x is rest)
]
  where
    of : (b : Bool) → Contains (filter test xs) x → Contains (if b then y ∷ filter test xs else filter test xs) x
    of true later = in_rest y x (filter test xs) later
    of false later = later

-- ---- the store with its logic sets restricted

module _ (s : StoreMap) where
  abbrev r : StoreMap
  r = restricted s

  pub variable_now : (w : VarId) → variable r w ≡ live_part s (variable s w)
  variable_now w = ap (λ o. unwrap_or o null) (slice_get-map (live_part s) s.vars w.0) ∙ of (var_value s w)
    where
      of : (o : Option Value) → unwrap_or (option_map (live_part s) o) null ≡ live_part s (unwrap_or o null)
      of None = refl
      of (Some x) = refl

  module _ (types : List TypeEntry) (vars : List VarEntry) where
    cell_before : (o : Option Value) (c : CellId) → option_map (live_part s) o ≡ Some (value.Cell (Some c)) → o ≡ Some (value.Cell (Some c))
    cell_before None c e = absurd cc
    cell_before (Some (value.Bool truth)) c e = absurd cc
    cell_before (Some (value.Cell d)) c e = e
    cell_before (Some (value.Cells cells)) c e = absurd cc

    chain_before : {a b : CellId} → Chain r (IsParent types r) a b → Chain s (IsParent types s) a b
    chain_before (stay a live) = stay a live
    chain_before (go a b c step chain) = go a b c
        (record { field = step.field; leads = record { kind = step.leads.kind; value = step.leads.value; live = step.leads.live } }) (chain_before chain)

    chain_now : {a b : CellId} → Chain s (IsParent types s) a b → Chain r (IsParent types r) a b
    chain_now (stay a live) = stay a live
    chain_now (go a b c step chain) = go a b c
        (record { field = step.field; leads = record { kind = step.leads.kind; value = step.leads.value; live = step.leads.live } }) (chain_now chain)

    pub reached_before : (roots : List VarId) (c : CellId) → IsReachedFrom types vars r roots c → IsReachedFrom types vars s roots c
    reached_before roots c h =
        let tree = h.in_tree in
        record {
          root = h.root;
          listed = h.listed;
          in_tree = record {
            root = tree.root;
            named = record {
              place = tree.named.place;
              value = cell_before (var_value s h.root) tree.root (sym (slice_get-map (live_part s) s.vars (h.root).0) ∙ tree.named.value);
            };
            path = chain_before tree.path;
          };
        }

    pub reached_now : (roots : List VarId) (c : CellId) → IsReachedFrom types vars s roots c → IsReachedFrom types vars r roots c
    reached_now roots c h =
        let tree = h.in_tree in
        record {
          root = h.root;
          listed = h.listed;
          in_tree = record {
            root = tree.root;
            named = record {
              place = tree.named.place;
              value = slice_get-map (live_part s) s.vars (h.root).0 ∙ ap (option_map (live_part s)) tree.named.value;
            };
            path = chain_now tree.path;
          };
        }

    pub part_before : (roots : List VarId) (cells : List CellId) → IsPart types vars r roots cells → IsPart types vars s roots cells
    part_before roots cells part = record {
      rising = part.rising;
      members = λ d. ((λ m. reached_before roots d ((part.members d).0 m)), (λ h. (part.members d).1 (reached_now roots d h)));
    }

  -- ---- on a set, what is handed over for a value is like it

  module _ (cells : List CellId) where
    abbrev p : StoreMap
    p = store_on s cells

    never_live : (c : CellId) → has_number cells c.0 ≡ false → cell_of p c ≡ None
    never_live c is = (store_on-IsOn s cells).outside c (λ m. false≢true (sym is ∙ number_in cells c m))

    alike_cell : (c : CellId) (b : Bool) → has_number cells c.0 ≡ b → Alike p (value.Cell (Some c)) (value.Cell (if b then Some c else None))
    alike_cell c true is = record { cells = refl; truths = refl; sets = λ d live. itself }
    alike_cell c false is = record {
      cells = ap (λ (o : Option _). cell_in (if is_some o then value.Cell (Some c) else null)) (never_live c is);
      truths = refl;
      sets = λ d live. itself;
    }

    pub alike_handed : (x : Value) → Alike p x (value_on cells (live_part s x))
    alike_handed (value.Bool truth) = record { cells = refl; truths = refl; sets = λ d live. itself }
    alike_handed (value.Cell None) = record { cells = refl; truths = refl; sets = λ d live. itself }
    alike_handed (value.Cell (Some c)) = alike_cell c (has_number cells c.0) refl
    alike_handed (value.Cells others) = record {
      cells = refl;
      truths = refl;
      sets = λ d live. let both = live_on cells s p (store_on-IsOn s cells) d live in (
        λ m. kept_in (λ (c : CellId). has_number cells c.0) (filter (λ (c : CellId). is_some (cell_of s c)) others) d (number_in cells d both.0)
            (kept_in (λ (c : CellId). is_some (cell_of s c)) others d both.1 m),
        λ m. left_in (λ (c : CellId). is_some (cell_of s c)) others d
            (left_in (λ (c : CellId). has_number cells c.0) (filter (λ (c : CellId). is_some (cell_of s c)) others) d m),
      );
    }

-- ---- what is put in

module _ (Q : Actual → VarId → Type 0) where
  puts_each : (us : List VarId) (xs : List Actual) → AllZip Q xs us → AllByRecursion (λ (put : Put). Q put.actual put.var) (beside us xs)
  puts_each [] [] all = tt
  puts_each [] (x ∷ xs) all = absurd all
  puts_each (u ∷ us) [] all = absurd all
  puts_each (u ∷ us) (x ∷ xs) all = (all.0, puts_each us xs all.1)

  vars_put : (us : List VarId) (xs : List Actual) → AllZip Q xs us → map (λ (put : Put). put.var) (beside us xs) ≡ us
  vars_put [] [] all = refl
  vars_put [] (x ∷ xs) all = absurd all
  vars_put (u ∷ us) [] all = absurd all
  vars_put (u ∷ us) (x ∷ xs) all = ap (λ vs. u ∷ vs) (vars_put us xs all.1)

  found : (puts : List Put) (v : VarId) → AllByRecursion (λ (put : Put). Q put.actual put.var) puts →
      is_listed (map (λ (put : Put). put.var) puts) v ≡ true → Q (actual_for puts v) v
  found [] v all is = absurd (false≢true is)
  found (first ∷ puts) v all is = by (found puts v all.1) (first.var.0 == v.0) refl is
    where
      by : (is_listed (map (λ (put : Put). put.var) puts) v ≡ true → Q (actual_for puts v) v) → (b : Bool) → (first.var.0 == v.0) ≡ b →
          (b || is_listed (map (λ (put : Put). put.var) puts) v) ≡ true →
          Q (option_map_or (λ (put : Put). put.actual) (cond b (Some first) (find (λ (put : Put). put.var.0 == v.0) puts)) (actual.Var v)) v
      by rest true same among = subst (Q first.actual) (same-var first.var v same) all.0
      by rest false same among = rest among

  both_each : (puts more : List Put) → AllByRecursion (λ (put : Put). Q put.actual put.var) puts → AllByRecursion (λ (put : Put). Q put.actual put.var) more →
      AllByRecursion (λ (put : Put). Q put.actual put.var) (puts ++ more)
  both_each [] more one two = two
  both_each (put ∷ puts) more one two = (one.0, both_each puts more one.1 two)

  -- for each of these variables, what is put in for it
  pub put_found : (us vs : List VarId) (xs ys : List Actual) → AllZip Q xs us → AllZip Q ys vs → (v : VarId) → Contains (us ++ vs) v →
      Q (actual_for (beside us xs ++ beside vs ys) v) v
  put_found us vs xs ys one two v among =
      found (beside us xs ++ beside vs ys) v (both_each (beside us xs) (beside vs ys) (puts_each us xs one) (puts_each vs ys two))
      (subst (λ (ws : List VarId). is_listed ws v ≡ true)
      (sym (map-append (λ (put : Put). put.var) (beside us xs) (beside vs ys) ∙ ap₂ (λ (l m : List VarId). l ++ m) (vars_put us xs one) (vars_put vs ys two)))
      (contained-listed (us ++ vs) v among))

-- ---- the entry

no_set_cell : (kind : VarKind) → IsTrue (holds_cell (class_of kind)) → IsNoSet (var_sort kind)
no_set_cell var.Bool h = tt
no_set_cell (var.Data ty) h = tt
no_set_cell (var.Pointer ty) h = tt
no_set_cell (var.LogicSet ty) h = absurd (false≢true h)
no_set_cell var.LogicBool h = tt

pub no_set_truth : (kind : VarKind) → IsTrue (holds_truth (class_of kind)) → IsNoSet (var_sort kind)
no_set_truth var.Bool h = tt
no_set_truth (var.Data ty) h = tt
no_set_truth (var.Pointer ty) h = tt
no_set_truth (var.LogicSet ty) h = absurd (false≢true h)
no_set_truth var.LogicBool h = tt

pub no_set_at : (C : VarKind → Type 0) → ((kind : VarKind) → C kind → IsNoSet (var_sort kind)) → (o : Option VarEntry) (sort : Sort) →
    IsSomeAnd (option_map (λ (e : VarEntry). e.kind) o) C → option_map (λ (e : VarEntry). var_sort e.kind) o ≡ Some sort → IsNoSet sort
no_set_at C each None sort h is = absurd h
no_set_at C each (Some e) sort h is = let same : var_sort e.kind ≡ sort = cc in subst IsNoSet same (each e.kind h)

blank_kind : (kind : VarKind) → IsTrue (not (is_logic (class_of kind))) → IsBlank (blank (var_class kind))
blank_kind var.Bool h = refl
blank_kind (var.Data ty) h = refl
blank_kind (var.Pointer ty) h = refl
blank_kind (var.LogicSet ty) h = absurd (false≢true h)
blank_kind var.LogicBool h = refl

blank_value : (table : List VarEntry) (v : VarId) → IsProgramVariable table v → IsBlank (blank_at table v)
blank_value table v known = of (var_at table v) known
  where
    of : (o : Option VarEntry) → IsSomeAnd (option_map (λ (e : VarEntry). e.kind) o) (λ kind. IsTrue (not (is_logic (class_of kind)))) →
        IsBlank (option_map_or (λ (entry : VarEntry). blank (var_class entry.kind)) o null)
    of None h = absurd h
    of (Some e) h = blank_kind e.kind h

module _ (types : List TypeEntry) (procs : List ProcEntry) (vars : List VarEntry) (callee : ProcEntry) (call : CallParts) (line : ℕ) (s : StoreMap)
    (cells : List CellId) (fits : CallFits types procs vars call) (same : fits.callee ≡ callee) (proc : ProcFits types procs callee)
    (there : slice_get procs call.callee ≡ Some callee) (fit : Fits types vars s) (none : AtCut types vars (call_cut procs vars line call) s None)
    (part : IsPart types vars (restricted s) (handed_by vars call.args) cells) where
  abbrev h : StoreMap
  h = handed_store callee call (restricted s) cells

  args : AllZip (ActualFits vars callee.vars) call.args callee.proc.params
  args = subst (λ (e : ProcEntry). AllZip (ActualFits vars e.vars) call.args e.proc.params) same fits.args

  logics : AllZip (ActualFits vars callee.vars) call.logics callee.proc.logics
  logics = subst (λ (e : ProcEntry). AllZip (ActualFits vars e.vars) call.logics e.proc.logics) same fits.logics

  wf : IsWellFormed types vars (restricted s)
  wf = well_formed-at_cut types vars s fit (call_cut procs vars line call) none

  pub is_well_formed : IsWellFormed types callee.vars h
  is_well_formed = handed_well_formed types vars callee call (restricted s) cells args logics proc.in_order proc.program_variables proc.logic_variables
      fits.cells_once wf part

  abbrev Given : Actual → VarId → Type 0
  Given = IsGiven vars callee call (restricted s) cells args logics proc.in_order proc.program_variables proc.logic_variables

  held_by : (a : Actual) (v : VarId) (sort : Sort) → Given a v → option_map (λ (e : VarEntry). var_sort e.kind) (var_at callee.vars v) ≡ Some sort →
      IsHeld (store_on s cells) a (variable h v) sort
  held_by (actual.Var w) v sort got is =
      subst (Alike (store_on s cells) (variable s w))
      (sym (ap (λ o. unwrap_or o null) got.1 ∙ ap (value_on cells) (variable_now s w))) (alike_handed s cells (variable s w))
  held_by actual.Null v sort got is = (
    ap (λ o. unwrap_or o null) got.1,
    no_set_at (λ kind. IsTrue (holds_cell (class_of kind))) no_set_cell (var_at callee.vars v) sort got.0 is,
  )
  held_by (actual.Truth truth) v sort got is = (
    ap (λ o. unwrap_or o null) got.1,
    no_set_at (λ kind. IsTrue (holds_truth (class_of kind))) no_set_truth (var_at callee.vars v) sort got.0 is,
  )

  pre_holds : SatAll types [] (store_on s cells) outside (pre_for call callee.proc) → SatAll types [] h outside callee.proc.pre
  pre_holds sat =
      (satisfied_too (store_on s cells) (handed_vars callee call (restricted s) cells) (restricted s).next types callee.vars
      (beside callee.proc.params call.args ++ beside callee.proc.logics call.logics) (Contains (callee.proc.params ++ callee.proc.logics)) callee.proc.pre
      proc.pre
      (λ v sort among is. held_by _ v sort (put_found Given callee.proc.params callee.proc.logics call.args call.logics
      (args_given vars callee call (restricted s) cells args logics proc.in_order proc.program_variables proc.logic_variables)
      (logics_given vars callee call (restricted s) cells args logics proc.in_order proc.program_variables proc.logic_variables) v among) is)).0 sat

  blank_in : (v : VarId) → (var_value h v ≡ Some (blank_at callee.vars v)) × IsProgramVariable callee.vars v → IsSomeAnd (var_value h v) IsBlank
  blank_in v both = subst (λ o. IsSomeAnd o IsBlank) (sym both.0) (blank_value callee.vars v both.1)

  fresh_blank : (v : VarId) (b : Bool) → is_listed callee.proc.results v ≡ b → (b || is_listed callee.proc.locals v) ≡ true → IsSomeAnd (var_value h v)
      IsBlank
  fresh_blank v true first is = blank_in v (listed_all _ callee.proc.results v
      (results_blank vars callee call (restricted s) cells args logics proc.in_order proc.program_variables proc.logic_variables) first)
  fresh_blank v false first is = blank_in v (listed_all _ callee.proc.locals v
      (locals_blank vars callee call (restricted s) cells args logics proc.in_order proc.program_variables proc.logic_variables) is)

  pub entry_holds : AreMet types vars s (call_cut procs vars line call).asserts → StartHolds types callee.vars (entry_start callee.vars callee.proc) h
  entry_holds met =
      let claims = recursion_from_All (IsMet types vars s) (on_part_and_rest (handed_by vars call.args) (pre_of procs call) call.keep) met in
      let on_cells = (Sat-on types vars [] s outside (pre_of procs call) (region.Part (handed_by vars call.args)) cells
      (part_before s types vars (handed_by vars call.args) cells part)).0 claims.0 in
      let own = subst (λ (o : Option ProcEntry). SatAll types [] (store_on s cells) outside
      (option_map_or (λ (e : ProcEntry). pre_for call e.proc) o assertion.True))
      there on_cells in
      record {
        nulls = All-from_recursion (λ v. IsSomeAnd (var_value h v) IsBlank) (those (is_fresh callee.proc) callee.vars)
            (those-all callee.vars (λ v. IsSomeAnd (var_value h v) IsBlank) (is_fresh callee.proc)
            (λ v is. fresh_blank v (is_listed callee.proc.results v) refl is));
        pointers = tt;
        claims = All-from_recursion (IsMet types callee.vars h) (on_all callee.proc.pre) (pre_holds own, tt);
      }
