-- A whole run has one answer.
use Rattle.std.proofs.Common.{◌≡◌, inl, inr, ℕ, zero, suc, Bool, true, false, List, [], ◌∷◌, ◌++◌, map, filter, Some, None, Contains}
use Rattle.std.proofs.Common.{Result, Ok, Err, not}
use Rattle.std.proofs.Common.{if◌then◌else◌, refl, sym, ap, ap₂, ◌∙◌, subst}
use Rattle.std.specs.FinMap.{retain_keys}
use Rattle.std.proofs.lemmas.Bool.{false≢true}
use Rattle.store_core.specs.declared.ids.CellId.{CellId}
use Rattle.store_core.specs.declared.value.Value.{Value}
use Rattle.store_core.specs.declared.value.Value.TheVariants as value
use Rattle.store_core.specs.Tables.{TypeEntry, VarEntry}
use Rattle.store_core.specs.Stores.{StoreMap}
use Rattle.routing_walks.specs.Regions.{has_number, IsReachedFrom}
use Rattle.routing_walks.specs.Pieces.{value_on}
use Rattle.routing_walks.proofs.RegionLemmas.{number_in, in_number}
use Rattle.store_logic.specs.declared.act.Act.{Act}
use Rattle.store_exec.specs.declared.cause.Cause.{Cause}
use Rattle.store_exec.specs.declared.code.Item.{Item}
use Rattle.store_exec.specs.declared.code.Code.{Code, roll-Code, out-roll-Code}
use Rattle.store_exec.specs.declared.code.Tail.TheVariants as tail
use Rattle.store_exec.specs.declared.code.Tail.TheOpen.{Code-F}
use Rattle.store_exec.specs.declared.code.Tail.{Tail}
use Rattle.store_exec.specs.declared.outcome.Outcome.{Outcome}
use Rattle.store_exec.specs.declared.outcome.Outcome.TheVariants as outcome
use Rattle.store_exec.specs.declared.triple.Cut.{Cut}
use Rattle.store_exec.specs.Runs.{Ending, Does, RunsItems, Follows}
use Rattle.store_exec.specs.Restricted.{restricted}
use Rattle.store_exec.proofs.CodeLemmas.{code-cut}
use Rattle.store_exec.proofs.OneEndLemmas.{Step-one, code-one}
use Rattle.store_exec.proofs.OneCauseLemmas.{AtCut-one}
use Rattle.pale_calls.specs.declared.actual.Actual.{Actual}
use Rattle.pale_calls.specs.declared.actual.Actual.TheVariants as actual
use Rattle.pale_typed.specs.declared.typed.CallParts.{CallParts}
use Rattle.pale_typed.specs.declared.typed.ProcEntry.{ProcEntry}
use Rattle.pale_typed.specs.declared.typed.Stmt.{Stmt, out-Stmt}
use Rattle.pale_typed.specs.declared.typed.Stmt.TheOpen.{Stmt-F}
use Rattle.pale_typed.specs.TypedPrograms.{TypedProgram}
use Rattle.hoare_split.specs.Calls.{handed_by}
use Rattle.hoare_split.specs.Cuts.{plain_cut, call_cut}
use Rattle.hoare_split.specs.Picking.{is_awaited, is_left}
use Rattle.hoare_split.specs.Settings.{settings}
use Rattle.whole_run.specs.States.{Frame, Waiting, State, runs, exited, Turn, goes, fails, Answer}
use Rattle.whole_run.specs.Handing.{handed_value, blank_at, handed_store, rest_store, returned_store}
use Rattle.whole_run.specs.Turns.{from_ending, on_with, Arrives, AfterSettings, Begins, Returns, TakesForm, Exits, Takes, behind_cut}
use Rattle.whole_run.specs.Runs.{EndsBy, Ends, WholeRun}

some_same : {X : Type 0} (x y : X) → Some x ≡ Some y → x ≡ y
some_same x y e = cc

ok_same : {X E : Type 0} (r : Result X E) (x y : X) → r ≡ Ok x → r ≡ Ok y → x ≡ y
ok_same r x y h k = let e = sym h ∙ k in cc

err_same : {X E : Type 0} (r : Result X E) (x y : E) → r ≡ Err x → r ≡ Err y → x ≡ y
err_same r x y h k = let e = sym h ∙ k in cc

ok_err : {X E A : Type 0} (r : Result X E) (x : X) (y : E) → r ≡ Ok x → r ≡ Err y → A
ok_err r x y h k = let e = sym h ∙ k in absurd cc

-- ---- sets by number

bool_same : (x y : Bool) → (x ≡ true → y ≡ true) → (y ≡ true → x ≡ true) → x ≡ y
bool_same true y one other = sym (one refl)
bool_same false true one other = absurd (false≢true (other refl))
bool_same false false one other = refl

module _ (P : CellId → Type 0) (cells others : List CellId) (one : (c : CellId) → (Contains cells c → P c) × (P c → Contains cells c))
    (other : (c : CellId) → (Contains others c → P c) × (P c → Contains others c)) where
  number_same : (n : ℕ) → has_number cells n ≡ has_number others n
  number_same n =
      let c : CellId = record { 0 = n } in
      bool_same (has_number cells n) (has_number others n)
      (λ is. number_in others c ((other c).1 ((one c).0 (in_number cells c is))))
      (λ is. number_in cells c ((one c).1 ((other c).0 (in_number others c is))))

  numbers_same : ◌≡◌ {A = ℕ → Bool} (has_number cells) (has_number others)
  numbers_same = λ i n. number_same n i

  value_same : (x : Value) → value_on cells x ≡ value_on others x
  value_same (value.Bool truth) = refl
  value_same (value.Cell None) = refl
  value_same (value.Cell (Some c)) = ap (λ (z : Bool). value.Cell (if z then Some c else None)) (number_same c.0)
  value_same (value.Cells cs) = ap (λ (test : ℕ → Bool). value.Cells (filter (λ (c : CellId). test c.0) cs)) numbers_same

  handed_same : (s : StoreMap) (a : Actual) → handed_value s cells a ≡ handed_value s others a
  handed_same s (actual.Var v) = value_same _
  handed_same s actual.Null = refl
  handed_same s (actual.Truth truth) = refl

  all_same : (s : StoreMap) (xs : List Actual) → map (handed_value s cells) xs ≡ map (handed_value s others) xs
  all_same s [] = refl
  all_same s (x ∷ xs) = ap₂ (λ (y : Value) (ys : List Value). y ∷ ys) (handed_same s x) (all_same s xs)

  store_same : (callee : ProcEntry) (call : CallParts) (s : StoreMap) → handed_store callee call s cells ≡ handed_store callee call s others
  store_same callee call s = λ i. record {
    cells = retain_keys s.cells (numbers_same i);
    vars = all_same s call.args i ++ map (blank_at callee.vars) callee.proc.results ++ map (blank_at callee.vars) callee.proc.locals
        ++ all_same s call.logics i;
    next = s.next;
  }

  rest_same : (s : StoreMap) → rest_store s cells ≡ rest_store s others
  rest_same s = λ i. record s { cells = retain_keys s.cells (λ n. not (numbers_same i n)) }

-- ---- one turn

abbrev One : (Turn → Type 0) → Type 0
One P = (a c : Turn) → P a → P c → a ≡ c

module _ (types : List TypeEntry) where
  pub does_one : (line : ℕ) (s : StoreMap) (a : Act) (e f : Ending) → Does types line s a e → Does types line s a f → e ≡ f
  does_one line s a (Ok t) (Ok u) h k = ap (λ x. Ok x) (ok_same (Ok t) t u refl (Step-one types s a (Ok t) (Ok u) h k))
  does_one line s a (Ok t) (Err fault) h k = ok_err (Ok t) t fault.cause refl (Step-one types s a (Ok t) (Err fault.cause) h k.0)
  does_one line s a (Err fault) (Ok u) h k = ok_err (Ok u) u fault.cause refl (Step-one types s a (Ok u) (Err fault.cause) k h.0)
  does_one line s a (Err fault) (Err other) h k =
      ap₂ (λ (c : Cause) (n : ℕ). Err (record { cause = c; line = n }))
      (err_same (Err fault.cause) fault.cause other.cause refl (Step-one types s a (Err fault.cause) (Err other.cause) h.0 k.0)) (h.1 ∙ sym k.1)

  -- items have one end
  pub items_end_one : (items : List Item) (s : StoreMap) (e f : Ending) → RunsItems types items s e → RunsItems types items s f → e ≡ f
  items_end_one items s e f h k =
      let z : Code-F Tail Code = record { items = items; tail = tail.Cut 0 } in
      let code = roll-Code z in
      let ends : code.tail ≡ tail.Cut 0 = ap (λ (x : Code-F Tail Code). x.tail) (out-roll-Code z) in
      let own : items ≡ code.items = sym (ap (λ (x : Code-F Tail Code). x.items) (out-roll-Code z)) in
      ended e f (code-one types code s (out_of e) (out_of f) ((code-cut types code 0 ends s (out_of e)).1
      (run_of code.items e (subst (λ xs. RunsItems types xs s e) own h)))
      ((code-cut types code 0 ends s (out_of f)).1 (run_of code.items f (subst (λ xs. RunsItems types xs s f) own k))))
    where
      out_of : Ending → Outcome
      out_of (Ok t) = outcome.End 0 t
      out_of (Err fault) = outcome.Fail fault.cause fault.line

      run_of : (xs : List Item) (e : Ending) → RunsItems types xs s e → Follows (RunsItems types xs s) (λ t o. o ≡ outcome.End 0 t) (out_of e)
      run_of xs (Ok t) h = inl (t, h, refl)
      run_of xs (Err fault) h = inr (fault, h, refl)

      ended : (e f : Ending) → out_of e ≡ out_of f → e ≡ f
      ended (Ok t) (Ok u) same = let is : t ≡ u = cc in ap (λ x. Ok x) is
      ended (Ok t) (Err fault) same = absurd cc
      ended (Err fault) (Ok u) same = absurd cc
      ended (Err fault) (Err other) same = let why : fault.cause ≡ other.cause = cc in let at : fault.line ≡ other.line = cc in
          ap₂ (λ (c : Cause) (n : ℕ). Err (record { cause = c; line = n })) why at

  -- items end in one store
  items_one : (items : List Item) (s t u : StoreMap) → RunsItems types items s (Ok t) → RunsItems types items s (Ok u) → t ≡ u
  items_one items s t u h k =
      let z : Code-F Tail Code = record { items = items; tail = tail.Cut 0 } in
      let code = roll-Code z in
      let ends : code.tail ≡ tail.Cut 0 = ap (λ (x : Code-F Tail Code). x.tail) (out-roll-Code z) in
      let own : items ≡ code.items = sym (ap (λ (x : Code-F Tail Code). x.items) (out-roll-Code z)) in
      let one = (code-cut types code 0 ends s (outcome.End 0 t)).1 (inl (t, subst (λ xs. RunsItems types xs s (Ok t)) own h, refl)) in
      let other = (code-cut types code 0 ends s (outcome.End 0 u)).1 (inl (u, subst (λ xs. RunsItems types xs s (Ok u)) own k, refl)) in
      end_same t u (code-one types code s (outcome.End 0 t) (outcome.End 0 u) one other)
    where
      end_same : (t u : StoreMap) → outcome.End 0 t ≡ outcome.End 0 u → t ≡ u
      end_same t u e = cc

  settings_one : (items : List Item) (s : StoreMap) (Next : StoreMap → Turn → Type 0) → ((t : StoreMap) → One (Next t)) →
      One (λ turn. AfterSettings types items s (λ t. Next t turn))
  settings_one items s Next one a c h k =
      let same = items_one items s h.0 k.0 h.1 k.1 in
      one k.0 a c (subst (λ t. Next t a) same h.2) k.2

  arrives_one : (vars : List VarEntry) (s : StoreMap) (cut : Cut) (Next : StoreMap → Turn → Type 0) → ((t : StoreMap) → One (Next t)) →
      One (Arrives types vars s cut Next)
  arrives_one vars s cut Next one a c (inl h) (inl k) = one (restricted s) a c h.1 k.1
  arrives_one vars s cut Next one a c (inl h) (inr k) =
      let no : None ≡ Some k.0 = AtCut-one types vars cut s None (Some k.0) h.0 k.1 in absurd cc
  arrives_one vars s cut Next one a c (inr h) (inl k) =
      let no : None ≡ Some h.0 = AtCut-one types vars cut s None (Some h.0) k.0 h.1 in absurd cc
  arrives_one vars s cut Next one a c (inr h) (inr k) =
      let same : h.0 ≡ k.0 = some_same h.0 k.0 (AtCut-one types vars cut s (Some h.0) (Some k.0) h.1 k.1) in
      h.2 ∙ ap (λ why. fails why cut.line) same ∙ sym k.2

module _ (program : TypedProgram) where
  begins_one : (call : CallParts) (f : Frame) (waiting : List Waiting) → One (Begins program call f waiting)
  begins_one call f waiting a c h k =
      let callee_same : h.0 ≡ k.0 = some_same h.0 k.0 (sym h.2 ∙ k.2) in
      let P = IsReachedFrom program.types f.entry.vars f.store (handed_by f.entry.vars call.args) in
      let one : (d : CellId) → (Contains h.1 d → P d) × (P d → Contains h.1 d) = λ d. ((h.3.members d).0, (h.3.members d).1) in
      let other : (d : CellId) → (Contains k.1 d → P d) × (P d → Contains k.1 d) = λ d. ((k.3.members d).0, (k.3.members d).1) in
      h.4
      ∙ ap (λ (e : ProcEntry). goes (runs (record { entry = e; store = handed_store e call f.store h.1; left = e.proc.body })
      (record { call = call; caller = record f { store = rest_store f.store h.1 } } ∷ waiting))) callee_same
      ∙ ap₂ (λ (own behind : StoreMap). goes (runs (record { entry = k.0; store = own; left = (k.0).proc.body })
      (record { call = call; caller = record f { store = behind } } ∷ waiting)))
      (store_same P h.1 k.1 one other k.0 call f.store) (rest_same P h.1 k.1 one other f.store)
      ∙ sym k.4

  pub returns_one : (t : StoreMap) (w : Waiting) (waiting : List Waiting) → One (Returns program t w waiting)
  returns_one t w waiting a c h k =
      let same : h.0 ≡ k.0 = some_same h.0 k.0 (sym h.1 ∙ k.1) in
      h.2
      ∙ ap (λ (e : ProcEntry). goes (runs (record w.caller { store = returned_store w.caller.entry.vars w.call e.proc.results w.caller.store t }) waiting))
      same
      ∙ sym k.2

  is_one : (turn : Turn) → One (λ next. next ≡ turn)
  is_one turn a c h k = h ∙ sym k

  form_one : (entry : ProcEntry) (waiting : List Waiting) (s : StoreMap) (left : List Stmt) (Later : Turn → Type 0) → One Later →
      (x : Stmt-F Stmt) → One (TakesForm program entry waiting s left Later x)
  form_one entry waiting s left Later later Stmt-F.Skip a c h k = later a c h k
  form_one entry waiting s left Later later (Stmt-F.Do line act) a c h k =
      let same = does_one program.types line s act h.0 k.0 h.1 k.1 in
      h.2 ∙ ap (from_ending (on_with entry waiting left)) same ∙ sym k.2
  form_one entry waiting s left Later later (Stmt-F.If line cond first other) a c h k = h ∙ sym k
  form_one entry waiting s left Later later (Stmt-F.While place cond invariant body) a c h k =
      arrives_one program.types entry.vars s (plain_cut place.line invariant)
      (λ t next. next ≡ goes (on_with entry waiting (behind_cut place cond invariant body ∷ left) t))
      (λ t. is_one (goes (on_with entry waiting (behind_cut place cond invariant body ∷ left) t))) a c h k
  form_one entry waiting s left Later later (Stmt-F.Split place claim) a c h k =
      arrives_one program.types entry.vars s (plain_cut place.line claim) (λ t next. next ≡ goes (on_with entry waiting left t))
      (λ t. is_one (goes (on_with entry waiting left t))) a c h k
  form_one entry waiting s left Later later (Stmt-F.Call place call) a c h k =
      settings_one program.types (settings entry.vars (is_awaited call) place.line) s
      (λ u turn. Arrives program.types entry.vars u (call_cut program.procs entry.vars place.line call)
      (λ t next. Begins program call (record { entry = entry; store = t; left = left }) waiting next) turn)
      (λ u. arrives_one program.types entry.vars u (call_cut program.procs entry.vars place.line call)
      (λ t next. Begins program call (record { entry = entry; store = t; left = left }) waiting next)
      (λ t. begins_one call (record { entry = entry; store = t; left = left }) waiting)) a c h k

  exits_one : (entry : ProcEntry) (waiting : List Waiting) (s : StoreMap) → One (Exits program entry waiting s)
  exits_one entry waiting s =
      settings_one program.types (settings entry.vars (is_left entry.proc) entry.proc.last) s
      (λ u turn. Arrives program.types entry.vars u (plain_cut entry.proc.last entry.proc.post) (λ t next. next ≡ goes (exited t waiting)) turn)
      (λ u. arrives_one program.types entry.vars u (plain_cut entry.proc.last entry.proc.post) (λ t next. next ≡ goes (exited t waiting))
      (λ t. is_one (goes (exited t waiting))))

  pub takes_one : (entry : ProcEntry) (waiting : List Waiting) (s : StoreMap) (left : List Stmt) → One (Takes program entry waiting s left)
  takes_one entry waiting s [] = exits_one entry waiting s
  takes_one entry waiting s (next ∷ left) =
      form_one entry waiting s left (Takes program entry waiting s left) (takes_one entry waiting s left) (out-Stmt next)

  -- ---- one answer

  by_one : (Later : State → Answer → Type 0) → ((state : State) (a c : Answer) → Later state a → Later state c → a ≡ c) →
      (turn : Turn) (a c : Answer) → EndsBy Later turn a → EndsBy Later turn c → a ≡ c
  by_one Later one (goes next) a c h k = one next a c h k
  by_one Later one (fails why line) a c h k = h ∙ sym k

  pub ends_one : (n : ℕ) (state : State) (a c : Answer) → Ends program n state a → Ends program n state c → a ≡ c
  ends_one zero (runs f waiting) a c h k = h ∙ sym k
  ends_one zero (exited t []) a c h k = h ∙ sym k
  ends_one zero (exited t (w ∷ waiting)) a c h k = h ∙ sym k
  ends_one (suc n) (runs f waiting) a c h k =
      let same = takes_one f.entry waiting f.store f.left h.0 k.0 h.1 k.1 in
      by_one (Ends program n) (ends_one n) k.0 a c (subst (λ turn. EndsBy (Ends program n) turn a) same h.2) k.2
  ends_one (suc n) (exited t []) a c h k = h ∙ sym k
  ends_one (suc n) (exited t (w ∷ waiting)) a c h k =
      let same = returns_one t w waiting h.0 k.0 h.1 k.1 in
      by_one (Ends program n) (ends_one n) k.0 a c (subst (λ turn. EndsBy (Ends program n) turn a) same h.2) k.2

  pub answers_one : (number : ℕ) (s : StoreMap) (n : ℕ) (a c : Answer) → WholeRun program number s n a → WholeRun program number s n c → a ≡ c
  answers_one number s n a c h k =
      let same : h.0 ≡ k.0 = some_same h.0 k.0 (sym h.1 ∙ k.1) in
      ends_one n (runs (record { entry = k.0; store = s; left = (k.0).proc.body }) []) a c
      (subst (λ (e : ProcEntry). Ends program n (runs (record { entry = e; store = s; left = e.proc.body }) []) a) same h.2) k.2
