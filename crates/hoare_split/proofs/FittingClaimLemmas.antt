-- Starts and cuts fit: those on all cells, and those of calls, with what is handed over put in.
use Rattle.std.proofs.Common.{◌≡◌, ◌==◌, ℕ, Bool, true, false, cond, IsTrue, not, ◌||◌, List, [], ◌∷◌, ◌++◌, map, flat_map}
use Rattle.std.proofs.Common.{Option, Some, None, IfSome, IsSomeAnd, refl, sym, ap, ap₂, ◌∙◌, subst}
use Rattle.std.specs.List.{AllByRecursion, AllZip, Contains, find}
use Rattle.std.specs.Option.{option_map, option_map_or, option_and_then}
use Rattle.std.proofs.lemmas.Bool.{false≢true}
use Rattle.std.proofs.lemmas.List.{map-append}
use Rattle.store_core.specs.declared.ids.VarId.{VarId}
use Rattle.store_core.specs.declared.kind.VarKind.{VarKind}
use Rattle.store_core.specs.declared.kind.VarKind.TheVariants as var
use Rattle.store_core.specs.Tables.{TypeEntry, VarEntry, var_at}
use Rattle.store_logic.specs.declared.term.Base.{Base}
use Rattle.store_logic.specs.declared.term.Base.TheVariants as base
use Rattle.store_logic.specs.declared.assertion.Assertion.{Assertion}
use Rattle.store_logic.specs.declared.assertion.Assertion.TheVariants as assertion
use Rattle.store_logic.specs.Sorts.{Truth, IsCellSort, var_sort, sort_along}
use Rattle.store_logic.specs.Filling.{Filling, filled}
use Rattle.store_logic.specs.Fits.{AssertionFits}
use Rattle.store_logic.proofs.ExpandingLists.{all-append, all-first, all-second}
use Rattle.store_exec.specs.declared.triple.Start.{Start}
use Rattle.store_exec.specs.Fits.{ItemsFit, StartFits}
use Rattle.pale_text.specs.declared.place.Pos.{Pos}
use Rattle.pale_calls.specs.declared.actual.Actual.{Actual}
use Rattle.pale_calls.specs.declared.actual.Actual.TheVariants as actual
use Rattle.pale_calls.specs.Classes.{class_of, holds_cell, holds_truth, is_logic}
use Rattle.pale_typed.specs.declared.typed.CallParts.{CallParts}
use Rattle.pale_typed.specs.declared.typed.ProcEntry.{ProcEntry}
use Rattle.pale_typed.specs.Fitting.{IsProgramVariable, StatedFits, FillingFits, IsLike, ActualFits, CallFits, ProcFits}
use Rattle.hoare_fill.specs.declared.putting.Put.{Put}
use Rattle.hoare_split.specs.Picking.{is_listed, is_awaited}
use Rattle.hoare_split.specs.Settings.{settings}
use Rattle.hoare_fill.specs.Putting.{beside, actual_for, filling_of, put_for, with_puts}
use Rattle.hoare_split.specs.Calls.{pre_for, post_for, pre_of, post_of, variable_in}
use Rattle.hoare_split.specs.Cuts.{at_assertion, at_call, at_exit}
use Rattle.hoare_split.specs.Starts.{plain_start, entry_start, call_start}
use Rattle.hoare_split.specs.Fitting.{AreReadAt}
use Rattle.hoare_split.proofs.FittingCodeLemmas.{ArrivalFits}
use Rattle.hoare_split.proofs.FittingVariableLemmas.{all-at, same-var, contained-listed, data-listed, programs-at, fresh-program, awaited-program}
use Rattle.hoare_split.proofs.FittingVariableLemmas.{spent-program, lent-pointers, gained-pointers, settings-fit}

-- ---- what is put in

-- a claim fits where what is put in fits, as claim_laws has it for a law
abbrev pub PutsFit : Type 0
PutsFit = (types : List TypeEntry) (theirs vars : List VarEntry) (among : List VarId) (put : Base → Filling) (claim : Assertion) →
    StatedFits types theirs (Contains among) claim →
    ((v : VarId) → Contains among v → IfSome (var_at theirs v) (λ entry. FillingFits types vars (put (base.Var v)) (var_sort entry.kind))) →
    AssertionFits types vars (filled put claim 0)

module _ (types : List TypeEntry) (vars theirs : List VarEntry) where
  abbrev PutFits : Put → Type 0
  PutFits put = ActualFits vars theirs put.actual put.var

  abbrev put_vars : List Put → List VarId
  put_vars puts = map (λ put. put.var) puts

  puts-each : (us : List VarId) (xs : List Actual) → AllZip (ActualFits vars theirs) xs us → AllByRecursion PutFits (beside us xs)
  puts-each [] [] all = tt
  puts-each [] (x ∷ xs) all = absurd all
  puts-each (u ∷ us) [] all = absurd all
  puts-each (u ∷ us) (x ∷ xs) all = (all.0, puts-each us xs all.1)

  vars-put : (us : List VarId) (xs : List Actual) → AllZip (ActualFits vars theirs) xs us → put_vars (beside us xs) ≡ us
  vars-put [] [] all = refl
  vars-put [] (x ∷ xs) all = absurd all
  vars-put (u ∷ us) [] all = absurd all
  vars-put (u ∷ us) (x ∷ xs) all = ap (λ vs. u ∷ vs) (vars-put us xs all.1)

  actual-fits : (puts : List Put) (v : VarId) → AllByRecursion PutFits puts → is_listed (put_vars puts) v ≡ true →
      ActualFits vars theirs (actual_for puts v) v
  actual-fits [] v all is = absurd (false≢true is)
  actual-fits (first ∷ puts) v all is = by (actual-fits puts v all.1) (first.var.0 == v.0) refl is
    where
      by : (is_listed (put_vars puts) v ≡ true → ActualFits vars theirs (actual_for puts v) v) → (b : Bool) →
          (first.var.0 == v.0) ≡ b → (b || is_listed (put_vars puts) v) ≡ true →
          ActualFits vars theirs
          (option_map_or (λ (put : Put). put.actual) (cond b (Some first) (find (λ (put : Put). put.var.0 == v.0) puts)) (actual.Var v)) v
      by rest true same among = subst (ActualFits vars theirs first.actual) (same-var first.var v same) all.0
      by rest false same among = rest among

  abbrev kind_in : Option VarEntry → Option VarKind
  kind_in o = option_map (λ (e : VarEntry). e.kind) o

  null-fits : (o : Option VarEntry) → IsSomeAnd (kind_in o) (λ kind. IsTrue (holds_cell (class_of kind))) →
      IfSome o (λ entry. IsCellSort (var_sort entry.kind))
  null-fits None is = tt
  null-fits (Some e) is = by e.kind is
    where
      by : (k : VarKind) → IsTrue (holds_cell (class_of k)) → IsCellSort (var_sort k)
      by var.Bool is = absurd cc
      by (var.Data ty) is = tt
      by (var.Pointer ty) is = tt
      by (var.LogicSet ty) is = absurd cc
      by var.LogicBool is = absurd cc

  truth-fits : (o : Option VarEntry) → IsSomeAnd (kind_in o) (λ kind. IsTrue (holds_truth (class_of kind))) →
      IfSome o (λ entry. var_sort entry.kind ≡ Truth)
  truth-fits None is = tt
  truth-fits (Some e) is = by e.kind is
    where
      by : (k : VarKind) → IsTrue (holds_truth (class_of k)) → var_sort k ≡ Truth
      by var.Bool is = refl
      by (var.Data ty) is = absurd cc
      by (var.Pointer ty) is = absurd cc
      by (var.LogicSet ty) is = absurd cc
      by var.LogicBool is = refl

  variable-fits : (k : VarKind) (own other : Option VarEntry) → kind_in own ≡ Some k → kind_in other ≡ Some k → IfSome other (λ entry.
      option_and_then (λ start. sort_along types start []) (option_map (λ (e : VarEntry). var_sort e.kind) own) ≡ Some (var_sort entry.kind))
  variable-fits k own None is there = tt
  variable-fits k None (Some e) is there = absurd cc
  variable-fits k (Some d) (Some e) is there =
      let mine : d.kind ≡ k = cc in let his : e.kind ≡ k = cc in ap (λ (x : VarKind). Some (var_sort x)) (mine ∙ sym his)

  filling-fits : (a : Actual) (u : VarId) → ActualFits vars theirs a u →
      IfSome (var_at theirs u) (λ entry. FillingFits types vars (filling_of a) (var_sort entry.kind))
  filling-fits (actual.Var v) u is = variable-fits is.kind (var_at vars v) (var_at theirs u) is.own is.other
  filling-fits actual.Null u is = null-fits (var_at theirs u) is
  filling-fits (actual.Truth truth) u is = truth-fits (var_at theirs u) is

  puts-all : (us vs : List VarId) (xs ys : List Actual) → AllZip (ActualFits vars theirs) xs us → AllZip (ActualFits vars theirs) ys vs →
      AllByRecursion PutFits (beside us xs ++ beside vs ys)
  puts-all us vs xs ys first second = all-append PutFits (beside us xs) (beside vs ys) (puts-each us xs first) (puts-each vs ys second)

  vars-all : (us vs : List VarId) (xs ys : List Actual) → AllZip (ActualFits vars theirs) xs us → AllZip (ActualFits vars theirs) ys vs →
      put_vars (beside us xs ++ beside vs ys) ≡ us ++ vs
  vars-all us vs xs ys first second =
      map-append (λ (put : Put). put.var) (beside us xs) (beside vs ys)
      ∙ ap₂ (λ (l m : List VarId). l ++ m) (vars-put us xs first) (vars-put vs ys second)

  -- a claim with what is handed over put in for the variables that it may name
  claim-fits : PutsFit → (us vs : List VarId) (xs ys : List Actual) (a : Assertion) → AllZip (ActualFits vars theirs) xs us →
      AllZip (ActualFits vars theirs) ys vs → StatedFits types theirs (Contains (us ++ vs)) a →
      AssertionFits types vars (with_puts (beside us xs ++ beside vs ys) a)
  claim-fits law us vs xs ys a first second stated =
      law types theirs vars (us ++ vs) (put_for (beside us xs ++ beside vs ys)) a stated
      (λ v among. filling-fits (actual_for (beside us xs ++ beside vs ys) v) v
      (actual-fits (beside us xs ++ beside vs ys) v (puts-all us vs xs ys first second)
      (subst (λ (l : List VarId). is_listed l v ≡ true) (sym (vars-all us vs xs ys first second)) (contained-listed (us ++ vs) v among))))

  results-handed : (vs us : List VarId) → AllZip (IsLike vars theirs) vs us → AllZip (ActualFits vars theirs) (map (λ v. actual.Var v) vs) us
  results-handed [] [] all = tt
  results-handed [] (u ∷ us) all = absurd all
  results-handed (v ∷ vs) [] all = absurd all
  results-handed (v ∷ vs) (u ∷ us) all = (all.0, results-handed vs us all.1)

  program-like : (v u : VarId) → IsLike vars theirs v u → IsProgramVariable theirs u → IsProgramVariable vars v
  program-like v u like is = subst (λ (o : Option VarKind). IsSomeAnd o (λ kind. IsTrue (not (is_logic (class_of kind))))) (like.other ∙ sym like.own) is

  programs-like : (vs us : List VarId) → AllZip (IsLike vars theirs) vs us → AllByRecursion (IsProgramVariable theirs) us →
      AllByRecursion (IsProgramVariable vars) vs
  programs-like [] [] all is = tt
  programs-like [] (u ∷ us) all is = absurd all
  programs-like (v ∷ vs) [] all is = absurd all
  programs-like (v ∷ vs) (u ∷ us) all is = (program-like v u all.0 is.0, programs-like vs us all.1 is.1)

-- ---- starts and cuts

-- the start fits, and its claims are read on the regions of its kind
pub record StartsWell (types : List TypeEntry) (vars : List VarEntry) (start : Start) : Type 0 where
  pub fits : StartFits types vars start
  pub regions : AreReadAt start.returned start.asserts

module _ (types : List TypeEntry) (vars : List VarEntry) where
  pub assertion-arrival : (place : Pos) (a : Assertion) → AssertionFits types vars a → ArrivalFits types vars (at_assertion place a)
  assertion-arrival place a fits = (record { handed = tt; inside = tt; asserts = (record { region = tt; assertion = fits }, tt) }, refl)

  pub exit-arrival : (line : ℕ) (a : Assertion) → AssertionFits types vars a → ArrivalFits types vars (at_exit line a)
  exit-arrival line a fits = (record { handed = tt; inside = tt; asserts = (record { region = tt; assertion = fits }, tt) }, refl)

  pub plain-starts : (a : Assertion) → AssertionFits types vars a → StartsWell types vars (plain_start a)
  plain-starts a fits = record {
    fits = record { nulls = tt; returned = tt; inside = tt; asserts = (record { region = tt; assertion = fits }, tt) };
    regions = refl;
  }

module _ (types : List TypeEntry) (procs : List ProcEntry) (e : ProcEntry) (fits : ProcFits types procs e) where
  results-program : AllByRecursion (IsProgramVariable e.vars) e.proc.results
  results-program =
      all-second (IsProgramVariable e.vars) e.proc.params e.proc.results
      (all-first (IsProgramVariable e.vars) (e.proc.params ++ e.proc.results) e.proc.locals fits.program_variables)

  pub entry-starts : StartsWell types e.vars (entry_start e.vars e.proc)
  entry-starts = record {
    fits = record {
      nulls =
          fresh-program e.vars e.proc (programs-at e.vars e.proc.results results-program)
          (programs-at e.vars e.proc.locals
          (all-second (IsProgramVariable e.vars) (e.proc.params ++ e.proc.results) e.proc.locals fits.program_variables));
      returned = tt;
      inside = tt;
      asserts = (record { region = tt; assertion = (fits.pre).fits }, tt);
    };
    regions = refl;
  }

-- ---- calls

module _ (law : PutsFit) (types : List TypeEntry) (procs : List ProcEntry) (all : AllByRecursion (ProcFits types procs) procs) (vars : List VarEntry)
    (call : CallParts) (fits : CallFits types procs vars call) where
  abbrev callee : ProcEntry
  callee = fits.callee

  callee-fits : ProcFits types procs callee
  callee-fits = all-at (ProcFits types procs) procs call.callee callee all fits.there

  pre-fits : AssertionFits types vars (pre_of procs call)
  pre-fits =
      subst (λ (o : Option ProcEntry). AssertionFits types vars (option_map_or (λ e. pre_for call e.proc) o assertion.True)) (sym fits.there)
      (claim-fits types vars callee.vars law callee.proc.params callee.proc.logics call.args call.logics callee.proc.pre fits.args fits.logics
      callee-fits.pre)

  post-fits : AssertionFits types vars (post_of procs call)
  post-fits =
      subst (λ (o : Option ProcEntry). AssertionFits types vars (option_map_or (λ e. post_for call e.proc) o assertion.True)) (sym fits.there)
      (claim-fits types vars callee.vars law callee.proc.results callee.proc.logics (map (λ v. actual.Var v) call.results) call.logics callee.proc.post
      (results-handed types vars callee.vars call.results callee.proc.results fits.results) fits.logics callee-fits.post)

  pub call-arrival : (place : Pos) → ArrivalFits types vars (at_call procs vars place call)
  call-arrival place = (
    record {
      handed = data-listed vars (flat_map variable_in call.args);
      inside = lent-pointers vars call;
      asserts = (
        record { region = data-listed vars (flat_map variable_in call.args); assertion = pre-fits },
        (record { region = data-listed vars (flat_map variable_in call.args); assertion = (fits.keep).fits }, tt),
      );
    },
    refl,
  )

  pub call-starts : StartsWell types vars (call_start procs vars call)
  call-starts = record {
    fits = record {
      nulls = spent-program vars call;
      returned = data-listed vars call.results;
      inside = gained-pointers vars call;
      asserts = (
        record { region = data-listed vars call.results; assertion = post-fits },
        (record { region = data-listed vars call.results; assertion = (fits.keep).fits }, tt),
      );
    };
    regions = refl;
  }

  pub call-settings : (line : ℕ) → ItemsFit types vars (settings vars (is_awaited call) line)
  call-settings line =
      settings-fit types vars (is_awaited call) line
      (awaited-program vars call
      (programs-at vars call.results
      (programs-like types vars callee.vars call.results callee.proc.results fits.results (results-program types procs callee callee-fits))))
