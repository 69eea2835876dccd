-- Statements without a fault fit.
use Rattle.std.proofs.Common.{◌≡◌, ℕ, Bool, false, List, [], ◌∷◌, map, slice_get, Option, Some, None, option_map}
use Rattle.std.proofs.Common.{refl, sym, ap, ap₂, ◌∙◌, subst, unwrap_or}
use Rattle.std.specs.List.{AllByRecursion}
use Rattle.std.proofs.lemmas.Option.{slice_get-map}
use mathlib.Core.Path.{transport}
use Rattle.pale_syntax.specs.declared.tree.assertion.Bracketed.{Bracketed}
use Rattle.pale_syntax.specs.declared.tree.statement.Call.{Call}
use Rattle.pale_syntax.specs.declared.tree.statement.Statement.{Statement}
use Rattle.pale_syntax.specs.declared.tree.statement.Statement.TheOpen.{Statement-F}
use Rattle.pale_syntax.specs.declared.tree.statement.Statement.TheFolds.{map-Statement, ind-Statement}
use Rattle.pale_syntax.specs.declared.tree.declaration.Procedure.{Procedure}
use Rattle.store_core.specs.declared.ids.VarId.{VarId}
use Rattle.store_core.specs.Tables.{TypeEntry, VarEntry, AreDistinct}
use Rattle.store_logic.specs.declared.term.Base.{Base}
use Rattle.store_logic.specs.declared.term.Base.TheVariants as base
use Rattle.store_logic.specs.declared.assertion.Assertion.TheVariants as assertion
use Rattle.store_logic.specs.declared.act.Act.{Act}
use Rattle.store_logic.specs.declared.act.Act.TheVariants as act
use Rattle.store_logic.specs.Uses.{NameUse}
use Rattle.store_logic.specs.Fits.{AssertionFits}
use Rattle.store_logic.specs.FitsCode.{CondFits, ActFits}
use Rattle.store_logic.specs.Sorts.{scope_of}
use Rattle.store_logic.proofs.ExpandingForms.{names-True}
use Rattle.pale_tables.specs.Faults.{Fault}
use Rattle.pale_tables.proofs.KnownRoutes.{both}
use Rattle.pale_terms.specs.Visibles.{Entry}
use Rattle.pale_terms.specs.Scopes.{visible_names}
use Rattle.pale_acts.specs.Conditions.{typed_condition}
use Rattle.pale_acts.specs.Assignments.{assignment_of, free_of}
use Rattle.pale_vocabulary.specs.declared.vocabulary.Declared.{Declared}
use Rattle.pale_vocabulary.specs.Predicates.{bracketed_fault}
use Rattle.pale_fitting.specs.Standing.{AreVariables, AreCodeVariables}
use Rattle.pale_fitting.specs.Declaring.{DeclarationsFit}
use Rattle.claim_laws.proofs.FitForms.{Fits-True}
use Rattle.pale_fitting.proofs.ProcedureLemmas.{procedure-expansion-fits}
use Rattle.pale_fitting.proofs.CodeFitLemmas.{condition-fits}
use Rattle.pale_fitting.proofs.ActFitLemmas.{assignment-fits, free-fits}
use Rattle.pale_calls.specs.Calls as calls
use Rattle.pale_calls.specs.Calls.{call_fault, call_of, touched, actual_of}
use Rattle.pale_procedures.specs.declared.basis.Basis.{Basis}
use Rattle.pale_sights.specs.declared.sights.Frame.{Frame}
use Rattle.pale_typed.specs.declared.typed.ProcEntry.{ProcEntry}
use Rattle.pale_typed.specs.declared.typed.Stmt.{Stmt, roll-Stmt}
use Rattle.pale_typed.specs.declared.typed.Stmt.TheVariants as stmt
use Rattle.pale_typed.specs.declared.typed.Stmt.TheOpen.{Stmt-F}
use Rattle.pale_typed.specs.declared.typed.Stmt.TheFolds.{rec-roll-Stmt, map-Stmt}
use Rattle.pale_sights.specs.Formals.{formal_of, logic_formal_of, signature_of, named_of}
use Rattle.pale_sights.specs.Variables as variables
use Rattle.pale_procedures.specs.Stated.{stated, stated_or_true, stated_fault}
use Rattle.pale_procedures.specs.Statements.{types_of, keep_sight, parts_of, parts_fault, typing_rules, typed_statement, typed_block, block_rule}
use Rattle.pale_procedures.specs.Statements.{fault_rules, statement_fault, block_fault}
use Rattle.pale_sights.specs.Headings.{heading_of}
use Rattle.pale_procedures.specs.Procedures.{typed_procedure}
use Rattle.claim_laws.specs.Claims.{NameMayBe, StatedFits}
use Rattle.pale_typed.specs.Variables.{cells_in}
use Rattle.pale_typed.specs.Fitting.{CallFits, StatementFitsNode, StatementFits}
use Rattle.pale_sights.proofs.KeepLemmas.{allowed-variables}
use Rattle.pale_procedures.proofs.StatementLemmas.{fault_form, typed_form}
use Rattle.pale_sights.proofs.FittingNamesLemmas.{AreOpen, IsPassed, stated-names}
use Rattle.pale_sights.proofs.FittingCallsLemmas.{AreResults, arguments-are, arguments-stand, cells-once, results-are}
use Rattle.pale_sights.proofs.FittingKeepLemmas.{IsNamedVariable, IsApart, has_none, nones-open, taken-each, allow-each, untouched}
use Rattle.pale_types.proofs.FittingCalleesLemmas.{IsCallee, IsFine, IsHanded, kinds_of, callee-is, is-called, is-fine, handed-fit}
use Rattle.pale_types.proofs.FittingCalleesLemmas.{declares-parameters, declares-logics}

-- what the statements of a procedure may use: declarations that fit, variables of its table under their names, and the procedures
pub record Stands (basis : Basis) (frame : Frame) (qs : List Procedure) : Type 0 where
  pub fit : DeclarationsFit basis.declared
  pub stated : AreVariables frame.vars frame.stated
  pub named : AllByRecursion (IsNamedVariable frame.vars) frame.stated
  pub distinct : AreDistinct (visible_names frame.stated)
  pub code : AreCodeVariables frame.vars frame.code
  pub procedures : basis.procedures ≡ map (named_of (types_of basis)) qs

-- ---- assertions

-- an assertion in its brackets without a fault
pub bracketed-fits : (d : Declared) (vars : List VarEntry) (entries : List Entry) → DeclarationsFit d → AreVariables vars entries → (b : Bracketed) →
    bracketed_fault d entries b ≡ None → AssertionFits d.vocabulary.types vars (stated d entries b)
unfolding bracketed_fault stated
bracketed-fits d vars entries fit are b none = procedure-expansion-fits d vars entries b.assertion fit are (both _ _ none).0

-- one that may be left out, and what it names
module _ (d : Declared) (vars : List VarEntry) (test : ℕ → Bool) (entries : List Entry) (fit : DeclarationsFit d) (are : AreVariables vars entries)
    (opens : AreOpen test entries) (MayBe : VarId → Type 0) (so : (v : VarId) → IsPassed vars test v → MayBe v) where
  weaker : (names : List NameUse) → AllByRecursion (λ n. NameMayBe (IsPassed vars test) n.name) names → AllByRecursion (λ n. NameMayBe MayBe n.name) names
  weaker [] all = tt
  weaker (n ∷ names) all = (by n.name all.0, weaker names all.1)
    where
      by : (name : Base) → NameMayBe (IsPassed vars test) name → NameMayBe MayBe name
      by (base.Var v) is = so v is
      by (base.Bound k) is = tt
      by (base.Param k) is = tt

  left-out : StatedFits d.vocabulary.types vars MayBe assertion.True
  left-out = record {
    fits = (Fits-True d.vocabulary.types (scope_of vars)).1 tt;
    names = subst (AllByRecursion (λ n. NameMayBe MayBe n.name)) (sym (names-True 0)) tt;
  }

  in-brackets : (b : Bracketed) → bracketed_fault d entries b ≡ None → StatedFits d.vocabulary.types vars MayBe (stated d entries b)
  unfolding bracketed_fault stated
  in-brackets b none = let fine = (both _ _ none).0 in record {
    fits = procedure-expansion-fits d vars entries b.assertion fit are fine;
    names = weaker _ (stated-names d vars test entries b.assertion fit are opens fine);
  }

  pub optional-fits : (b : Option Bracketed) → stated_fault d entries b ≡ None → StatedFits d.vocabulary.types vars MayBe (stated_or_true d entries b)
  optional-fits None none = left-out
  optional-fits (Some b) none = in-brackets b none

-- ---- calls

module _ (basis : Basis) (frame : Frame) (qs : List Procedure) (st : Stands basis frame qs) where
  abbrev types : List TypeEntry
  types = types_of basis

  abbrev vars : List VarEntry
  vars = frame.vars

  abbrev procs : List ProcEntry
  procs = map (typed_procedure basis) qs

  module _ (call : Call) (none : parts_fault basis frame call ≡ None) where
    call-none : call_fault basis.procedures vars call ≡ None
    unfolding parts_fault
    call-none = (both (call_fault basis.procedures vars call) _ none).0

    keep-none : stated_fault basis.declared (keep_sight frame call) call.keep ≡ None
    unfolding parts_fault
    keep-none = (both (call_fault basis.procedures vars call) _ none).1

    callee : IsCallee types qs basis.procedures call.callee.bytes
    callee = callee-is types qs basis.procedures st.procedures call.callee.bytes (is-called basis.procedures vars call call-none)

    abbrev q : Procedure
    q = callee.procedure

    fine : IsFine basis.procedures vars call (signature_of types q)
    fine = is-fine basis.procedures vars call call-none (signature_of types q) callee.signature

    results : AreResults vars [] (kinds_of types (map (variables.variable_of types) q.results)) call.results
    results =
        results-are vars (signature_of types q) [] [] (map (formal_of types) q.results) _ call.results refl refl (declares-parameters types q.results)
        fine.result_count fine.results

    handed : IsHanded vars call (typed_procedure basis q)
    unfolding heading_of
    handed =
        handed-fit basis q vars call results.kinds
        (arguments-are vars [] (map (formal_of types) q.parameters) _ call.arguments (declares-parameters types q.parameters) fine.arg_count fine.args)
        (arguments-are vars [] (map (logic_formal_of types) q.logics) _ call.logics (declares-logics types q.logics) fine.logic_count fine.logics)

    keep-open : AreOpen (has_none vars (touched vars call)) (keep_sight frame call)
    keep-open =
        nones-open vars (touched vars call) (keep_sight frame call) (allow-each vars false frame.stated (touched vars call) st.named)
        (taken-each frame.stated (touched vars call) st.distinct)

    left-alone : (v : VarId) → IsPassed vars (has_none vars (touched vars call)) v →
        IsApart vars (map (calls.variable_of vars) call.results) (cells_in vars (map (actual_of vars) call.arguments)) v
    left-alone v passed =
        untouched vars call.results call.arguments results.stand
        (arguments-stand vars [] (map (formal_of types) q.parameters) _ call.arguments (declares-parameters types q.parameters) fine.arg_count fine.args)
        v passed

    pub call-fits : CallFits types procs vars (parts_of basis frame call)
    unfolding parts_of call_of
    call-fits = record {
      callee = typed_procedure basis q;
      there =
          ap (λ o. slice_get procs (unwrap_or o 0)) callee.named ∙ slice_get-map (typed_procedure basis) qs callee.number
          ∙ ap (option_map (typed_procedure basis)) callee.at;
      results = handed.results;
      args = handed.args;
      logics = handed.logics;
      results_once = results.once;
      cells_once =
          (cells-once vars [] (map (formal_of types) q.parameters) _ call.arguments (declares-parameters types q.parameters) fine.arg_count fine.args).once;
      keep =
          optional-fits basis.declared vars (has_none vars (touched vars call)) (keep_sight frame call) st.fit
          (allowed-variables vars false frame.stated (touched vars call) st.stated) keep-open _
          (λ v passed. let alone = left-alone v passed in record { no_result = alone.no_result; no_cell = alone.no_cell })
          call.keep keep-none;
    }

  -- ---- statements, form by form

  all-map : {Part : Type 0} (whole : Part → Stmt) (P : Stmt → Type 0) (parts : List Part) → AllByRecursion (λ p. P (whole p)) parts ≡ AllByRecursion P
      (map whole parts)
  all-map whole P [] = refl
  all-map whole P (part ∷ parts) = ap (λ (M : Type 0). P (whole part) × M) (all-map whole P parts)

  abbrev Node : (Part : Type 0) → (Part → Stmt) → (Part → Type 0) → Stmt-F Part → Type 0
  Node = StatementFitsNode types procs vars

  abbrev Fit : Stmt → Type 0
  Fit = StatementFits types procs vars

  natural : (Part : Type 0) (whole : Part → Stmt) (fits : Stmt → Type 0) (x : Stmt-F Part) →
      Node Part whole (λ p. fits (whole p)) x ≡ Node Stmt (λ s. s) fits (map-Stmt Part Stmt whole x)
  natural Part whole fits Stmt-F.Skip = refl
  natural Part whole fits (Stmt-F.Do line a) = refl
  natural Part whole fits (Stmt-F.If line c first other) =
      ap₂ (λ (M N : Type 0). CondFits types vars c × M × N) (all-map whole fits first) (all-map whole fits other)
  natural Part whole fits (Stmt-F.While place c invariant body) =
      ap (λ (M : Type 0). CondFits types vars c × AssertionFits types vars invariant × M) (all-map whole fits body)
  natural Part whole fits (Stmt-F.Split place a) = refl
  natural Part whole fits (Stmt-F.Call place call) = refl

  -- a statement of this form fits where its parts do
  by-form : (s : Stmt) (x : Stmt-F Stmt) → roll-Stmt x ≡ s → Node Stmt (λ t. t) Fit x → Fit s
  by-form s x e = transport (λ i. sym (ap Fit (sym e) ∙ rec-roll-Stmt (Type 0) Node natural x) i)

  do-fits : (line : ℕ) (a : Act) → ActFits types vars a → Fit (stmt.Do line a)
  do-fits line a fits = by-form (stmt.Do line a) (Stmt-F.Do line a) (stmt.rolls-Do line a) fits

  IsFit : Statement → Type 0
  IsFit s = statement_fault basis frame s ≡ None → Fit (typed_statement basis frame s)

  abbrev faults : Statement → Fault
  faults = statement_fault basis frame

  abbrev typings : Statement → Stmt
  typings = typed_statement basis frame

  each-fits : (block : List ((s : Statement) × IsFit s)) → block_rule (map faults (map (λ e. e.0) block)) ≡ None →
      AllByRecursion Fit (map typings (map (λ e. e.0) block))
  unfolding IsFit
  each-fits [] none = tt
  each-fits (e ∷ block) none = let parts = both _ _ none in (e.1 parts.0, each-fits block parts.1)

  node-fits : (y : Statement-F ((s : Statement) × IsFit s)) →
      fault_rules basis frame (map-Statement Statement Fault faults (map-Statement ((s : Statement) × IsFit s) Statement (λ e. e.0) y)) ≡ None →
      Fit (typing_rules basis frame (map-Statement Statement Stmt typings (map-Statement ((s : Statement) × IsFit s) Statement (λ e. e.0) y)))
  node-fits (Statement-F.Skip place) none = by-form stmt.Skip Stmt-F.Skip stmt.rolls-Skip tt
  node-fits (Statement-F.If place c first None) none =
      let parts = both _ _ none in
      let more = both _ _ parts.1 in
      by-form _ (Stmt-F.If place.line (typed_condition types frame.code c) _ _) (stmt.rolls-If _ _ _ _)
      (condition-fits types vars frame.code st.code c parts.0, each-fits first more.0, tt)
  node-fits (Statement-F.If place c first (Some other)) none =
      let parts = both _ _ none in
      let more = both _ _ parts.1 in
      by-form _ (Stmt-F.If place.line (typed_condition types frame.code c) _ _) (stmt.rolls-If _ _ _ _)
      (condition-fits types vars frame.code st.code c parts.0, each-fits first more.0, each-fits other more.1)
  node-fits (Statement-F.While place c invariant body) none =
      let parts = both _ _ none in
      let more = both _ _ parts.1 in
      by-form _ (Stmt-F.While place (typed_condition types frame.code c) (stated basis.declared frame.stated invariant) _) (stmt.rolls-While _ _ _ _) (
        condition-fits types vars frame.code st.code c parts.0,
        bracketed-fits basis.declared vars frame.stated st.fit st.stated invariant more.0,
        each-fits body more.1,
      )
  node-fits (Statement-F.Split place b) none =
      by-form _ (Stmt-F.Split place (stated basis.declared frame.stated b)) (stmt.rolls-Split _ _)
      (bracketed-fits basis.declared vars frame.stated st.fit st.stated b none)
  node-fits (Statement-F.Assert place b) none =
      do-fits place.line (act.Assert (stated basis.declared frame.stated b)) (bracketed-fits basis.declared vars frame.stated st.fit st.stated b none)
  node-fits (Statement-F.Free place x) none = do-fits place.line (free_of frame.code x) (free-fits types vars frame.code st.code x none)
  node-fits (Statement-F.Call call) none =
      by-form _ (Stmt-F.Call call.place (parts_of basis frame call)) (stmt.rolls-Call _ _) (call-fits call none)
  node-fits (Statement-F.Assign p equals v) none =
      do-fits p.base.place.line (assignment_of types frame.code p v) (assignment-fits types vars frame.code st.code p v none)

  statement-fits : (s : Statement) → IsFit s
  unfolding IsFit
  statement-fits = ind-Statement IsFit (λ x y is none.
      subst Fit (sym (typed_form basis frame _ x refl))
      (subst (λ z. fault_rules basis frame (map-Statement Statement Fault faults z) ≡ None →
      Fit (typing_rules basis frame (map-Statement Statement Stmt typings z))) is (node-fits y)
      (sym (fault_form basis frame _ x refl) ∙ none)))

  pub block-fits : (block : List Statement) → block_fault basis frame block ≡ None →
      AllByRecursion (StatementFits types procs vars) (typed_block basis frame block)
  unfolding IsFit
  block-fits [] none = tt
  block-fits (s ∷ block) none = let parts = both _ _ none in (statement-fits s parts.0, block-fits block parts.1)
