-- A call without a fault fits: its callee is there, and what it hands over fits the callee's variables.
use Rattle.std.proofs.Common.{◌≡◌, ◌+◌, ◌==◌, ℕ, true, false, IsTrue, List, [], ◌∷◌, ◌++◌, length, map, slice_get}
use Rattle.std.proofs.Common.{Option, Some, None, is_some, IfSome, IsSomeAnd, unwrap_or, refl, sym, ap, ◌∙◌, subst, arith}
use Rattle.std.specs.List.{AllZip}
use Rattle.std.specs.Option.{option_map, option_map_or, option_and_then}
use Rattle.std.proofs.lemmas.Option.{slice_get-map}
use Rattle.std.proofs.lemmas.List.{length-map}
use Rattle.pale_text.specs.declared.refusal.RefusalKind.TheVariants as refused
use Rattle.pale_syntax.specs.declared.tree.statement.Call.{Call}
use Rattle.pale_syntax.specs.declared.tree.declaration.Parameter.{Parameter}
use Rattle.pale_syntax.specs.declared.tree.declaration.Parameter.TheVariants as parameter
use Rattle.pale_syntax.specs.declared.tree.declaration.LogicParameter.{LogicParameter}
use Rattle.pale_syntax.specs.declared.tree.declaration.LogicParameter.TheVariants as logic
use Rattle.pale_syntax.specs.declared.tree.declaration.Procedure.{Procedure}
use Rattle.store_core.specs.declared.ids.TypeId.{TypeId}
use Rattle.store_core.specs.declared.ids.VarId.{VarId}
use Rattle.store_core.specs.declared.kind.VarKind.{VarKind}
use Rattle.store_core.specs.Tables.{TypeEntry, VarEntry, type_named}
use Rattle.pale_tables.specs.Faults.{need}
use Rattle.pale_tables.proofs.KnownRoutes.{both, needed}
use Rattle.pale_fitting.proofs.TermFitLemmas.{and-parts}
use Rattle.pale_vocabulary.specs.Parameters.{type_of}
use Rattle.pale_calls.specs.declared.signature.Signature.{Signature}
use Rattle.pale_calls.specs.declared.actual.Actual.{Actual}
use Rattle.pale_calls.specs.declared.actual.Actual.TheVariants as actual
use Rattle.pale_calls.specs.Classes.{class_of, holds_cell, holds_truth}
use Rattle.pale_calls.specs.Signatures.{Named, number_of}
use Rattle.pale_calls.specs.Calls as calls
use Rattle.pale_calls.specs.Calls.{callee_named, call_fault, results_fault, handed_fault, arguments_fault, has_counts, actual_of}
use Rattle.pale_procedures.specs.declared.basis.Basis.{Basis}
use Rattle.pale_typed.specs.declared.typed.ProcEntry.{ProcEntry}
use Rattle.pale_sights.specs.Variables as variables
use Rattle.pale_sights.specs.Formals.{formal_of, logic_formal_of, signature_of, named_of}
use Rattle.pale_sights.specs.Sights.{numbers, first_result, first_logic, vars_of}
use Rattle.pale_procedures.specs.Statements.{types_of}
use Rattle.pale_sights.specs.Headings.{heading_of, locals_of}
use Rattle.pale_procedures.specs.Procedures.{typed_procedure}
use Rattle.pale_typed.specs.Variables.{kind_at, IsLike, ActualFits}
use Rattle.pale_sights.proofs.FittingSightLemmas.{middle-at, further, one-more, first-part, last-part, last-number}
use Rattle.pale_sights.proofs.FittingCallsLemmas.{Declares, IsActualOf, IsOfKind}

-- ---- what is declared

module _ (types : List TypeEntry) where
  type-declared : (o : Option TypeId) → IfSome o (λ t. Some (unwrap_or o (record { 0 = 0 })) ≡ Some t)
  type-declared None = tt
  type-declared (Some t) = refl

  declares-parameter : (p : Parameter) → Declares (formal_of types p) (variables.kind_of types p)
  unfolding type_of
  declares-parameter (parameter.Data name ty) = record { class = refl; ty = type-declared (type_named types ty.bytes) }
  declares-parameter (parameter.Pointer name ty) = record { class = refl; ty = type-declared (type_named types ty.bytes) }
  declares-parameter (parameter.Bool name) = record { class = refl; ty = tt }

  declares-logic : (p : LogicParameter) → Declares (logic_formal_of types p) (variables.logic_kind_of types p)
  unfolding type_of
  declares-logic (logic.Set name ty) = record { class = refl; ty = type-declared (type_named types ty.bytes) }
  declares-logic (logic.Bool name) = record { class = refl; ty = tt }

  abbrev pub kinds_of : List VarEntry → List VarKind
  kinds_of vars = map (λ e. e.kind) vars

  pub declares-parameters : (ps : List Parameter) → AllZip Declares (map (formal_of types) ps) (kinds_of (map (variables.variable_of types) ps))
  declares-parameters [] = tt
  declares-parameters (p ∷ ps) = (declares-parameter p, declares-parameters ps)

  pub declares-logics : (ps : List LogicParameter) → AllZip Declares (map (logic_formal_of types) ps) (kinds_of (map (variables.logic_of types) ps))
  declares-logics [] = tt
  declares-logics (p ∷ ps) = (declares-logic p, declares-logics ps)

-- ---- the variables of a part of the callee's table

module _ {X : Type 0} (theirs : List VarEntry) (R : X → VarKind → Type 0) (Q : X → VarId → Type 0)
    (so : (x : X) (k : VarKind) (u : VarId) → kind_at theirs u ≡ Some k → R x k → Q x u) where
  zip-numbers : (front part back : List VarEntry) (number : ℕ) (xs : List X) → theirs ≡ front ++ (part ++ back) → number ≡ length front →
      AllZip R xs (map (λ e. e.kind) part) → AllZip Q xs (numbers number part)
  zip-numbers front [] back number [] whole is all = tt
  zip-numbers front [] back number (x ∷ xs) whole is all = absurd all
  zip-numbers front (e ∷ part) back number [] whole is all = absurd all
  zip-numbers front (e ∷ part) back number (x ∷ xs) whole is all = (
    so x e.kind (record { 0 = number }) (ap (option_map (λ (d : VarEntry). d.kind)) (middle-at theirs front (part ++ back) e number whole is)) all.0,
    zip-numbers (front ++ e ∷ []) part back (number + 1) xs (further theirs front back e part whole) (one-more front e number is) all.1,
  )

module _ (vars theirs : List VarEntry) where
  actual-fits : (a : Actual) (k : VarKind) (u : VarId) → kind_at theirs u ≡ Some k → IsActualOf vars a k → ActualFits vars theirs a u
  actual-fits (actual.Var v) k u there is = record { kind = k; own = is; other = there }
  actual-fits actual.Null k u there is = subst (λ (o : Option VarKind). IsSomeAnd o (λ kind. IsTrue (holds_cell (class_of kind)))) (sym there) is
  actual-fits (actual.Truth truth) k u there is = subst (λ (o : Option VarKind). IsSomeAnd o (λ kind. IsTrue (holds_truth (class_of kind)))) (sym there) is

  pub actuals-fit : (front part back : List VarEntry) (number : ℕ) (xs : List Actual) → theirs ≡ front ++ (part ++ back) → number ≡ length front →
      AllZip (IsActualOf vars) xs (map (λ e. e.kind) part) → AllZip (ActualFits vars theirs) xs (numbers number part)
  actuals-fit = zip-numbers theirs (IsActualOf vars) (ActualFits vars theirs) actual-fits

  pub results-fit : (front part back : List VarEntry) (number : ℕ) (xs : List VarId) → theirs ≡ front ++ (part ++ back) → number ≡ length front →
      AllZip (IsOfKind vars) xs (map (λ e. e.kind) part) → AllZip (IsLike vars theirs) xs (numbers number part)
  results-fit = zip-numbers theirs (IsOfKind vars) (IsLike vars theirs) (λ v k u there is. record { kind = k; own = is; other = there })

-- ---- the callee

-- the procedure that is called
pub record IsCallee (types : List TypeEntry) (qs : List Procedure) (procedures : List Named) (name : List ℕ) : Type 0 where
  pub procedure : Procedure
  pub number : ℕ
  pub named : number_of procedures name ≡ Some number
  pub at : slice_get qs number ≡ Some procedure
  pub signature : callee_named procedures name ≡ Some (signature_of types procedure)

module _ (types : List TypeEntry) (qs : List Procedure) (procedures : List Named) (are : procedures ≡ map (named_of types) qs) where
  abbrev signature_at : Option ℕ → Option Signature
  signature_at o = option_and_then (λ n. option_map (λ p. p.signature) (slice_get procedures n)) o

  pub callee-is : (name : List ℕ) → is_some (callee_named procedures name) ≡ true → IsCallee types qs procedures name
  callee-is name some = by (number_of procedures name) refl some
    where
      there : (n : ℕ) → slice_get procedures n ≡ option_map (named_of types) (slice_get qs n)
      there n = ap (λ (ps : List Named). slice_get ps n) are ∙ slice_get-map (named_of types) qs n

      at_number : (n : ℕ) → number_of procedures name ≡ Some n → (o : Option Procedure) → slice_get qs n ≡ o →
          is_some (option_map (λ (p : Named). p.signature) (option_map (named_of types) o)) ≡ true → IsCallee types qs procedures name
      at_number n named None at found = absurd cc
      at_number n named (Some q) at found = record {
        procedure = q;
        number = n;
        named = named;
        at = at;
        signature = ap signature_at named ∙ ap (option_map (λ (p : Named). p.signature)) (there n ∙ ap (option_map (named_of types)) at);
      }

      by : (o : Option ℕ) → number_of procedures name ≡ o → is_some (signature_at o) ≡ true → IsCallee types qs procedures name
      by None named found = absurd cc
      by (Some n) named found =
          at_number n named (slice_get qs n) refl (sym (ap (λ o. is_some (option_map (λ (p : Named). p.signature) o)) (there n)) ∙ found)

-- a call without a fault, where its callee has this signature
pub record IsFine (procedures : List Named) (vars : List VarEntry) (call : Call) (callee : Signature) : Type 0 where
  pub results : results_fault vars (Some callee) [] call.results ≡ None
  pub result_count : length call.results ≡ length callee.results
  pub args : arguments_fault vars [] callee.params call.arguments ≡ None
  pub arg_count : length call.arguments ≡ length callee.params
  pub logics : arguments_fault vars [] callee.logics call.logics ≡ None
  pub logic_count : length call.logics ≡ length callee.logics

same-count : (m n : ℕ) → (m == n) ≡ true → m ≡ n
same-count m n is = grind arith

module _ (procedures : List Named) (vars : List VarEntry) (call : Call) (none : call_fault procedures vars call ≡ None) where
  pub is-called : is_some (callee_named procedures call.callee.bytes) ≡ true
  unfolding call_fault
  is-called =
      by (callee_named procedures call.callee.bytes) (both (results_fault vars (callee_named procedures call.callee.bytes) [] call.results) _ none).1
    where
      by : (o : Option Signature) →
          option_map_or (λ callee. handed_fault vars callee call) o (need false refused.Unknown call.callee.place) ≡ None → is_some o ≡ true
      by None fault = absurd cc
      by (Some callee) fault = refl

  pub is-fine : (callee : Signature) → callee_named procedures call.callee.bytes ≡ Some callee → IsFine procedures vars call callee
  unfolding call_fault handed_fault
  is-fine callee is =
      let first = both (results_fault vars (callee_named procedures call.callee.bytes) [] call.results) _ none in
      let handed : handed_fault vars callee call ≡ None =
      sym (ap (λ o. option_map_or (λ c. handed_fault vars c call) o (need false refused.Unknown call.callee.place)) is) ∙ first.1 in
      let parts = both (need (has_counts callee call) refused.Arity call.callee.place) _ handed in
      let more = both (arguments_fault vars [] callee.params call.arguments) _ parts.1 in
      let counts = and-parts (length call.results == length callee.results) _ (needed _ _ _ parts.0) in
      let others = and-parts (length call.arguments == length callee.params) _ counts.1 in
      record {
        results = ap (λ o. results_fault vars o [] call.results) (sym is) ∙ first.0;
        result_count = same-count _ _ counts.0;
        args = more.0;
        arg_count = same-count _ _ others.0;
        logics = more.1;
        logic_count = same-count _ _ others.1;
      }

-- ---- the callee as it is typed

-- what a call without a fault hands over, beside what the callee is typed as
pub record IsHanded (vars : List VarEntry) (call : Call) (callee : ProcEntry) : Type 0 where
  pub results : AllZip (IsLike vars callee.vars) (map (calls.variable_of vars) call.results) callee.proc.results
  pub args : AllZip (ActualFits vars callee.vars) (map (actual_of vars) call.arguments) callee.proc.params
  pub logics : AllZip (ActualFits vars callee.vars) (map (actual_of vars) call.logics) callee.proc.logics

module _ (basis : Basis) (q : Procedure) (vars : List VarEntry) (call : Call) where
  abbrev types : List TypeEntry
  types = types_of basis

  pub handed-fit : AllZip (IsOfKind vars) (map (calls.variable_of vars) call.results) (kinds_of types (heading_of types q).results) →
      AllZip (IsActualOf vars) (map (actual_of vars) call.arguments) (kinds_of types (heading_of types q).params) →
      AllZip (IsActualOf vars) (map (actual_of vars) call.logics) (kinds_of types (heading_of types q).logics) →
      IsHanded vars call (typed_procedure basis q)
  unfolding typed_procedure heading_of
  handed-fit results args logics =
      let h = heading_of types q in
      let locals = locals_of types q in
      let count = length-map q.locals (variables.variable_of types) in
      record {
        results = results-fit vars (vars_of h locals) h.params h.results (locals ++ h.logics) (first_result h) _
            (first-part h.params h.results locals h.logics) refl results;
        args = actuals-fit vars (vars_of h locals) [] h.params (h.results ++ (locals ++ h.logics)) 0 _
            (first-part h.params h.results locals h.logics) refl args;
        logics = actuals-fit vars (vars_of h locals) (h.params ++ h.results ++ locals) h.logics [] (first_logic h) _
            (last-part h.params h.results locals h.logics) (last-number h locals (sym count)) logics;
      }
