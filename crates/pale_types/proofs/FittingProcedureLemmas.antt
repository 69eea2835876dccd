-- Procedures without a fault fit.
use Rattle.std.proofs.Common.{◌≡◌, ◌≤◌, ◌<◌, ℕ, true, false, not, IsTrue, nat_lt, List, [], ◌∷◌, ◌++◌, length, map, Option, Some, None}
use Rattle.std.proofs.Common.{IsSome, is_some, unwrap_or}
use Rattle.std.proofs.Common.{refl, sym, ap, ◌∙◌, subst, arith, append_assoc, append-nil, length-append}
use Rattle.std.specs.List.{AllByRecursion}
use Rattle.std.specs.Option.{option_map}
use Rattle.std.proofs.lemmas.List.{length-map, length_push, map-append}
use Rattle.pale_syntax.specs.declared.tree.names.Name.{Name}
use Rattle.pale_syntax.specs.declared.tree.declaration.Parameter.{Parameter}
use Rattle.pale_syntax.specs.declared.tree.declaration.Parameter.TheVariants as parameter
use Rattle.pale_syntax.specs.declared.tree.declaration.LogicParameter.{LogicParameter}
use Rattle.pale_syntax.specs.declared.tree.declaration.LogicParameter.TheVariants as logic
use Rattle.pale_syntax.specs.declared.tree.declaration.Procedure.{Procedure}
use Rattle.store_core.specs.declared.ids.TypeId.{TypeId}
use Rattle.store_core.specs.Tables.{TypeEntry, VarEntry, KnowsType, KnowsVarKind, AreDistinct, type_names, var_names, place_of}
use Rattle.store_logic.specs.Fits.{KnowsVars}
use Rattle.store_logic.specs.FitsCode.{code_sort}
use Rattle.store_logic.proofs.ExpandingLists.{all-append}
use Rattle.pale_tables.proofs.KnownRoutes.{both, needed, position-within}
use Rattle.pale_vocabulary.specs.Parameters.{type_of, type_fault}
use Rattle.pale_fitting.specs.Declaring.{DeclarationsFit}
use Rattle.pale_calls.specs.Classes.{class_of, is_logic}
use Rattle.pale_procedures.specs.declared.basis.Basis.{Basis}
use Rattle.pale_sights.specs.declared.sights.Heading.{Heading}
use Rattle.pale_sights.specs.declared.sights.Frame.{Frame}
use Rattle.pale_sights.specs.Variables.{name_of, kind_of, variable_of, logic_name_of, logic_kind_of, logic_of, name_fault, variable_fault, kind_fault}
use Rattle.pale_sights.specs.Variables.{logic_fault, logic_kind_fault, variables_fault, logics_fault, with_names, with_logic_names}
use Rattle.pale_sights.specs.Formals.{named_of}
use Rattle.pale_sights.specs.Sights.{pre_sight, post_sight, vars_of}
use Rattle.pale_sights.specs.Framing.{IsBody, IsFrame}
use Rattle.pale_procedures.specs.Stated.{stated_fault}
use Rattle.pale_procedures.specs.Statements.{types_of, block_fault}
use Rattle.pale_sights.specs.Headings.{heading_of, locals_of, frame_in, result_names, heading_names, heading_fault}
use Rattle.pale_procedures.specs.Claims.{claims_fault}
use Rattle.pale_procedures.specs.Procedures.{typed_procedure, procedure_fault}
use Rattle.pale_typed.specs.Fitting.{ProcFits}
use Rattle.pale_sights.proofs.SightLemmas.{seen-outside}
use Rattle.pale_sights.proofs.HeadingLemmas.{body-is, frame-in}
use Rattle.pale_types.proofs.FittingStatementsLemmas.{Stands, optional-fits, block-fits}
use Rattle.pale_sights.proofs.FittingSightLemmas.{in_pre, in_post, pre-open, post-open, body-named, body-code, in-order, three-numbered}
use Rattle.pale_sights.proofs.FittingSightLemmas.{last-numbered, pre-contains, post-contains}

abbrev numbered : ℕ → TypeId
numbered i = record { 0 = i }

-- ---- how many names

name-few : (before : List (List ℕ)) (x : Name) → name_fault before x ≡ None → length before < 64
unfolding name_fault
name-few before x none = let lt : nat_lt (length before) 64 ≡ true = needed _ _ _ (both _ _ none).0 in grind arith

module _ (types : List TypeEntry) where
  variables-few : (before : List (List ℕ)) (ps : List Parameter) → variables_fault types before ps ≡ None → length before ≤ 64 →
      length (with_names before ps) ≤ 64
  unfolding variable_fault
  variables-few before [] none few = subst (λ (l : List (List ℕ)). length l ≤ 64) (sym (append-nil before)) few
  variables-few before (p ∷ ps) none few =
      let parts = both (variable_fault types before p) _ none in
      let less = name-few before (name_of p) (both _ _ parts.0).0 in
      subst (λ (l : List (List ℕ)). length l ≤ 64) (append_assoc before ((name_of p).bytes ∷ []) (map (λ q. (name_of q).bytes) ps))
      (variables-few (before ++ (name_of p).bytes ∷ []) ps parts.1 (omega (arith, less, length_push before (name_of p).bytes)))

  logics-few : (before : List (List ℕ)) (ps : List LogicParameter) → logics_fault types before ps ≡ None → length before ≤ 64 →
      length (with_logic_names before ps) ≤ 64
  unfolding logic_fault
  logics-few before [] none few = subst (λ (l : List (List ℕ)). length l ≤ 64) (sym (append-nil before)) few
  logics-few before (p ∷ ps) none few =
      let parts = both (logic_fault types before p) _ none in
      let less = name-few before (logic_name_of p) (both _ _ parts.0).0 in
      subst (λ (l : List (List ℕ)). length l ≤ 64) (append_assoc before ((logic_name_of p).bytes ∷ []) (map (λ q. (logic_name_of q).bytes) ps))
      (logics-few (before ++ (logic_name_of p).bytes ∷ []) ps parts.1 (omega (arith, less, length_push before (logic_name_of p).bytes)))

  -- ---- kinds

  type-known : (ty : Name) → type_fault types ty ≡ None → KnowsType types (type_of types ty)
  unfolding type_fault type_of
  type-known ty none = by (place_of ty.bytes (type_names types)) refl (needed _ _ _ none)
    where
      by : (o : Option ℕ) → place_of ty.bytes (type_names types) ≡ o → is_some (option_map numbered o) ≡ true →
          KnowsType types (unwrap_or (option_map numbered o) (record { 0 = 0 }))
      by None at some = absurd cc
      by (Some i) at some = let low = position-within _ (type_names types) i at in omega (arith, low, length-map types (λ (t : TypeEntry). t.name))

  kind-known : (p : Parameter) → kind_fault types p ≡ None → KnowsVarKind types (kind_of types p)
  unfolding kind_fault
  kind-known (parameter.Data name ty) none = type-known ty none
  kind-known (parameter.Pointer name ty) none = type-known ty none
  kind-known (parameter.Bool name) none = tt

  logic-known : (p : LogicParameter) → logic_kind_fault types p ≡ None → KnowsVarKind types (logic_kind_of types p)
  unfolding logic_kind_fault
  logic-known (logic.Set name ty) none = type-known ty none
  logic-known (logic.Bool name) none = tt

  variables-known : (before : List (List ℕ)) (ps : List Parameter) → variables_fault types before ps ≡ None → KnowsVars types (map (variable_of types) ps)
  unfolding variable_fault
  variables-known before [] none = tt
  variables-known before (p ∷ ps) none =
      let parts = both (variable_fault types before p) _ none in
      (kind-known p (both _ _ parts.0).1, variables-known (before ++ (name_of p).bytes ∷ []) ps parts.1)

  logics-known : (before : List (List ℕ)) (ps : List LogicParameter) → logics_fault types before ps ≡ None → KnowsVars types (map (logic_of types) ps)
  unfolding logic_fault
  logics-known before [] none = tt
  logics-known before (p ∷ ps) none =
      let parts = both (logic_fault types before p) _ none in
      (logic-known p (both _ _ parts.0).1, logics-known (before ++ (logic_name_of p).bytes ∷ []) ps parts.1)

  parameters-code : (ps : List Parameter) → AllByRecursion (λ entry. IsSome (code_sort entry.kind)) (map (variable_of types) ps)
  parameters-code [] = tt
  parameters-code (parameter.Data name ty ∷ ps) = (refl, parameters-code ps)
  parameters-code (parameter.Pointer name ty ∷ ps) = (refl, parameters-code ps)
  parameters-code (parameter.Bool name ∷ ps) = (refl, parameters-code ps)

  parameters-program : (ps : List Parameter) → AllByRecursion (λ entry. IsTrue (not (is_logic (class_of entry.kind)))) (map (variable_of types) ps)
  parameters-program [] = tt
  parameters-program (parameter.Data name ty ∷ ps) = (refl, parameters-program ps)
  parameters-program (parameter.Pointer name ty ∷ ps) = (refl, parameters-program ps)
  parameters-program (parameter.Bool name ∷ ps) = (refl, parameters-program ps)

  logics-logic : (ps : List LogicParameter) → AllByRecursion (λ entry. IsTrue (is_logic (class_of entry.kind))) (map (logic_of types) ps)
  logics-logic [] = tt
  logics-logic (logic.Set name ty ∷ ps) = (refl, logics-logic ps)
  logics-logic (logic.Bool name ∷ ps) = (refl, logics-logic ps)

-- ---- procedures

module _ (basis : Basis) (qs : List Procedure) (fit : DeclarationsFit basis.declared) (procedures : basis.procedures ≡ map (named_of (types_of basis)) qs)
    (q : Procedure) (none : procedure_fault basis q ≡ None) where
  abbrev types : List TypeEntry
  types = types_of basis

  abbrev h : Heading
  h = heading_of types q

  abbrev locals : List VarEntry
  locals = locals_of types q

  abbrev frame : Frame
  frame = frame_in types q

  heading-none : heading_fault types q ≡ None
  unfolding procedure_fault
  heading-none = (both (heading_fault types q) _ none).0

  claims-none : claims_fault basis.declared h q ≡ None
  unfolding procedure_fault
  claims-none = (both (claims_fault basis.declared h q) _ (both (heading_fault types q) _ none).1).0

  locals-none : variables_fault types (heading_names q) q.locals ≡ None
  unfolding procedure_fault
  locals-none =
      (both (variables_fault types (heading_names q) q.locals) _ (both (claims_fault basis.declared h q) _ (both (heading_fault types q) _ none).1).1).0

  body-none : block_fault basis frame q.body ≡ None
  unfolding procedure_fault
  body-none =
      (both (variables_fault types (heading_names q) q.locals) _ (both (claims_fault basis.declared h q) _ (both (heading_fault types q) _ none).1).1).1

  pre-none : stated_fault basis.declared (pre_sight h) q.pre ≡ None
  unfolding claims_fault
  pre-none = (both (stated_fault basis.declared (pre_sight h) q.pre) _ claims-none).0

  post-none : stated_fault basis.declared (post_sight h) q.post ≡ None
  unfolding claims_fault
  post-none = (both (stated_fault basis.declared (pre_sight h) q.pre) _ claims-none).1

  -- what is declared has no fault
  record IsDeclared : Type 0 where
    params : variables_fault types [] q.parameters ≡ None
    results : variables_fault types (with_names [] q.parameters) q.results ≡ None
    logics : logics_fault types (result_names q) q.logics ≡ None

  declared : IsDeclared
  unfolding heading_fault
  declared =
      let first = both (variables_fault types [] q.parameters) _ heading-none in
      let second = both (variables_fault types (with_names [] q.parameters) q.results) _ first.1 in
      record { params = first.0; results = second.0; logics = second.1 }

  count : h.locals ≡ length locals
  unfolding heading_of
  count = sym (length-map q.locals (variable_of types))

  standing : IsFrame frame
  standing = frame-in types q heading-none h locals refl refl locals-none

  named : IsBody h locals
  named = body-is types q heading-none h locals refl refl locals-none

  table-names : var_names (vars_of h locals) ≡ var_names h.params ++ var_names h.results ++ var_names locals ++ var_names h.logics
  table-names =
      map-append (λ (v : VarEntry). v.name) (h.params ++ h.results ++ locals) h.logics
      ∙ ap (λ names. names ++ var_names h.logics)
      (map-append (λ (v : VarEntry). v.name) (h.params ++ h.results) locals
      ∙ ap (λ names. names ++ var_names locals) (map-append (λ (v : VarEntry). v.name) h.params h.results))

  table-few : length (vars_of h locals) ≤ 64
  unfolding heading_of
  table-few =
      let d = declared in
      let one = variables-few types [] q.parameters d.params (omega arith) in
      let two = variables-few types (with_names [] q.parameters) q.results d.results one in
      let three = logics-few types (result_names q) q.logics d.logics two in
      let all : length (with_names (heading_names q) q.locals) ≤ 64 = variables-few types (heading_names q) q.locals locals-none three in
      let a = map (variable_of types) q.parameters in
      let b = map (variable_of types) q.results in
      omega (
        arith,
        all,
        length-append (heading_names q) (map (λ p. (name_of p).bytes) q.locals),
        length-append (result_names q) (map (λ p. (logic_name_of p).bytes) q.logics),
        length-append (with_names [] q.parameters) (map (λ p. (name_of p).bytes) q.results),
        length-map q.locals (λ p. (name_of p).bytes),
        length-map q.logics (λ p. (logic_name_of p).bytes),
        length-map q.results (λ p. (name_of p).bytes),
        length-map q.parameters (λ p. (name_of p).bytes),
        length-append (a ++ b ++ locals) (map (logic_of types) q.logics),
        length-append (a ++ b) locals,
        length-append a b,
        length-map q.parameters (variable_of types),
        length-map q.results (variable_of types),
        length-map q.locals (variable_of types),
        length-map q.logics (logic_of types),
      )

  table-known : KnowsVars types (vars_of h locals)
  unfolding heading_of
  table-known =
      let d = declared in
      all-append (λ (e : VarEntry). KnowsVarKind types e.kind) (h.params ++ h.results ++ locals) h.logics
      (all-append (λ (e : VarEntry). KnowsVarKind types e.kind) (h.params ++ h.results) locals
      (all-append (λ (e : VarEntry). KnowsVarKind types e.kind) h.params h.results (variables-known types [] q.parameters d.params)
      (variables-known types (with_names [] q.parameters) q.results d.results))
      (variables-known types (heading_names q) q.locals locals-none))
      (logics-known types (result_names q) q.logics d.logics)

  stands : Stands basis frame qs
  unfolding heading_of
  stands = record {
    fit = fit;
    stated = standing.stated;
    named = body-named h locals count;
    distinct = standing.names;
    code = body-code h locals count (parameters-code types q.parameters) (parameters-code types q.results) (parameters-code types q.locals);
    procedures = procedures;
  }

  pub procedure-fits : ProcFits types (map (typed_procedure basis) qs) (typed_procedure basis q)
  unfolding typed_procedure heading_of
  procedure-fits = record {
    few = table-few;
    names = subst AreDistinct (sym table-names) named;
    kinds = table-known;
    in_order = in-order h locals count;
    program_variables =
        three-numbered h locals count (λ k. IsTrue (not (is_logic (class_of k)))) (parameters-program types q.parameters) (parameters-program types q.results)
        (parameters-program types q.locals);
    logic_variables = last-numbered h locals count (λ k. IsTrue (is_logic (class_of k))) (logics-logic types q.logics);
    pre =
        optional-fits basis.declared (vars_of h locals) (in_pre h) (pre_sight h) fit
        (seen-outside h.params h.results locals h.logics true false h.locals count) (pre-open h) _ (pre-contains h locals count) q.pre pre-none;
    post =
        optional-fits basis.declared (vars_of h locals) (in_post h) (post_sight h) fit
        (seen-outside h.params h.results locals h.logics false true h.locals count) (post-open h) _ (post-contains h locals count) q.post post-none;
    body = block-fits basis frame qs stands q.body body-none;
  }
