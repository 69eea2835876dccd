-- The names of a procedure's variables stand once, and what its body sees is a frame.
use Rattle.std.proofs.Common.{◌≡◌, List, [], ◌++◌, None, length, map, sym, ap, ◌∙◌, subst}
use Rattle.std.proofs.lemmas.List.{length-map}
use Rattle.store_core.specs.Tables.{TypeEntry, VarEntry, AreDistinct, var_names}
use Rattle.pale_syntax.specs.declared.tree.declaration.Procedure.{Procedure}
use Rattle.pale_tables.proofs.KnownRoutes.{both}
use Rattle.pale_sights.specs.declared.sights.Heading.{Heading}
use Rattle.pale_sights.specs.Variables.{name_of, logic_name_of, variable_of, variables_fault, with_names}
use Rattle.pale_sights.specs.Sights.{frame_of}
use Rattle.pale_sights.specs.Framing.{IsHeading, IsBody, IsFrame}
use Rattle.pale_sights.specs.Headings.{heading_of, locals_of, result_names, heading_names, heading_fault}
use Rattle.pale_sights.proofs.DistinctLemmas.{distinct-exchanged}
use Rattle.pale_sights.proofs.VariableLemmas.{variables-new, logics-new, variable-names, logic-names}
use Rattle.pale_sights.proofs.SightLemmas.{frame-is}

module _ (types : List TypeEntry) (p : Procedure) (none : heading_fault types p ≡ None) where
  names-once : AreDistinct (heading_names p)
  unfolding heading_fault
  names-once =
      let first = both (variables_fault types [] p.parameters) _ none in
      let second = both (variables_fault types (with_names [] p.parameters) p.results) _ first.1 in
      logics-new types (result_names p) p.logics second.1
      (variables-new types (with_names [] p.parameters) p.results second.0 (variables-new types [] p.parameters first.0 tt))

  -- the names of the heading
  pub heading-is : (h : Heading) → h ≡ heading_of types p → IsHeading h
  unfolding heading_of
  heading-is h is =
      subst IsHeading (sym is)
      (subst AreDistinct
      (sym (ap (λ first. first ++ var_names (heading_of types p).results ++ var_names (heading_of types p).logics) (variable-names types p.parameters)
      ∙ ap (λ second. map (λ q. (name_of q).bytes) p.parameters ++ second ++ var_names (heading_of types p).logics) (variable-names types p.results)
      ∙ ap (λ third. map (λ q. (name_of q).bytes) p.parameters ++ map (λ q. (name_of q).bytes) p.results ++ third) (logic-names types p.logics)))
      names-once)

  -- with those of the locals
  pub body-is : (h : Heading) (locals : List VarEntry) → h ≡ heading_of types p → locals ≡ locals_of types p →
      variables_fault types (heading_names p) p.locals ≡ None → IsBody h locals
  unfolding heading_of
  body-is h locals is are fine =
      subst (λ g. IsBody g locals) (sym is)
      (subst (IsBody (heading_of types p)) (sym are)
      (subst AreDistinct
      (sym (ap (λ first. first ++ var_names (heading_of types p).results ++ var_names (locals_of types p) ++ var_names (heading_of types p).logics)
      (variable-names types p.parameters)
      ∙ ap (λ second. map (λ q. (name_of q).bytes) p.parameters ++ second ++ var_names (locals_of types p) ++ var_names (heading_of types p).logics)
      (variable-names types p.results)
      ∙ ap (λ third. map (λ q. (name_of q).bytes) p.parameters ++ map (λ q. (name_of q).bytes) p.results ++ third ++ var_names (heading_of types p).logics)
      (variable-names types p.locals)
      ∙ ap (λ fourth. map (λ q. (name_of q).bytes) p.parameters ++ map (λ q. (name_of q).bytes) p.results ++ map (λ q. (name_of q).bytes) p.locals ++ fourth)
      (logic-names types p.logics)))
      (distinct-exchanged (map (λ q. (name_of q).bytes) p.parameters ++ map (λ q. (name_of q).bytes) p.results)
      (map (λ q. (logic_name_of q).bytes) p.logics) (map (λ q. (name_of q).bytes) p.locals)
      (variables-new types (heading_names p) p.locals fine names-once))))

  pub frame-in : (h : Heading) (locals : List VarEntry) → h ≡ heading_of types p → locals ≡ locals_of types p →
      variables_fault types (heading_names p) p.locals ≡ None → IsFrame (frame_of h locals)
  unfolding heading_of
  frame-in h locals is are fine =
      frame-is h locals (body-is h locals is are fine)
      (ap (λ (g : Heading). g.locals) is ∙ sym (length-map p.locals (variable_of types)) ∙ ap length (sym are))
