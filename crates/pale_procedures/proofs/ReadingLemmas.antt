-- A procedure that is read part by part: its faults, and what it is typed as.
use Rattle.std.proofs.Common.{◌≡◌, ℕ, List, None, map, sym, ap, ◌∙◌, subst}
use Rattle.store_core.specs.Tables.{VarEntry}
use Rattle.pale_text.specs.declared.refusal.TextStop.{TextStop}
use Rattle.pale_syntax.specs.declared.tree.declaration.Parameter.{Parameter}
use Rattle.pale_syntax.specs.declared.tree.declaration.Procedure.{Procedure}
use Rattle.pale_tables.specs.Faults.{IsStop}
use Rattle.pale_tables.proofs.FaultLemmas.{stop-then, stop-after, none-then}
use Rattle.pale_procedures.specs.declared.basis.Basis.{Basis}
use Rattle.pale_sights.specs.declared.sights.Heading.{Heading}
use Rattle.pale_sights.specs.declared.sights.Frame.{Frame}
use Rattle.pale_procedures.specs.declared.claims.Claims.{Claims}
use Rattle.pale_sights.specs.declared.headings.Lists.{Lists}
use Rattle.pale_typed.specs.declared.typed.ProcEntry.{ProcEntry}
use Rattle.pale_sights.specs.Variables.{variable_of, variables_fault}
use Rattle.pale_sights.specs.Sights.{frame_of}
use Rattle.pale_sights.specs.Framing.{IsBody, IsFrame}
use Rattle.pale_procedures.specs.Statements.{types_of, block_fault}
use Rattle.pale_sights.specs.Headings.{heading_of, locals_of, heading_names, heading_fault, frame_in, lists_of}
use Rattle.pale_procedures.specs.Claims.{claims_fault, claims_of}
use Rattle.pale_procedures.specs.Procedures.{entry_of}
use Rattle.pale_procedures.specs.Procedures.{typed_procedure, procedure_fault}
use Rattle.pale_sights.proofs.HeadingLemmas.{body-is, frame-in}

module _ (basis : Basis) (p : Procedure) (none : heading_fault (types_of basis) p ≡ None) (h : Heading) (is : h ≡ heading_of (types_of basis) p) where
  -- a fault of `pre` or `post`
  pub claims-stop : (e : TextStop) → IsStop (claims_fault basis.declared h p) e → IsStop (procedure_fault basis p) e
  unfolding procedure_fault
  claims-stop e stop = stop-after _ _ e none (stop-then _ _ e (subst (λ (g : Heading). IsStop (claims_fault basis.declared g p) e) is stop))

  module _ (claimed : claims_fault basis.declared h p ≡ None) (before : List (List ℕ)) (ps : List Parameter) (named : before ≡ heading_names p)
      (same : ps ≡ p.locals) where
    claims-fine : claims_fault basis.declared (heading_of (types_of basis) p) p ≡ None
    claims-fine = ap (λ (g : Heading). claims_fault basis.declared g p) (sym is) ∙ claimed

    locals-named : variables_fault (types_of basis) before ps ≡ variables_fault (types_of basis) (heading_names p) p.locals
    locals-named =
        ap (λ (b : List (List ℕ)). variables_fault (types_of basis) b ps) named
        ∙ ap (λ (l : List Parameter). variables_fault (types_of basis) (heading_names p) l) same

    -- a fault of the locals
    pub locals-stop : (e : TextStop) → IsStop (variables_fault (types_of basis) before ps) e → IsStop (procedure_fault basis p) e
    unfolding procedure_fault
    locals-stop e stop =
        stop-after _ _ e none (stop-after _ _ e claims-fine (stop-then _ _ e (subst (λ fault. IsStop fault e) locals-named stop)))

    module _ (fine : variables_fault (types_of basis) before ps ≡ None) (locals : List VarEntry) (are : locals ≡ map (variable_of (types_of basis)) ps) where
      locals-fine : variables_fault (types_of basis) (heading_names p) p.locals ≡ None
      locals-fine = sym locals-named ∙ fine

      locals-are : locals ≡ locals_of (types_of basis) p
      locals-are = are ∙ ap (λ (l : List Parameter). map (variable_of (types_of basis)) l) same

      -- the names stand once
      pub body-named : IsBody h locals
      body-named = body-is (types_of basis) p none h locals is locals-are locals-fine

      module _ (frame : Frame) (made : frame ≡ frame_of h locals) where
        frame-made : frame ≡ frame_in (types_of basis) p
        frame-made =
            made ∙ ap (λ (g : Heading). frame_of g locals) is ∙ ap (λ (l : List VarEntry). frame_of (heading_of (types_of basis) p) l) locals-are

        pub frame-stands : IsFrame frame
        frame-stands = subst IsFrame (sym made) (frame-in (types_of basis) p none h locals is locals-are locals-fine)

        -- a fault of the statements
        pub body-stop : (e : TextStop) → IsStop (block_fault basis frame p.body) e → IsStop (procedure_fault basis p) e
        unfolding procedure_fault
        body-stop e stop =
            stop-after _ _ e none
            (stop-after _ _ e claims-fine
            (stop-after _ _ e locals-fine (subst (λ (f : Frame). IsStop (block_fault basis f p.body) e) frame-made stop)))

        -- no fault
        pub procedure-none : block_fault basis frame p.body ≡ None → procedure_fault basis p ≡ None
        unfolding procedure_fault
        procedure-none fault =
            none-then _ _ none
            (none-then _ _ claims-fine (none-then _ _ locals-fine (ap (λ (f : Frame). block_fault basis f p.body) (sym frame-made) ∙ fault)))

        -- what it is typed as
        pub procedure-is : (lists : Lists) (claims : Claims) (entry : ProcEntry) → lists ≡ lists_of h locals → claims ≡ claims_of basis.declared h p →
            entry ≡ entry_of basis lists claims frame p → entry ≡ typed_procedure basis p
        unfolding typed_procedure
        procedure-is lists claims entry listed stated read =
            read
            ∙ ap (λ (l : Lists). entry_of basis l claims frame p)
            (listed ∙ ap (λ (g : Heading). lists_of g locals) is ∙ ap (λ (l : List VarEntry). lists_of (heading_of (types_of basis) p) l) locals-are)
            ∙ ap (λ (c : Claims). entry_of basis (lists_of (heading_of (types_of basis) p) (locals_of (types_of basis) p)) c frame p)
            (stated ∙ ap (λ (g : Heading). claims_of basis.declared g p) is)
            ∙ ap (λ (f : Frame). entry_of basis (lists_of (heading_of (types_of basis) p) (locals_of (types_of basis) p))
            (claims_of basis.declared (heading_of (types_of basis) p) p) f p) frame-made
