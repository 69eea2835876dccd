use Rattle.std.proofs.Common.{true, false, List, sym, ap, ◌∙◌, subst}
use Rattle.pale_fitting.specs.Standing.{AreVariables}
use Rattle.pale_terms.specs.Visibles.{Entry}
use Rattle.pale_calls.specs.Calls.{touched, allowed_each}
use Rattle.pale_sights.proofs.KeepLemmas.{allowed-variables, given-back}
use Rattle.pale_procedures.proofs.calls.read_keep.Goals as goal

-- what may not be named is still a variable of the table
pub read_optional-keep-requires-clause-variables : goal.read_optional-keep-requires-clause-variables
read_optional-keep-requires-clause-variables c =
    let frame = c.args.frame.now in record {
      vars = frame.vars;
      each = subst (AreVariables frame.vars) (sym c.allow_touched.ensures)
          (allowed-variables frame.vars false frame.stated (touched frame.vars c.args.call.now) c.requires.frame.stated);
    }

-- what is withheld and given back again
pub returns-clause-frame : goal.returns-clause-frame
returns-clause-frame c =
    let frame = c.args.frame.now in
    let names = touched frame.vars c.args.call.now in
    ap (λ (s : List Entry). record frame { stated = s })
    (c.allow_touched-2.ensures
    ∙ ap (λ (s : List Entry). allowed_each true s names) (c.read_optional-keep.ensures.scope ∙ c.allow_touched.ensures)
    ∙ given-back frame.stated names c.requires.frame.wide c.requires.frame.names)
