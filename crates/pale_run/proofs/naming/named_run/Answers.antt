use Rattle.std.proofs.Common.{◌∙◌, sym}
use Rattle.std.specs.Str.{bytes_eq}
use Rattle.pale_typed.specs.declared.typed.ProcEntry.{ProcEntry}
use Rattle.pale_run.specs.Running.{no_form, no_procedure}
use Rattle.pale_run.proofs.NamingLemmas.{found_there}
use Rattle.pale_run.proofs.naming.named_run.Goals as goal

pub returns-in_default-clause-unnamed : goal.returns-in_default-clause-unnamed
returns-in_default-clause-unnamed c = no_form c.in_default.ensures.none

pub returns-in-Some-2-clause-named : goal.returns-in-Some-2-clause-named
returns-in-Some-2-clause-named c =
    let name = c.in-Some.name.now in
    let named = sym c.in_ok-number.ensures ∙ c.in-Some-2.is in
    let (e, there) = found_there (λ (e : ProcEntry). bytes_eq e.proc.name name) c.args.program.now.procs c.in-Some-2.number named in
    (e, record { name = name; spelled = c.in-Some.ensures.some; named = named; entry = there })

pub returns-in-None-clause-unnamed : goal.returns-in-None-clause-unnamed
returns-in-None-clause-unnamed c =
    no_procedure c.in-Some.name.now c.in-Some.steps c.in-Some.ensures.some (sym c.in_ok-number.ensures ∙ c.in-None.is)
