use Rattle.std.proofs.Common.{◌∙◌}
use Rattle.std.proofs.lemmas.Bool.{false≢true}
use denote.Enum.Bare.{true_same}
use Rattle.store_text.specs.contracts.fault.StoreKind.{the_type}
use Rattle.store_text.specs.declared.fault.StoreKind.TheVariants.{NoMemory}
use Rattle.pale_starts.proofs.BegunLemmas.{brought, unreadable}
use Rattle.pale_starts.proofs.begun.begin.Goals as goal

pub bring-requires-clause-store : goal.bring-requires-clause-store
bring-requires-clause-store c =
    c.read_stores_fit.ensures c.args.types.now c.args.vars.now c.args.text.now c.in-Ok.store c.in-Ok.ensures.store

pub returns-in-Ok : goal.returns-in-Ok
returns-in-Ok c =
    brought c.args.types.now c.args.vars.now c.args.start.now c.args.text.now c.in-Ok.store c.in-Ok.ensures.store c.bring.result c.bring.ensures

pub returns-in-Err-2 : goal.returns-in-Err-2
returns-in-Err-2 c =
    unreadable c.args.types.now c.args.vars.now c.args.start.now c.args.text.now c.in-Err.fault
    (c.in-Err.ensures.fault (λ e. false≢true (c.if-eq.ensures ∙ true_same the_type c.in-Err.fault.kind NoMemory e)))
