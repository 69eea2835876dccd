use Rattle.pale_trace.proofs.TripleLemmas.{says_unread, says_ill, says_false, says_met, meets_so, small_so, stands_fit}
use Rattle.pale_trace.proofs.stores.trace_in_triple.Goals as goal

pub execute-requires-clause-meets : goal.execute-requires-clause-meets
execute-requires-clause-meets c =
    let whole = c.args.whole.now in
    meets_so whole.typed c.args.triple.now c.types-types.result.now c.in-Some.vars.now c.types-types.ensures c.in-Some.ensures whole.triples
    c.args.text.now c.in_ok-fault.field-0 c.in_ok-fault.ensures c.in-Meets.store c.in-Meets.is

pub execute-requires-clause-numbers : goal.execute-requires-clause-numbers
execute-requires-clause-numbers c =
    let whole = c.args.whole.now in
    small_so whole.typed c.args.triple.now c.types-types.result.now c.in-Some.vars.now c.types-types.ensures c.in-Some.ensures whole.triples
    c.args.text.now c.in_ok-fault.field-0 c.in_ok-fault.ensures c.in-Meets.store c.in-Meets.is

pub triple_told-requires : goal.triple_told-requires
triple_told-requires c =
    let whole = c.args.whole.now in
    stands_fit whole.typed c.args.triple.now c.types-types.result.now c.in-Some.vars.now c.types-types.ensures c.in-Some.ensures
    c.in_ok-traced-in-Meets.traced.at c.in_ok-traced-in-Meets.ensures.fits c.requires.fits.entry c.requires.fits.there

pub returns-in-Refused : goal.returns-in-Refused
returns-in-Refused c =
    let whole = c.args.whole.now in
    says_unread whole.typed c.args.triple.now c.types-types.result.now c.in-Some.vars.now c.types-types.ensures c.in-Some.ensures whole.triples
    c.args.text.now c.in_ok-fault.field-0 c.in_ok-fault.ensures c.in-Refused.fault c.in-Refused.is c.from.result c.from.ensures
    c.store_refused.result c.store_refused.ensures

pub returns-in-NotWellFormed : goal.returns-in-NotWellFormed
returns-in-NotWellFormed c =
    let whole = c.args.whole.now in
    says_ill whole.typed c.args.triple.now c.types-types.result.now c.in-Some.vars.now c.types-types.ensures c.in-Some.ensures whole.triples
    c.args.text.now c.in_ok-fault.field-0 c.in_ok-fault.ensures c.in-NotWellFormed.fault c.in-NotWellFormed.is c.ill.result c.ill.ensures

pub returns-in-StartFalse : goal.returns-in-StartFalse
returns-in-StartFalse c =
    let whole = c.args.whole.now in
    says_false whole.typed c.args.triple.now c.types-types.result.now c.in-Some.vars.now c.types-types.ensures c.in-Some.ensures whole.triples
    c.args.text.now c.in_ok-fault.field-0 c.in_ok-fault.ensures c.in-StartFalse.is c.start_false.result c.start_false.ensures

pub returns-in_ok-traced-in-Meets : goal.returns-in_ok-traced-in-Meets
returns-in_ok-traced-in-Meets c =
    let whole = c.args.whole.now in
    let traced = c.in_ok-traced-in-Meets.traced in
    says_met whole.typed c.args.triple.now c.types-types.result.now c.in-Some.vars.now c.types-types.ensures c.in-Some.ensures whole.triples
    c.args.text.now c.in_ok-fault.field-0 c.in_ok-fault.ensures c.in-Meets.store c.in-Meets.is traced.events traced.at traced.end
    c.in_ok-traced-in-Meets.ensures.traced c.triple_told.result c.triple_told.ensures
