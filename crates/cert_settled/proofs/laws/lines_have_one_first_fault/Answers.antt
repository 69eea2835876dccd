use Rattle.cert_settled.proofs.FaultsLemmas.{one-fault, right-no-fault}
use Rattle.cert_settled.proofs.laws.lines_have_one_first_fault.Goals as goal

pub returns-clause-one : goal.returns-clause-one
returns-clause-one c g A t starts settles e f = one-fault g A t starts settles e f

pub returns-clause-none : goal.returns-clause-none
returns-clause-none c g A t starts settles f = right-no-fault g A t starts settles f
