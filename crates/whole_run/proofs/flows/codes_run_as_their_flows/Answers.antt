use Rattle.whole_run.proofs.FlowLemmas.{code_forth, code_back}
use Rattle.whole_run.proofs.flows.codes_run_as_their_flows.Goals as goal

pub returns : goal.returns
returns c = λ types points flow s out. (code_forth types points flow s out, code_back types points flow s out)
