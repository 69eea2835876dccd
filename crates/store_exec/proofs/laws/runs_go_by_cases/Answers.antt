use Rattle.store_exec.proofs.RunLemmas.{RunsItem-Do, RunsItem-If}
use Rattle.store_exec.proofs.CodeLemmas.{code-cut, code-branch}
use Rattle.store_exec.proofs.laws.runs_go_by_cases.Goals as goal

pub returns : goal.returns
returns c = record {
  acts = RunsItem-Do;
  ifs = RunsItem-If;
  cuts = λ types code place s out is. code-cut types code place is s out;
  branches = λ types code taken other line b s out is. code-branch types code line b taken other is s out;
}
