use Rattle.ws2s_theory.proofs.ChildTestsLemmas.{IsChildTest-exists}
use Rattle.ws2s_theory.proofs.merging.child_tests_exist.Goals as goal

pub returns : goal.returns
returns c = IsChildTest-exists
