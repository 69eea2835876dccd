use Rattle.cert_nodes.proofs.MetLemmas.{same_list-true, inserted-there}
use Rattle.cert_nodes.proofs.met.SpotListSet.insert.Goals as goal

pub returns-clause-there : goal.returns-clause-there
returns-clause-there c =
    inserted-there _ (λ v. v.items) (λ a b e. same_list-true a.items b.items e) c.self.inside.lists.keys c.insert_full.new.self.keys c.args.list
    c.in_ok-insert_full.ensures.keys
