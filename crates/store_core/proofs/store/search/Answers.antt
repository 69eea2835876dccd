use Rattle.std.proofs.Common.{rules, sym, subst}
use Rattle.std.proofs.lemmas.List.Sorted.{answers_always}
use Rattle.store_core.proofs.Cells.{Searched, searched}
use Rattle.store_core.proofs.store.search.Goals as goal
use Rattle.store_core.proofs.store.search.Goals.{After-ok}

-- the closure gives a cell's number
answer : (c : After-ok) → Searched c.args.cells.now c.args.c.0 c.ok.result
answer c =
    let by_number = c.binary_search_by_key.ensures.position (λ b. b.number) (answers_always _ _ _ (λ f a r g called. search rules)) in
    subst (Searched c.args.cells.now c.args.c.0) (sym c.ok.ensures.value)
    (searched c.args.cells.now c.requires c.args.c c.binary_search_by_key.result c.binary_search_by_key.ensures.bound by_number)

pub returns-clause-missing : goal.returns-clause-missing
returns-clause-missing c = (answer c).missing

pub returns-clause-found : goal.returns-clause-found
returns-clause-found c = (answer c).found
