use Rattle.store_tests.proofs.programs.store_of.Goals as goal

pub returns : goal.returns
returns c = c.read_stores_fit.ensures _ _ _ _ c.in_ok-store.ensures.store
