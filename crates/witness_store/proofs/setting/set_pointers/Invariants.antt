use Rattle.witness_store.proofs.SettingLemmas.{AreSetBefore}
use Rattle.witness_store.proofs.setting.set_pointers.Given as goal

-- the pointer fields so far are set
abbrev pub invariant-loop-pointing : goal.invariant-loop-pointing
invariant-loop-pointing l = AreSetBefore l.types l.fn.store l.pointing-items l.pointing-index l.store
