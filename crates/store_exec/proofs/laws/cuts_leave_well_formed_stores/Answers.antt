use Rattle.routing_walks.proofs.FreshLemmas.{IsFresh-well_formed}
use Rattle.store_exec.proofs.KeepLemmas.{IsWell}
use Rattle.store_exec.proofs.CodesKeepLemmas.{code-keeps}
use Rattle.store_exec.proofs.RestrictedLemmas.{well_formed-at_cut}
use Rattle.store_exec.proofs.laws.cuts_leave_well_formed_stores.Goals as goal

pub returns : goal.returns
returns c = record {
  cut = λ types vars cut s fits none. well_formed-at_cut types vars s fits cut none;
  run = λ types vars triple s t place cut fit meets runs none.
      let before : IsWell types vars s = record { fits = meets.well_formed.fits; fresh = (IsFresh-well_formed types vars s meets.well_formed).1 } in
      let after = code-keeps types vars triple.code s t place before fit.code runs in
      well_formed-at_cut types vars t after.well.fits cut none;
}
