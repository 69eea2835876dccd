use Rattle.routing_walks.specs.Pairing.{IsPair}
use Rattle.routing_walks.proofs.PairLemmas.{turn, ArePaired-turned}
use Rattle.store_exec.proofs.RenamedCuts.{AtCut-to, StartHolds-to, Meets-to}
use Rattle.store_exec.proofs.renaming.renaming_cells_keeps_cuts.Goals as goal

pub returns : goal.returns
returns c = record {
  cuts = λ types vars pairs s t h cut why.
      (AtCut-to types vars (IsPair pairs) s t h cut why, AtCut-to types vars (turn (IsPair pairs)) t s (ArePaired-turned (IsPair pairs) s t h) cut why);
  starts = λ types vars pairs s t h start. (
    StartHolds-to types vars (IsPair pairs) s t h start,
    StartHolds-to types vars (turn (IsPair pairs)) t s (ArePaired-turned (IsPair pairs) s t h) start,
  );
  meets = λ types vars pairs s t h above also triple. (
    Meets-to types vars (IsPair pairs) s t h triple also,
    Meets-to types vars (turn (IsPair pairs)) t s (ArePaired-turned (IsPair pairs) s t h) triple above,
  );
}
