use Rattle.ws2s_theory.proofs.RenamedLemmas.{HasMinimalSize-names, HasProductSize-names, HasSubsetSize-names, HasPeak-names}
use Rattle.ws2s_theory.proofs.renamed.names_of_tracks_change_no_peak.Goals as goal

pub returns : goal.returns
returns c = record {
  minimal = λ g r f n guide increasing. HasMinimalSize-names g guide r increasing f n;
  product = λ g r f h n guide increasing. HasProductSize-names g guide r increasing f h n;
  subset = λ g r t f n guide increasing. HasSubsetSize-names g guide r increasing t f n;
  peak = λ g r f n guide increasing. HasPeak-names g guide r increasing f n;
}
