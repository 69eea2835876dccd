use Rattle.graph_meaning.proofs.live.SeenLemmas.{lives-means, seen-lives_in, seen-has, seen-is_live}
use Rattle.graph_meaning.proofs.live.live_cells_are_told.Goals as goal

pub returns : goal.returns
returns c = record {
  variant = λ l view a first s t at count v shows known. lives-means l view a first s t at count shows v known;
  of_type = λ l view a first s t at count ty shows. seen-lives_in l view a first s t at count shows ty;
  field = λ l view a first s t at count f entry shows there. seen-has l view a first s t at count shows f entry there;
  any = λ l view a first s t at count shows. seen-is_live l view a first s t at count shows;
}
