use Rattle.graph_meaning.proofs.fields.BeginningLemmas.{first-shows, first-shows_well}
use Rattle.graph_meaning.proofs.fields.views_begin_with_the_store_of_the_tree.Goals as goal

pub returns : goal.returns
returns c = record { backbone = first-shows; well_formed = first-shows_well }
