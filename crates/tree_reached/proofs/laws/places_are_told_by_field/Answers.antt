use Rattle.tree_reached.proofs.ReachedLemmas.{by-field-means, laid-by-field}
use Rattle.tree_reached.proofs.laws.places_are_told_by_field.Goals as goal

pub returns : goal.returns
returns c = record {
  within = λ types vars next bound a ty owners few within finite. by-field-means types vars next bound a ty owners few within finite;
  laid = λ types vars next a ty owners few finite laid. laid-by-field types vars next a ty owners few finite laid;
}
