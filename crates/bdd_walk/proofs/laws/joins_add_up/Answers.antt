use Rattle.bdd_walk.proofs.AddsAmongLemmas.{AddsAmong-none, AddsAmong-more, ExceedsAmong-alone, ExceedsAmong-more}
use Rattle.bdd_walk.proofs.laws.joins_add_up.Goals as goal

pub returns : goal.returns
returns c = record {
  none = AddsAmong-none;
  more = λ first old new wholes others before keeps adds more. AddsAmong-more first old before wholes others new keeps adds more;
  alone = ExceedsAmong-alone;
  limit = λ first old wholes others before same adds exceeds. ExceedsAmong-more first old before wholes others same adds exceeds;
}
