use Rattle.routing_walks.proofs.DecidedStores.{only_or_shown, shown_not_only}
use Rattle.routing_walks.proofs.decided.wrong_fields_are_shown.Goals as goal

pub returns : goal.returns
returns c = record { either = only_or_shown; not_both = shown_not_only }
