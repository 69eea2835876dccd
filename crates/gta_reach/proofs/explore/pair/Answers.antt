-- One state more is kept.
use Rattle.std.proofs.Common.{List, ℕ, sym, subst}
use Rattle.std.specs.Prelude.{All}
use Rattle.std.proofs.lemmas.List.Elements.{All-push}
use Rattle.gta_reach.specs.Exploring.{IsGeneratedAt}
use Rattle.gta_reach.proofs.explore.pair.Goals as goal

pub returns-clause-own : goal.returns-clause-own
returns-clause-own c =
    let form = c.args.form.now in
    subst (λ (xs : List ℕ). All (IsGeneratedAt form c.args.parent c.args.side) xs) (sym c.in_ok-push.ensures.ok)
    (All-push (IsGeneratedAt form c.args.parent c.args.side) c.args.own.now.states c.args.state c.requires.own c.requires.state)
