use Rattle.std.proofs.Common.{List, sym, subst, arith}
use Rattle.std.specs.Prelude.{is_ok}
use Rattle.gta_core.specs.Auto.{AutoView}
use Rattle.ws2s_decide.specs.Counting.{IsInSizes}
use Rattle.ws2s_decide.proofs.CountingLemmas.{IsInSizes-more, AreCounted-push}
use Rattle.ws2s_decide.proofs.waiting.Waiting.push.Goals as goal

pub invariant_of-self : goal.invariant_of-self
invariant_of-self c =
    let pairs = c.saturating_add-pairs.result in
    let few = c.saturating_add-pairs.ensures in
    let below = subst (λ (autos : List AutoView). IsInSizes autos c.pairs.result) (sym c.self.view_is) c.pairs.ensures in
    let places = c.saturating_add-places.result in
    AreCounted-push (is_ok c.push.result) c.self.inside.held.items c.push.new.self.items
    (record { auto = c.args.auto; pairs = pairs; places = places }) c.push.ensures.items
    (IsInSizes-more c.args.auto _ c.pairs_of.result c.pairs.result pairs c.pairs_of.ensures below (omega (arith, few))) c.self.invariant
