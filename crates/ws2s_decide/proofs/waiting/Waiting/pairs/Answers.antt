use Rattle.std.proofs.Common.{◌≡◌, ◌-◌, List, length, Some, slice_get, sym, subst}
use Rattle.gta_core.specs.Auto.{AutoView}
use Rattle.ws2s_decide.specs.declared.waiting.Held.{Held}
use Rattle.ws2s_decide.specs.Counting.{IsInSizes}
use Rattle.ws2s_decide.proofs.CountingLemmas.{IsInSizes-last}
use Rattle.ws2s_decide.proofs.waiting.Waiting.pairs.Goals as goal

pub returns-in-Some : goal.returns-in-Some
returns-in-Some c =
    let held = c.self.inside.held.items in
    let one = c.in-Some.last.now in
    let at : slice_get held (length held - 1) ≡ Some one =
    subst (λ (xs : List Held). slice_get xs (length xs - 1) ≡ Some one) c.deref.ensures.value (sym c.in-Some.ensures.value) in
    subst (λ (autos : List AutoView). IsInSizes autos one.pairs) c.self.view_is (IsInSizes-last held one at c.self.invariant)
