use Rattle.std.proofs.Common.{◌≡◌, Some, refl, sym, ◌∙◌, rules, arith}
use Rattle.std.proofs.lemmas.Grind.{common_steps}
use Rattle.std.specs.Ordering.{nat_cmp}
use Rattle.std.specs.BTreeMap.{get}
use Rattle.ws2s_narrow.specs.Pending.{stays, goes}
use Rattle.ws2s_narrow.proofs.HandingLemmas.{none-from, some-from, quantifies-same}
use Rattle.ws2s_narrow.proofs.pending.Pending.hand_over.Goals as goal

pub returns-in-None : goal.returns-in-None
returns-in-None c = record {
  hands = stays refl refl (λ placed. none-from c.args.track c.place_of.result c.args.self.now.waiting.entries (search rules)
      (c.place_of.ensures.only c.args.self.now.idle.items placed));
}

pub returns-in_ok-insert-in-Some-2 : goal.returns-in_ok-insert-in-Some-2
returns-in_ok-insert-in-Some-2 c =
    let place : c.place_of.result ≡ Some c.in-Some.number = first_of (search rules, grind (arith, common_steps)) in
    let there : get nat_cmp c.args.self.now.waiting c.in-Some.number ≡ Some c.unwrap-next.result = first_of (search rules, grind (arith, common_steps)) in
    record {
      hands = goes c.in-Some.number c.unwrap-next.result there
          (quantifies-same c.args.track c.in-Some.number c.in-Some.ensures.there.0 c.unwrap-next.result
          (sym c.in-Some.ensures.there.1 ∙ there) c.in-Some.ensures.there.2)
          c.remove.ensures.entries c.in_ok-insert-in-Some-2.ensures.entries refl refl c.in_ok-insert-in-Some.ensures.updates
          (λ placed. some-from c.args.track c.in-Some.number c.place_of.result c.args.self.now.waiting.entries place
          (c.place_of.ensures.only c.args.self.now.idle.items placed));
    }
