use Rattle.std.proofs.Common.{arith, inl, inr}
use Rattle.std.proofs.lemmas.Option.{slice_get-get_or}
use Rattle.routing_expr.proofs.SharedLemmas.{below_step, twice_step, twice_all}
use Rattle.routing_expr.proofs.shared.named_twice.Goals as goal

pub loop-place-preserved : goal.loop-place-preserved
loop-place-preserved c =
    let places = c.args.places.now in
    let at = slice_get-get_or places c.loop-place.place-index _ (omega arith) in
    record {
      once = λ d. let step = below_step c.args.types.now c.args.vars.now c.args.store.now places _ _ at d in
          let now = c.in_ok-add_place.ensures.once d in
          let was = c.loop-place.invariant.once d in
          (λ h. step.0 (elim (now.0 h) [ inl o ↦ inl (was.0 o) | inr n ↦ inr n ]), λ h. now.1 (elim (step.1 h) [ inl o ↦ inl (was.1 o) | inr n ↦ inr n ]));
      twice = λ d. let step = twice_step c.args.types.now c.args.vars.now c.args.store.now places _ _ at d in
          let now = c.in_ok-add_place.ensures.twice d in
          let was = c.loop-place.invariant.twice d in
          let once = c.loop-place.invariant.once d in (
            λ h. step.0 (elim (now.0 h) [ inl o ↦ inl (was.0 o) | inr n ↦ inr (n.0, once.0 n.1) ]),
            λ h. now.1 (elim (step.1 h) [ inl o ↦ inl (was.1 o) | inr n ↦ inr (n.0, once.1 n.1) ]),
          );
    }

pub returns : goal.returns
returns c = λ d.
    let all = twice_all c.args.types.now c.args.vars.now c.args.store.now c.args.places.now c.requires c.loop-place.place-index (omega arith) d in
    let was = c.loop-place.invariant.twice d in
    (λ h. all.0 (was.0 h), λ h. was.1 (all.1 h))
