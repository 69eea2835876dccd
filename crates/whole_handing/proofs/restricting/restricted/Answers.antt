use Rattle.std.proofs.Common.{◌≡◌, ◌∙◌, length, IsSomeAnd, sym, ap, subst, arith}
use Rattle.store_core.specs.Stores.{StoreMap, class_of}
use Rattle.store_exec.specs.Restricted.{live_part}
use Rattle.whole_handing.proofs.RestrictingLemmas.{past_end, half_length, same_class, restricted_more, restricted_all}
use Rattle.whole_handing.proofs.restricting.restricted.Goals as goal

-- each variable of the table has a value
pub unreachable-requires : goal.unreachable-requires
unreachable-requires c =
    let low = past_end (c.loop-index.after).vars c.loop-index.index (sym c.in_default.ensures) in
    let own : length (c.loop-index.after).vars ≡ length (c.args.store).vars = ap (λ (s : StoreMap). length s.vars) c.loop-index.invariant
    ∙ half_length (live_part c.args.store) (c.args.store).vars c.loop-index.index in
    omega (arith, low, own, c.loop-index-test.true, c.vars-index-end.ensures.value, c.requires)

pub set_var-requires : goal.set_var-requires
set_var-requires c =
    subst (λ o. IsSomeAnd o (λ old. class_of c.in_ok-part.part ≡ class_of old)) c.in-Some.ensures
    (ap class_of c.in_ok-part.ensures ∙ same_class c.loop-index.after c.in-Some.value.now)

pub loop-index-preserved : goal.loop-index-preserved
loop-index-preserved c = restricted_more c.args.store c.loop-index.after c.set_var.new.self c.loop-index.index c.in-Some.value.now c.in_ok-part.part
    c.loop-index.invariant (sym c.in-Some.ensures) c.in_ok-part.ensures c.set_var.ensures

pub returns : goal.returns
returns c = restricted_all c.args.store c.loop-index.after c.loop-index.index c.loop-index.invariant
    (omega (arith, c.loop-index-test.false, c.vars-index-end.ensures.value, c.requires))
