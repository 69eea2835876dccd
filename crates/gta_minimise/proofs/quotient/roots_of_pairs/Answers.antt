-- What is listed for all pairs.
use Rattle.std.proofs.Common.{◌+◌, ◌/◌, ◌%◌, ◌*◌, ◌<◌, List, length, sym, subst, arith}
use Rattle.std.specs.Prelude.{slice_index_or}
use Rattle.std.proofs.Math.Nat.{div-lt_iff_lt-mul}
use Rattle.std.proofs.lemmas.Option.{slice_get-get_or}
use Rattle.bdd_list.specs.declared.listing.Listed.{Listed}
use Rattle.bdd_list.specs.Listing.{IsIn}
use Rattle.gta_minimise.proofs.QuotientLemmas.{PairsBelow, PairsBelow-push}
use Rattle.gta_minimise.proofs.quotient.roots_of_pairs.Goals as goal

pub listed-requires : goal.listed-requires
listed-requires c =
    let lefts = c.args.lefts.now in
    let rights = c.args.rights.now in
    let index = c.loop-index.index in
    let some : 0 < length rights = (let z = c.if-width-eq0.false in omega arith) in
    let few : index < length lefts * length rights = (let t = c.loop-index-test.true in let e = c.loop-index.auto.index-end in
    let m = c.in_ok-many.ensures in omega arith) in
    let left_in : index / length rights < length lefts = (div-lt_iff_lt-mul {k = length rights} {x = index} {y = length lefts} some).1 few in
    let right_in : index % length rights < length rights = omega arith in
    c.requires (index / length rights) (index % length rights) left_in right_in

pub loop-index-preserved : goal.loop-index-preserved
loop-index-preserved c =
    let space = c.args.space.now in
    let lefts = c.args.lefts.now in
    let rights = c.args.rights.now in
    let index = c.loop-index.index in
    let some : 0 < length rights = (let z = c.if-width-eq0.false in omega arith) in
    let few : index < length lefts * length rights = (let t = c.loop-index-test.true in let e = c.loop-index.auto.index-end in
    let m = c.in_ok-many.ensures in omega arith) in
    let left_in : index / length rights < length lefts = (div-lt_iff_lt-mul {k = length rights} {x = index} {y = length lefts} some).1 few in
    let right_in : index % length rights < length rights = omega arith in
    let has = c.requires (index / length rights) (index % length rights) left_in right_in in
    subst (λ (xs : List Listed). PairsBelow space lefts rights xs (index + 1)) (sym c.in_ok-push.ensures.items)
    (PairsBelow-push space lefts rights c.loop-index.roots.items index c.listed.result c.loop-index.invariant c.listed.ensures
    (subst (λ (l : Listed). IsIn space.listing.nodes l) (sym c.listed.ensures) has.inside))

pub returns-clause-inside : goal.returns-clause-inside
returns-clause-inside c = λ k d k_in.
    c.loop-index.invariant.inside k (slice_index_or c.loop-index.roots.items k d) (slice_get-get_or c.loop-index.roots.items k d k_in)
