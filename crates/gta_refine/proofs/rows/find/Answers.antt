-- Along the chain of a bucket.
use Rattle.std.proofs.Common.{◌≡◌, ◌≢◌, ℕ, suc, ◌-◌, ◌<◌, ◌≤◌, length, sym, ◌∙◌, ap, subst, arith}
use Rattle.std.specs.Prelude.{slice_index}
use Rattle.std.proofs.lemmas.List.{get_or_read}
use Rattle.gta_reach.specs.Sides.{HasRootAt}
use Rattle.gta_refine.specs.Rows.{row_of}
use Rattle.gta_refine.proofs.FirstsLemmas.{HasPassed, HasPassed-first, HasPassed-more}
use Rattle.gta_refine.proofs.rows.find.Goals as goal

pub loop-link-init : goal.loop-link-init
loop-link-init c =
    let firsts = c.args.firsts.now in
    let rows = row_of c.args.space.now c.args.side c.args.numbers.now c.args.beside.now in
    let many = length firsts.buckets.items in
    subst (λ (link : ℕ). HasPassed rows firsts.states.items many c.args.state link)
    (sym (get_or_read firsts.buckets.items c.args.bucket c.index-link.result.now c.requires.inside c.index-link.ensures 0))
    (HasPassed-first rows many firsts.states.items firsts.buckets.items firsts.chain.items c.args.state c.args.bucket c.requires.firsts c.requires.its
    c.requires.inside)

pub have_same_row-is_same-requires-clause-first : goal.have_same_row-is_same-requires-clause-first
have_same_row-is_same-requires-clause-first c = λ beside among.
    let link = c.loop-link.link in
    let states = c.args.firsts.now.states.items in
    let inside : link - 1 < length states = (let w = c.loop-link.invariant.within in let t = c.loop-link-test.true in omega arith) in
    subst (λ (q : ℕ). HasRootAt c.args.space.now c.args.side q beside)
    (sym (get_or_read states (link - 1) c.index-other.result.now inside c.index-other.ensures 0)) (c.requires.roots (link - 1) beside inside among)

pub loop-link-preserved : goal.loop-link-preserved
loop-link-preserved c =
    let firsts = c.args.firsts.now in
    let states = firsts.states.items in
    let link = c.loop-link.link in
    let rows = row_of c.args.space.now c.args.side c.args.numbers.now c.args.beside.now in
    let many = length firsts.buckets.items in
    let at : link ≡ suc (link - 1) = (let t = c.loop-link-test.true in omega arith) in
    let inside : link - 1 < length states = (let w = c.loop-link.invariant.within in omega arith) in
    let chained : link - 1 < length firsts.chain.items = (let e = c.requires.firsts.chained in omega arith) in
    let other = get_or_read states (link - 1) c.index-other.result.now inside c.index-other.ensures 0 in
    subst (λ (k : ℕ). HasPassed rows states many c.args.state k)
    (sym (get_or_read firsts.chain.items (link - 1) c.index-next.result.now chained c.index-next.ensures 0))
    (HasPassed-more rows many states firsts.buckets.items firsts.chain.items c.args.state link (link - 1) c.requires.firsts c.loop-link.invariant at
    (λ same. c.have_same_row-is_same.ensures.apart c.if-is_same.false (ap rows other ∙ same)))

pub loop-link-smaller : goal.loop-link-smaller
loop-link-smaller c =
    let firsts = c.args.firsts.now in
    let link = c.loop-link.link in
    let t = c.loop-link-test.true in
    let inside : link - 1 < length firsts.states.items = (let w = c.loop-link.invariant.within in omega arith) in
    let chained : link - 1 < length firsts.chain.items = (let e = c.requires.firsts.chained in omega arith) in
    let next = get_or_read firsts.chain.items (link - 1) c.index-next.result.now chained c.index-next.ensures 0 in
    let b = (c.requires.firsts.before (link - 1) inside).within in
    omega arith

pub returns-then-is_same-clause-within : goal.returns-then-is_same-clause-within
returns-then-is_same-clause-within c =
    let w = c.loop-link.invariant.within in
    let t = c.loop-link-test.true in
    omega arith

pub returns-then-is_same-clause-found : goal.returns-then-is_same-clause-found
returns-then-is_same-clause-found c =
    let states = c.args.firsts.now.states.items in
    let link = c.loop-link.link in
    let rows = row_of c.args.space.now c.args.side c.args.numbers.now c.args.beside.now in
    let inside : link - 1 < length states = (let w = c.loop-link.invariant.within in let t = c.loop-link-test.true in omega arith) in
    sym (ap rows (get_or_read states (link - 1) c.index-other.result.now inside c.index-other.ensures 0))
    ∙ c.have_same_row-is_same.ensures.same c.if-is_same.true

pub returns-clause-absent : goal.returns-clause-absent
returns-clause-absent c = λ i i_in. c.loop-link.invariant.absent i (let t = c.loop-link-test.false in omega arith) i_in
