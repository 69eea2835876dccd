-- The classes of a state.
use Rattle.std.proofs.Common.{◌≡◌, ℕ, length, subst, arith}
use Rattle.gta_witness.specs.declared.goal.Goal.TheVariants.{State}
use Rattle.gta_witness.specs.Rules.{key}
use Rattle.gta_witness.specs.Searching.{found_by, weighs_in}
use Rattle.gta_witness.specs.Following.{FollowsState}
use Rattle.gta_witness.proofs.SearchLemmas.{GoesOn-trans}
use Rattle.gta_witness.proofs.ExpandLemmas.{FollowsState-more, state-expanded}
use Rattle.gta_witness.proofs.expand.expand_state.Goals as goal

pub expand_to_row-requires-clause-search : goal.expand_to_row-requires-clause-search
expand_to_row-requires-clause-search c = c.loop-t.invariant.goes_on.is_search

pub expand_to_row-requires-clause-settled : goal.expand_to_row-requires-clause-settled
expand_to_row-requires-clause-settled c = c.loop-t.invariant.goes_on.improves.settled (State c.args.space c.args.state) c.args.weight c.requires.settled

pub loop-t-preserved : goal.loop-t-preserved
loop-t-preserved c =
    let form = c.args.form.now in
    let weighs = weighs_in c.args.weighed.now in
    let one = c.in_ok-expand_to_row.ensures.goes_on in
    let two = c.in_ok-expand_to_column.ensures.goes_on in
    record {
      goes_on = GoesOn-trans form weighs (key c.args.weight) c.args.search.now c.loop-t.search c.expand_to_column.new.search c.loop-t.invariant.goes_on
          (GoesOn-trans form weighs (key c.args.weight) c.loop-t.search c.expand_to_row.new.search c.expand_to_column.new.search one two);
      follows = FollowsState-more form weighs (found_by c.loop-t.search) (found_by c.expand_to_row.new.search) (found_by c.expand_to_column.new.search)
          c.loop-t.t c.args.space c.args.state c.args.weight c.loop-t.invariant.follows one.improves c.in_ok-expand_to_row.ensures.row two.improves
          c.in_ok-expand_to_column.ensures.column;
    }

pub returns-clause-expanded : goal.returns-clause-expanded
returns-clause-expanded c =
    let form = c.args.form.now in
    let weighs = weighs_in c.args.weighed.now in
    let found = found_by c.loop-t.search in
    let all : c.loop-t.t ≡ length form.spaces =
    (let t = c.loop-t-test.false in let b = c.loop-t.auto.t-end in let n = c.len-many.ensures in omega arith) in
    let settled = c.loop-t.invariant.goes_on.improves.settled (State c.args.space c.args.state) c.args.weight c.requires.settled in
    state-expanded form weighs found c.args.space c.args.state c.args.weight settled
    (subst (λ (n : ℕ). FollowsState form found n c.args.space c.args.state c.args.weight) all c.loop-t.invariant.follows)
