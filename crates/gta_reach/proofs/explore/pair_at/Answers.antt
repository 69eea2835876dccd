-- A state of a child space is a child state.
use Rattle.std.proofs.Common.{◌≡◌, ℕ, List, sym, subst, arith}
use Rattle.std.specs.Prelude.{All}
use Rattle.gta_reach.specs.Form.{guide_of}
use Rattle.gta_reach.specs.Sides.{child_at, opposite}
use Rattle.gta_reach.specs.Exploring.{IsGeneratedIn, IsGeneratedAt}
use Rattle.gta_reach.proofs.ExploreLemmas.{child-is, kept-read, AreKept-set}
use Rattle.gta_reach.proofs.explore.pair_at.Goals as goal

pub kept_at-requires : goal.kept_at-requires
kept_at-requires c = let m = c.requires.beside.many in let p = c.requires.parent in omega arith

pub pair-requires-clause-state : goal.pair-requires-clause-state
pair-requires-clause-state c =
    let form = c.args.form.now in
    let e : child_at (guide_of form) c.args.side c.args.parent ≡ c.args.s =
    (let a = child-is form c.args.parent c.space.result.now c.space.ensures c.args.side in let b = c.child.ensures in
    let t = c.if-child-s.false in omega arith) in
    subst (λ (k : ℕ). IsGeneratedIn form k c.args.state) (sym e) c.requires.state

pub pair-requires-clause-own : goal.pair-requires-clause-own
pair-requires-clause-own c =
    kept-read c.args.form.now c.args.side c.args.own.now.items c.args.parent c.index_mut.result.now c.requires.own c.requires.parent
    c.index_mut.ensures.value

pub pair-requires-clause-beside : goal.pair-requires-clause-beside
pair-requires-clause-beside c =
    subst (λ (xs : List ℕ). All (IsGeneratedAt c.args.form.now c.args.parent (opposite c.args.side)) xs) (sym c.as_slice-others.ensures)
    (c.requires.beside.each c.args.parent c.kept_at.result.now c.kept_at.ensures)

pub returns-clause-own : goal.returns-clause-own
returns-clause-own c =
    AreKept-set c.args.form.now c.args.side c.args.own.now.items c.args.parent c.pair.new.own c.requires.own c.requires.parent c.in_ok-pair.ensures.own
