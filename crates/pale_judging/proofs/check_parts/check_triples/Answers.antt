use Rattle.std.proofs.Common.{◌≡◌, ◌∙◌, ◌+◌, ◌<◌, ◌≤◌, ◌++◌, ◌∷◌, [], ℕ, List, length, get_or, refl, subst, sym, arith}
use Rattle.bdd_nodes.specs.Shelf.{limit_of}
use Rattle.store_exec.specs.declared.triple.Triple.{Triple}
use Rattle.hoare_split.specs.Fitting.{FitsProgram}
use Rattle.program_judge.specs.declared.ways.TripleWay.{TripleWay}
use Rattle.program_judge.specs.Reports.{ReportsTriple}
use Rattle.pale_status.specs.Written.{Wrote, WroteAtMost}
use Rattle.pale_status.proofs.WrittenLemmas.{on_err}
use Rattle.pale_judging.proofs.CheckingLemmas.{TriplesWrote, triples_start, triples_next, triples_begin, triple_begins, triples_whole}
use Rattle.pale_judging.proofs.check_parts.check_triples.Goals as goal

pub loop-t-init : goal.loop-t-init
loop-t-init g c =
    let a = g.K.Sink.written c.args.sink.now in
    let limit = limit_of c.args.shelf.now in
    let program = c.args.whole.now.typed in
    record {
      so_far = subst (λ (ways : List TripleWay). TriplesWrote limit program c.args.whole.now.triples a 0 a ways) (sym c.new-ways.ensures.items)
          (triples_start limit program c.args.whole.now.triples c.requires.program c.requires.triples c.requires.functional a);
      tables = c.requires.tables;
      same_limit = refl;
      kept = omega arith;
    }

pub check_triple-requires-clause-triple : goal.check_triple-requires-clause-triple
check_triple-requires-clause-triple g c =
    let program = c.args.whole.now.typed in
    let triples = c.args.whole.now.triples in
    let i = c.loop-t.t-index in
    let t = c.t-item.result in
    let inside : i < length triples = subst (λ (ts : List Triple). i < length ts) c.as_slice-t-items.ensures c.loop-t-test.true in
    let is : t ≡ get_or triples i t = subst (λ (ts : List Triple). t ≡ get_or ts i t) c.as_slice-t-items.ensures c.t-item.is in
    subst (FitsProgram program) (sym is) (c.requires.triples i t inside)

pub returns-in_err-way-clause-err : goal.returns-in_err-way-clause-err
returns-in_err-way-clause-err g c =
    let a = g.K.Sink.written c.args.sink.now in
    let b = g.K.Sink.written c.loop-t.sink in
    let limit = limit_of c.args.shelf.now in
    let program = c.args.whole.now.typed in
    let triples = c.args.whole.now.triples in
    let i = c.loop-t.t-index in
    let t = c.t-item.result in
    let ways = c.loop-t.ways.items in
    let inside : i < length triples = subst (λ (ts : List Triple). i < length ts) c.as_slice-t-items.ensures c.loop-t-test.true in
    let is : t ≡ get_or triples i t = subst (λ (ts : List Triple). t ≡ get_or ts i t) c.as_slice-t-items.ensures c.t-item.is in
    let number = c.len.result + 1 in
    let counted : number ≡ length ways + 1 = omega (arith, c.len.ensures, c.loop-t.ways.ok) in
    let d = g.K.Sink.written c.check_triple.new.sink in
    let err = subst (λ (l : ℕ). WroteAtMost (ReportsTriple l program number t) b d) c.loop-t.invariant.same_limit c.in_err-way.ensures.err in
    on_err c.from_residual.result
    (triple_begins limit program triples c.requires.program c.requires.triples c.requires.functional a i t number b d ways
    inside is counted c.loop-t.invariant.so_far err)

pub returns-in_err-push_way-clause-err : goal.returns-in_err-push_way-clause-err
returns-in_err-push_way-clause-err g c =
    let a = g.K.Sink.written c.args.sink.now in
    let b = g.K.Sink.written c.loop-t.sink in
    let limit = limit_of c.args.shelf.now in
    let program = c.args.whole.now.typed in
    let triples = c.args.whole.now.triples in
    let i = c.loop-t.t-index in
    let t = c.t-item.result in
    let ways = c.loop-t.ways.items in
    let inside : i < length triples = subst (λ (ts : List Triple). i < length ts) c.as_slice-t-items.ensures c.loop-t-test.true in
    let is : t ≡ get_or triples i t = subst (λ (ts : List Triple). t ≡ get_or ts i t) c.as_slice-t-items.ensures c.t-item.is in
    let number = c.len.result + 1 in
    let counted : number ≡ length ways + 1 = omega (arith, c.len.ensures, c.loop-t.ways.ok) in
    let d = g.K.Sink.written c.check_triple.new.sink in
    let ok = subst (λ (l : ℕ). Wrote (ReportsTriple l program number t) b d c.in_ok-way.way) c.loop-t.invariant.same_limit c.in_ok-way.ensures.ok in
    let next = triples_next limit program triples c.requires.program c.requires.triples c.requires.functional a i t number b d ways c.in_ok-way.way
    inside is counted c.loop-t.invariant.so_far ok in
    on_err c.from_residual-in_err-push_way.result
    (triples_begin limit program triples c.requires.program c.requires.triples c.requires.functional a (i + 1) d (ways ++ c.in_ok-way.way ∷ []) next)

pub loop-t-preserved : goal.loop-t-preserved
loop-t-preserved g c =
    let a = g.K.Sink.written c.args.sink.now in
    let b = g.K.Sink.written c.loop-t.sink in
    let limit = limit_of c.args.shelf.now in
    let program = c.args.whole.now.typed in
    let triples = c.args.whole.now.triples in
    let i = c.loop-t.t-index in
    let t = c.t-item.result in
    let ways = c.loop-t.ways.items in
    let inside : i < length triples = subst (λ (ts : List Triple). i < length ts) c.as_slice-t-items.ensures c.loop-t-test.true in
    let is : t ≡ get_or triples i t = subst (λ (ts : List Triple). t ≡ get_or ts i t) c.as_slice-t-items.ensures c.t-item.is in
    let number = c.len.result + 1 in
    let counted : number ≡ length ways + 1 = omega (arith, c.len.ensures, c.loop-t.ways.ok) in
    let d = g.K.Sink.written c.check_triple.new.sink in
    let ok = subst (λ (l : ℕ). Wrote (ReportsTriple l program number t) b d c.in_ok-way.way) c.loop-t.invariant.same_limit c.in_ok-way.ensures.ok in
    let next = triples_next limit program triples c.requires.program c.requires.triples c.requires.functional a i t number b d ways c.in_ok-way.way
    inside is counted c.loop-t.invariant.so_far ok in
    record {
      so_far = subst (λ (ws : List TripleWay). TriplesWrote limit program triples a (i + 1) d ws) (sym c.in_ok-push_way.ensures) next;
      tables = c.in_ok-way.ensures.tables;
      same_limit = c.in_ok-way.ensures.same_limit ∙ c.loop-t.invariant.same_limit;
      kept = omega (arith, c.loop-t.invariant.kept, c.in_ok-way.ensures.kept);
    }

pub returns-clause-ok : goal.returns-clause-ok
returns-clause-ok g c =
    let a = g.K.Sink.written c.args.sink.now in
    let b = g.K.Sink.written c.loop-t.sink in
    let limit = limit_of c.args.shelf.now in
    let program = c.args.whole.now.typed in
    let triples = c.args.whole.now.triples in
    let ways = c.loop-t.ways.items in
    let all : length triples ≤ c.loop-t.t-index =
    subst (λ (ts : List Triple). length ts ≤ c.loop-t.t-index) c.as_slice-t-items.ensures (omega (arith, c.loop-t-test.false)) in
    triples_whole limit program triples c.requires.program c.requires.triples c.requires.functional a c.loop-t.t-index b ways all
    c.loop-t.invariant.so_far
