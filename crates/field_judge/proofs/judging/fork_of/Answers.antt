use Rattle.std.proofs.Common.{List, Option, IfNone, IfSome, sym, subst}
use Rattle.ws2s_core.specs.LabelTrees.{assignment_of}
use Rattle.store_core.specs.declared.ids.CellId.{CellId}
use Rattle.store_core.specs.Tables.{TypeEntry, VarEntry}
use Rattle.routing_walks.specs.WellFormed.{IsFirstCell}
use Rattle.tree_store.specs.Shapes.{LaysOut}
use Rattle.graph_meaning.specs.Fields.Forking.{Forks, HasFork}
use Rattle.witness_store.specs.Results.{IsReadOff}
use Rattle.field_judge.proofs.LightestLemmas.{lays-out, has-fork, least-fork}
use Rattle.field_judge.proofs.judging.fork_of.Goals as goal

pub backbone_of-requires : goal.backbone_of-requires
backbone_of-requires c =
    let types = c.args.l.now.types in
    subst (λ (vars : List VarEntry). LaysOut types vars (assignment_of c.args.tree.now)) (sym c.requires.vars)
    (lays-out types c.args.f c.requires.table c.args.tree.now c.requires.lightest)

pub unreachable-requires : goal.unreachable-requires
unreachable-requires c =
    let types = c.args.l.now.types in
    let s = c.in_ok-store.store in
    let read = subst (λ (vars : List VarEntry). IsReadOff types vars (assignment_of c.args.tree.now) s) c.requires.vars c.in_ok-store.ensures in
    let none = subst (λ (o : Option CellId). IfNone o (HasFork c.types.result.now s c.args.f → ⊥)) c.in_default.is c.in_ok-cell.ensures.none in
    none (subst (λ (ts : List TypeEntry). HasFork ts s c.args.f) (sym c.types.ensures.value)
    (has-fork types c.args.f c.requires.table c.args.tree.now c.requires.lightest s read))

pub returns : goal.returns
returns c =
    let types = c.args.l.now.types in
    let s = c.in_ok-store.store in
    let read = subst (λ (vars : List VarEntry). IsReadOff types vars (assignment_of c.args.tree.now) s) c.requires.vars c.in_ok-store.ensures in
    let first = subst (λ (o : Option CellId). IfSome o (IsFirstCell (Forks c.types.result.now s c.args.f))) c.in-Some.is c.in_ok-cell.ensures.some in
    least-fork types c.args.f c.requires.table c.args.tree.now c.requires.lightest s read c.in-Some.cell
    (subst (λ (ts : List TypeEntry). IsFirstCell (Forks ts s c.args.f) c.in-Some.cell) c.types.ensures.value first)
