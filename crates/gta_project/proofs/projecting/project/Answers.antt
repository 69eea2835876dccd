-- The settled parts are the subset automaton.
use Rattle.std.proofs.Common.{◌≡◌, ◌↔◌, ℕ, Bool, List, map, sym, ◌∙◌, ap, subst, arith}
use Rattle.std.specs.List.{list_any}
use Rattle.bdd_nodes.specs.Shelf.{Contents, tables_added}
use Rattle.bdd_nodes.specs.Changes.{Keeps, AddsTable, SameTables}
use Rattle.bdd_nodes.proofs.CallerLemmas.{Keeps-trans, Keeps-same, Keeps-refl}
use Rattle.gta_theory.specs.Assignments.{PositionSet, IsFiniteSet, replace}
use Rattle.gta_theory.specs.Automata.{Accepts}
use Rattle.gta_theory.proofs.SubsetLemmas.{Accepts-subset}
use Rattle.gta_core.specs.Auto.{AutoView, states_of, is_accepting, automaton_of, IsAuto, IsWhole}
use Rattle.gta_subsets.specs.Subsets.{AreInitial}
use Rattle.gta_project.specs.Project.{IsSubsetOf}
use Rattle.gta_project.proofs.PartLemmas.{get-at}
use Rattle.gta_project.proofs.FinalLemmas.{member_of, IsWhole-made, IsAuto-made, IsSubset-made}
use Rattle.gta_project.proofs.ProjectLemmas.{limit-subset, RegistersTable-after, on-err}
use Rattle.gta_project.proofs.projecting.project.Goals as goal

pub settle-requires-clause-initials : goal.settle-requires-clause-initials
settle-requires-clause-initials c = subst (AreInitial c.args.g.now (automaton_of c.args.shelf.now c.args.a.now) (c.args.t).0) (sym c.as_slice.ensures)
    c.in_ok-initials.ensures

pub from_parts-requires-clause-valid : goal.from_parts-requires-clause-valid
from_parts-requires-clause-valid c = c.in_ok-settled.ensures.settled.valid

pub from_parts-requires-clause-whole : goal.from_parts-requires-clause-whole
from_parts-requires-clause-whole c = λ table.
    let shelf = c.args.shelf.now in
    let a = c.args.a.now in
    let t = (c.args.t).0 in
    let guide = c.settle.ensures.guide in
    let initials = c.as_slice.result.now in
    let are_initial = subst (AreInitial c.args.g.now (automaton_of shelf a) t) (sym c.as_slice.ensures) c.in_ok-initials.ensures in
    let settled = c.in_ok-settled.ensures.settled in
    let now = c.settle.new.shelf in
    let numbers = c.in_ok-settled.settled.numbers.items in
    let root_sets = c.index.result.now in
    let at_root = get-at numbers 0 root_sets (omega (arith, settled.building.are.many, guide.not_empty)) c.index.ensures in
    let flags = c.in_ok-accepting.ensures in
    subst (λ (fs : List Bool). IsWhole (record { table = table; parts = c.in_ok-settled.settled.parts; accepting = fs })) (sym flags)
    (IsWhole-made c.args.g.now guide shelf now a c.requires t initials are_initial numbers settled.building.are
    c.in_ok-settled.settled.parts settled.many c.in_ok-settled.settled.roots settled.parts table root_sets at_root)

pub returns-in_err-settled-clause-limit : goal.returns-in_err-settled-clause-limit
returns-in_err-settled-clause-limit c = λ stopped.
    let are_initial = subst (AreInitial c.args.g.now (automaton_of c.args.shelf.now c.args.a.now) (c.args.t).0) (sym c.as_slice.ensures)
    c.in_ok-initials.ensures in
    let exceeded = c.settle.ensures.limit (let why = rw stopped at c.from_residual-in_err-settled.ensures in c.in_err-settled.was ∙ (let is = why.1 in cc)) in
    limit-subset c.args.g.now c.settle.ensures.guide (automaton_of c.args.shelf.now c.args.a.now) c.requires.stable (c.args.t).0
    c.as_slice.result.now are_initial c.args.shelf.now exceeded.spaces exceeded.exceeds

pub returns-clause-auto : goal.returns-clause-auto
returns-clause-auto c =
    let shelf = c.args.shelf.now in
    let a = c.args.a.now in
    let t = (c.args.t).0 in
    let guide = c.settle.ensures.guide in
    let initials = c.as_slice.result.now in
    let are_initial = subst (AreInitial c.args.g.now (automaton_of shelf a) t) (sym c.as_slice.ensures) c.in_ok-initials.ensures in
    let settled = c.in_ok-settled.ensures.settled in
    let now = c.settle.new.shelf in
    let numbers = c.in_ok-settled.settled.numbers.items in
    let root_sets = c.index.result.now in
    let at_root = get-at numbers 0 root_sets (omega (arith, settled.building.are.many, guide.not_empty)) c.index.ensures in
    let flags = c.in_ok-accepting.ensures in
    let e = c.in_ok-made.ensures in
    let auto = c.in_ok-made.made in
    let is : auto ≡ record {
      table = tables_added now;
      parts = c.in_ok-settled.settled.parts;
      accepting = map (λ set. list_any (is_accepting a) set) root_sets;
    } =
    e.ok ∙ ap (λ (fs : List Bool). let v : AutoView = record { table = tables_added now; parts = c.in_ok-settled.settled.parts; accepting = fs } in v) flags in
    let adds = subst (λ (table : ℕ). AddsTable now c.from_parts.new.shelf table c.in_ok-settled.settled.roots) (ap (λ (v : AutoView). v.table) is) e.table in
    subst (λ (v : AutoView). IsAuto c.args.g.now c.from_parts.new.shelf v) (sym is)
    (IsAuto-made c.args.g.now guide shelf now a c.requires t initials are_initial numbers settled.building.are
    c.in_ok-settled.settled.parts settled.many c.in_ok-settled.settled.roots settled.parts (tables_added now) root_sets at_root
    c.from_parts.new.shelf adds)

pub returns-clause-subset : goal.returns-clause-subset
returns-clause-subset c =
    let shelf = c.args.shelf.now in
    let a = c.args.a.now in
    let t = (c.args.t).0 in
    let guide = c.settle.ensures.guide in
    let initials = c.as_slice.result.now in
    let are_initial = subst (AreInitial c.args.g.now (automaton_of shelf a) t) (sym c.as_slice.ensures) c.in_ok-initials.ensures in
    let settled = c.in_ok-settled.ensures.settled in
    let now = c.settle.new.shelf in
    let numbers = c.in_ok-settled.settled.numbers.items in
    let root_sets = c.index.result.now in
    let at_root = get-at numbers 0 root_sets (omega (arith, settled.building.are.many, guide.not_empty)) c.index.ensures in
    let flags = c.in_ok-accepting.ensures in
    let e = c.in_ok-made.ensures in
    let auto = c.in_ok-made.made in
    let is : auto ≡ record {
      table = tables_added now;
      parts = c.in_ok-settled.settled.parts;
      accepting = map (λ set. list_any (is_accepting a) set) root_sets;
    } =
    e.ok ∙ ap (λ (fs : List Bool). let v : AutoView = record { table = tables_added now; parts = c.in_ok-settled.settled.parts; accepting = fs } in v) flags in
    let adds = subst (λ (table : ℕ). AddsTable now c.from_parts.new.shelf table c.in_ok-settled.settled.roots) (ap (λ (v : AutoView). v.table) is) e.table in
    subst (λ (v : AutoView). IsSubsetOf c.args.g.now (automaton_of shelf a) t (automaton_of c.from_parts.new.shelf v) (states_of v)) (sym is)
    (record {
      member = member_of c.args.g.now guide shelf now a c.requires t initials are_initial numbers settled.building.are
          c.in_ok-settled.settled.parts settled.many c.in_ok-settled.settled.roots settled.parts (tables_added now) root_sets at_root
          c.from_parts.new.shelf adds;
      subset = IsSubset-made c.args.g.now guide shelf now a c.requires t initials are_initial numbers settled.building.are
          c.in_ok-settled.settled.parts settled.many c.in_ok-settled.settled.roots settled.parts (tables_added now) root_sets at_root
          c.from_parts.new.shelf adds;
    })

pub returns-clause-accepts : goal.returns-clause-accepts
returns-clause-accepts c = λ depth assignment covers.
    let shelf = c.args.shelf.now in
    let a = c.args.a.now in
    let t = (c.args.t).0 in
    let guide = c.settle.ensures.guide in
    let initials = c.as_slice.result.now in
    let are_initial = subst (AreInitial c.args.g.now (automaton_of shelf a) t) (sym c.as_slice.ensures) c.in_ok-initials.ensures in
    let settled = c.in_ok-settled.ensures.settled in
    let now = c.settle.new.shelf in
    let numbers = c.in_ok-settled.settled.numbers.items in
    let root_sets = c.index.result.now in
    let at_root = get-at numbers 0 root_sets (omega (arith, settled.building.are.many, guide.not_empty)) c.index.ensures in
    let flags = c.in_ok-accepting.ensures in
    let e = c.in_ok-made.ensures in
    let auto = c.in_ok-made.made in
    let is : auto ≡ record {
      table = tables_added now;
      parts = c.in_ok-settled.settled.parts;
      accepting = map (λ set. list_any (is_accepting a) set) root_sets;
    } =
    e.ok ∙ ap (λ (fs : List Bool). let v : AutoView = record { table = tables_added now; parts = c.in_ok-settled.settled.parts; accepting = fs } in v) flags in
    let adds = subst (λ (table : ℕ). AddsTable now c.from_parts.new.shelf table c.in_ok-settled.settled.roots) (ap (λ (v : AutoView). v.table) is) e.table in
    subst (λ (v : AutoView). Accepts c.args.g.now (automaton_of c.from_parts.new.shelf v) assignment
    ↔ ((set : PositionSet) × IsFiniteSet set × Accepts c.args.g.now (automaton_of shelf a) (replace assignment t set))) (sym is)
    (Accepts-subset c.args.g.now guide (automaton_of shelf a) c.requires.stable t _ _ _
    (IsSubset-made c.args.g.now guide shelf now a c.requires t initials are_initial numbers settled.building.are
    c.in_ok-settled.settled.parts settled.many c.in_ok-settled.settled.roots settled.parts (tables_added now) root_sets at_root
    c.from_parts.new.shelf adds) depth assignment covers)

pub returns-clause-table : goal.returns-clause-table
returns-clause-table c = RegistersTable-after c.args.shelf.now c.settle.new.shelf c.from_parts.new.shelf c.in_ok-made.made.table c.in_ok-settled.settled.roots
    c.settle.ensures.leaves.tables c.in_ok-made.ensures.table

pub returns-clause-kept : goal.returns-clause-kept
returns-clause-kept c = Keeps-trans c.args.shelf.now c.settle.new.shelf c.from_parts.new.shelf c.settle.ensures.leaves.keeps
    (Keeps-same c.settle.new.shelf c.from_parts.new.shelf c.in_ok-made.ensures.table.nodes)

pub returns-clause-same_limit : goal.returns-clause-same_limit
returns-clause-same_limit c = c.in_ok-made.ensures.table.nodes.limit ∙ c.settle.ensures.leaves.same_limit

pub returns-in_err-made-clause-kept : goal.returns-in_err-made-clause-kept
returns-in_err-made-clause-kept c = subst (λ (shelf : Contents). Keeps c.args.shelf.now shelf) (sym c.in_err-made.ensures.err) c.settle.ensures.leaves.keeps

pub returns-in_err-made-clause-tables : goal.returns-in_err-made-clause-tables
returns-in_err-made-clause-tables c = on-err c.from_residual-in_err-made.result
    (subst (λ (shelf : Contents). SameTables c.args.shelf.now shelf) (sym c.in_err-made.ensures.err) c.settle.ensures.leaves.tables)

pub returns-in_err-made-clause-same_limit : goal.returns-in_err-made-clause-same_limit
returns-in_err-made-clause-same_limit c = ap (λ (shelf : Contents). shelf.limit) c.in_err-made.ensures.err ∙ c.settle.ensures.leaves.same_limit

pub returns-in_err-initials-clause-kept : goal.returns-in_err-initials-clause-kept
returns-in_err-initials-clause-kept c = Keeps-refl c.args.shelf.now
