-- The settled parts are the product.
use Rattle.std.proofs.Common.{◌≡◌, ◌↔◌, ℕ, Bool, ◌&&◌, List, map, sym, ◌∙◌, ap, subst, arith}
use Rattle.bdd_nodes.specs.Shelf.{Contents, tables_added}
use Rattle.bdd_nodes.specs.Changes.{Keeps, AddsTable, SameTables}
use Rattle.bdd_nodes.proofs.CallerLemmas.{Keeps-trans, Keeps-same, Keeps-refl}
use Rattle.gta_theory.specs.Automata.{Accepts}
use Rattle.gta_theory.specs.Constructions.{pairs}
use Rattle.gta_theory.proofs.AutomataLemmas.{Accepts-product}
use Rattle.gta_core.specs.Auto.{AutoView, states_of, is_accepting, automaton_of, IsAuto, IsWhole}
use Rattle.gta_product.specs.Product.{IsProductOf}
use Rattle.gta_product.proofs.PartLemmas.{get-at}
use Rattle.gta_product.proofs.FinalLemmas.{pair_of, IsWhole-made, IsAuto-made, IsProduct-made}
use Rattle.gta_product.proofs.ProductLemmas.{limit-product, RegistersTable-after, on-err}
use Rattle.gta_product.proofs.pairing.product.Goals as goal

pub from_parts-requires-clause-valid : goal.from_parts-requires-clause-valid
from_parts-requires-clause-valid c = c.in_ok-settled.ensures.settled.parts.valid

pub from_parts-requires-clause-whole : goal.from_parts-requires-clause-whole
from_parts-requires-clause-whole c = λ table.
    let AB = pairs (automaton_of c.args.shelf.now c.args.a.now) (automaton_of c.args.shelf.now c.args.b.now) in
    let guide = c.settle.ensures.guide in
    let settled = c.in_ok-settled.ensures.settled in
    let now = c.settle.new.shelf in
    let numbers = c.in_ok-settled.settled.numbers.items in
    let at_root = get-at numbers 0 c.index.result.now (omega (arith, settled.building.are.many, guide.not_empty)) c.index.ensures in
    let flags = c.in_ok-accepting.ensures ∙ ap (map (λ (pair : ℕ × ℕ). is_accepting c.args.a.now pair.0 && is_accepting c.args.b.now pair.1))
    c.as_slice.ensures.pairs in
    subst (λ (fs : List Bool). IsWhole (record { table = table; parts = c.in_ok-settled.settled.parts; accepting = fs })) (sym flags)
    (IsWhole-made c.args.g.now guide c.args.shelf.now now c.args.a.now c.args.b.now c.requires.first c.requires.second numbers settled.building.are
    c.in_ok-settled.settled.parts settled.many c.in_ok-settled.settled.roots settled.parts table c.index.result.now at_root)

pub returns-in_err-settled-clause-limit : goal.returns-in_err-settled-clause-limit
returns-in_err-settled-clause-limit c = λ stopped.
    let exceeded = c.settle.ensures.limit (let why = rw stopped at c.from_residual-in_err-settled.ensures in c.in_err-settled.was ∙ (let is = why.1 in cc)) in
    limit-product c.args.g.now c.settle.ensures.guide (automaton_of c.args.shelf.now c.args.a.now) (automaton_of c.args.shelf.now c.args.b.now)
    c.requires.first.stable c.requires.second.stable c.args.shelf.now exceeded.spaces exceeded.exceeds

pub returns-clause-auto : goal.returns-clause-auto
returns-clause-auto c =
    let AB = pairs (automaton_of c.args.shelf.now c.args.a.now) (automaton_of c.args.shelf.now c.args.b.now) in
    let guide = c.settle.ensures.guide in
    let settled = c.in_ok-settled.ensures.settled in
    let now = c.settle.new.shelf in
    let numbers = c.in_ok-settled.settled.numbers.items in
    let at_root = get-at numbers 0 c.index.result.now (omega (arith, settled.building.are.many, guide.not_empty)) c.index.ensures in
    let flags = c.in_ok-accepting.ensures ∙ ap (map (λ (pair : ℕ × ℕ). is_accepting c.args.a.now pair.0 && is_accepting c.args.b.now pair.1))
    c.as_slice.ensures.pairs in
    let e = c.in_ok-made.ensures in
    let auto = c.in_ok-made.made in
    let is : auto ≡ record {
      table = tables_added now;
      parts = c.in_ok-settled.settled.parts;
      accepting = map (λ pair. is_accepting c.args.a.now
          pair.0 && is_accepting c.args.b.now pair.1) c.index.result.now;
    } =
    e.ok ∙ ap (λ (fs : List Bool). let v : AutoView = record { table = tables_added now; parts = c.in_ok-settled.settled.parts; accepting = fs } in v) flags in
    let adds = subst (λ (table : ℕ). AddsTable now c.from_parts.new.shelf table c.in_ok-settled.settled.roots) (ap (λ (v : AutoView). v.table) is) e.table in
    subst (λ (v : AutoView). IsAuto c.args.g.now c.from_parts.new.shelf v) (sym is)
    (IsAuto-made c.args.g.now guide c.args.shelf.now now c.args.a.now c.args.b.now c.requires.first c.requires.second numbers settled.building.are
    c.in_ok-settled.settled.parts settled.many c.in_ok-settled.settled.roots settled.parts (tables_added now) c.index.result.now at_root
    c.from_parts.new.shelf adds)

pub returns-clause-product : goal.returns-clause-product
returns-clause-product c =
    let AB = pairs (automaton_of c.args.shelf.now c.args.a.now) (automaton_of c.args.shelf.now c.args.b.now) in
    let guide = c.settle.ensures.guide in
    let settled = c.in_ok-settled.ensures.settled in
    let now = c.settle.new.shelf in
    let numbers = c.in_ok-settled.settled.numbers.items in
    let at_root = get-at numbers 0 c.index.result.now (omega (arith, settled.building.are.many, guide.not_empty)) c.index.ensures in
    let flags = c.in_ok-accepting.ensures ∙ ap (map (λ (pair : ℕ × ℕ). is_accepting c.args.a.now pair.0 && is_accepting c.args.b.now pair.1))
    c.as_slice.ensures.pairs in
    let e = c.in_ok-made.ensures in
    let auto = c.in_ok-made.made in
    let is : auto ≡ record {
      table = tables_added now;
      parts = c.in_ok-settled.settled.parts;
      accepting = map (λ pair. is_accepting c.args.a.now
          pair.0 && is_accepting c.args.b.now pair.1) c.index.result.now;
    } =
    e.ok ∙ ap (λ (fs : List Bool). let v : AutoView = record { table = tables_added now; parts = c.in_ok-settled.settled.parts; accepting = fs } in v) flags in
    let adds = subst (λ (table : ℕ). AddsTable now c.from_parts.new.shelf table c.in_ok-settled.settled.roots) (ap (λ (v : AutoView). v.table) is) e.table in
    subst (λ (v : AutoView). IsProductOf c.args.g.now (automaton_of c.args.shelf.now c.args.a.now) (automaton_of c.args.shelf.now c.args.b.now)
    (automaton_of c.from_parts.new.shelf v) (states_of v)) (sym is)
    (record {
      pair = pair_of c.args.g.now guide c.args.shelf.now now c.args.a.now c.args.b.now c.requires.first c.requires.second numbers settled.building.are
          c.in_ok-settled.settled.parts settled.many c.in_ok-settled.settled.roots settled.parts (tables_added now) c.index.result.now at_root;
      product = IsProduct-made c.args.g.now guide c.args.shelf.now now c.args.a.now c.args.b.now c.requires.first c.requires.second numbers settled.building.are
          c.in_ok-settled.settled.parts settled.many c.in_ok-settled.settled.roots settled.parts (tables_added now) c.index.result.now at_root
          c.from_parts.new.shelf adds;
    })

pub returns-clause-accepts : goal.returns-clause-accepts
returns-clause-accepts c = λ assignment.
    let AB = pairs (automaton_of c.args.shelf.now c.args.a.now) (automaton_of c.args.shelf.now c.args.b.now) in
    let guide = c.settle.ensures.guide in
    let settled = c.in_ok-settled.ensures.settled in
    let now = c.settle.new.shelf in
    let numbers = c.in_ok-settled.settled.numbers.items in
    let at_root = get-at numbers 0 c.index.result.now (omega (arith, settled.building.are.many, guide.not_empty)) c.index.ensures in
    let flags = c.in_ok-accepting.ensures ∙ ap (map (λ (pair : ℕ × ℕ). is_accepting c.args.a.now pair.0 && is_accepting c.args.b.now pair.1))
    c.as_slice.ensures.pairs in
    let e = c.in_ok-made.ensures in
    let auto = c.in_ok-made.made in
    let is : auto ≡ record {
      table = tables_added now;
      parts = c.in_ok-settled.settled.parts;
      accepting = map (λ pair. is_accepting c.args.a.now
          pair.0 && is_accepting c.args.b.now pair.1) c.index.result.now;
    } =
    e.ok ∙ ap (λ (fs : List Bool). let v : AutoView = record { table = tables_added now; parts = c.in_ok-settled.settled.parts; accepting = fs } in v) flags in
    let adds = subst (λ (table : ℕ). AddsTable now c.from_parts.new.shelf table c.in_ok-settled.settled.roots) (ap (λ (v : AutoView). v.table) is) e.table in
    subst (λ (v : AutoView). Accepts c.args.g.now (automaton_of c.from_parts.new.shelf v) assignment
    ↔ (Accepts c.args.g.now (automaton_of c.args.shelf.now c.args.a.now) assignment × Accepts c.args.g.now (automaton_of c.args.shelf.now
    c.args.b.now) assignment)) (sym is)
    (Accepts-product c.args.g.now guide (automaton_of c.args.shelf.now c.args.a.now) (automaton_of c.args.shelf.now c.args.b.now)
    c.requires.first.stable c.requires.second.stable
    _ _ _ (IsProduct-made c.args.g.now guide c.args.shelf.now now c.args.a.now c.args.b.now c.requires.first c.requires.second numbers settled.building.are
    c.in_ok-settled.settled.parts settled.many c.in_ok-settled.settled.roots settled.parts (tables_added now) c.index.result.now at_root
    c.from_parts.new.shelf adds) assignment)

pub returns-clause-table : goal.returns-clause-table
returns-clause-table c = RegistersTable-after c.args.shelf.now c.settle.new.shelf c.from_parts.new.shelf c.in_ok-made.made.table c.in_ok-settled.settled.roots
    c.settle.ensures.leaves.tables c.in_ok-made.ensures.table

pub returns-clause-kept : goal.returns-clause-kept
returns-clause-kept c = Keeps-trans c.args.shelf.now c.settle.new.shelf c.from_parts.new.shelf c.settle.ensures.leaves.keeps
    (Keeps-same c.settle.new.shelf c.from_parts.new.shelf c.in_ok-made.ensures.table.nodes)

pub returns-clause-same_limit : goal.returns-clause-same_limit
returns-clause-same_limit c = c.in_ok-made.ensures.table.nodes.limit ∙ c.settle.ensures.leaves.same_limit

pub returns-in_err-made-clause-kept : goal.returns-in_err-made-clause-kept
returns-in_err-made-clause-kept c = subst (λ (shelf : Contents). Keeps c.args.shelf.now shelf) (sym c.in_err-made.ensures.err) c.settle.ensures.leaves.keeps

pub returns-in_err-made-clause-tables : goal.returns-in_err-made-clause-tables
returns-in_err-made-clause-tables c = on-err c.from_residual-in_err-made.result
    (subst (λ (shelf : Contents). SameTables c.args.shelf.now shelf) (sym c.in_err-made.ensures.err) c.settle.ensures.leaves.tables)

pub returns-in_err-made-clause-same_limit : goal.returns-in_err-made-clause-same_limit
returns-in_err-made-clause-same_limit c = ap (λ (shelf : Contents). shelf.limit) c.in_err-made.ensures.err ∙ c.settle.ensures.leaves.same_limit

pub returns-in_err-tables-clause-kept : goal.returns-in_err-tables-clause-kept
returns-in_err-tables-clause-kept c = Keeps-refl c.args.shelf.now
