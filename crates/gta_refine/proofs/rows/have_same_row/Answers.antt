-- Number after number.
use Rattle.std.proofs.Common.{◌≡◌, ◌<◌, length, sym, ◌∙◌, ap, arith}
use Rattle.bdd_nodes.specs.declared.node_ref.NodeRef.{NodeRef}
use Rattle.gta_refine.proofs.RowsLemmas.{same_word, SameBelow-more, rows-same, rows-apart}
use Rattle.gta_refine.proofs.rows.have_same_row.Goals as goal

pub loop-other-init : goal.loop-other-init
loop-other-init c = λ k k_in. absurd (omega arith)

pub loop-other-preserved : goal.loop-other-preserved
loop-other-preserved c =
    let words = sym c.word.ensures ∙ c.if-not-is_same.false ∙ c.word-in-loop-other.ensures in
    let same = same_word c.number_of-first.result c.number_of-second.result words in
    SameBelow-more c.args.space.now c.args.side c.args.numbers.now c.args.one c.args.two c.args.beside.now c.loop-other.other-index
    c.loop-other.invariant (sym c.number_of-first.ensures ∙ same ∙ c.number_of-second.ensures)

pub returns-then-not-is_same-clause-apart : goal.returns-then-not-is_same-clause-apart
returns-then-not-is_same-clause-apart c = λ is same.
    let beside = c.args.beside.now in
    let i = c.loop-other.other-index in
    let inside : i < length beside = (let t = c.loop-other-test.true in let e = c.loop-other.auto.other-index-end in omega arith) in
    let numbers = rows-apart c.args.space.now c.args.side c.args.numbers.now c.args.one c.args.two beside i inside same in
    c.if-not-is_same.true (c.word.ensures ∙ ap (λ (r : NodeRef). r.word) (c.number_of-first.ensures ∙ numbers ∙ sym c.number_of-second.ensures)
    ∙ sym c.word-in-loop-other.ensures)

pub returns-clause-same : goal.returns-clause-same
returns-clause-same c = λ is.
    let beside = c.args.beside.now in
    let end : c.loop-other.other-index ≡ length beside = (let t = c.loop-other-test.false in let e = c.loop-other.auto.other-index-end in omega arith) in
    rows-same c.args.space.now c.args.side c.args.numbers.now c.args.one c.args.two beside c.loop-other.other-index c.loop-other.invariant end
