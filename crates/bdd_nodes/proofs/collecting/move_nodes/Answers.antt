use Rattle.std.proofs.Common.{◌≡◌, ℕ, ◌+◌, ◌≤◌, ◌<◌, ◌^◌, List, length, get_or, set, refl, sym, ◌∙◌, ap, subst, suc, arith, inl, inr}
use Rattle.std.proofs.lemmas.Bool.{cases_lt}
use Rattle.bdd_nodes.specs.declared.node.Node.{Node}
use Rattle.bdd_nodes.specs.Nodes.{node_at}
use Rattle.bdd_nodes.specs.Collecting.{marked_below, moved_node, linked, MovesBelow}
use Rattle.bdd_nodes.proofs.MovesLemmas.{MovesBelow-none, MovesBelow-marked, MovesBelow-unmarked, marked_below-le, node-moved}
use Rattle.bdd_nodes.proofs.collecting.move_nodes.Goals as goal
use Rattle.bdd_nodes.proofs.collecting.move_nodes.Goals.{then-marks-index-eq1, else-marks-index-eq1}

not_one : (n : ℕ) → n ≤ 1 → (n ≡ 1 → ⊥) → n ≡ 0
not_one n bit other = elim (cases_lt n 1) [ inl below ↦ omega arith | inr not_below ↦ absurd (other (omega arith)) ]

pub loop-index-init : goal.loop-index-init
loop-index-init c = (refl, MovesBelow-none _ _)

pub offset_bounds-nodes-kept : goal.offset_bounds-nodes-kept
offset_bounds-nodes-kept c =
    let le = marked_below-le c.args.marks.now c.loop-index.index c.requires.closed.bits in
    let e = c.loop-index.invariant.0 in
    let small : c.loop-index.kept < 2 ^ 31 = omega arith in
    omega arith

pub bounds-nodes-kept : goal.bounds-nodes-kept
bounds-nodes-kept c =
    let le = marked_below-le c.args.marks.now c.loop-index.index c.requires.closed.bits in
    let e = c.loop-index.invariant.0 in
    let len = c.loop-index.invariant.1.len in
    omega arith

pub overflow_add-kept : goal.overflow_add-kept
overflow_add-kept c =
    let le = marked_below-le c.args.marks.now c.loop-index.index c.requires.closed.bits in
    let e = c.loop-index.invariant.0 in
    let small : c.loop-index.kept < 2 ^ 31 = omega arith in
    omega arith

pub overflow_cast-marks : goal.overflow_cast-marks
overflow_cast-marks c =
    let le = marked_below-le c.args.marks.now c.loop-index.index c.requires.closed.bits in
    let e = c.loop-index.invariant.0 in
    let small : c.loop-index.kept < 2 ^ 31 = omega arith in
    omega arith

pub loop-index-preserved : goal.loop-index-preserved
loop-index-preserved c =
    let nodes = c.args.nodes.now in
    let marks = c.args.marks.now in
    let now = c.loop-index.nodes in
    let links = c.loop-index.marks in
    let index = c.loop-index.index in
    let so_far = c.loop-index.invariant.1 in
    let kept : c.loop-index.kept ≡ marked_below marks index = c.loop-index.invariant.0 in
    let within : index < length nodes = c.loop-index-test.true in
    let in_links : index < length links = (let l = so_far.links_len in let f = c.requires.fits in omega arith) in
    let next : suc index ≡ index + 1 = omega arith in
    let ahead : node_at now index ≡ node_at nodes index = so_far.ahead index (omega arith) in
    let read : get_or marks index 0 ≡ get_or links index 0 = sym (so_far.marks_ahead index (omega arith)) in
    subst (λ (p : ℕ). (c.if-marks-index-eq1.kept ≡ marked_below marks p) × MovesBelow nodes marks c.if-marks-index-eq1.nodes c.if-marks-index-eq1.marks p) next
    (elim c.if-marks-index-eq1.branch [
      | then-marks-index-eq1 w ↦
          let is_marked : get_or marks index 0 ≡ 1 = read ∙ w.if-marks-index-eq1.true in
          let small : length nodes < 2 ^ 31 = c.requires.small in
          let fits : length nodes ≤ length marks = (let f = c.requires.fits in omega arith) in
          let n : Node = record { track = (node_at now index).track; low = w.linked.result; high = w.linked-then-marks-index-eq1.result } in
          let node : n ≡ moved_node marks (node_at nodes index) =
          node-moved nodes c.requires.canonical marks c.requires.closed now links index so_far within is_marked fits small n (ap (λ (m : Node). m.track) ahead)
          (w.linked.ensures ∙ ap (λ (m : Node). linked links m.low) ahead)
          (w.linked-then-marks-index-eq1.ensures ∙ ap (λ (m : Node). linked links m.high) ahead) in
          let nodes-are : c.if-marks-index-eq1.nodes ≡ set now (marked_below marks index) (moved_node marks (node_at nodes index)) =
          w.nodes-is ∙ ap (λ (k : ℕ). set now k n) kept ∙ ap (set now (marked_below marks index)) node in
          let marks-are : c.if-marks-index-eq1.marks ≡ set links index (marked_below marks index + 1) =
          w.marks-is ∙ ap (λ (k : ℕ). set links index (k + 1)) kept in (
            (let k = w.kept-is in omega arith),
            subst (λ (ms : List ℕ). MovesBelow nodes marks c.if-marks-index-eq1.nodes ms (suc index)) (sym marks-are)
                (subst (λ (ns : List Node). MovesBelow nodes marks ns (set links index (marked_below marks index + 1)) (suc index)) (sym nodes-are)
                (MovesBelow-marked nodes c.requires.canonical marks c.requires.closed now links index so_far within is_marked fits small)),
          )
      | else-marks-index-eq1 w ↦
          let unmarked : get_or marks index 0 ≡ 1 → ⊥ = λ e. w.if-marks-index-eq1.false (sym read ∙ e) in (
            (let k = w.kept-is in let b = c.requires.closed.bits index in
                let z : get_or marks index 0 ≡ 0 = not_one _ b unmarked in omega arith),
            subst (λ (ms : List ℕ). MovesBelow nodes marks c.if-marks-index-eq1.nodes ms (suc index)) (sym w.marks-is)
                (subst (λ (ns : List Node). MovesBelow nodes marks ns links (suc index)) (sym w.nodes-is)
                (MovesBelow-unmarked nodes c.requires.canonical marks c.requires.closed now links index so_far within unmarked)),
          )
    ])
