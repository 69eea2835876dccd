use Rattle.std.proofs.Common.{◌≡◌, ◌*◌, ◌/◌, ◌%◌, ℕ, Bool, List, [], ◌∷◌, length, Option, refl, sym, ap, subst, ◌∙◌, arith, length-append}
use Rattle.std.specs.Prelude.{slice_get, unwrap_or}
use Rattle.bdd_nodes.specs.declared.node_ref.NodeRef.{NodeRef}
use Rattle.gta_theory.specs.Guides.{Spaces, left, right}
use Rattle.gta_theory.specs.Numbered.{Below}
use Rattle.gta_atom.specs.declared.kept.Kept.{Kept}
use Rattle.gta_atom.specs.declared.plan.Plan.{Plan}
use Rattle.gta_atom.specs.Children.{test_of}
use Rattle.gta_atom.specs.States.{count_of}
use Rattle.gta_atom.specs.Plans.{kept_in}
use Rattle.gta_room.specs.Progress.{IsUnderSomewhere}
use Rattle.gta_atom.specs.Automata.{counts_of, numbered_automaton}
use Rattle.gta_atom.specs.Cells.{cell_function, AreRoots}
use Rattle.gta_room.proofs.ProgressLemmas.{Adds-both, Adds-also, IsStuck-also}
use Rattle.gta_atom.proofs.PartsLemmas.{part-cell, states-cell, AreRoots-kept, AreRoots-push}
use Rattle.gta_atom.proofs.making.part_in.Goals as goal

at_first : (g : Spaces) (plan : Plan) (t : Bool → ℕ → Bool) (s : ℕ) (o : Option (ℕ × ℕ)) (p : ℕ × ℕ) (kept : Kept) → p ≡ unwrap_or o (0, 0) →
    o ≡ slice_get g s → kept ≡ kept_in plan t p.0 → kept ≡ kept_in plan t (left g s)
at_first g plan t s o p kept is at is_kept =
    is_kept ∙ ap (λ (q : ℕ × ℕ). kept_in plan t q.0) (is ∙ ap (λ (r : Option (ℕ × ℕ)). unwrap_or r (0, 0)) at)

at_second : (g : Spaces) (plan : Plan) (t : Bool → ℕ → Bool) (s : ℕ) (o : Option (ℕ × ℕ)) (p : ℕ × ℕ) (kept : Kept) → p ≡ unwrap_or o (0, 0) →
    o ≡ slice_get g s → kept ≡ kept_in plan t p.1 → kept ≡ kept_in plan t (right g s)
at_second g plan t s o p kept is at is_kept =
    is_kept ∙ ap (λ (q : ℕ × ℕ). kept_in plan t q.1) (is ∙ ap (λ (r : Option (ℕ × ℕ)). unwrap_or r (0, 0)) at)

pub returns-in_err-root-clause-adds : goal.returns-in_err-root-clause-adds
returns-in_err-root-clause-adds c =
    let part = part-cell c.args.g.now c.args.plan (test_of c.args.test.now) c.args.space c.requires.inside
    c.kept-at_left.result c.kept-at_right.result c.kept-kept.result
    (at_first c.args.g.now c.args.plan (test_of c.args.test.now) c.args.space c.children.result c.unwrap_or-left.result c.kept-at_left.result
    c.unwrap_or-left.ensures c.children.ensures.value c.kept-at_left.ensures)
    (at_second c.args.g.now c.args.plan (test_of c.args.test.now) c.args.space c.children.result c.unwrap_or-left.result c.kept-at_right.result
    c.unwrap_or-left.ensures c.children.ensures.value c.kept-at_right.ensures)
    c.kept-kept.ensures c.count.result c.count-columns.result c.loop-pair.pair c.count.ensures.value c.count-columns.ensures.value
    c.loop-pair-test.true c.known.result c.known-in-loop-pair.result c.known.ensures c.known-in-loop-pair.ensures in
    let Is = IsUnderSomewhere c.args.g.now (numbered_automaton c.args.g.now c.args.plan (test_of c.args.test.now))
    (Below (counts_of c.args.plan (test_of c.args.test.now))) in
    Adds-both Is c.args.shelf.now c.loop-pair.shelf c.root.new.shelf c.loop-pair.invariant.2
    (Adds-also _ Is part c.loop-pair.shelf c.root.new.shelf c.root.ensures.adds)

pub returns-in_err-root-clause-stuck : goal.returns-in_err-root-clause-stuck
returns-in_err-root-clause-stuck c =
    let part = part-cell c.args.g.now c.args.plan (test_of c.args.test.now) c.args.space c.requires.inside
    c.kept-at_left.result c.kept-at_right.result c.kept-kept.result
    (at_first c.args.g.now c.args.plan (test_of c.args.test.now) c.args.space c.children.result c.unwrap_or-left.result c.kept-at_left.result
    c.unwrap_or-left.ensures c.children.ensures.value c.kept-at_left.ensures)
    (at_second c.args.g.now c.args.plan (test_of c.args.test.now) c.args.space c.children.result c.unwrap_or-left.result c.kept-at_right.result
    c.unwrap_or-left.ensures c.children.ensures.value c.kept-at_right.ensures)
    c.kept-kept.ensures c.count.result c.count-columns.result c.loop-pair.pair c.count.ensures.value c.count-columns.ensures.value
    c.loop-pair-test.true c.known.result c.known-in-loop-pair.result c.known.ensures c.known-in-loop-pair.ensures in
    let Is = IsUnderSomewhere c.args.g.now (numbered_automaton c.args.g.now c.args.plan (test_of c.args.test.now))
    (Below (counts_of c.args.plan (test_of c.args.test.now))) in
    λ stopped. IsStuck-also _ Is part c.root.new.shelf c.in_err-root.ensures.stuck

pub returns-in_err-push-clause-adds : goal.returns-in_err-push-clause-adds
returns-in_err-push-clause-adds c =
    let part = part-cell c.args.g.now c.args.plan (test_of c.args.test.now) c.args.space c.requires.inside
    c.kept-at_left.result c.kept-at_right.result c.kept-kept.result
    (at_first c.args.g.now c.args.plan (test_of c.args.test.now) c.args.space c.children.result c.unwrap_or-left.result c.kept-at_left.result
    c.unwrap_or-left.ensures c.children.ensures.value c.kept-at_left.ensures)
    (at_second c.args.g.now c.args.plan (test_of c.args.test.now) c.args.space c.children.result c.unwrap_or-left.result c.kept-at_right.result
    c.unwrap_or-left.ensures c.children.ensures.value c.kept-at_right.ensures)
    c.kept-kept.ensures c.count.result c.count-columns.result c.loop-pair.pair c.count.ensures.value c.count-columns.ensures.value
    c.loop-pair-test.true c.known.result c.known-in-loop-pair.result c.known.ensures c.known-in-loop-pair.ensures in
    let Is = IsUnderSomewhere c.args.g.now (numbered_automaton c.args.g.now c.args.plan (test_of c.args.test.now))
    (Below (counts_of c.args.plan (test_of c.args.test.now))) in
    Adds-both Is c.args.shelf.now c.loop-pair.shelf c.root.new.shelf c.loop-pair.invariant.2
    (Adds-also _ Is part c.loop-pair.shelf c.root.new.shelf c.root.ensures.adds)

pub loop-pair-preserved : goal.loop-pair-preserved
loop-pair-preserved c =
    let part = part-cell c.args.g.now c.args.plan (test_of c.args.test.now) c.args.space c.requires.inside
    c.kept-at_left.result c.kept-at_right.result c.kept-kept.result
    (at_first c.args.g.now c.args.plan (test_of c.args.test.now) c.args.space c.children.result c.unwrap_or-left.result c.kept-at_left.result
    c.unwrap_or-left.ensures c.children.ensures.value c.kept-at_left.ensures)
    (at_second c.args.g.now c.args.plan (test_of c.args.test.now) c.args.space c.children.result c.unwrap_or-left.result c.kept-at_right.result
    c.unwrap_or-left.ensures c.children.ensures.value c.kept-at_right.ensures)
    c.kept-kept.ensures c.count.result c.count-columns.result c.loop-pair.pair c.count.ensures.value c.count-columns.ensures.value
    c.loop-pair-test.true c.known.result c.known-in-loop-pair.result c.known.ensures c.known-in-loop-pair.ensures in
    let Is = IsUnderSomewhere c.args.g.now (numbered_automaton c.args.g.now c.args.plan (test_of c.args.test.now))
    (Below (counts_of c.args.plan (test_of c.args.test.now))) in
    let states = states-cell c.args.g.now c.args.plan (test_of c.args.test.now) c.args.space c.requires.inside
    c.kept-at_left.result c.kept-at_right.result c.kept-kept.result
    (at_first c.args.g.now c.args.plan (test_of c.args.test.now) c.args.space c.children.result c.unwrap_or-left.result c.kept-at_left.result
    c.unwrap_or-left.ensures c.children.ensures.value c.kept-at_left.ensures)
    (at_second c.args.g.now c.args.plan (test_of c.args.test.now) c.args.space c.children.result c.unwrap_or-left.result c.kept-at_right.result
    c.unwrap_or-left.ensures c.children.ensures.value c.kept-at_right.ensures)
    c.kept-kept.ensures c.count.result c.count-columns.result c.loop-pair.pair c.count.ensures.value c.count-columns.ensures.value
    c.loop-pair-test.true c.known.result c.known-in-loop-pair.result c.known.ensures c.known-in-loop-pair.ensures in
    let g = c.args.g.now in
    let t = test_of c.args.test.now in
    let s = c.args.space in
    let roots = c.loop-pair.roots in
    let root = c.in_ok-root.root in
    let new = c.root.new.shelf in
    let R = counts_of c.args.plan t (right g s) in
    let here = c.loop-pair.invariant.0 in
    let kept = AreRoots-kept g c.args.plan t c.loop-pair.shelf new s roots c.root.ensures.adds.keeps c.loop-pair.invariant.1 in
    let pushed = AreRoots-push g c.args.plan t new s roots root kept c.in_ok-root.ensures.valid (λ label.
    c.in_ok-root.ensures.value label
    ∙ subst (λ (n : ℕ). cell_function (record {
      form = c.args.plan.form;
      first = c.args.plan.first;
      second = c.args.plan.second;
      kept = c.kept-kept.result;
      left = c.known.result;
      right = c.known-in-loop-pair.result;
    }) label ≡ (numbered_automaton g c.args.plan t).step s (n / R) (n % R) label) (sym here) (states label)) in (
      ap (λ (rs : List NodeRef). length rs) c.in_ok-push.ensures.ok ∙ (let n = here in omega (arith, length-append roots (root ∷ []))),
      subst (λ (rs : List NodeRef). AreRoots g c.args.plan t new s rs) (sym c.in_ok-push.ensures.ok) pushed,
      Adds-both Is c.args.shelf.now c.loop-pair.shelf new c.loop-pair.invariant.2
          (Adds-also _ Is part c.loop-pair.shelf new c.root.ensures.adds),
    )

pub returns-clause-part : goal.returns-clause-part
returns-clause-part c =
    let g = c.args.g.now in
    let t = test_of c.args.test.now in
    let p = c.unwrap_or-left.ensures ∙ ap (λ (o : Option (ℕ × ℕ)). unwrap_or o (0, 0)) c.children.ensures.value in
    let rows : c.count.result ≡ counts_of c.args.plan t (left g c.args.space) =
    c.count.ensures.value ∙ ap count_of c.kept-at_left.ensures ∙ ap (λ (q : ℕ × ℕ). counts_of c.args.plan t q.0) p in
    let columns : c.count-columns.result ≡ counts_of c.args.plan t (right g c.args.space) =
    c.count-columns.ensures.value ∙ ap count_of c.kept-at_right.ensures ∙ ap (λ (q : ℕ × ℕ). counts_of c.args.plan t q.1) p in
    let many : length c.loop-pair.roots ≡ c.count.result * c.count-columns.result =
    (let n = c.loop-pair.invariant.0 in let a = c.loop-pair-test.false in let b = c.loop-pair.auto.pair-end in omega arith) in
    record {
      states = c.count-2.ensures.value ∙ ap count_of c.kept-kept.ensures;
      initial = refl;
      many = many ∙ (λ k. rows k * columns k);
      roots = c.loop-pair.invariant.1;
    }
