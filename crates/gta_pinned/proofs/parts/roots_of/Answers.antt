use Rattle.std.proofs.Common.{◌≡◌, ℕ, suc, ◌+◌, ◌*◌, ◌<◌, List, length, get_or, set, Some, refl, sym, subst, arith}
use Rattle.std.specs.Prelude.{slice_get}
use Rattle.std.proofs.lemmas.Option.{slice_get_read, slice_get-get_or}
use Rattle.bdd_nodes.specs.declared.node_ref.NodeRef.{NodeRef}
use Rattle.bdd_nodes.specs.Shelf.{IsValid}
use Rattle.gta_pinned.specs.declared.shapes.Shape.{Shape}
use Rattle.gta_pinned.specs.Parts.{AreRoots}
use Rattle.gta_pinned.proofs.MakingLemmas.{Makes-refl, Makes-trans}
use Rattle.gta_pinned.proofs.RootsLemmas.{AreRoots-none, AreRoots-more, pair-inside}
use Rattle.gta_pinned.proofs.parts.roots_of.Goals as goal

abbrev no_shape : Shape
no_shape = record { left = 0; right = 0; test = record { word = 0 } }

pub loop-k-init : goal.loop-k-init
loop-k-init c = record {
  roots = subst (λ (xs : List NodeRef). AreRoots c.args.shelf.now c.args.shapes.now 0 c.args.height c.args.width xs)
      (sym (c.in_ok-roots.ensures.items_if_clones_equal (λ y h. h)))
      (AreRoots-none c.args.shelf.now c.args.shapes.now c.args.height c.args.width c.leaf.result c.leaf.ensures);
  makes = Makes-refl c.args.shelf.now c.requires.shelf;
}

pub index-requires : goal.index-requires
index-requires c =
    let k = c.loop-k.k in
    let shape = get_or c.args.shapes.now k no_shape in
    let at : slice_get c.args.shapes.now k ≡ Some shape = slice_get-get_or c.args.shapes.now k no_shape (omega arith) in
    let v = c.loop-k.roots.ok.0 in
    let many = c.loop-k.invariant.roots.many in
    omega (
      arith,
      pair-inside c.args.height c.args.width shape.left shape.right (c.requires.usable.left k shape at) (c.requires.usable.right k shape at),
    )

pub choose-requires-clause-test : goal.choose-requires-clause-test
choose-requires-clause-test c =
    let k = c.loop-k.k in
    let shape = get_or c.args.shapes.now k no_shape in
    let at : slice_get c.args.shapes.now k ≡ Some shape = slice_get-get_or c.args.shapes.now k no_shape (omega arith) in
    c.loop-k.invariant.makes.keeps.valid shape.test (c.requires.usable.test k shape at)

pub choose-requires-clause-other : goal.choose-requires-clause-other
choose-requires-clause-other c =
    let k = c.loop-k.k in
    let shape = get_or c.args.shapes.now k no_shape in
    let at : slice_get c.args.shapes.now k ≡ Some shape = slice_get-get_or c.args.shapes.now k no_shape (omega arith) in
    let place = shape.left * c.args.width + shape.right in
    let inside = pair-inside c.args.height c.args.width shape.left shape.right (c.requires.usable.left k shape at) (c.requires.usable.right k shape at) in
    let many = c.loop-k.invariant.roots.many in
    subst (IsValid c.loop-k.shelf) (sym c.index.ensures) (c.loop-k.invariant.roots.valid place c.index.result.now (omega (arith, inside)))

pub index_mut-requires : goal.index_mut-requires
index_mut-requires c =
    let k = c.loop-k.k in
    let shape = get_or c.args.shapes.now k no_shape in
    let at : slice_get c.args.shapes.now k ≡ Some shape = slice_get-get_or c.args.shapes.now k no_shape (omega arith) in
    let v = c.loop-k.roots.ok.0 in
    let many = c.loop-k.invariant.roots.many in
    omega (
      arith,
      pair-inside c.args.height c.args.width shape.left shape.right (c.requires.usable.left k shape at) (c.requires.usable.right k shape at),
    )

pub loop-k-preserved : goal.loop-k-preserved
loop-k-preserved c =
    let k = c.loop-k.k in
    let shapes = c.args.shapes.now in
    let shape = get_or shapes k no_shape in
    let at : slice_get shapes k ≡ Some shape = slice_get-get_or shapes k no_shape (omega arith) in
    let height = c.args.height in
    let width = c.args.width in
    let in_left = c.requires.usable.left k shape at in
    let in_right = c.requires.usable.right k shape at in
    let place = shape.left * width + shape.right in
    let roots = c.loop-k.roots.items in
    let are = c.loop-k.invariant.roots in
    let inside : place < length roots = (let many = are.many in omega (arith, pair-inside height width shape.left shape.right in_left in_right)) in
    let here = c.index.result.now in
    let there : slice_get roots place ≡ Some here = slice_get_read roots (length roots) place here refl inside c.index.ensures in
    let old = c.loop-k.shelf in
    let new = c.choose.new.shelf in
    let made = c.in_ok-root.root in
    let next : suc k ≡ k + 1 = omega arith in
    record {
      roots = subst (λ (n : ℕ). AreRoots new shapes n height width (set roots place made)) next
          (AreRoots-more old new c.choose.ensures.makes.keeps shapes
          (λ j x is. c.loop-k.invariant.makes.keeps.valid x.test (c.requires.usable.test j x is))
          k height width roots are shape at in_left in_right here made there c.in_ok-root.ensures.valid c.in_ok-root.ensures.value);
      makes = Makes-trans c.args.shelf.now old new c.loop-k.invariant.makes c.choose.ensures.makes;
    }
