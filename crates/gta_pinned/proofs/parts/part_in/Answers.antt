use Rattle.std.proofs.Common.{◌≡◌, ℕ, ◌+◌, ◌<◌, List, length, Option, refl, ap, ◌∙◌, arith}
use Rattle.std.specs.Prelude.{slice_get, unwrap_or}
use Rattle.gta_theory.specs.Guides.{left, right}
use Rattle.gta_pinned.specs.declared.shapes.Shape.{Shape}
use Rattle.gta_pinned.specs.Shapes.{shapes_in}
use Rattle.gta_pinned.specs.Parts.{count_in}
use Rattle.gta_pinned.proofs.RootsLemmas.{AreRoots-same, shapes-at}
use Rattle.gta_pinned.proofs.parts.part_in.Goals as goal

pub returns-clause-part : goal.returns-clause-part
returns-clause-part c =
    let g = c.args.g.now in
    let s = c.args.space in
    let lists = c.args.shapes.now.items in
    let many = c.requires.usable.many in
    let guide = c.children.ensures.guide in
    let pair : c.unwrap_or-left.result ≡ unwrap_or (slice_get g s) (0, 0) =
    c.unwrap_or-left.ensures ∙ ap (λ (o : Option (ℕ × ℕ)). unwrap_or o (0, 0)) c.children.ensures.value in
    let at_left : c.unwrap_or-left.result.0 ≡ left g s = ap (λ (p : ℕ × ℕ). p.0) pair in
    let at_right : c.unwrap_or-left.result.1 ≡ right g s = ap (λ (p : ℕ × ℕ). p.1) pair in
    let left_in : c.unwrap_or-left.result.0 < length lists = (let i = guide.left_inside s c.requires.inside in omega (arith, at_left)) in
    let right_in : c.unwrap_or-left.result.1 < length lists = (let i = guide.right_inside s c.requires.inside in omega (arith, at_right)) in
    let here_in : s < length lists = (let i = c.requires.inside in omega arith) in
    let here : c.index-here.result.now ≡ shapes_in lists s = shapes-at lists s c.index-here.result.now here_in c.index-here.ensures in
    let height : c.len-height.result + 1 ≡ count_in lists (left g s) =
    ap (λ (n : ℕ). n + 1) (c.len-height.ensures.value
    ∙ ap (λ (xs : List Shape). length xs) (shapes-at lists c.unwrap_or-left.result.0 c.index.result.now left_in c.index.ensures))
    ∙ ap (λ (m : ℕ). count_in lists m) at_left in
    let width : c.len-width.result + 1 ≡ count_in lists (right g s) =
    ap (λ (n : ℕ). n + 1) (c.len-width.ensures.value
    ∙ ap (λ (xs : List Shape). length xs) (shapes-at lists c.unwrap_or-left.result.1 c.index-2.result.now right_in c.index-2.ensures))
    ∙ ap (λ (m : ℕ). count_in lists m) at_right in
    record {
      states = ap (λ (n : ℕ). n + 1) (c.len.ensures.value ∙ ap (λ (xs : List Shape). length xs) here);
      initial = refl;
      roots = AreRoots-same c.roots_of.new.shelf c.as_slice.result.now (shapes_in lists s) (c.len-height.result + 1) (count_in lists (left g s))
          (c.len-width.result + 1) (count_in lists (right g s)) c.in_ok-roots.roots (c.as_slice.ensures.shapes ∙ here) height width
          c.in_ok-roots.ensures.roots;
    }
