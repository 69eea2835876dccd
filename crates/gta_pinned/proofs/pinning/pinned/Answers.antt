use Rattle.std.proofs.Common.{◌≡◌, ◌↔◌, ℕ, ◌+◌, ◌<◌, List, length, sym, ap, subst, ◌∙◌, arith}
use Rattle.gta_theory.specs.Automata.{Automaton, Accepts}
use Rattle.ws2s_core.specs.LabelTrees.{IsTree, assignment_of}
use Rattle.gta_pinned.specs.declared.shapes.Shape.{Shape}
use Rattle.gta_pinned.specs.Alike.{AreAlikeOn}
use Rattle.gta_pinned.specs.Parts.{are_only, count_in}
use Rattle.gta_pinned.proofs.RootsLemmas.{shapes-at}
use Rattle.gta_pinned.proofs.ListsLemmas.{AreShapes-kept, AreOfTree-kept}
use Rattle.gta_pinned.proofs.GivenLemmas.{AreAllUsable-shapes, IsGiven-parts, accepts-given}
use Rattle.gta_pinned.proofs.pinning.pinned.Goals as goal

pub parts-requires-clause-usable : goal.parts-requires-clause-usable
parts-requires-clause-usable c =
    let of_tree = c.in_ok-made.ensures.shapes in
    AreAllUsable-shapes c.args.g.now c.shapes_of.new.shelf of_tree.rising c.in_ok-made.made.shapes.items c.in_ok-made.ensures.shapes.guide of_tree.shapes

pub build-requires : goal.build-requires
build-requires c =
    let g = c.args.g.now in
    let guide = c.in_ok-made.ensures.shapes.guide in
    let shelf = c.parts.new.shelf in
    let lists = c.in_ok-made.made.shapes.items in
    let root = c.in_ok-made.made.root in
    let was = c.in_ok-made.ensures.shapes in
    let many = was.shapes.many in
    let first_in : 0 < length lists = (let i = guide.not_empty in omega arith) in
    let count : c.len.result + 1 ≡ count_in lists 0 = ap (λ (n : ℕ). n + 1) (c.len.ensures.value
    ∙ ap (λ (xs : List Shape). length xs) (shapes-at lists 0 c.index.result.now first_in c.index.ensures)) in
    IsGiven-parts g guide shelf c.parts.ensures.makes.now was.rising lists
    (AreShapes-kept g c.shapes_of.new.shelf shelf c.parts.ensures.makes.keeps was.rising lists was.shapes)
    c.in_ok-spaces.spaces root c.in_ok-accepting.accepting c.in_ok-spaces.ensures.many c.in_ok-spaces.ensures.parts
    (c.in_ok-accepting.ensures ∙ ap (λ (n : ℕ). are_only root n) count)

pub returns-clause-accepts : goal.returns-clause-accepts
returns-clause-accepts c = λ n a covers.
    let g = c.args.g.now in
    let guide = c.in_ok-made.ensures.shapes.guide in
    let shelf = c.parts.new.shelf in
    let nodes = c.args.tree.now in
    let tree : IsTree nodes = c.in_ok-made.ensures.shapes.tree in
    let lists = c.in_ok-made.made.shapes.items in
    let root = c.in_ok-made.made.root in
    let was = c.in_ok-made.ensures.shapes in
    let many = was.shapes.many in
    let first_in : 0 < length lists = (let i = guide.not_empty in omega arith) in
    let count : c.len.result + 1 ≡ count_in lists 0 = ap (λ (n : ℕ). n + 1) (c.len.ensures.value
    ∙ ap (λ (xs : List Shape). length xs) (shapes-at lists 0 c.index.result.now first_in c.index.ensures)) in
    subst (λ (A : Automaton ℕ). Accepts g A a ↔ AreAlikeOn c.args.tracks.now (assignment_of nodes) a) (sym c.in_ok-auto.ensures.same)
    (accepts-given g guide shelf c.parts.ensures.makes.now c.args.tracks.now nodes tree lists root
    (AreOfTree-kept g c.shapes_of.new.shelf shelf c.parts.ensures.makes.keeps c.args.tracks.now nodes lists root was)
    c.in_ok-spaces.spaces c.in_ok-accepting.accepting c.in_ok-spaces.ensures.many c.in_ok-spaces.ensures.parts
    (c.in_ok-accepting.ensures ∙ ap (λ (n : ℕ). are_only root n) count) n a covers)
