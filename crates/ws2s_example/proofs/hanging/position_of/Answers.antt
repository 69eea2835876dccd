use Rattle.std.proofs.Common.{◌≡◌, ◌<◌, ◌++◌, length, Some, None, arith, append_assoc, subst, ap, sym, ◌∙◌, reverse, [], ◌∷◌}
use Rattle.std.proofs.lemmas.List.{reverse-append}
use Rattle.ws2s_theory.specs.Trees.{StandsAt, at_root}
use Rattle.ws2s_example.specs.Hanging.{HasChild}
use Rattle.ws2s_example.proofs.ListLemmas.{at-place}
use Rattle.ws2s_example.proofs.HangingLemmas.{child-before, parent-inside, stands-child, root-without_parent}
use Rattle.ws2s_example.proofs.hanging.position_of.Goals as goal

pub loop-at-smaller : goal.loop-at-smaller
loop-at-smaller c =
    let inside : c.loop-at.at < length c.args.hangings.now = omega (arith, c.requires.hangings.long, c.loop-at.invariant.0) in
    let has : HasChild c.args.nodes.now c.in-Some.hanging.parent c.in-Some.hanging.letter c.loop-at.at =
    c.requires.hangings.each c.loop-at.at (Some c.in-Some.hanging)
    (at-place c.args.hangings.now c.loop-at.at None (Some c.in-Some.hanging) inside c.in-Some.is) in
    omega (
      arith,
      child-before c.args.nodes.now c.requires.tree c.in-Some.hanging.parent c.loop-at.at c.in-Some.hanging.letter has,
      parent-inside c.args.nodes.now c.requires.tree c.in-Some.hanging.parent c.loop-at.at c.in-Some.hanging.letter has,
    )

pub loop-at-preserved : goal.loop-at-preserved
loop-at-preserved c =
    let nodes = c.args.nodes.now in
    let parent = c.in-Some.hanging.parent in
    let letter = c.in-Some.hanging.letter in
    let at = c.loop-at.at in
    let letters = c.loop-at.letters.items in
    let inside : at < length c.args.hangings.now = omega (arith, c.requires.hangings.long, c.loop-at.invariant.0) in
    let has : HasChild nodes parent letter at =
    c.requires.hangings.each at (Some c.in-Some.hanging) (at-place c.args.hangings.now at None (Some c.in-Some.hanging) inside c.in-Some.is) in
    let turned : reverse c.push.new.self.items ≡ letter ∷ reverse letters =
    ap reverse c.in_ok-push.ensures.items ∙ reverse-append letters (letter ∷ []) in (
      parent-inside nodes c.requires.tree parent at letter has,
      (λ q above.
          let below = c.loop-at.invariant.1 (q ++ letter ∷ []) (stands-child nodes c.requires.tree parent at letter q has above) in
          subst (StandsAt nodes c.args.node) (append_assoc q (letter ∷ []) (reverse letters) ∙ ap (λ w. q ++ w) (sym turned)) below),
    )

pub returns : goal.returns
returns c =
    let nodes = c.args.nodes.now in
    let at = c.loop-at.at in
    let inside : at < length c.args.hangings.now = omega (arith, c.requires.hangings.long, c.loop-at.invariant.0) in
    let none = c.requires.hangings.each at None (at-place c.args.hangings.now at None None inside c.in_default.is) in
    let root = root-without_parent nodes c.requires.tree at c.loop-at.invariant.0 none in
    subst (StandsAt nodes c.args.node) (sym c.reverse.ensures.items) (c.loop-at.invariant.1 [] (at_root at root))
