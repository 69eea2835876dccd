use Rattle.std.proofs.Common.{◌≡◌, [], refl, ap, ◌∙◌}
use Rattle.ws2s_core.specs.declared.formula.Formula.TheVariants.{Sub, Single, Succ0, Root, And, Not, Ex2}
use Rattle.ws2s_core.specs.Sizes.{node_count}
use Rattle.ws2s_syntax.proofs.SentencesLemmas.{sentence-Atom}
use Rattle.ws2s_forms.specs.Forms.{track}
use Rattle.ws2s_reduce.specs.Reducing.{reduced, no_reductions, holds_of}
use Rattle.ws2s_reduce.specs.Examples.{left_child, is_left_child}
use Rattle.ws2s_reduce.proofs.CountsLemmas.{count-Sub, count-Single, count-Succ0, count-Root, count-And, count-Ex2}
use Rattle.ws2s_reduce.proofs.examples.position_is_one_in_both.Goals as goal

holds_is : holds_of left_child
    ≡ And (Single (track 0)) (Ex2 (track 1)
    (And (And (Single (track 1)) (Sub (track 1) (track 0)))
    (Ex2 (track 2) (And (Root (track 2)) (Succ0 (track 2) (track 1))))))
holds_is = ap (λ s. And (Single (track 0)) (reduced no_reductions 1 [] s)) (sentence-Atom is_left_child)

pub returns : goal.returns
returns c = record {
  holds = holds_is;
  breaks = ap (λ s. And (Single (track 0)) (Not (reduced no_reductions 1 [] s))) (sentence-Atom is_left_child);
  size = ap node_count holds_is ∙ simp (count-And, count-Ex2, count-Single, count-Sub, count-Root, count-Succ0) refl;
}
