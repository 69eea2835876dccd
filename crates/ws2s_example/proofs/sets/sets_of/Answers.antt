use Rattle.std.proofs.Common.{◌≡◌, ◌∙◌, subst, sym, slice_get, Some}
use Rattle.ws2s_core.specs.LabelTrees.{assignment_of, IsTree}
use Rattle.ws2s_example.specs.Examples.{AreTextsOf}
use Rattle.ws2s_example.specs.Texts.{NotesNode, Ascend, texts_of}
use Rattle.ws2s_example.proofs.ListLemmas.{at-place}
use Rattle.ws2s_example.proofs.TextsLemmas.{Ascend-empty, HaveTexts-start, HaveTexts-more, AreTextsOf-tree}
use Rattle.ws2s_example.proofs.sets.sets_of.Goals as goal

pub loop-place-init : goal.loop-place-init
loop-place-init c = (
  c.in_ok-sets.ensures.long,
  (λ i set at. subst Ascend (sym (c.in_ok-sets.ensures.empty i set at)) Ascend-empty),
  HaveTexts-start c.nodes-nodes.result.now c.in_ok-sets.sets.items c.in_ok-sets.ensures.empty,
)

pub loop-place-preserved : goal.loop-place-preserved
loop-place-preserved c =
    let nodes = c.nodes-nodes.result.now in
    let place = c.loop-place.place in
    let node = c.index-nodes-place.result in
    let at : slice_get nodes place ≡ Some node = at-place nodes place node node c.loop-place-test.true (sym c.index-nodes-place.is) in
    let notes = subst (λ ts. NotesNode nodes place ts c.loop-place.sets.items c.note_node.new.sets.items)
    c.as_slice-tracks.ensures c.in_ok-note_node.ensures.noted in (
      c.in_ok-note_node.ensures.noted.long ∙ c.loop-place.invariant.0,
      c.in_ok-note_node.ensures.ascend,
      HaveTexts-more nodes place node c.loop-place.sets.items c.note_node.new.sets.items at c.loop-place.invariant.2 notes,
    )

pub returns-clause-texts : goal.returns-clause-texts
returns-clause-texts c = λ i set at.
    subst (λ ns. AreTextsOf (assignment_of ns i) (texts_of set)) c.nodes-nodes.ensures.value
    (AreTextsOf-tree c.nodes-nodes.result.now
    (subst IsTree (sym c.nodes-nodes.ensures.value) c.nodes-nodes.ensures.inside) c.loop-place.place c.loop-place.sets.items c.loop-place-test.false
    c.loop-place.invariant.1 c.loop-place.invariant.2 i set at)
