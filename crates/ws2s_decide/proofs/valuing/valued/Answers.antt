use Rattle.std.proofs.Common.{ℕ, List, [], ◌∷◌, ◌≡◌, Some, slice_get}
use Rattle.gta_keep.specs.Holding.{IsMinimalFor, kept_autos}
use Rattle.ws2s_core.specs.declared.formula.Formula.{Formula}
use Rattle.ws2s_core.specs.declared.label_tree.TreeNode.{TreeNode}
use Rattle.ws2s_facts.proofs.FactsLemmas.{found-weaker}
use Rattle.ws2s_decide.specs.Networks.{IsValued}
use Rattle.ws2s_decide.proofs.BackLemmas.{Rests-released}
use Rattle.ws2s_decide.proofs.valuing.valued.Goals as goal

pub valued_by-requires : goal.valued_by-requires
valued_by-requires c = (kept_autos c.automaton_of.new.kept, c.in-Ok.ensures.ok.holds)

pub returns-in-Ok-clause-value : goal.returns-in-Ok-clause-value
returns-in-Ok-clause-value c =
    let g = c.args.g.now in
    let shelf = c.automaton_of.new.shelf in
    let auto = c.in-Ok.auto in
    let weigh = c.args.weigh.now in
    found-weaker (λ (found : List TreeNode × ℕ). (f : Formula) → IsMinimalFor g shelf auto f →
    IsValued weigh c.args.known.now f c.args.tree.now found.0 found.1)
    (λ (found : List TreeNode × ℕ). (f : Formula) → slice_get c.args.interner.now c.args.bucket.0 ≡ Some f →
    IsValued weigh c.args.known.now f c.args.tree.now found.0 found.1)
    (λ found h f e. h f (c.in-Ok.ensures.minimal f e)) c.valued_by.result c.valued_by.ensures.value

pub returns-in-Ok-clause-rests : goal.returns-in-Ok-clause-rests
returns-in-Ok-clause-rests c =
    Rests-released c.args.g.now c.args.interner.now c.automaton_of.new.shelf c.valued_by.new.shelf c.in-Ok.auto c.automaton_of.new.kept
    c.in-Ok.ensures.ok (c.valued_by.ensures.rests (kept_autos c.automaton_of.new.kept) c.in-Ok.ensures.ok.holds)
