use Rattle.std.proofs.Common.{ℕ, ◌∷◌, List}
use Rattle.gta_theory.proofs.ListsLemmas.{Contains-first, Contains-later}
use Rattle.gta_core.specs.Auto.{automaton_of}
use Rattle.gta_keep.specs.Holding.{Holds, IsMinimalFor}
use Rattle.gta_keep.proofs.HoldingLemmas.{Holds-registers, Holds-registered, kept-registers}
use Rattle.gta_keep.proofs.CopyLemmas.{IsMinimalFor-kept}
use Rattle.ws2s_core.specs.declared.formula.Formula.{Formula}
use Rattle.ws2s_core.specs.declared.label_tree.TreeNode.{TreeNode}
use Rattle.ws2s_facts.proofs.FactsLemmas.{found-weaker}
use Rattle.ws2s_decide.specs.Networks.{IsTreeOfBoth, IsValued}
use Rattle.ws2s_decide.proofs.BackLemmas.{Releases-failed, Releases-made, IsValued-both}
use Rattle.ws2s_decide.proofs.valuing.valued_with.Goals as goal

pub returns-in_default-clause-still : goal.returns-in_default-clause-still
returns-in_default-clause-still c = λ autos holds.
    Releases-failed c.args.g.now c.args.shelf.now c.pinned.new.shelf autos c.pinned.ensures.shelf c.pinned.ensures.kept c.in_default.ensures.tables
    c.pinned.ensures.same_limit holds

pub tree_of_both-found-requires-clause-first : goal.tree_of_both-found-requires-clause-first
tree_of_both-found-requires-clause-first c =
    let auto = c.args.auto.now in
    let pins = c.in-Ok.pins in
    let others = c.requires.0 in
    let made = Holds-registers c.args.g.now c.args.shelf.now c.pinned.new.shelf pins (auto ∷ others) c.requires.1 c.pinned.ensures.shelf c.pinned.ensures.kept
    c.in-Ok.ensures.table c.in-Ok.ensures.auto in
    made.each auto (Contains-later pins auto (auto ∷ others) (Contains-first auto others))

pub release-requires : goal.release-requires
release-requires c =
    let auto = c.args.auto.now in
    let pins = c.in-Ok.pins in
    let others = c.requires.0 in
    let made = Holds-registers c.args.g.now c.args.shelf.now c.pinned.new.shelf pins (auto ∷ others) c.requires.1 c.pinned.ensures.shelf c.pinned.ensures.kept
    c.in-Ok.ensures.table c.in-Ok.ensures.auto in
    let held = c.tree_of_both-found.ensures.still (pins ∷ auto ∷ others) made in
    Holds-registered c.args.g.now c.tree_of_both-found.new.shelf (pins ∷ auto ∷ others) held.holds pins (Contains-first pins (auto ∷ others))

pub returns-clause-value : goal.returns-clause-value
returns-clause-value c =
    let g = c.args.g.now in
    let old = c.args.shelf.now in
    let made = c.pinned.new.shelf in
    let auto = c.args.auto.now in
    let pins = c.in-Ok.pins in
    let weigh = c.args.weigh.now in
    let keeps = kept-registers g old made pins (auto ∷ c.requires.0) c.requires.1 c.pinned.ensures.shelf c.pinned.ensures.kept c.in-Ok.ensures.table
    c.in-Ok.ensures.auto auto (Contains-first auto c.requires.0) in
    found-weaker (λ (found : List TreeNode × ℕ). IsTreeOfBoth g (automaton_of made auto) (automaton_of made pins) weigh found.0 found.1)
    (λ (found : List TreeNode × ℕ). (f : Formula) → IsMinimalFor g old auto f → IsValued weigh c.args.known.now f c.args.tree.now found.0 found.1)
    (λ found both f minimal. IsValued-both g made auto pins f weigh c.args.known.now c.args.tree.now found.0 found.1
    (IsMinimalFor-kept g old made auto f keeps minimal) c.in-Ok.ensures.accepts both) c.tree_of_both-found.result c.tree_of_both-found.ensures.value

pub returns-clause-still : goal.returns-clause-still
returns-clause-still c = λ autos holds.
    let g = c.args.g.now in
    let old = c.args.shelf.now in
    let made = c.pinned.new.shelf in
    let pins = c.in-Ok.pins in
    Releases-made g old made c.tree_of_both-found.new.shelf c.release.new.shelf pins autos holds c.pinned.ensures.shelf c.pinned.ensures.kept
    c.in-Ok.ensures.table c.in-Ok.ensures.auto c.pinned.ensures.same_limit
    (c.tree_of_both-found.ensures.still (pins ∷ autos) (Holds-registers g old made pins autos holds c.pinned.ensures.shelf c.pinned.ensures.kept
    c.in-Ok.ensures.table c.in-Ok.ensures.auto)) c.release.ensures.shelf c.release.ensures.dropped
