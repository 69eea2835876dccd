-- On what a decider keeps: where it is ready for a formula, and what is left of it.
use Rattle.std.proofs.Common.{◌≡◌, if◌then◌else◌, Bool, List, [], ap, arith}
use Rattle.bdd_nodes.specs.Shelf.{Contents}
use Rattle.gta_theory.specs.Guides.{Spaces}
use Rattle.ws2s_core.specs.declared.formula.Formula.{Formula}
use Rattle.ws2s_core.specs.Nodes.{Extends}
use Rattle.ws2s_decide.specs.declared.decider.Decider.{Decider}
use Rattle.gta_keep.specs.Holding.{registered, Holds, HasNoTables, kept_autos}
use Rattle.ws2s_decide.specs.Deciding.{HasKept}
use Rattle.ws2s_decide.specs.Going.{Rests}
use Rattle.ws2s_decide.proofs.RestsLemmas.{AllKept-extends}

-- no table is registered where nothing is held
pub HasNoTables-held : (g : Spaces) (shelf : Contents) → Holds g shelf [] → HasNoTables shelf
HasNoTables-held g shelf holds = record {
  is_shelf = holds.is_shelf;
  none = λ t some.
      let one : registered shelf t ≡ 1 = ap (λ (b : Bool). if b then 1 else 0) some in
      let zero = holds.tables t in
      omega (arith, one, zero);
}

-- what a decider keeps is held
pub Holds-kept : (shelf : Contents) (decider : Decider) → HasKept shelf decider → Holds decider.guide shelf (kept_autos decider.kept)
Holds-kept shelf decider has = record { is_shelf = has.is_shelf; each = has.each; tables = has.tables }

-- ready for a formula, which may have got a number
pub Rests-kept : (shelf : Contents) (decider : Decider) (formulas : List Formula) → Extends decider.interner formulas →
    HasKept shelf decider → Rests decider.guide formulas shelf [] decider.kept
Rests-kept shelf decider formulas extends has = record {
  holds = Holds-kept shelf decider has;
  kept_for = AllKept-extends decider.guide shelf decider.interner formulas decider.kept extends has.minimal;
}
