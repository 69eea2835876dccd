-- On an automaton whose table is merged: another one comes with the same automaton, and the first is let go of.
use Rattle.std.proofs.Common.{Ok, [], ◌∷◌, refl, arith}
use Rattle.bdd_nodes.specs.Shelf.{Contents, IsShelf}
use Rattle.bdd_nodes.specs.Changes.{DropsTable}
use Rattle.gta_theory.specs.Guides.{Spaces}
use Rattle.gta_core.specs.Auto.{AutoView, IsAuto}
use Rattle.gta_core.specs.Changes.{AddsOneTable}
use Rattle.ws2s_core.specs.declared.formula.Formula.{Formula}
use Rattle.gta_keep.specs.Holding.{HoldsBeside, IsCopy, IsMinimalFor, Passes}
use Rattle.gta_keep.proofs.PassesLemmas.{Entries, Passes-added}
use Rattle.gta_keep.proofs.CopyLemmas.{IsMinimalFor-kept, IsMinimalFor-copy}
use Rattle.gta_keep.proofs.MadeLemmas.{auto-beside, passes-one, stays-one}

-- the automaton that waits is one of the shelf
pub auto-one : (g : Spaces) (shelf : Contents) (a : AutoView) (kept : Entries) → HoldsBeside g shelf (a ∷ []) kept → IsAuto g shelf a
auto-one g shelf a kept held = auto-beside g shelf (a ∷ []) kept held a (0, omega arith, refl)

module _ (g : Spaces) (old now : Contents) (a m : AutoView) (kept : Entries) (held : HoldsBeside g old (a ∷ []) kept) (is_shelf : IsShelf now)
    (one : AddsOneTable old now m.table) (auto : IsAuto g now m) where
  comes : Passes g old now (a ∷ []) (m ∷ a ∷ []) kept kept
  comes = Passes-added g old now m (a ∷ []) kept g held is_shelf one (λ others holds. auto)

  module _ (new : Contents) (new_shelf : IsShelf new) (drops : DropsTable now new a.table) where
    pub passes-merged : Passes g old new (a ∷ []) (m ∷ []) kept kept
    passes-merged = passes-one g old now new a kept kept (Ok m) comes tt held new_shelf drops

    pub minimal-merged : IsCopy old now a m → (f : Formula) → IsMinimalFor g old a f → IsMinimalFor g new m f
    minimal-merged copies f minimal =
        IsMinimalFor-kept g now new m f (stays-one g old now new a kept kept (Ok m) comes tt held new_shelf drops m (0, omega arith, refl))
        (IsMinimalFor-copy g old now a m f copies minimal)
