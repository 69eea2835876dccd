-- On what the first way has of its own.
use Rattle.std.proofs.Common.{◌≡◌, ℕ, Bool, true, false, if◌then◌else◌, is_some, IsSome, List, [], Option, None, Some, IfSome, refl}
use Rattle.bdd_nodes.specs.Shelf.{Contents, roots_of}
use Rattle.gta_theory.specs.Guides.{Spaces}
use Rattle.gta_theory.proofs.ListsLemmas.{Contains-none, All-from_contains}
use Rattle.ws2s_core.specs.declared.formula.Formula.{Formula}
use Rattle.ws2s_core.specs.Nodes.{Extends}
use Rattle.gta_keep.specs.Holding.{registered, HasNoTables}
use Rattle.ws2s_decide.specs.declared.first_way.Room.{Room}
use Rattle.ws2s_decide.specs.declared.first_way.FirstWay.{FirstWay}
use Rattle.ws2s_decide.specs.Keeping.{IsKept}
use Rattle.ws2s_decide.specs.Going.{Rests}
use Rattle.ws2s_decide.specs.Own.{HoldsItsOwn, IsReady}
use Rattle.ws2s_decide.proofs.WaysLemmas.{Rests-extends}

none-by_test : (b : Bool) → (b ≡ true → ⊥) → ◌≡◌ {A = ℕ} 0 (if b then 1 else 0)
none-by_test true none = absurd (none refl)
none-by_test false none = refl

-- what isn't registered isn't counted
unregistered : (shelf : Contents) (table : ℕ) → (IsSome (roots_of shelf table) → ⊥) → 0 ≡ registered shelf table
unregistered shelf table none = none-by_test (is_some (roots_of shelf table)) none

-- a shelf without tables holds what is kept where nothing is
pub Rests-none : (g : Spaces) (formulas : List Formula) (shelf : Contents) → HasNoTables shelf → Rests g formulas shelf [] []
Rests-none g formulas shelf none = record {
  holds = record {
    is_shelf = none.is_shelf;
    each = λ a there. absurd (Contains-none a there);
    tables = λ table. unregistered shelf table (none.none table);
  };
  kept_for = All-from_contains (IsKept g shelf formulas) [] (λ entry there. absurd (Contains-none entry there));
}

-- what is ready is so for more formulas too
holds-extends : (g : Spaces) (old new : List Formula) (room : Option Room) → Extends old new → IfSome room (HoldsItsOwn g old) →
    IfSome room (HoldsItsOwn g new)
holds-extends g old new None extends holds = tt
holds-extends g old new (Some room) extends holds = Rests-extends g old new room.shelf [] room.kept extends holds

pub IsReady-extends : (old new : List Formula) (first : FirstWay) → Extends old new → IsReady old first → IsReady new first
IsReady-extends old new first extends ready = holds-extends first.guide old new first.room extends ready
