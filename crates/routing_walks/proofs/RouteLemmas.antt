-- Induction over routes.
use Rattle.std.proofs.Common.{ℕ, Bool, List, sym, subst}
use Rattle.store_core.specs.declared.ids.TypeId.{TypeId}
use Rattle.store_core.specs.declared.ids.VariantId.{VariantId}
use Rattle.store_core.specs.declared.kind.Route.{Route, roll-Route}
use Rattle.store_core.specs.declared.kind.Route.TheVariants.{Down, Up, UpAny, Root, Leaf, IsType, IsVariant, IsBool, Then, Or, Star, rolls-Down}
use Rattle.store_core.specs.declared.kind.Route.TheVariants.{rolls-Up, rolls-UpAny, rolls-Root, rolls-Leaf, rolls-IsType, rolls-IsVariant}
use Rattle.store_core.specs.declared.kind.Route.TheVariants.{rolls-IsBool, rolls-Then, rolls-Or, rolls-Star}
use Rattle.store_core.specs.declared.kind.Route.TheOpen.{Route-F}
use Rattle.store_core.specs.declared.kind.Route.TheFolds.{ind-Route, map-Route}

-- what each form has from its parts
pub record IsHereditary (P : Route → Type 0) : Type 0 where
  pub of_Down : (name : List ℕ) → P (Down name)
  pub of_Up : (name : List ℕ) → P (Up name)
  pub of_UpAny : P UpAny
  pub of_Root : P Root
  pub of_Leaf : P Leaf
  pub of_IsType : (ty : TypeId) → P (IsType ty)
  pub of_IsVariant : (v : VariantId) → P (IsVariant v)
  pub of_IsBool : (name : List ℕ) (truth : Bool) → P (IsBool name truth)
  pub of_Then : (first second : Route) → P first → P second → P (Then first second)
  pub of_Or : (one other : Route) → P one → P other → P (Or one other)
  pub of_Star : (round : Route) → P round → P (Star round)

-- every route has
pub route-induction : (P : Route → Type 0) → IsHereditary P → (along : Route) → P along
route-induction P h = ind-Route P (λ x y e. subst (λ (d : Route-F Route). P (roll-Route d)) e (made y))
  where
    made : (y : Route-F ((r : Route) × P r)) → P (roll-Route (map-Route ((r : Route) × P r) Route (λ e. e.0) y))
    made (Route-F.Down name) = subst P (sym (rolls-Down name)) (h.of_Down name)
    made (Route-F.Up name) = subst P (sym (rolls-Up name)) (h.of_Up name)
    made Route-F.UpAny = subst P (sym rolls-UpAny) h.of_UpAny
    made Route-F.Root = subst P (sym rolls-Root) h.of_Root
    made Route-F.Leaf = subst P (sym rolls-Leaf) h.of_Leaf
    made (Route-F.IsType ty) = subst P (sym (rolls-IsType ty)) (h.of_IsType ty)
    made (Route-F.IsVariant v) = subst P (sym (rolls-IsVariant v)) (h.of_IsVariant v)
    made (Route-F.IsBool name truth) = subst P (sym (rolls-IsBool name truth)) (h.of_IsBool name truth)
    made (Route-F.Then u v) = subst P (sym (rolls-Then u.0 v.0)) (h.of_Then u.0 v.0 u.1 v.1)
    made (Route-F.Or u v) = subst P (sym (rolls-Or u.0 v.0)) (h.of_Or u.0 v.0 u.1 v.1)
    made (Route-F.Star u) = subst P (sym (rolls-Star u.0)) (h.of_Star u.0 u.1)
