-- Routes whose types and variants are in each table, for crates that declare them.
use Rattle.std.proofs.Common.{◌≡◌, ◌∙◌, ◌&&◌, Bool, true, false, List, ℕ, ap, sym}
use Rattle.store_core.specs.declared.kind.Route.{Route, roll-Route}
use Rattle.store_core.specs.declared.kind.Route.TheVariants.{Down, Up, UpAny, Root, Or, rolls-Down, rolls-Up, rolls-UpAny, rolls-Root, rolls-Or}
use Rattle.store_core.specs.declared.kind.Route.TheOpen.{Route-F}
use Rattle.store_core.specs.declared.kind.Route.TheFolds.{fold-Route, fold-roll-Route, map-Route}
use Rattle.store_core.specs.Tables.{TypeEntry, KnowsRoute, knows_node}

both : (a b : Bool) → a ≡ true → b ≡ true → (a && b) ≡ true
both true b one other = other
both false b one other = one

module _ (types : List TypeEntry) where
  abbrev knows : Route → Bool
  knows = fold-Route Bool (knows_node types)

  at_form : (along : Route) (x : Route-F Route) → roll-Route x ≡ along → knows along ≡ knows_node types (map-Route Route Bool knows x)
  at_form along x e = ap knows (sym e) ∙ fold-roll-Route Bool (knows_node types) x

  pub Down-known : (name : List ℕ) → KnowsRoute types (Down name)
  Down-known name = at_form (Down name) (Route-F.Down name) (rolls-Down name)

  pub Up-known : (name : List ℕ) → KnowsRoute types (Up name)
  Up-known name = at_form (Up name) (Route-F.Up name) (rolls-Up name)

  pub UpAny-known : KnowsRoute types UpAny
  UpAny-known = at_form UpAny Route-F.UpAny rolls-UpAny

  pub Root-known : KnowsRoute types Root
  Root-known = at_form Root Route-F.Root rolls-Root

  pub Or-known : (one other : Route) → KnowsRoute types one → KnowsRoute types other → KnowsRoute types (Or one other)
  Or-known one other knows_one knows_other = at_form (Or one other) (Route-F.Or one other) (rolls-Or one other) ∙ both _ _ knows_one knows_other
