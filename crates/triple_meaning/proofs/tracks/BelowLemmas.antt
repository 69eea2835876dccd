-- What is below a number is below each later one; and tables with a type or a variable have a track.
use Rattle.std.proofs.Common.{◌≡◌, ℕ, ◌+◌, ◌<◌, ◌≤◌, Bool, true, false, cond, ◌==◌, List, [], ◌∷◌, inl, inr, length, All, Option, Some, None, refl, arith}
use Rattle.std.proofs.lemmas.Bool.{eqb-false}
use Rattle.std.proofs.lemmas.List.Elements.{All-weaker}
use Rattle.std.proofs.lemmas.List.Sums.{sum_by-cons}
use Rattle.std.proofs.lemmas.Option.{slice_get_within}
use Rattle.ws2s_core.specs.declared.track.Track.{Track}
use Rattle.store_core.specs.declared.ids.VarId.{VarId}
use Rattle.store_core.specs.Tables.{TypeEntry, VarEntry, var_at, count_of_variants}
use Rattle.tree_encode.specs.Counting.{variants_in}
use Rattle.tree_encode.specs.Tracks.{track_count}
use Rattle.graph_view.specs.declared.view.Sym.{Sym}
use Rattle.graph_view.specs.declared.view.Sym.TheVariants.{Null, At}
use Rattle.graph_view.specs.declared.view.Event.{Event}
use Rattle.graph_view.specs.declared.view.Event.TheVariants.{New, Write, Free}
use Rattle.graph_view.specs.After.{IsSymBelow, IsGuardBelow, IsEventBelow, AreEventsBelow}
use Rattle.triple_meaning.proofs.tracks.ShortLemmas.{less-or}

-- ---- later numbers

pub sym-later : (n m : ℕ) (u : Sym) → n ≤ m → IsSymBelow n u → IsSymBelow m u
sym-later n m Null less under = tt
sym-later n m (At x) less under = omega (arith, less, under)

pub guard-later : (n m : ℕ) (g : Option Track) → n ≤ m → IsGuardBelow n g → IsGuardBelow m g
guard-later n m None less under = tt
guard-later n m (Some h) less under = omega (arith, less, under)

event-later : (n m : ℕ) (e : Event) → n ≤ m → IsEventBelow n e → IsEventBelow m e
event-later n m (New g k v) less under = guard-later n m g less under
event-later n m (Write g u f x) less under = (guard-later n m g less under.0, sym-later n m u less under.1, sym-later n m x less under.2)
event-later n m (Free g u) less under = (guard-later n m g less under.0, sym-later n m u less under.1)

pub events-later : (n m : ℕ) (events : List Event) → n ≤ m → AreEventsBelow n events → AreEventsBelow m events
events-later n m [] less under = tt
events-later n m (e ∷ earlier) less under = (event-later n m e less under.0, events-later n m earlier less under.1)

pub syms-later : (n m : ℕ) (values : List Sym) → n ≤ m → All (IsSymBelow n) values → All (IsSymBelow m) values
syms-later n m values less under = All-weaker (IsSymBelow n) (IsSymBelow m) (λ u one. sym-later n m u less one) values under

-- ---- tables with a track

variants-there : (t : TypeEntry) → 0 < count_of_variants t
variants-there t = by (length t.variants == 0) refl
  where
    by : (b : Bool) → (length t.variants == 0) ≡ b → 0 < cond b 1 (length t.variants)
    by true is = omega arith
    by false is = elim (less-or 0 (length t.variants)) as (λ _. 0 < length t.variants) [
      | inl less ↦ less
      | inr few ↦ absurd (eqb-false (length t.variants) 0 is (omega (arith, few)))
    ]

pub type-track : (t : TypeEntry) (types : List TypeEntry) (vars : List VarEntry) → 0 < track_count (t ∷ types) vars
type-track t types vars =
    let counted : variants_in (t ∷ types) ≡ count_of_variants t + variants_in types = sum_by-cons count_of_variants t types in
    omega (arith, counted, variants-there t)

pub var-track : (types : List TypeEntry) (vars : List VarEntry) (v : VarId) (entry : VarEntry) → var_at vars v ≡ Some entry → 0 < track_count types vars
var-track types vars v entry there = (let inside = slice_get_within vars v.0 entry there in omega (arith, inside))
