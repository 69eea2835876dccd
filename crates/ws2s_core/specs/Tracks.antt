-- The tracks of a formula: which are free, and what the numbers of bound ones matter.
use Rattle.std.specs.Prelude.{◌≡◌, ℕ, ◌+◌, Bool, false, ◌||◌, ◌==◌, max, if◌then◌else◌, IsTrue}
use Rattle.ws2s_core.specs.declared.track.Track.{Track}
use Rattle.ws2s_core.specs.declared.formula.Formula.{Formula}
use Rattle.ws2s_core.specs.declared.formula.Formula.TheVariants.{Sub, Single, Succ0, Succ1, Root, And, Not, Ex2}
use Rattle.ws2s_core.specs.declared.formula.Formula.TheOpen.{Formula-F}
use Rattle.ws2s_core.specs.declared.formula.Formula.TheFolds.{fold-Formula}

abbrev pub is_free_in_node : ℕ → Formula-F Bool → Bool
is_free_in_node t (Formula-F.Sub x y) = (x.0 == t) || (y.0 == t)
is_free_in_node t (Formula-F.Single x) = x.0 == t
is_free_in_node t (Formula-F.Succ0 x y) = (x.0 == t) || (y.0 == t)
is_free_in_node t (Formula-F.Succ1 x y) = (x.0 == t) || (y.0 == t)
is_free_in_node t (Formula-F.Root x) = x.0 == t
is_free_in_node t (Formula-F.And f g) = f || g
is_free_in_node t (Formula-F.Not f) = f
is_free_in_node t (Formula-F.Ex2 x f) = if x.0 == t then false else f

-- the track stands in the formula, outside the quantifiers that bind it
abbrev pub is_free : ℕ → Formula → Bool
is_free t = fold-Formula Bool (is_free_in_node t)

abbrev pub IsFree : ℕ → Formula → Type 0
IsFree t f = IsTrue (is_free t f)

abbrev pub bound_of_node : Formula-F ℕ → ℕ
bound_of_node (Formula-F.Sub x y) = max (x.0 + 1) (y.0 + 1)
bound_of_node (Formula-F.Single x) = x.0 + 1
bound_of_node (Formula-F.Succ0 x y) = max (x.0 + 1) (y.0 + 1)
bound_of_node (Formula-F.Succ1 x y) = max (x.0 + 1) (y.0 + 1)
bound_of_node (Formula-F.Root x) = x.0 + 1
bound_of_node (Formula-F.And f g) = max f g
bound_of_node (Formula-F.Not f) = f
bound_of_node (Formula-F.Ex2 x f) = max (x.0 + 1) f

-- a number above those of all tracks that stand in the formula
abbrev pub track_bound : Formula → ℕ
track_bound = fold-Formula ℕ bound_of_node

-- the track with its number taken through r
abbrev pub renamed_track : (ℕ → ℕ) → Track → Track
renamed_track r t = record { 0 = r t.0 }

abbrev pub renamed_node : (ℕ → ℕ) → Formula-F Formula → Formula
renamed_node r (Formula-F.Sub x y) = Sub (renamed_track r x) (renamed_track r y)
renamed_node r (Formula-F.Single x) = Single (renamed_track r x)
renamed_node r (Formula-F.Succ0 x y) = Succ0 (renamed_track r x) (renamed_track r y)
renamed_node r (Formula-F.Succ1 x y) = Succ1 (renamed_track r x) (renamed_track r y)
renamed_node r (Formula-F.Root x) = Root (renamed_track r x)
renamed_node r (Formula-F.And f g) = And f g
renamed_node r (Formula-F.Not f) = Not f
renamed_node r (Formula-F.Ex2 t f) = Ex2 (renamed_track r t) f

-- the formula with the number of every track, free or bound, taken through r
abbrev pub renamed : (ℕ → ℕ) → Formula → Formula
renamed r = fold-Formula Formula (renamed_node r)

-- no two tracks get one number
abbrev pub IsInjective : (ℕ → ℕ) → Type 0
IsInjective r = (t u : ℕ) → r t ≡ r u → t ≡ u

-- t and u exchanged
abbrev pub exchanged : ℕ → ℕ → ℕ → ℕ
exchanged t u v = if v == t then u else (if v == u then t else v)
