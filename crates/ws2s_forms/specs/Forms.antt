-- The abbreviations of core formulas. A quantifier of an abbreviation binds the next track, and what stands inside it the
-- one after that. (The abbreviations are those of MONA: Klarlund and Møller, MONA Version 1.4 User Manual; the spelling is
-- own.)
use Rattle.std.specs.Prelude.{ℕ, zero, suc, List, [], ◌∷◌, map, fold}
use Rattle.ws2s_core.specs.declared.track.Track.{Track}
use Rattle.ws2s_core.specs.declared.formula.Formula.{Formula}
use Rattle.ws2s_core.specs.declared.formula.Formula.TheVariants.{Sub, Single, Succ0, Succ1, Root, And, Not, Ex2}

-- the track with a number
abbrev pub track : ℕ → Track
track t = record { 0 = t }

-- ---- truth values and connectives

-- some set is one position and isn't one position
abbrev pub false_at : ℕ → Formula
false_at next = Ex2 (track next) (And (Single (track next)) (Not (Single (track next))))

abbrev pub true_at : ℕ → Formula
true_at next = Not (false_at next)

-- all of the formulas, joined from the left
abbrev pub and_list : ℕ → List Formula → Formula
and_list next [] = true_at next
and_list next (f ∷ fs) = fold And f fs

-- not all of the negations
abbrev pub or_list : ℕ → List Formula → Formula
or_list next fs = Not (and_list next (map Not fs))

abbrev pub or : Formula → Formula → Formula
or f g = Not (And (Not f) (Not g))

abbrev pub imp : Formula → Formula → Formula
imp f g = Not (And f (Not g))

abbrev pub iff : Formula → Formula → Formula
iff f g = And (imp f g) (imp g f)

-- ---- quantifiers: over one position, and over finite sets

abbrev pub ex1 : ℕ → Formula → Formula
ex1 next f = Ex2 (track next) (And (Single (track next)) f)

abbrev pub all1 : ℕ → Formula → Formula
all1 next f = Not (ex1 next (Not f))

abbrev pub all2 : ℕ → Formula → Formula
all2 next f = Not (Ex2 (track next) (Not f))

-- ---- sets

-- no position is in the set
abbrev pub empty_at : ℕ → ℕ → Formula
empty_at next x = Not (ex1 next (Sub (track next) (track x)))

-- each set is within the other
abbrev pub equal : ℕ → ℕ → Formula
equal x y = And (Sub (track x) (track y)) (Sub (track y) (track x))

-- the root is in the set
abbrev pub flag : ℕ → ℕ → Formula
flag next x = Ex2 (track next) (And (Root (track next)) (Sub (track next) (track x)))

-- ---- positions

-- so many steps by 1 and then one by 0 lead from the one position to the other
abbrev pub go : ℕ → ℕ → ℕ → ℕ → Formula
go next zero from to = Succ0 (track from) (track to)
go next (suc n) from to = Ex2 (track next) (And (Succ1 (track from) (track next)) (go (suc next) n next to))

-- the child with the number j of a position
abbrev pub child : ℕ → ℕ → ℕ → ℕ → Formula
child next j from to = go next j from to

-- the position of the slot i
abbrev pub slot : ℕ → ℕ → ℕ → Formula
slot next i to = Ex2 (track next) (And (Root (track next)) (go (suc next) i next to))
