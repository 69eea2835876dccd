-- Formulas without quantifiers of tracks that they don't use.
use Rattle.std.specs.Prelude.{◌≡◌, ℕ, if◌then◌else◌, nat_eq}
use Rattle.std.specs.HashSet.{HashSet, contains}
use Rattle.std.specs.declared.hash.BuildHasherDefault.{BuildHasherDefault}
use Rattle.std.specs.declared.hash.FoldHasher.{FoldHasher}
use Rattle.ws2s_core.specs.declared.track.Track.{Track}
use Rattle.ws2s_core.specs.declared.formula.Formula.{Formula, roll-Formula}
use Rattle.ws2s_core.specs.declared.formula.Formula.TheVariants.{Ex2}
use Rattle.ws2s_core.specs.declared.formula.Formula.TheOpen.{Formula-F}
use Rattle.ws2s_core.specs.declared.formula.Formula.TheFolds.{fold-Formula}
use Rattle.ws2s_core.specs.Tracks.{is_free}

-- the formula with the track quantified, where it is free in it; otherwise the formula alone
abbrev pub quantified_where_free : Track → Formula → Formula
quantified_where_free t f = if is_free t.0 f then Ex2 t f else f

abbrev pub used_node : Formula-F Formula → Formula
used_node (Formula-F.Ex2 t f) = quantified_where_free t f
used_node node = roll-Formula node

-- the formula with every quantifier taken so, from its parts up
abbrev pub without_unused : Formula → Formula
without_unused = fold-Formula Formula used_node

-- the set has exactly the free tracks of the formula
pub record HasFree (tracks : HashSet ℕ (BuildHasherDefault FoldHasher)) (f : Formula) : Type 0 where
  pub exactly : (t : ℕ) → contains nat_eq tracks t ≡ is_free t f
