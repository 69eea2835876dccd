-- What stands for values and guards, as formulas. A value is null or a track; `next` is the first track that a quantifier may
-- bind. (Møller and Schwartzbach, PLDI 2001.)
use Rattle.std.specs.Prelude.{ℕ, Option, Some, None}
use Rattle.ws2s_core.specs.declared.track.Track.{Track}
use Rattle.ws2s_core.specs.declared.formula.Formula.{Formula}
use Rattle.ws2s_core.specs.declared.formula.Formula.TheVariants.{Sub, And}
use Rattle.ws2s_forms.specs.Forms.{track, false_at, true_at, flag, empty_at, equal}
use Rattle.graph_view.specs.declared.view.Sym.{Sym}
use Rattle.graph_view.specs.declared.view.Sym.TheVariants.{Null, At}

-- the cell on track a is the value, or one of its positions; null is no cell
abbrev pub is_in : ℕ → ℕ → Sym → Formula
is_in next a Null = false_at next
is_in next a (At x) = Sub (track a) x

-- the value is null
abbrev pub is_null : ℕ → Sym → Formula
is_null next Null = true_at next
is_null next (At x) = empty_at next x.0

-- both values are one
abbrev pub is_same : ℕ → Sym → Sym → Formula
is_same next Null Null = true_at next
is_same next Null (At y) = empty_at next y.0
is_same next (At x) Null = empty_at next x.0
is_same next (At x) (At y) = equal x.0 y.0

-- the truth value, which is on its track at the root
abbrev pub truth : ℕ → Sym → Formula
truth next Null = false_at next
truth next (At h) = flag next h.0

-- the guard: always, or where the root is on its track
abbrev pub guard : ℕ → Option Track → Formula
guard next None = true_at next
guard next (Some h) = flag next h.0

-- the guard's event is taken, and its cell is on track a
abbrev pub is_changed : ℕ → ℕ → Option Track → Sym → Formula
is_changed next a g u = And (guard next g) (is_in next a u)
