-- The places where a triple can fail, in order, and the formula of each: the trees of the stores that meet the triple and fail
-- there, with some sets on the tracks that were made. (Møller and Schwartzbach, PLDI 2001.)
use Rattle.std.specs.Prelude.{ℕ, ◌+◌, List, [], ◌∷◌, ◌++◌, length, map, reverse, slice_get, Option, None, if◌then◌else◌}
use Rattle.std.specs.Option.{option_map_or, option_map}
use Rattle.store_core.specs.Tables.{TypeEntry, VarEntry}
use Rattle.store_exec.specs.declared.triple.Start.{Start}
use Rattle.store_exec.specs.declared.triple.Triple.{Triple}
use Rattle.ws2s_core.specs.declared.track.Track.{Track}
use Rattle.ws2s_core.specs.declared.formula.Formula.{Formula}
use Rattle.ws2s_core.specs.declared.formula.Formula.TheVariants.{And, Not, Ex2}
use Rattle.ws2s_core.specs.Tracks.{is_free}
use Rattle.ws2s_forms.specs.Forms.{track, and_list, empty_at}
use Rattle.tree_encode.specs.Tracks.{track_count, var_track}
use Rattle.tree_formula.specs.WellEncoded.{vars_in, track_or_first, well_encoded}
use Rattle.graph_view.specs.declared.view.Sym.TheVariants.{At}
use Rattle.site_list.specs.declared.site.Site.{Site}
use Rattle.site_list.specs.States.{Text, Check, State, sight}
use Rattle.site_list.specs.Claims.{claim}
use Rattle.site_list.specs.Parts.{escapes}
use Rattle.site_list.specs.Cuts.{with_part}
use Rattle.site_list.specs.Codes.{code}

-- ---- the walk

-- each variable is on its own track, and nothing has happened
abbrev pub at_start : List TypeEntry → List VarEntry → State
at_start types vars =
    record { guard = None; values = map (λ v. At (track_or_first (var_track types vars v))) (vars_in vars); events = []; news = 0; defined = []; checks = [] }

-- the same, with a track for the returned part of a call
abbrev pub started : List TypeEntry → List VarEntry → Start → State
started types vars start = option_map_or (λ roots. with_part types vars roots (at_start types vars)) start.returned (at_start types vars)

abbrev pub walked : List TypeEntry → List VarEntry → Triple → State
walked types vars t = code types vars t.cuts t.code (started types vars t.start)

-- ---- places

abbrev pub site_of : Check → Site
site_of c = record { cause = c.cause; line = c.line }

-- the places that the walk passed, which are the sites of the triple
abbrev pub passed : List TypeEntry → List VarEntry → Triple → List Site
passed types vars t = map site_of (walked types vars t).checks

-- ---- tracks that are made are bound where they are free, the last one innermost

abbrev pub bind : ℕ → List Formula → Formula → Formula
bind first [] f = f
bind first (d ∷ earlier) f =
    bind first earlier (if is_free (first + length earlier) f then Ex2 (track (first + length earlier)) (And d f) else f)

-- what defines the tracks, the last one first, where this is the first track that quantifiers bind
abbrev pub definitions : State → ℕ → List Formula
definitions s next = reverse (map (λ text. text next) s.defined)

-- ---- the start

-- the track of the returned part is the first that is made
abbrev pub returned_part : List TypeEntry → List VarEntry → Start → Option Track
returned_part types vars start = option_map (λ roots. track (track_count types vars)) start.returned

-- after a call, no pointer is on the wrong side
abbrev pub pointers_stay : List TypeEntry → List VarEntry → Start → ℕ → List Formula
pointers_stay types vars start next =
    option_map_or (λ p. Not (escapes vars start.inside (at_start types vars).values p.0 next) ∷ []) (returned_part types vars start) []

-- the claims of the start hold
abbrev pub start_holds : List TypeEntry → List VarEntry → Start → Text
start_holds types vars start next =
    and_list next (map (λ c. claim types (sight vars (at_start types vars)) (at_start types vars).values (returned_part types vars start) c next) start.asserts
    ++ pointers_stay types vars start next)

-- ---- formulas of places

-- a tree of a store with null or false in the listed variables, where the start holds, and the place is reached and fails
abbrev pub site_formula_at : List TypeEntry → List VarEntry → Triple → State → ℕ → Check → Formula
site_formula_at types vars t s next c =
    and_list next (well_encoded next types vars ∷ map (λ v. empty_at next (track_or_first (var_track types vars v)).0) t.start.nulls
    ++ bind (track_count types vars) (definitions s next) (start_holds types vars t.start next)
    ∷ bind (track_count types vars) (definitions s next) (And (c.reached next) (c.condition next)) ∷ [])

-- quantifiers bind tracks from behind those of the layout and all that the walk made
abbrev pub first_bound : List TypeEntry → List VarEntry → State → ℕ
first_bound types vars s = track_count types vars + length s.defined

abbrev pub site_formula_in : List TypeEntry → List VarEntry → Triple → State → ℕ → Option Formula
site_formula_in types vars t s site =
    option_map (site_formula_at types vars t s (first_bound types vars s)) (slice_get s.checks site)

-- the formula of the site with this number
abbrev pub site_formula : List TypeEntry → List VarEntry → Triple → ℕ → Option Formula
site_formula types vars t site = site_formula_in types vars t (walked types vars t) site
