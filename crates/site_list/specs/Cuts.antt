-- Arriving at a cut: where it can fail, in order.
use Rattle.std.specs.Prelude.{ℕ, List, map, Option, Some, None}
use Rattle.std.specs.Option.{option_map_or}
use Rattle.store_core.specs.declared.ids.VarId.{VarId}
use Rattle.store_core.specs.Tables.{TypeEntry, VarEntry}
use Rattle.store_exec.specs.declared.cause.Cause.{Cause}
use Rattle.store_exec.specs.declared.cause.Cause.TheVariants as cause
use Rattle.store_exec.specs.declared.triple.Claim.{Claim}
use Rattle.store_exec.specs.declared.triple.Cut.{Cut}
use Rattle.ws2s_core.specs.declared.track.Track.{Track}
use Rattle.ws2s_forms.specs.Forms.{track, and_list}
use Rattle.graph_view.specs.declared.view.CutCheck.{CutCheck}
use Rattle.graph_view.specs.declared.view.CutCheck.TheVariants as look
use Rattle.graph_view.specs.Cuts.{cut_formula}
use Rattle.site_list.specs.States.{Text, State, next_track, define, check, guard, fails, sight, value_of}
use Rattle.site_list.specs.Claims.{claim}
use Rattle.site_list.specs.Parts.{is_part, escapes}

-- each of the claims
abbrev pub claims : List TypeEntry → List VarEntry → List Claim → Option Track → State → Text
claims types vars asserts part s next = and_list next (map (λ c. claim types (sight vars s) s.values part c next) asserts)

-- one of the conditions on the store as it is
abbrev pub check_store : List TypeEntry → List VarEntry → ℕ → Cause → CutCheck → State → State
check_store types vars line why what s = check line (guard s) why (cut_formula types (sight vars s) vars s.values what) s

abbrev pub check_stores : List TypeEntry → List VarEntry → ℕ → State → State
check_stores types vars line s =
    check_store types vars line cause.Field look.Field
    (check_store types vars line cause.Leak look.Leak
    (check_store types vars line cause.Shared look.Shared
    (check_store types vars line cause.DanglingRef look.DanglingRef s)))

abbrev pub check_claims : List TypeEntry → List VarEntry → Cut → Option Track → State → State
check_claims types vars cut part s = check cut.line (guard s) cause.Post (fails (claims types vars cut.asserts part s)) s

-- the part with these roots, on a track that is made for it
abbrev pub with_part : List TypeEntry → List VarEntry → List VarId → State → State
with_part types vars roots s =
    define (is_part types (sight vars s) (map (value_of s.values) roots) (next_track types vars s)) s

-- at a call: the pointers beside the claims
abbrev pub arrived_at_call : List TypeEntry → List VarEntry → Cut → ℕ → State → State
arrived_at_call types vars cut p s =
    check_claims types vars cut (Some (track p))
    (check cut.line (guard s) cause.Escape (escapes vars cut.inside s.values p) (check_stores types vars cut.line s))

abbrev pub arrived : List TypeEntry → List VarEntry → Cut → State → State
arrived types vars cut s =
    option_map_or (λ roots. arrived_at_call types vars cut (next_track types vars s) (with_part types vars roots s)) cut.handed
    (check_claims types vars cut None (check_stores types vars cut.line s))
