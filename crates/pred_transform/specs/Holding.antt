-- When the claims of a cut hold.
use Rattle.std.specs.Prelude.{List, map, Option}
use Rattle.store_core.specs.Tables.{TypeEntry}
use Rattle.ws2s_core.specs.declared.track.Track.{Track}
use Rattle.ws2s_forms.specs.Forms.{and_list}
use Rattle.store_exec.specs.declared.triple.Claim.{Claim}
use Rattle.graph_view.specs.Sights.{Sight}
use Rattle.graph_view.specs.declared.view.Sym.{Sym}
use Rattle.site_list.specs.States.{Text}
use Rattle.site_list.specs.Claims.{claim}

-- all claims hold on the store that is seen
abbrev pub claims_hold : List TypeEntry → Sight → List Sym → Option Track → List Claim → Text
claims_hold types sight values part asserts next = and_list next (map (λ c. claim types sight values part c next) asserts)
