-- The start of a triple.
use Rattle.std.proofs.Common.{◌↔◌, ℕ, ◌≤◌, List, [], ◌∷◌, ◌++◌, map, IfSome, Option, Some, None, option_map}
use Rattle.std.specs.List.{AllByRecursion}
use Rattle.std.specs.Option.{option_map_or}
use Rattle.gta_theory.specs.Assignments.{Assignment}
use Rattle.ws2s_core.specs.declared.track.Track.{Track}
use Rattle.ws2s_core.specs.declared.formula.Formula.TheVariants.{Not}
use Rattle.ws2s_core.specs.Satisfaction.{WSat}
use Rattle.ws2s_forms.specs.Forms.{track}
use Rattle.ws2s_forms.proofs.ConnectivesLemmas.{EachSat, WSat-and_list, EachSat-append}
use Rattle.store_core.specs.declared.ids.VarId.{VarId}
use Rattle.store_core.specs.Stores.{StoreMap}
use Rattle.store_exec.specs.declared.triple.Claim.{Claim}
use Rattle.store_exec.specs.declared.triple.Start.{Start}
use Rattle.store_exec.specs.Cuts.{AreMet, Escapes}
use Rattle.store_exec.specs.Fits.{ClaimFits}
use Rattle.tree_encode.specs.Layouts.{LaidOut}
use Rattle.tree_encode.specs.Tracks.{track_count}
use Rattle.graph_view.specs.After.{Standing}
use Rattle.graph_meaning.specs.Live.Meaning.{Agrees}
use Rattle.graph_meaning.proofs.live.AgreeingLemmas.{sat-not}
use Rattle.graph_meaning.specs.Walks.Wells.{ShowsWell}
use Rattle.site_list.specs.States.{State}
use Rattle.site_list.specs.Parts.{escapes}
use Rattle.site_list.specs.Triples.{at_start, returned_part, pointers_stay, start_holds}
use Rattle.triple_meaning.specs.Claims.Given.{IsRegionOf, IsPartGiven}
use Rattle.triple_meaning.specs.Claims.Stating.{view_of}
use Rattle.triple_meaning.proofs.claims.EscapeLemmas.{escapes-means}
use Rattle.triple_meaning.proofs.claims.StateLemmas.{claim-of, each-claim, all-given}

module _ (l : LaidOut) (a : Assignment) (first s : StoreMap) (at : Standing) (count : ℕ)
    (wells : ShowsWell l (view_of l.types l.vars (at_start l.types l.vars)) a first s s at count) (b : Assignment) (next : ℕ) (agrees : Agrees count a b)
    (few : count ≤ next) where
  abbrev begun : State
  begun = at_start l.types l.vars

  pointers-mean : (inside : List VarId) (o : Option (List VarId)) → IsPartGiven l.types l.vars a at s count (track_count l.types l.vars) o →
      EachSat b (option_map_or (λ (p : Track). Not (escapes l.vars inside begun.values p.0 next) ∷ [])
      (option_map (λ (roots : List VarId). track (track_count l.types l.vars)) o) [])
      ↔ IfSome o (λ part. Escapes l.types l.vars s part inside → ⊥)
  pointers-mean inside None given = ((λ h. tt), (λ h. tt))
  pointers-mean inside (Some roots) given =
      let none = sat-not (escapes l.vars inside begun.values (track_count l.types l.vars) next) b (Escapes l.types l.vars s roots inside)
      (escapes-means l (view_of l.types l.vars begun) a first s at count wells b next (track_count l.types l.vars) agrees few roots inside given) in (
        (λ h. none.0 h.0),
        (λ h. (none.1 h, tt)),
      )

  pub start-means : (start : Start) → IsPartGiven l.types l.vars a at s count (track_count l.types l.vars) start.returned →
      AllByRecursion (λ (c : Claim). IsRegionOf start.returned c.region) start.asserts → AllByRecursion (ClaimFits l.types l.vars) start.asserts →
      WSat (start_holds l.types l.vars start next) b
      ↔ (AreMet l.types l.vars s start.asserts × IfSome start.returned (λ part. Escapes l.types l.vars s part start.inside → ⊥))
  start-means start returned on fits =
      let part = returned_part l.types l.vars start in
      let told = map (claim-of l begun a first s at count wells b next agrees few part) start.asserts in
      let stay = pointers_stay l.types l.vars start next in
      let all = WSat-and_list b next (told ++ stay) in
      let parts = EachSat-append b told stay in
      let given = all-given l begun a first s at count wells b next agrees few (track_count l.types l.vars) start.returned start.asserts returned on in
      let each = each-claim l begun a first s at count wells b next agrees few part start.asserts given fits in
      let pointers = pointers-mean start.inside start.returned returned in (
        (λ h. let both = parts.0 (all.0 h) in (each.0 both.0, pointers.0 both.1)),
        (λ h. all.1 (parts.1 (each.1 h.0, pointers.1 h.1))),
      )
