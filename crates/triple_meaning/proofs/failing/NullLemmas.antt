-- The variables that are null or false at the start of a triple.
use Rattle.std.proofs.Common.{◌≡◌, ◌↔◌, ℕ, ◌<◌, true, false, IsSomeAnd, List, [], ◌∷◌, length, map, unwrap_or, All, Some, None, refl, sym, ap, ◌∙◌, subst}
use Rattle.std.specs.List.{AllByRecursion}
use Rattle.std.proofs.lemmas.Bool.{false≢true}
use Rattle.std.proofs.lemmas.Option.{slice_get_within}
use Rattle.std.proofs.lemmas.List.Elements.{All-nil, All-cons, All-head, All-tail}
use Rattle.gta_theory.specs.Assignments.{Position, Assignment}
use Rattle.ws2s_core.specs.declared.track.Track.{Track}
use Rattle.ws2s_core.specs.declared.formula.Formula.{Formula}
use Rattle.ws2s_core.specs.Satisfaction.{WSat}
use Rattle.ws2s_forms.specs.Forms.{empty_at}
use Rattle.ws2s_forms.proofs.PositionsLemmas.{IsOnly-inside}
use Rattle.ws2s_forms.proofs.ConnectivesLemmas.{EachSat}
use Rattle.ws2s_forms.proofs.LawsLemmas.{law-empty}
use Rattle.store_core.specs.declared.ids.VarId.{VarId}
use Rattle.store_core.specs.declared.kind.VarKind.{VarKind}
use Rattle.store_core.specs.declared.kind.VarKind.TheVariants as var
use Rattle.store_core.specs.declared.value.Value.{Value}
use Rattle.store_core.specs.declared.value.Value.TheVariants as value
use Rattle.store_core.specs.Tables.{TypeEntry, VarEntry, var_at}
use Rattle.store_core.specs.Stores.{StoreMap, VarFits, var_value}
use Rattle.store_core.proofs.FittingLemmas.{IsSomeAnd-at}
use Rattle.store_exec.specs.Failing.{IsBlank}
use Rattle.store_exec.specs.Fits.{IsProgramVar}
use Rattle.tree_encode.specs.Tracks.{var_track}
use Rattle.tree_encode.proofs.TracksLemmas.{mapped}
use Rattle.tree_store.proofs.SpotsLemmas.{of-some}
use Rattle.tree_formula.specs.WellEncoded.{var_id, vars_in, track_or_first}
use Rattle.graph_view.specs.declared.view.Sym.TheVariants.{Null, At}
use Rattle.graph_view.specs.After.{Standing, StandsFor, IsSymBelow}
use Rattle.triple_meaning.proofs.claims.BoundLemmas.{var-held}
use Rattle.triple_meaning.specs.Claims.Stating.{view_of}
use Rattle.graph_meaning.specs.Walks.Wells.{ShowsWell}
use Rattle.graph_meaning.proofs.cuts.PairsLemmas.{named-at}
use Rattle.site_list.specs.States.{value_of}
use Rattle.site_list.specs.Triples.{at_start}
use Rattle.triple_meaning.proofs.sites.LookingLemmas.{layout_of}

-- nothing is on the track of a value of a program variable exactly where it is null or false
blank-stands : (a : Assignment) (at : Standing) (s : StoreMap) (x : Track) (kind : VarKind) (held : Value) → IsProgramVar kind → VarFits s kind held →
    StandsFor a at (At x) held → ((p : Position) → a x.0 p ≡ false) ↔ IsBlank held
blank-stands a at s x kind (value.Bool true) program fits stands = (
  (λ none. absurd (false≢true (sym (none []) ∙ IsOnly-inside (a x.0) [] stands))),
  (λ e. absurd (false≢true (sym e))),
)
blank-stands a at s x kind (value.Bool false) program fits stands = ((λ none. refl), (λ e. stands))
blank-stands a at s x kind (value.Cell None) program fits stands = ((λ none. refl), (λ e. stands))
blank-stands a at s x kind (value.Cell (Some c)) program fits stands = (
  (λ none. absurd (false≢true (sym (none stands.0) ∙ IsOnly-inside (a x.0) stands.0 stands.1))),
  (λ e p. let k : ⊥ = cc in absurd k),
)
blank-stands a at s x var.Bool (value.Cells cells) program fits stands = absurd fits
blank-stands a at s x (var.Data ty) (value.Cells cells) program fits stands = absurd fits
blank-stands a at s x (var.Pointer ty) (value.Cells cells) program fits stands = absurd fits
blank-stands a at s x (var.LogicSet ty) (value.Cells cells) program fits stands = absurd program
blank-stands a at s x var.LogicBool (value.Cells cells) program fits stands = absurd program

module _ (types : List TypeEntry) (vars : List VarEntry) (a : Assignment) (s : StoreMap) (at : Standing) (next : ℕ)
    (wells : ShowsWell (layout_of types vars) (view_of types vars (at_start types vars)) a s s s at next) where
  abbrev IsProgram : VarId → Type 0
  IsProgram v = IsSomeAnd (var_at vars v) (λ entry. IsProgramVar entry.kind)

  abbrev is_null_at : VarId → Formula
  is_null_at v = empty_at next (track_or_first (var_track types vars v)).0

  -- what stands for a variable is its own track
  own-track : (v : VarId) (entry : VarEntry) → var_at vars v ≡ Some entry →
      value_of (at_start types vars).values v ≡ At (track_or_first (var_track types vars v))
  own-track v entry there =
      ap (λ o. unwrap_or o Null)
      (mapped (λ w. At (track_or_first (var_track types vars w))) (vars_in vars) v.0 v
      (named-at var_id (length vars) v.0 (slice_get_within vars v.0 entry there)))

  null-means : (v : VarId) → IsProgram v → WSat (is_null_at v) a ↔ IsSomeAnd (var_value s v) IsBlank
  null-means v known =
      let (entry, there, program) = IsSomeAnd-at (var_at vars v) (λ (e : VarEntry). IsProgramVar e.kind) known in
      let it = var-held (layout_of types vars) (view_of types vars (at_start types vars)) a s s s at next wells.shows v entry there in
      let x : Track = track_or_first (var_track types vars v) in
      let own : value_of (at_start types vars).values v ≡ At x = own-track v entry there in
      let stands : StandsFor a at (At x) it.held = subst (λ u. StandsFor a at u it.held) own it.stands in
      let under : x.0 < next = subst (λ u. IsSymBelow next u) own it.under in
      let blank = blank-stands a at s x entry.kind it.held program it.fits stands in
      let empty = law-empty next x.0 a under in (
        (λ h. of-some IsBlank (var_value s v) it.held it.holds (blank.0 (empty.0 h))),
        (λ h.
            let (y, is, so) = IsSomeAnd-at (var_value s v) IsBlank h in
            let both : Some y ≡ Some it.held = sym is ∙ it.holds in
            let same : y ≡ it.held = cc in
            empty.1 (blank.1 (subst IsBlank same so))),
      )

  pub nulls-mean : (nulls : List VarId) → AllByRecursion (λ (v : VarId). IsSomeAnd (var_at vars v) (λ entry. IsProgramVar entry.kind)) nulls →
      EachSat a (map (λ (v : VarId). empty_at next (track_or_first (var_track types vars v)).0) nulls)
      ↔ All (λ (v : VarId). IsSomeAnd (var_value s v) IsBlank) nulls
  nulls-mean [] known = ((λ h. All-nil (λ (v : VarId). IsSomeAnd (var_value s v) IsBlank)), (λ h. tt))
  nulls-mean (v ∷ nulls) known =
      let here = null-means v known.0 in
      let rest = nulls-mean nulls known.1 in (
        (λ h. All-cons (λ (w : VarId). IsSomeAnd (var_value s w) IsBlank) v nulls (here.0 h.0) (rest.0 h.1)),
        (λ h. (
          here.1 (All-head (λ (w : VarId). IsSomeAnd (var_value s w) IsBlank) v nulls h),
          rest.1 (All-tail (λ (w : VarId). IsSomeAnd (var_value s w) IsBlank) v nulls h),
        )),
      )
