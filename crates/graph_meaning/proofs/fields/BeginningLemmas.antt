-- Before all events a view shows the store whose tree it is read on.
use Rattle.std.proofs.Common.{◌≡◌, ◌↔◌, inl, inr, ℕ, zero, suc, ◌+◌, ◌<◌, ◌≤◌, true, false, IsTrue, IfSome, List, [], ◌∷◌, ◌++◌, length, slice_get}
use Rattle.std.proofs.Common.{Some, None, IsSomeAnd, All, Contains, refl, sym, ap, ◌∙◌, subst, arith}
use Rattle.std.proofs.lemmas.Bool.{cases_lt}
use Rattle.std.proofs.lemmas.List.{length-append, length-map}
use Rattle.std.proofs.lemmas.List.Elements.{All-nil, All-contains}
use Rattle.std.proofs.lemmas.Option.{slice_get_within}
use Rattle.gta_theory.specs.Assignments.{Position, Assignment, IsOnly}
use Rattle.gta_theory.proofs.ListsLemmas.{All-from_contains, Contains-mapped}
use Rattle.ws2s_core.specs.declared.track.Track.{Track}
use Rattle.ws2s_theory.proofs.SetsLemmas.{not_so}
use Rattle.store_core.specs.declared.ids.CellId.{CellId}
use Rattle.store_core.specs.declared.ids.VarId.{VarId}
use Rattle.store_core.specs.declared.kind.VarKind.{VarKind}
use Rattle.store_core.specs.declared.kind.VarKind.TheVariants as var
use Rattle.store_core.specs.declared.value.Value.{Value}
use Rattle.store_core.specs.declared.value.Value.TheVariants as value
use Rattle.store_core.specs.Tables.{TypeEntry, VarEntry, IsTypeTable, var_at}
use Rattle.store_core.specs.Stores.{StoreMap, IsLive, VarFits, VarsFit, Fits, cell_of, var_value}
use Rattle.store_core.proofs.FittingLemmas.{IfSome-from, IfSome-at, var_fits}
use Rattle.routing_walks.specs.Walks.{IsOfType}
use Rattle.routing_walks.specs.WellFormed.{VarHoldsLive, IsBackbone, SetHoldsLive, IsWellFormed}
use Rattle.routing_walks.proofs.LiveLemmas.{IsSome-and}
use Rattle.tree_encode.specs.Layouts.{LaidOut}
use Rattle.tree_encode.specs.Positions.{IsPlaced}
use Rattle.tree_encode.specs.Tracks.{of_var, track_at, track_count, var_track}
use Rattle.tree_encode.proofs.ApartLemmas.{one-position}
use Rattle.tree_encode.proofs.TracksLemmas.{in_first, in_second, mapped}
use Rattle.tree_store.specs.Encoding.{NamesCell, IsOn, IsAssignmentOf}
use Rattle.tree_store.proofs.SpotsLemmas.{of-some, present}
use Rattle.tree_formula.specs.WellEncoded.{named, var_id, vars_in, track_or_first}
use Rattle.tree_store.specs.Premises.{OwnersAreThere, SetsHoldLive}
use Rattle.tree_store.proofs.ListsLemmas.{named-inside}
use Rattle.tree_store.proofs.TablesLemmas.{number_of_var, var-there, track-few, owners-there}
use Rattle.graph_view.specs.declared.view.Sym.TheVariants.{At}
use Rattle.graph_view.specs.After.{Standing, IsAt, AreStanding, StandsForCell, StandsForCells, StandsFor, IsSeen, IsSymBelow, IsEventBelow}
use Rattle.graph_view.specs.Fitting.{AreFree}
use Rattle.graph_meaning.specs.Live.Showing.{Shows}
use Rattle.graph_meaning.specs.Walks.Wells.{ShowsWell}
use Rattle.graph_meaning.specs.Fields.Beginning.{own_tracks, first_view}

-- ---- the tracks of variables

length-named : {X : Type 0} (name : ℕ → X) (n : ℕ) → length (named name n) ≡ n
length-named name zero = refl
length-named name (suc n) = simp length-append (omega (arith, length-named name n))

named-at : {X : Type 0} (name : ℕ → X) (n k : ℕ) → k < n → slice_get (named name n) k ≡ Some (name k)
named-at name zero k less = absurd (omega (arith, less))
named-at name (suc n) k less = elim (cases_lt k n) as (λ _. slice_get (named name n ++ name n ∷ []) k ≡ Some (name k)) [
  | inl inside ↦ in_first (named name n) (name n ∷ []) k (name k) (named-at name n k inside)
  | inr last ↦ (
      let is : k ≡ n + 0 = omega (arith, less, last) in
      let same : n ≡ k = omega (arith, is) in
      ap (λ m. slice_get (named name n ++ name n ∷ []) m) is
      ∙ in_second (named name n) (name n ∷ []) n 0 (name k) (sym (length-named name n)) (ap (λ m. Some (name m)) same))
]

vars_length : (s : StoreMap) (vars : List VarEntry) (xs : List Value) → VarsFit s vars xs → length xs ≡ length vars
vars_length s [] [] fit = refl
vars_length s [] (x ∷ xs) fit = absurd fit
vars_length s (v ∷ vars) [] fit = absurd fit
vars_length s (v ∷ vars) (x ∷ xs) fit = ap suc (vars_length s vars xs fit.1)

module _ (types : List TypeEntry) (vars : List VarEntry) where
  own_tracks-length : length (own_tracks types vars) ≡ length vars
  own_tracks-length = length-map (vars_in vars) (λ v. At (track_or_first (var_track types vars v))) ∙ length-named var_id (length vars)

  -- what stands for a variable is its track
  own_tracks-at : (v : VarId) (entry : VarEntry) → var_at vars v ≡ Some entry →
      slice_get (own_tracks types vars) v.0 ≡ Some (At (track_at (number_of_var types v)))
  own_tracks-at v entry there =
      mapped (λ w. At (track_or_first (var_track types vars w))) (vars_in vars) v.0 v
      (named-at var_id (length vars) v.0 (slice_get_within vars v.0 entry there))
      ∙ ap (λ o. Some (At (track_or_first o))) (var-there types vars v entry there)

  own_tracks-below : (next : ℕ) → track_count types vars ≤ next → All (IsSymBelow next) (own_tracks types vars)
  own_tracks-below next few = All-from_contains (IsSymBelow next) (own_tracks types vars) (λ u listed.
      let (v, among, is) = Contains-mapped (λ w. At (track_or_first (var_track types vars w))) (vars_in vars) u listed in
      let (k, inside, name) = named-inside var_id (length vars) v among in
      let (entry, there) = present vars k inside in
      let track_is = var-there types vars (var_id k) entry there in
      let below = track-few types vars (of_var (var_id k)) (track_at (number_of_var types (var_id k))) track_is in
      subst (IsSymBelow next) is
      (subst (λ w. IsSymBelow next (At (track_or_first (var_track types vars w)))) name
      (subst (λ o. IsSymBelow next (At (track_or_first o))) (sym track_is) (omega (arith, below, few)))))

-- ---- what the variables hold

module _ (types : List TypeEntry) (vars : List VarEntry) (s : StoreMap) (a : Assignment) (at : Standing) (backbone : IsBackbone types vars s)
    (sets : SetsHoldLive vars s) (means : IsAssignmentOf types vars s a) (stand : AreStanding types vars s at) where
  module _ (v : VarId) (entry : VarEntry) (there : var_at vars v ≡ Some entry) where
    abbrev own : Track
    own = track_at (number_of_var types v)

    on : (p : Position) → IsTrue (a own.0 p) ↔ IsOn types vars s (of_var v) p
    on p = means.tracks (of_var v) own p (var-there types vars v entry there)

    -- no cell is on the track of a truth value
    no-cell : (truth : Value) (c : CellId) → var_value s v ≡ Some truth → ((d : CellId) → NamesCell truth d → ⊥) →
        IsSomeAnd (var_value s v) (λ x. NamesCell x c) → ⊥
    no-cell truth c is none named = none c (subst (λ o. IsSomeAnd o (λ x. NamesCell x c)) is named)

    stands-true : var_value s v ≡ Some (value.Bool true) → IsOnly (a own.0) []
    stands-true is p = (
      (λ h. elim ((on p).0 h) as (λ _. p ≡ []) [
        | inl root ↦ root.0
        | inr cell ↦ absurd (no-cell (value.Bool true) cell.0 is (λ d k. k) cell.2)
      ]),
      (λ e. (on p).1 (inl (e, is))),
    )

    -- where the variable isn't true and names no cell, nothing is on its track
    stands-none : (x : Value) → var_value s v ≡ Some x → (x ≡ value.Bool true → ⊥) → ((d : CellId) → NamesCell x d → ⊥) → (p : Position) → a own.0 p ≡ false
    stands-none x is untrue none p = not_so (a own.0 p) (λ h. elim ((on p).0 h) as (λ _. ⊥) [
      | inl root ↦ untrue (let both : Some x ≡ Some (value.Bool true) = sym is ∙ root.1 in cc)
      | inr cell ↦ no-cell x cell.0 is none cell.2
    ])

    stands-cell : (c : CellId) → var_value s v ≡ Some (value.Cell (Some c)) → IsLive s c → StandsForCell a at (At own) (Some c)
    stands-cell c is live =
        let one = one-position types vars s c backbone live in (
          one.position,
          λ p. (
            (λ h. elim ((on p).0 h) as (λ _. p ≡ one.position) [
              | inl root ↦ absurd (let both : Some (value.Cell (Some c)) ≡ Some (value.Bool true) = sym is ∙ root.1 in cc)
              | inr cell ↦ (
                  let named : Some c ≡ Some cell.0 = subst (λ o. IsSomeAnd o (λ x. NamesCell x cell.0)) is cell.2 in
                  let same : cell.0 ≡ c = cc in
                  one.only p (subst (λ d. IsPlaced types vars s d p) same cell.1))
            ]),
            (λ e. (on p).1 (inr (
              c,
              subst (λ q. IsPlaced types vars s c q) (sym e) one.placed,
              of-some (λ x. NamesCell x c) (var_value s v) (value.Cell (Some c)) is refl,
            ))),
          ),
          (stand c one.position).1 one.placed,
        )

    stands-cells : (cells : List CellId) → var_value s v ≡ Some (value.Cells cells) → ((c : CellId) → Contains cells c → IsLive s c) →
        StandsForCells a at own cells
    stands-cells cells is live = record {
      each = λ p. (
        (λ h. elim ((on p).0 h) as (λ _. (c : CellId) × Contains cells c × IsAt at c p) [
          | inl root ↦ absurd (let both : Some (value.Cells cells) ≡ Some (value.Bool true) = sym is ∙ root.1 in cc)
          | inr cell ↦ (cell.0, subst (λ o. IsSomeAnd o (λ x. NamesCell x cell.0)) is cell.2, (stand cell.0 p).1 cell.1)
        ]),
        (λ h. (on p).1 (inr (h.0, (stand h.0 p).0 h.2, of-some (λ x. NamesCell x h.0) (var_value s v) (value.Cells cells) is h.1))),
      );
      all = λ c listed.
          let one = one-position types vars s c backbone (live c listed) in
          (one.position, (stand c one.position).1 one.placed);
    }

    stands : (kind : VarKind) (x : Value) → VarFits s kind x → VarHoldsLive s kind x → SetHoldsLive s kind x → var_value s v ≡ Some x →
        StandsFor a at (At own) x
    stands kind (value.Bool true) fits holds set is = stands-true is
    stands kind (value.Bool false) fits holds set is = stands-none (value.Bool false) is (λ e. cc) (λ d k. k)
    stands kind (value.Cell None) fits holds set is = stands-none (value.Cell None) is (λ e. cc) (λ d k. cc)
    stands var.Bool (value.Cell (Some c)) fits holds set is = absurd fits
    stands (var.Data target) (value.Cell (Some c)) fits holds set is =
        stands-cell c is (IsSome-and (cell_of s c) (λ e. e.variant.ty ≡ target) holds)
    stands (var.Pointer target) (value.Cell (Some c)) fits holds set is =
        stands-cell c is (IsSome-and (cell_of s c) (λ e. e.variant.ty ≡ target) holds)
    stands (var.LogicSet target) (value.Cell (Some c)) fits holds set is = absurd fits
    stands var.LogicBool (value.Cell (Some c)) fits holds set is = absurd fits
    stands var.Bool (value.Cells cells) fits holds set is = absurd fits
    stands (var.Data target) (value.Cells cells) fits holds set is = absurd fits
    stands (var.Pointer target) (value.Cells cells) fits holds set is = absurd fits
    stands (var.LogicSet target) (value.Cells cells) fits holds set is =
        stands-cells cells is (λ c listed. IsSome-and (cell_of s c) (λ e. e.variant.ty ≡ target) (All-contains (IsOfType s target) cells c set listed))
    stands var.LogicBool (value.Cells cells) fits holds set is = absurd fits

  own_tracks-stand : Fits types vars s → (v : VarId) → IfSome (slice_get (own_tracks types vars) v.0) (λ u. IfSome (var_value s v) (StandsFor a at u))
  own_tracks-stand fits v =
      IfSome-from (slice_get (own_tracks types vars) v.0) (λ u. IfSome (var_value s v) (StandsFor a at u)) (λ u found.
      IfSome-from (var_value s v) (StandsFor a at u) (λ x is.
      let held = var_fits s vars s.vars v.0 x fits.values is in
      let live = IfSome-at (var_value s v) (VarHoldsLive s held.entry.kind) x is
      (IfSome-at (var_at vars v) (λ e. IfSome (var_value s v) (VarHoldsLive s e.kind)) held.entry held.at (backbone.cell_vars v)) in
      let set = IfSome-at (var_value s v) (SetHoldsLive s held.entry.kind) x is
      (IfSome-at (var_at vars v) (λ e. IfSome (var_value s v) (SetHoldsLive s e.kind)) held.entry held.at (sets v)) in
      let both : Some u ≡ Some (At (track_at (number_of_var types v))) = sym found ∙ own_tracks-at types vars v held.entry held.at in
      let same : At (track_at (number_of_var types v)) ≡ u = cc in
      subst (λ w. StandsFor a at w x) same (stands v held.entry held.at held.entry.kind x held.fits live set is)))

-- ---- the view

module _ (l : LaidOut) (s : StoreMap) (a : Assignment) (at : Standing) (next : ℕ) where
  first-seen : Fits l.types l.vars s → IsBackbone l.types l.vars s → SetsHoldLive l.vars s → IsAssignmentOf l.types l.vars s a →
      AreStanding l.types l.vars s at → IsSeen l.types l.vars (own_tracks l.types l.vars) [] a s s at
  first-seen fits backbone sets means stand = record {
    start = at;
    stand = stand;
    ends = s;
    lead = refl;
    cells = refl;
    next = refl;
    fits = fits;
    count = vars_length s l.vars s.vars fits.values ∙ sym (own_tracks-length l.types l.vars);
    values = own_tracks-stand l.types l.vars s a at backbone sets means stand fits;
  }

  first-free : track_count l.types l.vars ≤ next → AreFree l (first_view l.types l.vars next) next
  first-free few = record {
    layout = few;
    vars = own_tracks-below l.types l.vars next few;
    events = All-nil (IsEventBelow next);
    region = tt;
  }

  pub first-shows : OwnersAreThere l.types → Fits l.types l.vars s → IsBackbone l.types l.vars s → SetsHoldLive l.vars s →
      IsAssignmentOf l.types l.vars s a → AreStanding l.types l.vars s at → track_count l.types l.vars ≤ next →
      Shows l (first_view l.types l.vars next) a s s s at next
  first-shows owners fits backbone sets means stand few = record {
    owners = owners;
    fits = fits;
    backbone = backbone;
    assignment = means;
    seen = first-seen fits backbone sets means stand;
    read = refl;
    free = first-free few;
  }

  pub first-shows_well : IsTypeTable l.types → IsWellFormed l.types l.vars s → IsAssignmentOf l.types l.vars s a → AreStanding l.types l.vars s at →
      track_count l.types l.vars ≤ next → ShowsWell l (first_view l.types l.vars next) a s s s at next
  first-shows_well table well means stand few = record {
    table = table;
    well = well;
    shows = first-shows (owners-there l.types table) well.fits well.backbone well.sets means stand few;
  }
