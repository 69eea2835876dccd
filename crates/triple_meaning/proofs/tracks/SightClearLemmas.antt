-- A track behind those of the layout, of values and of events isn't free in what is said of a store that is seen.
use Rattle.std.proofs.Common.{◌≡◌, ◌≢◌, ℕ, suc, ◌+◌, ◌<◌, ◌≤◌, Bool, true, false, cond, List, [], ◌∷◌, map, Option, Some, None, refl, sym, subst, arith}
use Rattle.std.specs.Option.{option_map_or}
use Rattle.std.specs.Prelude.{unwrap_or}
use Rattle.ws2s_core.specs.declared.track.Track.{Track}
use Rattle.ws2s_core.specs.declared.formula.Formula.{Formula}
use Rattle.ws2s_core.specs.declared.formula.Formula.TheVariants.{Sub, And, Not}
use Rattle.ws2s_forms.specs.Forms.{track, false_at, or, and_list, or_list, ex1, child, slot}
use Rattle.store_core.specs.declared.ids.TypeId.{TypeId}
use Rattle.store_core.specs.declared.ids.VariantId.{VariantId}
use Rattle.store_core.specs.declared.ids.FieldId.{FieldId}
use Rattle.store_core.specs.declared.kind.FieldKind.{FieldKind}
use Rattle.store_core.specs.declared.kind.FieldKind.TheVariants as field
use Rattle.store_core.specs.Tables.{TypeEntry, FieldEntry, VarEntry, field_at, unnamed_of}
use Rattle.tree_encode.specs.Tracks.{of_variant, of_bool, track_count, variant_track, bool_track, child_number}
use Rattle.tree_formula.specs.WellEncoded.{types_in, variants_of, track_or_first, owner, is_of}
use Rattle.tree_store.proofs.TablesLemmas.{track-few}
use Rattle.graph_view.specs.declared.view.Sym.{Sym}
use Rattle.graph_view.specs.declared.view.Sym.TheVariants.{Null, At}
use Rattle.graph_view.specs.declared.view.Event.{Event}
use Rattle.graph_view.specs.declared.view.Event.TheVariants.{New, Write, Free}
use Rattle.graph_view.specs.Sights.{Sight, at_first}
use Rattle.graph_view.specs.Syms.{is_in, is_same, truth, guard, is_changed}
use Rattle.graph_view.specs.Live.{is_variant, is_made, live_of, lives, lives_in, has, is_live}
use Rattle.graph_view.specs.Fields.{is_field, is_data, after, is_true, first_child, data_names, fields_of_kind}
use Rattle.graph_view.specs.Routes.{names_by_data, data_names_in, edge, is_left}
use Rattle.graph_view.specs.Cuts.{has_value}
use Rattle.graph_view.specs.After.{IsSymBelow, IsGuardBelow, AreEventsBelow}
use Rattle.triple_meaning.proofs.tracks.ClearLemmas.{above, below, later, IsClear, AreClear, clear-Sub, clear-And, clear-Not, clear-false, clear-true}
use Rattle.triple_meaning.proofs.tracks.ClearLemmas.{clear-and_list, clear-or_list, clear-or, clear-map, clear-ex1, clear-empty, clear-equal, clear-flag}
use Rattle.triple_meaning.proofs.tracks.ClearLemmas.{clear-go, clear-slot}

-- a choice between two formulas
pub clear-cond : (t : ℕ) (b : Bool) (f g : Formula) → IsClear t f → IsClear t g → IsClear t (cond b f g)
clear-cond t true f g one other = one
clear-cond t false f g one other = other

-- the formula of what is there, or another
pub clear-option : {X : Type 0} (t : ℕ) (f : X → Formula) (other : Formula) (o : Option X) → ((x : X) → IsClear t (f x)) → IsClear t other →
    IsClear t (option_map_or f o other)
clear-option t f other None each none = none
clear-option t f other (Some x) each none = each x

-- ---- values and guards

module _ (t : ℕ) where
  pub clear-is_in : (next a : ℕ) (u : Sym) → t < next → a ≢ t → IsSymBelow t u → IsClear t (is_in next a u)
  clear-is_in next a Null less no_a under = clear-false t next less
  clear-is_in next a (At x) less no_a under = clear-Sub t (track a) x no_a (below t x.0 under)

  pub clear-is_same : (next : ℕ) (u w : Sym) → t < next → IsSymBelow t u → IsSymBelow t w → IsClear t (is_same next u w)
  clear-is_same next Null Null less one other = clear-true t next less
  clear-is_same next Null (At y) less one other = clear-empty t next y.0 less (below t y.0 other)
  clear-is_same next (At x) Null less one other = clear-empty t next x.0 less (below t x.0 one)
  clear-is_same next (At x) (At y) less one other = clear-equal t x.0 y.0 (below t x.0 one) (below t y.0 other)

  pub clear-truth : (next : ℕ) (u : Sym) → t < next → IsSymBelow t u → IsClear t (truth next u)
  clear-truth next Null less under = clear-false t next less
  clear-truth next (At h) less under = clear-flag t next h.0 less (below t h.0 under)

  pub clear-guard : (next : ℕ) (g : Option Track) → t < next → IsGuardBelow t g → IsClear t (guard next g)
  clear-guard next None less under = clear-true t next less
  clear-guard next (Some h) less under = clear-flag t next h.0 less (below t h.0 under)

  pub clear-is_changed : (next a : ℕ) (g : Option Track) (u : Sym) → t < next → a ≢ t → IsGuardBelow t g → IsSymBelow t u →
      IsClear t (is_changed next a g u)
  clear-is_changed next a g u less no_a guarded under =
      clear-And t (guard next g) (is_in next a u) (clear-guard next g less guarded) (clear-is_in next a u less no_a under)

-- ---- cells and fields

-- all cells are looked at, after events whose tracks stand before
pub record IsSightBelow (t : ℕ) (sight : Sight) : Type 0 where
  pub region : sight.region ≡ None
  pub events : AreEventsBelow t sight.events

pub first-below : (t : ℕ) (sight : Sight) → IsSightBelow t (at_first sight.slots)
first-below t sight = record { region = refl; events = tt }

module _ (types : List TypeEntry) (vars : List VarEntry) (t : ℕ) (few : track_count types vars ≤ t) (some : 0 < t) where
  -- ---- tracks of the layout

  first-other : (o : Option Track) → ((x : Track) → o ≡ Some x → x.0 < track_count types vars) → (track_or_first o).0 ≢ t
  first-other None inside = below t 0 some
  first-other (Some x) inside = below t x.0 (omega (arith, few, inside x refl))

  variant-other : (v : VariantId) → (track_or_first (variant_track types v)).0 ≢ t
  variant-other v = first-other (variant_track types v) (λ x is. track-few types vars (of_variant v) x is)

  bool-other : (f : FieldId) → (track_or_first (bool_track types f)).0 ≢ t
  bool-other f = first-other (bool_track types f) (λ x is. track-few types vars (of_bool f) x is)

  -- ---- live cells

  clear-is_of : (v : VariantId) (a : ℕ) → a ≢ t → IsClear t (is_of types v a)
  clear-is_of v a no_a = clear-Sub t (track a) (track_or_first (variant_track types v)) no_a (variant-other v)

  clear-live_of : (slots : ℕ) (next : ℕ) (v : VariantId) (a : ℕ) (events : List Event) → t < next → a ≢ t → AreEventsBelow t events →
      IsClear t (live_of types next slots v a events)
  clear-live_of slots next v a [] less no_a under = clear-is_of v a no_a
  clear-live_of slots next v a (New g k w ∷ earlier) less no_a under =
      let old : Formula = live_of types next slots v a earlier in
      let so = clear-live_of slots next v a earlier less no_a under.1 in
      clear-cond t (is_variant v w) (or old (is_made next slots a g k)) old
      (clear-or t old (is_made next slots a g k) so
      (clear-And t (guard next g) (slot next (slots + k) a) (clear-guard t next g less under.0) (clear-slot t next (slots + k) a less no_a))) so
  clear-live_of slots next v a (Write g u f x ∷ earlier) less no_a under = clear-live_of slots next v a earlier less no_a under.1
  clear-live_of slots next v a (Free g u ∷ earlier) less no_a under =
      let old : Formula = live_of types next slots v a earlier in
      clear-And t old (Not (is_changed next a g u)) (clear-live_of slots next v a earlier less no_a under.1)
      (clear-Not t (is_changed next a g u) (clear-is_changed t next a g u less no_a under.0.0 under.0.1))

  -- what is said of a sight without a region
  whole-sight : (P : Sight → Type 0) (sight : Sight) → IsSightBelow t sight → P (record { slots = sight.slots; events = sight.events; region = None }) → P sight
  whole-sight P sight is h = subst (λ r. P (record { slots = sight.slots; events = sight.events; region = r })) (sym is.region) h

  pub clear-lives : (sight : Sight) (next : ℕ) (v : VariantId) (a : ℕ) → IsSightBelow t sight → t < next → a ≢ t → IsClear t (lives types sight next v a)
  clear-lives sight next v a is less no_a =
      whole-sight (λ z. IsClear t (lives types z next v a)) sight is (clear-live_of sight.slots next v a sight.events less no_a is.events)

  pub clear-lives_in : (sight : Sight) (next : ℕ) (ty : TypeId) (a : ℕ) → IsSightBelow t sight → t < next → a ≢ t →
      IsClear t (lives_in types sight next ty a)
  clear-lives_in sight next ty a is less no_a =
      clear-option t (λ v. lives types sight next v a) (or_list next (map (λ v. lives types sight next v a) (variants_of types ty))) (unnamed_of types ty)
      (λ v. clear-lives sight next v a is less no_a)
      (clear-or_list t next (map (λ v. lives types sight next v a) (variants_of types ty)) less
      (clear-map t (λ v. lives types sight next v a) (λ v. clear-lives sight next v a is less no_a) (variants_of types ty)))

  pub clear-has : (sight : Sight) (next : ℕ) (f : FieldId) (a : ℕ) → IsSightBelow t sight → t < next → a ≢ t → IsClear t (has types sight next f a)
  clear-has sight next f a is less no_a =
      clear-option t (λ v. lives types sight next v a) (lives_in types sight next f.ty a) (owner types f)
      (λ v. clear-lives sight next v a is less no_a) (clear-lives_in sight next f.ty a is less no_a)

  pub clear-is_live : (sight : Sight) (next a : ℕ) → IsSightBelow t sight → t < next → a ≢ t → IsClear t (is_live types sight next a)
  clear-is_live sight next a is less no_a =
      clear-or_list t next (map (λ ty. lives_in types sight next ty a) (types_in types)) less
      (clear-map t (λ ty. lives_in types sight next ty a) (λ ty. clear-lives_in sight next ty a is less no_a) (types_in types))

  -- ---- fields

  pub clear-after : (next : ℕ) (f : FieldId) (a : ℕ) (new : Sym → Formula) (first : Formula) (events : List Event) → t < next → a ≢ t →
      ((u : Sym) → IsSymBelow t u → IsClear t (new u)) → IsClear t first → AreEventsBelow t events → IsClear t (after next f a new first events)
  clear-after next f a new first [] less no_a each clear under = clear
  clear-after next f a new first (New g k v ∷ earlier) less no_a each clear under = clear-after next f a new first earlier less no_a each clear under.1
  clear-after next f a new first (Free g u ∷ earlier) less no_a each clear under = clear-after next f a new first earlier less no_a each clear under.1
  clear-after next f a new first (Write g u h x ∷ earlier) less no_a each clear under =
      let old : Formula = after next f a new first earlier in
      let so = clear-after next f a new first earlier less no_a each clear under.1 in
      let now : List Formula = guard next g ∷ is_in next a u ∷ new x ∷ [] in
      clear-cond t (is_field f h) (or (and_list next now) (And (Not (is_changed next a g u)) old)) old
      (clear-or t (and_list next now) (And (Not (is_changed next a g u)) old)
      (clear-and_list t next now less
      (clear-guard t next g less under.0.0, (clear-is_in t next a u less no_a under.0.1, (each x under.0.2, tt))))
      (clear-And t (Not (is_changed next a g u)) old
      (clear-Not t (is_changed next a g u) (clear-is_changed t next a g u less no_a under.0.0 under.0.1)) so)) so

  pub clear-is_true : (sight : Sight) (next : ℕ) (f : FieldId) (a : ℕ) → IsSightBelow t sight → t < next → a ≢ t → IsClear t (is_true types sight next f a)
  clear-is_true sight next f a is less no_a =
      clear-after next f a (truth next) (Sub (track a) (track_or_first (bool_track types f))) sight.events less no_a
      (λ u under. clear-truth t next u less under) (clear-Sub t (track a) (track_or_first (bool_track types f)) no_a (bool-other f)) is.events

  pub clear-data_names : (sight : Sight) (next : ℕ) (f : FieldId) (target : TypeId) (a b : ℕ) → IsSightBelow t sight → t < next → a ≢ t → b ≢ t →
      IsClear t (data_names types sight next f target a b)
  clear-data_names sight next f target a b is less no_a no_b =
      let begun = first-below t sight in
      clear-after next f a (is_in next b) (first_child types sight next f target a b) sight.events less no_a (λ u under. clear-is_in t next b u less no_b under)
      (clear-and_list t next (has types (at_first sight.slots) next f a ∷ child next (unwrap_or (child_number types f) 0) a b
      ∷ lives_in types (at_first sight.slots) next target b ∷ []) less (
        clear-has (at_first sight.slots) next f a begun less no_a,
        (clear-go t (unwrap_or (child_number types f) 0) next a b less no_a no_b, (clear-lives_in (at_first sight.slots) next target b begun less no_b, tt)),
      )) is.events

  clear-data_names_in : (sight : Sight) (next : ℕ) (f : FieldId) (a b : ℕ) (kind : FieldKind) → IsSightBelow t sight → t < next → a ≢ t → b ≢ t →
      IsClear t (data_names_in types sight next f a b kind)
  clear-data_names_in sight next f a b field.Bool is less no_a no_b = clear-false t next less
  clear-data_names_in sight next f a b (field.Data target) is less no_a no_b = clear-data_names sight next f target a b is less no_a no_b
  clear-data_names_in sight next f a b (field.Pointer target along) is less no_a no_b = clear-false t next less

  pub clear-by_data : (sight : Sight) (next : ℕ) (f : FieldId) (a b : ℕ) → IsSightBelow t sight → t < next → a ≢ t → b ≢ t →
      IsClear t (names_by_data types sight next f a b)
  clear-by_data sight next f a b is less no_a no_b =
      clear-option t (λ (entry : FieldEntry). data_names_in types sight next f a b entry.kind) (false_at next) (field_at types f)
      (λ entry. clear-data_names_in sight next f a b entry.kind is less no_a no_b) (clear-false t next less)

  pub clear-edge : (sight : Sight) (next a b : ℕ) → IsSightBelow t sight → t < next → a ≢ t → b ≢ t → IsClear t (edge types sight next a b)
  clear-edge sight next a b is less no_a no_b =
      let fields : List Formula = map (λ f. names_by_data types sight next f a b) (fields_of_kind types is_data) in
      clear-and_list t next (is_live types sight next a ∷ is_live types sight next b ∷ or_list next fields ∷ []) less (
        clear-is_live sight next a is less no_a,
        (
          clear-is_live sight next b is less no_b,
          (
            clear-or_list t next fields less (clear-map t (λ f. names_by_data types sight next f a b)
                (λ f. clear-by_data sight next f a b is less no_a no_b) (fields_of_kind types is_data)),
            tt,
          ),
        ),
      )

-- ---- relations of two tracks

-- a track isn't free in the formulas of a relation
abbrev pub IsClearJoining : ℕ → (ℕ → ℕ → ℕ → Formula) → Type 0
IsClearJoining t joins = (next a b : ℕ) → t < next → a ≢ t → b ≢ t → IsClear t (joins next a b)

pub clear-is_left : (t : ℕ) (joins : ℕ → ℕ → ℕ → Formula) → IsClearJoining t joins → (next x : ℕ) → t < next → x ≢ t → IsClear t (is_left joins next x)
clear-is_left t joins clear next x less no_x =
    let one = above t next less in
    let other = above t (suc next) (later t next less) in
    let past = later t (suc next) (later t next less) in
    let parts : List Formula = Sub (track next) (track x) ∷ joins (suc (suc next)) next (suc next) ∷ Not (Sub (track (suc next)) (track x)) ∷ [] in
    clear-ex1 t next (ex1 (suc next) (and_list (suc (suc next)) parts)) less
    (clear-ex1 t (suc next) (and_list (suc (suc next)) parts) (later t next less)
    (clear-and_list t (suc (suc next)) parts past (
      clear-Sub t (track next) (track x) one no_x,
      (
        clear (suc (suc next)) next (suc next) past one other,
        (clear-Not t (Sub (track (suc next)) (track x)) (clear-Sub t (track (suc next)) (track x) other no_x), tt),
      ),
    )))

-- ---- closed sets

pub clear-has_value : (t x : ℕ) (u : Sym) → x ≢ t → IsSymBelow t u → AreClear t (has_value x u)
clear-has_value t x Null no_x under = tt
clear-has_value t x (At v) no_x under = (clear-Sub t v (track x) (below t v.0 under) no_x, tt)
