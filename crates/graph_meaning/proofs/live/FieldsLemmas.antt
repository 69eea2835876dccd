-- What the formulas of bool and data fields say of live cells.
use Rattle.std.proofs.Common.{◌≡◌, ◌↔◌, inl, inr, ℕ, ◌+◌, ◌<◌, ◌≤◌, true, false, cond, IsSomeAnd, IfSome, List, [], ◌∷◌, ◌++◌, take, unwrap_or, Option, Some}
use Rattle.std.proofs.Common.{None, refl, sym, ap, ◌∙◌, subst, arith}
use Rattle.std.proofs.lemmas.Bool.{false≢true}
use Rattle.std.specs.Option.{option_and_then}
use Rattle.std.specs.Prelude.{IsSome}
use Rattle.gta_theory.specs.Assignments.{Position, Assignment, IsOnly}
use Rattle.gta_theory.proofs.ListsLemmas.{Contains-later, Contains-cases}
use Rattle.ws2s_core.specs.declared.track.Track.{Track}
use Rattle.ws2s_core.specs.declared.formula.Formula.TheVariants.{Sub}
use Rattle.ws2s_core.specs.Satisfaction.{WSat}
use Rattle.ws2s_forms.specs.Forms.{track, child}
use Rattle.ws2s_forms.specs.Places.{child_of, slot_of}
use Rattle.ws2s_forms.proofs.PositionsLemmas.{IsOnly-inside, IsOnly-same, IsOnly-along}
use Rattle.ws2s_forms.proofs.GoingLemmas.{WSat-flag, WSat-go}
use Rattle.store_core.specs.declared.ids.CellId.{CellId}
use Rattle.store_core.specs.declared.ids.TypeId.{TypeId}
use Rattle.store_core.specs.declared.ids.FieldId.{FieldId}
use Rattle.store_core.specs.declared.kind.FieldKind.{FieldKind}
use Rattle.store_core.specs.declared.kind.FieldKind.TheVariants as field
use Rattle.store_core.specs.declared.value.Value.{Value}
use Rattle.store_core.specs.declared.value.Value.TheVariants as value
use Rattle.store_core.specs.Tables.{TypeEntry, FieldEntry, VarEntry, field_at}
use Rattle.store_core.specs.Stores.{StoreMap, CellEntry, Fits, FieldFits, cell_of, field_value, field_class, blank}
use Rattle.store_core.specs.declared.value.Class.TheVariants.{Reference}
use Rattle.store_core.proofs.FittingLemmas.{IfSome-at, IsSomeAnd-at}
use Rattle.routing_walks.specs.Walks.{DataAlone, IsFollowed, Leads, IsOfType}
use Rattle.routing_walks.specs.WellFormed.{FieldHoldsLive, IsBackbone}
use Rattle.routing_walks.proofs.LiveLemmas.{IsSome-and}
use Rattle.routing_walks.specs.Paths.{LeadsAlong}
use Rattle.tree_encode.specs.declared.counting.Counted.TheVariants.{Bools, Children}
use Rattle.tree_encode.specs.Counting.{counts, is_counted, rank, variants_in, bools_in}
use Rattle.tree_encode.specs.Tracks.{of_bool, track_at, track_count, bool_track, slot_of_var, child_number}
use Rattle.tree_encode.specs.Positions.{below, IsPlaced}
use Rattle.tree_encode.proofs.ApartLemmas.{placed-apart, one-position}
use Rattle.tree_encode.proofs.PositionsLemmas.{data_field, numbered, own_type}
use Rattle.tree_store.specs.Encoding.{IsAssignmentOf}
use Rattle.tree_store.proofs.SpotsLemmas.{of-some}
use Rattle.tree_formula.specs.WellEncoded.{track_or_first}
use Rattle.tree_store.proofs.NumbersLemmas.{fields-apart}
use Rattle.tree_store.proofs.StoresLemmas.{last-step, below-last, below-ends}
use Rattle.tree_store.proofs.TablesLemmas.{track-few}
use Rattle.tree_store.proofs.WordsLemmas.{EndsInZero, slot-ends, slot-not_child, children-apart}
use Rattle.graph_view.specs.declared.view.Sym.{Sym}
use Rattle.graph_view.specs.declared.view.Sym.TheVariants.{Null, At}
use Rattle.graph_view.specs.Syms.{is_in, truth}
use Rattle.graph_view.specs.Sights.{Sight, at_first}
use Rattle.graph_view.specs.Live.{has, lives_in}
use Rattle.graph_view.specs.Fields.{first_child}
use Rattle.graph_view.specs.After.{Standing, IsAt, AreStanding, StandsFor, IsSymBelow}
use Rattle.graph_meaning.specs.Live.Meaning.{Agrees, MeansHere}
use Rattle.graph_meaning.specs.Live.Standing.{Sits, TypeAt, FieldAt}
use Rattle.graph_meaning.specs.Live.Fields.{NamesAt}
use Rattle.graph_meaning.proofs.live.AgreeingLemmas.{member-agreed, sat-three}
use Rattle.graph_meaning.proofs.live.SymsLemmas.{on-agreed, is_in-cell, is_in-null}
use Rattle.graph_meaning.proofs.live.ReadLemmas.{is-some, is-none}
use Rattle.graph_meaning.proofs.live.TellLemmas.{IsSaid, IsTold}

-- ---- truths

abbrev pub IsTruth : Standing → Value → Type 0
IsTruth at x = x ≡ value.Bool true

pub truth-said : IsSaid field.Bool IsTruth
truth-said = record {
  of_blank = λ at e. let no : ⊥ = cc in no;
  grows = λ at c place x other. ((λ h. h), (λ h. h));
}

pub truth-means : (count : ℕ) (a b : Assignment) (next : ℕ) (at : Standing) (s : StoreMap) (u : Sym) (w : Value) → Agrees count a b → count ≤ next →
    StandsFor a at u w → FieldFits s field.Bool w → IsSymBelow count u → WSat (truth next u) b ↔ IsTruth at w
truth-means count a b next at s Null (value.Bool t) agrees few stands fits below = absurd stands
truth-means count a b next at s (At h) (value.Bool true) agrees few stands fits below =
    let at_root = WSat-flag next h.0 b (omega (arith, few, below)) in
    let same = on-agreed count a b h.0 [] agrees below in (
      (λ k. refl),
      (λ e. at_root.1 (same.1 (IsOnly-inside (a h.0) [] stands))),
    )
truth-means count a b next at s (At h) (value.Bool false) agrees few stands fits below =
    let at_root = WSat-flag next h.0 b (omega (arith, few, below)) in
    let same = on-agreed count a b h.0 [] agrees below in (
      (λ k. absurd (false≢true (sym (stands []) ∙ same.0 (at_root.0 k)))),
      (λ e. let no : ⊥ = cc in absurd no),
    )
truth-means count a b next at s Null (value.Cell c) agrees few stands fits below = absurd fits
truth-means count a b next at s (At h) (value.Cell c) agrees few stands fits below = absurd fits
truth-means count a b next at s Null (value.Cells c) agrees few stands fits below = absurd fits
truth-means count a b next at s (At h) (value.Cells c) agrees few stands fits below = absurd fits

bool-there : (types : List TypeEntry) (f : FieldId) (entry : FieldEntry) → field_at types f ≡ Some entry → entry.kind ≡ field.Bool →
    (t : Track) × (bool_track types f ≡ Some t)
bool-there types f entry there kind =
    let t = track_at (variants_in types + (bools_in (take f.ty.0 types) + rank Bools types f)) in (
      t,
      ap (λ o. option_and_then (λ (e : FieldEntry). cond (is_counted Bools e) (Some t) None) o) there ∙ ap (λ k. cond (counts Bools k) (Some t) None) kind,
    )

-- ---- cells that fields name

pub names-said : (kind : FieldKind) (q : Position) → field_class kind ≡ Reference → IsSaid kind (λ at x. NamesAt at x q)
names-said kind q reference = record {
  of_blank = λ at h.
      let null : blank (field_class kind) ≡ value.Cell None = ap (λ k. blank k) reference in
      let named : value.Cell None ≡ value.Cell (Some h.0) = sym null ∙ h.2 in
      let no : ⊥ = cc in no;
  grows = λ at c place x other. (
    (λ (h : NamesAt at x q). (h.0, Contains-later (c, place) (h.0, q) at h.1, h.2)),
    (λ (h : NamesAt ((c, place) ∷ at) x q). elim (Contains-cases (c, place) (h.0, q) at h.1) as (λ _. NamesAt at x q) [
      | inl same ↦ absurd (other (h.2 ∙ ap (λ d. value.Cell (Some d)) (sym (ap (λ (w : CellId × Position). w.0) same))))
      | inr old ↦ (h.0, old, h.2)
    ]),
  );
}

one-cell : (d e : CellId) → value.Cell (Some d) ≡ value.Cell (Some e) → d ≡ e
one-cell d e same = cc

pub names-means : (count : ℕ) (a b : Assignment) (next y : ℕ) (q : Position) (at : Standing) (s : StoreMap) (u : Sym) (o : Option CellId) → Sits s at →
    Agrees count a b → IsOnly (b y) q → StandsFor a at u (value.Cell o) → IsSymBelow count u → WSat (is_in next y u) b ↔ NamesAt at (value.Cell o) q
names-means count a b next y q at s u None sits agrees only stands below =
    let none = is_in-null count a b next y q at u agrees below only stands in (
      (λ h. absurd (none h)),
      (λ h. let e : value.Cell None ≡ value.Cell (Some h.0) = h.2 in let no : ⊥ = cc in absurd no),
    )
names-means count a b next y q at s u (Some d) sits agrees only stands below =
    let named = is_in-cell count a b next y q at u d agrees below only (sits.one d) stands in (
      (λ h. (d, named.0 h, refl)),
      (λ (h : NamesAt at (value.Cell (Some d)) q). named.1 (subst (λ e. IsAt at e q) (sym (one-cell d h.0 h.2)) h.1)),
    )

-- ---- before all events

module _ (types : List TypeEntry) (vars : List VarEntry) (s : StoreMap) (a : Assignment) (at : Standing) (fits : Fits types vars s)
    (backbone : IsBackbone types vars s) (means : IsAssignmentOf types vars s a) (stand : AreStanding types vars s at) (count : ℕ)
    (enough : track_count types vars ≤ count) (b : Assignment) (agrees : Agrees count a b) (y : ℕ) (p : Position) (only : IsOnly (b y) p) where
  -- a bool field is true where its track has the cell
  pub first-truth : (f : FieldId) (entry : FieldEntry) → field_at types f ≡ Some entry → entry.kind ≡ field.Bool →
      IsTold f p IsTruth (WSat (Sub (track y) (track_or_first (bool_track types f))) b) (record { store = s; at = at })
  first-truth f entry there kind =
      let (t, is) = bool-there types f entry there kind in
      subst (λ o. IsTold f p IsTruth (WSat (Sub (track y) (track_or_first o)) b) (record { store = s; at = at })) (sym is) (told t is)
    where
      told : (t : Track) → bool_track types f ≡ Some t → IsTold f p IsTruth (WSat (Sub (track y) t) b) (record { store = s; at = at })
      told t is =
          let below = track-few types vars (of_bool f) t is in
          let on = member-agreed count a b y t.0 p agrees (omega (arith, below, enough)) only in
          let marked = means.tracks (of_bool f) t p is in
          record {
            here = λ c v here value_is. (
              (λ h. elim (marked.0 (on.0 h)) as (λ _. v ≡ value.Bool true) [
                | inl root ↦ absurd root.1
                | inr found ↦ (
                    let same = placed-apart types vars s c found.0 p ((stand c p).0 here) found.1 in
                    let both : Some v ≡ Some (value.Bool true) = sym value_is ∙ ap (λ d. field_value s d f) same ∙ found.2 in
                    cc)
              ]),
              (λ e. on.1 (marked.1 (inr (c, (stand c p).0 here, value_is ∙ ap (λ w. Some w) e)))),
            );
            lacks = λ c here live lacking h. elim (marked.0 (on.0 h)) as (λ _. ⊥) [
              | inl root ↦ root.1
              | inr found ↦ (
                  let same = placed-apart types vars s c found.0 p ((stand c p).0 here) found.1 in
                  let none : None ≡ Some (value.Bool true) = sym lacking ∙ ap (λ d. field_value s d f) same ∙ found.2 in
                  let no : ⊥ = cc in no)
            ];
            none = λ no h. elim (marked.0 (on.0 h)) as (λ _. ⊥) [
              | inl root ↦ root.1
              | inr found ↦ no found.0 ((stand found.0 p).1 found.1)
            ];
          }

-- ---- children

module _ (types : List TypeEntry) (vars : List VarEntry) (s : StoreMap) (backbone : IsBackbone types vars s) where
  placed-ends : (c : CellId) (p : Position) → IsPlaced types vars s c p → EndsInZero p
  placed-ends c p placed =
      subst EndsInZero (sym placed.position)
      (below-ends types (slot_of (unwrap_or (slot_of_var vars placed.var) 0)) placed.fields (slot-ends (unwrap_or (slot_of_var vars placed.var) 0)))

  -- a data field that leads from a cell leads to its child
  pub led-child : (f : FieldId) (c d : CellId) (p q : Position) → Leads types s DataAlone f c d → IsPlaced types vars s c p → IsPlaced types vars s d q →
      q ≡ child_of (unwrap_or (child_number types f) 0) p
  led-child f c d p q leads placed other =
      let u = slot_of (unwrap_or (slot_of_var vars placed.var) 0) in
      let further : IsPlaced types vars s d (below types u (placed.fields ++ f ∷ [])) = record {
        var = placed.var;
        fields = placed.fields ++ f ∷ [];
        at = record {
          root = placed.at.root;
          named = placed.at.named;
          along = along-last placed.fields placed.at.root placed.at.along;
        };
        position = refl;
      } in
      let one = one-position types vars s d backbone leads.live in
      one.only q other ∙ sym (one.only (below types u (placed.fields ++ f ∷ [])) further) ∙ below-last types u placed.fields f
      ∙ ap (λ r. child_of (unwrap_or (child_number types f) 0) r) (sym placed.position)
    where
      along-last : (fields : List FieldId) (r : CellId) → LeadsAlong types s fields r c → LeadsAlong types s (fields ++ f ∷ []) r d
      along-last [] r stays = (d, subst (λ e. Leads types s DataAlone f e d) (sym stays.0) leads, (refl, leads.live))
      along-last (g ∷ fields) r (next, goes, rest) = (next, goes, along-last fields next rest)

  -- and the cell at a child is the one to which it leads
  pub child-led : (f : FieldId) (j : ℕ) (c d : CellId) (p : Position) (x : Value) → child_number types f ≡ Some j → field_value s c f ≡ Some x →
      IsPlaced types vars s c p → IsPlaced types vars s d (child_of j p) → field_value s c f ≡ Some (value.Cell (Some d))
  child-led f j c d p x number has placed other =
      let u = slot_of (unwrap_or (slot_of_var vars other.var) 0) in
      elim (last-step types s other.fields other.at.root d other.at.along) as (λ _. field_value s c f ≡ Some (value.Cell (Some d))) [
        | inl none ↦ absurd (slot-not_child (unwrap_or (slot_of_var vars other.var) 0) j p (placed-ends c p placed)
            (sym (other.position ∙ ap (λ l. below types u l) none.0)))
        | inr more ↦ (
            let k = unwrap_or (child_number types more.last) 0 in
            let up = below types u more.before in
            let position : child_of j p ≡ child_of k up = other.position ∙ ap (λ l. below types u l) more.is ∙ below-last types u more.before more.last in
            let (count_is, parent_at) = children-apart j k p up (placed-ends c p placed)
            (below-ends types u more.before (slot-ends (unwrap_or (slot_of_var vars other.var) 0))) position in
            let parent : IsPlaced types vars s more.parent p = record {
              var = other.var;
              fields = more.before;
              at = record { root = other.at.root; named = other.at.named; along = more.along };
              position = parent_at;
            } in
            let same : more.parent ≡ c = placed-apart types vars s more.parent c p parent placed in
            let value_at : field_value s c more.last ≡ Some (value.Cell (Some d)) = ap (λ e. field_value s e more.last) (sym same) ∙ more.step.value in
            let (entry, there, followed) = IsSomeAnd-at (field_at types more.last) (λ e. IsFollowed DataAlone e.kind) more.step.kind in
            let (ty, kind) = data_field entry.kind followed in
            let number_is = numbered types more.last entry ty there kind in
            let last_number : child_number types more.last ≡ Some j =
            number_is ∙ ap (λ n. Some n) (sym (ap (λ o. unwrap_or o 0) number_is) ∙ sym count_is) in
            let (one, at_one, typed) = own_type s c f x has in
            let (two, at_two, sort) = own_type s c more.last (value.Cell (Some d)) value_at in
            let both : Some one ≡ Some two = sym at_one ∙ at_two in
            let cells : one ≡ two = cc in
            let types_same : f.ty ≡ more.last.ty = sym typed ∙ ap (λ (e : CellEntry). e.variant.ty) cells ∙ sort in
            let fields : f ≡ more.last = fields-apart types f more.last j types_same number last_number in
            ap (λ g. field_value s c g) fields ∙ value_at)
      ]

-- a data field at no event names the child
module _ (types : List TypeEntry) (vars : List VarEntry) (s : StoreMap) (a : Assignment) (at : Standing) (fits : Fits types vars s)
    (backbone : IsBackbone types vars s) (stand : AreStanding types vars s at) (count : ℕ) (b : Assignment) (agrees : Agrees count a b) (next y z : ℕ)
    (p q : Position) (few : count ≤ next) (before : y < next) (behind : z < next) (only : IsOnly (b y) p) (also : IsOnly (b z) q) (sight : Sight)
    (f : FieldId) (entry : FieldEntry) (target : TypeId) (there : field_at types f ≡ Some entry) (kind : entry.kind ≡ field.Data target)
    (had : MeansHere count a (λ n x. has types (at_first sight.slots) n f x) (FieldAt s at f))
    (typed : MeansHere count a (λ n x. lives_in types (at_first sight.slots) n target x) (TypeAt s at target)) where
  abbrev j : ℕ
  j = rank Children types f

  j-is : child_number types f ≡ Some j
  j-is = numbered types f entry target there kind

  steps : WSat (child next (unwrap_or (child_number types f) 0) y z) b ↔ (q ≡ child_of (unwrap_or (child_number types f) 0) p)
  steps =
      let k = unwrap_or (child_number types f) 0 in
      let goes = WSat-go k next y z b before behind in (
        (λ h.
            let (u, from, to) = goes.0 h in
            IsOnly-same (b z) q (child_of k u) also to ∙ ap (λ w. child_of k w) (IsOnly-same (b y) u p from only)),
        (λ e. goes.1 (p, only, IsOnly-along (b z) q (child_of k p) e also)),
      )

  holds-live : (c d : CellId) → field_value s c f ≡ Some (value.Cell (Some d)) → IsOfType s target d
  holds-live c d held =
      subst (λ k. FieldHoldsLive s k (value.Cell (Some d))) kind
      (IfSome-at (field_value s c f) (FieldHoldsLive s entry.kind) (value.Cell (Some d)) held
      (IfSome-at (field_at types f) (λ e. IfSome (field_value s c f) (FieldHoldsLive s e.kind)) entry there (backbone.data_fields c f)))

  followed : IsSomeAnd (field_at types f) (λ e. IsFollowed DataAlone e.kind)
  followed = of-some (λ e. IsFollowed DataAlone e.kind) (field_at types f) entry there (subst (λ k. IsFollowed DataAlone k) (sym kind) tt)

  pub first-child : IsTold f p (λ l x. NamesAt l x q) (WSat (first_child types sight next f target y z) b) (record { store = s; at = at })
  first-child =
      let whole = sat-three next (has types (at_first sight.slots) next f y) (child next (unwrap_or (child_number types f) 0) y z)
      (lives_in types (at_first sight.slots) next target z) b (FieldAt s at f p) (q ≡ child_of (unwrap_or (child_number types f) 0) p) (TypeAt s at target q)
      (had b next y p agrees few before only) steps (typed b next z q agrees few behind also) in
      record {
        here = λ c v here value_is. (
          (λ h.
              let (has_f, position, (d, at_d, of_d)) = whole.0 h in
              let at_child : q ≡ child_of j p = position ∙ ap (λ o. child_of (unwrap_or o 0) p) j-is in
              let held = child-led types vars s backbone f j c d p v j-is value_is ((stand c p).0 here)
              (subst (λ r. IsPlaced types vars s d r) at_child ((stand d q).0 at_d)) in
              let both : Some v ≡ Some (value.Cell (Some d)) = sym value_is ∙ held in
              let same : v ≡ value.Cell (Some d) = cc in
              (d, at_d, same)),
          (λ (h : NamesAt at v q).
              let (d, at_d, is) = h in
              let held : field_value s c f ≡ Some (value.Cell (Some d)) = value_is ∙ ap (λ w. Some w) is in
              let of_d = holds-live c d held in
              let leads : Leads types s DataAlone f c d = record {
                kind = followed;
                value = held;
                live = IsSome-and (cell_of s d) (λ e. e.variant.ty ≡ target) of_d;
              } in
              whole.1 (
                (c, here, is-some (field_value s c f) v value_is),
                led-child types vars s backbone f c d p q leads ((stand c p).0 here) ((stand d q).0 at_d),
                (d, at_d, of_d),
              )),
        );
        lacks = λ c here live lacking h.
            let (has_f, position, cell) = whole.0 h in
            let same = placed-apart types vars s has_f.0 c p ((stand has_f.0 p).0 has_f.1) ((stand c p).0 here) in
            is-none (field_value s c f) lacking (subst (λ d. IsSome (field_value s d f)) same has_f.2);
        none = λ no h. let (has_f, position, cell) = whole.0 h in no has_f.0 has_f.1;
      }
