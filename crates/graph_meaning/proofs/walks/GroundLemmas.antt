-- What the formulas of walks stand on, and the forms of route without parts.
use Rattle.std.proofs.Common.{◌≡◌, ◌↔◌, ℕ, suc, ◌<◌, ◌≤◌, Bool, true, false, IsTrue, IsSomeAnd, List, [], ◌∷◌, map, Option, Some, None, Contains, refl, sym, ap}
use Rattle.std.proofs.Common.{◌∙◌, subst, arith}
use Rattle.std.specs.Prelude.{IsSome}
use Rattle.std.specs.Str.{bytes_eq}
use Rattle.std.proofs.lemmas.Bool.{false≢true, and_parts, and_from}
use Rattle.std.proofs.lemmas.Slice.Eq.{bytes_eq-Decides}
use Rattle.gta_theory.specs.Assignments.{Position, Assignment, IsOnly}
use Rattle.ws2s_core.specs.declared.formula.Formula.TheVariants.{And, Not}
use Rattle.ws2s_core.specs.Satisfaction.{WSat}
use Rattle.ws2s_forms.specs.Forms.{and_list, or_list, equal, ex1}
use Rattle.ws2s_forms.specs.Places.{with_position}
use Rattle.ws2s_forms.proofs.PositionsLemmas.{IsOnly-inside}
use Rattle.ws2s_forms.proofs.LawsLemmas.{law-equal, same_truth}
use Rattle.store_core.specs.declared.ids.CellId.{CellId}
use Rattle.store_core.specs.declared.ids.TypeId.{TypeId}
use Rattle.store_core.specs.declared.ids.FieldId.{FieldId}
use Rattle.store_core.specs.declared.ids.VariantId.{VariantId}
use Rattle.store_core.specs.declared.kind.FieldKind.{FieldKind}
use Rattle.store_core.specs.declared.kind.FieldKind.TheVariants as field
use Rattle.store_core.specs.declared.value.Value.{Value}
use Rattle.store_core.specs.declared.value.Value.TheVariants as value
use Rattle.store_core.specs.Tables.{TypeEntry, FieldEntry, KnowsVariant, field_at}
use Rattle.store_core.specs.Stores.{StoreMap, IsLive, FieldFits, field_value}
use Rattle.store_core.proofs.FittingLemmas.{IsSomeAnd-at}
use Rattle.routing_walks.specs.Walks.{Fields, DataAlone, DataAndPointers, IsFollowed, Leads, LeadsByName, IsParent, IsOfType, IsOfVariant, HasTruth, IsRoot}
use Rattle.routing_walks.specs.Walks.{IsLeaf, Stays}
use Rattle.routing_walks.proofs.LiveLemmas.{IsLive-field_value, Leads-live, IsParent-live}
use Rattle.tree_store.proofs.SpotsLemmas.{of-some}
use Rattle.graph_view.specs.Sights.{Sight}
use Rattle.graph_view.specs.Live.{lives, lives_in, has, is_live}
use Rattle.graph_view.specs.Fields.{is_true, is_bool, is_data, is_reference, has_kind, is_named, fields_named, fields_of_kind}
use Rattle.graph_view.specs.Routes.{Naming, names_by_data, edge, down, stays_at_root, stays_at_leaf, has_truth, stays_at_truth}
use Rattle.graph_view.specs.After.{Standing, IsAt}
use Rattle.graph_meaning.specs.Live.Meaning.{Agrees, MeansHere, MeansPairs}
use Rattle.graph_meaning.specs.Live.Standing.{LiveAt, VariantAt, TypeAt, FieldAt}
use Rattle.graph_meaning.proofs.live.AgreeingLemmas.{Agrees-bound, IsOnly-bound, IsOnly-still, sat-and, sat-not, sat-ex1, sat-three, sat-or_list}
use Rattle.graph_meaning.proofs.live.ReadLemmas.{is-some}
use Rattle.graph_meaning.specs.Walks.Walking.{JoinsAt}
use Rattle.graph_meaning.proofs.walks.ListedLemmas.{field-listed, listed-field}

-- a formula for what fields name means it, of live cells
abbrev pub MeansNames : List TypeEntry → StoreMap → Standing → ℕ → Assignment → Fields → Naming → Type 0
MeansNames types t at count a fields naming = (f : FieldId) (entry : FieldEntry) (b : Assignment) (next y z : ℕ) (p q : Position) (c d : CellId) →
    field_at types f ≡ Some entry → IsFollowed fields entry.kind → Agrees count a b → count ≤ next → y < next → z < next →
    IsOnly (b y) p → IsOnly (b z) q → IsAt at c p → IsLive t c → IsAt at d q →
    WSat (naming next f y z) b ↔ (field_value t c f ≡ Some (value.Cell (Some d)))

-- where cells stand, and what the formulas of cells and bool fields mean
pub record IsGround (types : List TypeEntry) (sight : Sight) (count : ℕ) (a : Assignment) (s t : StoreMap) (at : Standing) : Type 0 where
  pub there : (c : CellId) → IsLive t c → (p : Position) × IsAt at c p
  pub one : (c : CellId) (p q : Position) → IsAt at c p → IsAt at c q → p ≡ q
  pub apart : (c d : CellId) (p : Position) → IsAt at c p → IsAt at d p → c ≡ d
  pub live : MeansHere count a (λ next y. is_live types sight next y) (LiveAt t at)
  pub typed : (ty : TypeId) → MeansHere count a (λ next y. lives_in types sight next ty y) (TypeAt t at ty)
  pub variant : (v : VariantId) → KnowsVariant types v → MeansHere count a (λ next y. lives types sight next v y) (VariantAt t at v)
  pub had : (f : FieldId) (entry : FieldEntry) → field_at types f ≡ Some entry → MeansHere count a (λ next y. has types sight next f y) (FieldAt t at f)
  pub truth : (f : FieldId) (entry : FieldEntry) (b : Assignment) (next y : ℕ) (p : Position) (c : CellId) → field_at types f ≡ Some entry →
      entry.kind ≡ field.Bool → Agrees count a b → count ≤ next → y < next → IsOnly (b y) p → IsAt at c p → IsLive t c →
      WSat (is_true types sight next f y) b ↔ (field_value t c f ≡ Some (value.Bool true))
  pub fits : (c : CellId) (f : FieldId) (x : Value) (entry : FieldEntry) → field_value t c f ≡ Some x → field_at types f ≡ Some entry →
      FieldFits s entry.kind x

-- the test of kinds is of those that are followed
pub record IsTestOf (fields : Fields) (followed : FieldKind → Bool) : Type 0 where
  pub from : (kind : FieldKind) → followed kind ≡ true → IsFollowed fields kind
  pub to : (kind : FieldKind) → IsFollowed fields kind → followed kind ≡ true

pub data-test : IsTestOf DataAlone is_data
data-test = record { from = from; to = to }
  where
    from : (kind : FieldKind) → is_data kind ≡ true → IsFollowed DataAlone kind
    from field.Bool e = absurd (false≢true e)
    from (field.Data target) e = tt
    from (field.Pointer target along) e = absurd (false≢true e)

    to : (kind : FieldKind) → IsFollowed DataAlone kind → is_data kind ≡ true
    to field.Bool e = absurd e
    to (field.Data target) e = refl
    to (field.Pointer target along) e = absurd e

pub reference-test : IsTestOf DataAndPointers is_reference
reference-test = record { from = from; to = to }
  where
    from : (kind : FieldKind) → is_reference kind ≡ true → IsFollowed DataAndPointers kind
    from field.Bool e = absurd (false≢true e)
    from (field.Data target) e = tt
    from (field.Pointer target along) e = tt

    to : (kind : FieldKind) → IsFollowed DataAndPointers kind → is_reference kind ≡ true
    to field.Bool e = absurd e
    to (field.Data target) e = refl
    to (field.Pointer target along) e = refl

bytes-same : (xs ys : List ℕ) → bytes_eq xs ys ≡ true → xs ≡ ys
bytes-same xs ys e = (bytes_eq-Decides xs ys).0 e

same-bytes : (xs ys : List ℕ) → xs ≡ ys → bytes_eq xs ys ≡ true
same-bytes xs ys e = (bytes_eq-Decides xs ys).1 e

valued : (o : Option Value) → IsSome o → (x : Value) × (o ≡ Some x)
valued None h = absurd (false≢true h)
valued (Some x) h = (x, refl)

-- ---- one position on two tracks

pub equal-means : (b : Assignment) (y z : ℕ) (p q : Position) → IsOnly (b y) p → IsOnly (b z) q → WSat (equal y z) b ↔ (p ≡ q)
equal-means b y z p q only also =
    let same = law-equal y z b in (
      (λ h. (also p).0 (subst (λ t. IsTrue t) (same.0 h p) (IsOnly-inside (b y) p only))),
      (λ e. same.1 (λ r. same_truth (b y r) (b z r) (
        (λ on. (also r).1 ((only r).0 on ∙ e)),
        (λ on. (only r).1 ((also r).0 on ∙ sym e)),
      ))),
    )

module _ (types : List TypeEntry) (sight : Sight) (count : ℕ) (a : Assignment) (s t : StoreMap) (at : Standing)
    (ground : IsGround types sight count a s t at) where
  -- a cell to itself that passes
  stays-means : (Passes : CellId → Type 0) (p q : Position) → (((c : CellId) × IsAt at c p × Passes c) × (p ≡ q)) ↔ JoinsAt at (Stays Passes) p q
  stays-means Passes p q = (
    (λ (h : ((c : CellId) × IsAt at c p × Passes c) × (p ≡ q)).
        let (c, here, passes) = h.0 in
        (c, c, here, subst (λ r. IsAt at c r) h.1 here, (refl, passes))),
    (λ (h : JoinsAt at (Stays Passes) p q).
        let (c, d, here, also, stays) = h in
        ((c, here, stays.1), ground.one c p q here (subst (λ e. IsAt at e q) (sym stays.0) also))),
  )

  pub type-means : (ty : TypeId) → MeansPairs count a (λ next y z. And (lives_in types sight next ty y) (equal y z)) (JoinsAt at (Stays (IsOfType t ty)))
  type-means ty b next y z p q agrees few before behind only also =
      let both = sat-and (lives_in types sight next ty y) (equal y z) b (TypeAt t at ty p) (p ≡ q)
      (ground.typed ty b next y p agrees few before only) (equal-means b y z p q only also) in
      let stays = stays-means (IsOfType t ty) p q in
      ((λ h. stays.0 (both.0 h)), (λ h. both.1 (stays.1 h)))

  pub variant-means : (v : VariantId) → KnowsVariant types v →
      MeansPairs count a (λ next y z. And (lives types sight next v y) (equal y z)) (JoinsAt at (Stays (IsOfVariant t v)))
  variant-means v known b next y z p q agrees few before behind only also =
      let both = sat-and (lives types sight next v y) (equal y z) b (VariantAt t at v p) (p ≡ q)
      (ground.variant v known b next y p agrees few before only) (equal-means b y z p q only also) in
      let stays = stays-means (IsOfVariant t v) p q in
      ((λ h. stays.0 (both.0 h)), (λ h. both.1 (stays.1 h)))

  -- ---- fields that lead from cell to cell

  -- some field of the list leads from the one to the other
  abbrev LedBy : Fields → List FieldId → CellId → CellId → Type 0
  LedBy fields fs c d = (f : FieldId) × Contains fs f × Leads types t fields f c d

  joined-means : (fields : Fields) (naming : Naming) → MeansNames types t at count a fields naming → (fs : List FieldId) →
      ((f : FieldId) → Contains fs f → IsSomeAnd (field_at types f) (λ e. IsFollowed fields e.kind)) →
      MeansPairs count a (λ next y z. and_list next (is_live types sight next y ∷ is_live types sight next z
      ∷ or_list next (map (λ f. naming next f y z) fs) ∷ [])) (JoinsAt at (LedBy fields fs))
  joined-means fields naming means fs each b next y z p q agrees few before behind only also =
      let some = or_list next (map (λ f. naming next f y z) fs) in
      let whole = sat-three next (is_live types sight next y) (is_live types sight next z) some b (LiveAt t at p) (LiveAt t at q) (WSat some b)
      (ground.live b next y p agrees few before only) (ground.live b next z q agrees few behind also) ((λ h. h), (λ h. h)) in
      let one-of : (c d : CellId) → IsAt at c p → IsLive t c → IsAt at d q →
      WSat some b ↔ ((f : FieldId) × Contains fs f × (field_value t c f ≡ Some (value.Cell (Some d)))) = λ c d here lives there.
      sat-or_list next (λ f. naming next f y z) fs b (λ f. field_value t c f ≡ Some (value.Cell (Some d))) agrees.finite (λ f listed.
      let (entry, found, follows) = IsSomeAnd-at (field_at types f) (λ e. IsFollowed fields e.kind) (each f listed) in
      means f entry b next y z p q c d found follows agrees few before behind only also here lives there) in (
        (λ h.
            let parts = whole.0 h in
            let (c, here, lives) = parts.0 in
            let (d, there, living) = parts.1 in
            let (f, listed, value_is) = (one-of c d here lives there).0 parts.2 in
            (c, d, here, there, (f, listed, record { kind = each f listed; value = value_is; live = living }))),
        (λ (h : JoinsAt at (LedBy fields fs) p q).
            let (c, d, here, there, led) = h in
            let (f, listed, leads) = led in
            let ends = Leads-live types t fields f c d leads in
            whole.1 ((c, here, ends.0), (d, there, ends.1), (one-of c d here ends.0 there).1 (f, listed, leads.value))),
      )

  joins-alike : (One Other : CellId → CellId → Type 0) → ((c d : CellId) → One c d → Other c d) → (p q : Position) → JoinsAt at One p q → JoinsAt at Other p q
  joins-alike One Other from p q h = (h.0, h.1, h.2, h.3, from h.0 h.1 h.4)

  pub down-means : (fields : Fields) (followed : FieldKind → Bool) (naming : Naming) → IsTestOf fields followed → MeansNames types t at count a fields naming →
      (name : List ℕ) → MeansPairs count a (down types sight naming followed name) (JoinsAt at (LeadsByName types t fields name))
  down-means fields followed naming test means name b next y z p q agrees few before behind only also =
      let fs = fields_named types name followed in
      let listed : (f : FieldId) → Contains fs f → (entry : FieldEntry) × (field_at types f ≡ Some entry) × (is_named name followed entry ≡ true) = λ f h.
      listed-field types (is_named name followed) f h in
      let joined = joined-means fields naming means fs (λ f h.
      let (entry, there, so) = listed f h in
      of-some (λ e. IsFollowed fields e.kind) (field_at types f) entry there
      (test.from entry.kind (and_parts (bytes_eq name entry.name) (followed entry.kind) so).1)) b next y z p q agrees few before behind only also in (
        (λ h. joins-alike (LedBy fields fs) (LeadsByName types t fields name) (λ c d (led : LedBy fields fs c d).
            let (f, inside, leads) = led in
            let (entry, there, so) = listed f inside in
            record {
              field = f;
              named = of-some (λ e. e.name ≡ name) (field_at types f) entry there
                  (sym (bytes-same name entry.name (and_parts (bytes_eq name entry.name) (followed entry.kind) so).0));
              leads = leads;
            }) p q (joined.0 h)),
        (λ h. joined.1 (joins-alike (LeadsByName types t fields name) (LedBy fields fs) (λ c d by_name.
            let (entry, there, is) = IsSomeAnd-at (field_at types by_name.field) (λ e. e.name ≡ name) by_name.named in
            let (own, found, follows) = IsSomeAnd-at (field_at types by_name.field) (λ e. IsFollowed fields e.kind) by_name.leads.kind in
            let both : Some own ≡ Some entry = sym found ∙ there in
            let same : own ≡ entry = cc in (
              by_name.field,
              field-listed types (is_named name followed) by_name.field entry there
                  (and_from (bytes_eq name entry.name) (followed entry.kind) (same-bytes name entry.name (sym is))
                  (test.to entry.kind (subst (λ (e : FieldEntry). IsFollowed fields e.kind) same follows))),
              by_name.leads,
            )) p q h)),
      )

  -- ---- data fields

  module _ (means : MeansNames types t at count a DataAlone (names_by_data types sight)) where
    pub edge-means : MeansPairs count a (edge types sight) (JoinsAt at (IsParent types t))
    edge-means b next y z p q agrees few before behind only also =
        let fs = fields_of_kind types is_data in
        let listed : (f : FieldId) → Contains fs f → (entry : FieldEntry) × (field_at types f ≡ Some entry) × (has_kind is_data entry ≡ true) = λ f h.
        listed-field types (has_kind is_data) f h in
        let joined = joined-means DataAlone (names_by_data types sight) means fs (λ f h.
        let (entry, there, so) = listed f h in
        of-some (λ e. IsFollowed DataAlone e.kind) (field_at types f) entry there (data-test.from entry.kind so)) b next y z p q agrees few before behind
        only also in (
          (λ h. joins-alike (LedBy DataAlone fs) (IsParent types t) (λ c d led. record { field = led.0; leads = led.2 }) p q (joined.0 h)),
          (λ h. joined.1 (joins-alike (IsParent types t) (LedBy DataAlone fs) (λ c d parent.
              let (entry, there, follows) = IsSomeAnd-at (field_at types parent.field) (λ e. IsFollowed DataAlone e.kind) parent.leads.kind in
              (parent.field, field-listed types (has_kind is_data) parent.field entry there (data-test.to entry.kind follows), parent.leads)) p q h)),
        )

    pub root-means : MeansPairs count a (stays_at_root types sight) (JoinsAt at (Stays (IsRoot types t)))
    root-means b next y z p q agrees few before behind only also =
        let above = sat-not (ex1 next (edge types sight (suc next) next y)) b ((u : Position) × JoinsAt at (IsParent types t) u p)
        (sat-ex1 next (edge types sight (suc next) next y) b (λ u. JoinsAt at (IsParent types t) u p) (λ u.
        edge-means (with_position b next u) (suc next) next y u p (Agrees-bound count a b next u agrees few) (omega (arith, few)) (omega arith)
        (omega (arith, before)) (IsOnly-bound b next u) (IsOnly-still b next y u p before only))) in
        let whole = sat-three next (is_live types sight next y) (equal y z) (Not (ex1 next (edge types sight (suc next) next y))) b (LiveAt t at p) (p ≡ q)
        (((u : Position) × JoinsAt at (IsParent types t) u p) → ⊥) (ground.live b next y p agrees few before only) (equal-means b y z p q only also) above in
        let stays = stays-means (IsRoot types t) p q in (
          (λ h.
              let parts = whole.0 h in
              let (c, here, lives) = parts.0 in
              stays.0 (
                (
                  c,
                  here,
                  record {
                    live = lives;
                    alone = λ parent is.
                        let (u, at_u) = ground.there parent (IsParent-live types t parent c is).0 in parts.2 (u, (parent, c, at_u, here, is));
                  },
                ),
                parts.1,
              )),
          (λ h.
              let (root, same) = stays.1 h in
              let (c, here, is_root) = root in
              whole.1 (
                (c, here, is_root.live),
                same,
                (λ k.
                    let (parent, d, at_u, at_d, is) = k.1 in
                    is_root.alone parent (subst (λ e. IsParent types t parent e) (ground.apart d c p at_d here) is)),
              )),
        )

    pub leaf-means : MeansPairs count a (stays_at_leaf types sight) (JoinsAt at (Stays (IsLeaf types t)))
    leaf-means b next y z p q agrees few before behind only also =
        let below = sat-not (ex1 next (edge types sight (suc next) y next)) b ((u : Position) × JoinsAt at (IsParent types t) p u)
        (sat-ex1 next (edge types sight (suc next) y next) b (λ u. JoinsAt at (IsParent types t) p u) (λ u.
        edge-means (with_position b next u) (suc next) y next p u (Agrees-bound count a b next u agrees few) (omega (arith, few)) (omega (arith, before))
        (omega arith) (IsOnly-still b next y u p before only) (IsOnly-bound b next u))) in
        let whole = sat-three next (is_live types sight next y) (equal y z) (Not (ex1 next (edge types sight (suc next) y next))) b (LiveAt t at p) (p ≡ q)
        (((u : Position) × JoinsAt at (IsParent types t) p u) → ⊥) (ground.live b next y p agrees few before only) (equal-means b y z p q only also) below in
        let stays = stays-means (IsLeaf types t) p q in (
          (λ h.
              let parts = whole.0 h in
              let (c, here, lives) = parts.0 in
              stays.0 (
                (
                  c,
                  here,
                  record {
                    live = lives;
                    alone = λ child is.
                        let (u, at_u) = ground.there child (IsParent-live types t c child is).1 in parts.2 (u, (c, child, here, at_u, is));
                  },
                ),
                parts.1,
              )),
          (λ h.
              let (leaf, same) = stays.1 h in
              let (c, here, is_leaf) = leaf in
              whole.1 (
                (c, here, is_leaf.live),
                same,
                (λ k.
                    let (d, child, at_d, at_u, is) = k.1 in
                    is_leaf.alone child (subst (λ e. IsParent types t e child) (ground.apart d c p at_d here) is)),
              )),
        )

  -- ---- bool fields

  has_truth-means : (f : FieldId) (entry : FieldEntry) (truth : Bool) → field_at types f ≡ Some entry → entry.kind ≡ field.Bool →
      (b : Assignment) (next y : ℕ) (p : Position) → Agrees count a b → count ≤ next → y < next → IsOnly (b y) p →
      WSat (has_truth types sight truth next y f) b ↔ ((c : CellId) × IsAt at c p × (field_value t c f ≡ Some (value.Bool truth)))
  has_truth-means f entry true there kind b next y p agrees few less only =
      let both = sat-and (has types sight next f y) (is_true types sight next f y) b (FieldAt t at f p) (WSat (is_true types sight next f y) b)
      (ground.had f entry there b next y p agrees few less only) ((λ h. h), (λ h. h)) in (
        (λ h.
            let parts = both.0 h in
            let (c, here, some) = parts.0 in
            let (x, value_is) = valued (field_value t c f) some in
            (c, here, (ground.truth f entry b next y p c there kind agrees few less only here (IsLive-field_value t c f x value_is)).0 parts.1)),
        (λ h.
            let (c, here, value_is) = h in
            both.1 (
              (c, here, is-some (field_value t c f) (value.Bool true) value_is),
              (ground.truth f entry b next y p c there kind agrees few less only here (IsLive-field_value t c f (value.Bool true) value_is)).1 value_is,
            )),
      )
  has_truth-means f entry false there kind b next y p agrees few less only =
      let both = sat-and (has types sight next f y) (Not (is_true types sight next f y)) b (FieldAt t at f p) (WSat (is_true types sight next f y) b → ⊥)
      (ground.had f entry there b next y p agrees few less only)
      (sat-not (is_true types sight next f y) b (WSat (is_true types sight next f y) b) ((λ h. h), (λ h. h))) in (
        (λ h.
            let parts = both.0 h in
            let (c, here, some) = parts.0 in
            let (x, value_is) = valued (field_value t c f) some in
            let means = ground.truth f entry b next y p c there kind agrees few less only here (IsLive-field_value t c f x value_is) in (
              c,
              here,
              value_is ∙ ap (λ w. Some w) (not-true x (subst (λ k. FieldFits s k x) kind (ground.fits c f x entry value_is there))
                  (λ e. parts.1 (means.1 (value_is ∙ ap (λ w. Some w) e)))),
            )),
        (λ h.
            let (c, here, value_is) = h in
            let means = ground.truth f entry b next y p c there kind agrees few less only here (IsLive-field_value t c f (value.Bool false) value_is) in
            both.1 (
              (c, here, is-some (field_value t c f) (value.Bool false) value_is),
              (λ holds.
                  let both_values : Some (value.Bool false) ≡ Some (value.Bool true) = sym value_is ∙ means.0 holds in
                  let no : ⊥ = cc in no),
            )),
      )
    where
      not-true : (x : Value) → FieldFits s field.Bool x → (x ≡ value.Bool true → ⊥) → x ≡ value.Bool false
      not-true (value.Bool true) fits not = absurd (not refl)
      not-true (value.Bool false) fits not = refl
      not-true (value.Cell c) fits not = absurd fits
      not-true (value.Cells cells) fits not = absurd fits

  pub truth-means : (name : List ℕ) (truth : Bool) → MeansPairs count a (stays_at_truth types sight name truth)
      (JoinsAt at (Stays (HasTruth types t name truth)))
  truth-means name truth b next y z p q agrees few before behind only also =
      let fs = fields_named types name is_bool in
      let some = or_list next (map (has_truth types sight truth next y) fs) in
      let one-of = sat-or_list next (has_truth types sight truth next y) fs b
      (λ f. (c : CellId) × IsAt at c p × (field_value t c f ≡ Some (value.Bool truth))) agrees.finite (λ f listed.
      let (entry, there, so) = listed-field types (is_named name is_bool) f listed in
      has_truth-means f entry truth there (bool-kind entry.kind (and_parts (bytes_eq name entry.name) (is_bool entry.kind) so).1) b next y p agrees few
      before only) in
      let both = sat-and (equal y z) some b (p ≡ q) (WSat some b) (equal-means b y z p q only also) ((λ h. h), (λ h. h)) in
      let stays = stays-means (HasTruth types t name truth) p q in (
        (λ h.
            let parts = both.0 h in
            let (f, listed, found) = one-of.0 parts.1 in
            let (c, here, value_is) = found in
            let (entry, there, so) = listed-field types (is_named name is_bool) f listed in
            stays.0 (
              (
                c,
                here,
                record {
                  field = f;
                  named = of-some (λ e. e.name ≡ name) (field_at types f) entry there
                      (sym (bytes-same name entry.name (and_parts (bytes_eq name entry.name) (is_bool entry.kind) so).0));
                  value = value_is;
                },
              ),
              parts.0,
            )),
        (λ h.
            let (found, same) = stays.1 h in
            let (c, here, has_it) = found in
            let (entry, there, is) = IsSomeAnd-at (field_at types has_it.field) (λ e. e.name ≡ name) has_it.named in
            both.1 (
              same,
              one-of.1 (
                has_it.field,
                field-listed types (is_named name is_bool) has_it.field entry there
                    (and_from (bytes_eq name entry.name) (is_bool entry.kind) (same-bytes name entry.name (sym is))
                    (kind-bool entry.kind truth (ground.fits c has_it.field (value.Bool truth) entry has_it.value there))),
                (c, here, has_it.value),
              ),
            )),
      )
    where
      bool-kind : (kind : FieldKind) → is_bool kind ≡ true → kind ≡ field.Bool
      bool-kind field.Bool e = refl
      bool-kind (field.Data target) e = absurd (false≢true e)
      bool-kind (field.Pointer target along) e = absurd (false≢true e)

      kind-bool : (kind : FieldKind) (truth : Bool) → FieldFits s kind (value.Bool truth) → is_bool kind ≡ true
      kind-bool field.Bool truth fits = refl
      kind-bool (field.Data target) truth fits = absurd fits
      kind-bool (field.Pointer target along) truth fits = absurd fits
