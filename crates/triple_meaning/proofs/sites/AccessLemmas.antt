-- Reading and writing through a cell: where a cause comes.
use Rattle.std.proofs.Common.{◌≡◌, ◌↔◌, ℕ, suc, cond, IsSome, IfSome, List, [], ◌∷◌, ◌++◌, Option, Some, None, is_some, Ok, Err, refl, sym, ap, ◌∙◌, subst}
use Rattle.std.proofs.Common.{arith, append_assoc, append-nil}
use Rattle.std.specs.Option.{option_map_or, ok_or}
use Rattle.std.proofs.lemmas.Bool.{false≢true}
use Rattle.gta_theory.specs.Assignments.{Position, Assignment}
use Rattle.ws2s_core.specs.declared.formula.Formula.TheVariants.{Not}
use Rattle.ws2s_core.specs.Satisfaction.{WSat}
use Rattle.ws2s_forms.specs.Forms.{and_list}
use Rattle.ws2s_forms.specs.Places.{with_position}
use Rattle.ws2s_forms.proofs.ConnectivesLemmas.{WSat-true}
use Rattle.ws2s_forms.proofs.PositionsLemmas.{IsOnly-inside}
use Rattle.ws2s_forms.proofs.LawsLemmas.{law-empty}
use Rattle.store_core.specs.declared.ids.CellId.{CellId}
use Rattle.store_core.specs.declared.ids.FieldId.{FieldId}
use Rattle.store_core.specs.declared.ids.VariantId.{VariantId}
use Rattle.store_core.specs.declared.value.Value.{Value}
use Rattle.store_core.specs.declared.value.Value.TheVariants as value
use Rattle.store_core.specs.Tables.{TypeEntry, FieldEntry, VarEntry, field_at}
use Rattle.store_core.specs.Stores.{StoreMap, CellEntry, IsLive, NamesType, cell_of, field_value}
use Rattle.store_core.proofs.FittingLemmas.{IfSome-at}
use Rattle.routing_walks.specs.Walks.{IsOfVariant}
use Rattle.store_exec.specs.declared.cause.Cause.TheVariants as cause
use Rattle.store_exec.specs.Steps.{and_then, field_read, read}
use Rattle.tree_store.proofs.SpotsLemmas.{of-some}
use Rattle.tree_formula.specs.WellEncoded.{owner, variant_in}
use Rattle.tree_store.proofs.TablesLemmas.{owner-is, common-had}
use Rattle.graph_view.specs.declared.view.Sym.{Sym}
use Rattle.graph_view.specs.declared.view.Sym.TheVariants.{Null, At}
use Rattle.graph_view.specs.Syms.{is_in, is_null}
use Rattle.graph_view.specs.Live.{has, is_live, is_dead}
use Rattle.graph_view.specs.After.{Standing, IsAt, StandsForCell, IsSymBelow}
use Rattle.graph_meaning.specs.Live.Meaning.{Agrees}
use Rattle.graph_meaning.specs.Live.Standing.{Sits, LiveAt, FieldAt}
use Rattle.graph_meaning.proofs.live.AgreeingLemmas.{Agrees-bound, IsOnly-bound, sat-not, sat-ex1, sat-three}
use Rattle.graph_meaning.proofs.live.SymsLemmas.{is_in-cell}
use Rattle.graph_meaning.proofs.live.TellLemmas.{stands-somewhere}
use Rattle.graph_meaning.proofs.live.ReadLemmas.{is-some, is-none, AreFitting, read-fitting, had-field}
use Rattle.site_list.specs.States.{Text, Check, State, check, sight}
use Rattle.site_list.specs.Reading.{lacks, check_cell, check_access}
use Rattle.triple_meaning.specs.Sites.Places.{Comes, NoneComes, ComesFirst, StopsAs}
use Rattle.triple_meaning.specs.Sites.Seeing.{Sees, with_more}
use Rattle.triple_meaning.proofs.sites.PlacesLemmas.{none-none, none-cons, none-append}
use Rattle.triple_meaning.proofs.sites.LookingLemmas.{sees-sits, here-itself, sees-dead, sees-live, sees-has}

-- ---- the places

abbrev pub null_check : ℕ → Text → Sym → Check
null_check line reached u = record { cause = cause.Null; line = line; reached = reached; condition = λ next. is_null next u }

abbrev pub dead_check : List TypeEntry → List VarEntry → ℕ → Text → Sym → State → Check
dead_check types vars line reached u s =
    record { cause = cause.Dangling; line = line; reached = reached; condition = λ next. is_dead types (sight vars s) next u }

abbrev pub lacks_check : List TypeEntry → List VarEntry → ℕ → Text → FieldId → Sym → State → Check
lacks_check types vars line reached f u s =
    record { cause = cause.Variant; line = line; reached = reached; condition = lacks types (sight vars s) f u }

abbrev pub cell_checks : List TypeEntry → List VarEntry → ℕ → Text → Sym → State → List Check
cell_checks types vars line reached u s = null_check line reached u ∷ dead_check types vars line reached u s ∷ []

abbrev pub own_checks : List TypeEntry → List VarEntry → ℕ → Text → FieldId → Sym → State → Option VariantId → List Check
own_checks types vars line reached f u s o = option_map_or (λ (v : VariantId). lacks_check types vars line reached f u s ∷ []) o []

abbrev pub access_checks : List TypeEntry → List VarEntry → ℕ → Text → FieldId → Sym → State → List Check
access_checks types vars line reached f u s =
    cell_checks types vars line reached u s ++ own_checks types vars line reached f u s (owner types f)

module _ (types : List TypeEntry) (vars : List VarEntry) (line : ℕ) (reached : Text) where
  pub cell-is : (u : Sym) (s : State) → check_cell types vars line reached u s ≡ with_more [] (cell_checks types vars line reached u s) s
  cell-is u s = λ i. record s {
    defined = sym (append-nil s.defined) i;
    checks = append_assoc s.checks (null_check line reached u ∷ []) (dead_check types vars line reached u s ∷ []) i;
  }

  pub access-is : (f : FieldId) (u : Sym) (s : State) →
      check_access types vars line reached f u s ≡ with_more [] (access_checks types vars line reached f u s) s
  access-is f u s = by (owner types f)
    where
      by : (o : Option VariantId) →
          option_map_or (λ (v : VariantId). check line reached cause.Variant (lacks types (sight vars s) f u) (check_cell types vars line reached u s)) o
          (check_cell types vars line reached u s)
          ≡ with_more [] (cell_checks types vars line reached u s ++ own_checks types vars line reached f u s o) s
      by None = cell-is u s
      by (Some v) =
          ap (λ z. check line reached cause.Variant (lacks types (sight vars s) f u) z) (cell-is u s)
          ∙ (λ i. record s {
            defined = s.defined ++ [];
            checks = append_assoc s.checks (cell_checks types vars line reached u s) (lacks_check types vars line reached f u s ∷ []) i;
          })

  -- where the place isn't reached
  pub cell-idle : (u : Sym) (s : State) (next : ℕ) (a : Assignment) → (WSat (reached next) a → ⊥) →
      NoneComes next a (cell_checks types vars line reached u s)
  cell-idle u s next a out =
      none-cons next a (null_check line reached u) (dead_check types vars line reached u s ∷ []) (λ h. out h.0)
      (none-cons next a (dead_check types vars line reached u s) [] (λ h. out h.0) (none-none next a))

  pub access-idle : (f : FieldId) (u : Sym) (s : State) (next : ℕ) (a : Assignment) → (WSat (reached next) a → ⊥) →
      NoneComes next a (access_checks types vars line reached f u s)
  access-idle f u s next a out =
      none-append next a (cell_checks types vars line reached u s) (own_checks types vars line reached f u s (owner types f))
      (cell-idle u s next a out) (own (owner types f))
    where
      own : (o : Option VariantId) → NoneComes next a (own_checks types vars line reached f u s o)
      own None = none-none next a
      own (Some v) = none-cons next a (lacks_check types vars line reached f u s) [] (λ h. out h.0) (none-none next a)

-- ---- null

pub null-told : (next : ℕ) (a : Assignment) (at : Standing) (u : Sym) → StandsForCell a at u None → IsSymBelow next u → WSat (is_null next u) a
null-told next a at Null stands below = WSat-true next a
null-told next a at (At x) stands below = (law-empty next x.0 a below).1 stands

pub cell-not_null : (next : ℕ) (a : Assignment) (at : Standing) (u : Sym) (c : CellId) → StandsForCell a at u (Some c) → IsSymBelow next u →
    WSat (is_null next u) a → ⊥
cell-not_null next a at Null c stands below h = stands
cell-not_null next a at (At x) c stands below h =
    let (p, only, here) = stands in
    false≢true (sym ((law-empty next x.0 a below).0 h p) ∙ IsOnly-inside (a x.0) p only)

-- ---- what is reached

module _ (types : List TypeEntry) (vars : List VarEntry) (next : ℕ) (a : Assignment) (first : StoreMap) (s : State) (t : StoreMap) (at : Standing)
    (sees : Sees types vars next a first s t at) (line : ℕ) (reached : Text) (here : WSat (reached next) a) (u : Sym) (under : IsSymBelow next u) where
  abbrev sits : Sits t at
  sits = sees-sits types vars next a first s t at sees

  -- null
  pub stops-null : (rest : List Check) → StandsForCell a at u None → ComesFirst next a (cell_checks types vars line reached u s ++ rest) cause.Null line
  stops-null rest stands = record {
    before = [];
    check = null_check line reached u;
    after = dead_check types vars line reached u s ∷ rest;
    order = refl;
    none = none-none next a;
    comes = (here, null-told next a at u stands under);
    is = refl;
    at_line = refl;
  }

  not-null : (c : CellId) → StandsForCell a at u (Some c) → Comes next a (null_check line reached u) → ⊥
  not-null c stands h = cell-not_null next a at u c stands under h.1

  -- a dead cell
  pub stops-dead : (rest : List Check) (c : CellId) → StandsForCell a at u (Some c) → (IsLive t c → ⊥) →
      ComesFirst next a (cell_checks types vars line reached u s ++ rest) cause.Dangling line
  stops-dead rest c stands dead = record {
    before = null_check line reached u ∷ [];
    check = dead_check types vars line reached u s;
    after = rest;
    order = refl;
    none = none-cons next a (null_check line reached u) [] (not-null c stands) (none-none next a);
    comes = (
      here,
      (let (p, at_p) = stands-somewhere a at u c stands in
          (sees-dead types vars next a first s t at sees u (Some c) under stands).1 (p, (at_p, dead))),
    );
    is = refl;
    at_line = refl;
  }

  -- a live cell
  pub passes-live : (c : CellId) → StandsForCell a at u (Some c) → IsLive t c → NoneComes next a (cell_checks types vars line reached u s)
  passes-live c stands live =
      none-cons next a (null_check line reached u) (dead_check types vars line reached u s ∷ []) (not-null c stands)
      (none-cons next a (dead_check types vars line reached u s) [] (λ h.
      let (p, (at_p, dead)) = (sees-dead types vars next a first s t at sees u (Some c) under stands).0 h.1 in dead live) (none-none next a))

  -- a live cell without the field
  pub lacks-told : (f : FieldId) (entry : FieldEntry) (c : CellId) → field_at types f ≡ Some entry → StandsForCell a at u (Some c) →
      WSat (lacks types (sight vars s) f u next) a ↔ (IsLive t c × (IsSome (field_value t c f) → ⊥))
  lacks-told f entry c there stands = (
    (λ h.
        let (p, (at_p, (d, at_d, live), none)) = some.0 h in
        (subst (λ e. IsLive t e) (sits.apart d c p at_d at_p) live, (λ has_f. none (c, at_p, has_f)))),
    (λ (h : IsLive t c × (IsSome (field_value t c f) → ⊥)).
        let (p, at_p) = sits.there c h.0 in
        some.1 (
          p,
          (
            at_p,
            (c, at_p, h.0),
            (λ (k : FieldAt t at f p).
                h.1 (subst (λ d. IsSome (field_value t d f)) (sits.apart k.0 c p k.1 at_p) k.2)),
          ),
        )),
  )
    where
      agrees : (p : Position) → Agrees next a (with_position a next p)
      agrees p = Agrees-bound next a a next p (here-itself types vars next a first s t at sees) (omega arith)

      some : WSat (lacks types (sight vars s) f u next) a ↔ ((p : Position) × (IsAt at c p × LiveAt t at p × (FieldAt t at f p → ⊥)))
      some =
          sat-ex1 next (and_list (suc next) (is_in (suc next) next u ∷ is_live types (sight vars s) (suc next) next
          ∷ Not (has types (sight vars s) (suc next) f next) ∷ [])) a (λ p. IsAt at c p × LiveAt t at p × (FieldAt t at f p → ⊥)) (λ p.
          sat-three (suc next) (is_in (suc next) next u) (is_live types (sight vars s) (suc next) next) (Not (has types (sight vars s) (suc next) f next))
          (with_position a next p) (IsAt at c p) (LiveAt t at p) (FieldAt t at f p → ⊥)
          (is_in-cell next a (with_position a next p) (suc next) next p at u c (agrees p) under (IsOnly-bound a next p) (sits.one c) stands)
          (sees-live types vars next a first s t at sees (with_position a next p) (suc next) next p (agrees p) (omega arith) (omega arith)
          (IsOnly-bound a next p))
          (sat-not (has types (sight vars s) (suc next) f next) (with_position a next p) (FieldAt t at f p)
          (sees-has types vars next a first s t at sees f entry there (with_position a next p) (suc next) next p (agrees p) (omega arith) (omega arith)
          (IsOnly-bound a next p))))

  -- a live cell of the type has each field that is common
  common-field : (f : FieldId) (entry : FieldEntry) (c : CellId) → field_at types f ≡ Some entry → entry.only ≡ None → IsLive t c → NamesType t f.ty c →
      IsSome (field_value t c f)
  common-field f entry c there common live typed = by (cell_of t c) refl live
    where
      by : (o : Option CellEntry) → cell_of t c ≡ o → IsSome o → IsSome (field_value t c f)
      by None is some = absurd (false≢true some)
      by (Some cell) is some =
          let of_type : cell.variant.ty ≡ f.ty = IfSome-at (cell_of t c) (λ e. e.variant.ty ≡ f.ty) cell is typed in
          let (p, at_p) = sits.there c live in
          let of_v : IsOfVariant t (variant_in f.ty cell.variant.index) c =
          of-some (λ e. e.variant ≡ variant_in f.ty cell.variant.index) (cell_of t c) cell is (ap (λ y. variant_in y cell.variant.index) of_type) in
          let fitting : AreFitting types t t = read-fitting types vars a at None t t sees.seen.fits refl in
          let (d, at_d, has_f) = had-field types t t at fitting f entry cell.variant.index p there (common-had entry cell.variant.index common)
          (c, at_p, of_v) in
          subst (λ e. IsSome (field_value t e f)) (sits.apart d c p at_d at_p) has_f

  -- a live cell with the field
  pub passes-field : (f : FieldId) (entry : FieldEntry) (c : CellId) → field_at types f ≡ Some entry → StandsForCell a at u (Some c) → IsLive t c →
      IsSome (field_value t c f) → NoneComes next a (access_checks types vars line reached f u s)
  passes-field f entry c there stands live has_f =
      none-append next a (cell_checks types vars line reached u s) (own_checks types vars line reached f u s (owner types f)) (passes-live c stands live)
      (own (owner types f))
    where
      own : (o : Option VariantId) → NoneComes next a (own_checks types vars line reached f u s o)
      own None = none-none next a
      own (Some v) =
          none-cons next a (lacks_check types vars line reached f u s) [] (λ h. ((lacks-told f entry c there stands).0 h.1).1 has_f) (none-none next a)

  -- a live cell without the field, which isn't common
  stops-field : (f : FieldId) (entry : FieldEntry) (c : CellId) → field_at types f ≡ Some entry → StandsForCell a at u (Some c) → IsLive t c →
      NamesType t f.ty c → (IsSome (field_value t c f) → ⊥) → ComesFirst next a (access_checks types vars line reached f u s) cause.Variant line
  stops-field f entry c there stands live typed lacking = by entry.only refl
    where
      by : (o : Option ℕ) → entry.only ≡ o → ComesFirst next a (access_checks types vars line reached f u s) cause.Variant line
      by None common = absurd (lacking (common-field f entry c there common live typed))
      by (Some i) own = record {
        before = cell_checks types vars line reached u s;
        check = lacks_check types vars line reached f u s;
        after = [];
        order = ap (λ o. cell_checks types vars line reached u s ++ own_checks types vars line reached f u s o)
            (owner-is types f entry there ∙ ap (λ o. option_map_or (λ i. Some (variant_in f.ty i)) o None) own);
        none = passes-live c stands live;
        comes = (here, (lacks-told f entry c there stands).1 (live, lacking));
        is = refl;
        at_line = refl;
      }

  -- reading a field of what a value is stops where a cause comes
  pub stops-read : (f : FieldId) (entry : FieldEntry) (o : Option CellId) → field_at types f ≡ Some entry → StandsForCell a at u o →
      IfSome o (NamesType t f.ty) → StopsAs next a (access_checks types vars line reached f u s) line (read t (value.Cell o) f)
  stops-read f entry None there stands typed = stops-null (own_checks types vars line reached f u s (owner types f)) stands
  stops-read f entry (Some c) there stands typed = by (cell_of t c) refl
    where
      at_field : IsLive t c → (o : Option Value) → field_value t c f ≡ o →
          StopsAs next a (access_checks types vars line reached f u s) line (ok_or o cause.Variant)
      at_field live None is = stops-field f entry c there stands live typed (is-none (field_value t c f) is)
      at_field live (Some y) is = passes-field f entry c there stands live (is-some (field_value t c f) y is)

      by : (o : Option CellEntry) → cell_of t c ≡ o →
          StopsAs next a (access_checks types vars line reached f u s) line (and_then (field_read t f) (cond (is_some o) (Ok c) (Err cause.Dangling)))
      by None is = stops-dead (own_checks types vars line reached f u s (owner types f)) c stands (is-none (cell_of t c) is)
      by (Some cell) is = at_field (is-some (cell_of t c) cell is) (field_value t c f) refl
