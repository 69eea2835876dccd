-- What the formulas of live cells and of fields say of the store that a state sees.
use Rattle.std.proofs.Common.{◌≡◌, ◌↔◌, ℕ, suc, ◌<◌, ◌≤◌, true, IsSomeAnd, List, [], ◌∷◌, All, Option, Some, None, refl, sym, subst, arith}
use Rattle.std.specs.Prelude.{reverse}
use Rattle.std.proofs.lemmas.List.{reverse-append, reverse-reverse}
use Rattle.std.proofs.lemmas.List.Elements.{All-nil, All-cons, All-append}
use Rattle.gta_theory.specs.Assignments.{Position, Assignment, IsOnly}
use Rattle.ws2s_core.specs.declared.formula.Formula.{Formula}
use Rattle.ws2s_core.specs.declared.formula.Formula.TheVariants.{And}
use Rattle.ws2s_core.specs.Satisfaction.{WSat}
use Rattle.ws2s_core.proofs.SatisfactionLemmas.{WSat-And}
use Rattle.ws2s_forms.specs.Forms.{ex1}
use Rattle.ws2s_forms.specs.Places.{with_position}
use Rattle.ws2s_forms.proofs.LawsLemmas.{law-ex1}
use Rattle.store_core.specs.declared.ids.CellId.{CellId}
use Rattle.store_core.specs.declared.ids.FieldId.{FieldId}
use Rattle.store_core.specs.declared.ids.VariantId.{VariantId}
use Rattle.store_core.specs.declared.kind.FieldKind.TheVariants as field
use Rattle.store_core.specs.declared.value.Value.TheVariants as value
use Rattle.store_core.specs.Tables.{TypeEntry, FieldEntry, VarEntry, KnowsVariant, field_at}
use Rattle.store_core.specs.Stores.{StoreMap, IsLive, field_value}
use Rattle.routing_walks.specs.Walks.{DataAndPointers, IsFollowed}
use Rattle.tree_encode.specs.Layouts.{LaidOut}
use Rattle.tree_store.proofs.TablesLemmas.{owners-there}
use Rattle.graph_view.specs.declared.view.Sym.{Sym}
use Rattle.graph_view.specs.declared.view.Event.{Event}
use Rattle.graph_view.specs.declared.view.View.{View}
use Rattle.graph_view.specs.Syms.{is_in}
use Rattle.graph_view.specs.Sights.{var_slots, sight_of}
use Rattle.graph_view.specs.Live.{lives, has, is_live, is_dead}
use Rattle.graph_view.specs.Fields.{is_true}
use Rattle.graph_view.specs.Routes.{names}
use Rattle.graph_view.specs.After.{Standing, IsAt, StandsForCell, IsSeen, IsSymBelow, IsEventBelow, AreEventsBelow}
use Rattle.graph_meaning.specs.Live.Meaning.{Agrees, MeansHere}
use Rattle.graph_meaning.specs.Live.Standing.{Sits, LiveAt, VariantAt, FieldAt}
use Rattle.graph_meaning.specs.Live.Fields.{FieldNamesAt}
use Rattle.graph_meaning.specs.Live.Showing.{Shows}
use Rattle.graph_meaning.proofs.live.AgreeingLemmas.{Agrees-itself, Agrees-bound, IsOnly-bound}
use Rattle.graph_meaning.proofs.live.SymsLemmas.{is_in-cell, is_in-null}
use Rattle.graph_meaning.proofs.live.TellLemmas.{NamesPlaced}
use Rattle.graph_meaning.proofs.live.SeenLemmas.{seen-sits, lives-means, seen-is_live, seen-has, seen-is_dead, seen-is_true}
use Rattle.graph_meaning.specs.Walks.Wells.{ShowsWell}
use Rattle.graph_meaning.proofs.walks.SeenLemmas.{names-told, named-placed}
use Rattle.site_list.specs.States.{State, sight}
use Rattle.triple_meaning.specs.Sites.Seeing.{Sees}

-- the events of a state, the first one first
events-listed : (n : ℕ) (events : List Event) → AreEventsBelow n events → All (IsEventBelow n) (reverse events)
events-listed n [] below = All-nil (IsEventBelow n)
events-listed n (e ∷ events) below =
    subst (All (IsEventBelow n)) (sym (reverse-append (e ∷ []) events))
    (All-append (IsEventBelow n) (reverse events) (e ∷ []) (events-listed n events below.1)
    (All-cons (IsEventBelow n) e [] below.0 (All-nil (IsEventBelow n))))

-- what a state looks at, as a view
abbrev pub layout_of : List TypeEntry → List VarEntry → LaidOut
layout_of types vars = record { types = types; vars = vars; spares = [] }

abbrev pub view_of : State → ℕ → View
view_of s next = record { vars = s.values; events = reverse s.events; region = None; next = next }

module _ (types : List TypeEntry) (vars : List VarEntry) (next : ℕ) (a : Assignment) (first : StoreMap) (s : State) (t : StoreMap) (at : Standing)
    (sees : Sees types vars next a first s t at) where
  abbrev l : LaidOut
  l = layout_of types vars

  abbrev view : View
  view = view_of s next

  pub shows : Shows (layout_of types vars) (view_of s next) a first t t at next
  shows = record {
    owners = owners-there types sees.over.table;
    fits = sees.over.well.fits;
    backbone = sees.over.well.backbone;
    assignment = sees.over.tree;
    seen = subst (λ es. IsSeen types vars s.values es a first t at) (sym (reverse-reverse s.events)) sees.seen;
    read = refl;
    free = record {
      layout = (let room = sees.below.made in omega (arith, room));
      vars = sees.below.values;
      events = events-listed next s.events sees.below.events;
      region = tt;
    };
  }

  pub shows_well : ShowsWell (layout_of types vars) (view_of s next) a first t t at next
  shows_well = record { table = sees.over.table; well = sees.over.well; shows = shows }

  pub sees-sits : Sits t at
  sees-sits = seen-sits l view a first t t at next shows

  sight-is : sight_of vars view ≡ sight vars s
  sight-is = λ i. record { slots = var_slots vars; events = reverse-reverse s.events i; region = None }

  pub here-itself : Agrees next a a
  here-itself = Agrees-itself next a sees.over.finite

  -- ---- formulas

  pub sees-dead : (u : Sym) (o : Option CellId) → IsSymBelow next u → StandsForCell a at u o →
      WSat (is_dead types (sight vars s) next u) a ↔ IsSomeAnd o (λ c. (p : Position) × (IsAt at c p × (IsLive t c → ⊥)))
  sees-dead u o below stands =
      subst (λ k. WSat (is_dead types k next u) a ↔ IsSomeAnd o (λ c. (p : Position) × (IsAt at c p × (IsLive t c → ⊥)))) sight-is
      (seen-is_dead l view a first t t at next shows a next u o here-itself (omega arith) below stands)

  pub sees-live : MeansHere next a (λ n x. is_live types (sight vars s) n x) (LiveAt t at)
  sees-live = subst (λ k. MeansHere next a (λ n x. is_live types k n x) (LiveAt t at)) sight-is (seen-is_live l view a first t t at next shows)

  pub sees-has : (f : FieldId) (entry : FieldEntry) → field_at types f ≡ Some entry →
      MeansHere next a (λ n x. has types (sight vars s) n f x) (FieldAt t at f)
  sees-has f entry there =
      subst (λ k. MeansHere next a (λ n x. has types k n f x) (FieldAt t at f)) sight-is (seen-has l view a first t t at next shows f entry there)

  pub sees-variant : (v : VariantId) → KnowsVariant types v → MeansHere next a (λ n x. lives types (sight vars s) n v x) (VariantAt t at v)
  sees-variant v known =
      subst (λ k. MeansHere next a (λ n x. lives types k n v x) (VariantAt t at v)) sight-is (lives-means l view a first t t at next shows v known)

  pub sees-truth : (f : FieldId) (entry : FieldEntry) (b : Assignment) (n x : ℕ) (p : Position) (c : CellId) → field_at types f ≡ Some entry →
      entry.kind ≡ field.Bool → Agrees next a b → next ≤ n → x < n → IsOnly (b x) p → IsAt at c p → IsLive t c →
      WSat (is_true types (sight vars s) n f x) b ↔ (field_value t c f ≡ Some (value.Bool true))
  sees-truth f entry b n x p c there kind agrees few less only here live =
      subst (λ k. WSat (is_true types k n f x) b ↔ (field_value t c f ≡ Some (value.Bool true))) sight-is
      (seen-is_true l view a first t t at next shows f entry b n x p c there kind agrees few less only here live)

  pub sees-names : (f : FieldId) (entry : FieldEntry) (b : Assignment) (n x y : ℕ) (p q : Position) (c : CellId) → field_at types f ≡ Some entry →
      IsFollowed DataAndPointers entry.kind → Agrees next a b → next ≤ n → x < n → y < n → IsOnly (b x) p → IsOnly (b y) q → IsAt at c p →
      IsLive t c → WSat (names types (sight vars s) n f x y) b ↔ FieldNamesAt t at c f q
  sees-names f entry b n x y p q c there follows agrees few before behind only also here live =
      subst (λ k. WSat (names types k n f x y) b ↔ FieldNamesAt t at c f q) sight-is
      (names-told l view a first t t at next shows sees.over.table sees.over.well f entry b n x y p q c there follows agrees few before behind only also
      here live)

  pub sees-placed : (f : FieldId) (entry : FieldEntry) → field_at types f ≡ Some entry → IsFollowed DataAndPointers entry.kind → NamesPlaced f t at
  sees-placed f entry there follows = named-placed l view a first t t at next shows sees.over.table sees.over.well f entry there follows

  -- ---- the cell that a value is

  -- some position of the value has this: the cell stands there, and this is so of its position
  pub some-cell : (b : Assignment) (n : ℕ) (u : Sym) (c : CellId) (f : Formula) (P : Position → Type 0) → Agrees next a b → next ≤ n → IsSymBelow next u →
      StandsForCell a at u (Some c) → ((p : Position) → IsAt at c p → WSat f (with_position b n p) ↔ P p) →
      WSat (ex1 n (And (is_in (suc n) n u) f)) b ↔ ((p : Position) × IsAt at c p × P p)
  some-cell b n u c f P agrees few below stands means = (
    (λ h.
        let (p, both) = some.0 h in
        let parts = (WSat-And (is_in (suc n) n u) f (with_position b n p)).0 both in
        let here = (inside p).0 parts.0 in
        (p, here, (means p here).0 parts.1)),
    (λ (h : (p : Position) × IsAt at c p × P p).
        let (p, here, so) = h in
        some.1 (p, (WSat-And (is_in (suc n) n u) f (with_position b n p)).1 ((inside p).1 here, (means p here).1 so))),
  )
    where
      some : WSat (ex1 n (And (is_in (suc n) n u) f)) b ↔ ((p : Position) × WSat (And (is_in (suc n) n u) f) (with_position b n p))
      some = law-ex1 n (And (is_in (suc n) n u) f) b

      inside : (p : Position) → WSat (is_in (suc n) n u) (with_position b n p) ↔ IsAt at c p
      inside p =
          is_in-cell next a (with_position b n p) (suc n) n p at u c (Agrees-bound next a b n p agrees few) below (IsOnly-bound b n p)
          (sees-sits.one c) stands

  -- null has no position
  pub no-cell : (b : Assignment) (n : ℕ) (u : Sym) (f : Formula) → Agrees next a b → next ≤ n → IsSymBelow next u → StandsForCell a at u None →
      WSat (ex1 n (And (is_in (suc n) n u) f)) b → ⊥
  no-cell b n u f agrees few below stands h =
      let (p, both) = (law-ex1 n (And (is_in (suc n) n u) f) b).0 h in
      is_in-null next a (with_position b n p) (suc n) n p at u (Agrees-bound next a b n p agrees few) below (IsOnly-bound b n p) stands
      ((WSat-And (is_in (suc n) n u) f (with_position b n p)).0 both).0
