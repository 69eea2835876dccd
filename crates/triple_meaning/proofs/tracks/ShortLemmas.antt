-- Live cells, and what fields name, stand at positions shorter than some length.
use Rattle.std.proofs.Common.{◌≡◌, ◌⊎◌, inl, inr, ℕ, zero, suc, ◌+◌, ◌<◌, ◌≤◌, max, Bool, true, false, cond, ltb, ◌&&◌, IsTrue, List, [], ◌∷◌, length, Contains}
use Rattle.std.proofs.Common.{Option, Some, None, refl, sym, ap, ◌∙◌, arith, ltb-true, ltb-false, lt-ltb}
use Rattle.std.specs.Option.{option_map_or}
use Rattle.std.specs.Prelude.{unwrap_or}
use Rattle.std.proofs.lemmas.Bool.{false≢true}
use Rattle.gta_theory.specs.Assignments.{Position, Assignment, IsFinite, IsOnly}
use Rattle.ws2s_core.specs.declared.formula.Formula.{Formula}
use Rattle.ws2s_core.specs.declared.formula.Formula.TheVariants.{And, Not}
use Rattle.ws2s_core.specs.Satisfaction.{WSat}
use Rattle.ws2s_core.proofs.SatisfactionLemmas.{WSat-And}
use Rattle.ws2s_core.proofs.TracksLemmas.{Covers-only_below}
use Rattle.ws2s_forms.specs.Forms.{or, and_list, child, false_at}
use Rattle.ws2s_forms.specs.Places.{slot_of}
use Rattle.ws2s_forms.proofs.ConnectivesLemmas.{WSat-false, WSat-and_list}
use Rattle.ws2s_forms.proofs.LawsLemmas.{law-or}
use Rattle.store_core.specs.declared.ids.TypeId.{TypeId}
use Rattle.store_core.specs.declared.ids.VariantId.{VariantId}
use Rattle.store_core.specs.declared.ids.FieldId.{FieldId}
use Rattle.store_core.specs.declared.kind.FieldKind.{FieldKind}
use Rattle.store_core.specs.declared.kind.FieldKind.TheVariants as field
use Rattle.store_core.specs.Tables.{TypeEntry, FieldEntry, VarEntry, field_at, unnamed_of}
use Rattle.tree_encode.specs.Tracks.{track_count, variant_track, child_number}
use Rattle.tree_formula.specs.WellEncoded.{variants_of, track_or_first}
use Rattle.graph_view.specs.declared.view.Sym.{Sym}
use Rattle.graph_view.specs.declared.view.Sym.TheVariants.{Null, At}
use Rattle.graph_view.specs.declared.view.Event.{Event}
use Rattle.graph_view.specs.declared.view.Event.TheVariants.{New, Write, Free}
use Rattle.graph_view.specs.Sights.{at_first}
use Rattle.graph_view.specs.Syms.{is_in, guard, is_changed}
use Rattle.graph_view.specs.Live.{is_variant, lives_in, has}
use Rattle.graph_view.specs.Fields.{is_field, after, first_child, data_names}
use Rattle.graph_view.specs.Routes.{data_walk, destination, names_in, names}
use Rattle.graph_view.specs.After.{IsTaken, IsSymBelow, AreEventsBelow}
use Rattle.graph_meaning.specs.Live.Meaning.{Agrees}
use Rattle.triple_meaning.proofs.tracks.SightMeaningLemmas.{OrWhere, ThereOr, whole, InSym, LivesAt, OfTypeAt, AliveAt, first-few, in-means, of_type-means}

-- ---- lengths

pub less-or : (n m : ℕ) → (n < m) ⊎ (m ≤ n)
less-or n m = by (ltb n m) refl
  where
    by : (t : Bool) → ltb n m ≡ t → (n < m) ⊎ (m ≤ n)
    by true is = inl (ltb-true n m is)
    by false is = inr (omega (arith, ltb-false n m is))

length-slot : (i : ℕ) → length (slot_of i) ≡ suc i
length-slot zero = refl
length-slot (suc i) = ap (λ n. suc n) (length-slot i)

-- each position on a track below n is shorter than the depth
abbrev pub AreShort : ℕ → Assignment → ℕ → Type 0
AreShort n b depth = (x : ℕ) (p : Position) → x < n → IsTrue (b x p) → length p < depth

-- so are the slots of cells that events make
abbrev pub AreSlotsShort : ℕ → ℕ → List Event → Type 0
AreSlotsShort slots depth [] = Unit {0}
AreSlotsShort slots depth (New g k w ∷ earlier) = (suc (slots + k) < depth) × AreSlotsShort slots depth earlier
AreSlotsShort slots depth (Write g u f x ∷ earlier) = AreSlotsShort slots depth earlier
AreSlotsShort slots depth (Free g u ∷ earlier) = AreSlotsShort slots depth earlier

short-more : (n : ℕ) (b : Assignment) (d e : ℕ) → d ≤ e → AreShort n b d → AreShort n b e
short-more n b d e less short x p under on = (let here = short x p under on in omega (arith, here, less))

slots-more : (slots d e : ℕ) (events : List Event) → d ≤ e → AreSlotsShort slots d events → AreSlotsShort slots e events
slots-more slots d e [] less short = tt
slots-more slots d e (New g k w ∷ earlier) less short = (omega (arith, short.0, less), slots-more slots d e earlier less short.1)
slots-more slots d e (Write g u f x ∷ earlier) less short = slots-more slots d e earlier less short
slots-more slots d e (Free g u ∷ earlier) less short = slots-more slots d e earlier less short

tracks-short : (n : ℕ) (b : Assignment) → IsFinite b → (depth : ℕ) × AreShort n b depth
tracks-short n b finite =
    let (depth, covers) = Covers-only_below n b finite in (
      depth,
      λ x p under on. elim (less-or (length p) depth) as (λ _. length p < depth) [
        | inl less ↦ less
        | inr deep ↦ absurd (
            false≢true (sym (covers x p deep) ∙ ap (λ t. t && b x p) (lt-ltb x n under) ∙ on))
      ],
    )

slots-short : (slots : ℕ) (events : List Event) → (depth : ℕ) × AreSlotsShort slots depth events
slots-short slots [] = (0, tt)
slots-short slots (New g k w ∷ earlier) =
    let (d, rest) = slots-short slots earlier in
    let e : ℕ = max d (suc (suc (slots + k))) in
    (e, (omega arith, slots-more slots d e earlier (omega arith) rest))
slots-short slots (Write g u f x ∷ earlier) = slots-short slots earlier
slots-short slots (Free g u ∷ earlier) = slots-short slots earlier

-- some length is above all of these
pub some-depth : (n slots : ℕ) (b : Assignment) (events : List Event) → IsFinite b → (depth : ℕ) × AreShort n b depth × AreSlotsShort slots depth events
some-depth n slots b events finite =
    let (d, short) = tracks-short n b finite in
    let (e, made) = slots-short slots events in
    let both : ℕ = max d e in
    (both, short-more n b d both (omega arith) short, slots-more slots e both events (omega arith) made)

-- what follows from each of two follows from what is chosen of them
or_where-so : (t : Bool) (P Q R : Type 0) → (P → R) → (Q → R) → OrWhere t P Q → R
or_where-so true P Q R one other (inl h) = one h
or_where-so true P Q R one other (inr h) = other h
or_where-so false P Q R one other h = one h

cond-so : (t : Bool) (f g : Formula) (c : Assignment) (R : Type 0) → (WSat f c → R) → (WSat g c → R) → WSat (cond t f g) c → R
cond-so true f g c R one other h = one h
cond-so false f g c R one other h = other h

module _ (types : List TypeEntry) (vars : List VarEntry) (slots n : ℕ) (few : track_count types vars ≤ n) (some : 0 < n) (b : Assignment) (depth : ℕ)
    (short : AreShort n b depth) where
  -- ---- live cells

  sym-short : (u : Sym) (p : Position) → IsSymBelow n u → InSym types slots b u p → length p < depth
  sym-short Null p under h = absurd h
  sym-short (At x) p under h = short x.0 p under h

  lives-short : (v : VariantId) (events : List Event) (p : Position) → AreSlotsShort slots depth events → LivesAt types slots b v events p → length p < depth
  lives-short v [] p made h = short (track_or_first (variant_track types v)).0 p (first-few types slots b vars n few some v) h
  lives-short v (New g k w ∷ earlier) p made h =
      or_where-so (is_variant v w) (LivesAt types slots b v earlier p) (IsTaken b g × (p ≡ slot_of (slots + k))) (length p < depth)
      (lives-short v earlier p made.1) (λ new. (let long = ap (λ q. length q) new.1 ∙ length-slot (slots + k) in omega (arith, long, made.0))) h
  lives-short v (Write g u f x ∷ earlier) p made h = lives-short v earlier p made h
  lives-short v (Free g u ∷ earlier) p made h = lives-short v earlier p made h.0

  of_type-short : (ty : TypeId) (events : List Event) (p : Position) → AreSlotsShort slots depth events → OfTypeAt types slots b ty events p → length p < depth
  of_type-short ty events p made h = by (unnamed_of types ty) h
    where
      by : (o : Option VariantId) →
          ThereOr (λ v. LivesAt types slots b v events p) o ((v : VariantId) × Contains (variants_of types ty) v × LivesAt types slots b v events p) →
          length p < depth
      by None k = lives-short k.0 events p made k.2
      by (Some v) k = lives-short v events p made k

  pub alive-short : (events : List Event) (p : Position) → AreSlotsShort slots depth events → AliveAt types slots b events p → length p < depth
  alive-short events p made h = of_type-short h.0 events p made h.2

  -- ---- what fields name, by their formulas

  module _ (c : Assignment) (agrees : Agrees n b c) (next x : ℕ) (q : Position) (room : n ≤ next) (less : x < next) (only : IsOnly (c x) q) where
    -- the formula says of the track's position that it is short
    abbrev SaysShort : Formula → Type 0
    SaysShort f = WSat f c → length q < depth

    target-short : (target : TypeId) → SaysShort (lives_in types (at_first slots) next target x)
    target-short target h =
        of_type-short target [] q tt ((of_type-means types slots b vars n few some target [] tt c next x q agrees room less only).0 h)

    after-short : (f : FieldId) (a : ℕ) (first : Formula) (events : List Event) → AreEventsBelow n events → SaysShort first →
        SaysShort (after next f a (is_in next x) first events)
    after-short f a first [] under so h = so h
    after-short f a first (New g k v ∷ earlier) under so h = after-short f a first earlier under.1 so h
    after-short f a first (Free g u ∷ earlier) under so h = after-short f a first earlier under.1 so h
    after-short f a first (Write g u e z ∷ earlier) under so h =
        let old : Formula = after next f a (is_in next x) first earlier in
        let now : List Formula = guard next g ∷ is_in next a u ∷ is_in next x z ∷ [] in
        let kept : Formula = And (Not (is_changed next a g u)) old in
        cond-so (is_field f e) (or (and_list next now) kept) old c (length q < depth) (λ k.
        elim ((law-or (and_list next now) kept c agrees.finite).0 k) as (λ _. length q < depth) [
          | inl new ↦ (
              let each = (WSat-and_list c next now).0 new in
              sym-short z q under.0.2 ((in-means types slots b vars n few some z under.0.2 c next x q agrees room less only).0 each.1.1.0))
          | inr stays ↦ after-short f a first earlier under.1 so ((WSat-And (Not (is_changed next a g u)) old c).0 stays).1
        ]) (after-short f a first earlier under.1 so) h

    data-short : (f : FieldId) (target : TypeId) (a : ℕ) (events : List Event) → AreEventsBelow n events →
        SaysShort (data_names types (whole slots events) next f target a x)
    data-short f target a events under =
        after-short f a (first_child types (whole slots events) next f target a x) events under (λ h.
        let each = (WSat-and_list c next (has types (at_first slots) next f a ∷ child next (unwrap_or (child_number types f) 0) a x
        ∷ lives_in types (at_first slots) next target x ∷ [])).0 h in
        target-short target each.1.1.0)

    kind-short : (f : FieldId) (a : ℕ) (events : List Event) (kind : FieldKind) → AreEventsBelow n events →
        SaysShort (names_in types (whole slots events) next f a x kind)
    kind-short f a events field.Bool under h = absurd (WSat-false next c h)
    kind-short f a events (field.Data target) under h = data-short f target a events under h
    kind-short f a events (field.Pointer target along) under h =
        after-short f a (destination types (at_first slots) next f target along a x) events under (λ k.
        let each = (WSat-and_list c next (has types (at_first slots) next f a ∷ data_walk types (at_first slots) along next a x
        ∷ lives_in types (at_first slots) next target x ∷ [])).0 k in
        target-short target each.1.1.0) h

    -- what a field names is short
    pub names-short : (f : FieldId) (a : ℕ) (events : List Event) → AreEventsBelow n events → SaysShort (names types (whole slots events) next f a x)
    names-short f a events under h = by (field_at types f) h
      where
        by : (o : Option FieldEntry) →
            WSat (option_map_or (λ (entry : FieldEntry). names_in types (whole slots events) next f a x entry.kind) o (false_at next)) c → length q < depth
        by None k = absurd (WSat-false next c k)
        by (Some entry) k = kind-short f a events entry.kind under k
