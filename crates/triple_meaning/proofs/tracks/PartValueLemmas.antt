-- The value of a track that is made for a part: what stands in each closed set with the roots.
use Rattle.std.proofs.Common.{◌↔◌, ℕ, suc, ◌<◌, ◌≤◌, ltb, IsTrue, List, [], ◌∷◌, ◌++◌, flat_map, length, All, refl, sym, subst, arith, lt-ltb, ltb-true, le-ltb}
use Rattle.std.proofs.lemmas.List.Elements.{All-head, All-tail}
use Rattle.gta_theory.specs.Assignments.{Position, PositionSet, Assignment, IsFinite, IsFiniteSet, IsOnly, replace}
use Rattle.gta_theory.proofs.AssignmentsLemmas.{replace-same, replace-other}
use Rattle.gta_theory.proofs.ListsLemmas.{Contains-none}
use Rattle.ws2s_core.specs.declared.formula.Formula.{Formula}
use Rattle.ws2s_core.specs.declared.formula.Formula.TheVariants.{Sub, Not}
use Rattle.ws2s_core.specs.Satisfaction.{WSat}
use Rattle.ws2s_core.proofs.SatisfactionLemmas.{WSat-And, WSat-Sub}
use Rattle.ws2s_theory.proofs.ContextsLemmas.{IsFinite-replace}
use Rattle.ws2s_forms.specs.Forms.{track, imp, all2, or_list}
use Rattle.ws2s_forms.specs.Places.{with_position}
use Rattle.ws2s_forms.proofs.ConnectivesLemmas.{EachSat, WSat-and_list, EachSat-append}
use Rattle.ws2s_forms.proofs.LawsLemmas.{decided, law-all2, law-imp, law-member, law-or_list, IsFinite-position}
use Rattle.store_core.specs.Tables.{TypeEntry, VarEntry}
use Rattle.tree_encode.specs.Tracks.{track_count}
use Rattle.graph_view.specs.declared.view.Sym.{Sym}
use Rattle.graph_view.specs.declared.view.Sym.TheVariants.{Null, At}
use Rattle.graph_view.specs.declared.view.Event.{Event}
use Rattle.graph_view.specs.Routes.{edge, is_left}
use Rattle.graph_view.specs.Cuts.{has_value, closes}
use Rattle.graph_view.specs.After.{IsSymBelow, AreEventsBelow}
use Rattle.graph_meaning.specs.Live.Meaning.{Agrees, MeansPairs}
use Rattle.graph_meaning.proofs.live.AgreeingLemmas.{Agrees-itself, Agrees-set, Agrees-bound, IsOnly-bound}
use Rattle.graph_meaning.proofs.live.SymsLemmas.{on-agreed}
use Rattle.graph_meaning.proofs.walks.ClosingLemmas.{IsClosed, left-means}
use Rattle.site_list.specs.Parts.{is_part}
use Rattle.triple_meaning.specs.Tracks.Defining.{IsDefining}
use Rattle.triple_meaning.proofs.tracks.ClearLemmas.{above, below, later, clear-Sub, clear-And, clear-imp, clear-all2}
use Rattle.triple_meaning.proofs.tracks.SightClearLemmas.{IsSightBelow}
use Rattle.triple_meaning.proofs.tracks.RouteClearLemmas.{closes-clear}
use Rattle.triple_meaning.proofs.tracks.SightMeaningLemmas.{whole, EdgeAt, edge-means}
use Rattle.triple_meaning.proofs.tracks.ShortLemmas.{AreShort, some-depth, alive-short}
use Rattle.triple_meaning.proofs.tracks.BelowLemmas.{syms-later, events-later, type-track}
use Rattle.triple_meaning.proofs.tracks.ValuesLemmas.{IsSteady, HasValue, defining}
use Rattle.triple_meaning.proofs.tracks.ReadValueLemmas.{test_of, test-true, false-where}

-- positions shorter than a depth
shorter : ℕ → PositionSet
shorter depth p = ltb (length p) depth

shorter-finite : (depth : ℕ) → IsFiniteSet (shorter depth)
unfolding shorter
shorter-finite depth = (depth, λ p deep. le-ltb (length p) depth deep)

on-shorter : (depth : ℕ) (p : Position) → IsTrue (shorter depth p) ↔ (length p < depth)
unfolding shorter
on-shorter depth p = ((λ h. ltb-true (length p) depth h), (λ h. lt-ltb (length p) depth h))

-- what a set has of a value
abbrev pub HasSymIn : Assignment → PositionSet → Sym → Type 0
HasSymIn b set Null = Unit {0}
HasSymIn b set (At v) = (p : Position) → IsTrue (b v.0 p) → IsTrue (set p)

abbrev pub HasAllIn : Assignment → PositionSet → List Sym → Type 0
HasAllIn b set [] = Unit {0}
HasAllIn b set (u ∷ values) = HasSymIn b set u × HasAllIn b set values

-- where the formula of edges says this of two positions, which is so of short ones alone
module _ (types : List TypeEntry) (vars : List VarEntry) (slots n : ℕ) (few : track_count types vars ≤ n) (values : List Sym) (events : List Event)
    (under : All (IsSymBelow n) values) (past : AreEventsBelow n events) (next : ℕ) (b : Assignment) (less : n < next) (finite : IsFinite b)
    (R : Position → Position → Type 0) (means : MeansPairs n b (edge types (whole slots events)) R) (depth : ℕ) (short : AreShort n b depth)
    (led : (p q : Position) → R p q → length q < depth) where
  module _ (c : Assignment) (agrees : Agrees n b c) (y : ℕ) (set : PositionSet) (is : (p : Position) → IsTrue (c y p) ↔ IsTrue (set p)) where
    sym-means : (u : Sym) → IsSymBelow n u → EachSat c (has_value y u) ↔ HasSymIn b set u
    sym-means Null less_u = ((λ h. tt), (λ h. tt))
    sym-means (At v) less_u =
        let within = WSat-Sub v (track y) c in (
          (λ h p on. (is p).0 (within.0 h.0 p ((on-agreed n b c v.0 p agrees less_u).1 on))),
          (λ h. (within.1 (λ p on. (is p).1 (h p ((on-agreed n b c v.0 p agrees less_u).0 on))), tt)),
        )

    roots-mean : (us : List Sym) → All (IsSymBelow n) us → EachSat c (flat_map (has_value y) us) ↔ HasAllIn b set us
    roots-mean [] less_us = ((λ h. tt), (λ h. tt))
    roots-mean (u ∷ us) less_us =
        let parts = EachSat-append c (has_value y u) (flat_map (has_value y) us) in
        let here = sym-means u (All-head (IsSymBelow n) u us less_us) in
        let rest = roots-mean us (All-tail (IsSymBelow n) u us less_us) in (
          (λ h. let both = parts.0 h in (here.0 both.0, rest.0 both.1)),
          (λ h. parts.1 (here.1 h.0, rest.1 h.1)),
        )

    -- the set has the roots and is closed
    closes-means : (from : ℕ) → n ≤ from → y < from → WSat (closes types (whole slots events) values from y) c ↔ (HasAllIn b set values × IsClosed R set)
    closes-means from room less_y =
        let left : Formula = Not (is_left (edge types (whole slots events)) from y) in
        let parts = EachSat-append c (flat_map (has_value y) values) (left ∷ []) in
        let all = WSat-and_list c from (flat_map (has_value y) values ++ left ∷ []) in
        let rooted = roots-mean values under in
        let closed = left-means n b (edge types (whole slots events)) R means c from y set agrees room less_y is in (
          (λ h. let each = parts.0 (all.0 h) in (rooted.0 each.0, closed.0 each.1.0)),
          (λ h. all.1 (parts.1 (rooted.1 h.0, (closed.1 h.1, tt)))),
        )

  -- a closed finite set with the roots
  record IsWide (set : PositionSet) : Type 0 where
    bounded : IsFiniteSet set
    rooted : HasAllIn b set values
    closed : IsClosed R set

  -- the position is in each of them
  abbrev InEach : Position → Type 0
  InEach p = (set : PositionSet) → IsWide set → IsTrue (set p)

  -- the formula that says so of the track itself
  abbrev each_has : Formula
  each_has = all2 next (imp (closes types (whole slots events) values (suc next) next) (Sub (track n) (track next)))

  on-bound : (c : Assignment) (set : PositionSet) (p : Position) → IsTrue (replace c next set next p) ↔ IsTrue (set p)
  on-bound c set p = (
    (λ h. subst (λ (s : PositionSet). IsTrue (s p)) (replace-same c next set) h),
    (λ h. subst (λ (s : PositionSet). IsTrue (s p)) (sym (replace-same c next set)) h),
  )

  wide-means : (c : Assignment) (set : PositionSet) → Agrees n b c → IsFiniteSet set →
      WSat (closes types (whole slots events) values (suc next) next) (replace c next set) ↔ (HasAllIn b set values × IsClosed R set)
  wide-means c set agrees bounded =
      closes-means (replace c next set) (Agrees-set n b c next set agrees (omega (arith, less)) bounded) next set (on-bound c set) (suc next)
      (omega (arith, less)) (omega arith)

  -- ---- the position on the track is in each closed set

  module _ (p : Position) where
    agrees-p : Agrees n b (with_position b n p)
    agrees-p = Agrees-bound n b b n p (Agrees-itself n b finite) (omega arith)

    on-p : (set : PositionSet) → WSat (Sub (track n) (track next)) (replace (with_position b n p) next set) ↔ IsTrue (set p)
    on-p set =
        let still : IsOnly (replace (with_position b n p) next set n) p =
        subst (λ (s : PositionSet). IsOnly s p) (sym (replace-other (with_position b n p) next n set (λ e. let k : ⊥ = omega (arith, e, less) in k)))
        (IsOnly-bound b n p) in
        let member = law-member n next (replace (with_position b n p) next set) p still in (
          (λ h. (on-bound (with_position b n p) set p).0 (member.0 h)),
          (λ h. member.1 ((on-bound (with_position b n p) set p).1 h)),
        )

    each-means : WSat each_has (with_position b n p) ↔ InEach p
    each-means =
        let p_finite = IsFinite-position b n p finite in
        let wide : Formula = closes types (whole slots events) values (suc next) next in
        let all = law-all2 next (imp wide (Sub (track n) (track next))) (with_position b n p) p_finite in
        let follows = λ (set : PositionSet) (bounded : IsFiniteSet set).
        law-imp wide (Sub (track n) (track next)) (replace (with_position b n p) next set)
        (IsFinite-replace (with_position b n p) next set p_finite bounded) in (
          (λ h set is. (on-p set).0 ((follows set is.bounded).0 (all.0 h set is.bounded)
              ((wide-means (with_position b n p) set agrees-p is.bounded).1 (is.rooted, is.closed)))),
          (λ h. all.1 (λ set bounded. (follows set bounded).1 (λ k.
              let both = (wide-means (with_position b n p) set agrees-p bounded).0 k in
              (on-p set).1 (h set (record { bounded = bounded; rooted = both.0; closed = both.1 }))))),
        )

  -- ---- the least set

  least : PositionSet
  least p = test_of (decided each_has (with_position b n p) (IsFinite-position b n p finite))

  on-least : (p : Position) → IsTrue (least p) ↔ InEach p
  unfolding least
  on-least p =
      let test = test-true (decided each_has (with_position b n p) (IsFinite-position b n p finite)) in
      ((λ h. (each-means p).0 (test.0 h)), (λ h. test.1 ((each-means p).1 h)))

  shorter-rooted : (us : List Sym) → All (IsSymBelow n) us → HasAllIn b (shorter depth) us
  shorter-rooted [] less_us = tt
  shorter-rooted (Null ∷ us) less_us = (tt, shorter-rooted us (All-tail (IsSymBelow n) Null us less_us))
  shorter-rooted (At v ∷ us) less_us = (
    (λ p on. (on-shorter depth p).1 (short v.0 p (All-head (IsSymBelow n) (At v) us less_us) on)),
    shorter-rooted us (All-tail (IsSymBelow n) (At v) us less_us),
  )

  shorter-wide : IsWide (shorter depth)
  shorter-wide = record {
    bounded = shorter-finite depth;
    rooted = shorter-rooted values under;
    closed = λ p q on leads. (on-shorter depth q).1 (led p q leads);
  }

  least-finite : IsFiniteSet least
  least-finite = (
    depth,
    λ p deep. false-where (least p) (λ on.
        let so = (on-shorter depth p).0 ((on-least p).0 on (shorter depth) shorter-wide) in
        let k : ⊥ = omega (arith, so, deep) in k),
  )

  least-rooted : (us : List Sym) → ((set : PositionSet) → IsWide set → HasAllIn b set us) → HasAllIn b least us
  least-rooted [] each = tt
  least-rooted (Null ∷ us) each = (tt, least-rooted us (λ set is. (each set is).1))
  least-rooted (At v ∷ us) each = (
    (λ p on. (on-least p).1 (λ set is. (each set is).0 p on)),
    least-rooted us (λ set is. (each set is).1),
  )

  least-closed : IsClosed R least
  least-closed p q on leads = (on-least q).1 (λ set is. is.closed p q ((on-least p).0 on set is) leads)

  -- ---- the formula of the part

  pub part-found : (set : PositionSet) × IsFiniteSet set × WSat (is_part types (whole slots events) values n next) (replace b n set)
  part-found =
      let c = replace b n least in
      let agrees = Agrees-set n b b n least (Agrees-itself n b finite) (omega arith) least-finite in
      let wide : Formula = closes types (whole slots events) values (suc next) next in
      let own : (p : Position) → IsTrue (c n p) ↔ IsTrue (least p) = λ p. (
        (λ h. subst (λ (s : PositionSet). IsTrue (s p)) (replace-same b n least) h),
        (λ h. subst (λ (s : PositionSet). IsTrue (s p)) (sym (replace-same b n least)) h),
      ) in (
        least,
        least-finite,
        (WSat-And (closes types (whole slots events) values next n) (all2 next (imp wide (Sub (track n) (track next)))) c).1 (
          (closes-means c agrees n least own next (omega (arith, less)) less).1 (least-rooted values (λ set is. is.rooted), least-closed),
          (law-all2 next (imp wide (Sub (track n) (track next))) c agrees.finite).1 (λ set bounded.
              let d = replace c next set in
              (law-imp wide (Sub (track n) (track next)) d (IsFinite-replace c next set agrees.finite bounded)).1 (λ k.
              let both = (wide-means c set agrees bounded).0 k in
              let is : IsWide set = record { bounded = bounded; rooted = both.0; closed = both.1 } in
              (WSat-Sub (track n) (track next) d).1 (λ p on.
              let still = replace-other c next n set (λ e. let j : ⊥ = omega (arith, e, less) in j) in
              (on-bound c set p).1 ((on-least p).0 ((own p).0 (subst (λ (s : PositionSet). IsTrue (s p)) still on)) set is)))),
        ),
      )

-- ---- whatever the tables

module _ (types : List TypeEntry) (vars : List VarEntry) (slots n : ℕ) (few : track_count types vars ≤ n) (values : List Sym) (events : List Event)
    (under : All (IsSymBelow n) values) (past : AreEventsBelow n events) where
  part-steady : IsSteady (suc n) (is_part types (whole slots events) values n)
  part-steady next t from less =
      let positive : 0 < t = omega (arith, from) in
      let room : track_count types vars ≤ t = omega (arith, few, from) in
      let sight_below : IsSightBelow t (whole slots events) =
      record { region = refl; events = events-later n t events (omega (arith, from)) past } in
      let values_below = syms-later n t values (omega (arith, from)) under in
      let no_n = below t n (omega (arith, from)) in
      let bound = above t next less in
      let wide : Formula = closes types (whole slots events) values (suc next) next in
      clear-And t (closes types (whole slots events) values next n) (all2 next (imp wide (Sub (track n) (track next))))
      (closes-clear types vars t room positive (whole slots events) sight_below values next n less no_n values_below)
      (clear-all2 t next (imp wide (Sub (track n) (track next))) (clear-imp t wide (Sub (track n) (track next))
      (closes-clear types vars t room positive (whole slots events) sight_below values (suc next) next (later t next less) bound values_below)
      (clear-Sub t (track n) (track next) no_n bound)))

-- without types no data field leads anywhere
no-edges : (slots n : ℕ) (b : Assignment) (events : List Event) → MeansPairs n b (edge [] (whole slots events)) (λ p q. ⊥)
no-edges slots n b events c next x y p q agrees room less_x less_y only_p only_q = (
  (λ h.
      let each = (WSat-and_list c next (or_list next [] ∷ or_list next [] ∷ or_list next [] ∷ [])).0 h in
      let some = (law-or_list next [] c agrees.finite).0 each.0 in
      Contains-none (some.0) (some.1)),
  (λ h. absurd h),
)

part-value : (types : List TypeEntry) (vars : List VarEntry) (slots n : ℕ) → track_count types vars ≤ n → (values : List Sym) (events : List Event) →
    All (IsSymBelow n) values → AreEventsBelow n events → HasValue n (is_part types (whole slots events) values n)
part-value [] vars slots n few values events under past next b less finite =
    let (depth, short, made) = some-depth n slots b events finite in
    part-found [] vars slots n few values events under past next b less finite (λ p q. ⊥) (no-edges slots n b events) depth short
    (λ p q leads. absurd leads)
part-value (t ∷ types) vars slots n few values events under past next b less finite =
    let some : 0 < n = (let there = type-track t types vars in omega (arith, there, few)) in
    let (depth, short, made) = some-depth n slots b events finite in
    part-found (t ∷ types) vars slots n few values events under past next b less finite (EdgeAt (t ∷ types) slots b events)
    (edge-means (t ∷ types) slots b vars n few some events past) depth short
    (λ p q leads. alive-short (t ∷ types) vars slots n few some b depth short events q made leads.1)

pub part-defining : (types : List TypeEntry) (vars : List VarEntry) (slots n : ℕ) → track_count types vars ≤ n → (values : List Sym) (events : List Event) →
    All (IsSymBelow n) values → AreEventsBelow n events → IsDefining n (is_part types (whole slots events) values n)
part-defining types vars slots n few values events under past =
    defining n (is_part types (whole slots events) values n) (part-steady types vars slots n few values events under past)
    (part-value types vars slots n few values events under past)
