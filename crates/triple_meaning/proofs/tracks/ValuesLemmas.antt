-- Values of tracks that are made for truths, for what stands for variables after both ways, and for new cells.
use Rattle.std.proofs.Common.{inl, inr, ℕ, suc, ◌<◌, ◌≤◌, [], refl, sym, ap, ◌∙◌, arith}
use Rattle.gta_theory.specs.Assignments.{PositionSet, Assignment, IsFinite, IsFiniteSet, replace, no_positions}
use Rattle.gta_theory.proofs.AssignmentsLemmas.{replace-same, replace-other}
use Rattle.ws2s_core.specs.declared.formula.Formula.{Formula}
use Rattle.ws2s_core.specs.declared.formula.Formula.TheVariants.{And, Not, Root}
use Rattle.ws2s_core.specs.Satisfaction.{WSat}
use Rattle.ws2s_core.specs.Tracks.{IsFree}
use Rattle.ws2s_core.proofs.SatisfactionLemmas.{WSat-And, WSat-Not, WSat-Root}
use Rattle.ws2s_theory.proofs.ContextsLemmas.{IsFinite-replace, WSat-unbound}
use Rattle.ws2s_forms.specs.Forms.{track, flag, empty_at, slot}
use Rattle.ws2s_forms.specs.Places.{just, slot_of}
use Rattle.ws2s_forms.proofs.PositionsLemmas.{IsFiniteSet-just}
use Rattle.ws2s_forms.proofs.GoingLemmas.{WSat-slot}
use Rattle.ws2s_forms.proofs.LawsLemmas.{decided, law-or, law-empty, law-equal}
use Rattle.graph_view.specs.declared.view.Sym.{Sym}
use Rattle.graph_view.specs.declared.view.Sym.TheVariants.{Null, At}
use Rattle.graph_view.specs.Syms.{is_same}
use Rattle.graph_view.specs.After.{IsSymBelow}
use Rattle.graph_meaning.proofs.live.AgreeingLemmas.{IsOnly-bound}
use Rattle.site_list.specs.States.{Text, is_truth_of}
use Rattle.site_list.specs.Codes.{is_merged}
use Rattle.triple_meaning.specs.Tracks.Defining.{IsDefining}
use Rattle.triple_meaning.proofs.tracks.ClearLemmas.{below, IsClear, clear-unfree, clear-Root, clear-And, clear-Not, clear-or, clear-empty, clear-flag}
use Rattle.triple_meaning.proofs.tracks.ClearLemmas.{clear-slot}
use Rattle.triple_meaning.proofs.tracks.SightClearLemmas.{clear-is_same}
use Rattle.triple_meaning.proofs.tracks.BelowLemmas.{sym-later}

-- no track from the number on, below those that quantifiers bind, is free in the text's formula
abbrev pub IsSteady : ℕ → Text → Type 0
IsSteady n text = (next t : ℕ) → n ≤ t → t < next → IsClear t (text next)

pub steady-more : (n m : ℕ) (text : Text) → n ≤ m → IsSteady n text → IsSteady m text
steady-more n m text less steady next t from under = steady next t (omega (arith, less, from)) under

-- some set on the track satisfies the text's formula
abbrev pub HasValue : ℕ → Text → Type 0
HasValue n text = (next : ℕ) (b : Assignment) → n < next → IsFinite b → (set : PositionSet) × IsFiniteSet set × WSat (text next) (replace b n set)

pub defining : (n : ℕ) (text : Text) → IsSteady (suc n) text → HasValue n text → IsDefining n text
defining n text steady value = record {
  looks = λ next t from under. clear-unfree t (text next) (steady next t from under);
  value = value;
}

none-finite : IsFiniteSet no_positions
none-finite = (0, λ p deep. refl)

-- ---- truths

pub truth-steady : (n : ℕ) (text : Text) → IsSteady n text → IsSteady (suc n) (is_truth_of text n)
truth-steady n text steady next t from under =
    let no_n = below t n (omega (arith, from)) in
    let said = steady next t (omega (arith, from)) under in
    clear-or t (And (Root (track n)) (text next)) (And (empty_at next n) (Not (text next)))
    (clear-And t (Root (track n)) (text next) (clear-Root t (track n) no_n) said)
    (clear-And t (empty_at next n) (Not (text next)) (clear-empty t next n under no_n) (clear-Not t (text next) said))

pub truth-value : (n : ℕ) (text : Text) → IsSteady n text → HasValue n (is_truth_of text n)
truth-value n text steady next b less finite = elim (decided (text next) b finite)
    as (λ _. (set : PositionSet) × IsFiniteSet set × WSat (is_truth_of text n next) (replace b n set)) [
      | inl holds ↦ (
        just [],
        IsFiniteSet-just [],
        (law-or when_so when_not (replace b n (just [])) (IsFinite-replace b n (just []) finite (IsFiniteSet-just []))).1
            (inl ((WSat-And (Root (track n)) (text next) (replace b n (just []))).1 (
              (WSat-Root (track n) (replace b n (just []))).1 (IsOnly-bound b n []),
              (WSat-unbound (text next) n b (just []) unfree).0 holds,
            ))),
      )
      | inr lacks ↦ (
        no_positions,
        none-finite,
        (law-or when_so when_not (replace b n no_positions) (IsFinite-replace b n no_positions finite none-finite)).1
            (inr ((WSat-And (empty_at next n) (Not (text next)) (replace b n no_positions)).1 (
              (law-empty next n (replace b n no_positions) less).1 (λ p. ap (λ (set : PositionSet). set p) (replace-same b n no_positions)),
              (WSat-Not (text next) (replace b n no_positions)).1 (λ h. lacks ((WSat-unbound (text next) n b no_positions unfree).1 h)),
            ))),
      )
    ]
  where
    when_so : Formula
    when_so = And (Root (track n)) (text next)

    when_not : Formula
    when_not = And (empty_at next n) (Not (text next))

    unfree : IsFree n (text next) → ⊥
    unfree = clear-unfree n (text next) (steady next n (omega arith) less)

pub truth-defining : (n : ℕ) (text : Text) → IsSteady n text → IsDefining n (is_truth_of text n)
truth-defining n text steady = defining n (is_truth_of text n) (truth-steady n text steady) (truth-value n text steady)

-- ---- values after both ways

-- the set of what stands for a value
set_of : Assignment → Sym → PositionSet
set_of b Null = no_positions
set_of b (At x) = b x.0

set-finite : (b : Assignment) (u : Sym) → IsFinite b → IsFiniteSet (set_of b u)
unfolding set_of
set-finite b Null finite = none-finite
set-finite b (At x) finite = finite x.0

set-same : (m next : ℕ) (b : Assignment) (u : Sym) → m < next → IsSymBelow m u → WSat (is_same next (At (track m)) u) (replace b m (set_of b u))
unfolding set_of
set-same m next b Null less under =
    (law-empty next m (replace b m no_positions) less).1 (λ p. ap (λ (set : PositionSet). set p) (replace-same b m no_positions))
set-same m next b (At y) less under =
    (law-equal m y.0 (replace b m (b y.0))).1 (λ p.
    ap (λ (set : PositionSet). set p) (replace-same b m (b y.0) ∙ sym (replace-other b m y.0 (b y.0) (below m y.0 under))))

module _ (h m : ℕ) (u w : Sym) (before : h < m) (one : IsSymBelow m u) (other : IsSymBelow m w) where
  merged-steady : IsSteady (suc m) (is_merged h u w m)
  merged-steady next t from under =
      let past : m < t = omega (arith, from) in
      let flagged = clear-flag t next h under (below t h (omega (arith, from, before))) in
      clear-or t (And (flag next h) (is_same next (At (track m)) u)) (And (Not (flag next h)) (is_same next (At (track m)) w))
      (clear-And t (flag next h) (is_same next (At (track m)) u) flagged
      (clear-is_same t next (At (track m)) u under past (sym-later m t u (omega (arith, past)) one)))
      (clear-And t (Not (flag next h)) (is_same next (At (track m)) w) (clear-Not t (flag next h) flagged)
      (clear-is_same t next (At (track m)) w under past (sym-later m t w (omega (arith, past)) other)))

  merged-value : HasValue m (is_merged h u w m)
  merged-value next b less finite = elim (decided (flag next h) b finite)
      as (λ _. (set : PositionSet) × IsFiniteSet set × WSat (is_merged h u w m next) (replace b m set)) [
        | inl holds ↦ (
          set_of b u,
          set-finite b u finite,
          (law-or when_so when_not (replace b m (set_of b u)) (IsFinite-replace b m (set_of b u) finite (set-finite b u finite))).1
              (inl ((WSat-And (flag next h) (is_same next (At (track m)) u) (replace b m (set_of b u))).1 (
                (WSat-unbound (flag next h) m b (set_of b u) unfree).0 holds,
                set-same m next b u less one,
              ))),
        )
        | inr lacks ↦ (
          set_of b w,
          set-finite b w finite,
          (law-or when_so when_not (replace b m (set_of b w)) (IsFinite-replace b m (set_of b w) finite (set-finite b w finite))).1
              (inr ((WSat-And (Not (flag next h)) (is_same next (At (track m)) w) (replace b m (set_of b w))).1 (
                (WSat-Not (flag next h) (replace b m (set_of b w))).1 (λ k. lacks ((WSat-unbound (flag next h) m b (set_of b w) unfree).1 k)),
                set-same m next b w less other,
              ))),
        )
      ]
    where
      when_so : Formula
      when_so = And (flag next h) (is_same next (At (track m)) u)

      when_not : Formula
      when_not = And (Not (flag next h)) (is_same next (At (track m)) w)

      unfree : IsFree m (flag next h) → ⊥
      unfree = clear-unfree m (flag next h) (clear-flag m next h less (below m h before))

  pub merged-defining : IsDefining m (is_merged h u w m)
  merged-defining = defining m (is_merged h u w m) merged-steady merged-value

-- ---- new cells

pub slot-defining : (n i : ℕ) → IsDefining n (λ next. slot next i n)
slot-defining n i =
    defining n (λ next. slot next i n) (λ next t from under. clear-slot t next i n under (below t n (omega (arith, from)))) (λ next b less finite. (
      just (slot_of i),
      IsFiniteSet-just (slot_of i),
      (WSat-slot next i n (replace b n (just (slot_of i))) less).1 (IsOnly-bound b n (slot_of i)),
    ))
