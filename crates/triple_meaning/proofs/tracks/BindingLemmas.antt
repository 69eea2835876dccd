-- Binding the tracks that were made means that they have values, and they have some.
use Rattle.std.proofs.Common.{◌≡◌, ◌≢◌, ◌↔◌, inl, inr, ℕ, suc, ◌+◌, ◌<◌, ◌≤◌, Bool, true, false, cond, List, [], ◌∷◌, ◌++◌, length, map, reverse, All, refl}
use Rattle.std.proofs.Common.{sym, ap, ◌∙◌, subst, arith, length-append}
use Rattle.std.proofs.lemmas.Bool.{cases_eq, false≢true}
use Rattle.std.proofs.lemmas.List.{reverse-append}
use Rattle.std.proofs.lemmas.List.Elements.{All-nil, All-cons, All-head, All-tail}
use Rattle.gta_theory.specs.Assignments.{PositionSet, Assignment, IsFinite, IsFiniteSet, replace}
use Rattle.gta_theory.proofs.AssignmentsLemmas.{replace-same, replace-other}
use Rattle.ws2s_core.specs.declared.formula.Formula.{Formula}
use Rattle.ws2s_core.specs.declared.formula.Formula.TheVariants.{And, Ex2}
use Rattle.ws2s_core.specs.Satisfaction.{WSat}
use Rattle.ws2s_core.specs.Tracks.{is_free, IsFree}
use Rattle.ws2s_core.proofs.SatisfactionLemmas.{WSat-And, WSat-Ex2}
use Rattle.ws2s_core.proofs.TracksLemmas.{WSat-free}
use Rattle.ws2s_theory.proofs.ContextsLemmas.{IsFinite-replace, WSat-unbound}
use Rattle.ws2s_forms.specs.Forms.{track}
use Rattle.site_list.specs.States.{Text}
use Rattle.site_list.specs.Triples.{bind}
use Rattle.triple_meaning.specs.Tracks.Defining.{IsDefining, AreDefining, IsWithOthers}
use Rattle.triple_meaning.proofs.tracks.ClearLemmas.{above, below}
use Rattle.triple_meaning.proofs.tracks.ShortLemmas.{less-or}

-- ---- the first track that was made is bound outermost

-- one track is bound where it is free
abbrev bound_one : ℕ → Formula → Formula → Formula
bound_one n d f = cond (is_free n f) (Ex2 (track n) (And d f)) f

bind-one : (first : ℕ) (d f : Formula) → bind first (d ∷ []) f ≡ bound_one first d f
bind-one first d f = (let same : first + 0 ≡ first = omega arith in
    ap (λ n. cond (is_free n f) (Ex2 (track n) (And d f)) f) same)

bind-last : (ds : List Formula) (first : ℕ) (d0 f : Formula) → bind first (ds ++ d0 ∷ []) f ≡ bind first (d0 ∷ []) (bind (suc first) ds f)
bind-last [] first d0 f = refl
bind-last (d ∷ earlier) first d0 f =
    let long : length (earlier ++ d0 ∷ []) ≡ length earlier + 1 = length-append earlier (d0 ∷ []) in
    let same : first + length (earlier ++ d0 ∷ []) ≡ suc first + length earlier = omega (arith, long) in
    ap (λ n. bind first (earlier ++ d0 ∷ []) (cond (is_free n f) (Ex2 (track n) (And d f)) f)) same
    ∙ bind-last earlier first d0 (cond (is_free (suc first + length earlier) f) (Ex2 (track (suc first + length earlier)) (And d f)) f)

bind-first : (first : ℕ) (ds : List Formula) (d0 f : Formula) → bind first (reverse (d0 ∷ ds)) f ≡ bound_one first d0 (bind (suc first) (reverse ds) f)
bind-first first ds d0 f =
    ap (λ es. bind first es f) (reverse-append (d0 ∷ []) ds) ∙ bind-last (reverse ds) first d0 f ∙ bind-one first d0 (bind (suc first) (reverse ds) f)

-- ---- assignments with others on some tracks

others-none : (first : ℕ) (a : Assignment) → IsFinite a → IsWithOthers first 0 a a
others-none first a finite = record { finite = finite; before = λ t less. refl; behind = λ t from. refl }

-- first one, and then those behind it
others-more : (first count : ℕ) (a b : Assignment) (set : PositionSet) → IsWithOthers (suc first) count (replace a first set) b →
    IsWithOthers first (suc count) a b
others-more first count a b set others = record {
  finite = others.finite;
  before = λ t less. others.before t (omega (arith, less)) ∙ replace-other a first t set (below first t less);
  behind = λ t from. others.behind t (omega (arith, from)) ∙ replace-other a first t set (above first t (omega (arith, from)));
}

others-less : (first count : ℕ) (a b : Assignment) → IsWithOthers first (suc count) a b → IsWithOthers (suc first) count (replace a first (b first)) b
others-less first count a b others = record {
  finite = others.finite;
  before = λ t less. elim (cases_eq t first) as (λ _. b t ≡ replace a first (b first) t) [
    | inl same ↦ subst (λ u. b u ≡ replace a first (b first) u) (sym same) (sym (replace-same a first (b first)))
    | inr other ↦ others.before t (under t less other) ∙ sym (replace-other a first t (b first) other)
  ];
  behind = λ t from. others.behind t (omega (arith, from)) ∙ sym (replace-other a first t (b first) (above first t (omega (arith, from))));
}
  where
    under : (t : ℕ) → t < suc first → t ≢ first → t < first
    under t less other = elim (less-or t first) as (λ _. t < first) [
      | inl is ↦ is
      | inr from ↦ absurd (other (omega (arith, less, from)))
    ]

module _ (next : ℕ) where
  abbrev formulas_of : List Text → List Formula
  formulas_of texts = map (λ text. text next) texts

  abbrev AllHold : List Text → Assignment → Type 0
  AllHold texts b = All (λ (text : Text). WSat (text next) b) texts

  -- what defines a track looks at no later one
  carried : (n count : ℕ) (text : Text) (c b : Assignment) → IsDefining n text → suc n + count ≤ next → IsWithOthers (suc n) count c b →
      WSat (text next) c ↔ WSat (text next) b
  carried n count text c b one room others = WSat-free (text next) c b (λ t free. sym (same t free))
    where
      same : (t : ℕ) → IsFree t (text next) → b t ≡ c t
      same t free = elim (less-or t (suc n)) as (λ _. b t ≡ c t) [
        | inl before ↦ others.before t before
        | inr from ↦ elim (less-or t (suc n + count)) as (λ _. b t ≡ c t) [
          | inl inside ↦ absurd (one.looks next t from (omega (arith, inside, room)) free)
          | inr behind ↦ others.behind t behind
        ]
      ]

  -- ---- values

  pub values-there : (texts : List Text) (first : ℕ) → AreDefining first texts → first + length texts ≤ next → (a : Assignment) → IsFinite a →
      (b : Assignment) × IsWithOthers first (length texts) a b × AllHold texts b
  values-there [] first are room a finite = (a, others-none first a finite, All-nil (λ (text : Text). WSat (text next) a))
  values-there (text ∷ texts) first are room a finite =
      let (set, bounded, holds) = are.0.value next a (omega (arith, room)) finite in
      let c = replace a first set in
      let (b, others, rest) = values-there texts (suc first) are.1 (omega (arith, room)) c (IsFinite-replace a first set finite bounded) in (
        b,
        others-more first (length texts) a b set others,
        All-cons (λ (t : Text). WSat (t next) b) text texts ((carried first (length texts) text c b are.0 (omega (arith, room)) others).0 holds) rest,
      )

  -- ---- binding

  abbrev HoldsWith : ℕ → List Text → Formula → Assignment → Type 0
  HoldsWith first texts f a = (b : Assignment) × IsWithOthers first (length texts) a b × AllHold texts b × WSat f b

  same-everywhere : (first : ℕ) (a b : Assignment) → IsWithOthers first 0 a b → (t : ℕ) → b t ≡ a t
  same-everywhere first a b others t = elim (less-or t first) as (λ _. b t ≡ a t) [
    | inl before ↦ others.before t before
    | inr from ↦ others.behind t (omega (arith, from))
  ]

  -- one track more, outermost
  module _ (text : Text) (texts : List Text) (first : ℕ) (one : IsDefining first text) (room : first + suc (length texts) ≤ next) (f g : Formula)
      (rest : (a : Assignment) → IsFinite a → WSat g a ↔ HoldsWith (suc first) texts f a) (a : Assignment) (finite : IsFinite a) where
    inside : suc first + length texts ≤ next
    inside = omega (arith, room)

    with-set : (set : PositionSet) → IsFiniteSet set → WSat (text next) (replace a first set) → WSat g (replace a first set) →
        HoldsWith first (text ∷ texts) f a
    with-set set bounded holds also =
        let c = replace a first set in
        let (b, others, all, last) = (rest c (IsFinite-replace a first set finite bounded)).0 also in (
          b,
          others-more first (length texts) a b set others,
          All-cons (λ (t : Text). WSat (t next) b) text texts ((carried first (length texts) text c b one inside others).0 holds) all,
          last,
        )

    outermost : (t : Bool) → is_free first g ≡ t → WSat (cond t (Ex2 (track first) (And (text next) g)) g) a ↔ HoldsWith first (text ∷ texts) f a
    outermost true is = (
      (λ h.
          let (set, bounded, both) = (WSat-Ex2 (track first) (And (text next) g) a).0 h in
          let parts = (WSat-And (text next) g (replace a first set)).0 both in
          with-set set bounded parts.0 parts.1),
      (λ (h : HoldsWith first (text ∷ texts) f a).
          let (b, others, all, last) = h in
          let c = replace a first (b first) in
          let less = others-less first (length texts) a b others in
          let own = All-head (λ (t : Text). WSat (t next) b) text texts all in
          (WSat-Ex2 (track first) (And (text next) g) a).1 (
            b first,
            others.finite first,
            (WSat-And (text next) g c).1 (
              (carried first (length texts) text c b one inside less).1 own,
              (rest c (IsFinite-replace a first (b first) finite (others.finite first))).1
                  (b, less, All-tail (λ (t : Text). WSat (t next) b) text texts all, last),
            ),
          )),
    )
    outermost false is = (
      (λ h.
          let (set, bounded, holds) = one.value next a (omega (arith, room)) finite in
          with-set set bounded holds ((WSat-unbound g first a set unfree).0 h)),
      (λ (h : HoldsWith first (text ∷ texts) f a).
          let (b, others, all, last) = h in
          let c = replace a first (b first) in
          (WSat-unbound g first a (b first) unfree).1
          ((rest c (IsFinite-replace a first (b first) finite (others.finite first))).1
          (b, others-less first (length texts) a b others, All-tail (λ (t : Text). WSat (t next) b) text texts all, last))),
    )
      where
        unfree : IsFree first g → ⊥
        unfree free = false≢true (sym is ∙ free)

  pub bound-means : (texts : List Text) (first : ℕ) → AreDefining first texts → first + length texts ≤ next → (f : Formula) (a : Assignment) → IsFinite a →
      WSat (bind first (reverse (formulas_of texts)) f) a ↔ HoldsWith first texts f a
  bound-means [] first are room f a finite = (
    (λ h. (a, others-none first a finite, All-nil (λ (text : Text). WSat (text next) a), h)),
    (λ (h : HoldsWith first [] f a).
        let (b, others, all, holds) = h in
        (WSat-free f b a (λ t free. same-everywhere first a b others t)).0 holds),
  )
  bound-means (text ∷ texts) first are room f a finite =
      let g : Formula = bind (suc first) (reverse (formulas_of texts)) f in
      let is = bind-first first (formulas_of texts) (text next) f in
      let means = outermost text texts first are.0 (omega (arith, room)) f g
      (λ c c_finite. bound-means texts (suc first) are.1 (omega (arith, room)) f c c_finite) a finite (is_free first g) refl in (
        (λ h. means.0 (subst (λ e. WSat e a) is h)),
        (λ h. subst (λ e. WSat e a) (sym is) (means.1 h)),
      )
