-- The part of a space, and joiners that go on fitting.
use Rattle.std.proofs.Common.{◌≡◌, ◌≢◌, ℕ, zero, suc, ◌<◌, List, [], ◌∷◌, length, Option, Some, None, get_or, slice_get}
use Rattle.std.proofs.Common.{refl, sym, ◌∙◌, ap, subst, inl, inr, arith}
use Rattle.std.specs.Prelude.{slice_set, IsSome}
use Rattle.std.proofs.lemmas.Bool.Decides.{eqb_tells}
use Rattle.std.proofs.lemmas.Option.{slice_get_within, slice_get-get_or}
use Rattle.bdd_nodes.specs.Shelf.{Contents}
use Rattle.bdd_nodes.specs.Changes.{Keeps}
use Rattle.bdd_walk.specs.declared.joiner.Joiner.{Joiner}
use Rattle.bdd_walk.specs.Fits.{Fits}
use Rattle.bdd_walk.proofs.FitsLemmas.{Fits-kept}
use Rattle.gta_theory.specs.Guides.{Spaces, IsGuide, IsSpace, left, right}
use Rattle.gta_theory.specs.Automata.{Automaton}
use Rattle.gta_theory.specs.Constructions.{pairs}
use Rattle.gta_theory.specs.Generated.{Generated}
use Rattle.gta_core.specs.declared.part.Part.{Part}
use Rattle.gta_core.specs.Auto.{AutoView, guide_of, root_at, automaton_of, IsAuto}
use Rattle.gta_product.specs.Numbers.{numbered}
use Rattle.gta_product.specs.Building.{AreSpaces, FitAll}
use Rattle.gta_product.proofs.ShelfLemmas.{row-within, column-within, AreBelow, generated-below}
use Rattle.gta_product.proofs.BuildingLemmas.{SetsSpace}

pub get-set : {X : Type 0} (xs : List X) (i : ℕ) (x : X) → i < length xs → slice_get (slice_set xs i x) i ≡ Some x
get-set [] i x within = absurd (omega arith)
get-set (y ∷ ys) zero x within = refl
get-set (y ∷ ys) (suc i) x within = get-set ys i x (omega arith)

pub get-set_other : {X : Type 0} (xs : List X) (i t : ℕ) (x : X) → t ≢ i → slice_get (slice_set xs i x) t ≡ slice_get xs t
get-set_other [] i t x other = refl
get-set_other (y ∷ ys) zero zero x other = absurd (other refl)
get-set_other (y ∷ ys) zero (suc t) x other = refl
get-set_other (y ∷ ys) (suc i) zero x other = refl
get-set_other (y ∷ ys) (suc i) (suc t) x other = get-set_other ys i t x (λ same. other (ap suc same))

pub length-set_at : {X : Type 0} (xs : List X) (i : ℕ) (x : X) → length (slice_set xs i x) ≡ length xs
length-set_at [] i x = refl
length-set_at (y ∷ ys) zero x = refl
length-set_at (y ∷ ys) (suc i) x = ap suc (length-set_at ys i x)

pub SetsSpace-at : (old : List (List (ℕ × ℕ))) (s : ℕ) (before after : List (ℕ × ℕ)) → slice_get old s ≡ Some before →
    SetsSpace old (slice_set old s after) s before after
SetsSpace-at old s before after was = record {
  many = length-set_at old s after;
  was = was;
  is = get-set old s after (slice_get_within old s before was);
  others = λ t other. get-set_other old s t after other;
}

same_joiner : (a b : Joiner) → ◌≡◌ {A = Option Joiner} (Some a) (Some b) → a ≡ b
same_joiner a b e = cc

same_pairs : (a b : List (ℕ × ℕ)) → ◌≡◌ {A = Option (List (ℕ × ℕ))} (Some a) (Some b) → a ≡ b
same_pairs a b e = cc

-- a joiner has gone on
pub FitAll-set : (shelf now : Contents) (joiners : List Joiner) (old new : List (List (ℕ × ℕ))) (s : ℕ) (joiner : Joiner)
    (before after : List (ℕ × ℕ)) → Keeps shelf now → s < length joiners → FitAll shelf joiners old → SetsSpace old new s before after →
    Fits joiner None now (numbered after) → FitAll now (slice_set joiners s joiner) new
FitAll-set shelf now joiners old new s joiner before after keeps within fits sets here = record {
  many = length-set_at joiners s joiner ∙ fits.many ∙ sym sets.many;
  each = λ t other pairs at_joiner at_pairs. elim (eqb_tells t s) [
    | inl same ↦
        let is_joiner = ap (slice_get (slice_set joiners s joiner)) (sym same.1) ∙ at_joiner in
        let is_pairs = ap (slice_get new) (sym same.1) ∙ at_pairs in
        subst (λ (j : Joiner). Fits j None now (numbered pairs)) (same_joiner _ _ (sym (get-set joiners s joiner within) ∙ is_joiner))
        (subst (λ (ps : List (ℕ × ℕ)). Fits joiner None now (numbered ps)) (same_pairs _ _ (sym sets.is ∙ is_pairs)) here)
    | inr apart ↦ Fits-kept shelf now (numbered pairs) (numbered pairs) keeps (λ states n there. there) other None
        (fits.each t other pairs (sym (get-set_other joiners s t joiner apart.1) ∙ at_joiner) (sym (sets.others t apart.1) ∙ at_pairs))
  ];
}

length-guide : (parts : List Part) → length (guide_of (record { table = 0; parts = parts; accepting = [] })) ≡ length parts
length-guide [] = refl
length-guide (part ∷ parts) = ap suc (length-guide parts)

pub parts-length : (g : Spaces) (shelf : Contents) (a : AutoView) → IsAuto g shelf a → length a.parts ≡ length g
parts-length g shelf a auto = sym (length-guide a.parts) ∙ ap (λ (spaces : Spaces). length spaces) auto.over

-- the rows and the columns of a space have roots in both
module _ (g : Spaces) (guide : IsGuide g) (shelf : Contents) (a b : AutoView) (auto_a : IsAuto g shelf a) (auto_b : IsAuto g shelf b)
    (spaces : List (List (ℕ × ℕ))) (are : AreSpaces g (pairs (automaton_of shelf a) (automaton_of shelf b)) spaces) (s : ℕ) (inside : IsSpace g s) where
  below-at : (child : ℕ) (list : List (ℕ × ℕ)) → slice_get spaces child ≡ Some list → (k : ℕ) (p : ℕ × ℕ) → slice_get list k ≡ Some p → AreBelow a b child p
  below-at child list is k p there = generated-below g shelf a b auto_a auto_b child p ((are.each child list is).generated k p there)

  module _ (part_a part_b : Part) (in_a : slice_get a.parts s ≡ Some part_a) (in_b : slice_get b.parts s ≡ Some part_b) where
    pub row-inside : (lefts : List (ℕ × ℕ)) → slice_get spaces (left g s) ≡ Some lefts → (k : ℕ) (p : ℕ × ℕ) → slice_get lefts k ≡ Some p →
        (p.0 < length part_a.rows) × (p.1 < length part_b.rows)
    row-inside lefts at_left k p there =
        let below = below-at (left g s) lefts at_left k p there in (
          row-within g guide shelf a auto_a s inside part_a in_a p.0 below.first,
          row-within g guide shelf b auto_b s inside part_b in_b p.1 below.second,
        )

    pub column-inside : (rights : List (ℕ × ℕ)) → slice_get spaces (right g s) ≡ Some rights → (k : ℕ) (p : ℕ × ℕ) → slice_get rights k ≡ Some p →
        (p.0 < length part_a.columns) × (p.1 < length part_b.columns)
    column-inside rights at_right k p there =
        let below = below-at (right g s) rights at_right k p there in (
          column-within g guide shelf a auto_a s inside part_a in_a p.0 below.first,
          column-within g guide shelf b auto_b s inside part_b in_b p.1 below.second,
        )

-- generated pairs of the children have roots in both
module _ (g : Spaces) (shelf : Contents) (a b : AutoView) (auto_a : IsAuto g shelf a) (auto_b : IsAuto g shelf b) (s : ℕ) (inside : IsSpace g s)
    (p q : ℕ × ℕ) (at_left : Generated g (pairs (automaton_of shelf a) (automaton_of shelf b)) (left g s) p)
    (at_right : Generated g (pairs (automaton_of shelf a) (automaton_of shelf b)) (right g s) q) where
  below_left : AreBelow a b (left g s) p
  below_left = generated-below g shelf a b auto_a auto_b (left g s) p at_left

  below_right : AreBelow a b (right g s) q
  below_right = generated-below g shelf a b auto_a auto_b (right g s) q at_right

  pub generated-first : IsSome (root_at shelf a s p.0 q.0)
  generated-first = (auto_a.complete s p.0 q.0).1 (inside, (below_left.first, below_right.first))

  pub generated-second : IsSome (root_at shelf b s p.1 q.1)
  generated-second = (auto_b.complete s p.1 q.1).1 (inside, (below_left.second, below_right.second))

pub get-at : {X : Type 0} (xs : List X) (i : ℕ) (x : X) → i < length xs → x ≡ get_or xs i x → slice_get xs i ≡ Some x
get-at {X} xs i x within is = slice_get-get_or xs i x within ∙ ap (λ (y : X). let o : Option X = Some y in o) (sym is)

-- the pairs of a child
pub at-child : (g : Spaces) (AB : Automaton (ℕ × ℕ)) (spaces : List (List (ℕ × ℕ))) → AreSpaces g AB spaces → (child : ℕ) → IsSpace g child →
    (index : ℕ) → index ≡ child → (held slice : List (ℕ × ℕ)) → held ≡ get_or spaces index held → slice ≡ held → slice_get spaces child ≡ Some slice
at-child g AB spaces are child inside index same held slice is lent =
    ap (slice_get spaces) (sym same) ∙ get-at spaces index held (omega (arith, are.many, same, inside)) is
    ∙ ap (λ (ps : List (ℕ × ℕ)). let o : Option (List (ℕ × ℕ)) = Some ps in o) (sym lent)

-- the part of a space
pub part-at : (g : Spaces) (shelf : Contents) (a : AutoView) → IsAuto g shelf a → (s : ℕ) → IsSpace g s → (slice : List Part) (part : Part) →
    slice ≡ a.parts → part ≡ get_or slice s part → slice_get a.parts s ≡ Some part
part-at g shelf a auto s inside slice part lent is =
    get-at a.parts s part (omega (arith, parts-length g shelf a auto, inside)) (is ∙ ap (λ (ps : List Part). get_or ps s part) lent)
