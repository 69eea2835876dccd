-- On contexts by numbers.
use Rattle.std.proofs.Common.{◌≡◌, ◌⊎◌, ℕ, ◌<◌, List, [], ◌∷◌, ◌++◌, length, option_map, slice_get, All, Contains, Option, Some, None}
use Rattle.std.proofs.Common.{refl, sym, ap, ap₂, subst, ◌∙◌, arith, inl, inr}
use Rattle.std.proofs.Common.{Bool, true, false, ◌||◌, zero, suc, get_or, Vec, Result, Ok, Err, IfOk}
use Rattle.std.specs.declared.alloc.Global.{Global}
use Rattle.std.proofs.lemmas.Bool.{false≢true}
use Rattle.std.proofs.lemmas.List.Elements.{All-nil, All-cons, All-head, All-tail, All-weaker, All-push, Contains-push_cases}
use Rattle.gta_theory.specs.Assignments.{Assignment, IsFinite}
use Rattle.gta_theory.proofs.ListsLemmas.{All-from_contains, Contains-none}
use Rattle.ws2s_core.specs.declared.track.Track.{Track}
use Rattle.ws2s_core.specs.declared.formula.Formula.{Formula}
use Rattle.ws2s_core.specs.declared.formula.Formula.TheVariants.{And, Not, Ex2, rolls-And, rolls-Not, rolls-Ex2}
use Rattle.ws2s_core.specs.declared.node.FormulaId.{FormulaId}
use Rattle.ws2s_core.specs.declared.node.Node.{Node}
use Rattle.ws2s_core.specs.Nodes.{formula_of_node, HasPartsBelow, Extends}
use Rattle.ws2s_core.specs.Satisfaction.{WSat}
use Rattle.ws2s_core.specs.Tracks.{is_free, is_free_in_node, IsFree}
use Rattle.ws2s_core.proofs.FormulaLemmas.{fold-And}
use Rattle.ws2s_core.proofs.NodesLemmas.{formula_at-is}
use Rattle.ws2s_core.proofs.SatisfactionLemmas.{WSat-And}
use Rattle.ws2s_theory.specs.Contexts.{SatisfiesAll}
use Rattle.ws2s_theory.proofs.ContextsLemmas.{WSat-quantified}
pub use Rattle.ws2s_lean.proofs.NumbersLemmas.{Extends-refl, Extends-trans, at-extends, there-extends, made-And, made-Not, made-Ex2, there-made}
pub use Rattle.ws2s_lean.proofs.NumbersLemmas.{parts-And, parts-Not, parts-Ex2}
use Rattle.ws2s_facts.specs.Conjuncts.{IsThere, IsContext, IsConjunct, IsUnbound, IsAmong, formula_of, context_at, Implies, after, joined, formulas_at}

-- what holds of all holds of each
pub All-contains : {X : Type 0} (P : X → Type 0) (xs : List X) (x : X) → All P xs → Contains xs x → P x
All-contains P xs x all there = subst P there.2 (all there.0 x there.1)

-- formulas keep their numbers
pub context-extends : (old new : List Formula) (c : Option FormulaId) → Extends old new → IsContext old c → context_at new c ≡ context_at old c
context-extends old new None h there = refl
context-extends old new (Some id) h there = ap (λ f. f ∷ []) (at-extends old new id h there)

pub IsContext-extends : (old new : List Formula) (c : Option FormulaId) → Extends old new → IsContext old c → IsContext new c
IsContext-extends old new None h there = tt
IsContext-extends old new (Some id) h there = there-extends old new id h there

pub all_there-extends : (old new : List Formula) (ids : List FormulaId) → Extends old new → All (IsThere old) ids → All (IsThere new) ids
all_there-extends old new ids h all = All-weaker (IsThere old) (IsThere new) (λ id there. there-extends old new id h there) ids all

pub formulas_at-extends : (old new : List Formula) (ids : List FormulaId) → Extends old new → All (IsThere old) ids →
    formulas_at new ids ≡ formulas_at old ids
formulas_at-extends old new [] h all = refl
formulas_at-extends old new (id ∷ ids) h all =
    ap₂ (λ f fs. f ∷ fs) (at-extends old new id h (All-head (IsThere old) id ids all))
    (formulas_at-extends old new ids h (All-tail (IsThere old) id ids all))

-- the formula at a number, by its form
pub at-And : (formulas : List Formula) (id f g : FormulaId) →
    option_map (formula_of_node formulas) (Some (Node.And f g)) ≡ slice_get formulas id.0 → formula_of formulas id ≡ And (formula_of formulas f)
    (formula_of formulas g)
at-And formulas id f g e = formula_at-is formulas id.0 _ (sym e) ∙ rolls-And (formula_of formulas f) (formula_of formulas g)

pub at-Not : (formulas : List Formula) (id f : FormulaId) →
    option_map (formula_of_node formulas) (Some (Node.Not f)) ≡ slice_get formulas id.0 → formula_of formulas id ≡ Not (formula_of formulas f)
at-Not formulas id f e = formula_at-is formulas id.0 _ (sym e) ∙ rolls-Not (formula_of formulas f)

pub at-Ex2 : (formulas : List Formula) (t : Track) (id f : FormulaId) →
    option_map (formula_of_node formulas) (Some (Node.Ex2 t f)) ≡ slice_get formulas id.0 → formula_of formulas id ≡ Ex2 t (formula_of formulas f)
at-Ex2 formulas t id f e = formula_at-is formulas id.0 _ (sym e) ∙ rolls-Ex2 t (formula_of formulas f)

pub halves-below : (k : ℕ) (f g : FormulaId) → HasPartsBelow k (Node.And f g) → (f.0 < k) × (g.0 < k)
halves-below k f g h =
    (All-head (λ part. part < k) f.0 (g.0 ∷ []) h, All-head (λ part. part < k) g.0 [] (All-tail (λ part. part < k) f.0 (g.0 ∷ []) h))

pub part-below_not : (k : ℕ) (f : FormulaId) → HasPartsBelow k (Node.Not f) → f.0 < k
part-below_not k f h = All-head (λ part. part < k) f.0 [] h

pub part-below_ex2 : (k : ℕ) (t : Track) (f : FormulaId) → HasPartsBelow k (Node.Ex2 t f) → f.0 < k
part-below_ex2 k t f h = All-head (λ part. part < k) f.0 [] h

-- implications
pub Implies-refl : (context : List Formula) → Implies context context
Implies-refl context = record { satisfied = λ a finite all. all }

pub Implies-trans : (a b c : List Formula) → Implies a b → Implies b c → Implies a c
Implies-trans a b c first second = record { satisfied = λ s finite all. second.satisfied s finite (first.satisfied s finite all) }

pub Implies-nil : (context : List Formula) → Implies context []
Implies-nil context = record { satisfied = λ a finite all. All-nil (λ c. WSat c a) }

pub Implies-one : (context : List Formula) (f : Formula) → ((a : Assignment) → IsFinite a → SatisfiesAll context a → WSat f a) → Implies context (f ∷ [])
Implies-one context f h = record { satisfied = λ a finite all. All-cons (λ c. WSat c a) f [] (h a finite all) (All-nil (λ c. WSat c a)) }

pub one-implied : (context : List Formula) (f : Formula) → Implies context (f ∷ []) → (a : Assignment) → IsFinite a → SatisfiesAll context a → WSat f a
one-implied context f h a finite all = All-head (λ c. WSat c a) f [] (h.satisfied a finite all)

pub Implies-head : (f : Formula) (context : List Formula) → Implies (f ∷ context) (f ∷ [])
Implies-head f context = Implies-one (f ∷ context) f (λ a finite all. All-head (λ c. WSat c a) f context all)

pub Implies-tail : (f : Formula) (context : List Formula) → Implies (f ∷ context) context
Implies-tail f context = record { satisfied = λ a finite all. All-tail (λ c. WSat c a) f context all }

-- conjuncts
pub IsConjunct-quantified : (old new : List Formula) (id made next : FormulaId) (t : Track) → Extends old new → IsThere old id →
    IsConjunct old (formula_of old id ∷ []) made → formula_of new next ≡ Ex2 t (formula_of old made) → IsThere new next →
    IsConjunct new (formula_of new id ∷ []) next
IsConjunct-quantified old new id made next t h there one is next_there = record {
  there = next_there;
  implied = Implies-one (formula_of new id ∷ []) (formula_of new next)
      (λ a finite all. subst (λ f. WSat f a) (sym is) (WSat-quantified t (formula_of old made) a finite
      (one-implied (formula_of old id ∷ []) (formula_of old made) one.implied a finite
      (subst (λ f. SatisfiesAll (f ∷ []) a) (at-extends old new id h there) all))));
}

pub IsConjunct-itself : (formulas : List Formula) (id : FormulaId) → IsThere formulas id → IsConjunct formulas (formula_of formulas id ∷ []) id
IsConjunct-itself formulas id there = record { there = there; implied = Implies-refl (formula_of formulas id ∷ []) }

pub IsConjunct-halves : (formulas context : List Formula) (id f g : FormulaId) → IsConjunct formulas context id →
    formula_of formulas id ≡ And (formula_of formulas f) (formula_of formulas g) → f.0 < id.0 → g.0 < id.0 →
    IsConjunct formulas context f × IsConjunct formulas context g
IsConjunct-halves formulas context id f g h is left right =
    let both : (a : Assignment) → IsFinite a → SatisfiesAll context a → WSat (formula_of formulas f) a × WSat (formula_of formulas g) a =
    λ a finite all. (WSat-And (formula_of formulas f) (formula_of formulas g) a).0
    (subst (λ w. WSat w a) is (one-implied context (formula_of formulas id) h.implied a finite all)) in (
      record { there = omega (arith, h.there); implied = Implies-one context (formula_of formulas f) (λ a finite all. (both a finite all).0) },
      record { there = omega (arith, h.there); implied = Implies-one context (formula_of formulas g) (λ a finite all. (both a finite all).1) },
    )

pub IsConjunct-wider : (formulas context wider : List Formula) → Implies wider context → (ids : List FormulaId) →
    All (IsConjunct formulas context) ids → All (IsConjunct formulas wider) ids
IsConjunct-wider formulas context wider h ids all =
    All-weaker (IsConjunct formulas context) (IsConjunct formulas wider)
    (λ id one. record { there = one.there; implied = Implies-trans wider context _ h one.implied }) ids all

pub IsUnbound-conjuncts : (formulas context : List Formula) (t : ℕ) (ids : List FormulaId) → All (IsUnbound formulas context t) ids →
    All (IsConjunct formulas context) ids
IsUnbound-conjuncts formulas context t ids all =
    All-weaker (IsUnbound formulas context t) (IsConjunct formulas context) (λ id one. one.conjunct) ids all

pub IsConjunct-there : (formulas context : List Formula) (ids : List FormulaId) → All (IsConjunct formulas context) ids → All (IsThere formulas) ids
IsConjunct-there formulas context ids all = All-weaker (IsConjunct formulas context) (IsThere formulas) (λ id one. one.there) ids all

-- what was chosen has what the old ones and those that were to choose from have
pub All-among : (P : FormulaId → Type 0) (old others new : List FormulaId) → IsAmong old others new → All P old → All P others → All P new
All-among P old others new among in_old in_others =
    All-from_contains P new (λ id there. elim (among id there) as (λ _. P id) [
      | inl was ↦ All-contains P old id in_old was
      | inr other ↦ All-contains P others id in_others other
    ])

-- conjunctions of conjuncts
joined-All : (P : Formula → Type 0) → ((f g : Formula) → P f → P g → P (And f g)) → (first fs : List Formula) → All P first → All P fs →
    All P (joined first fs)
joined-All P and first [] in_first all = in_first
joined-All P and first (f ∷ fs) in_first all =
    joined-All P and (after first f) fs (put first in_first) (All-tail P f fs all)
  where
    put : (there : List Formula) → All P there → All P (after there f)
    put [] in_there = All-cons P f [] (All-head P f fs all) (All-nil P)
    put (g ∷ rest) in_there = All-cons P (And g f) [] (and g f (All-head P g rest in_there) (All-head P f fs all)) (All-nil P)

mapped-All : (formulas : List Formula) (P : Formula → Type 0) (ids : List FormulaId) → All (λ id. P (formula_of formulas id)) ids → All P
    (formulas_at formulas ids)
mapped-All formulas P [] all = All-nil P
mapped-All formulas P (id ∷ ids) all =
    All-cons P (formula_of formulas id) (formulas_at formulas ids) (All-head (λ i. P (formula_of formulas i)) id ids all)
    (mapped-All formulas P ids (All-tail (λ i. P (formula_of formulas i)) id ids all))

-- a conjunction of conjuncts is implied
pub Implies-joined : (formulas context : List Formula) (ids : List FormulaId) → All (IsConjunct formulas context) ids →
    Implies context (joined [] (formulas_at formulas ids))
Implies-joined formulas context ids all = record {
  satisfied = λ a finite holds.
      joined-All (λ c. WSat c a) (λ f g left right. (WSat-And f g a).1 (left, right)) [] (formulas_at formulas ids)
      (All-nil (λ c. WSat c a))
      (mapped-All formulas (λ c. WSat c a) ids
      (All-weaker (IsConjunct formulas context) (λ id. WSat (formula_of formulas id) a)
      (λ id one. one-implied context (formula_of formulas id) one.implied a finite holds) ids all));
}

-- a track that is free in no half isn't free in the conjunction
unbound-And : (t : ℕ) (f g : Formula) → (IsFree t f → ⊥) → (IsFree t g → ⊥) → IsFree t (And f g) → ⊥
unbound-And t f g left right free =
    pick (is_free t f) refl (is_free t g) refl
  where
    pick : (b : Bool) → is_free t f ≡ b → (d : Bool) → is_free t g ≡ d → ⊥
    pick true in_f d in_g = left in_f
    pick false in_f true in_g = right in_g
    pick false in_f false in_g = false≢true (sym (fold-And Bool (is_free_in_node t) f g ∙ ap₂ (λ b d. b || d) in_f in_g) ∙ free)

pub unbound-joined : (formulas context : List Formula) (t : ℕ) (ids : List FormulaId) → All (IsUnbound formulas context t) ids →
    All (λ c. IsFree t c → ⊥) (joined [] (formulas_at formulas ids))
unbound-joined formulas context t ids all =
    joined-All (λ c. IsFree t c → ⊥) (unbound-And t) [] (formulas_at formulas ids)
    (All-nil (λ c. IsFree t c → ⊥))
    (mapped-All formulas (λ c. IsFree t c → ⊥) ids
    (All-weaker (IsUnbound formulas context t) (λ id. IsFree t (formula_of formulas id) → ⊥) (λ id one. one.unbound) ids all))

-- one turn of the loop that puts conjuncts after a context
pub joined-turn : (a b c : List Formula) (rest more : List FormulaId) (id made : FormulaId) (context : Option FormulaId) (whole : List Formula) →
    Extends a b → IsThere a id → rest ≡ id ∷ more → joined (context_at b context) (formulas_at a rest) ≡ whole →
    formula_of c made ∷ [] ≡ after (context_at b context) (formula_of b id) → joined (context_at c (Some made)) (formulas_at a more) ≡ whole
joined-turn a b c rest more id made context whole h there e was put =
    ap (λ (first : List Formula). joined first (formulas_at a more)) put
    ∙ ap (λ (f : Formula). joined (after (context_at b context) f) (formulas_at a more)) (at-extends a b id h there)
    ∙ ap (λ (ids : List FormulaId). joined (context_at b context) (formulas_at a ids)) (sym e)
    ∙ was

-- what was among stays so with one more
pub IsAmong-push : (old others now new : List FormulaId) (id : FormulaId) → IsAmong old others now → Contains others id → new ≡ now ++ id ∷ [] →
    IsAmong old others new
IsAmong-push old others now new id among there e other inside =
    elim (Contains-push_cases now id other (subst (λ xs. Contains xs other) e inside)) as (λ _. Contains old other ⊎ Contains others other) [
      | inl was ↦ among other was
      | inr same ↦ inr (subst (Contains others) same there)
    ]

pub IsAmong-refl : (old others : List FormulaId) → IsAmong old others old
IsAmong-refl old others id there = inl there

-- what was chosen of one list and then of another
pub IsAmong-both : (none first second one two : List FormulaId) → none ≡ [] → IsAmong none first one → IsAmong one second two → IsAmong first second two
IsAmong-both none first second one two e in_one in_two id there =
    elim (in_two id there) as (λ _. Contains first id ⊎ Contains second id) [
      | inl was ↦ elim (in_one id was) as (λ _. Contains first id ⊎ Contains second id) [
        | inl before ↦ absurd (Contains-none id (subst (λ (ids : List FormulaId). Contains ids id) e before))
        | inr chosen ↦ inl chosen
      ]
      | inr chosen ↦ inr chosen
    ]

IsAmong-swapped : (first second new : List FormulaId) → IsAmong first second new → IsAmong second first new
IsAmong-swapped first second new among id there =
    elim (among id there) as (λ _. Contains second id ⊎ Contains first id) [
      | inl one ↦ inr one
      | inr other ↦ inl other
    ]

pub chosen-swapped : {E : Type 0} (first second : List FormulaId) (r : Result (Vec FormulaId Global) E) → IfOk r (λ chosen. IsAmong first second chosen.items) →
    IfOk r (λ chosen. IsAmong second first chosen.items)
chosen-swapped first second (Ok chosen) among = IsAmong-swapped first second chosen.items among
chosen-swapped first second (Err e) among = among

-- lists that grow
pub All-empty : {X : Type 0} (P : X → Type 0) (xs : List X) → xs ≡ [] → All P xs
All-empty P xs e = subst (All P) (sym e) (All-nil P)

pub All-pushed : {X : Type 0} (P : X → Type 0) (old new : List X) (x : X) → new ≡ old ++ x ∷ [] → All P old → P x → All P new
All-pushed P old new x e all here = subst (All P) (sym e) (All-push P old x all here)

-- what was chosen among members
pub All-chosen : (P : FormulaId → Type 0) (none others new : List FormulaId) → none ≡ [] → IsAmong none others new → All P others → All P new
All-chosen P none others new e among all = All-among P none others new among (All-empty P none e) all

-- the halves of a conjunct
pub IsConjunct-node : (formulas : List Formula) (id f g : FormulaId) (node : Node) → option_map (formula_of_node formulas) (Some node) ≡ slice_get
    formulas id.0 →
    HasPartsBelow id.0 node → node ≡ Node.And f g → (context : List Formula) → IsConjunct formulas context id →
    IsConjunct formulas context f × IsConjunct formulas context g
IsConjunct-node formulas id f g node value parts e context conjunct =
    let below = halves-below id.0 f g (subst (HasPartsBelow id.0) e parts) in
    IsConjunct-halves formulas context id f g conjunct
    (at-And formulas id f g (subst (λ (n : Node). option_map (formula_of_node formulas) (Some n) ≡ slice_get formulas id.0) e value)) below.0 below.1

-- the context of what was chosen
pub Implies-chosen : (old new : List Formula) (context : List Formula) (none members chosen : List FormulaId) (made : Option FormulaId) → none ≡ [] →
    IsAmong none members chosen → All (IsConjunct old context) members → context_at new made ≡ joined [] (formulas_at old chosen) →
    Implies context (context_at new made)
Implies-chosen old new context none members chosen made e among all value =
    subst (Implies context) (sym value) (Implies-joined old context chosen (All-chosen (IsConjunct old context) none members chosen e among all))

pub there-chosen : (old : List Formula) (context : List Formula) (none members chosen : List FormulaId) → none ≡ [] → IsAmong none members chosen →
    All (IsConjunct old context) members → All (IsThere old) chosen
there-chosen old context none members chosen e among all =
    IsConjunct-there old context chosen (All-chosen (IsConjunct old context) none members chosen e among all)

get_or-again : {X : Type 0} (xs : List X) (k : ℕ) (d : X) → get_or xs k (get_or xs k d) ≡ get_or xs k d
get_or-again [] k d = refl
get_or-again (x ∷ xs) zero d = refl
get_or-again (x ∷ xs) (suc k) d = get_or-again xs k d

pub Contains-at : {X : Type 0} (xs : List X) (k : ℕ) (d : X) → k < length xs → Contains xs (get_or xs k d)
Contains-at xs k d inside = (k, inside, get_or-again xs k d)
