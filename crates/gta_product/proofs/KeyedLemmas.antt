-- Classes with keys: one pair more, a longer list, all pairs of the list, and no pair that stands for two classes.
use Rattle.std.proofs.Common.{◌≡◌, ◌≢◌, ℕ, ◌<◌, ◌≤◌, List, [], ◌∷◌, ◌++◌, length, Option, Some, get_or, slice_index, slice_get, sym, ◌∙◌}
use Rattle.std.proofs.Common.{ap, subst, arith}
use Rattle.std.specs.List.{AllPairs}
use Rattle.std.proofs.lemmas.Option.{slice_get-get_or, slice_get_within}
use Rattle.gta_theory.specs.Guides.{Spaces}
use Rattle.gta_theory.specs.Automata.{Automaton}
use Rattle.gta_product.specs.declared.classes.Classes.{Classes}
use Rattle.gta_product.specs.Numbers.{number_in, AreNumbers, Extends, Grows}
use Rattle.gta_product.specs.Classes.{AreClasses, AreKeyed, IsKeyed, Notes, known, fresh}
use Rattle.gta_product.specs.Building.{AreSpaces}
use Rattle.gta_product.specs.Growing.{AreGenerated}
use Rattle.gta_product.proofs.NumbersLemmas.{AreNumbers-none, Extends-refl, Extends-trans, Extends-append, Extends-next, extends-longer, extends-same}
use Rattle.gta_product.proofs.ClassesLemmas.{AreKeyed-none, AreKeyed-more}
use Rattle.gta_product.proofs.ShelfLemmas.{Contains-get}

nothing-extends : (list : List (ℕ × ℕ)) → Extends [] list
nothing-extends list = record { kept = λ k pair there. absurd (omega (arith, slice_get_within [] k pair there)) }

pub IsKeyed-none : (list : List (ℕ × ℕ)) (left right : List ℕ) (classes : Classes) → classes.of ≡ [] → classes.ones ≡ [] → classes.keys ≡ [] →
    IsKeyed list left right classes
IsKeyed-none list left right classes no_of no_ones no_keys = record {
  pairs = [];
  first = nothing-extends list;
  numbers = subst AreNumbers (sym no_keys) AreNumbers-none;
  keyed = subst (λ (of : List ℕ). AreKeyed [] left right of classes.ones classes.keys) (sym no_of)
      (subst (λ (ones : List (ℕ × ℕ)). AreKeyed [] left right [] ones classes.keys) (sym no_ones)
      (subst (λ (keys : List (ℕ × ℕ)). AreKeyed [] left right [] [] keys) (sym no_keys) (AreKeyed-none left right)));
}

-- the next pair of the list was looked at
pub IsKeyed-more : (list : List (ℕ × ℕ)) (left right : List ℕ) (old new : Classes) (pair : ℕ × ℕ) (class : ℕ) → pair.0 < length left →
    pair.1 < length right → AreNumbers new.keys → number_in new.keys (slice_index left pair.0, slice_index right pair.1) ≡ Some class →
    class < length new.keys → Grows old.keys new.keys (slice_index left pair.0, slice_index right pair.1) → Notes class pair old.ones new.ones →
    new.of ≡ old.of ++ class ∷ [] → slice_get list (length old.of) ≡ Some pair → IsKeyed list left right old → IsKeyed list left right new
IsKeyed-more list left right old new pair class in_left in_right numbers value place grows notes added next is = record {
  pairs = is.pairs ++ pair ∷ [];
  first = Extends-next is.pairs list pair is.first (ap (slice_get list) (sym is.keyed.classes.many) ∙ next);
  numbers = numbers;
  keyed = subst (λ (of : List ℕ). AreKeyed (is.pairs ++ pair ∷ []) left right of new.ones new.keys) (sym added)
      (AreKeyed-more is.pairs left right old.of old.ones old.keys new.ones new.keys pair class is.keyed in_left in_right numbers value place grows
      notes);
}

-- the ones keep their places
pub Extends-notes : (class : ℕ) (pair : ℕ × ℕ) (old new : List (ℕ × ℕ)) → Notes class pair old new → Extends old new
Extends-notes class pair old new (known apart same) = subst (λ (ps : List (ℕ × ℕ)). Extends old ps) (sym same) (Extends-refl old)
Extends-notes class pair old new (fresh at is) = subst (λ (ps : List (ℕ × ℕ)). Extends old ps) (sym is) (Extends-append old (pair ∷ []))

-- pairs that have come were not looked at yet
pub IsKeyed-longer : (list longer : List (ℕ × ℕ)) (left right : List ℕ) (classes : Classes) → Extends list longer →
    IsKeyed list left right classes → IsKeyed longer left right classes
IsKeyed-longer list longer left right classes extends is = record {
  pairs = is.pairs;
  first = Extends-trans is.pairs list longer is.first extends;
  numbers = is.numbers;
  keyed = is.keyed;
}

-- no more pairs than there are were looked at
pub looked-most : (list : List (ℕ × ℕ)) (left right : List ℕ) (classes : Classes) → IsKeyed list left right classes → length classes.of ≤ length list
looked-most list left right classes is = omega (arith, is.keyed.classes.many, extends-longer is.pairs list is.first)

-- where all were looked at, they have classes
pub AreClasses-all : (list : List (ℕ × ℕ)) (left right : List ℕ) (classes : Classes) → IsKeyed list left right classes →
    length list ≤ length classes.of → AreClasses list left right classes.of classes.ones
AreClasses-all list left right classes is all =
    let same = extends-same is.pairs list is.first (omega (arith, is.keyed.classes.many, all)) in
    subst (λ (pairs : List (ℕ × ℕ)). AreClasses pairs left right classes.of classes.ones) same is.keyed.classes

-- the ones are generated, since they are pairs of the list
pub ones-generated : (g : Spaces) (AB : Automaton (ℕ × ℕ)) (spaces : List (List (ℕ × ℕ))) → AreSpaces g AB spaces → (child : ℕ) (list : List (ℕ × ℕ)) →
    slice_get spaces child ≡ Some list → (left right : List ℕ) (classes : Classes) → IsKeyed list left right classes →
    AreGenerated g AB child classes.ones
ones-generated g AB spaces are child list at left right classes is = λ x there.
    let one = Contains-get classes.ones x there in
    let class = is.keyed.classes.used one.0 (slice_get_within classes.ones one.0 x one.1) in
    (are.each child list at).generated class.at x (is.first.kept class.at x (sym class.stands ∙ one.1))

same_number : (a b : ℕ) → ◌≡◌ {A = Option ℕ} (Some a) (Some b) → a ≡ b
same_number a b e = cc

pub ones-differ : (list : List (ℕ × ℕ)) (left right : List ℕ) (classes : Classes) → IsKeyed list left right classes →
    AllPairs (λ (x y : ℕ × ℕ). x ≢ y) classes.ones
ones-differ list left right classes is i j d less within = λ same.
    let found = λ (k : ℕ) (inside : k < length classes.ones).
    let one = get_or classes.ones k d in
    let r : number_in classes.keys (slice_index left one.0, slice_index right one.1) ≡ Some k =
    is.numbers.found k _ (is.keyed.key k one (slice_get-get_or classes.ones k d inside)) in r in
    let equal : i ≡ j = same_number i j (sym (found i (omega arith))
    ∙ ap (λ (one : ℕ × ℕ). number_in classes.keys (slice_index left one.0, slice_index right one.1)) same ∙ found j within) in
    omega arith
