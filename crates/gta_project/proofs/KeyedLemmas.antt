-- Classes with keys: no set stands for two of them.
use Rattle.std.proofs.Common.{◌≡◌, ◌≢◌, ℕ, ◌<◌, List, [], ◌∷◌, ◌++◌, length, Option, Some, get_or, sym, ◌∙◌, ap, subst, arith}
use Rattle.std.specs.List.{All, AllPairs}
use Rattle.std.proofs.lemmas.Option.{slice_get-get_or}
use Rattle.gta_project.specs.declared.growing.Seen.{Seen}
use Rattle.gta_subsets.specs.Numbers.{number_in, AreNumbers, Grows}
use Rattle.gta_subsets.specs.Classes.{classes_of, AreKeyed, Notes}
use Rattle.gta_project.specs.Growing.{IsKeyed}
use Rattle.gta_subsets.proofs.NumbersLemmas.{AreNumbers-none}
use Rattle.gta_subsets.proofs.ClassesLemmas.{AreKeyed-none, AreKeyed-more}

pub IsKeyed-none : (states : List ℕ) (seen : Seen) → seen.ones ≡ [] → seen.keys ≡ [] → IsKeyed states seen
IsKeyed-none states seen no_ones no_keys = record {
  sets = [];
  of = [];
  numbers = subst AreNumbers (sym no_keys) AreNumbers-none;
  keyed = subst (λ (ones : List (List ℕ)). AreKeyed [] states [] ones seen.keys) (sym no_ones)
      (subst (λ (keys : List (List ℕ)). AreKeyed [] states [] [] keys) (sym no_keys) (AreKeyed-none states));
}

-- one set more was looked at
pub IsKeyed-more : (states : List ℕ) (old new : Seen) (set : List ℕ) (class : ℕ) → All (λ q. q < length states) set →
    AreNumbers new.keys → number_in new.keys (classes_of states set) ≡ Some class → class < length new.keys →
    Grows old.keys new.keys (classes_of states set) → Notes class set old.ones new.ones → IsKeyed states old → IsKeyed states new
IsKeyed-more states old new set class within numbers value place grows notes is = record {
  sets = is.sets ++ set ∷ [];
  of = is.of ++ class ∷ [];
  numbers = numbers;
  keyed = AreKeyed-more is.sets states is.of old.ones old.keys new.ones new.keys set class is.keyed within numbers value place grows notes;
}

-- how many were looked at doesn't matter
pub IsKeyed-same : (states : List ℕ) (old new : Seen) → old.ones ≡ new.ones → old.keys ≡ new.keys → IsKeyed states old → IsKeyed states new
IsKeyed-same states old new same_ones same_keys is = record {
  sets = is.sets;
  of = is.of;
  numbers = subst AreNumbers same_keys is.numbers;
  keyed = subst (λ (ones : List (List ℕ)). AreKeyed is.sets states is.of ones new.keys) same_ones
      (subst (λ (keys : List (List ℕ)). AreKeyed is.sets states is.of old.ones keys) same_keys is.keyed);
}

same_number : (a b : ℕ) → ◌≡◌ {A = Option ℕ} (Some a) (Some b) → a ≡ b
same_number a b e = cc

pub ones-differ : (states : List ℕ) (seen : Seen) → IsKeyed states seen → AllPairs (λ (x y : List ℕ). x ≢ y) seen.ones
ones-differ states seen is i j d less within = λ same.
    let found = λ (k : ℕ) (inside : k < length seen.ones).
    let one = get_or seen.ones k d in
    let r : number_in seen.keys (classes_of states one) ≡ Some k =
    is.numbers.found k _ (is.keyed.key k one (slice_get-get_or seen.ones k d inside)) in r in
    let equal : i ≡ j = same_number i j (sym (found i (omega arith))
    ∙ ap (λ (one : List ℕ). number_in seen.keys (classes_of states one)) same ∙ found j within) in
    omega arith
