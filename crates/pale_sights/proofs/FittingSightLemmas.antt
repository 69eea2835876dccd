-- The variables of a table by number, and which of them places may name.
use Rattle.std.proofs.Common.{◌≡◌, ◌<◌, ◌≤◌, ◌+◌, ◌-◌, ◌⊎◌, inl, inr, ℕ, zero, suc, Bool, true, false, not, ◌&&◌, ◌||◌, nat_lt, List, []}
use Rattle.std.proofs.Common.{◌∷◌, ◌++◌, length, slice_get, get_or}
use Rattle.std.proofs.Common.{Option, Some, None, IsSome, IsSomeAnd, refl, sym, ap, ◌∙◌, subst, arith, append_assoc, append-nil, length-append}
use Rattle.std.specs.List.{AllByRecursion, Contains}
use Rattle.std.specs.Option.{option_map}
use Rattle.std.proofs.lemmas.Bool.Decides.{nat_tests}
use Rattle.std.proofs.lemmas.List.Elements.{Contains-append_left, Contains-append_right}
use Rattle.store_core.specs.declared.ids.VarId.{VarId}
use Rattle.store_core.specs.declared.kind.VarKind.{VarKind}
use Rattle.store_core.specs.Tables.{VarEntry}
use Rattle.store_logic.specs.FitsCode.{code_sort}
use Rattle.store_logic.proofs.ExpandingLists.{slice_get-seam, all-append}
use Rattle.pale_terms.specs.Sorts.{kept}
use Rattle.pale_fitting.specs.Standing.{IsCodeVariable, AreCodeVariables}
use Rattle.pale_fitting.proofs.UseLemmas.{slice_get-within}
use Rattle.pale_sights.specs.declared.sights.Heading.{Heading}
use Rattle.pale_sights.specs.Sights.{numbers, seen, first_result, first_local, first_logic, heading_sight, body_sight, vars_of}
use Rattle.pale_typed.specs.Variables.{kind_at}
use Rattle.pale_sights.proofs.FittingNamesLemmas.{IsOpen, AreOpen, IsPassed}
use Rattle.pale_sights.proofs.FittingKeepLemmas.{IsNamedVariable}

-- ---- numbers

pub numbers-append : (number : ℕ) (xs ys : List VarEntry) → numbers number (xs ++ ys) ≡ numbers number xs ++ numbers (number + length xs) ys
numbers-append number [] ys = let same : number ≡ number + 0 = omega arith in ap (λ n. numbers n ys) same
numbers-append number (x ∷ xs) ys =
    let same : number + 1 + length xs ≡ number + length (x ∷ xs) = omega arith in
    ap (λ rest. record { 0 = number } ∷ rest) (numbers-append (number + 1) xs ys ∙ ap (λ n. numbers (number + 1) xs ++ numbers n ys) same)

length-numbers : (number : ℕ) (xs : List VarEntry) → length (numbers number xs) ≡ length xs
length-numbers number [] = refl
length-numbers number (x ∷ xs) = ap suc (length-numbers (number + 1) xs)

numbers-at : (number : ℕ) (xs : List VarEntry) (k : ℕ) (d : VarId) → k < length xs → get_or (numbers number xs) k d ≡ record { 0 = number + k }
numbers-at number [] k d low = absurd (omega arith)
numbers-at number (x ∷ xs) zero d low = let same : number ≡ number + 0 = omega arith in ap (λ n. record { 0 = n }) same
numbers-at number (x ∷ xs) (suc k) d low =
    let less : k < length xs = omega arith in
    let same : number + 1 + k ≡ number + suc k = omega arith in
    numbers-at (number + 1) xs k d less ∙ ap (λ n. record { 0 = n }) same

-- a variable whose number is one of these is among them
pub numbers-contain : (number : ℕ) (xs : List VarEntry) (v : VarId) → number ≤ v.0 → v.0 < number + length xs → Contains (numbers number xs) v
numbers-contain number xs v low high =
    let within : v.0 - number < length xs = omega arith in
    let count = length-numbers number xs in
    let inside : v.0 - number < length (numbers number xs) = omega (arith, within, count) in
    let same : number + (v.0 - number) ≡ v.0 = omega arith in
    (v.0 - number, inside, numbers-at number xs (v.0 - number) v within ∙ ap (λ n. record { 0 = n }) same)

pub middle-at : (table front back : List VarEntry) (e : VarEntry) (number : ℕ) → table ≡ front ++ (e ∷ back) → number ≡ length front →
    slice_get table number ≡ Some e
middle-at table front back e number whole is =
    ap (λ t. slice_get t number) whole ∙ ap (slice_get (front ++ (e ∷ back))) is ∙ slice_get-seam front e back

pub further : (table front back : List VarEntry) (e : VarEntry) (rest : List VarEntry) → table ≡ front ++ (e ∷ (rest ++ back)) →
    table ≡ (front ++ e ∷ []) ++ (rest ++ back)
further table front back e rest whole = whole ∙ sym (append_assoc front (e ∷ []) (rest ++ back))

pub one-more : (front : List VarEntry) (e : VarEntry) (number : ℕ) → number ≡ length front → number + 1 ≡ length (front ++ e ∷ [])
one-more front e number is = ap (λ n. n + 1) is ∙ sym (length-append front (e ∷ []))

-- ---- the parts of the table

module _ (a b c d : List VarEntry) where
  pub first-part : a ++ b ++ c ++ d ≡ a ++ (b ++ (c ++ d))
  first-part = append_assoc (a ++ b) c d ∙ append_assoc a b (c ++ d)

  pub third-part : a ++ b ++ c ++ d ≡ (a ++ b) ++ (c ++ d)
  third-part = append_assoc (a ++ b) c d

  pub last-part : a ++ b ++ c ++ d ≡ (a ++ b ++ c) ++ (d ++ [])
  last-part = ap (λ last. (a ++ b ++ c) ++ last) (sym (append-nil d))

  pub two-long : length a + length b ≡ length (a ++ b)
  two-long = sym (length-append a b)

  pub three-long : length a + length b + length c ≡ length (a ++ b ++ c)
  three-long = ap (λ n. n + length c) two-long ∙ sym (length-append (a ++ b) c)

-- the number of the first logic variable
pub last-number : (h : Heading) (locals : List VarEntry) → h.locals ≡ length locals → first_logic h ≡ length (h.params ++ h.results ++ locals)
last-number h locals count = ap (λ n. length h.params + length h.results + n) count ∙ three-long h.params h.results locals []

-- what is so of the kinds of a part of the table is so of its variables
pub numbered-all : (P : VarKind → Type 0) (table front part back : List VarEntry) (number : ℕ) → table ≡ front ++ (part ++ back) → number ≡ length front →
    AllByRecursion (λ entry. P entry.kind) part → AllByRecursion (λ v. IsSomeAnd (kind_at table v) P) (numbers number part)
numbered-all P table front [] back number whole is all = tt
numbered-all P table front (e ∷ part) back number whole is all = (
  subst (λ (o : Option VarKind). IsSomeAnd o P)
      (sym (ap (option_map (λ (entry : VarEntry). entry.kind)) (middle-at table front (part ++ back) e number whole is))) all.0,
  numbered-all P table (front ++ e ∷ []) part back (number + 1) (further table front back e part whole) (one-more front e number is) all.1,
)

-- ---- what may be named

-- variables that are seen are open where each of their numbers passes the test
pub seen-open : (test : ℕ → Bool) (may : Bool) (number : ℕ) (vars : List VarEntry) →
    (may ≡ true → (k : ℕ) → number ≤ k → k < number + length vars → test k ≡ true) → AreOpen test (seen may number vars)
seen-open test may number [] passes = tt
seen-open test may number (v ∷ vars) passes = (
  λ is. passes is number (omega arith) (omega arith),
  seen-open test may (number + 1) vars (λ is k low high. passes is k (omega arith) (omega arith)),
)

-- in code
pub seen-code : (table front vars back : List VarEntry) (may : Bool) (number : ℕ) → table ≡ front ++ (vars ++ back) → number ≡ length front →
    (may ≡ true → AllByRecursion (λ entry. IsSome (code_sort entry.kind)) vars) → AreCodeVariables table (seen may number vars)
seen-code table front [] back may number whole is codes = tt
seen-code table front (v ∷ vars) back may number whole is codes =
    let here = sym (middle-at table front (vars ++ back) v number whole is) in (
      record {
        variable = record {
          var = record { 0 = number };
          origin = refl;
          sort = subst (λ (o : Option VarEntry). IsSomeAnd o (λ entry. kept v.kind ≡ kept entry.kind)) here refl;
        };
        code = λ is_open. subst (λ (o : Option VarEntry). IsSomeAnd o (λ entry. IsSome (code_sort entry.kind))) here (codes is_open).0;
      },
      seen-code table (front ++ v ∷ []) vars back may (number + 1) (further table front back v vars whole) (one-more front v number is)
          (λ is_open. (codes is_open).1),
    )

-- under their names
pub seen-named : (table front vars back : List VarEntry) (may : Bool) (number : ℕ) → table ≡ front ++ (vars ++ back) → number ≡ length front →
    AllByRecursion (IsNamedVariable table) (seen may number vars)
seen-named table front [] back may number whole is = tt
seen-named table front (v ∷ vars) back may number whole is =
    let here = sym (middle-at table front (vars ++ back) v number whole is) in (
      record {
        var = record { 0 = number };
        origin = refl;
        name = subst (λ (o : Option VarEntry). IsSomeAnd o (λ entry. entry.name ≡ v.name)) here refl;
      },
      seen-named table (front ++ v ∷ []) vars back may (number + 1) (further table front back v vars whole) (one-more front v number is),
    )

-- ---- two ranges of numbers

-- from the first up to the end, or from the last on
abbrev pub in_ranges : ℕ → ℕ → ℕ → ℕ → Bool
in_ranges first end last k = (not (nat_lt k first) && nat_lt k end) || not (nat_lt k last)

less-is : (m n : ℕ) → m < n → nat_lt m n ≡ true
less-is m n less = grind (arith, nat_tests)

less-not : (m n : ℕ) → n ≤ m → nat_lt m n ≡ false
less-not m n more = grind (arith, nat_tests)

from-less : (m n : ℕ) → nat_lt m n ≡ true → m < n
from-less m n is = grind (arith, nat_tests)

from-not : (m n : ℕ) → nat_lt m n ≡ false → n ≤ m
from-not m n is = grind (arith, nat_tests)

or-second : (a b : Bool) → b ≡ true → (a || b) ≡ true
or-second true b is = refl
or-second false b is = is

pub in-first : (first end last k : ℕ) → first ≤ k → k < end → in_ranges first end last k ≡ true
in-first first end last k low high =
    ap (λ b. (not b && nat_lt k end) || not (nat_lt k last)) (less-not k first low)
    ∙ ap (λ b. (true && b) || not (nat_lt k last)) (less-is k end high)

pub in-last : (first end last k : ℕ) → last ≤ k → in_ranges first end last k ≡ true
in-last first end last k low = or-second (not (nat_lt k first) && nat_lt k end) (not (nat_lt k last)) (ap not (less-not k last low))

pub from-ranges : (first end last k : ℕ) → in_ranges first end last k ≡ true → ((first ≤ k) × (k < end)) ⊎ (last ≤ k)
from-ranges first end last k is = by (nat_lt k first) refl (nat_lt k end) refl (nat_lt k last) refl is
  where
    by : (a : Bool) → nat_lt k first ≡ a → (b : Bool) → nat_lt k end ≡ b → (c : Bool) → nat_lt k last ≡ c →
        ((not a && b) || not c) ≡ true → ((first ≤ k) × (k < end)) ⊎ (last ≤ k)
    by a low b high false there is = inr (from-not k last there)
    by true low b high true there is = absurd cc
    by false low true high true there is = inl (from-not k first low, from-less k end high)
    by false low false high true there is = absurd cc

-- what is in one of the ranges, and in the table, is in one of two parts
module _ (table part back : List VarEntry) (first last : ℕ) (v : VarId) where
  pub ranges-contain : IsPassed table (in_ranges first (first + length part) last) v → length table ≡ last + length back →
      Contains (numbers first part ++ numbers last back) v
  ranges-contain passed count = by (from-ranges first (first + length part) last v.0 passed.passes)
    where
      within : (o : Option VarEntry) → slice_get table v.0 ≡ o → IsSomeAnd o (λ entry. Unit {0}) → v.0 < length table
      within None at there = absurd there
      within (Some e) at there = slice_get-within table v.0 e at

      by : ((first ≤ v.0) × (v.0 < first + length part)) ⊎ (last ≤ v.0) → Contains (numbers first part ++ numbers last back) v
      by (inl inside) = Contains-append_left (numbers first part) (numbers last back) v (numbers-contain first part v inside.0 inside.1)
      by (inr later) =
          let low = within (slice_get table v.0) refl passed.there in
          let high : v.0 < last + length back = omega (arith, low, count) in
          Contains-append_right (numbers first part) (numbers last back) v (numbers-contain last back v later high)

-- ---- what `pre`, `post` and code may name

module _ (h : Heading) where
  abbrev pub in_pre : ℕ → Bool
  in_pre = in_ranges 0 (0 + length h.params) (first_logic h)

  abbrev pub in_post : ℕ → Bool
  in_post = in_ranges (length h.params) (length h.params + length h.results) (first_logic h)

  logics-open : (first end : ℕ) → AreOpen (in_ranges first end (first_logic h)) (seen true (first_logic h) h.logics)
  logics-open first end =
      seen-open (in_ranges first end (first_logic h)) true (first_logic h) h.logics (λ is k low high. in-last first end (first_logic h) k low)

  pub pre-open : AreOpen in_pre (heading_sight true false h)
  pre-open =
      all-append (IsOpen in_pre) (seen true 0 h.params ++ seen false (first_result h) h.results) _
      (all-append (IsOpen in_pre) (seen true 0 h.params) _
      (seen-open in_pre true 0 h.params (λ is k low high. in-first 0 (0 + length h.params) (first_logic h) k low high))
      (seen-open in_pre false (first_result h) h.results (λ is. absurd cc)))
      (logics-open 0 (0 + length h.params))

  pub post-open : AreOpen in_post (heading_sight false true h)
  post-open =
      all-append (IsOpen in_post) (seen false 0 h.params ++ seen true (first_result h) h.results) _
      (all-append (IsOpen in_post) (seen false 0 h.params) _
      (seen-open in_post false 0 h.params (λ is. absurd cc))
      (seen-open in_post true (first_result h) h.results
      (λ is k low high. in-first (length h.params) (length h.params + length h.results) (first_logic h) k low high)))
      (logics-open (length h.params) (length h.params + length h.results))

-- ---- the whole body

module _ (h : Heading) (locals : List VarEntry) (count : h.locals ≡ length locals) where
  abbrev table : List VarEntry
  table = vars_of h locals

  third : table ≡ (h.params ++ h.results) ++ (locals ++ h.logics)
  third = third-part h.params h.results locals h.logics

  first : table ≡ h.params ++ (h.results ++ (locals ++ h.logics))
  first = first-part h.params h.results locals h.logics

  last : table ≡ (h.params ++ h.results ++ locals) ++ (h.logics ++ [])
  last = last-part h.params h.results locals h.logics

  two : first_local h ≡ length (h.params ++ h.results)
  two = two-long h.params h.results locals h.logics

  -- all variables are seen under their names
  pub body-named : AllByRecursion (IsNamedVariable table) (body_sight true h locals)
  body-named =
      all-append (IsNamedVariable table) (seen true 0 h.params ++ seen true (first_result h) h.results ++ seen true (first_local h) locals) _
      (all-append (IsNamedVariable table) (seen true 0 h.params ++ seen true (first_result h) h.results) _
      (all-append (IsNamedVariable table) (seen true 0 h.params) _ (seen-named table [] h.params (h.results ++ (locals ++ h.logics)) true 0 first refl)
      (seen-named table h.params h.results (locals ++ h.logics) true (first_result h) first refl))
      (seen-named table (h.params ++ h.results) locals h.logics true (first_local h) third two))
      (seen-named table (h.params ++ h.results ++ locals) h.logics [] true (first_logic h) last (last-number h locals count))

  abbrev AreCodes : List VarEntry → Type 0
  AreCodes part = AllByRecursion (λ entry. IsSome (code_sort entry.kind)) part

  -- code may name parameters, results and locals
  pub body-code : AreCodes h.params → AreCodes h.results → AreCodes locals → AreCodeVariables table (body_sight false h locals)
  body-code params results own =
      all-append (IsCodeVariable table) (seen true 0 h.params ++ seen true (first_result h) h.results ++ seen true (first_local h) locals) _
      (all-append (IsCodeVariable table) (seen true 0 h.params ++ seen true (first_result h) h.results) _
      (all-append (IsCodeVariable table) (seen true 0 h.params) _
      (seen-code table [] h.params (h.results ++ (locals ++ h.logics)) true 0 first refl (λ is. params))
      (seen-code table h.params h.results (locals ++ h.logics) true (first_result h) first refl (λ is. results)))
      (seen-code table (h.params ++ h.results) locals h.logics true (first_local h) third two (λ is. own)))
      (seen-code table (h.params ++ h.results ++ locals) h.logics [] false (first_logic h) last (last-number h locals count) (λ is. absurd cc))

  -- the lists of variables in order
  pub in-order : numbers 0 h.params ++ numbers (first_result h) h.results ++ numbers (first_local h) locals ++ numbers (first_logic h) h.logics
      ≡ numbers 0 table
  in-order =
      sym (numbers-append 0 (h.params ++ h.results ++ locals) h.logics
      ∙ ap (λ n. numbers 0 (h.params ++ h.results ++ locals) ++ numbers n h.logics)
      (behind (h.params ++ h.results ++ locals) (first_logic h) (last-number h locals count))
      ∙ ap (λ ns. ns ++ numbers (first_logic h) h.logics)
      (numbers-append 0 (h.params ++ h.results) locals
      ∙ ap (λ n. numbers 0 (h.params ++ h.results) ++ numbers n locals) (behind (h.params ++ h.results) (first_local h) two)
      ∙ ap (λ ns. ns ++ numbers (first_local h) locals)
      (numbers-append 0 h.params h.results ∙ ap (λ n. numbers 0 h.params ++ numbers n h.results) (behind h.params (first_result h) refl))))
    where
      behind : (xs : List VarEntry) (n : ℕ) → n ≡ length xs → 0 + length xs ≡ n
      behind xs n is = omega (arith, is)

  -- what is so of the kinds of the first three parts, and of the last one
  pub three-numbered : (P : VarKind → Type 0) → AllByRecursion (λ entry. P entry.kind) h.params → AllByRecursion (λ entry. P entry.kind) h.results →
      AllByRecursion (λ entry. P entry.kind) locals →
      AllByRecursion (λ v. IsSomeAnd (kind_at table v) P) (numbers 0 h.params ++ numbers (first_result h) h.results ++ numbers (first_local h) locals)
  three-numbered P params results own =
      all-append (λ v. IsSomeAnd (kind_at table v) P) (numbers 0 h.params ++ numbers (first_result h) h.results) _
      (all-append (λ v. IsSomeAnd (kind_at table v) P) (numbers 0 h.params) _
      (numbered-all P table [] h.params (h.results ++ (locals ++ h.logics)) 0 first refl params)
      (numbered-all P table h.params h.results (locals ++ h.logics) (first_result h) first refl results))
      (numbered-all P table (h.params ++ h.results) locals h.logics (first_local h) third two own)

  pub last-numbered : (P : VarKind → Type 0) → AllByRecursion (λ entry. P entry.kind) h.logics →
      AllByRecursion (λ v. IsSomeAnd (kind_at table v) P) (numbers (first_logic h) h.logics)
  last-numbered P logics =
      numbered-all P table (h.params ++ h.results ++ locals) h.logics [] (first_logic h) last (last-number h locals count) logics

  long : length table ≡ first_logic h + length h.logics
  long = length-append (h.params ++ h.results ++ locals) h.logics ∙ ap (λ n. n + length h.logics) (sym (last-number h locals count))

  -- what `pre` and `post` may name
  pub pre-contains : (v : VarId) → IsPassed table (in_pre h) v → Contains (numbers 0 h.params ++ numbers (first_logic h) h.logics) v
  pre-contains v passed = ranges-contain table h.params h.logics 0 (first_logic h) v passed long

  pub post-contains : (v : VarId) → IsPassed table (in_post h) v → Contains (numbers (first_result h) h.results ++ numbers (first_logic h) h.logics) v
  post-contains v passed = ranges-contain table h.results h.logics (first_result h) (first_logic h) v passed long
