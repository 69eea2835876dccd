-- Numbers for pairs.
use Rattle.std.proofs.Common.{◌≡◌, ℕ, zero, suc, ◌<◌, ◌≤◌, ◌^◌, Bool, true, false, if◌then◌else◌, List, [], ◌∷◌, ◌++◌, length, length-append}
use Rattle.std.proofs.Common.{Option, Some, None, option_map, slice_get, slice_index, nat_eq, sym, ◌∙◌, ap, refl, subst, inl, inr, arith, ◌⊎◌}
use Rattle.std.proofs.lemmas.Bool.{cases_lt, eqb-true, eq-eqb, false≢true}
use Rattle.std.proofs.lemmas.Option.{slice_get_within, slice_get_past}
use Rattle.bdd_walk.specs.Laws.{and-left, and-right, and-both}
use Rattle.bdd_walk.specs.Answers.{KeepsAnswers, AnswersOnly, Completes}
use Rattle.gta_core.proofs.AutoLemmas.{past-none}
use Rattle.gta_core.proofs.CellsLemmas.{get-index}
use Rattle.gta_product.specs.Numbers.{is_pair, number_in, numbered, AreNumbers, Extends, Grows, stays, comes, MayNumber}

pub is_pair-true : (a b : ℕ × ℕ) → is_pair a b ≡ true → a ≡ b
is_pair-true a b e =
    let first : a.0 ≡ b.0 = eqb-true a.0 b.0 (and-left (nat_eq a.0 b.0) (nat_eq a.1 b.1) e) in
    let second : a.1 ≡ b.1 = eqb-true a.1 b.1 (and-right (nat_eq a.0 b.0) (nat_eq a.1 b.1) e) in
    ap (λ (n : ℕ). let p : ℕ × ℕ = (n, a.1) in p) first ∙ ap (λ (n : ℕ). let p : ℕ × ℕ = (b.0, n) in p) second

pub is_pair-refl : (a : ℕ × ℕ) → is_pair a a ≡ true
is_pair-refl a = and-both (nat_eq a.0 a.0) (nat_eq a.1 a.1) (eq-eqb a.0 a.0 refl) (eq-eqb a.1 a.1 refl)

pub cases_option : (o : Option ℕ) → (o ≡ None) ⊎ ((n : ℕ) × (o ≡ Some n))
cases_option None = inl refl
cases_option (Some n) = inr (n, refl)

pub some-none : (o : Option ℕ) (n : ℕ) → o ≡ Some n → o ≡ None → ⊥
some-none o n some none = let e : ◌≡◌ {A = Option ℕ} None (Some n) = sym none ∙ some in cc

-- what a test and the rest of a list have found
pick : (b : Bool) (o : Option ℕ) (n : ℕ) → (if b then Some 0 else option_map suc o) ≡ Some n →
    ((b ≡ true) × (n ≡ 0)) ⊎ ((b ≡ false) × ((m : ℕ) × (o ≡ Some m) × (n ≡ suc m)))
pick true o n e = inl (refl, let f : ◌≡◌ {A = Option ℕ} (Some 0) (Some n) = e in cc)
pick false None n e = absurd (let f : ◌≡◌ {A = Option ℕ} None (Some n) = e in cc)
pick false (Some m) n e = inr (refl, (m, refl, let f : ◌≡◌ {A = Option ℕ} (Some (suc m)) (Some n) = e in cc))

pick_none : (b : Bool) (o : Option ℕ) → (if b then Some 0 else option_map suc o) ≡ None → (b ≡ false) × (o ≡ None)
pick_none true o e = absurd (let f : ◌≡◌ {A = Option ℕ} (Some 0) None = e in cc)
pick_none false None e = (refl, refl)
pick_none false (Some m) e = absurd (let f : ◌≡◌ {A = Option ℕ} (Some (suc m)) None = e in cc)

-- a number is a place of the pair
pub number_in-get : (pairs : List (ℕ × ℕ)) (pair : ℕ × ℕ) (n : ℕ) → number_in pairs pair ≡ Some n → slice_get pairs n ≡ Some pair
number_in-get [] pair n e = absurd (let f : ◌≡◌ {A = Option ℕ} None (Some n) = e in cc)
number_in-get (p ∷ ps) pair n e = elim (pick (is_pair pair p) (number_in ps pair) n e) [
  | inl found ↦ subst (λ (k : ℕ). slice_get (p ∷ ps) k ≡ Some pair) (sym found.1)
      (ap (λ (q : ℕ × ℕ). let o : Option (ℕ × ℕ) = Some q in o) (sym (is_pair-true pair p found.0)))
  | inr later ↦ subst (λ (k : ℕ). slice_get (p ∷ ps) k ≡ Some pair) (sym (later.1).2) (number_in-get ps pair (later.1).0 (later.1).1)
]

pub number_in-append : (xs ys : List (ℕ × ℕ)) (pair : ℕ × ℕ) (n : ℕ) → number_in xs pair ≡ Some n → number_in (xs ++ ys) pair ≡ Some n
number_in-append [] ys pair n e = absurd (let f : ◌≡◌ {A = Option ℕ} None (Some n) = e in cc)
number_in-append (x ∷ xs) ys pair n e = elim (pick (is_pair pair x) (number_in xs pair) n e) [
  | inl found ↦ ap (λ (b : Bool). if b then Some 0 else option_map suc (number_in (xs ++ ys) pair)) found.0 ∙ ap (λ (k : ℕ). let o : Option ℕ =
      Some k in o) (sym found.1)
  | inr later ↦ ap (λ (b : Bool). if b then Some 0 else option_map suc (number_in (xs ++ ys) pair)) later.0
      ∙ ap (option_map suc) (number_in-append xs ys pair (later.1).0 (later.1).1) ∙ ap (λ (k : ℕ). let o : Option ℕ = Some k in o) (sym (later.1).2)
]

-- a pair that comes has the last place
pub number_in-last : (xs : List (ℕ × ℕ)) (pair : ℕ × ℕ) → number_in xs pair ≡ None → number_in (xs ++ pair ∷ []) pair ≡ Some (length xs)
number_in-last [] pair none = ap (λ (b : Bool). if b then Some 0 else None) (is_pair-refl pair)
number_in-last (x ∷ xs) pair none =
    let parts = pick_none (is_pair pair x) (number_in xs pair) none in
    ap (λ (b : Bool). if b then Some 0 else option_map suc (number_in (xs ++ pair ∷ []) pair)) parts.0
    ∙ ap (option_map suc) (number_in-last xs pair parts.1)

-- only the pair that comes gets a number
pub number_in-only : (xs : List (ℕ × ℕ)) (pair q : ℕ × ℕ) (n : ℕ) → number_in (xs ++ pair ∷ []) q ≡ Some n → number_in xs q ≡ None → q ≡ pair
number_in-only [] pair q n e none = elim (pick (is_pair q pair) None n e) [
  | inl found ↦ is_pair-true q pair found.0
  | inr later ↦ absurd (let f : ◌≡◌ {A = Option ℕ} None (Some (later.1).0) = (later.1).1 in cc)
]
number_in-only (x ∷ xs) pair q n e none =
    let parts = pick_none (is_pair q x) (number_in xs q) none in
    elim (pick (is_pair q x) (number_in (xs ++ pair ∷ []) q) n e) [
      | inl found ↦ absurd (false≢true (sym parts.0 ∙ found.0))
      | inr later ↦ number_in-only xs pair q (later.1).0 (later.1).1 parts.1
    ]

pub get-snoc : {X : Type 0} (xs : List X) (x q : X) (k : ℕ) → slice_get (xs ++ x ∷ []) k ≡ Some q →
    (slice_get xs k ≡ Some q) ⊎ ((k ≡ length xs) × (q ≡ x))
get-snoc {X} [] x q zero e = inr (refl, let f : ◌≡◌ {A = Option X} (Some x) (Some q) = e in cc)
get-snoc {X} [] x q (suc k) e = absurd (let f : ◌≡◌ {A = Option X} None (Some q) = e in cc)
get-snoc (y ∷ ys) x q zero e = inl e
get-snoc (y ∷ ys) x q (suc k) e = elim (get-snoc ys x q k e) [
  | inl before ↦ inl before
  | inr last ↦ inr (ap suc last.0, last.1)
]

pub get-kept : {X : Type 0} (xs ys : List X) (q : X) (k : ℕ) → slice_get xs k ≡ Some q → slice_get (xs ++ ys) k ≡ Some q
get-kept {X} [] ys q k e = absurd (let f : ◌≡◌ {A = Option X} None (Some q) = e in cc)
get-kept (x ∷ xs) ys q zero e = e
get-kept (x ∷ xs) ys q (suc k) e = get-kept xs ys q k e

pub get-last : {X : Type 0} (xs : List X) (x : X) → slice_get (xs ++ x ∷ []) (length xs) ≡ Some x
get-last [] x = refl
get-last (y ∷ ys) x = get-last ys x

-- lists with the same elements are the same
pub ext : {X : Type 0} (xs ys : List X) → ((i : ℕ) → slice_get xs i ≡ slice_get ys i) → xs ≡ ys
ext [] [] same = refl
ext [] (y ∷ ys) same = let e = same 0 in absurd cc
ext (x ∷ xs) [] same = let e = same 0 in absurd cc
ext {X} (x ∷ xs) (y ∷ ys) same =
    let e : ◌≡◌ {A = Option X} (Some x) (Some y) = same 0 in
    let first : x ≡ y = cc in
    ap (λ (z : X). z ∷ xs) first ∙ ap (λ (zs : List X). y ∷ zs) (ext xs ys (λ i. same (suc i)))

pub AreNumbers-none : AreNumbers []
AreNumbers-none = record {
  found = λ k pair e. absurd (let f : ◌≡◌ {A = Option (ℕ × ℕ)} None (Some pair) = e in cc);
  few = omega arith;
}

pub AreNumbers-comes : (old : List (ℕ × ℕ)) (pair : ℕ × ℕ) → AreNumbers old → number_in old pair ≡ None → length old < 2 ^ 31 →
    AreNumbers (old ++ pair ∷ [])
AreNumbers-comes old pair numbers none room = record {
  found = λ k q e. elim (get-snoc old pair q k e) [
    | inl before ↦ number_in-append old (pair ∷ []) q k (numbers.found k q before)
    | inr last ↦ subst (λ (p : ℕ × ℕ). number_in (old ++ pair ∷ []) p ≡ Some k) (sym last.1)
        (number_in-last old pair none ∙ ap (λ (n : ℕ). let o : Option ℕ = Some n in o) (sym last.0))
  ];
  few = let both = length-append old (pair ∷ []) in omega arith;
}

-- the answers of the rule
pub numbered-two : (pairs : List (ℕ × ℕ)) (states : List ℕ) (n : ℕ) → numbered pairs states ≡ Some n →
    (p : ℕ) × (q : ℕ) × (states ≡ p ∷ q ∷ []) × (number_in pairs (p, q) ≡ Some n)
numbered-two pairs [] n e = absurd (let f : ◌≡◌ {A = Option ℕ} None (Some n) = e in cc)
numbered-two pairs (p ∷ []) n e = absurd (let f : ◌≡◌ {A = Option ℕ} None (Some n) = e in cc)
numbered-two pairs (p ∷ q ∷ []) n e = (p, q, refl, e)
numbered-two pairs (p ∷ q ∷ r ∷ rest) n e = absurd (let f : ◌≡◌ {A = Option ℕ} None (Some n) = e in cc)

pub KeepsAnswers-pairs : (old new : List (ℕ × ℕ)) →
    ((pair : ℕ × ℕ) (n : ℕ) → number_in old pair ≡ Some n → number_in new pair ≡ Some n) → KeepsAnswers (numbered old) (numbered new)
KeepsAnswers-pairs old new kept = λ states n there.
    let two = numbered-two old states n there in
    subst (λ (list : List ℕ). numbered new list ≡ Some n) (sym two.2) (kept (two.0, two.1) n two.3)

pub KeepsAnswers-grows : (old new : List (ℕ × ℕ)) (pair : ℕ × ℕ) → Grows old new pair → KeepsAnswers (numbered old) (numbered new)
KeepsAnswers-grows old new pair (stays same) = KeepsAnswers-pairs old new (λ q n e. subst (λ (ps : List (ℕ × ℕ)). number_in ps q ≡ Some n) (sym same) e)
KeepsAnswers-grows old new pair (comes none is) =
    KeepsAnswers-pairs old new (λ q n e. subst (λ (ps : List (ℕ × ℕ)). number_in ps q ≡ Some n) (sym is) (number_in-append old (pair ∷ []) q n e))

pub AnswersOnly-grows : (old new : List (ℕ × ℕ)) (p q : ℕ) → Grows old new (p, q) →
    AnswersOnly (λ asked. asked ≡ p ∷ q ∷ []) (numbered old) (numbered new)
AnswersOnly-grows old new p q (stays same) = λ states n there absent.
    absurd (some-none (numbered old states) n (subst (λ (ps : List (ℕ × ℕ)). numbered ps states ≡ Some n) same there) absent)
AnswersOnly-grows old new p q (comes none is) = λ states n there absent.
    let two = numbered-two new states n there in
    let was : number_in old (two.0, two.1) ≡ None = subst (λ (list : List ℕ). numbered old list ≡ None) two.2 absent in
    let now = subst (λ (ps : List (ℕ × ℕ)). number_in ps (two.0, two.1) ≡ Some n) is two.3 in
    let same = number_in-only old (p, q) (two.0, two.1) n now was in
    two.2 ∙ ap (λ (pair : ℕ × ℕ). pair.0 ∷ pair.1 ∷ []) same

-- pairs that keep their numbers
pub Extends-answers : (old new : List (ℕ × ℕ)) → AreNumbers old → KeepsAnswers (numbered old) (numbered new) → Extends old new
Extends-answers old new numbers kept = record {
  kept = λ k pair there. number_in-get new pair k (kept (pair.0 ∷ pair.1 ∷ []) k (numbers.found k pair there));
}

pub Extends-refl : (pairs : List (ℕ × ℕ)) → Extends pairs pairs
Extends-refl pairs = record { kept = λ k pair there. there }

pub Extends-trans : (old middle new : List (ℕ × ℕ)) → Extends old middle → Extends middle new → Extends old new
Extends-trans old middle new first second = record { kept = λ k pair there. second.kept k pair (first.kept k pair there) }

pub Extends-append : (old more : List (ℕ × ℕ)) → Extends old (old ++ more)
Extends-append old more = record { kept = λ k pair there. get-kept old more pair k there }

-- a list that has the next pair too
pub Extends-next : (old list : List (ℕ × ℕ)) (pair : ℕ × ℕ) → Extends old list → slice_get list (length old) ≡ Some pair → Extends (old ++ pair ∷ []) list
Extends-next old list pair extends at = record {
  kept = λ k q there. elim (get-snoc old pair q k there) [
    | inl before ↦ extends.kept k q before
    | inr last ↦ ap (slice_get list) last.0 ∙ at ∙ ap (λ (p : ℕ × ℕ). let o : Option (ℕ × ℕ) = Some p in o) (sym last.1)
  ];
}

-- a list that keeps its places is no shorter
pub extends-longer : (old new : List (ℕ × ℕ)) → Extends old new → length old ≤ length new
extends-longer old new extends = elim (cases_lt (length new) (length old)) [
  | inl shorter ↦
      let one = get-index old (length new) shorter in
      absurd (omega (arith, slice_get_within new (length new) one.0 (extends.kept (length new) one.0 one.1)))
  | inr longer ↦ longer
]

-- lists of which one extends the other, and no longer one, are the same
pub extends-same : (old new : List (ℕ × ℕ)) → Extends old new → length new ≤ length old → old ≡ new
extends-same old new extends most = ext old new (λ k. pick k (slice_get old k) refl)
  where
    pick : (k : ℕ) (o : Option (ℕ × ℕ)) → slice_get old k ≡ o → slice_get old k ≡ slice_get new k
    pick k None none = none ∙ sym (slice_get_past new k (omega (arith, most, past-none old k none)))
    pick k (Some pair) there = there ∙ sym (extends.kept k pair there)

pub number_in-extends : (old new : List (ℕ × ℕ)) → AreNumbers new → Extends old new → (pair : ℕ × ℕ) (n : ℕ) →
    number_in old pair ≡ Some n → number_in new pair ≡ Some n
number_in-extends old new numbers extends pair n e = numbers.found n pair (extends.kept n pair (number_in-get old pair n e))

pub KeepsAnswers-extends : (old new : List (ℕ × ℕ)) → AreNumbers new → Extends old new → KeepsAnswers (numbered old) (numbered new)
KeepsAnswers-extends old new numbers extends = KeepsAnswers-pairs old new (number_in-extends old new numbers extends)

pub Completes-extends : (old new : List (ℕ × ℕ)) (given : List ℕ → ℕ) → AreNumbers new → Extends old new →
    Completes (numbered new) given → Completes (numbered old) given
Completes-extends old new given numbers extends completes = λ states n there.
    completes states n (KeepsAnswers-extends old new numbers extends states n there)

-- a list of two
pub two-of : (xs : List ℕ) → length xs ≡ 2 → slice_index xs 0 ∷ slice_index xs 1 ∷ [] ≡ xs
two-of [] is = absurd (omega arith)
two-of (x ∷ []) is = absurd (omega arith)
two-of (x ∷ y ∷ []) is = refl
two-of (x ∷ y ∷ z ∷ xs) is = absurd (omega arith)

-- what may be numbered still has numbers
pub numbers-still : (old new : List (ℕ × ℕ)) → AreNumbers old → ((states : List ℕ) → MayNumber old states → MayNumber new states) → AreNumbers new
numbers-still old new numbers still = (still (0 ∷ 0 ∷ []) (record { numbers = numbers; two = refl })).numbers
