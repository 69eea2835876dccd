-- Numbers for sets of states.
use Rattle.std.proofs.Common.{◌≡◌, ℕ, zero, suc, ◌<◌, ◌^◌, Bool, true, false, ◌||◌, List, [], ◌∷◌, ◌++◌, length, length-append, Global, if◌then◌else◌}
use Rattle.std.proofs.Common.{Option, Some, None, option_map, slice_get, nat_eq, sym, ◌∙◌, ap, refl, subst, inl, inr, arith, ◌⊎◌}
use Rattle.std.specs.Prelude.{Vec}
use Rattle.std.specs.List.{list_any}
use Rattle.std.specs.Cmp.Lexicographic.{pointwise}
use Rattle.std.proofs.lemmas.List.{map-append}
use Rattle.std.proofs.lemmas.Bool.{cases_Bool, eqb-true, eq-eqb, false≢true}
use Rattle.bdd_walk.specs.Laws.{and-left, and-right, and-both}
use Rattle.bdd_walk.specs.Answers.{KeepsAnswers, AnswersOnly, Completes}
use Rattle.gta_subsets.specs.Numbers.{is_set, lists_of, number_in, numbered, AreOfOneSet, AreNumbers, Extends, Grows, stays, comes}
use Rattle.bdd_walk.specs.Sets.{set_of, IsSet}

pub is_set-true : (a b : List ℕ) → is_set a b ≡ true → a ≡ b
is_set-true [] [] e = refl
is_set-true [] (y ∷ ys) e = absurd (false≢true e)
is_set-true (x ∷ xs) [] e = absurd (false≢true e)
is_set-true (x ∷ xs) (y ∷ ys) e =
    ap (λ (n : ℕ). n ∷ xs) (eqb-true x y (and-left (nat_eq x y) (is_set xs ys) e))
    ∙ ap (λ (ns : List ℕ). y ∷ ns) (is_set-true xs ys (and-right (nat_eq x y) (is_set xs ys) e))

pub is_set-refl : (a : List ℕ) → is_set a a ≡ true
is_set-refl [] = refl
is_set-refl (x ∷ xs) = and-both (nat_eq x x) (is_set xs xs) (eq-eqb x x refl) (is_set-refl xs)

cases_option : (o : Option ℕ) → (o ≡ None) ⊎ ((n : ℕ) × (o ≡ Some n))
cases_option None = inl refl
cases_option (Some n) = inr (n, refl)

some-none : (o : Option ℕ) (n : ℕ) → o ≡ Some n → o ≡ None → ⊥
some-none o n some none = let e : ◌≡◌ {A = Option ℕ} None (Some n) = sym none ∙ some in cc

-- what a test and the rest of a list have found
pick : (b : Bool) (o : Option ℕ) (n : ℕ) → (if b then Some 0 else option_map suc o) ≡ Some n →
    ((b ≡ true) × (n ≡ 0)) ⊎ ((b ≡ false) × ((m : ℕ) × (o ≡ Some m) × (n ≡ suc m)))
pick true o n e = inl (refl, let f : ◌≡◌ {A = Option ℕ} (Some 0) (Some n) = e in cc)
pick false None n e = absurd (let f : ◌≡◌ {A = Option ℕ} None (Some n) = e in cc)
pick false (Some m) n e = inr (refl, (m, refl, let f : ◌≡◌ {A = Option ℕ} (Some (suc m)) (Some n) = e in cc))

pick_none : (b : Bool) (o : Option ℕ) → (if b then Some 0 else option_map suc o) ≡ None → (b ≡ false) × (o ≡ None)
pick_none true o e = absurd (let f : ◌≡◌ {A = Option ℕ} (Some 0) None = e in cc)
pick_none false None e = (refl, refl)
pick_none false (Some m) e = absurd (let f : ◌≡◌ {A = Option ℕ} (Some (suc m)) None = e in cc)

-- a number is a place of the set
pub number_in-get : (sets : List (List ℕ)) (set : List ℕ) (n : ℕ) → number_in sets set ≡ Some n → slice_get sets n ≡ Some set
number_in-get [] set n e = absurd (let f : ◌≡◌ {A = Option ℕ} None (Some n) = e in cc)
number_in-get (p ∷ ps) set n e = elim (pick (is_set set p) (number_in ps set) n e) [
  | inl found ↦ subst (λ (k : ℕ). slice_get (p ∷ ps) k ≡ Some set) (sym found.1)
      (ap (λ (q : List ℕ). let o : Option (List ℕ) = Some q in o) (sym (is_set-true set p found.0)))
  | inr later ↦ subst (λ (k : ℕ). slice_get (p ∷ ps) k ≡ Some set) (sym (later.1).2) (number_in-get ps set (later.1).0 (later.1).1)
]

pub number_in-append : (xs ys : List (List ℕ)) (set : List ℕ) (n : ℕ) → number_in xs set ≡ Some n → number_in (xs ++ ys) set ≡ Some n
number_in-append [] ys set n e = absurd (let f : ◌≡◌ {A = Option ℕ} None (Some n) = e in cc)
number_in-append (x ∷ xs) ys set n e = elim (pick (is_set set x) (number_in xs set) n e) [
  | inl found ↦ ap (λ (b : Bool). if b then Some 0 else option_map suc (number_in (xs ++ ys) set)) found.0 ∙ ap (λ (k : ℕ). let o : Option ℕ =
      Some k in o) (sym found.1)
  | inr later ↦ ap (λ (b : Bool). if b then Some 0 else option_map suc (number_in (xs ++ ys) set)) later.0
      ∙ ap (option_map suc) (number_in-append xs ys set (later.1).0 (later.1).1) ∙ ap (λ (k : ℕ). let o : Option ℕ = Some k in o) (sym (later.1).2)
]

-- a set that comes has the last place
pub number_in-last : (xs : List (List ℕ)) (set : List ℕ) → number_in xs set ≡ None → number_in (xs ++ set ∷ []) set ≡ Some (length xs)
number_in-last [] set none = ap (λ (b : Bool). if b then Some 0 else None) (is_set-refl set)
number_in-last (x ∷ xs) set none =
    let parts = pick_none (is_set set x) (number_in xs set) none in
    ap (λ (b : Bool). if b then Some 0 else option_map suc (number_in (xs ++ set ∷ []) set)) parts.0
    ∙ ap (option_map suc) (number_in-last xs set parts.1)

-- only the set that comes gets a number
pub number_in-only : (xs : List (List ℕ)) (set q : List ℕ) (n : ℕ) → number_in (xs ++ set ∷ []) q ≡ Some n → number_in xs q ≡ None → q ≡ set
number_in-only [] set q n e none = elim (pick (is_set q set) None n e) [
  | inl found ↦ is_set-true q set found.0
  | inr later ↦ absurd (let f : ◌≡◌ {A = Option ℕ} None (Some (later.1).0) = (later.1).1 in cc)
]
number_in-only (x ∷ xs) set q n e none =
    let parts = pick_none (is_set q x) (number_in xs q) none in
    elim (pick (is_set q x) (number_in (xs ++ set ∷ []) q) n e) [
      | inl found ↦ absurd (false≢true (sym parts.0 ∙ found.0))
      | inr later ↦ number_in-only xs set q (later.1).0 (later.1).1 parts.1
    ]

or-false : (a b : Bool) → (a || b) ≡ false → (a ≡ false) × (b ≡ false)
or-false true b e = absurd (false≢true (sym e))
or-false false b e = (refl, e)

pub number_in-none : (sets : List (List ℕ)) (set : List ℕ) → list_any (is_set set) sets ≡ false → number_in sets set ≡ None
number_in-none [] set e = refl
number_in-none (p ∷ ps) set e =
    let parts = or-false (is_set set p) (list_any (is_set set) ps) e in
    ap (λ (b : Bool). if b then Some 0 else option_map suc (number_in ps set)) parts.0 ∙ ap (option_map suc) (number_in-none ps set parts.1)

pub get-snoc : {X : Type 0} (xs : List X) (x q : X) (k : ℕ) → slice_get (xs ++ x ∷ []) k ≡ Some q →
    (slice_get xs k ≡ Some q) ⊎ ((k ≡ length xs) × (q ≡ x))
get-snoc {X} [] x q zero e = inr (refl, let f : ◌≡◌ {A = Option X} (Some x) (Some q) = e in cc)
get-snoc {X} [] x q (suc k) e = absurd (let f : ◌≡◌ {A = Option X} None (Some q) = e in cc)
get-snoc (y ∷ ys) x q zero e = inl e
get-snoc (y ∷ ys) x q (suc k) e = elim (get-snoc ys x q k e) [
  | inl before ↦ inl before
  | inr last ↦ inr (ap suc last.0, last.1)
]

pub get-kept : {X : Type 0} (xs ys : List X) (q : X) (k : ℕ) → slice_get xs k ≡ Some q → slice_get (xs ++ ys) k ≡ Some q
get-kept {X} [] ys q k e = absurd (let f : ◌≡◌ {A = Option X} None (Some q) = e in cc)
get-kept (x ∷ xs) ys q zero e = e
get-kept (x ∷ xs) ys q (suc k) e = get-kept xs ys q k e

pub get-last : {X : Type 0} (xs : List X) (x : X) → slice_get (xs ++ x ∷ []) (length xs) ≡ Some x
get-last [] x = refl
get-last (y ∷ ys) x = get-last ys x

pub AreNumbers-none : AreNumbers []
AreNumbers-none = record {
  found = λ k set e. absurd (let f : ◌≡◌ {A = Option (List ℕ)} None (Some set) = e in cc);
  few = omega arith;
  set = λ k set e. absurd (let f : ◌≡◌ {A = Option (List ℕ)} None (Some set) = e in cc);
}

pub AreNumbers-comes : (old : List (List ℕ)) (set : List ℕ) → IsSet set → AreNumbers old → number_in old set ≡ None → length old < 2 ^ 31 →
    AreNumbers (old ++ set ∷ [])
AreNumbers-comes old set is_one numbers none room = record {
  found = λ k q e. elim (get-snoc old set q k e) [
    | inl before ↦ number_in-append old (set ∷ []) q k (numbers.found k q before)
    | inr last ↦ subst (λ (p : List ℕ). number_in (old ++ set ∷ []) p ≡ Some k) (sym last.1)
        (number_in-last old set none ∙ ap (λ (n : ℕ). let o : Option ℕ = Some n in o) (sym last.0))
  ];
  few = let both = length-append old (set ∷ []) in omega arith;
  set = λ k q e. elim (get-snoc old set q k e) [
    | inl before ↦ numbers.set k q before
    | inr last ↦ subst IsSet (sym last.1) is_one
  ];
}

pub Grows-insert : (old new : List (List ℕ)) (set : List ℕ) →
    new ≡ (if list_any (is_set set) old then old else old ++ set ∷ []) → Grows old new set
Grows-insert old new set is = elim (cases_Bool (list_any (is_set set) old)) [
  | inl there ↦ stays (is ∙ ap (λ (b : Bool). if b then old else old ++ set ∷ []) there)
  | inr absent ↦ comes (number_in-none old set absent) (is ∙ ap (λ (b : Bool). if b then old else old ++ set ∷ []) absent)
]

pub AreNumbers-grows : (old new : List (List ℕ)) (set : List ℕ) → IsSet set → AreNumbers old → length old < 2 ^ 31 → Grows old new set → AreNumbers new
AreNumbers-grows old new set is_one numbers room (stays same) = subst AreNumbers (sym same) numbers
AreNumbers-grows old new set is_one numbers room (comes none is) = subst AreNumbers (sym is) (AreNumbers-comes old set is_one numbers none room)

-- the keys of the index
pub any-lists : (key : Vec ℕ Global) (keys : List (Vec ℕ Global)) →
    list_any (λ (other : Vec ℕ Global). pointwise nat_eq key.items other.items) keys ≡ list_any (is_set key.items) (lists_of keys)
any-lists key [] = refl
any-lists key (k ∷ ks) = ap (λ (b : Bool). is_set key.items k.items || b) (any-lists key ks)

pub lists_of-insert : (key : Vec ℕ Global) (old new : List (Vec ℕ Global)) →
    new ≡ (if list_any (λ (other : Vec ℕ Global). pointwise nat_eq key.items other.items) old then old else old ++ key ∷ []) →
    lists_of new ≡ (if list_any (is_set key.items) (lists_of old) then lists_of old else lists_of old ++ key.items ∷ [])
lists_of-insert key old new is =
    ap lists_of is
    ∙ pick (list_any (λ (other : Vec ℕ Global). pointwise nat_eq key.items other.items) old)
    ∙ ap (λ (b : Bool). if b then lists_of old else lists_of old ++ key.items ∷ []) (any-lists key old)
  where
    pick : (b : Bool) → lists_of (if b then old else old ++ key ∷ []) ≡ (if b then lists_of old else lists_of old ++ key.items ∷ [])
    pick true = refl
    pick false = map-append (λ (v : Vec ℕ Global). v.items) old (key ∷ [])

-- the answers of the rule
pub KeepsAnswers-sets : (old new : List (List ℕ)) →
    ((set : List ℕ) (n : ℕ) → number_in old set ≡ Some n → number_in new set ≡ Some n) → KeepsAnswers (numbered old) (numbered new)
KeepsAnswers-sets old new kept = λ states n there. kept (set_of states) n there

pub KeepsAnswers-grows : (old new : List (List ℕ)) (set : List ℕ) → Grows old new set → KeepsAnswers (numbered old) (numbered new)
KeepsAnswers-grows old new set (stays same) = KeepsAnswers-sets old new (λ q n e. subst (λ (ps : List (List ℕ)). number_in ps q ≡ Some n) (sym same) e)
KeepsAnswers-grows old new set (comes none is) =
    KeepsAnswers-sets old new (λ q n e. subst (λ (ps : List (List ℕ)). number_in ps q ≡ Some n) (sym is) (number_in-append old (set ∷ []) q n e))

pub AnswersOnly-grows : (old new : List (List ℕ)) (asked : List ℕ) → Grows old new (set_of asked) →
    AnswersOnly (AreOfOneSet asked) (numbered old) (numbered new)
AnswersOnly-grows old new asked (stays same) = λ states n there absent.
    absurd (some-none (numbered old states) n (subst (λ (ps : List (List ℕ)). numbered ps states ≡ Some n) same there) absent)
AnswersOnly-grows old new asked (comes none is) = λ states n there absent.
    number_in-only old (set_of asked) (set_of states) n (subst (λ (ps : List (List ℕ)). number_in ps (set_of states) ≡ Some n) is there) absent

-- sets that keep their numbers
pub Extends-numbers : (old new : List (List ℕ)) → AreNumbers old →
    ((set : List ℕ) (n : ℕ) → number_in old set ≡ Some n → number_in new set ≡ Some n) → Extends old new
Extends-numbers old new numbers kept = record { kept = λ k set there. number_in-get new set k (kept set k (numbers.found k set there)) }

pub Extends-refl : (sets : List (List ℕ)) → Extends sets sets
Extends-refl sets = record { kept = λ k set there. there }

pub Extends-trans : (old middle new : List (List ℕ)) → Extends old middle → Extends middle new → Extends old new
Extends-trans old middle new first second = record { kept = λ k set there. second.kept k set (first.kept k set there) }

pub number_in-extends : (old new : List (List ℕ)) → AreNumbers new → Extends old new → (set : List ℕ) (n : ℕ) →
    number_in old set ≡ Some n → number_in new set ≡ Some n
number_in-extends old new numbers extends set n e = numbers.found n set (extends.kept n set (number_in-get old set n e))

pub Completes-extends : (old new : List (List ℕ)) (given : List ℕ → ℕ) → AreNumbers new → Extends old new →
    Completes (number_in new) given → Completes (number_in old) given
Completes-extends old new given numbers extends completes = λ set n there.
    completes set n (number_in-extends old new numbers extends set n there)

-- a way of giving numbers to sets gives them to lists
pub Completes-lists : (sets : List (List ℕ)) (given : List ℕ → ℕ) → Completes (number_in sets) given →
    Completes (numbered sets) (λ states. given (set_of states))
Completes-lists sets given completes = λ states n there. completes (set_of states) n there
