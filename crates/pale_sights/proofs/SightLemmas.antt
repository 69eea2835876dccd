-- What places see of variables.
use Rattle.std.proofs.Common.{◌≡◌, ℕ, zero, suc, ◌+◌, Bool, true, List, [], ◌∷◌, ◌++◌, length, Option, Some, slice_get}
use Rattle.std.proofs.Common.{refl, sym, ap, ◌∙◌, subst, append_assoc, append-nil, IsSomeAnd, length-append}
use Rattle.std.proofs.lemmas.List.{map-append}
use Rattle.std.specs.List.{AllByRecursion}
use Rattle.store_core.specs.declared.kind.VarKind.TheVariants as var
use Rattle.store_core.specs.Tables.{VarEntry, AreDistinct, var_names}
use Rattle.pale_tables.proofs.StageLemmas.{distinct-first}
use Rattle.pale_terms.specs.Sorts.{kept}
use Rattle.pale_terms.specs.Visibles.{Entry}
use Rattle.pale_terms.specs.Scopes.{visible_names}
use Rattle.pale_fitting.specs.Standing.{IsVariable, AreVariables}
use Rattle.pale_sights.specs.declared.sights.Heading.{Heading}
use Rattle.pale_sights.specs.Sights.{seen, first_result, first_local, first_logic, heading_sight, body_sight, vars_of, frame_of}
use Rattle.pale_sights.specs.Framing.{IsHeading, IsBody, IsFrame, AreOfATable, MayBeNamed}

-- ---- names

pub names-seen : (may : Bool) (number : ℕ) (vars : List VarEntry) → visible_names (seen may number vars) ≡ var_names vars
names-seen may number [] = refl
names-seen may number (v ∷ vars) = ap (λ names. v.name ∷ names) (names-seen may (number + 1) vars)

abbrev name_in : Entry → List ℕ
name_in e = e.name

-- the names of the first entries, and then those of the variables that are seen
pub names-more : (may : Bool) (number : ℕ) (entries : List Entry) (vars : List VarEntry) →
    visible_names (entries ++ seen may number vars) ≡ visible_names entries ++ var_names vars
names-more may number entries vars =
    map-append name_in entries (seen may number vars) ∙ ap (λ names. visible_names entries ++ names) (names-seen may number vars)

-- ---- parts that are shown one behind the other

-- names that stand once may be shown
pub show-distinct : (names : List (List ℕ)) (part vars : List VarEntry) (scope : List Entry) → visible_names scope ≡ names → vars ≡ part →
    AreDistinct (names ++ var_names part) → AreDistinct (visible_names scope ++ var_names vars)
show-distinct names part vars scope is same distinct =
    subst (λ (ns : List (List ℕ)). AreDistinct (ns ++ var_names vars)) (sym is)
    (subst (λ (vs : List VarEntry). AreDistinct (names ++ var_names vs)) (sym same) distinct)

-- the names with those of the part that was shown
pub names-next : (may : Bool) (number : ℕ) (names : List (List ℕ)) (part vars : List VarEntry) (scope after : List Entry) →
    visible_names scope ≡ names → vars ≡ part → after ≡ scope ++ seen may number vars → visible_names after ≡ names ++ var_names part
names-next may number names part vars scope after is same shown =
    ap visible_names shown ∙ names-more may number scope vars
    ∙ ap (λ (ns : List (List ℕ)). ns ++ var_names vars) is ∙ ap (λ (vs : List VarEntry). names ++ var_names vs) same

-- the same of a table
pub add-distinct : (names : List (List ℕ)) (part vars table : List VarEntry) → var_names table ≡ names → vars ≡ part →
    AreDistinct (names ++ var_names part) → AreDistinct (var_names table ++ var_names vars)
add-distinct names part vars table is same distinct =
    subst (λ (ns : List (List ℕ)). AreDistinct (ns ++ var_names vars)) (sym is)
    (subst (λ (vs : List VarEntry). AreDistinct (names ++ var_names vs)) (sym same) distinct)

pub added-names : (names : List (List ℕ)) (part vars table after : List VarEntry) → var_names table ≡ names → vars ≡ part → after ≡ table ++ vars →
    var_names after ≡ names ++ var_names part
added-names names part vars table after is same added =
    ap var_names added ∙ map-append (λ (v : VarEntry). v.name) table vars
    ∙ ap (λ (ns : List (List ℕ)). ns ++ var_names vars) is ∙ ap (λ (vs : List VarEntry). names ++ var_names vs) same

-- the first parts of the names of a heading
module _ (h : Heading) (distinct : IsHeading h) where
  pub heading-two : AreDistinct (var_names h.params ++ var_names h.results)
  heading-two = distinct-first (var_names h.params ++ var_names h.results) (var_names h.logics) distinct

  pub heading-one : AreDistinct (var_names h.params)
  heading-one = distinct-first (var_names h.params) (var_names h.results) heading-two

-- and of a body
module _ (h : Heading) (locals : List VarEntry) (distinct : IsBody h locals) where
  pub body-three : AreDistinct (var_names h.params ++ var_names h.results ++ var_names locals)
  body-three = distinct-first (var_names h.params ++ var_names h.results ++ var_names locals) (var_names h.logics) distinct

  pub body-two : AreDistinct (var_names h.params ++ var_names h.results)
  body-two = distinct-first (var_names h.params ++ var_names h.results) (var_names locals) body-three

  pub body-one : AreDistinct (var_names h.params)
  body-one = distinct-first (var_names h.params) (var_names h.results) body-two

-- ---- what is seen is there

seen-at : (front back : List VarEntry) (v : VarEntry) → slice_get (front ++ v ∷ back) (length front) ≡ Some v
seen-at [] back v = refl
seen-at (w ∷ front) back v = seen-at front back v

-- the variables of a middle part, seen with their numbers, are those of the table
pub seen-variables : (may : Bool) (table front vars back : List VarEntry) (number : ℕ) → table ≡ front ++ (vars ++ back) → number ≡ length front →
    AreVariables table (seen may number vars)
seen-variables may table front [] back number whole is = tt
seen-variables may table front (v ∷ vars) back number whole is = (
  record {
    var = record { 0 = number };
    origin = refl;
    sort = subst (λ (o : Option VarEntry). IsSomeAnd o (λ entry. kept v.kind ≡ kept entry.kind))
        (sym (ap (λ t. slice_get t number) whole ∙ ap (slice_get (front ++ (v ∷ (vars ++ back)))) is ∙ seen-at front (vars ++ back) v))
        refl;
  },
  seen-variables may table (front ++ v ∷ []) vars back (number + 1) (whole ∙ sym (append_assoc front (v ∷ []) (vars ++ back)))
      (ap (λ n. n + 1) is ∙ sym (length-append front (v ∷ []))),
)

all-join : {X : Type 0} (P : X → Type 0) (xs ys : List X) → AllByRecursion P xs → AllByRecursion P ys → AllByRecursion P (xs ++ ys)
all-join P [] ys first second = second
all-join P (x ∷ xs) ys first second = (first.0, all-join P xs ys first.1 second)

-- ---- the four parts of the table

module _ (a b c d : List VarEntry) where
  abbrev whole : List VarEntry
  whole = a ++ b ++ c ++ d

  from_second : whole ≡ a ++ (b ++ (c ++ d))
  from_second =
      append_assoc (a ++ b) c d ∙ append_assoc a b (c ++ d)

  from_third : whole ≡ (a ++ b) ++ (c ++ d)
  from_third = append_assoc (a ++ b) c d

  from_fourth : whole ≡ ((a ++ b) ++ c) ++ (d ++ [])
  from_fourth = ap (λ last. ((a ++ b) ++ c) ++ last) (sym (append-nil d))

  second_number : length a + length b ≡ length (a ++ b)
  second_number = sym (length-append a b)

  third_number : (n : ℕ) → n ≡ length c → length a + length b + n ≡ length ((a ++ b) ++ c)
  third_number n is =
      ap (λ m. length a + length b + m) is ∙ ap (λ m. m + length c) (sym (length-append a b)) ∙ sym (length-append (a ++ b) c)

  -- all parts are seen
  pub seen-all : (logics_may : Bool) (n : ℕ) → n ≡ length c →
      AreVariables whole
      (seen true 0 a ++ seen true (length a) b ++ seen true (length a + length b) c ++ seen logics_may (length a + length b + n) d)
  seen-all logics_may n is =
      all-join (IsVariable whole) (seen true 0 a ++ seen true (length a) b ++ seen true (length a + length b) c) _
      (all-join (IsVariable whole) (seen true 0 a ++ seen true (length a) b) _
      (all-join (IsVariable whole) (seen true 0 a) _ (seen-variables true whole [] a (b ++ (c ++ d)) 0 from_second refl)
      (seen-variables true whole a b (c ++ d) (length a) from_second refl))
      (seen-variables true whole (a ++ b) c d (length a + length b) from_third second_number))
      (seen-variables logics_may whole ((a ++ b) ++ c) d [] (length a + length b + n) from_fourth (third_number n is))

  -- all but the third are seen
  pub seen-outside : (a_may b_may : Bool) (n : ℕ) → n ≡ length c →
      AreVariables whole (seen a_may 0 a ++ seen b_may (length a) b ++ seen true (length a + length b + n) d)
  seen-outside a_may b_may n is =
      all-join (IsVariable whole) (seen a_may 0 a ++ seen b_may (length a) b) _
      (all-join (IsVariable whole) (seen a_may 0 a) _ (seen-variables a_may whole [] a (b ++ (c ++ d)) 0 from_second refl)
      (seen-variables b_may whole a b (c ++ d) (length a) from_second refl))
      (seen-variables true whole ((a ++ b) ++ c) d [] (length a + length b + n) from_fourth (third_number n is))

-- ---- headings

-- as many variables as this
any : ℕ → List VarEntry
any zero = []
any (suc n) = record { name = []; kind = var.Bool } ∷ any n

any-length : (n : ℕ) → n ≡ length (any n)
unfolding any
any-length zero = refl
any-length (suc n) = ap suc (any-length n)

-- the heading sees the variables of a table
pub heading-variables : (h : Heading) (params_may results_may : Bool) → AreOfATable (heading_sight params_may results_may h)
heading-variables h params_may results_may = record {
  vars = vars_of h (any h.locals);
  each = seen-outside h.params h.results (any h.locals) h.logics params_may results_may h.locals (any-length h.locals);
}

-- ---- frames

open-seen : (number : ℕ) (vars : List VarEntry) → AllByRecursion MayBeNamed (seen true number vars)
open-seen number [] = tt
open-seen number (v ∷ vars) = (refl, open-seen (number + 1) vars)

names-body : (h : Heading) (locals : List VarEntry) →
    visible_names (body_sight true h locals) ≡ var_names h.params ++ var_names h.results ++ var_names locals ++ var_names h.logics
names-body h locals =
    names-more true (first_logic h) (seen true 0 h.params ++ seen true (first_result h) h.results ++ seen true (first_local h) locals) h.logics
    ∙ ap (λ names. names ++ var_names h.logics)
    (names-more true (first_local h) (seen true 0 h.params ++ seen true (first_result h) h.results) locals
    ∙ ap (λ names. names ++ var_names locals)
    (names-more true (first_result h) (seen true 0 h.params) h.results ∙ ap (λ names. names ++ var_names h.results) (names-seen true 0 h.params)))

-- what the body sees is a frame
pub frame-is : (h : Heading) (locals : List VarEntry) → IsBody h locals → h.locals ≡ length locals → IsFrame (frame_of h locals)
frame-is h locals distinct is = record {
  stated = seen-all h.params h.results locals h.logics true h.locals is;
  wide =
      all-join MayBeNamed (seen true 0 h.params ++ seen true (first_result h) h.results ++ seen true (first_local h) locals) _
      (all-join MayBeNamed (seen true 0 h.params ++ seen true (first_result h) h.results) _
      (all-join MayBeNamed (seen true 0 h.params) _ (open-seen 0 h.params) (open-seen (first_result h) h.results)) (open-seen (first_local h) locals))
      (open-seen (first_logic h) h.logics);
  names = subst AreDistinct (sym (names-body h locals)) distinct;
}
