-- Lists of shapes, each once.
use Rattle.std.proofs.Common.{◌≡◌, ℕ, zero, suc, ◌+◌, ◌<◌, ◌^◌, Bool, true, false, if◌then◌else◌, List, [], ◌∷◌, ◌++◌, length, Option, Some, slice_get}
use Rattle.std.proofs.Common.{refl, sym, ◌∙◌, ap, subst, inl, inr, arith, eqb-true, eq-eqb, length-append, nat_eq}
use Rattle.std.specs.Prelude.{◌&&◌, ◌||◌}
use Rattle.std.specs.List.{list_any}
use Rattle.std.proofs.lemmas.Bool.{cases_Bool, false≢true}
use Rattle.bdd_walk.specs.Laws.{and-left, and-right, and-both, same_word}
use Rattle.gta_theory.proofs.ListedLemmas.{slice_get-push}
use Rattle.gta_pinned.specs.declared.shapes.Shape.{Shape}
use Rattle.gta_pinned.specs.contracts.shapes.ShapePartialEq.TheImpl as shape_eq
use Rattle.gta_pinned.specs.Shapes.{AreListed}

abbrev pub same_shape : Shape → Shape → Bool
same_shape = (shape_eq.ghosts).eq

-- shapes with equal parts are one
pub shapes-same : (a b : Shape) → a.left ≡ b.left → a.right ≡ b.right → a.test ≡ b.test → a ≡ b
shapes-same a b left right test = λ i. record { left = left i; right = right i; test = test i }

same_shape-true : (a b : Shape) → same_shape a b ≡ true → a ≡ b
same_shape-true a b e =
    let later = and-right (nat_eq a.left b.left) (nat_eq a.right b.right && nat_eq a.test.word b.test.word) e in
    shapes-same a b
    (eqb-true a.left b.left (and-left (nat_eq a.left b.left) (nat_eq a.right b.right && nat_eq a.test.word b.test.word) e))
    (eqb-true a.right b.right (and-left (nat_eq a.right b.right) (nat_eq a.test.word b.test.word) later))
    (same_word a.test b.test (and-right (nat_eq a.right b.right) (nat_eq a.test.word b.test.word) later))

same_shape-refl : (a : Shape) → same_shape a a ≡ true
same_shape-refl a =
    and-both (nat_eq a.left a.left) (nat_eq a.right a.right && nat_eq a.test.word a.test.word) (eq-eqb a.left a.left refl)
    (and-both (nat_eq a.right a.right) (nat_eq a.test.word a.test.word) (eq-eqb a.right a.right refl) (eq-eqb a.test.word a.test.word refl))

-- a shape at a place is found
any-there : (shapes : List Shape) (shape : Shape) (k : ℕ) → slice_get shapes k ≡ Some shape → list_any (same_shape shape) shapes ≡ true
any-there [] shape k at = absurd cc
any-there (x ∷ xs) shape zero at =
    let e : x ≡ shape = cc in
    ap (λ (b : Bool). b || list_any (same_shape shape) xs) (subst (λ (y : Shape). same_shape shape y ≡ true) (sym e) (same_shape-refl shape))
any-there (x ∷ xs) shape (suc k) at = elim (cases_Bool (same_shape shape x)) [
  | inl here ↦ ap (λ (b : Bool). b || list_any (same_shape shape) xs) here
  | inr other ↦ ap (λ (b : Bool). b || list_any (same_shape shape) xs) other ∙ any-there xs shape k at
]

some-same : (x y : Shape) → x ≡ y → ◌≡◌ {A = Option Shape} (Some y) (Some x)
some-same x y e = ap (λ (s : Shape). let o : Option Shape = Some s in o) (sym e)

AreListed-push : (old : List Shape) (shape : Shape) → AreListed old → list_any (same_shape shape) old ≡ false → length old + 1 < 2 ^ 31 →
    AreListed (old ++ shape ∷ [])
AreListed-push old shape listed absent room = record {
  once = λ i j other at_i at_j. elim (slice_get-push old shape other i at_i) [
    | inl before_i ↦ elim (slice_get-push old shape other j at_j) [
      | inl before_j ↦ listed.once i j other before_i before_j
      | inr last_j ↦ absurd (false≢true (sym absent ∙ any-there old shape i (before_i ∙ some-same shape other last_j.1)))
    ]
    | inr last_i ↦ elim (slice_get-push old shape other j at_j) [
      | inl before_j ↦ absurd (false≢true (sym absent ∙ any-there old shape j (before_j ∙ some-same shape other last_i.1)))
      | inr last_j ↦ last_i.0 ∙ sym last_j.0
    ]
  ];
  few = let both = length-append old (shape ∷ []) in omega arith;
}

-- a shape is put in
pub AreListed-insert : (old new : List Shape) (shape : Shape) → new ≡ (if list_any (same_shape shape) old then old else old ++ shape ∷ []) →
    AreListed old → length old + 1 < 2 ^ 31 → AreListed new
AreListed-insert old new shape is listed room = elim (cases_Bool (list_any (same_shape shape) old)) [
  | inl there ↦ subst AreListed (sym (is ∙ ap (λ (b : Bool). if b then old else old ++ shape ∷ []) there)) listed
  | inr absent ↦ subst AreListed (sym (is ∙ ap (λ (b : Bool). if b then old else old ++ shape ∷ []) absent))
      (AreListed-push old shape listed absent room)
]
