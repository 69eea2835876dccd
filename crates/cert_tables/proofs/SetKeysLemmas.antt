-- On lists of sets that are sought by space and members.
use Rattle.std.proofs.Common.{◌≡◌, ℕ, Bool, true, List, [], ◌∷◌, ◌++◌, length, Contains, Option, Some, None, slice_get, cond, ◌⊎◌}
use Rattle.std.proofs.Common.{refl, ap, sym, ◌∙◌, subst, inl, inr, eqb-true, eq-eqb, arith}
use Rattle.std.specs.Prelude.{IsTrue, IfNone, nat_eq}
use Rattle.std.specs.List.Sorted.{IsStrictlyIncreasing}
use Rattle.std.specs.Cmp.Lexicographic.{pointwise}
use Rattle.std.specs.HashMap.{HashMap, get, Updates}
use Rattle.std.specs.Map.{lookup}
use Rattle.std.specs.declared.hash.BuildHasherDefault.{BuildHasherDefault}
use Rattle.std.specs.declared.hash.FoldHasher.{FoldHasher}
use Rattle.std.proofs.lemmas.Bool.{cases_Bool, false≢true}
use Rattle.std.proofs.lemmas.Option.{slice_get_within, slice_get-get_or, get_or_from_slice_get}
use Rattle.gta_theory.proofs.ListedLemmas.{slice_get-push}
use Rattle.cert_text.specs.declared.line.SetLine.{SetLine}
use Rattle.cert_nodes.proofs.WalksLemmas.{push-cases}
use Rattle.cert_tables.specs.declared.set_table.SetKey.{SetKey}
use Rattle.cert_tables.specs.contracts.set_table.SetKeyPartialEq.TheImpl as key_eq
use Rattle.cert_tables.specs.SetKeys.{IsLineOf, AreSets, HasSet, HasSetPlaces}
use Rattle.cert_tables.proofs.TestsLemmas.{and-left, and-right, and-both, same-some}

abbrev pub SetPlaces : Type 0
SetPlaces = HashMap SetKey ℕ (BuildHasherDefault FoldHasher)

abbrev pub same_key : SetKey → SetKey → Bool
same_key = (key_eq.ghosts).eq

pub numbers-same : (xs ys : List ℕ) → pointwise nat_eq xs ys ≡ true → xs ≡ ys
numbers-same [] [] e = refl
numbers-same [] (y ∷ ys) e = absurd (false≢true e)
numbers-same (x ∷ xs) [] e = absurd (false≢true e)
numbers-same (x ∷ xs) (y ∷ ys) e =
    ap (λ (n : ℕ). n ∷ xs) (eqb-true x y (and-left (nat_eq x y) (pointwise nat_eq xs ys) e))
    ∙ ap (λ (ns : List ℕ). y ∷ ns) (numbers-same xs ys (and-right (nat_eq x y) (pointwise nat_eq xs ys) e))

pub key-space : (a b : SetKey) → same_key a b ≡ true → a.space ≡ b.space
key-space a b e = eqb-true a.space b.space (and-left (nat_eq a.space b.space) (pointwise nat_eq a.members.items b.members.items) e)

pub key-members : (a b : SetKey) → same_key a b ≡ true → a.members.items ≡ b.members.items
key-members a b e = numbers-same a.members.items b.members.items (and-right (nat_eq a.space b.space) (pointwise nat_eq a.members.items b.members.items) e)

same-numbers : (xs : List ℕ) → IsTrue (pointwise nat_eq xs xs)
same-numbers [] = refl
same-numbers (x ∷ xs) = and-both (nat_eq x x) (pointwise nat_eq xs xs) (eq-eqb x x refl) (same-numbers xs)

pub numbers-equal : (xs ys : List ℕ) → xs ≡ ys → pointwise nat_eq xs ys ≡ true
numbers-equal xs ys is = subst (λ (ms : List ℕ). IsTrue (pointwise nat_eq xs ms)) is (same-numbers xs)

pub same_key-equal : (a b : SetKey) → a.space ≡ b.space → a.members.items ≡ b.members.items → same_key a b ≡ true
same_key-equal a b space members =
    and-both (nat_eq a.space b.space) (pointwise nat_eq a.members.items b.members.items) (eq-eqb a.space b.space space)
    (numbers-equal a.members.items b.members.items members)

pub HasSetPlaces-empty : (places : SetPlaces) → HasSetPlaces [] places
HasSetPlaces-empty places = record { place = λ k key of. absurd (let e = of.at in cc) }

pub HasSetPlaces-insert : (lines : List SetLine) (places after : SetPlaces) (key : SetKey) (v : ℕ) → HasSetPlaces lines places →
    ((k : ℕ) → IsLineOf lines key.space key.members.items k → ⊥) → Updates same_key places after key (Some v) → HasSetPlaces lines after
HasSetPlaces-insert lines places after key v has absent updates = record {
  place = λ k other of. elim (cases_Bool (same_key key other)) as (λ _. get same_key after other ≡ Some k) [
    | inl same ↦ absurd (absent k (record {
      line = of.line;
      at = of.at;
      in_space = of.in_space ∙ sym (key-space key other same);
      has = of.has ∙ sym (key-members key other same);
    }))
    | inr apart ↦ updates.2 other apart ∙ has.place k other of
  ];
}

-- a place among the first lines, or the last one
line-cases : (lines : List SetLine) (line : SetLine) (s : ℕ) (members : List ℕ) (k : ℕ) → IsLineOf (lines ++ line ∷ []) s members k →
    IsLineOf lines s members k ⊎ ((k ≡ length lines) × (line.space ≡ s) × (line.members ≡ members))
line-cases lines line s members k of = elim (slice_get-push lines line of.line k of.at) [
  | inl old ↦ inl (record { line = of.line; at = old; in_space = of.in_space; has = of.has })
  | inr new ↦ inr (new.0, ap (λ (l : SetLine). l.space) new.1 ∙ of.in_space, ap (λ (l : SetLine). l.members) new.1 ∙ of.has)
]

pub HasSetPlaces-push : (lines grown : List SetLine) (places after : SetPlaces) (key : SetKey) (line : SetLine) (v : ℕ) → HasSetPlaces lines places →
    ((k : ℕ) → IsLineOf lines key.space key.members.items k → ⊥) → Updates same_key places after key (Some v) → v ≡ length lines →
    line.space ≡ key.space → line.members ≡ key.members.items → grown ≡ lines ++ line ∷ [] →
    ((other : SetKey) → key.space ≡ other.space → key.members.items ≡ other.members.items → same_key key other ≡ true) → HasSetPlaces grown after
HasSetPlaces-push lines grown places after key line v has absent updates is_place in_space members is_grown equal = record {
  place = λ k other of.
      elim (line-cases lines line other.space other.members.items k
      (subst (λ (ls : List SetLine). IsLineOf ls other.space other.members.items k) is_grown of))
      as (λ _. get same_key after other ≡ Some k) [
        | inl old ↦ (HasSetPlaces-insert lines places after key v has absent updates).place k other old
        | inr new ↦
            let same = equal other (sym in_space ∙ new.1) (sym members ∙ new.2) in
            updates.0 other ∙ ap (λ (b : Bool). cond b (Some v) (get same_key places other)) same
            ∙ ap (λ (n : ℕ). let o : Option ℕ = Some n in o) (is_place ∙ sym new.0)
      ];
}

pub AreSets-empty : AreSets []
AreSets-empty = record {
  once = λ i j s members at_i at_j. absurd (let e = at_i.at in cc);
  rising = λ line listed. absurd (omega (arith, listed.1));
}

pub AreSets-push : (lines grown : List SetLine) (line : SetLine) → AreSets lines → IsStrictlyIncreasing line.members →
    ((k : ℕ) → IsLineOf lines line.space line.members k → ⊥) → grown ≡ lines ++ line ∷ [] → AreSets grown
AreSets-push lines grown line sets rises absent is = record {
  once = λ i j s members at_i at_j.
      let first = line-cases lines line s members i (subst (λ (ls : List SetLine). IsLineOf ls s members i) is at_i) in
      let second = line-cases lines line s members j (subst (λ (ls : List SetLine). IsLineOf ls s members j) is at_j) in
      elim first as (λ _. i ≡ j) [
        | inl old_i ↦ elim second as (λ _. i ≡ j) [
          | inl old_j ↦ sets.once i j s members old_i old_j
          | inr new_j ↦ absurd (absent i (record { line = old_i.line; at = old_i.at; in_space = old_i.in_space ∙ sym new_j.1; has = old_i.has ∙ sym new_j.2 }))
        ]
        | inr new_i ↦ elim second as (λ _. i ≡ j) [
          | inl old_j ↦ absurd (absent j (record { line = old_j.line; at = old_j.at; in_space = old_j.in_space ∙ sym new_i.1; has = old_j.has ∙ sym new_i.2 }))
          | inr new_j ↦ new_i.0 ∙ sym new_j.0
        ]
      ];
  rising = λ other listed. elim (push-cases lines line other (subst (λ (ls : List SetLine). Contains ls other) is listed)) [
    | inl old ↦ sets.rising other old
    | inr here ↦ subst (λ (l : SetLine). IsStrictlyIncreasing l.members) here rises
  ];
}

none-some : {X : Type 0} (x : X) → None ≡ Some x → ⊥
none-some x e = cc

pub if-none : {X : Type 0} (found : Option X) (P : Type 0) → P → IfNone found P
if-none None P holds = holds
if-none (Some x) P holds = tt

-- a key without a place has no line
pub place-none : (lines : List SetLine) (places : SetPlaces) (key : SetKey) → HasSetPlaces lines places → None ≡ get same_key places key →
    (k : ℕ) → IsLineOf lines key.space key.members.items k → ⊥
place-none lines places key has none k of = none-some k (none ∙ has.place k key of)

-- nor has one whose place is past the end
pub place-past : (lines : List SetLine) (places : SetPlaces) (key : SetKey) (p : ℕ) → HasSetPlaces lines places →
    Some p ≡ get same_key places key → None ≡ slice_get lines p → (k : ℕ) → IsLineOf lines key.space key.members.items k → ⊥
place-past lines places key p has is_p none k of =
    none-some of.line (none ∙ ap (λ (n : ℕ). slice_get lines n) (same-some p k (is_p ∙ has.place k key of)) ∙ of.at)

-- nor one whose place has another line
pub place-apart : (lines : List SetLine) (places : SetPlaces) (key : SetKey) (p : ℕ) (line : SetLine) → HasSetPlaces lines places →
    Some p ≡ get same_key places key → Some line ≡ slice_get lines p → (line.space ≡ key.space → line.members ≡ key.members.items → ⊥) →
    (k : ℕ) → IsLineOf lines key.space key.members.items k → ⊥
place-apart lines places key p line has is_p at apart k of =
    let here : p ≡ k = same-some p k (is_p ∙ has.place k key of) in
    let is : line ≡ of.line = same-some line of.line (at ∙ ap (λ (n : ℕ). slice_get lines n) here ∙ of.at) in
    apart (ap (λ (l : SetLine). l.space) is ∙ of.in_space) (ap (λ (l : SetLine). l.members) is ∙ of.has)

-- the map may be another with the same entries
pub HasSetPlaces-same : (lines : List SetLine) (places after : SetPlaces) → HasSetPlaces lines places → after.entries ≡ places.entries →
    HasSetPlaces lines after
HasSetPlaces-same lines places after has is = record {
  place = λ k key of. ap (λ (entries : List (SetKey × ℕ)). lookup (same_key key) entries) is ∙ has.place k key of;
}

pub set-of : (lines : List SetLine) (s : ℕ) (members : List ℕ) (k : ℕ) (line : SetLine) → IsLineOf lines s members k → slice_get lines k ≡ Some line →
    HasSet lines s members line.state
set-of lines s members k line of at =
    let same : of.line ≡ line = same-some of.line line (sym of.at ∙ at) in
    record {
      line = of.line;
      listed = (k, slice_get_within lines k of.line of.at, get_or_from_slice_get lines k of.line of.line of.at);
      in_space = of.in_space;
      has = of.has;
      is_state = ap (λ (l : SetLine). l.state) same;
    }

pub no-set : (lines : List SetLine) (s : ℕ) (members : List ℕ) → ((k : ℕ) → IsLineOf lines s members k → ⊥) →
    (state : ℕ) → HasSet lines s members state → ⊥
no-set lines s members none state set =
    none set.listed.0 (record {
      line = set.line;
      at = slice_get-get_or lines set.listed.0 set.line set.listed.1
          ∙ ap (λ (l : SetLine). let o : Option SetLine = Some l in o) set.listed.2;
      in_space = set.in_space;
      has = set.has;
    })
