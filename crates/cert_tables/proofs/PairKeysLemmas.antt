-- On lists of pairs that are sought by space and pair.
use Rattle.std.proofs.Common.{◌≡◌, ℕ, Bool, true, false, List, [], ◌∷◌, ◌++◌, length, map, Contains, Option, Some, None, slice_get}
use Rattle.std.proofs.Common.{refl, ap, sym, ◌∙◌, subst, inl, inr, eqb-true, eq-eqb}
use Rattle.std.specs.Prelude.{◌&&◌, ◌↔◌, IfNone, nat_eq, is_some}
use Rattle.std.specs.HashMap.{HashMap, get, Updates}
use Rattle.std.specs.declared.hash.BuildHasherDefault.{BuildHasherDefault}
use Rattle.std.specs.declared.hash.FoldHasher.{FoldHasher}
use Rattle.std.proofs.lemmas.Bool.{cases_Bool, false≢true}
use Rattle.std.proofs.lemmas.Option.{slice_get_within, get_or_from_slice_get, slice_get-get_or}
use Rattle.gta_theory.proofs.ListedLemmas.{slice_get-push}
use Rattle.gta_theory.proofs.ListsLemmas.{Contains-map, Contains-mapped}
use Rattle.cert_text.specs.declared.line.PairLine.{PairLine}
use Rattle.cert_theory.specs.Tables.{NamedPair, GoesTo}
use Rattle.cert_tables.specs.declared.pair_table.PairKey.{PairKey}
use Rattle.cert_tables.specs.contracts.pair_table.PairKeyPartialEq.TheImpl as key_eq
use Rattle.cert_tables.specs.PairKeys.{named_pair, key_of, IsOnePerKey, HasLine, HasPlaces}
use Rattle.cert_tables.proofs.TestsLemmas.{and-left, and-right, and-both, same-some}

abbrev pub Places : Type 0
Places = HashMap PairKey ℕ (BuildHasherDefault FoldHasher)

abbrev pub same_key : PairKey → PairKey → Bool
same_key = (key_eq.ghosts).eq

pub keys-same : (a b : PairKey) → a.space ≡ b.space → a.first ≡ b.first → a.second ≡ b.second → a ≡ b
keys-same a b space first second = λ i. record { space = space i; first = first i; second = second i }

pub same_key-true : (a b : PairKey) → same_key a b ≡ true → a ≡ b
same_key-true a b e =
    let rest = nat_eq a.first b.first && nat_eq a.second b.second in
    let later = and-right (nat_eq a.space b.space) rest e in
    keys-same a b
    (eqb-true a.space b.space (and-left (nat_eq a.space b.space) rest e))
    (eqb-true a.first b.first (and-left (nat_eq a.first b.first) (nat_eq a.second b.second) later))
    (eqb-true a.second b.second (and-right (nat_eq a.first b.first) (nat_eq a.second b.second) later))

pub same_key-equal : (a b : PairKey) → a ≡ b → same_key a b ≡ true
same_key-equal a b is =
    and-both (nat_eq a.space b.space) (nat_eq a.first b.first && nat_eq a.second b.second)
    (eq-eqb a.space b.space (ap (λ (k : PairKey). k.space) is))
    (and-both (nat_eq a.first b.first) (nat_eq a.second b.second)
    (eq-eqb a.first b.first (ap (λ (k : PairKey). k.first) is)) (eq-eqb a.second b.second (ap (λ (k : PairKey). k.second) is)))

Contains-at : {X : Type 0} (xs : List X) (k : ℕ) (x : X) → slice_get xs k ≡ Some x → Contains xs x
Contains-at xs k x at = (k, slice_get_within xs k x at, get_or_from_slice_get xs k x x at)

place-of : {X : Type 0} (xs : List X) (x : X) → Contains xs x → (k : ℕ) × (slice_get xs k ≡ Some x)
place-of {X} xs x listed =
    (listed.0, slice_get-get_or xs listed.0 x listed.1 ∙ ap (λ (y : X). let o : Option X = Some y in o) listed.2)

pub none-of : {X : Type 0} (found : Option X) (P : Type 0) → is_some found ≡ false → IfNone found P → P
none-of None P none holds = holds
none-of (Some x) P none holds = absurd (false≢true (sym none))

pub HasPlaces-empty : (places : Places) → HasPlaces [] places
HasPlaces-empty places = record { place = λ k line at. absurd cc }

-- a key that has no line may have a place
pub HasPlaces-insert : (lines : List PairLine) (places after : Places) (key : PairKey) (v : ℕ) → HasPlaces lines places →
    ((line : PairLine) → HasLine lines key line → ⊥) → Updates same_key places after key (Some v) → HasPlaces lines after
HasPlaces-insert lines places after key v has absent updates = record {
  place = λ k line at. elim (cases_Bool (same_key key (key_of line))) as (λ _. get same_key after (key_of line) ≡ Some k) [
    | inl same ↦ absurd (absent line (record { listed = Contains-at lines k line at; keyed = sym (same_key-true key (key_of line) same) }))
    | inr other ↦ updates.2 (key_of line) other ∙ has.place k line at
  ];
}

-- and then the line comes
pub HasPlaces-push : (lines grown : List PairLine) (places after : Places) (line : PairLine) (v : ℕ) → HasPlaces lines places →
    ((other : PairLine) → HasLine lines (key_of line) other → ⊥) → Updates same_key places after (key_of line) (Some v) →
    v ≡ length lines → grown ≡ lines ++ line ∷ [] → HasPlaces grown after
HasPlaces-push lines grown places after line v has absent updates is_place is_grown = record {
  place = λ k other at.
      elim (slice_get-push lines line other k (subst (λ (ls : List PairLine). slice_get ls k ≡ Some other) is_grown at))
      as (λ _. get same_key after (key_of other) ≡ Some k) [
        | inl old ↦ (HasPlaces-insert lines places after (key_of line) v has absent updates).place k other old
        | inr new ↦ subst (λ (l : PairLine). get same_key after (key_of l) ≡ Some k) new.1
            (updates.1 ∙ ap (λ (n : ℕ). let o : Option ℕ = Some n in o) (is_place ∙ sym new.0))
      ];
}

pub HasPlaces-kept : (lines same : List PairLine) (places : Places) → HasPlaces lines places → same ≡ lines → HasPlaces same places
HasPlaces-kept lines same places has is = subst (λ (ls : List PairLine). HasPlaces ls places) (sym is) has

-- a key whose place has no line of its own has none
pub no-line : (lines : List PairLine) (places : Places) (key : PairKey) → HasPlaces lines places →
    ((k : ℕ) (line : PairLine) → get same_key places key ≡ Some k → slice_get lines k ≡ Some line → key_of line ≡ key → ⊥) →
    (line : PairLine) → HasLine lines key line → ⊥
no-line lines places key has none line there =
    let at = place-of lines line there.listed in
    none at.0 line (subst (λ (key : PairKey). get same_key places key ≡ Some at.0) there.keyed (has.place at.0 line at.1)) at.1 there.keyed

pub HasPlaces-once : (lines : List PairLine) (places : Places) → HasPlaces lines places → IsOnePerKey lines
HasPlaces-once lines places has = record {
  once = λ i j l m at_i at_j same.
      same-some i j (sym (has.place i l at_i) ∙ ap (λ (key : PairKey). get same_key places key) same ∙ has.place j m at_j);
}

-- ---- what lines say

pub goes-by : (lines : List PairLine) (s p q : ℕ) (line : PairLine) → HasLine lines (record { space = s; first = p; second = q }) line →
    GoesTo (map named_pair lines) s p q line.state
goes-by lines s p q line there = record {
  pair = named_pair line;
  listed = Contains-map named_pair lines line there.listed;
  in_space = ap (λ (k : PairKey). k.space) there.keyed;
  is_first = ap (λ (k : PairKey). k.first) there.keyed;
  is_second = ap (λ (k : PairKey). k.second) there.keyed;
  is_state = refl;
}

-- a line says where its pair goes
pub line-goes : (lines : List PairLine) (s : ℕ) (line : PairLine) → Contains lines line → line.space ≡ s →
    GoesTo (map named_pair lines) s line.first line.second line.state
line-goes lines s line listed here = record {
  pair = named_pair line;
  listed = Contains-map named_pair lines line listed;
  in_space = here;
  is_first = refl;
  is_second = refl;
  is_state = refl;
}

-- the line of a pair
pub record HasLineTo (lines : List PairLine) (s p q x : ℕ) : Type 0 where
  pub line : PairLine
  pub listed : Contains lines line
  pub in_space : line.space ≡ s
  pub is_first : line.first ≡ p
  pub is_second : line.second ≡ q
  pub is_state : line.state ≡ x

pub line-of : (lines : List PairLine) (s p q x : ℕ) → GoesTo (map named_pair lines) s p q x → HasLineTo lines s p q x
line-of lines s p q x goes =
    let found = Contains-mapped named_pair lines goes.pair goes.listed in
    record {
      line = found.0;
      listed = found.1;
      in_space = ap (λ (n : NamedPair). n.space) found.2 ∙ goes.in_space;
      is_first = ap (λ (n : NamedPair). n.first) found.2 ∙ goes.is_first;
      is_second = ap (λ (n : NamedPair). n.second) found.2 ∙ goes.is_second;
      is_state = ap (λ (n : NamedPair). n.state) found.2 ∙ goes.is_state;
    }

pub no-state : (lines : List PairLine) (s p q : ℕ) →
    ((line : PairLine) → HasLine lines (record { space = s; first = p; second = q }) line → ⊥) →
    (x : ℕ) → GoesTo (map named_pair lines) s p q x → ⊥
no-state lines s p q none x goes =
    let l = line-of lines s p q x goes in
    none l.line (record {
      listed = l.listed;
      keyed = keys-same (key_of l.line) (record { space = s; first = p; second = q }) l.in_space l.is_first l.is_second;
    })

-- no pair goes to two states
pub goes-once : (lines : List PairLine) (s p q x y : ℕ) → IsOnePerKey lines →
    GoesTo (map named_pair lines) s p q x → GoesTo (map named_pair lines) s p q y → x ≡ y
goes-once lines s p q x y one to_x to_y =
    let l = line-of lines s p q x to_x in
    let m = line-of lines s p q y to_y in
    let at_l = place-of lines l.line l.listed in
    let at_m = place-of lines m.line m.listed in
    let same = keys-same (key_of l.line) (key_of m.line) (l.in_space ∙ sym m.in_space) (l.is_first ∙ sym m.is_first)
    (l.is_second ∙ sym m.is_second) in
    let place = one.once at_l.0 at_m.0 l.line m.line at_l.1 at_m.1 same in
    let is : l.line ≡ m.line = same-some l.line m.line (sym at_l.1 ∙ ap (λ (n : ℕ). slice_get lines n) place ∙ at_m.1) in
    sym l.is_state ∙ ap (λ (n : PairLine). n.state) is ∙ m.is_state

-- the pair of a line goes to its state alone
pub state-found : (lines : List PairLine) (s p q : ℕ) (line : PairLine) → IsOnePerKey lines →
    HasLine lines (record { space = s; first = p; second = q }) line →
    (other : ℕ) → GoesTo (map named_pair lines) s p q other ↔ (line.state ≡ other)
state-found lines s p q line one there other =
    let goes = goes-by lines s p q line there in
    ((λ to. goes-once lines s p q line.state other one goes to), (λ is. subst (GoesTo (map named_pair lines) s p q) is goes))
