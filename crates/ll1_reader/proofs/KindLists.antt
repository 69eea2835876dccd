-- Lists of kinds, and what the test of a grammar says of its rows.
use Rattle.std.proofs.Common.{◌≡◌, ℕ, zero, suc, ◌+◌, ◌<◌, ◌==◌, ◌&&◌, ◌||◌, not, Bool, true, false, nat_lt, List, [], ◌∷◌, ◌++◌}
use Rattle.std.proofs.Common.{Option, None, Some, ◌⊎◌, inl, inr, sym, ◌∙◌, ap, subst, refl}
use Rattle.std.specs.Prelude.{slice_get}
use Rattle.std.specs.List.{flat_map}
use Rattle.std.proofs.lemmas.Bool.{eqb-true, eq-eqb, ltb-true, and_parts}
use Rattle.ll1_reader.specs.Grammars.{Rules, IsOneOf}
use Rattle.ll1_reader.specs.Predicting.{Table, IsLl1, among, all_among, none_among, first_set, covers, all_begin, moves}
use Rattle.ll1_reader.specs.Predicting.{all_end_well, are_apart, sizes, lead, is_this, is_sample, is_fine_row, are_fine_rows}

pub or_cases : (x y : Bool) → (x || y) ≡ true → (x ≡ true) ⊎ (y ≡ true)
or_cases true y h = inl refl
or_cases false y h = inr h

or_left : (x y : Bool) → x ≡ true → (x || y) ≡ true
or_left true y h = refl
or_left false y h = absurd (cc h)

or_right : (x y : Bool) → y ≡ true → (x || y) ≡ true
or_right true y h = refl
or_right false y h = h

pub not_true : (x : Bool) → not x ≡ true → x ≡ false
not_true true h = absurd (cc h)
not_true false h = refl

pub and_left : (x y : Bool) → (x && y) ≡ true → x ≡ true
and_left x y h = (and_parts x y h).0

pub and_right : (x y : Bool) → (x && y) ≡ true → y ≡ true
and_right x y h = (and_parts x y h).1

pub false_true : {X : Type 0} → false ≡ true → X
false_true h = absurd (cc h)

module _ {N P A K : Type 0} (rules : Rules N P A K) (table : Table N P K) (sound : IsLl1 rules table) where
  pub kind_by : (j k : K) → (table.number j == table.number k) ≡ true → j ≡ k
  kind_by j k h = sound.kinds_differ j k (eqb-true _ _ h)

  pub kind_is : (j k : K) → j ≡ k → (table.number j == table.number k) ≡ true
  kind_is j k h = eq-eqb _ _ (ap table.number h)

  pub label_by : (m n : N) → (table.label m == table.label n) ≡ true → m ≡ n
  label_by m n h = sound.labels_differ m n (eqb-true _ _ h)

  pub among_append_left : (k : K) (xs ys : List K) → among rules table k xs ≡ true → among rules table k (xs ++ ys) ≡ true
  among_append_left k [] ys h = false_true h
  among_append_left k (x ∷ xs) ys h =
      elim (or_cases (table.number k == table.number x) _ h) [
        | inl e ↦ or_left (table.number k == table.number x) _ e
        | inr e ↦ or_right (table.number k == table.number x) _ (among_append_left k xs ys e)
      ]

  pub among_append_right : (k : K) (xs ys : List K) → among rules table k ys ≡ true → among rules table k (xs ++ ys) ≡ true
  among_append_right k [] ys h = h
  among_append_right k (x ∷ xs) ys h = or_right (table.number k == table.number x) _ (among_append_right k xs ys h)

  pub among_append_cases : (k : K) (xs ys : List K) → among rules table k (xs ++ ys) ≡ true → (among rules table k xs ≡ true) ⊎ (among rules table k ys ≡ true)
  among_append_cases k [] ys h = inr h
  among_append_cases k (x ∷ xs) ys h =
      elim (or_cases (table.number k == table.number x) _ h) [
        | inl e ↦ inl (or_left (table.number k == table.number x) _ e)
        | inr e ↦ elim (among_append_cases k xs ys e) [ inl f ↦ inl (or_right (table.number k == table.number x) _ f) | inr f ↦ inr f ]
      ]

  -- a production's kinds are its nonterminal's
  pub among_all : (k : K) (ps : List P) (p : P) → IsOneOf p ps → among rules table k (table.first p) ≡ true →
      among rules table k (flat_map table.first ps) ≡ true
  among_all k [] p i h = absurd i
  among_all k (q ∷ ps) p (inl e) h =
      among_append_left k (table.first q) (flat_map table.first ps)
      (subst (λ (x : P). among rules table k (table.first x) ≡ true) e h)
  among_all k (q ∷ ps) p (inr i) h = among_append_right k (table.first q) (flat_map table.first ps) (among_all k ps p i h)

  -- and a nonterminal's kind is one of some production
  pub among_some : (k : K) (ps : List P) → among rules table k (flat_map table.first ps) ≡ true →
      (p : P) × IsOneOf p ps × (among rules table k (table.first p) ≡ true)
  among_some k [] h = false_true h
  among_some k (q ∷ ps) h =
      elim (among_append_cases k (table.first q) (flat_map table.first ps) h) [
        | inl e ↦ (q, inl refl, e)
        | inr e ↦ let more = among_some k ps e in (more.0, inr more.1, more.2)
      ]

  pub all_among_at : (k : K) (ks js : List K) → all_among rules table ks js ≡ true → among rules table k ks ≡ true → among rules table k js ≡ true
  all_among_at k [] js h i = false_true i
  all_among_at k (l ∷ ks) js h i =
      elim (or_cases (table.number k == table.number l) _ i) [
        | inl e ↦ subst (λ (x : K). among rules table x js ≡ true) (sym (kind_by k l e)) (and_left (among rules table l js) _ h)
        | inr e ↦ all_among_at k ks js (and_right (among rules table l js) _ h) e
      ]

  pub none_among_at : (k : K) (ks js : List K) → none_among rules table ks js ≡ true → among rules table k ks ≡ true → among rules table k js ≡ false
  none_among_at k [] js h i = false_true i
  none_among_at k (l ∷ ks) js h i =
      elim (or_cases (table.number k == table.number l) _ i) [
        | inl e ↦ subst (λ (x : K). among rules table x js ≡ false) (sym (kind_by k l e)) (not_true _ (and_left (not (among rules table l js)) _ h))
        | inr e ↦ none_among_at k ks js (and_right (not (among rules table l js)) _ h) e
      ]

  -- every list is among itself
  all_among_more : (x : K) (ks js : List K) → all_among rules table ks js ≡ true → all_among rules table ks (x ∷ js) ≡ true
  all_among_more x [] js h = refl
  all_among_more x (k ∷ ks) js h =
      cc (
        or_right (table.number k == table.number x) (among rules table k js) (and_left (among rules table k js) _ h),
        all_among_more x ks js (and_right (among rules table k js) _ h),
      )

  pub all_among_self : (ks : List K) → all_among rules table ks ks ≡ true
  all_among_self [] = refl
  all_among_self (k ∷ ks) =
      cc
      (or_left (table.number k == table.number k) (among rules table k ks) (kind_is k k refl), all_among_more k ks ks (all_among_self ks))

  -- only one production may begin with a token
  pub one_production : (k : K) (ps : List P) (p q : P) → are_apart rules table ps ≡ true → IsOneOf p ps → IsOneOf q ps →
      among rules table k (table.first p) ≡ true → among rules table k (table.first q) ≡ true → p ≡ q
  one_production k [] p q a i j h l = absurd i
  one_production k (r ∷ ps) p q a (inl e) (inl f) h l = e ∙ sym f
  one_production k (r ∷ ps) p q a (inl e) (inr j) h l =
      let here : among rules table k (table.first r) ≡ true = subst (λ (x : P). among rules table k (table.first x) ≡ true) e h in
      let not_there = none_among_at k (table.first r) (flat_map table.first ps) (and_left _ (are_apart rules table ps) a) here in
      absurd (cc (not_there, among_all k ps q j l))
  one_production k (r ∷ ps) p q a (inr i) (inl f) h l =
      let here : among rules table k (table.first r) ≡ true = subst (λ (x : P). among rules table k (table.first x) ≡ true) f l in
      let not_there = none_among_at k (table.first r) (flat_map table.first ps) (and_left _ (are_apart rules table ps) a) here in
      absurd (cc (not_there, among_all k ps p i h))
  one_production k (r ∷ ps) p q a (inr i) (inr j) h l =
      one_production k ps p q (and_right (none_among rules table (table.first r) (flat_map table.first ps)) _ a) i j h l

  fine_row_in : (n : N) (ps : List P) (p : P) → are_fine_rows rules table n ps ≡ true → IsOneOf p ps → is_fine_row rules table n p ≡ true
  fine_row_in n [] p h i = absurd i
  fine_row_in n (q ∷ ps) p h (inl e) = subst (λ (x : P). is_fine_row rules table n x ≡ true) (sym e) (and_left _ (are_fine_rows rules table n ps) h)
  fine_row_in n (q ∷ ps) p h (inr i) = fine_row_in n ps p (and_right (is_fine_row rules table n q) _ h) i

  -- ---- what the test says of a production of a nonterminal

  apart_part : (n : N) → are_apart rules table (rules.productions n) ≡ true
  apart_part n =
      let whole = sound.predictable n in
      and_right (are_fine_rows rules table n (rules.productions n)) _
      (and_left _ (is_sample rules table n (slice_get (rules.productions n) (table.sample n)))
      (and_left _ (among rules table (table.begin n) (first_set rules table n)) whole))

  pub begin_among : (n : N) → among rules table (table.begin n) (first_set rules table n) ≡ true
  begin_among n =
      and_right (are_fine_rows rules table n (rules.productions n) && are_apart rules table (rules.productions n) && is_sample rules
      table n (slice_get (rules.productions n) (table.sample n))) _ (sound.predictable n)

  sample_part : (n : N) → is_sample rules table n (slice_get (rules.productions n) (table.sample n)) ≡ true
  sample_part n =
      and_right (are_fine_rows rules table n (rules.productions n) && are_apart rules table (rules.productions n)) _
      (and_left _ (among rules table (table.begin n) (first_set rules table n)) (sound.predictable n))

  pub only_production : (n : N) (k : K) (p q : P) → IsOneOf p (rules.productions n) → IsOneOf q (rules.productions n) →
      among rules table k (table.first p) ≡ true → among rules table k (table.first q) ≡ true → p ≡ q
  only_production n k p q i j h l = one_production k (rules.productions n) p q (apart_part n) i j h l

  pub record IsFine (n : N) (p : P) : Type 0 where
    pub covered : covers rules table (table.first p) (rules.row p) ≡ true
    pub begins : all_begin rules table (table.first p) (rules.row p) ≡ true
    pub moved : moves rules table (rules.row p) < table.cost n + 1
    pub well : all_end_well rules table (table.tails n) (rules.row p) ≡ true

  pub fine_production : (n : N) (p : P) → IsOneOf p (rules.productions n) → IsFine n p
  fine_production n p i =
      let all = and_left _ (are_apart rules table (rules.productions n))
      (and_left _ (is_sample rules table n (slice_get (rules.productions n) (table.sample n)))
      (and_left _ (among rules table (table.begin n) (first_set rules table n)) (sound.predictable n))) in
      let row = fine_row_in n (rules.productions n) p all i in
      let three =
      and_left (covers rules table (table.first p) (rules.row p) && all_begin rules table (table.first p) (rules.row p)
      && nat_lt (moves rules table (rules.row p)) (table.cost n + 1)) _ row in
      let two = and_left (covers rules table (table.first p) (rules.row p) && all_begin rules table (table.first p) (rules.row p)) _ three in
      record {
        covered = and_left _ (all_begin rules table (table.first p) (rules.row p)) two;
        begins = and_right (covers rules table (table.first p) (rules.row p)) _ two;
        moved = ltb-true _ _ (and_right (covers rules table (table.first p) (rules.row p) && all_begin rules table (table.first p) (rules.row p)) _ three);
        well =
            and_right (covers rules table (table.first p) (rules.row p) && all_begin rules table (table.first p) (rules.row p)
            && nat_lt (moves rules table (rules.row p)) (table.cost n + 1)) _ row;
      }

  pub record IsShort (n : N) (p : P) : Type 0 where
    pub production : IsOneOf p (rules.productions n)
    pub small : sizes rules table (rules.row p) < table.size n
    pub first : lead rules table (rules.row p) None ≡ Some (table.begin n)

  -- what stands at a place of a list is one of it
  one_at : (ps : List P) (at : ℕ) (p : P) → slice_get ps at ≡ Some p → IsOneOf p ps
  one_at [] at p h = absurd (cc h)
  one_at (q ∷ ps) zero p h = inl (cc h)
  one_at (q ∷ ps) (suc at) p h = inr (one_at ps at p h)

  is_this_by : (k : K) (o : Option K) → is_this rules table k o ≡ true → o ≡ Some k
  is_this_by k None h = false_true h
  is_this_by k (Some j) h = ap Some (kind_by j k h)

  -- each nonterminal has a production that comes to an end
  pub short_production : (n : N) → (p : P) × IsShort n p
  short_production n = by (slice_get (rules.productions n) (table.sample n)) refl (sample_part n)
    where
      by : (o : Option P) → slice_get (rules.productions n) (table.sample n) ≡ o → is_sample rules table n o ≡ true → (p : P) × IsShort n p
      by None e h = false_true h
      by (Some p) e h = (
        p,
        record {
          production = one_at (rules.productions n) (table.sample n) p e;
          small = ltb-true _ _ (and_left (nat_lt (sizes rules table (rules.row p)) (table.size n)) _ h);
          first = is_this_by (table.begin n) (lead rules table (rules.row p) None) (and_right (nat_lt (sizes rules table (rules.row p)) (table.size n)) _ h);
        },
      )
