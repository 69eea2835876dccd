-- Stacks on which nothing takes for itself a token with which something before it could go on.
use Rattle.std.proofs.Common.{◌≡◌, ℕ, ◌==◌, ◌&&◌, Bool, true, false, if◌then◌else◌, List, [], ◌∷◌, map, Option, None, Some, inl, inr, sym, ◌∙◌, subst, refl}
use Rattle.ll1_reader.specs.declared.symbol.Symbol.{Symbol}
use Rattle.ll1_reader.specs.declared.symbol.Symbol.TheVariants.{Read, Open, Once, Maybe, Many, Act}
use Rattle.ll1_reader.specs.Grammars.{Rules, IsOneOf}
use Rattle.ll1_reader.specs.Predicting.{Table, IsLl1, among, first_set, is_pair, is_safe, are_safe, own, all_end_well, lead}
use Rattle.ll1_reader.specs.Readings.{Stack, Bottom, Row}
use Rattle.ll1_reader.proofs.KindLists.{and_left, and_right, false_true, or_cases, kind_by, kind_is, label_by, not_true, begin_among, fine_production}

module _ {N P A K : Type 0} (rules : Rules N P A K) (table : Table N P K) where
  -- `is_safe` for a row on a stack
  abbrev pub safe_at : K → N → Stack N A K → Bool
  safe_at k n Bottom = true
  safe_at k n (Row row d below) = is_safe rules table k n row (safe_at k n below)

  abbrev pub AreSafe : List (K × N) → List (Symbol N A K) → Stack N A K → Type 0
  AreSafe [] row below = Unit {0}
  AreSafe (p ∷ ps) row below = (is_safe rules table p.0 p.1 row (safe_at p.0 p.1 below) ≡ true) × AreSafe ps row below

  -- what `ends_well` says, for a row on a stack
  abbrev pub EndsWell : Symbol N A K → List (Symbol N A K) → Stack N A K → Type 0
  EndsWell (Read _) row below = Unit {0}
  EndsWell (Open _) row below = Unit {0}
  EndsWell (Act _) row below = Unit {0}
  EndsWell (Once n) row below = AreSafe (table.tails n) row below
  EndsWell (Maybe n) row below = AreSafe (own rules table n) row below × AreSafe (table.tails n) row below
  EndsWell (Many n) row below = AreSafe (own rules table n) row below × AreSafe (table.tails n) (Many n ∷ row) below

  abbrev pub RowEndsWell : List (Symbol N A K) → Stack N A K → Type 0
  RowEndsWell [] below = Unit {0}
  RowEndsWell (x ∷ row) below = EndsWell x row below × RowEndsWell row below

  abbrev pub IsSafe : Stack N A K → Type 0
  IsSafe Bottom = Unit {0}
  IsSafe (Row row d below) = RowEndsWell row below × IsSafe below

  -- the token that comes next on the shortest way to the end
  abbrev pub lead_at : Stack N A K → Option K
  lead_at Bottom = None
  lead_at (Row row d below) = lead rules table row (lead_at below)

pub if_true : (b x y : Bool) → b ≡ true → (if b then x else y) ≡ x
if_true true x y h = refl
if_true false x y h = false_true h

pub if_false : (b x y : Bool) → b ≡ false → (if b then x else y) ≡ y
if_false true x y h = false_true (sym h)
if_false false x y h = refl

-- a test that is as true as another under the same condition
if_mono : (b x y z : Bool) → (y ≡ true → z ≡ true) → (if b then x else y) ≡ true → (if b then x else z) ≡ true
if_mono true x y z f h = h
if_mono false x y z f h = f h

module _ {N P A K : Type 0} (rules : Rules N P A K) (table : Table N P K) (sound : IsLl1 rules table) where
  -- what is safe before an end is safe before what is safe
  safe_mono : (k : K) (n : N) (row : List (Symbol N A K)) (a b : Bool) → (a ≡ true → b ≡ true) →
      is_safe rules table k n row a ≡ true → is_safe rules table k n row b ≡ true
  safe_mono k n [] a b f h = f h
  safe_mono k n (Read j ∷ row) a b f h = h
  safe_mono k n (Open j ∷ row) a b f h = h
  safe_mono k n (Act _ ∷ row) a b f h = safe_mono k n row a b f h
  safe_mono k n (Once m ∷ row) a b f h = h
  safe_mono k n (Maybe m ∷ row) a b f h =
      if_mono (among rules table k (first_set rules table m)) (table.label n == table.label m) (is_safe rules table k n row a)
      (is_safe rules table k n row b) (safe_mono k n row a b f) h
  safe_mono k n (Many m ∷ row) a b f h =
      if_mono (among rules table k (first_set rules table m)) (table.label n == table.label m) (is_safe rules table k n row a)
      (is_safe rules table k n row b) (safe_mono k n row a b f) h

  -- a pair among those that are safe is safe
  safe_pair : (k : K) (n : N) (ps : List (K × N)) (row : List (Symbol N A K)) (below : Stack N A K) →
      is_pair rules table k n ps ≡ true → AreSafe rules table ps row below →
      is_safe rules table k n row (safe_at rules table k n below) ≡ true
  safe_pair k n [] row below h s = false_true h
  safe_pair k n (p ∷ ps) row below h s =
      elim (or_cases (table.number k == table.number p.0 && table.label n == table.label p.1) _ h) [
        | inl e ↦
            let same_kind = kind_by rules table sound k p.0 (and_left (table.number k == table.number p.0) _ e) in
            let same_label = label_by rules table sound n p.1 (and_right (table.number k == table.number p.0) _ e) in
            subst (λ (j : K). is_safe rules table j n row (safe_at rules table j n below) ≡ true) (sym same_kind)
            (subst (λ (m : N). is_safe rules table p.0 m row (safe_at rules table p.0 m below) ≡ true) (sym same_label) s.0)
        | inr e ↦ safe_pair k n ps row below e s.1
      ]

  safe_by : (tail : List (K × N)) (d : ℕ) (below_row : List (Symbol N A K)) (below : Stack N A K) → AreSafe rules table tail below_row below →
      (ps : List (K × N)) (row : List (Symbol N A K)) → are_safe rules table ps row tail ≡ true → AreSafe rules table ps row (Row below_row d below)
  safe_by tail d below_row below s [] row h = tt
  safe_by tail d below_row below s (p ∷ ps) row h = (
    safe_mono p.0 p.1 row (is_pair rules table p.0 p.1 tail) (safe_at rules table p.0 p.1 (Row below_row d below))
        (λ i. safe_pair p.0 p.1 tail below_row below i s)
        (and_left (is_safe rules table p.0 p.1 row (is_pair rules table p.0 p.1 tail)) _ h),
    safe_by tail d below_row below s ps row (and_right (is_safe rules table p.0 p.1 row (is_pair rules table p.0 p.1 tail)) _ h),
  )

  -- a row that ends well by the test ends well on a stack that is safe for its nonterminal
  row_by : (tail : List (K × N)) (d : ℕ) (below_row : List (Symbol N A K)) (below : Stack N A K) → AreSafe rules table tail below_row below →
      (row : List (Symbol N A K)) → all_end_well rules table tail row ≡ true → RowEndsWell rules table row (Row below_row d below)
  row_by tail d below_row below s [] h = tt
  row_by tail d below_row below s (Read k ∷ row) h = (tt, row_by tail d below_row below s row h)
  row_by tail d below_row below s (Open k ∷ row) h = (tt, row_by tail d below_row below s row h)
  row_by tail d below_row below s (Act a ∷ row) h = (tt, row_by tail d below_row below s row h)
  row_by tail d below_row below s (Once n ∷ row) h = (
    safe_by tail d below_row below s (table.tails n) row (and_left (are_safe rules table (table.tails n) row tail) _ h),
    row_by tail d below_row below s row (and_right (are_safe rules table (table.tails n) row tail) _ h),
  )
  row_by tail d below_row below s (Maybe n ∷ row) h =
      let here = and_left (are_safe rules table (own rules table n) row tail && are_safe rules table (table.tails n) row tail) _ h in (
        (
          safe_by tail d below_row below s (own rules table n) row (and_left (are_safe rules table (own rules table n) row tail) _ here),
          safe_by tail d below_row below s (table.tails n) row (and_right (are_safe rules table (own rules table n) row tail) _ here),
        ),
        row_by tail d below_row below s row
            (and_right (are_safe rules table (own rules table n) row tail && are_safe rules table (table.tails n) row tail) _ h),
      )
  row_by tail d below_row below s (Many n ∷ row) h =
      let here = and_left (are_safe rules table (own rules table n) row tail && are_safe rules table (table.tails n) (Many n ∷ row) tail) _ h in (
        (
          safe_by tail d below_row below s (own rules table n) row (and_left (are_safe rules table (own rules table n) row tail) _ here),
          safe_by tail d below_row below s (table.tails n) (Many n ∷ row) (and_right (are_safe rules table (own rules table n) row tail) _ here),
        ),
        row_by tail d below_row below s row
            (and_right (are_safe rules table (own rules table n) row tail && are_safe rules table (table.tails n) (Many n ∷ row) tail) _ h),
      )

  -- so what a nonterminal stands for may stand in its place
  pub safe_production : (n : N) (p : P) (d : ℕ) (row : List (Symbol N A K)) (below : Stack N A K) → IsOneOf p (rules.productions n) →
      AreSafe rules table (table.tails n) row below →
      RowEndsWell rules table (rules.row p) (Row row d below)
  safe_production n p d row below i s = row_by (table.tails n) d row below s (rules.row p) (fine_production rules table sound n p i).well

  -- one of a nonterminal's own ways to go on
  own_safe : (k : K) (n : N) (ks : List K) (row : List (Symbol N A K)) (below : Stack N A K) → among rules table k ks ≡ true →
      AreSafe rules table (map (λ j. (j, n)) ks) row below →
      is_safe rules table k n row (safe_at rules table k n below) ≡ true
  own_safe k n [] row below h s = false_true h
  own_safe k n (j ∷ ks) row below h s =
      elim (or_cases (table.number k == table.number j) _ h) [
        | inl e ↦ subst (λ (x : K). is_safe rules table x n row (safe_at rules table x n below) ≡ true) (sym (kind_by rules table sound k j e)) s.0
        | inr e ↦ own_safe k n ks row below e s.1
      ]

  pub maybe_safe : (k : K) (n : N) (row : List (Symbol N A K)) (below : Stack N A K) →
      among rules table k (first_set rules table n) ≡ true → AreSafe rules table (own rules table n) row below →
      is_safe rules table k n row (safe_at rules table k n below) ≡ true
  maybe_safe k n row below h s = own_safe k n (first_set rules table n) row below h s

  -- what is safe before something that may be left out is safe behind it too
  pub safe_past : (k : K) (n m : N) (row : List (Symbol N A K)) (below : Stack N A K) → AreSafe rules table (own rules table m) row below →
      (if among rules table k (first_set rules table m) then table.label n == table.label m else is_safe rules table k n row
      (safe_at rules table k n below)) ≡ true →
      is_safe rules table k n row (safe_at rules table k n below) ≡ true
  safe_past k n m row below s h = by (among rules table k (first_set rules table m)) refl
    where
      by : (b : Bool) → among rules table k (first_set rules table m) ≡ b → is_safe rules table k n row (safe_at rules table k n below) ≡ true
      by true i =
          let same =
          label_by rules table sound n m (sym (if_true (among rules table k (first_set rules table m))
          (table.label n == table.label m) (is_safe rules table k n row (safe_at rules table k n below)) i) ∙ h) in
          subst (λ (x : N). is_safe rules table k x row (safe_at rules table k x below) ≡ true) (sym same) (maybe_safe k m row below i s)
      by false i =
          sym (if_false (among rules table k (first_set rules table m)) (table.label n == table.label m)
          (is_safe rules table k n row (safe_at rules table k n below)) i)
          ∙ h

  -- the shortest way to the end doesn't go on where something could
  lead_not : (k : K) (n : N) (row : List (Symbol N A K)) (below : Stack N A K) →
      (safe_at rules table k n below ≡ true → lead_at rules table below ≡ Some k → ⊥) →
      RowEndsWell rules table row below → is_safe rules table k n row (safe_at rules table k n below) ≡ true →
      lead rules table row (lead_at rules table below) ≡ Some k → ⊥
  lead_not k n [] below f w h e = f h e
  lead_not k n (Read j ∷ row) below f w h e = cc (not_true _ h, kind_is rules table sound k j (cc))
  lead_not k n (Open j ∷ row) below f w h e = cc (not_true _ h, kind_is rules table sound k j (cc))
  lead_not k n (Act a ∷ row) below f w h e = lead_not k n row below f w.1 h e
  lead_not k n (Once m ∷ row) below f w h e =
      let same : table.begin m ≡ k = cc in
      let there = subst (λ (x : K). among rules table x (first_set rules table m) ≡ true) same (begin_among rules table sound m) in
      cc (not_true _ h, there)
  lead_not k n (Maybe m ∷ row) below f w h e = lead_not k n row below f w.1 (safe_past k n m row below w.0.0 h) e
  lead_not k n (Many m ∷ row) below f w h e = lead_not k n row below f w.1 (safe_past k n m row below w.0.0 h) e

  pub lead_never : (k : K) (n : N) (s : Stack N A K) → IsSafe rules table s → safe_at rules table k n s ≡ true → lead_at rules table s ≡ Some k → ⊥
  lead_never k n Bottom w h e = cc
  lead_never k n (Row row d below) w h e = lead_not k n row below (lead_never k n below w.1) w.0 h e

  -- nothing goes on at the bottom
  pub safe_bottom : (ps : List (K × N)) → AreSafe rules table ps [] Bottom
  safe_bottom [] = tt
  safe_bottom (p ∷ ps) = (refl, safe_bottom ps)

  -- with its ways to go on, a text ends well at the bottom
  text_on_nothing : RowEndsWell rules table rules.text (Row [] 0 Bottom)
  text_on_nothing = row_by table.text_tail 0 [] Bottom (safe_bottom table.text_tail) rules.text sound.text

  -- an empty row makes no difference
  same_safe : (ps : List (K × N)) (row : List (Symbol N A K)) → AreSafe rules table ps row (Row [] 0 Bottom) → AreSafe rules table ps row Bottom
  same_safe [] row h = tt
  same_safe (p ∷ ps) row h = (h.0, same_safe ps row h.1)

  same_row : (row : List (Symbol N A K)) → RowEndsWell rules table row (Row [] 0 Bottom) → RowEndsWell rules table row Bottom
  same_row [] h = tt
  same_row (Read k ∷ row) h = (tt, same_row row h.1)
  same_row (Open k ∷ row) h = (tt, same_row row h.1)
  same_row (Act a ∷ row) h = (tt, same_row row h.1)
  same_row (Once n ∷ row) h = (same_safe (table.tails n) row h.0, same_row row h.1)
  same_row (Maybe n ∷ row) h = ((same_safe (own rules table n) row h.0.0, same_safe (table.tails n) row h.0.1), same_row row h.1)
  same_row (Many n ∷ row) h = ((same_safe (own rules table n) row h.0.0, same_safe (table.tails n) (Many n ∷ row) h.0.1), same_row row h.1)

  pub text_ends_well : RowEndsWell rules table rules.text Bottom
  text_ends_well = same_row rules.text text_on_nothing
