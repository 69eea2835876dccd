-- Rows that classes share.
use Rattle.std.proofs.Common.{◌≡◌, ℕ, suc, ◌+◌, ◌<◌, ◌≤◌, List, [], ◌∷◌, ◌++◌, length, inl, inr}
use Rattle.std.proofs.Common.{sym, ◌∙◌, ap, refl, arith, length-append}
use Rattle.std.specs.Prelude.{slice_index, slice_set}
use Rattle.std.proofs.Math.ListN.{get_or-append}
use Rattle.std.proofs.Math.Seq.{get_or-append_seam}
use Rattle.std.proofs.lemmas.Bool.{cases_lt, cases_eq}
use Rattle.std.proofs.lemmas.List.{get_or-set_same, get_or-set_other, length-set}
use Rattle.gta_classes.specs.Marks.{AreZero}
use Rattle.gta_minimise.specs.Rows.{IsRowStep, known, makes, AreSharedRows}

-- a class below that has the row
pub record HasRowBelow (representatives numbers states : List ℕ) (below row : ℕ) : Type 0 where
  pub class : ℕ
  pub before : class < below
  pub number : slice_index numbers class ≡ row
  pub state : slice_index states row ≡ slice_index representatives class

-- a row, and its state of a kind
pub record IsKnown (kinds states : List ℕ) (kind row : ℕ) : Type 0 where
  pub inside : row < length states
  pub of_kind : slice_index kinds (slice_index states row) ≡ kind

-- the rows of the first classes
pub record SharesBelow (kinds representatives numbers states links : List ℕ) (below : ℕ) : Type 0 where
  pub many : length numbers ≡ below
  pub few : length states ≤ below
  pub within : (x : ℕ) → x < below → slice_index numbers x < length states
  pub same : (x : ℕ) → x < below → slice_index kinds (slice_index states (slice_index numbers x)) ≡ slice_index kinds (slice_index representatives x)
  pub has : (row : ℕ) → row < length states → HasRowBelow representatives numbers states below row
  pub reaches : (i : ℕ) → slice_index kinds i < length links
  pub rows_are : (kind row : ℕ) → slice_index links kind ≡ suc row → IsKnown kinds states kind row

pub SharesBelow-none : (kinds representatives links : List ℕ) → ((i : ℕ) → slice_index kinds i < length links) → AreZero links →
    SharesBelow kinds representatives [] [] links 0
SharesBelow-none kinds representatives links reaches zero = record {
  many = refl;
  few = omega arith;
  within = λ x x_in. absurd (omega arith);
  same = λ x x_in. absurd (omega arith);
  has = λ row row_in. absurd (omega arith);
  reaches = reaches;
  rows_are = λ kind row there. absurd (let z = zero kind in omega arith);
}

-- one class more, whose row is one of those before or the last one
module _ (kinds representatives numbers states links : List ℕ) (below : ℕ)
    (so_far : SharesBelow kinds representatives numbers states links below) where
  module _ (longer after : List ℕ) (row : ℕ) (at_least : length states ≤ length longer) (at_most : length longer ≤ length states + 1)
      (kept : (i : ℕ) → i < length states → slice_index longer i ≡ slice_index states i) (row_in : row < length longer)
      (of_kind : slice_index kinds (slice_index longer row) ≡ slice_index kinds (slice_index representatives below))
      (last : (i : ℕ) → length states ≤ i → i < length longer → (row ≡ i) × (slice_index longer i ≡ slice_index representatives below))
      (as_many : length after ≡ length links) (rows_after : (kind other : ℕ) → slice_index after kind ≡ suc other → IsKnown kinds longer kind other) where
    before-at : (x : ℕ) → x < below → slice_index (numbers ++ row ∷ []) x ≡ slice_index numbers x
    before-at x x_in = get_or-append numbers (row ∷ []) 0 x (let m = so_far.many in omega arith)

    last-at : slice_index (numbers ++ row ∷ []) below ≡ row
    last-at = ap (slice_index (numbers ++ row ∷ [])) (sym so_far.many) ∙ get_or-append_seam numbers row [] 0

    within-after : (x : ℕ) → x < below + 1 → slice_index (numbers ++ row ∷ []) x < length longer
    within-after x x_in = elim (cases_lt x below) [
      | inl before ↦ let e = before-at x before in let w = so_far.within x before in omega arith
      | inr past ↦
          let same : x ≡ below = omega arith in
          let e = ap (slice_index (numbers ++ row ∷ [])) same in
          let f = last-at in
          omega arith
    ]

    same-after : (x : ℕ) → x < below + 1 →
        slice_index kinds (slice_index longer (slice_index (numbers ++ row ∷ []) x)) ≡ slice_index kinds (slice_index representatives x)
    same-after x x_in = elim (cases_lt x below) [
      | inl before ↦
          ap (λ (k : ℕ). slice_index kinds (slice_index longer k)) (before-at x before)
          ∙ ap (slice_index kinds) (kept (slice_index numbers x) (so_far.within x before)) ∙ so_far.same x before
      | inr past ↦
          let is : x ≡ below = omega arith in
          ap (λ (k : ℕ). slice_index kinds (slice_index longer (slice_index (numbers ++ row ∷ []) k))) is
          ∙ ap (λ (k : ℕ). slice_index kinds (slice_index longer k)) last-at ∙ of_kind
          ∙ ap (λ (k : ℕ). slice_index kinds (slice_index representatives k)) (sym is)
    ]

    has-after : (i : ℕ) → i < length longer → HasRowBelow representatives (numbers ++ row ∷ []) longer (below + 1) i
    has-after i i_in = elim (cases_lt i (length states)) [
      | inl before ↦
          let found = so_far.has i before in
          record {
            class = found.class;
            before = let b = found.before in omega arith;
            number = before-at found.class found.before ∙ found.number;
            state = kept i before ∙ found.state;
          }
      | inr past ↦
          let is = last i (omega arith) i_in in
          record { class = below; before = omega arith; number = last-at ∙ is.0; state = is.1 }
    ]

    SharesBelow-more : SharesBelow kinds representatives (numbers ++ row ∷ []) longer after (below + 1)
    SharesBelow-more = record {
      many = length-append numbers (row ∷ []) ∙ (let m = so_far.many in omega arith);
      few = let f = so_far.few in omega arith;
      within = within-after;
      same = same-after;
      has = has-after;
      reaches = λ i. let b = so_far.reaches i in omega arith;
      rows_are = rows_after;
    }

  -- a kind that has a row
  of-known : (row : ℕ) → slice_index links (slice_index kinds (slice_index representatives below)) ≡ suc row →
      SharesBelow kinds representatives (numbers ++ row ∷ []) states links (below + 1)
  of-known row there =
      let is = so_far.rows_are (slice_index kinds (slice_index representatives below)) row there in
      SharesBelow-more states links row (omega arith) (omega arith) (λ i i_in. refl) is.inside is.of_kind
      (λ i past i_in. absurd (omega arith)) refl so_far.rows_are

  -- a kind that gets one
  module _ (row : ℕ) (is_last : row ≡ length states) where
    kind : ℕ
    kind = slice_index kinds (slice_index representatives below)

    longer : List ℕ
    longer = states ++ slice_index representatives below ∷ []

    many-longer : length longer ≡ length states + 1
    unfolding longer
    many-longer = length-append states (slice_index representatives below ∷ []) ∙ (omega arith)

    kept-longer : (i : ℕ) → i < length states → slice_index longer i ≡ slice_index states i
    unfolding longer
    kept-longer i i_in = get_or-append states (slice_index representatives below ∷ []) 0 i i_in

    last-longer : slice_index longer (length states) ≡ slice_index representatives below
    unfolding longer
    last-longer = get_or-append_seam states (slice_index representatives below) [] 0

    of-made : slice_index kinds (slice_index longer row) ≡ slice_index kinds (slice_index representatives below)
    of-made = ap (λ (k : ℕ). slice_index kinds (slice_index longer k)) is_last ∙ ap (slice_index kinds) last-longer

    rows-made : (k other : ℕ) → slice_index (slice_set links kind (suc row)) k ≡ suc other → IsKnown kinds longer k other
    unfolding kind
    rows-made k other there = elim (cases_eq k (slice_index kinds (slice_index representatives below))) [
      | inl same ↦
          let at : slice_index (slice_set links (slice_index kinds (slice_index representatives below)) (suc row)) k ≡ suc row =
          ap (slice_index (slice_set links (slice_index kinds (slice_index representatives below)) (suc row))) same
          ∙ get_or-set_same links (slice_index kinds (slice_index representatives below)) (suc row) 0
          (so_far.reaches (slice_index representatives below)) in
          let rows_same : row ≡ other = omega arith in
          record {
            inside = let m = many-longer in omega arith;
            of_kind = ap (λ (j : ℕ). slice_index kinds (slice_index longer j)) (sym rows_same) ∙ of-made ∙ sym same;
          }
      | inr apart ↦
          let was = so_far.rows_are k other
          (sym (get_or-set_other links (slice_index kinds (slice_index representatives below)) k (suc row) 0 apart) ∙ there) in
          record {
            inside = let m = many-longer in let w = was.inside in omega arith;
            of_kind = ap (slice_index kinds) (kept-longer other was.inside) ∙ was.of_kind;
          }
    ]

    of-new : SharesBelow kinds representatives (numbers ++ row ∷ []) longer (slice_set links kind (suc row)) (below + 1)
    of-new = SharesBelow-more longer (slice_set links kind (suc row)) row (let m = many-longer in omega arith) (let m = many-longer in omega arith)
        kept-longer (let m = many-longer in omega arith) of-made
        (λ i past i_in.
        let m = many-longer in
        let is : row ≡ i = omega arith in
        let at : i ≡ length states = omega arith in
        (is, ap (slice_index longer) at ∙ last-longer))
        (length-set links kind (suc row)) rows-made

    pub of-made-rows : SharesBelow kinds representatives (numbers ++ row ∷ []) (states ++ slice_index representatives below ∷ [])
        (slice_set links (slice_index kinds (slice_index representatives below)) (suc row)) (below + 1)
    unfolding longer kind
    of-made-rows = of-new

  pub SharesBelow-step : (after longer : List ℕ) (row : ℕ) →
      IsRowStep (slice_index kinds (slice_index representatives below)) (slice_index representatives below) links states after longer row →
      SharesBelow kinds representatives (numbers ++ row ∷ []) longer after (below + 1)
  SharesBelow-step _ _ _ (known row there) = of-known row there
  SharesBelow-step _ _ _ (makes row is_last) = of-made-rows row is_last

pub AreSharedRows-all : (kinds representatives numbers states links : List ℕ) →
    SharesBelow kinds representatives numbers states links (length representatives) → AreSharedRows kinds representatives numbers states
AreSharedRows-all kinds representatives numbers states links all = record {
  many = all.many;
  few = all.few;
  within = all.within;
  same = all.same;
  has = λ row row_in. let found = all.has row row_in in record {
    class = found.class;
    inside = found.before;
    number = found.number;
    state = found.state;
  };
}
