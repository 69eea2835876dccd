-- Rows of targets, one after the other.
use Rattle.std.proofs.Common.{◌≡◌, ◌⊎◌, inl, inr, ℕ, ◌+◌, ◌<◌, ◌≤◌, Bool, true, false, List, [], ◌∷◌, ◌++◌, length, slice_get, Some}
use Rattle.std.proofs.Common.{refl, ap, sym, ◌∙◌, subst, arith, length-append}
use Rattle.std.proofs.lemmas.Bool.{cases_lt}
use Rattle.labels.specs.Labels.{Label}
use Rattle.gta_theory.proofs.ListedLemmas.{slice_get-front, slice_get-last}
use Rattle.ws2s_core.specs.declared.node.Node.{Node}
use Rattle.ws2s_core.specs.Nodes.{Extends}
use Rattle.cert_text.specs.declared.line.Target.{Target}
use Rattle.cert_text.specs.declared.line.NodeLine.{NodeLine}
use Rattle.cert_parts.specs.Atoms.{choice_by, chosen, choice_of, atom_state, atom_function, first_track, second_track}
use Rattle.cert_parts.specs.Leading.{LeadsTo, IsCellOf, AreCells, IsRowOf, AreFirstRows, AreNumbered, IsSpaceOf, AreSpacesOf}
use Rattle.cert_parts.proofs.DecideLemmas.{leads-kept, leads-like, chosen_at}

-- ---- a list with one more at its end, by places

pub at-front : {X : Type 0} (xs : List X) (x y : X) (k : ℕ) → slice_get xs k ≡ Some y → k < length xs → slice_get (xs ++ x ∷ []) k ≡ Some y
at-front xs x y k at inside = slice_get-front xs (x ∷ []) k inside ∙ at

pub at-last : {X : Type 0} (xs : List X) (x : X) (k : ℕ) → length xs ≡ k → slice_get (xs ++ x ∷ []) k ≡ Some x
at-last xs x k is = subst (λ (n : ℕ). slice_get (xs ++ x ∷ []) n ≡ Some x) is (slice_get-last xs x)

pub one-more : {X : Type 0} (xs : List X) (x : X) (n : ℕ) → length xs ≡ n → length (xs ++ x ∷ []) ≡ n + 1
one-more xs x n is = let h = length-append xs (x ∷ []) in omega (arith, is, h)

-- ---- cells

chosen-by : (f : Bool → Bool → ℕ) (a b : Bool) → chosen (choice_by f) a b ≡ f a b
chosen-by f true true = refl
chosen-by f true false = refl
chosen-by f false true = refl
chosen-by f false false = refl

pub cell-leads : (nodes : List NodeLine) (atom : Node) (p q : ℕ) (t : Target) →
    LeadsTo nodes t (chosen_at (choice_of atom p q) (first_track atom) (second_track atom)) → LeadsTo nodes t (atom_function atom p q)
cell-leads nodes atom p q t leads =
    leads-like nodes t (chosen_at (choice_of atom p q) (first_track atom) (second_track atom)) (atom_function atom p q)
    (λ label. chosen-by (atom_state atom p q) (label (first_track atom)) (label (second_track atom))) leads

pub cells-none : (nodes : List NodeLine) (atom : Node) (p : ℕ) → AreCells nodes atom p 0 []
cells-none nodes atom p = record { many = refl; cell = λ q below. absurd (omega (arith, below)) }

pub cells-push : (old new : List NodeLine) (atom : Node) (p q : ℕ) (row : List Target) (t : Target) → AreCells old atom p q row → Extends old new →
    LeadsTo new t (atom_function atom p q) → AreCells new atom p (q + 1) (row ++ t ∷ [])
cells-push old new atom p q row t are grown leads = record { many = one-more row t q are.many; cell = at }
  where
    at : (k : ℕ) → k < q + 1 → IsCellOf new atom p (row ++ t ∷ []) k
    at k below = elim (cases_lt k q) as (λ _. IsCellOf new atom p (row ++ t ∷ []) k) [
      | inl earlier ↦
          let cell = are.cell k earlier in
          let many = are.many in
          record {
            target = cell.target;
            at = at-front row t cell.target k cell.at (omega (arith, many, earlier));
            leads = leads-kept old new cell.target (atom_function atom p k) grown cell.leads;
          }
      | inr from ↦
          let is : q ≡ k = omega (arith, from, below) in
          record {
            target = t;
            at = at-last row t k (are.many ∙ is);
            leads = subst (λ (n : ℕ). LeadsTo new t (atom_function atom p n)) is leads;
          }
    ]

pub cells-kept : (old new : List NodeLine) (atom : Node) (p count : ℕ) (row : List Target) → Extends old new → AreCells old atom p count row →
    AreCells new atom p count row
cells-kept old new atom p count row grown are = record {
  many = are.many;
  cell = λ q below.
      let cell = are.cell q below in
      record { target = cell.target; at = cell.at; leads = leads-kept old new cell.target (atom_function atom p q) grown cell.leads };
}

-- ---- rows

pub rows-none : (nodes : List NodeLine) (atom : Node) (count : ℕ) → AreFirstRows nodes atom count 0 []
rows-none nodes atom count = record { many_rows = refl; row = λ p below. absurd (omega (arith, below)) }

pub rows-push : (old new : List NodeLine) (atom : Node) (count p : ℕ) (rows : List (List Target)) (row : List Target) →
    AreFirstRows old atom count p rows → Extends old new → AreCells new atom p count row → AreFirstRows new atom count (p + 1) (rows ++ row ∷ [])
rows-push old new atom count p rows row are grown cells = record { many_rows = one-more rows row p are.many_rows; row = at }
  where
    at : (k : ℕ) → k < p + 1 → IsRowOf new atom count (rows ++ row ∷ []) k
    at k below = elim (cases_lt k p) as (λ _. IsRowOf new atom count (rows ++ row ∷ []) k) [
      | inl earlier ↦
          let old_row = are.row k earlier in
          let many = are.many_rows in
          record {
            row = old_row.row;
            at = at-front rows row old_row.row k old_row.at (omega (arith, many, earlier));
            cells = cells-kept old new atom k count old_row.row grown old_row.cells;
          }
      | inr from ↦
          let is : p ≡ k = omega (arith, from, below) in
          record {
            row = row;
            at = at-last rows row k (are.many_rows ∙ is);
            cells = subst (λ (n : ℕ). AreCells new atom n count row) is cells;
          }
    ]

-- ---- the numbers below a number

pub numbers-none : AreNumbered 0 []
numbers-none = record { many = refl; number = λ k below. absurd (omega (arith, below)) }

pub numbers-push : (n : ℕ) (numbers : List ℕ) → AreNumbered n numbers → AreNumbered (n + 1) (numbers ++ n ∷ [])
numbers-push n numbers are = record { many = one-more numbers n n are.many; number = at }
  where
    at : (k : ℕ) → k < n + 1 → slice_get (numbers ++ n ∷ []) k ≡ Some k
    at k below = elim (cases_lt k n) as (λ _. slice_get (numbers ++ n ∷ []) k ≡ Some k) [
      | inl earlier ↦
          let many = are.many in
          at-front numbers n k k (are.number k earlier) (omega (arith, many, earlier))
      | inr from ↦
          let is : n ≡ k = omega (arith, from, below) in
          subst (λ (m : ℕ). slice_get (numbers ++ n ∷ []) m ≡ Some m) is (at-last numbers n n are.many)
    ]
