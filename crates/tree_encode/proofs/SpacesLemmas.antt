-- Rows of spaces: how long they are, and that they lead to spaces.
use Rattle.std.proofs.Common.{◌≡◌, ℕ, zero, suc, ◌+◌, ◌<◌, ◌≤◌, max, Bool, true, false, cond, eqb, inl, inr, get_or, List, [], ◌∷◌, ◌++◌, length, map, take}
use Rattle.std.proofs.Common.{refl, sym, ap, ◌∙◌, subst, length-append, arith}
use Rattle.std.proofs.Math.Dec.{eqb-suc-zero}
use Rattle.std.proofs.lemmas.List.{length-map}
use Rattle.std.proofs.lemmas.Option.{slice_get_cases}
use Rattle.std.proofs.lemmas.List.Sums.{sum_by-cons, sum_by-take-le, sum_by_more_le}
use Rattle.gta_theory.specs.Guides.{Spaces, left, right, IsGuide}
use Rattle.store_core.specs.declared.ids.TypeId.{TypeId}
use Rattle.store_core.specs.declared.ids.VariantId.{VariantId}
use Rattle.store_core.specs.Tables.{TypeEntry, VarEntry, KnowsType}
use Rattle.tree_encode.specs.Spaces.{row_length, row_of_some, row, slot_types, child_types, spaces_in, first_space, rows_after, guide_of}

-- ---- lengths

pub length-row_of_some : (first rest : ℕ) (zs : List ℕ) → length (row_of_some first rest zs) ≡ length zs
length-row_of_some first rest [] = refl
length-row_of_some first rest (z ∷ zs) = ap (λ n. suc n) (length-row_of_some (suc first) rest zs)

pub row-some : (first rest z : ℕ) (zs : List ℕ) → row first rest (z ∷ zs) ≡ row_of_some first rest (z ∷ zs)
row-some first rest z zs = ap (λ b. cond b ((rest, rest) ∷ []) (row_of_some first rest (z ∷ zs))) (eqb-suc-zero (length zs))

pub length-row : (first rest : ℕ) (zs : List ℕ) → length (row first rest zs) ≡ row_length (length zs)
length-row first rest [] = refl
length-row first rest (z ∷ zs) =
    ap (λ r. length r) (row-some first rest z zs) ∙ length-row_of_some first rest (z ∷ zs)
    ∙ (let e : suc (length zs) ≡ max (suc (length zs)) 1 = omega arith in e)

pub length-rows_after : (types : List TypeEntry) (start rest n : ℕ) (ts : List TypeEntry) → length (rows_after types start rest n ts) ≡ spaces_in ts
length-rows_after types start rest n [] = refl
length-rows_after types start rest n (t ∷ ts) =
    length-append (row n rest (map (first_space types start) (child_types t))) (rows_after types start rest (n + row_length (length (child_types t))) ts)
    ∙ ap (λ m. m + length (rows_after types start rest (n + row_length (length (child_types t))) ts))
    (length-row n rest (map (first_space types start) (child_types t)) ∙ ap (λ m. row_length m) (length-map (child_types t) (first_space types start)))
    ∙ ap (λ m. row_length (length (child_types t)) + m) (length-rows_after types start rest (n + row_length (length (child_types t))) ts)
    ∙ sym (sum_by-cons (λ s. row_length (length (child_types s))) t ts)

-- ---- all children are below a number

abbrev pub Inside : ℕ → Spaces → Type 0
Inside n [] = Unit {0}
Inside n (c ∷ cs) = (c.0 < n) × (c.1 < n) × Inside n cs

abbrev pub Within : ℕ → List ℕ → Type 0
Within m [] = Unit {0}
Within m (z ∷ zs) = (z ≤ m) × Within m zs

Inside-append : (n : ℕ) (xs ys : Spaces) → Inside n xs → Inside n ys → Inside n (xs ++ ys)
Inside-append n [] ys h k = k
Inside-append n (x ∷ xs) ys h k = (h.0, h.1, Inside-append n xs ys h.2 k)

Inside-cond : (n : ℕ) (b : Bool) (xs ys : Spaces) → Inside n xs → Inside n ys → Inside n (cond b xs ys)
Inside-cond n true xs ys h k = h
Inside-cond n false xs ys h k = k

below-cond : (n : ℕ) (b : Bool) (x y : ℕ) → x < n → y < n → cond b x y < n
below-cond n true x y h k = h
below-cond n false x y h k = k

Inside-row_of_some : (first rest n : ℕ) (zs : List ℕ) → Within rest zs → rest < n → first + length zs ≤ rest → Inside n (row_of_some first rest zs)
Inside-row_of_some first rest n [] within below room = tt
Inside-row_of_some first rest n (z ∷ zs) within below room = (
  omega (arith, within.0, below),
  below-cond n (eqb (length zs) 0) rest (suc first) below (omega (arith, room, below)),
  Inside-row_of_some (suc first) rest n zs within.1 below (omega (arith, room)),
)

Inside-row : (first rest n : ℕ) (zs : List ℕ) → Within rest zs → rest < n → first + row_length (length zs) ≤ rest → Inside n (row first rest zs)
Inside-row first rest n zs within below room =
    Inside-cond n (eqb (length zs) 0) ((rest, rest) ∷ []) (row_of_some first rest zs) (below, below, tt)
    (Inside-row_of_some first rest n zs within below (omega (arith, room)))

Within-first : (types : List TypeEntry) (start rest : ℕ) (tys : List TypeId) → rest ≡ start + spaces_in types → Within rest (map (first_space types start) tys)
Within-first types start rest [] is = tt
Within-first types start rest (ty ∷ tys) is = (
  (let e : spaces_in (take ty.0 types) ≤ spaces_in types = sum_by-take-le (λ t. row_length (length (child_types t))) types ty.0 in omega (arith, e, is)),
  Within-first types start rest tys is,
)

first-room : (types : List TypeEntry) (start n m : ℕ) (tys : List TypeId) → n + row_length (length tys) ≤ m →
    n + row_length (length (map (first_space types start) tys)) ≤ m
first-room types start n m tys room = subst (λ k. n + row_length k ≤ m) (sym (length-map tys (first_space types start))) room

Inside-rows_after : (types : List TypeEntry) (start rest n m : ℕ) (ts : List TypeEntry) → rest ≡ start + spaces_in types → n + spaces_in ts ≤ rest →
    rest < m → Inside m (rows_after types start rest n ts)
Inside-rows_after types start rest n m [] is room below = tt
Inside-rows_after types start rest n m (t ∷ ts) is room below =
    let sum : spaces_in (t ∷ ts) ≡ row_length (length (child_types t)) + spaces_in ts = sum_by-cons (λ s. row_length (length (child_types s))) t ts in
    Inside-append m (row n rest (map (first_space types start) (child_types t))) (rows_after types start rest (n + row_length (length (child_types t))) ts)
    (Inside-row n rest m (map (first_space types start) (child_types t)) (Within-first types start rest (child_types t) is) below
    (first-room types start n rest (child_types t) (omega (arith, sum, room))))
    (Inside-rows_after types start rest (n + row_length (length (child_types t))) m ts is (omega (arith, sum, room)) below)

-- ---- the guide is one

Inside-read : (n : ℕ) (cs : Spaces) (s : ℕ) → Inside n cs → s < length cs → (left cs s < n) × (right cs s < n)
Inside-read n [] s h inside = absurd (omega arith)
Inside-read n (c ∷ cs) zero h inside = (h.0, h.1)
Inside-read n (c ∷ cs) (suc s) h inside = Inside-read n cs s h.2 (omega arith)

-- the guide over slots of these types
abbrev pub closed : List TypeEntry → List TypeId → ℕ → ℕ → Spaces
closed types targets start rest =
    (row 0 rest (map (first_space types start) targets) ++ rows_after types start rest start types) ++ (rest, rest) ∷ []

length-closed : (types : List TypeEntry) (targets : List TypeId) (start rest : ℕ) → start ≡ row_length (length targets) → rest ≡ start + spaces_in types →
    length (closed types targets start rest) ≡ suc rest
length-closed types targets start rest begins is =
    length-append (row 0 rest (map (first_space types start) targets) ++ rows_after types start rest start types) ((rest, rest) ∷ [])
    ∙ (let e : length (row 0 rest (map (first_space types start) targets) ++ rows_after types start rest start types) + 1 ≡ suc rest
    = omega (
      arith,
      is,
      begins,
      length-append (row 0 rest (map (first_space types start) targets)) (rows_after types start rest start types),
      length-row 0 rest (map (first_space types start) targets),
      length-map targets (first_space types start),
      length-rows_after types start rest start types,
    ) in e)

Inside-closed : (types : List TypeEntry) (targets : List TypeId) (start rest : ℕ) → start ≡ row_length (length targets) → rest ≡ start + spaces_in types →
    Inside (suc rest) (closed types targets start rest)
Inside-closed types targets start rest begins is =
    Inside-append (suc rest) (row 0 rest (map (first_space types start) targets) ++ rows_after types start rest start types) ((rest, rest) ∷ [])
    (Inside-append (suc rest) (row 0 rest (map (first_space types start) targets)) (rows_after types start rest start types)
    (Inside-row 0 rest (suc rest) (map (first_space types start) targets) (Within-first types start rest targets is) (omega arith)
    (first-room types start 0 rest targets (omega (arith, begins, is))))
    (Inside-rows_after types start rest start (suc rest) types is (omega (arith, is)) (omega arith)))
    (omega arith, omega arith, tt)

pub IsGuide-closed : (types : List TypeEntry) (targets : List TypeId) (start rest : ℕ) → start ≡ row_length (length targets) →
    rest ≡ start + spaces_in types → IsGuide (closed types targets start rest)
IsGuide-closed types targets start rest begins is =
    let count : length (closed types targets start rest) ≡ suc rest = length-closed types targets start rest begins is in
    let all : Inside (length (closed types targets start rest)) (closed types targets start rest) =
    subst (λ n. Inside n (closed types targets start rest)) (sym count) (Inside-closed types targets start rest begins is) in
    record {
      not_empty = omega (arith, count);
      left_inside = λ s inside. (Inside-read (length (closed types targets start rest)) (closed types targets start rest) s all inside).0;
      right_inside = λ s inside. (Inside-read (length (closed types targets start rest)) (closed types targets start rest) s all inside).1;
    }

pub IsGuide-guide_of : (types : List TypeEntry) (vars : List VarEntry) (spares : List VariantId) → IsGuide (guide_of types vars spares)
IsGuide-guide_of types vars spares =
    IsGuide-closed types (slot_types vars spares) (row_length (length (slot_types vars spares)))
    (row_length (length (slot_types vars spares)) + spaces_in types) refl refl

-- no type's first space is the rest
pub first-apart : (types : List TypeEntry) (start : ℕ) (ty : TypeId) → KnowsType types ty → first_space types start ty < start + spaces_in types
first-apart types start ty known = elim (slice_get_cases types ty.0).1 as (λ _. first_space types start ty < start + spaces_in types) [
  | inl found ↦ (let more : spaces_in (take ty.0 types) + row_length (length (child_types (get_or types ty.0 found.0))) ≤ spaces_in types
      = sum_by_more_le (λ t. row_length (length (child_types t))) types ty.0 found.0 found.1 in
      omega (arith, more))
  | inr past ↦ absurd (omega (arith, past.0, known))
]
