-- One step of each loop that makes spaces.
use Rattle.std.proofs.Common.{◌≡◌, ℕ, suc, ◌+◌, ◌<◌, cond, eqb, inl, inr, List, [], ◌∷◌, ◌++◌, length, map, drop, slice_get, get_or, Some, refl, sym, ap, ◌∙◌}
use Rattle.std.proofs.Common.{append_assoc, length-append, length-drop, drop-cons, arith}
use Rattle.std.proofs.Math.Dec.{eqb-suc-zero}
use Rattle.std.proofs.lemmas.List.{length-map}
use Rattle.std.specs.Prelude.{flat_map}
use Rattle.std.specs.Option.{option_map_or}
use Rattle.std.proofs.lemmas.Option.{slice_get_cases, slice_get_within, get_or_from_slice_get}
use Rattle.gta_theory.specs.Guides.{Spaces}
use Rattle.store_core.specs.declared.ids.VariantId.{VariantId}
use Rattle.store_core.specs.Tables.{TypeEntry, VarEntry, fields_of}
use Rattle.tree_encode.specs.Spaces.{row_length, row_of_some, row, field_targets, slot_types, child_types, spaces_in, first_space, rows_after, types_start}
use Rattle.tree_encode.specs.Spaces.{guide_of}
use Rattle.tree_encode.proofs.SpacesLemmas.{length-row, closed}

-- ---- the spaces of a row

next_last : (rest more : ℕ) (later : List ℕ) → length later ≡ 0 → rest ≡ cond (eqb (length later) 0) rest more
next_last rest more [] none = refl
next_last rest more (z ∷ zs) none = absurd (omega (arith, none))

next_more : (rest more : ℕ) (later : List ℕ) → 0 < length later → more ≡ cond (eqb (length later) 0) rest more
next_more rest more [] some = absurd (omega (arith, some))
next_more rest more (z ∷ zs) some = sym (ap (λ b. cond b rest more) (eqb-suc-zero (length zs)))

-- the children that are left begin with this one
left_over : {X : Type 0} (xs : List X) (i : ℕ) (x : X) → i < length xs → x ≡ get_or xs i x → drop i xs ≡ x ∷ drop (i + 1) xs
left_over xs i x inside is =
    drop-cons xs i x inside ∙ ap (λ y. y ∷ drop (suc i) xs) (sym is)
    ∙ ap (λ n. x ∷ drop n xs) (let e : suc i ≡ i + 1 = omega arith in e)

row_step : (spaces : Spaces) (children : List ℕ) (i child next rest : ℕ) → drop i children ≡ child ∷ drop (i + 1) children →
    next ≡ cond (eqb (length (drop (i + 1) children)) 0) rest (suc (length spaces)) →
    (spaces ++ (child, next) ∷ []) ++ row_of_some (length (spaces ++ (child, next) ∷ [])) rest (drop (i + 1) children)
    ≡ spaces ++ row_of_some (length spaces) rest (drop i children)
row_step spaces children i child next rest over is =
    append_assoc spaces ((child, next) ∷ []) (row_of_some (length (spaces ++ (child, next) ∷ [])) rest (drop (i + 1) children))
    ∙ ap (λ n. spaces ++ ((child, next) ∷ row_of_some n rest (drop (i + 1) children)))
    (length-append spaces ((child, next) ∷ []) ∙ (let e : length spaces + 1 ≡ suc (length spaces) = omega arith in e))
    ∙ ap (λ m. spaces ++ ((child, m) ∷ row_of_some (suc (length spaces)) rest (drop (i + 1) children))) is
    ∙ ap (λ zs. spaces ++ row_of_some (length spaces) rest zs) (sym over)

pub row-last : (spaces : Spaces) (children : List ℕ) (i child rest : ℕ) → i + 1 ≡ length children → child ≡ get_or children i child →
    (spaces ++ (child, rest) ∷ []) ++ row_of_some (length (spaces ++ (child, rest) ∷ [])) rest (drop (i + 1) children)
    ≡ spaces ++ row_of_some (length spaces) rest (drop i children)
row-last spaces children i child rest end is =
    row_step spaces children i child rest rest (left_over children i child (omega (arith, end)) is)
    (next_last rest (suc (length spaces)) (drop (i + 1) children) (omega (arith, end, length-drop (i + 1) children)))

pub row-more : (spaces : Spaces) (children : List ℕ) (i child next rest : ℕ) → i + 1 < length children → child ≡ get_or children i child →
    next ≡ suc (length spaces) →
    (spaces ++ (child, next) ∷ []) ++ row_of_some (length (spaces ++ (child, next) ∷ [])) rest (drop (i + 1) children)
    ≡ spaces ++ row_of_some (length spaces) rest (drop i children)
row-more spaces children i child next rest more is goes =
    row_step spaces children i child next rest (left_over children i child (omega (arith, more)) is)
    (goes ∙ next_more rest (suc (length spaces)) (drop (i + 1) children) (omega (arith, more, length-drop (i + 1) children)))

-- ---- the rows of the types

pub rows-more : (types : List TypeEntry) (start rest i : ℕ) (t : TypeEntry) (spaces : Spaces) → slice_get types i ≡ Some t →
    (spaces ++ row (length spaces) rest (map (first_space types start) (child_types t)))
    ++ rows_after types start rest (length (spaces ++ row (length spaces) rest (map (first_space types start) (child_types t)))) (drop (i + 1) types)
    ≡ spaces ++ rows_after types start rest (length spaces) (drop i types)
rows-more types start rest i t spaces is =
    append_assoc spaces (row (length spaces) rest (map (first_space types start) (child_types t)))
    (rows_after types start rest (length (spaces ++ row (length spaces) rest (map (first_space types start) (child_types t)))) (drop (i + 1) types))
    ∙ ap (λ n. spaces ++ (row (length spaces) rest (map (first_space types start) (child_types t)) ++ rows_after types start rest n (drop (i + 1) types)))
    (length-append spaces (row (length spaces) rest (map (first_space types start) (child_types t)))
    ∙ ap (λ n. length spaces + n)
    (length-row (length spaces) rest (map (first_space types start) (child_types t))
    ∙ ap (λ n. row_length n) (length-map (child_types t) (first_space types start))))
    ∙ ap (λ ts. spaces ++ rows_after types start rest (length spaces) ts)
    (sym (left_over types i t (slice_get_within types i t is) (sym (get_or_from_slice_get types i t t is))))

pub rows-next : (types : List TypeEntry) (start rest i : ℕ) (spaces new : Spaces) (children : List ℕ) → i < length types →
    children ≡ map (first_space types start) (flat_map (λ f. field_targets f.kind) (fields_of types (record { 0 = i }))) →
    new ≡ spaces ++ row (length spaces) rest children →
    new ++ rows_after types start rest (length new) (drop (i + 1) types) ≡ spaces ++ rows_after types start rest (length spaces) (drop i types)
rows-next types start rest i spaces new children inside are is =
    elim (slice_get_cases types i).1
    as (λ _. new ++ rows_after types start rest (length new) (drop (i + 1) types) ≡ spaces ++ rows_after types start rest (length spaces) (drop i types)) [
      | inl found ↦ ap (λ s. s ++ rows_after types start rest (length s) (drop (i + 1) types))
          (is ∙ ap (λ cs. spaces ++ row (length spaces) rest cs)
          (are ∙ ap (λ o. map (first_space types start) (flat_map (λ f. field_targets f.kind) (option_map_or (λ t. t.fields) o []))) found.2))
          ∙ rows-more types start rest i found.0 spaces found.2
      | inr past ↦ absurd (omega (arith, past.0, inside))
    ]

-- ---- the whole guide

pub guide-made : (types : List TypeEntry) (vars : List VarEntry) (spares : List VariantId) (start rest : ℕ) (children : List ℕ)
    (slots rows all : Spaces) → start ≡ types_start vars spares → rest ≡ start + spaces_in types →
    children ≡ map (first_space types start) (slot_types vars spares) → slots ≡ row 0 rest children →
    rows ≡ slots ++ rows_after types start rest (length slots) types → all ≡ rows ++ (rest, rest) ∷ [] → all ≡ guide_of types vars spares
guide-made types vars spares start rest children slots rows all starts rests are slots_are rows_are all_are =
    let targets = slot_types vars spares in
    let kids : List ℕ = map (first_space types start) targets in
    let row_is : slots ≡ row 0 rest kids = slots_are ∙ ap (λ cs. row 0 rest cs) are in
    let begins : length slots ≡ start =
    ap (λ s. length s) row_is ∙ length-row 0 rest kids ∙ ap (λ n. row_length n) (length-map targets (first_space types start)) ∙ sym starts in
    let both : rows ≡ row 0 rest kids ++ rows_after types start rest start types =
    rows_are ∙ ap (λ s. s ++ rows_after types start rest (length slots) types) row_is
    ∙ ap (λ n. row 0 rest kids ++ rows_after types start rest n types) begins in
    all_are ∙ ap (λ r. r ++ (rest, rest) ∷ []) both
    ∙ ap (λ s. closed types targets s rest) starts
    ∙ ap (λ r. closed types targets (types_start vars spares) r) (rests ∙ ap (λ s. s + spaces_in types) starts)
