-- The next number of a store that was read is the one after its cells.
use Rattle.std.proofs.Common.{◌≡◌, ℕ, ◌+◌, List, [], ◌∷◌, Ok, inl, inr, codes, refl, subst}
use Rattle.std.specs.List.{find}
use Rattle.std.specs.Str.{bytes_eq}
use Rattle.std.specs.FinMap.{keys}
use Rattle.store_core.specs.Tables.{TypeEntry, VarEntry}
use Rattle.store_core.specs.Stores.{StoreMap}
use Rattle.store_text.specs.Lines.{lines_of}
use Rattle.store_text.specs.Spelling.{line_of, all_of}
use Rattle.store_text.specs.Saying.{Said, nothing_said}
use Rattle.store_text.specs.Reading.{reading, read_text, read_lines, read_end, after_end, say_line, checked, store_said, next_after, is_misnamed}
use Rattle.store_text.proofs.ReadValues.{cases, result_cases, bool_cases}

end_next : (s : StoreMap) (n : ℕ) (said : Said) (after : List (List ℕ)) → read_end n said after ≡ Ok s → s.next ≡ next_after (keys s.cells)
unfolding read_end after_end checked
end_next s n said (line ∷ lines) e = elim (cases (all_of (λ x. x) said.vars)) [
  | inl none ↦ absurd (let e1 = rw none at e in cc)
  | inr values ↦ absurd (let e1 = rw values.1 at e in cc)
]
end_next s n said [] e = elim (cases (all_of (λ x. x) said.vars)) [
  | inl none ↦ absurd (let e1 = rw none at e in cc)
  | inr values ↦ let e1 = rw values.1 at e in elim (cases (find (is_misnamed (store_said said values.0)) said.mentions)) [
    | inr misnamed ↦ absurd (let e2 = rw misnamed.1 at e1 in cc)
    | inl none ↦ let e2 = rw none at e1 in
        let same : store_said said values.0 ≡ s = cc in
        subst (λ (t : StoreMap). t.next ≡ next_after (keys t.cells)) same refl
  ]
]

lines_next : (types : List TypeEntry) (vars : List VarEntry) (s : StoreMap) (lines : List (List ℕ)) (n : ℕ) (said : Said) →
    read_lines types vars n said lines ≡ Ok s → s.next ≡ next_after (keys s.cells)
unfolding read_lines
lines_next types vars s [] n said e = absurd (cc)
lines_next types vars s (line ∷ lines) n said e = elim (bool_cases (bytes_eq line (codes "end"))) [
  | inr ends ↦ end_next s n said lines (rw ends at e)
  | inl goes_on ↦ let e1 = rw goes_on at e in elim (result_cases (say_line types vars n said (line_of line))) [
    | inl fault ↦ absurd (let e2 = rw fault.1 at e1 in cc)
    | inr more ↦ lines_next types vars s lines (n + 1) more.0 (rw more.1 at e1)
  ]
]

text_next : (types : List TypeEntry) (vars : List VarEntry) (lines : List (List ℕ)) (s : StoreMap) →
    read_text types vars lines ≡ Ok s → s.next ≡ next_after (keys s.cells)
unfolding read_text
text_next types vars [] s e = absurd (cc)
text_next types vars (line ∷ lines) s e = elim (bool_cases (bytes_eq line (codes "store"))) [
  | inl other ↦ absurd (let e1 = rw other at e in cc)
  | inr first ↦ lines_next types vars s lines 2 (nothing_said vars) (rw first at e)
]

pub read_stores_go_on : (types : List TypeEntry) (vars : List VarEntry) (text : List ℕ) (store : StoreMap) →
    reading types vars text ≡ Ok store → store.next ≡ next_after (keys store.cells)
unfolding reading
read_stores_go_on types vars text store e = text_next types vars (lines_of text) store e
