-- The numbers of the cells of a store that was read are at most 1,000,000, and so its next number is at most one above.
use Rattle.std.proofs.Common.{◌≡◌, ℕ, ◌+◌, ◌≤◌, ◌==◌, ◌&&◌, nat_le, Bool, true, false, cond, List, [], ◌∷◌, map, Some, None, Ok}
use Rattle.std.proofs.Common.{inl, inr, codes, refl, sym, ap, ◌∙◌, subst, arith}
use Rattle.std.specs.List.{AllByRecursion, find, list_all}
use Rattle.std.specs.Str.{bytes_eq}
use Rattle.std.specs.Ordering.{nat_cmp, match_ordering}
use Rattle.std.specs.declared.cmp.Ordering.{Ordering}
use Rattle.std.specs.declared.cmp.Ordering.TheVariants.{Less, Equal, Greater}
use Rattle.std.specs.FinMap.{FinMap, entries, entries-insert, insert, keys, put, contains_key, empty, len-entries, len-empty}
use Rattle.std.specs.Char.{is_ascii_digit}
use Rattle.std.specs.Str.Parse.{digits_value_after}
use Rattle.std.proofs.lemmas.Bool.Decides.{nat_tests}
use Rattle.std.proofs.lemmas.Cmp.{nat_cmp_total}
use Rattle.std.specs.Prelude.{slice_get, length}
use Rattle.store_core.specs.Tables.{TypeEntry, VarEntry, var_at, var_named}
use Rattle.store_core.specs.Stores.{StoreMap, CellEntry}
use Rattle.store_text.specs.declared.read.spelled.Given.{Given}
use Rattle.store_text.specs.declared.read.spelled.CellLine.{CellLine}
use Rattle.store_text.specs.declared.read.spelled.Line.{Line}
use Rattle.store_text.specs.declared.read.spelled.Line.TheVariants as line
use Rattle.store_text.specs.Lines.{parts_of}
use Rattle.store_text.specs.Spelling.{all_of, number_of, number_after, type_of, field_of, given_of, var_line, cell_in, cell_line, line_in, line_of}
use Rattle.store_text.specs.Saying.{Said, nothing_said, say_var, say_cell, cell_said, value_for, var_holds, is_said}
use Rattle.store_text.specs.Reading.{read_text, read_lines, read_end, after_end, say_line, checked, store_said, next_after, is_misnamed}
use Rattle.store_text.proofs.ReadValues.{cases, result_cases, bool_cases}

-- ---- lists

abbrev pub AreSmall : List ℕ → Type 0
AreSmall = AllByRecursion (λ n. n ≤ 1000000)

next_small : (ns : List ℕ) → AreSmall ns → next_after ns ≤ 1000001
next_small [] all = omega arith
next_small (n ∷ ns) all = let more = next_small ns all.1 in let here = all.0 in omega (arith, more, here)

abbrev firsts : List (ℕ × CellEntry) → List ℕ
firsts es = map (λ e. e.0) es

put_small : (k : ℕ) (x : CellEntry) (es : List (ℕ × CellEntry)) → k ≤ 1000000 → AreSmall (firsts es) → AreSmall (firsts (put nat_cmp k x es))
put_small k x [] low all = (low, tt)
put_small k x (e ∷ es) low all = by (nat_cmp k e.0) (put_small k x es low all.1)
  where
    by : (o : Ordering) → AreSmall (firsts (put nat_cmp k x es)) →
        AreSmall (firsts (match_ordering o ((k, x) ∷ e ∷ es) ((e.0, x) ∷ es) (e ∷ put nat_cmp k x es)))
    by Less rest = (low, all)
    by Equal rest = all
    by Greater rest = (all.0, rest)

abbrev IsSmall : Said → Type 0
IsSmall said = AreSmall (keys said.cells)

insert_small : (cells : FinMap nat_cmp CellEntry) (k : ℕ) (x : CellEntry) → k ≤ 1000000 → AreSmall (keys cells) → AreSmall (keys (insert cells k x))
insert_small cells k x low all =
    subst (λ es. AreSmall (firsts es)) (sym (entries-insert nat_cmp_total cells k x)) (put_small k x (entries cells) low all)

-- ---- lines

-- a word's number
number_small : (word : List ℕ) (n : ℕ) → number_of word ≡ Some n → n ≤ 1000000
unfolding number_of number_after
number_small [] n e = absurd (cc)
number_small (d ∷ ds) n e =
    by (d == 48) (list_all is_ascii_digit (d ∷ ds)) (nat_le (digits_value_after 10 0 (d ∷ ds)) 1000000) refl e
  where
    by : (zero_first digits small : Bool) → nat_le (digits_value_after 10 0 (d ∷ ds)) 1000000 ≡ small →
        cond zero_first None (cond (digits && small) (Some (digits_value_after 10 0 (d ∷ ds))) None) ≡ Some n → n ≤ 1000000
    by true digits small is e = absurd (cc)
    by false false small is e = absurd (cc)
    by false true false is e = absurd (cc)
    by false true true is e =
        let value : digits_value_after 10 0 (d ∷ ds) ≡ n = cc in
        let low : digits_value_after 10 0 (d ∷ ds) ≤ 1000000 = grind (arith, nat_tests) in
        omega (arith, value, low)

-- the number of a cell's line
abbrev LineIsSmall : Line → Type 0
LineIsSmall (line.Var given) = Unit {0}
LineIsSmall (line.Cell cell) = cell.number ≤ 1000000

cell_in_small : (number ty : List ℕ) (fields : List (List ℕ)) (l : Line) → cell_in number ty fields ≡ Some l → LineIsSmall l
unfolding cell_in
cell_in_small number ty fields l e = elim (cases (number_of number)) [
  | inl none ↦ absurd (let e1 = rw none at e in cc)
  | inr n ↦ let e1 = rw n.1 at e in elim (cases (type_of ty)) [
    | inl none ↦ absurd (let e2 = rw none at e1 in cc)
    | inr t ↦ let e2 = rw t.1 at e1 in elim (cases (all_of field_of fields)) [
      | inl none ↦ absurd (let e3 = rw none at e2 in cc)
      | inr fs ↦ let e3 = rw fs.1 at e2 in
          let same : line.Cell (record { number = n.0; ty = t.0.0; variant = t.0.1; fields = fs.0 }) ≡ l = cc in
          subst LineIsSmall same (number_small number n.0 n.1)
    ]
  ]
]

cell_line_small : (words : List (List ℕ)) (l : Line) → cell_line words ≡ Some l → LineIsSmall l
unfolding cell_line
cell_line_small [] l e = absurd (cc)
cell_line_small (number ∷ []) l e = absurd (cc)
cell_line_small (number ∷ ty ∷ fields) l e = cell_in_small number ty fields l e

var_line_small : (words : List (List ℕ)) (l : Line) → var_line words ≡ Some l → LineIsSmall l
unfolding var_line
var_line_small [] l e = absurd (cc)
var_line_small (name ∷ []) l e = absurd (cc)
var_line_small (name ∷ value ∷ more ∷ others) l e = absurd (cc)
var_line_small (name ∷ value ∷ []) l e = elim (cases (given_of name value)) [
  | inl none ↦ absurd (let e1 = rw none at e in cc)
  | inr given ↦ let e1 = rw given.1 at e in
      let same : line.Var given.0 ≡ l = cc in
      subst LineIsSmall same tt
]

line_small : (bytes : List ℕ) (l : Line) → line_of bytes ≡ Some l → LineIsSmall l
unfolding line_of line_in
line_small bytes l e = by (parts_of bytes) e
  where
    by : (words : List (List ℕ)) → line_in words ≡ Some l → LineIsSmall l
    by [] e = absurd (cc)
    by (word ∷ others) e = elim (bool_cases (bytes_eq word (codes "var"))) [
      | inr var ↦ var_line_small others l (rw var at e)
      | inl other ↦ let e1 = rw other at e in elim (bool_cases (bytes_eq word (codes "cell"))) [
        | inr cell ↦ cell_line_small others l (rw cell at e1)
        | inl neither ↦ absurd (let e2 = rw neither at e1 in cc)
      ]
    ]

-- ---- what was said

-- a line `var` leaves the cells
say_var_cells : (vars : List VarEntry) (n : ℕ) (said next : Said) (given : Given) → say_var vars n said given ≡ Ok next → next.cells ≡ said.cells
unfolding say_var
say_var_cells vars n said next given e = elim (cases (var_named vars given.name)) [
  | inl none ↦ absurd (let e1 = rw none at e in cc)
  | inr v ↦ let e1 = rw v.1 at e in elim (cases (var_at vars v.0)) [
    | inl none ↦ absurd (let e2 = rw none at e1 in cc)
    | inr entry ↦ let e2 = rw entry.1 at e1 in elim (bool_cases (is_said (slice_get said.vars v.0.0))) [
      | inr again ↦ absurd (let e3 = rw again at e2 in cc)
      | inl new ↦ let e3 = rw new at e2 in elim (result_cases (value_for (var_holds entry.0.kind) given.value)) [
        | inl fault ↦ absurd (let e4 = rw fault.1 at e3 in cc)
        | inr x ↦ let e4 = rw x.1 at e3 in cc
      ]
    ]
  ]
]

var_small : (vars : List VarEntry) (n : ℕ) (said next : Said) (given : Given) → IsSmall said → say_var vars n said given ≡ Ok next → IsSmall next
var_small vars n said next given small e = subst AreSmall (ap keys (sym (say_var_cells vars n said next given e))) small

cell_small : (types : List TypeEntry) (n : ℕ) (said next : Said) (cell : CellLine) → cell.number ≤ 1000000 → IsSmall said →
    say_cell types n said cell ≡ Ok next → IsSmall next
unfolding say_cell
cell_small types n said next cell low small e = elim (bool_cases (contains_key said.cells cell.number)) [
  | inr there ↦ absurd (let e1 = rw there at e in cc)
  | inl new ↦ let e1 = rw new at e in elim (result_cases (cell_said types n cell)) [
    | inl fault ↦ absurd (let e2 = rw fault.1 at e1 in cc)
    | inr made ↦ let e2 = rw made.1 at e1 in
        let same : insert said.cells cell.number made.0.0 ≡ next.cells = cc in
        subst (λ cells. AreSmall (keys cells)) same (insert_small said.cells cell.number made.0.0 low small)
  ]
]

said_small : (types : List TypeEntry) (vars : List VarEntry) (n : ℕ) (said next : Said) (bytes : List ℕ) → IsSmall said →
    say_line types vars n said (line_of bytes) ≡ Ok next → IsSmall next
unfolding say_line
said_small types vars n said next bytes small e = elim (cases (line_of bytes)) [
  | inl none ↦ absurd (let e1 = rw none at e in cc)
  | inr found ↦ by found.0 (line_small bytes found.0 found.1) (rw found.1 at e)
]
  where
    by : (l : Line) → LineIsSmall l → say_line types vars n said (Some l) ≡ Ok next → IsSmall next
    by (line.Var given) low is = var_small vars n said next given small is
    by (line.Cell cell) low is = cell_small types n said next cell low small is

-- ---- the store

none_listed : (es : List (ℕ × CellEntry)) → length es ≡ 0 → AreSmall (firsts es)
none_listed [] none = tt
none_listed (e ∷ es) none = absurd (omega arith)

nothing_small : (vars : List VarEntry) → IsSmall (nothing_said vars)
nothing_small vars = none_listed (entries (empty {X = CellEntry} {R = nat_cmp}))
    (sym (len-entries (empty {X = CellEntry} {R = nat_cmp})) ∙ len-empty nat_cmp CellEntry)

end_small : (s : StoreMap) (n : ℕ) (said : Said) (after : List (List ℕ)) → IsSmall said → read_end n said after ≡ Ok s → s.next ≤ 1000001
unfolding read_end after_end checked
end_small s n said (line ∷ lines) small e = elim (cases (all_of (λ x. x) said.vars)) [
  | inl none ↦ absurd (let e1 = rw none at e in cc)
  | inr values ↦ absurd (let e1 = rw values.1 at e in cc)
]
end_small s n said [] small e = elim (cases (all_of (λ x. x) said.vars)) [
  | inl none ↦ absurd (let e1 = rw none at e in cc)
  | inr values ↦ let e1 = rw values.1 at e in elim (cases (find (is_misnamed (store_said said values.0)) said.mentions)) [
    | inr misnamed ↦ absurd (let e2 = rw misnamed.1 at e1 in cc)
    | inl none ↦ let e2 = rw none at e1 in
        let same : store_said said values.0 ≡ s = cc in
        subst (λ (t : StoreMap). t.next ≤ 1000001) same (next_small (keys said.cells) small)
  ]
]

lines_small : (types : List TypeEntry) (vars : List VarEntry) (s : StoreMap) (lines : List (List ℕ)) (n : ℕ) (said : Said) → IsSmall said →
    read_lines types vars n said lines ≡ Ok s → s.next ≤ 1000001
unfolding read_lines
lines_small types vars s [] n said small e = absurd (cc)
lines_small types vars s (line ∷ lines) n said small e = elim (bool_cases (bytes_eq line (codes "end"))) [
  | inr ends ↦ end_small s n said lines small (rw ends at e)
  | inl goes_on ↦ let e1 = rw goes_on at e in elim (result_cases (say_line types vars n said (line_of line))) [
    | inl fault ↦ absurd (let e2 = rw fault.1 at e1 in cc)
    | inr more ↦ lines_small types vars s lines (n + 1) more.0 (said_small types vars n said more.0 line small more.1) (rw more.1 at e1)
  ]
]

pub read_small : (types : List TypeEntry) (vars : List VarEntry) (lines : List (List ℕ)) (s : StoreMap) → read_text types vars lines ≡ Ok s →
    s.next ≤ 1000001
unfolding read_text
read_small types vars [] s e = absurd (cc)
read_small types vars (line ∷ lines) s e = elim (bool_cases (bytes_eq line (codes "store"))) [
  | inl other ↦ absurd (let e1 = rw other at e in cc)
  | inr first ↦ lines_small types vars s lines 2 (nothing_said vars) (nothing_small vars) (rw first at e)
]
