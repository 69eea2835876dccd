-- The table of an atom is its automaton.
use Rattle.std.proofs.Common.{◌≡◌, ◌≢◌, ◌⊎◌, inl, inr, ℕ, zero, suc, ◌+◌, ◌-◌, ◌<◌, ◌≤◌, min, Bool, true, false, List, [], ◌∷◌, ◌++◌, length}
use Rattle.std.proofs.Common.{Option, Some, None, unwrap_or, slice_get, refl, ap, ap₂, sym, ◌∙◌, subst, arith}
use Rattle.std.proofs.lemmas.Option.{slice_get_within, slice_get_past}
use Rattle.labels.specs.Labels.{Label}
use Rattle.gta_theory.specs.Guides.{Spaces, IsSpace}
use Rattle.gta_theory.specs.Automata.{Automaton}
use Rattle.gta_theory.proofs.ListedLemmas.{slice_get-push}
use Rattle.ws2s_core.specs.declared.node.Node.{Node}
use Rattle.cert_text.specs.declared.line.Target.{Target}
use Rattle.cert_text.specs.declared.line.Target.TheVariants as target
use Rattle.cert_text.specs.declared.line.NodeLine.{NodeLine}
use Rattle.cert_nodes.specs.declared.spots.Diagrams.{Diagrams}
use Rattle.cert_nodes.specs.Nodes.{state_on, functions_of, IsThere}
use Rattle.cert_tables.specs.declared.table.SpaceTable.{SpaceTable}
use Rattle.cert_tables.specs.declared.table.Table.{Table}
use Rattle.cert_tables.specs.Automata.{class_at, class_by, initial_by, row_at, cell_by, table_automaton, AreThere}
use Rattle.cert_theory.specs.Agreeing.{AgreeIn}
use Rattle.cert_theory.specs.Sections.{atom_states}
use Rattle.cert_parts.specs.Atoms.{atom_automaton, atom_function, accepting_of}
use Rattle.cert_parts.specs.Leading.{LeadsTo, AreCells, AreRows, AreNumbered, IsSpaceOf, AreSpacesOf}
use Rattle.cert_parts.proofs.RowsLemmas.{one-more}
use Rattle.cert_tables.proofs.TestsLemmas.{same-some as some-same}
use Rattle.ws2s_theory.specs.Atoms.{SubState, sub_step, SingleState, single_step, RootState, root_step, SuccState, succ_step}
use Rattle.cert_theory.specs.Atoms.{sub_number, sub_state, single_number, single_state, root_number, root_state, succ_number, succ_state}
use Rattle.std.proofs.lemmas.Bool.{cases_lt}

-- ---- spaces

pub spaces-none : (count : ℕ) (rows : List (List Target)) → AreSpacesOf 0 count rows []
spaces-none count rows = record { all = refl; space = λ s space at. absurd cc }

pub spaces-push : (n count : ℕ) (rows : List (List Target)) (spaces : List SpaceTable) (space : SpaceTable) → AreSpacesOf n count rows spaces →
    IsSpaceOf count rows space → AreSpacesOf (n + 1) count rows (spaces ++ space ∷ [])
spaces-push n count rows spaces space are here = record {
  all = one-more spaces space n are.all;
  space = λ s other at. elim (slice_get-push spaces space other s at) as (λ _. IsSpaceOf count rows other) [
    | inl before ↦ are.space s other before
    | inr is ↦ subst (IsSpaceOf count rows) is.1 here
  ];
}

-- ---- a state past the last one counts as the last one

abbrev clamp : ℕ → ℕ → ℕ
clamp count q = min q (count - 1)

class-clamps : (count : ℕ) (classes : List ℕ) (q : ℕ) → AreNumbered count classes → 0 < count → class_at classes q ≡ clamp count q
class-clamps count classes q are some =
    ap (λ (n : ℕ). unwrap_or (slice_get classes (min q (n - 1))) 0) are.many
    ∙ ap (λ (o : Option ℕ). unwrap_or o 0) (are.number (clamp count q) (omega (arith, some)))

clamp-below : (count q : ℕ) → 0 < count → clamp count q < count
clamp-below count q some = omega (arith, some)

sub-clamp : (p : ℕ) → sub_state (clamp 2 p) ≡ sub_state p
sub-clamp zero = refl
sub-clamp (suc p) = ap sub_state (let e : clamp 2 (suc p) ≡ 1 = omega arith in e)

single-clamp : (p : ℕ) → single_state (clamp 3 p) ≡ single_state p
single-clamp zero = refl
single-clamp (suc zero) = refl
single-clamp (suc (suc p)) = ap single_state (let e : clamp 3 (suc (suc p)) ≡ 2 = omega arith in e)

root-clamp : (p : ℕ) → root_state (clamp 3 p) ≡ root_state p
root-clamp zero = refl
root-clamp (suc zero) = refl
root-clamp (suc (suc p)) = ap root_state (let e : clamp 3 (suc (suc p)) ≡ 2 = omega arith in e)

succ-clamp : (p : ℕ) → succ_state (clamp 4 p) ≡ succ_state p
succ-clamp zero = refl
succ-clamp (suc zero) = refl
succ-clamp (suc (suc zero)) = refl
succ-clamp (suc (suc (suc p))) = ap succ_state (let e : clamp 4 (suc (suc (suc p))) ≡ 3 = omega arith in e)

step-clamps : (atom : Node) (s p q : ℕ) (label : Label) →
    atom_function atom (clamp (atom_states atom) p) (clamp (atom_states atom) q) label ≡ (atom_automaton atom).step s p q label
step-clamps (Node.Sub x y) s p q label =
    ap₂ (λ (a b : SubState). sub_number (sub_step a b (label x.0) (label y.0))) (sub-clamp p) (sub-clamp q)
step-clamps (Node.Single x) s p q label =
    ap₂ (λ (a b : SingleState). single_number (single_step a b (label x.0))) (single-clamp p) (single-clamp q)
step-clamps (Node.Succ0 x y) s p q label =
    ap₂ (λ (a b : SuccState). succ_number (succ_step a b (label x.0) (label y.0))) (succ-clamp p) (succ-clamp q)
step-clamps (Node.Succ1 x y) s p q label =
    ap₂ (λ (a b : SuccState). succ_number (succ_step b a (label x.0) (label y.0))) (succ-clamp p) (succ-clamp q)
step-clamps (Node.Root x) s p q label =
    ap₂ (λ (a b : RootState). root_number (root_step a b (label x.0))) (root-clamp p) (root-clamp q)
step-clamps (Node.And f h) s p q label = refl
step-clamps (Node.Not f) s p q label = refl
step-clamps (Node.Ex2 t f) s p q label = refl

-- another form is 0 in every state
step-zero : (atom : Node) (s p q : ℕ) (label : Label) → atom_states atom ≡ 0 → (atom_automaton atom).step s p q label ≡ 0
step-zero (Node.Sub x y) s p q label none = absurd (omega (arith, none))
step-zero (Node.Single x) s p q label none = absurd (omega (arith, none))
step-zero (Node.Succ0 x y) s p q label none = absurd (omega (arith, none))
step-zero (Node.Succ1 x y) s p q label none = absurd (omega (arith, none))
step-zero (Node.Root x) s p q label none = absurd (omega (arith, none))
step-zero (Node.And f h) s p q label none = refl
step-zero (Node.Not f) s p q label none = refl
step-zero (Node.Ex2 t f) s p q label none = refl

initial-zero : (atom : Node) (s : ℕ) → (atom_automaton atom).initial s ≡ 0
initial-zero (Node.Sub x y) s = refl
initial-zero (Node.Single x) s = refl
initial-zero (Node.Succ0 x y) s = refl
initial-zero (Node.Succ1 x y) s = refl
initial-zero (Node.Root x) s = refl
initial-zero (Node.And f h) s = refl
initial-zero (Node.Not f) s = refl
initial-zero (Node.Ex2 t f) s = refl

accepting-is : (atom : Node) (q : ℕ) → unwrap_or (slice_get (accepting_of atom) q) false ≡ (atom_automaton atom).accepting q
accepting-is (Node.Sub x y) zero = refl
accepting-is (Node.Sub x y) (suc q) = refl
accepting-is (Node.Single x) zero = refl
accepting-is (Node.Single x) (suc zero) = refl
accepting-is (Node.Single x) (suc (suc q)) = refl
accepting-is (Node.Succ0 x y) zero = refl
accepting-is (Node.Succ0 x y) (suc zero) = refl
accepting-is (Node.Succ0 x y) (suc (suc zero)) = refl
accepting-is (Node.Succ0 x y) (suc (suc (suc q))) = refl
accepting-is (Node.Succ1 x y) zero = refl
accepting-is (Node.Succ1 x y) (suc zero) = refl
accepting-is (Node.Succ1 x y) (suc (suc zero)) = refl
accepting-is (Node.Succ1 x y) (suc (suc (suc q))) = refl
accepting-is (Node.Root x) zero = refl
accepting-is (Node.Root x) (suc zero) = refl
accepting-is (Node.Root x) (suc (suc q)) = refl
accepting-is (Node.And f h) q = refl
accepting-is (Node.Not f) q = refl
accepting-is (Node.Ex2 t f) q = refl

-- ---- the whole table

no-space : {X : Type 0} (xs : List X) (n s : ℕ) → length xs ≡ n → s < n → slice_get xs s ≡ None → ⊥
no-space [] n s many below none = omega (arith, many, below)
no-space (x ∷ xs) n zero many below none = absurd cc
no-space (x ∷ xs) n (suc s) many below none =
    no-space xs (length xs) s refl (let h : suc (length xs) ≡ n = many in omega (arith, h, below)) none

module _ (atoms told : List NodeLine) (atom : Node) (rows : List (List Target)) (are : AreRows atoms atom (atom_states atom) rows) where
  -- where two classes lead to
  cell-leads : (c d : ℕ) (label : Label) → c < atom_states atom → d < atom_states atom →
      state_on (functions_of atoms) (row_at (slice_get rows c) d) label ≡ atom_function atom c d label
  cell-leads c d label in_c in_d =
      let row = are.row c in_c in
      let cell = row.cells.cell d in_d in
      ap (λ (o : Option (List Target)). state_on (functions_of atoms) (row_at o d) label) row.at
      ∙ ap (λ (o : Option Target). state_on (functions_of atoms) (unwrap_or o (target.State 0)) label) cell.at
      ∙ cell.leads.leads label

  no-rows : (c d : ℕ) (label : Label) (rs : List (List Target)) → length rs ≡ 0 → state_on (functions_of atoms) (row_at (slice_get rs c) d) label ≡ 0
  no-rows c d label [] none = refl
  no-rows c d label (r ∷ rs) none = absurd (omega (arith, none))

  module _ (space : SpaceTable) (of_rows : IsSpaceOf (atom_states atom) rows space) where
    some-state : (s p q : ℕ) (label : Label) → 0 < atom_states atom →
        state_on (functions_of atoms) (cell_by (Some space) (class_at space.lefts p) (class_at space.rights q)) label
        ≡ (atom_automaton atom).step s p q label
    some-state s p q label some =
        let n = atom_states atom in
        ap (λ (rs : List (List Target)). state_on (functions_of atoms) (row_at (slice_get rs (class_at space.lefts p)) (class_at space.rights q)) label)
        of_rows.roots
        ∙ ap₂ (λ (c d : ℕ). state_on (functions_of atoms) (row_at (slice_get rows c) d) label)
        (class-clamps n space.lefts p of_rows.lefts some) (class-clamps n space.rights q of_rows.rights some)
        ∙ cell-leads (clamp n p) (clamp n q) label (clamp-below n p some) (clamp-below n q some)
        ∙ step-clamps atom s p q label

    no-state : (s p q : ℕ) (label : Label) → atom_states atom ≡ 0 →
        state_on (functions_of atoms) (cell_by (Some space) (class_at space.lefts p) (class_at space.rights q)) label
        ≡ (atom_automaton atom).step s p q label
    no-state s p q label none =
        ap (λ (rs : List (List Target)). state_on (functions_of atoms) (row_at (slice_get rs (class_at space.lefts p)) (class_at space.rights q)) label)
        of_rows.roots
        ∙ no-rows (class_at space.lefts p) (class_at space.rights q) label rows (are.many_rows ∙ none) ∙ sym (step-zero atom s p q label none)

    step-is : (s p q : ℕ) (label : Label) →
        state_on (functions_of atoms) (cell_by (Some space) (class_at space.lefts p) (class_at space.rights q)) label
        ≡ (atom_automaton atom).step s p q label
    step-is s p q label = elim (cases_lt 0 (atom_states atom)) [
      | inl some ↦ some-state s p q label some
      | inr none ↦ no-state s p q label (omega (arith, none))
    ]

  module _ (many : ℕ) (spaces : List SpaceTable) (of_spaces : AreSpacesOf many (atom_states atom) rows spaces) (accepting : List Bool) where
    abbrev the_table : Table
    the_table = record { in_atoms = true; spaces = spaces; accepting = accepting }

    abbrev the_nodes : Diagrams
    the_nodes = record { atoms = atoms; told = told }

    initial-by : (s : ℕ) (found : Option SpaceTable) → slice_get spaces s ≡ found → s < many → initial_by found ≡ (atom_automaton atom).initial s
    initial-by s None at inside = absurd (no-space spaces many s of_spaces.all inside at)
    initial-by s (Some space) at inside = (of_spaces.space s space at).initial ∙ sym (initial-zero atom s)

    step-by : (s p q : ℕ) (label : Label) (found : Option SpaceTable) → slice_get spaces s ≡ found → s < many →
        state_on (functions_of atoms) (cell_by found (class_by found false p) (class_by found true q)) label ≡ (atom_automaton atom).step s p q label
    step-by s p q label None at inside = absurd (no-space spaces many s of_spaces.all inside at)
    step-by s p q label (Some space) at inside = step-is space (of_spaces.space s space at) s p q label

    pub agree : (g : Spaces) → many ≡ length g → accepting ≡ accepting_of atom → AgreeIn g (table_automaton the_nodes the_table) (atom_automaton atom)
    agree g is accepting_is = record {
      initial = λ s there. initial-by s (slice_get spaces s) refl (omega (arith, is, there));
      step = λ s p q label there. step-by s p q label (slice_get spaces s) refl (omega (arith, is, there));
      accepting = λ q. ap (λ (bits : List Bool). unwrap_or (slice_get bits q) false) accepting_is ∙ accepting-is atom q;
    }

    target-there : (c k : ℕ) (row : List Target) (t : Target) → slice_get rows c ≡ Some row → slice_get row k ≡ Some t → IsThere atoms t
    target-there c k row t at_row at =
        let in_rows = slice_get_within rows c row at_row in
        let many = are.many_rows in
        let of_row = are.row c (omega (arith, many, in_rows)) in
        let same : of_row.row ≡ row = some-same of_row.row row (sym of_row.at ∙ at_row) in
        let cells : AreCells atoms atom c (atom_states atom) row = subst (AreCells atoms atom c (atom_states atom)) same of_row.cells in
        let in_row = slice_get_within row k t at in
        let long = cells.many in
        let cell = cells.cell k (omega (arith, long, in_row)) in
        subst (IsThere atoms) (some-same cell.target t (sym cell.at ∙ at)) cell.leads.there

    pub are-there : AreThere the_nodes the_table
    are-there = record {
      there = λ s c k space row t in_space in_row at.
          target-there c k row t (ap (λ (rs : List (List Target)). slice_get rs c) (sym (of_spaces.space s space in_space).roots) ∙ in_row) at;
    }
