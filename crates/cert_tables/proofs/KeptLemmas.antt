-- Tables keep their automata when nodes come.
use Rattle.std.proofs.Common.{◌≡◌, ℕ, zero, suc, Bool, true, false, if◌then◌else◌, List, ◌++◌, Option, Some, None, unwrap_or, slice_get}
use Rattle.std.proofs.Common.{refl, ap, ◌∙◌, arith}
use Rattle.labels.specs.Labels.{Label}
use Rattle.gta_theory.proofs.ListedLemmas.{meanings-front, length-meanings, slice_get-front}
use Rattle.cert_text.specs.declared.line.Target.{Target}
use Rattle.cert_text.specs.declared.line.Target.TheVariants as target
use Rattle.cert_text.specs.declared.line.NodeLine.{NodeLine}
use Rattle.cert_nodes.specs.declared.spots.Diagrams.{Diagrams}
use Rattle.cert_nodes.specs.Nodes.{state_on, node_function, functions_of, IsThere}
use Rattle.cert_tables.specs.declared.table.SpaceTable.{SpaceTable}
use Rattle.cert_tables.specs.declared.table.Table.{Table}
use Rattle.cert_tables.specs.Automata.{space_in, row_at, cell_by, class_in, table_automaton, AreThere, told_more}

-- a target that is there leads on where it led
state-kept : (nodes more : List NodeLine) (t : Target) (label : Label) → IsThere nodes t →
    state_on (functions_of (nodes ++ more)) t label ≡ state_on (functions_of nodes) t label
state-kept nodes more (target.State q) label there = refl
state-kept nodes more (target.Node zero) label there = refl
state-kept nodes more (target.Node (suc k)) label there =
    let front = meanings-front node_function nodes more in
    let same = length-meanings node_function nodes in
    let inside = there.1 in
    ap (λ (fs : List (Label → ℕ)). unwrap_or (slice_get fs k) (λ l. 0) label) front.2
    ∙ ap (λ (o : Option (Label → ℕ)). unwrap_or o (λ l. 0) label) (slice_get-front (functions_of nodes) front.0 k (omega (arith, same, inside)))

-- the nodes of the atoms stay
in-kept : (b : Bool) (atoms told more : List NodeLine) (t : Target) (label : Label) → IsThere (if b then atoms else told) t →
    state_on (functions_of (if b then atoms else (told ++ more))) t label ≡ state_on (functions_of (if b then atoms else told)) t label
in-kept true atoms told more t label there = refl
in-kept false atoms told more t label there = state-kept told more t label there

module _ (d : Diagrams) (table : Table) (are : AreThere d table) where
  abbrev Inside : Target → Type 0
  Inside t = IsThere (if table.in_atoms then d.atoms else d.told) t

  target-there : (s c k : ℕ) (space : SpaceTable) (row : List Target) (found : Option Target) → slice_get table.spaces s ≡ Some space →
      slice_get space.roots c ≡ Some row → slice_get row k ≡ found → Inside (unwrap_or found (target.State 0))
  target-there s c k space row None in_space in_row at = tt
  target-there s c k space row (Some t) in_space in_row at = are.there s c k space row t in_space in_row at

  row-there : (s c k : ℕ) (space : SpaceTable) (found : Option (List Target)) → slice_get table.spaces s ≡ Some space →
      slice_get space.roots c ≡ found → Inside (row_at found k)
  row-there s c k space None in_space at = tt
  row-there s c k space (Some row) in_space at = target-there s c k space row (slice_get row k) in_space at refl

  cell-there : (s c k : ℕ) (found : Option SpaceTable) → slice_get table.spaces s ≡ found → Inside (cell_by found c k)
  cell-there s c k None at = tt
  cell-there s c k (Some space) at = row-there s c k space (slice_get space.roots c) at refl

  step-kept : (more : List NodeLine) (s p q : ℕ) (label : Label) →
      (table_automaton (told_more d more) table).step s p q label ≡ (table_automaton d table).step s p q label
  step-kept more s p q label =
      in-kept table.in_atoms d.atoms d.told more (cell_by (space_in table s) (class_in table false s p) (class_in table true s q)) label
      (cell-there s (class_in table false s p) (class_in table true s q) (space_in table s) refl)

  pub automaton-kept : (more : List NodeLine) → table_automaton (told_more d more) table ≡ table_automaton d table
  automaton-kept more = λ i. record {
    initial = (table_automaton d table).initial;
    step = λ s p q label. step-kept more s p q label i;
    accepting = (table_automaton d table).accepting;
  }
