-- Tables keep their automata when decision nodes come, of atoms or of the section.
use Rattle.std.proofs.Common.{◌≡◌, ℕ, Bool, true, false, not, if◌then◌else◌, List, [], Option, Some, None, unwrap_or, slice_get}
use Rattle.std.proofs.Common.{refl, ap, sym, ◌∙◌, subst}
use Rattle.labels.specs.Labels.{Label}
use Rattle.gta_theory.specs.Guides.{Spaces}
use Rattle.gta_theory.specs.Automata.{Automaton}
use Rattle.gta_theory.specs.Constructions.{complement}
use Rattle.ws2s_core.specs.Nodes.{Extends}
use Rattle.cert_text.specs.declared.line.Target.{Target}
use Rattle.cert_text.specs.declared.line.Target.TheVariants as target
use Rattle.cert_text.specs.declared.line.NodeLine.{NodeLine}
use Rattle.cert_theory.specs.Agreeing.{AgreeIn}
use Rattle.cert_nodes.specs.declared.spots.Diagrams.{Diagrams}
use Rattle.cert_nodes.specs.Nodes.{state_on, functions_of, IsThere}
use Rattle.cert_tables.specs.declared.table.SpaceTable.{SpaceTable}
use Rattle.cert_tables.specs.declared.table.Table.{Table}
use Rattle.cert_tables.specs.Automata.{space_in, row_at, cell_by, class_in, signed, table_automaton, AreThere}
use Rattle.cert_parts.proofs.DecideLemmas.{state-kept, there-kept, grown-none}
use Rattle.cert_steps.specs.Steps.{AutomatonLines, told_table, told_automaton}
use Rattle.cert_check.specs.Standing.{IsGrown}

pub grown-same : (d : Diagrams) → IsGrown d d
grown-same d = record { atoms = grown-none d.atoms; told = grown-none d.told }

module _ (d e : Diagrams) (grown : IsGrown d e) where
  in-grown : (b : Bool) (t : Target) (label : Label) → IsThere (if b then d.atoms else d.told) t →
      state_on (functions_of (if b then e.atoms else e.told)) t label ≡ state_on (functions_of (if b then d.atoms else d.told)) t label
  in-grown true t label there =
      ap (λ (ns : List NodeLine). state_on (functions_of ns) t label) (grown.atoms).is ∙ state-kept d.atoms (grown.atoms).more t label there
  in-grown false t label there =
      ap (λ (ns : List NodeLine). state_on (functions_of ns) t label) (grown.told).is ∙ state-kept d.told (grown.told).more t label there

  there-in : (b : Bool) (t : Target) → IsThere (if b then d.atoms else d.told) t → IsThere (if b then e.atoms else e.told) t
  there-in true t there = subst (λ (ns : List NodeLine). IsThere ns t) (sym (grown.atoms).is) (there-kept d.atoms (grown.atoms).more t there)
  there-in false t there = subst (λ (ns : List NodeLine). IsThere ns t) (sym (grown.told).is) (there-kept d.told (grown.told).more t there)

  module _ (table : Table) (are : AreThere d table) where
    abbrev Inside : Target → Type 0
    Inside t = IsThere (if table.in_atoms then d.atoms else d.told) t

    target-there : (s c k : ℕ) (space : SpaceTable) (row : List Target) (found : Option Target) → slice_get table.spaces s ≡ Some space →
        slice_get space.roots c ≡ Some row → slice_get row k ≡ found → Inside (unwrap_or found (target.State 0))
    target-there s c k space row None in_space in_row at = tt
    target-there s c k space row (Some t) in_space in_row at = are.there s c k space row t in_space in_row at

    row-there : (s c k : ℕ) (space : SpaceTable) (found : Option (List Target)) → slice_get table.spaces s ≡ Some space →
        slice_get space.roots c ≡ found → Inside (row_at found k)
    row-there s c k space None in_space at = tt
    row-there s c k space (Some row) in_space at = target-there s c k space row (slice_get row k) in_space at refl

    cell-there : (s c k : ℕ) (found : Option SpaceTable) → slice_get table.spaces s ≡ found → Inside (cell_by found c k)
    cell-there s c k None at = tt
    cell-there s c k (Some space) at = row-there s c k space (slice_get space.roots c) at refl

    step-grown : (s p q : ℕ) (label : Label) → (table_automaton e table).step s p q label ≡ (table_automaton d table).step s p q label
    step-grown s p q label =
        in-grown table.in_atoms (cell_by (space_in table s) (class_in table false s p) (class_in table true s q)) label
        (cell-there s (class_in table false s p) (class_in table true s q) (space_in table s) refl)

    pub automaton-grown : table_automaton e table ≡ table_automaton d table
    automaton-grown = λ i. record {
      initial = (table_automaton d table).initial;
      step = λ s p q label. step-grown s p q label i;
      accepting = (table_automaton d table).accepting;
    }

    pub there-grown : AreThere e table
    there-grown = record { there = λ s c k space row t in_space in_row at. there-in table.in_atoms t (are.there s c k space row t in_space in_row at) }

-- the automaton that lines tell
abbrev alone : List NodeLine → Diagrams
alone told = record { atoms = []; told = told }

pub alone-grown : (old new : List NodeLine) → Extends old new → IsGrown (alone old) (alone new)
alone-grown old new grown = record { atoms = grown-none []; told = grown }

pub told-grown : (old new : List NodeLine) (a : AutomatonLines) → Extends old new → AreThere (alone old) (told_table a) →
    told_automaton new a ≡ told_automaton old a
told-grown old new a grown are =
    let same = automaton-grown (alone old) (alone new) (alone-grown old new grown) (told_table a) are in
    λ i. record { initial = (same i).initial; step = (same i).step; accepting = (told_automaton old a).accepting }

-- ---- automata that agree

pub agree-same : (g : Spaces) (A B : Automaton ℕ) → A ≡ B → AgreeIn g A B
agree-same g A B same = subst (AgreeIn g A) same (record {
  initial = λ s there. refl;
  step = λ s p q label there. refl;
  accepting = λ q. refl;
})

pub agree-signed : (g : Spaces) (A B : Automaton ℕ) (n : Bool) → AgreeIn g A B → AgreeIn g (signed n A) (signed n B)
agree-signed g A B n of_A = record {
  initial = of_A.initial;
  step = of_A.step;
  accepting = λ q. ap (λ (b : Bool). if n then not b else b) (of_A.accepting q);
}

not-not : (b : Bool) → b ≡ not (not b)
not-not true = refl
not-not false = refl

turned : (n b : Bool) → (if not n then not b else b) ≡ not (if n then not b else b)
turned true b = not-not b
turned false b = refl

pub agree-complement : (g : Spaces) (A B : Automaton ℕ) (n : Bool) → AgreeIn g (signed n A) B → AgreeIn g (signed (not n) A) (complement B)
agree-complement g A B n of_A = record {
  initial = of_A.initial;
  step = of_A.step;
  accepting = λ q. turned n (A.accepting q) ∙ ap not (of_A.accepting q);
}
