-- The automaton that a step's lines tell.
use Rattle.std.proofs.Common.{◌≡◌, ℕ, Bool, false, List, [], ◌∷◌, ◌++◌, map, slice_get, unwrap_or, ap, sym, ◌∙◌, subst, append_assoc}
use Rattle.std.specs.Prelude.{nat_eq}
use Rattle.std.specs.List.{flat_map, list_any}
use Rattle.gta_theory.specs.Guides.{Spaces}
use Rattle.cert_text.specs.declared.line.NodeLine.{NodeLine}
use Rattle.cert_text.specs.declared.line.Line.{Line}
use Rattle.cert_text.specs.declared.line.Line.TheVariants as line
use Rattle.cert_nodes.specs.declared.spots.Diagrams.{Diagrams}
use Rattle.cert_nodes.specs.Nodes.{IsThere}
use Rattle.cert_tables.specs.declared.table.SpaceTable.{SpaceTable}
use Rattle.cert_tables.specs.declared.table.Table.{Table}
use Rattle.cert_tables.specs.Automata.{table_automaton, AreThere}
use Rattle.cert_steps.specs.Steps.{AutomatonLines, lines_of_rows, automaton_lines, told_table}
use Rattle.cert_steps.specs.Places.{AreAccepting, AreInPlace}
use Rattle.cert_steps.specs.Reading.{ReadsTables, ReadsAccepting, ReadsAutomaton}
use Rattle.cert_steps.proofs.SpacesLemmas.{there-spaces}

five : (a b c d rest : List Line) (x : Line) → (a ++ (b ++ (c ++ (d ++ x ∷ [])))) ++ rest ≡ a ++ (b ++ (c ++ (d ++ x ∷ rest)))
five a b c d rest x =
    append_assoc a (b ++ (c ++ (d ++ x ∷ []))) rest
    ∙ ap (λ (l : List Line). a ++ l) (append_assoc b (c ++ (d ++ x ∷ [])) rest
    ∙ ap (λ (l : List Line). b ++ l) (append_assoc c (d ++ x ∷ []) rest
    ∙ ap (λ (l : List Line). c ++ l) (append_assoc d (x ∷ []) rest)))

-- a table with these spaces and answers
abbrev table_of : List SpaceTable → List Bool → Table
table_of spaces answers = record { in_atoms = false; spaces = spaces; accepting = answers }

told-same : (d : Diagrams) (spaces tables : List SpaceTable) (answers : List Bool) (accepting : List ℕ) → tables ≡ spaces →
    ((q : ℕ) → unwrap_or (slice_get answers q) false ≡ list_any (λ r. nat_eq r q) accepting) →
    table_automaton d (table_of tables answers) ≡ record {
      initial = (table_automaton (record { atoms = []; told = d.told }) (table_of spaces [])).initial;
      step = (table_automaton (record { atoms = []; told = d.told }) (table_of spaces [])).step;
      accepting = λ q. list_any (λ r. nat_eq r q) accepting;
    }
told-same d spaces tables answers accepting same listed = λ i. record {
  initial = (table_automaton d (table_of (same i) answers)).initial;
  step = (table_automaton d (table_of (same i) answers)).step;
  accepting = λ q. listed q i;
}

module _ (g : Spaces) (old : List NodeLine) (new : Diagrams) (lines left rest : List Line) (tables : List SpaceTable) (states : ℕ) (answers : List Bool)
    (reads : ReadsTables g old new.told lines tables states left) (accepts : ReadsAccepting states left answers rest) where
  abbrev the_lines : AutomatonLines
  the_lines = record {
    spaces = reads.spaces;
    lefts = reads.lefts;
    rights = reads.rights;
    roots = (reads.roots).roots;
    accepting = accepts.accepting;
  }

  behind-is : reads.behind ≡ flat_map lines_of_rows the_lines.roots ++ line.Accept the_lines.accepting ∷ rest
  behind-is = (reads.roots).read ∙ ap (λ (l : List Line). flat_map lines_of_rows the_lines.roots ++ l) accepts.read

  is-read : lines ≡ automaton_lines the_lines ++ rest
  is-read =
      (reads.heads).read
      ∙ ap (λ (l : List Line). map line.Space reads.spaces ++ (map line.Left reads.lefts ++ (map line.Right reads.rights ++ l))) behind-is
      ∙ sym (five (map line.Space reads.spaces) (map line.Left reads.lefts) (map line.Right reads.rights) (flat_map lines_of_rows the_lines.roots)
      rest (line.Accept the_lines.accepting))

  told-there : AreThere (record { atoms = []; told = new.told }) (told_table the_lines)
  told-there = record {
    there = λ s c k space row t in_space in_row at.
        subst (λ (ns : List NodeLine). IsThere ns t) (sym (reads.roots).drawn)
        (there-spaces old reads.spaces reads.lefts reads.rights the_lines.roots s c k space row t (reads.roots).fits in_space in_row at);
  }

  are-there : AreThere new (table_of tables answers)
  are-there = record {
    there = λ s c k space row t in_space in_row at.
        told-there.there s c k space row t (ap (λ (ts : List SpaceTable). slice_get ts s) (sym (reads.roots).tables_are) ∙ in_space) in_row at;
  }

  in-place : AreInPlace g old the_lines
  in-place = record {
    spaces = (reads.heads).spaces_fit;
    lefts = (reads.heads).lefts_fit;
    rights = (reads.heads).rights_fit;
    all_roots = (reads.roots).many;
    roots = (reads.roots).fits;
    accepting = subst (λ (n : ℕ). AreAccepting n accepts.accepting) reads.states_are accepts.fits;
  }

  pub automaton-read : ReadsAutomaton g old new lines (table_of tables answers) rest
  automaton-read = record {
    automaton = the_lines;
    read = is-read;
    drawn = (reads.roots).drawn;
    fits = in-place;
    told = told-same new _ tables answers accepts.accepting (reads.roots).tables_are accepts.answers_are;
    there = are-there;
    told_there = told-there;
  }
