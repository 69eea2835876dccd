-- Names, paths and terms that a reading makes are free of reserved words, and spelled in no more tokens than they were read from.
use Rattle.std.proofs.Common.{◌+◌, ◌≤◌, length, arith, ◌≡◌, ℕ, List, [], ◌∷◌, ◌++◌, Some, refl, subst}
use Rattle.pale_syntax.specs.declared.grammar.part.ProgramPart.TheVariants as part
use Rattle.pale_text.specs.declared.token.Token.{Token}
use Rattle.pale_syntax.specs.declared.tree.names.Name.{Name}
use Rattle.pale_syntax.specs.declared.tree.names.Path.{Path}
use Rattle.pale_syntax.specs.declared.tree.names.Term.TheVariants as term
use Rattle.pale_syntax.specs.MakingParts.{Parts, name_of}
use Rattle.pale_text.specs.Tokens.{place_of}
use Rattle.pale_syntax.specs.MakingWords.{path_at, extended}
use Rattle.pale_syntax.specs.ProgramGrammar.{rows_of}
use Rattle.pale_syntax.specs.FreeNames.{IsFree, AreFree, IsFreePath}
use Rattle.pale_print_laws.proofs.NameSizes.{path_size, extended_size, one_less}
use Rattle.pale_print_laws.proofs.FromRows.{Several, no_more, one_more, puts}
use Rattle.pale_print_laws.proofs.FromMade.{PathMade}
use Rattle.pale_print_laws.proofs.FromMeaning.{program_meaning}
use Rattle.pale_print_laws.proofs.FromParts.{IsSoundRow, AreSoundRows, no_row, or_row, nth, free_name}

pub one_more_free : (xs : List Name) (x : Name) → AreFree xs → IsFree x → AreFree (xs ++ x ∷ [])
one_more_free [] x free is = (is, tt)
one_more_free (y ∷ xs) x free is = (free.0, one_more_free xs x free.1 is)

pub extended_free : (p : Path) (f : Name) → IsFreePath p → IsFree f → IsFreePath (extended p f)
extended_free p f free is = record { base = free.base; fields = one_more_free p.fields f free.fields is }

-- the steps of a path go to the end of the path on top
pub steps_made : (room : ℕ) (start end : List Token) (steps : Several program_meaning part.PathStep room start end) (p : Path) → IsFreePath p →
    (first : List Token) → path_size p + length start ≤ length first → (parts : Parts) (below : List Path) →
    (made : PathMade 0 first end) × (puts program_meaning part.PathStep room start end steps
    (record parts { paths = p ∷ below }) ≡ record parts { paths = made.path ∷ below })
steps_made room start end (no_more _ stops) p free first short parts below = (record { path = p; free = free; short = omega arith }, refl)
steps_made room start end (one_more _ middle _ one others) p free first short parts below =
    let e = extended_size p one.name in
    let l = one.short in
    steps_made room middle end others (extended p one.name) (extended_free p one.name free one.free) first (omega arith) parts below

path_row : IsSoundRow part.Path (nth (rows_of part.Path) 0)
unfolding rows_of
path_row = record {
  along = λ room last tokens parts goal g before.
      let more = g.4 tt in
      let x : Name = name_of (Some g.0) in
      let steps =
      steps_made room g.1 more.1 more.2 (path_at x) (record { base = free_name g.0 g.3; fields = tt }) tokens
      (omega (arith, one_less g.2)) parts parts.paths in
      (more.0, more.1, steps.0, subst (λ q. goal more.0 more.1 q) steps.1 more.3);
}

pub path_sound : AreSoundRows part.Path (rows_of part.Path)
unfolding rows_of
path_sound = or_row path_row no_row

step_row : IsSoundRow part.PathStep (nth (rows_of part.PathStep) 0)
unfolding rows_of
step_row = record {
  along = λ room last tokens parts goal g before.
      let name = g.4 in (
        Some name.0,
        name.1,
        record { name = name_of (Some name.0); free = free_name name.0 name.3; short = omega (arith, one_less g.2, one_less name.2) },
        name.4,
      );
}

pub path_step_sound : AreSoundRows part.PathStep (rows_of part.PathStep)
unfolding rows_of
path_step_sound = or_row step_row no_row

null_row : IsSoundRow part.Term (nth (rows_of part.Term) 0)
unfolding rows_of
null_row = record {
  along = λ room last tokens parts goal g before.
      (Some g.0, g.1, record { term = term.Null (place_of (Some g.0)); free = tt; short = omega (arith, one_less g.2) }, g.4);
}

path_term_row : IsSoundRow part.Term (nth (rows_of part.Term) 1)
unfolding rows_of
path_term_row = record {
  along = λ room last tokens parts goal g before.
      let more = g tt in
      (more.0, more.1, record { term = term.Path more.2.path; free = more.2.free; short = omega (arith, more.2.short) }, more.3);
}

pub term_sound : AreSoundRows part.Term (rows_of part.Term)
unfolding rows_of
term_sound = or_row null_row (or_row path_term_row no_row)
