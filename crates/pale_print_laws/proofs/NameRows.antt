-- Names, paths and terms: what their rows make, and of which words.
use Rattle.std.proofs.Common.{[], ◌∷◌, Some, refl, sym, subst}
use Rattle.pale_syntax.specs.declared.grammar.part.ProgramPart.TheVariants as part
use Rattle.pale_text.specs.declared.token.Mark.TheVariants as mark
use Rattle.pale_text.specs.Tokens.{place_of}
use Rattle.pale_syntax.specs.declared.tree.names.Name.{Name}
use Rattle.pale_syntax.specs.declared.tree.names.Path.{Path}
use Rattle.pale_syntax.specs.declared.tree.names.Term.TheVariants as term
use Rattle.pale_syntax.specs.MakingParts.{name_of}
use Rattle.pale_syntax.specs.ProgramGrammar.{rows_of}
use Rattle.pale_print_laws.specs.Words.{name_words}
use Rattle.pale_print_laws.proofs.TokenLemmas.{marked, plain}
use Rattle.pale_print_laws.proofs.PlaceFramework.{IsSoundRow, AreSoundRows, no_row, or_row, nth}
use Rattle.pale_print_laws.proofs.ListLemmas.{behind_words, grown}

path_row : IsSoundRow part.Path (nth (rows_of part.Path) 0)
unfolding rows_of
path_row = record {
  along = λ last tokens parts goal before done one others took.
      let x : Name = name_of (Some one) in (
        tt,
        (
          tt,
          (
            tt,
            λ fs behind end steps.
                let all = behind_words part.PathStep mark.Dot name_words (λ f a b is. is) steps in
                let p : Path = record { base = x; fields = fs } in
                subst (λ q. goal behind end q)
                (sym (grown part.PathStep (λ l. record parts { paths = record { base = x; fields = l } ∷ parts.paths }) (λ l f. refl) fs []))
                (done p behind end (record { along = λ after e. marked took (all.along after e) })),
          ),
        ),
      );
}

pub path_sound : AreSoundRows part.Path (rows_of part.Path)
unfolding rows_of
path_sound = or_row path_row no_row

step_row : IsSoundRow part.PathStep (nth (rows_of part.PathStep) 0)
unfolding rows_of
step_row = record {
  along = λ last tokens parts goal before done dot others took name end took_name. (
    tt,
    ((before, tt), done (name_of (Some name)) (Some name) end (record { along = λ after e. plain took (marked took_name e) })),
  );
}

pub path_step_sound : AreSoundRows part.PathStep (rows_of part.PathStep)
unfolding rows_of
path_step_sound = or_row step_row no_row

null_row : IsSoundRow part.Term (nth (rows_of part.Term) 0)
unfolding rows_of
null_row = record {
  along = λ last tokens parts goal before done one others took.
      (tt, done (term.Null (place_of (Some one))) (Some one) others (record { along = λ after e. marked took e }));
}

path_term_row : IsSoundRow part.Term (nth (rows_of part.Term) 1)
unfolding rows_of
path_term_row = record {
  along = λ last tokens parts goal before done. (
    tt,
    λ p behind end words. (tt, done (term.Path p) behind end (record { along = λ after e. words.along after e })),
  );
}

pub term_sound : AreSoundRows part.Term (rows_of part.Term)
unfolding rows_of
term_sound = or_row null_row (or_row path_term_row no_row)
