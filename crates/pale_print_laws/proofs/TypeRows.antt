-- Types and predicates: what their rows make, and of which words.
use Rattle.std.proofs.Common.{List, [], ◌∷◌, Option, Some, refl, sym, ap, ◌∙◌, subst}
use Rattle.ll1_reader.specs.declared.symbol.Symbol.TheVariants.{Once, Many}
use Rattle.pale_syntax.specs.declared.grammar.act.TypeAct.TheVariants as types
use Rattle.pale_syntax.specs.declared.grammar.act.PredicateAct.TheVariants as predicates
use Rattle.pale_syntax.specs.declared.grammar.part.ProgramPart.TheVariants as part
use Rattle.pale_text.specs.declared.place.Pos.{Pos}
use Rattle.pale_text.specs.declared.token.Mark.TheVariants as mark
use Rattle.pale_text.specs.declared.token.Token.{Token}
use Rattle.pale_text.specs.Tokens.{place_of}
use Rattle.pale_syntax.specs.declared.tree.names.Name.{Name}
use Rattle.pale_syntax.specs.declared.tree.declaration.FieldForm.TheVariants as form
use Rattle.pale_syntax.specs.declared.tree.declaration.PredicateParameter.{PredicateParameter}
use Rattle.pale_syntax.specs.declared.tree.declaration.PredicateParameter.TheVariants as parameter
use Rattle.pale_syntax.specs.MakingParts.{Parts, name_of}
use Rattle.pale_syntax.specs.ProgramGrammar.{ProgramSymbol, rows_of, reads, type as making, predicate as judging}
use Rattle.pale_print_laws.specs.Words.{◌>>◌, word_of, name_words, separated}
use Rattle.std.specs.Prelude.{codes}
use Rattle.pale_print_laws.specs.DeclarationWords.{field_words, variant_words, predicate_parameter_words}
use Rattle.pale_print_laws.proofs.TokenLemmas.{marked, plain, skipped}
use Rattle.pale_print_laws.proofs.Meaning.{FromTo, NoneUsed}
use Rattle.pale_print_laws.proofs.PlaceFramework.{IsSoundRow, AreSoundRows, no_row, or_row, nth, Goal, Fits, Done}
use Rattle.pale_print_laws.proofs.ListLemmas.{all_words, behind_words, grown, settled}

-- ---- fields

bool_row : IsSoundRow part.Field (nth (rows_of part.Field) 0)
unfolding rows_of
bool_row = record {
  along = λ last tokens parts goal before done one here took name there took_name. (
    tt,
    (
      tt,
      λ close end took_close.
          done (record { name = name_of (Some name); form = form.Bool }) (Some close) end
          (record { along = λ after e. plain took (marked took_name (plain took_close e)) }),
    ),
  );
}

data_row : IsSoundRow part.Field (nth (rows_of part.Field) 1)
unfolding rows_of
data_row = record {
  along = λ last tokens parts goal before done one here took name a took_name. (
    tt,
    λ colon b took_colon type c took_type. (
      tt,
      (
        tt,
        λ close end took_close.
            done (record { name = name_of (Some name); form = form.Data (name_of (Some type)) }) (Some close) end (record {
              along = λ after e. plain took (marked took_name (plain took_colon (marked took_type (plain took_close e))));
            }),
      ),
    ),
  );
}

pointer_row : IsSoundRow part.Field (nth (rows_of part.Field) 2)
unfolding rows_of
pointer_row = record {
  along = λ last tokens parts goal before done one here took name a took_name. (
    tt,
    λ colon b took_colon type c took_type. (
      tt,
      λ opening d took_open.
          let place : Pos = place_of (Some opening) in (
            tt,
            (
              tt,
              λ r f middle route close g took_close. (
                (tt, tt, tt),
                λ ending end took_end.
                    done (record { name = name_of (Some name); form = form.Pointer (name_of (Some type)) place r }) (Some ending) end (record {
                      along = λ after e.
                          plain took (marked took_name (plain took_colon (marked took_type (marked took_open
                          (route.along _ (plain took_close (plain took_end e)))))));
                    }),
              ),
            ),
          ),
    ),
  );
}

pub field_sound : AreSoundRows part.Field (rows_of part.Field)
unfolding rows_of
field_sound = or_row bool_row (or_row data_row (or_row pointer_row no_row))

-- ---- types

abbrev ending_variant : List ProgramSymbol
ending_variant = reads mark.RightBrace ∷ making types.AddVariant ∷ []

variant_row : IsSoundRow part.Variant (nth (rows_of part.Variant) 0)
unfolding rows_of
variant_row = record {
  along = λ last tokens parts goal before done.
      settled part.Variant (nth (rows_of part.Variant) 0) last tokens (record parts { fields = [] }) parts goal
      (ap (λ fs. record parts { fields = fs }) (sym before)) (λ done bar a took_bar name b took_name. (
        tt,
        λ opening c took_open. (
          tt,
          λ fs d middle several.
              let x : Name = name_of (Some name) in
              let all = all_words part.Field field_words (λ f s t is. is) several in
              subst (λ q. Fits ending_variant d middle q goal)
              (sym (grown part.Field (λ l. record parts { names = x ∷ parts.names; fields = l }) (λ l f. refl) fs []))
              (λ close end took_close. (
                tt,
                done (record { name = x; fields = fs }) (Some close) end (record {
                  along = λ after e. plain took_bar (marked took_name (plain took_open (all.along _ (plain took_close e))));
                }),
              )),
        ),
      )) done;
}

pub variant_sound : AreSoundRows part.Variant (rows_of part.Variant)
unfolding rows_of
variant_sound = or_row variant_row no_row

abbrev ending_type : List ProgramSymbol
ending_type = making types.AddType ∷ []

abbrev behind_fields : List ProgramSymbol
behind_fields = making types.EndCommon ∷ reads mark.RightBrace ∷ Many part.Variant ∷ ending_type

type_row : IsSoundRow part.«Type» (nth (rows_of part.«Type») 0)
unfolding rows_of
type_row = record {
  along = λ last tokens parts goal before done.
      let p : Parts = record parts { fields = []; variants = [] } in
      settled part.«Type» (nth (rows_of part.«Type») 0) last tokens p parts goal
      (ap (λ fs. record parts { fields = fs; variants = [] }) (sym before.0) ∙ ap (λ vs. record parts { variants = vs }) (sym before.1))
      (λ done one a took name b took_name. (
        tt,
        λ equals c took_equals opening d took_open. (
          tt,
          λ fs f middle fields.
              let x : Name = name_of (Some name) in
              let all = all_words part.Field field_words (λ f s t is. is) fields in
              subst (λ q. Fits behind_fields f middle q goal)
              (sym (grown part.Field (λ l. record parts { names = x ∷ parts.names; fields = l; variants = [] }) (λ l f. refl) fs [])) (
                tt,
                λ close g took_close. (
                  refl,
                  λ vs behind end variants.
                      let others = behind_words part.Variant mark.Bar variant_words (λ v s t is. is) variants in
                      subst (λ q. Fits ending_type behind end q goal)
                      (sym (grown part.Variant (λ l. record parts { names = x ∷ parts.names; common = fs; fields = []; variants = l })
                      (λ l v. refl) vs [])) (
                        tt,
                        done (record { name = x; fields = fs; variants = vs }) behind end (record {
                          along = λ after e.
                              plain took (marked took_name (plain took_equals (plain took_open (all.along _ (plain took_close
                              (others.along after e))))));
                        }),
                      ),
                ),
              ),
        ),
      )) done;
}

pub type_sound : AreSoundRows part.«Type» (rows_of part.«Type»)
unfolding rows_of
type_sound = or_row type_row no_row

-- ---- predicates

cell_row : IsSoundRow part.PredicateParameter (nth (rows_of part.PredicateParameter) 0)
unfolding rows_of
cell_row = record {
  along = λ last tokens parts goal before done name a took_name. (
    tt,
    λ colon b took_colon type end took_type. (
      tt,
      (
        tt,
        done (parameter.Cell (name_of (Some name)) (name_of (Some type))) (Some type) end
            (record { along = λ after e. marked took_name (plain took_colon (marked took_type e)) }),
      ),
    ),
  );
}

set_row : IsSoundRow part.PredicateParameter (nth (rows_of part.PredicateParameter) 1)
unfolding rows_of
set_row = record {
  along = λ last tokens parts goal before done one here took name a took_name. (
    tt,
    λ colon b took_colon type end took_type. (
      tt,
      (
        tt,
        done (parameter.Set (name_of (Some name)) (name_of (Some type))) (Some type) end
            (record { along = λ after e. plain took (marked took_name (plain took_colon (marked took_type e))) }),
      ),
    ),
  );
}

bool_parameter_row : IsSoundRow part.PredicateParameter (nth (rows_of part.PredicateParameter) 2)
unfolding rows_of
bool_parameter_row = record {
  along = λ last tokens parts goal before done one here took name end took_name. (
    tt,
    (tt, done (parameter.Bool (name_of (Some name))) (Some name) end (record { along = λ after e. plain took (marked took_name e) })),
  );
}

pub predicate_parameter_sound : AreSoundRows part.PredicateParameter (rows_of part.PredicateParameter)
unfolding rows_of
predicate_parameter_sound = or_row cell_row (or_row set_row (or_row bool_parameter_row no_row))

next_predicate_parameter_row : IsSoundRow part.NextPredicateParameter (nth (rows_of part.NextPredicateParameter) 0)
unfolding rows_of
next_predicate_parameter_row = record {
  along = λ last tokens parts goal before done comma here took.
      (tt, λ p behind end words. done p behind end (record { along = λ after e. plain took (words.along after e) }));
}

pub next_predicate_parameter_sound : AreSoundRows part.NextPredicateParameter (rows_of part.NextPredicateParameter)
unfolding rows_of
next_predicate_parameter_sound = or_row next_predicate_parameter_row no_row

predicate_parameters_row : IsSoundRow part.PredicateParameters (nth (rows_of part.PredicateParameters) 0)
unfolding rows_of
predicate_parameters_row = record {
  along = λ last tokens parts goal before done.
      settled part.PredicateParameters (nth (rows_of part.PredicateParameters) 0) last tokens (record parts { predicate_parameters = [] }) parts goal
      (ap (λ ps. record parts { predicate_parameters = ps }) (sym before)) (λ done. (
        tt,
        λ p b middle first. (
          tt,
          λ ps behind end others.
              let all = behind_words part.NextPredicateParameter mark.Comma predicate_parameter_words (λ x s t is. is) others in
              subst (λ q. goal behind end q)
              (sym (grown part.NextPredicateParameter (λ l. record parts { predicate_parameters = l }) (λ l x. refl) ps (p ∷ [])))
              (done (p ∷ ps) behind end (record { along = λ after e. first.along _ (all.along after e) })),
        ),
      )) done;
}

pub predicate_parameters_sound : AreSoundRows part.PredicateParameters (rows_of part.PredicateParameters)
unfolding rows_of
predicate_parameters_sound = or_row predicate_parameters_row no_row

abbrev behind_parameters : List ProgramSymbol
behind_parameters = reads mark.RightParen ∷ reads mark.Equals ∷ Once part.Bracketed ∷ reads mark.Semicolon ∷ judging predicates.AddPredicate ∷ []

-- behind the parameters of a predicate
body_fits : (last : Option Token) (start here : List Token) (parts : Parts) (goal : Goal) (x : Name) (ps : List PredicateParameter) → NoneUsed parts →
    FromTo (λ after. word_of (codes "pred") >> name_words x >> separated mark.Comma predicate_parameter_words ps >> after) start here →
    Done part.Predicate start parts goal →
    Fits behind_parameters last here (record parts { names = x ∷ parts.names; predicate_parameters = ps }) goal
body_fits last start here parts goal x ps used words done = λ close a took_close equals b took_equals. (
  used,
  λ body c middle bracketed ending end took_end. (
    (tt, tt),
    done (record { name = x; parameters = ps; body = body }) (Some ending) end (record {
      along = λ after e. words.along _ (skipped took_close tt (plain took_equals (bracketed.along _ (plain took_end e))));
    }),
  ),
)

predicate_row : IsSoundRow part.Predicate (nth (rows_of part.Predicate) 0)
unfolding rows_of
predicate_row = record {
  along = λ last tokens parts goal before done.
      let p : Parts = record parts { predicate_parameters = [] } in
      settled part.Predicate (nth (rows_of part.Predicate) 0) last tokens p parts goal
      (ap (λ ps. record parts { predicate_parameters = ps }) (sym before.1)) (λ done one a took name b took_name.
      let x : Name = name_of (Some name) in (
        tt,
        λ opening c took_open. (
          refl,
          body_fits (Some opening) tokens c p goal x [] before.0
              (record { along = λ after e. plain took (marked took_name (skipped took_open tt e)) }) done,
          λ ps behind end words.
              body_fits behind tokens end p goal x ps before.0
              (record { along = λ after e. plain took (marked took_name (skipped took_open tt (words.along after e))) }) done,
        ),
      )) done;
}

pub predicate_sound : AreSoundRows part.Predicate (rows_of part.Predicate)
unfolding rows_of
predicate_sound = or_row predicate_row no_row
