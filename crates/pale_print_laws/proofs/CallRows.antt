-- Values, arguments and calls: what their rows make, and of which words.
use Rattle.std.proofs.Common.{true, false, List, [], ◌∷◌, ◌++◌, Option, None, Some, refl, sym, ap, ◌∙◌, subst}
use Rattle.ll1_reader.specs.declared.symbol.Symbol.TheVariants.{Read, Once, Maybe}
use Rattle.pale_syntax.specs.declared.grammar.kind.ProgramKind.TheVariants as kind
use Rattle.pale_syntax.specs.declared.grammar.part.ProgramPart.TheVariants as part
use Rattle.pale_text.specs.declared.place.Pos.{Pos}
use Rattle.pale_text.specs.declared.token.Mark.TheVariants as mark
use Rattle.pale_text.specs.declared.token.Token.{Token}
use Rattle.pale_text.specs.Tokens.{first_of, place_of}
use Rattle.pale_syntax.specs.declared.tree.names.Name.{Name}
use Rattle.pale_syntax.specs.declared.tree.statement.Argument.{Argument}
use Rattle.pale_syntax.specs.declared.tree.statement.Argument.TheVariants as argument
use Rattle.pale_syntax.specs.declared.tree.statement.Value.TheVariants as value
use Rattle.plain_data.specs.Stacks.{top, rest}
use Rattle.pale_syntax.specs.MakingParts.{Parts, nameless, name_of}
use Rattle.pale_syntax.specs.ProgramGrammar.{ProgramSymbol, rows_of, reads, push_name}
use Rattle.pale_print_laws.specs.Words.{◌>>◌, separated, name_words}
use Rattle.pale_print_laws.specs.StatementWords.{argument_words, logic_argument_words}
use Rattle.pale_print_laws.proofs.TokenLemmas.{marked, plain, skipped}
use Rattle.pale_print_laws.proofs.Meaning.{FromTo, NoneUsed}
use Rattle.pale_print_laws.proofs.PlaceFramework.{IsSoundRow, AreSoundRows, no_row, or_row, nth, Goal, Fits, Done}
use Rattle.pale_print_laws.proofs.ListLemmas.{behind_words, grown, settled}

-- ---- arguments

name_row : IsSoundRow part.Argument (nth (rows_of part.Argument) 0)
unfolding rows_of
name_row = record {
  along = λ last tokens parts goal before done one end took.
      (tt, (tt, done (argument.Name (name_of (Some one))) (Some one) end (record { along = λ after e. marked took e })));
}

null_row : IsSoundRow part.Argument (nth (rows_of part.Argument) 1)
unfolding rows_of
null_row = record {
  along = λ last tokens parts goal before done one end took.
      (tt, done (argument.Null (place_of (Some one))) (Some one) end (record { along = λ after e. marked took e }));
}

true_row : IsSoundRow part.Argument (nth (rows_of part.Argument) 2)
unfolding rows_of
true_row = record {
  along = λ last tokens parts goal before done one end took.
      (tt, done (argument.Truth (place_of (Some one)) true) (Some one) end (record { along = λ after e. marked took e }));
}

false_row : IsSoundRow part.Argument (nth (rows_of part.Argument) 3)
unfolding rows_of
false_row = record {
  along = λ last tokens parts goal before done one end took.
      (tt, done (argument.Truth (place_of (Some one)) false) (Some one) end (record { along = λ after e. marked took e }));
}

pub argument_sound : AreSoundRows part.Argument (rows_of part.Argument)
unfolding rows_of
argument_sound = or_row name_row (or_row null_row (or_row true_row (or_row false_row no_row)))

next_argument_row : IsSoundRow part.NextArgument (nth (rows_of part.NextArgument) 0)
unfolding rows_of
next_argument_row = record {
  along = λ last tokens parts goal before done comma here took.
      (tt, λ a behind end words. done a behind end (record { along = λ after e. plain took (words.along after e) }));
}

pub next_argument_sound : AreSoundRows part.NextArgument (rows_of part.NextArgument)
unfolding rows_of
next_argument_sound = or_row next_argument_row no_row

argued_row : IsSoundRow part.Argued (nth (rows_of part.Argued) 0)
unfolding rows_of
argued_row = record {
  along = λ last tokens parts goal before done.
      settled part.Argued (nth (rows_of part.Argued) 0) last tokens (record parts { arguments = [] }) parts goal
      (ap (λ xs. record parts { arguments = xs }) (sym before)) (λ done. (
        tt,
        λ a b middle first. (
          tt,
          λ more behind end others.
              let all = behind_words part.NextArgument mark.Comma argument_words (λ x s t is. is) others in
              subst (λ q. goal behind end q) (sym (grown part.NextArgument (λ l. record parts { arguments = l }) (λ l x. refl) more (a ∷ [])))
              (done (a ∷ more) behind end (record { along = λ after e. first.along _ (all.along after e) })),
        ),
      )) done;
}

pub argued_sound : AreSoundRows part.Argued (rows_of part.Argued)
unfolding rows_of
argued_sound = or_row argued_row no_row

logic_row : IsSoundRow part.LogicArguments (nth (rows_of part.LogicArguments) 0)
unfolding rows_of
logic_row = record {
  along = λ last tokens parts goal before done.
      settled part.LogicArguments (nth (rows_of part.LogicArguments) 0) last tokens (record parts { arguments = [] }) parts goal
      (ap (λ xs. record parts { arguments = xs }) (sym before)) (λ done semicolon here took. (
        tt,
        λ a b middle first. (
          tt,
          λ more behind end others.
              let all = behind_words part.NextArgument mark.Comma argument_words (λ x s t is. is) others in
              subst (λ q. goal behind end q) (sym (grown part.NextArgument (λ l. record parts { arguments = l }) (λ l x. refl) more (a ∷ [])))
              (done (a ∷ more) behind end (record { along = λ after e. plain took (first.along _ (all.along after e)) })),
        ),
      )) done;
}

pub logic_arguments_sound : AreSoundRows part.LogicArguments (rows_of part.LogicArguments)
unfolding rows_of
logic_arguments_sound = or_row logic_row no_row

keep_row : IsSoundRow part.Keep (nth (rows_of part.Keep) 0)
unfolding rows_of
keep_row = record {
  along = λ last tokens parts goal before done keep here took.
      (before, λ b behind end words. (tt, done b behind end (record { along = λ after e. plain took (words.along after e) })));
}

pub keep_sound : AreSoundRows part.Keep (rows_of part.Keep)
unfolding rows_of
keep_sound = or_row keep_row no_row

abbrev closing_row : List ProgramSymbol
closing_row = reads mark.RightParen ∷ Maybe part.Keep ∷ []

-- behind the arguments for logic variables
keep_fits : (last : Option Token) (start here : List Token) (parts : Parts) (goal : Goal) (given logics : List Argument) →
    NoneUsed parts → FromTo (λ after. separated mark.Comma argument_words given >> logic_argument_words logics >> after) start here →
    Done part.Arguments start (record parts { keep = None }) goal →
    Fits closing_row last here (record parts { given = given; arguments = logics; keep = None }) goal
keep_fits last start here parts goal given logics used words done close there took = (
  used,
  done (record { given = given; logics = logics; keep = None }) (Some close) there
      (record { along = λ after e. words.along _ (skipped took tt e) }),
  λ b behind end kept.
      done (record { given = given; logics = logics; keep = Some b }) behind end
      (record { along = λ after e. words.along _ (skipped took tt (kept.along after e)) }),
)

-- behind the arguments for parameters
logics_fit : (last : Option Token) (start here : List Token) (parts : Parts) (goal : Goal) (given : List Argument) →
    NoneUsed parts → FromTo (separated mark.Comma argument_words given) start here →
    Done part.Arguments start (record parts { keep = None }) goal →
    Fits (Maybe part.LogicArguments ∷ closing_row) last here (record parts { given = given; arguments = []; keep = None }) goal
logics_fit last start here parts goal given used words done = (
  refl,
  keep_fits last start here parts goal given [] used (record { along = λ after e. words.along after e }) done,
  λ logics behind end more.
      keep_fits behind start end parts goal given logics used (record { along = λ after e. words.along _ (more.along after e) }) done,
)

given_row : IsSoundRow part.Arguments (nth (rows_of part.Arguments) 0)
unfolding rows_of
given_row = record {
  along = λ last tokens parts goal before done.
      settled part.Arguments (nth (rows_of part.Arguments) 0) last tokens (record parts { arguments = []; keep = None }) parts goal
      (ap (λ xs. record parts { arguments = xs; keep = None }) (sym before.1) ∙ ap (λ k. record parts { keep = k }) (sym before.2)) (λ done. (
        refl,
        (tt, logics_fit last tokens tokens parts goal [] before.0 (record { along = λ after e. e }) done),
        λ given behind end words. (tt, logics_fit behind tokens end parts goal given before.0 words done),
      )) done;
}

pub arguments_sound : AreSoundRows part.Arguments (rows_of part.Arguments)
unfolding rows_of
arguments_sound = or_row given_row no_row

-- ---- results

next_result_row : IsSoundRow part.NextResult (nth (rows_of part.NextResult) 0)
unfolding rows_of
next_result_row = record {
  along = λ last tokens parts goal before done comma here took name end took_name.
      (tt, (tt, done (name_of (Some name)) (Some name) end (record { along = λ after e. plain took (marked took_name e) })));
}

pub next_result_sound : AreSoundRows part.NextResult (rows_of part.NextResult)
unfolding rows_of
next_result_sound = or_row next_result_row no_row

no_results_row : IsSoundRow part.CallRest (nth (rows_of part.CallRest) 0)
unfolding rows_of
no_results_row = record {
  along = λ last tokens parts goal before done opening here took. (
    before.0,
    λ given behind end words.
        done (record { results = None; given = given }) behind end (λ x first name.
        record { along = λ after e. name.along _ (skipped took tt (words.along after e)) }),
  );
}

abbrev callee_row : List ProgramSymbol
callee_row = reads mark.Equals ∷ Read kind.Name ∷ push_name ∷ reads mark.LeftParen ∷ Once part.Arguments ∷ []

results_row : IsSoundRow part.CallRest (nth (rows_of part.CallRest) 1)
unfolding rows_of
results_row = record {
  along = λ last tokens parts goal before done. (
    before.1,
    (
      tt,
      λ more b middle others.
          let all = behind_words part.NextResult mark.Comma name_words (λ x s t is. is) others in
          subst (λ q. Fits callee_row b middle q goal)
          (sym (grown part.NextResult (λ l. record parts { call_results = l; names = rest parts.names }) (λ l x. refl) more
          (parts.call_results ++ top nameless parts.names ∷ [])))
          (λ equals c took one d took_name. (
            tt,
            λ opening f took_open. (
              before.0,
              λ given behind end words.
                  done (record { results = Some (record { more = more; callee = name_of (Some one) }); given = given }) behind end (λ x first name.
                  record {
                    along = λ after e.
                        name.along _ (all.along _ (plain took (marked took_name (skipped took_open tt (words.along after e)))));
                  }),
            ),
          )),
    ),
  );
}

pub call_rest_sound : AreSoundRows part.CallRest (rows_of part.CallRest)
unfolding rows_of
call_rest_sound = or_row no_results_row (or_row results_row no_row)

-- ---- values

new_row : IsSoundRow part.Value (nth (rows_of part.Value) 0)
unfolding rows_of
new_row = record {
  along = λ last tokens parts goal before done one here took.
      let place : Pos = place_of (Some one) in (
        tt,
        λ type there took_type.
            let ty : Name = name_of (Some type) in (
              tt,
              (
                (tt, tt),
                (
                  tt,
                  done (value.New place ty None) (Some type) there
                      (record { words = record { along = λ after e. marked took (marked took_type e) }; first = tt }),
                  λ v behind end variant.
                      done (value.New place ty (Some v)) behind end
                      (record { words = record { along = λ after e. marked took (marked took_type (variant.along after e)) }; first = tt }),
                ),
              ),
            ),
      );
}

condition_row : IsSoundRow part.Value (nth (rows_of part.Value) 1)
unfolding rows_of
condition_row = record {
  along = λ last tokens parts goal before done. (
    tt,
    (
      tt,
      λ c behind end words. (
        (tt, tt),
        done (value.Condition (place_of (first_of tokens)) c) behind end
            (record { words = record { along = λ after e. words.along after e }; first = refl }),
      ),
    ),
  );
}

pub value_sound : AreSoundRows part.Value (rows_of part.Value)
unfolding rows_of
value_sound = or_row new_row (or_row condition_row no_row)

new_variant_row : IsSoundRow part.NewVariant (nth (rows_of part.NewVariant) 0)
unfolding rows_of
new_variant_row = record {
  along = λ last tokens parts goal before done colon here took name end took_name.
      (tt, ((before, tt), done (name_of (Some name)) (Some name) end (record { along = λ after e. plain took (marked took_name e) })));
}

pub new_variant_sound : AreSoundRows part.NewVariant (rows_of part.NewVariant)
unfolding rows_of
new_variant_sound = or_row new_variant_row no_row
