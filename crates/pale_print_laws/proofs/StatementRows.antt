-- Blocks and statements: what their rows make, and of which words.
use Rattle.std.proofs.Common.{◌≡◌, List, [], ◌∷◌, Option, None, Some, refl, sym, ap, ◌∙◌, subst}
use Rattle.std.specs.Prelude.{codes}
use Rattle.pale_syntax.specs.declared.grammar.act.CallAct.TheVariants as calls
use Rattle.pale_syntax.specs.declared.grammar.part.ProgramPart.TheVariants as part
use Rattle.pale_text.specs.declared.place.Pos.{Pos}
use Rattle.pale_text.specs.declared.token.Mark.TheVariants as mark
use Rattle.pale_text.specs.declared.token.Token.{Token}
use Rattle.pale_text.specs.Tokens.{place_of}
use Rattle.pale_syntax.specs.declared.tree.names.Name.{Name}
use Rattle.pale_syntax.specs.declared.tree.statement.Call.{Call}
use Rattle.pale_syntax.specs.declared.tree.statement.Statement.{roll-Statement}
use Rattle.pale_syntax.specs.declared.tree.statement.Statement.TheVariants as statement
use Rattle.pale_syntax.specs.declared.tree.statement.Statement.TheOpen.{Statement-F}
use denote.Hole.Carrier.{roll}
use Rattle.pale_syntax.specs.MakingParts.{Parts, name_of}
use Rattle.pale_syntax.specs.ProgramGrammar.{ProgramSymbol, rows_of, reads, call}
use Rattle.pale_print_laws.specs.Words.{◌>>◌, word_at}
use Rattle.pale_print_laws.specs.StatementWords.{given_words, value_place}
use Rattle.pale_print_laws.specs.Operands.{HasOne}
use Rattle.pale_print_laws.proofs.TokenLemmas.{noted, marked, plain, skipped}
use Rattle.pale_print_laws.proofs.Meaning.{FromTo, Given, Results, called_words, NoCall, put_given, put_results}
use Rattle.pale_print_laws.proofs.PlaceFramework.{IsSoundRow, AreSoundRows, no_row, or_row, nth, Goal, Fits, Done}
use Rattle.pale_print_laws.proofs.ListLemmas.{grown, settled}
use Rattle.pale_print_laws.proofs.StatementForms.{statement_made, statements_words}

-- ---- blocks

block_row : IsSoundRow part.Block (nth (rows_of part.Block) 0)
unfolding rows_of
block_row = record {
  along = λ last tokens parts goal before done opening here took. (
    tt,
    (
      (before, tt),
      λ ss b middle several close end took_close.
          let all = statements_words several in
          subst (λ q. goal (Some close) end q)
          (sym (grown part.Statement (λ l. record parts { blocks = l ∷ parts.blocks }) (λ l s. refl) ss []))
          (done ss (Some close) end (record { along = λ after e. plain took (all.along _ (plain took_close e)) })),
    ),
  );
}

pub block_sound : AreSoundRows part.Block (rows_of part.Block)
unfolding rows_of
block_sound = or_row block_row no_row

else_row : IsSoundRow part.Else (nth (rows_of part.Else) 0)
unfolding rows_of
else_row = record {
  along = λ last tokens parts goal before done one here took. (
    before.0,
    λ ss behind end block. ((tt, before.1), done ss behind end (record { along = λ after e. plain took (block.along after e) })),
  );
}

pub else_sound : AreSoundRows part.Else (rows_of part.Else)
unfolding rows_of
else_sound = or_row else_row no_row

-- ---- statements

skip_row : IsSoundRow part.Statement (nth (rows_of part.Statement) 0)
unfolding rows_of roll-Statement roll
skip_row = record {
  along = λ last tokens parts goal before done one here took.
      let place : Pos = place_of (Some one) in (
        tt,
        (
          (before.1, tt),
          λ close end took_close.
              done (statement.Skip place) (Some close) end
              (statement_made (Statement-F.Skip place) (record { along = λ after e. marked took (plain took_close e) })),
        ),
      );
}

if_row : IsSoundRow part.Statement (nth (rows_of part.Statement) 1)
unfolding rows_of roll-Statement roll
if_row = record {
  along = λ last tokens parts goal before done one here took.
      let place : Pos = place_of (Some one) in (
        tt,
        λ opening a took_open. (
          tt,
          λ c b middle condition close d took_close. (
            before.0,
            λ then f there block. (
              tt,
              (
                (before.0, tt),
                (
                  (before.1, tt, tt, tt),
                  done (statement.If place c then None) f there
                      (statement_made (Statement-F.If place c then None) (record {
                        along = λ after e. marked took (skipped took_open tt (condition.along _ (skipped took_close tt (block.along after e))));
                      })),
                ),
                λ otherwise behind end other. (
                  (before.1, tt, tt, tt),
                  done (statement.If place c then (Some otherwise)) behind end
                      (statement_made (Statement-F.If place c then (Some otherwise)) (record {
                        along = λ after e.
                            marked took (skipped took_open tt (condition.along _ (skipped took_close tt (block.along _ (other.along after e)))));
                      })),
                ),
              ),
            ),
          ),
        ),
      );
}

while_row : IsSoundRow part.Statement (nth (rows_of part.Statement) 2)
unfolding rows_of roll-Statement roll
while_row = record {
  along = λ last tokens parts goal before done one here took.
      let place : Pos = place_of (Some one) in (
        tt,
        λ opening a took_open. (
          tt,
          λ c b middle condition close d took_close. (
            before.0.0,
            λ i f there invariant. (
              before.0,
              λ ss behind end block. (
                (before.1, tt, tt, tt),
                done (statement.While place c i ss) behind end
                    (statement_made (Statement-F.While place c i ss) (record {
                      along = λ after e.
                          marked took (skipped took_open tt (condition.along _ (skipped took_close tt (invariant.along _ (block.along after e)))));
                    })),
              ),
            ),
          ),
        ),
      );
}

split_row : IsSoundRow part.Statement (nth (rows_of part.Statement) 3)
unfolding rows_of roll-Statement roll
split_row = record {
  along = λ last tokens parts goal before done one here took.
      let place : Pos = place_of (Some one) in (
        tt,
        (
          before.0.0,
          λ b c middle words close end took_close. (
            (before.1, tt, tt),
            done (statement.Split place b) (Some close) end
                (statement_made (Statement-F.Split place b)
                (record { along = λ after e. marked took (words.along _ (plain took_close e)) })),
          ),
        ),
      );
}

assert_row : IsSoundRow part.Statement (nth (rows_of part.Statement) 4)
unfolding rows_of roll-Statement roll
assert_row = record {
  along = λ last tokens parts goal before done one here took.
      let place : Pos = place_of (Some one) in (
        tt,
        (
          before.0.0,
          λ b c middle words close end took_close. (
            (before.1, tt, tt),
            done (statement.Assert place b) (Some close) end
                (statement_made (Statement-F.Assert place b)
                (record { along = λ after e. marked took (words.along _ (plain took_close e)) })),
          ),
        ),
      );
}

free_row : IsSoundRow part.Statement (nth (rows_of part.Statement) 5)
unfolding rows_of roll-Statement roll
free_row = record {
  along = λ last tokens parts goal before done one here took.
      let place : Pos = place_of (Some one) in (
        tt,
        λ name there took_name.
            let x : Name = name_of (Some name) in (
              tt,
              λ close end took_close. (
                (before.1, tt, tt),
                done (statement.Free place x) (Some close) end
                    (statement_made (Statement-F.Free place x)
                    (record { along = λ after e. marked took (marked took_name (plain took_close e)) })),
              ),
            ),
      );
}

-- nothing of a call is under way
quiet : (parts : Parts) → NoCall parts → record parts { call_results = []; given = []; arguments = []; keep = None } ≡ parts
quiet parts none =
    ap (λ r. record parts { call_results = r; given = []; arguments = []; keep = None }) (sym none.1) ∙
    (ap (λ g. record parts { given = g; arguments = []; keep = None }) (sym none.2) ∙
    (ap (λ a. record parts { arguments = a; keep = None }) (sym none.3) ∙ ap (λ k. record parts { keep = k }) (sym none.4)))

-- the call of the procedure of this name, or with this name as its first result
abbrev made_call : Pos → Name → Option Results → Given → Call
made_call place x None g =
    record { place = place; results = []; callee = x; arguments = g.given; logics = g.logics; keep = g.keep }
made_call place x (Some r) g =
    record { place = place; results = x ∷ r.more; callee = r.callee; arguments = g.given; logics = g.logics; keep = g.keep }

abbrev ending_row : List ProgramSymbol
ending_row = reads mark.Semicolon ∷ call calls.MakeCall ∷ []

-- behind what is given to a call
call_fits : (last : Option Token) (start here : List Token) (parts : Parts) (goal : Goal) (place : Pos) (x : Name)
    (results : Option Results) (given : Given) →
    NoCall parts × HasOne parts.blocks →
    FromTo (λ after. word_at (codes "call") place >> called_words x results >> given_words given.given given.logics given.keep >> after) start here →
    Done part.Statement start (record parts { call_results = []; given = []; arguments = []; keep = None }) goal →
    Fits ending_row last here (put_given given (put_results results
    (record parts { call_results = []; given = []; arguments = []; keep = None; places = place ∷ parts.places; names = x ∷ parts.names }))) goal
unfolding roll-Statement roll
call_fits last start here parts goal place x None given before words done = λ close end took. (
  (before.1, tt, tt),
  done (statement.Call (made_call place x None given)) (Some close) end
      (statement_made (Statement-F.Call (made_call place x None given)) (record { along = λ after e. words.along _ (plain took e) })),
)
call_fits last start here parts goal place x (Some r) given before words done = λ close end took. (
  (before.1, tt, tt),
  done (statement.Call (made_call place x (Some r) given)) (Some close) end
      (statement_made (Statement-F.Call (made_call place x (Some r) given)) (record { along = λ after e. words.along _ (plain took e) })),
)

call_row : IsSoundRow part.Statement (nth (rows_of part.Statement) 6)
unfolding rows_of
call_row = record {
  along = λ last tokens parts goal before done.
      let p : Parts = record parts { call_results = []; given = []; arguments = []; keep = None } in
      settled part.Statement (nth (rows_of part.Statement) 6) last tokens p parts goal (quiet parts before.0) (λ done one here took.
      let place : Pos = place_of (Some one) in (
        tt,
        λ name there took_name.
            let x : Name = name_of (Some name) in (
              tt,
              (
                ((before.0.0, refl, refl), tt),
                λ rest behind end words.
                    let called = words x here (record { along = λ after e. marked took_name e }) in
                    call_fits behind tokens end parts goal place x rest.results rest.given before
                    (record { along = λ after e. marked took (called.along after e) }) done,
              ),
            ),
      )) done;
}

assign_row : IsSoundRow part.Statement (nth (rows_of part.Statement) 7)
unfolding rows_of roll-Statement roll
assign_row = record {
  along = λ last tokens parts goal before done. (
    tt,
    λ p b middle path op here took.
        let place : Pos = place_of (Some op) in (
          tt,
          (
            tt,
            λ v c there value close end took_close. (
              (before.1, tt, tt, tt),
              done (statement.Assign p place v) (Some close) end
                  (statement_made (Statement-F.Assign p place v) (record {
                    along = λ after e. path.along _ (noted took (value_place v) value.first (value.words.along _ (plain took_close e)));
                  })),
            ),
          ),
        ),
  );
}

pub statement_sound : AreSoundRows part.Statement (rows_of part.Statement)
unfolding rows_of
statement_sound =
    or_row skip_row (or_row if_row (or_row while_row (or_row split_row (or_row assert_row (or_row free_row (or_row call_row (or_row assign_row no_row)))))))
