-- Conditions of code: what their rows make, and of which words.
use Rattle.std.proofs.Common.{◌∷◌, Some, refl, sym, subst}
use Rattle.pale_syntax.specs.declared.grammar.part.ProgramPart.TheVariants as part
use Rattle.pale_text.specs.declared.place.Pos.{Pos}
use Rattle.pale_text.specs.declared.token.Mark.TheVariants as mark
use Rattle.pale_text.specs.Tokens.{place_of}
use Rattle.pale_syntax.specs.declared.tree.names.Name.{Name}
use Rattle.pale_syntax.specs.declared.tree.condition.Condition.{out-Condition, roll-Condition}
use Rattle.pale_syntax.specs.declared.tree.condition.Condition.TheVariants as condition
use Rattle.pale_syntax.specs.declared.tree.condition.Condition.TheOpen.{Condition-F}
use denote.Hole.Carrier.{roll, out}
use Rattle.pale_syntax.specs.MakingParts.{name_of}
use Rattle.pale_syntax.specs.MakingConditions.{both_conditions, either_condition}
use Rattle.pale_syntax.specs.ProgramGrammar.{rows_of}
use Rattle.pale_print_laws.specs.ConditionWords.{condition_words}
use Rattle.pale_print_laws.proofs.TokenLemmas.{marked, plain, skipped}
use Rattle.pale_print_laws.proofs.PlaceFramework.{IsSoundRow, AreSoundRows, no_row, or_row, nth}
use Rattle.pale_print_laws.proofs.ListLemmas.{signed, chain_words, joined_all, folded}
use Rattle.pale_print_laws.proofs.ConditionForms.{condition_made, both_conditions_words, either_condition_words}

-- ---- chains

condition_row : IsSoundRow part.Condition (nth (rows_of part.Condition) 0)
unfolding rows_of
condition_row = record {
  along = λ last tokens parts goal before done. (
    tt,
    λ c b middle first. (
      tt,
      λ cs behind end others.
          subst (λ q. goal behind end q)
          (sym (folded part.NextConjunction either_condition (λ c. record parts { conditions = c ∷ parts.conditions }) (λ c x. refl) cs c))
          (done (joined_all either_condition c cs) behind end
          (chain_words part.NextConjunction either_condition condition_words (signed mark.OrElse condition_words) either_condition_words
          (λ x s t is. is) c cs tokens middle end first others)),
    ),
  );
}

pub condition_sound : AreSoundRows part.Condition (rows_of part.Condition)
unfolding rows_of
condition_sound = or_row condition_row no_row

next_conjunction_row : IsSoundRow part.NextConjunction (nth (rows_of part.NextConjunction) 0)
unfolding rows_of
next_conjunction_row = record {
  along = λ last tokens parts goal before done op here took. (
    tt,
    λ c behind end words. (before, done c behind end (record { along = λ after e. plain took (words.along after e) })),
  );
}

pub next_conjunction_sound : AreSoundRows part.NextConjunction (rows_of part.NextConjunction)
unfolding rows_of
next_conjunction_sound = or_row next_conjunction_row no_row

conjunction_row : IsSoundRow part.Conjunction (nth (rows_of part.Conjunction) 0)
unfolding rows_of
conjunction_row = record {
  along = λ last tokens parts goal before done. (
    tt,
    λ c b middle first. (
      tt,
      λ cs behind end others.
          subst (λ q. goal behind end q)
          (sym (folded part.NextLiteral both_conditions (λ c. record parts { conditions = c ∷ parts.conditions }) (λ c x. refl) cs c))
          (done (joined_all both_conditions c cs) behind end
          (chain_words part.NextLiteral both_conditions condition_words (signed mark.AndAlso condition_words) both_conditions_words
          (λ x s t is. is) c cs tokens middle end first others)),
    ),
  );
}

pub conjunction_sound : AreSoundRows part.Conjunction (rows_of part.Conjunction)
unfolding rows_of
conjunction_sound = or_row conjunction_row no_row

next_literal_row : IsSoundRow part.NextLiteral (nth (rows_of part.NextLiteral) 0)
unfolding rows_of
next_literal_row = record {
  along = λ last tokens parts goal before done op here took. (
    tt,
    λ c behind end words. (before, done c behind end (record { along = λ after e. plain took (words.along after e) })),
  );
}

pub next_literal_sound : AreSoundRows part.NextLiteral (rows_of part.NextLiteral)
unfolding rows_of
next_literal_sound = or_row next_literal_row no_row

-- ---- literals

not_row : IsSoundRow part.Literal (nth (rows_of part.Literal) 0)
unfolding rows_of roll-Condition roll
not_row = record {
  along = λ last tokens parts goal before done one here took.
      let place : Pos = place_of (Some one) in (
        tt,
        (
          tt,
          λ c behind end words. (
            (tt, tt),
            done (condition.Not place c) behind end
                (condition_made (Condition-F.Not place c) (record { along = λ after e. marked took (words.along after e) })),
          ),
        ),
      );
}

group_row : IsSoundRow part.Literal (nth (rows_of part.Literal) 1)
unfolding rows_of
group_row = record {
  along = λ last tokens parts goal before done opening here took. (
    tt,
    λ c b middle words close end took_close.
        done c (Some close) end (record { along = λ after e. skipped took tt (words.along after (skipped took_close tt e)) }),
  );
}

true_row : IsSoundRow part.Literal (nth (rows_of part.Literal) 2)
unfolding rows_of roll-Condition roll
true_row = record {
  along = λ last tokens parts goal before done one end took.
      let place : Pos = place_of (Some one) in
      (tt, done (condition.True place) (Some one) end (condition_made (Condition-F.True place) (record { along = λ after e. marked took e })));
}

false_row : IsSoundRow part.Literal (nth (rows_of part.Literal) 3)
unfolding rows_of roll-Condition roll
false_row = record {
  along = λ last tokens parts goal before done one end took.
      let place : Pos = place_of (Some one) in
      (tt, done (condition.False place) (Some one) end (condition_made (Condition-F.False place) (record { along = λ after e. marked took e })));
}

term_row : IsSoundRow part.Literal (nth (rows_of part.Literal) 4)
unfolding rows_of roll-Condition roll out-Condition out
term_row = record {
  along = λ last tokens parts goal before done. (
    tt,
    λ t b middle words. (
      tt,
      (
        tt,
        done (condition.Truth t) b middle (condition_made (Condition-F.Truth t) (record { along = λ after e. words.along after e })),
        λ of behind end made. done (of t) behind end (made t tokens words),
      ),
    ),
  );
}

pub literal_sound : AreSoundRows part.Literal (rows_of part.Literal)
unfolding rows_of
literal_sound = or_row not_row (or_row group_row (or_row true_row (or_row false_row (or_row term_row no_row))))

-- ---- relations

same_row : IsSoundRow part.LiteralRelation (nth (rows_of part.LiteralRelation) 0)
unfolding rows_of roll-Condition roll
same_row = record {
  along = λ last tokens parts goal before done. (
    before,
    λ op here took.
        let place : Pos = place_of (Some op) in (
          tt,
          (
            tt,
            λ u behind end words. (
              (tt, tt),
              done (λ t. condition.Same t place u) behind end (λ t first left.
                  condition_made (Condition-F.Same t place u) (record { along = λ after e. left.along _ (marked took (words.along after e)) })),
            ),
          ),
        ),
  );
}

differ_row : IsSoundRow part.LiteralRelation (nth (rows_of part.LiteralRelation) 1)
unfolding rows_of roll-Condition roll
differ_row = record {
  along = λ last tokens parts goal before done. (
    before,
    λ op here took.
        let place : Pos = place_of (Some op) in (
          tt,
          (
            tt,
            λ u behind end words. (
              (tt, tt),
              done (λ t. condition.Differ t place u) behind end (λ t first left.
                  condition_made (Condition-F.Differ t place u) (record { along = λ after e. left.along _ (marked took (words.along after e)) })),
            ),
          ),
        ),
  );
}

is_row : IsSoundRow part.LiteralRelation (nth (rows_of part.LiteralRelation) 2)
unfolding rows_of roll-Condition roll
is_row = record {
  along = λ last tokens parts goal before done. (
    before,
    λ op here took.
        let place : Pos = place_of (Some op) in (
          tt,
          λ name end took_name.
              let x : Name = name_of (Some name) in (
                tt,
                (
                  (tt, tt, tt),
                  done (λ t. condition.Is t place x) (Some name) end (λ t first left.
                      condition_made (Condition-F.Is t place x) (record { along = λ after e. left.along _ (marked took (marked took_name e)) })),
                ),
              ),
        ),
  );
}

pub literal_relation_sound : AreSoundRows part.LiteralRelation (rows_of part.LiteralRelation)
unfolding rows_of
literal_relation_sound = or_row same_row (or_row differ_row (or_row is_row no_row))
