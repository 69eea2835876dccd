-- Assertions: what the rows of connectives, quantifiers and brackets make, and of which words.
use Rattle.std.proofs.Common.{◌≡◌, Bool, true, false, List, [], ◌∷◌, ◌++◌, Option, Some, refl, sym, subst}
use Rattle.pale_syntax.specs.declared.grammar.kind.ProgramKind.TheVariants as kind
use Rattle.pale_syntax.specs.declared.grammar.part.ProgramPart.TheVariants as part
use Rattle.pale_syntax.specs.declared.grammar.act.ConnectiveAct.TheVariants as connectives
use Rattle.pale_text.specs.declared.place.Pos.{Pos}
use Rattle.pale_text.specs.declared.token.Mark.TheVariants as mark
use Rattle.pale_text.specs.declared.token.Token.{Token}
use Rattle.pale_text.specs.Tokens.{place_of}
use Rattle.pale_syntax.specs.declared.tree.names.Name.{Name}
use Rattle.pale_syntax.specs.declared.tree.assertion.Assertion.{roll-Assertion}
use Rattle.pale_syntax.specs.declared.tree.assertion.Assertion.TheVariants as assertion
use Rattle.pale_syntax.specs.declared.tree.assertion.Assertion.TheOpen.{Assertion-F}
use Rattle.pale_syntax.specs.declared.tree.assertion.Quantifier.{Quantifier}
use Rattle.pale_syntax.specs.declared.tree.assertion.QuantifierKind.{QuantifierKind}
use Rattle.pale_syntax.specs.declared.tree.assertion.QuantifierKind.TheVariants as quantifier
use denote.Hole.Carrier.{roll}
use Rattle.plain_data.specs.Stacks.{top, rest}
use Rattle.ll1_reader.specs.declared.symbol.Symbol.TheVariants.{Read, Once, Many}
use Rattle.pale_syntax.specs.MakingParts.{Parts, name_of}
use Rattle.pale_syntax.specs.MakingAssertions.{both, either, equivalent, begun, of_sets, over, quantifierless}
use Rattle.pale_syntax.specs.ProgramGrammar.{ProgramSymbol, rows_of, reads, push_name, connective}
use Rattle.pale_print_laws.specs.Words.{name_words}
use Rattle.pale_print_laws.specs.AssertionWords.{quantifier_word, set_word, assertion_words}
use Rattle.pale_print_laws.proofs.TokenLemmas.{marked, plain}
use Rattle.pale_print_laws.proofs.Meaning.{FromTo, NoneUsed, Quantified}
use Rattle.pale_print_laws.proofs.PlaceFramework.{IsSoundRow, AreSoundRows, no_row, or_row, nth, Goal, Fits}
use Rattle.pale_print_laws.proofs.ListLemmas.{behind_words, grown, joined_all, folded, top_and_rest, signed, chain_words}
use Rattle.pale_print_laws.proofs.AssertionForms.{assertion_made, both_words, either_words, equivalent_words}

-- ---- chains

and_chain_row : IsSoundRow part.AndChain (nth (rows_of part.AndChain) 0)
unfolding rows_of
and_chain_row = record {
  along = λ last tokens parts goal before done. (
    before,
    λ a b middle first. (
      (before, tt),
      λ more behind end others.
          subst (λ q. goal behind end q)
          (sym (folded part.NextNegation both (λ a. record parts { assertions = a ∷ parts.assertions }) (λ a x. refl) more a))
          (done (joined_all both a more) behind end
          (chain_words part.NextNegation both assertion_words (signed mark.Ampersand assertion_words) both_words
          (λ x s t is. is) a more tokens middle end first others)),
    ),
  );
}

pub and_chain_sound : AreSoundRows part.AndChain (rows_of part.AndChain)
unfolding rows_of
and_chain_sound = or_row and_chain_row no_row

next_negation_row : IsSoundRow part.NextNegation (nth (rows_of part.NextNegation) 0)
unfolding rows_of
next_negation_row = record {
  along = λ last tokens parts goal before done op here took. (
    before.0,
    λ a behind end words. (before.1, done a behind end (record { along = λ after e. plain took (words.along after e) })),
  );
}

pub next_negation_sound : AreSoundRows part.NextNegation (rows_of part.NextNegation)
unfolding rows_of
next_negation_sound = or_row next_negation_row no_row

or_chain_row : IsSoundRow part.OrChain (nth (rows_of part.OrChain) 0)
unfolding rows_of
or_chain_row = record {
  along = λ last tokens parts goal before done. (
    before,
    λ a b middle first. (
      (before, tt),
      λ more behind end others.
          subst (λ q. goal behind end q)
          (sym (folded part.NextAndChain either (λ a. record parts { assertions = a ∷ parts.assertions }) (λ a x. refl) more a))
          (done (joined_all either a more) behind end
          (chain_words part.NextAndChain either assertion_words (signed mark.Bar assertion_words) either_words
          (λ x s t is. is) a more tokens middle end first others)),
    ),
  );
}

pub or_chain_sound : AreSoundRows part.OrChain (rows_of part.OrChain)
unfolding rows_of
or_chain_sound = or_row or_chain_row no_row

next_and_chain_row : IsSoundRow part.NextAndChain (nth (rows_of part.NextAndChain) 0)
unfolding rows_of
next_and_chain_row = record {
  along = λ last tokens parts goal before done op here took. (
    before.0,
    λ a behind end words. (before.1, done a behind end (record { along = λ after e. plain took (words.along after e) })),
  );
}

pub next_and_chain_sound : AreSoundRows part.NextAndChain (rows_of part.NextAndChain)
unfolding rows_of
next_and_chain_sound = or_row next_and_chain_row no_row

iff_row : IsSoundRow part.Iff (nth (rows_of part.Iff) 0)
unfolding rows_of
iff_row = record {
  along = λ last tokens parts goal before done. (
    before,
    λ a b middle first. (
      (before, tt),
      λ more behind end others.
          subst (λ q. goal behind end q)
          (sym (folded part.NextImplication equivalent (λ a. record parts { assertions = a ∷ parts.assertions }) (λ a x. refl) more a))
          (done (joined_all equivalent a more) behind end
          (chain_words part.NextImplication equivalent assertion_words (signed mark.Equivalent assertion_words) equivalent_words
          (λ x s t is. is) a more tokens middle end first others)),
    ),
  );
}

pub iff_sound : AreSoundRows part.Iff (rows_of part.Iff)
unfolding rows_of
iff_sound = or_row iff_row no_row

next_implication_row : IsSoundRow part.NextImplication (nth (rows_of part.NextImplication) 0)
unfolding rows_of
next_implication_row = record {
  along = λ last tokens parts goal before done op here took. (
    before.0,
    λ a behind end words. (before.1, done a behind end (record { along = λ after e. plain took (words.along after e) })),
  );
}

pub next_implication_sound : AreSoundRows part.NextImplication (rows_of part.NextImplication)
unfolding rows_of
next_implication_sound = or_row next_implication_row no_row

-- ---- implications

implication_row : IsSoundRow part.Implication (nth (rows_of part.Implication) 0)
unfolding rows_of roll-Assertion roll
implication_row = record {
  along = λ last tokens parts goal before done. (
    before,
    λ a b middle left. (
      (before, tt),
      done a b middle left,
      λ x behind end right.
          done (assertion.Imp a x.place x.right) behind end
          (assertion_made (Assertion-F.Imp a x.place x.right) (record { along = λ after e. left.along _ (right.along after e) })),
    ),
  );
}

pub implication_sound : AreSoundRows part.Implication (rows_of part.Implication)
unfolding rows_of
implication_sound = or_row implication_row no_row

implied_row : IsSoundRow part.Implied (nth (rows_of part.Implied) 0)
unfolding rows_of
implied_row = record {
  along = λ last tokens parts goal before done op here took. (
    tt,
    (
      before.0,
      λ a behind end words. (
        (before.1, tt),
        done (record { place = place_of (Some op); right = a }) behind end (record { along = λ after e. marked took (words.along after e) }),
      ),
    ),
  );
}

pub implied_sound : AreSoundRows part.Implied (rows_of part.Implied)
unfolding rows_of
implied_sound = or_row implied_row no_row

-- ---- prefixes

not_row : IsSoundRow part.Negation (nth (rows_of part.Negation) 0)
unfolding rows_of roll-Assertion roll
not_row = record {
  along = λ last tokens parts goal before done one here took.
      let place : Pos = place_of (Some one) in (
        tt,
        (
          before,
          λ a behind end words. (
            (tt, tt),
            done (assertion.Not place a) behind end
                (assertion_made (Assertion-F.Not place a) (record { along = λ after e. marked took (words.along after e) })),
          ),
        ),
      );
}

ex_row : IsSoundRow part.Negation (nth (rows_of part.Negation) 1)
unfolding rows_of
ex_row = record {
  along = λ last tokens parts goal before done one here took.
      let place : Pos = place_of (Some one) in (
        tt,
        (
          (before, tt),
          λ x behind end made.
              done (assertion.Quantified (x.quantifier (begun quantifier.Ex place)) x.body) behind end
              (made quantifier.Ex place tokens (record { along = λ after e. marked took e })),
        ),
      );
}

all_row : IsSoundRow part.Negation (nth (rows_of part.Negation) 2)
unfolding rows_of
all_row = record {
  along = λ last tokens parts goal before done one here took.
      let place : Pos = place_of (Some one) in (
        tt,
        (
          (before, tt),
          λ x behind end made.
              done (assertion.Quantified (x.quantifier (begun quantifier.All place)) x.body) behind end
              (made quantifier.All place tokens (record { along = λ after e. marked took e })),
        ),
      );
}

primary_row : IsSoundRow part.Negation (nth (rows_of part.Negation) 3)
unfolding rows_of
primary_row = record { along = λ last tokens parts goal before done. (before, λ a behind end words. done a behind end words) }

pub negation_sound : AreSoundRows part.Negation (rows_of part.Negation)
unfolding rows_of
negation_sound = or_row not_row (or_row ex_row (or_row all_row (or_row primary_row no_row)))

-- ---- quantifiers

set_word_row : IsSoundRow part.SetWord (nth (rows_of part.SetWord) 0)
unfolding rows_of
set_word_row = record {
  along = λ last tokens parts goal before done one end took. (before, done tt (Some one) end (record { along = λ after e. plain took e }));
}

pub set_word_sound : AreSoundRows part.SetWord (rows_of part.SetWord)
unfolding rows_of
set_word_sound = or_row set_word_row no_row

next_bound_row : IsSoundRow part.NextBound (nth (rows_of part.NextBound) 0)
unfolding rows_of
next_bound_row = record {
  along = λ last tokens parts goal before done comma here took name end took_name.
      (tt, ((before, tt), done (name_of (Some name)) (Some name) end (record { along = λ after e. plain took (marked took_name e) })));
}

pub next_bound_sound : AreSoundRows part.NextBound (rows_of part.NextBound)
unfolding rows_of
next_bound_sound = or_row next_bound_row no_row

abbrev body_row : List ProgramSymbol
body_row =
    reads mark.Colon ∷ Read kind.Name ∷ push_name ∷ reads mark.Colon ∷ Once part.Iff ∷ connective connectives.MakeQuantified ∷ []

abbrev bound_row : List ProgramSymbol
bound_row = Read kind.Name ∷ push_name ∷ connective connectives.AddBound ∷ Many part.NextBound ∷ body_row

-- the quantifier, and these names as well
abbrev with_names : Quantifier → List Name → Quantifier
with_names q names = record q { names = names }

-- behind the word `set`, or where there is none, a quantifier's names, type and body are read
bound_fits : (last : Option Token) (start here : List Token) (parts : Parts) (below : List Quantifier) (goal : Goal)
    (sets : Bool) (turn : Quantifier → Quantifier) →
    ((kind : QuantifierKind) (place : Pos) → turn (begun kind place) ≡ record (begun kind place) { of_sets = sets }) →
    NoneUsed parts → FromTo (set_word sets) start here → (q : Quantifier) →
    ((x : Quantified) (behind : Option Token) (end : List Token) →
    ((kind : QuantifierKind) (place : Pos) (first : List Token) → FromTo (quantifier_word kind place) first start →
    FromTo (assertion_words (assertion.Quantified (x.quantifier (begun kind place)) x.body)) first end) →
    goal behind end (record parts { assertions = assertion.Quantified (x.quantifier q) x.body ∷ parts.assertions; quantifiers = below })) →
    Fits bound_row last here (record parts { quantifiers = turn q ∷ below }) goal
unfolding roll-Assertion roll
bound_fits last start here parts below goal sets turn turned used set q done = λ one there took_one. (
  tt,
  (
    (tt, tt),
    (
      tt,
      λ xs b middle names.
          let x : Name = name_of (Some one) in
          let all = behind_words part.NextBound mark.Comma name_words (λ n s t is. is) names in
          let bind : Quantifier → Quantifier = λ q. with_names q ((q.names ++ x ∷ []) ++ xs) in
          subst (λ p. Fits body_row b middle p goal)
          (sym (grown part.NextBound (λ l. record parts { quantifiers = with_names (turn q) l ∷ below }) (λ l n. refl) xs ((turn q).names ++ x ∷ [])))
          (λ colon c took_colon type d took_type.
          let ty : Name = name_of (Some type) in (
            tt,
            λ point f took_point. (
              used,
              λ a behind end body. (
                (tt, tt, tt),
                done (record { quantifier = λ q. over (bind (turn q)) ty; body = a }) behind end (λ kind place first keyword.
                    subst (λ (b : Quantifier). FromTo (assertion_words (assertion.Quantified (over (bind b) ty) a)) first end) (sym (turned kind place))
                    (assertion_made (Assertion-F.Quantified (over (bind (record (begun kind place) { of_sets = sets })) ty) a) (record {
                      along = λ after e.
                          keyword.along _ (set.along _ (marked took_one (all.along _
                          (plain took_colon (marked took_type (plain took_point (body.along after e)))))));
                    }))),
              ),
            ),
          )),
    ),
  ),
)

quantified_row : IsSoundRow part.Quantified (nth (rows_of part.Quantified) 0)
unfolding rows_of
quantified_row = record {
  along = λ last tokens parts goal before done.
      let q : Quantifier = top quantifierless parts.quantifiers in (
        before.1,
        subst (λ qs. Fits bound_row last tokens (record parts { quantifiers = qs }) goal)
            (top_and_rest quantifierless parts.quantifiers before.1)
            (bound_fits last tokens tokens parts (rest parts.quantifiers) goal false (λ q. q) (λ kind place. refl) before.0
            (record { along = λ after e. e }) q done),
        λ u b here set.
            bound_fits b tokens here parts (rest parts.quantifiers) goal true of_sets (λ kind place. refl) before.0 set q done,
      );
}

pub quantified_sound : AreSoundRows part.Quantified (rows_of part.Quantified)
unfolding rows_of
quantified_sound = or_row quantified_row no_row

-- ---- assertions in brackets

bracketed_row : IsSoundRow part.Bracketed (nth (rows_of part.Bracketed) 0)
unfolding rows_of
bracketed_row = record {
  along = λ last tokens parts goal before done opening here took. (
    tt,
    (
      before,
      λ a b middle words close end took_close. (
        (tt, tt),
        done (record { place = place_of (Some opening); assertion = a }) (Some close) end
            (record { along = λ after e. marked took (words.along _ (plain took_close e)) }),
      ),
    ),
  );
}

pub bracketed_sound : AreSoundRows part.Bracketed (rows_of part.Bracketed)
unfolding rows_of
bracketed_sound = or_row bracketed_row no_row
