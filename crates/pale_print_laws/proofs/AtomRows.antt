-- Assertions without connectives: what their rows make, and of which words.
use Rattle.std.proofs.Common.{◌≡◌, List, [], ◌∷◌, ◌++◌, Some, ap, refl, sym, subst}
use Rattle.pale_syntax.specs.declared.grammar.part.ProgramPart.TheVariants as part
use Rattle.pale_text.specs.declared.place.Pos.{Pos}
use Rattle.pale_text.specs.declared.token.Mark.TheVariants as mark
use Rattle.pale_text.specs.declared.token.Token.{Token}
use Rattle.pale_text.specs.Tokens.{place_of}
use Rattle.pale_syntax.specs.declared.tree.names.Name.{Name}
use Rattle.pale_syntax.specs.declared.tree.names.Path.{Path}
use Rattle.pale_syntax.specs.declared.tree.names.Term.TheVariants as tree_term
use Rattle.pale_syntax.specs.declared.tree.assertion.Assertion.{Assertion, out-Assertion, roll-Assertion}
use Rattle.pale_syntax.specs.declared.tree.assertion.Assertion.TheVariants as assertion
use Rattle.pale_syntax.specs.declared.tree.assertion.Assertion.TheOpen.{Assertion-F}
use denote.Hole.Carrier.{roll, out}
use Rattle.plain_data.specs.Stacks.{top, rest}
use Rattle.ll1_reader.specs.declared.symbol.Symbol.TheVariants.{Maybe}
use Rattle.pale_syntax.specs.MakingParts.{Parts, name_of}
use Rattle.pale_syntax.specs.MakingWords.{path_at}
use Rattle.pale_syntax.specs.MakingAssertions.{assertionless, path_alone}
use Rattle.pale_syntax.specs.ProgramGrammar.{rows_of}
use Rattle.pale_print_laws.specs.Words.{◌>>◌, each_behind, name_words, path_words}
use Rattle.pale_print_laws.specs.Operands.{IsNameAlone, IsPathAlone, HasNameAlone, HasPathAlone}
use Rattle.pale_print_laws.proofs.TokenLemmas.{marked, plain, skipped}
use Rattle.pale_print_laws.proofs.Meaning.{FromTo}
use Rattle.pale_print_laws.proofs.PlaceFramework.{IsSoundRow, AreSoundRows, no_row, or_row, nth, Fits}
use Rattle.pale_print_laws.proofs.ListLemmas.{behind_words, grown, settled}
use Rattle.pale_print_laws.proofs.AssertionForms.{assertion_made}

-- ---- relations

same_row : IsSoundRow part.Relation (nth (rows_of part.Relation) 0)
unfolding rows_of roll-Assertion roll
same_row = record {
  along = λ last tokens parts goal before done op here took.
      let place : Pos = place_of (Some op) in (
        tt,
        (
          tt,
          λ u behind end words. (
            (before, tt),
            done (λ t. assertion.Same t place u) behind end (λ t first left.
                assertion_made (Assertion-F.Same t place u) (record { along = λ after e. left.along _ (marked took (words.along after e)) })),
          ),
        ),
      );
}

differ_row : IsSoundRow part.Relation (nth (rows_of part.Relation) 1)
unfolding rows_of roll-Assertion roll
differ_row = record {
  along = λ last tokens parts goal before done op here took.
      let place : Pos = place_of (Some op) in (
        tt,
        (
          tt,
          λ u behind end words. (
            (before, tt),
            done (λ t. assertion.Differ t place u) behind end (λ t first left.
                assertion_made (Assertion-F.Differ t place u) (record { along = λ after e. left.along _ (marked took (words.along after e)) })),
          ),
        ),
      );
}

member_row : IsSoundRow part.Relation (nth (rows_of part.Relation) 2)
unfolding rows_of roll-Assertion roll
member_row = record {
  along = λ last tokens parts goal before done op here took.
      let place : Pos = place_of (Some op) in (
        tt,
        λ name end took_name.
            let x : Name = name_of (Some name) in (
              tt,
              (
                (before, tt, tt),
                done (λ t. assertion.Member t place x) (Some name) end (λ t first left.
                    assertion_made (Assertion-F.Member t place x) (record { along = λ after e. left.along _ (marked took (marked took_name e)) })),
              ),
            ),
      );
}

subset_row : IsSoundRow part.Relation (nth (rows_of part.Relation) 3)
unfolding rows_of roll-Assertion roll
subset_row = record {
  along = λ last tokens parts goal before done op here took.
      let place : Pos = place_of (Some op) in (
        tt,
        λ name end took_name.
            let x : Name = name_of (Some name) in (
              tt,
              (
                (before, tt, tt),
                done (λ t. assertion.Subset t place x) (Some name) end (λ t first left.
                    assertion_made (Assertion-F.Subset t place x) (record { along = λ after e. left.along _ (marked took (marked took_name e)) })),
              ),
            ),
      );
}

walk_row : IsSoundRow part.Relation (nth (rows_of part.Relation) 4)
unfolding rows_of roll-Assertion roll
walk_row = record {
  along = λ last tokens parts goal before done op here took.
      let place : Pos = place_of (Some op) in (
        tt,
        (
          tt,
          λ r b middle route close there took_close. (
            tt,
            λ u behind end words. (
              (before, tt, tt),
              done (λ t. assertion.Walk t place r u) behind end (λ t first left.
                  assertion_made (Assertion-F.Walk t place r u)
                  (record { along = λ after e. left.along _ (marked took (route.along _ (plain took_close (words.along after e)))) })),
            ),
          ),
        ),
      );
}

is_row : IsSoundRow part.Relation (nth (rows_of part.Relation) 5)
unfolding rows_of roll-Assertion roll
is_row = record {
  along = λ last tokens parts goal before done op here took.
      let place : Pos = place_of (Some op) in (
        tt,
        λ name end took_name.
            let x : Name = name_of (Some name) in (
              tt,
              (
                (before, tt, tt),
                done (λ t. assertion.Is t place x) (Some name) end (λ t first left.
                    assertion_made (Assertion-F.Is t place x) (record { along = λ after e. left.along _ (marked took (marked took_name e)) })),
              ),
            ),
      );
}

pub relation_sound : AreSoundRows part.Relation (rows_of part.Relation)
unfolding rows_of
relation_sound = or_row same_row (or_row differ_row (or_row member_row (or_row subset_row (or_row walk_row (or_row is_row no_row)))))

name_relation_row : IsSoundRow part.NameRelation (nth (rows_of part.NameRelation) 0)
unfolding rows_of
name_relation_row = record { along = λ last tokens parts goal before done. (before, (tt, λ of behind end made. done of behind end made)) }

pub name_relation_sound : AreSoundRows part.NameRelation (rows_of part.NameRelation)
unfolding rows_of
name_relation_sound = or_row name_relation_row no_row

-- ---- the arguments of a predicate

used_row : IsSoundRow part.UsedPaths (nth (rows_of part.UsedPaths) 0)
unfolding rows_of
used_row = record {
  along = λ last tokens parts goal before done.
      settled part.UsedPaths (nth (rows_of part.UsedPaths) 0) last tokens (record parts { used = [] }) parts goal
      (ap (λ ps. record parts { used = ps }) (sym before)) (λ done. (
        tt,
        λ p b middle first. (
          tt,
          (
            tt,
            λ ps behind end others.
                let all = behind_words part.NextUsedPath mark.Comma path_words (λ x s t is. is) others in
                subst (λ q. goal behind end q) (sym (grown part.NextUsedPath (λ l. record parts { used = l }) (λ l x. refl) ps (p ∷ [])))
                (done (p ∷ ps) behind end (record { along = λ after e. first.along _ (all.along after e) })),
          ),
        ),
      )) done;
}

pub used_paths_sound : AreSoundRows part.UsedPaths (rows_of part.UsedPaths)
unfolding rows_of
used_paths_sound = or_row used_row no_row

next_used_row : IsSoundRow part.NextUsedPath (nth (rows_of part.NextUsedPath) 0)
unfolding rows_of
next_used_row = record {
  along = λ last tokens parts goal before done comma here took. (
    tt,
    λ p behind end words. (tt, done p behind end (record { along = λ after e. plain took (words.along after e) })),
  );
}

pub next_used_path_sound : AreSoundRows part.NextUsedPath (rows_of part.NextUsedPath)
unfolding rows_of
next_used_path_sound = or_row next_used_row no_row

-- ---- what follows the name that begins an assertion

step_row : IsSoundRow part.PathAloneStep (nth (rows_of part.PathAloneStep) 0)
unfolding rows_of
step_row = record {
  along = λ last tokens parts goal before done dot here took name end took_name.
      (tt, ((before, tt), done (name_of (Some name)) (Some name) end (record { along = λ after e. plain took (marked took_name e) })));
}

pub path_alone_step_sound : AreSoundRows part.PathAloneStep (rows_of part.PathAloneStep)
unfolding rows_of
path_alone_step_sound = or_row step_row no_row

-- a name alone is a path alone
is_path_alone : (x : Assertion-F Assertion) → IsNameAlone x → IsPathAlone x
is_path_alone (Assertion-F.Truth p) is = tt
is_path_alone _ is = absurd is

has_path_alone : (assertions : List Assertion) → HasNameAlone assertions → HasPathAlone assertions
has_path_alone [] is = absurd is
has_path_alone (last ∷ _) is = is_path_alone (out-Assertion last) is

-- the words of a path of one name are the name's
name_alone : (p : Path) → p.fields ≡ [] → (start end : List Token) → FromTo (path_words p) start end → FromTo (name_words p.base) start end
name_alone p empty start end words =
    subst (λ fs. FromTo (λ after. name_words p.base >> each_behind mark.Dot name_words fs >> after) start end) empty words

use_row : IsSoundRow part.NameRest (nth (rows_of part.NameRest) 0)
unfolding rows_of roll-Assertion roll
use_row = record {
  along = λ last tokens parts goal before done opening here took.
      let used : (List Path) → (List Path) → Parts = λ ps us.
      record parts {
        assertions = assertion.Use (path_alone (top assertionless parts.assertions)).base ps ∷ rest parts.assertions;
        used = us;
      } in (
        before.0,
        λ close end took_close. (
          before.1,
          subst (λ us. goal (Some close) end (used us [])) (sym before.0)
              (subst (λ us. goal (Some close) end (used [] us)) before.0
              (done (λ p. assertion.Use p.base []) (Some close) end (λ p empty first words.
              assertion_made (Assertion-F.Use p.base []) (record {
                along = λ after e. (name_alone p empty first tokens words).along _ (skipped took tt (skipped took_close tt e));
              })))),
        ),
        λ ps b middle paths close end took_close. (
          before.1,
          subst (λ us. goal (Some close) end (used ps us)) before.0
              (done (λ p. assertion.Use p.base ps) (Some close) end (λ p empty first words.
              assertion_made (Assertion-F.Use p.base ps) (record {
                along = λ after e. (name_alone p empty first tokens words).along _ (skipped took tt (paths.along _ (skipped took_close tt e)));
              }))),
        ),
      );
}

-- the path, and these fields behind it
abbrev with_fields : Path → List Name → Path
with_fields p fs = record { base = p.base; fields = p.fields ++ fs }

longer_row : IsSoundRow part.NameRest (nth (rows_of part.NameRest) 1)
unfolding rows_of roll-Assertion roll out-Assertion out
longer_row = record {
  along = λ last tokens parts goal before done.
      let alone : Path = path_alone (top assertionless parts.assertions) in
      let at : (List Name) → Parts = λ l.
      record parts { assertions = assertion.Truth (record { base = alone.base; fields = l }) ∷ rest parts.assertions } in (
        has_path_alone parts.assertions before.1,
        λ f b here step. (
          tt,
          λ fs c middle steps.
              let all = behind_words part.PathAloneStep mark.Dot name_words (λ x s t is. is) steps in
              let longer : Path → Path = λ p. record { base = p.base; fields = (p.fields ++ f ∷ []) ++ fs } in
              let words : (p : Path) → p.fields ≡ [] → (first : List Token) → FromTo (path_words p) first tokens →
              FromTo (path_words (longer p)) first middle = λ p empty first words.
              subst (λ l. FromTo (λ after. name_words p.base >> each_behind mark.Dot name_words ((l ++ f ∷ []) ++ fs) >> after) first middle) (sym empty)
              (record { along = λ after e. (name_alone p empty first tokens words).along _ (step.along _ (all.along after e)) }) in
              subst (λ q. Fits (Maybe part.NameRelation ∷ []) c middle q goal)
              (sym (grown part.PathAloneStep at (λ l x. refl) fs (alone.fields ++ f ∷ []))) (
                tt,
                done (λ p. assertion.Truth (longer p)) c middle (λ p empty first path.
                    assertion_made (Assertion-F.Truth (longer p)) (words p empty first path)),
                λ of behind end made.
                    done (λ p. of (tree_term.Path (longer p))) behind end (λ p empty first path.
                    made (tree_term.Path (longer p)) first (words p empty first path)),
              ),
        ),
      );
}

related_row : IsSoundRow part.NameRest (nth (rows_of part.NameRest) 2)
unfolding rows_of
related_row = record {
  along = λ last tokens parts goal before done. (
    has_path_alone parts.assertions before.1,
    λ of behind end made. done (λ p. of (tree_term.Path p)) behind end (λ p empty first words. made (tree_term.Path p) first words),
  );
}

pub name_rest_sound : AreSoundRows part.NameRest (rows_of part.NameRest)
unfolding rows_of
name_rest_sound = or_row use_row (or_row longer_row (or_row related_row no_row))

-- ---- assertions without connectives

group_row : IsSoundRow part.Primary (nth (rows_of part.Primary) 0)
unfolding rows_of
group_row = record {
  along = λ last tokens parts goal before done opening here took. (
    before,
    λ a b middle words close end took_close.
        done a (Some close) end (record { along = λ after e. skipped took tt (words.along after (skipped took_close tt e)) }),
  );
}

true_row : IsSoundRow part.Primary (nth (rows_of part.Primary) 1)
unfolding rows_of roll-Assertion roll
true_row = record {
  along = λ last tokens parts goal before done one end took.
      (tt, done assertion.True (Some one) end (assertion_made Assertion-F.True (record { along = λ after e. plain took e })));
}

false_row : IsSoundRow part.Primary (nth (rows_of part.Primary) 2)
unfolding rows_of roll-Assertion roll
false_row = record {
  along = λ last tokens parts goal before done one end took.
      (tt, done assertion.False (Some one) end (assertion_made Assertion-F.False (record { along = λ after e. plain took e })));
}

null_row : IsSoundRow part.Primary (nth (rows_of part.Primary) 3)
unfolding rows_of
null_row = record {
  along = λ last tokens parts goal before done one here took.
      let place : Pos = place_of (Some one) in (
        tt,
        (
          tt,
          λ of behind end made.
              done (of (tree_term.Null place)) behind end (made (tree_term.Null place) tokens (record { along = λ after e. marked took e })),
        ),
      );
}

name_row : IsSoundRow part.Primary (nth (rows_of part.Primary) 4)
unfolding rows_of roll-Assertion roll out-Assertion out
name_row = record {
  along = λ last tokens parts goal before done one here took.
      let p : Path = path_at (name_of (Some one)) in
      let words : FromTo (path_words p) tokens here = record { along = λ after e. marked took e } in (
        tt,
        (
          tt,
          (
            tt,
            (
              (before, refl),
              done (assertion.Truth p) (Some one) here (assertion_made (Assertion-F.Truth p) words),
              λ of behind end made. done (of p) behind end (made p refl tokens words),
            ),
          ),
        ),
      );
}

pub primary_sound : AreSoundRows part.Primary (rows_of part.Primary)
unfolding rows_of
primary_sound = or_row group_row (or_row true_row (or_row false_row (or_row null_row (or_row name_row no_row))))
