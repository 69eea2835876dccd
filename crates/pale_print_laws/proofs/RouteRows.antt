-- Routes: what their rows make, and of which words.
use Rattle.std.proofs.Common.{true, false, ◌∷◌, Some, refl, sym, subst}
use Rattle.pale_syntax.specs.declared.grammar.part.ProgramPart.TheVariants as part
use Rattle.pale_text.specs.declared.token.Mark.TheVariants as mark
use Rattle.pale_text.specs.Tokens.{place_of}
use Rattle.pale_syntax.specs.declared.tree.names.Name.{Name}
use Rattle.pale_syntax.specs.declared.tree.route.Route.{out-Route, roll-Route}
use Rattle.pale_syntax.specs.declared.tree.route.Route.TheVariants as route
use Rattle.pale_syntax.specs.declared.tree.route.Route.TheOpen.{Route-F}
use denote.Hole.Carrier.{roll, out}
use Rattle.pale_syntax.specs.MakingParts.{name_of}
use Rattle.pale_syntax.specs.MakingRoutes.{joined_then, joined_or, starred}
use Rattle.pale_syntax.specs.ProgramGrammar.{rows_of}
use Rattle.pale_print_laws.specs.Words.{sign_at}
use Rattle.pale_print_laws.specs.RouteWords.{route_words}
use Rattle.pale_print_laws.proofs.TokenLemmas.{marked, plain, skipped}
use Rattle.pale_print_laws.proofs.PlaceFramework.{IsSoundRow, AreSoundRows, no_row, or_row, nth}
use Rattle.pale_print_laws.proofs.ListLemmas.{signed, chain_words, joined_all, folded}
use Rattle.pale_print_laws.proofs.RouteForms.{route_made, joined_then_words, joined_or_words, starred_words}

-- ---- chains

route_row : IsSoundRow part.Route (nth (rows_of part.Route) 0)
unfolding rows_of
route_row = record {
  along = λ last tokens parts goal before done. (
    tt,
    λ r b middle first. (
      tt,
      λ rs behind end others.
          subst (λ q. goal behind end q)
          (sym (folded part.NextAlternative joined_or (λ r. record parts { routes = r ∷ parts.routes }) (λ r x. refl) rs r))
          (done (joined_all joined_or r rs) behind end
          (chain_words part.NextAlternative joined_or route_words (signed mark.Plus route_words) joined_or_words
          (λ x s t is. is) r rs tokens middle end first others)),
    ),
  );
}

pub route_sound : AreSoundRows part.Route (rows_of part.Route)
unfolding rows_of
route_sound = or_row route_row no_row

next_alternative_row : IsSoundRow part.NextAlternative (nth (rows_of part.NextAlternative) 0)
unfolding rows_of
next_alternative_row = record {
  along = λ last tokens parts goal before done plus here took. (
    tt,
    λ r behind end words. (before, done r behind end (record { along = λ after e. plain took (words.along after e) })),
  );
}

pub next_alternative_sound : AreSoundRows part.NextAlternative (rows_of part.NextAlternative)
unfolding rows_of
next_alternative_sound = or_row next_alternative_row no_row

sequence_row : IsSoundRow part.Sequence (nth (rows_of part.Sequence) 0)
unfolding rows_of
sequence_row = record {
  along = λ last tokens parts goal before done. (
    tt,
    λ r b middle first. (
      tt,
      λ rs behind end others.
          subst (λ q. goal behind end q)
          (sym (folded part.NextRepeated joined_then (λ r. record parts { routes = r ∷ parts.routes }) (λ r x. refl) rs r))
          (done (joined_all joined_then r rs) behind end
          (chain_words part.NextRepeated joined_then route_words (signed mark.Dot route_words) joined_then_words
          (λ x s t is. is) r rs tokens middle end first others)),
    ),
  );
}

pub sequence_sound : AreSoundRows part.Sequence (rows_of part.Sequence)
unfolding rows_of
sequence_sound = or_row sequence_row no_row

next_repeated_row : IsSoundRow part.NextRepeated (nth (rows_of part.NextRepeated) 0)
unfolding rows_of
next_repeated_row = record {
  along = λ last tokens parts goal before done dot here took. (
    tt,
    λ r behind end words. (before, done r behind end (record { along = λ after e. plain took (words.along after e) })),
  );
}

pub next_repeated_sound : AreSoundRows part.NextRepeated (rows_of part.NextRepeated)
unfolding rows_of
next_repeated_sound = or_row next_repeated_row no_row

repeated_row : IsSoundRow part.Repeated (nth (rows_of part.Repeated) 0)
unfolding rows_of
repeated_row = record {
  along = λ last tokens parts goal before done. (
    tt,
    λ r b middle first. (
      tt,
      λ places behind end others.
          subst (λ q. goal behind end q)
          (sym (folded part.Star starred (λ r. record parts { routes = r ∷ parts.routes }) (λ r x. refl) places r))
          (done (joined_all starred r places) behind end
          (chain_words part.Star starred route_words (sign_at mark.Star) starred_words
          (λ x s t is. is) r places tokens middle end first others)),
    ),
  );
}

pub repeated_sound : AreSoundRows part.Repeated (rows_of part.Repeated)
unfolding rows_of
repeated_sound = or_row repeated_row no_row

star_row : IsSoundRow part.Star (nth (rows_of part.Star) 0)
unfolding rows_of
star_row = record {
  along = λ last tokens parts goal before done star end took.
      (before, done (place_of (Some star)) (Some star) end (record { along = λ after e. marked took e }));
}

pub star_sound : AreSoundRows part.Star (rows_of part.Star)
unfolding rows_of
star_sound = or_row star_row no_row

-- ---- steps

down_row : IsSoundRow part.Step (nth (rows_of part.Step) 0)
unfolding rows_of roll-Route roll
down_row = record {
  along = λ last tokens parts goal before done one end took.
      let x : Name = name_of (Some one) in
      (tt, (tt, done (route.Down x) (Some one) end (route_made (Route-F.Down x) (record { along = λ after e. marked took e }))));
}

up_row : IsSoundRow part.Step (nth (rows_of part.Step) 1)
unfolding rows_of roll-Route roll
up_row = record {
  along = λ last tokens parts goal before done caret here took. (
    tt,
    (
      tt,
      done route.UpAny (Some caret) here (route_made Route-F.UpAny (record { along = λ after e. plain took e })),
      λ x behind end name.
          done (route.Up x) behind end (route_made (Route-F.Up x) (record { along = λ after e. plain took (name.along after e) })),
    ),
  );
}

leaf_row : IsSoundRow part.Step (nth (rows_of part.Step) 2)
unfolding rows_of roll-Route roll
leaf_row = record {
  along = λ last tokens parts goal before done one end took.
      (tt, done route.Leaf (Some one) end (route_made Route-F.Leaf (record { along = λ after e. plain took e })));
}

root_row : IsSoundRow part.Step (nth (rows_of part.Step) 3)
unfolding rows_of roll-Route roll
root_row = record {
  along = λ last tokens parts goal before done one end took.
      (tt, done route.Root (Some one) end (route_made Route-F.Root (record { along = λ after e. plain took e })));
}

type_row : IsSoundRow part.Step (nth (rows_of part.Step) 4)
unfolding rows_of roll-Route roll out-Route out
type_row = record {
  along = λ last tokens parts goal before done at here took one end took_type.
      let x : Name = name_of (Some one) in (
        tt,
        (
          tt,
          (
            tt,
            done (route.IsType x) (Some one) end (route_made (Route-F.IsType x) (record { along = λ after e. plain took (marked took_type e) })),
            λ v behind last variant.
                done (route.IsVariant x v) behind last
                (route_made (Route-F.IsVariant x v) (record { along = λ after e. plain took (marked took_type (variant.along after e)) })),
          ),
        ),
      );
}

true_row : IsSoundRow part.Step (nth (rows_of part.Step) 5)
unfolding rows_of roll-Route roll
true_row = record {
  along = λ last tokens parts goal before done mark here took one end took_name.
      let x : Name = name_of (Some one) in (
        tt,
        (
          tt,
          done (route.IsBool x true) (Some one) end
              (route_made (Route-F.IsBool x true) (record { along = λ after e. plain took (marked took_name e) })),
        ),
      );
}

false_row : IsSoundRow part.Step (nth (rows_of part.Step) 6)
unfolding rows_of roll-Route roll
false_row = record {
  along = λ last tokens parts goal before done mark here took one end took_name.
      let x : Name = name_of (Some one) in (
        tt,
        (
          tt,
          done (route.IsBool x false) (Some one) end
              (route_made (Route-F.IsBool x false) (record { along = λ after e. plain took (marked took_name e) })),
        ),
      );
}

group_row : IsSoundRow part.Step (nth (rows_of part.Step) 7)
unfolding rows_of
group_row = record {
  along = λ last tokens parts goal before done opening here took. (
    tt,
    λ r b middle words close end took_close.
        done r (Some close) end (record { along = λ after e. skipped took tt (words.along after (skipped took_close tt e)) }),
  );
}

pub step_sound : AreSoundRows part.Step (rows_of part.Step)
unfolding rows_of
step_sound =
    or_row down_row
    (or_row up_row (or_row leaf_row (or_row root_row (or_row type_row (or_row true_row (or_row false_row (or_row group_row no_row)))))))

up_name_row : IsSoundRow part.UpName (nth (rows_of part.UpName) 0)
unfolding rows_of
up_name_row = record {
  along = λ last tokens parts goal before done one end took.
      (tt, ((before, tt), done (name_of (Some one)) (Some one) end (record { along = λ after e. marked took e })));
}

pub up_name_sound : AreSoundRows part.UpName (rows_of part.UpName)
unfolding rows_of
up_name_sound = or_row up_name_row no_row

variant_test_row : IsSoundRow part.VariantTest (nth (rows_of part.VariantTest) 0)
unfolding rows_of
variant_test_row = record {
  along = λ last tokens parts goal before done colon here took one end took_name.
      (tt, ((before, tt), done (name_of (Some one)) (Some one) end (record { along = λ after e. plain took (marked took_name e) })));
}

pub variant_test_sound : AreSoundRows part.VariantTest (rows_of part.VariantTest)
unfolding rows_of
variant_test_sound = or_row variant_test_row no_row
