-- Assertions that a reading makes are canonical, and spelled in no more tokens than they were read from.
use Rattle.std.proofs.Common.{◌+◌, ◌≤◌, length, arith, ◌≡◌, inl, inr, ℕ, suc, Bool, true, false, List, ◌∷◌, Some, refl}
use Rattle.std.proofs.Common.{sym, subst}
use Rattle.pale_syntax.specs.declared.grammar.kind.ProgramKind.TheVariants as kind
use Rattle.pale_syntax.specs.declared.grammar.part.ProgramPart.TheVariants as part
use Rattle.pale_text.specs.declared.place.Pos.{Pos}
use Rattle.pale_text.specs.declared.token.Mark.{Mark}
use Rattle.pale_text.specs.declared.token.Token.{Token}
use Rattle.pale_syntax.specs.declared.tree.assertion.Assertion.{Assertion}
use Rattle.pale_syntax.specs.declared.tree.assertion.Assertion.TheVariants as assertion
use Rattle.pale_syntax.specs.declared.tree.assertion.Quantifier.{Quantifier}
use Rattle.pale_syntax.specs.declared.tree.assertion.QuantifierKind.TheVariants as quantifier
use Rattle.pale_syntax.specs.MakingParts.{Parts}
use Rattle.pale_text.specs.Tokens.{place_of}
use Rattle.pale_syntax.specs.MakingAssertions.{both, either, equivalent, begun}
use Rattle.pale_syntax.specs.ProgramGrammar.{rows_of}
use Rattle.pale_print_laws.specs.CanonicalAssertions.{whole, implication, disjunct, conjunct, operand, IsCanonicalAssertion, not, imp}
use Rattle.pale_print_laws.proofs.NameSizes.{one_less}
use Rattle.pale_print_laws.proofs.AssertionSizes.{assertion_size, quantified_size, size_not, size_imp, size_quantified}
use Rattle.pale_print_laws.proofs.AssertionPlaceSizes.{assertion_rises, both_size, either_size, equivalent_size}
use Rattle.pale_print_laws.proofs.FromRows.{IsOfKind, Several, no_more, one_more, puts}
use Rattle.pale_print_laws.proofs.FromMade.{AssertionMade, BeginsWith, MayFollow, EndsAnd, EndsOr, EndsImplication, EndsIff}
use Rattle.pale_print_laws.proofs.FromMeaning.{program_meaning}
use Rattle.pale_print_laws.proofs.FromParts.{IsSoundRow, AreSoundRows, no_row, or_row, nth}
use Rattle.pale_print_laws.proofs.FromAssertionPlaces.{as_whole, as_implication, as_disjunct, as_conjunct, and_settled, or_settled, iff_settled}
use Rattle.pale_print_laws.proofs.FromStops.{no_operator}

begins : {m : Mark} {tokens : List Token} (one : Token) (others : List Token) → tokens ≡ one ∷ others → IsOfKind (kind.Mark m) one → BeginsWith m tokens
begins one others is of = record { first = one; others = others; tokens_are = is; kind_is = of.same }

-- ---- chains

conjuncts_made : (room : ℕ) (start end : List Token) (several : Several program_meaning part.NextNegation room start end) (a : Assertion) →
    ((f : Bool) → MayFollow f start → IsCanonicalAssertion conjunct f room a) →
    (first : List Token) → ((f : Bool) → MayFollow f start → assertion_size a 3 f + length start ≤ length first) → (parts : Parts) (below : List Assertion) →
    (made : AssertionMade conjunct room 0 first end) × EndsAnd end ×
    (puts program_meaning part.NextNegation room start end several (record parts { assertions = a ∷ below }) ≡ record parts
    { assertions = made.assertion ∷ below })
conjuncts_made room start end (no_more _ stops) a c first short parts below =
    (record { assertion = a; canonical = c; short = λ f m. omega (arith, short f m) }, record { and = stops }, refl)
conjuncts_made room start end (one_more _ middle _ one others) a c first short parts below =
    conjuncts_made room middle end others (both a one.1.assertion) (λ f m. and_settled (c true (inl (inl one.0))) (one.1.canonical f m))
    first (λ f m. omega (arith, both_size a one.1.assertion f, short true (inl (inl one.0)), one.1.short f m)) parts below

disjuncts_made : (room : ℕ) (start end : List Token) (several : Several program_meaning part.NextAndChain room start end) (a : Assertion) →
    ((f : Bool) → MayFollow f start → IsCanonicalAssertion disjunct f room a) → EndsAnd start →
    (first : List Token) → ((f : Bool) → MayFollow f start → assertion_size a 2 f + length start ≤ length first) → (parts : Parts) (below : List Assertion) →
    (made : AssertionMade disjunct room 0 first end) × EndsOr end ×
    (puts program_meaning part.NextAndChain room start end several (record parts { assertions = a ∷ below }) ≡ record parts
    { assertions = made.assertion ∷ below })
disjuncts_made room start end (no_more _ stops) a c ends first short parts below = (
  record { assertion = a; canonical = c; short = λ f m. omega (arith, short f m) },
  record { and = ends.and; or = stops },
  refl,
)
disjuncts_made room start end (one_more _ middle _ one others) a c ends first short parts below =
    disjuncts_made room middle end others (either a one.1.assertion) (λ f m. or_settled (c true (inl (inr one.0))) (one.1.canonical f m)) one.2
    first (λ f m. omega (arith, either_size a one.1.assertion f, short true (inl (inr one.0)), one.1.short f m)) parts below

equivalents_made : (room : ℕ) (start end : List Token) (several : Several program_meaning part.NextImplication room start end) (a : Assertion) →
    ((f : Bool) → MayFollow f start → IsCanonicalAssertion whole f room a) → EndsImplication start →
    (first : List Token) → ((f : Bool) → MayFollow f start → assertion_size a 0 f + length start ≤ length first) → (parts : Parts) (below : List Assertion) →
    (made : AssertionMade whole room 0 first end) × EndsIff end ×
    (puts program_meaning part.NextImplication room start end several (record parts { assertions = a ∷ below })
    ≡ record parts { assertions = made.assertion ∷ below })
equivalents_made room start end (no_more _ stops) a c ends first short parts below = (
  record { assertion = a; canonical = c; short = λ f m. omega (arith, short f m) },
  record { and = ends.and; or = ends.or; imp = ends.imp; iff = stops },
  refl,
)
equivalents_made room start end (one_more _ middle _ one others) a c ends first short parts below =
    equivalents_made room middle end others (equivalent a one.1.assertion) (λ f m. iff_settled (c true (inr (inr one.0))) (one.1.canonical f m)) one.2
    first (λ f m. omega (arith, equivalent_size a one.1.assertion f, short true (inr (inr one.0)), one.1.short f m)) parts below

and_row : IsSoundRow part.AndChain (nth (rows_of part.AndChain) 0)
unfolding rows_of
and_row = record {
  along = λ room last tokens parts goal g before.
      let first = g before in
      let others = first.3 before in
      let made = conjuncts_made room first.1 others.1 others.2 first.2.assertion (λ f m. as_conjunct (first.2.canonical f m))
      tokens (λ f m. omega (arith, first.2.short f m, (assertion_rises first.2.assertion).to_four f)) parts parts.assertions in
      (others.0, others.1, (made.0, made.1), subst (λ q. goal others.0 others.1 q) made.2 others.3);
}

pub and_chain_sound : AreSoundRows part.AndChain (rows_of part.AndChain)
unfolding rows_of
and_chain_sound = or_row and_row no_row

next_and_row : IsSoundRow part.NextNegation (nth (rows_of part.NextNegation) 0)
unfolding rows_of
next_and_row = record {
  along = λ room last tokens parts goal g before.
      let made = g.4 before in (
        made.0,
        made.1,
        (
          begins g.0 g.1 g.2 g.3,
          record { assertion = made.2.assertion; canonical = made.2.canonical; short = λ f m. omega (arith, one_less g.2, made.2.short f m) },
        ),
        made.3,
      );
}

pub next_negation_sound : AreSoundRows part.NextNegation (rows_of part.NextNegation)
unfolding rows_of
next_negation_sound = or_row next_and_row no_row

or_chain_row : IsSoundRow part.OrChain (nth (rows_of part.OrChain) 0)
unfolding rows_of
or_chain_row = record {
  along = λ room last tokens parts goal g before.
      let first = g before in
      let others = first.3 before in
      let made = disjuncts_made room first.1 others.1 others.2 first.2.0.assertion (λ f m. as_disjunct (first.2.0.canonical f m)) first.2.1
      tokens (λ f m. omega (arith, first.2.0.short f m, (assertion_rises first.2.0.assertion).to_three f)) parts parts.assertions in
      (others.0, others.1, (made.0, made.1), subst (λ q. goal others.0 others.1 q) made.2 others.3);
}

pub or_chain_sound : AreSoundRows part.OrChain (rows_of part.OrChain)
unfolding rows_of
or_chain_sound = or_row or_chain_row no_row

next_or_row : IsSoundRow part.NextAndChain (nth (rows_of part.NextAndChain) 0)
unfolding rows_of
next_or_row = record {
  along = λ room last tokens parts goal g before.
      let made = g.4 before in (
        made.0,
        made.1,
        (
          begins g.0 g.1 g.2 g.3,
          record { assertion = made.2.0.assertion; canonical = made.2.0.canonical; short = λ f m. omega (arith, one_less g.2, made.2.0.short f m) },
          made.2.1,
        ),
        made.3,
      );
}

pub next_and_chain_sound : AreSoundRows part.NextAndChain (rows_of part.NextAndChain)
unfolding rows_of
next_and_chain_sound = or_row next_or_row no_row

iff_row : IsSoundRow part.Iff (nth (rows_of part.Iff) 0)
unfolding rows_of
iff_row = record {
  along = λ room last tokens parts goal g before.
      let first = g before in
      let others = first.3 before in
      let made = equivalents_made room first.1 others.1 others.2 first.2.0.assertion (λ f m. as_whole (first.2.0.canonical f m)) first.2.1
      tokens (λ f m. omega (arith, first.2.0.short f m, (assertion_rises first.2.0.assertion).to_one f)) parts parts.assertions in
      (others.0, others.1, (made.0, made.1), subst (λ q. goal others.0 others.1 q) made.2 others.3);
}

pub iff_sound : AreSoundRows part.Iff (rows_of part.Iff)
unfolding rows_of
iff_sound = or_row iff_row no_row

next_iff_row : IsSoundRow part.NextImplication (nth (rows_of part.NextImplication) 0)
unfolding rows_of
next_iff_row = record {
  along = λ room last tokens parts goal g before.
      let made = g.4 before in (
        made.0,
        made.1,
        (
          begins g.0 g.1 g.2 g.3,
          record { assertion = made.2.0.assertion; canonical = made.2.0.canonical; short = λ f m. omega (arith, one_less g.2, made.2.0.short f m) },
          made.2.1,
        ),
        made.3,
      );
}

pub next_implication_sound : AreSoundRows part.NextImplication (rows_of part.NextImplication)
unfolding rows_of
next_implication_sound = or_row next_iff_row no_row

-- ---- implications

implied_canonical : (room inside : ℕ) (start end : List Token) (left : Assertion) (place : Pos)
    (right : AssertionMade implication inside 1 start end) →
    room ≡ suc inside →
    IsCanonicalAssertion disjunct true room left → (f : Bool) → MayFollow f end →
    IsCanonicalAssertion implication f room (assertion.Imp left place right.assertion)
implied_canonical room inside start end left place right is c f m =
    subst (λ n. IsCanonicalAssertion implication f n (assertion.Imp left place right.assertion)) (sym is)
    (imp implication f inside left place right.assertion refl (subst (λ n. IsCanonicalAssertion disjunct true n left) is c) (right.canonical f m))

implication_row : IsSoundRow part.Implication (nth (rows_of part.Implication) 0)
unfolding rows_of
implication_row = record {
  along = λ room last tokens parts goal g before.
      let first = g before in
      elim (first.3 before) [
        | inl stopped ↦ (
          first.0,
          first.1,
          (
            record {
              assertion = first.2.0.assertion;
              canonical = λ f m. as_implication (first.2.0.canonical f m);
              short = λ f m. omega (arith, first.2.0.short f m, (assertion_rises first.2.0.assertion).to_two f);
            },
            record { and = first.2.1.and; or = first.2.1.or; imp = stopped.0 },
          ),
          stopped.1,
        )
        | inr implied ↦ (
          implied.0,
          implied.1,
          (
            record {
              assertion = assertion.Imp first.2.0.assertion implied.2.1.place implied.2.1.right.assertion;
              canonical = implied_canonical room implied.2.1.inside first.1 implied.1 first.2.0.assertion implied.2.1.place implied.2.1.right implied.2.1.opens
                  (first.2.0.canonical true (inr (inl implied.2.0)));
              short = λ f m. omega (
                arith,
                size_imp first.2.0.assertion implied.2.1.place implied.2.1.right.assertion f,
                first.2.0.short true (inr (inl implied.2.0)),
                implied.2.1.right.short f m,
              );
            },
            implied.2.2,
          ),
          implied.3,
        )
      ];
}

pub implication_sound : AreSoundRows part.Implication (rows_of part.Implication)
unfolding rows_of
implication_sound = or_row implication_row no_row

implied_row : IsSoundRow part.Implied (nth (rows_of part.Implied) 0)
unfolding rows_of
implied_row = record {
  along = λ room last tokens parts goal g before.
      let right = g.6 before in (
        right.0,
        right.1,
        (
          begins g.2 g.3 g.4 g.5,
          record {
            place = place_of (Some g.2);
            inside = g.0;
            opens = g.1;
            right = record {
              assertion = right.2.0.assertion;
              canonical = right.2.0.canonical;
              short = λ f m. omega (arith, one_less g.4, right.2.0.short f m);
            };
          },
          right.2.1,
        ),
        right.3,
      );
}

pub implied_sound : AreSoundRows part.Implied (rows_of part.Implied)
unfolding rows_of
implied_sound = or_row implied_row no_row

-- ---- prefixes

not_row : IsSoundRow part.Negation (nth (rows_of part.Negation) 0)
unfolding rows_of
not_row = record {
  along = λ room last tokens parts goal g before.
      let inner = g.6 before in
      let place : Pos = place_of (Some g.2) in (
        inner.0,
        inner.1,
        record {
          assertion = assertion.Not place inner.2.assertion;
          canonical = λ f m.
              subst (λ n. IsCanonicalAssertion operand f n (assertion.Not place inner.2.assertion)) (sym g.1)
              (not operand f g.0 place inner.2.assertion (inner.2.canonical f m));
          short = λ f m. omega (arith, size_not place inner.2.assertion 4 f, one_less g.4, inner.2.short f m);
        },
        inner.3,
      );
}

-- a quantifier is before no operator
ends_quantified : (room inside : ℕ) (end : List Token) (a : Assertion) → room ≡ suc inside → EndsIff end → IsCanonicalAssertion operand false (suc inside) a →
    (f : Bool) → MayFollow f end → IsCanonicalAssertion operand f room a
ends_quantified room inside end a is ends c false m = subst (λ n. IsCanonicalAssertion operand false n a) (sym is) c
ends_quantified room inside end a is ends c true m = absurd (no_operator ends m)

ends_short : (end : List Token) (q : Quantifier) (a : Assertion) (n : ℕ) → EndsIff end → quantified_size q (assertion_size a) false + length end ≤ n →
    (f : Bool) → MayFollow f end → 0 + (assertion_size (assertion.Quantified q a) 4 f + length end) ≤ n
ends_short end q a n ends short false m = omega (arith, size_quantified q a 4)
ends_short end q a n ends short true m = absurd (no_operator ends m)

ex_row : IsSoundRow part.Negation (nth (rows_of part.Negation) 1)
unfolding rows_of
ex_row = record {
  along = λ room last tokens parts goal g before.
      let made = g.6 before in
      let place : Pos = place_of (Some g.2) in (
        made.0,
        made.1,
        record {
          assertion = assertion.Quantified (made.2.0.quantifier (begun quantifier.Ex place)) made.2.0.body;
          canonical = ends_quantified room g.0 made.1 (assertion.Quantified (made.2.0.quantifier (begun quantifier.Ex place)) made.2.0.body) g.1 made.2.1
              (made.2.0.canonical quantifier.Ex place);
          short = ends_short made.1 (made.2.0.quantifier (begun quantifier.Ex place)) made.2.0.body (length tokens) made.2.1
              (omega (arith, made.2.0.short quantifier.Ex place, one_less g.4));
        },
        made.3,
      );
}

all_row : IsSoundRow part.Negation (nth (rows_of part.Negation) 2)
unfolding rows_of
all_row = record {
  along = λ room last tokens parts goal g before.
      let made = g.6 before in
      let place : Pos = place_of (Some g.2) in (
        made.0,
        made.1,
        record {
          assertion = assertion.Quantified (made.2.0.quantifier (begun quantifier.All place)) made.2.0.body;
          canonical = ends_quantified room g.0 made.1 (assertion.Quantified (made.2.0.quantifier (begun quantifier.All place)) made.2.0.body) g.1 made.2.1
              (made.2.0.canonical quantifier.All place);
          short = ends_short made.1 (made.2.0.quantifier (begun quantifier.All place)) made.2.0.body (length tokens) made.2.1
              (omega (arith, made.2.0.short quantifier.All place, one_less g.4));
        },
        made.3,
      );
}

primary_row : IsSoundRow part.Negation (nth (rows_of part.Negation) 3)
unfolding rows_of
primary_row = record {
  along = λ room last tokens parts goal g before.
      let made = g before in
      (made.0, made.1, record { assertion = made.2.assertion; canonical = λ f m. made.2.canonical f; short = λ f m. omega (arith, made.2.short f) }, made.3);
}

pub negation_sound : AreSoundRows part.Negation (rows_of part.Negation)
unfolding rows_of
negation_sound = or_row not_row (or_row ex_row (or_row all_row (or_row primary_row no_row)))
