-- Conditions that a reading makes are canonical, and spelled in no more tokens than they were read from.
use Rattle.std.proofs.Common.{◌+◌, ◌≤◌, length, arith, ◌≡◌, inl, inr, ℕ, List, ◌∷◌, Some, refl, sym, subst}
use Rattle.pale_syntax.specs.declared.grammar.part.ProgramPart.TheVariants as part
use Rattle.pale_text.specs.declared.place.Pos.{Pos}
use Rattle.pale_text.specs.declared.token.Token.{Token}
use Rattle.pale_syntax.specs.declared.tree.names.Name.{Name}
use Rattle.pale_syntax.specs.declared.tree.condition.Condition.{Condition, out-Condition, roll-Condition}
use Rattle.pale_syntax.specs.declared.tree.condition.Condition.TheVariants as condition
use denote.Hole.Carrier.{roll, out}
use Rattle.pale_syntax.specs.MakingParts.{Parts, name_of}
use Rattle.pale_text.specs.Tokens.{place_of}
use Rattle.pale_syntax.specs.MakingConditions.{both_conditions, either_condition}
use Rattle.pale_syntax.specs.ProgramGrammar.{rows_of}
use Rattle.pale_print_laws.specs.CanonicalConditions.{whole, conjunction, literal, IsCanonicalCondition, truth, falsehood, term, same, differ, of_variant, not}
use Rattle.pale_print_laws.proofs.NameSizes.{one_less}
use Rattle.pale_print_laws.proofs.ConditionSizes.{condition_size, condition_rises, either_size, both_size, size_not, size_true}
use Rattle.pale_print_laws.proofs.ConditionSizes.{size_false, size_truth, size_same, size_differ, size_is}
use Rattle.pale_print_laws.proofs.FromRows.{Several, no_more, one_more, puts}
use Rattle.pale_print_laws.proofs.FromMade.{ConditionMade}
use Rattle.pale_print_laws.proofs.FromMeaning.{program_meaning}
use Rattle.pale_print_laws.proofs.FromParts.{IsSoundRow, AreSoundRows, no_row, or_row, nth, free_name}
use Rattle.pale_print_laws.proofs.FromConditionPlaces.{anywhere, as_whole, as_conjunction, or_settled, and_settled}

-- ---- chains

alternatives_made : (room : ℕ) (start end : List Token) (several : Several program_meaning part.NextConjunction room start end) (x : Condition) →
    IsCanonicalCondition whole room x → (first : List Token) → condition_size x 0 + length start ≤ length first →
    (parts : Parts) (below : List Condition) →
    (made : ConditionMade whole room 0 first end) ×
    (puts program_meaning part.NextConjunction room start end several (record parts { conditions = x ∷ below })
    ≡ record parts { conditions = made.condition ∷ below })
alternatives_made room start end (no_more _ stops) x c first short parts below = (record { condition = x; canonical = c; short = omega arith }, refl)
alternatives_made room start end (one_more _ middle _ one others) x c first short parts below =
    let l = one.short in
    alternatives_made room middle end others (either_condition x one.condition) (or_settled c one.canonical) first
    (omega (arith, either_size x one.condition)) parts below

literals_made : (room : ℕ) (start end : List Token) (several : Several program_meaning part.NextLiteral room start end) (x : Condition) →
    IsCanonicalCondition conjunction room x → (first : List Token) → condition_size x 1 + length start ≤ length first →
    (parts : Parts) (below : List Condition) →
    (made : ConditionMade conjunction room 0 first end) ×
    (puts program_meaning part.NextLiteral room start end several (record parts { conditions = x ∷ below }) ≡ record parts
    { conditions = made.condition ∷ below })
literals_made room start end (no_more _ stops) x c first short parts below = (record { condition = x; canonical = c; short = omega arith }, refl)
literals_made room start end (one_more _ middle _ one others) x c first short parts below =
    let l = one.short in
    literals_made room middle end others (both_conditions x one.condition) (and_settled c one.canonical) first
    (omega (arith, both_size x one.condition)) parts below

condition_row : IsSoundRow part.Condition (nth (rows_of part.Condition) 0)
unfolding rows_of
condition_row = record {
  along = λ room last tokens parts goal g before.
      let first = g tt in
      let others = first.3 tt in
      let made =
      alternatives_made room first.1 others.1 others.2 first.2.condition (as_whole first.2.canonical) tokens
      (omega (arith, first.2.short, (condition_rises first.2.condition).to_one)) parts parts.conditions in
      (others.0, others.1, made.0, subst (λ q. goal others.0 others.1 q) made.1 others.3);
}

pub condition_sound : AreSoundRows part.Condition (rows_of part.Condition)
unfolding rows_of
condition_sound = or_row condition_row no_row

next_conjunction_row : IsSoundRow part.NextConjunction (nth (rows_of part.NextConjunction) 0)
unfolding rows_of
next_conjunction_row = record {
  along = λ room last tokens parts goal g before.
      let made = g.4 tt in
      (made.0, made.1, record { condition = made.2.condition; canonical = made.2.canonical; short = omega (arith, one_less g.2, made.2.short) }, made.3);
}

pub next_conjunction_sound : AreSoundRows part.NextConjunction (rows_of part.NextConjunction)
unfolding rows_of
next_conjunction_sound = or_row next_conjunction_row no_row

conjunction_row : IsSoundRow part.Conjunction (nth (rows_of part.Conjunction) 0)
unfolding rows_of
conjunction_row = record {
  along = λ room last tokens parts goal g before.
      let first = g tt in
      let others = first.3 tt in
      let made =
      literals_made room first.1 others.1 others.2 first.2.condition (as_conjunction first.2.canonical) tokens
      (omega (arith, first.2.short, (condition_rises first.2.condition).to_two)) parts parts.conditions in
      (others.0, others.1, made.0, subst (λ q. goal others.0 others.1 q) made.1 others.3);
}

pub conjunction_sound : AreSoundRows part.Conjunction (rows_of part.Conjunction)
unfolding rows_of
conjunction_sound = or_row conjunction_row no_row

next_literal_row : IsSoundRow part.NextLiteral (nth (rows_of part.NextLiteral) 0)
unfolding rows_of
next_literal_row = record {
  along = λ room last tokens parts goal g before.
      let made = g.4 tt in
      (made.0, made.1, record { condition = made.2.condition; canonical = made.2.canonical; short = omega (arith, one_less g.2, made.2.short) }, made.3);
}

pub next_literal_sound : AreSoundRows part.NextLiteral (rows_of part.NextLiteral)
unfolding rows_of
next_literal_sound = or_row next_literal_row no_row

-- ---- literals

not_row : IsSoundRow part.Literal (nth (rows_of part.Literal) 0)
unfolding rows_of
not_row = record {
  along = λ room last tokens parts goal g before.
      let inner = g.6 tt in
      let place : Pos = place_of (Some g.2) in (
        inner.0,
        inner.1,
        record {
          condition = condition.Not place inner.2.condition;
          canonical =
              subst (λ n. IsCanonicalCondition literal n (condition.Not place inner.2.condition)) (sym g.1)
              (not literal g.0 place inner.2.condition inner.2.canonical);
          short = omega (arith, size_not place inner.2.condition 2, one_less g.4, inner.2.short);
        },
        inner.3,
      );
}

group_row : IsSoundRow part.Literal (nth (rows_of part.Literal) 1)
unfolding rows_of
group_row = record {
  along = λ room last tokens parts goal g before.
      let inner = g.6 tt in
      let close = inner.3 in (
        Some close.0,
        close.1,
        record {
          condition = inner.2.condition;
          canonical = subst (λ n. IsCanonicalCondition literal n inner.2.condition) (sym g.1) (anywhere literal inner.2.canonical);
          short = omega (arith, (condition_rises inner.2.condition).at_most, one_less g.4, inner.2.short, one_less close.2);
        },
        close.4,
      );
}

true_row : IsSoundRow part.Literal (nth (rows_of part.Literal) 2)
unfolding rows_of
true_row = record {
  along = λ room last tokens parts goal g before.
      let place : Pos = place_of (Some g.0) in (
        Some g.0,
        g.1,
        record { condition = condition.True place; canonical = truth literal room place; short = omega (arith, size_true place 2, one_less g.2) },
        g.4,
      );
}

false_row : IsSoundRow part.Literal (nth (rows_of part.Literal) 3)
unfolding rows_of
false_row = record {
  along = λ room last tokens parts goal g before.
      let place : Pos = place_of (Some g.0) in (
        Some g.0,
        g.1,
        record {
          condition = condition.False place;
          canonical = falsehood literal room place;
          short = omega
              (arith, size_false place 2, one_less g.2);
        },
        g.4,
      );
}

term_row : IsSoundRow part.Literal (nth (rows_of part.Literal) 4)
unfolding rows_of roll-Condition roll out-Condition out
term_row = record {
  along = λ room last tokens parts goal g before.
      let t = g tt in
      elim (t.3 tt) [
        | inl stopped ↦ (
          t.0,
          t.1,
          record {
            condition = condition.Truth t.2.term;
            canonical = term literal room t.2.term t.2.free;
            short = omega (arith, size_truth t.2.term 2, t.2.short);
          },
          stopped.1,
        )
        | inr related ↦ (
          related.0,
          related.1,
          record {
            condition = related.2.of t.2.term;
            canonical = related.2.canonical t.2.term
                t.2.free;
            short = omega (arith, related.2.short t.2.term, t.2.short);
          },
          related.3,
        )
      ];
}

pub literal_sound : AreSoundRows part.Literal (rows_of part.Literal)
unfolding rows_of
literal_sound = or_row not_row (or_row group_row (or_row true_row (or_row false_row (or_row term_row no_row))))

-- ---- relations

same_row : IsSoundRow part.LiteralRelation (nth (rows_of part.LiteralRelation) 0)
unfolding rows_of
same_row = record {
  along = λ room last tokens parts goal g before.
      let u = g.4 tt in
      let place : Pos = place_of (Some g.0) in (
        u.0,
        u.1,
        record {
          of = λ t. condition.Same t place u.2.term;
          canonical = λ t free. same literal room t place u.2.term
              free u.2.free;
          short = λ t. omega (arith, size_same t place u.2.term 2, one_less g.2, u.2.short);
        },
        u.3,
      );
}

differ_row : IsSoundRow part.LiteralRelation (nth (rows_of part.LiteralRelation) 1)
unfolding rows_of
differ_row = record {
  along = λ room last tokens parts goal g before.
      let u = g.4 tt in
      let place : Pos = place_of (Some g.0) in (
        u.0,
        u.1,
        record {
          of = λ t. condition.Differ t place u.2.term;
          canonical = λ t free. differ literal room t place
              u.2.term free u.2.free;
          short = λ t. omega (arith, size_differ t place u.2.term 2, one_less g.2, u.2.short);
        },
        u.3,
      );
}

is_row : IsSoundRow part.LiteralRelation (nth (rows_of part.LiteralRelation) 2)
unfolding rows_of
is_row = record {
  along = λ room last tokens parts goal g before.
      let v = g.4 in
      let place : Pos = place_of (Some g.0) in
      let x : Name = name_of (Some v.0) in (
        Some v.0,
        v.1,
        record {
          of = λ t. condition.Is t place x;
          canonical = λ t free. of_variant literal room t place x free
              (free_name v.0 v.3);
          short = λ t. omega (arith, size_is t place x 2, one_less g.2, one_less v.2);
        },
        v.4,
      );
}

pub literal_relation_sound : AreSoundRows part.LiteralRelation (rows_of part.LiteralRelation)
unfolding rows_of
literal_relation_sound = or_row same_row (or_row differ_row (or_row is_row no_row))
