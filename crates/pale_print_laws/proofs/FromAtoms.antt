-- Assertions without connectives that a reading makes are canonical, and spelled in no more tokens than they were read from.
use Rattle.std.proofs.Common.{◌+◌, ◌≤◌, length, arith, ap, ◌≡◌, inl, inr, ℕ, false, List, [], ◌∷◌, ◌++◌, Some, refl, sym, subst}
use Rattle.pale_syntax.specs.declared.grammar.part.ProgramPart.TheVariants as part
use Rattle.pale_text.specs.declared.place.Pos.{Pos}
use Rattle.pale_text.specs.declared.token.Token.{Token}
use Rattle.pale_syntax.specs.declared.tree.names.Name.{Name}
use Rattle.pale_syntax.specs.declared.tree.names.Path.{Path}
use Rattle.pale_syntax.specs.declared.tree.names.Term.TheVariants as tree_term
use Rattle.pale_syntax.specs.declared.tree.assertion.Assertion.{Assertion, out-Assertion, roll-Assertion}
use Rattle.pale_syntax.specs.declared.tree.assertion.Assertion.TheVariants as assertion
use denote.Hole.Carrier.{roll, out}
use Rattle.plain_data.specs.Stacks.{top, rest}
use Rattle.pale_syntax.specs.MakingParts.{Parts, name_of}
use Rattle.pale_text.specs.Tokens.{place_of}
use Rattle.pale_syntax.specs.MakingWords.{path_at, extended}
use Rattle.pale_syntax.specs.MakingAssertions.{assertionless, path_alone}
use Rattle.pale_syntax.specs.ProgramGrammar.{rows_of}
use Rattle.pale_syntax.specs.FreeNames.{IsFreePath, AreFreePaths}
use Rattle.pale_print_laws.specs.CanonicalAssertions.{operand, IsCanonicalAssertion, truth, falsehood, path, same, differ}
use Rattle.pale_print_laws.specs.CanonicalAssertions.{member, subset, walk, of_variant, use_of}
use Rattle.pale_print_laws.proofs.NameSizes.{path_size, extended_size, one_less}
use Rattle.pale_print_laws.proofs.AssertionSizes.{used_size, used_last, size_true, size_false, size_truth, size_same}
use Rattle.pale_print_laws.proofs.AssertionSizes.{size_differ, size_member, size_subset, size_is, size_walk, size_use}
use Rattle.pale_print_laws.proofs.AssertionPlaceSizes.{assertion_rises}
use Rattle.pale_print_laws.proofs.FromRows.{Several, no_more, one_more, puts}
use Rattle.pale_print_laws.proofs.FromMade.{FreeName, PathsMade}
use Rattle.pale_print_laws.proofs.FromMeaning.{program_meaning}
use Rattle.pale_print_laws.proofs.FromParts.{IsSoundRow, AreSoundRows, no_row, or_row, nth, free_name}
use Rattle.pale_print_laws.proofs.FromNames.{extended_free}
use Rattle.pale_print_laws.proofs.FromAssertionPlaces.{anywhere}

-- ---- relations

same_row : IsSoundRow part.Relation (nth (rows_of part.Relation) 0)
unfolding rows_of
same_row = record {
  along = λ room last tokens parts goal g before.
      let u = g.4 tt in
      let place : Pos = place_of (Some g.0) in (
        u.0,
        u.1,
        record {
          of = λ t. assertion.Same t place u.2.term;
          canonical = λ t free f. same operand f room t place
              u.2.term free u.2.free;
          short = λ t f. omega (arith, size_same t place u.2.term 4 f, one_less g.2, u.2.short);
        },
        u.3,
      );
}

differ_row : IsSoundRow part.Relation (nth (rows_of part.Relation) 1)
unfolding rows_of
differ_row = record {
  along = λ room last tokens parts goal g before.
      let u = g.4 tt in
      let place : Pos = place_of (Some g.0) in (
        u.0,
        u.1,
        record {
          of = λ t. assertion.Differ t place u.2.term;
          canonical = λ t free f. differ operand f room t place
              u.2.term free u.2.free;
          short = λ t f. omega (arith, size_differ t place u.2.term 4 f, one_less g.2, u.2.short);
        },
        u.3,
      );
}

member_row : IsSoundRow part.Relation (nth (rows_of part.Relation) 2)
unfolding rows_of
member_row = record {
  along = λ room last tokens parts goal g before.
      let v = g.4 in
      let place : Pos = place_of (Some g.0) in
      let x : Name = name_of (Some v.0) in (
        Some v.0,
        v.1,
        record {
          of = λ t. assertion.Member t place x;
          canonical = λ t free f. member operand f room t place x
              free (free_name v.0 v.3);
          short = λ t f. omega (arith, size_member t place x 4 f, one_less g.2, one_less v.2);
        },
        v.4,
      );
}

subset_row : IsSoundRow part.Relation (nth (rows_of part.Relation) 3)
unfolding rows_of
subset_row = record {
  along = λ room last tokens parts goal g before.
      let v = g.4 in
      let place : Pos = place_of (Some g.0) in
      let x : Name = name_of (Some v.0) in (
        Some v.0,
        v.1,
        record {
          of = λ t. assertion.Subset t place x;
          canonical = λ t free f. subset operand f room t place x
              free (free_name v.0 v.3);
          short = λ t f. omega (arith, size_subset t place x 4 f, one_less g.2, one_less v.2);
        },
        v.4,
      );
}

walk_row : IsSoundRow part.Relation (nth (rows_of part.Relation) 4)
unfolding rows_of
walk_row = record {
  along = λ room last tokens parts goal g before.
      let r = g.4 tt in
      let u = r.3.4 tt in
      let place : Pos = place_of (Some g.0) in (
        u.0,
        u.1,
        record {
          of = λ t. assertion.Walk t place r.2.route u.2.term;
          canonical = λ t free f. walk operand f room t place r.2.route u.2.term free r.2.canonical u.2.free;
          short = λ t f. omega (arith, size_walk t place r.2.route u.2.term 4 f, one_less g.2, r.2.short, one_less r.3.2, u.2.short);
        },
        u.3,
      );
}

is_row : IsSoundRow part.Relation (nth (rows_of part.Relation) 5)
unfolding rows_of
is_row = record {
  along = λ room last tokens parts goal g before.
      let v = g.4 in
      let place : Pos = place_of (Some g.0) in
      let x : Name = name_of (Some v.0) in (
        Some v.0,
        v.1,
        record {
          of = λ t. assertion.Is t place x;
          canonical = λ t free f. of_variant operand f room t place x
              free (free_name v.0 v.3);
          short = λ t f. omega (arith, size_is t place x 4 f, one_less g.2, one_less v.2);
        },
        v.4,
      );
}

pub relation_sound : AreSoundRows part.Relation (rows_of part.Relation)
unfolding rows_of
relation_sound = or_row same_row (or_row differ_row (or_row member_row (or_row subset_row (or_row walk_row (or_row is_row no_row)))))

name_relation_row : IsSoundRow part.NameRelation (nth (rows_of part.NameRelation) 0)
unfolding rows_of
name_relation_row = record { along = λ room last tokens parts goal g before. g tt }

pub name_relation_sound : AreSoundRows part.NameRelation (rows_of part.NameRelation)
unfolding rows_of
name_relation_sound = or_row name_relation_row no_row

-- ---- the arguments of a predicate

one_more_path : (ps : List Path) (p : Path) → AreFreePaths ps → IsFreePath p → AreFreePaths (ps ++ p ∷ [])
one_more_path [] p free is = (is, tt)
one_more_path (q ∷ ps) p free is = (free.0, one_more_path ps p free.1 is)

no_paths : (parts : Parts) → parts.used ≡ [] → AreFreePaths parts.used
no_paths parts is = subst (λ ps. AreFreePaths ps) (sym is) tt

used_made : (room : ℕ) (start end : List Token) (several : Several program_meaning part.NextUsedPath room start end) (ps : List Path) → AreFreePaths ps →
    (first : List Token) → used_size ps + length start ≤ length first → (parts : Parts) →
    (made : PathsMade first end)
    × (puts program_meaning part.NextUsedPath room start end several (record parts { used = ps }) ≡ record parts { used = made.paths })
used_made room start end (no_more _ stops) ps free first short parts = (record { paths = ps; free = free; short = short }, refl)
used_made room start end (one_more _ middle _ one others) ps free first short parts =
    let l = one.short in
    used_made room middle end others (ps ++ one.path ∷ []) (one_more_path ps one.path free one.free) first (omega (arith, used_last ps one.path)) parts

used_row : IsSoundRow part.UsedPaths (nth (rows_of part.UsedPaths) 0)
unfolding rows_of
used_row = record {
  along = λ room last tokens parts goal g before.
      let first = g tt in
      let others = first.3 tt in
      let made =
      used_made room first.1 others.1 others.2 (parts.used ++ first.2.path ∷ [])
      (one_more_path parts.used first.2.path (no_paths parts before) first.2.free)
      tokens (subst (λ (ps : List Path). used_size (ps ++ first.2.path ∷ []) + length first.1 ≤ length tokens) (sym before)
      (omega (arith, first.2.short))) parts in
      (others.0, others.1, made.0, subst (λ q. goal others.0 others.1 q) made.1 others.3);
}

pub used_paths_sound : AreSoundRows part.UsedPaths (rows_of part.UsedPaths)
unfolding rows_of
used_paths_sound = or_row used_row no_row

next_used_row : IsSoundRow part.NextUsedPath (nth (rows_of part.NextUsedPath) 0)
unfolding rows_of
next_used_row = record {
  along = λ room last tokens parts goal g before.
      let p = g.4 tt in
      (p.0, p.1, record { path = p.2.path; free = p.2.free; short = omega (arith, one_less g.2, p.2.short) }, p.3);
}

pub next_used_path_sound : AreSoundRows part.NextUsedPath (rows_of part.NextUsedPath)
unfolding rows_of
next_used_path_sound = or_row next_used_row no_row

-- ---- what follows the name that begins an assertion

step_row : IsSoundRow part.PathAloneStep (nth (rows_of part.PathAloneStep) 0)
unfolding rows_of
step_row = record {
  along = λ room last tokens parts goal g before.
      let name = g.4 in (
        Some name.0,
        name.1,
        record { name = name_of (Some name.0); free = free_name name.0 name.3; short = omega (arith, one_less g.2, one_less name.2) },
        name.4,
      );
}

pub path_alone_step_sound : AreSoundRows part.PathAloneStep (rows_of part.PathAloneStep)
unfolding rows_of
path_alone_step_sound = or_row step_row no_row

-- the path and these fields behind it
extended_by : Path → List FreeName → Path
extended_by p [] = p
extended_by p (f ∷ fs) = extended_by (extended p f.name) fs

extended_by_free : (p : Path) (fs : List FreeName) → IsFreePath p → IsFreePath (extended_by p fs)
unfolding extended_by
extended_by_free p [] free = free
extended_by_free p (f ∷ fs) free = extended_by_free (extended p f.name) fs (extended_free p f.name free f.free)

steps_made : (room : ℕ) (start end : List Token) (several : Several program_meaning part.PathAloneStep room start end) →
    (fs : List FreeName) × ((p : Path) (parts : Parts) (below : List Assertion) →
    puts program_meaning part.PathAloneStep room start end several (record parts { assertions = assertion.Truth p ∷ below }) ≡
    record parts { assertions = assertion.Truth (extended_by p fs) ∷ below }) ×
    ((p : Path) → path_size (extended_by p fs) + length end ≤ path_size p + length start)
unfolding extended_by roll-Assertion roll out-Assertion out
steps_made room start end (no_more _ stops) = ([], λ p parts below. refl, λ p. omega arith)
steps_made room start end (one_more _ middle _ one others) =
    let more = steps_made room middle end others in (
      record { name = one.name; free = one.free } ∷ more.0,
      λ p parts below. more.1 (extended p one.name) parts below,
      λ p. omega (arith, more.2 (extended p one.name), extended_size p one.name, one.short),
    )

use_row : IsSoundRow part.NameRest (nth (rows_of part.NameRest) 0)
unfolding rows_of
use_row = record {
  along = λ room last tokens parts goal g before.
      elim (g.4 before) [
        | inl none ↦
            let close = none.1 in (
              Some close.0,
              close.1,
              record {
                of = λ p. assertion.Use p.base parts.used;
                canonical = λ p free f. use_of operand f room p.base parts.used free.base (no_paths parts before);
                short = λ p f. omega (arith, size_use p.base parts.used 4 f, ap used_size before, one_less g.2, one_less close.2);
              },
              subst (λ u. goal (Some close.0) close.1
                  (record parts
                  { assertions = assertion.Use (path_alone (top assertionless parts.assertions)).base parts.used ∷ rest parts.assertions; used = u }))
                  (sym before) close.4,
            )
        | inr some ↦
            let close = some.3 in (
              Some close.0,
              close.1,
              record {
                of = λ p. assertion.Use p.base some.2.paths;
                canonical = λ p free f. use_of operand f room p.base some.2.paths free.base some.2.free;
                short = λ p f. omega (arith, size_use p.base some.2.paths 4 f, some.2.short, one_less g.2, one_less close.2);
              },
              subst (λ u. goal (Some close.0) close.1
                  (record parts
                  { assertions = assertion.Use (path_alone (top assertionless parts.assertions)).base some.2.paths ∷ rest parts.assertions; used = u }))
                  (sym before) close.4,
            )
      ];
}

longer_row : IsSoundRow part.NameRest (nth (rows_of part.NameRest) 1)
unfolding rows_of roll-Assertion roll out-Assertion out
longer_row = record {
  along = λ room last tokens parts goal g before.
      let first = g tt in
      let others = first.3 tt in
      let made = steps_made room first.1 others.1 others.2 in
      let alone : Path = path_alone (top assertionless parts.assertions) in
      let e = made.1 (extended alone first.2.name) parts (rest parts.assertions) in
      elim (others.3 tt) [
        | inl stopped ↦ (
          others.0,
          others.1,
          record {
            of = λ p. assertion.Truth (extended_by (extended p first.2.name) made.0);
            canonical = λ p free f. path operand f room (extended_by (extended p first.2.name) made.0)
                (extended_by_free (extended p first.2.name) made.0 (extended_free p first.2.name free first.2.free));
            short = λ p f. omega (
              arith,
              size_truth (extended_by (extended p first.2.name) made.0) 4 f,
              made.2 (extended p first.2.name),
              extended_size p first.2.name,
              first.2.short,
            );
          },
          subst (λ q. goal others.0 others.1 q) e stopped.1,
        )
        | inr related ↦ (
          related.0,
          related.1,
          record {
            of = λ p. related.2.of (tree_term.Path (extended_by (extended p first.2.name) made.0));
            canonical = λ p free f. related.2.canonical (tree_term.Path (extended_by (extended p first.2.name) made.0))
                (extended_by_free (extended p first.2.name) made.0 (extended_free p first.2.name free first.2.free)) f;
            short = λ p f. omega (
              arith,
              related.2.short (tree_term.Path (extended_by (extended p first.2.name) made.0)) f,
              made.2 (extended p first.2.name),
              extended_size p first.2.name,
              first.2.short,
            );
          },
          subst (λ (q : Parts). goal related.0 related.1
              (record q { assertions = related.2.of (tree_term.Path (path_alone (top assertionless q.assertions))) ∷ rest q.assertions })) e related.3,
        )
      ];
}

related_row : IsSoundRow part.NameRest (nth (rows_of part.NameRest) 2)
unfolding rows_of
related_row = record {
  along = λ room last tokens parts goal g before.
      let made = g tt in (
        made.0,
        made.1,
        record {
          of = λ p. made.2.of (tree_term.Path p);
          canonical = λ p free f. made.2.canonical
              (tree_term.Path p) free f;
          short = λ p f. omega (arith, made.2.short (tree_term.Path p) f);
        },
        made.3,
      );
}

pub name_rest_sound : AreSoundRows part.NameRest (rows_of part.NameRest)
unfolding rows_of
name_rest_sound = or_row use_row (or_row longer_row (or_row related_row no_row))

-- ---- assertions without connectives

group_row : IsSoundRow part.Primary (nth (rows_of part.Primary) 0)
unfolding rows_of
group_row = record {
  along = λ room last tokens parts goal g before.
      let inner = g.6 before in
      let close = inner.3 in (
        Some close.0,
        close.1,
        record {
          assertion = inner.2.0.assertion;
          canonical = λ f. subst (λ n. IsCanonicalAssertion operand f n inner.2.0.assertion) (sym g.1) (anywhere operand f (inner.2.0.canonical false tt));
          short = λ f. omega (arith, (assertion_rises inner.2.0.assertion).at_most f, one_less g.4, inner.2.0.short false tt, one_less close.2);
        },
        close.4,
      );
}

true_row : IsSoundRow part.Primary (nth (rows_of part.Primary) 1)
unfolding rows_of
true_row =
    record {
      along = λ room last tokens parts goal g before. (
        Some g.0,
        g.1,
        record { assertion = assertion.True; canonical = λ f. truth operand f room; short = λ f. omega (arith, size_true 4 f, one_less g.2) },
        g.4,
      );
    }

false_row : IsSoundRow part.Primary (nth (rows_of part.Primary) 2)
unfolding rows_of
false_row = record {
  along = λ room last tokens parts goal g before. (
    Some g.0,
    g.1,
    record { assertion = assertion.False; canonical = λ f. falsehood operand f room; short = λ f. omega (arith, size_false 4 f, one_less g.2) },
    g.4,
  );
}

null_row : IsSoundRow part.Primary (nth (rows_of part.Primary) 3)
unfolding rows_of
null_row = record {
  along = λ room last tokens parts goal g before.
      let related = g.4 tt in
      let place : Pos = place_of (Some g.0) in (
        related.0,
        related.1,
        record {
          assertion = related.2.of (tree_term.Null place);
          canonical = λ f. related.2.canonical (tree_term.Null place)
              tt f;
          short = λ f. omega (arith, related.2.short (tree_term.Null place) f, one_less g.2);
        },
        related.3,
      );
}

name_row : IsSoundRow part.Primary (nth (rows_of part.Primary) 4)
unfolding rows_of roll-Assertion roll out-Assertion out
name_row = record {
  along = λ room last tokens parts goal g before.
      let x : Name = name_of (Some g.0) in
      let free : IsFreePath (path_at x) = record { base = free_name g.0 g.3; fields = tt } in
      elim (g.4 before) [
        | inl stopped ↦ (
          Some g.0,
          g.1,
          record {
            assertion = assertion.Truth (path_at x);
            canonical = λ f. path operand f room (path_at x)
                free;
            short = λ f. omega (arith, size_truth (path_at x) 4 f, one_less g.2);
          },
          stopped.1,
        )
        | inr more ↦ (
          more.0,
          more.1,
          record {
            assertion = more.2.of (path_at x);
            canonical = λ f. more.2.canonical (path_at x) free f;
            short = λ f. omega (arith, more.2.short (path_at x) f, one_less g.2);
          },
          more.3,
        )
      ];
}

pub primary_sound : AreSoundRows part.Primary (rows_of part.Primary)
unfolding rows_of
primary_sound = or_row group_row (or_row true_row (or_row false_row (or_row null_row (or_row name_row no_row))))
