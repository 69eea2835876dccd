-- Values, arguments and calls that a reading makes are canonical, and spelled in no more tokens than they were read from.
use Rattle.std.proofs.Common.{◌+◌, ◌≤◌, length, arith, ◌≡◌, inl, inr, ℕ, true, false, List, [], ◌∷◌, ◌++◌, Option, None, Some}
use Rattle.std.proofs.Common.{refl, sym, ap, ◌∙◌, subst, append_assoc, append-nil}
use Rattle.ll1_reader.specs.declared.symbol.Symbol.TheVariants.{Read, Once, Maybe}
use Rattle.pale_syntax.specs.declared.grammar.kind.ProgramKind.TheVariants as kind
use Rattle.pale_syntax.specs.declared.grammar.part.ProgramPart.TheVariants as part
use Rattle.pale_text.specs.declared.place.Pos.{Pos}
use Rattle.pale_text.specs.declared.token.Mark.TheVariants as mark
use Rattle.pale_text.specs.declared.token.Token.{Token}
use Rattle.pale_syntax.specs.declared.tree.names.Name.{Name}
use Rattle.pale_syntax.specs.declared.tree.assertion.Bracketed.{Bracketed}
use Rattle.pale_syntax.specs.declared.tree.statement.Argument.{Argument}
use Rattle.pale_syntax.specs.declared.tree.statement.Argument.TheVariants as argument
use Rattle.pale_syntax.specs.declared.tree.statement.Value.TheVariants as value
use Rattle.plain_data.specs.Stacks.{top, rest}
use Rattle.pale_text.specs.Tokens.{first_of}
use Rattle.pale_syntax.specs.MakingParts.{Parts, nameless, name_of}
use Rattle.pale_text.specs.Tokens.{place_of}
use Rattle.pale_syntax.specs.ProgramGrammar.{ProgramSymbol, rows_of, reads, push_name}
use Rattle.pale_syntax.specs.FreeNames.{AreFree}
use Rattle.pale_print_laws.specs.CanonicalStatements.{IsFreeArgument, AreFreeArguments, IsCanonicalClause}
use Rattle.pale_print_laws.proofs.NameSizes.{one_less}
use Rattle.pale_print_laws.proofs.ListSizes.{behind_size, separated_size, separated_last}
use Rattle.pale_print_laws.proofs.StatementSizes.{one_token, clause_size, logic_argument_size, logic_arguments_at_most}
use Rattle.pale_print_laws.proofs.FromRows.{Several, no_more, one_more, puts, Goal, Goes}
use Rattle.pale_print_laws.proofs.FromMade.{ArgumentsMade, GivenMade}
use Rattle.pale_print_laws.proofs.FromMeaning.{program_meaning}
use Rattle.pale_print_laws.proofs.FromParts.{IsSoundRow, AreSoundRows, no_row, or_row, nth, free_name}

-- ---- arguments

name_row : IsSoundRow part.Argument (nth (rows_of part.Argument) 0)
unfolding rows_of
name_row = record {
  along = λ room last tokens parts goal g before.
      (Some g.0, g.1, record { argument = argument.Name (name_of (Some g.0)); free = free_name g.0 g.3; short = omega (arith, one_less g.2) }, g.4);
}

null_row : IsSoundRow part.Argument (nth (rows_of part.Argument) 1)
unfolding rows_of
null_row = record {
  along = λ room last tokens parts goal g before.
      (Some g.0, g.1, record { argument = argument.Null (place_of (Some g.0)); free = tt; short = omega (arith, one_less g.2) }, g.4);
}

true_row : IsSoundRow part.Argument (nth (rows_of part.Argument) 2)
unfolding rows_of
true_row = record {
  along = λ room last tokens parts goal g before.
      (Some g.0, g.1, record { argument = argument.Truth (place_of (Some g.0)) true; free = tt; short = omega (arith, one_less g.2) }, g.4);
}

false_row : IsSoundRow part.Argument (nth (rows_of part.Argument) 3)
unfolding rows_of
false_row = record {
  along = λ room last tokens parts goal g before.
      (Some g.0, g.1, record { argument = argument.Truth (place_of (Some g.0)) false; free = tt; short = omega (arith, one_less g.2) }, g.4);
}

pub argument_sound : AreSoundRows part.Argument (rows_of part.Argument)
unfolding rows_of
argument_sound = or_row name_row (or_row null_row (or_row true_row (or_row false_row no_row)))

next_argument_row : IsSoundRow part.NextArgument (nth (rows_of part.NextArgument) 0)
unfolding rows_of
next_argument_row = record {
  along = λ room last tokens parts goal g before.
      let made = g.4 tt in
      (made.0, made.1, record { argument = made.2.argument; free = made.2.free; short = omega (arith, one_less g.2, made.2.short) }, made.3);
}

pub next_argument_sound : AreSoundRows part.NextArgument (rows_of part.NextArgument)
unfolding rows_of
next_argument_sound = or_row next_argument_row no_row

one_more_argument : (xs : List Argument) (x : Argument) → AreFreeArguments xs → IsFreeArgument x → AreFreeArguments (xs ++ x ∷ [])
one_more_argument [] x free is = (is, tt)
one_more_argument (y ∷ xs) x free is = (free.0, one_more_argument xs x free.1 is)

no_arguments : (parts : Parts) → parts.arguments ≡ [] → AreFreeArguments parts.arguments
no_arguments parts is = subst (λ xs. AreFreeArguments xs) (sym is) tt

arguments_made : (room : ℕ) (start end : List Token) (several : Several program_meaning part.NextArgument room start end) (xs : List Argument) →
    AreFreeArguments xs →
    (n : ℕ) (first : List Token) → n + (separated_size one_token xs + length start) ≤ length first → (parts : Parts) →
    (made : ArgumentsMade n first end) × (puts program_meaning part.NextArgument room start end several
    (record parts { arguments = xs }) ≡ record parts { arguments = made.arguments })
arguments_made room start end (no_more _ stops) xs free n first short parts = (record { arguments = xs; free = free; short = short }, refl)
arguments_made room start end (one_more _ middle _ one others) xs free n first short parts =
    let l = one.short in
    arguments_made room middle end others (xs ++ one.argument ∷ []) (one_more_argument xs one.argument free one.free) n first
    (omega (arith, separated_last one_token xs one.argument)) parts

argued_row : IsSoundRow part.Argued (nth (rows_of part.Argued) 0)
unfolding rows_of
argued_row = record {
  along = λ room last tokens parts goal g before.
      let first = g tt in
      let others = first.3 tt in
      let made =
      arguments_made room first.1 others.1 others.2 (parts.arguments ++ first.2.argument ∷ [])
      (one_more_argument parts.arguments first.2.argument (no_arguments parts before) first.2.free)
      0 tokens (subst (λ (xs : List Argument). 0 + (separated_size one_token (xs ++ first.2.argument ∷ []) + length first.1) ≤ length tokens) (sym before)
      (omega (arith, first.2.short))) parts in
      (others.0, others.1, made.0, subst (λ q. goal others.0 others.1 q) made.1 others.3);
}

pub argued_sound : AreSoundRows part.Argued (rows_of part.Argued)
unfolding rows_of
argued_sound = or_row argued_row no_row

logic_row : IsSoundRow part.LogicArguments (nth (rows_of part.LogicArguments) 0)
unfolding rows_of
logic_row = record {
  along = λ room last tokens parts goal g before.
      let first = g.4 tt in
      let others = first.3 tt in
      let made =
      arguments_made room first.1 others.1 others.2 (parts.arguments ++ first.2.argument ∷ [])
      (one_more_argument parts.arguments first.2.argument (no_arguments parts before) first.2.free)
      1 tokens (subst (λ (xs : List Argument). 1 + (separated_size one_token (xs ++ first.2.argument ∷ []) + length first.1) ≤ length tokens) (sym before)
      (omega (arith, first.2.short, one_less g.2))) parts in
      (others.0, others.1, made.0, subst (λ q. goal others.0 others.1 q) made.1 others.3);
}

pub logic_arguments_sound : AreSoundRows part.LogicArguments (rows_of part.LogicArguments)
unfolding rows_of
logic_arguments_sound = or_row logic_row no_row

keep_row : IsSoundRow part.Keep (nth (rows_of part.Keep) 0)
unfolding rows_of
keep_row = record {
  along = λ room last tokens parts goal g before.
      let made = g.4 before in
      (made.0, made.1, record { bracketed = made.2.bracketed; canonical = made.2.canonical; short = omega (arith, one_less g.2, made.2.short) }, made.3);
}

pub keep_sound : AreSoundRows part.Keep (rows_of part.Keep)
unfolding rows_of
keep_sound = or_row keep_row no_row

-- what is given to a call, and what it keeps
GivenAt : ℕ → List Token → Parts → Goal → Type 0
GivenAt room start parts goal =
    (behind : Option Token) × (others : List Token) × (made : GivenMade room start others) ×
    goal behind others (record parts { given = made.given; arguments = made.logics; keep = made.keep })

abbrev closing_row : List ProgramSymbol
closing_row = reads mark.RightParen ∷ Maybe part.Keep ∷ []

keep_made : (room : ℕ) (last : Option Token) (tokens : List Token) (parts : Parts) (goal : Goal) (given logics : List Argument) →
    AreFreeArguments given → AreFreeArguments logics →
    (start : List Token) → separated_size one_token given + (logic_argument_size logics + length tokens) ≤ length start →
    parts.used ≡ [] → parts.keep ≡ None →
    Goes program_meaning closing_row room last tokens (record parts { given = given; arguments = logics }) goal →
    GivenAt room start parts goal
unfolding GivenAt
keep_made room last tokens parts goal given logics free free_too start short used keep g =
    elim (g.4 used) [
      | inl none ↦ (
        Some g.0,
        g.1,
        record {
          given = given;
          given_free = free;
          logics = logics;
          logics_free = free_too;
          keep = parts.keep;
          keep_canonical = subst (λ (k : Option Bracketed). IsCanonicalClause room k) (sym keep) tt;
          short = omega (arith, ap clause_size keep, one_less g.2);
        },
        none.1,
      )
      | inr some ↦ (
        some.0,
        some.1,
        record {
          given = given;
          given_free = free;
          logics = logics;
          logics_free = free_too;
          keep = Some some.2.bracketed;
          keep_canonical = some.2.canonical;
          short = omega (arith, some.2.short, one_less g.2);
        },
        some.3,
      )
    ]

logics_made : (room : ℕ) (last : Option Token) (tokens : List Token) (parts : Parts) (goal : Goal) (given : List Argument) → AreFreeArguments given →
    (start : List Token) → separated_size one_token given + length tokens ≤ length start → parts.used ≡ [] →
    parts.keep ≡ None →
    Goes program_meaning (Maybe part.LogicArguments ∷ closing_row) room last tokens (record parts { given = given; arguments = [] }) goal →
    GivenAt room start parts goal
logics_made room last tokens parts goal given free start short used keep g =
    elim (g refl) [
      | inl none ↦ keep_made room last tokens parts goal given [] free tt start (omega arith) used keep none.1
      | inr some ↦ keep_made room some.0 some.1 parts goal given some.2.arguments free some.2.free start
          (omega (arith, some.2.short, logic_arguments_at_most some.2.arguments)) used keep some.3
    ]

given_row : IsSoundRow part.Arguments (nth (rows_of part.Arguments) 0)
unfolding rows_of GivenAt
given_row = record {
  along = λ room last tokens parts goal g before.
      elim (g before.1) [
        | inl none ↦ logics_made room last tokens parts goal parts.arguments (no_arguments parts before.1)
            tokens (omega (arith, ap (separated_size one_token) before.1)) before.0 before.2 none.1
        | inr some ↦ logics_made room some.0 some.1 parts goal some.2.arguments some.2.free tokens (omega (arith, some.2.short)) before.0 before.2 some.3
      ];
}

pub arguments_sound : AreSoundRows part.Arguments (rows_of part.Arguments)
unfolding rows_of
arguments_sound = or_row given_row no_row

-- ---- results

next_result_row : IsSoundRow part.NextResult (nth (rows_of part.NextResult) 0)
unfolding rows_of
next_result_row = record {
  along = λ room last tokens parts goal g before.
      let name = g.4 in (
        Some name.0,
        name.1,
        record { name = name_of (Some name.0); free = free_name name.0 name.3; short = omega (arith, one_less g.2, one_less name.2) },
        name.4,
      );
}

pub next_result_sound : AreSoundRows part.NextResult (rows_of part.NextResult)
unfolding rows_of
next_result_sound = or_row next_result_row no_row

results_made : (room : ℕ) (start end : List Token) (several : Several program_meaning part.NextResult room start end) →
    (names : List Name) × AreFree names × ((xs : List Name) (parts : Parts) →
    puts program_meaning part.NextResult room start end several (record parts { call_results = xs }) ≡ record parts { call_results = xs ++ names }) ×
    (behind_size one_token names + length end ≤ length start)
results_made room start end (no_more _ stops) =
    ([], tt, λ xs parts. ap (λ (l : List Name). record parts { call_results = l }) (sym (append-nil xs)), omega arith)
results_made room start end (one_more _ middle _ one others) =
    let more = results_made room middle end others in (
      one.name ∷ more.0,
      (one.free, more.1),
      λ xs parts.
          more.2 (xs ++ one.name ∷ []) parts ∙ ap (λ (l : List Name). record parts { call_results = l }) (append_assoc xs (one.name ∷ []) more.0),
      omega (arith, more.3, one.short),
    )

no_results_row : IsSoundRow part.CallRest (nth (rows_of part.CallRest) 0)
unfolding rows_of
no_results_row = record {
  along = λ room last tokens parts goal g before.
      let made = g.4 before in
      (made.0, made.1, record { results = inl tt; middle = g.1; given = made.2; short = omega (arith, one_less g.2) }, made.3);
}

abbrev callee_row : List ProgramSymbol
callee_row = reads mark.Equals ∷ Read kind.Name ∷ push_name ∷ reads mark.LeftParen ∷ Once part.Arguments ∷ []

results_row : IsSoundRow part.CallRest (nth (rows_of part.CallRest) 1)
unfolding rows_of
results_row = record {
  along = λ room last tokens parts goal g before.
      let others = g tt in
      let made = results_made room tokens others.1 others.2 in
      let h : Goes program_meaning callee_row room others.0 others.1
      (record parts { call_results = (parts.call_results ++ top nameless parts.names ∷ []) ++ made.0; names = rest parts.names }) goal =
      subst (λ (p : Parts). Goes program_meaning callee_row room others.0 others.1 p goal)
      (made.2 (parts.call_results ++ top nameless parts.names ∷ []) (record parts { names = rest parts.names })) others.3 in
      let callee = h.4 in
      let given = callee.4.4 before in (
        given.0,
        given.1,
        record {
          results = inr (record { more = made.0; more_free = made.1; callee = record { name = name_of (Some callee.0); free = free_name callee.0 callee.3 } });
          middle = callee.4.1;
          given = given.2;
          short = omega (arith, made.3, one_less h.2, one_less callee.2, one_less callee.4.2);
        },
        given.3,
      );
}

pub call_rest_sound : AreSoundRows part.CallRest (rows_of part.CallRest)
unfolding rows_of
call_rest_sound = or_row no_results_row (or_row results_row no_row)

-- ---- values

new_row : IsSoundRow part.Value (nth (rows_of part.Value) 0)
unfolding rows_of
new_row = record {
  along = λ room last tokens parts goal g before.
      let ty = g.4 in
      let place : Pos = place_of (Some g.0) in
      let x : Name = name_of (Some ty.0) in
      elim (ty.4 tt) [
        | inl none ↦ (
          Some ty.0,
          ty.1,
          record { value = value.New place x None; canonical = (free_name ty.0 ty.3, tt); short = omega (arith, one_less g.2, one_less ty.2) },
          none.1,
        )
        | inr some ↦ (
          some.0,
          some.1,
          record {
            value = value.New place x (Some some.2.name);
            canonical = (free_name ty.0 ty.3, some.2.free);
            short = omega (arith, one_less g.2, one_less ty.2, some.2.short);
          },
          some.3,
        )
      ];
}

condition_row : IsSoundRow part.Value (nth (rows_of part.Value) 1)
unfolding rows_of
condition_row = record {
  along = λ room last tokens parts goal g before.
      let c = g tt in (
        c.0,
        c.1,
        record { value = value.Condition (place_of (first_of tokens)) c.2.condition; canonical = c.2.canonical; short = omega (arith, c.2.short) },
        c.3,
      );
}

pub value_sound : AreSoundRows part.Value (rows_of part.Value)
unfolding rows_of
value_sound = or_row new_row (or_row condition_row no_row)

new_variant_row : IsSoundRow part.NewVariant (nth (rows_of part.NewVariant) 0)
unfolding rows_of
new_variant_row = record {
  along = λ room last tokens parts goal g before.
      let name = g.4 in (
        Some name.0,
        name.1,
        record { name = name_of (Some name.0); free = free_name name.0 name.3; short = omega (arith, one_less g.2, one_less name.2) },
        name.4,
      );
}

pub new_variant_sound : AreSoundRows part.NewVariant (rows_of part.NewVariant)
unfolding rows_of
new_variant_sound = or_row new_variant_row no_row
