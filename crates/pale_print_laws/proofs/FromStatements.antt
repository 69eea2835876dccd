-- Statements that a reading makes are canonical, and spelled in no more tokens than they were read from.
use Rattle.std.proofs.Common.{◌+◌, ◌≤◌, suc, length, arith, ap, ◌≡◌, ◌⊎◌, inl, inr, ℕ, List, [], ◌∷◌, ◌++◌, Option, None, Some, refl, sym, subst}
use Rattle.pale_syntax.specs.declared.grammar.act.CallAct.TheVariants as calls
use Rattle.pale_syntax.specs.declared.grammar.part.ProgramPart.TheVariants as part
use Rattle.pale_text.specs.declared.place.Pos.{Pos}
use Rattle.pale_text.specs.declared.token.Mark.TheVariants as mark
use Rattle.pale_text.specs.declared.token.Token.{Token}
use Rattle.pale_syntax.specs.declared.tree.names.Name.{Name}
use Rattle.pale_syntax.specs.declared.tree.assertion.Bracketed.{Bracketed}
use Rattle.pale_syntax.specs.declared.tree.statement.Argument.{Argument}
use Rattle.pale_syntax.specs.declared.tree.statement.Call.{Call}
use Rattle.pale_syntax.specs.declared.tree.statement.Statement.{Statement}
use Rattle.pale_syntax.specs.declared.tree.statement.Statement.TheVariants as statement
use Rattle.pale_syntax.specs.MakingParts.{Parts, name_of}
use Rattle.pale_text.specs.Tokens.{place_of}
use Rattle.pale_syntax.specs.MakingStatements.{with_statement}
use Rattle.pale_syntax.specs.ProgramGrammar.{ProgramSymbol, rows_of, reads, call as calling}
use Rattle.pale_syntax.specs.FreeNames.{IsFree, AreFree}
use Rattle.pale_print_laws.specs.CanonicalConditions.{IsCanonicalCondition, whole}
use Rattle.pale_print_laws.specs.CanonicalAssertions.{IsCanonicalBracketed}
use Rattle.pale_print_laws.specs.CanonicalStatements.{IsCanonicalStatement, skip, if_alone, if_else, while, split, assert, free}
use Rattle.pale_print_laws.specs.CanonicalStatements.{call, assign, AreCanonicalStatements, none, more}
use Rattle.pale_print_laws.proofs.NameSizes.{one_less}
use Rattle.pale_print_laws.proofs.StatementSizes.{call_result_size, statements_size, statements_last, size_skip, size_if}
use Rattle.pale_print_laws.proofs.StatementSizes.{size_if_else, size_while, size_split, size_assert, size_free, size_call}
use Rattle.pale_print_laws.proofs.StatementSizes.{size_assign}
use Rattle.pale_print_laws.proofs.FromRows.{Several, no_more, one_more, puts, Goal, Goes}
use Rattle.pale_print_laws.proofs.FromMade.{rest_size, StatementMade, BlockMade, ConditionMade, BracketedMade, GivenMade, ResultsMade}
use Rattle.pale_print_laws.proofs.FromMeaning.{program_meaning, put, NoCall}
use Rattle.pale_print_laws.proofs.FromParts.{IsSoundRow, AreSoundRows, no_row, or_row, nth, free_name}
use Rattle.pale_print_laws.proofs.FromNames.{one_more_free}

-- ---- blocks

one_more_statement : {room : ℕ} {ss : List Statement} {s : Statement} → AreCanonicalStatements room ss →
    IsCanonicalStatement room s → AreCanonicalStatements room (ss ++ s ∷ [])
one_more_statement {s = s} (none room) c = more room s [] c (none room)
one_more_statement {s = s} (more room x ss d cs) c = more room x (ss ++ s ∷ []) d (one_more_statement cs c)

pub statements_made : (room : ℕ) (start end : List Token) (several : Several program_meaning part.Statement room start end) (ss : List Statement) →
    AreCanonicalStatements room ss →
    (first : List Token) → statements_size ss + length start ≤ length first → (parts : Parts) (below : List (List Statement)) →
    (made : List Statement) × AreCanonicalStatements room made ×
    (puts program_meaning part.Statement room start end several (record parts { blocks = ss ∷ below }) ≡ record parts { blocks = made ∷ below }) ×
    (statements_size made + length end ≤ length first)
statements_made room start end (no_more _ stops) ss c first short parts below = (ss, c, refl, short)
statements_made room start end (one_more _ middle _ one others) ss c first short parts below =
    let l = one.short in
    statements_made room middle end others (ss ++ one.statement ∷ []) (one_more_statement c one.canonical) first
    (omega (arith, statements_last ss one.statement)) parts below

abbrev closing_row : List ProgramSymbol
closing_row = reads mark.RightBrace ∷ []

block_row : IsSoundRow part.Block (nth (rows_of part.Block) 0)
unfolding rows_of
block_row = record {
  along = λ room last tokens parts goal g before.
      let body = g.6 before in
      let made = statements_made g.0 g.3 body.1 body.2 [] (none g.0) g.3 (omega arith) parts parts.blocks in
      let close : Goes program_meaning closing_row g.0 body.0 body.1 (record parts { blocks = made.0 ∷ parts.blocks }) goal =
      subst (λ (p : Parts). Goes program_meaning closing_row g.0 body.0 body.1 p goal) made.2 body.3 in (
        Some close.0,
        close.1,
        record { inside = g.0; opens = g.1; block = made.0; canonical = made.1; short = omega (arith, made.3, one_less g.4, one_less close.2) },
        close.4,
      );
}

pub block_sound : AreSoundRows part.Block (rows_of part.Block)
unfolding rows_of
block_sound = or_row block_row no_row

else_row : IsSoundRow part.Else (nth (rows_of part.Else) 0)
unfolding rows_of
else_row = record {
  along = λ room last tokens parts goal g before.
      let made = g.4 before in (
        made.0,
        made.1,
        record {
          inside = made.2.inside;
          opens = made.2.opens;
          block = made.2.block;
          canonical = made.2.canonical;
          short = omega (arith, one_less g.2, made.2.short);
        },
        made.3,
      );
}

pub else_sound : AreSoundRows part.Else (rows_of part.Else)
unfolding rows_of
else_sound = or_row else_row no_row

-- ---- statements

skip_row : IsSoundRow part.Statement (nth (rows_of part.Statement) 0)
unfolding rows_of
skip_row = record {
  along = λ room last tokens parts goal g before.
      let place : Pos = place_of (Some g.0) in
      let close = g.4 in (
        Some close.0,
        close.1,
        record {
          statement = statement.Skip place;
          canonical = skip room place;
          short = omega
              (arith, size_skip place, one_less g.2, one_less close.2);
        },
        close.4,
      );
}

if_canonical : (room : ℕ) (place : Pos) {a b : List Token} (c : ConditionMade whole room 0 a b) {d e : List Token} (then : BlockMade room 0 d e) →
    IsCanonicalStatement room (statement.If place c.condition then.block None)
if_canonical room place c then =
    subst (λ n. IsCanonicalStatement n (statement.If place c.condition then.block None)) (sym then.opens)
    (if_alone then.inside place c.condition then.block (subst (λ n. IsCanonicalCondition whole n c.condition) then.opens c.canonical) then.canonical)

else_canonical : (room : ℕ) (place : Pos) {a b : List Token} (c : ConditionMade whole room 0 a b) {d e f g : List Token}
    (then : BlockMade room 0 d e) (otherwise : BlockMade room 1 f g) →
    IsCanonicalStatement room (statement.If place c.condition then.block (Some otherwise.block))
else_canonical room place c then otherwise =
    let e : otherwise.inside ≡ then.inside = cc (then.opens, otherwise.opens) in
    subst (λ n. IsCanonicalStatement n (statement.If place c.condition then.block (Some otherwise.block))) (sym then.opens)
    (if_else then.inside place c.condition then.block otherwise.block
    (subst (λ n. IsCanonicalCondition whole n c.condition) then.opens c.canonical) then.canonical
    (subst (λ n. AreCanonicalStatements n otherwise.block) e otherwise.canonical))

if_row : IsSoundRow part.Statement (nth (rows_of part.Statement) 1)
unfolding rows_of
if_row = record {
  along = λ room last tokens parts goal g before.
      let place : Pos = place_of (Some g.0) in
      let c = g.4.4 tt in
      let then = c.3.4 before in
      elim (then.3 before) [
        | inl alone ↦ (
          then.0,
          then.1,
          record {
            statement = statement.If place c.2.condition then.2.block None;
            canonical = if_canonical room place c.2 then.2;
            short = omega (arith, size_if place c.2.condition then.2.block, one_less g.2, one_less g.4.2, c.2.short, one_less c.3.2, then.2.short);
          },
          alone.1,
        )
        | inr some ↦ (
          some.0,
          some.1,
          record {
            statement = statement.If place c.2.condition then.2.block (Some some.2.block);
            canonical = else_canonical room place c.2 then.2 some.2;
            short =
                omega (
                  arith,
                  size_if_else place c.2.condition then.2.block some.2.block,
                  one_less g.2,
                  one_less g.4.2,
                  c.2.short,
                  one_less c.3.2,
                  then.2.short,
                  some.2.short,
                );
          },
          some.3,
        )
      ];
}

while_canonical : (room : ℕ) (place : Pos) {k l : List Token} (c : ConditionMade whole room 0 k l) {d e f g : List Token}
    (b : BracketedMade room 0 d e) (body : BlockMade room 0 f g) →
    IsCanonicalStatement room (statement.While place c.condition b.bracketed body.block)
while_canonical room place c b body =
    subst (λ n. IsCanonicalStatement n (statement.While place c.condition b.bracketed body.block)) (sym body.opens)
    (while body.inside place c.condition b.bracketed body.block (subst (λ n. IsCanonicalCondition whole n c.condition) body.opens c.canonical)
    (subst (λ n. IsCanonicalBracketed n b.bracketed) body.opens b.canonical) body.canonical)

while_row : IsSoundRow part.Statement (nth (rows_of part.Statement) 2)
unfolding rows_of
while_row = record {
  along = λ room last tokens parts goal g before.
      let place : Pos = place_of (Some g.0) in
      let c = g.4.4 tt in
      let b = c.3.4 before.0 in
      let body = b.3 before in (
        body.0,
        body.1,
        record {
          statement = statement.While place c.2.condition b.2.bracketed body.2.block;
          canonical = while_canonical room place c.2 b.2 body.2;
          short =
              omega (
                arith,
                size_while place c.2.condition b.2.bracketed body.2.block,
                one_less g.2,
                one_less g.4.2,
                c.2.short,
                one_less c.3.2,
                b.2.short,
                body.2.short,
              );
        },
        body.3,
      );
}

split_row : IsSoundRow part.Statement (nth (rows_of part.Statement) 3)
unfolding rows_of
split_row = record {
  along = λ room last tokens parts goal g before.
      let place : Pos = place_of (Some g.0) in
      let b = g.4 before.0 in
      let close = b.3 in (
        Some close.0,
        close.1,
        record {
          statement = statement.Split place b.2.bracketed;
          canonical = split room place b.2.bracketed b.2.canonical;
          short = omega (arith, size_split place b.2.bracketed, one_less g.2, b.2.short, one_less close.2);
        },
        close.4,
      );
}

assert_row : IsSoundRow part.Statement (nth (rows_of part.Statement) 4)
unfolding rows_of
assert_row = record {
  along = λ room last tokens parts goal g before.
      let place : Pos = place_of (Some g.0) in
      let b = g.4 before.0 in
      let close = b.3 in (
        Some close.0,
        close.1,
        record {
          statement = statement.Assert place b.2.bracketed;
          canonical = assert room place b.2.bracketed b.2.canonical;
          short = omega (arith, size_assert place b.2.bracketed, one_less g.2, b.2.short, one_less close.2);
        },
        close.4,
      );
}

free_row : IsSoundRow part.Statement (nth (rows_of part.Statement) 5)
unfolding rows_of
free_row = record {
  along = λ room last tokens parts goal g before.
      let place : Pos = place_of (Some g.0) in
      let name = g.4 in
      let x : Name = name_of (Some name.0) in
      let close = name.4 in (
        Some close.0,
        close.1,
        record {
          statement = statement.Free place x;
          canonical = free room place x (free_name name.0 name.3);
          short = omega (arith, size_free place x, one_less g.2, one_less name.2, one_less close.2);
        },
        close.4,
      );
}

-- nothing of a call was under way, and nothing is
restored : (parts : Parts) (blocks : List (List Statement)) → NoCall parts →
    record parts { blocks = blocks; call_results = []; given = []; arguments = []; keep = None } ≡ record parts { blocks = blocks }
restored parts blocks quiet =
    subst (λ (r : List Name). record parts { blocks = blocks; call_results = r; given = []; arguments = []; keep = None }
    ≡ record parts { blocks = blocks }) quiet.1
    (subst (λ (g : List Argument). record parts { blocks = blocks; given = g; arguments = []; keep = None } ≡ record parts { blocks = blocks }) quiet.2
    (subst (λ (a : List Argument). record parts { blocks = blocks; arguments = a; keep = None } ≡ record parts { blocks = blocks }) quiet.3
    (subst (λ (k : Option Bracketed). record parts { blocks = blocks; keep = k } ≡ record parts { blocks = blocks }) quiet.4 refl)))

more_free : (xs ys : List Name) → AreFree xs → AreFree ys → AreFree (xs ++ ys)
more_free [] ys f g = g
more_free (x ∷ xs) ys f g = (f.0, more_free xs ys f.1 g)

abbrev made_call : Parts → Pos → Name → {room : ℕ} {start end : List Token} → Unit {0} ⊎ ResultsMade → GivenMade room start end → Call
made_call parts place x (inl _) made =
    record { place = place; results = parts.call_results; callee = x; arguments = made.given; logics = made.logics; keep = made.keep }
made_call parts place x (inr r) made =
    record {
      place = place;
      results = (parts.call_results ++ x ∷ []) ++ r.more;
      callee = r.callee.name;
      arguments = made.given;
      logics = made.logics;
      keep = made.keep;
    }

call_canonical : (parts : Parts) (place : Pos) (x : Name) (room : ℕ) {start end : List Token}
    (results : Unit {0} ⊎ ResultsMade) (made : GivenMade room start end) →
    NoCall parts → IsFree x →
    IsCanonicalStatement room (statement.Call (made_call parts place x results made))
call_canonical parts place x room (inl u) made quiet is =
    call room (made_call parts place x (inl u) made)
    (record {
      results = subst (λ r. AreFree r) (sym quiet.1) tt;
      callee = is;
      arguments = made.given_free;
      logics = made.logics_free;
      keep = made.keep_canonical;
    })
call_canonical parts place x room (inr r) made quiet is =
    call room (made_call parts place x (inr r) made)
    (record {
      results = more_free (parts.call_results ++ x ∷ []) r.more (one_more_free parts.call_results x (subst (λ r. AreFree r) (sym quiet.1) tt) is) r.more_free;
      callee = r.callee.free;
      arguments = made.given_free;
      logics = made.logics_free;
      keep = made.keep_canonical;
    })

abbrev ending_row : List ProgramSymbol
ending_row = reads mark.Semicolon ∷ calling calls.MakeCall ∷ []

call_made : (room : ℕ) (last : Option Token) (start tokens : List Token) (parts : Parts) (goal : Goal) (place : Pos)
    (x : Name) (results : Unit {0} ⊎ ResultsMade) (middle : List Token) (given : GivenMade room middle tokens) →
    (short : rest_size results + length middle ≤ length start) (first : List Token) → suc (suc (length start)) ≤ length first →
    NoCall parts → IsFree x →
    Goes program_meaning ending_row room last tokens
    (put part.CallRest room start tokens (record { results = results; middle = middle; given = given; short = short })
    (record parts { places = place ∷ parts.places; names = x ∷ parts.names })) goal →
    (behind : Option Token) × (others : List Token) × (made : StatementMade room first others) × goal behind others
    (record parts { blocks = with_statement made.statement parts.blocks })
call_made room last start tokens parts goal place x (inl u) middle given short first in_all quiet is g = (
  Some g.0,
  g.1,
  record {
    statement = statement.Call (made_call parts place x (inl u) given);
    canonical = call_canonical parts place x room (inl u) given quiet is;
    short = omega (arith, size_call (made_call parts place x (inl u) given), ap call_result_size quiet.1, given.short, one_less g.2);
  },
  subst (λ (p : Parts). goal (Some g.0) g.1 p)
      (restored parts (with_statement (statement.Call (made_call parts place x (inl u) given)) parts.blocks) quiet) g.4,
)
call_made room last start tokens parts goal place x (inr r) middle given short first in_all quiet is g = (
  Some g.0,
  g.1,
  record {
    statement = statement.Call (made_call parts place x (inr r) given);
    canonical = call_canonical parts place x room (inr r) given quiet is;
    short =
        omega (
          arith,
          size_call (made_call parts place x (inr r) given),
          ap
              (λ (xs : List Name). call_result_size ((xs ++ x ∷ []) ++ r.more)) quiet.1,
          given.short,
          one_less g.2,
        );
  },
  subst (λ (p : Parts). goal (Some g.0) g.1 p)
      (restored parts (with_statement (statement.Call (made_call parts place x (inr r) given)) parts.blocks) quiet) g.4,
)

call_row : IsSoundRow part.Statement (nth (rows_of part.Statement) 6)
unfolding rows_of
call_row = record {
  along = λ room last tokens parts goal g before.
      let place : Pos = place_of (Some g.0) in
      let name = g.4 in
      let x : Name = name_of (Some name.0) in
      let others = name.4 (before.0, before.3, before.4) in
      call_made room others.0 name.1 others.1 parts goal place x others.2.results others.2.middle others.2.given
      others.2.short tokens (omega (arith, one_less g.2, one_less name.2)) before (free_name name.0 name.3) others.3;
}

assign_row : IsSoundRow part.Statement (nth (rows_of part.Statement) 7)
unfolding rows_of
assign_row = record {
  along = λ room last tokens parts goal g before.
      let p = g tt in
      let place : Pos = place_of (Some p.3.0) in
      let v = p.3.4 tt in
      let close = v.3 in (
        Some close.0,
        close.1,
        record {
          statement = statement.Assign p.2.path place v.2.value;
          canonical = assign room p.2.path place v.2.value p.2.free v.2.canonical;
          short = omega (arith, size_assign p.2.path place v.2.value, p.2.short, one_less p.3.2, v.2.short, one_less close.2);
        },
        close.4,
      );
}

pub statement_sound : AreSoundRows part.Statement (rows_of part.Statement)
unfolding rows_of
statement_sound =
    or_row skip_row (or_row if_row (or_row while_row (or_row split_row (or_row assert_row (or_row free_row (or_row call_row (or_row assign_row no_row)))))))
