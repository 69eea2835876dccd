-- Types and predicates that a reading makes are canonical, and spelled in no more tokens than they were read from.
use Rattle.std.proofs.Common.{◌+◌, ◌≤◌, suc, length, arith, ap, sym, ◌≡◌, inl, inr, ℕ, List, [], ◌∷◌, ◌++◌, Option, Some, refl, subst}
use Rattle.ll1_reader.specs.declared.symbol.Symbol.TheVariants.{Once, Many}
use Rattle.pale_syntax.specs.declared.grammar.act.PredicateAct.TheVariants as predicates
use Rattle.pale_syntax.specs.declared.grammar.act.TypeAct.TheVariants as types
use Rattle.pale_syntax.specs.declared.grammar.part.ProgramPart.TheVariants as part
use Rattle.pale_text.specs.declared.token.Mark.TheVariants as mark
use Rattle.pale_text.specs.declared.token.Token.{Token}
use Rattle.pale_text.specs.Tokens.{place_of}
use Rattle.pale_syntax.specs.declared.tree.names.Name.{Name}
use Rattle.pale_syntax.specs.declared.tree.declaration.FieldDeclaration.{FieldDeclaration}
use Rattle.pale_syntax.specs.declared.tree.declaration.FieldForm.TheVariants as form
use Rattle.pale_syntax.specs.declared.tree.declaration.PredicateParameter.{PredicateParameter}
use Rattle.pale_syntax.specs.declared.tree.declaration.PredicateParameter.TheVariants as parameter
use Rattle.pale_syntax.specs.declared.tree.declaration.TypeDeclaration.{TypeDeclaration}
use Rattle.pale_syntax.specs.declared.tree.declaration.VariantDeclaration.{VariantDeclaration}
use Rattle.pale_syntax.specs.MakingParts.{Parts, name_of}
use Rattle.pale_syntax.specs.ProgramGrammar.{ProgramSymbol, rows_of, reads, type as making, predicate as judging}
use Rattle.pale_syntax.specs.FreeNames.{IsFree}
use Rattle.pale_print_laws.specs.CanonicalDeclarations.{All, IsCanonicalField, IsCanonicalVariant, IsFreePredicateParameter}
use Rattle.pale_print_laws.proofs.NameSizes.{one_less}
use Rattle.pale_print_laws.proofs.ListSizes.{each_size, each_last, behind_size, behind_last, separated_size, separated_last}
use Rattle.pale_print_laws.proofs.DeclarationSizes.{field_size, variant_size, predicate_parameter_size}
use Rattle.pale_print_laws.proofs.FromRows.{Several, no_more, one_more, puts, Goal, Goes}
use Rattle.pale_print_laws.proofs.FromMade.{PredicateParametersMade}
use Rattle.pale_print_laws.proofs.FromMeaning.{program_meaning}
use Rattle.pale_print_laws.proofs.FromParts.{IsSoundRow, AreSoundRows, no_row, or_row, nth, free_name}

pub all_and : {X : Type 0} (P : X → Type 0) (xs : List X) (x : X) → All P xs → P x → All P (xs ++ x ∷ [])
all_and P [] x all is = (is, tt)
all_and P (y ∷ xs) x all is = (all.0, all_and P xs x all.1 is)

-- nothing that is not so
pub none_all : {X : Type 0} (P : X → Type 0) (xs : List X) → xs ≡ [] → All P xs
none_all P xs is = subst (λ l. All P l) (sym is) tt

-- ---- fields

bool_row : IsSoundRow part.Field (nth (rows_of part.Field) 0)
unfolding rows_of
bool_row = record {
  along = λ room last tokens parts goal g before.
      let name = g.4 in
      let close = name.4 in (
        Some close.0,
        close.1,
        record {
          field = record { name = name_of (Some name.0); form = form.Bool };
          canonical = (free_name name.0 name.3, tt);
          short = omega (arith, one_less g.2, one_less name.2, one_less close.2);
        },
        close.4,
      );
}

data_row : IsSoundRow part.Field (nth (rows_of part.Field) 1)
unfolding rows_of
data_row = record {
  along = λ room last tokens parts goal g before.
      let name = g.4 in
      let ty = name.4.4 in
      let close = ty.4 in (
        Some close.0,
        close.1,
        record {
          field = record { name = name_of (Some name.0); form = form.Data (name_of (Some ty.0)) };
          canonical = (free_name name.0 name.3, free_name ty.0 ty.3);
          short = omega (arith, one_less g.2, one_less name.2, one_less name.4.2, one_less ty.2, one_less close.2);
        },
        close.4,
      );
}

pointer_row : IsSoundRow part.Field (nth (rows_of part.Field) 2)
unfolding rows_of
pointer_row = record {
  along = λ room last tokens parts goal g before.
      let name = g.4 in
      let ty = name.4.4 in
      let opening = ty.4 in
      let r = opening.4 tt in
      let close = r.3.4 in (
        Some close.0,
        close.1,
        record {
          field = record { name = name_of (Some name.0); form = form.Pointer (name_of (Some ty.0)) (place_of (Some opening.0)) r.2.route };
          canonical = (free_name name.0 name.3, (free_name ty.0 ty.3, r.2.canonical));
          short = omega (
            arith,
            one_less g.2,
            one_less name.2,
            one_less name.4.2,
            one_less ty.2,
            one_less opening.2,
            r.2.short,
            one_less r.3.2,
            one_less close.2,
          );
        },
        close.4,
      );
}

pub field_sound : AreSoundRows part.Field (rows_of part.Field)
unfolding rows_of
field_sound = or_row bool_row (or_row data_row (or_row pointer_row no_row))

fields_made : (room : ℕ) (start end : List Token) (several : Several program_meaning part.Field room start end) (fs : List FieldDeclaration) →
    All (IsCanonicalField room) fs →
    (first : List Token) → each_size field_size fs + length start ≤ length first → (parts : Parts) →
    (made : List FieldDeclaration) × All (IsCanonicalField room) made ×
    (puts program_meaning part.Field room start end several (record parts { fields = fs }) ≡ record parts { fields = made }) ×
    (each_size field_size made + length end ≤ length first)
fields_made room start end (no_more _ stops) fs c first short parts = (fs, c, refl, short)
fields_made room start end (one_more _ middle _ one others) fs c first short parts =
    let l = one.short in
    fields_made room middle end others (fs ++ one.field ∷ []) (all_and (IsCanonicalField room) fs one.field c one.canonical)
    first (omega (arith, each_last field_size fs one.field)) parts

-- ---- types

abbrev ending_variant : List ProgramSymbol
ending_variant = reads mark.RightBrace ∷ making types.AddVariant ∷ []

variant_row : IsSoundRow part.Variant (nth (rows_of part.Variant) 0)
unfolding rows_of
variant_row = record {
  along = λ room last tokens parts goal g before.
      let name = g.4 in
      let x : Name = name_of (Some name.0) in
      let brace = name.4 in
      let several = brace.4 tt in
      let made = fields_made room brace.1 several.1 several.2 parts.fields (none_all (IsCanonicalField room) parts.fields before)
      brace.1 (omega (arith, ap (each_size field_size) before)) (record parts { names = x ∷ parts.names }) in
      let close : Goes program_meaning ending_variant room several.0 several.1 (record parts { names = x ∷ parts.names; fields = made.0 }) goal =
      subst (λ (p : Parts). Goes program_meaning ending_variant room several.0 several.1 p goal) made.2 several.3 in
      let v : VariantDeclaration = record { name = x; fields = made.0 } in (
        Some close.0,
        close.1,
        record {
          variant = v;
          canonical = (free_name name.0 name.3, made.1);
          short = omega (arith, made.3, one_less g.2, one_less name.2, one_less brace.2, one_less close.2);
        },
        close.4,
      );
}

pub variant_sound : AreSoundRows part.Variant (rows_of part.Variant)
unfolding rows_of
variant_sound = or_row variant_row no_row

variants_made : (room : ℕ) (start end : List Token) (several : Several program_meaning part.Variant room start end) (vs : List VariantDeclaration) →
    All (IsCanonicalVariant room) vs →
    (first : List Token) → behind_size variant_size vs + length start ≤ length first → (parts : Parts) →
    (made : List VariantDeclaration) × All (IsCanonicalVariant room) made ×
    (puts program_meaning part.Variant room start end several (record parts { variants = vs; fields = [] }) ≡ record parts { variants = made; fields = [] }) ×
    (behind_size variant_size made + length end ≤ length first)
variants_made room start end (no_more _ stops) vs c first short parts = (vs, c, refl, short)
variants_made room start end (one_more _ middle _ one others) vs c first short parts =
    let l = one.short in
    variants_made room middle end others (vs ++ one.variant ∷ [])
    (all_and (IsCanonicalVariant room) vs one.variant c one.canonical) first
    (omega (arith, behind_last variant_size vs one.variant)) parts

abbrev behind_fields : List ProgramSymbol
behind_fields = making types.EndCommon ∷ reads mark.RightBrace ∷ Many part.Variant ∷ making types.AddType ∷ []

abbrev ending_type : List ProgramSymbol
ending_type = making types.AddType ∷ []

type_row : IsSoundRow part.«Type» (nth (rows_of part.«Type») 0)
unfolding rows_of
type_row = record {
  along = λ room last tokens parts goal g before.
      let name = g.4 in
      let x : Name = name_of (Some name.0) in
      let brace = name.4.4 in
      let several = brace.4 tt in
      let fs = fields_made room brace.1 several.1 several.2 parts.fields (none_all (IsCanonicalField room) parts.fields before.0)
      brace.1 (omega (arith, ap (each_size field_size) before.0)) (record parts { names = x ∷ parts.names }) in
      let behind : Goes program_meaning behind_fields room several.0 several.1 (record parts { names = x ∷ parts.names; fields = fs.0 }) goal =
      subst (λ (p : Parts). Goes program_meaning behind_fields room several.0 several.1 p goal) fs.2 several.3 in
      let others = behind.4 refl in
      let vs = variants_made room behind.1 others.1 others.2 parts.variants (none_all (IsCanonicalVariant room) parts.variants before.1)
      behind.1 (omega (arith, ap (behind_size variant_size) before.1)) (record parts { names = x ∷ parts.names; common = fs.0 }) in
      let close : Goes program_meaning ending_type room others.0 others.1
      (record parts { names = x ∷ parts.names; common = fs.0; fields = []; variants = vs.0 }) goal =
      subst (λ (p : Parts). Goes program_meaning ending_type room others.0 others.1 p goal) vs.2 others.3 in
      let t : TypeDeclaration = record { name = x; fields = fs.0; variants = vs.0 } in (
        others.0,
        others.1,
        record {
          type = t;
          canonical = record { name = free_name name.0 name.3; fields = fs.1; variants = vs.1 };
          short = omega (arith, fs.3, vs.3, one_less g.2, one_less name.2, one_less name.4.2, one_less brace.2, one_less behind.2);
        },
        close,
      );
}

pub type_sound : AreSoundRows part.«Type» (rows_of part.«Type»)
unfolding rows_of
type_sound = or_row type_row no_row

-- ---- predicates

cell_row : IsSoundRow part.PredicateParameter (nth (rows_of part.PredicateParameter) 0)
unfolding rows_of
cell_row = record {
  along = λ room last tokens parts goal g before.
      let ty = g.4.4 in (
        Some ty.0,
        ty.1,
        record {
          parameter = parameter.Cell (name_of (Some g.0)) (name_of (Some ty.0));
          free = (free_name g.0 g.3, free_name ty.0 ty.3);
          short = omega (arith, one_less g.2, one_less g.4.2, one_less ty.2);
        },
        ty.4,
      );
}

set_row : IsSoundRow part.PredicateParameter (nth (rows_of part.PredicateParameter) 1)
unfolding rows_of
set_row = record {
  along = λ room last tokens parts goal g before.
      let name = g.4 in
      let ty = name.4.4 in (
        Some ty.0,
        ty.1,
        record {
          parameter = parameter.Set (name_of (Some name.0)) (name_of (Some ty.0));
          free = (free_name name.0 name.3, free_name ty.0 ty.3);
          short = omega (arith, one_less g.2, one_less name.2, one_less name.4.2, one_less ty.2);
        },
        ty.4,
      );
}

bool_parameter_row : IsSoundRow part.PredicateParameter (nth (rows_of part.PredicateParameter) 2)
unfolding rows_of
bool_parameter_row = record {
  along = λ room last tokens parts goal g before.
      let name = g.4 in (
        Some name.0,
        name.1,
        record {
          parameter = parameter.Bool (name_of (Some name.0));
          free = free_name name.0 name.3;
          short = omega (arith, one_less g.2, one_less name.2);
        },
        name.4,
      );
}

pub predicate_parameter_sound : AreSoundRows part.PredicateParameter (rows_of part.PredicateParameter)
unfolding rows_of
predicate_parameter_sound = or_row cell_row (or_row set_row (or_row bool_parameter_row no_row))

next_predicate_parameter_row : IsSoundRow part.NextPredicateParameter (nth (rows_of part.NextPredicateParameter) 0)
unfolding rows_of
next_predicate_parameter_row = record {
  along = λ room last tokens parts goal g before.
      let made = g.4 tt in
      (made.0, made.1, record { parameter = made.2.parameter; free = made.2.free; short = omega (arith, one_less g.2, made.2.short) }, made.3);
}

pub next_predicate_parameter_sound : AreSoundRows part.NextPredicateParameter (rows_of part.NextPredicateParameter)
unfolding rows_of
next_predicate_parameter_sound = or_row next_predicate_parameter_row no_row

parameters_made : (room : ℕ) (start end : List Token)
    (several : Several program_meaning part.NextPredicateParameter room start end) (ps : List PredicateParameter) →
    All IsFreePredicateParameter ps → (first : List Token) → separated_size predicate_parameter_size ps + length start ≤ length first → (parts : Parts) →
    (made : PredicateParametersMade first end) ×
    (puts program_meaning part.NextPredicateParameter room start end several (record parts { predicate_parameters = ps })
    ≡ record parts { predicate_parameters = made.parameters })
parameters_made room start end (no_more _ stops) ps c first short parts = (record { parameters = ps; free = c; short = short }, refl)
parameters_made room start end (one_more _ middle _ one others) ps c first short parts =
    let l = one.short in
    parameters_made room middle end others (ps ++ one.parameter ∷ [])
    (all_and IsFreePredicateParameter ps one.parameter c one.free) first
    (omega (arith, separated_last predicate_parameter_size ps one.parameter)) parts

predicate_parameters_row : IsSoundRow part.PredicateParameters (nth (rows_of part.PredicateParameters) 0)
unfolding rows_of
predicate_parameters_row = record {
  along = λ room last tokens parts goal g before.
      let first = g tt in
      let others = first.3 tt in
      let made = parameters_made room first.1 others.1 others.2 (parts.predicate_parameters ++ first.2.parameter ∷ [])
      (all_and IsFreePredicateParameter parts.predicate_parameters first.2.parameter
      (none_all IsFreePredicateParameter parts.predicate_parameters before) first.2.free)
      tokens (subst
      (λ (ps : List PredicateParameter). separated_size predicate_parameter_size (ps ++ first.2.parameter ∷ []) + length first.1 ≤ length tokens)
      (sym before)
      (omega (arith, first.2.short))) parts in
      (others.0, others.1, made.0, subst (λ q. goal others.0 others.1 q) made.1 others.3);
}

pub predicate_parameters_sound : AreSoundRows part.PredicateParameters (rows_of part.PredicateParameters)
unfolding rows_of
predicate_parameters_sound = or_row predicate_parameters_row no_row

abbrev behind_parameters : List ProgramSymbol
behind_parameters = reads mark.RightParen ∷ reads mark.Equals ∷ Once part.Bracketed ∷ reads mark.Semicolon ∷ judging predicates.AddPredicate ∷ []

body_made : (room : ℕ) (last : Option Token) (tokens : List Token) (parts : Parts) (goal : Goal) (x : Name) (ps : List PredicateParameter) →
    IsFree x → All IsFreePredicateParameter ps →
    (first : List Token) → suc (suc (suc (separated_size predicate_parameter_size ps + length tokens))) ≤ length first →
    parts.used ≡ [] → Goes program_meaning behind_parameters room last tokens (record parts { names = x ∷ parts.names; predicate_parameters = ps }) goal →
    Goes program_meaning (Once part.Predicate ∷ []) room last first parts goal
body_made room last tokens parts goal x ps free frees first short used g before =
    let b = g.4.4 used in
    let close = b.3 in (
      Some close.0,
      close.1,
      record {
        predicate = record { name = x; parameters = ps; body = b.2.bracketed };
        canonical = record { name = free; parameters = frees; body = b.2.canonical };
        short = omega (arith, short, one_less g.2, one_less g.4.2, b.2.short, one_less close.2);
      },
      close.4,
    )

predicate_row : IsSoundRow part.Predicate (nth (rows_of part.Predicate) 0)
unfolding rows_of
predicate_row = record {
  along = λ room last tokens parts goal g before.
      let name = g.4 in
      let x : Name = name_of (Some name.0) in
      elim (name.4.4 before.1) [
        | inl alone ↦ body_made room (Some name.4.0) name.4.1 parts goal x parts.predicate_parameters (free_name name.0 name.3)
            (none_all IsFreePredicateParameter parts.predicate_parameters before.1)
            tokens
            (omega (arith, ap (separated_size predicate_parameter_size) before.1, one_less g.2, one_less name.2, one_less name.4.2))
            before.0 alone.1 before
        | inr some ↦ body_made room some.0 some.1 parts goal x some.2.parameters (free_name name.0 name.3) some.2.free
            tokens (omega (arith, some.2.short, one_less g.2, one_less name.2, one_less name.4.2)) before.0 some.3 before
      ];
}

pub predicate_sound : AreSoundRows part.Predicate (rows_of part.Predicate)
unfolding rows_of
predicate_sound = or_row predicate_row no_row
