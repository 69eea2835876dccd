-- Rows of parameters, local variables, results and logic variables are sound: what is read by one is written by it again.
use Rattle.std.proofs.Common.{◌+◌, ◌≤◌, length, sym, ◌≡◌, ℕ, suc, List, ◌∷◌, ◌++◌, Some, refl, subst, arith, []}
use Rattle.pale_syntax.specs.declared.grammar.part.ProgramPart.TheVariants as part
use Rattle.pale_text.specs.declared.token.Token.{Token}
use Rattle.pale_syntax.specs.declared.tree.declaration.LogicParameter.{LogicParameter}
use Rattle.pale_syntax.specs.declared.tree.declaration.LogicParameter.TheVariants as logic
use Rattle.pale_syntax.specs.declared.tree.declaration.Parameter.{Parameter}
use Rattle.pale_syntax.specs.declared.tree.declaration.Parameter.TheVariants as parameter
use Rattle.pale_syntax.specs.MakingParts.{Parts, name_of}
use Rattle.pale_syntax.specs.ProgramGrammar.{rows_of}
use Rattle.pale_print_laws.specs.CanonicalDeclarations.{All, IsFreeParameter, IsFreeLogicParameter}
use Rattle.pale_print_laws.proofs.NameSizes.{one_less}
use Rattle.pale_print_laws.proofs.ListSizes.{each_size, each_last, separated_size, separated_last}
use Rattle.pale_print_laws.proofs.DeclarationSizes.{parameter_size, local_size, logic_parameter_size}
use Rattle.pale_print_laws.proofs.FromRows.{Several, no_more, one_more, puts}
use Rattle.pale_print_laws.proofs.FromMade.{ParametersMade, LogicsMade}
use Rattle.pale_print_laws.proofs.FromMeaning.{program_meaning}
use Rattle.pale_print_laws.proofs.FromParts.{IsSoundRow, AreSoundRows, no_row, or_row, nth, free_name}
use Rattle.pale_print_laws.proofs.FromTypes.{all_and, none_all}

-- ---- variables

data_row : IsSoundRow part.Parameter (nth (rows_of part.Parameter) 0)
unfolding rows_of
data_row = record {
  along = λ room last tokens parts goal g before.
      let name = g.4 in
      let ty = name.4.4 in (
        Some ty.0,
        ty.1,
        record {
          parameter = parameter.Data (name_of (Some name.0)) (name_of (Some ty.0));
          free = (free_name name.0 name.3, free_name ty.0 ty.3);
          short = omega (arith, one_less g.2, one_less name.2, one_less name.4.2, one_less ty.2);
        },
        ty.4,
      );
}

pointer_row : IsSoundRow part.Parameter (nth (rows_of part.Parameter) 1)
unfolding rows_of
pointer_row = record {
  along = λ room last tokens parts goal g before.
      let name = g.4 in
      let ty = name.4.4 in (
        Some ty.0,
        ty.1,
        record {
          parameter = parameter.Pointer (name_of (Some name.0)) (name_of (Some ty.0));
          free = (free_name name.0 name.3, free_name ty.0 ty.3);
          short = omega (arith, one_less g.2, one_less name.2, one_less name.4.2, one_less ty.2);
        },
        ty.4,
      );
}

bool_row : IsSoundRow part.Parameter (nth (rows_of part.Parameter) 2)
unfolding rows_of
bool_row = record {
  along = λ room last tokens parts goal g before.
      let name = g.4 in (
        Some name.0,
        name.1,
        record {
          parameter = parameter.Bool (name_of (Some name.0));
          free = free_name name.0 name.3;
          short = omega (arith, one_less g.2, one_less name.2);
        },
        name.4,
      );
}

pub parameter_sound : AreSoundRows part.Parameter (rows_of part.Parameter)
unfolding rows_of
parameter_sound = or_row data_row (or_row pointer_row (or_row bool_row no_row))

next_parameter_row : IsSoundRow part.NextParameter (nth (rows_of part.NextParameter) 0)
unfolding rows_of
next_parameter_row = record {
  along = λ room last tokens parts goal g before.
      let made = g.4 tt in
      (made.0, made.1, record { parameter = made.2.parameter; free = made.2.free; short = omega (arith, one_less g.2, made.2.short) }, made.3);
}

pub next_parameter_sound : AreSoundRows part.NextParameter (rows_of part.NextParameter)
unfolding rows_of
next_parameter_sound = or_row next_parameter_row no_row

parameters_made : (room : ℕ) (start end : List Token) (several : Several program_meaning part.NextParameter room start end) (ps : List Parameter) →
    All IsFreeParameter ps →
    (first : List Token) → separated_size parameter_size ps + length start ≤ length first → (parts : Parts) →
    (made : ParametersMade 0 first end) × (puts program_meaning part.NextParameter room start end several
    (record parts { variables = ps }) ≡ record parts { variables = made.parameters })
parameters_made room start end (no_more _ stops) ps c first short parts = (record { parameters = ps; free = c; short = omega arith }, refl)
parameters_made room start end (one_more _ middle _ one others) ps c first short parts =
    let l = one.short in
    parameters_made room middle end others (ps ++ one.parameter ∷ []) (all_and IsFreeParameter ps one.parameter c one.free)
    first (omega (arith, separated_last parameter_size ps one.parameter)) parts

parameters_row : IsSoundRow part.Parameters (nth (rows_of part.Parameters) 0)
unfolding rows_of
parameters_row = record {
  along = λ room last tokens parts goal g before.
      let first = g tt in
      let others = first.3 tt in
      let made = parameters_made room first.1 others.1 others.2 (parts.variables ++ first.2.parameter ∷ [])
      (all_and IsFreeParameter parts.variables first.2.parameter (none_all IsFreeParameter parts.variables before) first.2.free)
      tokens (subst (λ (ps : List Parameter). separated_size parameter_size (ps ++ first.2.parameter ∷ []) + length first.1 ≤ length tokens) (sym before)
      (omega (arith, first.2.short))) parts in
      (others.0, others.1, made.0, subst (λ q. goal others.0 others.1 q) made.1 others.3);
}

pub parameters_sound : AreSoundRows part.Parameters (rows_of part.Parameters)
unfolding rows_of
parameters_sound = or_row parameters_row no_row

local_row : IsSoundRow part.Local (nth (rows_of part.Local) 0)
unfolding rows_of
local_row = record {
  along = λ room last tokens parts goal g before.
      let made = g tt in
      let close = made.3 in
      (Some close.0, close.1, record { parameter = made.2.parameter; free = made.2.free; short = omega (arith, made.2.short, one_less close.2) }, close.4);
}

pub local_sound : AreSoundRows part.Local (rows_of part.Local)
unfolding rows_of
local_sound = or_row local_row no_row

-- the variables that a body declares
pub record LocalsMade (start end : List Token) : Type 0 where
  pub parameters : List Parameter
  pub free : All IsFreeParameter parameters
  pub short : each_size local_size parameters + length end ≤ length start

pub locals_made : (room : ℕ) (start end : List Token) (several : Several program_meaning part.Local room start end) (ps : List Parameter) →
    All IsFreeParameter ps →
    (first : List Token) → each_size local_size ps + length start ≤ length first → (parts : Parts) →
    (made : LocalsMade first end)
    × (puts program_meaning part.Local room start end several (record parts { variables = ps }) ≡ record parts { variables = made.parameters })
locals_made room start end (no_more _ stops) ps c first short parts = (record { parameters = ps; free = c; short = short }, refl)
locals_made room start end (one_more _ middle _ one others) ps c first short parts =
    let l = one.short in
    locals_made room middle end others (ps ++ one.parameter ∷ []) (all_and IsFreeParameter ps one.parameter c one.free) first
    (omega (arith, each_last local_size ps one.parameter)) parts

returns_row : IsSoundRow part.Returns (nth (rows_of part.Returns) 0)
unfolding rows_of
returns_row = record {
  along = λ room last tokens parts goal g before.
      let made = g.4.4 before in
      let close = made.3 in (
        Some close.0,
        close.1,
        record {
          parameters = made.2.parameters;
          free = made.2.free;
          short = omega
              (arith, made.2.short, one_less g.2, one_less g.4.2, one_less close.2);
        },
        close.4,
      );
}

pub returns_sound : AreSoundRows part.Returns (rows_of part.Returns)
unfolding rows_of
returns_sound = or_row returns_row no_row

-- ---- logic variables

set_row : IsSoundRow part.LogicParameter (nth (rows_of part.LogicParameter) 0)
unfolding rows_of
set_row = record {
  along = λ room last tokens parts goal g before.
      let name = g.4 in
      let ty = name.4.4 in (
        Some ty.0,
        ty.1,
        record {
          logic = logic.Set (name_of (Some name.0)) (name_of (Some ty.0));
          free = (free_name name.0 name.3, free_name ty.0 ty.3);
          short = omega (arith, one_less g.2, one_less name.2, one_less name.4.2, one_less ty.2);
        },
        ty.4,
      );
}

bool_logic_row : IsSoundRow part.LogicParameter (nth (rows_of part.LogicParameter) 1)
unfolding rows_of
bool_logic_row = record {
  along = λ room last tokens parts goal g before.
      let name = g.4 in (
        Some name.0,
        name.1,
        record { logic = logic.Bool (name_of (Some name.0)); free = free_name name.0 name.3; short = omega (arith, one_less g.2, one_less name.2) },
        name.4,
      );
}

pub logic_parameter_sound : AreSoundRows part.LogicParameter (rows_of part.LogicParameter)
unfolding rows_of
logic_parameter_sound = or_row set_row (or_row bool_logic_row no_row)

next_logic_row : IsSoundRow part.NextLogicParameter (nth (rows_of part.NextLogicParameter) 0)
unfolding rows_of
next_logic_row = record {
  along = λ room last tokens parts goal g before.
      let made = g.4 tt in
      (made.0, made.1, record { logic = made.2.logic; free = made.2.free; short = omega (arith, one_less g.2, made.2.short) }, made.3);
}

pub next_logic_parameter_sound : AreSoundRows part.NextLogicParameter (rows_of part.NextLogicParameter)
unfolding rows_of
next_logic_parameter_sound = or_row next_logic_row no_row

logics_made : (room : ℕ) (start end : List Token) (several : Several program_meaning part.NextLogicParameter room start end)
    (ls : List LogicParameter) →
    All IsFreeLogicParameter ls →
    (first : List Token) → suc (separated_size logic_parameter_size ls + length start) ≤ length first → (parts : Parts) →
    (made : LogicsMade first end) × (puts program_meaning part.NextLogicParameter room start end several
    (record parts { logics = ls }) ≡ record parts { logics = made.logics })
logics_made room start end (no_more _ stops) ls c first short parts = (record { logics = ls; free = c; short = short }, refl)
logics_made room start end (one_more _ middle _ one others) ls c first short parts =
    let l = one.short in
    logics_made room middle end others (ls ++ one.logic ∷ []) (all_and IsFreeLogicParameter ls one.logic c one.free) first
    (omega (arith, separated_last logic_parameter_size ls one.logic)) parts

logic_row : IsSoundRow part.Logic (nth (rows_of part.Logic) 0)
unfolding rows_of
logic_row = record {
  along = λ room last tokens parts goal g before.
      let first = g.4 tt in
      let others = first.3 tt in
      let made =
      logics_made room first.1 others.1 others.2 (parts.logics ++ first.2.logic ∷ [])
      (all_and IsFreeLogicParameter parts.logics first.2.logic (none_all IsFreeLogicParameter parts.logics before) first.2.free)
      tokens (subst
      (λ (ls : List LogicParameter). suc (separated_size logic_parameter_size (ls ++ first.2.logic ∷ []) + length first.1) ≤ length tokens)
      (sym before)
      (omega (arith, first.2.short, one_less g.2))) parts in
      (others.0, others.1, made.0, subst (λ q. goal others.0 others.1 q) made.1 others.3);
}

pub logic_sound : AreSoundRows part.Logic (rows_of part.Logic)
unfolding rows_of
logic_sound = or_row logic_row no_row
