-- Each act makes the same of parts without their places.
use Rattle.std.proofs.Common.{◌≡◌, true, false, [], ◌∷◌, ◌++◌, Some, None, map, refl, ap, ◌∙◌}
use Rattle.std.specs.Option.{option_map}
use Rattle.plain_data.specs.Stacks.{top, rest}
use Rattle.pale_text.specs.declared.place.Pos.{Pos}
use Rattle.pale_syntax.specs.declared.tree.names.Name.{Name}
use Rattle.pale_syntax.specs.declared.tree.statement.Argument.TheVariants as argument
use Rattle.pale_syntax.specs.declared.tree.statement.Statement.TheVariants as statement
use Rattle.pale_syntax.specs.declared.tree.statement.Value.TheVariants as value
use Rattle.pale_syntax.specs.MakingParts.{Parts, Near, nameless}
use Rattle.pale_text.specs.Tokens.{place_of}
use Rattle.pale_syntax.specs.MakingWords.{pathless}
use Rattle.pale_syntax.specs.MakingConditions.{conditionless}
use Rattle.pale_syntax.specs.MakingStatements.{bracketless, valueless, narrowed, with_statement, call_of, after_statement, after_call}
use Rattle.pale_print.specs.Placeless.{nowhere, placeless_name, placeless_path, placeless_condition, placeless_bracketed}
use Rattle.pale_print.specs.Placeless.{placeless_value, placeless_argument, placeless_call, placeless_statement}
use Rattle.pale_print_laws.proofs.StackLemmas.{map-last}
use Rattle.pale_print_laws.proofs.PlacelessForms.{statement-Skip, statement-If, statement-While, statement-Split}
use Rattle.pale_print_laws.proofs.PlacelessForms.{statement-Assert, statement-Free, statement-Call, statement-Assign}
use Rattle.pale_print_laws.proofs.PlacelessParts.{placeless_parts, placeless_near, place_of-placeless, ap2, ap3, ap4}
use Rattle.pale_print_laws.proofs.PlacelessParts.{narrowed-placeless, with_statement-placeless, name1, names1, place1, places1}
use Rattle.pale_print_laws.proofs.PlacelessParts.{path1, paths1, condition1, conditions1, bracket1, brackets1, block1, blocks1}
use Rattle.pale_print_laws.proofs.PlacelessParts.{else1, elses1, value1, values1}
use Rattle.pale_syntax.specs.declared.grammar.act.StatementAct.{StatementAct}
use Rattle.pale_syntax.specs.declared.grammar.act.StatementAct.TheVariants as statement_act
use Rattle.pale_syntax.specs.declared.grammar.act.CallAct.{CallAct}
use Rattle.pale_syntax.specs.declared.grammar.act.CallAct.TheVariants as call_act

pub statement_placeless : (a : StatementAct) (near : Near) (parts : Parts) →
    placeless_parts (after_statement a near parts) ≡ after_statement a (placeless_near near) (placeless_parts parts)
statement_placeless statement_act.BeginBlock near parts = λ i. record (placeless_parts parts) {
  blocks = [] ∷ map (map placeless_statement) parts.blocks;
}
statement_placeless statement_act.MakeSkip near parts = λ i. record (placeless_parts parts) {
  blocks =
      with_statement-placeless (statement.Skip (top nowhere parts.places))
      (statement.Skip (top nowhere (map (λ p. nowhere) parts.places))) parts.blocks
      (statement-Skip (top nowhere parts.places) ∙ ap statement.Skip (place1 parts)) i;
  places = places1 parts i;
}
statement_placeless statement_act.NoElse near parts = λ i. record (placeless_parts parts) {
  elses = None ∷ map (option_map (map placeless_statement)) parts.elses;
}
statement_placeless statement_act.SetElse near parts = λ i. record (placeless_parts parts) {
  elses = (ap Some (block1 parts)) i ∷ elses1 parts i;
  blocks = blocks1 parts i;
}
statement_placeless statement_act.MakeIf near parts = λ i. record (placeless_parts parts) {
  blocks =
      (with_statement-placeless (statement.If (top nowhere parts.places) (top conditionless parts.conditions) (top []
      parts.blocks) (top None parts.elses)) (statement.If (top nowhere (map (λ p. nowhere) parts.places)) (top conditionless
      (map placeless_condition parts.conditions)) (top [] (map (map placeless_statement) parts.blocks)) (top None
      (map (option_map (map placeless_statement)) parts.elses))) (rest parts.blocks) (statement-If (top nowhere
      parts.places) (top conditionless parts.conditions) (top [] parts.blocks) (top None parts.elses) ∙ ap4 statement.If (place1
      parts) (condition1 parts) (block1 parts) (else1 parts)) ∙ ap (with_statement (statement.If
      (top nowhere (map (λ p. nowhere) parts.places)) (top conditionless (map placeless_condition parts.conditions))
      (top [] (map (map placeless_statement) parts.blocks))
      (top None (map (option_map (map placeless_statement)) parts.elses)))) (blocks1 parts)) i;
  places = places1 parts i;
  conditions = conditions1 parts i;
  elses = elses1 parts i;
}
statement_placeless statement_act.MakeWhile near parts = λ i. record (placeless_parts parts) {
  blocks =
      (with_statement-placeless (statement.While (top nowhere parts.places) (top conditionless parts.conditions) (top bracketless
      parts.brackets) (top [] parts.blocks)) (statement.While (top nowhere (map (λ p. nowhere) parts.places)) (top conditionless
      (map placeless_condition parts.conditions)) (top bracketless (map placeless_bracketed parts.brackets)) (top []
      (map (map placeless_statement) parts.blocks))) (rest parts.blocks) (statement-While (top nowhere parts.places) (top
      conditionless parts.conditions) (top bracketless parts.brackets) (top [] parts.blocks) ∙ ap4 statement.While (place1
      parts) (condition1 parts) (bracket1 parts) (block1 parts)) ∙ ap (with_statement (statement.While
      (top nowhere (map (λ p. nowhere) parts.places)) (top conditionless (map placeless_condition parts.conditions))
      (top bracketless (map placeless_bracketed parts.brackets))
      (top [] (map (map placeless_statement) parts.blocks)))) (blocks1 parts)) i;
  places = places1 parts i;
  conditions = conditions1 parts i;
  brackets = brackets1 parts i;
}
statement_placeless statement_act.MakeSplit near parts = λ i. record (placeless_parts parts) {
  blocks =
      with_statement-placeless (statement.Split (top nowhere parts.places) (top bracketless parts.brackets))
      (statement.Split (top nowhere (map (λ p. nowhere) parts.places)) (top bracketless (map placeless_bracketed parts.brackets)))
      parts.blocks
      (statement-Split (top nowhere parts.places) (top bracketless parts.brackets) ∙ ap2 statement.Split (place1 parts) (bracket1 parts))
      i;
  places = places1 parts i;
  brackets = brackets1 parts i;
}
statement_placeless statement_act.MakeAssert near parts = λ i. record (placeless_parts parts) {
  blocks =
      with_statement-placeless (statement.Assert (top nowhere parts.places) (top bracketless parts.brackets))
      (statement.Assert (top nowhere (map (λ p. nowhere) parts.places)) (top bracketless (map placeless_bracketed parts.brackets)))
      parts.blocks
      (statement-Assert (top nowhere parts.places) (top bracketless parts.brackets) ∙ ap2 statement.Assert (place1 parts) (bracket1 parts))
      i;
  places = places1 parts i;
  brackets = brackets1 parts i;
}
statement_placeless statement_act.MakeFree near parts = λ i. record (placeless_parts parts) {
  blocks =
      with_statement-placeless (statement.Free (top nowhere parts.places) (top nameless parts.names))
      (statement.Free (top nowhere (map (λ p. nowhere) parts.places)) (top nameless (map placeless_name parts.names)))
      parts.blocks
      (statement-Free (top nowhere parts.places) (top nameless parts.names) ∙ ap2 statement.Free (place1 parts) (name1 parts)) i;
  places = places1 parts i;
  names = names1 parts i;
}
statement_placeless statement_act.MakeNew near parts = λ i. record (placeless_parts parts) {
  values = (ap2 (λ (p : Pos) (n : Name). value.New p n None) (place1 parts) (name1 parts)) i ∷ map placeless_value parts.values;
  places = places1 parts i;
  names = names1 parts i;
}
statement_placeless statement_act.NarrowNew near parts = λ i. record (placeless_parts parts) {
  values = (narrowed-placeless (top valueless parts.values) (top nameless parts.names) ∙ ap2 narrowed (value1 parts) (name1 parts)) i ∷ values1 parts i;
  names = names1 parts i;
}
statement_placeless statement_act.MakeValue near parts = λ i. record (placeless_parts parts) {
  values = (ap2 value.Condition (place1 parts) (condition1 parts)) i ∷ map placeless_value parts.values;
  places = places1 parts i;
  conditions = conditions1 parts i;
}
statement_placeless statement_act.MakeAssign near parts = λ i. record (placeless_parts parts) {
  blocks =
      with_statement-placeless (statement.Assign (top pathless parts.paths) (top nowhere parts.places)
      (top valueless parts.values)) (statement.Assign (top pathless (map placeless_path parts.paths))
      (top nowhere (map (λ p. nowhere) parts.places))
      (top valueless (map placeless_value parts.values))) parts.blocks (statement-Assign (top pathless parts.paths)
      (top nowhere parts.places) (top valueless parts.values) ∙ ap3 statement.Assign (path1 parts) (place1 parts)
      (value1 parts)) i;
  paths = paths1 parts i;
  places = places1 parts i;
  values = values1 parts i;
}

call_of-placeless : (parts : Parts) → placeless_call (call_of parts) ≡ call_of (placeless_parts parts)
call_of-placeless parts = λ i. record (call_of (placeless_parts parts)) { place = place1 parts i; callee = name1 parts i }

pub call_placeless : (a : CallAct) (near : Near) (parts : Parts) →
    placeless_parts (after_call a near parts) ≡ after_call a (placeless_near near) (placeless_parts parts)
call_placeless call_act.TakeResult near parts = λ i. record (placeless_parts parts) {
  call_results =
      (map-last placeless_name parts.call_results (top nameless parts.names) ∙ ap
      (λ l. map placeless_name parts.call_results ++ l ∷ []) (name1 parts)) i;
  names = names1 parts i;
}
call_placeless call_act.NameArgument near parts = λ i. record (placeless_parts parts) {
  arguments =
      (map-last placeless_argument parts.arguments (argument.Name (top nameless parts.names)) ∙ ap
      (λ l. map placeless_argument parts.arguments ++ l ∷ []) (ap argument.Name (name1 parts))) i;
  names = names1 parts i;
}
call_placeless call_act.NullArgument near parts = λ i. record (placeless_parts parts) {
  arguments =
      (map-last placeless_argument parts.arguments (argument.Null (place_of near.last)) ∙ ap
      (λ l. map placeless_argument parts.arguments ++ l ∷ []) (ap argument.Null (place_of-placeless near.last))) i;
}
call_placeless call_act.TrueArgument near parts = λ i. record (placeless_parts parts) {
  arguments =
      (map-last placeless_argument parts.arguments (argument.Truth (place_of near.last) true) ∙ ap
      (λ l. map placeless_argument parts.arguments ++ l ∷ []) (ap (λ p. argument.Truth p true) (place_of-placeless near.last))) i;
}
call_placeless call_act.FalseArgument near parts = λ i. record (placeless_parts parts) {
  arguments =
      (map-last placeless_argument parts.arguments (argument.Truth (place_of near.last) false) ∙ ap
      (λ l. map placeless_argument parts.arguments ++ l ∷ [])
      (ap (λ p. argument.Truth p false) (place_of-placeless near.last))) i;
}
call_placeless call_act.TakeArguments near parts = refl
call_placeless call_act.SetKeep near parts = λ i. record (placeless_parts parts) {
  keep = ap Some (bracket1 parts) i;
  brackets = brackets1 parts i;
}
call_placeless call_act.MakeCall near parts = λ i. record (placeless_parts parts) {
  blocks =
      with_statement-placeless (statement.Call (call_of parts)) (statement.Call (call_of (placeless_parts parts))) parts.blocks
      (statement-Call (call_of parts) ∙ ap statement.Call (call_of-placeless parts)) i;
  places = places1 parts i;
  names = names1 parts i;
  call_results = [];
  given = [];
  arguments = [];
  keep = None;
}
