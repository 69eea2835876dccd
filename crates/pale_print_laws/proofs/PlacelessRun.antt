-- The tree of a text without its places is that of its tokens without theirs.
use Rattle.std.proofs.Common.{◌≡◌, List, [], ◌∷◌, Option, None, Some, map, refl, ap, ◌∙◌}
use Rattle.std.specs.Option.{option_map}
use Rattle.ll1_reader.specs.declared.symbol.Event.{Event}
use Rattle.ll1_reader.specs.declared.symbol.Event.TheVariants as event
use Rattle.pale_syntax.specs.declared.grammar.act.Act.{Act}
use Rattle.pale_syntax.specs.declared.grammar.act.Act.TheVariants as act
use Rattle.pale_text.specs.declared.token.Token.{Token}
use Rattle.pale_syntax.specs.MakingParts.{Parts, Near}
use Rattle.pale_syntax.specs.Making.{after, run}
use Rattle.pale_text.specs.Tokens.{first_of}
use Rattle.pale_print_laws.proofs.PlacelessParts.{placeless_parts, placeless_token, placeless_near}
use Rattle.pale_print_laws.proofs.PlacelessMaking.{word_placeless, route_placeless, condition_placeless}
use Rattle.pale_print_laws.proofs.PlacelessMakingAssertions.{atom_placeless, connective_placeless}
use Rattle.pale_print_laws.proofs.PlacelessMakingStatements.{statement_placeless, call_placeless}
use Rattle.pale_print_laws.proofs.PlacelessMakingDeclarations.{type_placeless, predicate_placeless, procedure_placeless}

after_placeless : (a : Act) (near : Near) (parts : Parts) → placeless_parts (after a near parts) ≡ after a (placeless_near near) (placeless_parts parts)
after_placeless (act.Word a) near parts = word_placeless a near parts
after_placeless (act.Route a) near parts = route_placeless a near parts
after_placeless (act.Condition a) near parts = condition_placeless a near parts
after_placeless (act.Atom a) near parts = atom_placeless a near parts
after_placeless (act.Connective a) near parts = connective_placeless a near parts
after_placeless (act.Statement a) near parts = statement_placeless a near parts
after_placeless (act.Call a) near parts = call_placeless a near parts
after_placeless (act.«Type» a) near parts = type_placeless a near parts
after_placeless (act.Predicate a) near parts = predicate_placeless a near parts
after_placeless (act.Procedure a) near parts = procedure_placeless a near parts

first_placeless : (tokens : List Token) → option_map placeless_token (first_of tokens) ≡ first_of (map placeless_token tokens)
first_placeless [] = refl
first_placeless (one ∷ tokens) = refl

pub run_placeless : (events : List (Event Act)) (last : Option Token) (tokens : List Token) (parts : Parts) →
    placeless_parts (run events last tokens parts) ≡ run events (option_map placeless_token last) (map placeless_token tokens) (placeless_parts parts)
run_placeless [] last tokens parts = refl
run_placeless (event.Token ∷ events) last [] parts = run_placeless events None [] parts
run_placeless (event.Token ∷ events) last (one ∷ tokens) parts = run_placeless events (Some one) tokens parts
run_placeless (event.Act a ∷ events) last tokens parts =
    run_placeless events last tokens (after a (record { last = last; next = first_of tokens }) parts)
    ∙ ap (run events (option_map placeless_token last) (map placeless_token tokens))
    (after_placeless a (record { last = last; next = first_of tokens }) parts
    ∙ ap (λ n. after a (record { last = option_map placeless_token last; next = n }) (placeless_parts parts)) (first_placeless tokens))
