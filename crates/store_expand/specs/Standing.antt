-- Where an assertion stands while predicates are put in, and what its terms, names and arguments become there.
use Rattle.std.specs.Prelude.{ℕ, suc, List, map, Option, Some, None}
use Rattle.std.specs.Option.{option_map_or}
use Rattle.store_logic.specs.declared.term.Base.{Base}
use Rattle.store_logic.specs.declared.term.Term.{Term}
use Rattle.store_logic.specs.declared.arg.Arg.{Arg}
use Rattle.store_logic.specs.declared.arg.Arg.TheVariants as arg
use Rattle.store_logic.specs.declared.assertion.Assertion.{Assertion}
use Rattle.store_logic.specs.declared.assertion.Assertion.TheVariants as assertion
use Rattle.store_logic.specs.Filling.{args_for, filled_term, filled_truth, filled_set, filled}

-- in a predicate's body, where these arguments go in, or outside of all predicates; and under so many quantifiers of the body
pub record Standing : Type 0 where
  pub args : Option (List Arg)
  pub depth : ℕ

-- outside of all predicates
abbrev pub at_top : Standing
at_top = record { args = None; depth = 0 }

-- in the body of a predicate with these arguments
abbrev pub in_body : List Arg → Standing
in_body args = record { args = Some args; depth = 0 }

-- under one quantifier more
abbrev pub deeper : Standing → Standing
deeper w = record w { depth = suc w.depth }

-- ---- with the arguments put in

abbrev pub put_term : Standing → Term → Term
put_term w t = option_map_or (λ args. filled_term (args_for args) w.depth t) w.args t

abbrev pub put_set : Standing → Base → Base
put_set w name = option_map_or (λ args. filled_set (args_for args) w.depth name) w.args name

-- that the term is true
abbrev pub put_truth : Standing → Term → Assertion
put_truth w t = option_map_or (λ args. filled_truth (args_for args) w.depth t) w.args (assertion.Truth t)

abbrev pub put_arg : Standing → Arg → Arg
put_arg w (arg.Cell t) = arg.Cell (put_term w t)
put_arg w (arg.Set name) = arg.Set (put_set w name)
put_arg w (arg.Truth t) = arg.Truth (put_term w t)

abbrev pub put_args : Standing → List Arg → List Arg
put_args w args = map (put_arg w) args

-- the whole assertion
abbrev pub put_whole : Standing → Assertion → Assertion
put_whole w a = option_map_or (λ args. filled (args_for args) a w.depth) w.args a
