-- Uses of predicates: what they are typed as, and their faults.
use Rattle.std.specs.Prelude.{ℕ, ◌==◌, List, [], ◌∷◌, length, Option, None, is_some, unwrap_or}
use Rattle.pale_text.specs.declared.refusal.RefusalKind.TheVariants as kind
use Rattle.pale_syntax.specs.declared.tree.names.Name.{Name}
use Rattle.pale_syntax.specs.declared.tree.names.Path.{Path}
use Rattle.store_core.specs.Tables.{TypeEntry, place_of}
use Rattle.store_logic.specs.declared.arg.Arg.{Arg}
use Rattle.store_logic.specs.declared.arg.Arg.TheVariants as arg
use Rattle.store_logic.specs.declared.assertion.Assertion.{Assertion}
use Rattle.store_logic.specs.declared.assertion.Assertion.TheVariants as assertion
use Rattle.pale_tables.specs.Faults.{Fault, need, ◌>>◌}
use Rattle.pale_terms.specs.declared.sort.Sort.{Sort}
use Rattle.pale_terms.specs.declared.sort.Sort.TheVariants as sort
use Rattle.pale_terms.specs.Sorts.{is_truth, is_cell, are_of_one_type}
use Rattle.pale_terms.specs.Visibles.{Entry}
use Rattle.pale_terms.specs.Scopes.{meaning_of}
use Rattle.pale_terms.specs.Terms.{typed_path, term_at, path_fault, set_path_fault}
use Rattle.pale_vocabulary.specs.declared.vocabulary.Vocabulary.{Vocabulary}
use Rattle.pale_vocabulary.specs.Heads.{head_names, params_at}

-- ---- an argument for a parameter of a sort

-- a path to a truth value
unfoldable pub truth_argument_fault : List TypeEntry → List Entry → Path → Fault
truth_argument_fault types scope p = path_fault types scope p >> need (is_truth (typed_path types scope p).sort) kind.Kind p.base.place

unfoldable pub truth_argument : List TypeEntry → List Entry → Path → Arg
truth_argument types scope p = arg.Truth (term_at (typed_path types scope p))

-- a path to a cell of the type
unfoldable pub cell_argument_fault : List TypeEntry → List Entry → Sort → Path → Fault
cell_argument_fault types scope of p =
    path_fault types scope p >> need (is_cell (typed_path types scope p).sort) kind.Kind p.base.place
    >> need (are_of_one_type (typed_path types scope p).sort of) kind.Type p.base.place

unfoldable pub cell_argument : List TypeEntry → List Entry → Path → Arg
cell_argument types scope p = arg.Cell (term_at (typed_path types scope p))

-- the name of a set of cells of the type
unfoldable pub set_argument_fault : List Entry → Sort → Path → Fault
set_argument_fault scope of p = set_path_fault scope p >> need (are_of_one_type (meaning_of scope p.base).sort of) kind.Type p.base.place

unfoldable pub set_argument : List Entry → Path → Arg
set_argument scope p = arg.Set (meaning_of scope p.base).base

-- by the sort
abbrev pub argument_fault : List TypeEntry → List Entry → Sort → Path → Fault
argument_fault types scope sort.Truth p = truth_argument_fault types scope p
argument_fault types scope (sort.Cell ty) p = cell_argument_fault types scope (sort.Cell ty) p
argument_fault types scope (sort.Set ty) p = set_argument_fault scope (sort.Set ty) p

abbrev pub argument_of : List TypeEntry → List Entry → Sort → Path → Arg
argument_of types scope sort.Truth p = truth_argument types scope p
argument_of types scope (sort.Cell ty) p = cell_argument types scope p
argument_of types scope (sort.Set ty) p = set_argument scope p

-- ---- one argument for each parameter, in order

abbrev pub arguments_fault : List TypeEntry → List Entry → List Sort → List Path → Fault
arguments_fault types scope [] paths = None
arguments_fault types scope (of ∷ sorts) [] = None
arguments_fault types scope (of ∷ sorts) (p ∷ paths) = argument_fault types scope of p >> arguments_fault types scope sorts paths

abbrev pub arguments_of : List TypeEntry → List Entry → List Sort → List Path → List Arg
arguments_of types scope [] paths = []
arguments_of types scope (of ∷ sorts) [] = []
arguments_of types scope (of ∷ sorts) (p ∷ paths) = argument_of types scope of p ∷ arguments_of types scope sorts paths

-- ---- a use

-- the number of the predicate of this name
abbrev pub pred_named : Vocabulary → Name → Option ℕ
pred_named vocabulary p = place_of p.bytes (head_names vocabulary.preds)

-- as many arguments as parameters, and then each
unfoldable pub applied_fault : Vocabulary → List Entry → ℕ → Name → List Path → Fault
applied_fault vocabulary scope number p paths =
    need (length paths == length (params_at vocabulary.preds number)) kind.Arity p.place
    >> arguments_fault vocabulary.types scope (params_at vocabulary.preds number) paths

unfoldable pub applied_to : Vocabulary → List Entry → ℕ → List Path → Assertion
applied_to vocabulary scope number paths = assertion.Pred number (arguments_of vocabulary.types scope (params_at vocabulary.preds number) paths)

-- a predicate that is declared, and then its arguments
unfoldable pub use_fault : Vocabulary → List Entry → Name → List Path → Fault
use_fault vocabulary scope p paths =
    need (is_some (pred_named vocabulary p)) kind.Unknown p.place
    >> applied_fault vocabulary scope (unwrap_or (pred_named vocabulary p) 0) p paths

unfoldable pub use_of : Vocabulary → List Entry → Name → List Path → Assertion
use_of vocabulary scope p paths = applied_to vocabulary scope (unwrap_or (pred_named vocabulary p) 0) paths
