-- Assertions that have no others in them: what they are typed as, and their faults, parts from the left.
use Rattle.std.specs.Prelude.{Bool, false, List, Option}
use Rattle.std.specs.Option.{option_map_or}
use Rattle.pale_text.specs.declared.place.Pos.{Pos}
use Rattle.pale_text.specs.declared.refusal.RefusalKind.TheVariants as kind
use Rattle.pale_syntax.specs.declared.tree.names.Name.{Name}
use Rattle.pale_syntax.specs.declared.tree.names.Path.{Path}
use Rattle.pale_syntax.specs.declared.tree.names.Term as source
use Rattle.pale_syntax.specs.declared.tree.names.Term.TheVariants as source_term
use Rattle.pale_syntax.specs.declared.tree.route.Route.{Route}
use Rattle.store_core.specs.declared.ids.TypeId.{TypeId}
use Rattle.store_core.specs.Tables.{TypeEntry}
use Rattle.store_logic.specs.declared.assertion.Assertion.{Assertion}
use Rattle.store_logic.specs.declared.assertion.Assertion.TheVariants as assertion
use Rattle.pale_tables.specs.declared.type_names.Followed.TheVariants as followed
use Rattle.pale_tables.specs.Faults.{Fault, need, ◌>>◌}
use Rattle.pale_tables.specs.Routes.{whole_route_fault, route_of}
use Rattle.pale_terms.specs.declared.sort.Sort.{Sort}
use Rattle.pale_terms.specs.declared.sort.Sort.TheVariants as sort
use Rattle.pale_terms.specs.Sorts.{is_truth, are_of_one_type}
use Rattle.pale_terms.specs.Visibles.{Entry}
use Rattle.pale_terms.specs.Scopes.{meaning_of, set_fault}
use Rattle.pale_terms.specs.Terms.{typed_path, typed_term, term_at, term_in, cell_type, variant_test}
use Rattle.pale_terms.specs.Terms.{path_fault, reference_fault, cell_fault, set_path_fault}
use Rattle.pale_vocabulary.specs.declared.vocabulary.Vocabulary.{Vocabulary}

-- a path alone is a truth value
unfoldable pub truth_fault : List TypeEntry → List Entry → Path → Fault
truth_fault types scope p = path_fault types scope p >> need (is_truth (typed_path types scope p).sort) kind.Type p.base.place

unfoldable pub truth_of : List TypeEntry → List Entry → Path → Assertion
truth_of types scope p = assertion.Truth (term_at (typed_path types scope p))

-- `t = u`, whose faults are those of a comparison
unfoldable pub same_of : List TypeEntry → List Entry → source.Term → source.Term → Assertion
same_of types scope t u = assertion.Same (term_in (typed_term types scope t)) (term_in (typed_term types scope u))

-- `t in S`: a cell of S's type
abbrev pub is_in_type : Option TypeId → Sort → Bool
is_in_type ty set = option_map_or (λ t. are_of_one_type set (sort.Cell t)) ty false

unfoldable pub member_fault : List TypeEntry → List Entry → source.Term → Pos → Name → Fault
member_fault types scope t word set =
    cell_fault types scope t word
    >> set_fault scope set >> need (is_in_type (cell_type (typed_term types scope t)) (meaning_of scope set).sort) kind.Type word

unfoldable pub member_of : List TypeEntry → List Entry → source.Term → Name → Assertion
member_of types scope t set = assertion.Member (term_in (typed_term types scope t)) (meaning_of scope set).base

-- `S sub U`: two sets of one type
unfoldable pub sets_fault : List Entry → Path → Pos → Name → Fault
sets_fault scope p word other =
    set_path_fault scope p >> set_fault scope other >> need (are_of_one_type (meaning_of scope p.base).sort (meaning_of scope other).sort) kind.Type word

unfoldable pub sets_of : List Entry → Path → Name → Assertion
sets_of scope p other = assertion.Subset (meaning_of scope p.base).base (meaning_of scope other).base

-- null is no set
abbrev pub subset_fault : List Entry → source.Term → Pos → Name → Fault
subset_fault scope (source_term.Null place) word other = need false kind.Type word
subset_fault scope (source_term.Path p) word other = sets_fault scope p word other

abbrev pub subset_of : List Entry → source.Term → Name → Assertion
subset_of scope (source_term.Null place) other = assertion.False
subset_of scope (source_term.Path p) other = sets_of scope p other

-- `t <R> u`: null or cells, and between them a route over data and pointer fields
unfoldable pub walk_fault : Vocabulary → List Entry → source.Term → Pos → Route → source.Term → Fault
walk_fault vocabulary scope t angle along u =
    reference_fault vocabulary.types scope t angle
    >> whole_route_fault vocabulary.names followed.DataAndPointers angle along >> reference_fault vocabulary.types scope u angle

unfoldable pub walk_of : Vocabulary → List Entry → source.Term → Route → source.Term → Assertion
walk_of vocabulary scope t along u =
    assertion.Walk (term_in (typed_term vocabulary.types scope t)) (route_of vocabulary.names along) (term_in (typed_term vocabulary.types scope u))

-- `t : v`, whose faults are those of a test for a variant
unfoldable pub is_of : List TypeEntry → List Entry → source.Term → Name → Assertion
is_of types scope t v = let test = variant_test types scope t v in assertion.Is (term_in test.0) test.1
