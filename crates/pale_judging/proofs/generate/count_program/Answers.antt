use Rattle.std.proofs.Common.{◌≡◌, ◌∙◌, ℕ, List, true, false, ap, subst, sym}
use Rattle.std.specs.List.{list_all}
use Rattle.bdd_nodes.specs.Shelf.{limit_of}
use Rattle.program_judge.specs.declared.ways.Ending.{Ending}
use Rattle.program_judge.specs.declared.ways.TripleWay.{TripleWay}
use Rattle.program_judge.specs.Reports.{ReportsFields, ReportsTriples, is_functional, judged_ending, pointer_fields, stopped_ending}
use Rattle.program_judge.proofs.EndingLemmas.{all-functional}
use Rattle.pale_judging.specs.Generating.{Counts, judged, stopped}
use Rattle.pale_judging.proofs.generate.count_program.Goals as goal

pub count_triples-requires-clause-functional : goal.count_triples-requires-clause-functional
count_triples-requires-clause-functional g c =
    let limit = c.args.limit in
    let program = c.args.whole.now.typed in
    let triples = c.args.whole.now.triples in
    let ways = c.in_ok-fields.fields.items in
    let opened : limit_of c.in_ok-shelf.shelf ≡ limit = ap limit_of c.in_ok-shelf.ensures.empty in
    let told = c.in_ok-fields.ensures.ok in
    let fields = subst (λ (l : ℕ). ReportsFields l program.types (pointer_fields program.types) told.output ways) opened told.allowed in
    let good : list_all is_functional ways ≡ true =
    sym (c.are_functional.ensures ∙ ap (list_all is_functional) c.as_slice.ensures.value) ∙ c.if-are_functional.true in
    all-functional limit program.types told.output ways fields good

pub returns-then-are_functional-clause-counts : goal.returns-then-are_functional-clause-counts
returns-then-are_functional-clause-counts g c =
    let limit = c.args.limit in
    let program = c.args.whole.now.typed in
    let triples = c.args.whole.now.triples in
    let ways = c.in_ok-fields.fields.items in
    let opened : limit_of c.in_ok-shelf.shelf ≡ limit = ap limit_of c.in_ok-shelf.ensures.empty in
    let told = c.in_ok-fields.ensures.ok in
    let fields = subst (λ (l : ℕ). ReportsFields l program.types (pointer_fields program.types) told.output ways) opened told.allowed in
    let good : list_all is_functional ways ≡ true =
    sym (c.are_functional.ensures ∙ ap (list_all is_functional) c.as_slice.ensures.value) ∙ c.if-are_functional.true in
    let same : limit_of c.check_fields.new.shelf ≡ limit = c.in_ok-fields.ensures.same_limit ∙ opened in
    let (lines, reports) = c.in_ok-ways.ensures.counts in
    subst (λ (how : Ending). Counts limit program triples c.in_ok-ways.ways.items how)
    (sym (c.judged_ending-how.ensures ∙ ap judged_ending c.as_slice-then-are_functional.ensures.value))
    (judged told.output ways lines c.in_ok-ways.ways.items fields good
    (subst (λ (l : ℕ). ReportsTriples l program 1 triples lines c.in_ok-ways.ways.items) same reports))

pub returns-clause-counts : goal.returns-clause-counts
returns-clause-counts g c =
    let limit = c.args.limit in
    let program = c.args.whole.now.typed in
    let triples = c.args.whole.now.triples in
    let ways = c.in_ok-fields.fields.items in
    let opened : limit_of c.in_ok-shelf.shelf ≡ limit = ap limit_of c.in_ok-shelf.ensures.empty in
    let told = c.in_ok-fields.ensures.ok in
    let fields = subst (λ (l : ℕ). ReportsFields l program.types (pointer_fields program.types) told.output ways) opened told.allowed in
    let some : list_all is_functional ways ≡ false =
    sym (c.are_functional.ensures ∙ ap (list_all is_functional) c.as_slice.ensures.value) ∙ c.if-are_functional.false in
    subst (λ (how : Ending). Counts limit program triples c.new.result.items how)
    (sym (c.stopped_ending-how.ensures ∙ ap stopped_ending c.as_slice-else-are_functional.ensures.value))
    (subst (λ (none : List TripleWay). Counts limit program triples none (stopped_ending ways)) (sym c.new.ensures.items)
    (stopped told.output ways fields some))
