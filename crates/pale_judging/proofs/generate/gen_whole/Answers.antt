use Rattle.std.proofs.Common.{◌≡◌, ◌∙◌, ℕ, List, length, ap, subst, sym}
use Rattle.store_exec.specs.declared.triple.Triple.{Triple}
use Rattle.program_judge.specs.declared.ways.TripleWay.{TripleWay}
use Rattle.pale_status.specs.declared.status.Status.{Status}
use Rattle.pale_judging.specs.Checking.{status_of}
use Rattle.pale_judging.specs.Generating.{Tells, told, gen_line}
use Rattle.pale_status.proofs.WrittenLemmas.{said_begun, said_whole}
use Rattle.pale_judging.proofs.generate.gen_whole.Goals as goal

pub returns-clause-ok : goal.returns-clause-ok
returns-clause-ok g c =
    let limit = c.args.limit in
    let seed = c.args.seed in
    let program = c.args.whole.now.typed in
    let triples = c.args.whole.now.triples in
    let ways = c.in_ok-counted.counted.ways.items in
    let before = g.K.Sink.written c.args.sink.now in
    let after = g.K.Sink.written c.say.new.sink in
    let spelled : c.as_slice-2.result.now ≡ gen_line seed (length program.procs) (length triples) ways =
    c.as_slice-2.ensures.value ∙ (c.in_ok-line.ensures
    ∙ (ap (λ (n : ℕ). gen_line seed n (length c.as_slice-triples.result.now) c.as_slice.result.now) c.procs-procedures.ensures
    ∙ (ap (λ (ts : List Triple). gen_line seed (length program.procs) (length ts) c.as_slice.result.now) c.as_slice-triples.ensures
    ∙ ap (λ (ws : List TripleWay). gen_line seed (length program.procs) (length triples) ws) c.as_slice.ensures.value))) in
    let allowed = subst (λ (s : Status). Tells limit seed program triples c.as_slice-2.result.now s) (sym c.status_of.ensures)
    (subst (λ (line : List ℕ). Tells limit seed program triples line (status_of c.in_ok-counted.counted.how)) (sym spelled)
    (told ways c.in_ok-counted.counted.how c.in_ok-counted.ensures.counts)) in
    said_whole (Tells limit seed program triples) before after c.as_slice-2.result.now c.status_of.result allowed c.say.result c.say.ensures.ok

pub returns-clause-err : goal.returns-clause-err
returns-clause-err g c =
    let limit = c.args.limit in
    let seed = c.args.seed in
    let program = c.args.whole.now.typed in
    let triples = c.args.whole.now.triples in
    let ways = c.in_ok-counted.counted.ways.items in
    let before = g.K.Sink.written c.args.sink.now in
    let after = g.K.Sink.written c.say.new.sink in
    let spelled : c.as_slice-2.result.now ≡ gen_line seed (length program.procs) (length triples) ways =
    c.as_slice-2.ensures.value ∙ (c.in_ok-line.ensures
    ∙ (ap (λ (n : ℕ). gen_line seed n (length c.as_slice-triples.result.now) c.as_slice.result.now) c.procs-procedures.ensures
    ∙ (ap (λ (ts : List Triple). gen_line seed (length program.procs) (length ts) c.as_slice.result.now) c.as_slice-triples.ensures
    ∙ ap (λ (ws : List TripleWay). gen_line seed (length program.procs) (length triples) ws) c.as_slice.ensures.value))) in
    let allowed = subst (λ (s : Status). Tells limit seed program triples c.as_slice-2.result.now s) (sym c.status_of.ensures)
    (subst (λ (line : List ℕ). Tells limit seed program triples line (status_of c.in_ok-counted.counted.how)) (sym spelled)
    (told ways c.in_ok-counted.counted.how c.in_ok-counted.ensures.counts)) in
    said_begun (Tells limit seed program triples) before after c.as_slice-2.result.now c.status_of.result allowed c.say.result c.say.ensures.err
