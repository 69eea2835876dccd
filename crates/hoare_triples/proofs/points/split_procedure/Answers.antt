use Rattle.std.proofs.Common.{List, ◌∷◌, sym, ap}
use Rattle.pale_typed.specs.declared.typed.Stmt.{Stmt}
use Rattle.store_exec.specs.declared.triple.Start.{Start}
use Rattle.hoare_split.specs.Passages.{Started}
use Rattle.hoare_split.specs.Starts.{entry_start}
use Rattle.hoare_split.specs.Callers.{vars_of, block_in}
use Rattle.hoare_split.specs.Triples.{exit_of, triple_of}
use Rattle.hoare_triples.proofs.PointLemmas.{added-first, on_ok_then}
use Rattle.hoare_triples.proofs.points.split_procedure.Goals as goal

pub returns : goal.returns
returns c =
    let caller = c.args.caller.now in
    let proc = caller.proc.now in
    let exit = exit_of (vars_of caller) proc in
    let start = entry_start (vars_of caller) proc in
    let body = c.as_slice-body.result.now in
    let entry : List Stmt → Started = λ block. record { place = proc.place; start = start; flow = (block_in caller block).flow exit } in
    on_ok_then c.split_block.result
    (λ more. added-first (triple_of caller.number) c.args.triples.now c.push_triple.new.triples c.split_block.new.triples
    (triple_of caller.number (record { place = proc.place; start = c.in_ok-start.start; flow = (block_in caller body).flow exit }))
    (entry body) ((block_in caller body).starts exit) _ c.in_ok-push_triple.ensures
    (ap (λ (x : Start). triple_of caller.number (record { place = proc.place; start = x; flow = (block_in caller body).flow exit }))
    c.in_ok-start.ensures)
    more (ap (λ (block : List Stmt). entry block ∷ (block_in caller block).starts exit) (sym c.as_slice-body.ensures)))
    c.split_block.ensures
