use Rattle.std.proofs.Common.{ℕ, subst}
use Rattle.std.proofs.lemmas.Result.{IfOk-weaker}
use Rattle.cert_parts.specs.declared.choice.Choice.{Choice}
use Rattle.cert_parts.specs.Atoms.{atom_function, first_track, second_track}
use Rattle.cert_parts.specs.Leading.{LeadsTo}
use Rattle.cert_parts.proofs.DecideLemmas.{chosen_at}
use Rattle.cert_parts.proofs.RowsLemmas.{cell-leads}
use Rattle.cert_parts.proofs.rows.cell.Goals as goal

pub returns-clause-leads : goal.returns-clause-leads
returns-clause-leads c =
    let new = c.choose_by.new.nodes in
    let atom = c.args.atom in
    let made = c.choice_at.result in
    let found = c.tracks-x.result in
    IfOk-weaker c.choose_by.result (λ t. LeadsTo new t (chosen_at made found.0 found.1)) (λ t. LeadsTo new t (atom_function atom c.args.p c.args.q))
    (λ t leads. cell-leads new atom c.args.p c.args.q t
    (subst (λ (choice : Choice). LeadsTo new t (chosen_at choice (first_track atom) (second_track atom))) c.choice_at.ensures
    (subst (λ (tracks : ℕ × ℕ). LeadsTo new t (chosen_at made tracks.0 tracks.1)) c.tracks-x.ensures leads))) c.choose_by.ensures.leads
