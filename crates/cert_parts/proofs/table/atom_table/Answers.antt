use Rattle.std.proofs.Common.{ℕ, List, subst}
use Rattle.cert_text.specs.declared.line.Target.{Target}
use Rattle.cert_theory.specs.Sections.{atom_states}
use Rattle.cert_parts.specs.Leading.{AreSpacesOf}
use Rattle.cert_parts.proofs.TableLemmas.{agree, are-there}
use Rattle.cert_parts.proofs.table.atom_table.Goals as goal

pub returns-clause-agree : goal.returns-clause-agree
returns-clause-agree c = λ told.
    let made = c.in_ok-made.made in
    let many = c.spaces.result in
    let spaces = c.in_ok-spaces.spaces in
    let of_spaces : AreSpacesOf many (atom_states c.args.atom) made spaces =
    subst (λ (n : ℕ). AreSpacesOf many n made spaces) c.states.ensures
    (subst (λ (rows : List (List Target)). AreSpacesOf many c.states.result rows spaces) c.as_slice.ensures c.in_ok-spaces.ensures) in
    agree c.rows.new.nodes told c.args.atom made c.in_ok-made.ensures.rows many spaces of_spaces c.in_ok-accepting.accepting c.args.g.now
    c.spaces.ensures.value c.in_ok-accepting.ensures

pub returns-clause-there : goal.returns-clause-there
returns-clause-there c = λ told.
    let made = c.in_ok-made.made in
    let many = c.spaces.result in
    let spaces = c.in_ok-spaces.spaces in
    let of_spaces : AreSpacesOf many (atom_states c.args.atom) made spaces =
    subst (λ (n : ℕ). AreSpacesOf many n made spaces) c.states.ensures
    (subst (λ (rows : List (List Target)). AreSpacesOf many c.states.result rows spaces) c.as_slice.ensures c.in_ok-spaces.ensures) in
    are-there c.rows.new.nodes told c.args.atom made c.in_ok-made.ensures.rows many spaces of_spaces c.in_ok-accepting.accepting
