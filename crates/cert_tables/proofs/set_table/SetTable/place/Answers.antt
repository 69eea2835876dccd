use Rattle.std.proofs.Common.{◌≡◌, ℕ, List, sym, subst, ◌∙◌}
use Rattle.std.proofs.lemmas.Bool.{false≢true}
use Rattle.cert_text.specs.declared.line.SetLine.{SetLine}
use Rattle.cert_tables.specs.SetKeys.{IsLineOf}
use Rattle.cert_tables.proofs.SetKeysLemmas.{if-none, numbers-equal, place-none, place-past, place-apart}
use Rattle.cert_tables.proofs.set_table.SetTable.place.Goals as goal
use Rattle.cert_tables.proofs.set_table.SetTable.place.Goals.{else-line-key-via-then-line-key+else-eq, else-line-key-via-else-line-key}

pub returns-in_err-place-clause-none : goal.returns-in_err-place-clause-none
returns-in_err-place-clause-none c =
    let key = c.args.key.now in
    if-none c.from_residual.result _
    (subst (λ (ls : List SetLine). (k : ℕ) → IsLineOf ls key.space key.members.items k → ⊥) c.self.view_is
    (place-none c.self.inside.lines c.self.inside.places key c.self.invariant.0 c.in_err-place.ensures.value))

pub returns-in_err-line-clause-none : goal.returns-in_err-line-clause-none
returns-in_err-line-clause-none c =
    let key = c.args.key.now in
    if-none c.from_residual-in_err-line.result _
    (subst (λ (ls : List SetLine). (k : ℕ) → IsLineOf ls key.space key.members.items k → ⊥) c.self.view_is
    (place-past c.self.inside.lines c.self.inside.places key c.in_ok-place.field-0.now c.self.invariant.0 c.in_ok-place.ensures.value
    c.in_err-line.ensures.value))

pub returns-else-line-key-clause-none : goal.returns-else-line-key-clause-none
returns-else-line-key-clause-none c =
    let key = c.args.key.now in
    let line = c.in_ok-line.line.now in
    let apart : line.space ≡ key.space → line.members ≡ key.members.items → ⊥ =
    λ in_space members. elim c.else-line-key.branch [
      | else-line-key-via-then-line-key+else-eq w ↦
          absurd (false≢true (sym w.if-eq.false ∙ w.eq.ensures ∙ numbers-equal w.as_slice.result.now w.as_slice-then-line-key.result.now
          (w.as_slice.ensures ∙ members ∙ sym w.as_slice-then-line-key.ensures.value)))
      | else-line-key-via-else-line-key w ↦ absurd (w.if-line-key.false in_space)
    ] in
    subst (λ (ls : List SetLine). (k : ℕ) → IsLineOf ls key.space key.members.items k → ⊥) c.self.view_is
    (place-apart c.self.inside.lines c.self.inside.places key c.in_ok-place.field-0.now line c.self.invariant.0 c.in_ok-place.ensures.value
    c.in_ok-line.ensures.value apart)
