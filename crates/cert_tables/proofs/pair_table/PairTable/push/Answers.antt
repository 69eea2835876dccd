use Rattle.std.proofs.Common.{List, Some, refl, sym, ◌∙◌, subst}
use Rattle.std.specs.HashMap.{Updates}
use Rattle.cert_text.specs.declared.line.PairLine.{PairLine}
use Rattle.cert_tables.specs.declared.pair_table.PairKey.{PairKey}
use Rattle.cert_tables.specs.PairKeys.{key_of, HasLine}
use Rattle.cert_tables.proofs.PairKeysLemmas.{same_key, none-of, HasPlaces-insert, HasPlaces-push, HasPlaces-kept}
use Rattle.cert_tables.proofs.pair_table.PairTable.push.Goals as goal

pub invariant_of-self-in_err-push : goal.invariant_of-self-in_err-push
invariant_of-self-in_err-push c =
    let lines = c.self.inside.lines in
    let none = none-of c.line.result _ (sym c.is_some.ensures ∙ c.if-is_some.false) c.line.ensures.none in
    let absent : (line : PairLine) → HasLine lines c.key_of-key.result line → ⊥ =
    subst (λ (ls : List PairLine). (line : PairLine) → HasLine ls c.key_of-key.result line → ⊥) (sym c.self.view_is) none in
    HasPlaces-kept lines c.push.new.self c.insert.new.self
    (HasPlaces-insert lines c.self.inside.places c.insert.new.self c.key_of-key.result c.len-place.result c.self.invariant absent
    c.in_ok-insert.ensures.updates) c.in_err-push.ensures.err

pub invariant_of-self-2 : goal.invariant_of-self-2
invariant_of-self-2 c =
    let lines = c.self.inside.lines in
    let line = c.args.line in
    let none = none-of c.line.result _ (sym c.is_some.ensures ∙ c.if-is_some.false) c.line.ensures.none in
    let absent : (other : PairLine) → HasLine lines (key_of line) other → ⊥ =
    subst (λ (ls : List PairLine). (other : PairLine) → HasLine ls (key_of line) other → ⊥) (sym c.self.view_is)
    (subst (λ (key : PairKey). (other : PairLine) → HasLine c.args.self.now key other → ⊥) c.key_of-key.ensures none) in
    let updates : Updates same_key c.self.inside.places c.insert.new.self (key_of line) (Some c.len-place.result) =
    subst (λ (key : PairKey). Updates same_key c.self.inside.places c.insert.new.self key (Some c.len-place.result)) c.key_of-key.ensures
    c.in_ok-insert.ensures.updates in
    HasPlaces-push lines c.push.new.self c.self.inside.places c.insert.new.self line c.len-place.result c.self.invariant absent updates
    c.len-place.ensures c.in_ok-push.ensures.ok

pub returns-clause-known : goal.returns-clause-known
returns-clause-known c =
    let none = none-of c.line.result _ (sym c.is_some.ensures ∙ c.if-is_some.false) c.line.ensures.none in (
      (λ yes has. subst (λ (key : PairKey). (other : PairLine) → HasLine c.args.self.now key other → ⊥) c.key_of-key.ensures none has.0 has.1),
      (λ absent. refl),
    )
