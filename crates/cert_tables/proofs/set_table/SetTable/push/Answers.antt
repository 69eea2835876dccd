use Rattle.std.proofs.Common.{◌≡◌, ℕ, List, refl, sym, ◌∙◌, subst}
use Rattle.cert_text.specs.declared.line.SetLine.{SetLine}
use Rattle.cert_tables.specs.declared.set_table.SetKey.{SetKey}
use Rattle.cert_tables.specs.SetKeys.{IsLineOf, AreSets, HasSetPlaces}
use Rattle.cert_tables.proofs.PairKeysLemmas.{none-of}
use Rattle.cert_tables.proofs.SetKeysLemmas.{same_key-equal, HasSetPlaces-insert, HasSetPlaces-push, HasSetPlaces-same, AreSets-push}
use Rattle.cert_tables.proofs.set_table.SetTable.push.Goals as goal

pub invariant_of-self : goal.invariant_of-self
invariant_of-self c = (
  HasSetPlaces-same c.self.inside.lines c.self.inside.places c.insert.new.self c.self.invariant.0 c.in_err-insert.ensures.err,
  c.self.invariant.1,
)

pub invariant_of-self-in_err-push : goal.invariant_of-self-in_err-push
invariant_of-self-in_err-push c =
    let lines = c.self.inside.lines in
    let key : SetKey = record { space = c.args.line.space; members = c.in_ok-members.members } in
    let none = none-of c.place.result _ (sym c.is_some.ensures ∙ c.if-is_some.false) c.place.ensures.none in
    let absent : (k : ℕ) → IsLineOf lines key.space key.members.items k → ⊥ =
    subst (λ (ls : List SetLine). (k : ℕ) → IsLineOf ls key.space key.members.items k → ⊥) (sym c.self.view_is) none in (
      subst (λ (ls : List SetLine). HasSetPlaces ls c.insert.new.self) (sym c.in_err-push.ensures.err)
          (HasSetPlaces-insert lines c.self.inside.places c.insert.new.self key c.len-place.result c.self.invariant.0 absent
          c.in_ok-insert.ensures.updates),
      subst AreSets (sym c.in_err-push.ensures.err) c.self.invariant.1,
    )

pub invariant_of-self-2 : goal.invariant_of-self-2
invariant_of-self-2 c =
    let lines = c.self.inside.lines in
    let line = c.args.line in
    let key : SetKey = record { space = line.space; members = c.in_ok-members.members } in
    let none = none-of c.place.result _ (sym c.is_some.ensures ∙ c.if-is_some.false) c.place.ensures.none in
    let absent : (k : ℕ) → IsLineOf lines key.space key.members.items k → ⊥ =
    subst (λ (ls : List SetLine). (k : ℕ) → IsLineOf ls key.space key.members.items k → ⊥) (sym c.self.view_is) none in
    let members : key.members.items ≡ line.members = c.in_ok-members.ensures.items ∙ c.as_slice.ensures in (
      HasSetPlaces-push lines c.push.new.self c.self.inside.places c.insert.new.self key line c.len-place.result c.self.invariant.0 absent
          c.in_ok-insert.ensures.updates c.len-place.ensures refl (sym members) c.in_ok-push.ensures.ok
          (λ other space same. same_key-equal key other space same),
      AreSets-push lines c.push.new.self line c.self.invariant.1 c.requires
          (subst (λ (ms : List ℕ). (k : ℕ) → IsLineOf lines line.space ms k → ⊥) members absent) c.in_ok-push.ensures.ok,
    )

pub returns-clause-known : goal.returns-clause-known
returns-clause-known c =
    let members : c.in_ok-members.members.items ≡ c.args.line.members = c.in_ok-members.ensures.items ∙ c.as_slice.ensures in
    let none = none-of c.place.result _ (sym c.is_some.ensures ∙ c.if-is_some.false) c.place.ensures.none in (
      (λ yes. subst (λ (ms : List ℕ). (k : ℕ) → IsLineOf c.args.self.now c.args.line.space ms k → ⊥) members none),
      (λ absent. refl),
    )
