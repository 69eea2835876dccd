use Rattle.std.proofs.Common.{List, [], ◌∷◌, ◌++◌, refl, ap, sym, ◌∙◌, subst}
use Rattle.std.proofs.lemmas.Bool.{false≢true}
use Rattle.cert_theory.specs.Tables.{PlacedState, Lists}
use Rattle.cert_settled.specs.Settling.{placed}
use Rattle.cert_settled.proofs.StatesLemmas.{pushed}
use Rattle.cert_settled.proofs.states.SettledStates.push.Goals as goal

pub returns-clause-value : goal.returns-clause-value
returns-clause-value c =
    let state = c.args.state in
    pushed c.self.inside.states.keys c.insert_full.new.self.keys state c.in_ok-insert_full.ensures.keys
    (λ listed. false≢true (sym c.if-has.false ∙ c.has.ensures.1
    (subst (λ (list : List PlacedState). Lists list state.space state.state) c.self.view_is listed)))
    ∙ ap (λ (list : List PlacedState). list ++ placed state ∷ []) c.self.view_is

pub returns-clause-known : goal.returns-clause-known
returns-clause-known c = ((λ yes listed. false≢true (sym c.if-has.false ∙ c.has.ensures.1 listed)), (λ absent. refl))
