use Rattle.std.proofs.Common.{◌≡◌, List, IfOk, map, ap, ◌∙◌, subst, arith}
use Rattle.ws2s_core.specs.declared.formula.Formula.{Formula}
use Rattle.ws2s_core.specs.declared.formula.Formula.TheVariants.{Ex2}
use Rattle.ws2s_forms.specs.Forms.{track}
use Rattle.graph_view.specs.declared.view.Sym.{Sym}
use Rattle.graph_view.specs.Sights.{sight_of}
use Rattle.site_list.specs.States.{value_of}
use Rattle.site_list.specs.Parts.{is_part}
use Rattle.store_claims.proofs.Made.{part-made}
use Rattle.store_claims.proofs.formulas.on_part.Goals as goal

pub returns : goal.returns
returns c =
    let values = c.in_ok-values.ensures ∙ ap (λ (vs : List Sym). map (value_of vs) c.args.roots.now) c.as_slice.ensures in
    subst (λ (f : Formula). IfOk c.ex2.result (λ formula. formula ≡ f))
    (ap (Ex2 (track c.tracks.result)) c.in_ok-and.ensures
    ∙ part-made c.args.l.now.types c.args.l.now.vars c.args.assertion.now c.args.roots.now c.args.inside c.tracks.result c.in_ok-next.next
    c.in_ok-view.view c.in_ok-values.values c.in_ok-part.part c.in_ok-holds.holds c.tracks.ensures
    (let after = c.in_ok-next.ensures in omega (arith, after)) c.in_ok-view.ensures values
    (c.in_ok-part.ensures ∙ ap (λ (vs : List Sym). is_part c.args.l.now.types (sight_of c.args.l.now.vars c.in_ok-view.view) vs c.tracks.result
    c.in_ok-next.next) c.as_slice-2.ensures) c.in_ok-holds.ensures.value)
    c.ex2.ensures
