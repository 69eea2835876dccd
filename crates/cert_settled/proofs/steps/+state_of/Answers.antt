use Rattle.std.proofs.Common.{◌≡◌, ◌<◌, if◌then◌else◌, Bool, false, sym, ap, ◌∙◌, subst, arith}
use Rattle.cert_text.specs.declared.line.Target.{Target}
use Rattle.cert_text.specs.declared.line.Target.TheVariants as target
use Rattle.cert_nodes.specs.Nodes.{state_on, functions_of}
use Rattle.cert_nodes.proofs.StatesLemmas.{rank, leaf-state, node-state, node-falls}
use Rattle.cert_settled.specs.Settling.{alone}
use Rattle.cert_settled.proofs.StepsLemmas.{at-most-alone, alone-set, alone-unset}
use Rattle.cert_settled.proofs.steps.+state_of.Goals as goal
use Rattle.cert_settled.proofs.steps.+state_of.Goals.{then-bit+then-node-track, else-bit, else-bit-via-then-bit+else-node-track, else-bit-via-else-bit}

pub state_of-requires : goal.state_of-requires
state_of-requires t c =
    let falls = node-falls c.args.nodes.now (target.Node c.in-Node.number) c.in-Some.node c.requires (sym c.in-Some.ensures) in
    let below : rank c.if-bit.side < c.in-Node.number = elim c.if-bit.branch as (λ _. rank c.if-bit.side < c.in-Node.number) [
      | then-bit+then-node-track w ↦ subst (λ (side : Target). rank side < c.in-Node.number) (sym w.side-is) falls.1
      | else-bit w ↦ subst (λ (side : Target). rank side < c.in-Node.number) (sym w.side-is) falls.0
    ] in
    let smaller : rank c.if-bit.side < rank c.args.target =
    subst (λ (whole : Target). rank c.if-bit.side < rank whole) (sym c.in-Node.is) below in
    (omega (arith, smaller, c.decreases), c.requires)

pub returns-in-None : goal.returns-in-None
returns-in-None t c =
    let functions = functions_of c.args.nodes.now in
    let label = alone c.args.track c.args.bit in
    subst (λ (whole : Target). 0 ≡ state_on functions whole label) (sym c.in-Node.is)
    (sym (leaf-state c.args.nodes.now (target.Node c.in-Node.number) label (sym c.in-None.ensures)))

pub returns-after-bit : goal.returns-after-bit
returns-after-bit t c =
    let functions = functions_of c.args.nodes.now in
    let label = alone c.args.track c.args.bit in
    let node = c.in-Some.node in
    let low = state_on functions node.low label in
    let high = state_on functions node.high label in
    let whole : state_on functions c.args.target label ≡ (if label node.track then high else low) =
    ap (λ (whole : Target). state_on functions whole label) c.in-Node.is
    ∙ node-state c.args.nodes.now (target.Node c.in-Node.number) node label c.requires (sym c.in-Some.ensures) in
    elim c.if-bit.branch as (λ _. c.state_of.result ≡ state_on functions c.args.target label) [
      | then-bit+then-node-track w ↦
          c.state_of.ensures ∙ ap (λ (side : Target). state_on functions side label) w.side-is
          ∙ sym (ap (λ (b : Bool). if b then high else low) (alone-set c.args.track node.track c.args.bit w.if-bit.true w.if-node-track.true))
          ∙ sym whole
      | else-bit w ↦
          let unset : label node.track ≡ false = elim w.else-bit.branch as (λ _. label node.track ≡ false) [
            | else-bit-via-then-bit+else-node-track v ↦ at-most-alone c.args.track c.args.bit node.track v.if-node-track.false
            | else-bit-via-else-bit v ↦ alone-unset c.args.track node.track c.args.bit v.if-bit.false
          ] in
          c.state_of.ensures ∙ ap (λ (side : Target). state_on functions side label) w.side-is
          ∙ sym (ap (λ (b : Bool). if b then high else low) unset) ∙ sym whole
    ]
