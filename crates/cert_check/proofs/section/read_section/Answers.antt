use Rattle.std.proofs.Common.{◌≡◌, ℕ, List, [], ◌∷◌, length, subst}
use Rattle.ws2s_core.specs.declared.node.Node.{Node}
use Rattle.cert_text.specs.declared.line.Line.TheVariants as line
use Rattle.cert_check.specs.Ending.{IsHead, IsEmpty}
use Rattle.cert_check.specs.Standing.{Stands}
use Rattle.cert_check.specs.Told.{ShowsNone}
use Rattle.cert_check.proofs.ArmsLemmas.{some-nodes, on-both}
use Rattle.cert_check.proofs.EndingLemmas.{shows, stands-none}
use Rattle.cert_check.proofs.section.read_section.Goals as goal

pub check_nodes-requires-clause-starts : goal.check_nodes-requires-clause-starts
check_nodes-requires-clause-starts c =
    stands-none c.args.g.now c.as_slice.result.now c.new-drawing.result.nodes c.new_board-board.result c.in_ok-body.body.now c.new-drawing.ensures.told
    c.new_board-board.ensures.parts

pub returns : goal.returns
returns c =
    let g = c.args.g.now in
    let f = c.args.f.now in
    let nodes = c.in_ok-nodes.nodes in
    let of_f = c.in_ok-nodes.ensures in
    let d = c.check_nodes.new.drawing.nodes in
    let board = c.check_nodes.new.board in
    let body = c.in_ok-body.body.now in
    let rest = c.in_ok-rest.rest.now in
    let stands = subst (λ (ns : List Node). Stands g ns d board (length ns) body rest) c.as_slice.ensures c.in_ok-rest.ensures.stands in
    let head = subst (λ (n : ℕ). IsHead n c.args.lines.now body) c.len.ensures c.in_ok-body.ensures in
    on-both (rest ≡ line.End ∷ []) (IsEmpty board) (ShowsNone g f c.args.lines.now) c.read_end.result c.read_end.ensures.lines c.read_end.ensures.empty
    (λ ends empty. shows g nodes d board body rest stands f c.args.lines.now of_f c.in_ok-rest.ensures.drawn.1 head ends empty
    (some-nodes nodes f of_f.last))
