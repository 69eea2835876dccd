use Rattle.std.proofs.Common.{◌≡◌, ◌∙◌, ◌++◌, ℕ, List, ap, codes}
use Rattle.std.specs.Fmt.{decimal}
use Rattle.pale_judging.specs.Generating.{gen_sizes}
use Rattle.pale_status.proofs.WrittenLemmas.{four_pieces, on_ok_weaker}
use Rattle.pale_judging.proofs.generate.push_sizes.Goals as goal

pub returns : goal.returns
returns c =
    let text = c.args.text.now.items in
    let before : c.extend_from_slice-2.new.self.items ≡ ((text ++ codes " procedures ") ++ decimal c.args.procedures) ++ codes " triples " =
    c.in_ok-extend_from_slice-2.ensures.items
    ∙ ap (λ (xs : List ℕ). xs ++ codes " triples ")
    (c.in_ok-push_number.ensures ∙ ap (λ (xs : List ℕ). xs ++ decimal c.args.procedures) c.in_ok-extend_from_slice.ensures.items) in
    on_ok_weaker {P = c.push_number-2.new.text.items ≡ c.extend_from_slice-2.new.self.items ++ decimal c.args.triples}
    {Q = c.push_number-2.new.text.items ≡ text ++ gen_sizes c.args.procedures c.args.triples} c.push_number-2.result
    (λ is. is ∙ (ap (λ (xs : List ℕ). xs ++ decimal c.args.triples) before
    ∙ four_pieces text (codes " procedures ") (decimal c.args.procedures) (codes " triples ") (decimal c.args.triples)))
    c.push_number-2.ensures
