use Rattle.std.proofs.Common.{length, ◌∙◌, ap, sym}
use Rattle.pale_text.proofs.PieceLemmas.{name_is_piece, number_is_piece, mark_is_piece, no_mark_is_piece, nothing_is_piece}
use Rattle.pale_text.proofs.piece.read_piece.Goals as goal

pub returns-then-is_ascii_alphabetic : goal.returns-then-is_ascii_alphabetic
returns-then-is_ascii_alphabetic c =
    name_is_piece c.args.text.now c.in-Some.first.now c.name_parts-length.result c.in_ok-name.name (sym c.in-Some.ensures.value)
    (sym c.is_ascii_alphabetic.ensures.value ∙ c.if-is_ascii_alphabetic.true) c.name_parts-length.ensures c.in_ok-name.ensures

pub returns-then-is_ascii_digit : goal.returns-then-is_ascii_digit
returns-then-is_ascii_digit c =
    number_is_piece c.args.text.now c.in-Some.first.now c.digits-length.result c.in_ok-number.number (sym c.in-Some.ensures.value)
    (sym c.is_ascii_digit.ensures.value ∙ c.if-is_ascii_digit.true) c.digits-length.ensures c.in_ok-number.ensures

pub returns : goal.returns
returns c =
    mark_is_piece c.args.text.now c.in-Some.first.now _ c.in-Some-mark_of.mark (sym c.in-Some.ensures.value)
    (sym c.is_ascii_alphabetic.ensures.value ∙ c.if-is_ascii_alphabetic.false) (sym c.is_ascii_digit.ensures.value ∙ c.if-is_ascii_digit.false)
    (sym c.in-Some-mark_of.ensures) (ap length c.bytes.ensures)

pub returns-in_default : goal.returns-in_default
returns-in_default c = nothing_is_piece c.args.text.now (sym c.in_default.ensures.value)

pub returns-in_default-mark_of : goal.returns-in_default-mark_of
returns-in_default-mark_of c =
    no_mark_is_piece c.args.text.now c.in-Some.first.now (sym c.in-Some.ensures.value)
    (sym c.is_ascii_alphabetic.ensures.value ∙ c.if-is_ascii_alphabetic.false) (sym c.is_ascii_digit.ensures.value ∙ c.if-is_ascii_digit.false)
    (sym c.in_default-mark_of.ensures)
