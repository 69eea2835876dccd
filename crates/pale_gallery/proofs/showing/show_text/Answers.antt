use Rattle.std.proofs.Common.{◌≡◌, ◌∙◌, ℕ, List, Some, map, subst}
use Rattle.std.specs.String.{string_bytes}
use Rattle.pale_top.specs.Output.{Answers, CallOutput}
use Rattle.pale_gallery.proofs.ShownLemmas.{Shows-on_ok}
use Rattle.pale_gallery.proofs.showing.show_text.Goals as goal

pub returns : goal.returns
returns g c =
    let words = map string_bytes c.args.words.now.items in
    let before = g.K.Sink.written c.args.sink.now in
    let between = g.K.Sink.written c.pale_main-status.new.sink in
    let status = c.pale_main-status.result in
    let read : c.new-source.result ≡ c.args.text.now = c.new-source.ensures ∙ c.in_ok-from_slice.ensures.items in
    Shows-on_ok words c.args.text.now status before between (g.K.Sink.written c.show_status.new.sink) c.show_status.result
    (λ is. subst (λ (left : List ℕ). Answers (CallOutput words) (Some left) before between status) read (c.pale_main-status.ensures.answer is))
    c.show_status.ensures
