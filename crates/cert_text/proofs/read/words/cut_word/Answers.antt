use Rattle.std.proofs.Common.{◌≡◌, length, take, drop, unwrap_or, ap, ◌∙◌}
use Rattle.cert_text.proofs.WordsLemmas.{cut_word-is, rest_from, word_end}
use Rattle.cert_text.proofs.read.words.cut_word.Goals as goal

pub returns : goal.returns
returns c =
    let bytes = c.args.bytes.now in
    let at : c.unwrap_or-end.result ≡ word_end bytes = c.unwrap_or-end.ensures ∙ ap (λ o. unwrap_or o (length bytes)) c.place_of.ensures in
    ap (λ l. (take c.unwrap_or-end.result bytes, l)) (rest_from bytes c.unwrap_or-end.result)
    ∙ ap (λ n. (take n bytes, drop n bytes)) at
    ∙ cut_word-is bytes
