use Rattle.std.proofs.Common.{◌≡◌, ◌∙◌, List, ℕ, Option, ap, codes, subst, sym, option_map}
use Rattle.std.specs.Prelude.{IfSome, Some}
use Rattle.std.specs.Borrow.{Bor}
use Rattle.clap.specs.Words.{found_of}
use Rattle.clap.proofs.WalkLemmas.{first_value-rows}
use Rattle.pale_words.specs.declared.words.Mode.{Mode}
use Rattle.pale_words.specs.Words.{mode_name}
use Rattle.pale_words.proofs.SettingsLemmas.{not_none, some_from}
use Rattle.pale_words.proofs.words.mode_in.Goals as goal

pub unwrap-name-requires : goal.unwrap-name-requires
unwrap-name-requires c =
    some_from (λ (s : Bor (List ℕ)). s.now) c.get_str.result (mode_name c.requires.0)
    (c.get_str.ensures ∙ (first_value-rows (found_of c.args.matches.now) (codes "mode") ∙ c.requires.1))

pub unwrap-requires : goal.unwrap-requires
unwrap-requires c =
    let text = ap (λ (o : Option (Bor (List ℕ))). option_map (λ s. s.now) o) (sym c.unwrap-name.ensures) in
    let same = text ∙ (c.get_str.ensures ∙ (first_value-rows (found_of c.args.matches.now) (codes "mode") ∙ c.requires.1)) in
    let name : c.unwrap-name.result.now ≡ mode_name c.requires.0 = cc same in
    not_none c.named.result _ c.named.ensures.none (λ other. other c.requires.0 name)

pub returns : goal.returns
returns c =
    let text = ap (λ (o : Option (Bor (List ℕ))). option_map (λ s. s.now) o) c.unwrap-name.ensures in
    let name = subst (λ (o : Option Mode). IfSome o (λ mode. c.unwrap-name.result.now ≡ mode_name mode)) c.unwrap.ensures c.named.ensures.some in
    sym (first_value-rows (found_of c.args.matches.now) (codes "mode")) ∙ (sym c.get_str.ensures ∙ (text ∙ ap (λ (t : List ℕ). Some t) name))
