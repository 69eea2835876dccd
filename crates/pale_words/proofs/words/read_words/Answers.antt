use Rattle.std.proofs.Common.{◌≡◌, ◌∙◌, ap, map, sym, subst, List}
use Rattle.std.specs.String.{string_bytes}
use Rattle.clap.specs.Words.{Row, app_of, fault_of, matches_of}
use Rattle.pale_words.specs.Words.{HasSettings, IsRefused}
use Rattle.pale_words.proofs.CommandLemmas.{command_faults, command_free, command_matches, command_simple}
use Rattle.pale_words.proofs.ReadLemmas.{has_values}
use Rattle.pale_words.proofs.SettingsLemmas.{some_fault}
use Rattle.pale_words.proofs.words.read_words.Goals as goal

pub settings_in-requires : goal.settings_in-requires
settings_in-requires c =
    let is = c.in_ok-command.ensures in
    has_values c.in_ok-command.command c.in-Ok.matches c.in-Ok.ensures.parsed is.0 is.1 is.2

pub returns-in-Ok-clause-ok : goal.returns-in-Ok-clause-ok
returns-in-Ok-clause-ok c =
    let app = app_of c.in_ok-command.command in
    let is = c.in_ok-command.ensures in
    let words = map string_bytes c.args.words.now.items in
    let words_are : map string_bytes c.as_slice.result.now ≡ words = ap (map string_bytes) c.as_slice.ensures.value in
    let none = c.in-Ok.ensures.kinds (command_free app is.0 is.1 is.2) in
    let rows = (c.in-Ok.ensures.matches (command_simple app is.0 is.1 is.2)).0 in
    record {
      taken = sym (command_faults app is.0 is.1 is.2 words) ∙ (ap (fault_of app) (sym words_are) ∙ none);
      values = subst (λ (r : List Row). HasSettings r c.settings_in.result)
          (rows ∙ (ap (matches_of app) words_are ∙ command_matches app is.0 is.1 is.2 words)) c.settings_in.ensures;
    }

pub returns-in-Err-clause-refused : goal.returns-in-Err-clause-refused
unfolding IsRefused
returns-in-Err-clause-refused c refused =
    let app = app_of c.in_ok-command.command in
    let is = c.in_ok-command.ensures in
    let words = map string_bytes c.args.words.now.items in
    let words_are : map string_bytes c.as_slice.result.now ≡ words = ap (map string_bytes) c.as_slice.ensures.value in
    let kinds = c.in-Err.ensures.kinds (command_free app is.0 is.1 is.2) in
    let faults = some_fault _ c.in-Err.error kinds (c.stop_of.ensures (cc refused)) in
    λ none. faults (ap (fault_of app) words_are ∙ (command_faults app is.0 is.1 is.2 words ∙ none))
