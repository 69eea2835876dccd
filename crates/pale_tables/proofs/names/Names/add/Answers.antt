use Rattle.std.proofs.Common.{◌≡◌, ◌++◌, ◌∷◌, [], ◌∙◌, None, is_some, ap, sym}
use Rattle.store_core.specs.Tables.{place_of}
use Rattle.store_core.proofs.Names.{no_key}
use Rattle.store_core.proofs.Bodies.{map-insert_entry}
use Rattle.pale_tables.specs.Names.{names_of}
use Rattle.pale_tables.proofs.NamesLemmas.{with_name-known, with_name-new, none_of}
use Rattle.pale_tables.proofs.names.Names.add.Goals as goal

pub returns-then-is_some-clause-added : goal.returns-then-is_some-clause-added
returns-then-is_some-clause-added c =
    sym (with_name-known c.args.self.now c.args.name.now (sym (ap is_some c.find.ensures) ∙ sym c.is_some.ensures ∙ c.if-is_some.true))

new : (c : goal.In_ok-insert) → place_of c.args.name.now c.args.self.now ≡ None
new c = none_of _ (sym (ap is_some c.find.ensures) ∙ sym c.is_some.ensures ∙ c.if-is_some.false)

pub returns-clause-added : goal.returns-clause-added
returns-clause-added c =
    let es = c.self.inside.names.entries in
    ap names_of c.in_ok-insert.ensures.entries
    ∙ map-insert_entry (λ e. e.0.items) c.in_ok-key.key tt es
    (no_key c.in_ok-key.key.items es (ap (λ n. place_of n (names_of es)) c.in_ok-key.ensures.items ∙ ap (place_of c.args.name.now) c.self.view_is ∙ new c))
    ∙ ap (λ n. names_of es ++ n ∷ []) c.in_ok-key.ensures.items
    ∙ ap (λ names. names ++ c.args.name.now ∷ []) c.self.view_is
    ∙ sym (with_name-new c.args.self.now c.args.name.now (new c))
