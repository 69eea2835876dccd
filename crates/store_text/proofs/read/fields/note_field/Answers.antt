use Rattle.std.proofs.Common.{◌≡◌, ◌++◌, refl, ap, ◌∙◌}
use Rattle.store_core.specs.Tables.{fields_of}
use Rattle.store_text.specs.Saying.{mentions_of}
use Rattle.store_text.proofs.SayingLemmas.{named_at-lacks, named_at-other, named_at-given, not_past}
use Rattle.store_text.proofs.read.fields.note_field.Goals as goal

pub returns-then-has-clause-stop : goal.returns-then-has-clause-stop
returns-then-has-clause-stop c = λ n.
    (refl, named_at-lacks c.args.types.now c.args.v c.args.line c.args.index c.args.value.now c.in_default.is c.if-has.ensures)

pub returns-in_default-clause-named : goal.returns-in_default-clause-named
returns-in_default-clause-named c =
    named_at-other c.args.types.now c.args.v c.args.line c.args.index c.args.value.now c.args.named.now c.in_default.is
    c.if-has.ensures c.requires.known c.requires.within

pub returns-in_default-kind-clause-stop : goal.returns-in_default-kind-clause-stop
returns-in_default-kind-clause-stop c = λ n.
    absurd (not_past (λ entry. entry.kind) (fields_of c.args.types.now c.args.v.ty) c.args.index c.requires.within c.in_default-kind.ensures)

pub returns-clause-named : goal.returns-clause-named
returns-clause-named c =
    named_at-given c.args.line c.args.v.index c.args.index (fields_of c.args.types.now c.args.v.ty) c.args.value.now c.in-Some.value c.in-Some-kind.kind.now
    (λ more. c.note.new.mentions ≡ c.args.named.now ++ more) c.in-Some.is c.in-Some-kind.ensures
    (c.in_ok-note.ensures ∙ ap (λ h. c.args.named.now ++ mentions_of c.args.line h c.in-Some.value) c.field_holds.ensures)
