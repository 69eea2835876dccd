use Rattle.std.proofs.Common.{◌≡◌, ◌∙◌, ◌<◌, ◌≤◌, ℕ, List, length, ap, subst, arith}
use Rattle.pale_generator.specs.Generated.{program_text}
use Rattle.whole_program.specs.ProgramTexts.{IsReadAs, IsStopOf}
use Rattle.pale_status.specs.declared.status.Status.TheVariants.{Text}
use Rattle.pale_judging.specs.Generating.{Gens, Tells, counted, refused, too_long}
use Rattle.pale_status.specs.Report.{too_long_line}
use Rattle.pale_status.specs.Texts.{most_bytes}
use Rattle.pale_status.proofs.WrittenLemmas.{begun-weaker, refused_begun, refused_whole, said_begun, said_whole, whole-weaker}
use Rattle.pale_judging.proofs.generate.gen_text.Goals as goal

pub returns-then-len-gt-MOST_BYTES-clause-ok : goal.returns-then-len-gt-MOST_BYTES-clause-ok
returns-then-len-gt-MOST_BYTES-clause-ok g c =
    let limit = c.args.limit in
    let seed = c.args.seed in
    let before = g.K.Sink.written c.args.sink.now in
    let is : c.in_ok-text.text.items ≡ program_text seed = c.in_ok-text.ensures ∙ ap program_text c.from.ensures in
    let after = g.K.Sink.written c.say.new.sink in
    let many : 1048576 < length c.in_ok-text.text.items = omega (arith, c.if-len-gt-MOST_BYTES.true, c.len.ensures, c.in_ok-text.text.ok) in
    let allowed : Gens limit seed too_long_line Text = too_long (subst (λ (t : List ℕ). most_bytes < length t) is many) in
    said_whole (Gens limit seed) before after too_long_line Text allowed c.say.result c.say.ensures.ok

pub returns-then-len-gt-MOST_BYTES-clause-err : goal.returns-then-len-gt-MOST_BYTES-clause-err
returns-then-len-gt-MOST_BYTES-clause-err g c =
    let limit = c.args.limit in
    let seed = c.args.seed in
    let before = g.K.Sink.written c.args.sink.now in
    let is : c.in_ok-text.text.items ≡ program_text seed = c.in_ok-text.ensures ∙ ap program_text c.from.ensures in
    let after = g.K.Sink.written c.say.new.sink in
    let many : 1048576 < length c.in_ok-text.text.items = omega (arith, c.if-len-gt-MOST_BYTES.true, c.len.ensures, c.in_ok-text.text.ok) in
    let allowed : Gens limit seed too_long_line Text = too_long (subst (λ (t : List ℕ). most_bytes < length t) is many) in
    said_begun (Gens limit seed) before after too_long_line Text allowed c.say.result c.say.ensures.err

pub returns-in-Ok-clause-ok : goal.returns-in-Ok-clause-ok
returns-in-Ok-clause-ok g c =
    let limit = c.args.limit in
    let seed = c.args.seed in
    let before = g.K.Sink.written c.args.sink.now in
    let is : c.in_ok-text.text.items ≡ program_text seed = c.in_ok-text.ensures ∙ ap program_text c.from.ensures in
    let few : length c.in_ok-text.text.items ≤ 1048576 = omega (arith, c.if-len-gt-MOST_BYTES.false, c.len.ensures, c.in_ok-text.text.ok) in
    let within = subst (λ (t : List ℕ). length t ≤ most_bytes) is few in
    let read = c.as_slice.ensures.value ∙ is in
    let program = c.in-Ok.whole.typed in
    let triples = c.in-Ok.whole.triples in
    let after = g.K.Sink.written c.gen_whole.new.sink in
    let read_as = subst (λ (t : List ℕ). IsReadAs t program triples) read c.in-Ok.ensures.program in
    whole-weaker (Tells limit seed program triples) (Gens limit seed)
    (λ output status tells. counted program triples output status within read_as tells) before after c.gen_whole.result c.gen_whole.ensures.ok

pub returns-in-Ok-clause-err : goal.returns-in-Ok-clause-err
returns-in-Ok-clause-err g c =
    let limit = c.args.limit in
    let seed = c.args.seed in
    let before = g.K.Sink.written c.args.sink.now in
    let is : c.in_ok-text.text.items ≡ program_text seed = c.in_ok-text.ensures ∙ ap program_text c.from.ensures in
    let few : length c.in_ok-text.text.items ≤ 1048576 = omega (arith, c.if-len-gt-MOST_BYTES.false, c.len.ensures, c.in_ok-text.text.ok) in
    let within = subst (λ (t : List ℕ). length t ≤ most_bytes) is few in
    let read = c.as_slice.ensures.value ∙ is in
    let program = c.in-Ok.whole.typed in
    let triples = c.in-Ok.whole.triples in
    let after = g.K.Sink.written c.gen_whole.new.sink in
    let read_as = subst (λ (t : List ℕ). IsReadAs t program triples) read c.in-Ok.ensures.program in
    begun-weaker (Tells limit seed program triples) (Gens limit seed)
    (λ output status tells. counted program triples output status within read_as tells) before after c.gen_whole.result c.gen_whole.ensures.err

pub returns-clause-ok : goal.returns-clause-ok
returns-clause-ok g c =
    let limit = c.args.limit in
    let seed = c.args.seed in
    let is : c.in_ok-text.text.items ≡ program_text seed = c.in_ok-text.ensures ∙ ap program_text c.from.ensures in
    let few : length c.in_ok-text.text.items ≤ 1048576 = omega (arith, c.if-len-gt-MOST_BYTES.false, c.len.ensures, c.in_ok-text.text.ok) in
    let within = subst (λ (t : List ℕ). length t ≤ most_bytes) is few in
    let stopped = subst (λ (t : List ℕ). IsStopOf t c.in-Err.stop) (c.as_slice.ensures.value ∙ is) c.in-Err.ensures.stop in
    refused_whole c.in-Err.stop (Gens limit seed) (λ refusal why. refused refusal within (subst (IsStopOf (program_text seed)) why stopped))
    (g.K.Sink.written c.args.sink.now) (g.K.Sink.written c.refuse.new.sink) c.refuse.result c.refuse.ensures.ok

pub returns-clause-err : goal.returns-clause-err
returns-clause-err g c =
    let limit = c.args.limit in
    let seed = c.args.seed in
    let is : c.in_ok-text.text.items ≡ program_text seed = c.in_ok-text.ensures ∙ ap program_text c.from.ensures in
    let few : length c.in_ok-text.text.items ≤ 1048576 = omega (arith, c.if-len-gt-MOST_BYTES.false, c.len.ensures, c.in_ok-text.text.ok) in
    let within = subst (λ (t : List ℕ). length t ≤ most_bytes) is few in
    let stopped = subst (λ (t : List ℕ). IsStopOf t c.in-Err.stop) (c.as_slice.ensures.value ∙ is) c.in-Err.ensures.stop in
    refused_begun c.in-Err.stop (Gens limit seed) (λ refusal why. refused refusal within (subst (IsStopOf (program_text seed)) why stopped))
    (g.K.Sink.written c.args.sink.now) (g.K.Sink.written c.refuse.new.sink) c.refuse.result c.refuse.ensures.err
