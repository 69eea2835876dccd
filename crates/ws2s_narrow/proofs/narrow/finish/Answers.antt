use Rattle.std.proofs.Common.{◌∙◌}
use Rattle.ws2s_narrow.proofs.NextLemmas.{finish-more}
use Rattle.ws2s_narrow.proofs.narrow.finish.Goals as goal

pub loop-next-preserved : goal.loop-next-preserved
loop-next-preserved c =
    finish-more c.loop-next.staying.entries c.pop_last.new.self.entries (c.in-Some.field-0-0, c.in-Some.next) c.loop-next.symbols.items
    c.push.new.self.items c.in-Some.ensures.removal c.in_ok-push.ensures.items ∙ c.loop-next.invariant
