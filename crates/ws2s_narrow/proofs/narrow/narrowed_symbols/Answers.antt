use Rattle.std.proofs.Common.{◌≡◌, [], ◌∷◌, ◌++◌, length, reverse, rules, arith}
use Rattle.std.proofs.lemmas.Grind.{common_steps}
use Rattle.ws2s_narrow.proofs.NextLemmas.{next-inner, next-alone, next-taken, whole-end}
use Rattle.ws2s_narrow.proofs.narrow.narrowed_symbols.Goals as goal

pub take-requires-clause-inner : goal.take-requires-clause-inner
take-requires-clause-inner c =
    let popped : c.loop-step.pending.items ≡ c.pop-in-Some.new.self.items ++ c.unwrap-top.result ∷ [] = first_of (search rules, grind (arith, common_steps)) in
    let number : c.len-number.result ≡ length c.pop.new.self.items = first_of (search rules, grind (arith, common_steps)) in
    next-inner c.args.formula.now c.loop-step.steps.items c.pop.new.self.items c.in-Some.step c.loop-step.pending.items c.pop-in-Some.new.self.items
    c.unwrap-top.result (reverse c.loop-step.symbols.items) c.len-number.result (first_of (search rules, grind (arith, common_steps))) popped number
    c.loop-step.invariant

pub take-requires-clause-alone : goal.take-requires-clause-alone
take-requires-clause-alone c =
    let popped : c.loop-step.pending.items ≡ c.pop-in-Some.new.self.items ++ c.unwrap-top.result ∷ [] = first_of (search rules, grind (arith, common_steps)) in
    let number : c.len-number.result ≡ length c.pop.new.self.items = first_of (search rules, grind (arith, common_steps)) in
    next-alone c.args.formula.now c.loop-step.steps.items c.pop.new.self.items c.in-Some.step c.loop-step.pending.items c.pop-in-Some.new.self.items
    c.unwrap-top.result (reverse c.loop-step.symbols.items) c.len-number.result (first_of (search rules, grind (arith, common_steps))) popped number
    c.loop-step.invariant

pub loop-step-preserved : goal.loop-step-preserved
loop-step-preserved c =
    let popped : c.loop-step.pending.items ≡ c.pop-in-Some.new.self.items ++ c.unwrap-top.result ∷ [] = first_of (search rules, grind (arith, common_steps)) in
    let number : c.len-number.result ≡ length c.pop.new.self.items = first_of (search rules, grind (arith, common_steps)) in
    next-taken c.args.formula.now c.loop-step.steps.items c.pop.new.self.items c.in-Some.step c.loop-step.pending.items c.pop-in-Some.new.self.items
    c.unwrap-top.result (reverse c.loop-step.symbols.items) c.len-number.result (first_of (search rules, grind (arith, common_steps))) popped number
    c.loop-step.invariant c.take.new.pending.items (reverse c.take.new.symbols.items) c.in_ok-take.ensures

pub returns : goal.returns
returns c = whole-end c.args.formula.now c.loop-step.steps.items (reverse c.loop-step.pending.items) (reverse c.loop-step.symbols.items)
    (first_of (search rules, grind (arith, common_steps))) c.loop-step.invariant
