use Rattle.std.proofs.Common.{◌↔◌, ◌∙◌, List, IsTrue, IsSomeAnd, subst, sym}
use Rattle.std.proofs.lemmas.Bool.{false≢true}
use Rattle.store_core.specs.declared.ids.VarId.{VarId}
use Rattle.store_exec.specs.declared.triple.Claim.{Claim}
use Rattle.store_exec.specs.Cuts.{Escapes, AreMet}
use Rattle.store_exec.proofs.CutLemmas.{at-escape, at-post, at-none}
use Rattle.store_runner.proofs.cuts.at_sound.Goals as goal

pub returns-then-escapes : goal.returns-then-escapes
returns-then-escapes c =
    let told = subst (λ (xs : List VarId). IsTrue c.in_ok-escapes.escapes ↔ IsSomeAnd (c.args.cut.now).handed
    (λ roots. Escapes c.args.types.now c.args.vars.now c.args.store.now roots xs))
    c.as_slice.ensures c.in_ok-escapes.ensures in
    at-escape c.args.types.now c.args.vars.now c.args.cut.now c.args.store.now c.requires.fits c.requires.sound (told.0 c.if-escapes.true)

pub returns-then-met : goal.returns-then-met
returns-then-met c =
    let told = subst (λ (xs : List VarId). IsTrue c.in_ok-escapes.escapes ↔ IsSomeAnd (c.args.cut.now).handed
    (λ roots. Escapes c.args.types.now c.args.vars.now c.args.store.now roots xs))
    c.as_slice.ensures c.in_ok-escapes.ensures in
    let met = subst (λ (xs : List Claim). IsTrue c.in_ok-met.met ↔ AreMet c.args.types.now c.args.vars.now c.args.store.now xs) c.as_slice-2.ensures
    c.in_ok-met.ensures in
    at-none c.args.types.now c.args.vars.now c.args.cut.now c.args.store.now c.requires.fits c.requires.sound
    (λ e. false≢true (sym c.if-escapes.false ∙ told.1 e)) (met.0 c.if-met.true)

pub returns-else-met : goal.returns-else-met
returns-else-met c =
    let told = subst (λ (xs : List VarId). IsTrue c.in_ok-escapes.escapes ↔ IsSomeAnd (c.args.cut.now).handed
    (λ roots. Escapes c.args.types.now c.args.vars.now c.args.store.now roots xs))
    c.as_slice.ensures c.in_ok-escapes.ensures in
    let met = subst (λ (xs : List Claim). IsTrue c.in_ok-met.met ↔ AreMet c.args.types.now c.args.vars.now c.args.store.now xs) c.as_slice-2.ensures
    c.in_ok-met.ensures in
    at-post c.args.types.now c.args.vars.now c.args.cut.now c.args.store.now c.requires.fits c.requires.sound
    (λ e. false≢true (sym c.if-escapes.false ∙ told.1 e)) (λ m. false≢true (sym c.if-met.false ∙ met.1 m))
