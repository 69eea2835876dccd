use Rattle.std.proofs.Common.{refl}
use Rattle.ws2s_core.specs.declared.formula.Formula.TheVariants.{And, Not}
use Rattle.symbolic_steps.proofs.ShownLemmas.{own-shown, guard-shown}
use Rattle.pred_transform.proofs.CodeLemmas.{ways-made}
use Rattle.pred_transform.proofs.codes.fork_ways.Goals as goal

pub returns : goal.returns
returns c = λ next wanted text s told is.
    let types = c.args.l.now.types in
    let vars = c.args.l.now.vars in
    let here = c.in_ok-here.here in
    let holds = c.args.holds.now in (
      own-shown types vars next wanted s c.args.w.now c.in_ok-way.way is c.in_ok-way.ensures,
      ways-made types vars next wanted text s c.make_first.new.w here holds (And here holds) (And here (Not holds)) told
          (guard-shown next wanted s c.args.w.now here c.in_ok-here.ensures is) refl refl
          (λ t says. c.in_ok-make_first.ensures next wanted t s says is) c.make_other.new.w
          (λ t u says at. c.in_ok-make_other.ensures next wanted t u says at),
    )
