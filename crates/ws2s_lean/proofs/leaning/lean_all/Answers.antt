use Rattle.ws2s_lean.proofs.NumbersLemmas.{Extends-refl, Extends-trans}
use Rattle.ws2s_lean.proofs.leaning.lean_all.Goals as goal

pub loop-part-init : goal.loop-part-init
loop-part-init c = record { kept = Extends-refl c.args.interner.now; leaned = c.requires }

pub loop-part-preserved : goal.loop-part-preserved
loop-part-preserved c =
    let l = c.loop-part in
    record {
      kept = Extends-trans c.args.interner.now l.interner c.lean.new.interner l.invariant.kept c.lean.ensures.kept;
      leaned = c.in_ok-lean.ensures.leaned;
    }
