use Rattle.std.proofs.Common.{◌≡◌, [], ◌∷◌, refl, subst, arith}
use Rattle.gta_keep.specs.Holding.{TakesIn}
use Rattle.gta_keep.proofs.PassesLemmas.{Entries, HoldsBeside-none}
use Rattle.gta_keep.proofs.KeepingLemmas.{HoldsBeside-taken, TakesIn-less, IsKeptCopy-less}
use Rattle.gta_keep.proofs.kept.Kept.keep.Goals as goal

pub shrink-requires : goal.shrink-requires
shrink-requires c =
    let g = c.requires.0 in
    let held = c.requires.1 in
    let is = held.holds.each c.args.auto.now (0, omega arith, refl) in
    let first : c.self.inside.automata.entries ≡ c.args.self.now = cc in (
      g,
      HoldsBeside-taken g c.args.shelf.now c.put.new.shelf c.args.id c.args.auto.now c.args.self.now c.put.new.automata.entries
          (HoldsBeside-none g c.args.shelf.now (c.args.auto.now ∷ []) c.args.self.now held)
          (subst (λ (es : Entries). TakesIn g c.args.shelf.now c.put.new.shelf c.args.id c.args.auto.now es c.put.new.automata.entries) first
          (c.put.ensures.takes g is)),
    )

pub returns-clause-takes : goal.returns-clause-takes
returns-clause-takes c = λ g is.
    let first : c.self.inside.automata.entries ≡ c.args.self.now = cc in
    TakesIn-less g c.args.shelf.now c.put.new.shelf c.shrink.new.shelf c.args.id c.args.auto.now c.args.self.now c.put.new.automata.entries
    c.shrink.new.self (subst (λ (es : Entries). TakesIn g c.args.shelf.now c.put.new.shelf c.args.id c.args.auto.now es c.put.new.automata.entries) first
    (c.put.ensures.takes g is)) (c.shrink.ensures.passes g)

pub returns-clause-there : goal.returns-clause-there
returns-clause-there c =
    let g = c.requires.0 in
    IsKeptCopy-less g c.args.shelf.now c.put.new.shelf c.shrink.new.shelf c.args.id c.args.auto.now c.put.new.automata.entries c.shrink.new.self
    c.in_ok-gone.ensures.there (c.shrink.ensures.passes g) c.shrink.ensures.stays
