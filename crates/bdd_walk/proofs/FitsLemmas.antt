-- What a joiner keeps.
use Rattle.std.proofs.Common.{ℕ, Option, Result, Ok, Err, OnOk, Vec, Global}
use Rattle.bdd_nodes.specs.declared.node_ref.NodeRef.{NodeRef}
use Rattle.bdd_nodes.specs.Shelf.{Contents}
use Rattle.bdd_nodes.specs.Changes.{Keeps}
use Rattle.bdd_walk.specs.declared.joiner.Joiner.{Joiner}
use Rattle.bdd_walk.specs.declared.set_joiner.SetJoiner.{SetJoiner}
use Rattle.bdd_walk.specs.declared.stop.Stop.{Stop}
use Rattle.bdd_walk.specs.declared.two_roots.RefPair.{RefPair}
use Rattle.bdd_walk.specs.declared.walk.Kept.{Kept}
use Rattle.bdd_walk.specs.Answers.{Answers, KeepsAnswers}
use Rattle.bdd_walk.specs.Sides.{half_of}
use Rattle.bdd_walk.specs.Laws.{valid-kept, leaves-still, one-stays_in, one-asks_still}
use Rattle.bdd_walk.specs.ManyLaws.{many-asks_still}
use Rattle.bdd_walk.specs.SetLaws.{sets-asks_still}
use Rattle.bdd_walk.specs.Fits.{Fits, FitsOne, FitsTwo, FitsMany, FitsSets, refs_of}
use Rattle.bdd_walk.proofs.WaitsLemmas.{IsMemo-seen}

module _ (old new : Contents) (answers more : Answers) (keeps : Keeps old new) (kept : KeepsAnswers answers more) where
  pub Fits-kept : (joiner : Joiner) (dropped : Option ℕ) → Fits joiner dropped old answers → Fits joiner dropped new more
  Fits-kept joiner dropped fits = record {
    one = IsMemo-seen _ _ _ _ _ old new answers more joiner.one.memo keeps kept
        (λ root inside. one-stays_in old new root keeps inside)
        (λ root inside. one-asks_still (λ label. label) old new root keeps inside) fits.one;
    two = IsMemo-seen _ _ _ _ _ old new answers more joiner.two.memo keeps kept
        (λ pair inside. valid-kept old new keeps (refs_of pair) inside)
        (λ pair inside. leaves-still old new keeps (refs_of pair) inside) fits.two;
    many = IsMemo-seen _ _ _ _ _ old new answers more joiner.many.memo keeps kept
        (λ roots inside. valid-kept old new keeps roots.items inside)
        (λ roots inside. many-asks_still old new keeps dropped (half_of roots.items) roots.items inside) fits.many;
  }

  pub FitsSets-kept : (joiner : SetJoiner) (dropped : ℕ) → FitsSets joiner dropped old answers → FitsSets joiner dropped new more
  FitsSets-kept joiner dropped fits = IsMemo-seen _ _ _ _ _ old new answers more joiner.kept.memo keeps kept
      (λ roots inside. valid-kept old new keeps roots.items inside)
      (λ roots inside. sets-asks_still old new keeps dropped roots.items inside) fits

-- a joiner with other results for one root, for two, or for lists
module _ (joiner : Joiner) (dropped : Option ℕ) (shelf : Contents) (answers : Answers) (fits : Fits joiner dropped shelf answers) where
  pub fits-one : (kept : Kept NodeRef) (r : Result NodeRef Stop) → OnOk r (FitsOne shelf answers kept.memo) →
      OnOk r (Fits (record { one = kept; two = joiner.two; many = joiner.many }) dropped shelf answers)
  fits-one kept (Ok made) there = record { one = there; two = fits.two; many = fits.many }
  fits-one kept (Err why) there = there

  pub fits-two : (kept : Kept RefPair) (r : Result NodeRef Stop) → OnOk r (FitsTwo shelf answers kept.memo) →
      OnOk r (Fits (record { one = joiner.one; two = kept; many = joiner.many }) dropped shelf answers)
  fits-two kept (Ok made) there = record { one = fits.one; two = there; many = fits.many }
  fits-two kept (Err why) there = there

  pub fits-many : (kept : Kept (Vec NodeRef Global)) (r : Result NodeRef Stop) → OnOk r (FitsMany dropped shelf answers kept.memo) →
      OnOk r (Fits (record { one = joiner.one; two = joiner.two; many = kept }) dropped shelf answers)
  fits-many kept (Ok made) there = record { one = fits.one; two = fits.two; many = there }
  fits-many kept (Err why) there = there
