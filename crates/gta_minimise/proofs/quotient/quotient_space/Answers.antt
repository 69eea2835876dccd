-- The part of a space, and its roots.
use Rattle.std.proofs.Common.{◌≡◌, ◌<◌, ◌^◌, ℕ, List, All, length, sym, ◌∙◌, ap, subst, arith}
use Rattle.std.specs.Prelude.{slice_index}
use Rattle.labels.specs.Labels.{Function}
use Rattle.bdd_list.specs.declared.listing.Listed.{Listed}
use Rattle.bdd_list.specs.Listing.{IsIn}
use Rattle.gta_room.proofs.ProgressLemmas.{Adds-none, Adds-also, IsStuck-also}
use Rattle.gta_classes.specs.declared.part.SpaceClasses.{SpaceClasses}
use Rattle.gta_reach.specs.Reached.{HasRoot}
use Rattle.gta_reach.proofs.ReachLemmas.{many_spaces}
use Rattle.gta_refine.specs.Refined.{part_at}
use Rattle.gta_minimise.specs.Renamed.{IsUnderRenamed, AreRenamed}
use Rattle.gta_minimise.specs.Quotient.{ArePairs, IsUnderClasses}
use Rattle.gta_minimise.proofs.QuotientLemmas.{small-classes, pair-root, under-classes, IsQuotientSpace-made}
use Rattle.gta_minimise.proofs.quotient.quotient_space.Goals as goal

pub space-listed-requires : goal.space-listed-requires
space-listed-requires c = let m = many_spaces c.args.form.now in let i = c.requires.inside in omega arith

pub roots_of_pairs-requires : goal.roots_of_pairs-requires
roots_of_pairs-requires c =
    let f = c.args.form.now in
    let classes = c.args.classes.now in
    let s = c.args.space in
    let r = c.requires in
    let space = c.space-listed.result.now in
    let at = c.space-listed.ensures in
    let shared = c.in_ok-shared.shared in
    subst (λ (xs : List ℕ). (x y : ℕ) → x < length xs → y < length c.as_slice-2.result.now →
    HasRoot space (slice_index xs x) (slice_index c.as_slice-2.result.now y)) (sym c.as_slice.ensures)
    (subst (λ (ys : List ℕ). (x y : ℕ) → x < length shared.lefts → y < length ys →
    HasRoot space (slice_index shared.lefts x) (slice_index ys y)) (sym c.as_slice-2.ensures)
    (pair-root f classes r.form r.refined s r.inside space at shared.part shared.lefts shared.rights c.in_ok-shared.ensures))

pub rename_listed-requires-clause-inside : goal.rename_listed-requires-clause-inside
rename_listed-requires-clause-inside c =
    subst (λ (ls : List Listed). All (IsIn c.space-listed.result.now.listing.nodes) ls) (sym c.deref.ensures.value) c.in_ok-pairs.ensures.inside

pub rename_listed-requires-clause-ordered : goal.rename_listed-requires-clause-ordered
rename_listed-requires-clause-ordered c = (c.requires.form.spaces c.args.space c.space-listed.result.now c.space-listed.ensures).ordered

pub rename_listed-requires-clause-classes : goal.rename_listed-requires-clause-classes
rename_listed-requires-clause-classes c =
    let classes = c.args.classes.now in
    let own : c.as_slice-own.result.now ≡ (part_at classes c.args.space).classes = c.as_slice-own.ensures
    ∙ ap (λ (p : SpaceClasses). p.classes) c.classes_of.ensures in
    subst (All (λ class. class < 2 ^ 31)) (sym own) (small-classes c.args.form.now classes c.requires.form c.requires.refined c.args.space c.requires.inside)

pub returns-in_err-pairs-clause-adds : goal.returns-in_err-pairs-clause-adds
returns-in_err-pairs-clause-adds c = Adds-none (IsUnderClasses c.args.form.now c.args.classes.now) c.args.shelf.now c.requires.shelf

pub returns-in_err-roots-clause-adds : goal.returns-in_err-roots-clause-adds
returns-in_err-roots-clause-adds c =
    let f = c.args.form.now in
    let classes = c.args.classes.now in
    let s = c.args.space in
    let r = c.requires in
    let space = c.space-listed.result.now in
    let at = c.space-listed.ensures in
    let shared = c.in_ok-shared.shared in
    let roots = c.in_ok-pairs.pairs.items in
    let pairs : ArePairs space shared.lefts shared.rights roots =
    subst (λ (xs : List ℕ). ArePairs space xs shared.rights roots) c.as_slice.ensures
    (subst (λ (ys : List ℕ). ArePairs space c.as_slice.result.now ys roots) c.as_slice-2.ensures c.in_ok-pairs.ensures.pairs) in
    let own : c.as_slice-own.result.now ≡ (part_at classes s).classes = c.as_slice-own.ensures
    ∙ ap (λ (p : SpaceClasses). p.classes) c.classes_of.ensures in
    let old = c.args.shelf.now in
    let new = c.rename_listed.new.shelf in
    let given = c.deref.result.now in
    let under : (h : Function) → IsUnderRenamed c.as_slice-own.result.now space.listing.nodes given h → IsUnderClasses f classes h = λ h is.
    under-classes f classes r.form r.refined s r.inside space at shared.part shared.lefts shared.rights c.in_ok-shared.ensures roots pairs h
    (subst (λ (xs : List ℕ). IsUnderRenamed xs space.listing.nodes roots h) own
    (subst (λ (ls : List Listed). IsUnderRenamed c.as_slice-own.result.now space.listing.nodes ls h) c.deref.ensures.value is)) in
    let IsPart = IsUnderRenamed c.as_slice-own.result.now space.listing.nodes given in
    Adds-also IsPart (IsUnderClasses f classes) under old new c.rename_listed.ensures.adds

pub returns-clause-adds : goal.returns-clause-adds
returns-clause-adds c =
    let f = c.args.form.now in
    let classes = c.args.classes.now in
    let s = c.args.space in
    let r = c.requires in
    let space = c.space-listed.result.now in
    let at = c.space-listed.ensures in
    let shared = c.in_ok-shared.shared in
    let roots = c.in_ok-pairs.pairs.items in
    let pairs : ArePairs space shared.lefts shared.rights roots =
    subst (λ (xs : List ℕ). ArePairs space xs shared.rights roots) c.as_slice.ensures
    (subst (λ (ys : List ℕ). ArePairs space c.as_slice.result.now ys roots) c.as_slice-2.ensures c.in_ok-pairs.ensures.pairs) in
    let own : c.as_slice-own.result.now ≡ (part_at classes s).classes = c.as_slice-own.ensures
    ∙ ap (λ (p : SpaceClasses). p.classes) c.classes_of.ensures in
    let old = c.args.shelf.now in
    let new = c.rename_listed.new.shelf in
    let given = c.deref.result.now in
    let under : (h : Function) → IsUnderRenamed c.as_slice-own.result.now space.listing.nodes given h → IsUnderClasses f classes h = λ h is.
    under-classes f classes r.form r.refined s r.inside space at shared.part shared.lefts shared.rights c.in_ok-shared.ensures roots pairs h
    (subst (λ (xs : List ℕ). IsUnderRenamed xs space.listing.nodes roots h) own
    (subst (λ (ls : List Listed). IsUnderRenamed c.as_slice-own.result.now space.listing.nodes ls h) c.deref.ensures.value is)) in
    let IsPart = IsUnderRenamed c.as_slice-own.result.now space.listing.nodes given in
    Adds-also IsPart (IsUnderClasses f classes) under old new c.rename_listed.ensures.adds

pub returns-in_err-roots-clause-stuck : goal.returns-in_err-roots-clause-stuck
returns-in_err-roots-clause-stuck c = λ stopped.
    let f = c.args.form.now in
    let classes = c.args.classes.now in
    let s = c.args.space in
    let r = c.requires in
    let space = c.space-listed.result.now in
    let at = c.space-listed.ensures in
    let shared = c.in_ok-shared.shared in
    let roots = c.in_ok-pairs.pairs.items in
    let pairs : ArePairs space shared.lefts shared.rights roots =
    subst (λ (xs : List ℕ). ArePairs space xs shared.rights roots) c.as_slice.ensures
    (subst (λ (ys : List ℕ). ArePairs space c.as_slice.result.now ys roots) c.as_slice-2.ensures c.in_ok-pairs.ensures.pairs) in
    let own : c.as_slice-own.result.now ≡ (part_at classes s).classes = c.as_slice-own.ensures
    ∙ ap (λ (p : SpaceClasses). p.classes) c.classes_of.ensures in
    let old = c.args.shelf.now in
    let new = c.rename_listed.new.shelf in
    let given = c.deref.result.now in
    let under : (h : Function) → IsUnderRenamed c.as_slice-own.result.now space.listing.nodes given h → IsUnderClasses f classes h = λ h is.
    under-classes f classes r.form r.refined s r.inside space at shared.part shared.lefts shared.rights c.in_ok-shared.ensures roots pairs h
    (subst (λ (xs : List ℕ). IsUnderRenamed xs space.listing.nodes roots h) own
    (subst (λ (ls : List Listed). IsUnderRenamed c.as_slice-own.result.now space.listing.nodes ls h) c.deref.ensures.value is)) in
    let IsPart = IsUnderRenamed c.as_slice-own.result.now space.listing.nodes given in
    IsStuck-also IsPart (IsUnderClasses f classes) under new (c.rename_listed.ensures.stuck
    (let why = rw stopped at c.from_residual-in_err-roots.ensures in c.in_err-roots.was ∙ (let is = why.1 in cc)))

pub returns-clause-space : goal.returns-clause-space
returns-clause-space c =
    let f = c.args.form.now in
    let classes = c.args.classes.now in
    let s = c.args.space in
    let r = c.requires in
    let space = c.space-listed.result.now in
    let at = c.space-listed.ensures in
    let shared = c.in_ok-shared.shared in
    let roots = c.in_ok-pairs.pairs.items in
    let pairs : ArePairs space shared.lefts shared.rights roots =
    subst (λ (xs : List ℕ). ArePairs space xs shared.rights roots) c.as_slice.ensures
    (subst (λ (ys : List ℕ). ArePairs space c.as_slice.result.now ys roots) c.as_slice-2.ensures c.in_ok-pairs.ensures.pairs) in
    let own : c.as_slice-own.result.now ≡ (part_at classes s).classes = c.as_slice-own.ensures
    ∙ ap (λ (p : SpaceClasses). p.classes) c.classes_of.ensures in
    let new = c.rename_listed.new.shelf in
    let made = c.in_ok-roots.roots in
    let renamed : AreRenamed new (part_at classes s).classes space.listing.nodes roots made =
    subst (λ (xs : List ℕ). AreRenamed new xs space.listing.nodes roots made) own
    (subst (λ (ls : List Listed). AreRenamed new c.as_slice-own.result.now space.listing.nodes ls made) c.deref.ensures.value
    c.in_ok-roots.ensures.renamed) in
    IsQuotientSpace-made f classes r.form r.refined s r.inside space at shared.part shared.lefts shared.rights c.in_ok-shared.ensures
    roots pairs new made renamed
