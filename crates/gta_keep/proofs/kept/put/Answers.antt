use Rattle.std.proofs.Common.{◌≡◌, eqb, eqb-true, Bool, true, ap, refl, sym, ◌∙◌, subst}
use Rattle.lru.specs.LruCache.{LruCache, put_entries}
use Rattle.bdd_nodes.specs.Changes.{DropsTable}
use Rattle.gta_core.specs.Auto.{AutoView}
use Rattle.ws2s_core.specs.declared.node.FormulaId.{FormulaId}
use Rattle.gta_keep.specs.Holding.{TakesIn}
use Rattle.gta_keep.proofs.PassesLemmas.{Entries}
use Rattle.gta_keep.proofs.KeepingLemmas.{takes-refused, takes-none, kept-none, registered-out, takes-out, kept-out}
use Rattle.gta_keep.proofs.kept.put.Goals as goal

equal_ids : FormulaId → FormulaId → Bool
equal_ids x y = eqb x.0 y.0

exact : (x y : FormulaId) → equal_ids x y ≡ true → x ≡ y
unfolding equal_ids
exact x y e = ap (λ n. record { 0 = n }) (eqb-true x.0 y.0 e)

pub release-requires : goal.release-requires
unfolding equal_ids
release-requires c =
    let kept = c.args.automata.now.entries in
    let copied = c.in_ok-copy.ensures in
    registered-out c.requires.0 c.args.shelf.now c.copy.new.shelf kept c.args.id c.args.auto.now c.in_ok-copy.copy
    c.requires.1
    copied.shelf copied.table copied.auto equal_ids exact c.args.automata.now.cap c.len.ensures.valid.1 copied.same copied.states
    (put_entries equal_ids c.args.automata.now c.args.id c.in_ok-copy.copy) refl (c.in-Ok-Some.field-0-0-0, c.in-Ok-Some.out)
    (sym c.in-Ok-Some.field-0-is ∙ c.in-Ok-Some.ensures.old)

pub returns-in-Ok-Some-clause-takes : goal.returns-in-Ok-Some-clause-takes
unfolding equal_ids
returns-in-Ok-Some-clause-takes c = λ g is.
    let kept = c.args.automata.now.entries in
    let cap = c.args.automata.now.cap in
    let few = c.len.ensures.valid.1 in
    let old = c.args.shelf.now in
    let mid = c.copy.new.shelf in
    let auto = c.args.auto.now in
    let after = c.push.new.self.entries in
    let copy = c.in_ok-copy.copy in
    let copied = c.in_ok-copy.ensures in
    let held = c.requires.1 in
    let are : after ≡ put_entries equal_ids c.args.automata.now c.args.id copy =
    ap (λ (x : LruCache FormulaId AutoView). x.entries) c.in-Ok-Some.ensures.entries in
    takes-out c.requires.0 old mid kept c.args.id auto copy held copied.shelf copied.table copied.auto equal_ids exact cap few copied.same
    copied.states after are (c.in-Ok-Some.field-0-0-0, c.in-Ok-Some.out) (sym c.in-Ok-Some.field-0-is ∙ c.in-Ok-Some.ensures.old)
    c.release.new.shelf c.release.ensures.shelf c.release.ensures.dropped g is

pub returns-in-Ok-Some-clause-there : goal.returns-in-Ok-Some-clause-there
unfolding equal_ids
returns-in-Ok-Some-clause-there c =
    let kept = c.args.automata.now.entries in
    let cap = c.args.automata.now.cap in
    let few = c.len.ensures.valid.1 in
    let old = c.args.shelf.now in
    let mid = c.copy.new.shelf in
    let auto = c.args.auto.now in
    let after = c.push.new.self.entries in
    let copy = c.in_ok-copy.copy in
    let copied = c.in_ok-copy.ensures in
    let held = c.requires.1 in
    let are : after ≡ put_entries equal_ids c.args.automata.now c.args.id copy =
    ap (λ (x : LruCache FormulaId AutoView). x.entries) c.in-Ok-Some.ensures.entries in
    kept-out c.requires.0 old mid kept c.args.id auto copy held copied.shelf copied.table copied.auto equal_ids exact cap few copied.same
    copied.states after are (c.in-Ok-Some.field-0-0-0, c.in-Ok-Some.out) (sym c.in-Ok-Some.field-0-is ∙ c.in-Ok-Some.ensures.old)
    c.release.new.shelf c.release.ensures.shelf c.release.ensures.dropped

pub returns-in-Ok-None-clause-takes : goal.returns-in-Ok-None-clause-takes
unfolding equal_ids
returns-in-Ok-None-clause-takes c = λ g is.
    let kept = c.args.automata.now.entries in
    let cap = c.args.automata.now.cap in
    let few = c.len.ensures.valid.1 in
    let old = c.args.shelf.now in
    let mid = c.copy.new.shelf in
    let auto = c.args.auto.now in
    let after = c.push.new.self.entries in
    let copy = c.in_ok-copy.copy in
    let copied = c.in_ok-copy.ensures in
    let held = c.requires.1 in
    let are : after ≡ put_entries equal_ids c.args.automata.now c.args.id copy =
    ap (λ (x : LruCache FormulaId AutoView). x.entries) c.in-Ok-None.ensures.entries in
    takes-none c.requires.0 old mid kept c.args.id auto copy held copied.shelf copied.table copied.auto equal_ids exact cap few copied.same
    copied.states after are (sym c.in-Ok-None.field-0-is ∙ c.in-Ok-None.ensures.old) g is

pub returns-in-Ok-None-clause-there : goal.returns-in-Ok-None-clause-there
unfolding equal_ids
returns-in-Ok-None-clause-there c =
    let kept = c.args.automata.now.entries in
    let cap = c.args.automata.now.cap in
    let few = c.len.ensures.valid.1 in
    let old = c.args.shelf.now in
    let mid = c.copy.new.shelf in
    let auto = c.args.auto.now in
    let after = c.push.new.self.entries in
    let copy = c.in_ok-copy.copy in
    let copied = c.in_ok-copy.ensures in
    let held = c.requires.1 in
    let are : after ≡ put_entries equal_ids c.args.automata.now c.args.id copy =
    ap (λ (x : LruCache FormulaId AutoView). x.entries) c.in-Ok-None.ensures.entries in
    kept-none c.requires.0 old mid kept c.args.id auto copy held copied.shelf copied.table copied.auto equal_ids exact cap few copied.same
    copied.states after are

pub returns-in-Err-clause-takes : goal.returns-in-Err-clause-takes
returns-in-Err-clause-takes c = λ g is.
    let kept = c.args.automata.now.entries in
    let cap = c.args.automata.now.cap in
    let few = c.len.ensures.valid.1 in
    let old = c.args.shelf.now in
    let mid = c.copy.new.shelf in
    let auto = c.args.auto.now in
    let after = c.push.new.self.entries in
    let copy = c.in_ok-copy.copy in
    let copied = c.in_ok-copy.ensures in
    let held = c.requires.1 in
    let new = c.release-in-Err.new.shelf in
    let stays : kept ≡ after = sym (ap (λ (x : LruCache FormulaId AutoView). x.entries) c.in-Err.ensures.err) in
    let drops = subst (λ (entry : FormulaId × AutoView). DropsTable mid new (entry.1).table) c.in-Err.ensures.value_returned
    c.release-in-Err.ensures.dropped in
    subst (λ (es : Entries). TakesIn g old new c.args.id auto kept es) stays
    (takes-refused c.requires.0 old mid kept c.args.id auto copy held copied.shelf copied.table copied.auto
    new c.release-in-Err.ensures.shelf drops g is)
