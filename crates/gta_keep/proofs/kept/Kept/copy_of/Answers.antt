use Rattle.std.proofs.Common.{◌≡◌, eqb, eqb-true, eq-eqb, Some, None, Bool, true, ap, refl, subst}
use Rattle.std.specs.Map.{lookup}
use Rattle.lru.specs.LruCache.{LruCache, promoted}
use Rattle.gta_core.specs.Auto.{AutoView}
use Rattle.ws2s_core.specs.declared.node.FormulaId.{FormulaId}
use Rattle.gta_keep.proofs.PassesLemmas.{Entries}
use Rattle.gta_keep.proofs.KeptLemmas.{found-entry, none-entry, copied-passes}
use Rattle.gta_keep.proofs.kept.Kept.copy_of.Goals as goal

exact : (id x : FormulaId) → eqb id.0 x.0 ≡ true → id ≡ x
exact id x e = ap (λ n. record { 0 = n }) (eqb-true id.0 x.0 e)

pub returns-in-None-clause-found : goal.returns-in-None-clause-found
returns-in-None-clause-found c =
    let test : FormulaId → Bool = λ x. eqb c.args.id.0 x.0 in
    let first : c.self.inside.automata.entries ≡ c.args.self.now = cc in
    none-entry test c.args.id (eq-eqb c.args.id.0 c.args.id.0 refl) c.args.self.now
    (subst (λ (es : Entries). None ≡ lookup test es) first c.in-None.ensures)

pub returns-clause-found : goal.returns-clause-found
returns-clause-found c =
    let test : FormulaId → Bool = λ x. eqb c.args.id.0 x.0 in
    let first : c.self.inside.automata.entries ≡ c.args.self.now = cc in
    let copied = c.in_ok-copy-in-Some.ensures in
    record {
      was = c.in-Some.kept.now;
      there = found-entry test c.args.id (exact c.args.id) c.args.self.now c.in-Some.kept.now
          (subst (λ (es : Entries). Some c.in-Some.kept.now ≡ lookup test es) first c.in-Some.ensures);
      copies = record { automaton = copied.same; states = copied.states };
    }

pub returns-clause-ok : goal.returns-clause-ok
returns-clause-ok c =
    let test : FormulaId → Bool = λ x. eqb c.args.id.0 x.0 in
    let first : c.self.inside.automata.entries ≡ c.args.self.now = cc in
    let copied = c.in_ok-copy-in-Some.ensures in
    copied-passes test c.requires.0 c.args.shelf.now c.copy.new.shelf c.args.self.now c.promote.new.self.entries c.requires.1 c.args.id
    c.in-Some.kept.now c.in_ok-copy-in-Some.copy
    (found-entry test c.args.id (exact c.args.id) c.args.self.now c.in-Some.kept.now
    (subst (λ (es : Entries). Some c.in-Some.kept.now ≡ lookup test es) first c.in-Some.ensures))
    copied.shelf copied.table copied.auto
    (subst (λ (es : Entries). c.promote.new.self.entries ≡ promoted test es) first
    (ap (λ (x : LruCache FormulaId AutoView). x.entries) c.promote.ensures.entries))
