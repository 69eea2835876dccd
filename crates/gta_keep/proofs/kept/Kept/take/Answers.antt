use Rattle.std.proofs.Common.{◌≡◌, eqb, eqb-true, eq-eqb, [], Bool, true, ap, refl, sym, subst}
use Rattle.std.specs.Map.{lookup, remove_entry}
use Rattle.lru.specs.LruCache.{LruCache}
use Rattle.gta_core.specs.Auto.{AutoView}
use Rattle.ws2s_core.specs.declared.node.FormulaId.{FormulaId}
use Rattle.gta_keep.specs.Holding.{Passes, as_list}
use Rattle.gta_keep.proofs.PassesLemmas.{Entries}
use Rattle.gta_keep.proofs.KeptLemmas.{taken-passes, found-or-none}
use Rattle.gta_keep.proofs.kept.Kept.take.Goals as goal

exact : (id x : FormulaId) → eqb id.0 x.0 ≡ true → id ≡ x
exact id x e = ap (λ n. record { 0 = n }) (eqb-true id.0 x.0 e)

pub returns-clause-found : goal.returns-clause-found
returns-clause-found c = λ shelf.
    let test : FormulaId → Bool = λ x. eqb c.args.id.0 x.0 in
    let first : c.self.inside.automata.entries ≡ c.args.self.now = cc in
    found-or-none test c.args.id (eq-eqb c.args.id.0 c.args.id.0 refl) (exact c.args.id) c.args.self.now shelf c.pop-taken.result
    (subst (λ (es : Entries). c.pop-taken.result ≡ lookup test es) first c.pop-taken.ensures.value)

pub returns-clause-passes : goal.returns-clause-passes
returns-clause-passes c = λ g shelf.
    let test : FormulaId → Bool = λ x. eqb c.args.id.0 x.0 in
    let first : c.self.inside.automata.entries ≡ c.args.self.now = cc in
    let are : c.pop-taken.new.self.entries ≡ remove_entry test c.args.self.now =
    subst (λ (es : Entries). c.pop-taken.new.self.entries ≡ remove_entry test es) first
    (ap (λ (x : LruCache FormulaId AutoView). x.entries) c.pop-taken.ensures.entries) in
    subst (λ (es : Entries). Passes g shelf shelf [] (as_list c.pop-taken.result) c.args.self.now es) (sym are)
    (taken-passes test g shelf c.args.self.now c.pop-taken.result
    (subst (λ (es : Entries). c.pop-taken.result ≡ lookup test es) first c.pop-taken.ensures.value))
