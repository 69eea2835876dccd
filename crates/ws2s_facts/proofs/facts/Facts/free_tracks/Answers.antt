use Rattle.std.proofs.Common.{◌≡◌, ◌∙◌, ◌++◌, ℕ, List, Contains, IsTrue, Result, Ok, OnOk, nat_eq, ap, sym, subst}
use Rattle.std.specs.HashSet.{contains}
use Rattle.std.proofs.lemmas.Iterator.Consumers.{YieldsList-from_rest, YieldsList-from_copied}
use Rattle.std.proofs.lemmas.Iterator.Adapters.{items_from_extend}
use Rattle.std.proofs.lemmas.Cmp.{nat_eq_equiv}
use Rattle.std.proofs.lemmas.Map.Views.{exact_unsigned_eq, hash_set_contains_iff}
use Rattle.ws2s_facts.proofs.FactsLemmas.{free-of}
use Rattle.ws2s_facts.proofs.facts.Facts.free_tracks.Goals as goal

on-ok : {A E : Type 0} {P : Type 0} (r : Result A E) (x : A) → r ≡ Ok x → OnOk r P → P
on-ok {A} {E} {P} r x e h = subst (λ (v : Result A E). OnOk v P) e h

pub returns : goal.returns
returns c = λ formulas known t free.
    let fact = c.in-Some.fact.now in
    let keys : List ℕ = fact.tracks.keys in
    let h = items_from_extend c.extend.result c.extend.ensures.ran (YieldsList-from_copied (YieldsList-from_rest keys cc)) in
    let e : c.extend.new.self.items ≡ keys = (on-ok c.extend.result c.in_ok-extend.field-0 c.in_ok-extend.was h).0
    ∙ ap (λ (xs : List ℕ). xs ++ keys) c.new-numbers.ensures.items in
    let found : IsTrue (contains nat_eq fact.tracks t) = free-of formulas fact c.args.id t (c.in-Some.ensures.fact formulas known)
    c.in-Some.ensures.id ∙ free in
    subst (λ (xs : List ℕ). Contains xs t) (sym e) ((hash_set_contains_iff nat_eq_equiv exact_unsigned_eq fact.tracks t).0 found)
