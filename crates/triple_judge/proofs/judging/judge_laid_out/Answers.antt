use Rattle.std.proofs.Common.{ℕ, List, Ok, sym, ap, subst}
use Rattle.store_core.specs.declared.ids.VariantId.{VariantId}
use Rattle.tree_encode.specs.Spaces.{guide_of}
use Rattle.site_list.specs.Triples.{site_formula}
use Rattle.triple_judge.specs.declared.searching.Searched.{Searched}
use Rattle.triple_judge.specs.declared.searching.Searched.TheVariants as searched
use Rattle.triple_judge.specs.Judging.{ArePeaksWithin}
use Rattle.triple_judge.specs.Searching.{IsSearched}
use Rattle.triple_judge.proofs.FailingLemmas.{valid-from}
use Rattle.triple_judge.proofs.judging.judge_laid_out.Goals as goal

-- what is known of all sites
pub returns-in-Nothing-clause-value : goal.returns-in-Nothing-clause-value
returns-in-Nothing-clause-value g c = λ functional.
    let types = c.args.l.now.types in
    let formulas = site_formula types c.args.l.now.vars c.args.t.now in
    let known = subst (IsSearched formulas c.in_ok-tracks.tracks c.in_ok-count.count) c.in-Nothing.is c.in_ok-decide_sites.ensures.value in
    valid-from types c.args.l.now.vars c.args.t.now c.in_ok-tracks.ensures.inside functional c.requires.triple
    (subst (λ (n : ℕ). IsSearched formulas c.in_ok-tracks.tracks n searched.Nothing) c.in_ok-count.ensures known)

pub failure_of-requires-clause-lightest : goal.failure_of-requires-clause-lightest
failure_of-requires-clause-lightest g c =
    let types = c.args.l.now.types in
    let formulas = site_formula types c.args.l.now.vars c.args.t.now in
    let known = subst (IsSearched formulas c.in_ok-tracks.tracks c.in_ok-count.count) c.in-Lightest.is c.in_ok-decide_sites.ensures.value in
    record {
      tracks = c.in_ok-tracks.tracks;
      all = c.in_ok-tracks.ensures.value;
      lightest = subst (λ (n : ℕ). IsSearched formulas c.in_ok-tracks.tracks n (searched.Lightest c.in-Lightest.found)) c.in_ok-count.ensures known;
    }

pub returns-in-Lightest-clause-value : goal.returns-in-Lightest-clause-value
returns-in-Lightest-clause-value g c = λ functional. c.in_ok-store-in-Lightest.ensures functional

pub returns-clause-limit : goal.returns-clause-limit
returns-clause-limit g c = λ is p peak.
    let types = c.args.l.now.types in
    let vars = c.args.l.now.vars in
    c.in_ok-decide_sites.ensures.limit (ap (λ (x : Searched). Ok x) c.in-Limit.is) p
    (subst (λ (spares : List VariantId). ArePeaksWithin (guide_of types vars spares) (site_formula types vars c.args.t.now) p) (sym c.requires.spares)
    peak.each)
