use Rattle.std.proofs.Common.{◌≡◌, ◌∙◌, ℕ, Ok, sym, ap, subst, arith}
use Rattle.ws2s_decide.specs.declared.verdict.Verdict.{Verdict}
use Rattle.site_list.specs.Triples.{site_formula}
use Rattle.triple_judge.specs.declared.searching.Searched.TheVariants as searched
use Rattle.triple_judge.specs.Searching.{IsSearched}
use Rattle.triple_judge.proofs.SearchingLemmas.{going-start, going-next, settled, Ok-same}
use Rattle.triple_judge.proofs.searching.decide_in_order.Goals as goal

pub loop-site-init : goal.loop-site-init
loop-site-init g c =
    going-start (site_formula c.args.l.now.types c.args.l.now.vars c.args.t.now) c.args.tracks.now c.args.shelf.now c.args.decider.now c.requires.kept

pub verdict_at-requires-clause-kept : goal.verdict_at-requires-clause-kept
verdict_at-requires-clause-kept g c = c.loop-site.invariant.kept

pub loop-site-preserved : goal.loop-site-preserved
loop-site-preserved g c =
    let formulas = site_formula c.args.l.now.types c.args.l.now.vars c.args.t.now in
    going-next formulas c.args.tracks.now c.args.shelf.now c.args.decider.now c.loop-site.site c.loop-site.searched c.with_verdict-searched.result
    c.in_ok-verdict.verdict c.loop-site.shelf c.verdict_at.new.shelf c.loop-site.decider c.verdict_at.new.decider c.loop-site.invariant
    c.in_ok-verdict.ensures.value (λ is. c.in_ok-verdict.ensures.limit (ap (λ (v : Verdict). Ok v) is))
    (c.with_verdict-searched.ensures.value formulas c.args.tracks.now) c.with_verdict-searched.ensures.limit
    c.verdict_at.ensures.kept c.verdict_at.ensures.guide c.verdict_at.ensures.same_limit

pub returns-then-is_settled : goal.returns-then-is_settled
returns-then-is_settled g c =
    let before = c.loop-site.invariant in
    record {
      value = settled (site_formula c.args.l.now.types c.args.l.now.vars c.args.t.now) c.args.tracks.now c.loop-site.site c.args.count c.loop-site.searched
          before.known (sym c.is_settled.ensures ∙ c.if-is_settled.true) (omega (arith, c.loop-site-test.true));
      limit = λ is. before.at_limit (Ok-same c.loop-site.searched searched.Limit is);
      kept = before.kept;
      same_limit = before.same_limit;
    }

pub returns-in_err-verdict-clause-same_limit : goal.returns-in_err-verdict-clause-same_limit
returns-in_err-verdict-clause-same_limit g c = c.verdict_at.ensures.same_limit ∙ c.loop-site.invariant.same_limit

pub returns : goal.returns
returns g c =
    let before = c.loop-site.invariant in
    let all : c.loop-site.site ≡ c.args.count = omega (arith, c.loop-site-test.false, c.loop-site.auto.site-end) in
    record {
      value = subst (λ (n : ℕ). IsSearched (site_formula c.args.l.now.types c.args.l.now.vars c.args.t.now) c.args.tracks.now n c.loop-site.searched) all
          before.known;
      limit = λ is. before.at_limit (Ok-same c.loop-site.searched searched.Limit is);
      kept = before.kept;
      same_limit = before.same_limit;
    }
