-- The initial states weigh nothing.
use Rattle.std.proofs.Common.{◌≡◌, ◌<◌, ℕ, List, Option, Some, None, length, slice_get, inl, inr, sym, ap, ◌∙◌, subst, arith}
use Rattle.std.specs.Prelude.{slice_index_or}
use Rattle.std.proofs.lemmas.Bool.{cases_lt}
use Rattle.std.proofs.lemmas.Option.{slice_get_within, slice_get-get_or}
use Rattle.gta_reach.specs.declared.form.FormSpace.{FormSpace}
use Rattle.gta_witness.specs.declared.goal.Goal.TheVariants.{State}
use Rattle.gta_witness.specs.Rules.{nothing}
use Rattle.gta_witness.specs.Searching.{weighs_in, found_by, IsCovered}
use Rattle.gta_witness.proofs.SettleLemmas.{initial-justified}
use Rattle.gta_witness.proofs.search.start.Goals as goal

same-space : (o : Option FormSpace) (a b : FormSpace) → o ≡ Some a → o ≡ Some b → a ≡ b
same-space o a b one other = let e : Some a ≡ Some b = sym one ∙ other in cc

pub loop-s-init : goal.loop-s-init
loop-s-init c = record {
  is_search = c.new-search.ensures.search c.args.form.now (weighs_in c.args.weighed.now);
  initial = λ k space below. absurd (omega arith);
  none = λ g w settled. let e : None ≡ Some settled.entry = sym (c.new-search.ensures.none g) ∙ settled.there in absurd cc;
}

pub loop-s-preserved : goal.loop-s-preserved
loop-s-preserved c =
    let form = c.args.form.now in
    let weighs = weighs_in c.args.weighed.now in
    let s = c.loop-s.s in
    let part = slice_index_or c.as_slice.result.now s c.index-as_slice-s.result in
    let inside : s < length c.as_slice.result.now =
    (let t = c.loop-s-test.true in let b = c.loop-s.auto.s-end in let n = c.len-many.ensures in let m = ap length c.as_slice.ensures in omega arith) in
    let at : slice_get form.spaces s ≡ Some part =
    ap (λ (xs : List FormSpace). slice_get xs s) (sym c.as_slice.ensures) ∙ slice_get-get_or c.as_slice.result.now s c.index-as_slice-s.result inside in
    let both = c.in_ok-relax.ensures form weighs 0 c.loop-s.invariant.is_search (omega arith)
    (initial-justified form weighs (found_by c.loop-s.search) s part at) in
    record {
      is_search = both.0.is_search;
      initial = λ k space below there. elim (cases_lt k s) [
        | inl before ↦ both.0.improves.covered (State k space.initial) nothing (c.loop-s.invariant.initial k space before there)
        | inr here ↦
            let e : s ≡ k = omega arith in
            let same = same-space (slice_get form.spaces s) part space at (ap (slice_get form.spaces) e ∙ there) in
            subst (λ (j : ℕ). IsCovered (found_by c.relax.new.search) (State j space.initial) nothing) e
            (subst (λ (p : FormSpace). IsCovered (found_by c.relax.new.search) (State s p.initial) nothing) same both.1)
      ];
      none = λ g w settled. c.loop-s.invariant.none g w (both.0.improves.no_more g w settled);
    }

pub returns : goal.returns
returns c =
    let all : c.loop-s.s ≡ length c.args.form.now.spaces =
    (let t = c.loop-s-test.false in let b = c.loop-s.auto.s-end in let n = c.len-many.ensures in omega arith) in
    record {
      is_search = c.loop-s.invariant.is_search;
      initial = λ k space there. c.loop-s.invariant.initial k space
          (let b = slice_get_within c.args.form.now.spaces k space there in omega arith) there;
      none = c.loop-s.invariant.none;
    }
