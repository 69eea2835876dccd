use Rattle.site_list.specs.Sites.{rhs_causes}
use Rattle.site_list.proofs.CauseLemmas.{assign_made}
use Rattle.site_list.proofs.acts.push_assign.Goals as goal

pub returns : goal.returns
returns c = assign_made c.args.types.now c.args.line c.args.sites.now c.push_path.new.sites c.push_rhs-2.new.sites c.push_field.new.sites c.args.place.now
    c.in-Some.before.now c.in-Some.last.now (rhs_causes c.args.types.now c.args.value.now) c.in-Some.ensures.cases.0 c.in_ok-push_path.ensures
    c.in_ok-push_rhs.ensures c.in_ok-push_field.ensures
