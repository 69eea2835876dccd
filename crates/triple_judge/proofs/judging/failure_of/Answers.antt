use Rattle.std.proofs.Common.{◌≡◌, ◌∙◌, List, None, Some, slice_get, sym, ap}
use Rattle.std.specs.Option.{option_copied}
use Rattle.witness_store.proofs.ListsLemmas.{present}
use Rattle.site_list.specs.declared.site.Site.{Site}
use Rattle.site_list.specs.Sites.{sites_of}
use Rattle.triple_judge.proofs.FailingLemmas.{lays-out-found, least-failing}
use Rattle.triple_judge.proofs.judging.failure_of.Goals as goal

pub decode-requires : goal.decode-requires
decode-requires c = lays-out-found c.args.l.now.types c.args.l.now.vars c.args.t.now c.args.found.now c.requires.table c.requires.lightest

pub unreachable-requires : goal.unreachable-requires
unreachable-requires c =
    let site = c.args.found.now.site in
    let (place, there) = present (sites_of c.args.l.now.types c.args.t.now) site (c.requires.lightest).lightest.inside in
    let none : slice_get (sites_of c.args.l.now.types c.args.t.now) site ≡ None =
    ap (λ (places : List Site). slice_get places site) (sym (c.as_slice.ensures ∙ c.in_ok-places.ensures)) ∙ sym c.at.ensures ∙ ap option_copied
    c.in_default.is in
    let both : Some place ≡ None = sym there ∙ none in
    absurd (cc)

pub returns : goal.returns
returns c = λ functional.
    let types = c.args.l.now.types in
    let site = c.args.found.now.site in
    let there : slice_get (sites_of types c.args.t.now) site ≡ Some c.in-Some.place.now =
    ap (λ (places : List Site). slice_get places site) (sym (c.as_slice.ensures ∙ c.in_ok-places.ensures)) ∙ sym c.at.ensures ∙ ap option_copied c.in-Some.is in
    least-failing types c.args.l.now.vars c.args.t.now c.requires.table functional c.requires.triple c.args.found.now c.requires.lightest c.in_ok-store.store
    c.in_ok-store.ensures.store c.in_ok-store.ensures.pointers c.in-Some.place.now there
