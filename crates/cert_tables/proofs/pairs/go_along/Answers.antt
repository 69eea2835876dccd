use Rattle.std.proofs.Common.{◌≡◌, ℕ, List, Option, map, slice_get, unwrap_or, true, false, ap, ◌∙◌, subst}
use Rattle.std.specs.Prelude.{◌↔◌, IsTrue}
use Rattle.gta_theory.specs.Guides.{left, right}
use Rattle.cert_text.specs.declared.line.PairLine.{PairLine}
use Rattle.cert_tables.specs.declared.class_triples.ClassTriple.{ClassTriple}
use Rattle.cert_tables.specs.PairKeys.{named_pair}
use Rattle.cert_tables.specs.Pairs.{spots_of, AreClassesOf, AllGo}
use Rattle.cert_tables.specs.Starts.{AreLedBy}
use Rattle.cert_tables.proofs.PairsLemmas.{go-along}
use Rattle.cert_tables.proofs.pairs.go_along.Goals as goal

pub returns : goal.returns
returns c =
    let g = c.args.g.now in
    let s = c.args.space in
    let a = c.args.a.now in
    let b = c.args.b.now in
    let t = c.args.c.now in
    let pairs = c.args.pairs.now in
    let lefts = c.in_ok-lefts.lefts in
    let rights = c.in_ok-rights.rights in
    let lists = c.in_ok-lists.lists in
    let children : c.unwrap_or-left.result ≡ unwrap_or (slice_get g s) (0, 0) =
    c.unwrap_or-left.ensures ∙ ap (λ (found : Option (ℕ × ℕ)). unwrap_or found (0, 0)) c.children.ensures.value in
    let in_left : AreClassesOf false s (left g s) a b t pairs lefts =
    subst (λ (n : ℕ). AreClassesOf false s n a b t pairs lefts) (ap (λ (k : ℕ × ℕ). k.0) children)
    (subst (λ (ls : List PairLine). AreClassesOf false s c.unwrap_or-left.result.0 a b t ls lefts) c.as_slice.ensures.value c.in_ok-lefts.ensures) in
    let in_right : AreClassesOf true s (right g s) a b t pairs rights =
    subst (λ (n : ℕ). AreClassesOf true s n a b t pairs rights) (ap (λ (k : ℕ × ℕ). k.1) children)
    (subst (λ (ls : List PairLine). AreClassesOf true s c.unwrap_or-left.result.1 a b t ls rights) c.as_slice-2.ensures.value
    c.in_ok-rights.ensures) in
    let started : AreLedBy (spots_of s a b t) lefts rights c.in_ok-starts.starts =
    subst (λ (ls : List ClassTriple). AreLedBy (spots_of s a b t) ls rights c.in_ok-starts.starts) c.as_slice-3.ensures
    (subst (λ (rs : List ClassTriple). AreLedBy (spots_of s a b t) c.as_slice-3.result.now rs c.in_ok-starts.starts) c.as_slice-4.ensures
    c.in_ok-starts.ensures) in
    let all : IsTrue c.all_go.result ↔ AllGo (map named_pair pairs) s lists =
    subst (λ (ls : List (List ℕ)). IsTrue c.all_go.result ↔ AllGo (map named_pair pairs) s ls) c.as_slice-5.ensures c.all_go.ensures in
    go-along g c.args.nodes.now a b t pairs s lefts rights c.in_ok-starts.starts lists in_left in_right started c.all_go.result
    c.in_ok-lists.ensures.all c.in_ok-lists.ensures.only all
