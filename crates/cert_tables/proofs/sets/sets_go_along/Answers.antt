use Rattle.std.proofs.Common.{◌≡◌, ℕ, Bool, List, Option, map, slice_get, unwrap_or, true, false, ap, ◌∙◌, subst}
use Rattle.std.specs.Prelude.{◌↔◌, IsTrue}
use Rattle.gta_theory.specs.Guides.{left, right}
use Rattle.cert_text.specs.declared.line.SetLine.{SetLine}
use Rattle.cert_tables.specs.Automata.{table_automaton}
use Rattle.cert_tables.specs.SetKeys.{named_set}
use Rattle.cert_tables.specs.Sets.{ClassKey, key_of, set_spots_of, AreSetClasses, AllSetsGo, SetsGoAlong}
use Rattle.cert_tables.specs.Starts.{AreLedBy}
use Rattle.cert_tables.proofs.SetsLemmas.{ok-map, sets-go-along}
use Rattle.cert_tables.proofs.sets.sets_go_along.Goals as goal

pub returns : goal.returns
returns c =
    let g = c.args.g.now in
    let d = c.args.nodes.now in
    let s = c.args.space in
    let a = c.args.a.now in
    let t = c.args.c.now in
    let sets = c.args.sets.now in
    let lefts = c.in_ok-lefts.lefts in
    let rights = c.in_ok-rights.rights in
    let starts = c.in_ok-starts.starts in
    let lists = c.in_ok-lists.lists in
    let lead = set_spots_of s a t in
    let children : c.unwrap_or-left.result ≡ unwrap_or (slice_get g s) (0, 0) =
    c.unwrap_or-left.ensures ∙ ap (λ (found : Option (ℕ × ℕ)). unwrap_or found (0, 0)) c.children.ensures.value in
    let in_left : AreSetClasses false s (left g s) a t sets lefts =
    subst (λ (n : ℕ). AreSetClasses false s n a t sets lefts) (ap (λ (k : ℕ × ℕ). k.0) children)
    (subst (λ (ls : List SetLine). AreSetClasses false s c.unwrap_or-left.result.0 a t ls lefts) c.as_slice.ensures.value c.in_ok-lefts.ensures) in
    let in_right : AreSetClasses true s (right g s) a t sets rights =
    subst (λ (n : ℕ). AreSetClasses true s n a t sets rights) (ap (λ (k : ℕ × ℕ). k.1) children)
    (subst (λ (ls : List SetLine). AreSetClasses true s c.unwrap_or-left.result.1 a t ls rights) c.as_slice-2.ensures.value
    c.in_ok-rights.ensures) in
    let started : AreLedBy lead lefts rights starts =
    subst (λ (ls : List ClassKey). AreLedBy lead ls rights starts) c.as_slice-3.ensures
    (subst (λ (rs : List ClassKey). AreLedBy lead (map key_of c.as_slice-3.result.now) rs starts) c.as_slice-4.ensures c.in_ok-starts.ensures) in
    ok-map c.all_sets_go.result (λ (go : Bool). IsTrue go ↔ AllSetsGo (map named_set sets) s c.as_slice-5.result.now)
    (λ (go : Bool). IsTrue go ↔ SetsGoAlong g (table_automaton d a) c.args.dropped (map named_set sets) (table_automaton d t) s)
    (λ go is. sets-go-along g d a c.args.dropped t sets s lefts rights starts lists in_left in_right started go c.in_ok-lists.ensures.all
    c.in_ok-lists.ensures.only (subst (λ (ls : List (List ℕ)). IsTrue go ↔ AllSetsGo (map named_set sets) s ls) c.as_slice-5.ensures is))
    c.all_sets_go.ensures
