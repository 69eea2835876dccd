use Rattle.std.proofs.Common.{◌≡◌, ◌≢◌, ℕ, ◌+◌, ◌<◌, List, length, if◌then◌else◌, sym, ◌∙◌, ap, subst, refl, Bool, true, false, vec_len, arith, rules}
use Rattle.bdd_nodes.specs.declared.node.Node.{Node}
use Rattle.bdd_nodes.specs.declared.node_ref.Named.TheVariants.{Inner}
use Rattle.bdd_nodes.specs.Roots.{Registered}
use Rattle.labels.specs.Labels.{Label}
use Rattle.bdd_nodes.specs.Nodes.{node_at, node_of}
use Rattle.bdd_nodes.specs.Shelf.{Contents, IsShelf, Has, choice_of, state_of, count_of, limit_of}
use Rattle.bdd_nodes.specs.Changes.{Keeps, AddsOnly, is_valid}
use Rattle.bdd_nodes.proofs.GrowLemmas.{grown}
use Rattle.bdd_nodes.specs.Index.{IsIndexed}
use Rattle.bdd_nodes.proofs.MakeLemmas.{count-valid, AddsOnly-valid, valid-index, states-index, Has-index, Has-absent, with_node}
use Rattle.bdd_nodes.proofs.MakeLemmas.{IsShelf-with_node, Keeps-with_node, states-made, AddsOnly-made, count-made}
use Rattle.bdd_nodes.proofs.shelf.Shelf.make.Goals as goal
use Rattle.bdd_nodes.proofs.shelf.Shelf.make.Goals.{After-inner, After-inner-2}

pub returns-then-is_same-clause-only : goal.returns-then-is_same-clause-only
returns-then-is_same-clause-only c = AddsOnly-valid _ _

pub returns-then-is_same-clause-count : goal.returns-then-is_same-clause-count
returns-then-is_same-clause-count c = count-valid _ _ c.requires.low.valid

-- what was opened is the shelf
is_shelf : (c : After-inner) → IsShelf c.args.self.now
is_shelf c = subst IsShelf c.self.view_is c.self.invariant.shelf

nodes-opened : (c : After-inner) → c.deref.result.now ≡ c.args.self.now.nodes
nodes-opened c = c.deref.ensures.value ∙ ap (λ (s : Contents). s.nodes) c.self.view_is

abbrev wanted : (c : After-inner) → Node
wanted c = record { track = c.args.track; low = c.args.low; high = c.args.high }

found : (c : After-inner) → node_at c.args.self.now.nodes c.in-Some.index ≡ wanted c
found c = ap (λ (ns : List Node). node_at ns c.in-Some.index) (sym (nodes-opened c)) ∙ c.in-Some.ensures.found

within : (c : After-inner) → c.in-Some.index < length c.args.self.now.nodes
within c = subst (λ (ns : List Node). c.in-Some.index < length ns) (nodes-opened c) c.in-Some.ensures.within

pub returns-in-Some-clause-value : goal.returns-in-Some-clause-value
returns-in-Some-clause-value c =
    states-index c.args.self.now (is_shelf c) c.inner.result c.in-Some.index c.inner.ensures (within c) (wanted c) (found c)

pub returns-in-Some-clause-only : goal.returns-in-Some-clause-only
returns-in-Some-clause-only c = AddsOnly-valid _ _

pub returns-in-Some-clause-count : goal.returns-in-Some-clause-count
returns-in-Some-clause-count c =
    count-valid _ _ (valid-index c.args.self.now (is_shelf c) c.inner.result c.in-Some.index c.inner.ensures (within c))

pub returns-in-Some-clause-full : goal.returns-in-Some-clause-full
returns-in-Some-clause-full c =
    let has : Has c.args.self.now (choice_of c.args.self.now c.args.track c.args.low c.args.high) =
    Has-index c.args.self.now (is_shelf c) c.inner.result c.in-Some.index c.inner.ensures (within c) (wanted c) (found c) in
    (λ e. absurd (let no : ◌≡◌ {A = Bool} false true → ⊥ = λ f. cc in no e), λ full. absurd (full.absent has))

pub returns-then-is_full-clause-full : goal.returns-then-is_full-clause-full
returns-then-is_full-clause-full c =
    let opened : c.deref.result.now ≡ c.args.self.now.nodes = c.deref.ensures.value ∙ ap (λ (s : Contents). s.nodes) c.self.view_is in
    let limit : c.self.inside.limit ≡ c.args.self.now.limit = ap (λ (s : Contents). s.limit) c.self.view_is in
    let count : length c.self.inside.nodes.items ≡ length c.args.self.now.nodes = ap (λ (s : Contents). length s.nodes) c.self.view_is in
    let vec : vec_len c.self.inside.nodes ≡ length c.self.inside.nodes.items = c.self.inside.nodes.ok.0 in
    let differ : c.args.low ≢ c.args.high = search rules in (
      λ e. record {
        differ = differ;
        full = omega arith;
        absent = Has-absent c.args.self.now (subst IsShelf c.self.view_is c.self.invariant.shelf)
            (record { track = c.args.track; low = c.args.low; high = c.args.high }) c.requires.low c.requires.high differ
            (subst (λ (ns : List Node). (i : ℕ) → i < length ns →
            node_at ns i ≢ record { track = c.args.track; low = c.args.low; high = c.args.high }) opened
            c.in_default.ensures.absent);
      },
      λ full. refl,
    )

-- the new node's shelf
abbrev node : (c : After-inner-2) → Node
node c = record { track = c.args.track; low = c.args.low; high = c.args.high }

shelf-opened : (c : After-inner-2) → IsShelf c.args.self.now
shelf-opened c = subst IsShelf c.self.view_is c.self.invariant.shelf

differ : (c : After-inner-2) → c.args.low ≢ c.args.high
differ c = search rules

absent : (c : After-inner-2) → (i : ℕ) → i < length c.args.self.now.nodes → node_at c.args.self.now.nodes i ≢ node c
absent c = subst (λ (ns : List Node). (i : ℕ) → i < length ns → node_at ns i ≢ node c) (c.deref.ensures.value
    ∙ ap (λ (s : Contents). s.nodes) c.self.view_is) c.in_default.ensures.absent

at_end : (c : After-inner-2) → c.len-index.result ≡ length c.args.self.now.nodes
at_end c = c.len-index.ensures ∙ c.self.inside.nodes.ok.0 ∙ ap (λ (s : Contents). length s.nodes) c.self.view_is

room : (c : After-inner-2) → count_of c.args.self.now < limit_of c.args.self.now
room c =
    let within = (shelf-opened c).within in
    let limit : c.self.inside.limit ≡ c.args.self.now.limit = ap (λ (s : Contents). s.limit) c.self.view_is in
    let index = at_end c in
    omega arith

named : (c : After-inner-2) → node_of c.inner-2.result ≡ Inner (length c.args.self.now.nodes)
named c = c.inner-2.ensures ∙ ap Inner (at_end c)

abbrev contents : List Node → ℕ → Registered → Contents
contents nodes limit roots = record { nodes = nodes; limit = limit; roots = roots }

-- the new view is the shelf with the node
grown-view : (c : After-inner-2) →
    ◌≡◌ {A = Contents} (record {
      nodes = c.push_within.new.items.items;
      limit = c.self.inside.limit;
      roots = c.self.inside.roots;
    })
    (with_node c.args.self.now (shelf-opened c) (node c) c.requires.low c.requires.high (differ c) (absent c))
grown-view c =
    ap (λ (ns : List Node). contents ns c.self.inside.limit c.self.inside.roots) c.push_within.ensures.items
    ∙ ap (λ (s : Contents). contents (grown s.nodes (node c)) s.limit s.roots) c.self.view_is

pub invariant_of-self : goal.invariant_of-self
invariant_of-self c =
    let stored = c.self.invariant in
    record {
      shelf = subst IsShelf (sym (grown-view c))
          (IsShelf-with_node c.args.self.now (shelf-opened c) (node c) c.requires.low c.requires.high (differ c)
          (absent c) (room c));
      indexed = subst (λ (ns : List Node). IsIndexed ns c.put_last.new.self.buckets.items c.put_last.new.self.chain.items
          (length ns)) c.deref-2.ensures.value c.put_last.ensures.indexed;
      chain_len = let l = c.put_last.ensures.chain_len in let v = c.put_last.new.self.chain.ok.0 in let d = ap length c.deref-2.ensures.value in omega arith;
      room = let r = c.push_within.ensures.room in let s = stored.room in omega arith;
      index_room = c.put_last.ensures.roomy;
    }

pub returns-clause-value : goal.returns-clause-value
returns-clause-value c =
    subst (λ (s : Contents). (label : Label) → state_of s c.inner-2.result label
    ≡ choice_of c.args.self.now c.args.track c.args.low c.args.high label) (sym (grown-view c))
    (states-made c.args.self.now (shelf-opened c) (node c) c.requires.low c.requires.high (differ c) (absent c) c.inner-2.result (named c))

pub returns-clause-kept : goal.returns-clause-kept
returns-clause-kept c =
    subst (Keeps c.args.self.now) (sym (grown-view c))
    (Keeps-with_node c.args.self.now (shelf-opened c) (node c) c.requires.low c.requires.high (differ c) (absent c))

pub returns-clause-only : goal.returns-clause-only
returns-clause-only c =
    subst (λ (s : Contents). AddsOnly c.args.self.now s c.inner-2.result) (sym (grown-view c))
    (AddsOnly-made c.args.self.now (shelf-opened c) (node c) c.requires.low c.requires.high (differ c) (absent c) c.inner-2.result (named c))

pub returns-clause-count : goal.returns-clause-count
returns-clause-count c =
    subst (λ (s : Contents). count_of s
    ≡ (if is_valid c.args.self.now c.inner-2.result then count_of c.args.self.now
    else count_of c.args.self.now + 1)) (sym (grown-view c))
    (count-made c.args.self.now (shelf-opened c) (node c) c.requires.low c.requires.high (differ c) (absent c) c.inner-2.result (named c))

pub returns-clause-shelf : goal.returns-clause-shelf
returns-clause-shelf c =
    subst IsShelf (sym (grown-view c))
    (IsShelf-with_node c.args.self.now (shelf-opened c) (node c) c.requires.low c.requires.high (differ c) (absent c) (room c))
