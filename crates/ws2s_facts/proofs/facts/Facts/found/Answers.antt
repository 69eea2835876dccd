use Rattle.std.proofs.Common.{List, ℕ, Bool, false, ◌||◌, ◌==◌, if◌then◌else◌, refl}
use Rattle.ws2s_core.specs.declared.formula.Formula.{Formula}
use Rattle.ws2s_core.specs.declared.node.Node.{Node}
use Rattle.ws2s_core.specs.Nodes.{formula_of_node}
use Rattle.ws2s_core.specs.Tracks.{is_free}
use Rattle.ws2s_facts.specs.Conjuncts.{formula_of}
use Rattle.ws2s_facts.specs.Facts.{Finds, TrackSet}
use Rattle.ws2s_facts.proofs.FactsLemmas.{found-weaker, Finds-node, same-twice}
use Rattle.ws2s_facts.proofs.facts.Facts.found.Goals as goal

pub returns-in-Sub : goal.returns-in-Sub
returns-in-Sub c =
    let facts = c.args.self.now.facts.items in
    let free : List Formula → ℕ → Bool = λ formulas t. (c.in-Sub.x.0 == t) || (c.in-Sub.y.0 == t) in
    found-weaker {A = TrackSet} (λ tracks. Finds facts free tracks)
    (λ tracks. Finds facts (λ formulas t. is_free t (formula_of_node formulas c.args.node)) tracks)
    (λ tracks h. Finds-node facts c.args.node (Node.Sub c.in-Sub.x c.in-Sub.y) c.in-Sub.is free tracks (λ formulas t. refl) h) c.found_atom.result
    c.found_atom.ensures

pub returns-in-Single : goal.returns-in-Single
returns-in-Single c =
    let facts = c.args.self.now.facts.items in
    let free : List Formula → ℕ → Bool = λ formulas t. (c.in-Single.x.0 == t) || (c.in-Single.x.0 == t) in
    found-weaker {A = TrackSet} (λ tracks. Finds facts free tracks)
    (λ tracks. Finds facts (λ formulas t. is_free t (formula_of_node formulas c.args.node)) tracks)
    (λ tracks h. Finds-node facts c.args.node (Node.Single c.in-Single.x) c.in-Single.is free tracks (λ formulas t. same-twice (c.in-Single.x.0 == t)) h)
    c.found_atom-in-Single.result c.found_atom-in-Single.ensures

pub returns-in-Succ0 : goal.returns-in-Succ0
returns-in-Succ0 c =
    let facts = c.args.self.now.facts.items in
    let free : List Formula → ℕ → Bool = λ formulas t. (c.in-Succ0.x.0 == t) || (c.in-Succ0.y.0 == t) in
    found-weaker {A = TrackSet} (λ tracks. Finds facts free tracks)
    (λ tracks. Finds facts (λ formulas t. is_free t (formula_of_node formulas c.args.node)) tracks)
    (λ tracks h. Finds-node facts c.args.node (Node.Succ0 c.in-Succ0.x c.in-Succ0.y) c.in-Succ0.is free tracks (λ formulas t. refl) h)
    c.found_atom-in-Succ0.result c.found_atom-in-Succ0.ensures

pub returns-in-Succ1 : goal.returns-in-Succ1
returns-in-Succ1 c =
    let facts = c.args.self.now.facts.items in
    let free : List Formula → ℕ → Bool = λ formulas t. (c.in-Succ1.x.0 == t) || (c.in-Succ1.y.0 == t) in
    found-weaker {A = TrackSet} (λ tracks. Finds facts free tracks)
    (λ tracks. Finds facts (λ formulas t. is_free t (formula_of_node formulas c.args.node)) tracks)
    (λ tracks h. Finds-node facts c.args.node (Node.Succ1 c.in-Succ1.x c.in-Succ1.y) c.in-Succ1.is free tracks (λ formulas t. refl) h)
    c.found_atom-in-Succ1.result c.found_atom-in-Succ1.ensures

pub returns-in-Root : goal.returns-in-Root
returns-in-Root c =
    let facts = c.args.self.now.facts.items in
    let free : List Formula → ℕ → Bool = λ formulas t. (c.in-Root.x.0 == t) || (c.in-Root.x.0 == t) in
    found-weaker {A = TrackSet} (λ tracks. Finds facts free tracks)
    (λ tracks. Finds facts (λ formulas t. is_free t (formula_of_node formulas c.args.node)) tracks)
    (λ tracks h. Finds-node facts c.args.node (Node.Root c.in-Root.x) c.in-Root.is free tracks (λ formulas t. same-twice (c.in-Root.x.0 == t)) h)
    c.found_atom-in-Root.result c.found_atom-in-Root.ensures

pub returns-in-And : goal.returns-in-And
returns-in-And c =
    let facts = c.args.self.now.facts.items in
    let free : List Formula → ℕ → Bool = λ formulas t. is_free t (formula_of formulas c.in-And.f) || is_free t (formula_of formulas c.in-And.g) in
    found-weaker {A = TrackSet} (λ tracks. Finds facts free tracks)
    (λ tracks. Finds facts (λ formulas t. is_free t (formula_of_node formulas c.args.node)) tracks)
    (λ tracks h. Finds-node facts c.args.node (Node.And c.in-And.f c.in-And.g) c.in-And.is free tracks (λ formulas t. refl) h) c.found_and.result
    c.found_and.ensures

pub returns-in-Not : goal.returns-in-Not
returns-in-Not c =
    let facts = c.args.self.now.facts.items in
    let free : List Formula → ℕ → Bool = λ formulas t. is_free t (formula_of formulas c.in-Not.f) in
    found-weaker {A = TrackSet} (λ tracks. Finds facts free tracks)
    (λ tracks. Finds facts (λ formulas t. is_free t (formula_of_node formulas c.args.node)) tracks)
    (λ tracks h. Finds-node facts c.args.node (Node.Not c.in-Not.f) c.in-Not.is free tracks (λ formulas t. refl) h) c.found_not.result c.found_not.ensures

pub returns-in-Ex2 : goal.returns-in-Ex2
returns-in-Ex2 c =
    let facts = c.args.self.now.facts.items in
    let free : List Formula → ℕ → Bool = λ formulas t. if c.in-Ex2.t.0 == t then false else is_free t (formula_of formulas c.in-Ex2.f) in
    found-weaker {A = TrackSet} (λ tracks. Finds facts free tracks)
    (λ tracks. Finds facts (λ formulas t. is_free t (formula_of_node formulas c.args.node)) tracks)
    (λ tracks h. Finds-node facts c.args.node (Node.Ex2 c.in-Ex2.t c.in-Ex2.f) c.in-Ex2.is free tracks (λ formulas t. refl) h) c.found_ex2.result
    c.found_ex2.ensures
