-- The forms of a formula's distinct parts.
use Rattle.std.proofs.Common.{◌≡◌, inl, inr, ℕ, zero, suc, ◌+◌, ◌-◌, ◌<◌, List, [], ◌∷◌, ◌++◌, length, map, take, slice_get}
use Rattle.std.proofs.Common.{Some, Contains, refl, ap, ap₂, sym, ◌∙◌, subst, arith}
use Rattle.std.proofs.lemmas.Option.{slice_get_within}
use Rattle.gta_theory.proofs.ListedLemmas.{length-meanings}
use Rattle.gta_theory.proofs.ListsLemmas.{Contains-first, Contains-later, Contains-cases, Contains-none, Contains-mapped}
use Rattle.ws2s_core.specs.declared.formula.Formula.{Formula, roll-Formula, out-Formula, out-roll-Formula}
use Rattle.ws2s_core.specs.declared.formula.Formula.TheOpen.{Formula-F}
use Rattle.ws2s_core.specs.declared.formula.Formula.TheFolds.{map-Formula}
use Rattle.ws2s_core.specs.declared.node.FormulaId.{FormulaId}
use Rattle.ws2s_core.specs.declared.node.Node.{Node}
use Rattle.ws2s_core.specs.Nodes.{form_of, formula_at, formula_of_node, formulas_of, HasPartsBelow, IsOnceEach}
use Rattle.ws2s_core.specs.Postfix.{parts_of}
use Rattle.ws2s_core.specs.Parts.{IsPart, itself, deeper, ArePartsOf}
use Rattle.ws2s_core.proofs.NodesLemmas.{formulas_of-at, formula_at-is, at-formula_at, node-inside}
use Rattle.std.proofs.lemmas.List.Elements.{All-contains}
use Rattle.cert_steps.proofs.ListsLemmas.{one-more, each-push}
use Rattle.cert_check.proofs.StagesLemmas.{below-one, below-first, below-second, taken-next, long-taken}
use Rattle.cert_check.specs.Numbering.{IsFormAt, AreForms, AreNodesOf}

-- ---- places

pub contains-at : {X : Type 0} (xs : List X) (k : ℕ) (x : X) → slice_get xs k ≡ Some x → Contains xs x
contains-at [] k x at = absurd cc
contains-at (y ∷ xs) zero x at =
    let same : y ≡ x = cc in
    subst (Contains (y ∷ xs)) same (Contains-first y xs)
contains-at (y ∷ xs) (suc k) x at = Contains-later y x xs (contains-at xs k x at)

pub at-contains : {X : Type 0} (xs : List X) (x : X) → Contains xs x → (k : ℕ) × (slice_get xs k ≡ Some x)
at-contains [] x listed = absurd (Contains-none x listed)
at-contains (y ∷ xs) x listed = elim (Contains-cases y x xs listed) as (λ _. (k : ℕ) × (slice_get (y ∷ xs) k ≡ Some x)) [
  | inl same ↦ (0, ap Some same)
  | inr later ↦ let found = at-contains xs x later in (suc found.0, found.1)
]

pub get-inside : {X : Type 0} (xs : List X) (k : ℕ) → k < length xs → (x : X) × (slice_get xs k ≡ Some x)
get-inside [] k inside = absurd (omega (arith, inside))
get-inside (x ∷ xs) zero inside = (x, refl)
get-inside (x ∷ xs) (suc k) inside = get-inside xs k (omega (arith, inside))

same-some : {X : Type 0} (x y : X) → Some x ≡ Some y → x ≡ y
same-some x y e = cc

-- ---- forms, one after the other

pub forms-none : (formulas : List Formula) (ids : List FormulaId) → AreForms formulas (take 0 ids) []
forms-none formulas ids = record { many = refl; numbered = λ k id at. absurd cc; forms = λ k node at. absurd cc }

pub forms-push : (formulas : List Formula) (ids : List FormulaId) (i : ℕ) (id : FormulaId) (nodes : List Node) (node : Node) →
    slice_get ids i ≡ Some id → id.0 ≡ i → IsFormAt formulas i node → AreForms formulas (take i ids) nodes →
    AreForms formulas (take (i + 1) ids) (nodes ++ node ∷ [])
forms-push formulas ids i id nodes node at is form are =
    let long = long-taken ids i id at in
    let next : suc i ≡ i + 1 = omega arith in
    subst (λ (n : ℕ). AreForms formulas (take n ids) (nodes ++ node ∷ [])) next
    (subst (λ (l : List FormulaId). AreForms formulas l (nodes ++ node ∷ [])) (sym (taken-next ids i id at)) (record {
      many = one-more nodes node i (are.many ∙ long) ∙ sym (one-more (take i ids) id i long);
      numbered = each-push (λ (k : ℕ) (x : FormulaId). x.0 ≡ k) (take i ids) id i long are.numbered is;
      forms = each-push (λ (k : ℕ) (n : Node). IsFormAt formulas k n) nodes node i (are.many ∙ long) are.forms form;
    }))

-- ---- all parts

node-same : (xs ys : List Formula) (node : Node) (k : ℕ) → HasPartsBelow k node → ((i : ℕ) → i < k → formula_at xs i ≡ formula_at ys i) →
    formula_of_node xs node ≡ formula_of_node ys node
node-same xs ys (Node.Sub x y) k below same = refl
node-same xs ys (Node.Single x) k below same = refl
node-same xs ys (Node.Succ0 x y) k below same = refl
node-same xs ys (Node.Succ1 x y) k below same = refl
node-same xs ys (Node.Root x) k below same = refl
node-same xs ys (Node.And f h) k below same =
    ap₂ (λ (a b : Formula). roll-Formula (Formula-F.And a b)) (same f.0 (below-first k f.0 h.0 below)) (same h.0 (below-second k f.0 h.0 below))
node-same xs ys (Node.Not f) k below same = ap (λ (a : Formula). roll-Formula (Formula-F.Not a)) (same f.0 (below-one k f.0 below))
node-same xs ys (Node.Ex2 t f) k below same = ap (λ (a : Formula). roll-Formula (Formula-F.Ex2 t a)) (same f.0 (below-one k f.0 below))

parts-map : (h : ℕ → Formula) (form : Formula-F ℕ) → parts_of (map-Formula ℕ Formula h form) ≡ map h (parts_of form)
parts-map h (Formula-F.Sub x y) = refl
parts-map h (Formula-F.Single x) = refl
parts-map h (Formula-F.Succ0 x y) = refl
parts-map h (Formula-F.Succ1 x y) = refl
parts-map h (Formula-F.Root x) = refl
parts-map h (Formula-F.And f g) = refl
parts-map h (Formula-F.Not f) = refl
parts-map h (Formula-F.Ex2 t f) = refl

module _ (f : Formula) (formulas : List Formula) (whole : ℕ) (ids : List FormulaId) (nodes : List Node)
    (is_whole : slice_get formulas whole ≡ Some f) (once : IsOnceEach formulas) (of_parts : ArePartsOf formulas whole ids)
    (are : AreForms formulas ids nodes) (many : length nodes ≡ whole + 1) where
  same-below : (n k : ℕ) → k < n → k < length nodes → formula_at (formulas_of nodes) k ≡ formula_at formulas k
  same-below zero k below inside = absurd (omega (arith, below))
  same-below (suc n) k below inside =
      let found = node-inside nodes k inside in
      let node = found.0 in
      let form = are.forms k node found.1 in
      formula_at-is (formulas_of nodes) k (formula_of_node (formulas_of nodes) node) (formulas_of-at nodes k node found.1 form.below)
      ∙ node-same (formulas_of nodes) formulas node k form.below (λ i low. same-below n i (omega (arith, low, below)) (omega (arith, low, inside)))
      ∙ sym (formula_at-is formulas k (formula_of_node formulas node) form.formula)

  in-formulas : (k : ℕ) → k < length nodes → k < length formulas
  in-formulas k inside =
      let found = node-inside nodes k inside in
      slice_get_within formulas k (formula_of_node formulas found.0) (are.forms k found.0 found.1).formula

  same-at : (k : ℕ) → k < length nodes → slice_get (formulas_of nodes) k ≡ slice_get formulas k
  same-at k inside =
      let long = length-meanings formula_of_node nodes in
      at-formula_at (formulas_of nodes) k (omega (arith, long, inside)) ∙ ap Some (same-below (suc k) k (omega arith) inside)
      ∙ sym (at-formula_at formulas k (in-formulas k inside))

  inside-of : (k : ℕ) (h : Formula) → slice_get (formulas_of nodes) k ≡ Some h → k < length nodes
  inside-of k h at =
      let long = length-meanings formula_of_node nodes in
      let inside = slice_get_within (formulas_of nodes) k h at in
      omega (arith, long, inside)

  last-is : slice_get (formulas_of nodes) (length nodes - 1) ≡ Some f
  last-is =
      subst (λ (k : ℕ). slice_get (formulas_of nodes) k ≡ Some f) (let e : whole ≡ length nodes - 1 = omega (arith, many) in e)
      (same-at whole (omega (arith, many)) ∙ is_whole)

  once-each : IsOnceEach (formulas_of nodes)
  once-each = record {
    once = λ i j h at_i at_j. once.once i j h (sym (same-at i (inside-of i h at_i)) ∙ at_i) (sym (same-at j (inside-of j h at_j)) ∙ at_j);
  }

  -- the parts of what has a number have numbers
  lower : (k : ℕ) (h p : Formula) → slice_get (formulas_of nodes) k ≡ Some h → Contains (parts_of (out-Formula h)) p →
      (i : ℕ) × (slice_get (formulas_of nodes) i ≡ Some p)
  lower k h p at listed =
      let inside = inside-of k h at in
      let found = node-inside nodes k inside in
      let node = found.0 in
      let below = (are.forms k node found.1).below in
      let here : h ≡ formula_of_node (formulas_of nodes) node = same-some h _ (sym at ∙ formulas_of-at nodes k node found.1 below) in
      let parts : parts_of (out-Formula h) ≡ map (formula_at (formulas_of nodes)) (parts_of (form_of node)) =
      ap (λ (x : Formula). parts_of (out-Formula x)) here ∙ ap parts_of (out-roll-Formula _) ∙ parts-map (formula_at (formulas_of nodes)) (form_of node) in
      let of = Contains-mapped (formula_at (formulas_of nodes)) (parts_of (form_of node)) p (subst (λ (l : List Formula). Contains l p) parts listed) in
      let low : of.0 < k = All-contains (λ part. part < k) (parts_of (form_of node)) of.0 below of.1 in
      let long = length-meanings formula_of_node nodes in
      (of.0, at-formula_at (formulas_of nodes) of.0 (omega (arith, long, low, inside)) ∙ ap Some of.2)

  has-part : (h : Formula) → IsPart f h → (k : ℕ) × (slice_get (formulas_of nodes) k ≡ Some h)
  has-part _ itself = (length nodes - 1, last-is)
  has-part _ (deeper h p part listed) = let found = has-part h part in lower found.0 h p found.1 listed

  is-part : (h : Formula) (k : ℕ) → slice_get (formulas_of nodes) k ≡ Some h → IsPart f h
  is-part h k at =
      let inside = inside-of k h at in
      let as_many = are.many in
      let found = get-inside ids k (omega (arith, as_many, inside)) in
      let id = found.0 in
      let numbered = are.numbered k id found.1 in
      let part = ((of_parts.exactly id).0 (contains-at ids k id found.1)).1 in
      let here : formula_at formulas id.0 ≡ h =
      ap (formula_at formulas) numbered ∙ formula_at-is formulas k h (sym (same-at k inside) ∙ at) in
      subst (IsPart f) here (subst (λ (x : Formula). IsPart x (formula_at formulas id.0)) (formula_at-is formulas whole f is_whole) part)

  pub nodes-of : AreNodesOf f nodes
  nodes-of = record {
    once = once-each;
    parts = λ h. (
      (λ part. let found = has-part h part in contains-at (formulas_of nodes) found.0 h found.1),
      (λ listed. let found = at-contains (formulas_of nodes) h listed in is-part h found.0 found.1),
    );
    earlier = λ k node at. (are.forms k node at).below;
    last = last-is;
  }
