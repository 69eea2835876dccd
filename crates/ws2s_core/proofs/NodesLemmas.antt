-- On formulas that are kept as nodes.
use Rattle.std.proofs.Common.{◌≡◌, ℕ, zero, suc, ◌<◌, max, Bool, true, false, cond, eqb, inl, inr, List, [], ◌∷◌, ◌++◌}
use Rattle.std.proofs.Common.{length, take, map, slice_get, unwrap_or, option_map, Option, Some, None, IsSome, is_some, All, refl}
use Rattle.std.proofs.Common.{sym, ap, ap₂, subst, ◌∙◌, arith, eqb-true, eq-eqb, length-append}
use Rattle.std.proofs.lemmas.Bool.{and_from, and_parts, false≢true}
use Rattle.std.proofs.lemmas.Option.{slice_get_within}
use Rattle.std.proofs.lemmas.List.Elements.{All-nil, All-cons, All-head, All-tail, All-weaker}
use Rattle.std.specs.HashMap.{HashMap, get}
use Rattle.std.specs.declared.hash.BuildHasherDefault.{BuildHasherDefault}
use Rattle.std.specs.declared.hash.FoldHasher.{FoldHasher}
use Rattle.gta_theory.proofs.ListedLemmas.{meanings-front, length-meanings, slice_get-meanings, slice_get-front, slice_get-last, slice_get-push}
use Rattle.ws2s_core.specs.declared.track.Track.{Track}
use Rattle.ws2s_core.specs.declared.node.FormulaId.{FormulaId}
use Rattle.ws2s_core.specs.declared.node.Node.{Node}
use Rattle.ws2s_core.specs.declared.postfix.Symbol.{Symbol}
use Rattle.ws2s_core.specs.declared.formula.Formula.{Formula, roll-Formula, out-Formula, out-roll-Formula}
use Rattle.ws2s_core.specs.declared.formula.Formula.TheVariants.{Root}
use Rattle.ws2s_core.specs.declared.formula.Formula.TheOpen.{Formula-F}
use Rattle.ws2s_core.specs.declared.formula.Formula.TheFolds.{map-Formula}
use Rattle.ws2s_core.specs.contracts.node.NodePartialEq.TheImpl as node_eq
use Rattle.ws2s_core.specs.Nodes.{form_of, formula_at, formula_of_node, formulas_of, HasPartsBelow, IsOnceEach, IsIndexed, Extends, stands_for}
use Rattle.ws2s_core.specs.Postfix.{parts_of, taken, applied}

abbrev same_node : Node → Node → Bool
same_node = (node_eq.ghosts).eq

same_track : (x y : Track) → eqb x.0 y.0 ≡ true → x ≡ y
same_track x y e = ap (λ n. record { 0 = n }) (eqb-true x.0 y.0 e)

same_id : (x y : FormulaId) → eqb x.0 y.0 ≡ true → x ≡ y
same_id x y e = ap (λ n. record { 0 = n }) (eqb-true x.0 y.0 e)

-- the derived test says whether two nodes are the same
pub same_node-true : (x y : Node) → same_node x y ≡ true → x ≡ y
same_node-true (Node.Sub x y) (Node.Sub x' y') e = let h = and_parts _ _ e in ap₂ Node.Sub (same_track x x' h.0) (same_track y y' h.1)
same_node-true (Node.Single x) (Node.Single x') e = ap Node.Single (same_track x x' e)
same_node-true (Node.Succ0 x y) (Node.Succ0 x' y') e = let h = and_parts _ _ e in ap₂ Node.Succ0 (same_track x x' h.0) (same_track y y' h.1)
same_node-true (Node.Succ1 x y) (Node.Succ1 x' y') e = let h = and_parts _ _ e in ap₂ Node.Succ1 (same_track x x' h.0) (same_track y y' h.1)
same_node-true (Node.Root x) (Node.Root x') e = ap Node.Root (same_track x x' e)
same_node-true (Node.And f g) (Node.And f' g') e = let h = and_parts _ _ e in ap₂ Node.And (same_id f f' h.0) (same_id g g' h.1)
same_node-true (Node.Not f) (Node.Not f') e = ap Node.Not (same_id f f' e)
same_node-true (Node.Ex2 t f) (Node.Ex2 t' f') e = let h = and_parts _ _ e in ap₂ Node.Ex2 (same_track t t' h.0) (same_id f f' h.1)
same_node-true x y e = absurd (false≢true e)

pub same_node-refl : (x : Node) → same_node x x ≡ true
same_node-refl (Node.Sub x y) = and_from _ _ (eq-eqb x.0 x.0 refl) (eq-eqb y.0 y.0 refl)
same_node-refl (Node.Single x) = eq-eqb x.0 x.0 refl
same_node-refl (Node.Succ0 x y) = and_from _ _ (eq-eqb x.0 x.0 refl) (eq-eqb y.0 y.0 refl)
same_node-refl (Node.Succ1 x y) = and_from _ _ (eq-eqb x.0 x.0 refl) (eq-eqb y.0 y.0 refl)
same_node-refl (Node.Root x) = eq-eqb x.0 x.0 refl
same_node-refl (Node.And f g) = and_from _ _ (eq-eqb f.0 f.0 refl) (eq-eqb g.0 g.0 refl)
same_node-refl (Node.Not f) = eq-eqb f.0 f.0 refl
same_node-refl (Node.Ex2 t f) = and_from _ _ (eq-eqb t.0 t.0 refl) (eq-eqb f.0 f.0 refl)

-- the index, after the map was reordered
pub IsIndexed-same : (nodes : List Node) (places places' : HashMap Node ℕ (BuildHasherDefault FoldHasher)) →
    IsIndexed nodes places → ((q : Node) → get same_node places' q ≡ get same_node places q) → IsIndexed nodes places'
IsIndexed-same nodes places places' h same = record {
  few = h.few;
  earlier = h.earlier;
  found = λ k node at. same node ∙ h.found k node at;
  sound = λ k node at. h.sound k node (sym (same node) ∙ at);
}

-- the index, after a new node came
pub IsIndexed-push : (nodes : List Node) (places places' : HashMap Node ℕ (BuildHasherDefault FoldHasher)) (node : Node) →
    IsIndexed nodes places → length nodes < 4294967296 → HasPartsBelow (length nodes) node → get same_node places node ≡ None →
    ((q : Node) → get same_node places' q ≡ cond (same_node node q) (Some (length nodes)) (get same_node places q)) →
    IsIndexed (nodes ++ node ∷ []) places'
IsIndexed-push nodes places places' node h room parts absent updates = record {
  few = omega (arith, length-append nodes (node ∷ []));
  earlier = λ k other at. elim (slice_get-push nodes node other k at) as (λ _. HasPartsBelow k other) [
    | inl old ↦ h.earlier k other old
    | inr new ↦ subst (λ n. HasPartsBelow n other) (sym new.0) (subst (HasPartsBelow (length nodes)) new.1 parts)
  ];
  found = λ k other at. elim (slice_get-push nodes node other k at) as (λ _. get same_node places' other ≡ Some k) [
    | inl old ↦ updates other ∙ keep k other old (same_node node other) refl
    | inr new ↦ updates other ∙ ap (λ b. cond b (Some (length nodes)) (get same_node places other))
        (ap (same_node node) (sym new.1) ∙ same_node-refl node) ∙ ap Some (sym new.0)
  ];
  sound = λ k other at. back k other (same_node node other) refl (sym (updates other) ∙ at);
}
  where
    keep : (k : ℕ) (other : Node) → slice_get nodes k ≡ Some other → (b : Bool) → same_node node other ≡ b →
        cond (same_node node other) (Some (length nodes)) (get same_node places other) ≡ Some k
    keep k other old true same =
        let e : node ≡ other = same_node-true node other same in
        let here : get same_node places other ≡ Some k = h.found k other old in
        let none : get same_node places other ≡ None = subst (λ q. get same_node places q ≡ None) e absent in
        absurd cc
    keep k other old false same = ap (λ b. cond b (Some (length nodes)) (get same_node places other)) same ∙ h.found k other old

    back : (k : ℕ) (other : Node) (b : Bool) → same_node node other ≡ b →
        cond (same_node node other) (Some (length nodes)) (get same_node places other) ≡ Some k → slice_get (nodes ++ node ∷ []) k ≡ Some other
    back k other true same at =
        let e : Some (length nodes) ≡ Some k = sym (ap (λ b. cond b (Some (length nodes)) (get same_node places other)) same) ∙ at in
        let n : length nodes ≡ k = cc in
        sym (ap (slice_get (nodes ++ node ∷ [])) n) ∙ slice_get-last nodes node ∙ ap Some (same_node-true node other same)
    back k other false same at =
        let old = h.sound k other (sym (ap (λ b. cond b (Some (length nodes)) (get same_node places other)) same) ∙ at) in
        slice_get-front nodes (node ∷ []) k (slice_get_within nodes k other old) ∙ old

-- a form of formulas depends on the formulas of its parts alone
map-same : (h h' : ℕ → Formula) (form : Formula-F ℕ) → All (λ part. h part ≡ h' part) (parts_of form) →
    map-Formula ℕ Formula h form ≡ map-Formula ℕ Formula h' form
map-same h h' (Formula-F.Sub x y) same = refl
map-same h h' (Formula-F.Single x) same = refl
map-same h h' (Formula-F.Succ0 x y) same = refl
map-same h h' (Formula-F.Succ1 x y) same = refl
map-same h h' (Formula-F.Root x) same = refl
map-same h h' (Formula-F.And f g) same = ap₂ Formula-F.And
    (All-head (λ part. h part ≡ h' part) f (g ∷ []) same)
    (All-head (λ part. h part ≡ h' part) g [] (All-tail (λ part. h part ≡ h' part) f (g ∷ []) same))
map-same h h' (Formula-F.Not f) same = ap Formula-F.Not (All-head (λ part. h part ≡ h' part) f [] same)
map-same h h' (Formula-F.Ex2 t f) same = ap (Formula-F.Ex2 t) (All-head (λ part. h part ≡ h' part) f [] same)

formula_at-take : (formulas : List Formula) (n k : ℕ) → k < n → formula_at (take n formulas) k ≡ formula_at formulas k
formula_at-take [] zero k below = absurd (omega arith)
formula_at-take [] (suc n) k below = refl
formula_at-take (f ∷ formulas) zero k below = absurd (omega arith)
formula_at-take (f ∷ formulas) (suc n) zero below = refl
formula_at-take (f ∷ formulas) (suc n) (suc k) below = formula_at-take formulas n k (omega arith)

-- the formula at a node's place is the node's, over all formulas
pub formulas_of-at : (nodes : List Node) (k : ℕ) (node : Node) → slice_get nodes k ≡ Some node → HasPartsBelow k node →
    slice_get (formulas_of nodes) k ≡ Some (formula_of_node (formulas_of nodes) node)
formulas_of-at nodes k node at below =
    slice_get-meanings formula_of_node nodes k node at
    ∙ ap (λ form. Some (roll-Formula form))
    (map-same (formula_at (take k (formulas_of nodes))) (formula_at (formulas_of nodes)) (form_of node)
    (All-weaker (λ part. part < k) (λ part. formula_at (take k (formulas_of nodes)) part ≡ formula_at (formulas_of nodes) part)
    (λ part lt. formula_at-take (formulas_of nodes) k part lt) (parts_of (form_of node)) below))

pub formula_at-is : (formulas : List Formula) (k : ℕ) (f : Formula) → slice_get formulas k ≡ Some f → formula_at formulas k ≡ f
formula_at-is formulas k f at = ap (λ o. unwrap_or o (Root (record { 0 = 0 }))) at

pub at-formula_at : (formulas : List Formula) (k : ℕ) → k < length formulas → slice_get formulas k ≡ Some (formula_at formulas k)
at-formula_at [] k inside = absurd (omega arith)
at-formula_at (f ∷ formulas) zero inside = refl
at-formula_at (f ∷ formulas) (suc k) inside = at-formula_at formulas k (omega arith)

-- the formulas of more nodes begin with those that were there
pub formulas_of-extends : (nodes more : List Node) → Extends (formulas_of nodes) (formulas_of (nodes ++ more))
formulas_of-extends nodes more = let front = meanings-front formula_of_node nodes more in record { more = front.0; is = front.2 }

formula_at-front : (formulas more : List Formula) (k : ℕ) → k < length formulas → formula_at (formulas ++ more) k ≡ formula_at formulas k
formula_at-front formulas more k inside = ap (λ o. unwrap_or o (Root (record { 0 = 0 }))) (slice_get-front formulas more k inside)

pub stands_for-extends : (nodes nodes' : List Node) (places : List ℕ) → Extends nodes nodes' → All (λ place. place < length nodes) places →
    stands_for nodes' places ≡ stands_for nodes places
stands_for-extends nodes nodes' [] extends inside = refl
stands_for-extends nodes nodes' (k ∷ places) extends inside =
    let front = formulas_of-extends nodes extends.more in
    let lt : k < length (formulas_of nodes) = omega (arith, length-meanings formula_of_node nodes, All-head (λ place. place < length nodes) k places inside) in
    ap₂ (λ f fs. f ∷ fs)
    (ap (λ ns. formula_at (formulas_of ns) k) extends.is ∙ ap (λ fs. formula_at fs k) front.is ∙ formula_at-front (formulas_of nodes) front.more k lt)
    (stands_for-extends nodes nodes' places extends (All-tail (λ place. place < length nodes) k places inside))

-- the formula of a node whose parts were there, after more nodes came
pub formula_of_node-extends : (nodes nodes' : List Node) (node : Node) → Extends nodes nodes' → HasPartsBelow (length nodes) node →
    formula_of_node (formulas_of nodes') node ≡ formula_of_node (formulas_of nodes) node
formula_of_node-extends nodes nodes' node extends inside =
    let front = formulas_of-extends nodes extends.more in
    ap (λ ns. formula_of_node (formulas_of ns) node) extends.is ∙ ap (λ fs. formula_of_node fs node) front.is
    ∙ ap roll-Formula (map-same (formula_at (formulas_of nodes ++ front.more)) (formula_at (formulas_of nodes)) (form_of node)
    (All-weaker (λ part. part < length nodes) (λ part. formula_at (formulas_of nodes ++ front.more) part ≡ formula_at (formulas_of nodes) part)
    (λ part lt. formula_at-front (formulas_of nodes) front.more part (omega (arith, length-meanings formula_of_node nodes)))
    (parts_of (form_of node)) inside))

-- a symbol takes numbers as it takes what they stand for
pub taken-map : (symbol : Symbol) (h : ℕ → Formula) (parts : List ℕ) →
    taken symbol (map h parts) ≡ option_map (λ found. (map-Formula ℕ Formula h found.0, map h found.1)) (taken symbol parts)
taken-map (Symbol.Sub x y) h parts = refl
taken-map (Symbol.Single x) h parts = refl
taken-map (Symbol.Succ0 x y) h parts = refl
taken-map (Symbol.Succ1 x y) h parts = refl
taken-map (Symbol.Root x) h parts = refl
taken-map Symbol.And h [] = refl
taken-map Symbol.And h (g ∷ []) = refl
taken-map Symbol.And h (g ∷ f ∷ parts) = refl
taken-map Symbol.Not h [] = refl
taken-map Symbol.Not h (f ∷ parts) = refl
taken-map (Symbol.Ex2 t) h [] = refl
taken-map (Symbol.Ex2 t) h (f ∷ parts) = refl

-- what a symbol takes, and leaves, is among the parts
moved : (P : ℕ → Type 0) (a b : Formula-F ℕ × List ℕ) → Some a ≡ Some b → All P (parts_of a.0) × All P a.1 →
    All P (parts_of b.0) × All P b.1
moved P a b e h = let same : a ≡ b = cc in subst (λ (z : Formula-F ℕ × List ℕ). All P (parts_of z.0) × All P z.1) same h

pub taken-parts : (P : ℕ → Type 0) (symbol : Symbol) (parts rest : List ℕ) (form : Formula-F ℕ) → taken symbol parts ≡ Some (form, rest) →
    All P parts → All P (parts_of form) × All P rest
taken-parts P (Symbol.Sub x y) parts rest form e all = moved P (Formula-F.Sub x y, parts) (form, rest) e (All-nil P, all)
taken-parts P (Symbol.Single x) parts rest form e all = moved P (Formula-F.Single x, parts) (form, rest) e (All-nil P, all)
taken-parts P (Symbol.Succ0 x y) parts rest form e all = moved P (Formula-F.Succ0 x y, parts) (form, rest) e (All-nil P, all)
taken-parts P (Symbol.Succ1 x y) parts rest form e all = moved P (Formula-F.Succ1 x y, parts) (form, rest) e (All-nil P, all)
taken-parts P (Symbol.Root x) parts rest form e all = moved P (Formula-F.Root x, parts) (form, rest) e (All-nil P, all)
taken-parts P Symbol.And [] rest form e all = absurd cc
taken-parts P Symbol.And (g ∷ []) rest form e all = absurd cc
taken-parts P Symbol.And (g ∷ f ∷ parts) rest form e all =
    let more = All-tail P g (f ∷ parts) all in
    moved P (Formula-F.And f g, parts) (form, rest) e
    (All-cons P f (g ∷ []) (All-head P f parts more) (All-cons P g [] (All-head P g (f ∷ parts) all) (All-nil P)), All-tail P f parts more)
taken-parts P Symbol.Not [] rest form e all = absurd cc
taken-parts P Symbol.Not (f ∷ parts) rest form e all =
    moved P (Formula-F.Not f, parts) (form, rest) e (All-cons P f [] (All-head P f parts all) (All-nil P), All-tail P f parts all)
taken-parts P (Symbol.Ex2 t) [] rest form e all = absurd cc
taken-parts P (Symbol.Ex2 t) (f ∷ parts) rest form e all =
    moved P (Formula-F.Ex2 t f, parts) (form, rest) e (All-cons P f [] (All-head P f parts all) (All-nil P), All-tail P f parts all)

-- a symbol can be applied to what numbers stand for only where it can take the numbers
pub IsSome-taken : (symbol : Symbol) (nodes : List Node) (places : List ℕ) → IsSome (applied symbol (stands_for nodes places)) → IsSome (taken symbol places)
IsSome-taken symbol nodes places h = pick (taken symbol places) refl
  where
    pick : (o : Option (Formula-F ℕ × List ℕ)) → taken symbol places ≡ o → IsSome (taken symbol places)
    pick None e =
        let none : applied symbol (stands_for nodes places) ≡ None =
        ap (option_map (λ found. roll-Formula found.0 ∷ found.1)) (taken-map symbol (formula_at (formulas_of nodes)) places
        ∙ ap (option_map (λ found. (map-Formula ℕ Formula (formula_at (formulas_of nodes)) found.0, map (formula_at (formulas_of nodes)) found.1))) e) in
        let is : is_some (applied symbol (stands_for nodes places)) ≡ false = ap is_some none in
        absurd (false≢true (sym is ∙ h))
    pick (Some found) e = ap is_some e

-- the formulas after a symbol took the places of its parts, and its node's place came
pub applied-placed : (symbol : Symbol) (nodes : List Node) (parts rest : List ℕ) (node : Node) (place : ℕ) →
    taken symbol parts ≡ Some (form_of node, rest) → slice_get nodes place ≡ Some node → HasPartsBelow place node →
    applied symbol (stands_for nodes parts) ≡ Some (stands_for nodes (place ∷ rest))
applied-placed symbol nodes parts rest node place taking at below =
    ap (option_map (λ found. roll-Formula found.0 ∷ found.1)) (taken-map symbol (formula_at (formulas_of nodes)) parts
    ∙ ap (option_map (λ found. (map-Formula ℕ Formula (formula_at (formulas_of nodes)) found.0, map (formula_at (formulas_of nodes)) found.1))) taking)
    ∙ ap (λ f. Some (f ∷ stands_for nodes rest))
    (sym (formula_at-is (formulas_of nodes) place (formula_of_node (formulas_of nodes) node)
    (formulas_of-at nodes place node at below)))

-- the id with a number
abbrev id_of : ℕ → FormulaId
id_of n = record { 0 = n }

-- the node of a form
node_from : Formula-F ℕ → Node
node_from (Formula-F.Sub x y) = Node.Sub x y
node_from (Formula-F.Single x) = Node.Single x
node_from (Formula-F.Succ0 x y) = Node.Succ0 x y
node_from (Formula-F.Succ1 x y) = Node.Succ1 x y
node_from (Formula-F.Root x) = Node.Root x
node_from (Formula-F.And f g) = Node.And (id_of f) (id_of g)
node_from (Formula-F.Not f) = Node.Not (id_of f)
node_from (Formula-F.Ex2 t f) = Node.Ex2 t (id_of f)

node_from-form : (node : Node) → node_from (form_of node) ≡ node
unfolding node_from
node_from-form (Node.Sub x y) = refl
node_from-form (Node.Single x) = refl
node_from-form (Node.Succ0 x y) = refl
node_from-form (Node.Succ1 x y) = refl
node_from-form (Node.Root x) = refl
node_from-form (Node.And f g) = refl
node_from-form (Node.Not f) = refl
node_from-form (Node.Ex2 t f) = refl

-- equal forms of formulas have equal parts, where equal formulas have equal numbers
map-injective : (P : ℕ → Type 0) (h : ℕ → Formula) → ((p q : ℕ) → P p → P q → h p ≡ h q → p ≡ q) → (x y : Formula-F ℕ) →
    All P (parts_of x) → All P (parts_of y) → map-Formula ℕ Formula h x ≡ map-Formula ℕ Formula h y → x ≡ y
map-injective P h same (Formula-F.Sub x y) (Formula-F.Sub x' y') in_x in_y e = cc
map-injective P h same (Formula-F.Single x) (Formula-F.Single x') in_x in_y e = cc
map-injective P h same (Formula-F.Succ0 x y) (Formula-F.Succ0 x' y') in_x in_y e = cc
map-injective P h same (Formula-F.Succ1 x y) (Formula-F.Succ1 x' y') in_x in_y e = cc
map-injective P h same (Formula-F.Root x) (Formula-F.Root x') in_x in_y e = cc
map-injective P h same (Formula-F.And f g) (Formula-F.And f' g') in_x in_y e =
    let first : h f ≡ h f' = cc in
    let second : h g ≡ h g' = cc in
    ap₂ Formula-F.And
    (same f f' (All-head P f (g ∷ []) in_x) (All-head P f' (g' ∷ []) in_y) first)
    (same g g' (All-head P g [] (All-tail P f (g ∷ []) in_x)) (All-head P g' [] (All-tail P f' (g' ∷ []) in_y)) second)
map-injective P h same (Formula-F.Not f) (Formula-F.Not f') in_x in_y e =
    let first : h f ≡ h f' = cc in
    ap Formula-F.Not (same f f' (All-head P f [] in_x) (All-head P f' [] in_y) first)
map-injective P h same (Formula-F.Ex2 t f) (Formula-F.Ex2 t' f') in_x in_y e =
    let track : t ≡ t' = cc in
    let first : h f ≡ h f' = cc in
    ap₂ Formula-F.Ex2 track (same f f' (All-head P f [] in_x) (All-head P f' [] in_y) first)
map-injective P h same x y in_x in_y e = absurd cc

-- the node at a place
pub node-inside : (nodes : List Node) (k : ℕ) → k < length nodes → (node : Node) × (slice_get nodes k ≡ Some node)
node-inside [] k inside = absurd (omega arith)
node-inside (node ∷ nodes) zero inside = (node, refl)
node-inside (node ∷ nodes) (suc k) inside = node-inside nodes k (omega arith)

-- the node at a place where a formula is
node-at : (nodes : List Node) (k : ℕ) (f : Formula) → slice_get (formulas_of nodes) k ≡ Some f → (node : Node) × (slice_get nodes k ≡ Some node)
node-at nodes k f at = node-inside nodes k (subst (λ n. k < n) (length-meanings formula_of_node nodes) (slice_get_within (formulas_of nodes) k f at))

module _ (nodes : List Node) (places : HashMap Node ℕ (BuildHasherDefault FoldHasher)) (index : IsIndexed nodes places) where
  once-below : (n i j : ℕ) (f : Formula) → i < n → j < n → slice_get (formulas_of nodes) i ≡ Some f → slice_get (formulas_of nodes) j ≡ Some f → i ≡ j
  once-below zero i j f below_i below_j at_i at_j = absurd (omega arith)
  once-below (suc n) i j f below_i below_j at_i at_j =
      let x = node-at nodes i f at_i in
      let y = node-at nodes j f at_j in
      let parts_x = index.earlier i x.0 x.1 in
      let parts_y = index.earlier j y.0 y.1 in
      let inside_i : i < length (formulas_of nodes) = slice_get_within (formulas_of nodes) i f at_i in
      let inside_j : j < length (formulas_of nodes) = slice_get_within (formulas_of nodes) j f at_j in
      let is_x : Some f ≡ Some (formula_of_node (formulas_of nodes) x.0) = sym at_i ∙ formulas_of-at nodes i x.0 x.1 parts_x in
      let is_y : Some f ≡ Some (formula_of_node (formulas_of nodes) y.0) = sym at_j ∙ formulas_of-at nodes j y.0 y.1 parts_y in
      let rolled : formula_of_node (formulas_of nodes) x.0 ≡ formula_of_node (formulas_of nodes) y.0 = cc in
      let forms : map-Formula ℕ Formula (formula_at (formulas_of nodes)) (form_of x.0) ≡ map-Formula ℕ Formula (formula_at (formulas_of nodes)) (form_of y.0) =
      sym (out-roll-Formula _) ∙ ap out-Formula rolled ∙ out-roll-Formula _ in
      let Fits : ℕ → Type 0 = λ part. (part < n) × (part < length (formulas_of nodes)) in
      let same : form_of x.0 ≡ form_of y.0 = map-injective Fits (formula_at (formulas_of nodes))
      (λ p q fits_p fits_q e. once-below n p q (formula_at (formulas_of nodes) p) fits_p.0 fits_q.0
      (at-formula_at (formulas_of nodes) p fits_p.1) (at-formula_at (formulas_of nodes) q fits_q.1 ∙ ap Some (sym e)))
      (form_of x.0) (form_of y.0)
      (All-weaker (λ part. part < i) Fits (λ part lt. (omega arith, omega arith)) (parts_of (form_of x.0)) parts_x)
      (All-weaker (λ part. part < j) Fits (λ part lt. (omega arith, omega arith)) (parts_of (form_of y.0)) parts_y)
      forms in
      let nodes_same : x.0 ≡ y.0 = sym (node_from-form x.0) ∙ ap node_from same ∙ node_from-form y.0 in
      let place : Some i ≡ Some j = sym (index.found i x.0 x.1) ∙ ap (get same_node places) nodes_same ∙ index.found j y.0 y.1 in
      cc

  -- no formula has two numbers
  pub IsOnceEach-indexed : IsOnceEach (formulas_of nodes)
  IsOnceEach-indexed = record {
    once = λ i j f at_i at_j. once-below (suc (max i j)) i j f (omega arith) (omega arith) at_i at_j;
  }

-- the same two, where the number of nodes and the list after the push are known by equations
pub IsIndexed-pushed : (nodes nodes' : List Node) (places places' : HashMap Node ℕ (BuildHasherDefault FoldHasher)) (node : Node) (place : ℕ) →
    IsIndexed nodes places → place ≡ length nodes → place < 4294967296 → HasPartsBelow (length nodes) node → get same_node places node ≡ None →
    ((q : Node) → get same_node places' q ≡ cond (same_node node q) (Some place) (get same_node places q)) → nodes' ≡ nodes ++ node ∷ [] →
    IsIndexed nodes' places'
IsIndexed-pushed nodes nodes' places places' node place index is room parts absent updates pushed =
    subst (λ (ns : List Node). IsIndexed ns places') (sym pushed)
    (IsIndexed-push nodes places places' node index (omega arith) parts absent
    (λ q. updates q ∙ ap (λ k. cond (same_node node q) (Some k) (get same_node places q)) is))

pub slice_get-pushed : (nodes nodes' : List Node) (node : Node) (place : ℕ) → place ≡ length nodes → nodes' ≡ nodes ++ node ∷ [] →
    slice_get nodes' place ≡ Some node
slice_get-pushed nodes nodes' node place is pushed = ap₂ slice_get pushed is ∙ slice_get-last nodes node

pub Extends-formulas_of : (nodes nodes' : List Node) → Extends nodes nodes' → Extends (formulas_of nodes) (formulas_of nodes')
Extends-formulas_of nodes nodes' extends =
    subst (λ (ns : List Node). Extends (formulas_of nodes) (formulas_of ns)) (sym extends.is) (formulas_of-extends nodes extends.more)
