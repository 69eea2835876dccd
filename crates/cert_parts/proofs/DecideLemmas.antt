-- What a new decision node leads to.
use Rattle.std.proofs.Common.{◌≡◌, ℕ, zero, suc, ◌+◌, ◌<◌, ◌≤◌, Bool, true, false, if◌then◌else◌, List, [], ◌∷◌, ◌++◌, length}
use Rattle.std.proofs.Common.{Option, unwrap_or, slice_get, refl, ap, sym, ◌∙◌, subst, arith, inl, inr, length-append, append-nil, append_assoc}
use Rattle.std.proofs.lemmas.Bool.{cases_Bool}
use Rattle.labels.specs.Labels.{Label}
use Rattle.gta_theory.proofs.ListedLemmas.{meanings-front, meanings-push, length-meanings, slice_get-front, slice_get-last}
use Rattle.ws2s_core.specs.Nodes.{Extends}
use Rattle.cert_text.specs.declared.line.Target.{Target}
use Rattle.cert_text.specs.declared.line.Target.TheVariants as target
use Rattle.cert_text.specs.declared.line.NodeLine.{NodeLine}
use Rattle.cert_nodes.specs.Nodes.{state_on, node_function, functions_of, IsThere}
use Rattle.cert_parts.specs.declared.choice.Choice.{Choice}
use Rattle.cert_parts.specs.Atoms.{chosen}
use Rattle.cert_parts.specs.Leading.{LeadsTo}

-- ---- lists that grow

pub grown-none : {N : Type 0} (xs : List N) → Extends xs xs
grown-none xs = record { more = []; is = sym (append-nil xs) }

pub grown-one : {N : Type 0} (xs ys : List N) (x : N) → ys ≡ xs ++ x ∷ [] → Extends xs ys
grown-one xs ys x is = record { more = x ∷ []; is = is }

pub grown-more : {N : Type 0} (xs ys zs : List N) → Extends xs ys → Extends ys zs → Extends xs zs
grown-more xs ys zs first second = record {
  more = first.more ++ second.more;
  is = second.is ∙ ap (λ l. l ++ second.more) first.is ∙ append_assoc xs first.more second.more;
}

-- ---- a target that is there leads on where it led

pub state-kept : (nodes more : List NodeLine) (t : Target) (label : Label) → IsThere nodes t →
    state_on (functions_of (nodes ++ more)) t label ≡ state_on (functions_of nodes) t label
state-kept nodes more (target.State q) label there = refl
state-kept nodes more (target.Node zero) label there = refl
state-kept nodes more (target.Node (suc k)) label there =
    let front = meanings-front node_function nodes more in
    let same = length-meanings node_function nodes in
    let inside = there.1 in
    ap (λ (fs : List (Label → ℕ)). unwrap_or (slice_get fs k) (λ l. 0) label) front.2
    ∙ ap (λ (o : Option (Label → ℕ)). unwrap_or o (λ l. 0) label) (slice_get-front (functions_of nodes) front.0 k (omega (arith, same, inside)))

pub there-kept : (nodes more : List NodeLine) (t : Target) → IsThere nodes t → IsThere (nodes ++ more) t
there-kept nodes more (target.State q) there = tt
there-kept nodes more (target.Node n) there =
    let inside = there.1 in
    (there.0, omega (arith, length-append nodes more, inside))

pub leads-kept : (old new : List NodeLine) (t : Target) (f : Label → ℕ) → Extends old new → LeadsTo old t f → LeadsTo new t f
leads-kept old new t f grown leads =
    subst (λ (nodes : List NodeLine). LeadsTo nodes t f) (sym grown.is) (record {
      there = there-kept old grown.more t leads.there;
      leads = λ label. state-kept old grown.more t label leads.there ∙ leads.leads label;
    })

pub leads-like : (nodes : List NodeLine) (t : Target) (f h : Label → ℕ) → ((label : Label) → f label ≡ h label) → LeadsTo nodes t f → LeadsTo nodes t h
leads-like nodes t f h same leads = record { there = leads.there; leads = λ label. leads.leads label ∙ same label }

pub leads-state : (nodes : List NodeLine) (q : ℕ) → LeadsTo nodes (target.State q) (λ label. q)
leads-state nodes q = record { there = tt; leads = λ label. refl }

-- ---- a choice

abbrev pub either : ℕ → (Label → ℕ) → (Label → ℕ) → Label → ℕ
either track f h label = if label track then h label else f label

-- both sides are one
pub choose-same : (nodes : List NodeLine) (track : ℕ) (low high : Target) (f h : Label → ℕ) → low ≡ high → LeadsTo nodes low f →
    LeadsTo nodes high h → LeadsTo nodes low (either track f h)
choose-same nodes track low high f h same of_low of_high = record { there = of_low.there; leads = at }
  where
    at : (label : Label) → state_on (functions_of nodes) low label ≡ either track f h label
    at label = elim (cases_Bool (label track)) as (λ _. state_on (functions_of nodes) low label ≡ either track f h label) [
      | inl set ↦ ap (λ (t : Target). state_on (functions_of nodes) t label) same ∙ of_high.leads label
          ∙ sym (ap (λ (b : Bool). if b then h label else f label) set)
      | inr unset ↦ of_low.leads label ∙ sym (ap (λ (b : Bool). if b then h label else f label) unset)
    ]

node-leads : (nodes : List NodeLine) (node : NodeLine) (label : Label) →
    state_on (functions_of (nodes ++ node ∷ [])) (target.Node (suc (length nodes))) label ≡ node_function (functions_of nodes) node label
node-leads nodes node label =
    ap (λ (fs : List (Label → ℕ)). unwrap_or (slice_get fs (length nodes)) (λ l. 0) label) (meanings-push node_function nodes node)
    ∙ ap (λ (k : ℕ). unwrap_or (slice_get (functions_of nodes ++ node_function (functions_of nodes) node ∷ []) k) (λ l. 0) label)
    (sym (length-meanings node_function nodes))
    ∙ ap (λ (o : Option (Label → ℕ)). unwrap_or o (λ l. 0) label) (slice_get-last (functions_of nodes) (node_function (functions_of nodes) node))

-- a new node
pub choose-node : (old new : List NodeLine) (node : NodeLine) (number : ℕ) (f h : Label → ℕ) → new ≡ old ++ node ∷ [] → number ≡ length old + 1 →
    LeadsTo old node.low f → LeadsTo old node.high h → LeadsTo new (target.Node number) (either node.track f h)
choose-node old new node number f h is numbered of_low of_high =
    let next : suc (length old) ≡ number = omega (arith, numbered) in
    subst (λ (nodes : List NodeLine). LeadsTo nodes (target.Node number) (either node.track f h)) (sym is)
    (subst (λ (n : ℕ). LeadsTo (old ++ node ∷ []) (target.Node n) (either node.track f h)) next (record {
      there = (omega arith, omega (arith, length-append old (node ∷ [])));
      leads = λ label. node-leads old node label
          ∙ ap (λ (s : ℕ). if label node.track then s else state_on (functions_of old) node.low label) (of_high.leads label)
          ∙ ap (λ (s : ℕ). if label node.track then h label else s) (of_low.leads label);
    }))

-- ---- two tracks

abbrev pub chosen_at : Choice → ℕ → ℕ → Label → ℕ
chosen_at c x y label = chosen c (label x) (label y)

pub chosen-turned : (c : Choice) (x y : ℕ) (label : Label) →
    chosen_at (record c { second = c.first; first = c.second }) y x label ≡ chosen_at c x y label
chosen-turned c x y label = by (label x) (label y)
  where
    by : (a b : Bool) → chosen (record c { second = c.first; first = c.second }) b a ≡ chosen c a b
    by true true = refl
    by true false = refl
    by false true = refl
    by false false = refl

pub chosen-alone : (c : Choice) (x y : ℕ) (label : Label) → x ≡ y → (if label x then c.both else c.neither) ≡ chosen_at c x y label
chosen-alone c x y label same =
    by (label x) ∙ ap (λ (t : ℕ). chosen c (label x) (label t)) same
  where
    by : (a : Bool) → (if a then c.both else c.neither) ≡ chosen c a a
    by true = refl
    by false = refl
