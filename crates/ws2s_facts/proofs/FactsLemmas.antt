-- On what is known of formulas.
use Rattle.std.proofs.Common.{◌≡◌, ℕ, Bool, true, false, List, refl, sym, ap, ◌∙◌, nat_eq}
use Rattle.std.proofs.lemmas.Bool.{false≢true}
use Rattle.std.proofs.Common.{subst, ◌||◌, Option, Some, None, Result, Ok, Err, IfOk, IfSome}
use Rattle.std.specs.HashSet.{HashSet, contains}
use Rattle.std.specs.declared.hash.BuildHasherDefault.{BuildHasherDefault}
use Rattle.std.specs.declared.hash.FoldHasher.{FoldHasher}
use Rattle.ws2s_core.specs.declared.formula.Formula.TheFolds.{map-Formula, fold-roll-Formula}
use Rattle.std.proofs.Common.{option_map, slice_get}
use Rattle.std.proofs.lemmas.Option.{slice_get_within}
use Rattle.ws2s_core.proofs.NodesLemmas.{formula_at-is}
use Rattle.ws2s_core.specs.declared.node.FormulaId.{FormulaId}
use Rattle.ws2s_core.specs.declared.node.Node.{Node}
use Rattle.ws2s_core.specs.Nodes.{form_of, formula_at, formula_of_node}
use Rattle.ws2s_core.specs.declared.formula.Formula.{Formula}
use Rattle.ws2s_core.specs.Tracks.{is_free, is_free_in_node, IsFree}
use Rattle.ws2s_facts.specs.declared.facts.Fact.{Fact}
use Rattle.ws2s_facts.specs.Conjuncts.{formula_of}
use Rattle.std.proofs.lemmas.List.Elements.{All-weaker}
use Rattle.ws2s_core.specs.Nodes.{Extends}
use Rattle.ws2s_facts.specs.Facts.{IsFact, AreFacts, Finds}
use Rattle.ws2s_facts.proofs.ConjunctsLemmas.{at-extends, there-extends}

-- a track that the fact hasn't isn't free
pub IsFact-lacks : (formulas : List Formula) (fact : Fact) (t : ℕ) → IsFact formulas fact → contains nat_eq fact.tracks t ≡ false →
    IsFree t (formula_of formulas fact.id) → ⊥
IsFact-lacks formulas fact t h none free = false≢true (sym none ∙ h.free t ∙ free)

-- facts stay with more formulas
pub AreFacts-extends : (old new : List Formula) (facts : List Fact) → Extends old new → AreFacts old facts → AreFacts new facts
AreFacts-extends old new facts h all = All-weaker (IsFact old) (IsFact new) (λ fact was. record {
  there = there-extends old new fact.id h was.there;
  free = λ t. was.free t ∙ ap (is_free t) (sym (at-extends old new fact.id h was.there));
}) facts all

-- what is found says more
pub found-weaker : {A E : Type 0} (P Q : A → Type 0) → ((x : A) → P x → Q x) → (r : Result (Option A) E) → IfOk r (λ o. IfSome o P) → IfOk r (λ o. IfSome o Q)
found-weaker P Q h (Ok (Some x)) p = h x p
found-weaker P Q h (Ok None) p = p
found-weaker P Q h (Err e) p = p

-- which tracks are free in a node's formula
pub free-node : (formulas : List Formula) (t : ℕ) (node node' : Node) → node ≡ node' →
    is_free_in_node t (map-Formula Formula Bool (is_free t) (map-Formula ℕ Formula (formula_at formulas) (form_of node'))) ≡ is_free t
    (formula_of_node formulas node)
free-node formulas t node node' e =
    sym (fold-roll-Formula Bool (is_free_in_node t) (map-Formula ℕ Formula (formula_at formulas) (form_of node')))
    ∙ ap (λ n. is_free t (formula_of_node formulas n)) (sym e)

module _ (facts : List Fact) (node node' : Node) (e : node ≡ node') where
  pub Finds-node : (free : List Formula → ℕ → Bool) (tracks : HashSet ℕ (BuildHasherDefault FoldHasher)) →
      ((formulas : List Formula) (t : ℕ) → free formulas t ≡ is_free_in_node t
      (map-Formula Formula Bool (is_free t) (map-Formula ℕ Formula (formula_at formulas) (form_of node')))) →
      Finds facts free tracks → Finds facts (λ formulas t. is_free t (formula_of_node formulas node)) tracks
  Finds-node free tracks same found = record {
    exactly = λ formulas known t. found.exactly formulas known t ∙ same formulas t ∙ free-node formulas t node node' e;
  }

pub same-twice : (b : Bool) → b || b ≡ b
same-twice true = refl
same-twice false = refl

pub free-of : (formulas : List Formula) (fact : Fact) (id : FormulaId) (t : ℕ) → IsFact formulas fact → fact.id ≡ id →
    contains nat_eq fact.tracks t ≡ is_free t (formula_of formulas id)
free-of formulas fact id t known e = known.free t ∙ ap (λ (i : FormulaId). is_free t (formula_of formulas i)) e

-- one more fact
pub AreFacts-push : (formulas : List Formula) (facts : List Fact) (node : Node) (fact : Fact) → option_map (formula_of_node formulas) (Some node) ≡
    slice_get formulas fact.id.0 →
    Finds facts (λ fs t. is_free t (formula_of_node fs node)) fact.tracks → AreFacts formulas facts → IsFact formulas fact
AreFacts-push formulas facts node fact value found known = record {
  there = slice_get_within formulas fact.id.0 (formula_of_node formulas node) (sym value);
  free = λ t. found.exactly formulas known t ∙ ap (is_free t) (sym (formula_at-is formulas fact.id.0 (formula_of_node formulas node) (sym value)));
}

pub found-some : {A : Type 0} (P : A → Type 0) (o : Option A) (x : A) → o ≡ Some x → IfSome o P → P x
found-some P o x e h = subst (λ (v : Option _). IfSome v P) e h
