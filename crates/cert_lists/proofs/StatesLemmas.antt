-- Pairs and sets of states that are there, with one more at their ends.
use Rattle.std.proofs.Common.{◌≡◌, inl, inr, List, [], ◌∷◌, ◌++◌, Contains, slice_get, Some, ℕ, sym, subst}
use Rattle.gta_theory.proofs.ListsLemmas.{Contains-none}
use Rattle.cert_nodes.proofs.WalksLemmas.{last, push-cases}
use Rattle.cert_text.specs.declared.line.PairLine.{PairLine}
use Rattle.cert_text.specs.declared.line.SetLine.{SetLine}
use Rattle.cert_tables.specs.declared.table.Table.{Table}
use Rattle.cert_tables.specs.Orders.{ArePairsInOrder, AreSetsInOrder}
use Rattle.cert_tables.specs.SetKeys.{AreSets}
use Rattle.cert_lists.specs.States.{HasStates, ArePairsOf, HasMembers, AreSetsOf}

module _ (a b c : Table) where
  pub pairs-none : ArePairsOf a b c []
  pairs-none = record { states = λ line listed. absurd (Contains-none line listed); in_order = λ k x y at next. absurd cc }

  pub pairs-push : (pairs : List PairLine) (line : PairLine) → ArePairsOf a b c pairs → HasStates a b c line → ArePairsInOrder (pairs ++ line ∷ []) →
      ArePairsOf a b c (pairs ++ line ∷ [])
  pairs-push pairs line are here in_order = record {
    states = λ other listed. elim (push-cases pairs line other listed) as (λ _. HasStates a b c other) [
      | inl before ↦ are.states other before
      | inr is ↦ subst (HasStates a b c) is here
    ];
    in_order = in_order;
  }

  pub pairs-last : (pairs : List PairLine) (line : PairLine) → ArePairsOf a b c (pairs ++ line ∷ []) → HasStates a b c line
  pairs-last pairs line are = are.states line (last pairs line)

module _ (a c : Table) where
  pub sets-none : (sets : List SetLine) → sets ≡ [] → AreSets sets → AreSetsOf a c sets
  sets-none sets none once = record {
    states = λ line listed. absurd (Contains-none line (subst (λ (l : List SetLine). Contains l line) none listed));
    in_order = λ k x y at next. absurd (absent k x (subst (λ (l : List SetLine). slice_get l k ≡ Some x) none at));
    once = once;
  }
    where
      absent : (k : ℕ) (x : SetLine) → slice_get [] k ≡ Some x → ⊥
      absent k x at = absurd cc

  pub sets-push : (sets new : List SetLine) (line : SetLine) → AreSetsOf a c sets → HasMembers a c line → AreSetsInOrder (sets ++ line ∷ []) →
      new ≡ sets ++ line ∷ [] → AreSets new → AreSetsOf a c new
  sets-push sets new line are here in_order is once = record {
    states = λ other listed. elim (push-cases sets line other (subst (λ (l : List SetLine). Contains l other) is listed)) as (λ _. HasMembers a c other) [
      | inl before ↦ are.states other before
      | inr same ↦ subst (HasMembers a c) same here
    ];
    in_order = subst AreSetsInOrder (sym is) in_order;
    once = once;
  }
