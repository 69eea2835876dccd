-- On automata that stay, and on copies: what holds of the one holds of the other.
use Rattle.std.proofs.Common.{ℕ, sym, subst}
use mathlib.Core.Path.{fun_ext}
use Rattle.bdd_nodes.specs.Shelf.{Contents}
use Rattle.gta_theory.specs.Guides.{Spaces}
use Rattle.gta_theory.specs.Automata.{Automaton}
use Rattle.gta_theory.specs.Numbered.{Below}
use Rattle.gta_core.specs.Auto.{AutoView, states_of, automaton_of}
use Rattle.gta_core.specs.Changes.{KeepsTable}
use Rattle.gta_core.proofs.AutoLemmas.{automaton_of-kept}
use Rattle.ws2s_core.specs.declared.formula.Formula.{Formula}
use Rattle.ws2s_core.specs.Recognising.{IsMinimalOf}
use Rattle.gta_keep.specs.Holding.{IsCopy, IsMinimalFor}

pub IsMinimalFor-kept : (g : Spaces) (old new : Contents) (a : AutoView) (f : Formula) → KeepsTable old new a.table →
    IsMinimalFor g old a f → IsMinimalFor g new a f
IsMinimalFor-kept g old new a f keeps minimal =
    subst (λ (A : Automaton ℕ). IsMinimalOf g A (Below (states_of a)) f) (sym (automaton_of-kept old new a keeps)) minimal

pub IsMinimalFor-copy : (g : Spaces) (old new : Contents) (a c : AutoView) (f : Formula) → IsCopy old new a c →
    IsMinimalFor g old a f → IsMinimalFor g new c f
IsMinimalFor-copy g old new a c f copies minimal =
    subst (λ (A : Automaton ℕ). IsMinimalOf g A (Below (states_of c)) f) (sym copies.automaton)
    (subst (λ (count : ℕ → ℕ). IsMinimalOf g (automaton_of old a) (Below count) f) (sym (fun_ext copies.states)) minimal)
