-- Assertions in code.
use Rattle.std.proofs.Common.{◌≡◌, ℕ, ◌+◌, ◌==◌, Bool, true, List, Some, Result, Ok, Err, OnOk, if◌then◌else◌, sym, ap, ◌∙◌}
use Rattle.store_core.specs.Tables.{TypeEntry, VarEntry}
use Rattle.store_logic.specs.declared.assertion.Assertion.{Assertion}
use Rattle.store_exec.specs.declared.cause.Cause.TheVariants as cause
use Rattle.ws2s_core.specs.declared.formula.Formula.{Formula}
use Rattle.ws2s_core.specs.declared.formula.Formula.TheVariants.{And, Not}
use Rattle.graph_view.specs.declared.view.View.{View}
use Rattle.graph_view.specs.Sights.{sight_of}
use Rattle.site_list.specs.States.{State, guard}
use Rattle.site_list.specs.Claims.{assertion}
use Rattle.site_list.specs.Acts.{asserted}
use Rattle.symbolic_steps.specs.declared.walker.Walker.{Walker}
use Rattle.symbolic_steps.specs.Shown.{shown, checked}
use Rattle.symbolic_steps.proofs.ShownLemmas.{step-checked}

-- another fact of what comes out
pub on_ok_then : {A E P Q : Type 0} (r : Result A E) → (P → Q) → OnOk r P → OnOk r Q
on_ok_then (Ok x) f h = f h
on_ok_then (Err e) f h = tt

-- the place that is wanted was passed, and its formula is kept
pub place-found : (w0 w1 w2 : Walker) (here : Bool) (reached formula : Formula) (says : View → Formula) → here ≡ true →
    (here ≡ (w0.passed == w0.wanted)) × (w1 ≡ record w0 { passed = w0.passed + 1 }) → formula ≡ says w1.view →
    w2 ≡ record w1 { found = Some (And reached formula) } → w2 ≡ checked reached (says w0.view) w0
place-found w0 w1 w2 here reached formula says is passes made found =
    found ∙ ap (λ (f : Formula). record w1 { found = Some (And reached f) }) made
    ∙ ap (λ (w : Walker). record w { found = Some (And reached (says w.view)) }) passes.1
    ∙ ap (λ (b : Bool). record w0 { passed = w0.passed + 1; found = if b then Some (And reached (says w0.view)) else w0.found }) (sym is ∙ passes.0)

module _ (types : List TypeEntry) (vars : List VarEntry) (next wanted : ℕ) where
  pub assertion-checked : (line : ℕ) (s : State) (w0 w1 : Walker) (a : Assertion) (reached : Formula) → reached ≡ guard s next → w0 ≡ shown next wanted s →
      w1 ≡ checked reached (Not (assertion types (sight_of vars w0.view) w0.view.vars a w0.view.next)) w0 →
      w1 ≡ shown next wanted (asserted types vars line a s)
  assertion-checked line s w0 w1 a reached reaches is made =
      step-checked vars next wanted line cause.Assert (guard s) s w0 w1 reached (λ seen values n. Not (assertion types seen values a n)) reaches is made
