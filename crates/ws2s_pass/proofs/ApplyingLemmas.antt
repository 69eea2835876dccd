-- On passes that run one after the other.
use Rattle.std.proofs.Common.{◌≡◌, ℕ, ◌<◌, suc, List, [], length, drop, get_or, refl, sym, subst, drop-cons}
use Rattle.ws2s_core.specs.declared.formula.Formula.{Formula}
use Rattle.ws2s_pass.specs.Applying.{LeadsTo}

module _ {Step : Type 0} (Makes : Step → Formula → Formula → Type 0) (steps : List Step) where
  -- where all steps are still to come
  pub LeadsTo-from : (f g : Formula) → f ≡ g → (last : Formula) → LeadsTo Makes (drop 0 steps) g last → LeadsTo Makes steps f last
  LeadsTo-from f g is last h = subst (λ k. LeadsTo Makes steps k last) (sym is) h

  -- one step more
  pub LeadsTo-next : (k next : ℕ) (d step : Step) (f g h : Formula) → k < length steps → next ≡ suc k → step ≡ get_or steps k d → Makes step g h →
      ((last : Formula) → LeadsTo Makes (drop k steps) g last → LeadsTo Makes steps f last) →
      (last : Formula) → LeadsTo Makes (drop next steps) h last → LeadsTo Makes steps f last
  LeadsTo-next k next d step f g h inside is_next is_step made so_far last rest =
      so_far last (subst (λ others. LeadsTo Makes others g last) (sym (drop-cons steps k d inside))
      (h, subst (λ s. Makes s g h) is_step made, subst (λ n. LeadsTo Makes (drop n steps) h last) is_next rest))

  -- where no step is left
  pub LeadsTo-end : (all : List Step) (k : ℕ) (f g : Formula) → steps ≡ all → drop k steps ≡ [] →
      ((last : Formula) → LeadsTo Makes (drop k steps) g last → LeadsTo Makes steps f last) → LeadsTo Makes all f g
  LeadsTo-end all k f g is none so_far = subst (λ others. LeadsTo Makes others f g) is
      (so_far g (subst (λ others. LeadsTo Makes others g g) (sym none) refl))
