-- Triples fail alike from two stores that are the same but for the names of their cells.
use Rattle.std.proofs.Common.{inl, inr, ℕ, List, [], ◌∷◌, map, sym, subst}
use Rattle.store_core.specs.declared.ids.CellId.{CellId}
use Rattle.store_core.specs.Tables.{TypeEntry, VarEntry}
use Rattle.store_core.specs.Stores.{StoreMap}
use Rattle.routing_walks.specs.Pairing.{IsPair, ArePaired}
use Rattle.routing_walks.proofs.DecidedLemmas.{in_none, in_first, in_rest, in_cases}
use Rattle.routing_walks.proofs.PairLemmas.{turn, ArePaired-turned}
use Rattle.store_exec.specs.declared.cause.Cause.{Cause}
use Rattle.store_exec.specs.declared.outcome.Outcome.TheVariants as outcome
use Rattle.store_exec.specs.declared.triple.Triple.{Triple}
use Rattle.store_exec.specs.Runs.{RunsCode}
use Rattle.store_exec.specs.Failing.{FailsAtCut, Fails}
use Rattle.store_exec.specs.Renamed.{AreRenamed, with_new}
use Rattle.store_exec.proofs.RenamedChanges.{entry_grown, vars_grown}
use Rattle.store_exec.proofs.RenamedRuns.{code-renamed, OtherOutcome}
use Rattle.store_exec.proofs.RenamedCuts.{IsFirstCause-to}

module _ (types : List TypeEntry) (vars : List VarEntry) (pairs : List (CellId × CellId)) (s t : StoreMap) (h : AreRenamed pairs s t)
    (triple : Triple) (why : Cause) (line : ℕ) where
  fails-there : OtherOutcome types pairs s t triple.code (outcome.Fail why line) → RunsCode types triple.code t (outcome.Fail why line)
  fails-there (outcome.End place next, runs, k) = absurd k
  fails-there (outcome.Fail other at, runs, k) = subst (λ w. RunsCode types triple.code t (outcome.Fail w line)) (sym k.0)
      (subst (λ n. RunsCode types triple.code t (outcome.Fail other n)) (sym k.1) runs)

  at-cut-there : (f : FailsAtCut types vars triple s why line) → OtherOutcome types pairs s t triple.code (outcome.End f.place f.store) →
      FailsAtCut types vars triple t why line
  at-cut-there f (outcome.Fail other at, runs, k) = absurd k
  at-cut-there f (outcome.End place next, runs, k) = record {
    place = f.place;
    cut = f.cut;
    store = next;
    ends = subst (λ n. RunsCode types triple.code t (outcome.End n next)) (sym k.0) runs;
    there = f.there;
    first = IsFirstCause-to types vars (IsPair (with_new pairs s.next t.next k.1.made)) f.store next k.1.renamed.paired f.cut why f.first;
    at_line = f.at_line;
  }

  pub Fails-to : Fails types vars triple s why line → Fails types vars triple t why line
  Fails-to (inl runs) = inl (fails-there (code-renamed types triple.code pairs s t h (outcome.Fail why line) runs))
  Fails-to (inr f) = inr (at-cut-there f (code-renamed types triple.code pairs s t h (outcome.End f.place f.store) f.ends))

-- ---- the pairs the other way about

pub swapped : List (CellId × CellId) → List (CellId × CellId)
swapped = map (λ pair. (pair.1, pair.0))

swap-in : (pairs : List (CellId × CellId)) (c d : CellId) → IsPair pairs c d → IsPair (swapped pairs) d c
unfolding swapped
swap-in [] c d p = absurd (in_none (c, d) p)
swap-in (pair ∷ pairs) c d p = elim (in_cases pair (c, d) pairs p) [
  | inl same ↦ subst (λ (x : CellId × CellId). IsPair (swapped (pair ∷ pairs)) x.1 x.0) same (in_first (pair.1, pair.0) (swapped pairs))
  | inr rest ↦ in_rest (pair.1, pair.0) (d, c) (swapped pairs) (swap-in pairs c d rest)
]

swap-out : (pairs : List (CellId × CellId)) (c d : CellId) → IsPair (swapped pairs) d c → IsPair pairs c d
unfolding swapped
swap-out [] c d p = absurd (in_none (d, c) p)
swap-out (pair ∷ pairs) c d p = elim (in_cases (pair.1, pair.0) (d, c) (swapped pairs) p) [
  | inl same ↦ subst (λ (x : CellId × CellId). IsPair (pair ∷ pairs) x.1 x.0) same (in_first pair pairs)
  | inr rest ↦ in_rest pair (c, d) pairs (swap-out pairs c d rest)
]

pub swapped-renamed : (pairs : List (CellId × CellId)) (s t : StoreMap) → AreRenamed pairs s t → AreRenamed (swapped pairs) t s
swapped-renamed pairs s t h = record {
  paired = record {
    one = λ d b c p q. back.one d b c (swap-out pairs b d p) (swap-out pairs c d q);
    other = λ c d b p q. back.other c d b (swap-out pairs b c p) (swap-out pairs b d q);
    forth = λ d live. let c = back.forth d live in (c.0, swap-in pairs c.0 d c.1);
    back = λ c live. let d = back.back c live in (d.0, swap-in pairs c d.0 d.1);
    cells = λ d c p. entry_grown (turn (IsPair pairs)) (IsPair (swapped pairs)) (λ a b q. swap-in pairs b a q) _ _ (back.cells d c (swap-out pairs c d p));
    vars = vars_grown (turn (IsPair pairs)) (IsPair (swapped pairs)) (λ a b q. swap-in pairs b a q) t.vars s.vars back.vars;
  };
  below = λ d c p. let b = h.below c d (swap-out pairs c d p) in (b.1, b.0);
}
  where
    back : ArePaired (turn (IsPair pairs)) t s
    back = ArePaired-turned (IsPair pairs) s t h.paired
