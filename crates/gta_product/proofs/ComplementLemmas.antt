-- The automaton with the other states accepting.
use Rattle.std.proofs.Common.{◌≡◌, ℕ, zero, suc, ◌<◌, Bool, false, not, List, [], ◌∷◌, map, length, slice_get, ◌↔◌, refl, subst, arith}
use Rattle.std.specs.Prelude.{unwrap_or}
use Rattle.std.proofs.lemmas.Bool.{ltb-true}
use Rattle.bdd_nodes.specs.Shelf.{Contents}
use Rattle.gta_theory.specs.Assignments.{Assignment, Covers}
use Rattle.gta_theory.specs.Guides.{Spaces, IsGuide}
use Rattle.gta_theory.specs.Automata.{Accepts}
use Rattle.gta_theory.specs.Constructions.{complement, IsClosed}
use Rattle.gta_theory.specs.Numbered.{Below}
use Rattle.gta_theory.proofs.AutomataLemmas.{Accepts-named, Accepts-complement}
use Rattle.gta_core.specs.Auto.{AutoView, states_of, root_at, automaton_of, IsAuto, IsWhole}
use Rattle.gta_product.specs.Complement.{IsComplement}

accepting-not : (xs : List Bool) (q : ℕ) → q < length xs → unwrap_or (slice_get (map not xs) q) false ≡ not (unwrap_or (slice_get xs q) false)
accepting-not [] q within = absurd (omega arith)
accepting-not (x ∷ xs) zero within = refl
accepting-not (x ∷ xs) (suc q) within = accepting-not xs q (omega arith)

module _ (a : AutoView) (whole : IsWhole a) where
  abbrev pub turned : AutoView
  turned = record { table = a.table; parts = a.parts; accepting = map not a.accepting }

  pub IsComplement-turned : (shelf : Contents) → IsComplement (automaton_of shelf a) (automaton_of shelf turned) (states_of a 0)
  unfolding automaton_of root_at
  IsComplement-turned shelf = record {
    initial = λ s. refl;
    step = λ s p q label. refl;
    accepting = λ q within. accepting-not a.accepting q (let e = whole.accepting in omega arith);
  }

  pub IsAuto-turned : (g : Spaces) (shelf : Contents) → IsAuto g shelf a → IsAuto g shelf turned
  unfolding automaton_of root_at
  IsAuto-turned g shelf auto = record {
    over = auto.over;
    registered = auto.registered;
    complete = auto.complete;
    used = λ place some. let u = auto.used place some in record { space = u.space; left = u.left; right = u.right; there = u.there };
    closed = record { initial = auto.closed.initial; step = auto.closed.step };
    stable = record { at = auto.stable.at };
  }

  IsClosed-turned : (g : Spaces) (shelf : Contents) → IsAuto g shelf a → IsClosed g (automaton_of shelf turned) (Below (states_of a))
  unfolding automaton_of root_at
  IsClosed-turned g shelf auto = record { initial = auto.closed.initial; step = auto.closed.step }

  pub Accepts-turned : (g : Spaces) (shelf : Contents) → IsAuto g shelf a → (depth : ℕ) (x : Assignment) → Covers depth x →
      Accepts g (automaton_of shelf turned) x ↔ (¬ Accepts g (automaton_of shelf a) x)
  Accepts-turned g shelf auto depth x covers =
      let guide : IsGuide g = subst IsGuide auto.over whole.guide in
      let is = IsComplement-turned shelf in
      let named : Accepts g (automaton_of shelf turned) x ↔ Accepts g (complement (automaton_of shelf a)) x =
      Accepts-named g guide (automaton_of shelf turned) (Below (states_of a)) (complement (automaton_of shelf a)) (λ s q. q)
      (IsClosed-turned g shelf auto)
      (record {
        initial = λ s inside. is.initial s;
        step = λ s p q label inside in_left in_right. is.step s p q label;
        accepting = λ q there. is.accepting q (ltb-true q (states_of a 0) there);
      }) x in
      let others = Accepts-complement g guide (automaton_of shelf a) auto.stable depth x covers in
      (λ accepted. others.0 (named.0 accepted), λ refused. named.1 (others.1 refused))
