-- On tables of sets: the value in the automaton that they lead to is where the set of the part's values goes, over all
-- that the dropped track may be.
use Rattle.std.proofs.Common.{◌≡◌, ℕ, zero, suc, ◌≤◌, max, true, false, IsTrue, ◌↔◌, List, Contains, [], ◌∷◌, refl, sym, ap, ◌∙◌, arith}
use Rattle.labels.specs.Labels.{empty_label}
use Rattle.gta_theory.specs.Assignments.{PositionSet, Assignment, IsFiniteSet, Covers, half, root_label, replace}
use Rattle.gta_theory.specs.Guides.{Spaces, IsSpace, IsGuide, left, right}
use Rattle.gta_theory.specs.Automata.{Automaton, value, IsStable, Accepts}
use Rattle.gta_theory.specs.Constructions.{Settled, IsStepOf}
use Rattle.gta_theory.proofs.AssignmentsLemmas.{Covers-half, Covers-more, Covers-replace, IsWithin-more}
use Rattle.gta_theory.proofs.AutomataLemmas.{Accepts-at}
use Rattle.gta_theory.proofs.SubsetLemmas.{Chosen}
use Rattle.ws2s_core.specs.declared.track.Track.{Track}
use Rattle.ws2s_core.specs.declared.formula.Formula.{Formula}
use Rattle.ws2s_core.specs.declared.formula.Formula.TheVariants.{Ex2}
use Rattle.ws2s_core.specs.Recognising.{Recognises}
use Rattle.ws2s_core.proofs.SatisfactionLemmas.{WSat-Ex2}
use Rattle.cert_theory.specs.Tables.{NamedSet, SetGoesTo, IsSetTable}
use Rattle.cert_theory.proofs.WaysLemmas.{chosen-step, chosen-settled, settled-chosen, step-settled, settled-step, IsStepOf-same}

-- a set of the table that goes to the value, and has exactly the states that A comes to by some set for the track
pub record IsValueSet (g : Spaces) (A C : Automaton ℕ) (t : ℕ) (table : List NamedSet) (s n : ℕ) (a : Assignment) : Type 0 where
  pub set : NamedSet
  pub listed : Contains table set
  pub in_space : set.space ≡ s
  pub is_value : set.state ≡ value g C s n a
  pub chosen : (q : ℕ) → Contains set.members q → Chosen g A t s n a q
  pub holds : (m : ℕ) (way : PositionSet) → n ≤ m → Contains set.members (value g A s m (replace a t way))

module _ (g : Spaces) (guide : IsGuide g) (A C : Automaton ℕ) (stable : IsStable g A) (t : ℕ) (table : List NamedSet)
    (is : IsSetTable g A t (Settled g A t) table C) where
  pub value-set : (n s : ℕ) (a : Assignment) → IsSpace g s → Covers n a → IsValueSet g A C t table s n a
  value-set zero s a there covers =
      let start = is.initial s there in
      record {
        set = start.set;
        listed = start.listed;
        in_space = start.in_space;
        is_value = start.is_state;
        chosen = λ q inside. chosen-settled g guide A stable t s q ((start.exactly q).0 inside) a covers;
        holds = λ m way deep. (start.exactly _).1 (settled-chosen g guide A stable t m s a way there covers);
      }
  value-set (suc n) s a there covers =
      let in_left = guide.left_inside s there in
      let in_right = guide.right_inside s there in
      let l = value-set n (left g s) (half false a) in_left (Covers-half n false a covers) in
      let r = value-set n (right g s) (half true a) in_right (Covers-half n true a covers) in
      let next = is.step s l.set r.set (root_label a) there l.listed r.listed l.in_space r.in_space in
      let come : (m : ℕ) (way : PositionSet) → suc n ≤ m → Contains (next.set).members (value g A s m (replace a t way)) =
      λ m way deep. holds-next n s a l r next m way deep in
      record {
        set = next.set;
        listed = next.listed;
        in_space = next.in_space;
        is_value = next.is_state ∙ (λ i. C.step s (l.is_value i) (r.is_value i) (root_label a));
        chosen = λ q inside.
            let h = (next.exactly q).0 inside in
            chosen-step g guide A stable t s n a h.left h.right q h.bit there covers h.is_step
            (l.chosen h.left h.in_left) (r.chosen h.right h.in_right);
        holds = come;
      }
    where
      holds-next : (n s : ℕ) (a : Assignment) (l : IsValueSet g A C t table (left g s) n (half false a))
          (r : IsValueSet g A C t table (right g s) n (half true a))
          (next : SetGoesTo table s (IsStepOf A t s (Contains (l.set).members) (Contains (r.set).members) (root_label a))
          (C.step s (l.set).state (r.set).state (root_label a))) (m : ℕ) (way : PositionSet) → suc n ≤ m →
          Contains (next.set).members (value g A s m (replace a t way))
      holds-next n s a l r next zero way deep = absurd (omega arith)
      holds-next n s a l r next (suc m) way deep = (next.exactly _).1 (record {
        left = value g A (left g s) m (half false (replace a t way));
        right = value g A (right g s) m (half true (replace a t way));
        bit = way [];
        in_left = l.holds m (λ p. way (false ∷ p)) (omega arith);
        in_right = r.holds m (λ p. way (true ∷ p)) (omega arith);
        is_step = refl;
      })

  IsStable-sets : IsStable g C
  IsStable-sets = record {
    at = λ s there.
        let in_left = guide.left_inside s there in
        let in_right = guide.right_inside s there in
        let start = is.initial s there in
        let l = is.initial (left g s) in_left in
        let r = is.initial (right g s) in_right in
        let next = is.step s l.set r.set empty_label there l.listed r.listed l.in_space r.in_space in
        let same : (q : ℕ) → Contains (next.set).members q ↔ Contains (start.set).members q = λ q. (
          (λ inside. (start.exactly q).1 (settled-step g guide A stable t s q there
              (IsStepOf-same A t s _ _ _ _ empty_label q (λ p. (l.exactly p).0) (λ p. (r.exactly p).0) ((next.exactly q).0 inside)))),
          (λ inside. (next.exactly q).1 (IsStepOf-same A t s _ _ _ _ empty_label q (λ p. (l.exactly p).1) (λ p. (r.exactly p).1)
              (step-settled g guide A stable t s q ((start.exactly q).0 inside)))),
        ) in
        (λ i. C.step s (sym l.is_state i) (sym r.is_state i) empty_label)
        ∙ sym next.is_state
        ∙ is.once next.set start.set next.listed start.listed (next.in_space ∙ sym start.in_space) same
        ∙ start.is_state;
  }

  -- it accepts exactly where some finite set for the dropped track is accepted
  Accepts-sets : (n : ℕ) (a : Assignment) → Covers n a →
      Accepts g C a ↔ ((way : PositionSet) × IsFiniteSet way × Accepts g A (replace a t way))
  Accepts-sets n a covers = (there, back)
    where
      there : Accepts g C a → (way : PositionSet) × IsFiniteSet way × Accepts g A (replace a t way)
      there accepts =
          let v = value-set n 0 a guide.not_empty covers in
          let at_n : IsTrue (C.accepting (v.set).state) =
          ap (λ q. C.accepting q) v.is_value ∙ Accepts-at g guide C IsStable-sets n a covers accepts in
          let some = (is.accepting v.set v.listed v.in_space).0 at_n in
          let c = v.chosen some.state some.inside in (
            c.set,
            (c.depth, c.within),
            record {
              depth = c.depth;
              covers = Covers-replace c.depth a t c.set (Covers-more n c.depth a c.deep covers) c.within;
              accepted = ap (λ q. A.accepting q) c.gives ∙ some.accepting;
            },
          )

      back : (way : PositionSet) × IsFiniteSet way × Accepts g A (replace a t way) → Accepts g C a
      back h =
          let inner = h.2 in
          let v = value-set n 0 a guide.not_empty covers in
          let m : ℕ = max n inner.depth in
          let in_m : Covers m (replace a t h.0) = Covers-more inner.depth m (replace a t h.0) (omega arith) inner.covers in
          record {
            depth = n;
            covers = covers;
            accepted = sym (ap (λ q. C.accepting q) v.is_value) ∙ (is.accepting v.set v.listed v.in_space).1 (record {
              state = value g A 0 m (replace a t h.0);
              inside = v.holds m h.0 (omega arith);
              accepting = Accepts-at g guide A stable m (replace a t h.0) in_m inner;
            });
          }

pub Recognises-sets : (g : Spaces) → IsGuide g → (A C : Automaton ℕ) (t : Track) (f : Formula) (table : List NamedSet) →
    Recognises g A f → IsSetTable g A t.0 (Settled g A t.0) table C → Recognises g C (Ex2 t f)
Recognises-sets g guide A C t f table of_A is = record {
  stable = IsStable-sets g guide A C of_A.stable t.0 table is;
  exactly = λ n a covers.
      let some = Accepts-sets g guide A C of_A.stable t.0 table is n a covers in (
        (λ k.
            let way = some.0 k in
            (WSat-Ex2 t f a).1 (way.0, way.1, (of_A.exactly (way.2).depth (replace a t.0 way.0) (way.2).covers).0 way.2)),
        (λ k.
            let way = (WSat-Ex2 t f a).0 k in
            let m : ℕ = max n (way.1).0 in
            let in_m : Covers m (replace a t.0 way.0) =
            Covers-replace m a t.0 way.0 (Covers-more n m a (omega arith) covers) (IsWithin-more (way.1).0 m way.0 (omega arith) (way.1).1) in
            some.1 (way.0, way.1, (of_A.exactly m (replace a t.0 way.0) in_m).1 way.2)),
      );
}
