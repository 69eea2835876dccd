-- On tracks that are eliminated.
use Rattle.std.proofs.Common.{◌≡◌, ℕ, max, ◌↔◌, ◌⊎◌, inl, inr, Bool, true, false, List, [], ◌∷◌, ◌++◌, Contains, cond}
use Rattle.std.proofs.Common.{refl, sym, ap, subst, ◌∙◌, arith}
use Rattle.std.proofs.lemmas.Bool.{false≢true}
use Rattle.std.proofs.Common.{eqb, eq-eqb}
use Rattle.std.proofs.lemmas.List.Elements.{All-nil, All-cons, All-head}
use Rattle.gta_theory.specs.Assignments.{Position, PositionSet, Assignment, IsFinite, Covers, replace}
use Rattle.gta_theory.specs.Weights.{weight}
use Rattle.gta_theory.proofs.AssignmentsLemmas.{Covers-more, Covers-finite, replace-other}
use Rattle.gta_theory.proofs.ListsLemmas.{Contains-none, Contains-cases, All-from_contains}
use Rattle.gta_theory.proofs.WeightsLemmas.{weight-le, weight-same}
use Rattle.ws2s_core.specs.declared.track.Track.{Track}
use Rattle.ws2s_core.specs.declared.formula.Formula.{Formula}
use Rattle.ws2s_core.specs.declared.formula.Formula.TheVariants.{Ex2}
use Rattle.ws2s_core.specs.Satisfaction.{WSat}
use Rattle.ws2s_core.specs.Tracks.{IsFree}
use Rattle.ws2s_core.proofs.SatisfactionLemmas.{WSat-Ex2}
use Rattle.ws2s_core.proofs.TracksLemmas.{WSat-free}
use Rattle.ws2s_theory.specs.Contexts.{SatisfiesAll}
use Rattle.ws2s_theory.proofs.ContextsLemmas.{IsFinite-replace, WSat-quantified}
use Rattle.ws2s_network.specs.Network.{Agree, DependOn, IsEliminated, AreEliminated, AreSame, tracks_of, HaveNoModel, HaveBound}

-- ---- what formulas depend on

pub DependOn-formula : (on : ℕ → Type 0) (f : Formula) → ((t : ℕ) → IsFree t f → on t) → DependOn on (f ∷ [])
DependOn-formula on f all a b finite_a finite_b agree sat =
    All-cons (λ c. WSat c b) f []
    ((WSat-free f a b (λ t free i p. agree t p (all t free) i)).0 (All-head (λ c. WSat c a) f [] sat))
    (All-nil (λ c. WSat c b))

DependOn-each : (t : ℕ) (others : List Formula) → ((f : Formula) → Contains others f → IsFree t f → ⊥) → DependOn (λ u. u ≡ t → ⊥) others
DependOn-each t others lack a b finite_a finite_b agree sat =
    All-from_contains (λ c. WSat c b) others (λ f there.
    (WSat-free f a b (λ u free i p. agree u p (λ same. lack f there (subst (λ v. IsFree v f) same free)) i)).0
    (subst (λ c. WSat c a) there.2 (sat there.0 f there.1)))

agree-replaced : (a : Assignment) (t : ℕ) (set : PositionSet) → Agree (λ u. u ≡ t → ⊥) a (replace a t set)
agree-replaced a t set u p other = sym (ap (λ (s : PositionSet). s p) (replace-other a t u set other))

-- with one set on the track, what agrees elsewhere agrees
both-replaced : (a b : Assignment) (t : ℕ) (set : PositionSet) (u : ℕ) (p : Position) → ((u ≡ t → ⊥) → a u p ≡ b u p) →
    replace a t set u p ≡ replace b t set u p
both-replaced a b t set u p agree = pick (eqb u t) refl
  where
    pick : (c : Bool) → eqb u t ≡ c → cond c (set p) (a u p) ≡ cond c (set p) (b u p)
    pick true e = refl
    pick false e = agree (λ same. false≢true (sym e ∙ eq-eqb u t same))

-- ---- one track

pub IsEliminated-parts : (t : Track) (bucket : Formula) (fs others rest : List Formula) →
    ((a : Assignment) → IsFinite a → SatisfiesAll fs a ↔ (WSat bucket a × SatisfiesAll others a)) →
    ((f : Formula) → Contains others f → IsFree t.0 f → ⊥) →
    ((a : Assignment) → IsFinite a → SatisfiesAll rest a ↔ (WSat (Ex2 t bucket) a × SatisfiesAll others a)) →
    IsEliminated t.0 bucket fs rest
IsEliminated-parts t bucket fs others rest is_fs lack is_rest = record {
  satisfies = λ a finite sat. (let both = (is_fs a finite).0 sat in (is_rest a finite).1 (WSat-quantified t bucket a finite both.0, both.1));
  has_value = λ a finite sat. (WSat-Ex2 t bucket a).0 ((is_rest a finite).0 sat).0;
  completes = λ a finite sat with. (is_fs a finite).1 (with, ((is_rest a finite).0 sat).1);
  unbound = λ a b finite_a finite_b agree sat.
      (let both = (is_rest a finite_a).0 sat in
      (is_rest b finite_b).1 (requantified a b agree both.0, DependOn-each t.0 others lack a b finite_a finite_b agree both.1));
}
  where
    requantified : (a b : Assignment) → Agree (λ u. u ≡ t.0 → ⊥) a b → WSat (Ex2 t bucket) a → WSat (Ex2 t bucket) b
    requantified a b agree sat =
        let (set, finite, with) = (WSat-Ex2 t bucket a).0 sat in
        (WSat-Ex2 t bucket b).1
        (set, finite, (WSat-free bucket (replace a t.0 set) (replace b t.0 set) (λ u free i p. both-replaced a b t.0 set u p (agree u p) i)).0 with)

DependOn-one : (known on : ℕ → Type 0) (t : ℕ) (bucket : Formula) (fs rest : List Formula) → IsEliminated t bucket fs rest →
    ((u : ℕ) → on u → known u ⊎ (u ≡ t)) → DependOn on fs → DependOn known rest
DependOn-one known on t bucket fs rest one cover depend a b finite_a finite_b agree sat =
    let (set, bounded, with) = one.has_value a finite_a sat in
    let in_a : IsFinite (replace a t set) = IsFinite-replace a t set finite_a bounded in
    let in_b : IsFinite (replace b t set) = IsFinite-replace b t set finite_b bounded in
    let sat_a = one.completes (replace a t set) in_a (one.unbound a (replace a t set) finite_a in_a (agree-replaced a t set) sat) with in
    let sat_b = depend (replace a t set) (replace b t set) in_a in_b (together set) sat_a in
    one.unbound (replace b t set) b in_b finite_b (λ u p other. sym (agree-replaced b t set u p other))
    (one.satisfies (replace b t set) in_b sat_b)
  where
    together : (set : PositionSet) → Agree on (replace a t set) (replace b t set)
    together set u p there = both-replaced a b t set u p (λ other. elim (cover u there) as (λ _. a u p ≡ b u p) [
      | inl k ↦ agree u p k
      | inr same ↦ absurd (other same)
    ])

-- ---- many tracks

module _ (weighed : List ℕ) where
  pub AreEliminated-more : (gone : List (ℕ × Formula)) (t : ℕ) (bucket : Formula) (fs between rest : List Formula) →
      AreEliminated weighed gone fs between → (Contains weighed t → ⊥) → IsEliminated t bucket between rest →
      AreEliminated weighed (gone ++ (t, bucket) ∷ []) fs rest
  AreEliminated-more [] t bucket fs between rest same unweighed one = (rest, unweighed, earlier, λ a finite. (λ sat. sat, λ sat. sat))
    where
      earlier : IsEliminated t bucket fs rest
      earlier = record {
        satisfies = λ a finite sat. one.satisfies a finite ((same a finite).0 sat);
        has_value = one.has_value;
        completes = λ a finite sat with. (same a finite).1 (one.completes a finite sat with);
        unbound = one.unbound;
      }
  AreEliminated-more (other ∷ gone) t bucket fs between rest (next, free, first, more) unweighed one =
      (next, free, first, AreEliminated-more gone t bucket next between rest more unweighed one)

  pub AreEliminated-last : (gone : List (ℕ × Formula)) (t : ℕ) (bucket : Formula) (fs rest : List Formula) →
      AreEliminated weighed (gone ++ (t, bucket) ∷ []) fs rest →
      (between : List Formula) × AreEliminated weighed gone fs between × (Contains weighed t → ⊥) × IsEliminated t bucket between rest
  AreEliminated-last [] t bucket fs rest (next, unweighed, first, same) = (fs, (λ a finite. (λ sat. sat, λ sat. sat)), unweighed, later)
    where
      later : IsEliminated t bucket fs rest
      later = record {
        satisfies = λ a finite sat. (same a finite).0 (first.satisfies a finite sat);
        has_value = λ a finite sat. first.has_value a finite ((same a finite).1 sat);
        completes = λ a finite sat with. first.completes a finite ((same a finite).1 sat) with;
        unbound = λ a b finite_a finite_b agree sat. (same b finite_b).0 (first.unbound a b finite_a finite_b agree ((same a finite_a).1 sat));
      }
  AreEliminated-last (other ∷ gone) t bucket fs rest (next, free, first, more) =
      (let (between, are, unweighed, one) = AreEliminated-last gone t bucket next rest more in (between, (next, free, first, are), unweighed, one))

  pub AreEliminated-same : (gone : List (ℕ × Formula)) (fs between rest : List Formula) → AreEliminated weighed gone fs between →
      AreSame between rest → AreEliminated weighed gone fs rest
  AreEliminated-same [] fs between rest same then = λ a finite. (
    (λ sat. (then a finite).0 ((same a finite).0 sat)),
    (λ sat. (same a finite).1 ((then a finite).1 sat)),
  )
  AreEliminated-same (other ∷ gone) fs between rest (next, free, first, more) then =
      (next, free, first, AreEliminated-same gone next between rest more then)

  pub AreEliminated-satisfies : (gone : List (ℕ × Formula)) (fs rest : List Formula) (a : Assignment) → AreEliminated weighed gone fs rest →
      IsFinite a → SatisfiesAll fs a → SatisfiesAll rest a
  AreEliminated-satisfies [] fs rest a same finite sat = (same a finite).0 sat
  AreEliminated-satisfies (one ∷ gone) fs rest a (next, free, first, more) finite sat =
      AreEliminated-satisfies gone next rest a more finite (first.satisfies a finite sat)

  pub HaveNoModel-eliminated : (gone : List (ℕ × Formula)) (fs rest : List Formula) → AreEliminated weighed gone fs rest → HaveNoModel rest →
      HaveNoModel fs
  HaveNoModel-eliminated gone fs rest are none n a covers sat =
      none n a covers (AreEliminated-satisfies gone fs rest a are (Covers-finite n a covers) sat)

  pub HaveBound-eliminated : (gone : List (ℕ × Formula)) (fs rest : List Formula) (w : ℕ) → AreEliminated weighed gone fs rest →
      HaveBound weighed rest w → HaveBound weighed fs w
  HaveBound-eliminated gone fs rest w are bound n a covers sat =
      bound n a covers (AreEliminated-satisfies gone fs rest a are (Covers-finite n a covers) sat)

  -- what is left depends on
  pub DependOn-left : (known on : ℕ → Type 0) (gone : List (ℕ × Formula)) (fs rest : List Formula) → AreEliminated weighed gone fs rest →
      ((u : ℕ) → on u → known u ⊎ Contains (tracks_of gone) u) → DependOn on fs → DependOn known rest
  DependOn-left known on [] fs rest same cover depend = λ a b finite_a finite_b agree sat.
      (same b finite_b).0 (depend a b finite_a finite_b
      (λ u p there. elim (cover u there) as (λ _. a u p ≡ b u p) [ inl k ↦ agree u p k | inr h ↦ absurd (Contains-none u h) ])
      ((same a finite_a).1 sat))
  DependOn-left known on (one ∷ gone) fs rest (next, free, first, more) cover depend =
      DependOn-left known (λ u. known u ⊎ Contains (tracks_of gone) u) gone next rest more (λ u h. h)
      (DependOn-one (λ u. known u ⊎ Contains (tracks_of gone) u) on one.0 one.1 fs next first
      (λ u there. elim (cover u there) as (λ _. (known u ⊎ Contains (tracks_of gone) u) ⊎ (u ≡ one.0)) [
        | inl k ↦ inl (inl k)
        | inr h ↦ elim (Contains-cases one.0 u (tracks_of gone) h) as (λ _. (known u ⊎ Contains (tracks_of gone) u) ⊎ (u ≡ one.0)) [
          | inl same ↦ inr (sym same)
          | inr later ↦ inl (inr later)
        ]
      ]) depend)

-- ---- values

pub value-some : (t : ℕ) (bucket : Formula) (fs rest : List Formula) (a : Assignment) → IsEliminated t bucket fs rest → IsFinite a →
    SatisfiesAll rest a → (b : Assignment) × IsFinite b × Agree (λ u. u ≡ t → ⊥) a b × WSat bucket b
value-some t bucket fs rest a one finite sat =
    let (set, bounded, with) = one.has_value a finite sat in
    (replace a t set, IsFinite-replace a t set finite bounded, agree-replaced a t set, with)

pub value-found : (on : ℕ → Type 0) (t : ℕ) (bucket : Formula) (fs rest : List Formula) (a b : Assignment) → IsEliminated t bucket fs rest →
    DependOn on rest → IsFinite a → IsFinite b → Agree on a b → SatisfiesAll rest a → WSat bucket b → SatisfiesAll fs b
value-found on t bucket fs rest a b one depend finite_a finite_b agree sat with =
    one.completes b finite_b (depend a b finite_a finite_b agree sat) with

pub weight-agree : (weighed : List ℕ) (n m : ℕ) (a b : Assignment) → Covers n a → Covers m b → Agree (Contains weighed) a b →
    weight weighed m b ≡ weight weighed n a
weight-agree weighed n m a b in_n in_m agree =
    let k : ℕ = max n m in
    let up = weight-le weighed k a b (λ t p listed h. sym (agree t p listed) ∙ h) in
    let down = weight-le weighed k b a (λ t p listed h. agree t p listed ∙ h) in
    let a_k = weight-same weighed n k a in_n (Covers-more n k a (omega arith) in_n) in
    let b_k = weight-same weighed m k b in_m (Covers-more m k b (omega arith) in_m) in
    omega (arith, up, down, a_k, b_k)
