-- On networks by numbers of formulas.
use Rattle.std.proofs.Common.{◌≡◌, ℕ, ◌≤◌, ◌↔◌, List, [], ◌∷◌, ◌++◌, length, All, Contains}
use Rattle.std.proofs.Common.{refl, sym, ap, ap₂, subst, ◌∙◌, arith}
use Rattle.std.proofs.Common.{Option, None, Some, IfSome, slice_get}
use Rattle.std.specs.List.{insert}
use Rattle.std.proofs.lemmas.List.{map-append, length-append}
use Rattle.std.proofs.lemmas.List.Elements.{All-nil, All-cons, All-head, All-tail, All-weaker}
use Rattle.gta_theory.specs.Assignments.{Assignment, IsFinite}
use Rattle.gta_theory.proofs.ListsLemmas.{Contains-mapped}
use Rattle.ws2s_core.specs.declared.track.Track.{Track}
use Rattle.ws2s_core.specs.declared.formula.Formula.{Formula}
use Rattle.ws2s_core.specs.declared.formula.Formula.TheVariants.{Ex2}
use Rattle.ws2s_core.specs.declared.node.FormulaId.{FormulaId}
use Rattle.ws2s_core.specs.Nodes.{Extends}
use Rattle.ws2s_core.specs.Satisfaction.{WSat}
use Rattle.ws2s_core.specs.Tracks.{IsFree}
use Rattle.ws2s_core.proofs.NodesLemmas.{at-formula_at, formula_at-is}
use Rattle.ws2s_theory.specs.Contexts.{SatisfiesAll}
use Rattle.ws2s_facts.specs.Conjuncts.{IsThere, formula_of, formulas_at}
use Rattle.ws2s_facts.proofs.ConjunctsLemmas.{All-contains, at-extends, there-extends, all_there-extends, formulas_at-extends}
use Rattle.ws2s_lean.specs.Conjunctions.{SatisfiesEach, IsConjunction, IsFolded}
use Rattle.ws2s_network.specs.Network.{IsEliminated, AreEliminated, AreSame}
use Rattle.ws2s_network.proofs.NetworkLemmas.{IsEliminated-parts, AreEliminated-more, AreEliminated-same}
use Rattle.ws2s_plan.specs.declared.network.Elimination.{Elimination}
use Rattle.ws2s_plan.specs.declared.eliminating.Parted.{Parted}
use Rattle.ws2s_plan.specs.declared.eliminating.Eliminated.{Eliminated}
use Rattle.ws2s_plan.specs.declared.planning.Planning.{Planning}
use Rattle.ws2s_plan.specs.declared.network.Network.{Network}
use Rattle.ws2s_plan.specs.Plan.{AreAllTracks, IsNetworkOf, gone_at}
use Rattle.ws2s_plan.specs.Steps.{IsParted, IsEliminatedBy, IsPlanning}
pub use Rattle.ws2s_plan.proofs.TakingLemmas.{none-long, filter-taken, filter-left, pushed, front, last, removed, IsFolded-nil, IsFolded-step}
pub use Rattle.ws2s_plan.proofs.TakingLemmas.{IsTaking-popped, IsTaking-apart, IsTaking-start, IsConjunction-taken, IsConjunction-alone}
use Rattle.ws2s_plan.proofs.TakingLemmas.{All-one, put, put_others, put_one, each-all, all-each, each-extends}

-- ---- conjuncts parted

module _ (formulas : List Formula) (t : Track) (units rest : List FormulaId) (unit : FormulaId) (old new : Parted) where
  abbrev at_each : Assignment → FormulaId → Type 0
  at_each a id = WSat (formula_of formulas id) a

  pub IsParted-other : new.members.items ≡ old.members.items → new.others.items ≡ old.others.items ++ unit ∷ [] → new.place ≡ old.place →
      (IsFree t.0 (formula_of formulas unit) → ⊥) → IsParted formulas t units (unit ∷ rest) old → IsParted formulas t units rest new
  IsParted-other same e place lacks was = record {
    rest_there = All-tail (IsThere formulas) unit rest was.rest_there;
    members_there = subst (All (IsThere formulas)) (sym same) was.members_there;
    others_there = pushed (IsThere formulas) old.others.items new.others.items unit e was.others_there (All-head (IsThere formulas) unit rest was.rest_there);
    exactly = λ a. (
      (λ sat.
          let parts = (was.exactly a).0 sat in (
            All-tail (at_each a) unit rest parts.0,
            subst (All (at_each a)) (sym same) parts.1,
            pushed (at_each a) old.others.items new.others.items unit e parts.2 (All-head (at_each a) unit rest parts.0),
          )),
      (λ parts. (was.exactly a).1 (
        All-cons (at_each a) unit rest (last (at_each a) old.others.items new.others.items unit e parts.2) parts.0,
        subst (All (at_each a)) same parts.1,
        front (at_each a) old.others.items new.others.items unit e parts.2,
      )),
    );
    lack = pushed (λ id. IsFree t.0 (formula_of formulas id) → ⊥) old.others.items new.others.items unit e was.lack lacks;
    within = (let longer = ap length e ∙ length-append old.others.items (unit ∷ []) in omega (arith, was.within, longer, place));
  }

  pub IsParted-member : new.members.items ≡ old.members.items ++ unit ∷ [] → new.others.items ≡ old.others.items → new.place ≤ length new.others.items →
      IsParted formulas t units (unit ∷ rest) old → IsParted formulas t units rest new
  IsParted-member e same within was = record {
    rest_there = All-tail (IsThere formulas) unit rest was.rest_there;
    members_there = pushed (IsThere formulas) old.members.items new.members.items unit e was.members_there
        (All-head (IsThere formulas) unit rest was.rest_there);
    others_there = subst (All (IsThere formulas)) (sym same) was.others_there;
    exactly = λ a. (
      (λ sat.
          let parts = (was.exactly a).0 sat in (
            All-tail (at_each a) unit rest parts.0,
            pushed (at_each a) old.members.items new.members.items unit e parts.1 (All-head (at_each a) unit rest parts.0),
            subst (All (at_each a)) (sym same) parts.2,
          )),
      (λ parts. (was.exactly a).1 (
        All-cons (at_each a) unit rest (last (at_each a) old.members.items new.members.items unit e parts.1) parts.0,
        front (at_each a) old.members.items new.members.items unit e parts.1,
        subst (All (at_each a)) same parts.2,
      )),
    );
    lack = subst (All (λ id. IsFree t.0 (formula_of formulas id) → ⊥)) (sym same) was.lack;
    within = within;
  }

pub IsParted-start : (formulas : List Formula) (t : Track) (units : List FormulaId) (parted : Parted) → parted.members.items ≡ [] →
    parted.others.items ≡ [] → parted.place ≡ 0 → All (IsThere formulas) units → IsParted formulas t units units parted
IsParted-start formulas t units parted no_members no_others start there = record {
  rest_there = there;
  members_there = subst (All (IsThere formulas)) (sym no_members) (All-nil (IsThere formulas));
  others_there = subst (All (IsThere formulas)) (sym no_others) (All-nil (IsThere formulas));
  exactly = λ a. (
    (λ sat. (
      sat,
      subst (λ (ids : List FormulaId). SatisfiesEach formulas ids a) (sym no_members) (All-nil (λ id. WSat (formula_of formulas id) a)),
      subst (λ (ids : List FormulaId). SatisfiesEach formulas ids a) (sym no_others) (All-nil (λ id. WSat (formula_of formulas id) a)),
    )),
    (λ parts. parts.0),
  );
  lack = subst (All (λ id. IsFree t.0 (formula_of formulas id) → ⊥)) (sym no_others) (All-nil (λ id. IsFree t.0 (formula_of formulas id) → ⊥));
  within = omega (arith, start);
}

-- ---- a track eliminated

pub IsEliminatedBy-parted : (old between new : List Formula) (t : Track) (units : List FormulaId) (parted : Parted) (first quantified : FormulaId)
    (more : List FormulaId) (made : Eliminated) → Extends old between → Extends between new → Extends old new → All (IsThere old) units →
    IsParted old t units [] parted → parted.members.items ≡ first ∷ more → IsThere between made.bucket →
    IsFolded old (formula_of old first) more (formula_of between made.bucket) → formula_of new quantified ≡ Ex2 t (formula_of between made.bucket) →
    IsThere new quantified → made.left.items ≡ insert parted.others.items parted.place quantified → IsEliminatedBy new t units made
IsEliminatedBy-parted old between new t units parted first quantified more made to_between to_new extends units_there parts members there folded is_quantified
    quantified_there left = record {
      bucket_there = there-extends between new made.bucket to_new there;
      left_there = put (IsThere new) parted.others.items made.left.items parted.place quantified left others_there quantified_there;
      eliminated = IsEliminated-parts t (formula_of new made.bucket) (formulas_at new units) (formulas_at new parted.others.items)
          (formulas_at new made.left.items) is_units lack is_left;
    }
  where
    others_there : All (IsThere new) parted.others.items
    others_there = all_there-extends old new parted.others.items extends parts.others_there

    same_bucket : formula_of new made.bucket ≡ formula_of between made.bucket
    same_bucket = at-extends between new made.bucket to_new there

    to : (ids : List FormulaId) (a : Assignment) → All (IsThere old) ids → SatisfiesEach old ids a → SatisfiesAll (formulas_at new ids) a
    to ids a there sat = each-all new ids a ((each-extends old new ids a extends there).0 sat)

    from : (ids : List FormulaId) (a : Assignment) → All (IsThere old) ids → SatisfiesAll (formulas_at new ids) a → SatisfiesEach old ids a
    from ids a there sat = (each-extends old new ids a extends there).1 (all-each new ids a sat)

    bucket_of : (a : Assignment) → IsFinite a → SatisfiesEach old parted.members.items a → WSat (formula_of new made.bucket) a
    bucket_of a finite sat =
        let each = subst (λ (ids : List FormulaId). SatisfiesEach old ids a) members sat in
        subst (λ f. WSat f a) (sym same_bucket) ((folded.exactly a finite).1
        (All-head (λ id. WSat (formula_of old id) a) first more each, All-tail (λ id. WSat (formula_of old id) a) first more each))

    members_of : (a : Assignment) → IsFinite a → WSat (formula_of new made.bucket) a → SatisfiesEach old parted.members.items a
    members_of a finite sat =
        let both = (folded.exactly a finite).0 (subst (λ f. WSat f a) same_bucket sat) in
        subst (λ (ids : List FormulaId). SatisfiesEach old ids a) (sym members) (All-cons (λ id. WSat (formula_of old id) a) first more both.0 both.1)

    is_units : (a : Assignment) → IsFinite a → SatisfiesAll (formulas_at new units) a ↔
        (WSat (formula_of new made.bucket) a × SatisfiesAll (formulas_at new parted.others.items) a)
    is_units a finite = (
      (λ sat.
          let three = (parts.exactly a).0 (from units a units_there sat) in
          (bucket_of a finite three.1, to parted.others.items a parts.others_there three.2)),
      (λ both. to units a units_there ((parts.exactly a).1 (
        All-nil (λ id. WSat (formula_of old id) a),
        members_of a finite both.0,
        from parted.others.items a parts.others_there both.1,
      ))),
    )

    lack : (f : Formula) → Contains (formulas_at new parted.others.items) f → IsFree t.0 f → ⊥
    lack f there free =
        let at = Contains-mapped (formula_of new) parted.others.items f there in
        let id_there = All-contains (IsThere old) parted.others.items at.0 parts.others_there at.1 in
        All-contains (λ id. IsFree t.0 (formula_of old id) → ⊥) parted.others.items at.0 parts.lack at.1
        (subst (IsFree t.0) (sym at.2 ∙ at-extends old new at.0 extends id_there) free)

    is_left : (a : Assignment) → IsFinite a → SatisfiesAll (formulas_at new made.left.items) a ↔
        (WSat (Ex2 t (formula_of new made.bucket)) a × SatisfiesAll (formulas_at new parted.others.items) a)
    is_left a finite =
        let is_one : formula_of new quantified ≡ Ex2 t (formula_of new made.bucket) = is_quantified ∙ ap (Ex2 t) (sym same_bucket) in
        let P : FormulaId → Type 0 = λ id. WSat (formula_of new id) a in (
          (λ sat.
              let each = all-each new made.left.items a sat in (
                subst (λ f. WSat f a) is_one (put_one P parted.others.items made.left.items parted.place quantified left each),
                each-all new parted.others.items a (put_others P parted.others.items made.left.items parted.place quantified left each),
              )),
          (λ both. each-all new made.left.items a (put P parted.others.items made.left.items parted.place quantified left
              (all-each new parted.others.items a both.1) (subst (λ f. WSat f a) (sym is_one) both.0))),
        )

-- ---- many tracks

pub gone-extends : (old new : List Formula) (eliminations : List Elimination) → Extends old new →
    All (λ (one : Elimination). IsThere old one.bucket) eliminations → gone_at new eliminations ≡ gone_at old eliminations
gone-extends old new [] extends there = refl
gone-extends old new (one ∷ others) extends there =
    ap₂ (λ (first : ℕ × Formula) (more : List (ℕ × Formula)). first ∷ more)
    (ap (λ (f : Formula). (one.track.0, f)) (at-extends old new one.bucket extends (All-head (λ (e : Elimination). IsThere old e.bucket) one others there)))
    (gone-extends old new others extends (All-tail (λ (e : Elimination). IsThere old e.bucket) one others there))

gone-pushed : (formulas : List Formula) (eliminations : List Elimination) (one : Elimination) →
    gone_at formulas (eliminations ++ one ∷ []) ≡ gone_at formulas eliminations ++ (one.track.0, formula_of formulas one.bucket) ∷ []
gone-pushed formulas eliminations one = map-append (λ (e : Elimination). (e.track.0, formula_of formulas e.bucket)) eliminations (one ∷ [])

pub IsPlanning-extends : (old new : List Formula) (weigh : List Track) (f : Formula) (planning later : Planning) → Extends old new →
    later.units.items ≡ planning.units.items → later.eliminations ≡ planning.eliminations → All (λ (t : Track). Contains weigh t → ⊥) later.waiting.items →
    IsPlanning old weigh f planning → IsPlanning new weigh f later
IsPlanning-extends old new weigh f planning later extends units gone unweighed was = record {
  units_there = subst (All (IsThere new)) (sym units) (all_there-extends old new planning.units.items extends was.units_there);
  buckets_there = subst (All (λ (one : Elimination). IsThere new one.bucket)) (sym gone) (All-weaker (λ (one : Elimination). IsThere old one.bucket)
      (λ (one : Elimination). IsThere new one.bucket) (λ one there. there-extends old new one.bucket extends there) planning.eliminations was.buckets_there);
  unweighed = unweighed;
  eliminated = λ weighed of. subst (λ (g : List (ℕ × Formula)). AreEliminated weighed g (f ∷ []) (formulas_at new later.units.items))
      (sym (ap (gone_at new) gone ∙ gone-extends old new planning.eliminations extends was.buckets_there))
      (subst (λ (fs : List Formula). AreEliminated weighed (gone_at old planning.eliminations) (f ∷ []) fs)
      (sym (ap (formulas_at new) units ∙ formulas_at-extends old new planning.units.items extends was.units_there)) (was.eliminated weighed of));
}

pub IsPlanning-more : (old new : List Formula) (weigh : List Track) (f : Formula) (planning later : Planning) (t : Track) (made : Eliminated) →
    Extends old new → (Contains weigh t → ⊥) → IsEliminatedBy new t planning.units.items made →
    later.units.items ≡ made.left.items → later.eliminations ≡ planning.eliminations ++ (record { track = t; bucket = made.bucket }) ∷ [] →
    All (λ (u : Track). Contains weigh u → ⊥) later.waiting.items → IsPlanning old weigh f planning → IsPlanning new weigh f later
IsPlanning-more old new weigh f planning later t made extends free by units gone unweighed was =
    let before : IsPlanning new weigh f planning = IsPlanning-extends old new weigh f planning planning extends refl refl was.unweighed was in
    let one : Elimination = record { track = t; bucket = made.bucket } in
    record {
      units_there = subst (All (IsThere new)) (sym units) by.left_there;
      buckets_there = pushed (λ (e : Elimination). IsThere new e.bucket) planning.eliminations later.eliminations one gone before.buckets_there by.bucket_there;
      unweighed = unweighed;
      eliminated = λ weighed of.
          subst (λ (g : List (ℕ × Formula)). AreEliminated weighed g (f ∷ []) (formulas_at new later.units.items))
          (sym (ap (gone_at new) gone ∙ gone-pushed new planning.eliminations one))
          (AreEliminated-more weighed (gone_at new planning.eliminations) t.0 (formula_of new made.bucket) (f ∷ []) (formulas_at new planning.units.items)
          (formulas_at new later.units.items) (before.eliminated weighed of) (λ listed. free (of t listed))
          (subst (λ (ids : List FormulaId). IsEliminated t.0 (formula_of new made.bucket) (formulas_at new planning.units.items) (formulas_at new ids))
          (sym units) by.eliminated));
    }

pub IsPlanning-start : (formulas : List Formula) (weigh : List Track) (f : Formula) (planning : Planning) → IsConjunction formulas f planning.units.items →
    All (λ (t : Track). Contains weigh t → ⊥) planning.waiting.items → planning.eliminations ≡ [] → IsPlanning formulas weigh f planning
IsPlanning-start formulas weigh f planning conjunction unweighed none = record {
  units_there = conjunction.there;
  buckets_there = subst (All (λ (one : Elimination). IsThere formulas one.bucket)) (sym none) (All-nil (λ (one : Elimination). IsThere formulas one.bucket));
  unweighed = unweighed;
  eliminated = λ weighed of.
      subst (λ (es : List Elimination). AreEliminated weighed (gone_at formulas es) (f ∷ []) (formulas_at formulas planning.units.items)) (sym none) same;
}
  where
    same : AreSame (f ∷ []) (formulas_at formulas planning.units.items)
    same a finite = (
      (λ sat. each-all formulas planning.units.items a ((conjunction.exactly a finite).0 (All-head (λ c. WSat c a) f [] sat))),
      (λ sat. All-one (λ c. WSat c a) f ((conjunction.exactly a finite).1 (all-each formulas planning.units.items a sat))),
    )

pub IsNetworkOf-finished : (old new : List Formula) (weigh : List Track) (f : Formula) (planning : Planning) (network : Network) (first : FormulaId)
    (more : List FormulaId) → Extends old new → planning.units.items ≡ first ∷ more → network.eliminations ≡ planning.eliminations →
    IsThere new network.rest → IsFolded old (formula_of old first) more (formula_of new network.rest) → AreAllTracks weigh f network.tracks →
    IsPlanning old weigh f planning → IsNetworkOf new weigh f network
IsNetworkOf-finished old new weigh f planning network first more extends units gone there folded all_tracks was = record {
  rest = formula_of new network.rest;
  is_rest = at-formula_at new network.rest.0 there;
  buckets_there = subst (All (λ (one : Elimination). IsThere new one.bucket)) (sym gone) now.buckets_there;
  eliminated = λ weighed of.
      subst (λ (es : List Elimination). AreEliminated weighed (gone_at new es) (f ∷ []) (formula_of new network.rest ∷ [])) (sym gone)
      (AreEliminated-same weighed (gone_at new planning.eliminations) (f ∷ []) (formulas_at new planning.units.items)
      (formula_of new network.rest ∷ []) (now.eliminated weighed of) same);
  all_tracks = all_tracks;
}
  where
    now : IsPlanning new weigh f planning
    now = IsPlanning-extends old new weigh f planning planning extends refl refl was.unweighed was

    same : AreSame (formulas_at new planning.units.items) (formula_of new network.rest ∷ [])
    same a finite = (
      (λ sat.
          let each = subst (λ (ids : List FormulaId). SatisfiesEach old ids a) units
          ((each-extends old new planning.units.items a extends was.units_there).1 (all-each new planning.units.items a sat)) in
          All-one (λ c. WSat c a) (formula_of new network.rest) ((folded.exactly a finite).1
          (All-head (λ id. WSat (formula_of old id) a) first more each, All-tail (λ id. WSat (formula_of old id) a) first more each))),
      (λ sat.
          let both = (folded.exactly a finite).0 (All-head (λ c. WSat c a) (formula_of new network.rest) [] sat) in
          let each = subst (λ (ids : List FormulaId). SatisfiesEach old ids a) (sym units)
          (All-cons (λ id. WSat (formula_of old id) a) first more both.0 both.1) in
          each-all new planning.units.items a ((each-extends old new planning.units.items a extends was.units_there).0 each)),
    )

-- what is found says more
pub some-weaker : {A : Type 0} (P Q : A → Type 0) → ((x : A) → P x → Q x) → (o : Option A) → IfSome o P → IfSome o Q
some-weaker P Q h (Some x) p = h x p
some-weaker P Q h None p = p

pub network-value : (old new : List Formula) (weigh : List Track) (id : FormulaId) (o : Option Network) → IfSome o (IsNetworkOf new weigh (formula_of old id)) →
    IfSome o (λ network. (f : Formula) → slice_get old id.0 ≡ Some f → IsNetworkOf new weigh f network)
network-value old new weigh id o h =
    some-weaker (IsNetworkOf new weigh (formula_of old id)) (λ network. (f : Formula) → slice_get old id.0 ≡ Some f → IsNetworkOf new weigh f network)
    (λ network is f e. subst (λ (g : Formula). IsNetworkOf new weigh g network) (formula_at-is old id.0 f e) is) o h
