-- The steps on atoms, negations, conjunctions and quantified formulas.
use Rattle.std.proofs.Common.{◌≡◌, ℕ, ◌+◌, ◌<◌, Bool, true, false, not, List, [], ◌∷◌, ◌++◌, length, map, slice_get, Contains, Some}
use Rattle.std.proofs.Common.{refl, ap, sym, ◌∙◌, subst, append-nil, append_assoc}
use Rattle.std.specs.Prelude.{◌↔◌, IsTrue}
use Rattle.gta_theory.specs.Guides.{Spaces}
use Rattle.gta_theory.specs.Automata.{Automaton}
use Rattle.gta_theory.specs.Constructions.{complement, Settled}
use Rattle.gta_theory.proofs.ListsLemmas.{Contains-map, Contains-mapped}
use Rattle.gta_theory.proofs.ListedLemmas.{slice_get-front, slice_get-last}
use Rattle.std.proofs.lemmas.Option.{slice_get_within}
use Rattle.ws2s_core.specs.declared.node.FormulaId.{FormulaId}
use Rattle.ws2s_core.specs.declared.track.Track.{Track}
use Rattle.ws2s_core.specs.declared.node.Node.{Node}
use Rattle.ws2s_core.specs.Nodes.{HasPartsBelow}
use Rattle.cert_text.specs.declared.line.NodeLine.{NodeLine}
use Rattle.cert_text.specs.declared.line.PairLine.{PairLine}
use Rattle.cert_text.specs.declared.line.SetLine.{SetLine}
use Rattle.cert_text.specs.declared.line.StartLine.{StartLine}
use Rattle.cert_text.specs.declared.line.SettleLine.{SettleLine}
use Rattle.cert_text.specs.declared.line.Line.{Line}
use Rattle.cert_text.specs.declared.line.Line.TheVariants as line
use Rattle.cert_theory.specs.Agreeing.{AgreeIn}
use Rattle.cert_theory.specs.Tables.{NamedPair, NamedSet, IsPairTable, IsSetTable}
use Rattle.cert_theory.specs.Sections.{Stage, IsStageOf}
use Rattle.cert_theory.proofs.AgreeingLemmas.{pairs-agreeing, sets-agreeing}
use Rattle.cert_nodes.specs.declared.spots.Diagrams.{Diagrams}
use Rattle.cert_tables.specs.declared.table.Table.{Table}
use Rattle.cert_tables.specs.Automata.{signed, table_automaton, AreThere}
use Rattle.cert_tables.specs.PairKeys.{named_pair}
use Rattle.cert_tables.specs.SetKeys.{named_set}
use Rattle.cert_parts.specs.Atoms.{atom_automaton}
use Rattle.cert_steps.specs.Steps.{AutomatonLines, StepLines, automaton_lines, told_automaton}
use Rattle.cert_steps.specs.Places.{AreInPlace}
use Rattle.cert_steps.specs.Reading.{ReadsAutomaton}
use Rattle.cert_check.specs.declared.board.Base.{Base}
use Rattle.cert_check.specs.declared.board.Part.{Part}
use Rattle.cert_check.specs.declared.board.Board.{Board}
use Rattle.cert_check.specs.Reached.{Misses, NoPairSays, NoSetSays}
use Rattle.cert_check.specs.Told.{lines_of_step, nodes_of_steps, Tells, IsInPlace}
use Rattle.cert_check.specs.Standing.{IsGrown, IsAtomBase, HasAutomaton, IsConjunctionBase, IsQuantifiedBase, AddsBase, stage_at}
use Rattle.cert_check.specs.Standing.{SaysReached, IsToldThere, StandsAt, Stands}
use Rattle.cert_check.proofs.GrowingLemmas.{grown-same, automaton-grown, agree-same, agree-complement}
use Rattle.cert_check.proofs.StagesLemmas.{below-one, below-first, below-second, stage-is}
use Rattle.cert_check.proofs.StandingLemmas.{IsLonger, new-at, stands-next}
use Rattle.cert_check.proofs.SettlingLemmas.{settling-agreeing}

-- the step of a part without lines
abbrev no_lines : AutomatonLines
no_lines = record { spaces = []; lefts = []; rights = []; roots = []; accepting = [] }

abbrev no_step : StepLines
no_step = record { automaton = no_lines; pairs = []; starts = []; settles = []; sets = [] }

same-some : {X : Type 0} (x y : X) → Some x ≡ Some y → x ≡ y
same-some x y e = cc

added-longer : (Is : Base → Type 0) (old new : Board) → AddsBase Is old new → IsLonger old new (record { base = length old.bases; is_negated = false })
added-longer Is old new adds = record { parts = adds.parts; bases = record { more = adds.base ∷ []; is = adds.bases } }

added-at : (Is : Base → Type 0) (old new : Board) (adds : AddsBase Is old new) → slice_get new.bases (length old.bases) ≡ Some adds.base
added-at Is old new adds = ap (λ (l : List Base). slice_get l (length old.bases)) adds.bases ∙ slice_get-last old.bases adds.base

-- ---- atoms

abbrev atom_stage : Node → Stage
atom_stage atom = record { automaton = atom_automaton atom; pairs = []; sets = [] }

-- what holds of each atom
record AtomFacts (g : Spaces) (atom : Node) : Type 0 where
  lines : (k : ℕ) → lines_of_step k atom no_step ≡ []
  stage : (parts : ℕ → Stage) → IsStageOf g parts atom (atom_stage atom)
  tells : (drawn : List NodeLine) → Tells drawn atom no_step (atom_stage atom)
  in_place : (stages : ℕ → Stage) (drawn : List NodeLine) → IsInPlace g stages drawn atom no_step
  told_there : (told : List NodeLine) → IsToldThere told atom no_step
  reached : (parts : List Part) (part : Part) (base : Base) → base.never_accepts ≡ false → base.never_rejects ≡ false →
      SaysReached parts atom (atom_stage atom) part base

-- neither a conjunction nor a negation nor quantified
pub record IsAtom (node : Node) : Type 0 where
  pub not_and : (f h : FormulaId) → node ≡ Node.And f h → ⊥
  pub not_not : (f : FormulaId) → node ≡ Node.Not f → ⊥
  pub not_ex : (t : Track) (f : FormulaId) → node ≡ Node.Ex2 t f → ⊥

atom-facts : (g : Spaces) (atom : Node) → IsAtom atom → AtomFacts g atom
atom-facts g (Node.Sub x y) is = record {
  lines = λ k. refl;
  stage = λ parts. refl;
  tells = λ drawn. tt;
  in_place = λ stages drawn. tt;
  told_there = λ told. tt;
  reached = λ parts part base accepts rejects. (accepts, rejects);
}
atom-facts g (Node.Single x) is = record {
  lines = λ k. refl;
  stage = λ parts. refl;
  tells = λ drawn. tt;
  in_place = λ stages drawn. tt;
  told_there = λ told. tt;
  reached = λ parts part base accepts rejects. (accepts, rejects);
}
atom-facts g (Node.Succ0 x y) is = record {
  lines = λ k. refl;
  stage = λ parts. refl;
  tells = λ drawn. tt;
  in_place = λ stages drawn. tt;
  told_there = λ told. tt;
  reached = λ parts part base accepts rejects. (accepts, rejects);
}
atom-facts g (Node.Succ1 x y) is = record {
  lines = λ k. refl;
  stage = λ parts. refl;
  tells = λ drawn. tt;
  in_place = λ stages drawn. tt;
  told_there = λ told. tt;
  reached = λ parts part base accepts rejects. (accepts, rejects);
}
atom-facts g (Node.Root x) is = record {
  lines = λ k. refl;
  stage = λ parts. refl;
  tells = λ drawn. tt;
  in_place = λ stages drawn. tt;
  told_there = λ told. tt;
  reached = λ parts part base accepts rejects. (accepts, rejects);
}
atom-facts g (Node.And f h) is = absurd (is.not_and f h refl)
atom-facts g (Node.Not f) is = absurd (is.not_not f refl)
atom-facts g (Node.Ex2 t f) is = absurd (is.not_ex t f refl)

pub atom-stands : (g : Spaces) (nodes : List Node) (d e : Diagrams) (old new : Board) (k : ℕ) (atom : Node) (body left : List Line) →
    HasPartsBelow k atom → IsAtom atom → slice_get nodes k ≡ Some atom → IsGrown d e → e.told ≡ d.told → AddsBase (IsAtomBase g e atom) old new →
    Stands g nodes d old k body left → Stands g nodes e new (k + 1) body left
atom-stands g nodes d e old new k atom body left below is at grown told adds stands =
    let facts = atom-facts g atom is in
    let stage = atom_stage atom in
    let part : Part = record { base = length old.bases; is_negated = false } in
    let longer = added-longer (IsAtomBase g e atom) old new adds in
    stands-next g nodes d e grown old new part longer stands.steps no_step stands.stages stage k stands.many_steps stands.many_stages stands.many_parts
    atom body left left at stands.told_is (told ∙ sym (append-nil d.told)) stands.read (ap (λ (l : List Line). l ++ left) (sym (facts.lines k)))
    stands.each
    (new-at g nodes d e grown old new part longer stands.steps no_step stands.stages stage k stands.many_steps stands.many_stages stands.many_parts
    atom adds.base below (added-at (IsAtomBase g e atom) old new adds) (adds.is).agrees (adds.is).there (facts.told_there e.told)
    (facts.stage (stage_at stands.stages)) (facts.tells e.told) (facts.in_place (stage_at stands.stages) (nodes_of_steps stands.steps))
    (facts.reached new.parts part adds.base (adds.is).accepts (adds.is).rejects))

-- ---- negations

pub negation-stands : (g : Spaces) (nodes : List Node) (d : Diagrams) (old new : Board) (k : ℕ) (f : FormulaId) (body left : List Line) →
    HasPartsBelow k (Node.Not f) → slice_get nodes k ≡ Some (Node.Not f) → new.bases ≡ old.bases →
    ((part : Part) → slice_get old.parts f.0 ≡ Some part → new.parts ≡ old.parts ++ (record { base = part.base; is_negated = not part.is_negated }) ∷ []) →
    ((j : ℕ) → j < k → (node : Node) × (slice_get nodes j ≡ Some node)) →
    Stands g nodes d old k body left → Stands g nodes d new (k + 1) body left
negation-stands g nodes d old new k f body left below at bases parts there stands =
    let low : f.0 < k = below-one k f.0 below in
    let node = there f.0 low in
    let inner = stands.each f.0 node.0 low node.1 in
    let part : Part = record { base = (inner.part).base; is_negated = not (inner.part).is_negated } in
    let longer : IsLonger old new part = record {
      parts = parts inner.part inner.at_part;
      bases = record { more = []; is = bases ∙ sym (append-nil old.bases) };
    } in
    let stage : Stage = record { automaton = complement (stage_at stands.stages f.0).automaton; pairs = []; sets = [] } in
    let grown = grown-same d in
    let same : (inner.stage).automaton ≡ (stage_at stands.stages f.0).automaton =
    ap (λ (s : Stage). s.automaton) (sym (stage-is stands.stages f.0 inner.stage inner.at_stage)) in
    let agrees : AgreeIn g (signed part.is_negated (table_automaton d (inner.base).table)) stage.automaton =
    subst (λ (A : Automaton ℕ). AgreeIn g (signed part.is_negated (table_automaton d (inner.base).table)) (complement A)) same
    (agree-complement g (table_automaton d (inner.base).table) (inner.stage).automaton (inner.part).is_negated inner.agrees) in
    stands-next g nodes d d grown old new part longer stands.steps no_step stands.stages stage k stands.many_steps stands.many_stages stands.many_parts
    (Node.Not f) body left left at stands.told_is (sym (append-nil d.told)) stands.read refl stands.each
    (new-at g nodes d d grown old new part longer stands.steps no_step stands.stages stage k stands.many_steps stands.many_stages stands.many_parts
    (Node.Not f) inner.base below (ap (λ (l : List Base). slice_get l (inner.part).base) bases ∙ inner.at_base) agrees inner.there tt refl tt tt
    (reached inner.part (not-twice (inner.part).is_negated) (kept-at inner.part part inner.at_part longer)))
  where
    not-twice : (b : Bool) → not (not b) ≡ b
    not-twice true = refl
    not-twice false = refl

    kept-at : (part more : Part) → slice_get old.parts f.0 ≡ Some part → IsLonger old new more → slice_get new.parts f.0 ≡ Some part
    kept-at part more at_part longer =
        ap (λ (l : List Part). slice_get l f.0) longer.parts
        ∙ slice_get-front old.parts (more ∷ []) f.0 (slice_get_within old.parts f.0 part at_part) ∙ at_part

    reached : (part : Part) → not (not part.is_negated) ≡ part.is_negated → slice_get new.parts f.0 ≡ Some part →
        slice_get new.parts f.0 ≡ Some (record { base = part.base; is_negated = not (not part.is_negated) })
    reached part twice at_part = at_part ∙ (λ i. Some (record { base = part.base; is_negated = sym twice i }))

-- ---- conjunctions and quantified formulas

module _ (g : Spaces) (nodes : List Node) (d e : Diagrams) (grown : IsGrown d e) (board : Board) (steps : List StepLines) (stages : List Stage) where
  -- the automaton of an earlier part
  module _ (j : ℕ) (node : Node) (at : StandsAt g nodes d board steps stages j node) (table : Table) (is_negated : Bool)
      (has : HasAutomaton board j table is_negated) where
    part-same : at.part ≡ has.part
    part-same = same-some at.part has.part (sym at.at_part ∙ has.at_part)

    base-same : at.base ≡ has.base
    base-same = same-some at.base has.base (sym at.at_base ∙ ap (λ (p : Part). slice_get board.bases p.base) part-same ∙ has.at_base)

    table-same : (at.base).table ≡ table
    table-same = ap (λ (b : Base). b.table) base-same ∙ sym has.table_is

    automaton-same : table_automaton d (at.base).table ≡ table_automaton e table
    automaton-same = sym (automaton-grown d e grown (at.base).table at.there) ∙ ap (table_automaton e) table-same

    has-agrees : AgreeIn g (signed is_negated (table_automaton e table)) (stage_at stages j).automaton
    has-agrees =
        subst (λ (A : Automaton ℕ). AgreeIn g (signed is_negated (table_automaton e table)) A)
        (ap (λ (s : Stage). s.automaton) (sym (stage-is stages j at.stage at.at_stage)))
        (subst (λ (n : Bool). AgreeIn g (signed n (table_automaton e table)) (at.stage).automaton)
        (ap (λ (p : Part). p.is_negated) part-same ∙ sym has.negated_is)
        (subst (λ (A : Automaton ℕ). AgreeIn g (signed (at.part).is_negated A) (at.stage).automaton) automaton-same at.agrees))

-- what pairs reach, as pairs of a table
named-pairs : (table : Table) (b : Bool) (pairs : List PairLine) → NoPairSays table b pairs ↔
    ((pair : NamedPair) → Contains (map named_pair pairs) pair → Misses table b pair.space pair.state)
named-pairs table b pairs = (
  (λ none pair listed.
      let of = Contains-mapped named_pair pairs pair listed in
      subst (λ (p : NamedPair). Misses table b p.space p.state) of.2 (none of.0 of.1)),
  (λ none line listed. none (named_pair line) (Contains-map named_pair pairs line listed)),
)

named-sets : (table : Table) (b : Bool) (sets : List SetLine) → NoSetSays table b sets ↔
    ((set : NamedSet) → Contains (map named_set sets) set → Misses table b set.space set.state)
named-sets table b sets = (
  (λ none set listed.
      let of = Contains-mapped named_set sets set listed in
      subst (λ (s : NamedSet). Misses table b s.space s.state) of.2 (none of.0 of.1)),
  (λ none line listed. none (named_set line) (Contains-map named_set sets line listed)),
)

both-ways : {A B C : Type 0} → A ↔ B → B ↔ C → A ↔ C
both-ways first second = ((λ a. second.0 (first.0 a)), (λ c. first.1 (second.1 c)))

says-pairs : (table : Table) (base : Base) (b never : Bool) (pairs : List PairLine) → base.table ≡ table → IsTrue never ↔ NoPairSays table b pairs →
    IsTrue never ↔ ((pair : NamedPair) → Contains (map named_pair pairs) pair → Misses base.table b pair.space pair.state)
says-pairs table base b never pairs is says =
    subst (λ (t : Table). IsTrue never ↔ ((pair : NamedPair) → Contains (map named_pair pairs) pair → Misses t b pair.space pair.state)) (sym is)
    (both-ways says (named-pairs table b pairs))

says-sets : (table : Table) (base : Base) (b never : Bool) (sets : List SetLine) → base.table ≡ table → IsTrue never ↔ NoSetSays table b sets →
    IsTrue never ↔ ((set : NamedSet) → Contains (map named_set sets) set → Misses base.table b set.space set.state)
says-sets table base b never sets is says =
    subst (λ (t : Table). IsTrue never ↔ ((set : NamedSet) → Contains (map named_set sets) set → Misses t b set.space set.state)) (sym is)
    (both-ways says (named-sets table b sets))

-- the table of a base that is read
module _ (g : Spaces) (old : List NodeLine) (e : Diagrams) (lines rest : List Line) (table : Table) (reads : ReadsAutomaton g old e lines table rest)
    (base : Base) (is : base.table ≡ table) where
  base-agrees : AgreeIn g (signed false (table_automaton e base.table)) (told_automaton e.told reads.automaton)
  base-agrees = agree-same g (table_automaton e base.table) (told_automaton e.told reads.automaton) (ap (table_automaton e) is ∙ reads.told)

  base-there : AreThere e base.table
  base-there = subst (AreThere e) (sym is) reads.there

module _ (g : Spaces) (nodes : List Node) (d e : Diagrams) (old new : Board) (k : ℕ) (body lines left rest : List Line) (grown : IsGrown d e)
    (stands : Stands g nodes d old k body lines) (there : (j : ℕ) → j < k → (node : Node) × (slice_get nodes j ≡ Some node)) where
  earlier-at : (j : ℕ) (low : j < k) → StandsAt g nodes d old stands.steps stands.stages j (there j low).0
  earlier-at j low = stands.each j (there j low).0 low (there j low).1

  pub conjunction-stands : (f h : FormulaId) → HasPartsBelow k (Node.And f h) → slice_get nodes k ≡ Some (Node.And f h) →
      lines ≡ line.And k ∷ left → AddsBase (IsConjunctionBase g d.told e old f.0 h.0 left rest) old new → Stands g nodes e new (k + 1) body rest
  conjunction-stands f h below at first adds =
      let low_f : f.0 < k = below-first k f.0 h.0 below in
      let low_h : h.0 < k = below-second k f.0 h.0 below in
      let is = adds.is in
      let reads = is.reads in
      let automaton = reads.automaton in
      let a = automaton.automaton in
      let step : StepLines = record { automaton = a; pairs = reads.pairs; starts = []; settles = []; sets = [] } in
      let stage : Stage = record { automaton = told_automaton e.told a; pairs = map named_pair reads.pairs; sets = [] } in
      let part : Part = record { base = length old.bases; is_negated = false } in
      let longer = added-longer (IsConjunctionBase g d.told e old f.0 h.0 left rest) old new adds in
      let base_is = (reads.is_base).table_is in
      let of_f = has-agrees g nodes d e grown old stands.steps stands.stages f.0 (there f.0 low_f).0 (earlier-at f.0 low_f) is.a is.a_negated is.of_f in
      let of_h = has-agrees g nodes d e grown old stands.steps stands.stages h.0 (there h.0 low_h).0 (earlier-at h.0 low_h) is.b is.b_negated is.of_h in
      let of_c = agree-same g (table_automaton e reads.table) stage.automaton automaton.told in
      let leads : IsPairTable g (stage_at stands.stages f.0).automaton (stage_at stands.stages h.0).automaton stage.pairs stage.automaton =
      pairs-agreeing g (signed is.a_negated (table_automaton e is.a)) (signed is.b_negated (table_automaton e is.b)) (table_automaton e reads.table)
      (stage_at stands.stages f.0).automaton (stage_at stands.stages h.0).automaton stage.automaton (map named_pair reads.pairs) of_f of_h of_c reads.leads in
      let next : lines ≡ lines_of_step k (Node.And f h) step ++ rest =
      first ∙ ap (λ (l : List Line). line.And k ∷ l) (automaton.read ∙ sym (append_assoc (automaton_lines a) (map line.Pair reads.pairs) rest)) in
      let placed = subst (λ (ns : List NodeLine). AreInPlace g ns a) stands.told_is automaton.fits in
      stands-next g nodes d e grown old new part longer stands.steps step stands.stages stage k stands.many_steps stands.many_stages stands.many_parts
      (Node.And f h) body lines rest at stands.told_is automaton.drawn stands.read next stands.each
      (new-at g nodes d e grown old new part longer stands.steps step stands.stages stage k stands.many_steps stands.many_stages stands.many_parts
      (Node.And f h) adds.base below (added-at (IsConjunctionBase g d.told e old f.0 h.0 left rest) old new adds)
      (base-agrees g d.told e left (map line.Pair reads.pairs ++ rest) reads.table automaton adds.base base_is)
      (base-there g d.told e left (map line.Pair reads.pairs ++ rest) reads.table automaton adds.base base_is)
      automaton.told_there leads (refl, refl) (placed, (reads.fits).in_order) (
        says-pairs reads.table adds.base true (adds.base).never_accepts reads.pairs base_is (reads.is_base).accepts,
        says-pairs reads.table adds.base false (adds.base).never_rejects reads.pairs base_is (reads.is_base).rejects,
      ))

  pub quantified-stands : (t : Track) (f : FormulaId) → HasPartsBelow k (Node.Ex2 t f) → slice_get nodes k ≡ Some (Node.Ex2 t f) →
      lines ≡ line.Ex k ∷ left → AddsBase (IsQuantifiedBase g d.told e old t.0 f.0 left rest) old new → Stands g nodes e new (k + 1) body rest
  quantified-stands t f below at first adds =
      let low_f : f.0 < k = below-one k f.0 below in
      let is = adds.is in
      let reads = is.reads in
      let automaton = reads.automaton in
      let a = automaton.automaton in
      let step : StepLines = record { automaton = a; pairs = []; starts = reads.starts; settles = reads.settles; sets = reads.sets } in
      let stage : Stage = record { automaton = told_automaton e.told a; pairs = []; sets = map named_set reads.sets } in
      let part : Part = record { base = length old.bases; is_negated = false } in
      let longer = added-longer (IsQuantifiedBase g d.told e old t.0 f.0 left rest) old new adds in
      let base_is = (reads.is_base).table_is in
      let of_f = has-agrees g nodes d e grown old stands.steps stands.stages f.0 (there f.0 low_f).0 (earlier-at f.0 low_f) is.a is.a_negated is.of_f in
      let of_c = agree-same g (table_automaton e reads.table) stage.automaton automaton.told in
      let leads : IsSetTable g (stage_at stands.stages f.0).automaton t.0 (Settled g (stage_at stands.stages f.0).automaton t.0) stage.sets stage.automaton =
      sets-agreeing g (signed is.a_negated (table_automaton e is.a)) (table_automaton e reads.table) (stage_at stands.stages f.0).automaton stage.automaton
      t.0 (map named_set reads.sets) of_f of_c reads.leads in
      let next : lines ≡ lines_of_step k (Node.Ex2 t f) step ++ rest =
      first ∙ ap (λ (l : List Line). line.Ex k ∷ l) (automaton.read
      ∙ four (automaton_lines a) (map line.Start reads.starts) (map line.Settle reads.settles) (map line.Set reads.sets) rest) in
      let placed = subst (λ (ns : List NodeLine). AreInPlace g ns a) stands.told_is automaton.fits in
      let settling = settling-agreeing g (table_automaton e is.a) (stage_at stands.stages f.0).automaton t.0 reads.starts reads.settles
      of_f.initial of_f.step reads.settled in
      stands-next g nodes d e grown old new part longer stands.steps step stands.stages stage k stands.many_steps stands.many_stages stands.many_parts
      (Node.Ex2 t f) body lines rest at stands.told_is automaton.drawn stands.read next stands.each
      (new-at g nodes d e grown old new part longer stands.steps step stands.stages stage k stands.many_steps stands.many_stages stands.many_parts
      (Node.Ex2 t f) adds.base below (added-at (IsQuantifiedBase g d.told e old t.0 f.0 left rest) old new adds)
      (base-agrees g d.told e left (behind reads.starts reads.settles reads.sets) reads.table automaton adds.base base_is)
      (base-there g d.told e left (behind reads.starts reads.settles reads.sets) reads.table automaton adds.base base_is)
      automaton.told_there leads (refl, refl) (placed, settling, (reads.fits).in_order, (reads.fits).once) (
        says-sets reads.table adds.base true (adds.base).never_accepts reads.sets base_is (reads.is_base).accepts,
        says-sets reads.table adds.base false (adds.base).never_rejects reads.sets base_is (reads.is_base).rejects,
      ))
    where
      behind : List StartLine → List SettleLine → List SetLine → List Line
      behind starts settles sets = map line.Start starts ++ (map line.Settle settles ++ (map line.Set sets ++ rest))

      four : (a b c d r : List Line) → a ++ (b ++ (c ++ (d ++ r))) ≡ (a ++ (b ++ (c ++ d))) ++ r
      four a b c d r = sym (append_assoc a (b ++ (c ++ d)) r ∙ ap (λ (l : List Line). a ++ l) (append_assoc b (c ++ d) r
          ∙ ap (λ (l : List Line). b ++ l) (append_assoc c d r)))
