-- Flows whose parts fit have codes and cuts that fit.
use Rattle.std.proofs.Common.{◌≡◌, ◌<◌, ◌+◌, ℕ, suc, true, false, cond, List, [], ◌∷◌, ◌++◌, length, map, not, ◌||◌}
use Rattle.std.proofs.Common.{refl, sym, ap, ap₂, ◌∙◌, subst, arith}
use Rattle.std.specs.List.{AllByRecursion}
use Rattle.std.proofs.lemmas.Bool.{false≢true}
use Rattle.std.proofs.lemmas.List.{length-map}
use mathlib.Core.Path.{transport}
use Rattle.store_core.specs.Tables.{TypeEntry, VarEntry}
use Rattle.store_logic.specs.declared.act.Act.{Act}
use Rattle.store_logic.specs.declared.cond.Cond.{Cond}
use Rattle.store_logic.specs.FitsCode.{ActFits, CondFits}
use Rattle.store_logic.proofs.ExpandingLists.{all-append, all-first, all-second}
use Rattle.store_exec.specs.declared.code.Item.{Item, roll-Item}
use Rattle.store_exec.specs.declared.code.Item.TheVariants as item
use Rattle.store_exec.specs.declared.code.Item.TheOpen.{Item-F}
use Rattle.store_exec.specs.declared.code.Item.TheFolds.{rec-roll-Item, map-Item}
use Rattle.store_exec.specs.declared.code.Code.{Code, roll-Code, out-Code, roll-out-Code}
use Rattle.store_exec.specs.declared.code.Tail.{Tail}
use Rattle.store_exec.specs.declared.code.Tail.TheVariants as tail
use Rattle.store_exec.specs.declared.code.Tail.TheOpen.{Tail-F, Code-F}
use Rattle.store_exec.specs.declared.code.Tail.TheFolds.{rec-roll-Tail, rec-roll-Code, fold-Tail, fold-roll-Tail, fold-roll-Code, map-Tail, map-Code}
use Rattle.store_exec.specs.declared.triple.Cut.{Cut}
use Rattle.store_exec.specs.Fits.{ItemFitsNode, ItemFits, ItemsFit, TailFitsNode, CodeFitsNode, CodeFits, CutFits}
use Rattle.store_exec.proofs.CanRunLemmas.{TailFits, code-fits}
use Rattle.hoare_split.specs.declared.point.Point.{Point}
use Rattle.hoare_split.specs.Flows.{Arrival, Flow, ends, does, branches, after_items, is_point, is_among, arrivals_of, first_of_each, reached_by}
use Rattle.hoare_split.specs.Flows.{points_in, cuts_of, place_among, code_in, code_of}
use Rattle.hoare_split.specs.Fitting.{places_at, places_of, AreReadAt}
use Rattle.hoare_split.proofs.FlowLemmas.{AreAmong, AreAmong-first_of_each}

all-map : {Part X : Type 0} (whole : Part → X) (P : X → Type 0) (parts : List Part) →
    AllByRecursion (λ p. P (whole p)) parts ≡ AllByRecursion P (map whole parts)
all-map whole P [] = refl
all-map whole P (part ∷ parts) = ap (λ (M : Type 0). P (whole part) × M) (all-map whole P parts)

-- ---- items and codes, form by form

module _ (types : List TypeEntry) (vars : List VarEntry) where
  natural : (Part : Type 0) (whole : Part → Item) (fits : Item → Type 0) (x : Item-F Part) →
      ItemFitsNode types vars Part whole (λ p. fits (whole p)) x ≡ ItemFitsNode types vars Item (λ i. i) fits (map-Item Part Item whole x)
  natural Part whole fits (Item-F.Do line a) = refl
  natural Part whole fits (Item-F.If line c taken other) =
      ap₂ (λ (M N : Type 0). CondFits types vars c × M × N) (all-map whole fits taken) (all-map whole fits other)

  at_item : (j : Item) (x : Item-F Item) → roll-Item x ≡ j → ItemFitsNode types vars Item (λ k. k) (ItemFits types vars) x → ItemFits types vars j
  at_item j x e = transport (λ i. sym (ap (ItemFits types vars) (sym e) ∙ rec-roll-Item (Type 0) (ItemFitsNode types vars) natural x) i)

  pub Do-fits : (line : ℕ) (a : Act) → ActFits types vars a → ItemFits types vars (item.Do line a)
  Do-fits line a h = at_item (item.Do line a) (Item-F.Do line a) (item.rolls-Do line a) h

  pub If-fits : (line : ℕ) (c : Cond) (taken other : List Item) → CondFits types vars c → ItemsFit types vars taken → ItemsFit types vars other →
      ItemFits types vars (item.If line c taken other)
  If-fits line c taken other h g k = at_item (item.If line c taken other) (Item-F.If line c taken other) (item.rolls-If line c taken other) (h, g, k)

  natural-tail : (T C : Type 0) (v : T → Tail) (w : C → Code) (k : Tail → Type 0) (l : Code → Type 0) (x : Tail-F T C) →
      TailFitsNode types vars T C v w (λ p. k (v p)) (λ p. l (w p)) x ≡ TailFitsNode types vars Tail Code (λ y. y) (λ y. y) k l (map-Tail T C Tail Code v w x)
  natural-tail T C v w k l (Tail-F.Cut place) = refl
  natural-tail T C v w k l (Tail-F.Branch line c taken other) = refl

  natural-code : (T C : Type 0) (v : T → Tail) (w : C → Code) (k : Tail → Type 0) (l : Code → Type 0) (x : Code-F T C) →
      CodeFitsNode types vars T C v w (λ p. k (v p)) (λ p. l (w p)) x ≡ CodeFitsNode types vars Tail Code (λ y. y) (λ y. y) k l (map-Code T C Tail Code v w x)
  natural-code T C v w k l x = refl

  Cut-fits : (place : ℕ) → TailFits types vars (tail.Cut place)
  Cut-fits place = transport (λ i. sym (ap (TailFits types vars) (sym (tail.rolls-Cut place))
      ∙ rec-roll-Tail (Type 0) (Type 0) (TailFitsNode types vars) (CodeFitsNode types vars) natural-tail (Tail-F.Cut place)) i) tt

  Branch-fits : (line : ℕ) (c : Cond) (taken other : Code) → CondFits types vars c → CodeFits types vars taken → CodeFits types vars other →
      TailFits types vars (tail.Branch line c taken other)
  Branch-fits line c taken other h g k = transport (λ i. sym (ap (TailFits types vars) (sym (tail.rolls-Branch line c taken other))
      ∙ rec-roll-Tail (Type 0) (Type 0) (TailFitsNode types vars) (CodeFitsNode types vars) natural-tail (Tail-F.Branch line c taken other)) i) (h, g, k)

  made-fits : (x : Code-F Tail Code) → ItemsFit types vars x.items → TailFits types vars x.tail → CodeFits types vars (roll-Code x)
  made-fits x h g =
      transport (λ i. sym (rec-roll-Code (Type 0) (Type 0) (TailFitsNode types vars) (CodeFitsNode types vars) natural-code x) i) (h, g)

  -- ---- flows

  -- what is checked where code ends fits, and its claims are read on the regions of their kind
  abbrev pub ArrivalFits : Arrival → Type 0
  ArrivalFits a = CutFits types vars a.cut × AreReadAt a.cut.handed a.cut.asserts

  -- the items, conditions and cuts of a flow fit
  abbrev pub FlowFits : Flow → Type 0
  FlowFits (ends a) = ArrivalFits a
  FlowFits (does i rest) = ItemFits types vars i × FlowFits rest
  FlowFits (branches line c taken other) = CondFits types vars c × FlowFits taken × FlowFits other

  pub after-fits : (items : List Item) (rest : Flow) → ItemsFit types vars items → FlowFits rest → FlowFits (after_items items rest)
  after-fits [] rest own fits = fits
  after-fits (i ∷ items) rest own fits = (own.0, after-fits items rest own.1 fits)

  in-fits : (points : List Point) (flow : Flow) → FlowFits flow → CodeFits types vars (code_in points flow)
  in-fits points (ends a) fits = made-fits (record { items = []; tail = tail.Cut (place_among points a.point) }) tt (Cut-fits (place_among points a.point))
  in-fits points (does i rest) fits =
      let behind = code-fits types vars (code_in points rest) (in-fits points rest fits.1) in
      made-fits (record { items = i ∷ (out-Code (code_in points rest)).items; tail = (out-Code (code_in points rest)).tail }) (fits.0, behind.0) behind.1
  in-fits points (branches line c taken other) fits =
      made-fits (record { items = []; tail = tail.Branch line c (code_in points taken) (code_in points other) }) tt
      (Branch-fits line c (code_in points taken) (code_in points other) fits.0 (in-fits points taken fits.1) (in-fits points other fits.2))

  -- the code of a flow
  pub flow-code-fits : (flow : Flow) → FlowFits flow → CodeFits types vars (code_of flow)
  flow-code-fits flow = in-fits (points_in (reached_by flow)) flow

  arrivals-fit : (flow : Flow) → FlowFits flow → AllByRecursion ArrivalFits (arrivals_of flow)
  arrivals-fit (ends a) fits = (fits, tt)
  arrivals-fit (does i rest) fits = arrivals-fit rest fits.1
  arrivals-fit (branches line c taken other) fits =
      all-append ArrivalFits (arrivals_of taken) (arrivals_of other) (arrivals-fit taken fits.1) (arrivals-fit other fits.2)

  -- those at points that are new
  firsts-fit : (before : List Point) (arrivals : List Arrival) → AllByRecursion ArrivalFits arrivals →
      AllByRecursion ArrivalFits (first_of_each before arrivals)
  firsts-fit before [] fits = tt
  firsts-fit before (a ∷ arrivals) fits =
      elim (is_among a.point before) as
      (λ b. AllByRecursion ArrivalFits (cond b (first_of_each before arrivals) (a ∷ first_of_each (before ++ a.point ∷ []) arrivals)))
      [ true ↦ firsts-fit before arrivals fits.1 | false ↦ (fits.0, firsts-fit (before ++ a.point ∷ []) arrivals fits.1) ]

  cuts-fit : (arrivals : List Arrival) → AllByRecursion ArrivalFits arrivals →
      AllByRecursion (CutFits types vars) (map (λ a. a.cut) arrivals)
      × AllByRecursion (λ (cut : Cut). AreReadAt cut.handed cut.asserts) (map (λ a. a.cut) arrivals)
  cuts-fit [] fits = (tt, tt)
  cuts-fit (a ∷ arrivals) fits = let more = cuts-fit arrivals fits.1 in ((fits.0.0, more.0), (fits.0.1, more.1))

  -- the cuts of a flow
  pub flow-cuts-fit : (flow : Flow) → FlowFits flow →
      AllByRecursion (CutFits types vars) (cuts_of flow) × AllByRecursion (λ (cut : Cut). AreReadAt cut.handed cut.asserts) (cuts_of flow)
  flow-cuts-fit flow fits = cuts-fit (reached_by flow) (firsts-fit [] (arrivals_of flow) (arrivals-fit flow fits))

-- ---- the places that tails name

abbrev places_behind : Tail → List ℕ
places_behind = fold-Tail (List ℕ) (List ℕ) places_at (λ x. x.tail)

places-made : (x : Code-F Tail Code) → places_of (roll-Code x) ≡ places_behind x.tail
places-made x = fold-roll-Code (List ℕ) (List ℕ) places_at (λ x. x.tail) x

places-code : (c : Code) → places_of c ≡ places_behind (out-Code c).tail
places-code c = ap places_of (sym (roll-out-Code c)) ∙ places-made (out-Code c)

places-Cut : (place : ℕ) → places_behind (tail.Cut place) ≡ place ∷ []
places-Cut place = ap places_behind (sym (tail.rolls-Cut place)) ∙ fold-roll-Tail (List ℕ) (List ℕ) places_at (λ x. x.tail) (Tail-F.Cut place)

places-Branch : (line : ℕ) (b : Cond) (taken other : Code) → places_behind (tail.Branch line b taken other) ≡ places_of taken ++ places_of other
places-Branch line b taken other = ap places_behind (sym (tail.rolls-Branch line b taken other))
    ∙ fold-roll-Tail (List ℕ) (List ℕ) places_at (λ x. x.tail) (Tail-F.Branch line b taken other)

place-below : (p : Point) (points : List Point) → is_among p points ≡ true → place_among points p < length points
place-below p [] e = absurd (false≢true e)
place-below p (q ∷ points) e =
    elim (is_point q p) as (λ b. (b || is_among p points) ≡ true → cond (not b) (1 + place_among points p) 0 < suc (length points))
    [ true ↦ λ among. omega arith | false ↦ λ among. let low = place-below p points among in omega (arith, low) ] e

abbrev AreBelow : List Point → List ℕ → Type 0
AreBelow points places = AllByRecursion (λ place. place < length points) places

in-below : (points : List Point) (flow : Flow) → AreAmong points (arrivals_of flow) → AreBelow points (places_of (code_in points flow))
in-below points (ends a) among =
    subst (AreBelow points)
    (sym (places-made (record { items = []; tail = tail.Cut (place_among points a.point) }) ∙ places-Cut (place_among points a.point)))
    (place-below a.point points among.0, tt)
in-below points (does i rest) among =
    subst (AreBelow points)
    (places-code (code_in points rest)
    ∙ sym (places-made (record { items = i ∷ (out-Code (code_in points rest)).items; tail = (out-Code (code_in points rest)).tail })))
    (in-below points rest among)
in-below points (branches line c taken other) among =
    subst (AreBelow points)
    (sym (places-made (record { items = []; tail = tail.Branch line c (code_in points taken) (code_in points other) })
    ∙ places-Branch line c (code_in points taken) (code_in points other)))
    (all-append (λ place. place < length points) (places_of (code_in points taken)) (places_of (code_in points other))
    (in-below points taken (all-first (λ (a : Arrival). is_among a.point points ≡ true) (arrivals_of taken) (arrivals_of other) among))
    (in-below points other (all-second (λ (a : Arrival). is_among a.point points ≡ true) (arrivals_of taken) (arrivals_of other) among)))

-- each tail of a flow's code names one of its cuts
pub tails-named : (flow : Flow) → AllByRecursion (λ place. place < length (cuts_of flow)) (places_of (code_of flow))
tails-named flow =
    subst (λ n. AllByRecursion (λ place. place < n) (places_of (code_of flow)))
    (length-map (reached_by flow) (λ (a : Arrival). a.point) ∙ sym (length-map (reached_by flow) (λ (a : Arrival). a.cut)))
    (in-below (points_in (reached_by flow)) flow (AreAmong-first_of_each [] (arrivals_of flow)))
