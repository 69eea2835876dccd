-- On what comes and goes beside others: one change after the other, and what each change of a shelf is.
use Rattle.std.proofs.Common.{◌≡◌, ℕ, ◌+◌, inl, inr, zero, suc, List, [], ◌∷◌, ◌++◌, Contains, Option, is_some, refl, sym, ◌∙◌, ap, subst, arith, append_assoc}
use Rattle.std.proofs.lemmas.List.Elements.{Contains-append_left, Contains-append_right, Contains-append_cases}
use Rattle.bdd_nodes.specs.Shelf.{Contents, IsShelf, limit_of}
use Rattle.bdd_nodes.specs.declared.node_ref.NodeRef.{NodeRef}
use Rattle.bdd_nodes.specs.Changes.{Keeps, SameTables, DropsTable, MovesRoots}
use Rattle.bdd_nodes.proofs.CallerLemmas.{Keeps-same}
use Rattle.gta_theory.specs.Guides.{Spaces}
use Rattle.gta_core.specs.Auto.{AutoView, IsAuto}
use Rattle.gta_core.specs.Changes.{KeepsTable, RegistersTable, AddsOneTable}
use Rattle.gta_core.proofs.AutoLemmas.{KeepsTable-grown, KeepsTable-moved}
use Rattle.ws2s_core.specs.declared.node.FormulaId.{FormulaId}
use Rattle.gta_keep.specs.Holding.{times, Holds, HoldsBeside, KeepsSome, Passes, beside, kept_autos}
use Rattle.gta_keep.proofs.HoldingLemmas.{times-append, KeepsTable-joins, Holds-registered, Holds-same, Holds-release, kept-release, Holds-still}
use Rattle.gta_keep.proofs.HoldingLemmas.{Holds-collected, Holds-registers}

abbrev pub Entries : Type 0
Entries = List (FormulaId × AutoView)

pub KeepsTable-same : (shelf : Contents) (number : ℕ) → KeepsTable shelf shelf number
KeepsTable-same shelf number = record { registered = λ there. there; functions = λ place. refl }

pub KeepsTable-both : (old middle new : Contents) (number : ℕ) → KeepsTable old middle number → KeepsTable middle new number →
    KeepsTable old new number
KeepsTable-both old middle new number first second = record {
  registered = λ there. second.registered (first.registered there);
  functions = λ place. second.functions place ∙ first.functions place;
}

-- an entry's automaton is one of those that are kept
pub Contains-kept : (kept : Entries) (entry : FormulaId × AutoView) → Contains kept entry → Contains (kept_autos kept) entry.1
Contains-kept [] entry (k, lt, is) = absurd (omega (arith, lt))
Contains-kept (first ∷ kept) entry (zero, lt, is) = (0, omega arith, ap (λ (e : FormulaId × AutoView). e.1) is)
Contains-kept (first ∷ kept) entry (suc k, lt, is) =
    let (j, below, at) = Contains-kept kept entry (k, omega (arith, lt), is) in (suc j, omega (arith, below), at)

-- and so it is one of all that are held
pub Contains-beside : (xs others : List AutoView) (kept : Entries) (entry : FormulaId × AutoView) → Contains kept entry →
    Contains (beside xs others kept) entry.1
Contains-beside xs others kept entry there =
    Contains-append_right xs (others ++ kept_autos kept) entry.1
    (Contains-append_right others (kept_autos kept) entry.1 (Contains-kept kept entry there))

pub Contains-other : (xs others : List AutoView) (kept : Entries) (other : AutoView) → Contains others other →
    Contains (beside xs others kept) other
Contains-other xs others kept other there =
    Contains-append_right xs (others ++ kept_autos kept) other (Contains-append_left others (kept_autos kept) other there)

-- an automaton of those that are kept is that of an entry
pub Contains-entry : (kept : Entries) (a : AutoView) → Contains (kept_autos kept) a →
    (entry : FormulaId × AutoView) × Contains kept entry × (entry.1 ≡ a)
Contains-entry [] a (k, lt, is) = absurd (omega (arith, lt))
Contains-entry (first ∷ kept) a (zero, lt, is) = (first, (0, omega arith, refl), is)
Contains-entry (first ∷ kept) a (suc k, lt, is) =
    let (entry, (j, below, at), same) = Contains-entry kept a (k, omega (arith, lt), is) in (entry, (suc j, omega (arith, below), at), same)

-- where tables stay, what is kept stays
pub KeepsSome-all : (old new : Contents) (kept : Entries) →
    ((entry : FormulaId × AutoView) → Contains kept entry → KeepsTable old new (entry.1).table) → KeepsSome old new kept kept
KeepsSome-all old new kept tables = record { entries = λ entry there. there; tables = tables }

module _ (g : Spaces) where
  -- nothing changes
  pub Passes-none : (shelf : Contents) (xs : List AutoView) (kept : Entries) → Passes g shelf shelf xs xs kept kept
  Passes-none shelf xs kept = record {
    kept = KeepsSome-all shelf shelf kept (λ entry there. KeepsTable-same shelf (entry.1).table);
    holds = λ others holds. holds;
    others = λ others other holds there. KeepsTable-same shelf other.table;
    limit = refl;
  }

  -- one change after the other
  pub Passes-both : (old middle new : Contents) (xs ys zs : List AutoView) (before between after : Entries) →
      Passes g old middle xs ys before between → Passes g middle new ys zs between after → Passes g old new xs zs before after
  Passes-both old middle new xs ys zs before between after first second = record {
    kept = record {
      entries = λ entry there. first.kept.entries entry (second.kept.entries entry there);
      tables = λ entry there. KeepsTable-both old middle new (entry.1).table
          (first.kept.tables entry (second.kept.entries entry there)) (second.kept.tables entry there);
    };
    holds = λ others holds. second.holds others (first.holds others holds);
    others = λ others other holds there. KeepsTable-both old middle new other.table
        (first.others others other holds there) (second.others others other (first.holds others holds) there);
    limit = second.limit ∙ first.limit;
  }

  pub HoldsBeside-after : (old new : Contents) (xs ys : List AutoView) (before after : Entries) → Passes g old new xs ys before after →
      HoldsBeside g old xs before → HoldsBeside g new ys after
  HoldsBeside-after old new xs ys before after passes held =
      record { others = held.others; holds = passes.holds held.others held.holds }

  -- beside others that wait
  pub Holds-beside : (shelf : Contents) (xs others : List AutoView) (kept : Entries) → Holds g shelf (beside xs others kept) →
      Holds g shelf (beside [] (xs ++ others) kept)
  Holds-beside shelf xs others kept holds = subst (Holds g shelf) (sym (append_assoc xs others (kept_autos kept))) holds

  pub Holds-among : (shelf : Contents) (xs others : List AutoView) (kept : Entries) → Holds g shelf (beside [] (xs ++ others) kept) →
      Holds g shelf (beside xs others kept)
  Holds-among shelf xs others kept holds = subst (Holds g shelf) (append_assoc xs others (kept_autos kept)) holds

  pub HoldsBeside-none : (shelf : Contents) (xs : List AutoView) (kept : Entries) → HoldsBeside g shelf xs kept → HoldsBeside g shelf [] kept
  HoldsBeside-none shelf xs kept held =
      record { others = xs ++ held.others; holds = Holds-beside shelf xs held.others kept held.holds }

  pub Passes-beside : (old new : Contents) (xs : List AutoView) (before after : Entries) → Passes g old new [] [] before after →
      Passes g old new xs xs before after
  Passes-beside old new xs before after passes = record {
    kept = passes.kept;
    holds = λ others holds. Holds-among new xs others after (passes.holds (xs ++ others) (Holds-beside old xs others before holds));
    others = λ others other holds there. passes.others (xs ++ others) other (Holds-beside old xs others before holds)
        (Contains-append_right xs others other there);
    limit = passes.limit;
  }

  -- those that wait stay
  pub KeepsTable-waits : (old new : Contents) (xs : List AutoView) (before after : Entries) → Passes g old new [] [] before after →
      HoldsBeside g old xs before → (a : AutoView) → Contains xs a → KeepsTable old new a.table
  KeepsTable-waits old new xs before after passes held a there =
      passes.others (xs ++ held.others) a (Holds-beside old xs held.others before held.holds) (Contains-append_left xs held.others a there)

  -- the automata in another order, also those that are kept, of which some may wait
  pub Holds-order : (shelf : Contents) (xs ys others : List AutoView) (before after : Entries) →
      ((t : ℕ) → times ys t + times (kept_autos after) t ≡ times xs t + times (kept_autos before) t) →
      ((a : AutoView) → Contains ys a → Contains (xs ++ kept_autos before) a) →
      ((a : AutoView) → Contains (kept_autos after) a → Contains (xs ++ kept_autos before) a) →
      Holds g shelf (beside xs others before) → Holds g shelf (beside ys others after)
  Holds-order shelf xs ys others before after same waits keeps holds =
      Holds-same g shelf (beside xs others before) (beside ys others after) order inside holds where
        order : (t : ℕ) → times (beside ys others after) t ≡ times (beside xs others before) t
        order t =
            let e = same t in
            let x = times-append xs (others ++ kept_autos before) t in
            let y = times-append ys (others ++ kept_autos after) t in
            let u = times-append others (kept_autos before) t in
            let v = times-append others (kept_autos after) t in
            omega arith

        among : (a : AutoView) → Contains (xs ++ kept_autos before) a → Contains (beside xs others before) a
        among a there = elim (Contains-append_cases xs (kept_autos before) a there) [
          | inl first ↦ Contains-append_left xs (others ++ kept_autos before) a first
          | inr later ↦ Contains-append_right xs (others ++ kept_autos before) a (Contains-append_right others (kept_autos before) a later)
        ]

        rest : (a : AutoView) → Contains (others ++ kept_autos after) a → Contains (beside xs others before) a
        rest a there = elim (Contains-append_cases others (kept_autos after) a there) [
          | inl other ↦ Contains-other xs others before a other
          | inr later ↦ among a (keeps a later)
        ]

        inside : (a : AutoView) → Contains (beside ys others after) a → Contains (beside xs others before) a
        inside a there = elim (Contains-append_cases ys (others ++ kept_autos after) a there) [
          | inl first ↦ among a (waits a first)
          | inr later ↦ rest a later
        ]

  pub Passes-order : (shelf : Contents) (xs ys : List AutoView) (before after : Entries) →
      ((t : ℕ) → times ys t + times (kept_autos after) t ≡ times xs t + times (kept_autos before) t) →
      ((a : AutoView) → Contains ys a → Contains (xs ++ kept_autos before) a) →
      ((entry : FormulaId × AutoView) → Contains after entry → Contains before entry) → Passes g shelf shelf xs ys before after
  Passes-order shelf xs ys before after same waits entries = record {
    kept = record { entries = entries; tables = λ entry there. KeepsTable-same shelf (entry.1).table };
    holds = λ others. Holds-order shelf xs ys others before after same waits keeps;
    others = λ others other holds there. KeepsTable-same shelf other.table;
    limit = refl;
  } where
    keeps : (a : AutoView) → Contains (kept_autos after) a → Contains (xs ++ kept_autos before) a
    keeps a there =
        let (entry, inside, is) = Contains-entry after a there in
        subst (Contains (xs ++ kept_autos before)) is
        (Contains-append_right xs (kept_autos before) entry.1 (Contains-kept before entry (entries entry inside)))

  -- two in the other order
  pub Passes-swap : (shelf : Contents) (a b : AutoView) (kept : Entries) → Passes g shelf shelf (a ∷ b ∷ []) (b ∷ a ∷ []) kept kept
  Passes-swap shelf a b kept = Passes-order shelf (a ∷ b ∷ []) (b ∷ a ∷ []) kept kept (λ t. omega arith) inside (λ entry there. there) where
    inside : (c : AutoView) → Contains (b ∷ a ∷ []) c → Contains (a ∷ b ∷ kept_autos kept) c
    inside c (zero, lt, is) = (1, omega arith, is)
    inside c (suc zero, lt, is) = (0, omega arith, is)
    inside c (suc (suc k), lt, is) = absurd (omega (arith, lt))

  -- the first is let go of
  pub Passes-release : (old new : Contents) (a : AutoView) (xs : List AutoView) (kept : Entries) (h : Spaces) → HoldsBeside h old (a ∷ xs) kept →
      IsShelf new → DropsTable old new a.table → Passes g old new (a ∷ xs) xs kept kept
  Passes-release old new a xs kept h held is_shelf drops = record {
    kept = KeepsSome-all old new kept (λ entry there.
        kept-release h old new a (beside xs held.others kept) held.holds is_shelf drops entry.1 (Contains-beside xs held.others kept entry there));
    holds = λ others holds. Holds-release g old new a (beside xs others kept) holds is_shelf drops;
    others = λ others other holds there.
        kept-release g old new a (beside xs others kept) holds is_shelf drops other (Contains-other xs others kept other there);
    limit = drops.nodes.limit;
  }

  -- nodes are made
  pub Passes-made : (old new : Contents) (kept : Entries) → IsShelf old → IsShelf new → Keeps old new → SameTables old new →
      limit_of new ≡ limit_of old → Passes g old new [] [] kept kept
  Passes-made old new kept was_shelf is_shelf keeps same limit = record {
    kept = KeepsSome-all old new kept (λ entry there. KeepsTable-joins old new was_shelf keeps same (entry.1).table);
    holds = λ others holds. Holds-still g old new (beside [] others kept) holds is_shelf keeps same;
    others = λ others other holds there. KeepsTable-joins old new was_shelf keeps same other.table;
    limit = limit;
  }

  -- nodes are collected
  pub Passes-collected : (old new : Contents) (kept : Entries) → IsShelf new → MovesRoots old new →
      limit_of new ≡ limit_of old → Passes g old new [] [] kept kept
  Passes-collected old new kept is_shelf moves limit = record {
    kept = KeepsSome-all old new kept (λ entry there. KeepsTable-moved old new moves (entry.1).table);
    holds = λ others holds. Holds-collected g old new (beside [] others kept) holds is_shelf moves;
    others = λ others other holds there. KeepsTable-moved old new moves other.table;
    limit = limit;
  }

  -- an automaton is built
  pub Passes-registers : (old new : Contents) (c : AutoView) (xs : List AutoView) (kept : Entries) (h : Spaces) → HoldsBeside h old xs kept →
      IsShelf new → Keeps old new → RegistersTable old new c.table →
      ((others : List AutoView) → Holds g old (beside xs others kept) → IsAuto g new c) → limit_of new ≡ limit_of old →
      Passes g old new xs (c ∷ xs) kept kept
  Passes-registers old new c xs kept h held is_shelf keeps registers auto limit = record {
    kept = KeepsSome-all old new kept (λ entry there. stays h (beside xs held.others kept) held.holds entry.1
        (Contains-beside xs held.others kept entry there));
    holds = λ others holds. Holds-registers g old new c (beside xs others kept) holds is_shelf keeps registers (auto others holds);
    others = λ others other holds there. stays g (beside xs others kept) holds other (Contains-other xs others kept other there);
    limit = limit;
  } where
    stays : (i : Spaces) (autos : List AutoView) → Holds i old autos → (a : AutoView) → Contains autos a → KeepsTable old new a.table
    stays i autos holds a there =
        KeepsTable-grown old new a.table c.table holds.is_shelf keeps registers (Holds-registered i old autos holds a there)

  -- a table is added for an automaton
  pub Passes-added : (old new : Contents) (c : AutoView) (xs : List AutoView) (kept : Entries) (h : Spaces) → HoldsBeside h old xs kept →
      IsShelf new → AddsOneTable old new c.table → ((others : List AutoView) → Holds g old (beside xs others kept) → IsAuto g new c) →
      Passes g old new xs (c ∷ xs) kept kept
  Passes-added old new c xs kept h held is_shelf one auto =
      let adds = one.adds in
      Passes-registers old new c xs kept h held is_shelf (Keeps-same old new adds.nodes) (record {
        number = adds.number;
        added = adds.added;
        registered = ap (λ (o : Option (List NodeRef)). is_some o) adds.roots;
        others = adds.others;
      }) auto adds.nodes.limit
