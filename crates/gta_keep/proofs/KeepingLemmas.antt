-- On keeping a copy of an automaton: what the shelf holds then, whatever falls out.
use Rattle.std.proofs.Common.{◌≡◌, ℕ, ◌≤◌, ◌⊎◌, inl, inr, Bool, true, Option, Some, None, List, [], ◌∷◌, length, Contains, IsSome, refl, sym, ◌∙◌, ap, subst}
use Rattle.std.proofs.Common.{arith}
use Rattle.lru.specs.LruCache.{LruCache, put_entries, displaced}
use Rattle.bdd_nodes.specs.Shelf.{Contents, IsShelf, roots_of}
use Rattle.bdd_nodes.specs.Changes.{DropsTable}
use Rattle.gta_theory.specs.Guides.{Spaces}
use Rattle.gta_core.specs.Auto.{AutoView, states_of, automaton_of, IsAuto}
use Rattle.gta_core.specs.Changes.{KeepsTable, AddsOneTable}
use Rattle.gta_core.proofs.AutoLemmas.{automaton_of-kept}
use Rattle.ws2s_core.specs.declared.node.FormulaId.{FormulaId}
use Rattle.gta_keep.specs.Holding.{Holds, HoldsBeside, IsCopy, IsKeptCopy, WasOrIsCopy, TakesIn, Passes, beside}
use Rattle.gta_keep.proofs.HoldingLemmas.{kept-release, Holds-release}
use Rattle.gta_keep.proofs.PassesLemmas.{Entries, KeepsTable-same, KeepsTable-both, Contains-beside, Contains-other, Passes-both, Passes-none, Passes-release}
use Rattle.gta_keep.proofs.PassesLemmas.{Passes-added, HoldsBeside-none, HoldsBeside-after}
use Rattle.gta_keep.proofs.KeptLemmas.{outs, put-there, put-entry, Holds-put}

-- where nothing came, nothing is taken in
pub TakesIn-passes : (g : Spaces) (old new : Contents) (id : FormulaId) (auto : AutoView) (kept : Entries) → Passes g old new [] [] kept kept →
    TakesIn g old new id auto kept kept
TakesIn-passes g old new id auto kept passes = record {
  entries = λ entry there. inl (there, passes.kept.tables entry there);
  holds = passes.holds;
  others = passes.others;
  limit = passes.limit;
}

pub TakesIn-none : (g : Spaces) (old : Contents) (id : FormulaId) (auto : AutoView) (kept : Entries) → TakesIn g old old id auto kept kept
TakesIn-none g old id auto kept = TakesIn-passes g old old id auto kept (Passes-none g old [] kept)

module _ (h : Spaces) (old mid : Contents) (kept : Entries) (id : FormulaId) (auto copy : AutoView) (held : HoldsBeside h old (auto ∷ []) kept)
    (mid_shelf : IsShelf mid) (one : AddsOneTable old mid copy.table) (autos : (g : Spaces) → IsAuto g old auto → IsAuto g mid copy) where
  beside_none : HoldsBeside h old [] kept
  beside_none = HoldsBeside-none h old (auto ∷ []) kept held

  is_auto : IsAuto h old auto
  is_auto = held.holds.each auto (0, omega arith, refl)

  added : (g : Spaces) → IsAuto g old auto → Passes g old mid [] (copy ∷ []) kept kept
  added g is = Passes-added g old mid copy [] kept h beside_none mid_shelf one (λ others holds. autos g is)

  held_copy : HoldsBeside h mid (copy ∷ []) kept
  held_copy = HoldsBeside-after h old mid [] (copy ∷ []) kept kept (added h is_auto) beside_none

  -- there was no memory to keep it
  pub registered-copy : IsSome (roots_of mid copy.table)
  registered-copy = (held_copy.holds.each copy (0, omega arith, refl)).registered

  pub takes-refused : (new : Contents) → IsShelf new → DropsTable mid new copy.table → (g : Spaces) → IsAuto g old auto →
      TakesIn g old new id auto kept kept
  takes-refused new is_shelf drops g is =
      TakesIn-passes g old new id auto kept
      (Passes-both g old mid new [] (copy ∷ []) [] kept kept kept (added g is) (Passes-release g mid new copy [] kept h held_copy is_shelf drops))

  module _ (eq : FormulaId → FormulaId → Bool) (exact : (x y : FormulaId) → eq x y ≡ true → x ≡ y) (cap : ℕ) (few : length kept ≤ cap)
      (same : automaton_of mid copy ≡ automaton_of old auto) (states : (s : ℕ) → states_of copy s ≡ states_of auto s) (after : Entries) where
    abbrev cache : LruCache FormulaId AutoView
    cache = record { entries = kept; cap = cap }

    module _ (are : after ≡ put_entries eq cache id copy) where
      put : (g : Spaces) → IsAuto g old auto → (out : Option (FormulaId × AutoView)) → out ≡ displaced eq cache id copy → (others : List AutoView) →
          Holds g old (beside [] others kept) → Holds g mid (beside (outs out) others after)
      put g is out falls others holds =
          subst (λ (es : Entries). Holds g mid (beside (outs out) others es)) (sym are)
          (subst (λ (o : Option (FormulaId × AutoView)). Holds g mid (beside (outs o) others (put_entries eq cache id copy))) (sym falls)
          (Holds-put eq cache few id copy exact g mid others ((added g is).holds others holds)))

      which : (entry : FormulaId × AutoView) → Contains after entry → Contains kept entry ⊎ ((entry.0 ≡ id) × (entry.1 ≡ copy))
      which entry there = put-entry eq cache few id copy exact entry (subst (λ (es : Entries). Contains es entry) are there)

      here : Contains after (id, copy)
      here = subst (λ (es : Entries). Contains es (id, copy)) (sym are) (put-there eq cache few id copy exact)

      copy_stays : (new : Contents) (now : AutoView) → now ≡ copy → KeepsTable mid new now.table → IsCopy old new auto now
      copy_stays new now is keeps = record {
        automaton = automaton_of-kept mid new now keeps ∙ ap (λ (a : AutoView). automaton_of mid a) is ∙ same;
        states = λ s. ap (λ (a : AutoView). states_of a s) is ∙ states s;
      }

      -- from the shelf with the copy on, where tables of what is kept stay
      was_or_is : (new : Contents) → ((entry : FormulaId × AutoView) → Contains after entry → KeepsTable mid new (entry.1).table) →
          (entry : FormulaId × AutoView) → Contains after entry → WasOrIsCopy old new id auto kept entry
      was_or_is new keeps entry there = elim (which entry there) [
        | inl was ↦ inl (was, KeepsTable-both old mid new (entry.1).table ((added h is_auto).kept.tables entry was) (keeps entry there))
        | inr (key, value) ↦ inr (key, copy_stays new entry.1 value (keeps entry there))
      ]

      -- nothing falls out
      pub takes-none : None ≡ displaced eq cache id copy → (g : Spaces) → IsAuto g old auto → TakesIn g old mid id auto kept after
      takes-none falls g is = record {
        entries = was_or_is mid (λ entry there. KeepsTable-same mid (entry.1).table);
        holds = λ others holds. put g is None falls others holds;
        others = λ others other holds there. (added g is).others others other holds there;
        limit = (added g is).limit;
      }

      pub kept-none : IsKeptCopy old mid id auto after
      kept-none = record { now = copy; there = here; copies = copy_stays mid copy refl (KeepsTable-same mid copy.table) }

      -- one falls out
      module _ (e : FormulaId × AutoView) (falls : Some e ≡ displaced eq cache id copy) where
        held_out : Holds h mid (e.1 ∷ beside [] beside_none.others after)
        held_out = put h is_auto (Some e) falls beside_none.others beside_none.holds

        pub registered-out : IsSome (roots_of mid (e.1).table)
        registered-out = (held_out.each e.1 (0, omega arith, refl)).registered

        module _ (new : Contents) (is_shelf : IsShelf new) (drops : DropsTable mid new (e.1).table) where
          stays : (entry : FormulaId × AutoView) → Contains after entry → KeepsTable mid new (entry.1).table
          stays entry there =
              kept-release h mid new e.1 (beside [] beside_none.others after) held_out is_shelf drops entry.1
              (Contains-beside [] beside_none.others after entry there)

          pub takes-out : (g : Spaces) → IsAuto g old auto → TakesIn g old new id auto kept after
          takes-out g is = record {
            entries = was_or_is new stays;
            holds = λ others holds.
                Holds-release g mid new e.1 (beside [] others after) (put g is (Some e) falls others holds) is_shelf drops;
            others = λ others other holds there.
                KeepsTable-both old mid new other.table ((added g is).others others other holds there)
                (kept-release g mid new e.1 (beside [] others after) (put g is (Some e) falls others holds) is_shelf drops other
                (Contains-other [] others after other there));
            limit = drops.nodes.limit ∙ (added g is).limit;
          }

          pub kept-out : IsKeptCopy old new id auto after
          kept-out = record { now = copy; there = here; copies = copy_stays new copy refl (stays (id, copy) here) }

-- what came is held
pub HoldsBeside-taken : (g : Spaces) (old new : Contents) (id : FormulaId) (auto : AutoView) (before after : Entries) → HoldsBeside g old [] before →
    TakesIn g old new id auto before after → HoldsBeside g new [] after
HoldsBeside-taken g old new id auto before after held takes = record { others = held.others; holds = takes.holds held.others held.holds }

-- a copy that stays is one
IsCopy-kept : (old mid new : Contents) (was now : AutoView) → IsCopy old mid was now → KeepsTable mid new now.table → IsCopy old new was now
IsCopy-kept old mid new was now copies keeps = record {
  automaton = automaton_of-kept mid new now keeps ∙ copies.automaton;
  states = copies.states;
}

-- and then some of what is kept is let go of
module _ (g : Spaces) (old mid new : Contents) (id : FormulaId) (auto : AutoView) where
  pub TakesIn-less : (before between after : Entries) → TakesIn g old mid id auto before between → Passes g mid new [] [] between after →
      TakesIn g old new id auto before after
  TakesIn-less before between after takes passes = record {
    entries = λ entry there.
        let keeps = passes.kept.tables entry there in
        elim (takes.entries entry (passes.kept.entries entry there)) [
          | inl was ↦ inl (was.0, KeepsTable-both old mid new (entry.1).table was.1 keeps)
          | inr came ↦ inr (came.0, IsCopy-kept old mid new auto entry.1 came.1 keeps)
        ];
    holds = λ others holds. passes.holds others (takes.holds others holds);
    others = λ others other holds there.
        KeepsTable-both old mid new other.table (takes.others others other holds there) (passes.others others other (takes.holds others holds) there);
    limit = passes.limit ∙ takes.limit;
  }

  pub IsKeptCopy-less : (between after : Entries) → IsKeptCopy old mid id auto between → Passes g mid new [] [] between after →
      ((now : AutoView) → Contains between (id, now) → Contains after (id, now)) → IsKeptCopy old new id auto after
  IsKeptCopy-less between after kept passes stays =
      let there = stays kept.now kept.there in
      record {
        now = kept.now;
        there = there;
        copies = IsCopy-kept old mid new auto kept.now kept.copies (passes.kept.tables (id, kept.now) there);
      }
