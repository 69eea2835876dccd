-- What is known of a store text by what came of it at a start.
use Rattle.std.proofs.Common.{◌≡◌, ℕ, List, Result, Ok, Err, subst}
use Rattle.std.specs.Prelude.{IfOk}
use Rattle.store_core.specs.Tables.{TypeEntry, VarEntry}
use Rattle.store_core.specs.Stores.{StoreMap}
use Rattle.routing_walks.specs.declared.fault.WfFault.{WfFault}
use Rattle.routing_walks.specs.WellFormed.{IsWellFormed, IsFirstFault}
use Rattle.store_exec.specs.declared.triple.Start.{Start}
use Rattle.store_exec.specs.Failing.{StartHolds}
use Rattle.store_text.specs.declared.fault.StoreFault.{StoreFault}
use Rattle.store_text.specs.Lines.{lines_of}
use Rattle.store_text.specs.Reading.{reading, read_text}
use Rattle.pale_starts.specs.declared.begun.Begun.{Begun}
use Rattle.pale_starts.specs.declared.begun.Begun.TheVariants as begun
use Rattle.pale_starts.specs.Begins.{StandsAt, not_well_formed, start_false, meets, Begins, refused, store}

module _ (types : List TypeEntry) (vars : List VarEntry) (start : Start) (lines : List (List ℕ)) where
  unread : (s : StoreMap) (b : Begun) → StandsAt types vars start s b → (fault : StoreFault) → b ≡ begun.Refused fault → ⊥
  unread s _ (not_well_formed wrong first) fault is = absurd (cc)
  unread s _ (start_false well other) fault is = absurd (cc)
  unread s _ (meets well holds) fault is = absurd (cc)

  -- it was refused
  pub is_refused : (b : Begun) → Begins types vars start lines b → (fault : StoreFault) → b ≡ begun.Refused fault → read_text types vars lines ≡ Err fault
  is_refused _ (refused other read) fault is =
      let same : other ≡ fault = cc in subst (λ (f : StoreFault). read_text types vars lines ≡ Err f) same read
  is_refused _ (store s b read stands) fault is = absurd (unread s b stands fault is)

  -- its store isn't well-formed
  pub is_ill : (b : Begun) → Begins types vars start lines b → (wrong : WfFault) → b ≡ begun.NotWellFormed wrong →
      (s : StoreMap) × (read_text types vars lines ≡ Ok s) × IsFirstFault types vars s wrong
  is_ill _ (refused fault read) wrong is = absurd (cc)
  is_ill _ (store s b read stands) wrong is = (s, read, by b stands is)
    where
      by : (b : Begun) → StandsAt types vars start s b → b ≡ begun.NotWellFormed wrong → IsFirstFault types vars s wrong
      by _ (not_well_formed other first) same = let one : other ≡ wrong = cc in subst (IsFirstFault types vars s) one first
      by _ (start_false well other) same = absurd (cc)
      by _ (meets well holds) same = absurd (cc)

  -- the start doesn't hold there
  pub is_false : (b : Begun) → Begins types vars start lines b → b ≡ begun.StartFalse →
      (s : StoreMap) × (read_text types vars lines ≡ Ok s) × IsWellFormed types vars s × (StartHolds types vars start s → ⊥)
  is_false _ (refused fault read) is = absurd (cc)
  is_false _ (store s b read stands) is = let (well, other) = by b stands is in (s, read, well, other)
    where
      by : (b : Begun) → StandsAt types vars start s b → b ≡ begun.StartFalse → IsWellFormed types vars s × (StartHolds types vars start s → ⊥)
      by _ (not_well_formed other first) same = absurd (cc)
      by _ (start_false well other) same = (well, other)
      by _ (meets well holds) same = absurd (cc)

  -- it holds in this store
  pub is_met : (b : Begun) → Begins types vars start lines b → (t : StoreMap) → b ≡ begun.Meets t →
      (read_text types vars lines ≡ Ok t) × IsWellFormed types vars t × StartHolds types vars start t
  is_met _ (refused fault read) t is = absurd (cc)
  is_met _ (store s b read stands) t is = by b stands is
    where
      by : (b : Begun) → StandsAt types vars start s b → b ≡ begun.Meets t →
          (read_text types vars lines ≡ Ok t) × IsWellFormed types vars t × StartHolds types vars start t
      by _ (not_well_formed other first) same = absurd (cc)
      by _ (start_false well other) same = absurd (cc)
      by _ (meets well holds) same =
          let one : s ≡ t = cc in
          subst (λ (u : StoreMap). (read_text types vars lines ≡ Ok u) × IsWellFormed types vars u × StartHolds types vars start u) one (read, well, holds)

-- ---- what comes of a text

module _ (types : List TypeEntry) (vars : List VarEntry) (start : Start) (text : List ℕ) where
  -- what comes of its store
  pub brought : {E : Type 0} (s : StoreMap) → reading types vars text ≡ Ok s → (r : Result Begun E) → IfOk r (StandsAt types vars start s) →
      IfOk r (Begins types vars start (lines_of text))
  unfolding reading
  brought s read (Err e) stands = tt
  brought s read (Ok b) stands = store s b read stands

  -- or its first fault
  pub unreadable : (fault : StoreFault) → reading types vars text ≡ Err fault → Begins types vars start (lines_of text) (begun.Refused fault)
  unfolding reading
  unreadable fault read = refused fault read
