-- Acts on two stores that are the same but for the names of their cells lead to two stores that are so, or to the same cause.
use Rattle.std.proofs.Common.{◌≡◌, ◌↔◌, ◌<◌, Bool, List, [], ◌∷◌, Option, Some, None, is_some, if◌then◌else◌, Result, Ok, Err, refl, sym, ◌∙◌, subst}
use Rattle.store_core.specs.declared.ids.FieldId.{FieldId}
use Rattle.store_core.specs.declared.ids.VarId.{VarId}
use Rattle.store_core.specs.declared.ids.CellId.{CellId}
use Rattle.store_core.specs.declared.value.Value.{Value}
use Rattle.store_core.specs.declared.value.Value.TheVariants as value
use Rattle.store_core.specs.Tables.{TypeEntry}
use Rattle.store_core.specs.Stores.{StoreMap, CellEntry, cell_of, field_value, set_field, set_var, remove_cell}
use Rattle.store_laws.specs.Changed.{next_cell}
use Rattle.routing_walks.specs.Pairing.{IsPair, PairsValue, PairsSlot, PairsEntry, ArePaired}
use Rattle.routing_walks.proofs.DecidedLemmas.{in_first}
use Rattle.routing_walks.proofs.PairLemmas.{field_paired}
use Rattle.store_logic.specs.declared.act.Rhs.{Rhs}
use Rattle.store_logic.specs.declared.act.Rhs.TheVariants as rhs
use Rattle.store_logic.specs.declared.act.Act.{Act}
use Rattle.store_logic.specs.declared.act.Act.TheVariants as act
use Rattle.store_logic.specs.declared.assertion.Assertion.{Assertion}
use Rattle.store_logic.specs.declared.region.Region.TheVariants as region
use Rattle.store_logic.specs.Terms.{outside}
use Rattle.store_logic.specs.Satisfaction.{SatAll}
use Rattle.store_logic.proofs.RenamingLemmas.{PairsStore-from_ArePaired}
use Rattle.store_logic.proofs.RenamedLemmas.{Sat-renamed}
use Rattle.store_exec.specs.declared.cause.Cause.{Cause}
use Rattle.store_exec.specs.declared.cause.Cause.TheVariants as cause
use Rattle.store_exec.specs.Steps.{and_then, cell_through, variable, operand_value, truth_of, evaluated, field_written, written, last_step, assigned}
use Rattle.store_exec.specs.Steps.{freed, Asserted, Step}
use Rattle.store_exec.specs.Renamed.{AreRenamed, with_new, StayRenamed, Alike}
use Rattle.store_exec.proofs.RenamedReads.{alike-then, alike-made, through-alike, variable-alike, operand-alike, LastAlike, last-alike, truth-same}
use Rattle.store_exec.proofs.RenamedChanges.{value_grown, removed-paired, set-paired, var-paired, with_new-has, stay-same, stay-put}

alike-from_same : {X : Type 0} (r q : Result X Cause) → r ≡ q → Alike (λ (x y : X). x ≡ y) r q
alike-from_same (Ok x) q e = subst (λ p. Alike (λ y z. y ≡ z) (Ok x) p) e refl
alike-from_same (Err why) q e = subst (λ p. Alike (λ y z. y ≡ z) (Err why) p) e refl

module _ (types : List TypeEntry) (pairs : List (CellId × CellId)) (s t : StoreMap) (h : AreRenamed pairs s t) where
  abbrev EvaluatedAlike : (StoreMap × Value) → (StoreMap × Value) → Type 0
  EvaluatedAlike x y = (stay : StayRenamed pairs s t x.0 y.0) × PairsValue (IsPair (with_new pairs s.next t.next stay.made)) x.1 y.1

  evaluated-alike : (x : Rhs) → Alike EvaluatedAlike (evaluated types s x) (evaluated types t x)
  evaluated-alike (rhs.Cell p) = alike-made (PairsValue (IsPair pairs)) EvaluatedAlike (λ x. (s, x)) (λ y. (t, y))
      (λ x y k. (stay-same pairs s t h, k)) (operand_value s p) (operand_value t p) (operand-alike (IsPair pairs) s t h.paired p)
  evaluated-alike (rhs.New v) = (stay-put types v pairs s t h, in_first (next_cell s, next_cell t) pairs)
  evaluated-alike (rhs.Truth c) = alike-made (λ (a b : Bool). a ≡ b) EvaluatedAlike (λ a. (s, value.Bool a)) (λ b. (t, value.Bool b))
      (λ a b k. (stay-same pairs s t h, k)) (truth_of s c) (truth_of t c)
      (alike-from_same (truth_of s c) (truth_of t c) (truth-same (IsPair pairs) s t h.paired c))

  -- stores in whose place stand two with the same next numbers
  stay-with : (u w next other : StoreMap) (stay : StayRenamed pairs s t u w) → next.next ≡ u.next → other.next ≡ w.next →
      ArePaired (IsPair (with_new pairs s.next t.next stay.made)) next other → StayRenamed pairs s t next other
  stay-with u w next other stay e i k = record {
    made = stay.made;
    number = e ∙ stay.number;
    other_number = i ∙ stay.other_number;
    renamed = record {
      paired = k;
      below = λ c d p. let b = stay.renamed.below c d p in (subst (λ n. c.0 < n) (sym e) b.0, subst (λ n. d.0 < n) (sym i) b.1);
    };
  }

  -- ---- writing

  module _ (u w : StoreMap) (stay : StayRenamed pairs s t u w) where
    abbrev Now : CellId → CellId → Type 0
    Now = IsPair (with_new pairs s.next t.next stay.made)

    field-alike : (c d : CellId) (f : FieldId) (x y : Value) → Now c d → PairsValue Now x y → (o p : Option Value) → PairsSlot Now o p →
        Alike (StayRenamed pairs s t) (if is_some o then Ok (set_field u c f x) else Err cause.Variant)
        (if is_some p then Ok (set_field w d f y) else Err cause.Variant)
    field-alike c d f x y k values None None e = refl
    field-alike c d f x y k values (Some old) (Some other) e = stay-with u w (set_field u c f x) (set_field w d f y) stay refl refl
        (set-paired Now u w stay.renamed.paired c d f x y k values)
    field-alike c d f x y k values o p e = absurd e

    written-alike : (through other : Value) (f : FieldId) (x y : Value) → PairsValue Now through other → PairsValue Now x y →
        Alike (StayRenamed pairs s t) (written u through f x) (written w other f y)
    written-alike through other f x y k values = alike-then Now (StayRenamed pairs s t) (field_written u f x) (field_written w f y)
        (λ c d p. field-alike c d f x y p values (field_value u c f) (field_value w d f) (field_paired Now u w stay.renamed.paired c d f p))
        (cell_through u through) (cell_through w other) (through-alike Now u w stay.renamed.paired through other k)

  assigned-alike : (v : VarId) (fields : List FieldId) (x : Rhs) →
      Alike (StayRenamed pairs s t) (assigned types s v fields x) (assigned types t v fields x)
  assigned-alike v [] x = alike-made EvaluatedAlike (StayRenamed pairs s t) (λ got. set_var got.0 v got.1) (λ got. set_var got.0 v got.1)
      (λ got other k. stay-with got.0 other.0 (set_var got.0 v got.1) (set_var other.0 v other.1) k.0 refl refl
      (var-paired (IsPair (with_new pairs s.next t.next k.0.made)) got.0 other.0 k.0.renamed.paired v got.1 other.1 k.1))
      (evaluated types s x) (evaluated types t x) (evaluated-alike x)
  assigned-alike v (f ∷ fields) x = alike-then (LastAlike (IsPair pairs) s t h.paired) (StayRenamed pairs s t)
      (λ step. and_then (λ got. written got.0 step.0 step.1 got.1) (evaluated types s x))
      (λ step. and_then (λ got. written got.0 step.0 step.1 got.1) (evaluated types t x))
      (λ step other k. alike-then EvaluatedAlike (StayRenamed pairs s t) (λ got. written got.0 step.0 step.1 got.1)
      (λ got. written got.0 other.0 other.1 got.1)
      (λ got also e. subst (λ g. Alike (StayRenamed pairs s t) (written got.0 step.0 step.1 got.1) (written also.0 other.0 g also.1)) k.1
      (written-alike got.0 also.0 e.0 step.0 other.0 step.1 got.1 also.1
      (value_grown (IsPair pairs) (IsPair (with_new pairs s.next t.next e.0.made)) (with_new-has e.0.made s.next t.next pairs) step.0 other.0 k.0) e.1))
      (evaluated types s x) (evaluated types t x) (evaluated-alike x))
      (last_step s (variable s v) f fields) (last_step t (variable t v) f fields)
      (last-alike (IsPair pairs) s t h.paired f fields (variable s v) (variable t v) (variable-alike (IsPair pairs) s t h.paired v))

  -- ---- freeing

  removed-alike : (c d : CellId) → IsPair pairs c d → (o p : Option CellEntry) → PairsEntry (IsPair pairs) o p →
      Alike (StayRenamed pairs s t) (if is_some o then Ok (remove_cell s c) else Err cause.DoubleFree)
      (if is_some p then Ok (remove_cell t d) else Err cause.DoubleFree)
  removed-alike c d k None None e = refl
  removed-alike c d k (Some cell) (Some other) e = stay-with s t (remove_cell s c) (remove_cell t d) (stay-same pairs s t h) refl refl
      (removed-paired (IsPair pairs) s t h.paired c d k)
  removed-alike c d k o p e = absurd e

  freed-alike : (x y : Value) → PairsValue (IsPair pairs) x y → Alike (StayRenamed pairs s t) (freed s x) (freed t y)
  freed-alike (value.Bool truth) (value.Bool other) k = refl
  freed-alike (value.Cell None) (value.Cell None) k = refl
  freed-alike (value.Cell (Some c)) (value.Cell (Some d)) k = removed-alike c d k (cell_of s c) (cell_of t d) (h.paired.cells c d k)
  freed-alike (value.Cells cells) (value.Cells others) k = refl
  freed-alike x y k = absurd k

  -- ---- assertions

  sat-same : (a : Assertion) → SatAll types [] s outside a ↔ SatAll types [] t outside a
  sat-same a = Sat-renamed types [] [] (IsPair pairs) s t (PairsStore-from_ArePaired (IsPair pairs) s t h.paired) outside outside
      (record { bound = tt; params = tt }) region.All a

  -- what one store leads to, and the other
  abbrev LeadsAlike : Act → Result StoreMap Cause → Type 0
  LeadsAlike a r = (q : Result StoreMap Cause) × Step types t a q × Alike (StayRenamed pairs s t) r q

  asserted-alike : (a : Assertion) (r : Result StoreMap Cause) → Asserted types s a r → LeadsAlike (act.Assert a) r
  asserted-alike a (Ok next) k = (Ok t, (refl, (sat-same a).0 k.1), subst (λ u. StayRenamed pairs s t u t) (sym k.0) (stay-same pairs s t h))
  asserted-alike a (Err why) k = (Err why, (k.0, λ sat. k.1 ((sat-same a).1 sat)), refl)

  pub Step-renamed : (a : Act) (r : Result StoreMap Cause) → Step types s a r → LeadsAlike a r
  Step-renamed (act.Assign p x) r k = (
    assigned types t p.var p.fields x,
    refl,
    subst (λ q. Alike (StayRenamed pairs s t) q (assigned types t p.var p.fields x)) k (assigned-alike p.var p.fields x),
  )
  Step-renamed (act.Free v) r k = (
    freed t (variable t v),
    refl,
    subst (λ q. Alike (StayRenamed pairs s t) q (freed t (variable t v))) k
        (freed-alike (variable s v) (variable t v) (variable-alike (IsPair pairs) s t h.paired v)),
  )
  Step-renamed (act.Assert a) r k = asserted-alike a r k
