-- The formula by field is satisfied exactly where each live cell of the type is at one of its places.
use Rattle.std.proofs.Common.{◌≡◌, ℕ, suc, ◌<◌, ◌≤◌, ◌+◌, ◌⊎◌, inl, inr, true, false, List, [], ◌∷◌, ◌++◌, Option, Some, None, Contains}
use Rattle.std.proofs.Common.{append_assoc, refl, sym, ap, ◌∙◌, subst, arith}
use Rattle.std.proofs.lemmas.Bool.{true≢false, false≢true}
use Rattle.std.proofs.lemmas.List.{same_from_push}
use Rattle.gta_theory.specs.Assignments.{Position, Assignment, IsFinite, replace}
use Rattle.ws2s_core.specs.declared.formula.Formula.{Formula}
use Rattle.ws2s_core.specs.declared.formula.Formula.TheVariants.{Succ1, And, Ex2}
use Rattle.ws2s_core.specs.Satisfaction.{WSat}
use Rattle.ws2s_core.proofs.SatisfactionLemmas.{WSat-And, WSat-Not, WSat-Ex2, WSat-Succ1}
use Rattle.ws2s_forms.specs.Forms.{track, ex1}
use Rattle.ws2s_forms.specs.Places.{ones, child_of, with_position}
use Rattle.ws2s_forms.proofs.PositionsLemmas.{IsOnly-same, bound_other}
use Rattle.ws2s_forms.proofs.LawsLemmas.{law-ex1}
use Rattle.store_core.specs.declared.ids.TypeId.{TypeId}
use Rattle.store_core.specs.declared.ids.FieldId.{FieldId}
use Rattle.store_core.specs.declared.kind.FieldKind.TheVariants as field
use Rattle.store_core.specs.Tables.{TypeEntry, FieldEntry, VarEntry, IsTypeTable, field_at}
use Rattle.store_core.proofs.FittingLemmas.{IsSomeAnd-at}
use Rattle.tree_encode.specs.Tracks.{track_count}
use Rattle.tree_formula.specs.WellEncoded.{is_live, are_reached}
use Rattle.tree_store.specs.Shapes.{IsCellIn, IsSlotFor, IsChildFor, LaysOut}
use Rattle.tree_store.specs.Premises.{OwnersAreThere}
use Rattle.tree_store.proofs.PlacesLemmas.{are_reached-means}
use Rattle.tree_store.proofs.StandingLemmas.{StandsOn-bound, is_live-means}
use Rattle.tree_store.proofs.TablesLemmas.{owners-there}
use Rattle.tree_reached.specs.declared.ways.Way.{Way}
use Rattle.tree_reached.specs.ByField.{way, ways, last_number, are_at_ends, gaps, are_led_by, none_by_one, are_led_to, reached_by_field}
use Rattle.tree_reached.specs.Alike.{AlikeOnTrees}
use Rattle.tree_reached.proofs.WaysLemmas.{reached-ends, way-cases, slot-listed, child-listed, number-within}
use Rattle.tree_reached.proofs.BeginsLemmas.{IsFrom, Begins, KnowsHolders, AgreesOn}
use Rattle.tree_reached.proofs.GapsLemmas.{gap-parts, between, begun-once, split-ones, child-ones, below-child}
use Rattle.tree_reached.proofs.ChainLemmas.{Led, Owes, owes-first, by-sound, by-complete}

module _ (types : List TypeEntry) (vars : List VarEntry) (a : Assignment) (ty : TypeId) where
  holders-known : KnowsHolders types (ways types vars ty)
  holders-known w f among holder =
      elim (way-cases types vars ty w among) as (λ _. (entry : FieldEntry) × (field_at types f ≡ Some entry)) [
        | inl slot ↦ absurd (let none : ◌≡◌ {A = Option FieldId} None (Some f) = sym slot.0 ∙ holder in cc)
        | inr child ↦
            (let same : child.0 ≡ f = (let e : ◌≡◌ {A = Option FieldId} (Some child.0) (Some f) = sym child.1 ∙ holder in cc) in
            let (entry, there, kind) = IsSomeAnd-at (field_at types child.0) (λ (e : FieldEntry). e.kind ≡ field.Data ty) child.2.kind in
            (entry, subst (λ (g : FieldId). field_at types g ≡ Some entry) same there))
      ]

  -- where a way begins so many steps up, the position is a place
  begun-placed : (k : ℕ) (r p : Position) → Begins types a (ways types vars ty) k r → p ≡ child_of k r → IsSlotFor vars ty p ⊎ IsChildFor types a ty p
  begun-placed k r p begin is =
      let w = begin.path in
      let at : p ≡ child_of w.number r = is ∙ ap (λ (n : ℕ). child_of n r) (sym begin.steps) in
      elim (way-cases types vars ty w begin.among) as (λ _. IsSlotFor vars ty p ⊎ IsChildFor types a ty p) [
        | inl slot ↦
            (let root : r ≡ [] = subst (λ (o : Option FieldId). IsFrom types a o r) slot.0 begin.from in
            inl (record {
              variable = slot.1.variable;
              kind = slot.1.kind;
              slot = w.number;
              number = slot.1.number;
              position = at ∙ ap (λ (q : Position). child_of w.number q) root;
            }))
        | inr child ↦
            inr (record {
              along = child.0;
              kind = child.2.kind;
              child = w.number;
              number = child.2.number;
              parent = r;
              has = subst (λ (o : Option FieldId). IsFrom types a o r) child.1 begin.from;
              position = at;
            })
      ]

  -- and a place is below where a way begins
  placed-begun : (p : Position) → IsSlotFor vars ty p ⊎ IsChildFor types a ty p →
      (k : ℕ) × (r : Position) × Begins types a (ways types vars ty) k r × (p ≡ child_of k r)
  placed-begun p (inl slot) = (
    slot.slot,
    [],
    record {
      path = way slot.slot None;
      among = slot-listed types vars ty slot.slot (record { variable = slot.variable; kind = slot.kind; number = slot.number });
      steps = refl;
      from = refl;
    },
    slot.position,
  )
  placed-begun p (inr child) = (
    child.child,
    child.parent,
    record {
      path = way child.child (Some child.along);
      among = child-listed types vars ty child.along child.child (record { kind = child.kind; number = child.number });
      steps = refl;
      from = child.has;
    },
    child.position,
  )

  -- so ways lead to the places alone
  led-placed : (p : Position) → Led types a (ways types vars ty) 0 (last_number (ways types vars ty)) false p →
      IsSlotFor vars ty p ⊎ IsChildFor types a ty p
  led-placed p led =
      let e : 0 + led.more ≡ led.more = omega arith in
      begun-placed led.more led.from p (subst (λ (n : ℕ). Begins types a (ways types vars ty) n led.from) e led.begin) led.is

  placed-led : (p : Position) → IsSlotFor vars ty p ⊎ IsChildFor types a ty p →
      Led types a (ways types vars ty) 0 (last_number (ways types vars ty)) false p
  placed-led p placed =
      let (k, r, begin, is) = placed-begun p placed in
      let e : k ≡ 0 + k = omega arith in
      record {
        more = k;
        within = omega (arith, number-within (ways types vars ty) begin.path begin.among, begin.steps);
        from = r;
        begin = subst (λ (n : ℕ). Begins types a (ways types vars ty) n r) e begin;
        is = is;
      }

  -- what is led to is below no position by 1
  led-by-zero : (p r : Position) → Led types a (ways types vars ty) 0 (last_number (ways types vars ty)) false p → p ≡ r ++ true ∷ [] → ⊥
  led-by-zero p r led is =
      let at = sym (led.is ∙ sym (append_assoc led.from (ones led.more) (false ∷ []))) ∙ is in
      let (same, letters) = same_from_push (led.from ++ ones led.more) r false true at in
      false≢true letters

  none-by-one : (next : ℕ) → track_count types vars ≤ next → IsFinite a →
      ((p r : Position) → IsCellIn types a ty p → p ≡ r ++ true ∷ [] → ⊥) → WSat (none_by_one next types ty) a
  none-by-one next few finite none =
      let live = is_live (suc next) types ty next in
      let below = Ex2 (track (suc next)) (Succ1 (track (suc next)) (track next)) in
      (WSat-Not (ex1 next (And live below)) a).1 (λ some.
      let (p, holds) = (law-ex1 next (And live below) a).0 some in
      let b = with_position a next p in
      let stands = StandsOn-bound (track_count types vars) a next p few finite in
      let both = (WSat-And live below b).0 holds in
      let (set, bounded, step) = (WSat-Ex2 (track (suc next)) (Succ1 (track (suc next)) (track next)) b).0 both.1 in
      let (u, at_u, at_next) = (WSat-Succ1 (track (suc next)) (track next) (replace b (suc next) set)).0 step in
      let own : next < suc next = omega arith in
      none p u ((is_live-means types vars a b next p stands (suc next) ty).0 both.0)
      (IsOnly-same (b next) p (u ++ true ∷ []) stands.only ((bound_other b (suc next) next set (u ++ true ∷ []) own).0 at_next)))

  -- what is looked at for steps that are a gap apart is never one position
  module _ (laid : LaysOut types vars a) where
    abbrev all : List Way
    all = ways types vars ty

    -- the way to the cell begins above the position
    above : (k : ℕ) (q : Position) → Owes types a all ty k q →
        (s : ℕ) × (r : Position) × Begins types a all (k + suc s) r × (q ≡ r ++ ones (suc s))
    above k q owes =
        let (i, r, begin, is) = placed-begun (child_of k q) (laid.placed ty (child_of k q) owes.live) in
        elim (split-ones q r k i (child-ones q r k i is)) as (λ _. (s : ℕ) × (r : Position) × Begins types a all (k + suc s) r × (q ≡ r ++ ones (suc s))) [
          | inl not_above ↦ absurd (owes.none i not_above.0 (subst (Begins types a all i) not_above.1 begin))
          | inr found ↦ (found.0, r, subst (λ (m : ℕ). Begins types a all m r) found.1 begin, found.2)
        ]

    never-both : (j m gap : ℕ) (q : Position) → Contains (gaps types all) gap → m ≡ j + gap → Owes types a all ty j q → Owes types a all ty m q → ⊥
    never-both j m gap q listed sum one other =
        let (s, r, begin, below) = above j q one in
        let (t, u, start, under) = above m q other in
        let same = sym (below-child q r (suc s) below) ∙ below-child q u (suc t) under in
        let (steps, alike) = begun-once types vars a laid all holders-known begin.path start.path r u (suc s) (suc t) begin.among start.among begin.from
        start.from same in
        let number : begin.path.number + gap ≡ start.path.number = omega (arith, begin.steps, start.steps, steps, sum) in
        true≢false
        (sym (between types all gap begin.path start.path begin.among start.among number alike) ∙ gap-parts types all gap listed)

    complete : OwnersAreThere types → (next : ℕ) → track_count types vars ≤ next → IsFinite a → WSat (reached_by_field next types vars ty) a
    complete owners next few finite =
        let chain = are_led_by next types all (gaps types all) ty 0 (last_number all) None in
        let agrees : AgreesOn (track_count types vars) a a = record { same = λ t below. refl; finite = finite } in
        let fits : 0 ≤ next = omega arith in
        (WSat-And (none_by_one next types ty) chain a).1 (
          none-by-one next few finite (λ p r cell. led-by-zero p r (placed-led p (laid.placed ty p cell))),
          by-complete types vars owners a all holders-known finite ty (gaps types all) never-both (last_number all) 0 next None a few tt agrees fits
              (λ gap some within q on. absurd (let no : ⊥ = omega (arith, some, within) in no))
              (λ r cell none. owes-first types a all ty r cell none)
              (λ p cell. placed-led p (laid.placed ty p cell)),
        )

  sound : OwnersAreThere types → (next : ℕ) → track_count types vars ≤ next → IsFinite a → WSat (reached_by_field next types vars ty) a →
      (p : Position) → IsCellIn types a ty p → IsSlotFor vars ty p ⊎ IsChildFor types a ty p
  sound owners next few finite h p cell =
      let ws = ways types vars ty in
      let chain = are_led_by next types ws (gaps types ws) ty 0 (last_number ws) None in
      led-placed p (by-sound types vars owners a ws holders-known finite ty (gaps types ws) (last_number ws) 0 next None a few tt
      (record { same = λ t below. refl; finite = finite }) ((WSat-And (none_by_one next types ty) chain a).0 h).1 p cell)

-- so what satisfies the formula by field satisfies that of trees, and of what lays out a backbone the other way round
pub by-field-means : (types : List TypeEntry) (vars : List VarEntry) (next bound : ℕ) (a : Assignment) (ty : TypeId) → OwnersAreThere types →
    track_count types vars ≤ next → track_count types vars ≤ bound → IsFinite a →
    WSat (reached_by_field next types vars ty) a → WSat (are_reached bound types vars ty) a
by-field-means types vars next bound a ty owners few within finite h =
    (are_reached-means types vars owners a bound within finite ty).1 (sound types vars a ty owners next few finite h)

pub laid-by-field : (types : List TypeEntry) (vars : List VarEntry) (next : ℕ) (a : Assignment) (ty : TypeId) → OwnersAreThere types →
    track_count types vars ≤ next → IsFinite a → LaysOut types vars a → WSat (reached_by_field next types vars ty) a
laid-by-field types vars next a ty owners few finite laid = complete types vars a ty laid owners next few finite

-- as they are made, by the ways that are listed
pub ends-by-field : (types : List TypeEntry) (vars : List VarEntry) (ty : TypeId) (us ws : List Way) (next : ℕ) (old new : Formula) → IsTypeTable types →
    track_count types vars ≤ next → us ≡ ways types vars ty → ws ≡ ways types vars ty → old ≡ are_at_ends next types ty us →
    new ≡ are_led_to next types ws ty → AlikeOnTrees types vars old new
ends-by-field types vars ty us ws next old new table few first second is_old is_new =
    let owners = owners-there types table in
    let old_is : old ≡ are_reached next types vars ty =
    is_old ∙ ap (λ (us : List Way). are_at_ends next types ty us) first ∙ sym (reached-ends types vars next ty) in
    let new_is : new ≡ reached_by_field next types vars ty =
    is_new ∙ ap (λ (us : List Way). are_led_to next types us ty) second in
    record {
      on = λ a finite laid sat. subst (λ (f : Formula). WSat f a) (sym new_is) (laid-by-field types vars next a ty owners few finite laid);
      back = λ a finite sat.
          subst (λ (f : Formula). WSat f a) (sym old_is)
          (by-field-means types vars next next a ty owners few few finite (subst (λ (f : Formula). WSat f a) new_is sat));
    }
