-- What the parts for variables mean.
use Rattle.std.proofs.Common.{◌≡◌, ℕ, suc, ◌<◌, ◌≤◌, ◌↔◌, inl, inr, IsTrue, false, List, [], sym, ◌∙◌, subst, arith}
use Rattle.std.proofs.lemmas.Bool.{false≢true, cases_Bool}
use Rattle.gta_theory.specs.Assignments.{Position, Assignment, IsFinite, IsOnly}
use Rattle.ws2s_core.specs.declared.track.Track.{Track}
use Rattle.ws2s_core.specs.declared.formula.Formula.TheVariants.{Sub, Single, Root, And}
use Rattle.ws2s_core.specs.Satisfaction.{WSat}
use Rattle.ws2s_core.proofs.SatisfactionLemmas.{WSat-Single, WSat-Root}
use Rattle.ws2s_forms.specs.Forms.{track, or, iff, empty_at, slot}
use Rattle.ws2s_forms.specs.Places.{with_position, slot_of}
use Rattle.ws2s_forms.proofs.PositionsLemmas.{IsOnly-same, IsOnly-along}
use Rattle.ws2s_forms.proofs.GoingLemmas.{WSat-slot}
use Rattle.ws2s_forms.proofs.ConnectivesLemmas.{WSat-and, WSat-or}
use Rattle.ws2s_forms.proofs.LawsLemmas.{law-all1, law-or, law-iff, law-empty, same_truth}
use Rattle.store_core.specs.declared.ids.TypeId.{TypeId}
use Rattle.store_core.specs.declared.kind.VarKind.{VarKind}
use Rattle.store_core.specs.declared.kind.VarKind.TheVariants as var
use Rattle.store_core.specs.Tables.{TypeEntry, VarEntry}
use Rattle.tree_encode.specs.Tracks.{track_count}
use Rattle.tree_formula.specs.WellEncoded.{is_live, is_within, is_truth, is_in_slot, is_pointer, var_part}
use Rattle.tree_store.specs.Shapes.{IsCellIn, HasRootAtMost, HasCellsIn, VarLaysOut}
use Rattle.tree_store.proofs.StandingLemmas.{StandsOn, StandsOn-bound, on-track, is_live-means}
use Rattle.tree_store.proofs.WithinLemmas.{is_within-means}

module _ (types : List TypeEntry) (vars : List VarEntry) (a : Assignment) (next : ℕ) (few : track_count types vars ≤ next) (finite : IsFinite a)
    (x : Track) (below : x.0 < track_count types vars) where
  early : x.0 < next
  early = omega (arith, below, few)

  nothing : (p : Position) → a x.0 p ≡ false → IsTrue (a x.0 p) → ⊥
  nothing p none on = false≢true (sym none ∙ on)

  -- a track is empty where nothing is on it
  none-on : ((p : Position) → IsTrue (a x.0 p) → ⊥) → (p : Position) → a x.0 p ≡ false
  none-on none p = same_truth (a x.0 p) false ((λ on. absurd (none p on)), (λ e. absurd (false≢true e)))

  truth-means : WSat (is_truth next x) a ↔ HasRootAtMost a x.0
  truth-means =
      let either = law-or (empty_at next x.0) (Root x) a finite in
      let empty = law-empty next x.0 a early in
      let root = WSat-Root x a in (
        (λ h p on. elim (either.0 h) as (λ _. p ≡ []) [
          | inl none ↦ absurd (nothing p (empty.0 none p) on)
          | inr at_root ↦ (root.0 at_root p).0 on
        ]),
        (λ h. elim (cases_Bool (a x.0 [])) as (λ _. WSat (is_truth next x) a) [
          | inl on ↦ either.1 (inr (root.1 (λ p. (h p, (λ e. subst (λ q. IsTrue (a x.0 q)) (sym e) on)))))
          | inr off ↦ either.1 (inl (empty.1 (none-on (λ p on. nothing [] off (subst (λ q. IsTrue (a x.0 q)) (h p on) on)))))
        ]),
      )

  in_slot-means : (i : ℕ) (ty : TypeId) → WSat (is_in_slot next types i ty x) a
      ↔ ((p : Position) → IsTrue (a x.0 p) ↔ ((p ≡ slot_of i) × IsCellIn types a ty p))
  in_slot-means i ty = (
    (λ h p.
        let both = (same p).0 (all.0 h p) in
        ((λ on. (there p).0 (both.0 ((onto p).1 on))), (λ cell. (onto p).0 (both.1 ((there p).1 cell))))),
    (λ h. all.1 (λ p. (same p).1 (
      (λ on. (there p).1 ((h p).0 ((onto p).0 on))),
      (λ cell. (onto p).1 ((h p).1 ((there p).0 cell))),
    ))),
  )
    where
      bound : (p : Position) → StandsOn (track_count types vars) a (with_position a next p) next p
      bound p = StandsOn-bound (track_count types vars) a next p few finite

      all : WSat (is_in_slot next types i ty x) a ↔ ((p : Position) →
          WSat (iff (Sub (track next) x) (And (slot (suc next) i next) (is_live (suc next) types ty next))) (with_position a next p))
      all = law-all1 next (iff (Sub (track next) x) (And (slot (suc next) i next) (is_live (suc next) types ty next))) a finite

      same : (p : Position) → WSat (iff (Sub (track next) x) (And (slot (suc next) i next) (is_live (suc next) types ty next))) (with_position a next p)
          ↔ (WSat (Sub (track next) x) (with_position a next p)
          ↔ WSat (And (slot (suc next) i next) (is_live (suc next) types ty next)) (with_position a next p))
      same p =
          let stands = bound p in
          law-iff (Sub (track next) x) (And (slot (suc next) i next) (is_live (suc next) types ty next)) (with_position a next p) stands.finite

      onto : (p : Position) → WSat (Sub (track next) x) (with_position a next p) ↔ IsTrue (a x.0 p)
      onto p = on-track types vars a (with_position a next p) next p (bound p) x below

      at_slot : (p : Position) → WSat (slot (suc next) i next) (with_position a next p) ↔ (p ≡ slot_of i)
      at_slot p =
          let stands = bound p in
          let in_slot = WSat-slot (suc next) i next (with_position a next p) (omega arith) in (
            (λ h. IsOnly-same (with_position a next p next) p (slot_of i) stands.only (in_slot.0 h)),
            (λ e. in_slot.1 (IsOnly-along (with_position a next p next) p (slot_of i) e stands.only)),
          )

      there : (p : Position) → WSat (And (slot (suc next) i next) (is_live (suc next) types ty next)) (with_position a next p)
          ↔ ((p ≡ slot_of i) × IsCellIn types a ty p)
      there p =
          WSat-and (slot (suc next) i next) (is_live (suc next) types ty next) (with_position a next p) (p ≡ slot_of i) (IsCellIn types a ty p) (at_slot p)
          (is_live-means types vars a (with_position a next p) next p (bound p) (suc next) ty)

  -- at most one position
  none_or_one : WSat (or (empty_at next x.0) (Single x)) a ↔ ((p q : Position) → IsTrue (a x.0 p) → IsTrue (a x.0 q) → p ≡ q)
  none_or_one =
      let either = law-or (empty_at next x.0) (Single x) a finite in
      let empty = law-empty next x.0 a early in
      let single = WSat-Single x a in (
        (λ h p q on also. elim (either.0 h) as (λ _. p ≡ q) [
          | inl none ↦ absurd (nothing p (empty.0 none p) on)
          | inr one ↦ (let (u, only) = single.0 one in (only p).0 on ∙ sym ((only q).0 also))
        ]),
        (λ h.
            (WSat-or (empty_at next x.0) (Single x) a (WSat (empty_at next x.0) a) (WSat (Single x) a) ((λ e. e), (λ e. e)) ((λ e. e), (λ e. e))).1
            (λ neither.
            let none : (p : Position) → IsTrue (a x.0 p) → ⊥ = λ p on. neither (inr (single.1 (p, only-one h p on))) in
            neither (inl (empty.1 (none-on none))))),
      )
    where
      only-one : ((p q : Position) → IsTrue (a x.0 p) → IsTrue (a x.0 q) → p ≡ q) → (p : Position) → IsTrue (a x.0 p) → IsOnly (a x.0) p
      only-one h p on q = ((λ also. h q p also on), (λ e. subst (λ r. IsTrue (a x.0 r)) (sym e) on))

  pointer-means : (ty : TypeId) → WSat (is_pointer next types ty x) a
      ↔ (HasCellsIn types a ty x.0 × ((p q : Position) → IsTrue (a x.0 p) → IsTrue (a x.0 q) → p ≡ q))
  pointer-means ty =
      WSat-and (is_within next types ty x) (or (empty_at next x.0) (Single x)) a (HasCellsIn types a ty x.0)
      ((p q : Position) → IsTrue (a x.0 p) → IsTrue (a x.0 q) → p ≡ q) (is_within-means types vars a next few finite x below ty) none_or_one

  pub var_part-means : (i : ℕ) (kind : VarKind) → WSat (var_part next types i x kind) a ↔ VarLaysOut types a i x.0 kind
  var_part-means i var.Bool = truth-means
  var_part-means i (var.Data ty) = in_slot-means i ty
  var_part-means i (var.Pointer ty) = pointer-means ty
  var_part-means i (var.LogicSet ty) = is_within-means types vars a next few finite x below ty
  var_part-means i var.LogicBool = truth-means
