-- Where both sides lead to, one after the other.
use Rattle.std.proofs.Common.{◌≡◌, ◌⊎◌, inl, inr, ℕ, ◌+◌, ◌<◌, ◌≤◌, List, [], ◌∷◌, ◌++◌, length, take, get_or, Contains, ap, sym, ◌∙◌, subst}
use Rattle.std.proofs.lemmas.List.{take_more, take_all}
use Rattle.std.specs.Prelude.{◌↔◌}
use Rattle.std.proofs.lemmas.List.Elements.{Contains-append_left}
use Rattle.gta_theory.proofs.ListsLemmas.{Contains-none}
use Rattle.cert_nodes.specs.declared.spots.Spot.{Spot}
use Rattle.cert_nodes.specs.Walks.{AddsAtMost}
use Rattle.cert_nodes.proofs.WalksLemmas.{last, push-cases, adds-cases, Grows-adds}
use Rattle.cert_tables.specs.Starts.{IsLedWith, AreLedBy}

module _ {T : Type 0} (lead : T → T → List Spot) where
  with-more : (l : T) (rights : List T) (r : T) (spots : List Spot) → IsLedWith lead l rights spots → IsLedWith lead l (rights ++ r ∷ []) spots
  with-more l rights r spots before = record {
    r = before.r;
    on_right = Contains-append_left rights (r ∷ []) before.r before.on_right;
    leads = before.leads;
  }

  pub with-none : (l : T) (starts : List (List Spot)) (spots : List Spot) →
      Contains starts spots ↔ (Contains starts spots ⊎ IsLedWith lead l [] spots)
  with-none l starts spots = (
    (λ listed. inl listed),
    (λ either. elim either [ inl listed ↦ listed | inr led ↦ absurd (Contains-none led.r led.on_right) ]),
  )

  pub with-push : (l : T) (rights : List T) (r : T) (old mid new : List (List Spot)) (made : List Spot) →
      ((spots : List Spot) → Contains mid spots ↔ (Contains old spots ⊎ IsLedWith lead l rights spots)) →
      made ≡ lead l r → AddsAtMost mid made new → Contains new made →
      (spots : List Spot) → Contains new spots ↔ (Contains old spots ⊎ IsLedWith lead l (rights ++ r ∷ []) spots)
  with-push l rights r old mid new made are is adds there spots = (
    (λ listed. elim (adds-cases mid new made spots adds listed) [
      | inl before ↦ elim ((are spots).0 before) [
        | inl first ↦ inl first
        | inr led ↦ inr (with-more l rights r spots led)
      ]
      | inr made_is ↦ inr (record { r = r; on_right = last rights r; leads = sym is ∙ made_is })
    ]),
    (λ either. elim either [
      | inl first ↦ (Grows-adds mid new made adds).has spots ((are spots).1 (inl first))
      | inr led ↦ elim (push-cases rights r led.r led.on_right) [
        | inl before ↦ (Grows-adds mid new made adds).has spots
            ((are spots).1 (inr (record { r = led.r; on_right = before; leads = led.leads })))
        | inr r_is ↦ subst (Contains new) (is ∙ ap (lead l) r_is ∙ led.leads) there
      ]
    ]),
  )

  pub starts-none : (rights : List T) → AreLedBy lead [] rights []
  starts-none rights spots = ((λ listed. absurd (Contains-none spots listed)), (λ start. absurd (Contains-none start.l start.on_left)))

  pub starts-push : (lefts rights : List T) (l : T) (old new : List (List Spot)) → AreLedBy lead lefts rights old →
      ((spots : List Spot) → Contains new spots ↔ (Contains old spots ⊎ IsLedWith lead l rights spots)) →
      AreLedBy lead (lefts ++ l ∷ []) rights new
  starts-push lefts rights l old new are adds spots = (
    (λ listed. elim ((adds spots).0 listed) [
      | inl before ↦
          let start = (are spots).0 before in
          record { l = start.l; on_left = Contains-append_left lefts (l ∷ []) start.l start.on_left; with_right = start.with_right }
      | inr led ↦ record { l = l; on_left = last lefts l; with_right = led }
    ]),
    (λ start. (adds spots).1 (elim (push-cases lefts l start.l start.on_left) [
      | inl before ↦ inl ((are spots).1 (record { l = start.l; on_left = before; with_right = start.with_right }))
      | inr is ↦ inr (subst (λ (t : T). IsLedWith lead t rights spots) (sym is) start.with_right)
    ])),
  )

  -- ---- by places in the lists

  pub with-next : (l : T) (rights : List T) (i : ℕ) (none : T) (old mid new : List (List Spot)) (made : List Spot) → i < length rights →
      ((spots : List Spot) → Contains mid spots ↔ (Contains old spots ⊎ IsLedWith lead l (take i rights) spots)) →
      made ≡ lead l (get_or rights i none) → AddsAtMost mid made new → Contains new made →
      (spots : List Spot) → Contains new spots ↔ (Contains old spots ⊎ IsLedWith lead l (take (i + 1) rights) spots)
  with-next l rights i none old mid new made inside are is adds there =
      subst (λ (rs : List T). (spots : List Spot) → Contains new spots ↔ (Contains old spots ⊎ IsLedWith lead l rs spots))
      (sym (take_more rights i none inside)) (with-push l (take i rights) (get_or rights i none) old mid new made are is adds there)

  pub with-whole : (l : T) (rights : List T) (i : ℕ) (old new : List (List Spot)) → length rights ≤ i →
      ((spots : List Spot) → Contains new spots ↔ (Contains old spots ⊎ IsLedWith lead l (take i rights) spots)) →
      (spots : List Spot) → Contains new spots ↔ (Contains old spots ⊎ IsLedWith lead l rights spots)
  with-whole l rights i old new all are =
      subst (λ (rs : List T). (spots : List Spot) → Contains new spots ↔ (Contains old spots ⊎ IsLedWith lead l rs spots)) (take_all i rights all) are

  pub starts-next : (lefts rights : List T) (i : ℕ) (none : T) (old new : List (List Spot)) → i < length lefts →
      AreLedBy lead (take i lefts) rights old →
      ((spots : List Spot) → Contains new spots ↔ (Contains old spots ⊎ IsLedWith lead (get_or lefts i none) rights spots)) →
      AreLedBy lead (take (i + 1) lefts) rights new
  starts-next lefts rights i none old new inside are adds =
      subst (λ (ls : List T). AreLedBy lead ls rights new) (sym (take_more lefts i none inside))
      (starts-push (take i lefts) rights (get_or lefts i none) old new are adds)

  pub starts-whole : (lefts rights : List T) (i : ℕ) (starts : List (List Spot)) → length lefts ≤ i → AreLedBy lead (take i lefts) rights starts →
      AreLedBy lead lefts rights starts
  starts-whole lefts rights i starts all are = subst (λ (ls : List T). AreLedBy lead ls rights starts) (take_all i lefts all) are
