-- The only cell of which something is so.
use Rattle.std.proofs.Common.{◌≡◌, ◌↔◌, inl, inr, Option, Some, None, refl, ap}
use Rattle.store_core.specs.declared.ids.CellId.{CellId}
use Rattle.witness_store.specs.Only.{IsOnlyCell}

module _ (P Q : CellId → Type 0) (alike : (d : CellId) → P d ↔ Q d) where
  pub IsOnlyCell-alike : (o : Option CellId) → IsOnlyCell P o → IsOnlyCell Q o
  IsOnlyCell-alike (Some d) h = ((alike d).0 h.0, λ e q. h.1 e ((alike e).1 q))
  IsOnlyCell-alike None h = elim h [
    | inl none ↦ inl (λ d q. none d ((alike d).1 q))
    | inr two ↦ inr (record {
      one = two.one;
      other = two.other;
      apart = two.apart;
      one_is = (alike two.one).0 two.one_is;
      other_is = (alike two.other).0
          two.other_is;
    })
  ]

-- there is one answer at most
pub IsOnlyCell-once : (P : CellId → Type 0) (o p : Option CellId) → IsOnlyCell P o → IsOnlyCell P p → o ≡ p
IsOnlyCell-once P None None h k = refl
IsOnlyCell-once P (Some d) (Some e) h k = ap Some (k.1 d h.0)
IsOnlyCell-once P None (Some e) h k = elim h [
  | inl none ↦ absurd (none e k.0)
  | inr two ↦ absurd (two.apart (λ i. (meet two.one two.other (k.1 two.one two.one_is) (k.1 two.other two.other_is)) i))
]
  where
    meet : (a b : CellId) → a ≡ e → b ≡ e → a ≡ b
    meet a b x y = cc
IsOnlyCell-once P (Some d) None h k = elim k [
  | inl none ↦ absurd (none d h.0)
  | inr two ↦ absurd (two.apart (meet two.one two.other (h.1 two.one two.one_is) (h.1 two.other two.other_is)))
]
  where
    meet : (a b : CellId) → a ≡ d → b ≡ d → a ≡ b
    meet a b x y = cc
