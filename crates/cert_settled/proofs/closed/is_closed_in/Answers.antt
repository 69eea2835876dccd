use Rattle.std.proofs.Common.{◌≡◌, ℕ, List, Option, slice_get, unwrap_or, true, false, Contains, ap, ◌∙◌, subst}
use Rattle.std.specs.Prelude.{◌↔◌, IsTrue}
use Rattle.gta_theory.specs.Guides.{left, right}
use Rattle.cert_theory.specs.Tables.{PlacedState}
use Rattle.cert_settled.specs.Settling.{HasClass, AreCellsClosed}
use Rattle.cert_settled.proofs.ClosedLemmas.{closed-by-cells}
use Rattle.cert_settled.proofs.closed.is_closed_in.Goals as goal

pub returns : goal.returns
returns c =
    let g = c.args.g.now in
    let d = c.args.nodes.now in
    let s = c.args.space in
    let a = c.args.a.now in
    let t = c.args.track in
    let list = c.args.states.now in
    let lefts = c.in_ok-lefts.lefts.keys in
    let rights = c.in_ok-rights.rights.keys in
    let children : c.unwrap_or-left.result ≡ unwrap_or (slice_get g s) (0, 0) =
    c.unwrap_or-left.ensures ∙ ap (λ (found : Option (ℕ × ℕ)). unwrap_or found (0, 0)) c.children.ensures.value in
    let of_left : (k : ℕ) → Contains lefts k ↔ HasClass false s (left g s) a list k =
    subst (λ (n : ℕ). (k : ℕ) → Contains lefts k ↔ HasClass false s n a list k) (ap (λ (k : ℕ × ℕ). k.0) children)
    (subst (λ (l : List PlacedState). (k : ℕ) → Contains lefts k ↔ HasClass false s c.unwrap_or-left.result.0 a l k) c.as_slice.ensures
    c.in_ok-lefts.ensures) in
    let of_right : (k : ℕ) → Contains rights k ↔ HasClass true s (right g s) a list k =
    subst (λ (n : ℕ). (k : ℕ) → Contains rights k ↔ HasClass true s n a list k) (ap (λ (k : ℕ × ℕ). k.1) children)
    (subst (λ (l : List PlacedState). (k : ℕ) → Contains rights k ↔ HasClass true s c.unwrap_or-left.result.1 a l k) c.as_slice-2.ensures
    c.in_ok-rights.ensures) in
    let result = c.are_cells_closed.result in
    let are : IsTrue result ↔ AreCellsClosed d s a t list lefts rights =
    subst (λ (ls : List ℕ). IsTrue result ↔ AreCellsClosed d s a t list ls rights) c.as_slice-3.ensures.keys
    (subst (λ (rs : List ℕ). IsTrue result ↔ AreCellsClosed d s a t list c.as_slice-3.result.now rs) c.as_slice-4.ensures.keys
    c.are_cells_closed.ensures) in
    closed-by-cells g d s a t list lefts rights of_left of_right result are
