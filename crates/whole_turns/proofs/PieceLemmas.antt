-- The statements that are left, piece by piece.
use Rattle.std.proofs.Common.{◌≡◌, Bool, true, false, if◌then◌else◌, ◌+◌, ◌<◌, ℕ, zero, suc, List, [], ◌∷◌, ◌++◌, length, Bor, refl, sym, ap, ◌∙◌, arith}
use Rattle.std.proofs.lemmas.List.{append_assoc}
use Rattle.std.proofs.lemmas.List.Sums.{sum_by-cons}
use Rattle.pale_typed.specs.declared.typed.Stmt.{Stmt}
use Rattle.pale_typed.specs.declared.typed.Stmt.TheVariants as stmt
use Rattle.whole_turns.specs.declared.pieces.Loop.{Loop}
use Rattle.whole_turns.specs.declared.pieces.Piece.{Piece}
use Rattle.whole_turns.specs.declared.pieces.Piece.TheVariants as piece
use Rattle.whole_turns.specs.Standings.{loop_of, stmts_of, left_of}
use Rattle.whole_turns.specs.Turning.{after_skips, Skips, weight_of}

-- ---- skips

pub no_skip : (xs : List Stmt) → Skips xs xs
no_skip xs = (0, refl)

-- equal statements have no skip between them
pub same_skips : (xs ys : List Stmt) → xs ≡ ys → Skips xs ys
same_skips xs ys is = (0, is)

one_more : (n m : ℕ) (zs : List Stmt) → (k : ℕ) × (after_skips n (after_skips m zs) ≡ after_skips k zs)
one_more zero m zs = (m, refl)
one_more (suc n) m zs = let rest = one_more n m zs in (suc rest.0, ap (λ (l : List Stmt). stmt.Skip ∷ l) rest.1)

pub more_skips : (xs ys zs : List Stmt) → Skips xs ys → Skips ys zs → Skips xs zs
more_skips xs ys zs first then_more =
    let whole = one_more first.0 then_more.0 zs in
    (whole.0, first.1 ∙ ap (after_skips first.0) then_more.1 ∙ whole.1)

-- ---- how much is left

pub weight_more : (p : Piece) (pieces : List Piece) → weight_of (p ∷ pieces) ≡ (length (stmts_of p) + 1) + weight_of pieces
weight_more p pieces = sum_by-cons (λ (q : Piece). length (stmts_of q) + 1) p pieces

-- ---- what is found

-- a block with nothing in it
pub none_same : (block : List Stmt) (old : List Piece) → length block ≡ 0 → Skips (block ++ left_of old) (left_of old)
none_same [] old none = (0, refl)
none_same (s ∷ block) old none = absurd (omega (arith, none))

-- a piece that was taken off
pub taken_off : (start now : List Piece) (p : Piece) (pieces : List Piece) → now ≡ p ∷ pieces → Skips (left_of start) (left_of now) →
    Skips (left_of start) (stmts_of p ++ left_of pieces)
taken_off start now p pieces is so_far = more_skips (left_of start) (left_of now) (stmts_of p ++ left_of pieces) so_far (same_skips (left_of now)
    (stmts_of p ++ left_of pieces) (ap left_of is))

pub taken_less : (now : List Piece) (p : Piece) (pieces after : List Piece) → now ≡ p ∷ pieces →
    weight_of after < weight_of pieces + (length (stmts_of p) + 1) → weight_of after < weight_of now
taken_less now p pieces after is less = let whole = ap weight_of is ∙ weight_more p pieces in omega (arith, whole, less)

-- ---- what a condition chooses

pub block_first : (truth : Bool) (first other chosen : Bor (List Stmt)) (old new : List Piece) → new ≡ piece.Block chosen ∷ old →
    chosen.now ≡ (if truth then first.now else other.now) → left_of new ≡ (if truth then first.now else other.now) ++ left_of old
block_first truth first other chosen old new put is = ap left_of put ∙ ap (λ (b : List Stmt). b ++ left_of old) is

-- the body of a loop, and then the loop again
pub body_first : (l : Loop) (truth : Bool) (old mid new : List Piece) → truth ≡ true → mid ≡ piece.Again l ∷ old → new ≡ piece.Block l.body ∷ mid →
    left_of new ≡ (if truth then l.body.now ++ loop_of l ∷ [] else []) ++ left_of old
body_first l truth old mid new is again block =
    ap left_of block ∙ ap (λ (ps : List Piece). l.body.now ++ left_of ps) again ∙ sym (append_assoc l.body.now (loop_of l ∷ []) (left_of old))
    ∙ ap (λ (b : Bool). (if b then l.body.now ++ loop_of l ∷ [] else []) ++ left_of old) (sym is)

-- and nothing else where it is false
pub body_last : (l : Loop) (truth : Bool) (old : List Piece) → truth ≡ false → left_of old ≡ (if truth then l.body.now ++ loop_of l ∷ [] else []) ++ left_of old
body_last l truth old is = ap (λ (b : Bool). (if b then l.body.now ++ loop_of l ∷ [] else []) ++ left_of old) (sym is)
