use Rattle.std.proofs.Common.{◌≡◌, ◌<◌, ◌≤◌, ℕ, true, false, Bool, List, [], ◌∷◌, length, refl, sym, ap, subst, ◌∙◌, arith, length-append}
use Rattle.std.proofs.Math.ListN.{set, length-set}
use Rattle.std.proofs.lemmas.List.{length-replicate}
use Rattle.std.specs.Prelude.{slice_get, unwrap_or, Option}
use Rattle.gta_theory.specs.Guides.{Spaces, left, right}
use Rattle.gta_atom.specs.Children.{is_marked, waiting_after, Finding}
use Rattle.gta_atom.proofs.ChildrenLemmas.{Finding-start, Finding-turn, IsChildTest-found, weight, weight-meet, l-zero, r-one, l-met, r-met, none-marked}
use Rattle.gta_atom.proofs.child_test.find.Goals as goal

-- the children of the space
pair : (g : Spaces) (s : ℕ) (o : Option (ℕ × ℕ)) (r : ℕ × ℕ) → r ≡ unwrap_or o (0, 0) → o ≡ slice_get g s → r ≡ (left g s, right g s)
pair g s o r is at = is ∙ ap (λ (p : Option (ℕ × ℕ)). unwrap_or p (0, 0)) at

empty : (xs : List ℕ) → length xs ≡ 0 → xs ≡ []
empty [] e = refl
empty (x ∷ xs) e = absurd (omega arith)

pub loop-space-init : goal.loop-space-init
loop-space-init c =
    let g = c.args.g.now in
    let guide = c.spaces.ensures.guide in
    let z = c.args.by_zero.now in
    let o = c.args.by_one.now in
    let m = c.in_ok-met.met.items in
    let none = c.in_ok-met.ensures.items_if_clones_equal (λ y h. h) in
    let start = Finding-start g guide z.items o.items m (let a = z.ok.0 in let b = c.requires.zeros in omega arith)
    (let a = o.ok.0 in let b = c.requires.ones in omega arith)
    (ap (λ (xs : List Bool). length xs) none ∙ length-replicate _ false ∙ c.spaces.ensures.value) c.requires.none
    (λ s. ap (λ (xs : List Bool). is_marked xs s) none ∙ none-marked _ s) in
    let waits = c.in_ok-meet.ensures.waiting ∙ ap (λ (xs : List ℕ). waiting_after m xs 0) c.new-waiting.ensures.items in
    subst (λ (xs : List Bool). Finding g z.items o.items xs c.meet.new.waiting.items) (sym c.in_ok-meet.ensures.met)
    (subst (λ (ws : List ℕ). Finding g z.items o.items (set m 0 true) ws) (sym waits) start)

pub index_mut-requires : goal.index_mut-requires
index_mut-requires c =
    let g = c.args.g.now in
    let l = c.loop-space in
    let s = c.in-Some.space in
    let so_far = subst (Finding g l.by_zero.items l.by_one.items l.met.items) c.in-Some.ensures.items l.invariant in
    let e = ap (λ (p : ℕ × ℕ). p.0) (pair g s c.children.result c.unwrap_or-left.result c.unwrap_or-left.ensures c.children.ensures.value) in
    let inside = l-zero g c.children.ensures.guide l.by_zero.items l.by_one.items l.met.items c.pop.new.self.items s so_far in
    let n = l.by_zero.ok.0 in
    omega arith

pub index_mut-requires-in-Some : goal.index_mut-requires-in-Some
index_mut-requires-in-Some c =
    let g = c.args.g.now in
    let l = c.loop-space in
    let s = c.in-Some.space in
    let so_far = subst (Finding g l.by_zero.items l.by_one.items l.met.items) c.in-Some.ensures.items l.invariant in
    let e = ap (λ (p : ℕ × ℕ). p.1) (pair g s c.children.result c.unwrap_or-left.result c.unwrap_or-left.ensures c.children.ensures.value) in
    let inside = r-one g c.children.ensures.guide l.by_zero.items l.by_one.items l.met.items c.pop.new.self.items s so_far in
    let n = l.by_one.ok.0 in
    omega arith

pub meet-requires-in-Some : goal.meet-requires-in-Some
meet-requires-in-Some c =
    let g = c.args.g.now in
    let l = c.loop-space in
    let s = c.in-Some.space in
    let so_far = subst (Finding g l.by_zero.items l.by_one.items l.met.items) c.in-Some.ensures.items l.invariant in
    let e = ap (λ (p : ℕ × ℕ). p.0) (pair g s c.children.result c.unwrap_or-left.result c.unwrap_or-left.ensures c.children.ensures.value) in
    let inside = l-met g c.children.ensures.guide l.by_zero.items l.by_one.items l.met.items c.pop.new.self.items s so_far in
    let n = l.met.ok.0 in
    omega arith

pub meet-requires-in-Some-2 : goal.meet-requires-in-Some-2
meet-requires-in-Some-2 c =
    let g = c.args.g.now in
    let l = c.loop-space in
    let s = c.in-Some.space in
    let so_far = subst (Finding g l.by_zero.items l.by_one.items l.met.items) c.in-Some.ensures.items l.invariant in
    let e = pair g s c.children.result c.unwrap_or-left.result c.unwrap_or-left.ensures c.children.ensures.value in
    let e1 = ap (λ (p : ℕ × ℕ). p.1) e in
    let inside = r-met g c.children.ensures.guide l.by_zero.items l.by_one.items l.met.items c.pop.new.self.items s so_far in
    let n = c.meet-in-Some.new.met.ok.0 in
    let many = ap (λ (xs : List Bool). length xs) c.in_ok-meet-2.ensures.met in
    omega (arith, length-set l.met.items c.unwrap_or-left.result.0 true, length-set l.met.items (left g s) true)

pub loop-space-smaller : goal.loop-space-smaller
loop-space-smaller c =
    let g = c.args.g.now in
    let l = c.loop-space in
    let s = c.in-Some.space in
    let w = c.pop.new.self.items in
    let r = c.unwrap_or-left.result in
    let m1 = c.meet-in-Some.new.met.items in
    let w1 = c.meet-in-Some.new.waiting.items in
    let so_far = subst (Finding g l.by_zero.items l.by_one.items l.met.items) c.in-Some.ensures.items l.invariant in
    let e = pair g s c.children.result r c.unwrap_or-left.ensures c.children.ensures.value in
    let e0 = ap (λ (p : ℕ × ℕ). p.0) e in
    let e1 = ap (λ (p : ℕ × ℕ). p.1) e in
    let in0 : r.0 < length l.met.items = (let i = l-met g c.children.ensures.guide l.by_zero.items l.by_one.items l.met.items w s so_far in omega arith) in
    let many = ap (λ (xs : List Bool). length xs) c.in_ok-meet-2.ensures.met in
    let in1 : r.1 < length m1 = (let i = r-met g c.children.ensures.guide l.by_zero.items l.by_one.items l.met.items w s so_far in
    omega (arith, length-set l.met.items r.0 true, length-set l.met.items (left g s) true)) in
    let first : weight m1 w1 ≤ weight l.met.items w =
    subst (λ (xs : List Bool). weight xs w1 ≤ weight l.met.items w) (sym c.in_ok-meet-2.ensures.met)
    (subst (λ (ws : List ℕ). weight (set l.met.items r.0 true) ws ≤ weight l.met.items w) (sym c.in_ok-meet-2.ensures.waiting)
    (weight-meet l.met.items w r.0 in0)) in
    let second : weight c.meet-in-Some-2.new.met.items c.meet-in-Some-2.new.waiting.items ≤ weight m1 w1 =
    subst (λ (xs : List Bool). weight xs c.meet-in-Some-2.new.waiting.items ≤ weight m1 w1) (sym c.in_ok-meet-3.ensures.met)
    (subst (λ (ws : List ℕ). weight (set m1 r.1 true) ws ≤ weight m1 w1) (sym c.in_ok-meet-3.ensures.waiting)
    (weight-meet m1 w1 r.1 in1)) in
    let popped = ap (λ (ws : List ℕ). length ws) c.in-Some.ensures.items in
    omega (arith, length-append w (s ∷ []))

pub loop-space-preserved : goal.loop-space-preserved
loop-space-preserved c =
    let g = c.args.g.now in
    let l = c.loop-space in
    let z = l.by_zero.items in
    let o = l.by_one.items in
    let m = l.met.items in
    let s = c.in-Some.space in
    let w = c.pop.new.self.items in
    let r = c.unwrap_or-left.result in
    let so_far = subst (Finding g z o m) c.in-Some.ensures.items l.invariant in
    let e = pair g s c.children.result r c.unwrap_or-left.ensures c.children.ensures.value in
    let turned = subst (λ (p : ℕ × ℕ). Finding g (set z p.0 true) (set o p.1 true) (set (set m p.0 true) p.1 true)
    (waiting_after (set m p.0 true) (waiting_after m w p.0) p.1)) (sym e)
    (Finding-turn g c.children.ensures.guide z o m w s so_far) in
    let met2 : c.meet-in-Some-2.new.met.items ≡ set (set m r.0 true) r.1 true =
    c.in_ok-meet-3.ensures.met ∙ ap (λ (xs : List Bool). set xs r.1 true) c.in_ok-meet-2.ensures.met in
    let waiting2 : c.meet-in-Some-2.new.waiting.items ≡ waiting_after (set m r.0 true) (waiting_after m w r.0) r.1 =
    c.in_ok-meet-3.ensures.waiting ∙ (λ i. waiting_after (c.in_ok-meet-2.ensures.met i) (c.in_ok-meet-2.ensures.waiting i) r.1) in
    subst (λ (xs : List Bool). Finding g (set z r.0 true) (set o r.1 true) xs c.meet-in-Some-2.new.waiting.items) (sym met2)
    (subst (λ (ws : List ℕ). Finding g (set z r.0 true) (set o r.1 true) (set (set m r.0 true) r.1 true) ws) (sym waiting2) turned)

pub returns : goal.returns
returns c =
    let g = c.args.g.now in
    let l = c.loop-space in
    let none : l.waiting.items ≡ [] = empty l.waiting.items (let n = c.in_default.ensures.cases.0 in let v = l.waiting.ok.0 in omega arith) in
    IsChildTest-found g c.spaces.ensures.guide l.by_zero.items l.by_one.items l.met.items
    (subst (Finding g l.by_zero.items l.by_one.items l.met.items) none l.invariant)
