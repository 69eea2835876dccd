-- The state of an equal row, or one state more.
use Rattle.std.proofs.Common.{◌≡◌, ◌+◌, ◌<◌, ℕ, List, [], ◌∷◌, ◌++◌, length, vec_len, sym, ◌∙◌, ap, subst, arith, length-append}
use Rattle.std.specs.Prelude.{slice_index, slice_set}
use Rattle.std.proofs.lemmas.List.{get_or_read}
use Rattle.gta_refine.specs.Rows.{row_of}
use Rattle.gta_refine.specs.Firsts.{bucket_of, AreFirsts, HasFirst, GrowBy}
use Rattle.gta_refine.proofs.FirstsLemmas.{AreFirsts-put, GrowBy-none, GrowBy-push, HasFirst-push}
use Rattle.gta_refine.proofs.rows.first_with.Goals as goal

pub bucket_for-bucket-requires-clause-some : goal.bucket_for-bucket-requires-clause-some
bucket_for-bucket-requires-clause-some c =
    let s = c.requires.some in
    let l = c.len.ensures in
    let v = c.args.firsts.now.buckets.ok.0 in
    omega arith

pub find-requires-clause-its : goal.find-requires-clause-its
find-requires-clause-its c =
    let row = row_of c.args.space.now c.args.side c.args.numbers.now c.args.beside.now c.args.state in
    c.bucket_for-bucket.ensures.value ∙ ap (bucket_of row) (c.len.ensures ∙ c.args.firsts.now.buckets.ok.0)

pub find-requires-clause-inside : goal.find-requires-clause-inside
find-requires-clause-inside c =
    let w = c.bucket_for-bucket.ensures.within in
    let l = c.len.ensures in
    let v = c.args.firsts.now.buckets.ok.0 in
    omega arith

pub put-requires : goal.put-requires
put-requires c =
    let w = c.bucket_for-bucket.ensures.within in
    let l = c.len.ensures in
    let v = c.args.firsts.now.buckets.ok.0 in
    omega arith

pub returns-in-Some-clause-first : goal.returns-in-Some-clause-first
returns-in-Some-clause-first c =
    let states = c.args.firsts.now.states.items in
    let place = c.in-Some.place in
    let rows = row_of c.args.space.now c.args.side c.args.numbers.now c.args.beside.now in
    let is = sym (get_or_read states place c.index-first.result.now c.in-Some.ensures.within c.index-first.ensures 0) in
    record { place = place; within = c.in-Some.ensures.within; is = is; same = sym (ap rows is) ∙ c.in-Some.ensures.found }

pub returns-in-Some-clause-grow : goal.returns-in-Some-clause-grow
returns-in-Some-clause-grow c = GrowBy-none c.args.state c.args.firsts.now.states.items

pub returns-in-Some-clause-firsts : goal.returns-in-Some-clause-firsts
returns-in-Some-clause-firsts c = c.requires.firsts

pub returns-clause-first : goal.returns-clause-first
returns-clause-first c =
    let rows = row_of c.args.space.now c.args.side c.args.numbers.now c.args.beside.now in
    subst (λ (xs : List ℕ). HasFirst rows xs c.args.state c.args.state) (sym c.in_ok-put.ensures.states)
    (HasFirst-push rows c.args.state c.args.firsts.now.states.items)

pub returns-clause-grow : goal.returns-clause-grow
returns-clause-grow c =
    subst (λ (xs : List ℕ). GrowBy c.args.state c.args.firsts.now.states.items xs) (sym c.in_ok-put.ensures.states)
    (GrowBy-push c.args.state c.args.firsts.now.states.items)

pub returns-clause-firsts : goal.returns-clause-firsts
returns-clause-firsts c =
    let rows = row_of c.args.space.now c.args.side c.args.numbers.now c.args.beside.now in
    let old = c.args.firsts.now in
    let new = c.put.new.self in
    let many = length old.buckets.items in
    let state = c.args.state in
    let bucket = c.bucket_for-bucket.result in
    let sized = c.len.ensures ∙ old.buckets.ok.0 in
    let its : bucket ≡ bucket_of (rows state) many = c.bucket_for-bucket.ensures.value ∙ ap (bucket_of (rows state)) sized in
    let inside : bucket < many = (let w = c.bucket_for-bucket.ensures.within in omega arith) in
    let pushed = c.in_ok-put.ensures.states in
    let long : vec_len new.states ≡ length old.states.items + 1 =
    (let v = new.states.ok.0 in let e = ap (λ (xs : List ℕ). length xs) pushed in let l = length-append old.states.items (state ∷ []) in omega arith) in
    let put = c.in_ok-put.ensures.buckets ∙ ap (λ (n : ℕ). slice_set old.buckets.items bucket n) long in
    let made = AreFirsts-put rows many old.states.items old.buckets.items old.chain.items state bucket c.requires.firsts its inside
    c.in_default.ensures.absent in
    subst (λ (xs : List ℕ). AreFirsts rows many xs new.buckets.items new.chain.items) (sym pushed)
    (subst (λ (xs : List ℕ). AreFirsts rows many (old.states.items ++ state ∷ []) xs new.chain.items) (sym put)
    (subst (λ (xs : List ℕ). AreFirsts rows many (old.states.items ++ state ∷ []) (slice_set old.buckets.items bucket (length old.states.items + 1)) xs)
    (sym c.in_ok-put.ensures.chain) made))
