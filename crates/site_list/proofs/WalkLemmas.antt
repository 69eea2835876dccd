-- The places that the walk over a code passes are its sites.
use Rattle.std.proofs.Common.{◌≡◌, ℕ, suc, Bool, true, false, List, [], ◌∷◌, ◌++◌, map, slice_get, Option, Some, None}
use Rattle.std.proofs.Common.{refl, sym, ap, ◌∙◌, subst, append_assoc, append-nil, if◌then◌else◌}
use Rattle.std.specs.Option.{option_map_or}
use Rattle.std.proofs.lemmas.List.{map-append}
use Rattle.ws2s_forms.specs.Forms.{track}
use Rattle.store_core.specs.declared.ids.VariantId.{VariantId}
use Rattle.store_core.specs.declared.ids.FieldId.{FieldId}
use Rattle.store_core.specs.declared.ids.VarId.{VarId}
use Rattle.store_core.specs.Tables.{TypeEntry, VarEntry}
use Rattle.store_logic.specs.declared.path.Operand.{Operand}
use Rattle.store_logic.specs.declared.path.Operand.TheVariants as operand
use Rattle.store_logic.specs.declared.cond.Cond.{Cond, roll-Cond}
use Rattle.store_logic.specs.declared.cond.Cond.TheOpen.{Cond-F}
use Rattle.store_logic.specs.declared.cond.Cond.TheFolds.{ind-Cond, map-Cond, fold-roll-Cond}
use Rattle.store_logic.specs.declared.act.Rhs.{Rhs}
use Rattle.store_logic.specs.declared.act.Rhs.TheVariants as rhs
use Rattle.store_logic.specs.declared.act.Act.{Act}
use Rattle.store_logic.specs.declared.act.Act.TheVariants as act
use Rattle.store_exec.specs.declared.cause.Cause.{Cause}
use Rattle.store_exec.specs.declared.cause.Cause.TheVariants as cause
use Rattle.store_exec.specs.declared.code.Item.{Item}
use Rattle.store_exec.specs.declared.code.Item.TheVariants as item
use Rattle.store_exec.specs.declared.code.Item.TheVariants.{rolls-Do, rolls-If}
use Rattle.store_exec.specs.declared.code.Item.TheOpen.{Item-F}
use Rattle.store_exec.specs.declared.code.Item.TheFolds.{fold-roll-Item}
use Rattle.store_exec.specs.declared.code.Code.{Code, roll-out-Code, out-Code}
use Rattle.store_exec.specs.declared.code.Tail.{Tail}
use Rattle.store_exec.specs.declared.code.Tail.TheVariants as tail
use Rattle.store_exec.specs.declared.code.Tail.TheVariants.{rolls-Cut, rolls-Branch}
use Rattle.store_exec.specs.declared.code.Tail.TheOpen.{Tail-F}
use Rattle.store_exec.specs.declared.code.Tail.TheFolds.{fold-Tail, fold-roll-Tail, fold-roll-Code}
use Rattle.store_exec.specs.declared.triple.Cut.{Cut}
use Rattle.store_exec.specs.declared.triple.Start.{Start}
use Rattle.store_exec.specs.declared.triple.Triple.{Triple}
use Rattle.store_exec.proofs.InductionLemmas.{items-induction, codes-induction}
use Rattle.tree_formula.specs.WellEncoded.{owner}
use Rattle.graph_view.specs.declared.view.Sym.{Sym}
use Rattle.graph_view.specs.declared.view.Sym.TheVariants as sym_is
use Rattle.site_list.specs.declared.site.Site.{Site}
use Rattle.site_list.specs.Sites.{site_at, cell_causes, field_causes, path_causes, operand_causes, cond_causes, cond_causes_rule, rhs_causes}
use Rattle.site_list.specs.Sites.{place_causes, assign_causes, act_causes, escape_causes, cut_sites, item_sites, items_sites, code_sites, sites_of}
use Rattle.site_list.specs.States.{Text, State, Got, next_track, define, check, guard, both, fails, sight, value_of}
use Rattle.site_list.specs.Reading.{Told, lacks, check_cell, check_access, read, read_along, operand_value, truth_along, truth_at}
use Rattle.site_list.specs.Conditions.{Telling, cond_rule, condition}
use Rattle.site_list.specs.Acts.{evaluated, write_along, act_rule, assigned}
use Rattle.site_list.specs.Cuts.{check_stores, check_claims, with_part, arrived, arrived_at_call}
use Rattle.site_list.specs.Codes.{Going, in_order, with_ways, on_way, is_sym, is_merged, merged, plain_if, item_rule, items, tail_rule, code_rule, code}
use Rattle.site_list.specs.Codes as codes
use Rattle.site_list.specs.Triples.{site_of, at_start, started, passed}
use Rattle.site_list.proofs.CauseLemmas.{sites-Do, sites-If, tail_sites, sites-code, sites-Cut, sites-Branch}

-- the sites of the places that were passed
abbrev pub places : State → List Site
places s = map site_of s.checks

-- from one state to another places with these causes at the line are passed
abbrev Adds : ℕ → State → List Cause → State → Type 0
Adds line s causes t = places t ≡ places s ++ map (site_at line) causes

one-more : (line : ℕ) (reached : Text) (why : Cause) (text : Text) (s : State) → Adds line s (why ∷ []) (check line reached why text s)
one-more line reached why text s = map-append site_of s.checks (record { cause = why; line = line; reached = reached; condition = text } ∷ [])

no-more : (line : ℕ) (s : State) → Adds line s [] s
no-more line s = sym (append-nil (places s))

one-after : (line : ℕ) (s t u : State) (cs ds : List Cause) → Adds line s cs t → Adds line t ds u → Adds line s (cs ++ ds) u
one-after line s t u cs ds one two =
    two ∙ ap (λ p. p ++ map (site_at line) ds) one ∙ append_assoc (places s) (map (site_at line) cs) (map (site_at line) ds)
    ∙ ap (λ p. places s ++ p) (sym (map-append (site_at line) cs ds))

module _ (types : List TypeEntry) (vars : List VarEntry) where
  -- ---- reading

  cell-adds : (line : ℕ) (reached : Text) (u : Sym) (s : State) → Adds line s cell_causes (check_cell types vars line reached u s)
  cell-adds line reached u s =
      one-after line s (check line reached cause.Null _ s) (check_cell types vars line reached u s) (cause.Null ∷ []) (cause.Dangling ∷ [])
      (one-more line reached cause.Null _ s) (one-more line reached cause.Dangling _ (check line reached cause.Null _ s))

  access-adds : (line : ℕ) (reached : Text) (f : FieldId) (u : Sym) (s : State) →
      Adds line s (field_causes types f) (check_access types vars line reached f u s)
  access-adds line reached f u s = by (owner types f)
    where
      by : (o : Option VariantId) → Adds line s (cell_causes ++ option_map_or (λ (v : VariantId). cause.Variant ∷ []) o [])
          (option_map_or (λ (v : VariantId). check line reached cause.Variant (lacks types (sight vars s) f u) (check_cell types vars line reached u s)) o
          (check_cell types vars line reached u s))
      by None = cell-adds line reached u s
      by (Some v) = one-after line s (check_cell types vars line reached u s)
          (check line reached cause.Variant (lacks types (sight vars s) f u) (check_cell types vars line reached u s)) cell_causes (cause.Variant ∷ [])
          (cell-adds line reached u s) (one-more line reached cause.Variant (lacks types (sight vars s) f u) (check_cell types vars line reached u s))

  read-adds : (line : ℕ) (reached : Text) (f : FieldId) (got : Got) → Adds line (got.1) (field_causes types f) ((read types vars line reached f got).1)
  read-adds line reached f got = access-adds line reached f (got.0) (got.1)

  along-adds : (line : ℕ) (reached : Text) (fields : List FieldId) (got : Got) →
      Adds line (got.1) (path_causes types fields) ((read_along types vars line reached fields got).1)
  along-adds line reached [] got = no-more line (got.1)
  along-adds line reached (f ∷ fields) got =
      one-after line (got.1) ((read types vars line reached f got).1) ((read_along types vars line reached fields (read types vars line reached f got)).1)
      (field_causes types f) (path_causes types fields) (read-adds line reached f got)
      (along-adds line reached fields (read types vars line reached f got))

  operand-adds : (line : ℕ) (reached : Text) (p : Operand) (s : State) → Adds line s (operand_causes types p) ((operand_value types vars line reached p s).1)
  operand-adds line reached operand.Null s = no-more line s
  operand-adds line reached (operand.Path p) s = along-adds line reached p.fields (value_of s.values p.var, s)

  last-adds : (line : ℕ) (reached : Text) (f : FieldId) (fields : List FieldId) (got : Got) →
      Adds line (got.1) (path_causes types (f ∷ fields)) ((truth_along types vars line reached f fields got).1)
  last-adds line reached f [] got =
      access-adds line reached f (got.0) (got.1)
      ∙ ap (λ causes. places (got.1) ++ map (site_at line) causes) (sym (append-nil (field_causes types f)))
  last-adds line reached f (g ∷ fields) got =
      one-after line (got.1) ((read types vars line reached f got).1) ((truth_along types vars line reached g fields (read types vars line reached f got)).1)
      (field_causes types f) (path_causes types (g ∷ fields)) (read-adds line reached f got)
      (last-adds line reached g fields (read types vars line reached f got))

  truth-adds : (line : ℕ) (reached : Text) (fields : List FieldId) (got : Got) →
      Adds line (got.1) (path_causes types fields) ((truth_at types vars line reached fields got).1)
  truth-adds line reached [] got = no-more line (got.1)
  truth-adds line reached (f ∷ fields) got = last-adds line reached f fields got

  -- ---- conditions

  abbrev Tells : ℕ → Cond → Type 0
  Tells line c = (reached : Text) (s : State) → Adds line s (cond_causes types c) ((condition types vars line c reached s).1)

  abbrev rolled : (line : ℕ) → Cond-F ((c : Cond) × Tells line c) → Cond-F Cond
  rolled line y = map-Cond ((c : Cond) × Tells line c) Cond (λ e. e.0) y

  form-tells : (line : ℕ) (y : Cond-F ((c : Cond) × Tells line c)) (reached : Text) (s : State) →
      Adds line s (cond_causes_rule types (map-Cond Cond (List Cause) (cond_causes types) (rolled line y)))
      ((cond_rule types vars line (map-Cond Cond Telling (condition types vars line) (rolled line y)) reached s).1)
  form-tells line Cond-F.True reached s = no-more line s
  form-tells line Cond-F.False reached s = no-more line s
  form-tells line (Cond-F.Bool p) reached s = truth-adds line reached p.fields (value_of s.values p.var, s)
  form-tells line (Cond-F.Is p v) reached s =
      let got : Got = read_along types vars line reached p.fields (value_of s.values p.var, s) in
      one-after line s (got.1) (check_cell types vars line reached (got.0) (got.1)) (path_causes types p.fields) cell_causes
      (along-adds line reached p.fields (value_of s.values p.var, s)) (cell-adds line reached (got.0) (got.1))
  form-tells line (Cond-F.Same p q) reached s =
      let got : Got = operand_value types vars line reached p s in
      one-after line s (got.1) ((operand_value types vars line reached q (got.1)).1) (operand_causes types p) (operand_causes types q)
      (operand-adds line reached p s) (operand-adds line reached q (got.1))
  form-tells line (Cond-F.Not u) reached s = u.1 reached s
  form-tells line (Cond-F.And u v) reached s =
      let left : Told = condition types vars line u.0 reached s in
      one-after line s (left.1) ((condition types vars line v.0 (both reached (left.0)) (left.1)).1) (cond_causes types u.0) (cond_causes types v.0)
      (u.1 reached s) (v.1 (both reached (left.0)) (left.1))
  form-tells line (Cond-F.Or u v) reached s =
      let left : Told = condition types vars line u.0 reached s in
      one-after line s (left.1) ((condition types vars line v.0 (both reached (fails (left.0))) (left.1)).1) (cond_causes types u.0) (cond_causes types v.0)
      (u.1 reached s) (v.1 (both reached (fails (left.0))) (left.1))

  made-tells : (line : ℕ) (y : Cond-F ((c : Cond) × Tells line c)) → Tells line (roll-Cond (rolled line y))
  made-tells line y reached s =
      subst (λ (tell : Telling). Adds line s (cond_causes types (roll-Cond (rolled line y))) ((tell reached s).1))
      (sym (fold-roll-Cond Telling (cond_rule types vars line) (rolled line y)))
      (subst (λ (causes : List Cause). Adds line s causes
      ((cond_rule types vars line (map-Cond Cond Telling (condition types vars line) (rolled line y)) reached s).1))
      (sym (fold-roll-Cond (List Cause) (cond_causes_rule types) (rolled line y))) (form-tells line y reached s))

  cond-adds : (line : ℕ) (c : Cond) → Tells line c
  cond-adds line = ind-Cond (Tells line) (λ x y e. subst (λ z. Tells line (roll-Cond z)) e (made-tells line y))

  -- ---- acts

  evaluated-adds : (line : ℕ) (x : Rhs) (s : State) → Adds line s (rhs_causes types x) ((evaluated types vars line x s).1)
  evaluated-adds line (rhs.Cell p) s = operand-adds line (guard s) p s
  evaluated-adds line (rhs.New v) s = no-more line s
  evaluated-adds line (rhs.Truth c) s = cond-adds line c (guard s) s

  write-adds : (line : ℕ) (f : FieldId) (fields : List FieldId) (x : Rhs) (got : Got) →
      Adds line (got.1) (place_causes types f fields (rhs_causes types x)) (write_along types vars line f fields x got)
  write-adds line f [] x got =
      let new : Got = evaluated types vars line x (got.1) in
      one-after line (got.1) (new.1) (check_access types vars line (guard (new.1)) f (got.0) (new.1)) (rhs_causes types x) (field_causes types f)
      (evaluated-adds line x (got.1)) (access-adds line (guard (new.1)) f (got.0) (new.1))
  write-adds line f (g ∷ fields) x got =
      let next : Got = read types vars line (guard (got.1)) f got in
      one-after line (got.1) (next.1) (write_along types vars line g fields x next) (field_causes types f) (place_causes types g fields (rhs_causes types x))
      (read-adds line (guard (got.1)) f got) (write-adds line g fields x next)

  assigned-adds : (line : ℕ) (v : VarId) (fields : List FieldId) (x : Rhs) (s : State) →
      Adds line s (assign_causes types fields (rhs_causes types x)) (assigned types vars line v fields x s)
  assigned-adds line v [] x s = evaluated-adds line x s
  assigned-adds line v (f ∷ fields) x s = write-adds line f fields x (value_of s.values v, s)

  act-adds : (line : ℕ) (a : Act) (s : State) → Adds line s (act_causes types a) (act_rule types vars line a s)
  act-adds line (act.Assign p x) s = assigned-adds line p.var p.fields x s
  act-adds line (act.Free v) s =
      one-after line s (check line (guard s) cause.Null _ s) (check line (guard s) cause.DoubleFree _ (check line (guard s) cause.Null _ s)) (cause.Null ∷ [])
      (cause.DoubleFree ∷ []) (one-more line (guard s) cause.Null _ s) (one-more line (guard s) cause.DoubleFree _ (check line (guard s) cause.Null _ s))
  act-adds line (act.Assert a) s = one-more line (guard s) cause.Assert _ s

  -- ---- items

  item-Do : (line : ℕ) (a : Act) (s : State) → codes.item types vars (item.Do line a) s ≡ act_rule types vars line a s
  item-Do line a s = ap (λ (i : Item). codes.item types vars i s) (sym (rolls-Do line a))
      ∙ ap (λ (go : Going). go s) (fold-roll-Item Going (item_rule types vars) (Item-F.Do line a))

  in_order-items : (xs : List Item) (s : State) → in_order (map (codes.item types vars) xs) s ≡ items types vars xs s
  in_order-items [] s = refl
  in_order-items (x ∷ xs) s = in_order-items xs (codes.item types vars x s)

  item-If : (line : ℕ) (c : Cond) (taken other : List Item) (s : State) →
      codes.item types vars (item.If line c taken other) s
      ≡ plain_if types vars (in_order (map (codes.item types vars) taken)) (in_order (map (codes.item types vars) other))
      (condition types vars line c (guard s) s)
  item-If line c taken other s = ap (λ (i : Item). codes.item types vars i s) (sym (rolls-If line c taken other))
      ∙ ap (λ (go : Going). go s) (fold-roll-Item Going (item_rule types vars) (Item-F.If line c taken other))

  merged-by : (h : ℕ) (u w : Sym) (us ws : List Sym) (s : State) → ((t : State) → places ((merged types vars h us ws t).1) ≡ places t) → (same : Bool) →
      places ((if same then codes.behind u (merged types vars h us ws s)
      else codes.behind (sym_is.At (track (next_track types vars s)))
      (merged types vars h us ws (define (is_merged h u w (next_track types vars s)) s))).1) ≡ places s
  merged-by h u w us ws s rest true = rest s
  merged-by h u w us ws s rest false = rest (define (is_merged h u w (next_track types vars s)) s)

  merged-places : (h : ℕ) (us ws : List Sym) (s : State) → places ((merged types vars h us ws s).1) ≡ places s
  merged-places h [] ws s = refl
  merged-places h (u ∷ us) [] s = refl
  merged-places h (u ∷ us) (w ∷ ws) s = merged-by h u w us ws s (merged-places h us ws) (is_sym u w)

  -- a part of code passes these sites
  abbrev Passes : Going → List Site → Type 0
  Passes go sites = (s : State) → places (go s) ≡ places s ++ sites

  both-pass : (taken other : Going) (xs ys : List Site) (told : Told) → Passes taken xs → Passes other ys →
      places (plain_if types vars taken other told) ≡ places (told.1) ++ (xs ++ ys)
  both-pass taken other xs ys told one two =
      let h : ℕ = next_track types vars (told.1) in
      let before : State = with_ways types vars (told.0) (told.1) in
      let first : State = taken (on_way h before) in
      let second : State = other (on_way (suc h) (record first { values = before.values })) in
      merged-places h first.values second.values (record second { guard = before.guard })
      ∙ two (on_way (suc h) (record first { values = before.values }))
      ∙ ap (λ p. p ++ ys) (one (on_way h before))
      ∙ append_assoc (places (told.1)) xs ys

  items-pass : (xs : List Item) → Passes (items types vars xs) (items_sites types xs)
  items-pass = items-induction (λ xs. Passes (items types vars xs) (items_sites types xs)) (λ s. sym (append-nil (places s)))
      (λ line a rest p s.
      p (codes.item types vars (item.Do line a) s)
      ∙ ap (λ q. q ++ items_sites types rest) (ap places (item-Do line a s) ∙ act-adds line a s
      ∙ ap (λ q. places s ++ q) (sym (sites-Do types line a)))
      ∙ append_assoc (places s) (item_sites types (item.Do line a)) (items_sites types rest))
      (λ line c taken other rest p q r s.
      r (codes.item types vars (item.If line c taken other) s)
      ∙ ap (λ z. z ++ items_sites types rest) (ap places (item-If line c taken other s)
      ∙ both-pass (in_order (map (codes.item types vars) taken)) (in_order (map (codes.item types vars) other)) (items_sites types taken)
      (items_sites types other) (condition types vars line c (guard s) s)
      (λ t. ap places (in_order-items taken t) ∙ p t) (λ t. ap places (in_order-items other t) ∙ q t)
      ∙ ap (λ z. z ++ (items_sites types taken ++ items_sites types other)) (cond-adds line c (guard s) s)
      ∙ append_assoc (places s) (map (site_at line) (cond_causes types c)) (items_sites types taken ++ items_sites types other)
      ∙ ap (λ z. places s ++ z) (sym (sites-If types line c taken other)))
      ∙ append_assoc (places s) (item_sites types (item.If line c taken other)) (items_sites types rest))

  -- ---- cuts

  abbrev store_causes : List Cause
  store_causes = cause.DanglingRef ∷ cause.Shared ∷ cause.Leak ∷ cause.Field ∷ []

  stores-add : (line : ℕ) (s : State) → Adds line s store_causes (check_stores types vars line s)
  stores-add line s =
      let one : State = check line (guard s) cause.DanglingRef _ s in
      let two : State = check line (guard one) cause.Shared _ one in
      let three : State = check line (guard two) cause.Leak _ two in
      one-after line s three (check_stores types vars line s) (cause.DanglingRef ∷ cause.Shared ∷ cause.Leak ∷ []) (cause.Field ∷ [])
      (one-after line s two three (cause.DanglingRef ∷ cause.Shared ∷ []) (cause.Leak ∷ [])
      (one-after line s one two (cause.DanglingRef ∷ []) (cause.Shared ∷ []) (one-more line (guard s) cause.DanglingRef _ s)
      (one-more line (guard one) cause.Shared _ one))
      (one-more line (guard two) cause.Leak _ two))
      (one-more line (guard three) cause.Field _ three)

  arrived-adds : (cut : Cut) (s : State) → places (arrived types vars cut s) ≡ places s ++ cut_sites cut
  arrived-adds cut s = by cut.handed
    where
      by : (o : Option (List VarId)) → Adds cut.line s (store_causes ++ (option_map_or escape_causes o [] ++ cause.Post ∷ []))
          (option_map_or (λ roots. arrived_at_call types vars cut (next_track types vars s) (with_part types vars roots s)) o
          (check_claims types vars cut None (check_stores types vars cut.line s)))
      by None =
          let checked : State = check_stores types vars cut.line s in
          one-after cut.line s checked (check_claims types vars cut None checked) store_causes (cause.Post ∷ []) (stores-add cut.line s)
          (one-more cut.line (guard checked) cause.Post _ checked)
      by (Some roots) =
          let p : ℕ = next_track types vars s in
          let made : State = with_part types vars roots s in
          let checked : State = check_stores types vars cut.line made in
          let looked : State = check cut.line (guard made) cause.Escape _ checked in
          one-after cut.line s looked (check_claims types vars cut (Some (track p)) looked) (store_causes ++ cause.Escape ∷ []) (cause.Post ∷ [])
          (one-after cut.line s checked looked store_causes (cause.Escape ∷ []) (stores-add cut.line made)
          (one-more cut.line (guard made) cause.Escape _ checked))
          (one-more cut.line (guard looked) cause.Post _ looked)

  -- ---- codes

  module _ (cuts : List Cut) where
    abbrev tail_goes : Tail → Going
    tail_goes = fold-Tail Going Going (tail_rule types vars cuts) (code_rule types vars)

    code-goes : (c : Code) (s : State) → code types vars cuts c s ≡ tail_goes c.tail (items types vars c.items s)
    code-goes c s = ap (λ (d : Code). code types vars cuts d s) (sym (roll-out-Code c))
        ∙ ap (λ (go : Going). go s) (fold-roll-Code Going Going (tail_rule types vars cuts) (code_rule types vars) (out-Code c))

    cut-goes : (place : ℕ) (s : State) → tail_goes (tail.Cut place) s ≡ option_map_or (λ cut. arrived types vars cut s) (slice_get cuts place) s
    cut-goes place s = ap (λ (t : Tail). tail_goes t s) (sym (rolls-Cut place))
        ∙ ap (λ (go : Going). go s) (fold-roll-Tail Going Going (tail_rule types vars cuts) (code_rule types vars) (Tail-F.Cut place))

    branch-goes : (line : ℕ) (b : Cond) (taken other : Code) (s : State) → tail_goes (tail.Branch line b taken other) s
        ≡ codes.branch types vars (code types vars cuts taken) (code types vars cuts other) (condition types vars line b (guard s) s)
    branch-goes line b taken other s = ap (λ (t : Tail). tail_goes t s) (sym (rolls-Branch line b taken other))
        ∙ ap (λ (go : Going). go s) (fold-roll-Tail Going Going (tail_rule types vars cuts) (code_rule types vars) (Tail-F.Branch line b taken other))

    codes-pass : (taken other : Going) (xs ys : List Site) (told : Told) → Passes taken xs → Passes other ys →
        places (codes.branch types vars taken other told) ≡ places (told.1) ++ (xs ++ ys)
    codes-pass taken other xs ys told one two =
        let h : ℕ = next_track types vars (told.1) in
        let before : State = with_ways types vars (told.0) (told.1) in
        let first : State = taken (on_way h before) in
        two (on_way (suc h) (record first { values = before.values; events = before.events }))
        ∙ ap (λ p. p ++ ys) (one (on_way h before))
        ∙ append_assoc (places (told.1)) xs ys

    cut-passes : (place : ℕ) (s : State) → places (option_map_or (λ cut. arrived types vars cut s) (slice_get cuts place) s)
        ≡ places s ++ option_map_or cut_sites (slice_get cuts place) []
    cut-passes place s = by (slice_get cuts place)
      where
        by : (o : Option Cut) → places (option_map_or (λ cut. arrived types vars cut s) o s) ≡ places s ++ option_map_or cut_sites o []
        by None = sym (append-nil (places s))
        by (Some cut) = arrived-adds cut s

    code-passes : (c : Code) → Passes (code types vars cuts c) (code_sites types cuts c)
    code-passes = codes-induction (λ c. Passes (code types vars cuts c) (code_sites types cuts c))
        (λ c place is s.
        let t : State = items types vars c.items s in
        ap places (code-goes c s ∙ ap (λ (x : Tail). tail_goes x t) is ∙ cut-goes place t)
        ∙ cut-passes place t
        ∙ ap (λ p. p ++ option_map_or cut_sites (slice_get cuts place) []) (items-pass c.items s)
        ∙ append_assoc (places s) (items_sites types c.items) (option_map_or cut_sites (slice_get cuts place) [])
        ∙ ap (λ p. places s ++ (items_sites types c.items ++ p)) (sym (ap (tail_sites types cuts) is ∙ sites-Cut types cuts place))
        ∙ ap (λ p. places s ++ p) (sym (sites-code types cuts c)))
        (λ c line b taken other is one two s.
        let t : State = items types vars c.items s in
        ap places (code-goes c s ∙ ap (λ (x : Tail). tail_goes x t) is ∙ branch-goes line b taken other t)
        ∙ codes-pass (code types vars cuts taken) (code types vars cuts other) (code_sites types cuts taken) (code_sites types cuts other)
        (condition types vars line b (guard t) t) one two
        ∙ ap (λ p. p ++ (code_sites types cuts taken ++ code_sites types cuts other)) (cond-adds line b (guard t) t
        ∙ ap (λ p. p ++ map (site_at line) (cond_causes types b)) (items-pass c.items s))
        ∙ append_assoc (places s ++ items_sites types c.items) (map (site_at line) (cond_causes types b))
        (code_sites types cuts taken ++ code_sites types cuts other)
        ∙ append_assoc (places s) (items_sites types c.items)
        (map (site_at line) (cond_causes types b) ++ (code_sites types cuts taken ++ code_sites types cuts other))
        ∙ ap (λ p. places s ++ (items_sites types c.items ++ p)) (sym (ap (tail_sites types cuts) is ∙ sites-Branch types cuts line b taken other))
        ∙ ap (λ p. places s ++ p) (sym (sites-code types cuts c)))

  started-places : (start : Start) → places (started types vars start) ≡ []
  started-places start = by start.returned
    where
      by : (o : Option (List VarId)) → places (option_map_or (λ roots. with_part types vars roots (at_start types vars)) o (at_start types vars)) ≡ []
      by None = refl
      by (Some roots) = refl

-- the places that the walk over a triple's code passes are the triple's sites
pub walk-passes : (types : List TypeEntry) (vars : List VarEntry) (t : Triple) → passed types vars t ≡ sites_of types t
walk-passes types vars t =
    code-passes types vars t.cuts t.code (started types vars t.start) ∙ ap (λ p. p ++ code_sites types t.cuts t.code) (started-places types vars t.start)
