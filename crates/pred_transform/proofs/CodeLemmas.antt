-- The walk over a code, part by part.
use Rattle.std.proofs.Common.{◌≡◌, ℕ, suc, ◌+◌, List, [], ◌∷◌, ◌++◌, ◌<◌, ◌≤◌, length, map, take, get_or, slice_get, Option, Some}
use Rattle.std.proofs.Common.{refl, sym, ap, ap₂, ◌∙◌, subst, arith, length-append}
use Rattle.std.specs.Option.{option_map_or}
use Rattle.std.proofs.lemmas.List.{take_more, take_all}
use Rattle.store_core.specs.Tables.{TypeEntry, VarEntry}
use Rattle.store_logic.specs.declared.act.Act.{Act}
use Rattle.store_logic.specs.declared.cond.Cond.{Cond}
use Rattle.store_exec.specs.declared.code.Item.{Item}
use Rattle.store_exec.specs.declared.code.Item.TheVariants as item_is
use Rattle.store_exec.specs.declared.code.Item.TheVariants.{rolls-Do, rolls-If}
use Rattle.store_exec.specs.declared.code.Item.TheOpen.{Item-F}
use Rattle.store_exec.specs.declared.code.Item.TheFolds.{fold-roll-Item}
use Rattle.store_exec.specs.declared.code.Code.{Code, roll-out-Code, out-Code}
use Rattle.store_exec.specs.declared.code.Tail.{Tail}
use Rattle.store_exec.specs.declared.code.Tail.TheVariants as tail_is
use Rattle.store_exec.specs.declared.code.Tail.TheVariants.{rolls-Cut, rolls-Branch}
use Rattle.store_exec.specs.declared.code.Tail.TheOpen.{Tail-F}
use Rattle.store_exec.specs.declared.code.Tail.TheFolds.{fold-Tail, fold-roll-Tail, fold-roll-Code}
use Rattle.store_exec.specs.declared.triple.Cut.{Cut}
use Rattle.ws2s_core.specs.declared.track.Track.{Track}
use Rattle.ws2s_core.specs.declared.formula.Formula.{Formula}
use Rattle.ws2s_core.specs.declared.formula.Formula.TheVariants.{And, Not}
use Rattle.ws2s_forms.specs.Forms.{track}
use Rattle.tree_encode.specs.Tracks.{track_count}
use Rattle.graph_view.specs.declared.view.Sym.{Sym}
use Rattle.graph_view.specs.declared.view.Event.{Event}
use Rattle.site_list.specs.States.{Text, State, guard, both, fails, define, next_track, is_truth_of}
use Rattle.site_list.specs.Reading.{Told}
use Rattle.site_list.specs.Conditions.{condition}
use Rattle.site_list.specs.Acts.{act_rule, made_truth}
use Rattle.site_list.specs.Cuts.{arrived}
use Rattle.site_list.specs.Codes as codes
use Rattle.site_list.specs.Codes.{Going, in_order, with_ways, on_way, merged, with_merged, plain_if, items, other_code, branch, item_rule, tail_rule, code_rule}
use Rattle.site_list.specs.Codes.{code}
use Rattle.symbolic_steps.specs.declared.walker.Walker.{Walker}
use Rattle.pred_transform.specs.declared.codes.Fork.{Fork}
use Rattle.symbolic_steps.specs.Shown.{shown, Leads}
use Rattle.pred_transform.specs.Forks.{IsFork, with_guard, with_values, with_events}

module _ (types : List TypeEntry) (vars : List VarEntry) where
  -- ---- two ways

  next-more : (text : Text) (s : State) → next_track types vars (define text s) ≡ suc (next_track types vars s)
  next-more text s = ap (λ (n : ℕ). track_count types vars + n) (length-append s.defined (text ∷ [])) ∙ one (track_count types vars) (length s.defined)
    where
      one : (n k : ℕ) → n + (k + 1) ≡ suc (n + k)
      one n k = omega arith

  pub ways-made : (next wanted : ℕ) (text : Text) (s : State) (w1 : Walker) (here holds taken other : Formula) →
      holds ≡ text next → here ≡ guard s next → taken ≡ And here holds → other ≡ And here (Not holds) →
      ((t : Text) → taken ≡ t next → w1 ≡ shown next wanted ((made_truth types vars (t, s)).1)) →
      (w2 : Walker) → ((t : Text) (u : State) → other ≡ t next → w1 ≡ shown next wanted u → w2 ≡ shown next wanted ((made_truth types vars (t, u)).1)) →
      w2 ≡ shown next wanted (with_ways types vars text s)
  ways-made next wanted text s w1 here holds taken other told at one two first w2 second =
      let u : State = define (is_truth_of (both (guard s) text) (next_track types vars s)) s in
      let e1 : w1 ≡ shown next wanted u = first (both (guard s) text) (one ∙ ap₂ And at told) in
      second (both (guard s) (fails text)) u (two ∙ ap₂ (λ (h f : Formula). And h (Not f)) at told) e1
      ∙ ap (λ (n : ℕ). shown next wanted (define (is_truth_of (both (guard s) (fails text)) n) u))
      (next-more (is_truth_of (both (guard s) text) (next_track types vars s)) s)

  -- ---- an `if` without a cut

  -- the rest of an `if` from what is kept of its fork
  abbrev joined : ℕ → List Sym → Option Track → State → Going → State → State
  joined h values before b other first =
      let z : State = other (on_way (suc h) (record first { values = values })) in
      with_merged (merged types vars h first.values z.values (record z { guard = before }))

  pub if-joined : (next wanted : ℕ) (taken other : Going) (text : Text) (s b : State) (fork : Fork) (w2 w3 w4 w5 : Walker) (first : List Sym) →
      b ≡ with_ways types vars text s →
      IsFork fork b (next_track types vars s) →
      w2 ≡ shown next wanted (taken (on_way fork.way.0 b)) → first ≡ w2.view.vars →
      w3 ≡ with_guard (Some (track (suc fork.way.0))) (with_values fork.values w2) →
      ((u : State) → w3 ≡ shown next wanted u → w4 ≡ shown next wanted (other u)) →
      ((u : State) → w4 ≡ shown next wanted u →
      w5 ≡ shown next wanted (with_merged (merged types vars fork.way.0 first u.values (record u { guard = fork.guard })))) →
      w5 ≡ shown next wanted (plain_if types vars taken other (text, s))
  if-joined next wanted taken other text s b fork w2 w3 w4 w5 first was kept one firsts turned two joins =
      let a : State = taken (on_way fork.way.0 b) in
      let z : State = other (on_way (suc fork.way.0) (record a { values = fork.values })) in
      let e3 : w3 ≡ shown next wanted (on_way (suc fork.way.0) (record a { values = fork.values })) =
      turned ∙ ap (λ (w : Walker). with_guard (Some (track (suc fork.way.0))) (with_values fork.values w)) one in
      joins z (two (on_way (suc fork.way.0) (record a { values = fork.values })) e3)
      ∙ ap (λ (us : List Sym). shown next wanted (with_merged (merged types vars fork.way.0 us z.values (record z { guard = fork.guard }))))
      (firsts ∙ ap (λ (w : Walker). w.view.vars) one)
      ∙ ap (λ (t : Track). shown next wanted (joined t.0 fork.values fork.guard b other (taken (on_way t.0 b)))) kept.way
      ∙ ap (λ (us : List Sym). shown next wanted (joined h us fork.guard b other (taken (on_way h b)))) kept.values
      ∙ ap (λ (o : Option Track). shown next wanted (joined h b.values o b other (taken (on_way h b)))) kept.guard
      ∙ ap (λ (c : State). shown next wanted (joined h c.values c.guard c other (taken (on_way h c)))) was
    where
      h : ℕ
      h = next_track types vars s

  -- ---- items

  pub item-Do : (line : ℕ) (a : Act) (i : Item) (s : State) → i ≡ item_is.Do line a → codes.item types vars i s ≡ act_rule types vars line a s
  item-Do line a i s is = ap (λ (i : Item). codes.item types vars i s) (is ∙ sym (rolls-Do line a))
      ∙ ap (λ (go : Going). go s) (fold-roll-Item Going (item_rule types vars) (Item-F.Do line a))

  in_order-items : (xs : List Item) (s : State) → in_order (map (codes.item types vars) xs) s ≡ items types vars xs s
  in_order-items [] s = refl
  in_order-items (x ∷ xs) s = in_order-items xs (codes.item types vars x s)

  pub item-If : (line : ℕ) (c : Cond) (taken other : List Item) (i : Item) (s : State) → i ≡ item_is.If line c taken other →
      codes.item types vars i s
      ≡ plain_if types vars (in_order (map (codes.item types vars) taken)) (in_order (map (codes.item types vars) other))
      (condition types vars line c (guard s) s)
  item-If line c taken other i s is = ap (λ (i : Item). codes.item types vars i s) (is ∙ sym (rolls-If line c taken other))
      ∙ ap (λ (go : Going). go s) (fold-roll-Item Going (item_rule types vars) (Item-F.If line c taken other))

  pub items-in_order : (xs : List Item) (s : State) → items types vars xs s ≡ in_order (map (codes.item types vars) xs) s
  items-in_order xs s = sym (in_order-items xs s)

  items-last : (xs : List Item) (x : Item) (s : State) → items types vars (xs ++ x ∷ []) s ≡ codes.item types vars x (items types vars xs s)
  items-last [] x s = refl
  items-last (y ∷ xs) x s = items-last xs x (codes.item types vars y s)

  -- one item more
  pub items-step : (xs : List Item) (i : ℕ) (x : Item) (w0 w1 w2 : Walker) → i < length xs → x ≡ get_or xs i x →
      Leads w0 w1 (items types vars (take i xs)) → Leads w1 w2 (codes.item types vars x) → Leads w0 w2 (items types vars (take (i + 1) xs))
  items-step xs i x w0 w1 w2 inside is before step next wanted s at =
      let t : State = items types vars (take i xs) s in
      step next wanted t (before next wanted s at)
      ∙ ap (λ (y : Item). shown next wanted (codes.item types vars y t)) is
      ∙ ap (shown next wanted) (sym (ap (λ ys. items types vars ys s) (take_more xs i x inside) ∙ items-last (take i xs) (get_or xs i x) s))

  pub items-end : (xs : List Item) (i : ℕ) (w0 w1 : Walker) → length xs ≤ i → Leads w0 w1 (items types vars (take i xs)) → Leads w0 w1 (items types vars xs)
  items-end xs i w0 w1 all far = subst (λ (ys : List Item). Leads w0 w1 (items types vars ys)) (take_all i xs all) far

  -- ---- forks

  -- the walk went onto the first way of an `if` with this condition
  abbrev pub Forked : ℕ → Cond → Fork → Walker → Walker → Type 0
  Forked line b fork old new = (next wanted : ℕ) (s : State) → old ≡ shown next wanted s →
      IsFork fork (with_ways types vars ((condition types vars line b (guard s) s).0) ((condition types vars line b (guard s) s).1))
      (next_track types vars ((condition types vars line b (guard s) s).1))
      × (new ≡ shown next wanted (on_way fork.way.0
      (with_ways types vars ((condition types vars line b (guard s) s).0) ((condition types vars line b (guard s) s).1))))

  -- what is kept when the walk goes onto the first way
  pub fork-taken : (next wanted h : ℕ) (b : State) (w : Walker) (way : Track) (values : List Sym) (events : List Event) → way ≡ track h →
      w ≡ shown next wanted b → values ≡ w.view.vars → events ≡ w.view.events →
      IsFork (record { way = way; guard = w.guard; values = values; events = events }) b h
      × (record w { guard = Some way } ≡ shown next wanted (on_way way.0 b))
  fork-taken next wanted h b w way values events is at valued happened = (
    record {
      way = is;
      guard = ap (λ (x : Walker). x.guard) at;
      values = valued ∙ ap (λ (x : Walker). x.view.vars) at;
      events = happened ∙ ap (λ (x : Walker). x.view.events) at;
    },
    ap (λ (x : Walker). record x { guard = Some way }) at,
  )

  -- the walk joined both ways
  abbrev pub Joined : Fork → List Sym → Walker → Walker → Type 0
  Joined fork first old new = (next wanted : ℕ) (s : State) → old ≡ shown next wanted s →
      new ≡ shown next wanted (with_merged (merged types vars fork.way.0 first s.values (record s { guard = fork.guard })))

  pub if-walked : (line : ℕ) (i : Item) (b : Cond) (taken other xs ys : List Item) (fork : Fork) (w0 w1 w2 w3 w4 w5 : Walker) (first : List Sym) →
      i ≡ item_is.If line b taken other → xs ≡ taken → ys ≡ other → Forked line b fork w0 w1 → Leads w1 w2 (items types vars xs) →
      (first ≡ w2.view.vars) × (w3 ≡ with_guard (Some (track (suc fork.way.0))) (with_values fork.values w2)) → Leads w3 w4 (items types vars ys) →
      Joined fork first w4 w5 → Leads w0 w5 (codes.item types vars i)
  if-walked line i b taken other xs ys fork w0 w1 w2 w3 w4 w5 first is xs_is ys_is forks one turned two joins next wanted s at =
      let told : Told = condition types vars line b (guard s) s in
      let before : State = with_ways types vars (told.0) (told.1) in
      let kept = forks next wanted s at in
      if-joined next wanted (in_order (map (codes.item types vars) xs)) (in_order (map (codes.item types vars) ys)) (told.0) (told.1) before fork
      w2 w3 w4 w5 first refl kept.0
      (one next wanted (on_way fork.way.0 before) kept.1 ∙ ap (shown next wanted) (items-in_order xs (on_way fork.way.0 before)))
      turned.0 turned.1
      (λ u there. two next wanted u there ∙ ap (shown next wanted) (items-in_order ys u))
      (λ u there. joins next wanted u there)
      ∙ ap₂ (λ (us vs : List Item).
      shown next wanted (plain_if types vars (in_order (map (codes.item types vars) us)) (in_order (map (codes.item types vars) vs)) told)) xs_is ys_is
      ∙ ap (shown next wanted) (sym (item-If line b taken other i s is))

  -- ---- codes

  module _ (cuts : List Cut) where
    abbrev tail_goes : Tail → Going
    tail_goes = fold-Tail Going Going (tail_rule types vars cuts) (code_rule types vars)

    code-goes : (c : Code) (s : State) → code types vars cuts c s ≡ tail_goes c.tail (items types vars c.items s)
    code-goes c s = ap (λ (d : Code). code types vars cuts d s) (sym (roll-out-Code c))
        ∙ ap (λ (go : Going). go s) (fold-roll-Code Going Going (tail_rule types vars cuts) (code_rule types vars) (out-Code c))

    pub code-Cut : (c : Code) (place : ℕ) (s : State) → c.tail ≡ tail_is.Cut place →
        code types vars cuts c s
        ≡ option_map_or (λ cut. arrived types vars cut (items types vars c.items s)) (slice_get cuts place) (items types vars c.items s)
    code-Cut c place s is = code-goes c s ∙ ap (λ (t : Tail). tail_goes t (items types vars c.items s)) (is ∙ sym (rolls-Cut place))
        ∙ ap (λ (go : Going). go (items types vars c.items s))
        (fold-roll-Tail Going Going (tail_rule types vars cuts) (code_rule types vars) (Tail-F.Cut place))

    pub code-Branch : (c : Code) (line : ℕ) (b : Cond) (taken other : Code) (s : State) → c.tail ≡ tail_is.Branch line b taken other →
        code types vars cuts c s
        ≡ branch types vars (code types vars cuts taken) (code types vars cuts other)
        (condition types vars line b (guard (items types vars c.items s)) (items types vars c.items s))
    code-Branch c line b taken other s is = code-goes c s
        ∙ ap (λ (t : Tail). tail_goes t (items types vars c.items s)) (is ∙ sym (rolls-Branch line b taken other))
        ∙ ap (λ (go : Going). go (items types vars c.items s))
        (fold-roll-Tail Going Going (tail_rule types vars cuts) (code_rule types vars) (Tail-F.Branch line b taken other))

    pub cut-walked : (c : Code) (xs : List Item) (place : ℕ) (w0 w1 w2 : Walker) → xs ≡ c.items → c.tail ≡ tail_is.Cut place →
        Leads w0 w1 (items types vars xs) → Leads w1 w2 (λ s. option_map_or (λ cut. arrived types vars cut s) (slice_get cuts place) s) →
        Leads w0 w2 (code types vars cuts c)
    cut-walked c xs place w0 w1 w2 same is one two next wanted s at =
        two next wanted (items types vars xs s) (one next wanted s at)
        ∙ ap (λ (us : List Item).
        shown next wanted (option_map_or (λ cut. arrived types vars cut (items types vars us s)) (slice_get cuts place) (items types vars us s))) same
        ∙ ap (shown next wanted) (sym (code-Cut c place s is))

    pub branch-walked : (c : Code) (xs : List Item) (line : ℕ) (b : Cond) (taken other x y : Code) (fork : Fork) (w0 w1 w2 w3 w4 w5 : Walker) →
        xs ≡ c.items → c.tail ≡ tail_is.Branch line b taken other → x ≡ taken → y ≡ other → Leads w0 w1 (items types vars xs) →
        Forked line b fork w1 w2 → Leads w2 w3 (code types vars cuts x) →
        w4 ≡ with_guard (Some (track (suc fork.way.0))) (with_events fork.events (with_values fork.values w3)) →
        Leads w4 w5 (code types vars cuts y) → Leads w0 w5 (code types vars cuts c)
    branch-walked c xs line b taken other x y fork w0 w1 w2 w3 w4 w5 same is x_is y_is one forks first turned second next wanted s at =
        let t : State = items types vars xs s in
        let told : Told = condition types vars line b (guard t) t in
        let before : State = with_ways types vars (told.0) (told.1) in
        let kept = forks next wanted t (one next wanted s at) in
        let a : State = code types vars cuts x (on_way fork.way.0 before) in
        let there : w4 ≡ shown next wanted (on_way (suc fork.way.0) (record a { values = before.values; events = before.events })) =
        turned
        ∙ ap (λ (w : Walker). with_guard (Some (track (suc fork.way.0))) (with_events fork.events (with_values fork.values w)))
        (first next wanted (on_way fork.way.0 before) kept.1)
        ∙ ap₂ (λ (es : List Event) (us : List Sym).
        with_guard (Some (track (suc fork.way.0))) (with_events es (with_values us (shown next wanted a)))) kept.0.events kept.0.values in
        second next wanted (on_way (suc fork.way.0) (record a { values = before.values; events = before.events })) there
        ∙ ap (λ (n : Track). shown next wanted (other_code n.0 (code types vars cuts y) before (code types vars cuts x (on_way n.0 before)))) kept.0.way
        ∙ ap₂ (λ (p q : Code). shown next wanted (branch types vars (code types vars cuts p) (code types vars cuts q) told)) x_is y_is
        ∙ ap (λ (us : List Item). shown next wanted (branch types vars (code types vars cuts taken) (code types vars cuts other)
        (condition types vars line b (guard (items types vars us s)) (items types vars us s)))) same
        ∙ ap (shown next wanted) (sym (code-Branch c line b taken other s is))
