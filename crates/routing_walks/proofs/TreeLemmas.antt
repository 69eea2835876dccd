-- Trees of a backbone: each live cell is in exactly one, and walks over data fields stay in it.
use Rattle.std.proofs.Common.{◌≡◌, inl, inr, List, IsSome, refl, sym, subst}
use Rattle.store_core.specs.declared.ids.FieldId.{FieldId}
use Rattle.store_core.specs.declared.ids.VarId.{VarId}
use Rattle.store_core.specs.declared.ids.CellId.{CellId}
use Rattle.store_core.specs.declared.kind.Route.{Route}
use Rattle.store_core.specs.Tables.{TypeEntry, VarEntry}
use Rattle.store_core.specs.Stores.{StoreMap, IsLive}
use Rattle.routing_walks.specs.declared.fault.Place.{Place}
use Rattle.routing_walks.specs.declared.fault.Place.TheVariants as place
use Rattle.routing_walks.specs.Walks.{DataAlone, Leads, IsParent, Chain, stay, go, Walk}
use Rattle.routing_walks.specs.WellFormed.{IsThere, Names, IsInTree, IsBackbone}
use Rattle.routing_walks.specs.Laws.{AreInOneTree}
use Rattle.routing_walks.proofs.RouteLemmas.{IsHereditary, route-induction}
use Rattle.routing_walks.proofs.WalkLemmas.{Walk-Down, Walk-Up, Walk-UpAny, Walk-Root, Walk-Leaf, Walk-IsType, Walk-IsVariant, Walk-IsBool, Walk-Then}
use Rattle.routing_walks.proofs.WalkLemmas.{Walk-Or, Walk-Star}
use Rattle.routing_walks.proofs.LiveLemmas.{Walk-live, IsParent-live, Chain-live}

-- a chain with one step more at its end
pub Chain-then : {s : StoreMap} {Step : CellId → CellId → Type 0} {a b c : CellId} → IsLive s c → Chain s Step a b → Step b c → Chain s Step a c
Chain-then live (stay a h) step = go a _ _ step (stay _ live)
Chain-then live (go a b c first chain) step = go a b _ first (Chain-then live chain step)

-- two chains one after the other
pub Chain-join : {s : StoreMap} {Step : CellId → CellId → Type 0} {a b c : CellId} → Chain s Step a b → Chain s Step b c → Chain s Step a c
Chain-join (stay a h) chain = chain
Chain-join (go a b c first one) chain = go a b _ first (Chain-join one chain)

-- the same chains, taken apart at their end
pub data Back (s : StoreMap) (Step : CellId → CellId → Type 0) (a : CellId) : CellId → Type 0 where
  here : IsLive s a → Back s Step a a
  step_to : (b c : CellId) → Back s Step a b → Step b c → Back s Step a c

Back-join : {s : StoreMap} {Step : CellId → CellId → Type 0} {a b c : CellId} → Back s Step a b → Chain s Step b c → Back s Step a c
Back-join back (stay b h) = back
Back-join back (go b m c first chain) = Back-join (step_to b m back first) chain

pub Back-Chain : {s : StoreMap} {Step : CellId → CellId → Type 0} {a b : CellId} → IsLive s a → Chain s Step a b → Back s Step a b
Back-Chain live chain = Back-join (here live) chain

pub Chain-Back : {s : StoreMap} {Step : CellId → CellId → Type 0} {a b : CellId} → ((c d : CellId) → Step c d → IsLive s d) → Back s Step a b → Chain s Step a b
Chain-Back live (here h) = stay _ h
Chain-Back live (step_to b c back step) = Chain-then (live b c step) (Chain-Back live back) step

module _ (types : List TypeEntry) (vars : List VarEntry) (s : StoreMap) where
  -- a data variable or a data field that names a cell is there
  pub Names-there : (p : Place) (c : CellId) → Names types vars s p c → IsThere s p
  Names-there p c h = subst IsSome (sym h.value) refl

  -- a data field that leads to a cell names it
  pub Names-Leads : (f : FieldId) (a b : CellId) → Leads types s DataAlone f a b → Names types vars s (place.Field a f) b
  Names-Leads f a b h = record { place = h.kind; value = h.value }

  pub Leads-Names : (f : FieldId) (a b : CellId) → IsLive s b → Names types vars s (place.Field a f) b → Leads types s DataAlone f a b
  Leads-Names f a b live h = record { kind = h.place; value = h.value; live = live }

  pub IsInTree-live : (v : VarId) (c : CellId) → IsInTree types vars s v c → IsLive s c
  IsInTree-live v c h = (Chain-live (IsParent-live types s) h.path).1

  pub IsInTree-child : (v : VarId) (a b : CellId) → IsInTree types vars s v a → IsParent types s a b → IsInTree types vars s v b
  IsInTree-child v a b h step = record { root = h.root; named = h.named; path = Chain-then step.leads.live h.path step }

module _ (types : List TypeEntry) (vars : List VarEntry) (s : StoreMap)
    (once : (c : CellId) (p q : Place) → IsLive s c → Names types vars s p c → Names types vars s q c → p ≡ q) where
  var_same : (v w : VarId) → place.Var v ≡ place.Var w → v ≡ w
  var_same v w e = cc

  field_same : (a b : CellId) (f g : FieldId) → place.Field a f ≡ place.Field b g → a ≡ b
  field_same a b f g e = cc

  apart : (v : VarId) (a : CellId) (f : FieldId) → place.Var v ≡ place.Field a f → ⊥
  apart v a f e = cc

  -- two trees that share a cell are one
  Back-one_tree : (v w : VarId) (r q : CellId) → Names types vars s (place.Var v) r → Names types vars s (place.Var w) q → {c : CellId} →
      Back s (IsParent types s) r c → Back s (IsParent types s) q c → v ≡ w
  Back-one_tree v w r q by_v by_w (here h) (here k) = var_same v w (once _ _ _ h by_v by_w)
  Back-one_tree v w r q by_v by_w (here h) (step_to b c two step) =
      absurd (apart v b step.field (once _ _ _ h by_v (Names-Leads types vars s step.field b c step.leads)))
  Back-one_tree v w r q by_v by_w (step_to a c one step) (here h) =
      absurd (apart w a step.field (once _ _ _ h by_w (Names-Leads types vars s step.field a c step.leads)))
  Back-one_tree v w r q by_v by_w (step_to a c one step) (step_to b d two other) =
      Back-one_tree v w r q by_v by_w one
      (subst (λ x. Back s (IsParent types s) q x)
      (sym (field_same a b step.field other.field
      (once _ _ _ step.leads.live (Names-Leads types vars s step.field a _ step.leads) (Names-Leads types vars s other.field b _ other.leads))))
      two)

  IsInTree-back : (v : VarId) (c : CellId) (h : IsInTree types vars s v c) → Back s (IsParent types s) h.root c
  IsInTree-back v c h = Back-Chain (Chain-live (IsParent-live types s) h.path).0 h.path

  pub one_tree : (v w : VarId) (c : CellId) → IsInTree types vars s v c → IsInTree types vars s w c → v ≡ w
  one_tree v w c one two = Back-one_tree v w one.root two.root one.named two.named (IsInTree-back v c one) (IsInTree-back w c two)

  -- the parent of a cell is in its tree
  Back-parent : (v : VarId) (r a : CellId) → Names types vars s (place.Var v) r → {b : CellId} → IsParent types s a b →
      Back s (IsParent types s) r b → IsInTree types vars s v a
  Back-parent v r a by_v step (here h) = absurd (apart v a step.field (once _ _ _ h by_v (Names-Leads types vars s step.field a _ step.leads)))
  Back-parent v r a by_v step (step_to d b back other) =
      record {
        root = r;
        named = by_v;
        path = subst (λ x. Chain s (IsParent types s) r x)
            (field_same d a other.field step.field (once _ _ _ step.leads.live (Names-Leads types vars s other.field d _ other.leads)
            (Names-Leads types vars s step.field a _ step.leads)))
            (Chain-Back (λ c e h. (IsParent-live types s c e h).1) back);
      }

  pub IsInTree-parent : (v : VarId) (a b : CellId) → IsInTree types vars s v b → IsParent types s a b → IsInTree types vars s v a
  IsInTree-parent v a b h step = Back-parent v h.root a h.named step (IsInTree-back v b h)

  -- both ends are in the same trees
  Together : CellId → CellId → Type 0
  Together a b = (v : VarId) → (IsInTree types vars s v a → IsInTree types vars s v b) × (IsInTree types vars s v b → IsInTree types vars s v a)

  by_step : (a b : CellId) → IsParent types s a b → Together a b
  unfolding Together
  by_step a b h v = (λ in_a. IsInTree-child types vars s v a b in_a h, λ in_b. IsInTree-parent v a b in_b h)

  turned : (a b : CellId) → Together a b → Together b a
  unfolding Together
  turned a b h v = ((h v).1, (h v).0)

  alike : (a b : CellId) → a ≡ b → Together a b
  unfolding Together
  alike a b e v = (λ h. subst (λ x. IsInTree types vars s v x) e h, λ h. subst (λ x. IsInTree types vars s v x) (sym e) h)

  joined : (a b c : CellId) → Together a b → Together b c → Together a c
  unfolding Together
  joined a b c one two v = (λ h. (two v).0 ((one v).0 h), λ h. (one v).1 ((two v).1 h))

  along_chain : {Step : CellId → CellId → Type 0} → ((a b : CellId) → Step a b → Together a b) → {a b : CellId} → Chain s Step a b → Together a b
  along_chain each (stay a h) = alike a a refl
  along_chain each (go a b c step chain) = joined a b c (each a b step) (along_chain each chain)

  KeepsTrees : Route → Type 0
  KeepsTrees along = (a b : CellId) → Walk types s DataAlone along a b → Together a b

  hereditary : IsHereditary KeepsTrees
  unfolding KeepsTrees
  hereditary = record {
    of_Down = λ name a b w. let h = (Walk-Down types s DataAlone name a b).0 w in by_step a b (record { field = h.field; leads = h.leads });
    of_Up = λ name a b w. let h = (Walk-Up types s DataAlone name a b).0 w in turned b a (by_step b a (record { field = h.field; leads = h.leads }));
    of_UpAny = λ a b w. turned b a (by_step b a ((Walk-UpAny types s DataAlone a b).0 w));
    of_Root = λ a b w. alike a b ((Walk-Root types s DataAlone a b).0 w).0;
    of_Leaf = λ a b w. alike a b ((Walk-Leaf types s DataAlone a b).0 w).0;
    of_IsType = λ ty a b w. alike a b ((Walk-IsType types s DataAlone ty a b).0 w).0;
    of_IsVariant = λ v a b w. alike a b ((Walk-IsVariant types s DataAlone v a b).0 w).0;
    of_IsBool = λ name truth a b w. alike a b ((Walk-IsBool types s DataAlone name truth a b).0 w).0;
    of_Then = λ first second one two a c w. let h = (Walk-Then types s DataAlone first second a c).0 w in joined a h.0 c (one a h.0 h.1) (two h.0 c h.2);
    of_Or = λ one other left right a b w. elim ((Walk-Or types s DataAlone one other a b).0 w) [ inl h ↦ left a b h | inr h ↦ right a b h ];
    of_Star = λ round each a b w. along_chain each ((Walk-Star types s DataAlone round a b).0 w);
  }

  pub Walk-together : (along : Route) (a b : CellId) → Walk types s DataAlone along a b → (v : VarId) →
      (IsInTree types vars s v a → IsInTree types vars s v b) × (IsInTree types vars s v b → IsInTree types vars s v a)
  unfolding KeepsTrees Together
  Walk-together = route-induction KeepsTrees hereditary

pub Walk-one_tree : (types : List TypeEntry) (vars : List VarEntry) (s : StoreMap) (along : Route) (a b : CellId) →
    IsBackbone types vars s → Walk types s DataAlone along a b → AreInOneTree types vars s a b
Walk-one_tree types vars s along a b backbone walk =
    let both = Walk-together types vars s backbone.named_once along a b walk in
    let tree = backbone.reached a (Walk-live types s DataAlone along a b walk).0 in
    record {
      tree = tree.0;
      has_one = tree.1;
      has_other = (both tree.0).0 tree.1;
      no_other = λ v h. elim h [
        | inl in_a ↦ one_tree types vars s backbone.named_once v tree.0 a in_a tree.1
        | inr in_b ↦ one_tree types vars s backbone.named_once v tree.0 a ((both v).1 in_b) tree.1
      ];
    }
