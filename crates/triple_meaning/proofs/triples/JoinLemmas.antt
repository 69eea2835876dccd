-- What the state sees, in the words of the laws on assertions, claims and cuts.
use Rattle.std.proofs.Common.{◌≡◌, ◌↔◌, ℕ, ◌<◌, List, [], map, Option, Some, None, refl, sym, ap, subst, arith}
use Rattle.std.specs.Prelude.{IfSome, IsSomeAnd}
use Rattle.std.proofs.lemmas.List.{reverse-reverse}
use Rattle.std.specs.Option.{IsSome}
use Rattle.std.specs.List.{AllByRecursion}
use Rattle.gta_theory.specs.Assignments.{Assignment}
use Rattle.ws2s_core.specs.Satisfaction.{WSat}
use Rattle.ws2s_forms.specs.Forms.{track}
use Rattle.store_core.specs.declared.ids.VarId.{VarId}
use Rattle.store_core.specs.declared.value.Value.{Value}
use Rattle.store_core.specs.Tables.{TypeEntry, VarEntry}
use Rattle.store_core.specs.Stores.{StoreMap, CellEntry, cell_of, IsLive}
use Rattle.store_core.proofs.Bodies.{AllByRecursion-at}
use Rattle.routing_walks.specs.declared.fault.Place.TheVariants as place
use Rattle.routing_walks.specs.WellFormed.{NamesDead}
use Rattle.routing_walks.specs.CutFaults.{HasDanglingReference, HasShared, HasLeaked, HasWrongField}
use Rattle.store_logic.specs.Fits.{IsKnownDataVar}
use Rattle.store_exec.specs.declared.triple.Claim.{Claim}
use Rattle.store_exec.specs.declared.triple.Cut.{Cut}
use Rattle.store_exec.specs.declared.triple.Triple.{Triple}
use Rattle.store_exec.specs.Cuts.{AreMet, Escapes}
use Rattle.store_exec.specs.Fits.{CutFits, TripleFits}
use Rattle.graph_view.specs.declared.view.CutCheck.{CutCheck}
use Rattle.graph_view.specs.declared.view.CutCheck.TheVariants as look
use Rattle.graph_view.specs.declared.view.Event.{Event}
use Rattle.graph_view.specs.Sights.{Sight, var_slots, sight_of}
use Rattle.graph_view.specs.Cuts.{cut_formula}
use Rattle.graph_view.specs.After.{Standing}
use Rattle.graph_meaning.specs.Live.Meaning.{Agrees}
use Rattle.graph_meaning.specs.Walks.Wells.{ShowsWell}
use Rattle.graph_meaning.proofs.cuts.DanglingLemmas.{dangles-means}
use Rattle.graph_meaning.proofs.cuts.SharedLemmas.{shares-means}
use Rattle.graph_meaning.proofs.cuts.LeakLemmas.{leaks-means}
use Rattle.graph_meaning.proofs.cuts.WrongLemmas.{wrong-means}
use Rattle.site_list.specs.States.{State, sight, value_of, next_track}
use Rattle.site_list.specs.Parts.{is_part, escapes}
use Rattle.site_list.specs.Cuts.{claims}
use Rattle.triple_meaning.specs.Claims.Given.{IsGiven, IsRegionOf, NameLive}
use Rattle.triple_meaning.specs.Claims.Stating.{view_of}
use Rattle.triple_meaning.proofs.claims.EscapeLemmas.{escapes-means}
use Rattle.triple_meaning.proofs.claims.PartLemmas.{live-part-means}
use Rattle.triple_meaning.proofs.claims.StateLemmas.{state-assertion, state-claims}
use Rattle.triple_meaning.specs.Sites.Seeing.{Sees}
use Rattle.triple_meaning.specs.Sites.Doing.{AreAssertionsMeant}
use Rattle.triple_meaning.specs.Sites.Ending.{AreConditionsTold, AreConditionsMeant, AreClaimsMeant, AreCutsMeant}
use Rattle.triple_meaning.proofs.sites.LookingLemmas.{layout_of, shows_well, here-itself}
use Rattle.triple_meaning.proofs.sites.LookingLemmas as looking
use Rattle.triple_meaning.proofs.sites.CutsLemmas.{arrived-ends}
use Rattle.triple_meaning.specs.Triples.Parted.{IsParted, AreParted}

-- where no reference dangles, a variable that names a cell names a live one
names-live : (s : StoreMap) (roots : List VarId) → (HasDanglingReference s → ⊥) → NameLive s roots
names-live s roots none c (v, listed, holds) = by (cell_of s c) refl
  where
    by : (o : Option CellEntry) → cell_of s c ≡ o → IsLive s c
    by (Some entry) is = subst (λ (x : Option CellEntry). IsSome x) (sym is) refl
    by None is = absurd (none (record {
      place = place.Var v;
      dangling = subst (λ (x : Option Value). IsSomeAnd x (NamesDead s)) (sym holds) is;
    }))

module _ (types : List TypeEntry) (vars : List VarEntry) (next : ℕ) (a : Assignment) (first : StoreMap) (s : State) (t : StoreMap) (at : Standing)
    (sees : Sees types vars next a first s t at) where
  -- whatever track the view has for its next quantifier
  wells : ShowsWell (layout_of types vars) (view_of types vars s) a first t t at next
  wells =
      let known = shows_well types vars next a first s t at sees in
      let shows = known.shows in
      record {
        table = known.table;
        well = known.well;
        shows = record {
          owners = shows.owners;
          fits = shows.fits;
          backbone = shows.backbone;
          assignment = shows.assignment;
          seen = shows.seen;
          read = shows.read;
          free = record { layout = shows.free.layout; vars = shows.free.vars; events = shows.free.events; region = shows.free.region };
        };
      }

  same : Agrees next a a
  same = here-itself types vars next a first s t at sees

  -- the view looks where the state does
  same-sight : (n : ℕ) → sight_of vars (looking.view_of s n) ≡ sight vars s
  same-sight n = ap (λ (events : List Event). record { slots = var_slots vars; events = events; region = None }) (reverse-reverse s.events)

  abbrev Told : CutCheck → Type 0 → Type 0
  Told what So = WSat (cut_formula types (sight vars s) vars s.values what next) a ↔ So

  by-sight : (what : CutCheck) (So : Type 0) →
      WSat (cut_formula types (sight_of vars (looking.view_of s next)) vars s.values what next) a ↔ So → Told what So
  by-sight what So told =
      subst (λ (k : Sight). WSat (cut_formula types k vars s.values what next) a ↔ So) (same-sight next) told

  pub conditions-told : AreConditionsTold types vars next a s t
  conditions-told =
      let l = layout_of types vars in
      let view = looking.view_of s next in
      let known = shows_well types vars next a first s t at sees in
      record {
        dangling = by-sight look.DanglingRef (HasDanglingReference t) (dangles-means l view a first t at next known a next same (omega arith));
        shared = by-sight look.Shared (HasShared types vars t) (shares-means l view a first t at next known a next same (omega arith));
        leaked = by-sight look.Leak (HasLeaked types vars t) (leaks-means l view a first t at next known a next same (omega arith));
        wrong = by-sight look.Field (HasWrongField types t) (wrong-means l view a first t at next known a next same (omega arith));
      }

pub assertions-meant : (types : List TypeEntry) (vars : List VarEntry) → AreAssertionsMeant types vars
assertions-meant types vars claim next a first s t at fits sees =
    state-assertion (layout_of types vars) s a first t at next (wells types vars next a first s t at sees) a next
    (same types vars next a first s t at sees) (omega arith) [] claim fits

pub conditions-meant : (types : List TypeEntry) (vars : List VarEntry) → AreConditionsMeant types vars
conditions-meant types vars next a first s t at sees = conditions-told types vars next a first s t at sees

-- the handed part, on its track
module _ (types : List TypeEntry) (vars : List VarEntry) (cut : Cut) (fits : CutFits types vars cut) (parted : IsParted cut) where
  on-part : (roots : List VarId) → cut.handed ≡ Some roots → (next x : ℕ) (a : Assignment) (first : StoreMap) (s : State) (t : StoreMap) (at : Standing) →
      Sees types vars next a first s t at → (HasDanglingReference t → ⊥) → x < next →
      WSat (is_part types (sight vars s) (map (value_of s.values) roots) x next) a →
      (WSat (escapes vars cut.inside s.values x next) a ↔ Escapes types vars t roots cut.inside)
      × (WSat (claims types vars cut.asserts (Some (track x)) s next) a ↔ AreMet types vars t cut.asserts)
  on-part roots is next x a first s t at sees none below part =
      let l = layout_of types vars in
      let view = view_of types vars s in
      let known = wells types vars next a first s t at sees in
      let itself = same types vars next a first s t at sees in
      let listed : AllByRecursion (IsKnownDataVar vars) roots =
      subst (λ (o : Option (List VarId)). IfSome o (AllByRecursion (IsKnownDataVar vars))) is fits.handed in
      let there : WSat (is_part types (sight_of vars view) (map (value_of s.values) roots) x next) a =
      subst (λ (k : Sight). WSat (is_part types k (map (value_of s.values) roots) x next) a)
      (sym (same-sight types vars next a first s t at sees (next_track types vars s))) part in
      let has = (live-part-means l view a first t at next known roots listed a next x itself (omega arith) below (names-live t roots none)).0 there in
      let given : IsGiven types vars a at t next roots (track x) = record { below = below; has = has } in
      let on : AllByRecursion (λ (c : Claim). IsRegionOf (Some roots) c.region) cut.asserts =
      subst (λ (o : Option (List VarId)). AllByRecursion (λ (c : Claim). IsRegionOf o c.region) cut.asserts) is parted in (
        escapes-means l view a first t at next known a next x itself (omega arith) roots cut.inside given,
        state-claims l s a first t at next known a next itself (omega arith) x (Some roots) cut.asserts given on fits.asserts,
      )

  pub claims-meant : AreClaimsMeant types vars cut
  claims-meant = record {
    alone = λ is next a first s t at sees none.
        state-claims (layout_of types vars) s a first t at next (wells types vars next a first s t at sees) a next
        (same types vars next a first s t at sees) (omega arith) 0 None cut.asserts tt
        (subst (λ (o : Option (List VarId)). AllByRecursion (λ (c : Claim). IsRegionOf o c.region) cut.asserts) is parted) fits.asserts;
    on_part = λ roots is next x a first s t at sees none below part. on-part roots is next x a first s t at sees none below part;
  }

pub cuts-meant : (types : List TypeEntry) (vars : List VarEntry) (t : Triple) → TripleFits types vars t → AreParted t → AreCutsMeant types vars t.cuts
cuts-meant types vars t fits parted place cut s there =
    arrived-ends types vars t.cuts place cut there
    (claims-meant types vars cut (AllByRecursion-at (CutFits types vars) t.cuts place cut fits.cuts there)
    (AllByRecursion-at IsParted t.cuts place cut parted there)) (conditions-meant types vars) s
