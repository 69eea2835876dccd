use Rattle.std.proofs.Common.{◌≡◌, ◌<◌, ◌∙◌, ℕ, sym, ap, Some, IsTrue, List, length, subst, arith}
use Rattle.ws2s_core.specs.declared.track.Track.{Track}
use Rattle.store_core.specs.declared.ids.VarId.{VarId}
use Rattle.store_core.specs.Tables.{VarEntry}
use Rattle.tree_encode.specs.Tracks.{of_var, var_track}
use Rattle.tree_store.specs.Rows.{var_number}
use Rattle.tree_store.specs.Spots.{IsOnAt, Adds}
use Rattle.tree_store.proofs.AddsLemmas.{Adds-same, Adds-next, Adds-none_yet}
use Rattle.tree_store.proofs.LabelLemmas.{vars-meant}
use Rattle.tree_store.proofs.tracks.push_vars.Goals as goal

pub loop-index-init : goal.loop-index-init
loop-index-init c =
    Adds-none_yet (λ (k : ℕ) (t : Track). (var_track c.args.l.now.types c.args.l.now.vars (var_number k) ≡ Some t) × IsOnAt c.args.store.now (of_var
    (var_number k)) c.args.at)
    c.args.tracks.now

pub loop-index-preserved : goal.loop-index-preserved
loop-index-preserved c =
    let types = c.args.l.now.types in
    let vars = c.args.l.now.vars in
    let s = c.args.store.now in
    let n = c.loop-index.index in
    Adds-next (λ (k : ℕ) (t : Track). (var_track types vars (var_number k) ≡ Some t) × IsOnAt s (of_var (var_number k)) c.args.at) n
    c.args.tracks.now c.loop-index.tracks c.push_where.new.tracks c.loop-index.invariant
    (Adds-same (λ (t : Track). IsTrue c.is_on.result × (c.var_track.result ≡ Some t))
    (λ (t : Track). (var_track types vars (var_number n) ≡ Some t) × IsOnAt s (of_var (var_number n)) c.args.at) c.loop-index.tracks c.push_where.new.tracks
    c.in_ok-push_where.ensures
    (λ t. (λ both. (c.is_on.ensures.1 both.1, c.var_track.ensures ∙ both.0), λ both. (sym c.var_track.ensures ∙ both.1, c.is_on.ensures.0 both.0))))

pub returns : goal.returns
returns c =
    let types = c.args.l.now.types in
    let vars = c.args.l.now.vars in
    let s = c.args.store.now in
    let n = c.loop-index.index in
    let all : n ≡ length vars =
    omega (arith, c.vars-index-end.ensures.value, ap (λ (vs : List VarEntry). length vs) c.vars.ensures.value) in
    let F : ℕ → Track → Type 0 = λ k t. (var_track types vars (var_number k) ≡ Some t) × IsOnAt s (of_var (var_number k)) c.args.at in
    Adds-same (λ (t : Track). (k : ℕ) × (k < length vars) × F k t)
    (λ (t : Track). (v : VarId) × (var_track types vars v ≡ Some t) × IsOnAt s (of_var v) c.args.at) c.args.tracks.now c.loop-index.tracks
    (subst (λ m. Adds (λ (t : Track). (k : ℕ) × (k < m) × F k t) c.args.tracks.now c.loop-index.tracks) all c.loop-index.invariant)
    (λ t. vars-meant types vars s c.args.at t)
