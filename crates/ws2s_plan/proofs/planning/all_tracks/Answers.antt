use Rattle.std.proofs.Common.{◌≡◌, ◌++◌, List, Contains, map, take, ap, sym, subst, ◌∙◌, arith}
use Rattle.std.proofs.lemmas.List.{take_all}
use Rattle.std.proofs.lemmas.List.Elements.{Contains-append_right}
use Rattle.gta_theory.proofs.ListsLemmas.{Contains-map}
use Rattle.ws2s_core.specs.declared.track.Track.{Track}
use Rattle.ws2s_plan.proofs.planning.all_tracks.Goals as goal

pub returns-clause-free : goal.returns-clause-free
returns-clause-free c = λ t there.
    let l = c.loop-number in
    let all : take l.number-index c.args.free.now ≡ c.args.free.now = take_all l.number-index c.args.free.now (omega arith) in
    let is : l.tracks ≡ c.args.weigh.now ++ map (λ k. record { 0 = k }) c.args.free.now =
    l.invariant ∙ ap (λ ks. c.args.weigh.now ++ map (λ k. record { 0 = k }) ks) all in
    subst (λ (ts : List Track). Contains ts t) (sym is)
    (Contains-append_right c.args.weigh.now (map (λ k. record { 0 = k }) c.args.free.now) t (Contains-map (λ k. record { 0 = k }) c.args.free.now t.0 there))
