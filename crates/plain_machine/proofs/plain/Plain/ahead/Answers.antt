use Rattle.std.proofs.Common.{Bool, ◌<◌, ◌≤◌, ◌∙◌, List, length, Some, refl, ap, sym, subst, arith}
use Rattle.plain_heap.specs.Heaps.{shown_of}
use Rattle.plain_machine.specs.declared.lanes.Lane.{Lane}
use Rattle.plain_machine.specs.Telling.{awaited}
use Rattle.plain_machine.proofs.Ahead.{ahead-none, lane-is, lane-there, set-twice}
use Rattle.plain_machine.proofs.Following.{given, left-kept, live-askable, live-ready}
use Rattle.plain_machine.proofs.Lives.{dead-request, missing-request}
use Rattle.plain_machine.proofs.Telling.{none-awaits}
use Rattle.plain_machine.proofs.plain.Plain.ahead.Goals as goal

pub returns-then-at-len-clause-tells : goal.returns-then-at-len-clause-tells
returns-then-at-len-clause-tells g c launch acts h =
    let world = c.args.self.now.world in
    let lanes = c.args.self.now.lanes.items in
    let t = c.args.t in
    let at_t = c.number-at.ensures.same in
    none-awaits launch acts t (missing-request launch acts (shown_of world.heap) world.rest h.threads h.stands t
    (ahead-none launch h.threads lanes t h.ahead (subst (λ k. length lanes ≤ k) at_t (omega (arith, c.if-at-len.true)))))

pub returns-then-not-is_live-clause-tells : goal.returns-then-not-is_live-clause-tells
returns-then-not-is_live-clause-tells g c launch acts h =
    let world = c.args.self.now.world in
    none-awaits launch acts c.args.t (dead-request launch acts (shown_of world.heap) world.rest h.threads h.stands c.args.t
    (sym c.is_live.ensures ∙ c.if-not-is_live.true))

pub ahead-told-requires-clause-ready : goal.ahead-told-requires-clause-ready
ahead-told-requires-clause-ready g c =
    let launch = c.requires.stands.0 in
    let acts = c.requires.stands.1 in
    let h = c.requires.stands.2 in
    let facts = g.C.Types.facts c.args.set.now in
    let x = g.H.Host.setting c.args.host.now in
    let world = c.args.self.now.world in
    let lanes = c.args.self.now.lanes.items in
    let t = c.args.t in
    let at_t = c.number-at.ensures.same in
    let live = sym {A = Bool} c.is_live.ensures ∙ c.if-not-is_live.false in
    let below : t < length lanes = subst (λ k. k < length lanes) at_t (omega (arith, c.if-at-len.false)) in
    let lane = c.index_mut.result.now in
    let is = lane-there lanes lanes c.number-at.result t lane refl at_t c.index_mut.ensures.value in
    live-ready c.machines_go_on_as_plain_runs.ensures.asks launch acts facts x (shown_of world.heap) world.rest world.steps lanes
    h t lane below is live c.turned-request.result c.turned-request.new.lane.frames c.turned-request.ensures.turns c.turned-request.ensures.of

pub ahead-told-requires-clause-asks : goal.ahead-told-requires-clause-asks
ahead-told-requires-clause-asks g c =
    let launch = c.requires.stands.0 in
    let acts = c.requires.stands.1 in
    let h = c.requires.stands.2 in
    let facts = g.C.Types.facts c.args.set.now in
    let x = g.H.Host.setting c.args.host.now in
    let world = c.args.self.now.world in
    let lanes = c.args.self.now.lanes.items in
    let t = c.args.t in
    let at_t = c.number-at.ensures.same in
    let live = sym {A = Bool} c.is_live.ensures ∙ c.if-not-is_live.false in
    let below : t < length lanes = subst (λ k. k < length lanes) at_t (omega (arith, c.if-at-len.false)) in
    let lane = c.index_mut.result.now in
    let is = lane-there lanes lanes c.number-at.result t lane refl at_t c.index_mut.ensures.value in
    live-askable c.machines_go_on_as_plain_runs.ensures.asks launch acts facts x (shown_of world.heap) world.rest world.steps lanes
    h t lane below is live c.turned-request.result c.turned-request.new.lane.frames c.turned-request.ensures.turns c.turned-request.ensures.of

pub returns-clause-tells : goal.returns-clause-tells
returns-clause-tells g c launch acts h =
    let facts = g.C.Types.facts c.args.set.now in
    let x = g.H.Host.setting c.args.host.now in
    let world = c.args.self.now.world in
    let lanes = c.args.self.now.lanes.items in
    let t = c.args.t in
    let at_t = c.number-at.ensures.same in
    let live = sym {A = Bool} c.is_live.ensures ∙ c.if-not-is_live.false in
    let below : t < length lanes = subst (λ k. k < length lanes) at_t (omega (arith, c.if-at-len.false)) in
    let lane = c.index_mut.result.now in
    let is = lane-there lanes lanes c.number-at.result t lane refl at_t c.index_mut.ensures.value in
    c.ahead-told.ensures.tells h.stands.roots ∙ ap awaited (sym (given c.machines_go_on_as_plain_runs.ensures.asks launch acts facts x
    (shown_of world.heap) world.rest world.steps lanes h t lane below is live c.turned-request.result c.turned-request.new.lane.frames
    c.turned-request.ensures.turns c.turned-request.ensures.of 1))

pub returns-clause-same : goal.returns-clause-same
returns-clause-same g c launch acts h =
    let facts = g.C.Types.facts c.args.set.now in
    let x = g.H.Host.setting c.args.host.now in
    let world = c.args.self.now.world in
    let lanes = c.args.self.now.lanes.items in
    let t = c.args.t in
    let at_t = c.number-at.ensures.same in
    let live = sym {A = Bool} c.is_live.ensures ∙ c.if-not-is_live.false in
    let below : t < length lanes = subst (λ k. k < length lanes) at_t (omega (arith, c.if-at-len.false)) in
    let lane = c.index_mut.result.now in
    let is = lane-there lanes lanes c.number-at.result t lane refl at_t c.index_mut.ensures.value in
    let q = c.turned-request.result in
    let inside : c.number-at.result < length lanes = omega (arith, c.if-at-len.false) in
    let own = lane-is lanes c.number-at.result c.turned-request.new.lane c.index_mut-2.result.now inside c.index_mut-2.ensures.value in
    let lane_now : Lane = record { frames = c.index_mut-2.result.now.frames; asked = Some q } in
    left-kept c.machines_go_on_as_plain_runs.ensures.asks launch acts facts x (shown_of world.heap) world.rest world.steps lanes
    h t lane below is live q c.turned-request.new.lane.frames c.turned-request.ensures.turns c.turned-request.ensures.of
    (shown_of c.ahead-told.new.self.heap) c.ahead-told.new.self.rest lane_now _
    (set-twice lanes lanes c.number-at.result t c.turned-request.new.lane lane_now refl at_t)
    c.moved_heaps_stand_for_the_same_run.ensures.stands (ap (λ (l : Lane). l.frames) own) refl c.ahead-told.ensures.kept
    c.ahead-told.new.self.steps c.ahead-told.ensures.ready
