use Rattle.std.proofs.Common.{Bool, ◌<◌, ◌≤◌, ◌++◌, ◌∙◌, List, length, Some, refl, ap, sym, subst, arith}
use Rattle.frames.specs.Turns.{answer}
use Rattle.private_steps.specs.Waits.{Waits}
use Rattle.plain_heap.specs.Heaps.{shown_of}
use Rattle.plain_machine.specs.declared.lanes.Lane.{Lane}
use Rattle.plain_machine.specs.Starts.{begun_of}
use Rattle.plain_machine.specs.Standing.{recorded}
use Rattle.plain_machine.specs.Trying.{DoesOr}
use Rattle.plain_machine.proofs.Ahead.{ahead-none, lane-is, lane-there, set-twice}
use Rattle.plain_machine.proofs.Following.{did-waits, exact-none, exact-some, lacks, left-done, left-kept, live-askable}
use Rattle.plain_machine.proofs.Following.{live-ready, persisted}
use Rattle.plain_machine.proofs.Lives.{dead-request, idle-refuses, missing-request}
use Rattle.plain_machine.proofs.plain.Plain.follow.Goals as goal

pub returns-then-is_persistent-clause-goes : goal.returns-then-is_persistent-clause-goes
returns-then-is_persistent-clause-goes g c launch acts named h done run =
    let world = c.args.self.now.world in
    persisted launch acts (g.C.Types.facts c.args.set.now) (g.H.Host.setting c.args.host.now) (shown_of
    world.heap)
    world.rest world.steps c.args.self.now.lanes.items (recorded c.args.act.now named)
    (sym c.is_persistent.ensures ∙ c.if-is_persistent.true) run h

pub returns-then-at-len-clause-exact : goal.returns-then-at-len-clause-exact
returns-then-at-len-clause-exact g c launch acts h =
    let facts = g.C.Types.facts c.args.set.now in
    let x = g.H.Host.setting c.args.host.now in
    let world = c.args.self.now.world in
    let shown = shown_of world.heap in
    let lanes = c.args.self.now.lanes.items in
    let t = c.args.act.now.thread in
    let visible = sym {A = Bool} c.is_persistent.ensures ∙ c.if-is_persistent.false in
    let at_t = c.number-at.ensures.same in
    idle-refuses launch acts c.args.act.now visible (missing-request launch acts shown world.rest h.threads
    h.stands t
    (ahead-none launch h.threads lanes t h.ahead
    (subst (λ k. length lanes ≤ k) at_t (omega (arith, c.if-at-len.true)))))

pub returns-then-not-is_live-clause-exact : goal.returns-then-not-is_live-clause-exact
returns-then-not-is_live-clause-exact g c launch acts h =
    let facts = g.C.Types.facts c.args.set.now in
    let x = g.H.Host.setting c.args.host.now in
    let world = c.args.self.now.world in
    let shown = shown_of world.heap in
    let lanes = c.args.self.now.lanes.items in
    let t = c.args.act.now.thread in
    let visible = sym {A = Bool} c.is_persistent.ensures ∙ c.if-is_persistent.false in
    let at_t = c.number-at.ensures.same in
    idle-refuses launch acts c.args.act.now visible (dead-request launch acts shown world.rest h.threads
    h.stands t
    (sym c.is_live.ensures ∙ c.if-not-is_live.true))

pub act-requires-clause-ready : goal.act-requires-clause-ready
act-requires-clause-ready g c =
    let launch = c.requires.stands.0 in
    let acts = c.requires.stands.1 in
    let h = c.requires.stands.2 in
    let facts = g.C.Types.facts c.args.set.now in
    let x = g.H.Host.setting c.args.host.now in
    let world = c.args.self.now.world in
    let shown = shown_of world.heap in
    let lanes = c.args.self.now.lanes.items in
    let t = c.args.act.now.thread in
    let visible = sym {A = Bool} c.is_persistent.ensures ∙ c.if-is_persistent.false in
    let at_t = c.number-at.ensures.same in
    let live = sym {A = Bool} c.is_live.ensures ∙ c.if-not-is_live.false in
    let below : t < length lanes = subst (λ k. k < length lanes) at_t (omega (arith, c.if-at-len.false)) in
    let lane = c.index_mut.result.now in
    let is = lane-there c.new_frames.new.lanes.items lanes c.number-at.result t lane
    c.new_frames.ensures.same at_t
    c.index_mut.ensures.value in
    let q = c.turned-request.result in
    let turns = c.turned-request.ensures.turns in
    let now = c.turned-request.new.lane.frames in
    let inside : c.number-at.result < length c.new_frames.new.lanes.items =
    subst (λ (ls : List Lane). c.number-at.result < length ls) (sym {A = List Lane} c.new_frames.ensures.same)
    (omega (arith, c.if-at-len.false)) in
    live-ready c.machines_go_on_as_plain_runs.ensures.asks launch acts facts x shown world.rest world.steps
    lanes
    h t lane below is live q now turns c.turned-request.ensures.of

pub act-requires-clause-asks : goal.act-requires-clause-asks
act-requires-clause-asks g c =
    let launch = c.requires.stands.0 in
    let acts = c.requires.stands.1 in
    let h = c.requires.stands.2 in
    let facts = g.C.Types.facts c.args.set.now in
    let x = g.H.Host.setting c.args.host.now in
    let world = c.args.self.now.world in
    let shown = shown_of world.heap in
    let lanes = c.args.self.now.lanes.items in
    let t = c.args.act.now.thread in
    let visible = sym {A = Bool} c.is_persistent.ensures ∙ c.if-is_persistent.false in
    let at_t = c.number-at.ensures.same in
    let live = sym {A = Bool} c.is_live.ensures ∙ c.if-not-is_live.false in
    let below : t < length lanes = subst (λ k. k < length lanes) at_t (omega (arith, c.if-at-len.false)) in
    let lane = c.index_mut.result.now in
    let is = lane-there c.new_frames.new.lanes.items lanes c.number-at.result t lane
    c.new_frames.ensures.same at_t
    c.index_mut.ensures.value in
    let q = c.turned-request.result in
    let turns = c.turned-request.ensures.turns in
    let now = c.turned-request.new.lane.frames in
    let inside : c.number-at.result < length c.new_frames.new.lanes.items =
    subst (λ (ls : List Lane). c.number-at.result < length ls) (sym {A = List Lane} c.new_frames.ensures.same)
    (omega (arith, c.if-at-len.false)) in
    live-askable c.machines_go_on_as_plain_runs.ensures.asks launch acts facts x shown world.rest
    world.steps lanes
    h t lane below is live q now turns c.turned-request.ensures.of

pub answer-requires-clause-waits : goal.answer-requires-clause-waits
answer-requires-clause-waits g c =
    let launch = c.requires.stands.0 in
    let acts = c.requires.stands.1 in
    let h = c.requires.stands.2 in
    let facts = g.C.Types.facts c.args.set.now in
    let x = g.H.Host.setting c.args.host.now in
    let world = c.args.self.now.world in
    let shown = shown_of world.heap in
    let lanes = c.args.self.now.lanes.items in
    let t = c.args.act.now.thread in
    let visible = sym {A = Bool} c.is_persistent.ensures ∙ c.if-is_persistent.false in
    let at_t = c.number-at.ensures.same in
    let live = sym {A = Bool} c.is_live.ensures ∙ c.if-not-is_live.false in
    let below : t < length lanes = subst (λ k. k < length lanes) at_t (omega (arith, c.if-at-len.false)) in
    let lane = c.index_mut.result.now in
    let is = lane-there c.new_frames.new.lanes.items lanes c.number-at.result t lane
    c.new_frames.ensures.same at_t
    c.index_mut.ensures.value in
    let q = c.turned-request.result in
    let turns = c.turned-request.ensures.turns in
    let now = c.turned-request.new.lane.frames in
    let inside : c.number-at.result < length c.new_frames.new.lanes.items =
    subst (λ (ls : List Lane). c.number-at.result < length ls) (sym {A = List Lane} c.new_frames.ensures.same)
    (omega (arith, c.if-at-len.false)) in
    let some_does = subst (λ d. DoesOr facts t q c.args.act.now.op shown world.rest d
    (shown_of c.act.new.self.heap) c.act.new.self.rest) c.in-Ok-Some.field-0-is c.in-Ok-Some.ensures.does in
    let own = lane-is c.new_frames.new.lanes.items c.number-at.result c.turned-request.new.lane
    c.index_mut-in-Ok-Some.result.now inside c.index_mut-in-Ok-Some.ensures.value in
    subst (λ (l : Lane). Waits l.frames) (sym own) (did-waits c.machines_go_on_as_plain_runs.ensures.asks
    launch acts facts x shown world.rest world.steps lanes
    h t lane below is live q now turns c.turned-request.ensures.of c.args.act.now.op c.in-Ok-Some.reply
    (shown_of c.act.new.self.heap) c.act.new.self.rest some_does)

pub returns-in-Err-clause-same : goal.returns-in-Err-clause-same
returns-in-Err-clause-same g c launch acts h other =
    let facts = g.C.Types.facts c.args.set.now in
    let x = g.H.Host.setting c.args.host.now in
    let world = c.args.self.now.world in
    let shown = shown_of world.heap in
    let lanes = c.args.self.now.lanes.items in
    let t = c.args.act.now.thread in
    let visible = sym {A = Bool} c.is_persistent.ensures ∙ c.if-is_persistent.false in
    let at_t = c.number-at.ensures.same in
    let live = sym {A = Bool} c.is_live.ensures ∙ c.if-not-is_live.false in
    let below : t < length lanes = subst (λ k. k < length lanes) at_t (omega (arith, c.if-at-len.false)) in
    let lane = c.index_mut.result.now in
    let is = lane-there c.new_frames.new.lanes.items lanes c.number-at.result t lane
    c.new_frames.ensures.same at_t
    c.index_mut.ensures.value in
    let q = c.turned-request.result in
    let turns = c.turned-request.ensures.turns in
    let now = c.turned-request.new.lane.frames in
    let inside : c.number-at.result < length c.new_frames.new.lanes.items =
    subst (λ (ls : List Lane). c.number-at.result < length ls) (sym {A = List Lane} c.new_frames.ensures.same)
    (omega (arith, c.if-at-len.false)) in
    let ready = c.in-Err.ensures.ready in
    let own = lane-is c.new_frames.new.lanes.items c.number-at.result c.turned-request.new.lane
    c.index_mut-in-Err.result.now inside c.index_mut-in-Err.ensures.value in
    let lane_now : Lane = record { frames = c.index_mut-in-Err.result.now.frames; asked = Some q } in
    left-kept c.machines_go_on_as_plain_runs.ensures.asks launch acts facts x shown world.rest world.steps
    lanes
    h t lane below is live q now turns c.turned-request.ensures.of (shown_of c.act.new.self.heap)
    c.act.new.self.rest lane_now _
    (set-twice c.new_frames.new.lanes.items lanes c.number-at.result t c.turned-request.new.lane lane_now
    c.new_frames.ensures.same at_t) c.moved_heaps_stand_for_the_same_run.ensures.stands
    (ap (λ (l : Lane). l.frames) own) refl c.in-Err.ensures.same c.act.new.self.steps ready

pub returns-in-Err-clause-cause : goal.returns-in-Err-clause-cause
returns-in-Err-clause-cause g c launch acts h =
    let facts = g.C.Types.facts c.args.set.now in
    let x = g.H.Host.setting c.args.host.now in
    let world = c.args.self.now.world in
    let shown = shown_of world.heap in
    let lanes = c.args.self.now.lanes.items in
    let t = c.args.act.now.thread in
    let visible = sym {A = Bool} c.is_persistent.ensures ∙ c.if-is_persistent.false in
    let at_t = c.number-at.ensures.same in
    let live = sym {A = Bool} c.is_live.ensures ∙ c.if-not-is_live.false in
    let below : t < length lanes = subst (λ k. k < length lanes) at_t (omega (arith, c.if-at-len.false)) in
    let lane = c.index_mut.result.now in
    let is = lane-there c.new_frames.new.lanes.items lanes c.number-at.result t lane
    c.new_frames.ensures.same at_t
    c.index_mut.ensures.value in
    let q = c.turned-request.result in
    let turns = c.turned-request.ensures.turns in
    let now = c.turned-request.new.lane.frames in
    let inside : c.number-at.result < length c.new_frames.new.lanes.items =
    subst (λ (ls : List Lane). c.number-at.result < length ls) (sym {A = List Lane} c.new_frames.ensures.same)
    (omega (arith, c.if-at-len.false)) in
    lacks c.machines_go_on_as_plain_runs.ensures.asks launch acts facts x shown world.rest world.steps lanes
    h t lane below is live q now turns c.turned-request.ensures.of c.args.act.now refl visible
    c.in-Err.ensures.cause

pub returns-in-Ok-None-clause-exact : goal.returns-in-Ok-None-clause-exact
returns-in-Ok-None-clause-exact g c launch acts h =
    let facts = g.C.Types.facts c.args.set.now in
    let x = g.H.Host.setting c.args.host.now in
    let world = c.args.self.now.world in
    let shown = shown_of world.heap in
    let lanes = c.args.self.now.lanes.items in
    let t = c.args.act.now.thread in
    let visible = sym {A = Bool} c.is_persistent.ensures ∙ c.if-is_persistent.false in
    let at_t = c.number-at.ensures.same in
    let live = sym {A = Bool} c.is_live.ensures ∙ c.if-not-is_live.false in
    let below : t < length lanes = subst (λ k. k < length lanes) at_t (omega (arith, c.if-at-len.false)) in
    let lane = c.index_mut.result.now in
    let is = lane-there c.new_frames.new.lanes.items lanes c.number-at.result t lane
    c.new_frames.ensures.same at_t
    c.index_mut.ensures.value in
    let q = c.turned-request.result in
    let turns = c.turned-request.ensures.turns in
    let now = c.turned-request.new.lane.frames in
    let inside : c.number-at.result < length c.new_frames.new.lanes.items =
    subst (λ (ls : List Lane). c.number-at.result < length ls) (sym {A = List Lane} c.new_frames.ensures.same)
    (omega (arith, c.if-at-len.false)) in
    let none_does = subst (λ d. DoesOr facts t q c.args.act.now.op shown world.rest d
    (shown_of c.act.new.self.heap) c.act.new.self.rest) c.in-Ok-None.field-0-is c.in-Ok-None.ensures.does in
    exact-none c.machines_go_on_as_plain_runs.ensures.asks launch acts facts x shown world.rest world.steps
    lanes
    h t lane below is live q now turns c.turned-request.ensures.of c.args.act.now refl visible none_does.1

pub returns-in-Ok-None-clause-same : goal.returns-in-Ok-None-clause-same
returns-in-Ok-None-clause-same g c launch acts h other =
    let facts = g.C.Types.facts c.args.set.now in
    let x = g.H.Host.setting c.args.host.now in
    let world = c.args.self.now.world in
    let shown = shown_of world.heap in
    let lanes = c.args.self.now.lanes.items in
    let t = c.args.act.now.thread in
    let visible = sym {A = Bool} c.is_persistent.ensures ∙ c.if-is_persistent.false in
    let at_t = c.number-at.ensures.same in
    let live = sym {A = Bool} c.is_live.ensures ∙ c.if-not-is_live.false in
    let below : t < length lanes = subst (λ k. k < length lanes) at_t (omega (arith, c.if-at-len.false)) in
    let lane = c.index_mut.result.now in
    let is = lane-there c.new_frames.new.lanes.items lanes c.number-at.result t lane
    c.new_frames.ensures.same at_t
    c.index_mut.ensures.value in
    let q = c.turned-request.result in
    let turns = c.turned-request.ensures.turns in
    let now = c.turned-request.new.lane.frames in
    let inside : c.number-at.result < length c.new_frames.new.lanes.items =
    subst (λ (ls : List Lane). c.number-at.result < length ls) (sym {A = List Lane} c.new_frames.ensures.same)
    (omega (arith, c.if-at-len.false)) in
    let none_does = subst (λ d. DoesOr facts t q c.args.act.now.op shown world.rest d
    (shown_of c.act.new.self.heap) c.act.new.self.rest) c.in-Ok-None.field-0-is c.in-Ok-None.ensures.does in
    let ready = c.in-Ok-None.ensures.ready in
    let own = lane-is c.new_frames.new.lanes.items c.number-at.result c.turned-request.new.lane
    c.index_mut-in-Ok-None.result.now inside c.index_mut-in-Ok-None.ensures.value in
    let lane_now : Lane = record { frames = c.index_mut-in-Ok-None.result.now.frames; asked = Some q } in
    left-kept c.machines_go_on_as_plain_runs.ensures.asks launch acts facts x shown world.rest world.steps
    lanes
    h t lane below is live q now turns c.turned-request.ensures.of (shown_of c.act.new.self.heap)
    c.act.new.self.rest lane_now _
    (set-twice c.new_frames.new.lanes.items lanes c.number-at.result t c.turned-request.new.lane lane_now
    c.new_frames.ensures.same at_t) c.moved_heaps_stand_for_the_same_run.ensures.stands
    (ap (λ (l : Lane). l.frames) own) refl none_does.0 c.act.new.self.steps ready

pub returns-in-Ok-Some-clause-exact : goal.returns-in-Ok-Some-clause-exact
returns-in-Ok-Some-clause-exact g c launch acts h =
    let facts = g.C.Types.facts c.args.set.now in
    let x = g.H.Host.setting c.args.host.now in
    let world = c.args.self.now.world in
    let shown = shown_of world.heap in
    let lanes = c.args.self.now.lanes.items in
    let t = c.args.act.now.thread in
    let visible = sym {A = Bool} c.is_persistent.ensures ∙ c.if-is_persistent.false in
    let at_t = c.number-at.ensures.same in
    let live = sym {A = Bool} c.is_live.ensures ∙ c.if-not-is_live.false in
    let below : t < length lanes = subst (λ k. k < length lanes) at_t (omega (arith, c.if-at-len.false)) in
    let lane = c.index_mut.result.now in
    let is = lane-there c.new_frames.new.lanes.items lanes c.number-at.result t lane
    c.new_frames.ensures.same at_t
    c.index_mut.ensures.value in
    let q = c.turned-request.result in
    let turns = c.turned-request.ensures.turns in
    let now = c.turned-request.new.lane.frames in
    let inside : c.number-at.result < length c.new_frames.new.lanes.items =
    subst (λ (ls : List Lane). c.number-at.result < length ls) (sym {A = List Lane} c.new_frames.ensures.same)
    (omega (arith, c.if-at-len.false)) in
    let some_does = subst (λ d. DoesOr facts t q c.args.act.now.op shown world.rest d
    (shown_of c.act.new.self.heap) c.act.new.self.rest) c.in-Ok-Some.field-0-is c.in-Ok-Some.ensures.does in
    exact-some c.machines_go_on_as_plain_runs.ensures.asks launch acts facts x shown world.rest world.steps
    lanes
    h t lane below is live q now turns c.turned-request.ensures.of c.args.act.now refl visible
    c.in-Ok-Some.reply (shown_of c.act.new.self.heap)
    c.act.new.self.rest some_does

pub returns-in-Ok-Some-clause-goes : goal.returns-in-Ok-Some-clause-goes
returns-in-Ok-Some-clause-goes g c launch acts named h done run =
    let facts = g.C.Types.facts c.args.set.now in
    let x = g.H.Host.setting c.args.host.now in
    let world = c.args.self.now.world in
    let shown = shown_of world.heap in
    let lanes = c.args.self.now.lanes.items in
    let t = c.args.act.now.thread in
    let visible = sym {A = Bool} c.is_persistent.ensures ∙ c.if-is_persistent.false in
    let at_t = c.number-at.ensures.same in
    let live = sym {A = Bool} c.is_live.ensures ∙ c.if-not-is_live.false in
    let below : t < length lanes = subst (λ k. k < length lanes) at_t (omega (arith, c.if-at-len.false)) in
    let lane = c.index_mut.result.now in
    let is = lane-there c.new_frames.new.lanes.items lanes c.number-at.result t lane
    c.new_frames.ensures.same at_t
    c.index_mut.ensures.value in
    let q = c.turned-request.result in
    let turns = c.turned-request.ensures.turns in
    let now = c.turned-request.new.lane.frames in
    let inside : c.number-at.result < length c.new_frames.new.lanes.items =
    subst (λ (ls : List Lane). c.number-at.result < length ls) (sym {A = List Lane} c.new_frames.ensures.same)
    (omega (arith, c.if-at-len.false)) in
    let some_does = subst (λ d. DoesOr facts t q c.args.act.now.op shown world.rest d
    (shown_of c.act.new.self.heap) c.act.new.self.rest) c.in-Ok-Some.field-0-is c.in-Ok-Some.ensures.does in
    let own = lane-is c.new_frames.new.lanes.items c.number-at.result c.turned-request.new.lane
    c.index_mut-in-Ok-Some.result.now inside c.index_mut-in-Ok-Some.ensures.value in
    let lane_now : Lane = record {
      frames = c.answer.new.self;
      asked =
          c.index_mut-in-Ok-Some.result.now.asked;
    } in
    left-done c.machines_go_on_as_plain_runs.ensures.asks launch acts facts x shown world.rest world.steps
    lanes
    h t lane below is live q now turns c.turned-request.ensures.of
    c.machines_go_on_as_plain_runs.ensures.acts (recorded c.args.act.now named) refl
    c.in-Ok-Some.reply (shown_of c.act.new.self.heap) c.act.new.self.rest c.act.new.self.steps refl
    some_does run c.in_ok-begun.begun c.in_ok-begun.ensures.begun lane_now c.begin.new.lanes.items
    (c.begin.ensures ∙ ap (λ (ls : List Lane). ls ++ begun_of c.in_ok-begun.begun q)
    (set-twice c.new_frames.new.lanes.items lanes c.number-at.result t c.turned-request.new.lane lane_now
    c.new_frames.ensures.same at_t)) (c.answer.ensures.answer
    ∙ ap (λ (l : Lane). answer x l.frames c.in-Ok-Some.reply) own)
    (ap (λ (l : Lane). l.asked) own ∙ c.turned-request.ensures.none) c.answer.ensures.of
    c.in-Ok-Some.ensures.ready
