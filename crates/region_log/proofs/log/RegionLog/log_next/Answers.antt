use Rattle.std.proofs.Common.{◌≡◌, ◌<◌, [], length, rules, arith}
use Rattle.image_layout.specs.Places.{log_entries}
use Rattle.region_log.specs.declared.entry.Entry.{Entry}
use Rattle.region_log.specs.declared.entry.EntryStage.TheVariants.{Counted}
use Rattle.region_log.specs.Log.{Log}
use Rattle.region_log.specs.Made.{PutsThenCalls}
use Rattle.region_log.specs.Stages.{words_at, HasMade}
use Rattle.region_log.proofs.Stepping.{steps-nowhere, now-touch, now-on, now-fail, now-last}
use Rattle.region_log.proofs.log.RegionLog.log_next.Goals.{in-Counted, in_default}
use Rattle.region_log.proofs.log.RegionLog.log_next.Goals as goal

pub returns-then-len-clause-steps : goal.returns-then-len-clause-steps
returns-then-len-clause-steps g c = steps-nowhere c.args.self.now c.args.memory.now c.requires.keeps

pub returns-in_err-add_call-clause-steps : goal.returns-in_err-add_call-clause-steps
returns-in_err-add_call-clause-steps g c =
    let e : Entry = record { spot = c.args.spot; old = c.args.old } in
    let inside = c.self.inside in
    let before : Log = record {
      thread = inside.thread;
      depth = inside.depth;
      entries = inside.entries.items;
      underway = inside.underway;
    } in
    let room : length inside.entries.items < log_entries = omega arith in
    let is_n : c.len-n.result ≡ length inside.entries.items = omega arith in
    now-fail before c.args.self.now e c.args.memory.now c.add_call.new.memory c.self.view_is c.requires.keeps
    c.requires.same room
    c.requires.place c.requires.unlogged c.len-n.result c.entry_stage-stage.result is_n
    c.entry_stage-stage.ensures c.if_failed.result c.if_failed.ensures
    c.in_err-add_call.ensures.failed

pub returns-then-not-branch-clause-steps : goal.returns-then-not-branch-clause-steps
returns-then-not-branch-clause-steps g c =
    let e : Entry = record { spot = c.args.spot; old = c.args.old } in
    let inside = c.self.inside in
    let before : Log = record {
      thread = inside.thread;
      depth = inside.depth;
      entries = inside.entries.items;
      underway = inside.underway;
    } in
    let room : length inside.entries.items < log_entries = omega arith in
    let is_n : c.len-n.result ≡ length inside.entries.items = omega arith in
    let touched : PutsThenCalls [] c.args.memory.now c.add_call.new.memory = search rules in
    now-touch before c.args.self.now e c.args.memory.now c.add_call.new.memory c.self.view_is
    c.requires.keeps c.requires.same room
    c.requires.place c.requires.unlogged c.len-n.result c.entry_stage-stage.result is_n
    c.entry_stage-stage.ensures touched

pub returns-then-matches-clause-steps : goal.returns-then-matches-clause-steps
returns-then-matches-clause-steps g c =
    let e : Entry = record { spot = c.args.spot; old = c.args.old } in
    let inside = c.self.inside in
    let before : Log = record {
      thread = inside.thread;
      depth = inside.depth;
      entries = inside.entries.items;
      underway = inside.underway;
    } in
    let room : length inside.entries.items < log_entries = omega arith in
    let is_n : c.len-n.result ≡ length inside.entries.items = omega arith in
    let made : PutsThenCalls (words_at inside.thread c.len-n.result e c.entry_stage-stage.result)
    c.args.memory.now c.add_call.new.memory = search rules in
    let has : HasMade inside.thread c.len-n.result e c.entry_stage-stage.result c.args.memory.now
    c.add_call.new.memory = search rules in
    let last : c.entry_stage-stage.result ≡ Counted = elim c.match-matches.branch
    [ in-Counted w ↦ w.in-Counted.is | in_default w ↦ cc ] in
    now-last before c.args.self.now e c.args.memory.now c.add_call.new.memory c.self.view_is c.requires.keeps
    c.requires.same room
    c.requires.place c.requires.unlogged c.len-n.result c.entry_stage-stage.result is_n
    c.entry_stage-stage.ensures
    c.push_reserved.new.self.items c.push_reserved.ensures.items last made has

pub returns-clause-steps : goal.returns-clause-steps
returns-clause-steps g c =
    let e : Entry = record { spot = c.args.spot; old = c.args.old } in
    let inside = c.self.inside in
    let before : Log = record {
      thread = inside.thread;
      depth = inside.depth;
      entries = inside.entries.items;
      underway = inside.underway;
    } in
    let room : length inside.entries.items < log_entries = omega arith in
    let is_n : c.len-n.result ≡ length inside.entries.items = omega arith in
    let made : PutsThenCalls (words_at inside.thread c.len-n.result e c.entry_stage-stage.result)
    c.args.memory.now c.add_call.new.memory = search rules in
    let has : HasMade inside.thread c.len-n.result e c.entry_stage-stage.result c.args.memory.now
    c.add_call.new.memory = search rules in
    now-on before c.args.self.now e c.args.memory.now c.add_call.new.memory c.self.view_is c.requires.keeps
    c.requires.same room
    c.requires.place c.requires.unlogged c.len-n.result c.entry_stage-stage.result is_n
    c.entry_stage-stage.ensures c.next.result c.next.ensures made has
