use Rattle.std.proofs.Common.{◌≡◌, ◌≢◌, ◌<◌, List, [], ◌∷◌, length, inl, inr, refl, ap, rules, arith}
use Rattle.region_log.specs.declared.entry.Entry.{Entry}
use Rattle.region_log.specs.declared.entry.EndStage.TheVariants.{AllFenced, Cleared}
use Rattle.region_log.specs.Log.{Log}
use Rattle.region_log.specs.Made.{PutsThenCalls}
use Rattle.region_log.specs.Stages.{EndsAtOnce, next_end, words_to_end, HasEnded}
use Rattle.region_log.proofs.Ending.{now-at_once, now-touch, now-on, now-fail, now-last, now-fenced}
use Rattle.region_log.proofs.Regions as words
use Rattle.region_log.proofs.log.RegionLog.end_next.Goals.{in-Cleared, in_default, in-AllFenced, in_default-matches}
use Rattle.region_log.proofs.log.RegionLog.end_next.Goals.{then-self-gt1-via-then-self-gt1}
use Rattle.region_log.proofs.log.RegionLog.end_next.Goals.{then-self-gt1-via-else-self-gt1+then-is_empty}
use Rattle.region_log.proofs.log.RegionLog.end_next.Goals as goal

no_entries : (entries : List Entry) → length entries ≡ 0 → entries ≡ []
no_entries [] is = refl
no_entries (e ∷ entries) is = absurd (omega (arith, is))

pub returns-then-self-gt1-clause-steps : goal.returns-then-self-gt1-clause-steps
returns-then-self-gt1-clause-steps g c =
    let inside = c.self.inside in
    let before : Log = record {
      thread = inside.thread;
      depth = inside.depth;
      entries = inside.entries.items;
      underway = inside.underway;
    } in
    let at_once : EndsAtOnce before = elim c.then-self-gt1.branch [
      | then-self-gt1-via-then-self-gt1 w ↦ (let deep : 1 < inside.depth = omega arith in inl deep)
      | then-self-gt1-via-else-self-gt1+then-is_empty w ↦
          (let none : length inside.entries.items ≡ 0 = search rules in
          inr (no_entries inside.entries.items none))
    ] in
    now-at_once before c.args.self.now c.args.memory.now c.self.view_is c.requires.keeps c.requires.same
    at_once

pub returns-in_err-end_call-clause-steps : goal.returns-in_err-end_call-clause-steps
returns-in_err-end_call-clause-steps g c =
    let inside = c.self.inside in
    let before : Log = record {
      thread = inside.thread;
      depth = inside.depth;
      entries = inside.entries.items;
      underway = inside.underway;
    } in
    let same_depth : inside.depth ≡ c.args.self.now.depth = ap (λ (log : Log). log.depth) c.self.view_is in
    let one : inside.depth ≡ 1 = omega (arith, same_depth) in
    let some : inside.entries.items ≢ [] = search rules in
    now-fail before c.args.self.now c.args.memory.now c.end_call.new.memory c.self.view_is c.requires.keeps
    c.requires.same one some c.end_stage-stage.result c.end_stage-stage.ensures c.if_failed.result
    c.if_failed.ensures c.in_err-end_call.ensures.failed

pub returns-in_err-end_call-clause-region : goal.returns-in_err-end_call-clause-region
returns-in_err-end_call-clause-region g c region =
    let inside = c.self.inside in
    let before : Log = record {
      thread = inside.thread;
      depth = inside.depth;
      entries = inside.entries.items;
      underway = inside.underway;
    } in
    words.now-fail before c.args.self.now c.args.memory.now c.end_call.new.memory c.self.view_is
    c.requires.keeps c.requires.same c.end_stage-stage.result c.end_stage-stage.ensures region
    c.if_failed.result c.if_failed.ensures c.in_err-end_call.ensures.failed

pub returns-then-not-branch-clause-steps : goal.returns-then-not-branch-clause-steps
returns-then-not-branch-clause-steps g c =
    let inside = c.self.inside in
    let before : Log = record {
      thread = inside.thread;
      depth = inside.depth;
      entries = inside.entries.items;
      underway = inside.underway;
    } in
    let same_depth : inside.depth ≡ c.args.self.now.depth = ap (λ (log : Log). log.depth) c.self.view_is in
    let one : inside.depth ≡ 1 = omega (arith, same_depth) in
    let some : inside.entries.items ≢ [] = search rules in
    let touched : PutsThenCalls [] c.args.memory.now c.end_call.new.memory = search rules in
    now-touch before c.args.self.now c.args.memory.now c.end_call.new.memory c.self.view_is c.requires.keeps
    c.requires.same one some c.end_stage-stage.result c.end_stage-stage.ensures touched

pub returns-then-matches-clause-steps : goal.returns-then-matches-clause-steps
returns-then-matches-clause-steps g c =
    let inside = c.self.inside in
    let before : Log = record {
      thread = inside.thread;
      depth = inside.depth;
      entries = inside.entries.items;
      underway = inside.underway;
    } in
    let same_depth : inside.depth ≡ c.args.self.now.depth = ap (λ (log : Log). log.depth) c.self.view_is in
    let one : inside.depth ≡ 1 = omega (arith, same_depth) in
    let some : inside.entries.items ≢ [] = search rules in
    let made : PutsThenCalls (words_to_end inside.thread c.end_stage-stage.result) c.args.memory.now
    c.end_call.new.memory = search rules in
    let has : HasEnded inside.thread inside.entries.items c.end_stage-stage.result c.args.memory.now
    c.end_call.new.memory = search rules in
    let last : c.end_stage-stage.result ≡ Cleared = elim c.match-matches.branch
    [ in-Cleared w ↦ w.in-Cleared.is | in_default w ↦ cc ] in
    now-last before c.args.self.now c.args.memory.now c.end_call.new.memory c.self.view_is c.requires.keeps
    c.requires.same one some c.end_stage-stage.result c.end_stage-stage.ensures c.clear.new.self.items
    c.clear.ensures.items last made has

pub returns-then-matches-2-clause-fenced : goal.returns-then-matches-2-clause-fenced
returns-then-matches-2-clause-fenced g c fenced =
    let inside = c.self.inside in
    let before : Log = record {
      thread = inside.thread;
      depth = inside.depth;
      entries = inside.entries.items;
      underway = inside.underway;
    } in
    let same_depth : inside.depth ≡ c.args.self.now.depth = ap (λ (log : Log). log.depth) c.self.view_is in
    let one : inside.depth ≡ 1 = omega (arith, same_depth) in
    let some : inside.entries.items ≢ [] = search rules in
    let made : PutsThenCalls (words_to_end inside.thread c.end_stage-stage.result) c.args.memory.now
    c.end_call.new.memory = search rules in
    let has : HasEnded inside.thread inside.entries.items c.end_stage-stage.result c.args.memory.now
    c.end_call.new.memory = search rules in
    let is_next : c.next-next.result ≡ next_end (length inside.entries.items) c.end_stage-stage.result =
    search rules in
    let all : c.next-next.result ≡ AllFenced = elim c.match-matches-2.branch
    [ in-AllFenced w ↦ w.in-AllFenced.is | in_default-matches w ↦ cc ] in
    now-fenced before c.args.self.now c.args.memory.now c.end_call.new.memory c.self.view_is c.requires.keeps
    c.requires.same one some c.end_stage-stage.result c.end_stage-stage.ensures c.next-next.result
    is_next all made has

pub returns-then-matches-2-clause-steps : goal.returns-then-matches-2-clause-steps
returns-then-matches-2-clause-steps g c =
    let inside = c.self.inside in
    let before : Log = record {
      thread = inside.thread;
      depth = inside.depth;
      entries = inside.entries.items;
      underway = inside.underway;
    } in
    let same_depth : inside.depth ≡ c.args.self.now.depth = ap (λ (log : Log). log.depth) c.self.view_is in
    let one : inside.depth ≡ 1 = omega (arith, same_depth) in
    let some : inside.entries.items ≢ [] = search rules in
    let made : PutsThenCalls (words_to_end inside.thread c.end_stage-stage.result) c.args.memory.now
    c.end_call.new.memory = search rules in
    let has : HasEnded inside.thread inside.entries.items c.end_stage-stage.result c.args.memory.now
    c.end_call.new.memory = search rules in
    let is_next : c.next-next.result ≡ next_end (length inside.entries.items) c.end_stage-stage.result =
    search rules in
    now-on before c.args.self.now c.args.memory.now c.end_call.new.memory c.self.view_is c.requires.keeps
    c.requires.same one some c.end_stage-stage.result c.end_stage-stage.ensures c.next-next.result
    is_next made has

pub returns-then-matches-2-clause-region : goal.returns-then-matches-2-clause-region
returns-then-matches-2-clause-region g c region =
    let inside = c.self.inside in
    let before : Log = record {
      thread = inside.thread;
      depth = inside.depth;
      entries = inside.entries.items;
      underway = inside.underway;
    } in
    let made : PutsThenCalls (words_to_end inside.thread c.end_stage-stage.result) c.args.memory.now
    c.end_call.new.memory = search rules in
    let has : HasEnded inside.thread inside.entries.items c.end_stage-stage.result c.args.memory.now
    c.end_call.new.memory = search rules in
    let is_next : c.next-next.result ≡ next_end (length inside.entries.items) c.end_stage-stage.result =
    search rules in
    words.now-on before c.args.self.now c.args.memory.now c.end_call.new.memory c.self.view_is
    c.requires.keeps c.requires.same c.end_stage-stage.result c.end_stage-stage.ensures region
    c.next-next.result is_next made has

pub returns-clause-steps : goal.returns-clause-steps
returns-clause-steps g c =
    let inside = c.self.inside in
    let before : Log = record {
      thread = inside.thread;
      depth = inside.depth;
      entries = inside.entries.items;
      underway = inside.underway;
    } in
    let same_depth : inside.depth ≡ c.args.self.now.depth = ap (λ (log : Log). log.depth) c.self.view_is in
    let one : inside.depth ≡ 1 = omega (arith, same_depth) in
    let some : inside.entries.items ≢ [] = search rules in
    let made : PutsThenCalls (words_to_end inside.thread c.end_stage-stage.result) c.args.memory.now
    c.end_call.new.memory = search rules in
    let has : HasEnded inside.thread inside.entries.items c.end_stage-stage.result c.args.memory.now
    c.end_call.new.memory = search rules in
    let is_next : c.next-next.result ≡ next_end (length inside.entries.items) c.end_stage-stage.result =
    search rules in
    now-on before c.args.self.now c.args.memory.now c.end_call.new.memory c.self.view_is c.requires.keeps
    c.requires.same one some c.end_stage-stage.result c.end_stage-stage.ensures c.next-next.result
    is_next made has

pub returns-clause-region : goal.returns-clause-region
returns-clause-region g c region =
    let inside = c.self.inside in
    let before : Log = record {
      thread = inside.thread;
      depth = inside.depth;
      entries = inside.entries.items;
      underway = inside.underway;
    } in
    let made : PutsThenCalls (words_to_end inside.thread c.end_stage-stage.result) c.args.memory.now
    c.end_call.new.memory = search rules in
    let has : HasEnded inside.thread inside.entries.items c.end_stage-stage.result c.args.memory.now
    c.end_call.new.memory = search rules in
    let is_next : c.next-next.result ≡ next_end (length inside.entries.items) c.end_stage-stage.result =
    search rules in
    words.now-on before c.args.self.now c.args.memory.now c.end_call.new.memory c.self.view_is
    c.requires.keeps c.requires.same c.end_stage-stage.result c.end_stage-stage.ensures region
    c.next-next.result is_next made has
