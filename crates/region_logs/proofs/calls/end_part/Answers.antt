use Rattle.std.proofs.Common.{◌≡◌, ◌+◌, ℕ, Bool, true, false, List, length, Ok, Err, ◌∙◌, ap, subst, rules}
use Rattle.line_memory.specs.Memory.{Memory}
use Rattle.region_log.specs.declared.entry.EndStage.TheVariants.{Cleared}
use Rattle.region_log.specs.declared.entry.Entry.{Entry}
use Rattle.region_log.specs.declared.entry.Underway.TheVariants.{Ending}
use Rattle.region_log.specs.Log.{Log}
use Rattle.region_log.specs.Readers.{is_cleared}
use Rattle.region_logs.specs.Calls.{EndsPart}
use Rattle.region_logs.specs.Table.{Names, NamesOthers, SetsOwners}
use Rattle.region_logs.proofs.Guards.{HasEmptied, cleared-is, end-empties, end-stays, fail-stays}
use Rattle.region_logs.proofs.Tables.{Stays, names-stay, gives-up, takes-back}
use Rattle.region_logs.proofs.calls.end_part.Goals as goal

pub returns-then-not-is_cleared-clause-names : goal.returns-then-not-is_cleared-clause-names
returns-then-not-is_cleared-clause-names g c =
    let before : Log = c.args.log.now in
    let after : Log = c.end_next.new.self in
    let said = c.end_next.ensures in
    let part : EndsPart before after c.args.memory.now c.end_next.new.memory c.end_next.result = record {
      at_once = said.at_once;
      more = said.more;
      fenced = said.fenced;
      ended = said.ended;
      failed = said.failed;
      one_call = said.one_call;
      steps = said.steps;
      region = said.region;
    } in
    let left : is_cleared before.underway ≡ false = search rules in
    let stays : Stays before after = end-stays before after c.args.memory.now c.end_next.new.memory c.end_next.result c.requires.same left part in
    names-stay c.args.thread c.args.table.now.items before after stays.guards c.requires.names

pub returns-in-Ok-clause-names : goal.returns-in-Ok-clause-names
returns-in-Ok-clause-names g c =
    let before : Log = c.args.log.now in
    let after : Log = c.end_next-2.new.self in
    let said = c.in-Ok.ensures in
    let part : EndsPart before after c.args.memory.now c.end_next-2.new.memory (Ok c.in-Ok.step) = record {
      at_once = said.at_once;
      more = said.more;
      fenced = said.fenced;
      ended = said.ended;
      failed = said.failed;
      one_call = said.one_call;
      steps = said.steps;
      region = said.region;
    } in
    let last : is_cleared before.underway ≡ true = search rules in
    let ending : before.underway ≡ Ending Cleared = cleared-is before.underway last in
    let ended : HasEmptied before after = end-empties before after c.args.memory.now c.end_next-2.new.memory c.in-Ok.step ending c.requires.keeps part in
    let sets : SetsOwners before.entries (length before.entries) 0 c.args.table.now.items c.set_owners.new.table.items =
    subst (λ (es : List Entry). SetsOwners es (length es) 0 c.args.table.now.items c.set_owners.new.table.items) c.entries.ensures c.set_owners.ensures in
    (gives-up c.args.table.now.items c.set_owners.new.table.items c.args.thread before after c.requires.names ending sets ended.entries ended.underway).0

pub returns-in-Ok-clause-others : goal.returns-in-Ok-clause-others
returns-in-Ok-clause-others g c =
    let before : Log = c.args.log.now in
    let after : Log = c.end_next-2.new.self in
    let said = c.in-Ok.ensures in
    let part : EndsPart before after c.args.memory.now c.end_next-2.new.memory (Ok c.in-Ok.step) = record {
      at_once = said.at_once;
      more = said.more;
      fenced = said.fenced;
      ended = said.ended;
      failed = said.failed;
      one_call = said.one_call;
      steps = said.steps;
      region = said.region;
    } in
    let last : is_cleared before.underway ≡ true = search rules in
    let ending : before.underway ≡ Ending Cleared = cleared-is before.underway last in
    let ended : HasEmptied before after = end-empties before after c.args.memory.now c.end_next-2.new.memory c.in-Ok.step ending c.requires.keeps part in
    let sets : SetsOwners before.entries (length before.entries) 0 c.args.table.now.items c.set_owners.new.table.items =
    subst (λ (es : List Entry). SetsOwners es (length es) 0 c.args.table.now.items c.set_owners.new.table.items) c.entries.ensures c.set_owners.ensures in
    (gives-up c.args.table.now.items c.set_owners.new.table.items c.args.thread before after c.requires.names ending sets ended.entries ended.underway).1

pub returns-in-Err-clause-names : goal.returns-in-Err-clause-names
returns-in-Err-clause-names g c =
    let before : Log = c.args.log.now in
    let after : Log = c.end_next-2.new.self in
    let old : List ℕ = c.args.table.now.items in
    let between : List ℕ = c.set_owners.new.table.items in
    let new : List ℕ = c.set_owners-in-Err.new.table.items in
    let stays : Stays before after = fail-stays before after (c.in-Err.ensures.failed).log c.requires.same in
    let gives : SetsOwners before.entries (length before.entries) 0 old between =
    subst (λ (es : List Entry). SetsOwners es (length es) 0 old between) c.entries.ensures c.set_owners.ensures in
    let same : c.entries-in-Err.result.now ≡ before.entries =
    c.entries-in-Err.ensures ∙ ap (λ (l : Log). l.entries) (c.in-Err.ensures.failed).log in
    let takes : SetsOwners before.entries (length before.entries) (c.args.thread + 1) between new =
    subst (λ (t : ℕ). SetsOwners before.entries (length before.entries) (t + 1) between new) c.number.ensures.same
    (subst (λ (es : List Entry). SetsOwners es (length es) (c.number.result + 1) between new) same c.set_owners-in-Err.ensures) in
    (takes-back old between new c.args.thread before after c.requires.names stays.guards gives takes).0

pub returns-in-Err-clause-others : goal.returns-in-Err-clause-others
returns-in-Err-clause-others g c =
    let before : Log = c.args.log.now in
    let after : Log = c.end_next-2.new.self in
    let old : List ℕ = c.args.table.now.items in
    let between : List ℕ = c.set_owners.new.table.items in
    let new : List ℕ = c.set_owners-in-Err.new.table.items in
    let stays : Stays before after = fail-stays before after (c.in-Err.ensures.failed).log c.requires.same in
    let gives : SetsOwners before.entries (length before.entries) 0 old between =
    subst (λ (es : List Entry). SetsOwners es (length es) 0 old between) c.entries.ensures c.set_owners.ensures in
    let same : c.entries-in-Err.result.now ≡ before.entries =
    c.entries-in-Err.ensures ∙ ap (λ (l : Log). l.entries) (c.in-Err.ensures.failed).log in
    let takes : SetsOwners before.entries (length before.entries) (c.args.thread + 1) between new =
    subst (λ (t : ℕ). SetsOwners before.entries (length before.entries) (t + 1) between new) c.number.ensures.same
    (subst (λ (es : List Entry). SetsOwners es (length es) (c.number.result + 1) between new) same c.set_owners-in-Err.ensures) in
    (takes-back old between new c.args.thread before after c.requires.names stays.guards gives takes).1
