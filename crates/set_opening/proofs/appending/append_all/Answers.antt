use Rattle.std.proofs.Common.{◌≡◌, ◌≢◌, [], refl, sym, ap, ◌∙◌, arith}
use Rattle.line_memory.specs.Memory.{Memory}
use Rattle.word_changes.proofs.Going.{goes_more, goes_nowhere}
use Rattle.directories.specs.declared.appending.Append.{Append}
use Rattle.directories.specs.declared.appending.Append.TheVariants.{Done, More}
use Rattle.directories.specs.Appending.{OfEntry}
use Rattle.directories.specs.Growing.{IsAppendCall}
use Rattle.directories.specs.Kept.{Kept, Steps, next_words}
use Rattle.set_opening.proofs.Steps.{call_goes, steps_less, steps_room}
use Rattle.set_opening.proofs.appending.append_all.Goals as goal

pub entries-init : goal.entries-init
entries-init g c = record {
  appended = λ had durable room. c.appended_entries_stand.ensures.begun had c.args.directory.now
      c.args.memory.now durable room;
  entries = record { shapes = refl; roots = refl };
  goes_on = goes_nowhere c.args.memory.now;
  enough = c.requires.enough;
  room = c.requires.room;
  spared = refl;
}

pub returns-in_err-append_next-clause-appended : goal.returns-in_err-append_next-clause-appended
returns-in_err-append_next-clause-appended g c had durable room =
    let call : IsAppendCall c.entries.directory c.append_next.new.self c.entries.memory
    c.append_next.new.memory =
    record {
      changes = c.append_next.ensures.changes;
      stands = c.append_next.ensures.stands;
      stops =
          c.append_next.ensures.stops;
    } in
    c.appended_entries_stand.ensures.further had c.args.directory.now c.entries.directory
    c.append_next.new.self c.args.memory.now
    c.entries.memory c.append_next.new.memory (c.entries.invariant.appended had durable room) call

pub returns-in_err-append_next-clause-goes_on : goal.returns-in_err-append_next-clause-goes_on
returns-in_err-append_next-clause-goes_on g c =
    goes_more c.args.memory.now c.entries.memory c.append_next.new.memory c.entries.invariant.goes_on
    (call_goes (OfEntry c.entries.directory.used (next_words c.entries.directory.left)) c.entries.memory
    c.append_next.new.memory
    c.append_next.ensures.changes c.append_next.ensures.count)

-- more is left, so something was
was_left : (old new : Kept) (answer : Append) → answer ≡ More → (new.left ≡ [] → answer ≡ Done)
    → (old.left ≡ [] → new ≡ old)
    → old.left ≢ []
was_left old new answer more done same none =
    let is : answer ≡ Done = done (ap (λ (k : Kept). k.left) (same none) ∙ none) in
    let wrong : More ≡ Done = sym more ∙ is in
    cc

pub entries-smaller : goal.entries-smaller
entries-smaller g c =
    let old : Kept = c.entries.directory in
    let new : Kept = c.append_next.new.self in
    let ok = c.in_ok-append_next.ensures in
    let some : old.left ≢ [] = was_left old new c.in_ok-append_next.field-0 c.in-More.is ok.done.1 (λ none.
    (ok.nothing_left none).0) in
    steps_less old new c.entries.memory c.append_next.new.memory
    (λ l below. c.every_line_is_resident.ensures c.entries.memory l below)
    c.entries.invariant.enough c.entries.invariant.room some (ok.steps some)

pub entries-preserved : goal.entries-preserved
entries-preserved g c =
    let old : Kept = c.entries.directory in
    let new : Kept = c.append_next.new.self in
    let before : Memory = c.entries.memory in
    let after : Memory = c.append_next.new.memory in
    let ok = c.in_ok-append_next.ensures in
    let some : old.left ≢ [] = was_left old new c.in_ok-append_next.field-0 c.in-More.is ok.done.1 (λ none.
    (ok.nothing_left none).0) in
    let steps : Steps old new before after = ok.steps some in
    let call : IsAppendCall old new before after =
    record {
      changes = c.append_next.ensures.changes;
      stands = c.append_next.ensures.stands;
      stops =
          c.append_next.ensures.stops;
    } in
    let inv = c.entries.invariant in
    record {
      appended = λ had durable room. c.appended_entries_stand.ensures.further had c.args.directory.now old
          new c.args.memory.now
          before after (inv.appended had durable room) call;
      entries = record {
        shapes = steps.0.shapes ∙ inv.entries.shapes;
        roots = steps.0.roots
            ∙ inv.entries.roots;
      };
      goes_on = goes_more c.args.memory.now before after inv.goes_on
          (call_goes (OfEntry old.used (next_words old.left)) before after c.append_next.ensures.changes
          c.append_next.ensures.count);
      enough = (let size = c.append_next.ensures.changes.size in let enough = inv.enough in
          omega (arith, size, enough));
      room = steps_room old new before after inv.room steps;
      spared = ok.cause.spared ∙ inv.spared;
    }

pub returns-in-Done-clause-appended : goal.returns-in-Done-clause-appended
returns-in-Done-clause-appended g c had durable room =
    let call : IsAppendCall c.entries.directory c.append_next.new.self c.entries.memory
    c.append_next.new.memory =
    record {
      changes = c.append_next.ensures.changes;
      stands = c.append_next.ensures.stands;
      stops =
          c.append_next.ensures.stops;
    } in
    c.appended_entries_stand.ensures.further had c.args.directory.now c.entries.directory
    c.append_next.new.self c.args.memory.now
    c.entries.memory c.append_next.new.memory (c.entries.invariant.appended had durable room) call
