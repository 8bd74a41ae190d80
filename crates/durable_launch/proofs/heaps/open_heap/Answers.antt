use Rattle.std.proofs.Common.{ℕ, ◌<◌, List, length, sym, subst}
use Rattle.std.specs.Prelude.{slice_index}
use Rattle.line_memory.specs.Memory.{Memory}
use Rattle.image_recovery.specs.Recovered.{entries_in}
use Rattle.class_set.specs.Facts.{facts_of}
use Rattle.set_opening.specs.Passed.{IsWholeOpened}
use Rattle.set_opening.specs.Passed.{spaces_of}
use Rattle.set_opening.specs.Opened.{IsOpenedFor}
use Rattle.durable_launch.proofs.FirstHeaps.{beginning, refused}
use Rattle.durable_launch.proofs.heaps.open_heap.Goals as goal

pub new-requires : goal.new-requires
new-requires g c =
    let o = c.args.opened in
    let of = c.requires.opened in (
      facts_of c.args.set.now,
      o.graph,
      entries_in o.directory,
      beginning of.0 of.1 c.args.set.now o.memory o.directory o.lines o.graph o.free of.2 c.in-Ok.parts
          c.in-Ok.ensures.parts c.as_slice.result.now c.as_slice.ensures,
    )

pub returns-in-Ok-new-clause-can : goal.returns-in-Ok-new-clause-can
returns-in-Ok-new-clause-can g c start old of =
    let o = c.args.opened in
    let set = c.args.set.now in
    let facts = facts_of set in
    let directory = entries_in o.directory in
    let spaces = spaces_of c.in-Ok-new.field-0.spaces in
    let begins = beginning start old set o.memory o.directory o.lines o.graph o.free of c.in-Ok.parts c.in-Ok.ensures.parts
    c.as_slice.result.now c.as_slice.ensures in record {
      directory = o.directory;
      lines = o.lines;
      opened = subst (λ (m : Memory). IsOpenedFor start old set m o.directory o.lines o.graph o.free)
          (sym c.in-Ok-new.ensures.memory) of;
      over = record {
        shows = c.in-Ok-new.ensures.shows facts o.graph directory begins;
        stand_for = c.in-Ok-new.ensures.references facts o.graph directory begins;
        whole = subst (λ (ls : List ℕ). IsWholeOpened directory ls spaces) c.as_slice.ensures
            (c.in-Ok-new.ensures.whole facts o.graph directory begins);
        roots = c.in-Ok-new.ensures.roots facts o.graph directory begins;
        tables = c.in-Ok.parts.tables;
        are_tables = begins.are_parts.tables;
        has_tables = c.in-Ok-new.ensures.tables;
        listed = λ n written. subst
            (λ (ns : List ℕ). (n < length ns) × (slice_index ns n < length directory.shapes))
            (sym c.in-Ok-new.ensures.tables.numbers) (c.in-Ok.ensures.listed n written);
      };
    }

pub returns-clause-full : goal.returns-clause-full
returns-clause-full g c =
    let o = c.args.opened in
    let of = c.requires.opened in
    let parts = c.in-Ok.ensures.parts o.graph of.2.suits.roots in
    refused (facts_of c.args.set.now) (entries_in o.directory) c.in-Ok.parts c.args.words c.in-Err-new.why c.from.result
    parts.objects c.from.ensures c.in-Err-new.ensures.full
