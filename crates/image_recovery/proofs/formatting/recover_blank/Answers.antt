use Rattle.std.proofs.Common.{inr, arith, sym, ◌∙◌, ap}
use Rattle.line_memory.specs.Memory.{Memory, shown}
use Rattle.image_meaning.specs.Directories.{Directory, directory_of}
use Rattle.word_changes.proofs.Changing.{changes_more, changes_nowhere}
use Rattle.word_changes.proofs.Going.{goes_more}
use Rattle.directories.specs.Formatting.{IsBlankOrFormatted, OfLayout}
use Rattle.directories.proofs.Formatted.{formatted_opens}
use Rattle.image_meaning.specs.Directories.{no_entries}
use Rattle.image_walk.proofs.Looking.{looks_nowhere}
use Rattle.image_walk.proofs.Reading.{err_is}
use Rattle.image_recovery.specs.Recovered.{IsBadFault}
use Rattle.image_recovery.proofs.Recovers.{durable_on, goes_by_looks, never_bad, formatted_on, stops_look, empty_directory}
use Rattle.image_recovery.proofs.formatting.recover_blank.Goals as goal

pub returns-clause-finds : goal.returns-clause-finds
returns-clause-finds g c known =
    let mid : Memory = c.format_image.new.memory in
    let size = c.args.memory.now.size in
    let formatted = c.in_ok-format_image.ensures.formatted known in
    let entries = c.in_ok-directory.ensures.entries mid (c.format_image.ensures.changes.known known) (looks_nowhere mid) (sym formatted.used) in
    let unplanned = c.in_ok-directory.ensures.unplanned mid (c.format_image.ensures.changes.known known) (looks_nowhere mid) in
    let begins = c.in_ok-directory.ensures.begins mid (c.format_image.ensures.changes.known known) (looks_nowhere mid) in
    let used = c.in_ok-directory.ensures.used mid (c.format_image.ensures.changes.known known) (looks_nowhere mid) in
    let kept = c.in_ok-directory.directory in
    let none = empty_directory (directory_of (shown mid)) kept entries
    (formatted_opens size (shown mid) c.requires.enough c.requires.most formatted).entries in
    let same = c.nothing_found.ensures.directory in
    record {
      shapes = ap (λ k. k.shapes) same ∙ ap (λ (d : Directory). d.shapes) none;
      roots = ap (λ k. k.roots) same ∙ ap (λ (d : Directory). d.roots) none;
      unplanned = ap (λ k. k.left) same ∙ unplanned;
      begins = ap (λ k. k.progress) same ∙ begins;
      used = ap (λ k. k.used) same ∙ used;
      graph_is = c.nothing_found.ensures.graph;
      lines_are = c.nothing_found.ensures.lines;
      free_is = c.nothing_found.ensures.free;
      undone_is = c.nothing_found.ensures.undone;
    }

pub returns-clause-formatted : goal.returns-clause-formatted
returns-clause-formatted g c known =
    let mid : Memory = c.format_image.new.memory in
    let size = c.format_image.ensures.changes.size in
    formatted_on c.args.memory.now.size mid c.read_entries.new.memory (omega (arith, c.requires.enough, size))
    (c.format_image.ensures.changes.known known) c.read_entries.ensures.looks (c.in_ok-format_image.ensures.formatted known)

pub returns-clause-durable : goal.returns-clause-durable
returns-clause-durable g c tells durable =
    let mid : Memory = c.format_image.new.memory in
    let size = c.format_image.ensures.changes.size in
    durable_on mid c.read_entries.new.memory
    (c.format_image.ensures.changes.known (λ l below. inr tells)) c.read_entries.ensures.looks
    (λ l w below. c.in_ok-format_image.ensures.durable tells l w (durable l w (omega (arith, below, size))))

pub returns-in_err-directory-clause-never_bad : goal.returns-in_err-directory-clause-never_bad
returns-in_err-directory-clause-never_bad g c known =
    let mid : Memory = c.format_image.new.memory in
    let size = c.args.memory.now.size in
    let formatted = c.in_ok-format_image.ensures.formatted known in
    let fault = c.in_err-directory.field-0.0 in
    err_is c.from_residual-in_err-directory.result fault (λ f. IsBadFault f → ⊥) c.from_residual-in_err-directory.ensures.1
    (never_bad (directory_of (shown mid)) no_entries fault
    (formatted_opens size (shown mid) c.requires.enough c.requires.most formatted).entries
    (c.in_err-directory.ensures.bad mid (c.format_image.ensures.changes.known known) (looks_nowhere mid) (sym formatted.used)))

pub returns-in_err-directory-clause-stops : goal.returns-in_err-directory-clause-stops
returns-in_err-directory-clause-stops g c tells fixed =
    stops_look c.args.memory.now c.format_image.new.memory c.read_entries.new.memory (IsBlankOrFormatted c.args.memory.now.size)
    (c.format_image.ensures.stops tells fixed) c.read_entries.ensures.looks

pub returns-clause-stops : goal.returns-clause-stops
returns-clause-stops g c tells fixed =
    stops_look c.args.memory.now c.format_image.new.memory c.read_entries.new.memory (IsBlankOrFormatted c.args.memory.now.size)
    (c.format_image.ensures.stops tells fixed) c.read_entries.ensures.looks

pub returns-in_err-directory-clause-goes_on : goal.returns-in_err-directory-clause-goes_on
returns-in_err-directory-clause-goes_on g c =
    goes_more c.args.memory.now c.format_image.new.memory c.read_entries.new.memory c.format_image.ensures.goes_on
    (goes_by_looks c.format_image.new.memory c.read_entries.new.memory c.read_entries.ensures.looks)

pub returns-clause-goes_on : goal.returns-clause-goes_on
returns-clause-goes_on g c =
    goes_more c.args.memory.now c.format_image.new.memory c.read_entries.new.memory c.format_image.ensures.goes_on
    (goes_by_looks c.format_image.new.memory c.read_entries.new.memory c.read_entries.ensures.looks)

pub returns-in_err-directory-clause-changes : goal.returns-in_err-directory-clause-changes
returns-in_err-directory-clause-changes g c =
    changes_more (OfLayout c.args.memory.now.size) c.args.memory.now c.format_image.new.memory c.read_entries.new.memory
    c.format_image.ensures.changes
    (changes_nowhere (OfLayout c.args.memory.now.size) c.format_image.new.memory c.read_entries.new.memory
    c.read_entries.ensures.looks.changes)

pub returns-clause-changes : goal.returns-clause-changes
returns-clause-changes g c =
    changes_more (OfLayout c.args.memory.now.size) c.args.memory.now c.format_image.new.memory c.read_entries.new.memory
    c.format_image.ensures.changes
    (changes_nowhere (OfLayout c.args.memory.now.size) c.format_image.new.memory c.read_entries.new.memory
    c.read_entries.ensures.looks.changes)

pub returns-in_err-directory-clause-calls : goal.returns-in_err-directory-clause-calls
returns-in_err-directory-clause-calls g c =
    omega (arith, c.format_image.ensures.calls, c.read_entries.ensures.looks.calls)

pub returns-clause-calls : goal.returns-clause-calls
returns-clause-calls g c =
    omega (arith, c.format_image.ensures.calls, c.read_entries.ensures.looks.calls)
