use Rattle.std.proofs.Common.{◌≡◌, inl, inr, ℕ, arith, ◌∙◌, subst}
use Rattle.line_memory.specs.Memory.{Memory, shown}
use Rattle.image_meaning.specs.Directories.{Directory}
use Rattle.image_meaning.specs.Logs.{put_back}
use Rattle.image_meaning.specs.Meaning.{meaning, graph_from}
use Rattle.word_changes.proofs.Changing.{changes_more, changes_nowhere, changes_weaker, stops_then, telling_knows}
use Rattle.word_changes.proofs.Going.{goes_more}
use Rattle.word_changes.specs.Changes.{Nothing, ChangesTo}
use Rattle.image_walk.specs.Walking.{IsFaultOf}
use Rattle.image_walk.specs.Found.{IsFoundGraph}
use Rattle.image_walk.proofs.Looking.{looks_more}
use Rattle.image_walk.proofs.Reading.{err_is}
use Rattle.image_recovery.specs.Putting.{IsCleared, IsPutBack, IsRestored, IsRecoveringIn}
use Rattle.image_recovery.specs.Recovered.{IsBadFault, entries_in}
use Rattle.image_recovery.proofs.PutSteps.{nothing_written}
use Rattle.image_recovery.proofs.Recovers.{goes_by_looks, back_shows, fails_behind, never_first, same_directory, stops_putting}
use Rattle.image_recovery.proofs.recovering.recover_used.Goals as goal

pub returns-clause-finds : goal.returns-clause-finds
returns-clause-finds g c first known looks is =
    let words = put_back (shown first) in
    let mid : Memory = c.put_back_logs.new.memory in
    let front = c.in_ok-front.front.directory in
    let seen = looks_more first c.args.memory.now c.read_front.new.memory looks c.read_front.ensures.looks in
    let pass = c.in_ok-front.ensures.passes first known looks in
    let entries = c.in_ok-front.ensures.entries first known looks is in
    let size : mid.size ≡ first.size = c.put_back_logs.ensures.goes_on.size ∙ seen.changes.size in
    let known_then = (c.put_back_logs.ensures.changes first known seen pass).known known in
    let shows = back_shows first mid known_then (c.in_ok-put_back_logs.ensures.shows first known seen pass) in
    let found = c.in_ok-found.ensures.found words shows in
    let named : IsFoundGraph mid.size (entries_in front) words c.in_ok-found.found =
    subst (λ (d : Directory). IsFoundGraph mid.size d words c.in_ok-found.found)
    (same_directory front c.shapes.result.now c.roots.result.now c.shapes.ensures.shapes c.roots.ensures) found in
    let here : IsFoundGraph first.size (entries_in front) words c.in_ok-found.found =
    subst (λ (n : ℕ). IsFoundGraph n (entries_in front) words c.in_ok-found.found) size named in
    record {
      finds = record {
        opens = record { super = is.passes; used = is.begins; entries = entries; logs = pass };
        roots = here.roots;
        walk = here.walks;
      };
      unplanned = c.in_ok-front.ensures.unplanned first known looks;
      begins = c.in_ok-front.ensures.begins first known looks;
      used = c.in_ok-front.ensures.used first known looks ∙ is.says;
      graph_is = here.graph;
      free_is = here.free;
      undone_is = c.in_ok-front.ensures.undone first known looks;
    }

pub returns-in_err-front-clause-bad : goal.returns-in_err-front-clause-bad
returns-in_err-front-clause-bad g c first known looks is =
    err_is c.from_residual.result c.in_err-front.field-0.0 (IsFaultOf (meaning first.size (shown first))) c.from_residual.ensures.1
    (c.in_err-front.ensures.bad first known looks is)

pub returns-in_err-found-clause-bad : goal.returns-in_err-found-clause-bad
returns-in_err-found-clause-bad g c first known looks is =
    let words = put_back (shown first) in
    let mid : Memory = c.put_back_logs.new.memory in
    let front = c.in_ok-front.front.directory in
    let seen = looks_more first c.args.memory.now c.read_front.new.memory looks c.read_front.ensures.looks in
    let pass = c.in_ok-front.ensures.passes first known looks in
    let entries = c.in_ok-front.ensures.entries first known looks is in
    let size : mid.size ≡ first.size = c.put_back_logs.ensures.goes_on.size ∙ seen.changes.size in
    let known_then = (c.put_back_logs.ensures.changes first known seen pass).known known in
    let shows = back_shows first mid known_then (c.in_ok-put_back_logs.ensures.shows first known seen pass) in
    let fault = c.in_err-found.field-0.0 in
    let found = c.in_err-found.ensures.bad words shows in
    let named : IsFaultOf (graph_from mid.size (entries_in front) words) fault =
    subst (λ (d : Directory). IsFaultOf (graph_from mid.size d words) fault)
    (same_directory front c.shapes.result.now c.roots.result.now c.shapes.ensures.shapes c.roots.ensures) found in
    let here : IsFaultOf (graph_from first.size (entries_in front) words) fault =
    subst (λ (n : ℕ). IsFaultOf (graph_from n (entries_in front) words) fault) size named in
    err_is c.from_residual-in_err-found.result fault (IsFaultOf (meaning first.size (shown first))) c.from_residual-in_err-found.ensures.1
    (fails_behind first.size (shown first) c.args.used (entries_in front) fault is entries pass here)

pub returns-clause-recovered : goal.returns-clause-recovered
returns-clause-recovered g c first known looks =
    let mid : Memory = c.put_back_logs.new.memory in
    let seen = looks_more first c.args.memory.now c.read_front.new.memory looks c.read_front.ensures.looks in
    let pass = c.in_ok-front.ensures.passes first known looks in
    let known_then = (c.put_back_logs.ensures.changes first known seen pass).known known in
    c.in_ok-empty_logs.ensures.recovered first mid known_then (c.in_ok-put_back_logs.ensures.shows first known seen pass) c.find_graph.ensures.looks

pub returns-clause-durable : goal.returns-clause-durable
returns-clause-durable g c first tells all looks =
    let known = telling_knows first tells in
    let seen = looks_more first c.args.memory.now c.read_front.new.memory looks c.read_front.ensures.looks in
    let pass = c.in_ok-front.ensures.passes first known looks in
    let written = c.in_ok-put_back_logs.ensures.written first tells all seen pass in
    let tells_then = (c.put_back_logs.ensures.changes first known seen pass).telling tells in
    c.in_ok-empty_logs.ensures.durable (c.find_graph.ensures.looks.changes.telling tells_then)
    (nothing_written c.put_back_logs.new.memory c.find_graph.new.memory c.find_graph.ensures.looks.changes tells_then written)

pub returns-in_err-front-clause-put_back : goal.returns-in_err-front-clause-put_back
returns-in_err-front-clause-put_back g c first known looks =
    let seen = looks_more first c.args.memory.now c.read_front.new.memory looks c.read_front.ensures.looks in
    err_is c.from_residual.result c.in_err-front.field-0.0
    (λ fault. IsBadFault fault → ChangesTo (IsPutBack (shown first)) first c.read_front.new.memory) c.from_residual.ensures.1
    (λ bad. changes_nowhere (IsPutBack (shown first)) first c.read_front.new.memory seen.changes)

pub returns-in_err-found-clause-put_back : goal.returns-in_err-found-clause-put_back
returns-in_err-found-clause-put_back g c first known looks =
    let mid : Memory = c.put_back_logs.new.memory in
    let walked : Memory = c.find_graph.new.memory in
    let seen = looks_more first c.args.memory.now c.read_front.new.memory looks c.read_front.ensures.looks in
    let pass = c.in_ok-front.ensures.passes first known looks in
    err_is c.from_residual-in_err-found.result c.in_err-found.field-0.0
    (λ fault. IsBadFault fault → ChangesTo (IsPutBack (shown first)) first walked) c.from_residual-in_err-found.ensures.1
    (λ bad. changes_more (IsPutBack (shown first)) first mid walked (c.put_back_logs.ensures.changes first known seen pass)
    (changes_nowhere (IsPutBack (shown first)) mid walked c.find_graph.ensures.looks.changes))

pub returns-in_err-front-clause-stops : goal.returns-in_err-front-clause-stops
returns-in_err-front-clause-stops g c first tells durable all looks pass =
    let seen = looks_more first c.args.memory.now c.read_front.new.memory looks c.read_front.ensures.looks in
    stops_putting first (omega (arith, c.requires.enough, looks.changes.size)) pass durable c.read_front.new.memory
    (changes_nowhere (IsPutBack (shown first)) first c.read_front.new.memory seen.changes)

pub returns-in_err-put_back_logs-clause-stops : goal.returns-in_err-put_back_logs-clause-stops
returns-in_err-put_back_logs-clause-stops g c first tells durable all looks pass =
    let seen = looks_more first c.args.memory.now c.read_front.new.memory looks c.read_front.ensures.looks in
    stops_putting first (omega (arith, c.requires.enough, looks.changes.size)) pass durable c.put_back_logs.new.memory
    (c.put_back_logs.ensures.changes first (telling_knows first tells) seen pass)

pub returns-in_err-found-clause-stops : goal.returns-in_err-found-clause-stops
returns-in_err-found-clause-stops g c first tells durable all looks pass =
    let mid : Memory = c.put_back_logs.new.memory in
    let walked : Memory = c.find_graph.new.memory in
    let seen = looks_more first c.args.memory.now c.read_front.new.memory looks c.read_front.ensures.looks in
    stops_putting first (omega (arith, c.requires.enough, looks.changes.size)) pass durable walked
    (changes_more (IsPutBack (shown first)) first mid walked (c.put_back_logs.ensures.changes first (telling_knows first tells) seen pass)
    (changes_nowhere (IsPutBack (shown first)) mid walked c.find_graph.ensures.looks.changes))

pub returns-in_err-empty_logs-clause-stops : goal.returns-in_err-empty_logs-clause-stops
returns-in_err-empty_logs-clause-stops g c first tells durable all looks pass =
    let mid : Memory = c.put_back_logs.new.memory in
    let walked : Memory = c.find_graph.new.memory in
    let known = telling_knows first tells in
    let seen = looks_more first c.args.memory.now c.read_front.new.memory looks c.read_front.ensures.looks in
    let changes = c.put_back_logs.ensures.changes first known seen pass in
    let walk = c.find_graph.ensures.looks in
    stops_then first walked c.empty_logs.new.memory (IsRecoveringIn first.size (shown first))
    (stops_putting first (omega (arith, c.requires.enough, looks.changes.size)) pass durable walked
    (changes_more (IsPutBack (shown first)) first mid walked changes (changes_nowhere (IsPutBack (shown first)) mid walked walk.changes)))
    (c.empty_logs.ensures.stops first mid (changes.known known) (c.in_ok-put_back_logs.ensures.durable first tells all seen pass)
    (c.in_ok-put_back_logs.ensures.shows first known seen pass) walk pass)

pub returns-clause-stops : goal.returns-clause-stops
returns-clause-stops g c first tells durable all looks pass =
    let mid : Memory = c.put_back_logs.new.memory in
    let walked : Memory = c.find_graph.new.memory in
    let known = telling_knows first tells in
    let seen = looks_more first c.args.memory.now c.read_front.new.memory looks c.read_front.ensures.looks in
    let changes = c.put_back_logs.ensures.changes first known seen pass in
    let walk = c.find_graph.ensures.looks in
    stops_then first walked c.empty_logs.new.memory (IsRecoveringIn first.size (shown first))
    (stops_putting first (omega (arith, c.requires.enough, looks.changes.size)) pass durable walked
    (changes_more (IsPutBack (shown first)) first mid walked changes (changes_nowhere (IsPutBack (shown first)) mid walked walk.changes)))
    (c.empty_logs.ensures.stops first mid (changes.known known) (c.in_ok-put_back_logs.ensures.durable first tells all seen pass)
    (c.in_ok-put_back_logs.ensures.shows first known seen pass) walk pass)

pub returns-in_err-front-clause-goes_on : goal.returns-in_err-front-clause-goes_on
returns-in_err-front-clause-goes_on g c = goes_by_looks c.args.memory.now c.read_front.new.memory c.read_front.ensures.looks

pub returns-in_err-put_back_logs-clause-goes_on : goal.returns-in_err-put_back_logs-clause-goes_on
returns-in_err-put_back_logs-clause-goes_on g c =
    goes_more c.args.memory.now c.read_front.new.memory c.put_back_logs.new.memory
    (goes_by_looks c.args.memory.now c.read_front.new.memory c.read_front.ensures.looks) c.put_back_logs.ensures.goes_on

pub returns-in_err-found-clause-goes_on : goal.returns-in_err-found-clause-goes_on
returns-in_err-found-clause-goes_on g c =
    goes_more c.args.memory.now c.put_back_logs.new.memory c.find_graph.new.memory
    (goes_more c.args.memory.now c.read_front.new.memory c.put_back_logs.new.memory
    (goes_by_looks c.args.memory.now c.read_front.new.memory c.read_front.ensures.looks) c.put_back_logs.ensures.goes_on)
    (goes_by_looks c.put_back_logs.new.memory c.find_graph.new.memory c.find_graph.ensures.looks)

pub returns-in_err-empty_logs-clause-goes_on : goal.returns-in_err-empty_logs-clause-goes_on
returns-in_err-empty_logs-clause-goes_on g c =
    goes_more c.args.memory.now c.find_graph.new.memory c.empty_logs.new.memory
    (goes_more c.args.memory.now c.put_back_logs.new.memory c.find_graph.new.memory
    (goes_more c.args.memory.now c.read_front.new.memory c.put_back_logs.new.memory
    (goes_by_looks c.args.memory.now c.read_front.new.memory c.read_front.ensures.looks) c.put_back_logs.ensures.goes_on)
    (goes_by_looks c.put_back_logs.new.memory c.find_graph.new.memory c.find_graph.ensures.looks))
    c.empty_logs.ensures.goes_on

pub returns-clause-goes_on : goal.returns-clause-goes_on
returns-clause-goes_on g c =
    goes_more c.args.memory.now c.find_graph.new.memory c.empty_logs.new.memory
    (goes_more c.args.memory.now c.put_back_logs.new.memory c.find_graph.new.memory
    (goes_more c.args.memory.now c.read_front.new.memory c.put_back_logs.new.memory
    (goes_by_looks c.args.memory.now c.read_front.new.memory c.read_front.ensures.looks) c.put_back_logs.ensures.goes_on)
    (goes_by_looks c.put_back_logs.new.memory c.find_graph.new.memory c.find_graph.ensures.looks))
    c.empty_logs.ensures.goes_on

-- ---- what is stored

-- words were put back, alone
put_back_alone : (first new : Memory) → ChangesTo (IsPutBack (shown first)) first new → ChangesTo (IsRestored (shown first)) first new
put_back_alone first new changes =
    changes_weaker (IsPutBack (shown first)) (IsRestored (shown first)) first new (λ l w v is. inl is) changes

pub returns-in_err-front-clause-changes : goal.returns-in_err-front-clause-changes
returns-in_err-front-clause-changes g c first known looks =
    let seen = looks_more first c.args.memory.now c.read_front.new.memory looks c.read_front.ensures.looks in
    changes_nowhere (IsRestored (shown first)) first c.read_front.new.memory seen.changes

pub returns-in_err-put_back_logs-clause-changes : goal.returns-in_err-put_back_logs-clause-changes
returns-in_err-put_back_logs-clause-changes g c first known looks =
    let seen = looks_more first c.args.memory.now c.read_front.new.memory looks c.read_front.ensures.looks in
    let pass = c.in_ok-front.ensures.passes first known looks in
    put_back_alone first c.put_back_logs.new.memory (c.put_back_logs.ensures.changes first known seen pass)

pub returns-in_err-found-clause-changes : goal.returns-in_err-found-clause-changes
returns-in_err-found-clause-changes g c first known looks =
    let mid : Memory = c.put_back_logs.new.memory in
    let walked : Memory = c.find_graph.new.memory in
    let seen = looks_more first c.args.memory.now c.read_front.new.memory looks c.read_front.ensures.looks in
    let pass = c.in_ok-front.ensures.passes first known looks in
    changes_more (IsRestored (shown first)) first mid walked
    (put_back_alone first mid (c.put_back_logs.ensures.changes first known seen pass))
    (changes_nowhere (IsRestored (shown first)) mid walked c.find_graph.ensures.looks.changes)

-- and then counts were cleared
cleared_too : (first mid walked new : Memory) → ChangesTo (IsPutBack (shown first)) first mid → ChangesTo Nothing mid walked
    → ChangesTo IsCleared walked new → ChangesTo (IsRestored (shown first)) first new
cleared_too first mid walked new back looked cleared =
    changes_more (IsRestored (shown first)) first walked new
    (changes_more (IsRestored (shown first)) first mid walked (put_back_alone first mid back)
    (changes_nowhere (IsRestored (shown first)) mid walked looked))
    (changes_weaker IsCleared (IsRestored (shown first)) walked new (λ l w v is. inr is) cleared)

pub returns-in_err-empty_logs-clause-changes : goal.returns-in_err-empty_logs-clause-changes
returns-in_err-empty_logs-clause-changes g c first known looks =
    let seen = looks_more first c.args.memory.now c.read_front.new.memory looks c.read_front.ensures.looks in
    let pass = c.in_ok-front.ensures.passes first known looks in
    cleared_too first c.put_back_logs.new.memory c.find_graph.new.memory c.empty_logs.new.memory
    (c.put_back_logs.ensures.changes first known seen pass) c.find_graph.ensures.looks.changes c.empty_logs.ensures.changes

pub returns-clause-changes : goal.returns-clause-changes
returns-clause-changes g c first known looks =
    let seen = looks_more first c.args.memory.now c.read_front.new.memory looks c.read_front.ensures.looks in
    let pass = c.in_ok-front.ensures.passes first known looks in
    cleared_too first c.put_back_logs.new.memory c.find_graph.new.memory c.empty_logs.new.memory
    (c.put_back_logs.ensures.changes first known seen pass) c.find_graph.ensures.looks.changes c.empty_logs.ensures.changes

pub returns-in_err-front-clause-refused : goal.returns-in_err-front-clause-refused
returns-in_err-front-clause-refused g c first known looks is fails =
    (looks_more first c.args.memory.now c.read_front.new.memory looks c.read_front.ensures.looks).changes

pub returns-in_err-put_back_logs-clause-refused : goal.returns-in_err-put_back_logs-clause-refused
returns-in_err-put_back_logs-clause-refused g c first known looks is fails =
    absurd (never_first first.size (shown first) c.args.used (entries_in c.in_ok-front.front.directory) is
    (c.in_ok-front.ensures.entries first known looks is) (c.in_ok-front.ensures.passes first known looks) fails)

pub returns-in_err-found-clause-refused : goal.returns-in_err-found-clause-refused
returns-in_err-found-clause-refused g c first known looks is fails =
    absurd (never_first first.size (shown first) c.args.used (entries_in c.in_ok-front.front.directory) is
    (c.in_ok-front.ensures.entries first known looks is) (c.in_ok-front.ensures.passes first known looks) fails)

pub returns-in_err-empty_logs-clause-refused : goal.returns-in_err-empty_logs-clause-refused
returns-in_err-empty_logs-clause-refused g c first known looks is fails =
    absurd (never_first first.size (shown first) c.args.used (entries_in c.in_ok-front.front.directory) is
    (c.in_ok-front.ensures.entries first known looks is) (c.in_ok-front.ensures.passes first known looks) fails)

pub returns-clause-refused : goal.returns-clause-refused
returns-clause-refused g c first known looks is fails =
    absurd (never_first first.size (shown first) c.args.used (entries_in c.in_ok-front.front.directory) is
    (c.in_ok-front.ensures.entries first known looks is) (c.in_ok-front.ensures.passes first known looks) fails)

pub returns-in_err-front-clause-calls : goal.returns-in_err-front-clause-calls
returns-in_err-front-clause-calls g c =
    omega (arith, c.read_front.ensures.looks.calls)

pub returns-in_err-put_back_logs-clause-calls : goal.returns-in_err-put_back_logs-clause-calls
returns-in_err-put_back_logs-clause-calls g c =
    omega (arith, c.read_front.ensures.looks.calls, c.put_back_logs.ensures.calls)

pub returns-in_err-found-clause-calls : goal.returns-in_err-found-clause-calls
returns-in_err-found-clause-calls g c =
    omega (arith, c.read_front.ensures.looks.calls, c.put_back_logs.ensures.calls, c.find_graph.ensures.looks.calls)

pub returns-in_err-empty_logs-clause-calls : goal.returns-in_err-empty_logs-clause-calls
returns-in_err-empty_logs-clause-calls g c =
    omega (arith, c.read_front.ensures.looks.calls, c.put_back_logs.ensures.calls, c.find_graph.ensures.looks.calls, c.empty_logs.ensures.calls)

pub returns-clause-calls : goal.returns-clause-calls
returns-clause-calls g c =
    omega (arith, c.read_front.ensures.looks.calls, c.put_back_logs.ensures.calls, c.find_graph.ensures.looks.calls, c.empty_logs.ensures.calls)
