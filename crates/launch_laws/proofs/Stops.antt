-- What was asked, and what a stop leaves, at the start.
use Rattle.std.proofs.Common.{◌≡◌, ℕ, ◌<◌, ◌≤◌, List, ap, sym, ◌∙◌, subst, arith, ◌^◌, slice_index_or}
use Rattle.image_layout.specs.Places.{logs as log_count, min_lines, log_head_line}
use Rattle.image_meaning.specs.Logs.{NoneLogged}
use Rattle.line_memory.specs.Memory.{Memory, shown, IsTelling, IsDurable}
use Rattle.plain_model.specs.First.{first_world}
use Rattle.twin_forms.specs.Table.{Entry}
use Rattle.region_log.specs.Kept.{Counts}
use Rattle.machine_laws.specs.Passed.{Doing}
use Rattle.machine_laws.specs.Passed.{Nothing}
use Rattle.machine_laws.specs.Passed.{Opening, Machine, is_fencing, doing_of}
use Rattle.machine_laws.specs.Passed.{KeepsAsked, KeepsStops}
use Rattle.machine_laws.specs.StopLaws.{StartsKeepStops}
use Rattle.machine_laws.specs.Opened.{OpenedImagesStart, ShowsFirstHeap}
use Rattle.machine_laws.specs.AskLaws.{StartsKeepAsked, IsAtStart}
use Rattle.launch_laws.specs.First.{IsFirstMachine, IsDurableImage}
use Rattle.launch_laws.proofs.Queues.{all_alike, nothing_queued}
use Rattle.launch_laws.proofs.Nodes.{corresponds, nobody_owns, table_of_lines}
use Rattle.launch_laws.proofs.Worlds.{slots_of_roots}

-- a log in which nothing counts, durably
none_counted : (m : Memory) (t : ℕ) → t < log_count → NoneLogged (shown m) → IsDurable m (log_head_line t) 0
    → Counts m t 0
none_counted m t below none durable v left = durable v left ∙ none t below

module _ (o : Opening) (lines : List ℕ) (m : Machine) (es : List Entry)
    (first : IsFirstMachine o lines m es) where
  pub all_idle : (t : ℕ) → doing_of m t ≡ Nothing
  all_idle t = ap (λ (ds : List Doing). slice_index_or ds t Nothing) first.doing ∙ all_alike Nothing 64 t

  at_start : IsAtStart o m es
  at_start = record {
    opening = first.launched.opening;
    acts = first.acts;
    doing = first.doing;
    queue = nothing_queued m.queue o.start.size first.queue;
    claimed = λ t n claimed.
        let nobody = nobody_owns o lines m es first n claimed.0 in
        let somebody = claimed.1 in
        omega (arith, nobody, somebody);
    durable = λ n.
        let table = (table_of_lines o lines m es first).durable n in
        let many = first.image.opened.nodes in (
          (λ p. let below = table.0 p in omega (arith, below, many)),
          (λ below. table.1 (omega (arith, below, many))),
        );
    few = subst (λ (x : Memory). x.calls < 2 ^ 64) (sym first.memory) first.image.few;
    logs = first.logs;
    empty = first.empty;
    long = subst (λ (x : Memory). min_lines ≤ x.size) (sym first.memory) first.image.size;
    counts = λ t below. subst (λ (x : Memory). IsTelling x.image.trace → Counts x t 0) (sym first.memory)
        (λ told. none_counted o.start t below first.image.unlogged
        ((first.image.durable told).counts t below));
  }

  pub asked_kept : StartsKeepAsked → KeepsAsked o m es
  asked_kept law = law o m es at_start

  shows_first : IsDurableImage o.start → ShowsFirstHeap o lines
  unfolding first_world
  shows_first durable = record {
    opens = first.image.opens;
    nodes = first.image.opened.nodes;
    shows = corresponds o lines m es first;
    roots = (slots_of_roots o lines m es first).sized;
    unlogged = first.image.unlogged;
    size = first.image.size;
    super = durable.super;
    entries = durable.entries;
    slots = durable.slots;
    objects = durable.objects;
    counts = durable.counts;
  }

  pub stops_kept : StartsKeepStops → OpenedImagesStart → KeepsStops o m es
  stops_kept kept starts told =
      kept o m es first.acts first.memory (λ t. ap is_fencing (all_idle t))
      (starts o m es lines first.memory first.table.stands (shows_first (first.image.durable told))
      (table_of_lines o lines m es first)) first.image.counts told
