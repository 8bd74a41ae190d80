-- A wait in the plain world keeps each row of waits.
use Rattle.std.proofs.Common.{◌≡◌, ℕ, List, Some, refl}
use Rattle.run_types.specs.declared.wait.On.{On}
use Rattle.graph_model.specs.declared.types.Root.{Root}
use Rattle.monitors.specs.Indexed.{AreSound}
use Rattle.shared_objects.specs.declared.rest.Rest.{Rest}
use Rattle.shared_objects.specs.Worlds.{KnowsMonitors, world_of}
use Rattle.twin_forms.specs.Table.{Entry}
use Rattle.convert_words.specs.Scenes.{AgreesAt}
use Rattle.convert_waits.specs.Rows.{HasNothing, HoldsStill, Why}
use Rattle.convert_waits.specs.Rows.Why.{Plain, Lacking, Member}
use Rattle.convert_waits.proofs.Rows.{plain_waits_keep}
use Rattle.machine_threads.specs.Passed.{Opening, Machine, scene_of, shown_in}
use Rattle.machine_threads.specs.Passed.{KeepsRun}
use Rattle.machine_threads.specs.Stuck.{plain_waits}
use Rattle.machine.specs.Events.{KeepsRows}
use Rattle.machine.proofs.Aside.{agrees-aside}

-- What a thread has claimed it has queued, by whatever table.
none-claimed : (o : Opening) (m : Machine) (es table : List Entry) (t : ℕ) → KeepsRun o m es
    → AgreesAt (scene_of m) table → HasNothing es t → HasNothing table t
none-claimed o m es table t k agrees nothing n claimed =
    let there = agrees.queued.all t n claimed in
    let own = k.heap.agrees.queued.there t there.0 there.1.within in
    nothing own.0 own.1.claimed

module _ (o : Opening) (m : Machine) (es : List Entry) (k : KeepsRun o m es) (rest : Rest)
    (sound : AreSound rest.monitors) (known : KnowsMonitors (shown_in m) rest)
    (same : (roots : List Root) → world_of roots (shown_in m) rest ≡ world_of roots (shown_in m) m.rest) where
  abbrev aside : Machine
  aside = record m { rest = rest }

  still : (table : List Entry) (u : ℕ) (why : Why) → HoldsStill (plain_waits o m) (scene_of m) table u why
      → HoldsStill (plain_waits o aside) (scene_of aside) table u why
  still table u (Plain on) holds = holds
  still table u (Lacking v) holds = record {
    phase = holds.phase;
    n = holds.n;
    k = holds.k;
    m = holds.m;
    is = holds.is;
    refers_to = record {
      claimed = holds.refers_to.claimed;
      slot = holds.refers_to.slot;
      reference = holds.refers_to.reference;
      kept = holds.refers_to.kept;
      copied = holds.refers_to.copied;
      there = holds.refers_to.there;
      leads = holds.refers_to.leads;
    };
    here = holds.here;
    claimed = holds.claimed;
    behind = holds.behind;
  }
  still table u (Member v) holds = (
    holds.0,
    record { settled = holds.1.settled; member = holds.1.member; unsettled = holds.1.unsettled },
    holds.2,
  )

  pub plain-rows : (t : ℕ) (on : On) → plain_waits o m t ≡ Some on → HasNothing es t → KeepsRows o t on m aside
  plain-rows t on waits nothing table waited row =
      let kept = plain_waits_keep (plain_waits o m) (scene_of m) table waited t on row waits
      (none-claimed o m es table t k row.agrees nothing) in (
        Plain on,
        refl,
        record {
          agrees = agrees-aside o m es k rest sound known same table kept.agrees;
          unwritten = kept.unwritten;
          forwarded = kept.forwarded;
          holds = λ u why is. still table u why (kept.holds u why is);
        },
      )
