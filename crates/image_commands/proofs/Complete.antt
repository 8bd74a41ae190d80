-- The two commands do their work.
use Rattle.std.proofs.Common.{◌≡◌, ◌⊎◌, inl, inr, ⊎_elim, ℕ, List, Option, Some, None, Result, Ok, Err, refl, arith}
use Rattle.ap_base.specs.Causes.{Rose, next_count}
use Rattle.audit_call.specs.Laws.{HasVerdict, IsFailure, IsUnhindered as IsAuditable}
use Rattle.audit_call.proofs.Unhindered.{done as audit_done, quiet}
use Rattle.command_words.specs.declared.command.Audit.{Audit}
use Rattle.command_words.specs.declared.command.Compact.{Compact}
use Rattle.compact_call.specs.Laws.{IsDoneOrFailed, IsUnhindered}
use Rattle.compact_call.specs.Outcomes.{CameOf}
use Rattle.compact_call.specs.declared.fault.CompactFault.{CompactFault}
use Rattle.compact_call.specs.declared.fault.CompactFault.TheVariants as fault
use Rattle.compact_call.proofs.Unhindered.{done, finished, quiet as nothing_written}
use Rattle.image_opening.specs.Unopened.{OneFailed}
use Rattle.source_classes.specs.Names.{slashed}
use Rattle.statuses.specs.declared.status.Status.{Status}
use Rattle.statuses.specs.declared.status.Status.TheVariants as status
use Rattle.image_commands.specs.Audits.{AuditsRun, DoesAudit, Things}
use Rattle.image_commands.specs.Compacts.{Compacts, DoesCompact, Images, IsUntouched, status_of_compaction}
use Rattle.image_commands.specs.Complete.{AuditDoesItsWork, CompactDoesItsWork, IsCompacted, NothingFailedCompacting, NothingFailedAuditing, Stands}

-- ---- counts that stand

never_next : (before now : ℕ) → Stands before now → now ≡ next_count before → ⊥
never_next before now stands next = let same = stands.0 in let below = stands.1 in omega (arith, same, below, next)

never_rose : (before now : ℕ) → Stands before now → Rose before now → ⊥
never_rose before now stands rose = let same = stands.0 in let below = stands.1 in omega (arith, same, below, rose)

never_one : (first first' second second' : ℕ) → Stands first first' → Stands second second' → OneFailed first first' second second' → ⊥
never_one first first' second second' one other failed =
    ⊎_elim (λ f. never_next first first' one f.0) (λ s. never_next second second' other s.1) failed

-- ---- compact

module _ (before after : Images) (how : Status) (calm : NothingFailedCompacting before after) (free : IsUnhindered before.old before.fresh)
    (image : how ≡ status.ImageFault → OneFailed before.old_faults after.old_faults before.fresh_faults after.fresh_faults)
    (sink : how ≡ status.SinkFault → after.sink_faults ≡ next_count before.sink_faults) where
  abbrev Compacted : Type 0
  Compacted = IsCompacted before after free how ⊎ ((how ≡ status.OutOfMemory) × (after.taken ≡ before.taken))

  no_image : how ≡ status.ImageFault → ⊥
  no_image is = never_one before.old_faults after.old_faults before.fresh_faults after.fresh_faults calm.old calm.fresh (image is)

  no_sink : how ≡ status.SinkFault → ⊥
  no_sink is = never_next before.sink_faults after.sink_faults calm.sink (sink is)

  came_so : (outcome : Result (Unit {0}) CompactFault) → how ≡ status_of_compaction outcome → IsDoneOrFailed outcome
      → CameOf before.old before.fresh after.fresh before.taken after.taken outcome → Compacted
  came_so (Ok whole) is may came =
      let so = finished before.old before.fresh after.fresh before.taken after.taken whole free came in
      inl (record { is = is; written = so.0; put = so.1 })
  came_so (Err fault.OutOfMemory) is may came = inr (is, nothing_written before.old before.fresh after.fresh before.taken after.taken came)
  came_so (Err fault.ImageFailed) is may came = absurd (no_image is)
  came_so (Err fault.SinkFailed) is may came = absurd (no_sink is)
  came_so (Err (fault.BadImage line reason)) is may came = absurd may
  came_so (Err (fault.NewImage reason)) is may came = absurd may
  came_so (Err (fault.Full full)) is may came = absurd may

  compacted : Compacts before after how → Compacted
  compacted did =
      came_so did.outcome did.is (done before.old before.fresh after.fresh before.taken after.taken did.outcome free did.came) did.came

pub compacts : (asked : Option Compact) (before after : Images) (SameImages : Type 0) (how : Status)
    → (how ≡ status.ImageFault → OneFailed before.old_faults after.old_faults before.fresh_faults after.fresh_faults)
    → (how ≡ status.SinkFault → after.sink_faults ≡ next_count before.sink_faults)
    → DoesCompact asked before after SameImages how ⊎ ((how ≡ status.OutOfMemory) × IsUntouched before after SameImages)
    → CompactDoesItsWork asked before after how
compacts None before after SameImages how image sink did = tt
compacts (Some words) before after SameImages how image sink (inl did) = λ calm free. compacted before after how calm free image sink did
compacts (Some words) before after SameImages how image sink (inr none) = λ calm free. inr (none.0, none.1.nothing)

-- ---- audit

module _ (how : Status) (source : how ≡ status.SourceFault → ⊥) (image : how ≡ status.ImageFault → ⊥) (sink : how ≡ status.SinkFault → ⊥) where
  only_memory : (s : Status) → how ≡ s → IsFailure s → s ≡ status.OutOfMemory
  only_memory status.OutOfMemory is fails = refl
  only_memory status.SourceFault is fails = absurd (source is)
  only_memory status.ImageFault is fails = absurd (image is)
  only_memory status.SinkFault is fails = absurd (sink is)
  only_memory status.Ok is fails = absurd fails
  only_memory (status.Uncaught thread class) is fails = absurd fails
  only_memory status.Usage is fails = absurd fails
  only_memory (status.BadClass file refusal) is fails = absurd fails
  only_memory (status.BadListing line kind) is fails = absurd fails
  only_memory (status.LinkRefused refusal) is fails = absurd fails
  only_memory (status.BadImage line reason) is fails = absurd fails
  only_memory (status.ShapeChanged shape) is fails = absurd fails
  only_memory (status.BadCode method pc) is fails = absurd fails
  only_memory (status.RegionRace thread other place) is fails = absurd fails
  only_memory (status.Full full) is fails = absurd fails
  only_memory (status.Stuck waits) is fails = absurd fails
  only_memory (status.LinkFault kind name) is fails = absurd fails
  only_memory (status.NewImage reason) is fails = absurd fails
  only_memory (status.BadHistory word) is fails = absurd fails
  only_memory status.Refuted is fails = absurd fails

module _ (had has : Things) (how : Status)
    (source : how ≡ status.SourceFault → Rose had.faults.source has.faults.source ⊎ Rose had.faults.records has.faults.records)
    (image : how ≡ status.ImageFault → OneFailed had.faults.before has.faults.before had.faults.after has.faults.after)
    (sink : how ≡ status.SinkFault → has.faults.sink ≡ next_count had.faults.sink) where
  audited : (name : List ℕ) → AuditsRun name had has how → NothingFailedAuditing had.faults has.faults
      → (free : IsAuditable had.files (slashed name) had.images had.outside)
      → HasVerdict had.files (slashed name) had.images had.outside free has.outside how
      ⊎ ((how ≡ status.OutOfMemory) × (has.outside.taken ≡ had.outside.taken))
  audited name run calm free = ⊎_elim
      (λ verdict. inl verdict)
      (λ fails.
      let is = only_memory how
      (λ s. ⊎_elim (λ r. never_rose had.faults.source has.faults.source calm.source r)
      (λ r. never_rose had.faults.records has.faults.records calm.records r) (source s))
      (λ s. never_one had.faults.before has.faults.before had.faults.after has.faults.after calm.before_image calm.after_image (image s))
      (λ s. never_next had.faults.sink has.faults.sink calm.sink (sink s))
      how refl fails in
      inr (is, quiet had.files (slashed name) had.images has.images had.outside has.outside how is run.ends))
      (audit_done had.files (slashed name) had.images has.images had.outside has.outside how free run.ends)

  pub audits : (asked : Option Audit) (Untouched : Type 0) → (Untouched → has.outside.taken ≡ had.outside.taken)
      → DoesAudit asked had has Untouched how ⊎ ((how ≡ status.OutOfMemory) × Untouched) → AuditDoesItsWork asked had has how
  audits None Untouched unput did = tt
  audits (Some words) Untouched unput (inl run) = λ calm free. audited words.main run calm free
  audits (Some words) Untouched unput (inr none) = λ calm free. inr (none.0, unput none.1)
