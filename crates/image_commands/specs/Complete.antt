-- Completeness: where what the two commands are given is as they ask and nothing outside fails, they do their work, or memory runs out before a
-- byte is put.
use Rattle.std.specs.Prelude.{◌≡◌, ◌⊎◌, ◌<◌, ◌-◌, ◌^◌, ℕ, Option, Some, None}
use Rattle.ap_base.specs.Sinks.{with_bytes}
use Rattle.audit_call.specs.Laws as audit
use Rattle.command_words.specs.declared.command.Audit.{Audit}
use Rattle.command_words.specs.declared.command.Compact.{Compact}
use Rattle.compact_call.specs.Fresh.{IsWrittenTo}
use Rattle.compact_call.specs.Laws as compact
use Rattle.compact_call.specs.Outcomes.{written_line}
use Rattle.source_classes.specs.Names.{slashed}
use Rattle.statuses.specs.declared.status.Status.{Status}
use Rattle.statuses.specs.declared.status.Status.TheVariants as status
use Rattle.image_commands.specs.Audits.{Faults, Things}
use Rattle.image_commands.specs.Compacts.{Images}

-- a count of faults stands, below its highest value
abbrev pub Stands : ℕ → ℕ → Type 0
Stands before now = (now ≡ before) × (before < 2 ^ 64 - 1)

-- ---- compact

-- neither image failed, nor the sink
pub record NothingFailedCompacting (before after : Images) : Type 0 where
  pub old : Stands before.old_faults after.old_faults
  pub fresh : Stands before.fresh_faults after.fresh_faults
  pub sink : Stands before.sink_faults after.sink_faults

-- The old image's graph is written to the new one, so that each stop from now on leaves it there, and the sink took the line.
pub record IsCompacted (before after : Images) (free : compact.IsUnhindered before.old before.fresh) (how : Status) : Type 0 where
  pub is : how ≡ status.Ok
  pub written : IsWrittenTo free.graph before.fresh after.fresh
  pub put : after.taken ≡ with_bytes before.taken (written_line free.graph)

-- The old image stands for a graph, and the new one has a size in range, is blank and has room for it: then it is written.
abbrev pub CompactDoesItsWork : Option Compact → (before after : Images) → Status → Type 0
CompactDoesItsWork None before after how = Unit {0}
CompactDoesItsWork (Some words) before after how = NothingFailedCompacting before after → (free : compact.IsUnhindered before.old before.fresh)
    → IsCompacted before after free how ⊎ ((how ≡ status.OutOfMemory) × (after.taken ≡ before.taken))

-- ---- audit

-- neither source failed, nor an image, nor the sink
pub record NothingFailedAuditing (before after : Faults) : Type 0 where
  pub source : Stands before.source after.source
  pub records : Stands before.records after.records
  pub before_image : Stands before.before after.before
  pub after_image : Stands before.after after.after
  pub sink : Stands before.sink after.sink

-- The class files link, each record is whole or missing, both images stand for graphs and suit the set, the class has a `main`, and the
-- history is well formed: then the right verdict is put, the status being `Ok` for Yes and else `Refuted`.
abbrev pub AuditDoesItsWork : Option Audit → (had has : Things) → Status → Type 0
AuditDoesItsWork None had has how = Unit {0}
AuditDoesItsWork (Some words) had has how = NothingFailedAuditing had.faults has.faults
    → (free : audit.IsUnhindered had.files (slashed words.main) had.images had.outside)
    → audit.HasVerdict had.files (slashed words.main) had.images had.outside free has.outside how
    ⊎ ((how ≡ status.OutOfMemory) × (has.outside.taken ≡ had.outside.taken))
