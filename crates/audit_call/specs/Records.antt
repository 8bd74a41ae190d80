-- The two records of a run: its history, and the bytes that it printed.
use Rattle.std.specs.Prelude.{◌≡◌, ◌⊎◌, ℕ, nat_lt, List, [], length, Option, Some, None, Result, Ok, Err, if◌then◌else◌}
use Rattle.ap_base.specs.Sources.{Gives}
use Rattle.ap_base.specs.declared.source.NamedBytes.{NamedBytes}
use Rattle.run_types.specs.declared.fault.Which.TheVariants.{FileBytes}
use Rattle.source_classes.specs.Reading.{HasNoCause}
use Rattle.statuses.specs.declared.status.Status.{Status}
use Rattle.statuses.specs.declared.status.Status.TheVariants as status
use Rattle.audit_call.specs.declared.records.Records.{Records}

-- The bytes of a record, however many there are. A missing one is empty. One of which the source gave a front alone can't be judged: it
-- needs as many bytes as it has, and those that were given are all there are.
abbrev pub record_in : Option NamedBytes → Result (List ℕ) Status
record_in None = Ok []
record_in (Some file) =
    if nat_lt (length file.bytes) file.size
    then Err (status.Full (record { which = FileBytes; need = file.size; left = length file.bytes }))
    else Ok file.bytes

-- A call of the source gave a record of which this came.
pub record GivesRecord (had has : Option (List NamedBytes)) (answer : Result (List ℕ) Status) : Type 0 where
  pub file : Option NamedBytes
  pub given : Gives had file has
  pub is : record_in file ≡ answer

-- A record wasn't read: the source failed or memory ran out, and the source has what it had; or the record can't be judged.
abbrev pub IsUnread : (had has : Option (List NamedBytes)) → Status → Type 0
IsUnread had has how = (HasNoCause how × (has ≡ had)) ⊎ GivesRecord had has (Err how)

-- The source gave the history, and then the output.
pub record GivesBoth (had has : Option (List NamedBytes)) (records : Records) : Type 0 where
  pub between : Option (List NamedBytes)
  pub first : GivesRecord had between (Ok records.history)
  pub second : GivesRecord between has (Ok records.output)

-- The history was read, and the output wasn't.
pub record LacksOutput (had has : Option (List NamedBytes)) (how : Status) : Type 0 where
  pub between : Option (List NamedBytes)
  pub history : List ℕ
  pub first : GivesRecord had between (Ok history)
  pub unread : IsUnread between has how

-- One of the two wasn't read.
abbrev pub LacksRecord : (had has : Option (List NamedBytes)) → Status → Type 0
LacksRecord had has how = IsUnread had has how ⊎ LacksOutput had has how
