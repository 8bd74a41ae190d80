-- The answers that come once the class files are linked.
use Rattle.statuses.specs.Stages.{Stage, OfWords, OfFile, OfListing, OfLinking, stage_of}
use Rattle.statuses.specs.declared.status.Status.{Status}

abbrev pub IsLateStage : Stage → Type 0
IsLateStage OfWords = ⊥
IsLateStage OfFile = ⊥
IsLateStage OfListing = ⊥
IsLateStage OfLinking = ⊥
IsLateStage other = Unit {0}

abbrev pub IsLate : Status → Type 0
IsLate how = IsLateStage (stage_of how)
