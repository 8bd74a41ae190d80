-- How a monitor may be left.
use Rattle.std.specs.Prelude.{◌≡◌, Option, Some, None}
use Rattle.run_history.specs.declared.act.Op.{Op}
use Rattle.run_history.specs.declared.act.Op.TheVariants as op
use Rattle.run_history.specs.declared.act.PlainKey.{PlainKey}

-- The monitor of this key is left if the thread holds it; nothing comes of null or of another's monitor.
abbrev pub OpExited : Option PlainKey → (IsOwn : Type 0) → Option Op → Type 0
OpExited None IsOwn result = result ≡ None
OpExited (Some k) IsOwn None = IsOwn → ⊥
OpExited (Some k) IsOwn (Some o) = IsOwn × (o ≡ op.Exit k)
