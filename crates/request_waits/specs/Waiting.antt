-- What a thread waits for, by who holds a monitor, who has begun a class, and whose end is awaited.
use Rattle.std.specs.Prelude.{ℕ, nat_eq, Option, None, Some, if◌then◌else◌}
use Rattle.run_types.specs.declared.wait.On.{On}
use Rattle.run_types.specs.declared.wait.On.TheVariants as on
use Rattle.run_history.specs.declared.plain.Progress.{Progress}
use Rattle.run_history.specs.declared.plain.Progress.TheVariants.{Untouched, BegunBy, Finished}
use Rattle.shared_objects.specs.declared.threads.ThreadState.{ThreadState}

-- the wait of thread t for a monitor with this owner
abbrev pub owner_wait : ℕ → Option ℕ → Option On
owner_wait t None = None
owner_wait t (Some u) = if nat_eq u t then None else Some (on.Monitor u)

-- for a class that is so far
abbrev pub progress_wait : ℕ → Option Progress → Option On
progress_wait t None = None
progress_wait t (Some Untouched) = None
progress_wait t (Some (BegunBy u)) = if nat_eq u t then None else Some (on.Init u)
progress_wait t (Some Finished) = None

-- for the end of this thread, where it was started
abbrev pub end_wait : Option (ℕ × ThreadState) → Option On
end_wait None = None
end_wait (Some (u, state)) = if state.ended then None else Some (on.Join u)
