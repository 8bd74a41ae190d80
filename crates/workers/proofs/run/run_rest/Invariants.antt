use Rattle.std.proofs.Common.{Some}
use Rattle.turnstile.specs.Passes.{turnstile_id}
use Rattle.workers.proofs.run.run_rest.Given as goal

-- the turnstile that was made for this run
abbrev pub ghosts-run_shared : goal.ghosts-run_shared
ghosts-run_shared g a = record { turnstile = Some (turnstile_id a.opened.turnstile) }
