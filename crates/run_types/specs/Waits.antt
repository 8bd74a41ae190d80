-- What threads wait for: a wait says it, and stands for it alone.
use Rattle.std.specs.Prelude.{◌≡◌, refl, List, [], ◌∷◌, map, Option, Some, None}
use Rattle.std.proofs.Common.{ap, ◌∙◌}
use Rattle.run_types.specs.declared.wait.On.{On}
use Rattle.run_types.specs.declared.wait.On.TheVariants as on
use Rattle.run_types.specs.declared.wait.Wait.{Wait}
use Rattle.run_types.specs.declared.wait.Wait.TheVariants as wait
use Rattle.run_types.specs.declared.wait.Waits.TheInside.{Inside}

-- what a wait is for, if for anything
abbrev pub on_of : Wait → Option On
on_of wait.Nothing = None
on_of (wait.Monitor other) = Some (on.Monitor other)
on_of (wait.Join other) = Some (on.Join other)
on_of (wait.Init other) = Some (on.Init other)
on_of (wait.Conversion other) = Some (on.Conversion other)

-- the wait for what there is, if anything
abbrev pub wait_of : Option On → Wait
wait_of None = wait.Nothing
wait_of (Some (on.Monitor other)) = wait.Monitor other
wait_of (Some (on.Join other)) = wait.Join other
wait_of (Some (on.Init other)) = wait.Init other
wait_of (Some (on.Conversion other)) = wait.Conversion other

abbrev pub waits_of : List (Option On) → Inside
waits_of all = record { threads = map wait_of all }

wait_of-on : (w : Wait) → wait_of (on_of w) ≡ w
wait_of-on wait.Nothing = refl
wait_of-on (wait.Monitor other) = refl
wait_of-on (wait.Join other) = refl
wait_of-on (wait.Init other) = refl
wait_of-on (wait.Conversion other) = refl

pub threads-waits : (threads : List Wait) → map wait_of (map on_of threads) ≡ threads
threads-waits [] = refl
threads-waits (w ∷ ws) = ap (λ x. x ∷ map wait_of (map on_of ws)) (wait_of-on w) ∙ ap (λ xs. w ∷ xs) (threads-waits ws)

pub waits_of-threads : (waits : Inside) → Unit {0} → waits_of (map on_of waits.threads) ≡ waits
waits_of-threads waits held = ap (λ (ws : List _). record { threads = ws }) (threads-waits waits.threads)
