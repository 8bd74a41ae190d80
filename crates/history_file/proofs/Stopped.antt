-- Where reading one of many stops, reading them stops.
use Rattle.std.proofs.Common.{◌≡◌, ℕ, ◌-◌, ◌<◌, List, Result}
use Rattle.parsing.specs.Results.{many_from}
use Rattle.parsing.proofs.Loops.{with_front, stops}
use Rattle.history_file.specs.declared.fault.Stop.{Stop}
use Rattle.history_file.specs.declared.fault.Stop.TheVariants.{OutOfMemory, At}
use Rattle.history_file.specs.Reading.{Read, Stops}

pub many_stop : {A : Type 0} (read : Read A) (front : List A) (count i : ℕ) (left : List ℕ)
    (total : Result (List A × List ℕ) ℕ) (e : Stop) → i < count → Stops e (read left)
    → with_front front (many_from read (count - i) left) ≡ total → Stops e total
many_stop read front count i left total OutOfMemory lt h so_far = tt
many_stop read front count i left total (At n) lt h so_far = stops read front count i left total n lt h so_far
