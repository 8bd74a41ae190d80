-- What a world has first beside its heap.
use Rattle.std.specs.Prelude.{◌≡◌, [], ◌∷◌, None}
use Rattle.plain_model.specs.Facts.{SetFacts}
use Rattle.plain_model.specs.First.{first_progress}
use Rattle.shared_objects.specs.declared.rest.Rest.{Rest}
use Rattle.shared_objects.specs.Threads.{new_state}
use Rattle.one_space.specs.First.{no_graph}

-- No monitor is held, the program's classes are untouched and all others done, and thread 0 alone has begun.
pub record IsFirstRest (set : SetFacts) (rest : Rest) : Type 0 where
  pub monitors : rest.monitors ≡ []
  pub classes : rest.classes.items ≡ first_progress set no_graph
  pub threads : rest.threads ≡ new_state None ∷ []
