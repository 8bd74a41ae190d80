-- The names of classes, as commands give them.
use Rattle.std.specs.Prelude.{ℕ, ◌==◌, List, map, if◌then◌else◌}

-- a class's name in internal form (JVMS 4.2.1): a dot counts as a slash
abbrev pub slashed : List ℕ → List ℕ
slashed name = map (λ b. if b == 46 then 47 else b) name
