-- Plain runs as history files tell them.
use Rattle.std.specs.Prelude.{◌≡◌, ℕ, ◌<◌, ◌≤◌, ◌-◌, ◌^◌, List, [], ◌∷◌, ◌++◌, length, All, Option, Some, None, IfSome, Ok}
use Rattle.graph_model.specs.declared.types.Graph.{Graph}
use Rattle.run_history.specs.declared.act.Op.{Op}
use Rattle.run_history.specs.declared.act.Op.TheVariants as op
use Rattle.run_history.specs.Recorded.{Recorded}
use Rattle.plain_model.specs.Facts.{SetFacts}
use Rattle.plain_model.specs.Codes.{Code}
use Rattle.plain_model.specs.Runs.{IsPlainRun}
use Rattle.history_file.specs.Spelling.{FitsOp, IsNumber, history_bytes}
use Rattle.history_file.specs.Reading.{history_in}

-- both are there, or neither is
abbrev pub AreBoth : Option ℕ → Option ℕ → Type 0
AreBoth None None = Unit {0}
AreBoth (Some object) (Some shape) = Unit {0}
AreBoth object shape = ⊥

-- a test of a class, if it is one, names both an object and a shape, or neither
abbrev pub IsWholeTest : Op → Type 0
IsWholeTest (op.Class object shape) = AreBoth object shape
IsWholeTest o = Unit {0}

-- its numbers are those of the program's types
abbrev pub HasNumbers : Op → Type 0
HasNumbers (op.Class object shape) = IfSome object IsNumber × IfSome shape IsNumber
HasNumbers o = FitsOp o

-- An act as the program's types hold it, which names no more objects than a file's word can count.
pub record IsHeld (r : Recorded) : Type 0 where
  pub thread : r.act.thread < 64
  pub at : r.act.at < 2 ^ 64
  pub op : HasNumbers r.act.op
  pub few : length r.named ≤ 2 ^ 32 - 4
  pub named : All IsNumber r.named

abbrev pub TestsAreWhole : Type 0 → Type 0
TestsAreWhole Frames = (set : SetFacts) (main : ℕ) (opening : Graph) (code : Code set main opening Frames)
    (front : List Recorded) (a : Recorded) (rest : List Recorded) → IsPlainRun set main opening code (front ++ a ∷ rest) → IsWholeTest a.act.op

abbrev pub RunsAreReadAsWritten : Type 0 → Type 0
RunsAreReadAsWritten Frames = (set : SetFacts) (main : ℕ) (opening : Graph) (code : Code set main opening Frames)
    (acts : List Recorded) (keep : ℕ) → IsPlainRun set main opening code acts → All IsHeld acts → length acts < 2 ^ 32 → keep < 2 ^ 64
    → history_in (history_bytes acts keep) ≡ Ok (acts, keep)
