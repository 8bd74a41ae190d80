-- Machines whose native methods are the built-in ones.
use Rattle.std.specs.Prelude.{◌≡◌, ℕ, ℤ, List, map, slice_get, Some}
use Rattle.run_types.specs.declared.known.Known.{Known}
use Rattle.run_types.specs.declared.resolved.At.{At}
use Rattle.graph_model.specs.declared.types.Graph.{Graph}
use Rattle.graph_model.specs.declared.types.Value.{Value}
use Rattle.graph_model.specs.declared.types.Value.TheVariants as value
use Rattle.run_history.specs.Recorded.{Recorded}
use Rattle.natives.specs.declared.methods.Native.{Native}
use Rattle.natives.specs.declared.states.NativeState.{NativeState}
use Rattle.natives.specs.Values.{Values}
use Rattle.frame_cells.specs.declared.cell.Cell.{Cell}
use Rattle.frames.specs.declared.given.Given.{Given}
use Rattle.frames.specs.declared.program.Program.{Program}
use Rattle.frames.specs.Settings.{Frames, Setting}
use Rattle.frames.specs.Tables.{start_of}
use Rattle.frames.specs.Maps.{map_cell, Keeps, GoAlike}
use Rattle.plain_model.specs.Facts.{SetFacts, known_classes}
use Rattle.plain_model.specs.Consistent.{IsConsistent}
use Rattle.plain_model.specs.First.{IsOpening, literal_number}
use Rattle.plain_model.specs.Runs.{IsPlainRun, frames_of, known_of}
use Rattle.plain_model.specs.Duties.{IsClass, KeepsDuties}
use Rattle.plain_frames.specs.Codes.{plain_setting, plain_cells, code_of}
use Rattle.plain_frames.specs.Sound.{AreIn}
use Rattle.plain_frames.specs.Tables.{NamesWhatIsThere}
use Rattle.plain_frames.specs.DutyLaws.{IsWorldOf}
use Rattle.plain_frames.specs.Methods.{start, asks, next, plain_values, plain_given, plain_natives}
use Rattle.plain_frames.specs.Moves.{map_state, AreAlike}
use Rattle.plain_frames.specs.Worlds.{is_in}

-- The setting of a machine over values, with the built-in methods.
module _ {R V : Type 0} (x : Values R V) (give : V → Given R) (known : Known) where
  abbrev pub setting : Program Native → At → (literal : ℕ → R) → (of_long : ℤ → V) → (cells : V → List (Cell R))
      → Setting Native R (NativeState R) V
  setting program main literal of_long cells = record {
    program = program;
    main = main;
    null = x.null;
    is_null = x.is_null;
    literal = literal;
    of_int = x.of_int;
    of_long = of_long;
    of_reference = x.of_reference;
    cells = cells;
    start = start x give known;
    asks = asks x give;
    next = next x give;
  }

-- That of the plain machine is one.
abbrev pub PlainSettingsAreSuch : Type 0
PlainSettingsAreSuch = (set : SetFacts) (opening : Graph) (p : Program Native) (method : ℕ)
    → plain_setting set opening p (plain_natives set) method
    ≡ setting plain_values plain_given (known_classes set) p (start_of p method)
    (λ k. value.Obj (literal_number set opening k)) value.Long plain_cells

-- Where literals, values and cells correspond, the changes of references keep what frames want, and turns
-- and answers go alike.
module _ {R S V W : Type 0} (f : R → S) (h : V → W) where
  abbrev pub OfSettings : (Setting Native R (NativeState R) V → Setting Native S (NativeState S) W → Type 0)
      → Type 0
  OfSettings P = (x : Values R V) (y : Values S W) (give : V → Given R) (give' : W → Given S) (known : Known)
      (program : Program Native) (main : At) (literal : ℕ → R) (literal' : ℕ → S) (of_long : ℤ → V)
      (of_long' : ℤ → W) (cells : V → List (Cell R)) (cells' : W → List (Cell S))
      → AreAlike f h x y give give'
      → ((k : ℕ) → literal' k ≡ f (literal k)) → ((i : ℤ) → of_long' i ≡ h (of_long i))
      → ((v : V) → cells' (h v) ≡ map (map_cell f) (cells v))
      → P (setting x give known program main literal of_long cells)
      (setting y give' known program main literal' of_long' cells')

  abbrev pub SettingsKeep : Type 0
  SettingsKeep = OfSettings (Keeps f (map_state f) h)

  abbrev pub SettingsGoAlike : Type 0
  SettingsGoAlike = OfSettings (GoAlike f (map_state f) h)

-- Programs with the built-in methods, of a consistent class set, whose tables name what is there, from an
-- opening graph and with a main class of the set.
abbrev pub OfPrograms : ((set : SetFacts) → Graph → Program Native → (method main : ℕ) → Type 0) → Type 0
OfPrograms P = (set : SetFacts) (opening : Graph) (p : Program Native) (method main : ℕ)
    → IsConsistent set → IsOpening set opening → NamesWhatIsThere set p → IsClass set main
    → P set opening p method main

-- Each request of each plain run is fit.
abbrev pub BuiltInProgramsAskWhatIsFit : Type 0
BuiltInProgramsAskWhatIsFit = OfPrograms (λ set opening p method main.
    KeepsDuties set main opening (code_of set opening p (plain_natives set) method main))

-- The worlds of such runs are those of the set, and each of their references names an object.
abbrev pub BuiltInWorldsAreOf : Type 0
BuiltInWorldsAreOf = OfPrograms (λ set opening p method main.
    let code = code_of set opening p (plain_natives set) method main in
    (acts : List Recorded) → IsPlainRun set main opening code acts
    → IsWorldOf set opening (known_of set main opening code acts).world)

-- The frames of each thread are in the world, at every point of every plain run.
abbrev pub BuiltInFramesStayIn : Type 0
BuiltInFramesStayIn = OfPrograms (λ set opening p method main.
    let code = code_of set opening p (plain_natives set) method main in
    (acts : List Recorded) → IsPlainRun set main opening code acts
    → (t : ℕ) (fs : Frames Value (NativeState Value))
    → slice_get (frames_of set main opening code acts) t ≡ Some fs
    → AreIn set (is_in set) (known_of set main opening code acts).world t fs)
