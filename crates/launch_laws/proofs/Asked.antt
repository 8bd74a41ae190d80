-- What threads ask for has a shape in a directory of the set that their launch runs.
use Rattle.std.proofs.Common.{◌≡◌, ℕ, true, sym, ap, ◌∙◌, subst, inl, inr}
use Rattle.natives.specs.declared.methods.Native.{Native}
use Rattle.natives.specs.Methods.{native_at}
use Rattle.plain_model.specs.Facts.{SetFacts, known_classes}
use Rattle.frames.specs.declared.program.Program.{Program}
use Rattle.set_directory.specs.Written.{is_written}
use Rattle.run_forms.specs.Standing.{Launch}
use Rattle.launch_laws.specs.Asking.{HasNewArray, IsMadeByCode, RunsAskForTheirArrays, ThreadsAskForTheirArrays}
use Rattle.launch_laws.specs.Written.{CharsAreWritten, CodeMakesWrittenArrays, IsWrittenFor, RunsAskForWrittenArrays}
use Rattle.launch_laws.specs.Written.{ThreadsAskForWrittenArrays}

module _ (code : CodeMakesWrittenArrays Native) (chars : CharsAreWritten) where
  written-for : (launch : Launch) (shape : ℕ) → IsMadeByCode launch shape → IsWrittenFor launch shape
  written-for launch shape (inl made) set linked runs =
      code native_at set shape linked (subst (λ (p : Program Native). HasNewArray p shape) runs.program made)
  written-for launch shape (inr same) set linked runs =
      subst (λ n. is_written set n ≡ true)
      (sym (same ∙ ap (λ (facts : SetFacts). (known_classes facts).chars) runs.facts)) (chars set linked)

  pub runs-written : RunsAskForTheirArrays → RunsAskForWrittenArrays
  runs-written asked launch acts t from shape count is run e =
      written-for launch shape (asked launch acts t from shape count is run e)

  pub threads-written : ThreadsAskForTheirArrays → ThreadsAskForWrittenArrays
  threads-written asked launch acts shown rest threads is stands t fs from shape count asking =
      written-for launch shape (asked launch acts shown rest threads is stands t fs from shape count asking)
