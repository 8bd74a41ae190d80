use Rattle.launch_laws.proofs.Asked.{runs-written, threads-written}
use Rattle.launch_laws.proofs.array_laws.asked_arrays_are_written.Goals as goal

pub returns : goal.returns
returns c =
    let code = c.code_makes_written_arrays.ensures.code in
    let chars = c.code_makes_written_arrays.ensures.chars in
    record {
      runs = runs-written code chars c.runs_ask_for_their_arrays.ensures.runs;
      threads = threads-written code chars c.runs_ask_for_their_arrays.ensures.threads;
    }
