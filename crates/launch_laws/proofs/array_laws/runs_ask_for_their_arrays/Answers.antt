use Rattle.launch_laws.proofs.Runs.{Laws, runs-made, threads-made}
use Rattle.launch_laws.proofs.array_laws.runs_ask_for_their_arrays.Goals as goal

pub returns : goal.returns
returns c =
    let laws : Laws = record {
      fit = c.turns_are_fit.ensures;
      keep = c.built_in_methods_keep_in.ensures;
      worlds = c.programs_with_built_in_methods_ask_what_is_fit.ensures.worlds;
      frames = c.programs_with_built_in_methods_ask_what_is_fit.ensures.frames;
    } in
    record {
      runs = runs-made laws;
      threads = threads-made laws c.machines_go_on_as_plain_runs.ensures.asks;
    }
