-- The small program's acts are a plain run.
use Rattle.std.proofs.Common.{refl, inl}
use Rattle.graph_model.specs.Reach.{here}
use Rattle.run_history.specs.Knowing.{known_after_op}
use Rattle.plain_model.specs.First.{first_world, first_heap}
use Rattle.plain_model.specs.Steps.{step}
use Rattle.plain_model.specs.Codes.{frames_after_op}
use Rattle.plain_model.proofs.RunParts.{◌▸◌, may, alone, ask_rule, join_rule}
use Rattle.frames.specs.Turns.{turn, answer}
use Rattle.plain_frames.specs.Codes.{code_of}
use Rattle.plain_frames.specs.Small.{RunsSo}

pub runs_so : RunsSo
unfolding first_world first_heap known_after_op frames_after_op step code_of turn answer
runs_so =
    may refl refl refl refl refl
    ▸ may refl refl refl refl refl
    ▸ may refl refl refl refl refl
    ▸ may refl refl refl refl refl
    ▸ may refl refl refl refl refl
    ▸ may refl (ask_rule 2 refl refl refl refl refl) refl refl refl
    ▸ may refl (join_rule 2 0 refl (here 2 (inl refl))) tt refl refl
    ▸ may refl (alone refl refl refl) refl refl refl
    ▸ may refl tt refl refl refl
    ▸ may refl refl refl refl refl
    ▸ may refl refl refl refl refl
    ▸ may refl refl refl refl refl
    ▸ may refl refl refl refl refl
    ▸ may refl refl refl refl refl
    ▸ may refl refl refl refl refl
    ▸ tt
