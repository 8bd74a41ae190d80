use Rattle.std.proofs.Common.{◌≡◌, ◌++◌, ◌-◌, ◌≤◌, ◌∷◌, [], length, take}
use Rattle.std.specs.List.{flat_map}
use Rattle.history_file.specs.Spelling.{words, magic, act_bytes}
use Rattle.history_file.proofs.writing.write_history.Given as goal

abbrev pub invariant-acts : goal.invariant-acts
invariant-acts l = record {
  within : l.i ≤ length l.fn.acts.acts;
  written : l.out.items ≡ words (magic ∷ 1 ∷ length l.fn.acts.acts ∷ l.keep ∷ []) ++ flat_map act_bytes
      (take l.i l.fn.acts.acts);
}

abbrev pub decreases-acts : goal.decreases-acts
decreases-acts l = length l.fn.acts.acts - l.i
