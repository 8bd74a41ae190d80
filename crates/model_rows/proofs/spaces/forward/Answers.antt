use Rattle.std.proofs.Common.{length, sym, ap, ◌∙◌, subst}
use Rattle.std.proofs.lemmas.List.{length-set}
use Rattle.forwarding.specs.Forwards.{HasState}
use Rattle.model_rows.proofs.spaces.forward.Goals as goal

pub returns-in-Some-Copying : goal.returns-in-Some-Copying
returns-in-Some-Copying c =
    let has : HasState c.args.space.now.words c.args.object c.in-Some-Copying.field-0 = record {
      taken = c.requires.taken;
      state = c.in-Some-Copying.ensures.found.0;
      word = sym c.word.ensures.word ∙ sym c.in-Some-Copying.ensures.found.1;
    } in record {
      long = ap length (c.set_forward.ensures.forwarded c.in-Some-Copying.field-0-0
          (subst (HasState c.args.space.now.words c.args.object) c.in-Some-Copying.field-0-is has)) ∙ length-set _ _ _;
    }
