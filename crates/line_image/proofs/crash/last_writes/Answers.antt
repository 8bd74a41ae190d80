use Rattle.std.proofs.Common.{◌≡◌, ◌<◌, ◌∙◌, ℕ, [], IsTrue, Vec, Global, length, get_or, set, ap, subst, arith}
use Rattle.std.proofs.lemmas.List.{length-set}
use Rattle.line_image.specs.Trace.{is_within}
use Rattle.line_image.specs.declared.effect.Effect.{Effect}
use Rattle.line_image.specs.declared.effect.Done.{Done}
use Rattle.line_image.specs.declared.effect.Done.TheVariants.{Wrote}
use Rattle.line_image.proofs.Effects.{line_within, past_wrote, fenced_wrote, fenced_fence}
use Rattle.line_image.proofs.crash.last_writes.Goals.{in-Wrote, in-Fenced}
use Rattle.line_image.proofs.crash.last_writes.Goals as goal

pub loop-effect-preserved : goal.loop-effect-preserved
loop-effect-preserved c =
    let first = c.args.first.now in
    let done = c.args.done.now in
    let i = c.loop-effect.effect-index in
    let at = c.loop-effect-test.true in
    let none : Effect = record { at = 0; done = Wrote 0 [] } in
    let writes = c.loop-effect.writes.items in
    let fences = c.loop-effect.fences in
    let new = c.match-effect.writes.items in
    let now = c.match-effect.fences in
    let before = c.loop-effect.invariant in
    elim c.match-effect.branch [
      | in-Wrote w ↦
          let line = w.in-Wrote.line in
          let within = subst (λ (deed : Done). IsTrue (is_within (length first) deed)) w.in-Wrote.is
          (c.requires.within i none at) in
          let inside = line_within (length first) line w.in-Wrote.words within in
          let below : line < length writes = omega (arith, before.size, inside) in
          let is : new ≡ set writes line fences = ap (λ (v : Vec ℕ Global). v.items) w.writes-is in
          record {
            size = ap length is ∙ length-set writes line fences ∙ before.size;
            few = omega (arith, w.fences-is, before.few);
            past = past_wrote writes new fences now line below is w.fences-is before.past;
            fenced = fenced_wrote first done writes new i fences now line w.in-Wrote.words none at
                w.in-Wrote.is below is w.fences-is before.fenced;
          }
      | in-Fenced w ↦ record {
        size = ap (λ (v : Vec ℕ Global). length v.items) w.writes-is ∙ before.size;
        few = omega (arith, w.fences-is, before.few);
        past = λ k.
            let same = ap (λ (v : Vec ℕ Global). get_or v.items k 0) w.writes-is in
            omega (arith, w.fences-is, before.past k, same);
        fenced = fenced_fence first done new i now none at w.in-Fenced.is;
      }
    ]
