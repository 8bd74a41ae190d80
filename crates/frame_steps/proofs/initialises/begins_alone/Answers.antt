use Rattle.std.proofs.Common.{◌≡◌, ◌∙◌, [], ◌∷◌, None, sym, ap}
use Rattle.frame_cells.specs.declared.cell.Cell.TheVariants.{Reference}
use Rattle.frames.specs.declared.given.Given.TheVariants as given
use Rattle.frames.specs.declared.program.Body.TheVariants as body
use Rattle.frames.specs.Tables.{method_at}
use Rattle.frames.specs.Settings.{Ends}
use Rattle.frames.specs.Calls.{goes_on, begins_body}
use Rattle.frame_thread.specs.declared.tables.Outline.{Outline}
use Rattle.frame_thread.specs.Stacked.{list_of}
use Rattle.frame_steps.proofs.initialises.begins_alone.Goals as goal

pub returns-in-Code-clause-step : goal.returns-in-Code-clause-step
returns-in-Code-clause-step g c =
    let x = g.H.Host.setting c.args.host.now in
    let b : (method_at x.program c.args.number).body ≡ body.Code c.in-Code.entry =
    ap (λ p. (method_at p c.args.number).body) (sym c.program.ensures) ∙
    ap (λ (o : Outline _). o.body) (sym c.outline_at.ensures) ∙ c.in-Code.is in
    c.code.ensures.step (goes_on (Ends None) []) ∙
    ap (begins_body x c.args.number (Reference c.args.receiver ∷ []) (given.Reference c.args.receiver ∷ [])
    (list_of c.args.thread.now) [] (goes_on (Ends None) [])) (sym b)

pub returns-in-Native-clause-step : goal.returns-in-Native-clause-step
returns-in-Native-clause-step g c =
    let x = g.H.Host.setting c.args.host.now in
    let b : (method_at x.program c.args.number).body ≡ body.Native c.in-Native.method =
    ap (λ p. (method_at p c.args.number).body) (sym c.program.ensures) ∙
    ap (λ (o : Outline _). o.body) (sym c.outline_at.ensures) ∙ c.in-Native.is in
    c.native.ensures.step (goes_on (Ends None) []) ∙
    ap (begins_body x c.args.number (Reference c.args.receiver ∷ []) (given.Reference c.args.receiver ∷ [])
    (list_of c.args.thread.now) [] (goes_on (Ends None) [])) (sym b)
