use Rattle.std.proofs.Common.{◌≡◌, ◌∙◌, [], ◌∷◌, refl, sym, ap, arith}
use Rattle.run_types.specs.declared.fault.LinkKind.TheVariants as kind
use Rattle.run_types.specs.declared.fault.StepFault.TheVariants as fault
use Rattle.frame_cells.specs.declared.cell.Cell.TheVariants.{Reference}
use Rattle.frames.specs.declared.given.Given.TheVariants as given
use Rattle.frames.specs.declared.program.Body.TheVariants as body
use Rattle.frames.specs.Tables.{method_at}
use Rattle.frames.specs.Calls.{Stepped, breaks, begins_body}
use Rattle.frame_thread.specs.declared.tables.Outline.{Outline}
use Rattle.frame_thread.specs.Stacked.{list_of}
use Rattle.frame_steps.proofs.Sizes.{room-yes, room-no}
use Rattle.frame_steps.proofs.gives.callee.Goals as goal

pub returns-in-Code-clause-step : goal.returns-in-Code-clause-step
returns-in-Code-clause-step g c =
    let x = g.H.Host.setting c.args.host.now in
    let fs = list_of c.args.thread.now in
    let e : Stepped _ _ _ = breaks (fault.LinkFault kind.NoCode c.args.class 0) fs in
    let b : (method_at x.program c.args.number).body ≡ body.Code c.in-Code.entry =
    ap (λ p. (method_at p c.args.number).body) (sym c.program.ensures) ∙
    ap (λ (o : Outline _). o.body) (sym c.outline_at.ensures) ∙ c.in-Code.is in
    c.code.ensures.step e ∙ ap (begins_body x c.args.number (Reference c.args.receiver ∷ [])
    (given.Reference c.args.receiver ∷ []) fs fs e) (sym b)

pub returns-in-Native-clause-step : goal.returns-in-Native-clause-step
returns-in-Native-clause-step g c =
    let x = g.H.Host.setting c.args.host.now in
    let fs = list_of c.args.thread.now in
    let e : Stepped _ _ _ = breaks (fault.LinkFault kind.NoCode c.args.class 0) fs in
    let b : (method_at x.program c.args.number).body ≡ body.Native c.in-Native.method =
    ap (λ p. (method_at p c.args.number).body) (sym c.program.ensures) ∙
    ap (λ (o : Outline _). o.body) (sym c.outline_at.ensures) ∙ c.in-Native.is in
    c.native.ensures.step e ∙ ap (begins_body x c.args.number (Reference c.args.receiver ∷ [])
    (given.Reference c.args.receiver ∷ []) fs fs e) (sym b)

pub returns-then-left-lt16-clause-step : goal.returns-then-left-lt16-clause-step
returns-then-left-lt16-clause-step g c =
    let x = g.H.Host.setting c.args.host.now in
    let fs = list_of c.args.thread.now in
    let e : Stepped _ _ _ = breaks (fault.LinkFault kind.NoCode c.args.class 0) fs in
    let b : (method_at x.program c.args.number).body ≡ body.Empty =
    ap (λ p. (method_at p c.args.number).body) (sym c.program.ensures) ∙
    ap (λ (o : Outline _). o.body) (sym c.outline_at.ensures) ∙ c.in-Empty.is in
    room-no x 16 c.args.thread.now c.full.new.thread c.full.result e c.requires.of
    (omega (arith, c.if-left-lt16.true, c.left.ensures.left)) c.full.ensures.thread c.full.ensures.said ∙
    ap (begins_body x c.args.number (Reference c.args.receiver ∷ [])
    (given.Reference c.args.receiver ∷ []) fs fs e) (sym b)

pub returns-else-left-lt16-clause-step : goal.returns-else-left-lt16-clause-step
returns-else-left-lt16-clause-step g c =
    let x = g.H.Host.setting c.args.host.now in
    let fs = list_of c.args.thread.now in
    let e : Stepped _ _ _ = breaks (fault.LinkFault kind.NoCode c.args.class 0) fs in
    let b : (method_at x.program c.args.number).body ≡ body.Empty =
    ap (λ p. (method_at p c.args.number).body) (sym c.program.ensures) ∙
    ap (λ (o : Outline _). o.body) (sym c.outline_at.ensures) ∙ c.in-Empty.is in
    rw (c.unlinked.ensures.said, c.unlinked.ensures.thread) refl ∙
    sym (room-yes x 16 fs e c.requires.of (omega (arith, c.if-left-lt16.false, c.left.ensures.left))) ∙
    ap (begins_body x c.args.number (Reference c.args.receiver ∷ [])
    (given.Reference c.args.receiver ∷ []) fs fs e) (sym b)
