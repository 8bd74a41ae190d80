use Rattle.std.proofs.Common.{◌<◌, ◌∙◌, ℕ, List, Option, Some, None, ap, length, rules, subst, sym}
use Rattle.std.specs.Prelude.{slice_get, slice_set}
use Rattle.std.proofs.lemmas.Option.{slice_get-get_or, slice_get_within}
use Rattle.ap_base.specs.declared.reference.Ref.{Ref}
use Rattle.run_forms.specs.Views.{ThreadFrames}
use Rattle.turnstile.specs.Entries.{SameButOf}
use Rattle.workers.specs.Shared.{all_frames, values_of}
use Rattle.workers.proofs.Frames.{begins-at, get-same, others-stay}
use Rattle.workers.proofs.locked.begin_started.Goals as goal

pub returns-clause-all : goal.returns-clause-all
returns-clause-all c =
    let begins = c.args.begins.now in
    let vals = values_of c.args.notes.now.items in
    let t = c.args.t in
    let same = c.number-at.ensures.same in
    let within : c.number-at.result < length begins = search rules in
    let there = ap (slice_get begins) (sym same) ∙ slice_get-get_or begins c.number-at.result None within
    ∙ ap (λ (at : Option Ref). Some at) c.in-Some.is in
    ap (λ (n : ℕ). all_frames (slice_set begins n None) (values_of c.note.new.notes.items)) same
    ∙ ap (all_frames (slice_set begins t None)) (c.note.ensures ∙ ap (slice_set vals t) c.begin_thread.ensures)
    ∙ begins-at begins vals t c.in-Some.thread there

pub returns-clause-others : goal.returns-clause-others
returns-clause-others c =
    let vals = values_of c.args.notes.now.items in
    subst (λ (ps : List ThreadFrames). SameButOf c.args.t vals ps) (sym c.note.ensures) (others-stay vals c.args.t c.begin_thread.new.self)

pub returns-clause-noted : goal.returns-clause-noted
returns-clause-noted c =
    let vals = values_of c.args.notes.now.items in
    ap (λ (ps : List ThreadFrames). slice_get ps c.args.t) c.note.ensures
    ∙ get-same vals c.args.t c.begin_thread.new.self (slice_get_within vals c.args.t c.args.frames.now c.requires.noted)

pub returns-clause-begun : goal.returns-clause-begun
returns-clause-begun c =
    let begins = c.args.begins.now in
    let within : c.args.t < length begins = search rules in
    ap (λ (n : ℕ). slice_get (slice_set begins n None) c.args.t) c.number-at.ensures.same ∙ get-same begins c.args.t None within
