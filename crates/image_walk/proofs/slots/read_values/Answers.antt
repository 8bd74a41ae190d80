use Rattle.std.proofs.Common.{◌≡◌, ℕ, refl, sym, ◌∙◌, ap, subst}
use Rattle.std.specs.Prelude.{All}
use Rattle.std.proofs.lemmas.List.Elements.{All-nil, All-push}
use Rattle.ap_base.specs.declared.kind.Kind.{Kind}
use Rattle.image_meaning.specs.Checks.{Words, first_fault}
use Rattle.image_meaning.specs.Objects.{kind_of, object_slot, slot_fault, value_of}
use Rattle.image_walk.specs.Walking.{Shows, IsFault, NamesIn}
use Rattle.image_walk.proofs.Looking.{looks_nowhere, looks_more}
use Rattle.image_walk.proofs.Checking.{passes_more, fault_of, checks_none}
use Rattle.image_walk.proofs.Reading.{err_is, slot_outside, slot_read, values_more}
use Rattle.image_walk.proofs.slots.read_values.Goals as goal

pub loop-i-init : goal.loop-i-init
loop-i-init g c =
    record {
      looks = looks_nowhere c.args.memory.now;
      spared = refl;
      passes = λ words so. checks_none (slot_fault c.args.memory.now.size words c.args.shape.now c.args.line);
      reads = λ words so. c.in_ok-values.ensures.items;
      within = subst (All (NamesIn c.args.memory.now.size)) (sym c.in_ok-values.ensures.items) (All-nil (NamesIn c.args.memory.now.size));
    }

pub returns-in_err-word-clause-looks : goal.returns-in_err-word-clause-looks
returns-in_err-word-clause-looks g c =
    looks_more c.args.memory.now c.loop-i.memory c.read_word.new.memory c.loop-i.invariant.looks c.read_word.ensures.looks

pub returns-in_err-word_value-clause-looks : goal.returns-in_err-word_value-clause-looks
returns-in_err-word_value-clause-looks g c =
    looks_more c.args.memory.now c.loop-i.memory c.read_word.new.memory c.loop-i.invariant.looks c.read_word.ensures.looks

pub returns-in_err-push-clause-looks : goal.returns-in_err-push-clause-looks
returns-in_err-push-clause-looks g c =
    looks_more c.args.memory.now c.loop-i.memory c.read_word.new.memory c.loop-i.invariant.looks c.read_word.ensures.looks

pub returns-in_err-word_value-clause-bad : goal.returns-in_err-word_value-clause-bad
returns-in_err-word_value-clause-bad g c words so =
    let size = c.args.memory.now.size in
    let shape = c.args.shape.now in
    let line = c.args.line in
    let i = c.loop-i.i in
    let spot = c.slot_spot-spot.result in
    let outside = slot_outside line i spot.line c.requires.low c.slot_spot-spot.ensures.line in
    let word : c.in_ok-word.word ≡ object_slot words line i =
    slot_read words line i spot.line spot.word c.in_ok-word.word c.slot_spot-spot.ensures.line c.slot_spot-spot.ensures.word
    (c.in_ok-word.ensures.word words (c.loop-i.invariant.looks.keeps words so) outside) in
    let bytes : c.lines-size.result ≡ size = c.lines-size.ensures in
    let now : IsFault (slot_fault size words shape line i) c.in_err-word_value.field-0.0 =
    rw (c.kind_at.ensures, c.slot_spot-spot.ensures.line, word, bytes) at c.in_err-word_value.ensures.bad in
    err_is c.from_residual-in_err-word_value.result c.in_err-word_value.field-0.0
    (IsFault (first_fault (slot_fault size words shape line) c.args.length)) c.from_residual-in_err-word_value.ensures.1
    (fault_of (slot_fault size words shape line) i c.args.length c.in_err-word_value.field-0.0 (c.loop-i.invariant.passes words so) c.loop-i-test.true now)

pub loop-i-preserved : goal.loop-i-preserved
loop-i-preserved g c =
    let size = c.args.memory.now.size in
    let shape = c.args.shape.now in
    let line = c.args.line in
    let i = c.loop-i.i in
    let spot = c.slot_spot-spot.result in
    let inv = c.loop-i.invariant in
    let outside = slot_outside line i spot.line c.requires.low c.slot_spot-spot.ensures.line in
    let bytes : c.lines-size.result ≡ size = c.lines-size.ensures in
    let word_is : (words : Words) → Shows c.args.memory.now words → c.in_ok-word.word ≡ object_slot words line i =
    λ words so. slot_read words line i spot.line spot.word c.in_ok-word.word c.slot_spot-spot.ensures.line c.slot_spot-spot.ensures.word
    (c.in_ok-word.ensures.word words (inv.looks.keeps words so) outside) in
    record {
      looks = looks_more c.args.memory.now c.loop-i.memory c.read_word.new.memory inv.looks c.read_word.ensures.looks;
      spared = c.in_ok-word.ensures.cause.spared ∙ inv.spared;
      passes = λ words so.
          passes_more (slot_fault size words shape line) i (inv.passes words so)
          (rw (c.kind_at.ensures, c.slot_spot-spot.ensures.line, word_is words so, bytes) at c.in_ok-word_value.ensures.passes);
      reads = λ words so.
          values_more words shape line i c.loop-i.values.items c.push.new.self.items c.in_ok-word_value.field-0 (inv.reads words so)
          (c.in_ok-word_value.ensures.value ∙ ap (λ (k : Kind). value_of k c.in_ok-word.word) c.kind_at.ensures
          ∙ ap (λ (w : ℕ). value_of (kind_of shape i) w) (word_is words so)) c.in_ok-push.ensures.items;
      within = subst (All (NamesIn size)) (sym c.in_ok-push.ensures.items)
          (All-push (NamesIn size) c.loop-i.values.items c.in_ok-word_value.field-0 inv.within
          (subst (λ (n : ℕ). NamesIn n c.in_ok-word_value.field-0) bytes c.in_ok-word_value.ensures.within));
    }
