use Rattle.std.proofs.Common.{◌≡◌, ℕ, min, None, Option, nat_lt, sym, ◌∙◌, ap, subst, refl, arith}
use Rattle.std.specs.Prelude.{All}
use Rattle.std.proofs.lemmas.List.Elements.{All-nil}
use Rattle.image_layout.specs.Places.{root_slots}
use Rattle.image_meaning.specs.Checks.{Words, Bad, first_fault}
use Rattle.image_meaning.specs.Meaning.{root_word, root_fault, roots_fault, root_values_of}
use Rattle.image_walk.specs.Walking.{Shows, IsFault, NamesIn, slot_check}
use Rattle.image_walk.proofs.Looking.{looks_nowhere, looks_more}
use Rattle.image_walk.proofs.Checking.{passes_more, fault_of, checks_none}
use Rattle.image_walk.proofs.Reading.{err_is, root_outside, root_read, root_checked, roots_more}
use Rattle.image_walk.proofs.roots.read_roots.Goals as goal

pub loop-root-init : goal.loop-root-init
loop-root-init g c =
    record {
      looks = looks_nowhere c.args.memory.now;
      spared = refl;
      passes = λ words so. checks_none (root_fault c.args.memory.now.size words c.args.roots);
      reads = λ words so.
          let none : min 0 c.args.roots ≡ 0 = omega arith in
          rw none c.new-values.ensures.items;
      within = subst (All (NamesIn c.args.memory.now.size)) (sym c.new-values.ensures.items) (All-nil (NamesIn c.args.memory.now.size));
    }

pub returns-in_err-word-clause-looks : goal.returns-in_err-word-clause-looks
returns-in_err-word-clause-looks g c =
    looks_more c.args.memory.now c.loop-root.memory c.read_word.new.memory c.loop-root.invariant.looks c.read_word.ensures.looks

pub returns-in_err-take_root-clause-looks : goal.returns-in_err-take_root-clause-looks
returns-in_err-take_root-clause-looks g c =
    looks_more c.args.memory.now c.loop-root.memory c.read_word.new.memory c.loop-root.invariant.looks c.read_word.ensures.looks

pub loop-root-preserved : goal.loop-root-preserved
loop-root-preserved g c =
    let size = c.args.memory.now.size in
    let roots = c.args.roots in
    let r = c.loop-root.root in
    let spot = c.root_spot-spot.result in
    let inv = c.loop-root.invariant in
    let bytes : c.lines-size.result ≡ size = c.lines-size.ensures in
    let outside = root_outside r spot.line c.loop-root-test.true c.root_spot-spot.ensures.line in
    let word_is : (words : Words) → Shows c.args.memory.now words → c.in_ok-word.word ≡ root_word words r =
    λ words so. root_read words r spot.line spot.word c.in_ok-word.word c.root_spot-spot.ensures.line c.root_spot-spot.ensures.word
    (c.in_ok-word.ensures.word words (inv.looks.keeps words so) outside) in
    let taken = c.in_ok-take_root.ensures in
    record {
      looks = looks_more c.args.memory.now c.loop-root.memory c.read_word.new.memory inv.looks c.read_word.ensures.looks;
      spared = c.in_ok-word.ensures.cause.spared ∙ inv.spared;
      passes = λ words so.
          passes_more (root_fault size words roots) r (inv.passes words so)
          (root_checked size words roots r spot.line c.in_ok-word.word (nat_lt r roots) refl c.root_spot-spot.ensures.line (word_is words so)
          ∙ ap (λ (n : ℕ). slot_check n (nat_lt r roots) spot.line c.in_ok-word.word) (sym bytes) ∙ taken.passes);
      reads = λ words so.
          taken.values
          ∙ roots_more words roots r c.in_ok-word.word (nat_lt r roots) c.loop-root.values.items refl (word_is words so) (inv.reads words so);
      within = subst (λ (n : ℕ). All (NamesIn n) c.take_root.new.values.items) bytes
          (taken.within (subst (λ (n : ℕ). All (NamesIn n) c.loop-root.values.items) (sym bytes) inv.within));
    }

pub returns-in_err-take_root-clause-bad : goal.returns-in_err-take_root-clause-bad
unfolding roots_fault
returns-in_err-take_root-clause-bad g c words so =
    let size = c.args.memory.now.size in
    let roots = c.args.roots in
    let r = c.loop-root.root in
    let spot = c.root_spot-spot.result in
    let inv = c.loop-root.invariant in
    let bytes : c.lines-size.result ≡ size = c.lines-size.ensures in
    let outside = root_outside r spot.line c.loop-root-test.true c.root_spot-spot.ensures.line in
    let word = root_read words r spot.line spot.word c.in_ok-word.word c.root_spot-spot.ensures.line c.root_spot-spot.ensures.word
    (c.in_ok-word.ensures.word words (inv.looks.keeps words so) outside) in
    let same : slot_check c.lines-size.result (nat_lt r roots) spot.line c.in_ok-word.word ≡ root_fault size words roots r =
    ap (λ (n : ℕ). slot_check n (nat_lt r roots) spot.line c.in_ok-word.word) bytes
    ∙ sym (root_checked size words roots r spot.line c.in_ok-word.word (nat_lt r roots) refl c.root_spot-spot.ensures.line word) in
    err_is c.from_residual-in_err-take_root.result c.in_err-take_root.field-0.0
    (IsFault (first_fault (root_fault size words roots) root_slots)) c.from_residual-in_err-take_root.ensures.1
    (fault_of (root_fault size words roots) r root_slots c.in_err-take_root.field-0.0 (inv.passes words so) c.loop-root-test.true
    (subst (λ (o : Option Bad). IsFault o c.in_err-take_root.field-0.0) same c.in_err-take_root.ensures.bad))

pub returns-clause-passes : goal.returns-clause-passes
unfolding roots_fault
returns-clause-passes g c words so =
    let all : c.loop-root.root ≡ root_slots = omega arith in
    subst (λ (n : ℕ). first_fault (root_fault c.args.memory.now.size words c.args.roots) n ≡ None) all (c.loop-root.invariant.passes words so)

pub returns-clause-values : goal.returns-clause-values
returns-clause-values g c words so few =
    let all : min c.loop-root.root c.args.roots ≡ c.args.roots = omega (arith, few) in
    c.loop-root.invariant.reads words so ∙ ap (λ (n : ℕ). root_values_of words n) all
