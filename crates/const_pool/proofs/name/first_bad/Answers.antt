use Rattle.std.proofs.Common.{◌≡◌, ℕ, ◌+◌, ◌-◌, ◌<◌, ◌≤◌, List, length, take, drop, Option, Some, None, sym, ap, ◌∙◌, arith}
use Rattle.std.proofs.lemmas.List.{drop-drop, drop_all, take_rest, length-drop}
use Rattle.const_pool.specs.Utf8.{bad_place, char_len}
use Rattle.const_pool.proofs.Texts.{front_unit, bad_step, bad_stop, bad_end, good_has_none, none_is_good}
use Rattle.const_pool.proofs.name.first_bad.Goals as goal

-- what stands at a place, by the bytes from there on
found_at : (bytes : List ℕ) (at : ℕ) (len : Option ℕ)
    → len ≡ char_len (take (length bytes - at) (drop at bytes)) → char_len (drop at bytes) ≡ len
found_at bytes at len e = sym (e ∙ ap char_len (take_rest bytes at))

-- a good character ends within the bytes
ends_within : (bytes : List ℕ) (at len : ℕ) → at ≤ length bytes → char_len (drop at bytes) ≡ Some len
    → (0 < len) × (at + len ≤ length bytes)
ends_within bytes at len le e =
    let f = front_unit (drop at bytes) len e in
    (f.positive, omega (arith, f.short, length-drop at bytes))

stops_at : (bytes : List ℕ) (at : ℕ) → at < length bytes → char_len (drop at bytes) ≡ None
    → bad_place at 0 (drop at bytes) ≡ bad_place 0 0 bytes → bad_place 0 0 bytes ≡ Some at
stops_at bytes at lt e so_far = sym so_far ∙ bad_stop at (drop at bytes) (omega (arith, length-drop at bytes)) e

none_at_end : (bytes : List ℕ) (at : ℕ) → length bytes ≤ at
    → bad_place at 0 (drop at bytes) ≡ bad_place 0 0 bytes → bad_place 0 0 bytes ≡ None
none_at_end bytes at le so_far = sym so_far ∙ ap (bad_place at 0) (drop_all at bytes le) ∙ bad_end at

pub overflow_add-at : goal.overflow_add-at
overflow_add-at c =
    let e = ends_within c.args.bytes.now c.loop-at.at c.in-Some.len c.loop-at.invariant.0 (found_at c.args.bytes.now c.loop-at.at (Some c.in-Some.len) c.in-Some.ensures) in omega arith

pub loop-at-smaller : goal.loop-at-smaller
loop-at-smaller c =
    let e = ends_within c.args.bytes.now c.loop-at.at c.in-Some.len c.loop-at.invariant.0 (found_at c.args.bytes.now c.loop-at.at (Some c.in-Some.len) c.in-Some.ensures) in omega arith

pub loop-at-preserved : goal.loop-at-preserved
loop-at-preserved c =
    let bytes = c.args.bytes.now in
    let at = c.loop-at.at in
    let len = c.in-Some.len in
    let found : char_len (drop at bytes) ≡ Some len = found_at c.args.bytes.now c.loop-at.at (Some c.in-Some.len) c.in-Some.ensures in
    let e = ends_within bytes at len c.loop-at.invariant.0 found in
    (e.1, ap (bad_place (at + len) 0) (sym (drop-drop len at bytes)) ∙ sym (bad_step at len (drop at bytes) found) ∙ c.loop-at.invariant.1)

pub returns-in-None-clause-place : goal.returns-in-None-clause-place
returns-in-None-clause-place c =
    sym (stops_at c.args.bytes.now c.loop-at.at c.loop-at-test.true (found_at c.args.bytes.now c.loop-at.at None c.in-None.ensures) c.loop-at.invariant.1)

pub returns-in-None-clause-bad : goal.returns-in-None-clause-bad
returns-in-None-clause-bad c = λ some good.
    let place = stops_at c.args.bytes.now c.loop-at.at c.loop-at-test.true (found_at c.args.bytes.now c.loop-at.at None c.in-None.ensures) c.loop-at.invariant.1 in
    let none = good_has_none c.args.bytes.now good in
    absurd cc

pub returns-clause-place : goal.returns-clause-place
returns-clause-place c = sym (none_at_end c.args.bytes.now c.loop-at.at c.loop-at-test.false c.loop-at.invariant.1)

pub returns-clause-good : goal.returns-clause-good
returns-clause-good c =
    none_is_good c.args.bytes.now (none_at_end c.args.bytes.now c.loop-at.at c.loop-at-test.false c.loop-at.invariant.1)
