use Rattle.std.proofs.Common.{◌≡◌, ◌<◌, ◌≤◌, ◌+◌, ◌-◌, ℕ, List, Some, None, true, false, length, take, drop, sym, ◌∙◌, ap}
use Rattle.std.proofs.Common.{subst, arith}
use Rattle.std.proofs.lemmas.List.{length-drop, drop-drop}
use Rattle.image_meaning.specs.Entries.{spelled, read_entry}
use Rattle.image_meaning.specs.Directories.{Directory, is_refused, with_entry, with_entries}
use Rattle.directories.specs.Read.{entry_of, the_directory}
use Rattle.directories.proofs.Readings.{whole_slice, read_nothing, read_one, none_begins, refused_entry, taken_entry}
use Rattle.directories.proofs.Readings.{nothing_more, not_not, count_within}
use Rattle.directories.proofs.reading.parse.Goals as goal

pub returns-in-None-clause-bad : goal.returns-in-None-clause-bad
returns-in-None-clause-bad c =
    let words = c.args.words.now in
    let at = c.loop-at.at in
    let part = take (length words - at) (drop at words) in
    let whole : part ≡ drop at words = whole_slice words at in
    let directory : Directory = the_directory c.loop-at.shapes.items c.loop-at.roots.items in
    let most = c.loop-at.invariant.most in
    let some : 0 < length (drop at words) = omega (arith, length-drop at words) in
    let enough : length (drop at words) ≤ most.0 = omega (arith, length-drop at words, most.1) in
    let none : read_entry (drop at words) ≡ None =
    subst (λ (ws : List ℕ). read_entry ws ≡ None) whole
    (read_nothing part c.in_ok-found.field-0 (read_entry part) c.in-None.is c.in_ok-found.ensures) in
    sym most.2 ∙ none_begins most.0 at directory (drop at words) some enough none

pub returns-then-not-branch-clause-bad : goal.returns-then-not-branch-clause-bad
returns-then-not-branch-clause-bad c =
    let words = c.args.words.now in
    let at = c.loop-at.at in
    let part = take (length words - at) (drop at words) in
    let whole : part ≡ drop at words = whole_slice words at in
    let directory : Directory = the_directory c.loop-at.shapes.items c.loop-at.roots.items in
    let most = c.loop-at.invariant.most in
    let some : 0 < length (drop at words) = omega (arith, length-drop at words) in
    let enough : length (drop at words) ≤ most.0 = omega (arith, length-drop at words, most.1) in
    let one = read_one part c.in_ok-found.field-0 c.in-Some.found (read_entry part) c.in-Some.is c.in_ok-found.ensures in
    let entry = entry_of c.in-Some.found.0 in
    let read : read_entry (drop at words) ≡ Some (entry, drop c.in-Some.found.1 (drop at words)) =
    subst (λ (ws : List ℕ). read_entry ws ≡ Some (entry, drop c.in-Some.found.1 ws)) whole one.1 in
    let test : c.in_ok-add_entry.field-0 ≡ false = c.if-not-branch.true in
    let bad : is_refused directory entry ≡ true =
    (not_not c.in_ok-add_entry.field-0 (is_refused directory entry) c.in_ok-add_entry.ensures.refused).1 test in
    sym most.2 ∙ refused_entry most.0 at directory (drop at words) (drop c.in-Some.found.1 (drop at words)) entry some enough read bad

pub overflow_add-at : goal.overflow_add-at
overflow_add-at c =
    let words = c.args.words.now in
    let at = c.loop-at.at in
    let part = take (length words - at) (drop at words) in
    let whole : part ≡ drop at words = whole_slice words at in
    let directory : Directory = the_directory c.loop-at.shapes.items c.loop-at.roots.items in
    let most = c.loop-at.invariant.most in
    let some : 0 < length (drop at words) = omega (arith, length-drop at words) in
    let enough : length (drop at words) ≤ most.0 = omega (arith, length-drop at words, most.1) in
    let one = read_one part c.in_ok-found.field-0 c.in-Some.found (read_entry part) c.in-Some.is c.in_ok-found.ensures in
    let entry = entry_of c.in-Some.found.0 in
    let read : read_entry (drop at words) ≡ Some (entry, drop c.in-Some.found.1 (drop at words)) =
    subst (λ (ws : List ℕ). read_entry ws ≡ Some (entry, drop c.in-Some.found.1 ws)) whole one.1 in
    let within = count_within (drop at words) (drop c.in-Some.found.1 (drop at words)) entry read in
    omega (arith, one.0, within, length-drop at words, c.requires)

pub loop-at-preserved : goal.loop-at-preserved
loop-at-preserved c =
    let words = c.args.words.now in
    let at = c.loop-at.at in
    let part = take (length words - at) (drop at words) in
    let whole : part ≡ drop at words = whole_slice words at in
    let directory : Directory = the_directory c.loop-at.shapes.items c.loop-at.roots.items in
    let most = c.loop-at.invariant.most in
    let some : 0 < length (drop at words) = omega (arith, length-drop at words) in
    let enough : length (drop at words) ≤ most.0 = omega (arith, length-drop at words, most.1) in
    let one = read_one part c.in_ok-found.field-0 c.in-Some.found (read_entry part) c.in-Some.is c.in_ok-found.ensures in
    let entry = entry_of c.in-Some.found.0 in
    let read : read_entry (drop at words) ≡ Some (entry, drop c.in-Some.found.1 (drop at words)) =
    subst (λ (ws : List ℕ). read_entry ws ≡ Some (entry, drop c.in-Some.found.1 ws)) whole one.1 in
    let within = count_within (drop at words) (drop c.in-Some.found.1 (drop at words)) entry read in
    let test : c.in_ok-add_entry.field-0 ≡ true = c.if-not-branch.false in
    let good : is_refused directory entry ≡ false =
    (not_not c.in_ok-add_entry.field-0 (is_refused directory entry) c.in_ok-add_entry.ensures.refused).0 test in
    let count : c.in-Some.found.1 ≡ length (spelled entry) = one.0 in
    let next : Directory = the_directory c.add_entry.new.shapes.items c.add_entry.new.roots.items in
    let added : next ≡ with_entry directory entry = c.in_ok-add_entry.ensures.added test in
    record {
      within = omega (arith, count, within, length-drop at words);
      names = c.in_ok-add_entry.ensures.named test;
      most = (
        most.0 - 1,
        omega (arith, most.1, count),
        ap (λ (d : Directory). with_entries (most.0 - 1) (at + c.in-Some.found.1) d (drop (at + c.in-Some.found.1) words)) added
            ∙ ap (λ (ws : List ℕ). with_entries (most.0 - 1) (at + c.in-Some.found.1) (with_entry directory entry) ws)
            (sym (drop-drop c.in-Some.found.1 at words))
            ∙ ap (λ (n : ℕ). with_entries (most.0 - 1) (at + n) (with_entry directory entry) (drop c.in-Some.found.1 (drop at words))) count
            ∙ sym (taken_entry most.0 at directory (drop at words) (drop c.in-Some.found.1 (drop at words)) entry some enough read good)
            ∙ most.2,
      );
    }

pub returns-clause-found : goal.returns-clause-found
returns-clause-found c =
    let words = c.args.words.now in
    let at = c.loop-at.at in
    let directory : Directory = the_directory c.loop-at.shapes.items c.loop-at.roots.items in
    let most = c.loop-at.invariant.most in
    sym most.2 ∙ nothing_more most.0 at directory (drop at words) (omega (arith, length-drop at words))
