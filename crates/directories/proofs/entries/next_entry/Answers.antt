use Rattle.std.proofs.Common.{◌≡◌, ◌<◌, ◌∙◌, ℕ, List, true, false, nat_eq, ◌≤◌, Some, length, drop, sym, ap, arith}
use Rattle.std.specs.List.{starts_with}
use Rattle.image_meaning.specs.Entries.{spelled, is_entry}
use Rattle.directories.specs.Read.{entry_of}
use Rattle.directories.proofs.Readings.{too_long, read_none, read_some, and_left, and_right, and_both}
use Rattle.directories.proofs.entries.next_entry.Goals as goal

pub returns-then-count-words : goal.returns-then-count-words
returns-then-count-words c =
    let words = c.args.words.now in
    let entry = entry_of c.in_ok-entry.entry in
    let more : length words < length (spelled entry) = omega (arith, c.entry_length-count.ensures) in
    read_none words entry c.in_ok-entry.ensures
    (and_left (starts_with nat_eq words (spelled entry)) (is_entry entry) (too_long words (spelled entry) more))

pub returns-then-not-starts_with : goal.returns-then-not-starts_with
returns-then-not-starts_with c =
    let words = c.args.words.now in
    let entry = entry_of c.in_ok-entry.entry in
    let spelling : c.as_slice.result.now ≡ spelled entry = c.as_slice.ensures.value ∙ c.in_ok-spelling.ensures in
    let test : c.starts_with.result ≡ false = c.if-not-starts_with.true in
    let not_so : starts_with nat_eq words (spelled entry) ≡ false =
    ap (λ (needle : List ℕ). starts_with nat_eq words needle) (sym spelling) ∙ sym c.starts_with.ensures.value ∙ test in
    read_none words entry c.in_ok-entry.ensures (and_left (starts_with nat_eq words (spelled entry)) (is_entry entry) not_so)

pub returns-then-not-branch : goal.returns-then-not-branch
returns-then-not-branch c =
    let words = c.args.words.now in
    let entry = entry_of c.in_ok-entry.entry in
    let test : c.in_ok-may_stand.field-0 ≡ false = c.if-not-branch.true in
    read_none words entry c.in_ok-entry.ensures
    (and_right (starts_with nat_eq words (spelled entry)) (is_entry entry) (sym c.in_ok-may_stand.ensures ∙ test))

pub returns : goal.returns
returns c =
    let words = c.args.words.now in
    let entry = entry_of c.in_ok-entry.entry in
    let spelling : c.as_slice.result.now ≡ spelled entry = c.as_slice.ensures.value ∙ c.in_ok-spelling.ensures in
    let starts : c.starts_with.result ≡ true = c.if-not-starts_with.false in
    let stands : c.in_ok-may_stand.field-0 ≡ true = c.if-not-branch.false in
    let so : starts_with nat_eq words (spelled entry) ≡ true =
    ap (λ (needle : List ℕ). starts_with nat_eq words needle) (sym spelling) ∙ sym c.starts_with.ensures.value ∙ starts in
    let few : length (spelled entry) ≤ 32768 = omega (arith, c.entry_length-count.ensures, c.requires.few) in
    let count : c.entry_length-count.result ≡ length (spelled entry) = omega (arith, c.entry_length-count.ensures, few) in
    let read = read_some words entry c.in_ok-entry.ensures
    (and_both (starts_with nat_eq words (spelled entry)) (is_entry entry) so (sym c.in_ok-may_stand.ensures ∙ stands)) in
    (count, read ∙ ap (λ (n : ℕ). Some (entry, drop n words)) (sym count))
