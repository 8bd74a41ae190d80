-- How many lines the objects of a run have, by the table.
use Rattle.std.proofs.Common.{◌≡◌, ◌≢◌, ◌⊎◌, inl, inr, ℕ, suc, ◌+◌, ◌-◌, ◌/◌, ◌<◌, ◌≤◌, Bool, true, false, ltb, List, [], ◌∷◌}
use Rattle.std.proofs.Common.{◌++◌, length, refl, sym, ◌∙◌, ap, arith}
use Rattle.std.specs.Prelude.{sum_by}
use Rattle.std.proofs.lemmas.Bool.{true≢false, false≢true, cases_lt, cases_eq}
use Rattle.std.proofs.lemmas.List.{length_push, get_or_push, get_or_append_left}
use Rattle.run_history.specs.declared.act.Op.{Op}
use Rattle.run_history.specs.declared.act.Op.TheVariants as op
use Rattle.plain_model.proofs.Durable.{durable_stays, has_number_from_below}
use Rattle.twin_forms.specs.Table.{Entry, entry, no_entry, lines_of, InP}
use Rattle.twin_forms.specs.Moves.{fresh}
use Rattle.twin_forms.specs.Sights.{view_of}
use Rattle.machine_laws.proofs.Passed.{objects_long}
use Rattle.convert_words.specs.Steps.{OneBecomes, claimed_at}
use Rattle.convert_words.specs.Sealing.{AreSealed}
use Rattle.machine_laws.specs.Passed.{Opening, Machine, first_of}
use Rattle.machine_laws.specs.Passed.{KeepsRun}
use Rattle.machine_laws.specs.Passed.{TableAfter, IsWithFresh}
use Rattle.machine_laws.proofs.AskKeeping.{durable-in}
use Rattle.machine_ends.specs.Lines.{has_lines, nodes_of, lines_taken}
use Rattle.machine_ends.proofs.Lists.{passing, sum-same, sum-more, sum-next, sum-none}

-- ---- the opened image's objects

module _ (o : Opening) (m : Machine) (es : List Entry) (k : KeepsRun o m es) where
  -- an object that isn't durable is none of them
  pub made-later : (n : ℕ) → (InP es n → ⊥) → nodes_of o ≤ n
  made-later n outside = elim (cases_lt n (nodes_of o)) [
    | inl lt ↦ absurd (outside (durable-in o m es k n (durable_stays (first_of o) m.acts n
        (has_number_from_below (nodes_of o) n lt))))
    | inr past ↦ past
  ]

  pub young-later : (n : ℕ) → (entry es n).stage ≡ 0 → nodes_of o ≤ n
  young-later n young = made-later n (λ p. let st = p.1 in omega (arith, st, young))

  -- they are in the table
  pub nodes-there : nodes_of o ≤ length es
  nodes-there =
      let long = objects_long m.spaces.classes (view_of m.spaces.twin) es k.heap.whole.lies in
      let nodes = k.world.nodes in
      omega (arith, long, nodes)

-- ---- the same lines

-- the same objects have lines, and as many
pub record SameLines (es es' : List Entry) : Type 0 where
  pub long : length es' ≡ length es
  pub has : (n : ℕ) → n < length es → has_lines (entry es' n) ≡ has_lines (entry es n)
  pub slots : (n : ℕ) → n < length es → (entry es' n).slots ≡ (entry es n).slots

count-same : (e e' : Entry) → e'.slots ≡ e.slots → lines_of e' ≡ lines_of e
count-same e e' same = ap (λ k. k / 8 + 1) same

-- the sum over a table's objects, to this length
abbrev sum_to : Opening → List Entry → ℕ → ℕ
sum_to o es long = sum_by (λ n. lines_of (entry es n))
    (passing (λ n. has_lines (entry es n)) (nodes_of o) (long - nodes_of o))

pub taken-same : (o : Opening) (es es' : List Entry) → SameLines es es' → lines_taken o es' ≡ lines_taken o es
taken-same o es es' same =
    ap (sum_to o es') same.long
    ∙ sum-same (λ n. has_lines (entry es n)) (λ n. has_lines (entry es' n)) (λ n. lines_of (entry es n))
    (λ n. lines_of (entry es' n)) (nodes_of o) (length es - nodes_of o) (λ n from below.
    (let lt : n < length es = omega (arith, from, below) in
    (same.has n lt, count-same (entry es n) (entry es' n) (same.slots n lt))))

-- ---- one object lies otherwise

pub has-becomes : (es es' : List Entry) (n : ℕ) (e' : Entry) → OneBecomes n e' es es'
    → has_lines e' ≡ has_lines (entry es n) → (m : ℕ) → has_lines (entry es' m) ≡ has_lines (entry es m)
has-becomes es es' n e' one same m = elim (cases_eq m n) [
  | inl here ↦ ap (λ x. has_lines (entry es' x)) here ∙ ap has_lines one.here ∙ same
      ∙ sym (ap (λ x. has_lines (entry es x)) here)
  | inr other ↦ ap has_lines (one.others m other)
]

-- it takes its lines
pub taken-more : (o : Opening) (es es' : List Entry) (m t line : ℕ) → nodes_of o ≤ m → m < length es
    → (entry es m).stage ≡ 0 → OneBecomes m (claimed_at t line (entry es m)) es es'
    → lines_taken o es' ≡ lines_taken o es + lines_of (entry es m)
taken-more o es es' m t line later there young one =
    let more = sum-more (λ n. has_lines (entry es n)) (λ n. has_lines (entry es' n))
    (λ n. lines_of (entry es n)) (λ n. lines_of (entry es' n)) (nodes_of o) (length es - nodes_of o) m later
    (omega (arith, later, there)) (ap (ltb 0) young) (ap has_lines one.here) (λ n from below other.
    (ap has_lines (one.others n other), ap lines_of (one.others n other))) in
    ap (sum_to o es') one.long ∙ more ∙ ap (λ x. lines_taken o es + x) (ap lines_of one.here)

-- ---- objects are sealed

same_bool : (a b : Bool) → (a ≡ b) ⊎ (a ≢ b)
same_bool true true = inl refl
same_bool false false = inl refl
same_bool true false = inr true≢false
same_bool false true = inr false≢true

pub has-sealed : (Those : ℕ → Type 0) (es es' : List Entry) → AreSealed Those es es' → (n : ℕ)
    → n < length es → has_lines (entry es' n) ≡ has_lines (entry es n)
has-sealed Those es es' s n lt = elim (same_bool (has_lines (entry es' n)) (has_lines (entry es n))) [
  | inl same ↦ same
  | inr other ↦ ap has_lines (s.others n lt (λ it. other (ap has_lines (s.here n lt it))))
]

-- ---- a new object

-- it has no lines
taken-fresh : (o : Opening) (es : List Entry) (shape slots at : ℕ) → nodes_of o ≤ length es
    → lines_taken o (es ++ fresh shape slots at ∷ []) ≡ lines_taken o es
taken-fresh o es shape slots at within =
    let es' = es ++ fresh shape slots at ∷ [] in
    let k = length es - nodes_of o in
    let p' : ℕ → Bool = λ n. has_lines (entry es' n) in
    let f' : ℕ → ℕ = λ n. lines_of (entry es' n) in
    let long = length_push es (fresh shape slots at) in
    let count : length es' - nodes_of o ≡ suc k = omega (arith, long, within) in
    let end : length es ≡ nodes_of o + k = omega (arith, within) in
    let none : p' (nodes_of o + k) ≡ false = ap has_lines
    (get_or_push es (fresh shape slots at) no_entry (nodes_of o + k) end) in
    ap (λ x. sum_by f' (passing p' (nodes_of o) x)) count ∙ sum-next p' f' (nodes_of o) k none
    ∙ sum-same (λ n. has_lines (entry es n)) p' (λ n. lines_of (entry es n)) f' (nodes_of o) k
    (λ n from below.
    (let same = get_or_append_left es (fresh shape slots at ∷ []) no_entry n (omega (arith, from, below)) in
    (ap has_lines same, ap lines_of same)))

with-fresh : (o : Opening) (m : Machine) (es es' : List Entry) → nodes_of o ≤ length es
    → IsWithFresh m es es' → lines_taken o es' ≡ lines_taken o es
with-fresh o m es es' within w =
    ap (lines_taken o) w.2 ∙ taken-fresh o es w.0 w.1 (length m.spaces.twin.space.words) within

pub taken-after : (o : Opening) (m : Machine) (operation : Op) (es es' : List Entry) → nodes_of o ≤ length es
    → TableAfter m operation es es' → lines_taken o es' ≡ lines_taken o es
taken-after o m (op.Alloc n class count) es es' within w = with-fresh o m es es' within w
taken-after o m (op.Throw n class) es es' within w = with-fresh o m es es' within w
taken-after o m operation es es' within same = ap (lines_taken o) same

-- ---- the start

pub taken-none : (o : Opening) (es : List Entry)
    → ((n : ℕ) → nodes_of o ≤ n → n < length es → has_lines (entry es n) ≡ false) → lines_taken o es ≡ 0
taken-none o es none = sum-none (λ n. has_lines (entry es n)) (λ n. lines_of (entry es n)) (nodes_of o)
    (length es - nodes_of o) (λ n from below. none n from (omega (arith, from, below)))
