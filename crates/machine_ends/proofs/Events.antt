-- Each event leaves that the objects of the run took the lines from the first one on.
use Rattle.std.proofs.Common.{◌≡◌, inl, inr, ℕ, ◌+◌, ◌-◌, ◌<◌, ◌≤◌, ltb, List, length, refl, sym, ◌∙◌, ap, subst, arith}
use Rattle.std.proofs.lemmas.Bool.{le-ltb, cases_lt, cases_eq}
use Rattle.graph_model.specs.declared.types.Obj.{Obj}
use Rattle.graph_model.specs.declared.types.Heap.{Heap}
use Rattle.graph_model.specs.Heaps.{values_of}
use Rattle.twin_forms.specs.Table.{Entry, entry, Lies}
use Rattle.twin_forms.specs.Moves.{SameHeap, one_more, forwarded}
use Rattle.twin_forms.specs.Sights.{view_of}
use Rattle.twin_forms.proofs.Tables.{alike}
use Rattle.machine_laws.proofs.Passed.{object_is, values_long}
use Rattle.convert_words.specs.declared.step.ConvertStep.{ConvertStep}
use Rattle.convert_words.specs.declared.step.ConvertStep.TheVariants as step
use Rattle.convert_words.specs.Scenes.{Scene}
use Rattle.convert_words.specs.Converting.{Says}
use Rattle.converter.specs.declared.begin.Begun.{Begun}
use Rattle.converter.specs.declared.begin.Begun.TheVariants as begun
use Rattle.converter.specs.Beginning.{BeginsAs}
use Rattle.machine_laws.specs.Passed.{Opening, Machine, known_in, scene_of}
use Rattle.machine_laws.specs.Passed.{KeepsRun}
use Rattle.machine_laws.proofs.Converted.{heap-is}
use Rattle.machine_ends.specs.Lines.{has_lines, nodes_of, lines_taken, TakesLines}
use Rattle.machine_ends.specs.LineLaws.{LinesAreThoseOfObjects, StartsTakeNoLines}
use Rattle.machine_ends.proofs.Taken.{young-later, taken-same, has-becomes, taken-more, has-sealed, taken-none}
use Rattle.machine_laws.specs.Passed.{ConvertsOn}

-- ---- lines and the plain heap

pub lines-of-objects : LinesAreThoseOfObjects
lines-of-objects o m es k n there =
    let s = m.spaces in
    let long : length (values_of (known_in o m).world.heap n) ≡ (entry es n).slots
    = ap (λ (h : Heap). length (values_of h n)) (heap-is o m es k)
    ∙ ap (λ (x : Obj). length x.values) (object_is s.classes (view_of s.twin) es n k.heap.whole.lies there)
    ∙ values_long s.classes (view_of s.twin) (entry es n) in
    omega (arith, long)

-- ---- the start

pub starts-take-none : StartsTakeNoLines
starts-take-none o m es k durable claimed =
    let none = taken-none o es (λ n from there. le-ltb 0 (entry es n).stage (young n from there)) in
    omega (arith, none)
  where
    young : (n : ℕ) → nodes_of o ≤ n → n < length es → (entry es n).stage ≤ 0
    young n from there = elim (cases_eq (entry es n).owner 0) [
      | inr some ↦ absurd (
          let own : (entry es n).owner ≡ ((entry es n).owner - 1) + 1 = omega (arith, some) in
          claimed ((entry es n).owner - 1) n (there, own))
      | inl free ↦ elim (cases_lt 1 (entry es n).stage) [
        | inl moved ↦ absurd (let lt = (durable n).0 (there, moved, free) in omega (arith, lt, from))
        | inr low ↦ elim (cases_eq (entry es n).stage 1) [
          | inl one ↦ absurd (let own = k.heap.whole.lies.table.copying n there one in omega
              (arith, own, free))
          | inr other ↦ omega (arith, low, other)
        ]
      ]
    ]

-- ---- steps of conversions

-- from one scene to the next
module _ (o : Opening) (t : ℕ) (s s' : Scene) (es es' : List Entry) (h : Lies (view_of s.heap) es)
    (h' : Lies (view_of s'.heap) es') (shows : SameHeap (view_of s.heap) es (view_of s'.heap) es')
    (later : (n : ℕ) → (entry es n).stage ≡ 0 → nodes_of o ≤ n) (first : ℕ)
    (taken : s.free ≡ first + lines_taken o es) where
  abbrev StillTaken : Type 0
  StillTaken = s'.free ≡ first + lines_taken o es'

  same-lines : s'.free ≡ s.free → ((n : ℕ) → n < length es → has_lines (entry es' n) ≡ has_lines (entry es n))
      → StillTaken
  same-lines free has = free ∙ taken ∙ ap (λ x. first + x) (sym (taken-same o es es' (record {
    long = shows.long;
    has = has;
    slots = shows.slots;
  })))

  same-table : s'.free ≡ s.free → es' ≡ es → StillTaken
  same-table free same = free ∙ taken ∙ ap (λ (table : List Entry). first + lines_taken o table) (sym same)

  -- two tables of one scene
  same-scene : s' ≡ s → StillTaken
  same-scene same =
      let own : Lies (view_of s.heap) es' = subst (λ (x : Scene). Lies (view_of x.heap) es') same h' in
      same-lines (ap (λ (x : Scene). x.free) same)
      (λ n there. ap (ltb 0) (alike (view_of s.heap) es es' n h own there).stage)

  pub step-taken : (answer : ConvertStep) → Says answer t s s' es es' → StillTaken
  step-taken (step.Sealed set) says = same-lines says.free (has-sealed _ es es' says.sealed)
  step-taken (step.Wait u) says = same-scene says.1
  step-taken (step.Full need left) says = same-scene says.1
  step-taken step.Claimed says =
      let x = says.0 in
      let more = taken-more o es es' x.m t s.free (later x.m x.asked.ordinary) x.asked.refers_to.there
      x.asked.ordinary x.becomes in
      let free = x.free in
      omega (arith, taken, more, free)
  step-taken step.Touched says = same-table says.1.1 says.0.table
  step-taken step.WroteBack says = same-table says.1.1 says.0.table
  step-taken step.Fenced says = same-table says.1.1 says.0.table
  step-taken step.CopiedLine says = same-lines says.1.1
      (λ n there. has-becomes es es' says.0.n (one_more (entry es says.0.n)) says.0.becomes refl n)
  step-taken step.Forwarded says = same-lines says.1.1
      (λ n there. has-becomes es es' says.0.n (forwarded (entry es says.0.n)) says.0.becomes
      (sym (ap (ltb 0) says.0.young)) n)
  step-taken step.Repaired says = same-table says.1.1 says.0.table

pub conversions-keep-lines : (o : Opening) (m : Machine) (es : List Entry) (first : ℕ) → KeepsRun o m es
    → TakesLines o first m es → (m' : Machine) (t : ℕ) (answer : ConvertStep)
    (c : ConvertsOn t answer m m' es) → TakesLines o first m' c.event.after
conversions-keep-lines o m es first k taken m' t answer c =
    step-taken o t c.event.at (scene_of m') es c.event.after c.event.goes_on.agrees.lies
    c.event.converts.agrees.lies c.event.converts.shows (young-later o m es k) first
    (c.event.goes_on.free ∙ taken) answer c.event.converts.says

-- ---- beginnings

pub begun-by : (o : Opening) (m : Machine) (es : List Entry) (first : ℕ) (k : KeepsRun o m es)
    (taken : TakesLines o first m es) (m' : Machine) (es' : List Entry) (t n : ℕ) (answer : Begun)
    → n < length es → BeginsAs answer (scene_of m) (scene_of m') es es' t n → TakesLines o first m' es'
begun-by o m es first k taken m' es' t n begun.Claimed there says =
    let more = taken-more o es es' n t m.free (young-later o m es k n says.ordinary) there says.ordinary
    says.becomes in
    let free = says.free in
    omega (arith, taken, more, free)
begun-by o m es first k taken m' es' t n (begun.Needs u) there says =
    says.free ∙ taken ∙ ap (λ (table : List Entry). first + lines_taken o table) (sym says.table)
begun-by o m es first k taken m' es' t n (begun.Full need left) there says =
    ap (λ (x : Scene). x.free) says.same ∙ taken
    ∙ ap (λ (table : List Entry). first + lines_taken o table) (sym says.table)

-- ---- calls and acts
