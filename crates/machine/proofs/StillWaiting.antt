-- Whether threads wait still, as it is tested.
use Rattle.std.proofs.Common.{◌≡◌, ℕ, ◌+◌, ◌<◌, ◌≤◌, ◌^◌, true, nat_eq, List, length, Option, Some, None, inl, inr, refl, sym, ◌∙◌, ap, subst, arith}
use Rattle.std.specs.Prelude.{IsSome, slice_get, slice_index_or}
use Rattle.std.specs.Option.{option_eq}
use Rattle.std.proofs.lemmas.Bool.Decides.{eqb_tells}
use Rattle.std.proofs.lemmas.Option.{get_or_from_slice_get, slice_get_within}
use Rattle.ap_base.specs.declared.reference.Ref.{Ref}
use Rattle.ap_base.specs.declared.reference.Item.{Item}
use Rattle.run_types.specs.declared.wait.On.{On}
use Rattle.run_types.specs.declared.wait.On.TheVariants as on
use Rattle.run_types.specs.contracts.wait.OnPartialEq.TheImpl.{eq-value}
use Rattle.graph_model.specs.declared.types.Root.{Root}
use Rattle.natives.specs.declared.requests.Request.{Request}
use Rattle.plain_model.specs.Facts.{SetFacts}
use Rattle.plain_model.specs.Steps.{step}
use Rattle.plain_model.specs.Ends.{wait_of}
use Rattle.shared_objects.specs.Plain.{plain_request}
use Rattle.shared_objects.specs.Worlds.{world_of}
use Rattle.step_forms.specs.Follows.{Agrees}
use Rattle.two_spaces.specs.Whole.{IsWhole}
use Rattle.machine_threads.specs.Passed.{memory_of, shown_in}
use Rattle.convert_waits.specs.Stuck.{IsPlain}
use Rattle.machine_threads.specs.Testing.{IsLive, WaitsStill}
use Rattle.shared_heap.specs.Notes.{asked_by, waits_on}
use Rattle.shared_heap.specs.Shared.{Shared}
use Rattle.shared_heap.specs.Requests.{MayRequest}
use Rattle.machine.specs.Laws.{Laws}
use Rattle.machine.specs.Remembering.{IsSomeRunning}
use Rattle.machine.proofs.Given.{agrees-then, is-long, is-whole, may-then}

-- what a list of options has at a place
pub noted-is : {X : Type 0} (xs : List (Option X)) (t : ℕ) (x : Option X) → slice_get xs t ≡ Some x
    → slice_index_or xs t None ≡ x
noted-is xs t x there = get_or_from_slice_get xs t x None there

some-of : {X : Type 0} (at : Option X) → IsSome at → (x : X) × (at ≡ Some x)
some-of None none = absurd (let no = none in cc)
some-of (Some x) some = (x, refl)

some-same : {X : Type 0} (x y : X) → ◌≡◌ {A = Option X} (Some x) (Some y) → x ≡ y
some-same x y is = cc

no-some : {X : Type 0} {P : Type 0} (x : X) → ◌≡◌ {A = Option X} None (Some x) → P
no-some x is = absurd (let no = is in cc)

-- ---- waits that are compared

same-number : (n k : ℕ) → nat_eq n k ≡ true → n ≡ k
same-number n k is = elim (eqb_tells n k) [
  | inl same ↦ same.1
  | inr other ↦ absurd (let no = sym other.0 ∙ is in cc)
]

number-itself : (n : ℕ) → nat_eq n n ≡ true
number-itself n = elim (eqb_tells n n) [
  | inl same ↦ same.0
  | inr other ↦ absurd (other.1 refl)
]

same-of : (w v : On) → eq-value.it w v ≡ true → w ≡ v
same-of (on.Monitor n) (on.Monitor k) is = ap (λ v. on.Monitor v) (same-number n k is)
same-of (on.Monitor n) (on.Join k) is = absurd (let no = is in cc)
same-of (on.Monitor n) (on.Init k) is = absurd (let no = is in cc)
same-of (on.Monitor n) (on.Conversion k) is = absurd (let no = is in cc)
same-of (on.Join n) (on.Monitor k) is = absurd (let no = is in cc)
same-of (on.Join n) (on.Join k) is = ap (λ v. on.Join v) (same-number n k is)
same-of (on.Join n) (on.Init k) is = absurd (let no = is in cc)
same-of (on.Join n) (on.Conversion k) is = absurd (let no = is in cc)
same-of (on.Init n) (on.Monitor k) is = absurd (let no = is in cc)
same-of (on.Init n) (on.Join k) is = absurd (let no = is in cc)
same-of (on.Init n) (on.Init k) is = ap (λ v. on.Init v) (same-number n k is)
same-of (on.Init n) (on.Conversion k) is = absurd (let no = is in cc)
same-of (on.Conversion n) (on.Monitor k) is = absurd (let no = is in cc)
same-of (on.Conversion n) (on.Join k) is = absurd (let no = is in cc)
same-of (on.Conversion n) (on.Init k) is = absurd (let no = is in cc)
same-of (on.Conversion n) (on.Conversion k) is = ap (λ v. on.Conversion v) (same-number n k is)

of-itself : (w : On) → eq-value.it w w ≡ true
of-itself (on.Monitor n) = number-itself n
of-itself (on.Join n) = number-itself n
of-itself (on.Init n) = number-itself n
of-itself (on.Conversion n) = number-itself n

pub on-same : (answer : Option On) (w : On) → option_eq eq-value.it answer (Some w) ≡ true → answer ≡ Some w
on-same None w is = absurd (let no = is in cc)
on-same (Some v) w is = ap (λ x. Some x) (same-of v w is)

pub on-itself : (answer : Option On) (w : On) → answer ≡ Some w → option_eq eq-value.it answer (Some w) ≡ true
on-itself answer w is = subst (λ a. option_eq eq-value.it a (Some w) ≡ true) (sym is) (of-itself w)

-- ---- what the test is given

module _ (set : SetFacts) (s : Shared) (running : IsSomeRunning set s) where
  pub whole : IsWhole s.machine.spaces
  whole = is-whole running.0 s running.2 0 running.4.runs.keeps

  pub long : 33 ≤ (memory_of s.machine).size
  long = is-long running.0 s running.2 0 running.4.runs.keeps

  pub agrees : length s.history.acts < 2 ^ 32 → Agrees set (shown_in s.machine) s.machine.rest
  agrees = agrees-then running.0 running.1 set s running.2 running.3 running.4.runs running.5

  -- a thread whose last event waited has asked what it may ask
  pub may : Laws → (u : ℕ) (w : On) → waits_on s.notes u ≡ Some w → (request : Request Ref Item)
      → asked_by s.notes u ≡ Some request → MayRequest set s.machine u request
  may laws u w noted request asks =
      let its = running.4.asked.asks u request asks in
      may-then running.0 running.1 set s running.2 running.3 running.4.runs running.5 laws u its.0 request
      (running.4.asked.ready u w noted) its.1

  -- at most 64 threads were started
  pub live-below : (u : ℕ) → IsLive s.machine u → u < 64
  live-below u live =
      let inside = slice_get_within s.machine.rest.threads u live.0 live.1 in
      let many = running.4.runs.many in
      let few = running.4.runs.few in omega (arith, inside, many, few)

  -- ---- what it tells

  -- what the request that is noted waits for
  abbrev Tells : ℕ → Option On → Type 0
  Tells u answer = (request : Request Ref Item) (roots : List Root) → asked_by s.notes u ≡ Some request
      → answer ≡ wait_of (step set (world_of roots (shown_in s.machine) s.machine.rest) u 1
      (plain_request (shown_in s.machine).number request))

  abbrev Still : List Root → ℕ → Type 0
  Still roots u = WaitsStill set s.machine roots (asked_by s.notes) (waits_on s.notes) u

  pub still : (roots : List Root) (u : ℕ) (w : On) (answer : Option On) → waits_on s.notes u ≡ Some w → IsPlain w
      → Tells u answer → answer ≡ Some w → Still roots u
  still roots u w answer noted plain tells is =
      let its = some-of (asked_by s.notes u) (running.4.asked.beside u w noted) in record {
        on = w;
        noted = noted;
        plain = plain;
        request = its.0;
        asks = its.1;
        holds = sym (tells its.0 roots its.1) ∙ is;
      }

  pub answers-so : (roots : List Root) (u : ℕ) (w : On) (answer : Option On) → waits_on s.notes u ≡ Some w
      → Tells u answer → Still roots u → answer ≡ Some w
  answers-so roots u w answer noted tells x =
      tells x.request roots x.asks ∙ x.holds ∙ sym x.noted ∙ noted

  -- where no wait is noted, or that for a conversion, it doesn't wait so
  pub none-noted : (roots : List Root) (u : ℕ) → waits_on s.notes u ≡ None → Still roots u → ⊥
  none-noted roots u none x = no-some x.on (sym none ∙ x.noted)

  -- a wait that is noted, and holds still, is one of the plain world
  pub plainly : (roots : List Root) (u : ℕ) (w : On) → waits_on s.notes u ≡ Some w → Still roots u → IsPlain w
  plainly roots u w noted x = subst IsPlain (some-same x.on w (sym x.noted ∙ noted)) x.plain

-- ---- thread by thread

-- each live thread below this one waits still
abbrev pub WaitBelow : SetFacts → Shared → List Root → ℕ → Type 0
WaitBelow set s roots n = (u : ℕ) → u < n → IsLive s.machine u
    → WaitsStill set s.machine roots (asked_by s.notes) (waits_on s.notes) u

pub wait-more : (set : SetFacts) (s : Shared) (roots : List Root) (n : ℕ) → WaitBelow set s roots n
    → (IsLive s.machine n → WaitsStill set s.machine roots (asked_by s.notes) (waits_on s.notes) n)
    → WaitBelow set s roots (n + 1)
wait-more set s roots n before here u below live = elim (eqb_tells u n) [
  | inl same ↦ subst (λ v. WaitsStill set s.machine roots (asked_by s.notes) (waits_on s.notes) v) (sym same.1)
      (here (subst (IsLive s.machine) same.1 live))
  | inr other ↦ (let differs = other.1 in before u (grind arith) live)
]
