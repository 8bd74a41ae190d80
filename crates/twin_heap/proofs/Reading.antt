-- What the words of an object say, by the references that lead to it.
use Rattle.std.proofs.Common.{◌≡◌, inl, inr, ℕ, ◌+◌, ◌-◌, ◌*◌, ◌/◌, ◌%◌, ◌<◌, ◌≤◌, ◌==◌, ◌^◌, true, false, List, length, refl}
use Rattle.std.proofs.Common.{sym, ◌∙◌, ap, subst, arith}
use Rattle.std.specs.Prelude.{ltb, Option, None, Some, slice_index, IsTrue, nat_eq, Result, Ok, Err, IfOk, if◌then◌else◌}
use Rattle.std.proofs.lemmas.Grind.{common_steps}
use Rattle.ap_base.specs.References.{reference_word}
use Rattle.ap_base.specs.declared.reference.Ref.{Ref}
use Rattle.ap_base.specs.declared.reference.Ref.TheVariants.{Null, Persistent, Volatile}
use Rattle.forwarding.specs.Forwards.{HasState, IsObject, LeadsTo, Resolves, read_at}
use Rattle.image_layout.specs.Places.{head_of}
use Rattle.volatile_space.specs.Spaces.{Space}
use Rattle.line_memory.specs.Memory.{Memory, shown}
use Rattle.twin_forms.specs.Table.{Entry, entry, Lies, Leads, Names, IsClaimed, state_in, head_word}
use Rattle.twin_forms.specs.Sights.{Marks, sight}
use Rattle.twin_forms.proofs.Led.{same_or_not, below_or_not, even_moved, odd_old}
use Rattle.twin_forms.proofs.States.{is_state, cases, is_ordinary, is_claimed, is_copying, is_converted, is_durable}
use Rattle.twin_forms.proofs.States.{when_ordinary, when_claimed, when_copying, when_converted, when_durable}
use Rattle.twin_heap.specs.Here.{current}

-- what a volatile reference says of its object
pub record There (words : List ℕ) (at : ℕ) (e : Entry) : Type 0 where
  pub young : e.stage < 3
  pub at_is : e.at ≡ at
  pub state : HasState words at (state_in e)

pub there : (space : Space) (m : Memory) (marks : Marks) (es : List Entry) (n at : ℕ) → Lies (sight space m marks) es → n <
    length es → Names (entry es n) (2 * at + 1) → There space.words at (entry es n)
there space m marks es n at h ln names =
    let o = odd_old (entry es n) at names in
    let b = h.table.old_in n ln o.0 in
    record {
      young = o.0;
      at_is = o.1;
      state = record {
        taken = omega (arith, b, o.1);
        state = is_state h.table n ln o.0;
        word = ap (λ x. slice_index space.words x) (sym o.1) ∙ (h.sits n ln).state o.0;
      };
    }

pub is_object : (space : Space) (m : Memory) (marks : Marks) (at : ℕ) → Leads (sight space m marks) (2 * at + 1) → IsObject space.words at
is_object space m marks at leads = let t = there space m marks leads.0 leads.1 at leads.2 leads.3 leads.4 in (state_in (entry leads.0 leads.1), t.state)

pub leads_to : (space : Space) (m : Memory) (marks : Marks) (r : Ref) → Leads (sight space m marks) (reference_word r) → LeadsTo space.words r
leads_to space m marks Null leads = record {}
leads_to space m marks (Persistent line) leads = record {}
leads_to space m marks (Volatile at) leads = is_object space m marks at leads

pub when_old : (e : Entry) → e.stage < 2 → current e ≡ Volatile e.at
when_old e lt = let p : ltb e.stage 2 ≡ true = grind (arith, common_steps) in rw p refl

pub when_copy : (e : Entry) → 2 ≤ e.stage → current e ≡ Persistent e.line
when_copy e le = let p : ltb e.stage 2 ≡ false = grind (arith, common_steps) in rw p refl

read_current : (e : Entry) → e.stage < 3 → read_at e.at (state_in e) ≡ current e
read_current e lt = elim (cases e lt) [
  | is_ordinary s o ↦ ap (read_at e.at) (when_ordinary e s o) ∙ sym (when_old e (omega (arith, s)))
  | is_claimed s o ↦ ap (read_at e.at) (when_claimed e s o) ∙ sym (when_old e (omega (arith, s)))
  | is_copying s ↦ ap (read_at e.at) (when_copying e s) ∙ sym (when_old e (omega (arith, s)))
  | is_converted s o ↦ ap (read_at e.at) (when_converted e s o) ∙ sym (when_copy e (omega (arith, s)))
  | is_durable s o ↦ ap (read_at e.at) (when_durable e s o) ∙ sym (when_copy e (omega (arith, s)))
]

pub resolved_is : (space : Space) (m : Memory) (marks : Marks) (r result : Ref) → Resolves space.words r result →
    (es : List Entry) (n : ℕ) → Lies (sight space m marks) es → n < length es → Names (entry es n) (reference_word r) →
    result ≡ current (entry es n)
resolved_is space m marks Null result res es n h ln (inl s) = absurd (omega (arith, s.1))
resolved_is space m marks Null result res es n h ln (inr s) = absurd (omega (arith, s.2))
resolved_is space m marks (Persistent line) result res es n h ln names =
    let x = even_moved (entry es n) line names in res ∙ ap Persistent (sym x.1) ∙ sym (when_copy (entry es n) x.0)
resolved_is space m marks (Volatile at) result res es n h ln names =
    let t = there space m marks es n at h ln names in
    res (state_in (entry es n)) t.state ∙ ap (λ a. read_at a (state_in (entry es n))) (sym t.at_is) ∙ read_current (entry es n) t.young

abbrev form : Ref → ℕ
form Null = 0
form (Persistent line) = 1
form (Volatile at) = 2

abbrev place : Ref → ℕ
place Null = 0
place (Persistent line) = line
place (Volatile at) = at

-- which copy is current, by the reference to it
pub current_old : (e : Entry) (at : ℕ) → Volatile at ≡ current e → (e.stage < 2) × (e.at ≡ at)
current_old e at eq = elim (below_or_not e.stage 2) [
  | inl lt ↦ (lt, sym (ap place (eq ∙ when_old e lt)))
  | inr le ↦ (let x : 2 ≡ 1 = ap form (eq ∙ when_copy e le) in absurd (omega (arith, x)))
]

pub current_copy : (e : Entry) (line : ℕ) → Persistent line ≡ current e → (2 ≤ e.stage) × (e.line ≡ line)
current_copy e line eq = elim (below_or_not e.stage 2) [
  | inl lt ↦ (let x : 1 ≡ 2 = ap form (eq ∙ when_old e lt) in absurd (omega (arith, x)))
  | inr le ↦ (le, sym (ap place (eq ∙ when_copy e le)))
]

pub current_not_null : (e : Entry) → Null ≡ current e → ⊥
current_not_null e eq = elim (below_or_not e.stage 2) [
  | inl lt ↦ (let x : 0 ≡ 2 = ap form (eq ∙ when_old e lt) in absurd (omega (arith, x)))
  | inr le ↦ (let x : 0 ≡ 1 = ap form (eq ∙ when_copy e le) in absurd (omega (arith, x)))
]

-- no object is at null
pub not_null : (e : Entry) → Names e 0 → ⊥
not_null e (inl s) = absurd (omega (arith, s.1))
not_null e (inr s) = absurd (omega (arith, s.2))

-- the thread that has claimed the object and not sealed it
abbrev pub claimer : Entry → Option ℕ
claimer e = if e.owner == 0 then None else Some (e.owner - 1)

pub claimer_none : (e : Entry) → e.owner ≡ 0 → claimer e ≡ None
claimer_none e o = rw o refl

pub claimer_some : (e : Entry) (t : ℕ) → e.owner ≡ t + 1 → claimer e ≡ Some t
claimer_some e t o = let p : (e.owner == 0) ≡ false = grind (arith, common_steps) in let q : e.owner - 1 ≡ t = omega arith in rw (p, q) refl

abbrev told : Option ℕ → ℕ
told None = 0
told (Some t) = t + 1

claimed_owner : (e : Entry) (t : ℕ) → claimer e ≡ Some t → e.owner ≡ t + 1
claimed_owner e t eq = elim (same_or_not e.owner 0) [
  | inl z ↦ (let x : 0 ≡ t + 1 = sym (ap told (claimer_none e z)) ∙ ap told eq in absurd (omega (arith, x)))
  | inr nz ↦ (let x : e.owner - 1 + 1 ≡ t + 1 = sym (ap told (claimer_some e (e.owner - 1) (omega (arith, nz)))) ∙ ap told eq in omega (arith, x, nz))
]

-- who has claimed an object, by its entry and by the table
pub claims_is : (o : Option ℕ) (es : List Entry) (n : ℕ) → n < length es → o ≡ claimer (entry es n) → (t : ℕ) → (o ≡ Some t → IsClaimed es t n) × (IsClaimed es t n → o ≡ Some t)
claims_is o es n ln is t = (λ eq. (ln, claimed_owner (entry es n) t (sym is ∙ eq)), λ x. is ∙ claimer_some (entry es n) t x.1)

-- a head's parts
pub head_is : (shape slots : ℕ) (e : Entry) → e.shape < 2 ^ 32 → shape < 2 ^ 32 → head_of shape slots ≡ head_word e → (shape ≡ e.shape) × (slots ≡ e.slots)
head_is shape slots e a b eq = (omega (arith, a, b, eq), omega (arith, a, b, eq))

-- a word of a line, by its number in the image
pub spot_is : (m : Memory) (p line w : ℕ) → p ≡ 8 * line + w → w < 8 → shown m (p / 8) (p % 8) ≡ shown m line w
spot_is m p line w eq lt = let a : p / 8 ≡ line = omega (arith, eq, lt) in let b : p % 8 ≡ w = omega (arith, eq, lt) in
    ap (λ l. shown m l (p % 8)) a ∙ ap (λ x. shown m line x) b

pub by_index : (e : Entry) (r : Ref) (at : ℕ) → r ≡ Volatile at → Names e (reference_word r) → Names e (2 * at + 1)
by_index e r at is names = subst (λ x. Names e (reference_word x)) is names

pub by_line : (e : Entry) (r : Ref) (line : ℕ) → r ≡ Persistent line → Names e (reference_word r) → Names e (2 * line)
by_line e r line is names = subst (λ x. Names e (reference_word x)) is names

-- numbers are the same where those that they stand for are
pub same_is : (a b m n : ℕ) → a ≡ m → b ≡ n → (IsTrue (nat_eq a b) → m ≡ n) × (m ≡ n → IsTrue (nat_eq a b))
same_is a b m n x y = (λ t. let e : a ≡ b = grind (arith, common_steps) in sym x ∙ e ∙ y, λ e. let f : a ≡ b = x ∙ e ∙ sym y in grind (arith, common_steps))

pub if_ok : {T E : Type 0} (r : Result T E) (P Q : T → Type 0) → ((x : T) → P x → Q x) → IfOk r P → IfOk r Q
if_ok (Ok x) P Q f h = f x h
if_ok (Err e) P Q f h = h
