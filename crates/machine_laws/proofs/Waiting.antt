-- Which threads wait for a fence, once one thread is about something else.
use Rattle.std.proofs.Common.{◌≡◌, ◌≢◌, inl, inr, ℕ, ◌<◌, true, false, List, length, refl, sym, ◌∙◌, ap, subst, nat_eq}
use Rattle.std.proofs.Common.{if◌then◌else◌}
use Rattle.std.specs.Prelude.{slice_index_or, slice_set}
use Rattle.std.proofs.lemmas.List.{get_or-set_same, get_or-set_other, get_or_past}
use Rattle.std.proofs.lemmas.Bool.{cases_Bool, cases_lt, true≢false, eqb-true, eq-eqb}
use Rattle.std.proofs.Math.Path.{fun_ext}
use Rattle.stop_theorem.specs.Choices.{Threads, NoThread, with_thread, without_thread}
use Rattle.machine_forms.specs.declared.doing.Doing.{Doing}
use Rattle.machine_forms.specs.declared.doing.Doing.TheVariants.{Nothing, Fencing}
use Rattle.machine_forms.specs.Machines.{is_fencing}

abbrev pub about : List Doing → ℕ → Doing
about ds t = slice_index_or ds t Nothing

abbrev pub waits_of : List Doing → Threads
waits_of ds t = is_fencing (about ds t)

own : (ds : List Doing) (t : ℕ) (d : Doing) → t < length ds → about (slice_set ds t d) t ≡ d
own ds t d lt = get_or-set_same ds t d Nothing lt

not_same : (t u : ℕ) → nat_eq u t ≡ false → u ≢ t
not_same t u d e = true≢false (sym (eq-eqb u t e) ∙ d)

other : (ds : List Doing) (t u : ℕ) (d : Doing) → nat_eq u t ≡ false
    → about (slice_set ds t d) u ≡ about ds u
other ds t u d differs = get_or-set_other ds t u d Nothing (not_same t u differs)

-- a fact of what each thread is about, by whether it is this thread
each_thread : (P : ℕ → Doing → Type 0) (ds : List Doing) (t : ℕ) (d : Doing) → t < length ds → P t d
    → ((u : ℕ) → nat_eq u t ≡ false → P u (about ds u)) → (u : ℕ) → P u (about (slice_set ds t d) u)
each_thread P ds t d lt mine others u = elim (cases_Bool (nat_eq u t)) [
  | inl e ↦ subst (λ k. P k (about (slice_set ds t d) k)) (sym (eqb-true u t e))
      (subst (P t) (sym (own ds t d lt)) mine)
  | inr e ↦ subst (P u) (sym (other ds t u d e)) (others u e)
]

pub waits_with : (ds : List Doing) (t : ℕ) → t < length ds
    → waits_of (slice_set ds t Fencing) ≡ with_thread t (waits_of ds)
waits_with ds t lt =
    fun_ext (each_thread (λ u d. is_fencing d ≡ with_thread t (waits_of ds) u) ds t Fencing lt
    (sym (ap (λ b. if b then true else waits_of ds t) (eq-eqb t t refl)))
    (λ u d. sym (ap (λ b. if b then true else waits_of ds u) d)))

pub waits_without : (ds : List Doing) (t : ℕ) → t < length ds
    → waits_of (slice_set ds t Nothing) ≡ without_thread t (waits_of ds)
waits_without ds t lt =
    fun_ext (each_thread (λ u d. is_fencing d ≡ without_thread t (waits_of ds) u) ds t Nothing lt
    (sym (ap (λ b. if b then false else waits_of ds t) (eq-eqb t t refl)))
    (λ u d. sym (ap (λ b. if b then false else waits_of ds u) d)))

pub waits_same : (ds : List Doing) (t : ℕ) (d : Doing) → t < length ds
    → is_fencing d ≡ is_fencing (about ds t) → waits_of (slice_set ds t d) ≡ waits_of ds
waits_same ds t d lt same = fun_ext (each_thread (λ u x. is_fencing x ≡ waits_of ds u) ds t d lt same
    (λ u e. refl))

-- a thread that is about something is one of the list
pub there : (ds : List Doing) (t : ℕ) → (about ds t ≡ Nothing → ⊥) → t < length ds
there ds t some = elim (cases_lt t (length ds)) [
  | inl lt ↦ lt
  | inr past ↦ absurd (some (get_or_past ds t Nothing past))
]

pub no_waits : (ds : List Doing) → ((t : ℕ) → is_fencing (about ds t) ≡ false) → waits_of ds ≡ NoThread
no_waits ds none = fun_ext none
