-- Whoever is waited for in a group has claimed an object, so it waits for a conversion itself, and is settled.
use Rattle.std.proofs.Common.{◌≡◌, ◌≢◌, inl, inr, ℕ, ◌+◌, ◌<◌, true, List, refl, sym, ◌∙◌, ap, subst, arith}
use Rattle.std.specs.Prelude.{slice_index, Option, Some}
use Rattle.std.proofs.lemmas.Bool.{cases_lt}
use Rattle.std.proofs.Math.ListN.{get_or-eq_default}
use Rattle.twin_forms.specs.Table.{Entry, entry, IsClaimed}
use Rattle.convert_queue.specs.declared.phase.Phase.{Phase}
use Rattle.convert_queue.specs.declared.phase.Phase.TheVariants.{Copy, Repair, Flush}
use Rattle.convert_queue.specs.Marks.{Mark, IsClean}
use Rattle.convert_queue.specs.Queues.{IsSettled, phase_of}
use Rattle.convert_queue.specs.Threads.{InGroup, has, needs_of}
use Rattle.convert_queue.specs.Threads.InGroup.{itself, needed}
use Rattle.convert_queue.proofs.Sets.{zero_has}
use Rattle.convert_words.specs.Scenes.{Scene, AgreesAt}
use Rattle.convert_words.specs.Converting.{GoesOn, Waits, WaitsFor}
use Rattle.converter.specs.Laws.{AreUnwritten}
use Rattle.convert_waits.specs.Waiting.{WaitsForForward, AllHold, ConversionsNeverStick, WaitsComeSettled}

-- a thread that needs another is one of the 64
pub needs-below : (s : Scene) (es : List Entry) → AgreesAt s es → (t u : ℕ) → needs_of s.queue.needs t u ≡ true → t < 64
needs-below s es agrees t u needs = elim (cases_lt t 64) [
  | inl below ↦ below
  | inr past ↦ absurd
      (let none : slice_index s.queue.needs t ≡ 0 = get_or-eq_default s.queue.needs 0
      (let long = agrees.sizes.needs in omega (arith, past, long)) in
      zero_has u (sym (ap (λ x. has x u) none) ∙ needs))
]

module _ (s : Scene) (es : List Entry) (on : ℕ → Option ℕ) (agrees : AgreesAt s es) (all : AllHold s es on) where
  none-behind : (u : ℕ) → WaitsForForward es u → ⊥
  none-behind u f =
      let waits = all.claimers u f.object f.claimed in
      let done : (entry es f.object).stage ≡ 2 = (all.each u waits.0 waits.1).forwarded f.object f.claimed in
      let behind = f.behind in omega (arith, done, behind)

  claimer-settled : (u n : ℕ) → IsClaimed es u n → IsSettled s.queue u
  claimer-settled u n claimed =
      let waits = all.claimers u n claimed in
      elim (all.each u waits.0 waits.1).why [
        | inl member ↦ member.settled
        | inr forward ↦ absurd (none-behind waits.0 forward)
      ]

  member-settled : (t u : ℕ) → u < 64 → IsSettled s.queue t → InGroup (needs_of s.queue.needs) t u → IsSettled s.queue u
  member-settled t u below settled itself = settled
  member-settled t u below settled (needed w v group needs) =
      let claimed = agrees.real w u (needs-below s es agrees w u needs) below needs in
      claimer-settled u claimed.0 claimed.1

  none-holds : (t u : ℕ) → on t ≡ Some u → ⊥
  none-holds t u is =
      let holds = all.each t u is in elim holds.why [
        | inl member ↦ member.unsettled (member-settled t u holds.below member.settled member.member)
        | inr forward ↦ none-behind u forward
      ]

pub conversions_never_stick : ConversionsNeverStick
conversions_never_stick s es on agrees all = none-holds s es on agrees all

module _ (s at : Scene) (es : List Entry) (t u n : ℕ) (unwritten : AreUnwritten s.queue es) (on : GoesOn t s at es)
    (waits : Waits at es t u) (claimed : IsClaimed es t n) (for : WaitsFor at t u) where
  clean : IsClean s.queue.marks t
  clean = subst (λ (ms : List Mark). IsClean ms t) on.marks for.settled.clean

  no-other : phase_of s.queue t ≢ Flush → ⊥
  no-other other =
      let done = waits.forwarded n claimed in
      clean.written ((entry es n).line + 0) (unwritten t n 0 claimed other (omega arith) (inl (omega (arith, done))))

  in-flush : (p : Phase) → phase_of s.queue t ≡ p → phase_of s.queue t ≡ Flush
  in-flush Flush is = is
  in-flush Copy is = absurd (no-other (λ e. let no : Copy ≡ Flush = sym is ∙ e in cc))
  in-flush Repair is = absurd (no-other (λ e. let no : Repair ≡ Flush = sym is ∙ e in cc))

  settled : IsSettled s.queue t
  settled = record { phase = in-flush (phase_of s.queue t) refl; clean = clean }

pub waits_come_settled : WaitsComeSettled
waits_come_settled s at es t u n unwritten on waits claimed = elim waits.why [
  | inl for ↦ inl (settled s at es t u n unwritten on waits claimed for)
  | inr lacks ↦ inr lacks
]
