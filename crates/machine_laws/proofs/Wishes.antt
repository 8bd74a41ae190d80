-- What is wanted after one more act: what it reaches, what was asked, and what was wanted before.
use Rattle.std.proofs.Common.{◌≡◌, inl, inr, ℕ, List, [], ◌∷◌, ◌++◌, Option, Some, None, ◌∙◌, ap}
use Rattle.graph_model.specs.declared.types.Value.TheVariants.{Obj as Object}
use Rattle.graph_model.specs.Reach.{Refers, here, along}
use Rattle.run_history.specs.Recorded.{Recorded}
use Rattle.run_history.specs.Knowing.{Knowledge, Pending, pending_of, next_known, known_after}
use Rattle.run_history.specs.Wanted.{Wishes, WantsFor, WantsNow, WantsAfter}
use Rattle.plain_model.proofs.Appended.{wants_after-push}

-- ---- reach

abbrev pub AreClosed : Knowledge → Wishes → Type 0
AreClosed known Now = (u m n : ℕ) → Now u m → Refers known.world.heap m n → Now u n

closed-for : (known : Knowledge) (Before : Wishes) (u m n : ℕ) (p : Option Pending)
    → WantsFor known Before u p m → Refers known.world.heap m n → WantsFor known Before u p n
closed-for known Before u m n None wants refers = absurd wants
closed-for known Before u m n (Some p) wants refers = along m n wants refers

pub wants-closed : (known : Knowledge) (Now : Wishes) (acts : List Recorded) → AreClosed known Now
    → AreClosed (known_after known acts) (WantsAfter known Now acts)
wants-closed known Now [] closed = closed
wants-closed known Now (a ∷ acts) closed = wants-closed (next_known known a)
    (WantsNow (next_known known a) Now) acts
    (λ u m n wants refers. closed-for (next_known known a) Now u m n
    (pending_of (next_known known a).asked u) wants refers)

-- ---- what was asked

abbrev pub HaveAsked : Knowledge → Wishes → Type 0
HaveAsked known Now = (u n : ℕ) (p : Pending) → pending_of known.asked u ≡ Some p → p.value ≡ Object n
    → Now u n

asked-for : (known : Knowledge) (Before : Wishes) (u n : ℕ) (p : Pending) (o : Option Pending) → o ≡ Some p
    → p.value ≡ Object n → WantsFor known Before u o n
asked-for known Before u n p None is value = absurd (let no = is in cc)
asked-for known Before u n p (Some q) is value =
    let same : q ≡ p = cc in here n (inl (ap (λ (x : Pending). x.value) same ∙ value))

pub wants-asked : (known : Knowledge) (Now : Wishes) (acts : List Recorded) → HaveAsked known Now
    → HaveAsked (known_after known acts) (WantsAfter known Now acts)
wants-asked known Now [] has = has
wants-asked known Now (a ∷ acts) has = wants-asked (next_known known a) (WantsNow (next_known known a) Now)
    acts
    (λ u n p is value. asked-for (next_known known a) Now u n p (pending_of (next_known known a).asked u) is
    value)

-- ---- what was wanted

kept-for : (known : Knowledge) (Before : Wishes) (u n : ℕ) (p : Pending) (o : Option Pending) → o ≡ Some p
    → Before u n → WantsFor known Before u o n
kept-for known Before u n p None is wants = absurd (let no = is in cc)
kept-for known Before u n p (Some q) is wants = here n (inr wants)

-- What a thread wants it wants after one more act, while what it asked is pending.
pub wants-kept : (known : Knowledge) (Now : Wishes) (acts : List Recorded) (a : Recorded) (u n : ℕ)
    (p : Pending)
    → pending_of (next_known (known_after known acts) a).asked u ≡ Some p → WantsAfter known Now acts u n
    → WantsAfter known Now (acts ++ a ∷ []) u n
wants-kept known Now acts a u n p is wants = (wants_after-push known Now acts a u n).1
    (kept-for (next_known (known_after known acts) a) (WantsAfter known Now acts) u n p
    (pending_of (next_known (known_after known acts) a).asked u) is wants)
