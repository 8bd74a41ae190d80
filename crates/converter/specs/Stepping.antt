-- One event of a thread's conversion.
use Rattle.std.specs.Prelude.{◌≡◌, ℕ, List, [], ◌∷◌, ◌++◌}
use Rattle.ap_base.specs.References.{reference_word}
use Rattle.ap_base.specs.declared.reference.Ref.TheVariants.{Persistent, Volatile}
use Rattle.run_types.specs.declared.key.Key.TheVariants.{Object, Class}
use Rattle.monitors.specs.declared.monitor.Monitor.{Monitor}
use Rattle.monitors.specs.Keys.{RefKey}
use Rattle.monitors.specs.Held.{rekeyed}
use Rattle.twin_forms.specs.Table.{Entry, entry}
use Rattle.convert_queue.specs.Queues.{place_of}
use Rattle.convert_words.specs.declared.step.ConvertStep.{ConvertStep}
use Rattle.convert_words.specs.declared.step.ConvertStep.TheVariants as step
use Rattle.convert_words.specs.Agreeing.{Is}
use Rattle.convert_words.specs.Scenes.{Scene}
use Rattle.convert_words.specs.Converting.{GoesOn, Converts, Fails}

-- ---- monitors

-- the words of the references whose monitors are held
abbrev pub key_words : RefKey → List ℕ
key_words (Object r) = reference_word r ∷ []
key_words (Class n) = []

abbrev pub keys_of : List Monitor → List ℕ
keys_of [] = []
keys_of (m ∷ ms) = key_words m.key ++ keys_of ms

-- the key of an object's monitor before its forward, and after it
abbrev pub old_key : Entry → RefKey
old_key e = Object (Volatile e.at)

abbrev pub new_key : Entry → RefKey
new_key e = Object (Persistent e.line)

-- A forward moves the monitor of its object to the new key, with owner and count. Every other step leaves all monitors.
abbrev pub Rekeys : ConvertStep → ℕ → Scene → List Entry → List Monitor → List Monitor → Type 0
Rekeys step.Forwarded t s es ms ms' = (n : ℕ) → Is s.queue es t (place_of s.queue t).0 n
    → ms' ≡ rekeyed ms (old_key (entry es n)) (new_key (entry es n))
Rekeys step.Claimed t s es ms ms' = ms' ≡ ms
Rekeys step.CopiedLine t s es ms ms' = ms' ≡ ms
Rekeys step.Repaired t s es ms ms' = ms' ≡ ms
Rekeys step.WroteBack t s es ms ms' = ms' ≡ ms
Rekeys step.Fenced t s es ms ms' = ms' ≡ ms
Rekeys step.Touched t s es ms ms' = ms' ≡ ms
Rekeys (step.Sealed set) t s es ms ms' = ms' ≡ ms
Rekeys (step.Wait u) t s es ms ms' = ms' ≡ ms
Rekeys (step.Full need left) t s es ms ms' = ms' ≡ ms

-- neither a forward nor a refusal for want of lines
abbrev pub IsOther : ConvertStep → Type 0
IsOther step.Forwarded = ⊥
IsOther (step.Full need left) = ⊥
IsOther step.Claimed = Unit {0}
IsOther step.CopiedLine = Unit {0}
IsOther step.Repaired = Unit {0}
IsOther step.WroteBack = Unit {0}
IsOther step.Fenced = Unit {0}
IsOther step.Touched = Unit {0}
IsOther (step.Sealed set) = Unit {0}
IsOther (step.Wait u) = Unit {0}

-- ---- events

-- The thread's place goes on, and then one step is made.
pub record Event (t : ℕ) (answer : ConvertStep) (s s' : Scene) (es : List Entry) (ms ms' : List Monitor) : Type 0 where
  pub at : Scene
  pub after : List Entry
  pub goes_on : GoesOn t s at es
  pub converts : Converts t answer at s' es after
  pub monitors : Rekeys answer t at es ms ms'
  -- a refusal comes before anything changes
  pub full : (need left : ℕ) → answer ≡ step.Full need left → at ≡ s

-- The thread's place goes on, and then a call of the image fails.
pub record FailedEvent (t : ℕ) (s s' : Scene) (es : List Entry) (ms ms' : List Monitor) : Type 0 where
  pub at : Scene
  pub goes_on : GoesOn t s at es
  pub fails : Fails at s' es
  pub monitors : ms' ≡ ms
