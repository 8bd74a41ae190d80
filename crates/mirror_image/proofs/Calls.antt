-- What each way through a call leaves, for stops within it and behind it.
use Rattle.std.proofs.Common.{◌≡◌, inl, inr, ◌⊎◌, ◌<◌, ◌≤◌, ◌+◌, ◌-◌, ◌^◌, ℕ, List, Bool, true, false, Option, refl, ap, sym, subst, ◌∙◌, arith, min}
use Rattle.ap_base.specs.Causes.{next_count}
use Rattle.line_image.specs.Trace.{Trace, did}
use Rattle.line_image.specs.Told.{Told, IsCounted}
use Rattle.line_image.specs.declared.effect.Done.TheVariants.{Wrote, Fenced}
use Rattle.mirror_image.specs.declared.halves.Left.{Left}
use Rattle.mirror_image.specs.declared.halves.Left.TheVariants.{Both, First, Second}
use Rattle.mirror_image.specs.Joint.{told_from, ahead_by, joint, calls_by, most, is_label, top_is_label}
use Rattle.mirror_image.specs.Sound.{IsSoundBy, IsMarked, IsNotMarked, label_words, done_in}
use Rattle.mirror_image.specs.Calls.{IsSame, Did, MayHave}
use Rattle.mirror_image.specs.Safe.{IsSafe, AreLabelled, HasLabel, Includes}
use Rattle.mirror_image.proofs.Pushed.{ahead_did, ahead_first, ahead_marked, both_same, first_marked, first_pushed}
use Rattle.mirror_image.proofs.Steps.{sound_first}
use Rattle.mirror_image.proofs.Exits.{four_of, moved_same, sound_moved, top_marked, first_trace, sound_first_read}
use Rattle.mirror_image.proofs.Writes.{number_may, number_label, May, both_may, both_did, sound_both_did, first_did, sound_first_did, top_did}
use Rattle.mirror_image.proofs.Moves.{sound_both_read, sound_second_read, second_did, sound_second_did, number_m, m_top, moved_did, moved_made, sound_moved_did, lost_trace, left_first_trace, sound_left_first, label_may}
use Rattle.mirror_image.proofs.Fences.{moved_fence, fenced_did, sound_fenced_did}
use Rattle.mirror_image.proofs.Stages.{StagesIn, keeps_fence, keeps_label, keeps_write, includes_more, stages_none, stages_did, stages_may, stages_same, stages_last, StagesLabelled, labelled_none, labelled_may}
use Rattle.mirror_image.proofs.Stages.{label_marked as has_label_marked, label_may as has_label_may}
use Rattle.mirror_image.proofs.Safety.{Does, does_same, does_write, does_fence, ExitBy, weaker, both_dead, both_lives, first_exit, second_exit, includes_alike, dimmed}

pub sound_at : (ahead : ℕ) (a b : Told) (left left' : Left) (alive alive' : Bool) (less extra : ℕ) → left ≡ left' → alive ≡ alive'
    → IsSoundBy ahead a b left alive less extra → IsSoundBy ahead a b left' alive' less extra
sound_at ahead a b left left' alive alive' less extra is lives sound =
    subst (λ (x : Bool). IsSoundBy ahead a b left' x less extra) lives (subst (λ (x : Left). IsSoundBy ahead a b x alive less extra) is sound)

pub safe_at : (ahead : ℕ) (next : ℕ) (a b : Told) (left left' : Left) (alive alive' : Bool) (less extra : ℕ) → left ≡ left' → alive ≡ alive'
    → IsSafe (a.size - 1) next left alive a.trace b.trace (told_from ahead a b left less extra).trace
    → IsSafe (a.size - 1) next left' alive' a.trace b.trace (told_from ahead a b left' less extra).trace
safe_at ahead next a b left left' alive alive' less extra is lives safe =
    subst (λ (x : Bool). IsSafe (a.size - 1) next left' x a.trace b.trace (told_from ahead a b left' less extra).trace) lives
    (subst (λ (x : Left). IsSafe (a.size - 1) next x alive a.trace b.trace (told_from ahead a b x less extra).trace) is safe)

-- Both halves are used.
module _ (ahead : ℕ) (next : ℕ) (a b : Told) (left : Left) (alive : Bool) (less extra : ℕ)
    (is : left ≡ Both) (lives : alive ≡ true) (sound : IsSoundBy ahead a b left alive less extra)
    (safe : IsSafe (a.size - 1) next left alive a.trace b.trace (told_from ahead a b left less extra).trace)
    (counted_a : IsCounted a) where
  both_sound : IsSoundBy ahead a b Both true less extra
  both_sound = sound_at ahead a b left Both alive true less extra is lives sound

  both_safe : IsSafe (a.size - 1) next Both true a.trace b.trace (told_from ahead a b Both less extra).trace
  both_safe = safe_at ahead next a b left Both alive true less extra is lives safe

  both_four : 4 ≤ ahead
  both_four = four_of ahead a b Both true less extra both_sound

  abbrev mirror : Option Trace
  mirror = joint ahead (a.size - 1) Both a.calls a.trace b.trace

  in_a : Includes (a.size - 1) a.trace mirror
  in_a = both_safe.first refl

  in_b : Includes (a.size - 1) b.trace mirror
  in_b = both_safe.second refl

  label_a : HasLabel (a.size - 1) (next - 1) a.trace
  label_a = (both_safe.labels refl).first

  label_b : HasLabel (a.size - 1) (next - 1) b.trace
  label_b = (both_safe.labels refl).second

  up : (a' less' extra' : ℕ) → a' ≡ next_count a.calls → less' ≡ less → extra' ≡ extra → calls_by ahead a' less' extra' ≡ next_count (calls_by ahead a.calls less extra)
  up a' less' extra' calls is_less is_extra = omega (arith, calls, is_less, is_extra, (both_sound.both refl).none_less, (both_sound.both refl).none_extra, counted_a.fits)

  -- A mark of a half: the label, and its fence.
  marks : (z : ℕ) (o m p tn : Option Trace) (at fence : ℕ) → z ≡ a.size - 1 → m ≡ did Fenced fence (did (Wrote z (label_words next)) at p)
      → StagesIn (a.size - 1) o p tn → StagesIn (a.size - 1) o m tn
  marks z o m p tn at fence z_is m_is stages =
      stages_did (a.size - 1) fence Fenced o _ m tn (keeps_fence (a.size - 1) tn)
      (stages_did (a.size - 1) at (Wrote (a.size - 1) (label_words next)) o p _ tn (keeps_label (a.size - 1) (label_words next) tn) stages refl)
      (m_is ∙ ap (λ (z : ℕ). did Fenced fence (did (Wrote z (label_words next)) at p)) z_is)

  begins : (z made : ℕ) (o p tn : Option Trace) (half m : Told) → z ≡ a.size - 1 → IsNotMarked z next made half m → p ≡ half.trace
      → StagesIn (a.size - 1) o p tn → StagesIn (a.size - 1) o m.trace tn
  begins z made o p tn half m z_is unmarked p_is stages =
      stages_may (a.size - 1) (next_count half.calls) (Wrote (a.size - 1) (label_words next)) o half.trace m.trace tn (keeps_label (a.size - 1) (label_words next) tn)
      (subst (λ (x : Option Trace). StagesIn (a.size - 1) o x tn) p_is stages)
      (subst (λ (z : ℕ). (m.trace ≡ did (Wrote z (label_words next)) (next_count half.calls) half.trace) ⊎ (m.trace ≡ half.trace)) z_is unmarked.trace)

  marked_label : (z : ℕ) (m p : Option Trace) (at fence : ℕ) → z ≡ a.size - 1 → m ≡ did Fenced fence (did (Wrote z (label_words next)) at p) → HasLabel (a.size - 1) next m
  marked_label z m p at fence z_is m_is =
      subst (HasLabel (a.size - 1) next) (sym (m_is ∙ ap (λ (z : ℕ). did Fenced fence (did (Wrote z (label_words next)) at p)) z_is))
      (has_label_marked (a.size - 1) next at fence p)

  same_label : (g : ℕ) (o p : Option Trace) → p ≡ o → HasLabel (a.size - 1) g o → HasLabel (a.size - 1) g p
  same_label g o p same label = subst (HasLabel (a.size - 1) g) (sym same) label

  -- a read that the first half answers
  pub read_exit : (a' : Told) → a'.size ≡ a.size → a'.calls ≡ next_count a.calls → a'.trace ≡ a.trace
      → ExitBy ahead IsSame next a b left less extra a' b left alive less extra
  read_exit a' size calls trace =
      let mirror_same : joint ahead (a'.size - 1) Both a'.calls a'.trace b.trace ≡ mirror = rw (size, trace) (both_same ahead (a.size - 1) a'.calls a.calls a.trace b.trace) in
      rw (is, lives) (both_lives ahead next a b a' b Both less extra less extra mirror both_safe size IsSame (up a'.calls less extra calls refl refl)
      mirror_same
      (does_same (told_from ahead a b Both less extra) (told_from ahead a' b Both less extra) both_sound.so_far (up a'.calls less extra calls refl refl) mirror_same)
      (stages_same (a.size - 1) a.trace a.trace a'.trace mirror (stages_none (a.size - 1) a.trace mirror in_a) trace)
      (stages_none (a.size - 1) b.trace mirror in_b)
      (sound_both_read ahead a b a' Both true less extra refl refl both_sound counted_a size calls trace)
      (record { first = same_label (next - 1) a.trace a'.trace trace label_a; second = label_b }))

  -- the first half failed in a read, and the other wasn't marked
  pub read_lost_exit : (a' m : Told) (z made : ℕ) → a'.size ≡ a.size → a'.calls ≡ next_count a.calls → a'.trace ≡ a.trace
      → z ≡ a.size - 1 → IsNotMarked z next made b m
      → ExitBy ahead IsSame next a b left less extra a' m left false less extra
  read_lost_exit a' m z made size calls trace z_is unmarked =
      let mirror_same : joint ahead (a'.size - 1) Both a'.calls a'.trace m.trace ≡ mirror =
      rw (size, trace) (both_may ahead (a.size - 1) a'.calls a.calls (next_count b.calls) (Wrote z (label_words next)) a.trace b.trace m.trace unmarked.trace) in
      rw is (both_dead ahead next a b a' m Both less extra less extra mirror both_safe size IsSame (up a'.calls less extra calls refl refl)
      mirror_same
      (does_same (told_from ahead a b Both less extra) (told_from ahead a' m Both less extra) both_sound.so_far (up a'.calls less extra calls refl refl) mirror_same)
      (stages_same (a.size - 1) a.trace a.trace a'.trace mirror (stages_none (a.size - 1) a.trace mirror in_a) trace)
      (begins z made b.trace b.trace mirror b m z_is unmarked refl (stages_none (a.size - 1) b.trace mirror in_b))
      both_sound (rw size (both_sound.number ∙ sym (number_label (a.size - 1) z (next_count b.calls) (label_words next) Both b.trace m.trace unmarked.trace)))
      unmarked.size both_sound.few (inl refl) mirror_same (λ e. cc))

  -- the first half failed in a read, and the other was marked and asked
  module _ (a' m b' : Told) (z : ℕ) (counted_b : IsCounted b) (size : a'.size ≡ a.size) (calls : a'.calls ≡ next_count a.calls) (trace : a'.trace ≡ a.trace)
      (z_is : z ≡ a.size - 1) (marked : IsMarked z next b m) (b_size : b'.size ≡ m.size) (b_calls : b'.calls ≡ next_count m.calls) (b_trace : b'.trace ≡ m.trace) where
    read_same : joint ahead (a'.size - 1) Second a'.calls a'.trace b'.trace ≡ mirror
    read_same = ap (λ (p : Option Trace). joint ahead (a'.size - 1) Second a'.calls a'.trace p) b_trace
        ∙ moved_same ahead a b a' m Both true less extra z next refl refl both_sound size trace z_is marked

    read_stages : StagesIn (a.size - 1) b.trace b'.trace mirror
    read_stages = stages_same (a.size - 1) b.trace m.trace b'.trace mirror
        (marks z b.trace m.trace b.trace mirror (next_count b.calls) m.calls z_is marked.trace (stages_none (a.size - 1) b.trace mirror in_b)) b_trace

    read_labels : AreLabelled (a.size - 1) (next - 1) next a'.trace b'.trace
    read_labels = record {
      first = same_label (next - 1) a.trace a'.trace trace label_a;
      second = same_label next m.trace b'.trace b_trace (marked_label z m.trace b.trace (next_count b.calls) m.calls z_is marked.trace);
    }

    read_does : Does (told_from ahead a b Both less extra) (told_from ahead a' b' Second less extra) mirror
    read_does = does_same (told_from ahead a b Both less extra) (told_from ahead a' b' Second less extra) both_sound.so_far (up a'.calls less extra calls refl refl) read_same

    pub read_moved_exit : ExitBy ahead IsSame next a b left less extra a' b' Second alive less extra
    read_moved_exit = rw (is, lives) (both_lives ahead next a b a' b' Second less extra less extra mirror both_safe size IsSame (up a'.calls less extra calls refl refl) read_same read_does
        (stages_same (a.size - 1) a.trace a.trace a'.trace mirror (stages_none (a.size - 1) a.trace mirror in_a) trace)
        read_stages
        (sound_moved ahead a b a' m b' Both true less extra z next refl refl both_sound counted_a counted_b size trace calls z_is marked b_size b_trace b_calls)
        read_labels)

    pub read_moved_lost_exit : ExitBy ahead IsSame next a b left less extra a' b' Second false less extra
    read_moved_lost_exit = rw is (both_dead ahead next a b a' b' Second less extra less extra mirror both_safe size IsSame (up a'.calls less extra calls refl refl) read_same read_does
        (stages_same (a.size - 1) a.trace a.trace a'.trace mirror (stages_none (a.size - 1) a.trace mirror in_a) trace)
        read_stages both_sound (rw (size, b_trace, marked.trace, z_is) (both_sound.number ∙ sym (ahead_marked (a.size - 1) (next_count b.calls) m.calls (label_words next) b.trace)))
        (b_size ∙ marked.size) both_sound.few (inl refl) read_same (λ e. read_labels))

  -- a call that writes
  module _ (line : ℕ) (words : List ℕ) (apart : is_label (a.size - 1) (Wrote line words) ≡ false) where
    abbrev wrote : ℕ → Option Trace
    wrote n = did (Wrote line words) n mirror

    more : (n : ℕ) (o : Option Trace) → Includes (a.size - 1) o mirror → StagesIn (a.size - 1) o o (wrote n)
    more n o included = stages_none (a.size - 1) o (wrote n) (includes_more (a.size - 1) n line words o mirror included)

    makes : (n at : ℕ) (o p q : Option Trace) → StagesIn (a.size - 1) o p (wrote n) → May (Wrote line words) at p q → StagesIn (a.size - 1) o q (wrote n)
    makes n at o p q stages may = stages_may (a.size - 1) at (Wrote line words) o p q (wrote n) (keeps_write (a.size - 1) n line words mirror) stages may

    -- both halves made it
    pub write_exit : (a' b' : Told) → IsCounted b → a'.size ≡ a.size → a'.calls ≡ next_count a.calls → a'.trace ≡ did (Wrote line words) a'.calls a.trace
        → b'.size ≡ b.size → b'.calls ≡ next_count b.calls → b'.trace ≡ did (Wrote line words) b'.calls b.trace
        → ExitBy ahead (Did (Wrote line words)) next a b left less extra a' b' left alive less extra
    write_exit a' b' counted_b size calls a_trace b_size b_calls b_trace =
        let n = calls_by ahead a'.calls less extra in
        let mirror_did = both_did ahead a b a' b' Both true less extra b'.calls (Wrote line words) refl refl both_sound apart size a_trace (inl b_trace) in
        rw (is, lives) (both_lives ahead next a b a' b' Both less extra less extra (wrote n) both_safe size (Did (Wrote line words)) (up a'.calls less extra calls refl refl)
        mirror_did
        (does_write (told_from ahead a b Both less extra) (told_from ahead a' b' Both less extra) line words mirror_did)
        (makes n a'.calls a.trace a.trace a'.trace (more n a.trace in_a) (inl a_trace))
        (makes n b'.calls b.trace b.trace b'.trace (more n b.trace in_b) (inl b_trace))
        (sound_both_did ahead a b a' b' Both true less extra (Wrote line words) refl refl both_sound counted_a counted_b apart size calls a_trace b_size b_calls b_trace)
        (record {
          first = has_label_may (a.size - 1) (next - 1) a'.calls (Wrote line words) a.trace a'.trace apart (inl a_trace) label_a;
          second = has_label_may (a.size - 1) (next - 1) b'.calls (Wrote line words) b.trace b'.trace apart (inl b_trace) label_b;
        }))

    -- the first half failed and may have made it, and the other wasn't marked
    pub write_lost_exit : (a' m : Told) (z made : ℕ) → a'.size ≡ a.size → a'.calls ≡ next_count a.calls → May (Wrote line words) a'.calls a.trace a'.trace
        → z ≡ a.size - 1 → IsNotMarked z next made b m
        → ExitBy ahead (MayHave (Wrote line words)) next a b left less extra a' m left false less extra
    write_lost_exit a' m z made size calls (inl a_trace) z_is unmarked =
        let n = calls_by ahead a'.calls less extra in
        let mirror_is : joint ahead (a'.size - 1) Both a'.calls a'.trace m.trace ≡ wrote n =
        both_may ahead (a'.size - 1) a'.calls a'.calls (next_count b.calls) (Wrote z (label_words next)) a'.trace b.trace m.trace unmarked.trace
        ∙ both_did ahead a b a' b Both true less extra (next_count b.calls) (Wrote line words) refl refl both_sound apart size a_trace (inr refl) in
        rw is (both_dead ahead next a b a' m Both less extra less extra (wrote n) both_safe size (MayHave (Wrote line words)) (up a'.calls less extra calls refl refl)
        (inl mirror_is)
        (does_write (told_from ahead a b Both less extra) (told_from ahead a' m Both less extra) line words mirror_is)
        (makes n a'.calls a.trace a.trace a'.trace (more n a.trace in_a) (inl a_trace))
        (begins z made b.trace b.trace (wrote n) b m z_is unmarked refl (more n b.trace in_b))
        both_sound (rw size (both_sound.number ∙ sym (number_label (a.size - 1) z (next_count b.calls) (label_words next) Both b.trace m.trace unmarked.trace)))
        unmarked.size both_sound.few (inr (Wrote line words, refl)) mirror_is (λ e. cc))
    write_lost_exit a' m z made size calls (inr a_trace) z_is unmarked =
        weaker ahead IsSame (MayHave (Wrote line words)) next a b left less extra a' m left false less extra (λ n o p same. inr same)
        (read_lost_exit a' m z made size calls a_trace z_is unmarked)

    -- the first half failed and may have made it, the other was marked, and makes it
    module _ (a' m b' : Told) (z : ℕ) (counted_b : IsCounted b) (size : a'.size ≡ a.size) (calls : a'.calls ≡ next_count a.calls)
        (a_trace : May (Wrote line words) a'.calls a.trace a'.trace)
        (z_is : z ≡ a.size - 1) (marked : IsMarked z next b m) (b_size : b'.size ≡ m.size) (b_calls : b'.calls ≡ next_count m.calls) where
      write_labels : May (Wrote line words) b'.calls m.trace b'.trace → AreLabelled (a.size - 1) (next - 1) next a'.trace b'.trace
      write_labels b_trace = record {
        first = has_label_may (a.size - 1) (next - 1) a'.calls (Wrote line words) a.trace a'.trace apart a_trace label_a;
        second = has_label_may (a.size - 1) next b'.calls (Wrote line words) m.trace b'.trace apart b_trace
            (marked_label z m.trace b.trace (next_count b.calls) m.calls z_is marked.trace);
      }

      write_stages : (n : ℕ) → May (Wrote line words) b'.calls m.trace b'.trace → StagesIn (a.size - 1) b.trace b'.trace (wrote n)
      write_stages n b_trace = makes n b'.calls b.trace m.trace b'.trace
          (marks z b.trace m.trace b.trace (wrote n) (next_count b.calls) m.calls z_is marked.trace (more n b.trace in_b)) b_trace

      pub write_moved_exit : b'.trace ≡ did (Wrote line words) b'.calls m.trace → ExitBy ahead (Did (Wrote line words)) next a b left less extra a' b' Second alive less extra
      write_moved_exit b_trace =
          let n = calls_by ahead a'.calls less extra in
          rw (is, lives) (both_lives ahead next a b a' b' Second less extra less extra (wrote n) both_safe size (Did (Wrote line words)) (up a'.calls less extra calls refl refl)
          (moved_did ahead a b a' m Both true less extra z next (Wrote line words) refl refl both_sound counted_a counted_b apart size calls a_trace z_is marked b' b_calls b_trace)
          (does_write (told_from ahead a b Both less extra) (told_from ahead a' b' Second less extra) line words
          (moved_did ahead a b a' m Both true less extra z next (Wrote line words) refl refl both_sound counted_a counted_b apart size calls a_trace z_is marked b' b_calls b_trace))
          (makes n a'.calls a.trace a.trace a'.trace (more n a.trace in_a) a_trace)
          (write_stages n (inl b_trace))
          (sound_moved_did ahead a b a' m Both true less extra z next (Wrote line words) refl refl both_sound counted_a counted_b apart size calls a_trace z_is marked b' b_size b_calls b_trace)
          (write_labels (inl b_trace)))

      pub write_moved_lost_exit : May (Wrote line words) b'.calls m.trace b'.trace → ExitBy ahead (MayHave (Wrote line words)) next a b left less extra a' b' Second false less extra
      write_moved_lost_exit b_trace = by_made a_trace b_trace
        where
          moved_number : ahead ≡ ahead_by (a.size - 1) Second b'.trace
          moved_number = number_m ahead a b a' m Both true less extra z next (Wrote line words) refl refl both_sound counted_a counted_b apart size calls a_trace z_is marked
              ∙ sym (number_may (a.size - 1) b'.calls Second (Wrote line words) m.trace b'.trace
              (m_top ahead a b a' m Both true less extra z next (Wrote line words) refl refl both_sound counted_a counted_b apart size calls a_trace z_is marked) b_trace)

          writes : joint ahead (a'.size - 1) Second a'.calls a'.trace b'.trace ≡ wrote (calls_by ahead a'.calls less extra) → ExitBy ahead (MayHave (Wrote line words)) next a b left less extra a' b' Second false less extra
          writes mirror_is =
              let n = calls_by ahead a'.calls less extra in
              rw is (both_dead ahead next a b a' b' Second less extra less extra (wrote n) both_safe size (MayHave (Wrote line words)) (up a'.calls less extra calls refl refl)
              (inl mirror_is)
              (does_write (told_from ahead a b Both less extra) (told_from ahead a' b' Second less extra) line words mirror_is)
              (makes n a'.calls a.trace a.trace a'.trace (more n a.trace in_a) a_trace)
              (write_stages n b_trace) both_sound (rw size moved_number) (b_size ∙ marked.size) both_sound.few (inr (Wrote line words, refl)) mirror_is (λ e. write_labels b_trace))

          by_made : May (Wrote line words) a'.calls a.trace a'.trace → May (Wrote line words) b'.calls m.trace b'.trace
              → ExitBy ahead (MayHave (Wrote line words)) next a b left less extra a' b' Second false less extra
          by_made one (inl again) = writes (moved_did ahead a b a' m Both true less extra z next (Wrote line words) refl refl both_sound counted_a counted_b apart size calls a_trace z_is marked b' b_calls again)
          by_made (inl made) (inr none) = writes (ap (joint ahead (a'.size - 1) Second a'.calls a'.trace) none
              ∙ moved_made ahead a b a' m Both true less extra z next (Wrote line words) refl refl both_sound counted_a counted_b apart size calls a_trace z_is marked made)
          by_made (inr unmade) (inr none) = weaker ahead IsSame (MayHave (Wrote line words)) next a b left less extra a' b' Second false less extra (λ n o p same. inr same)
              (read_moved_lost_exit a' m b' z counted_b size calls unmade z_is marked b_size b_calls none)

    -- the first half made it, the other failed, and the first wasn't marked
    pub write_unmarked_exit : (a' b' m : Told) (z made at : ℕ) → b'.size ≡ b.size → a'.size ≡ a.size → a'.calls ≡ next_count a.calls → a'.trace ≡ did (Wrote line words) a'.calls a.trace
        → May (Wrote line words) at b.trace b'.trace → z ≡ a.size - 1 → IsNotMarked z next made a' m
        → ExitBy ahead (MayHave (Wrote line words)) next a b left less extra m b' left false made extra
    write_unmarked_exit a' b' m z made at b_size size calls a_trace b_trace z_is unmarked =
        let n = calls_by ahead m.calls made extra in
        let counted : n ≡ next_count (calls_by ahead a.calls less extra) =
        lost_numbers a.calls a'.calls m.calls made less extra both_four counted_a.fits (both_sound.both refl).none_less (both_sound.both refl).none_extra unmarked.range.1 calls unmarked.calls in
        let mirror_is = lost_trace ahead a b a' b' m Both true less extra z next made at (Wrote line words) refl refl both_sound counted_a apart size calls a_trace b_trace z_is unmarked in
        rw is (both_dead ahead next a b m b' Both less extra made extra (wrote n) both_safe (unmarked.size ∙ size) (MayHave (Wrote line words)) counted
        (inl mirror_is)
        (does_write (told_from ahead a b Both less extra) (told_from ahead m b' Both made extra) line words mirror_is)
        (begins z made a.trace a'.trace (wrote n) a' m z_is unmarked refl (makes n a'.calls a.trace a.trace a'.trace (more n a.trace in_a) (inl a_trace)))
        (makes n at b.trace b.trace b'.trace (more n b.trace in_b) b_trace)
        both_sound (rw (unmarked.size, size) (both_sound.number ∙ sym (number_label (a.size - 1) line at words Both b.trace b'.trace b_trace)))
        b_size unmarked.range.1 (inr (Wrote line words, refl)) mirror_is (λ e. cc))
      where
        lost_numbers : (n k m made less extra : ℕ) → 4 ≤ ahead → n < 2 ^ 64 → less ≡ 0 → extra ≡ 0 → made ≤ 2 → k ≡ next_count n → m ≡ min (k + made) most
            → calls_by ahead m made extra ≡ next_count (calls_by ahead n less extra)
        lost_numbers n k m made less extra two fits less_is extra_is few k_is m_is = omega (arith, two, fits, less_is, extra_is, few, k_is, m_is)

    -- the same, and the first was marked
    pub write_left_exit : (a' b' m : Told) (z at : ℕ) → a'.size ≡ a.size → a'.calls ≡ next_count a.calls → a'.trace ≡ did (Wrote line words) a'.calls a.trace
        → b'.size ≡ b.size → May (Wrote line words) at b.trace b'.trace → z ≡ a.size - 1 → IsMarked z next a' m
        → ExitBy ahead (Did (Wrote line words)) next a b left less extra m b' First alive 2 extra
    write_left_exit a' b' m z at size calls a_trace b_size b_trace z_is marked =
        let n = calls_by ahead m.calls 2 extra in
        let counted : n ≡ next_count (calls_by ahead a.calls less extra) =
        numbers a.calls a'.calls m.calls less extra both_four counted_a.fits (both_sound.both refl).none_less (both_sound.both refl).none_extra calls marked.calls in
        let mirror_is = left_first_trace ahead a b a' b' m Both true less extra z next at (Wrote line words) refl refl both_sound counted_a apart size calls a_trace b_trace z_is marked in
        rw (is, lives) (both_lives ahead next a b m b' First less extra 2 extra (wrote n) both_safe (marked.size ∙ size) (Did (Wrote line words)) counted
        mirror_is
        (does_write (told_from ahead a b Both less extra) (told_from ahead m b' First 2 extra) line words mirror_is)
        (marks z a.trace m.trace a'.trace (wrote n) (next_count a'.calls) m.calls z_is marked.trace (makes n a'.calls a.trace a.trace a'.trace (more n a.trace in_a) (inl a_trace)))
        (makes n at b.trace b.trace b'.trace (more n b.trace in_b) b_trace)
        (sound_left_first ahead a b a' b' m Both true less extra z next at (Wrote line words) refl refl both_sound counted_a apart size calls a_trace b_size b_trace z_is marked)
        (record {
          first = marked_label z m.trace a'.trace (next_count a'.calls) m.calls z_is marked.trace;
          second = has_label_may (a.size - 1) (next - 1) at (Wrote line words) b.trace b'.trace apart b_trace label_b;
        }))
      where
        numbers : (n k m less extra : ℕ) → 4 ≤ ahead → n < 2 ^ 64 → less ≡ 0 → extra ≡ 0 → k ≡ next_count n → m ≡ next_count (next_count k)
            → calls_by ahead m 2 extra ≡ next_count (calls_by ahead n less extra)
        numbers n k m less extra two fits less_is extra_is k_is m_is = omega (arith, two, fits, less_is, extra_is, k_is, m_is)

  -- A fence: the second half first.
  fences : (at : ℕ) (o p q : Option Trace) → StagesIn (a.size - 1) o p mirror → q ≡ did Fenced at p → StagesIn (a.size - 1) o q mirror
  fences at o p q stages is = stages_did (a.size - 1) at Fenced o p q mirror (keeps_fence (a.size - 1) mirror) stages is

  pub fence_exit : (a' b' : Told) → IsCounted b → a'.size ≡ a.size → a'.calls ≡ next_count a.calls → a'.trace ≡ did Fenced a'.calls a.trace
      → b'.size ≡ b.size → b'.calls ≡ next_count b.calls → b'.trace ≡ did Fenced b'.calls b.trace
      → ExitBy ahead (Did Fenced) next a b left less extra a' b' left alive less extra
  fence_exit a' b' counted_b size calls a_trace b_size b_calls b_trace =
      rw (is, lives) (both_lives ahead next a b a' b' Both less extra less extra mirror both_safe size (Did Fenced) (up a'.calls less extra calls refl refl)
      (both_did ahead a b a' b' Both true less extra b'.calls Fenced refl refl both_sound refl size a_trace (inl b_trace))
      (does_fence (told_from ahead a b Both less extra) (told_from ahead a' b' Both less extra) both_sound.so_far (up a'.calls less extra calls refl refl)
      (both_did ahead a b a' b' Both true less extra b'.calls Fenced refl refl both_sound refl size a_trace (inl b_trace)))
      (fences a'.calls a.trace a.trace a'.trace (stages_none (a.size - 1) a.trace mirror in_a) a_trace)
      (fences b'.calls b.trace b.trace b'.trace (stages_none (a.size - 1) b.trace mirror in_b) b_trace)
      (sound_both_did ahead a b a' b' Both true less extra Fenced refl refl both_sound counted_a counted_b refl size calls a_trace b_size b_calls b_trace)
      (record {
        first = has_label_may (a.size - 1) (next - 1) a'.calls Fenced a.trace a'.trace refl (inl a_trace) label_a;
        second = has_label_may (a.size - 1) (next - 1) b'.calls Fenced b.trace b'.trace refl (inl b_trace) label_b;
      }))

  -- the second half failed in it, and the first wasn't marked
  pub fence_unmarked_exit : (b' m : Told) (z made : ℕ) → b'.size ≡ b.size → b'.trace ≡ b.trace → z ≡ a.size - 1 → IsNotMarked z next made a m
      → ExitBy ahead IsSame next a b left less extra m b' left false made 1
  fence_unmarked_exit b' m z made b_size b_trace z_is unmarked =
      let label : May (Wrote (a.size - 1) (label_words next)) (next_count a.calls) a.trace m.trace =
      subst (λ (z : ℕ). May (Wrote z (label_words next)) (next_count a.calls) a.trace m.trace) z_is unmarked.trace in
      let mirror_same : joint ahead (m.size - 1) Both m.calls m.trace b'.trace ≡ mirror =
      rw (unmarked.size, b_trace) (label_may ahead (a.size - 1) m.calls (next_count a.calls) (label_words next) a.trace m.trace b.trace label
      ∙ both_same ahead (a.size - 1) m.calls a.calls a.trace b.trace) in
      let counted : calls_by ahead m.calls made 1 ≡ next_count (calls_by ahead a.calls less extra) =
      fence_numbers a.calls m.calls made less extra both_four counted_a.fits (both_sound.both refl).none_less (both_sound.both refl).none_extra unmarked.range.1 unmarked.calls in
      rw is (both_dead ahead next a b m b' Both less extra made 1 mirror both_safe unmarked.size IsSame counted
      mirror_same
      (does_same (told_from ahead a b Both less extra) (told_from ahead m b' Both made 1) both_sound.so_far counted mirror_same)
      (begins z made a.trace a.trace mirror a m z_is unmarked refl (stages_none (a.size - 1) a.trace mirror in_a))
      (stages_same (a.size - 1) b.trace b.trace b'.trace mirror (stages_none (a.size - 1) b.trace mirror in_b) b_trace)
      both_sound (rw (unmarked.size, b_trace) both_sound.number) b_size unmarked.range.1 (inl refl) mirror_same (λ e. cc))
    where
      fence_numbers : (n m made less extra : ℕ) → 4 ≤ ahead → n < 2 ^ 64 → less ≡ 0 → extra ≡ 0 → made ≤ 2 → m ≡ min (n + made) most
          → calls_by ahead m made 1 ≡ next_count (calls_by ahead n less extra)
      fence_numbers n m made less extra two fits less_is extra_is few m_is = omega (arith, two, fits, less_is, extra_is, few, m_is)

  -- the second half failed in it, the first was marked, and makes it
  module _ (b' m a' : Told) (z : ℕ) (b_size : b'.size ≡ b.size) (b_trace : b'.trace ≡ b.trace) (z_is : z ≡ a.size - 1) (marked : IsMarked z next a m)
      (size : a'.size ≡ m.size) (calls : a'.calls ≡ next_count m.calls) where
    left_same : (n : ℕ) → joint ahead (a.size - 1) First n m.trace b'.trace ≡ mirror
    left_same n =
        ap (λ (o : Option Trace). joint ahead (a.size - 1) First n o b'.trace) (marked.trace ∙ ap (λ (z : ℕ). did Fenced m.calls (did (Wrote z (label_words next)) (next_count a.calls) a.trace)) z_is)
        ∙ ap (λ (p : Option Trace). joint ahead (a.size - 1) First n (did Fenced m.calls (did (Wrote (a.size - 1) (label_words next)) (next_count a.calls) a.trace)) p) b_trace
        ∙ first_marked ahead (a.size - 1) n a.calls (next_count a.calls) m.calls (label_words next) a.trace b.trace

    left_size : a'.size ≡ a.size
    left_size = size ∙ marked.size

    left_numbers : (calls_by ahead a'.calls 2 extra ≡ next_count (calls_by ahead a.calls less extra)) × (min (a'.calls + (ahead - 2)) most ≡ calls_by ahead a'.calls 2 extra)
    left_numbers = numbers a.calls m.calls a'.calls less extra both_four counted_a.fits (both_sound.both refl).none_less (both_sound.both refl).none_extra marked.calls calls
      where
        numbers : (n m k less extra : ℕ) → 4 ≤ ahead → n < 2 ^ 64 → less ≡ 0 → extra ≡ 0 → m ≡ next_count (next_count n) → k ≡ next_count m
            → (calls_by ahead k 2 extra ≡ next_count (calls_by ahead n less extra)) × (min (k + (ahead - 2)) most ≡ calls_by ahead k 2 extra)
        numbers n m k less extra two fits less_is extra_is m_is k_is = (omega (arith, two, fits, less_is, extra_is, m_is, k_is), omega (arith, extra_is))

    left_stages : StagesIn (a.size - 1) a.trace m.trace mirror
    left_stages = marks z a.trace m.trace a.trace mirror (next_count a.calls) m.calls z_is marked.trace (stages_none (a.size - 1) a.trace mirror in_a)

    left_label : HasLabel (a.size - 1) next m.trace
    left_label = marked_label z m.trace a.trace (next_count a.calls) m.calls z_is marked.trace

    left_other : StagesIn (a.size - 1) b.trace b'.trace mirror
    left_other = stages_same (a.size - 1) b.trace b.trace b'.trace mirror (stages_none (a.size - 1) b.trace mirror in_b) b_trace

    left_top : top_is_label (a.size - 1) (done_in m.trace) ≡ false
    left_top = rw (marked.trace, z_is) (top_marked (a.size - 1) (next_count a.calls) m.calls (label_words next) a.trace)

    pub fence_left_did : a'.trace ≡ did Fenced a'.calls m.trace
        → joint ahead (a'.size - 1) First a'.calls a'.trace b'.trace ≡ did Fenced (calls_by ahead a'.calls 2 extra) mirror
    fence_left_did trace =
        ap (λ (n : ℕ). joint ahead (n - 1) First a'.calls a'.trace b'.trace) left_size
        ∙ ap (λ (o : Option Trace). joint ahead (a.size - 1) First a'.calls o b'.trace) trace
        ∙ first_pushed ahead (a.size - 1) a'.calls a'.calls a'.calls Fenced m.trace b'.trace left_top
        ∙ ap (λ (n : ℕ). did Fenced n (joint ahead (a.size - 1) First a'.calls m.trace b'.trace)) left_numbers.1
        ∙ ap (did Fenced (calls_by ahead a'.calls 2 extra)) (left_same a'.calls)

    left_number : ahead ≡ ahead_by (a'.size - 1) First b'.trace
    left_number = rw (left_size, b_trace) (both_sound.number ∙ sym (ahead_first (a.size - 1) b.trace))

    left_sound : a'.trace ≡ did Fenced a'.calls m.trace → IsSoundBy ahead a' b' First true 2 extra
    left_sound trace = sound_first ahead a b a' b' Both less extra 2 extra both_sound left_number left_size b_size
        (later (calls_by ahead a.calls less extra) (calls_by ahead a'.calls 2 extra) left_numbers.0 (most_calls a.calls less extra))
        (inr (Fenced, fence_left_did trace))
        (record {
          two_less = refl;
          none_extra = (both_sound.both refl).none_extra;
          top = rw (left_size, trace) (top_did (a.size - 1) a'.calls Fenced m.trace refl);
        })
      where
        later : (n k : ℕ) → k ≡ next_count n → n ≤ most → n ≤ k
        later n k is le = omega (arith, is, le)

        most_calls : (calls less extra : ℕ) → calls_by ahead calls less extra ≤ most
        most_calls calls less extra = omega arith

    pub fence_left_exit : a'.trace ≡ did Fenced a'.calls m.trace → ExitBy ahead (Did Fenced) next a b left less extra a' b' First alive 2 extra
    fence_left_exit trace =
        rw (is, lives) (both_lives ahead next a b a' b' First less extra 2 extra mirror both_safe left_size (Did Fenced) left_numbers.0
        (fence_left_did trace)
        (does_fence (told_from ahead a b Both less extra) (told_from ahead a' b' First 2 extra) both_sound.so_far left_numbers.0 (fence_left_did trace))
        (fences a'.calls a.trace m.trace a'.trace left_stages trace)
        left_other (left_sound trace)
        (record {
          first = has_label_may (a.size - 1) next a'.calls Fenced m.trace a'.trace refl (inl trace) left_label;
          second = same_label (next - 1) b.trace b'.trace b_trace label_b;
        }))

    pub fence_left_lost_exit : a'.trace ≡ m.trace → ExitBy ahead IsSame next a b left less extra a' b' First false 2 extra
    fence_left_lost_exit trace =
        let mirror_same : joint ahead (a'.size - 1) First a'.calls a'.trace b'.trace ≡ mirror =
        ap (λ (n : ℕ). joint ahead (n - 1) First a'.calls a'.trace b'.trace) left_size
        ∙ ap (λ (o : Option Trace). joint ahead (a.size - 1) First a'.calls o b'.trace) trace ∙ left_same a'.calls in
        rw is (both_dead ahead next a b a' b' First less extra 2 extra mirror both_safe left_size IsSame left_numbers.0
        mirror_same
        (does_same (told_from ahead a b Both less extra) (told_from ahead a' b' First 2 extra) both_sound.so_far left_numbers.0 mirror_same)
        (stages_same (a.size - 1) a.trace m.trace a'.trace mirror left_stages trace)
        left_other both_sound left_number b_size (omega arith) (inl refl) mirror_same
        (λ e. record {
          first = same_label next m.trace a'.trace trace left_label;
          second = same_label (next - 1) b.trace b'.trace b_trace label_b;
        }))

  -- the second half made it, and the first failed
  module _ (f a' : Told) (counted_f : IsCounted f) (counted_b : IsCounted b)
      (f_size : f.size ≡ b.size) (f_calls : f.calls ≡ next_count b.calls) (f_trace : f.trace ≡ did Fenced f.calls b.trace)
      (size : a'.size ≡ a.size) (calls : a'.calls ≡ next_count a.calls) (trace : a'.trace ≡ a.trace) where
    made_first : StagesIn (a.size - 1) a.trace a'.trace mirror
    made_first = stages_same (a.size - 1) a.trace a.trace a'.trace mirror (stages_none (a.size - 1) a.trace mirror in_a) trace

    made_second : StagesIn (a.size - 1) b.trace f.trace mirror
    made_second = fences f.calls b.trace b.trace f.trace (stages_none (a.size - 1) b.trace mirror in_b) f_trace

    made_number : ahead ≡ ahead_by (a.size - 1) Both f.trace
    made_number = rw f_trace (both_sound.number ∙ sym (ahead_did (a.size - 1) f.calls Both Fenced b.trace (both_sound.both refl).top_b))

    pub fence_lost_exit : (m : Told) (z made : ℕ) → z ≡ a.size - 1 → IsNotMarked z next made f m
        → ExitBy ahead IsSame next a b left less extra a' m left false less extra
    fence_lost_exit m z made z_is unmarked =
        let mirror_same : joint ahead (a'.size - 1) Both a'.calls a'.trace m.trace ≡ mirror =
        rw (size, trace) (both_may ahead (a.size - 1) a'.calls a'.calls (next_count f.calls) (Wrote z (label_words next)) a.trace f.trace m.trace unmarked.trace
        ∙ both_may ahead (a.size - 1) a'.calls a.calls f.calls Fenced a.trace b.trace f.trace (inl f_trace)) in
        rw is (both_dead ahead next a b a' m Both less extra less extra mirror both_safe size IsSame (up a'.calls less extra calls refl refl)
        mirror_same
        (does_same (told_from ahead a b Both less extra) (told_from ahead a' m Both less extra) both_sound.so_far (up a'.calls less extra calls refl refl) mirror_same)
        made_first (begins z made b.trace f.trace mirror f m z_is unmarked refl made_second)
        both_sound (rw size (made_number ∙ sym (number_label (a.size - 1) z (next_count f.calls) (label_words next) Both f.trace m.trace unmarked.trace)))
        (unmarked.size ∙ f_size) both_sound.few (inl refl) mirror_same (λ e. cc))

    module _ (m b' : Told) (z : ℕ) (z_is : z ≡ a.size - 1) (marked : IsMarked z next f m) (b_size : b'.size ≡ m.size) (b_calls : b'.calls ≡ next_count m.calls) where
      again_stages : StagesIn (a.size - 1) b.trace m.trace mirror
      again_stages = marks z b.trace m.trace f.trace mirror (next_count f.calls) m.calls z_is marked.trace made_second

      again_label : HasLabel (a.size - 1) next m.trace
      again_label = marked_label z m.trace f.trace (next_count f.calls) m.calls z_is marked.trace

      pub fence_moved_exit : b'.trace ≡ did Fenced b'.calls m.trace → ExitBy ahead (Did Fenced) next a b left less extra a' b' Second alive less extra
      fence_moved_exit b_trace =
          rw (is, lives) (both_lives ahead next a b a' b' Second less extra less extra mirror both_safe size (Did Fenced) (up a'.calls less extra calls refl refl)
          (fenced_did ahead a b f a' m Both true less extra z next Fenced refl refl both_sound counted_a counted_f f_size f_calls f_trace counted_b.fits refl size calls z_is marked trace b' b_calls b_trace)
          (does_fence (told_from ahead a b Both less extra) (told_from ahead a' b' Second less extra) both_sound.so_far (up a'.calls less extra calls refl refl)
          (fenced_did ahead a b f a' m Both true less extra z next Fenced refl refl both_sound counted_a counted_f f_size f_calls f_trace counted_b.fits refl size calls z_is marked trace b' b_calls b_trace))
          made_first (fences b'.calls b.trace m.trace b'.trace again_stages b_trace)
          (sound_fenced_did ahead a b f a' m Both true less extra z next Fenced refl refl both_sound counted_a counted_f f_size f_calls f_trace counted_b.fits refl size calls z_is marked trace b' b_size b_calls b_trace)
          (record {
            first = same_label (next - 1) a.trace a'.trace trace label_a;
            second = has_label_may (a.size - 1) next b'.calls Fenced m.trace b'.trace refl (inl b_trace) again_label;
          }))

      pub fence_moved_lost_exit : b'.trace ≡ m.trace → ExitBy ahead IsSame next a b left less extra a' b' Second false less extra
      fence_moved_lost_exit b_trace =
          let mirror_same : joint ahead (a'.size - 1) Second a'.calls a'.trace b'.trace ≡ mirror =
          ap (joint ahead (a'.size - 1) Second a'.calls a'.trace) b_trace ∙ moved_fence ahead a b f a' m Both true less extra z next refl refl both_sound f_trace size trace z_is marked in
          rw is (both_dead ahead next a b a' b' Second less extra less extra mirror both_safe size IsSame (up a'.calls less extra calls refl refl)
          mirror_same
          (does_same (told_from ahead a b Both less extra) (told_from ahead a' b' Second less extra) both_sound.so_far (up a'.calls less extra calls refl refl) mirror_same)
          made_first (stages_same (a.size - 1) b.trace m.trace b'.trace mirror again_stages b_trace)
          both_sound (rw (size, b_trace, marked.trace, z_is) (made_number ∙ sym (ahead_marked (a.size - 1) (next_count f.calls) m.calls (label_words next) f.trace)))
          (b_size ∙ marked.size ∙ f_size) both_sound.few (inl refl) mirror_same
          (λ e. record {
            first = same_label (next - 1) a.trace a'.trace trace label_a;
            second = same_label next m.trace b'.trace b_trace again_label;
          }))

-- The first half is used alone.
module _ (ahead : ℕ) (next : ℕ) (a b a' : Told) (left : Left) (alive alive' : Bool) (less extra : ℕ)
    (is : left ≡ First) (lives : alive ≡ true) (sound : IsSoundBy ahead a b left alive less extra)
    (safe : IsSafe (a.size - 1) next left alive a.trace b.trace (told_from ahead a b left less extra).trace)
    (counted_a : IsCounted a) (size : a'.size ≡ a.size) (calls : a'.calls ≡ next_count a.calls) where
  one_sound : IsSoundBy ahead a b First true less extra
  one_sound = sound_at ahead a b left First alive true less extra is lives sound

  one_safe : IsSafe (a.size - 1) next First true a.trace b.trace (told_from ahead a b First less extra).trace
  one_safe = safe_at ahead next a b left First alive true less extra is lives safe

  abbrev one_mirror : Option Trace
  one_mirror = joint ahead (a.size - 1) First a.calls a.trace b.trace

  one_in : Includes (a.size - 1) a.trace one_mirror
  one_in = one_safe.first refl

  one_label : HasLabel (a.size - 1) next a.trace
  one_label = (one_safe.labels refl).first

  one_up : calls_by ahead a'.calls less extra ≡ next_count (calls_by ahead a.calls less extra)
  one_up = numbers a.calls a'.calls less extra counted_a.fits (one_sound.first refl).two_less calls
    where
      numbers : (n k less extra : ℕ) → n < 2 ^ 64 → less ≡ 2 → k ≡ next_count n → calls_by ahead k less extra ≡ next_count (calls_by ahead n less extra)
      numbers n k less extra fits less_is k_is = omega (arith, fits, less_is, k_is)

  pub first_same_exit : a'.trace ≡ a.trace → ExitBy ahead IsSame next a b left less extra a' b left alive' less extra
  first_same_exit trace =
      rw is (first_exit ahead next a b a' b true alive' less extra less extra one_mirror IsSame one_safe size refl one_up (first_trace ahead a a' b size trace)
      (does_same (told_from ahead a b First less extra) (told_from ahead a' b First less extra) one_sound.so_far one_up (first_trace ahead a a' b size trace))
      (subst (StagesLabelled (a.size - 1) next a.trace) (sym trace) (labelled_none (a.size - 1) next a.trace one_label))
      (subst (HasLabel (a.size - 1) next) (sym trace) one_label)
      (stages_same (a.size - 1) a.trace a.trace a'.trace one_mirror (stages_none (a.size - 1) a.trace one_mirror one_in) trace)
      (dimmed ahead a' b First less extra (sound_first_read ahead a a' b First true less extra refl refl one_sound counted_a size trace calls) alive'))

  pub first_fence_exit : a'.trace ≡ did Fenced a'.calls a.trace → ExitBy ahead (Did Fenced) next a b left less extra a' b left alive' less extra
  first_fence_exit trace =
      rw is (first_exit ahead next a b a' b true alive' less extra less extra one_mirror (Did Fenced) one_safe size refl one_up
      (first_did ahead a b a' First true less extra Fenced refl refl one_sound size trace)
      (does_fence (told_from ahead a b First less extra) (told_from ahead a' b First less extra) one_sound.so_far one_up
      (first_did ahead a b a' First true less extra Fenced refl refl one_sound size trace))
      (labelled_may (a.size - 1) next a'.calls Fenced a.trace a'.trace refl (inl trace) one_label)
      (has_label_may (a.size - 1) next a'.calls Fenced a.trace a'.trace refl (inl trace) one_label)
      (stages_did (a.size - 1) a'.calls Fenced a.trace a.trace a'.trace one_mirror (keeps_fence (a.size - 1) one_mirror) (stages_none (a.size - 1) a.trace one_mirror one_in) trace)
      (dimmed ahead a' b First less extra (sound_first_did ahead a b a' First true less extra Fenced refl refl one_sound counted_a refl size calls trace) alive'))

  pub first_wrote_exit : (line : ℕ) (words : List ℕ) → is_label (a.size - 1) (Wrote line words) ≡ false → a'.trace ≡ did (Wrote line words) a'.calls a.trace
      → ExitBy ahead (Did (Wrote line words)) next a b left less extra a' b left alive' less extra
  first_wrote_exit line words apart trace =
      let n = calls_by ahead a'.calls less extra in
      let tn : Option Trace = did (Wrote line words) n one_mirror in
      rw is (first_exit ahead next a b a' b true alive' less extra less extra tn (Did (Wrote line words)) one_safe size refl one_up
      (first_did ahead a b a' First true less extra (Wrote line words) refl refl one_sound size trace)
      (does_write (told_from ahead a b First less extra) (told_from ahead a' b First less extra) line words
      (first_did ahead a b a' First true less extra (Wrote line words) refl refl one_sound size trace))
      (labelled_may (a.size - 1) next a'.calls (Wrote line words) a.trace a'.trace apart (inl trace) one_label)
      (has_label_may (a.size - 1) next a'.calls (Wrote line words) a.trace a'.trace apart (inl trace) one_label)
      (stages_did (a.size - 1) a'.calls (Wrote line words) a.trace a.trace a'.trace tn (keeps_write (a.size - 1) n line words one_mirror)
      (stages_none (a.size - 1) a.trace tn (includes_more (a.size - 1) n line words a.trace one_mirror one_in)) trace)
      (dimmed ahead a' b First less extra (sound_first_did ahead a b a' First true less extra (Wrote line words) refl refl one_sound counted_a apart size calls trace) alive'))

  pub first_write_exit : (line : ℕ) (words : List ℕ) → is_label (a.size - 1) (Wrote line words) ≡ false → May (Wrote line words) a'.calls a.trace a'.trace
      → ExitBy ahead (MayHave (Wrote line words)) next a b left less extra a' b left alive' less extra
  first_write_exit line words apart (inl trace) =
      weaker ahead (Did (Wrote line words)) (MayHave (Wrote line words)) next a b left less extra a' b left alive' less extra (λ n o p made. inl made)
      (first_wrote_exit line words apart trace)
  first_write_exit line words apart (inr trace) =
      weaker ahead IsSame (MayHave (Wrote line words)) next a b left less extra a' b left alive' less extra (λ n o p same. inr same) (first_same_exit trace)

-- The second half is used alone.
module _ (ahead : ℕ) (next : ℕ) (a b b' : Told) (left : Left) (alive : Bool) (less extra now : ℕ)
    (is : left ≡ Second) (lives : alive ≡ true) (sound : IsSoundBy ahead a b left alive less extra)
    (safe : IsSafe (a.size - 1) next left alive a.trace b.trace (told_from ahead a b left less extra).trace)
    (counted_b : IsCounted b) (now_is : now ≡ min (extra + 1) (2 ^ 64 - 1)) (size : b'.size ≡ b.size) (calls : b'.calls ≡ next_count b.calls) where
  other_sound : IsSoundBy ahead a b Second true less extra
  other_sound = sound_at ahead a b left Second alive true less extra is lives sound

  other_safe : IsSafe (a.size - 1) next Second true a.trace b.trace (told_from ahead a b Second less extra).trace
  other_safe = safe_at ahead next a b left Second alive true less extra is lives safe

  abbrev other_mirror : Option Trace
  other_mirror = joint ahead (a.size - 1) Second a.calls a.trace b.trace

  other_in : Includes (a.size - 1) b.trace other_mirror
  other_in = other_safe.second refl

  other_label : HasLabel (a.size - 1) next b.trace
  other_label = (other_safe.labels refl).second

  other_up : calls_by ahead a.calls less now ≡ next_count (calls_by ahead a.calls less extra)
  other_up = numbers a.calls less extra now now_is
    where
      numbers : (n less extra now : ℕ) → now ≡ min (extra + 1) (2 ^ 64 - 1) → calls_by ahead n less now ≡ next_count (calls_by ahead n less extra)
      numbers n less extra now is = omega (arith, is)

  pub second_same_exit : (alive' : Bool) → b'.trace ≡ b.trace → ExitBy ahead IsSame next a b left less extra a b' left alive' less now
  second_same_exit alive' trace =
      let mirror_same : joint ahead (a.size - 1) Second a.calls a.trace b'.trace ≡ other_mirror = ap (joint ahead (a.size - 1) Second a.calls a.trace) trace in
      rw is (second_exit ahead next a b b' true alive' less extra less now other_mirror IsSame other_safe other_up mirror_same
      (does_same (told_from ahead a b Second less extra) (told_from ahead a b' Second less now) other_sound.so_far other_up mirror_same)
      (subst (StagesLabelled (a.size - 1) next b.trace) (sym trace) (labelled_none (a.size - 1) next b.trace other_label))
      (subst (HasLabel (a.size - 1) next) (sym trace) other_label)
      (stages_same (a.size - 1) b.trace b.trace b'.trace other_mirror (stages_none (a.size - 1) b.trace other_mirror other_in) trace)
      (subst (λ (p : Option Trace). Includes (a.size - 1) p (joint ahead (a.size - 1) Second a.calls a.trace p)) (sym trace) other_in)
      (dimmed ahead a b' Second less now (sound_second_read ahead a b b' Second true less extra now refl refl other_sound counted_b now_is size calls trace) alive'))

  pub second_fence_exit : b'.trace ≡ did Fenced b'.calls b.trace → ExitBy ahead (Did Fenced) next a b left less extra a b' left alive less now
  second_fence_exit trace =
      let after = sound_second_did ahead a b b' Second true less extra now Fenced refl refl other_sound counted_b refl now_is size calls trace in
      rw (is, lives) (second_exit ahead next a b b' true true less extra less now other_mirror (Did Fenced) other_safe other_up
      (second_did ahead a b b' Second true less extra now Fenced refl refl other_sound counted_b refl now_is calls trace)
      (does_fence (told_from ahead a b Second less extra) (told_from ahead a b' Second less now) other_sound.so_far other_up
      (second_did ahead a b b' Second true less extra now Fenced refl refl other_sound counted_b refl now_is calls trace))
      (labelled_may (a.size - 1) next b'.calls Fenced b.trace b'.trace refl (inl trace) other_label)
      (has_label_may (a.size - 1) next b'.calls Fenced b.trace b'.trace refl (inl trace) other_label)
      (stages_did (a.size - 1) b'.calls Fenced b.trace b.trace b'.trace other_mirror (keeps_fence (a.size - 1) other_mirror) (stages_none (a.size - 1) b.trace other_mirror other_in) trace)
      (includes_alike (a.size - 1) b'.trace _ (after.second refl).reads) after)

  pub second_wrote_exit : (alive' : Bool) (line : ℕ) (words : List ℕ) → is_label (a.size - 1) (Wrote line words) ≡ false → b'.trace ≡ did (Wrote line words) b'.calls b.trace
      → ExitBy ahead (Did (Wrote line words)) next a b left less extra a b' left alive' less now
  second_wrote_exit alive' line words apart trace =
      let n = calls_by ahead a.calls less now in
      let tn : Option Trace = did (Wrote line words) n other_mirror in
      let mirror_did = second_did ahead a b b' Second true less extra now (Wrote line words) refl refl other_sound counted_b apart now_is calls trace in
      let stages = stages_did (a.size - 1) b'.calls (Wrote line words) b.trace b.trace b'.trace tn (keeps_write (a.size - 1) n line words other_mirror)
      (stages_none (a.size - 1) b.trace tn (includes_more (a.size - 1) n line words b.trace other_mirror other_in)) trace in
      rw is (second_exit ahead next a b b' true alive' less extra less now tn (Did (Wrote line words)) other_safe other_up mirror_did
      (does_write (told_from ahead a b Second less extra) (told_from ahead a b' Second less now) line words mirror_did)
      (labelled_may (a.size - 1) next b'.calls (Wrote line words) b.trace b'.trace apart (inl trace) other_label)
      (has_label_may (a.size - 1) next b'.calls (Wrote line words) b.trace b'.trace apart (inl trace) other_label)
      stages
      (subst (Includes (a.size - 1) b'.trace) (sym mirror_did) (stages_last (a.size - 1) b.trace b'.trace tn stages))
      (dimmed ahead a b' Second less now (sound_second_did ahead a b b' Second true less extra now (Wrote line words) refl refl other_sound counted_b apart now_is size calls trace) alive'))

  pub second_write_exit : (alive' : Bool) (line : ℕ) (words : List ℕ) → is_label (a.size - 1) (Wrote line words) ≡ false → May (Wrote line words) b'.calls b.trace b'.trace
      → ExitBy ahead (MayHave (Wrote line words)) next a b left less extra a b' left alive' less now
  second_write_exit alive' line words apart (inl trace) =
      weaker ahead (Did (Wrote line words)) (MayHave (Wrote line words)) next a b left less extra a b' left alive' less now (λ n o p made. inl made)
      (second_wrote_exit alive' line words apart trace)
  second_write_exit alive' line words apart (inr trace) =
      weaker ahead IsSame (MayHave (Wrote line words)) next a b left less extra a b' left alive' less now (λ n o p same. inr same) (second_same_exit alive' trace)
