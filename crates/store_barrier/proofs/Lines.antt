-- Lines of stores, and what the queues are told of them.
use Rattle.std.proofs.Common.{◌≡◌, inl, inr, ℕ, ◌+◌, ◌<◌, List, length, refl, sym, ◌∙◌, ap, subst, arith}
use Rattle.ap_base.specs.declared.reference.Ref.{Ref}
use Rattle.graph_model.specs.declared.types.Value.{Value}
use Rattle.run_history.specs.declared.act.Op.TheVariants.{Stored}
use Rattle.machine_forms.specs.Events.{NotesStore}
use Rattle.object_steps.specs.declared.storing.Store.{Store}
use Rattle.object_steps.specs.declared.storing.Target.{Target}
use Rattle.object_steps.specs.declared.storing.Target.TheVariants as target
use Rattle.object_steps.specs.Stores.{place_of}
use Rattle.twin_forms.specs.Table.{Entry, entry, View, HasCopied, InP, IsClaimed, line_of}
use Rattle.convert_queue.specs.Marks.{Mark, MayNote, clean, mark_at, stored, written}
use Rattle.convert_queue.specs.Queues.{Queues}
use Rattle.convert_words.specs.Agreeing.{IsTied, Keeps}
use Rattle.twin_forms.specs.Sights.{held_of, view_of, written_of}
use Rattle.convert_words.specs.Steps.{told}
use Rattle.machine_forms.specs.Passed.{Spaces}
use Rattle.store_barrier.specs.Barriers.{AgreesWith, IsDurablePlace}
use Rattle.store_barrier.proofs.Holders.{Held}

-- ---- what the queues are told

tied_notes : (v : View) (held : ℕ → ℕ → Type 0) (back kept : ℕ → Type 0) (t l : ℕ) (mark : Mark)
    → IsTied v held back kept t l mark → MayNote t mark
tied_notes v held back kept t l clean tied = tt
tied_notes v held back kept t l (stored u) tied = tied
tied_notes v held back kept t l (written u) tied = tied.0

pub line_within : (s : Spaces) (q : Queues) (a : AgreesWith s q) (holder : Ref) (n i line : ℕ)
    → Held s a.es holder n i → HasCopied (entry a.es n) (line_of i) → line ≡ (entry a.es n).line + line_of i
    → line < length q.marks
line_within s q a holder n i line h copied is =
    let long = a.agrees.sizes.marks in
    let placed : 0 < (entry a.es n).stage =
    elim copied [ inl m ↦ omega (arith, m) | inr p ↦ (let one = p.0 in omega (arith, one)) ] in
    let inside = (h.at.stands.lies.table.copy_in n h.at.below placed).1 in
    let slot = h.slot in
    omega (arith, long, inside, slot, is)

pub line_noted : (s : Spaces) (q : Queues) (a : AgreesWith s q) (holder : Ref) (n i line t : ℕ)
    → Held s a.es holder n i → HasCopied (entry a.es n) (line_of i) → line ≡ (entry a.es n).line + line_of i
    → IsClaimed a.es t n → MayNote t (mark_at q.marks line)
line_noted s q a holder n i line t h copied is claimed =
    let queued = a.agrees.queued.all t n claimed in
    let slot = h.slot in
    let tied = (a.agrees.on_way t queued.0 n queued.1).tied (line_of i) (omega (arith, slot)) copied in
    subst (λ l. MayNote t (mark_at q.marks l)) (sym is)
    (tied_notes (view_of s.twin) (held_of s.twin.memory) (written_of s.twin.memory)
    (Keeps (view_of s.twin) (entry a.es n)) t
    ((entry a.es n).line + line_of i) (mark_at q.marks ((entry a.es n).line + line_of i)) tied)

same_thread : (es : List Entry) (t u n : ℕ) → IsClaimed es t n → IsClaimed es u n → t ≡ u
same_thread es t u n a b = let x = a.1 in let y = b.1 in omega (arith, x, y)

pub notes_told : (store : Store) (value : Value) (es : List Entry) (holder : Ref) (n i line t : ℕ)
    (q q' : Queues)
    → store.target ≡ target.Slot holder n i → IsClaimed es t n → HasCopied (entry es n) (line_of i)
    → line ≡ (entry es n).line + line_of i → q' ≡ told q t line
    → NotesStore es (Stored (place_of store.target) value) q q'
notes_told store value es holder n i line t q q' is claimed copied line_is noted =
    subst (λ (x : Target). NotesStore es (Stored (place_of x) value) q q') (sym is) (
      (λ u other _. noted ∙ ap (told q t) line_is
          ∙ ap (λ x. told q x ((entry es n).line + line_of i)) (same_thread es t u n claimed other)),
      (λ none. absurd (none copied)),
    )

pub notes_none : (store : Store) (value : Value) (es : List Entry) (holder : Ref) (n i : ℕ) (q : Queues)
    → store.target ≡ target.Slot holder n i
    → ((u : ℕ) → IsClaimed es u n → HasCopied (entry es n) (line_of i) → ⊥)
    → NotesStore es (Stored (place_of store.target) value) q q
notes_none store value es holder n i q is none =
    subst (λ (x : Target). NotesStore es (Stored (place_of x) value) q q) (sym is) (
      (λ u claimed copied. absurd (none u claimed copied)),
      (λ _. refl),
    )

-- a durable object is claimed by nobody
pub claimed_outside : (s : Spaces) (store : Store) (es : List Entry) (holder : Ref) (n i t : ℕ)
    → store.target ≡ target.Slot holder n i → IsClaimed es t n
    → IsDurablePlace s es (place_of store.target) → ⊥
claimed_outside s store es holder n i t is claimed durable =
    let p : InP es n = subst (λ (x : Target). IsDurablePlace s es (place_of x)) is durable in
    let own = claimed.1 in let free = p.2 in omega (arith, own, free)
