use Rattle.std.proofs.Common.{◌+◌, set, arith, sym, subst, refl, List, ℕ}
use Rattle.ap_base.specs.declared.reference.Ref.TheVariants.{Volatile}
use Rattle.shared_objects.specs.Changes.{StoresSlot}
use Rattle.one_space.specs.Layout.{AreKnown, IsLaid, full_shown, number_in}
use Rattle.one_space.proofs.Stored.{decoded, known_stored, known_test, stores_slot}
use Rattle.one_space.proofs.Laid.{slot_of}
use Rattle.one_space.proofs.Stores.{laid_stored}
use Rattle.one_space.proofs.space.OneSpace.put.Goals as goal

pub overflow_add-at-2 : goal.overflow_add-at-2
overflow_add-at-2 c =
    let h = c.args.self.now in
    let s = slot_of h.shapes h.space.words h.starts.items c.args.at c.args.index h.laid c.requires.slot in
    let inside = s.inside in let counted = s.counted in let few = h.few in
    omega (arith, inside, counted, few)

pub set-requires : goal.set-requires
set-requires c =
    let h = c.args.self.now in
    let s = slot_of h.shapes h.space.words h.starts.items c.args.at c.args.index h.laid c.requires.slot in
    let inside = s.inside in let counted = s.counted in
    record { taken = omega (arith, inside, counted) }

pub invariant_of-self-clause-laid : goal.invariant_of-self-clause-laid
invariant_of-self-clause-laid c =
    let h = c.args.self.now in
    let s = slot_of h.shapes h.space.words h.starts.items c.args.at c.args.index h.laid c.requires.slot in
    let is = decoded h.shapes h.space.words h.starts.items (Volatile c.args.at) c.args.at c.args.index
    c.args.item c.word_of_item.result refl c.requires.kind c.word_of_item.ensures.again in
    subst (λ (w : List ℕ). IsLaid h.shapes w h.starts.items) (sym c.set.ensures.words)
    (laid_stored h.shapes h.space.words h.starts.items c.args.at c.args.index h.laid s c.word_of_item.result
    c.args.item is
    (known_test (number_in h.space.words h.starts.items) c.args.item refl c.requires.known))

pub invariant_of-self-clause-known : goal.invariant_of-self-clause-known
invariant_of-self-clause-known c =
    let h = c.args.self.now in
    let s = slot_of h.shapes h.space.words h.starts.items c.args.at c.args.index h.laid c.requires.slot in
    subst (λ (w : List ℕ). AreKnown w h.starts.items h.statics.items) (sym c.set.ensures.words)
    (known_stored h.shapes h.space.words h.starts.items h.statics.items c.args.at c.args.index
    c.word_of_item.result h.laid s h.known)

pub returns-clause-stored : goal.returns-clause-stored
returns-clause-stored c =
    let h = c.args.self.now in
    let s = slot_of h.shapes h.space.words h.starts.items c.args.at c.args.index h.laid c.requires.slot in
    let is = decoded h.shapes h.space.words h.starts.items (Volatile c.args.at) c.args.at c.args.index
    c.args.item c.word_of_item.result refl c.requires.kind c.word_of_item.ensures.again in
    let before = full_shown h.shapes h.space.words h.starts.items h.statics.items h.space.left in
    subst (λ (w : List ℕ). StoresSlot (Volatile c.args.at) c.args.index c.args.item before
    (full_shown h.shapes w h.starts.items h.statics.items c.set.new.self.left)) (sym c.set.ensures.words)
    (subst (λ (l : ℕ). StoresSlot (Volatile c.args.at) c.args.index c.args.item before
    (full_shown h.shapes (set h.space.words (c.args.at + 3 + c.args.index) c.word_of_item.result)
    h.starts.items h.statics.items l)) (sym c.set.ensures.left)
    (stores_slot h.shapes h.space.words h.starts.items h.statics.items h.space.left (Volatile c.args.at)
    c.args.at c.args.index c.args.item c.word_of_item.result refl h.laid s is))
