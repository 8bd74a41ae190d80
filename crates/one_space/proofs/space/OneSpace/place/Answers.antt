use Rattle.std.proofs.Common.{◌≡◌, ◌+◌, ◌-◌, ◌*◌, ◌^◌, ◌<◌, ◌++◌, ◌∷◌, [], set, replicate, length, arith, sym, subst, refl, ℕ}
use Rattle.ap_base.specs.declared.reference.Ref.TheVariants.{Volatile}
use Rattle.shared_objects.specs.Changes.{Allocates}
use Rattle.one_space.specs.Layout.{AreKnown, IsLaid, full_shown, number_in}
use Rattle.one_space.proofs.Adds.{added_words, added_starts, keeps_added, laid_added}
use Rattle.one_space.proofs.Placed.{allocates, along}
use Rattle.one_space.proofs.Statics.{statics_keep}
use Rattle.one_space.proofs.space.OneSpace.place.Goals as goal

pub invariant_of-self-clause-laid : goal.invariant_of-self-clause-laid
invariant_of-self-clause-laid c =
    let h = c.args.self.now in
    let words : c.set-2.new.self.words ≡ set (set (h.space.words ++ replicate (3 + c.args.slots) 0)
    (length h.space.words + 1) (c.args.slots * 2 ^ 32 + c.args.shape)) (length h.space.words + 2)
    (length h.starts.items) = cc in
    let starts : c.push_reserved.new.self.items ≡ h.starts.items ++ length h.space.words ∷ [] = cc in
    let small : c.args.shape < 2 ^ 32 = omega arith in
    along (λ w s l. IsLaid h.shapes w s) {l = 0} {m = 0} words starts refl
    (laid_added h.shapes h.space.words h.starts.items h.laid c.args.shape c.args.slots small c.requires.shape
    c.requires.few)

pub invariant_of-self-clause-known : goal.invariant_of-self-clause-known
invariant_of-self-clause-known c =
    let h = c.args.self.now in
    let words : c.set-2.new.self.words ≡ set (set (h.space.words ++ replicate (3 + c.args.slots) 0)
    (length h.space.words + 1) (c.args.slots * 2 ^ 32 + c.args.shape)) (length h.space.words + 2)
    (length h.starts.items) = cc in
    let starts : c.push_reserved.new.self.items ≡ h.starts.items ++ length h.space.words ∷ [] = cc in
    let small : c.args.shape < 2 ^ 32 = omega arith in
    along (λ w s l. AreKnown w s h.statics.items) {l = 0} {m = 0} words starts refl
    (statics_keep (number_in h.space.words h.starts.items)
    (number_in (added_words h.shapes h.space.words h.starts.items h.laid c.args.shape c.args.slots small)
    (added_starts h.shapes h.space.words h.starts.items h.laid c.args.shape c.args.slots small))
    h.statics.items
    (keeps_added h.shapes h.space.words h.starts.items h.laid c.args.shape c.args.slots small) h.known)

pub returns-clause-made : goal.returns-clause-made
returns-clause-made c =
    let h = c.args.self.now in
    let words : c.set-2.new.self.words ≡ set (set (h.space.words ++ replicate (3 + c.args.slots) 0)
    (length h.space.words + 1) (c.args.slots * 2 ^ 32 + c.args.shape)) (length h.space.words + 2)
    (length h.starts.items) = cc in
    let starts : c.push_reserved.new.self.items ≡ h.starts.items ++ length h.space.words ∷ [] = cc in
    let left : c.set-2.new.self.left ≡ h.space.left - (3 + c.args.slots) = cc in
    let small : c.args.shape < 2 ^ 32 = omega arith in
    along (λ w s l. Allocates c.args.shape c.args.slots (Volatile c.taken_words-at.result)
    (full_shown h.shapes h.space.words h.starts.items h.statics.items h.space.left)
    (full_shown h.shapes w s h.statics.items l))
    words starts left
    (subst (λ (at : ℕ). Allocates c.args.shape c.args.slots (Volatile at)
    (full_shown h.shapes h.space.words h.starts.items h.statics.items h.space.left)
    (full_shown h.shapes (added_words h.shapes h.space.words h.starts.items h.laid c.args.shape c.args.slots
    small) (added_starts h.shapes h.space.words h.starts.items h.laid c.args.shape c.args.slots small)
    h.statics.items (h.space.left - (3 + c.args.slots))))
    (sym c.taken_words-at.ensures.index)
    (allocates h.shapes h.space.words h.starts.items h.statics.items h.space.left c.args.shape c.args.slots
    h.laid h.known small c.requires.slots))
