use Rattle.std.proofs.Common.{◌≡◌, length, ap, ◌∙◌, arith, reverse, drop}
use Rattle.std.specs.List.{flat_map}
use Rattle.class_set.specs.Members.{own_layout, superclasses_in, supers_of}
use Rattle.class_set.proofs.Above.{supers_counted}
use Rattle.class_set.proofs.layouts.layout.Goals as goal

pub returns : goal.returns
returns c =
    let files = c.args.files.now in
    let last : c.loop-place.place ≡ 0 = omega arith in
    let chain = c.in_ok-chain.ensures
    ∙ ap (λ ss. superclasses_in ss (length ss) c.args.class) c.requires.supers
    ∙ ap (λ n. superclasses_in (supers_of files) n c.args.class) (supers_counted files) in
    c.loop-place.invariant
    ∙ ap (λ n. flat_map (own_layout files) (reverse (drop n c.in_ok-chain.chain.items))) last
    ∙ ap (λ ns. flat_map (own_layout files) (reverse ns)) chain
