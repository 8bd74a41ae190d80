use Rattle.std.proofs.Common.{◌∙◌, ap, ◌/◌, IsSome}
use Rattle.ap_base.specs.declared.reference.Ref.TheVariants.{Volatile}
use Rattle.one_space.specs.Layout.{number_in}
use Rattle.one_space.proofs.Laid.{length_is, count_small, some_is, number_at, some_at}
use Rattle.one_space.proofs.objects.OneSpaceObjects.length_of.Goals as goal

pub returns-in-Volatile-clause-length : goal.returns-in-Volatile-clause-length
returns-in-Volatile-clause-length c n e =
    ap (λ w. w / 4294967296) c.word.ensures.word
    ∙ length_is c.args.self.now.shapes c.args.self.now.space.words c.args.self.now.starts.items
    c.in-Volatile.at n (number_at c.args.self.now.space.words c.args.self.now.starts.items c.args.object
    c.in-Volatile.at n c.in-Volatile.is e)

pub returns-in-Volatile-clause-few : goal.returns-in-Volatile-clause-few
returns-in-Volatile-clause-few c =
    let some : IsSome (number_in c.args.self.now.space.words c.args.self.now.starts.items
    (Volatile c.in-Volatile.at)) = some_at c.args.self.now.space.words c.args.self.now.starts.items
    c.args.object c.in-Volatile.at c.in-Volatile.is c.requires.object in
    let h = some_is (number_in c.args.self.now.space.words c.args.self.now.starts.items
    (Volatile c.in-Volatile.at)) some in
    rw c.word.ensures.word (count_small c.args.self.now.shapes c.args.self.now.space.words
    c.args.self.now.starts.items c.in-Volatile.at h.0 c.args.self.now.laid h.1)
