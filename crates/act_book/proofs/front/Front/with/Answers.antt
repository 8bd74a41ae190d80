use Rattle.std.proofs.Common.{◌≡◌, length, sym, ◌∙◌, ap}
use Rattle.act_book.proofs.Adding.{adds_moves}
use Rattle.act_book.proofs.front.Front.with.Goals as goal

pub compare_exchange-found-requires : goal.compare_exchange-found-requires
compare_exchange-found-requires c =
    let h = c.head.invariant in
    let again = c.again-seen.ensures in
    let offer = c.plain-offer.ensures in
    let pen = c.no_pen-pen.ensures in
    let of : c.again-seen.result.book ≡ c.head.inside.word.book =
    ap (λ s. s.book) again ∙ ap (λ k. k.of) c.self.view_is ∙ sym c.requires.of ∙ sym c.head.view_is in
    let count : length c.again-seen.result.log ≡ c.self.inside.acts =
    ap (λ s. length s.log) again ∙ sym c.self.invariant in (
      ap (λ w. w.tracked) h,
      of,
      pen.0 ∙ of,
      offer.0,
      rw (ap (λ w. w.key) h, pen.1, offer.1, offer.3)
          (adds_moves c.again-seen.result.log c.args.heard.now c.self.inside.acts count),
    )
