use Rattle.std.proofs.Common.{◌≡◌, ◌≤◌, arith}
use Rattle.std.proofs.lemmas.Result.{on_ok_weaker}
use Rattle.image_meaning.specs.Entries.{ShapeEntry}
use Rattle.image_compact.proofs.Plans.{spell_more}
use Rattle.image_compact.proofs.entry_words.EntryWords.add_shape.Goals as goal

pub returns-then-self-from : goal.returns-then-self-from
returns-then-self-from c entries spell =
    spell_more entries (ShapeEntry c.args.shape.now) c.args.self.now
    (record { words = c.args.self.now.words; need = c.saturating_add-self.result })
    c.shape_length.result spell c.shape_length.ensures (omega (arith, c.saturating_add-self.ensures))
    (λ few. absurd (omega (arith, few, c.if-self-from.true, c.from.ensures)))

pub returns : goal.returns
returns c entries spell =
    on_ok_weaker c.push_shape.result
    (λ pushed. spell_more entries (ShapeEntry c.args.shape.now) c.args.self.now
    (record { words = c.push_shape.new.words; need = c.saturating_add-self.result })
    c.shape_length.result spell c.shape_length.ensures (omega (arith, c.saturating_add-self.ensures))
    (λ few. pushed))
    c.push_shape.ensures
