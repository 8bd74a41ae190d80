use Rattle.std.proofs.Common.{◌≡◌, ◌≤◌, arith}
use Rattle.std.proofs.lemmas.Result.{on_ok_weaker}
use Rattle.image_meaning.specs.Entries.{RootEntry}
use Rattle.image_compact.proofs.Plans.{spell_more}
use Rattle.image_compact.proofs.entry_words.EntryWords.add_root.Goals as goal

pub returns-then-self-from : goal.returns-then-self-from
returns-then-self-from c entries spell =
    spell_more entries (RootEntry c.args.name.now) c.args.self.now
    (record { words = c.args.self.now.words; need = c.saturating_add-self.result })
    c.root_length.result spell c.root_length.ensures (omega (arith, c.saturating_add-self.ensures))
    (λ few. absurd (omega (arith, few, c.if-self-from.true, c.from.ensures)))

pub returns : goal.returns
returns c entries spell =
    on_ok_weaker c.push_root.result
    (λ pushed. spell_more entries (RootEntry c.args.name.now) c.args.self.now
    (record { words = c.push_root.new.words; need = c.saturating_add-self.result })
    c.root_length.result spell c.root_length.ensures (omega (arith, c.saturating_add-self.ensures))
    (λ few. pushed))
    c.push_root.ensures
