use Rattle.first_spaces.specs.Spaces.{spaces_of}
use Rattle.first_spaces.proofs.Chars.{chars_more, chars_slot, chars_kind}
use Rattle.first_spaces.proofs.adding.put_chars.Goals as goal

pub put_char-requires-clause-slot : goal.put_char-requires-clause-slot
put_char-requires-clause-slot g c =
    chars_slot c.args.object c.loop-i.i c.args.chars.now (spaces_of c.args.spaces.now) (spaces_of
    c.loop-i.spaces)
    c.loop-i-test.true c.requires.slots c.loop-i.invariant.puts

pub put_char-requires-clause-kind : goal.put_char-requires-clause-kind
put_char-requires-clause-kind g c =
    chars_kind c.args.object c.loop-i.i c.args.chars.now (spaces_of c.args.spaces.now) (spaces_of
    c.loop-i.spaces)
    c.loop-i-test.true c.requires.slots c.requires.chars c.loop-i.invariant.puts

pub loop-i-preserved : goal.loop-i-preserved
loop-i-preserved g c = record {
  puts = chars_more c.args.object c.loop-i.i c.args.chars.now (spaces_of c.args.spaces.now) (spaces_of
      c.loop-i.spaces)
      (spaces_of c.put_char.new.spaces) c.loop-i-test.true c.requires.slots c.loop-i.invariant.puts
      c.put_char.ensures.stored c.put_char.ensures.spares c.put_char.ensures.table c.put_char.ensures.numbers;
  young = c.put_char.ensures.young;
}
