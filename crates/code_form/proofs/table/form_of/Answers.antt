use Rattle.std.proofs.Common.{arith, sym}
use Rattle.code_form.proofs.Forms.{form_within, form_past}
use Rattle.code_form.proofs.table.form_of.Goals as goal

pub returns-then-opcode-lt-OPCODES : goal.returns-then-opcode-lt-OPCODES
returns-then-opcode-lt-OPCODES c = form_within c.args.opcode (omega arith)

pub returns-else-opcode-lt-OPCODES : goal.returns-else-opcode-lt-OPCODES
returns-else-opcode-lt-OPCODES c = sym (form_past c.args.opcode (omega arith))
