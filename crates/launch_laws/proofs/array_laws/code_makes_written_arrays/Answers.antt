use Rattle.launch_laws.proofs.Coded.{chars-written, code-makes}
use Rattle.launch_laws.proofs.array_laws.code_makes_written_arrays.Goals as goal

pub returns : goal.returns
returns g c =
    let laws = c.made_arrays_are_known.ensures in
    record {
      code = λ native_at set shape linked made. code-makes laws.makes native_at set shape linked made;
      chars = chars-written laws.makes laws.known laws.chars;
    }
