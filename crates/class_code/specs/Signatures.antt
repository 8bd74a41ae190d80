-- Signatures as texts, by which they are found.
use Rattle.std.specs.Prelude.{ℕ, List, [], ◌∷◌, ◌++◌, map}
use Rattle.std.specs.List.{flat_map}
use Rattle.class_file.specs.declared.class.ClassFile.{ClassFile}
use Rattle.class_code.specs.Entries.{Signature, signatures_of}

-- a byte of a name, told from the end of the name
abbrev pub marked : ℕ → List ℕ
marked byte = 1 ∷ byte ∷ []

-- The name and the descriptor as one text: no other two have the same.
abbrev pub text_of : Signature → List ℕ
text_of s = flat_map marked s.name ++ 0 ∷ s.descriptor

-- the texts of the signatures of files, by number
abbrev pub signature_texts : List ClassFile → List (List ℕ)
signature_texts files = map text_of (signatures_of files)
