use Rattle.std.proofs.Common.{◌≡◌, drop}
use Rattle.class_links.specs.Links.{with_code}
use Rattle.class_links.proofs.interfaces.first_with_code.Given as goal

abbrev pub invariant-loop-file : goal.invariant-loop-file
invariant-loop-file l = with_code l.files ≡ with_code (drop l.file-index l.files)
