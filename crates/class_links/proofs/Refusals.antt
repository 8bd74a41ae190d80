-- Class files have one refusal at most, and none where they link, but for want of memory.
use Rattle.std.proofs.Common.{◌≡◌, List, rules}
use Rattle.std.specs.Prelude.{◌≢◌}
use Rattle.class_file.specs.declared.class.ClassFile.{ClassFile}
use Rattle.class_links.specs.declared.refusal.LinkRefusal.{LinkRefusal}
use Rattle.class_links.specs.declared.refusal.LinkRefusal.TheVariants.{OutOfMemory as NoMemory}
use Rattle.class_links.specs.Links.{Links, IsBroken}

pub link_unrefused : (files : List ClassFile) (refusal : LinkRefusal) → Links files → IsBroken files refusal → refusal ≡ NoMemory
link_unrefused files refusal links broken = search rules

pub one_refusal : (files : List ClassFile) (refusal other : LinkRefusal) → IsBroken files refusal → IsBroken files other
    → refusal ≢ NoMemory → other ≢ NoMemory → refusal ≡ other
one_refusal files refusal other broken also some others = search rules
