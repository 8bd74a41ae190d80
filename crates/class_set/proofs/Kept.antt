-- The files that are kept have counts within their ranges, and names of classes.
use Rattle.std.proofs.Common.{◌≤◌, true, false, List, [], ◌∷◌, length, arith, if◌then◌else◌}
use Rattle.std.specs.Prelude.{All}
use Rattle.std.proofs.lemmas.List.Elements.{All-filter}
use Rattle.class_file.specs.declared.class.ClassFile.{ClassFile}
use Rattle.class_file.specs.Classes.{CanBeRead}
use Rattle.class_file.specs.Fits.{Fits}
use Rattle.class_file.proofs.Spelled.{class_spelled}
use Rattle.class_links.specs.Kept.{is_kept, kept_files}
use Rattle.class_set.specs.Tables.{IsSmall}
use Rattle.class_set.proofs.Read.{name_plain}

small : (c : ClassFile) → CanBeRead c → IsSmall c
small c h =
    let fits : Fits c = (class_spelled h.bytes c h.are_bytes h.read).1 in
    record { fields = fits.field_count; methods = fits.method_count; named = name_plain c h }

pub all_small : (files : List ClassFile) → All CanBeRead files → All IsSmall files
all_small files h k d l = small _ (h k d l)

pub kept_readable : (files : List ClassFile) → All CanBeRead files → All CanBeRead (kept_files files)
kept_readable files h = All-filter is_kept CanBeRead files h

pub kept_small : (files : List ClassFile) → All CanBeRead files → All IsSmall (kept_files files)
kept_small files h = all_small (kept_files files) (kept_readable files h)

pub kept_fewer : (files : List ClassFile) → length (kept_files files) ≤ length files
kept_fewer [] = omega arith
kept_fewer (c ∷ cs) =
    elim (is_kept c) as (λ b. length (if b then c ∷ kept_files cs else kept_files cs) ≤ length (c ∷ cs))
    [ true ↦ omega (arith, kept_fewer cs) | false ↦ omega (arith, kept_fewer cs) ]
