use Rattle.std.proofs.Common.{◌≡◌, ◌∙◌, Ok, arith, length, rules, subst, sym}
use Rattle.class_links.specs.Kept.{is_kept, kept_files}
use Rattle.listing.specs.Classes.{assembled}
use Rattle.workload.specs.Listings.{work_listing as listing_of}
use Rattle.workload.proofs.Whole.{whole}
use Rattle.workload.proofs.making.linked_classes.Goals as goal

pub returns-clause-listing : goal.returns-clause-listing
returns-clause-listing c =
    let kept : c.keep_files-kept.result.items ≡ kept_files c.in-Ok.classes.items = search rules in
    let same : length (kept_files c.in-Ok.classes.items) ≡ length c.in-Ok.classes.items = search (kept, rules, arith) in
    let all = whole is_kept c.in-Ok.classes.items same in
    let made : assembled (listing_of c.args.count) ≡ Ok c.in-Ok.classes.items = search rules in
    subst (λ classes. assembled (listing_of c.args.count) ≡ Ok classes) (sym (kept ∙ all)) made
