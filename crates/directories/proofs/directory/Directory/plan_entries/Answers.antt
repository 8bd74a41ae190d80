use Rattle.std.proofs.Common.{◌≡◌, ◌≤◌, ◌+◌, ◌++◌, None, List, map, length, refl, sym, ap, ◌∙◌, arith}
use Rattle.image_layout.specs.Places.{directory_words}
use Rattle.image_meaning.specs.Entries.{DirectoryEntry}
use Rattle.image_meaning.specs.Directories.{no_entries, spelled_all, with_all}
use Rattle.directories.specs.declared.entries.Entry.{Entry}
use Rattle.directories.specs.Read.{entry_of, the_directory}
use Rattle.directories.specs.Planning.{lacking, directory_of_kept, no_room}
use Rattle.directories.proofs.Continuing.{planned_continue, planned_few}
use Rattle.directories.proofs.Plans.{planned_left, room_within, planned_directory}
use Rattle.directories.proofs.directory.Directory.plan_entries.Goals as goal

pub spell_all-requires : goal.spell_all-requires
spell_all-requires c =
    let kept = c.args.self.now in
    let missing = c.in_ok-missing.missing.items in
    let all = c.append.new.self.items in
    let none : no_room kept (map entry_of missing) ≡ None =
    ap (λ (xs : List Entry). no_room kept (map entry_of xs)) (sym c.as_slice.ensures.value) ∙ sym c.in-None.ensures.full in
    let is : map entry_of all ≡ kept.left ++ map entry_of missing =
    planned_left c.in_ok-all.all.items missing all kept.left (map entry_of missing) c.in_ok-append.ensures.items
    c.in_ok-all.ensures refl in
    let fits : kept.used + length (spelled_all (map entry_of all)) ≤ directory_words =
    room_within kept (map entry_of missing) (map entry_of all) none c.in-None.ensures.within is in
    omega (arith, fits, ap (λ (xs : List Entry). length (spelled_all (map entry_of xs))) c.as_slice-3.ensures.value)

pub add_plan-requires-clause-room : goal.add_plan-requires-clause-room
add_plan-requires-clause-room c =
    let kept = c.args.self.now in
    let missing = c.in_ok-missing.missing.items in
    let all = c.append.new.self.items in
    let none : no_room kept (map entry_of missing) ≡ None =
    ap (λ (xs : List Entry). no_room kept (map entry_of xs)) (sym c.as_slice.ensures.value) ∙ sym c.in-None.ensures.full in
    let is : map entry_of all ≡ kept.left ++ map entry_of missing =
    planned_left c.in_ok-all.all.items missing all kept.left (map entry_of missing) c.in_ok-append.ensures.items
    c.in_ok-all.ensures refl in
    room_within kept (map entry_of missing) (map entry_of all) none c.in-None.ensures.within is

pub add_plan-requires-clause-few : goal.add_plan-requires-clause-few
add_plan-requires-clause-few c =
    let kept = c.args.self.now in
    let missing = c.in_ok-missing.missing.items in
    let all = c.append.new.self.items in
    let shapes = c.in_ok-shapes.shapes.items in
    let is : map entry_of all ≡ kept.left ++ map entry_of missing =
    planned_left c.in_ok-all.all.items missing all kept.left (map entry_of missing) c.in_ok-append.ensures.items
    c.in_ok-all.ensures refl in
    let names : the_directory shapes c.in_ok-shapes.roots.items ≡ with_all no_entries (map entry_of missing) =
    c.in_ok-shapes.ensures ∙ ap (λ (xs : List Entry). with_all no_entries (map entry_of xs)) c.as_slice-2.ensures.value in
    planned_few kept.left (map entry_of missing) (map entry_of all) shapes c.in_ok-shapes.roots.items is names

pub returns-clause-planned : goal.returns-clause-planned
returns-clause-planned c =
    let kept = c.args.self.now in
    let missing = c.in_ok-missing.missing.items in
    let lack = lacking (directory_of_kept kept) (map entry_of c.args.entries.now) in
    let plan = c.in_ok-add_plan.ensures in
    let names : the_directory c.in_ok-shapes.shapes.items c.in_ok-shapes.roots.items ≡ with_all no_entries lack =
    c.in_ok-shapes.ensures ∙ ap (λ (xs : List Entry). with_all no_entries (map entry_of xs)) c.as_slice-2.ensures.value
    ∙ ap (λ (xs : List DirectoryEntry). with_all no_entries xs) c.in_ok-missing.ensures in
    record {
      left = plan.left
          ∙ planned_left c.in_ok-all.all.items missing c.append.new.self.items kept.left lack c.in_ok-append.ensures.items
          c.in_ok-all.ensures c.in_ok-missing.ensures;
      directory = planned_directory kept c.add_plan.new.self lack c.in_ok-shapes.shapes.items c.in_ok-shapes.roots.items plan.shapes plan.roots names;
      used = plan.used;
      progress = plan.progress;
    }

pub returns-clause-continues : goal.returns-clause-continues
returns-clause-continues c =
    let kept = c.args.self.now in
    let new = c.add_plan.new.self in
    let missing = c.in_ok-missing.missing.items in
    let entries = map entry_of c.args.entries.now in
    let lack = lacking (directory_of_kept kept) entries in
    let plan = c.in_ok-add_plan.ensures in
    let names : the_directory c.in_ok-shapes.shapes.items c.in_ok-shapes.roots.items ≡ with_all no_entries lack =
    c.in_ok-shapes.ensures ∙ ap (λ (xs : List Entry). with_all no_entries (map entry_of xs)) c.as_slice-2.ensures.value
    ∙ ap (λ (xs : List DirectoryEntry). with_all no_entries xs) c.in_ok-missing.ensures in
    let none : no_room kept lack ≡ None =
    ap (λ (xs : List DirectoryEntry). no_room kept xs) (sym c.in_ok-missing.ensures)
    ∙ ap (λ (xs : List Entry). no_room kept (map entry_of xs)) (sym c.as_slice.ensures.value) ∙ sym c.in-None.ensures.full in
    λ had before. planned_continue had entries kept new before c.requires.can
    record {
      left = plan.left
          ∙ planned_left c.in_ok-all.all.items missing c.append.new.self.items kept.left lack c.in_ok-append.ensures.items
          c.in_ok-all.ensures c.in_ok-missing.ensures;
      directory = planned_directory kept new lack c.in_ok-shapes.shapes.items c.in_ok-shapes.roots.items plan.shapes plan.roots names;
      used = plan.used;
      progress = plan.progress;
    }
    none
