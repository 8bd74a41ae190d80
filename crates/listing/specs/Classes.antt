-- The class files of a listing.
use Rattle.std.specs.Prelude.{ℕ, nat_lt, List, [], ◌∷◌, ◌++◌, Result, Ok, Err, if◌then◌else◌}
use Rattle.std.specs.List.{flat_map}
use Rattle.byteorder.specs.Endian.{big_bytes}
use Rattle.parsing.specs.Results.{◌>>=◌, placed}
use Rattle.class_file.specs.declared.class.ClassFile.{ClassFile}
use Rattle.class_file.specs.declared.refusal.ClassRefusal.{ClassRefusal}
use Rattle.class_file.specs.declared.refusal.ClassRefusal.TheVariants as refusal
use Rattle.class_file.specs.Classes.{class_in, head_bytes}
use Rattle.listing_lines.specs.declared.refusal.ListingFault.TheVariants.{Syntax}
use Rattle.listing_lines.specs.declared.lines.Line.{Line}
use Rattle.listing_lines.specs.declared.lines.Line.TheVariants as line
use Rattle.listing_lines.specs.Lines.{listing_lines}
use Rattle.listing.specs.declared.error.ListingError.{ListingError}
use Rattle.listing.specs.declared.error.ListingError.TheVariants as error
use Rattle.listing.specs.declared.classes.ClassBytes.{ClassBytes}
use Rattle.listing.specs.declared.members.Section.TheVariants as section
use Rattle.listing.specs.Pool.{Entries, free_index, with_text}
use Rattle.listing.specs.Structure.{at, next_number, structure}
use Rattle.listing.specs.Roots.{roots_from}
use Rattle.listing.specs.Members.{section_from}
use Rattle.listing.specs.Bodies.{bodies_from}

-- the line of the superclass, and its name
unfoldable pub super_from : (number : ℕ) → List Line → ℕ × List ℕ
super_from number [] = (number, [])
super_from number (line.Super name ∷ rest) = (number, name)
super_from number (other ∷ rest) = super_from (next_number number) rest

-- JVMS 4.1: magic, version and constant pool
abbrev pub front_bytes : Entries → List ℕ
front_bytes entries = head_bytes ++ big_bytes 2 (free_index entries) ++ flat_map (λ entry. entry) entries

-- a count and its items
abbrev pub listed : ℕ × List ℕ × Entries → List ℕ
listed found = big_bytes 2 found.0 ++ found.1

-- the bytes of a class, of which the line with this number is the first
unfoldable pub class_bytes : (number access : ℕ) → (name : List ℕ) → List Line → Result (List ℕ) ListingError
class_bytes number access name rest = do
  this ← placed (at number) (with_text 7 name [])
  super ← placed (at (super_from (next_number number) rest).0)
      (with_text 7 (super_from (next_number number) rest).1 this.1)
  interfaces ← section_from section.Interfaces (next_number number) 0 rest super.1
  fields ← section_from section.Fields (next_number number) 0 rest interfaces.2
  methods ← section_from section.Methods (next_number number) 0 rest fields.2
  Ok (front_bytes methods.2 ++ big_bytes 2 access ++ big_bytes 2 this.0 ++ big_bytes 2 super.0
      ++ listed interfaces ++ listed fields ++ listed methods ++ big_bytes 2 0)

-- the bytes of the classes of the lines from one with this number on
unfoldable pub files_from : (number : ℕ) → List Line → Result (List ClassBytes) ListingError
files_from number [] = Ok []
files_from number (line.Class access name ∷ rest) = do
  bytes ← class_bytes number access name rest
  others ← files_from (next_number number) rest
  Ok (record { line = number; bytes = bytes } ∷ others)
files_from number (other ∷ rest) = files_from (next_number number) rest

-- A class that the class file format refuses is bad at its first line.
abbrev pub refused : (number : ℕ) → ClassRefusal → ListingError
refused number refusal.OutOfMemory = error.OutOfMemory
refused number other = error.Fault number Syntax

-- the classes that their bytes are
unfoldable pub classes_in : List ClassBytes → Result (List ClassFile) ListingError
classes_in [] = Ok []
classes_in (file ∷ files) = do
  first ← placed (refused file.line) (class_in file.bytes)
  others ← classes_in files
  Ok (first ∷ others)

-- the fault of the lower line, the first of two at one line
abbrev pub lower : ListingError → ListingError → ListingError
lower (error.Fault m first) (error.Fault n second) =
    if nat_lt n m then error.Fault n second else error.Fault m first
lower first second = error.OutOfMemory

-- what two readings give together
abbrev pub both : {A : Type 0} → Result (Unit {0}) ListingError → Result A ListingError
    → Result A ListingError
both (Ok none) read = read
both (Err e) (Ok found) = Err e
both (Err e) (Err f) = Err (lower e f)

-- the first line that is bad whatever its class's constant pool has: by itself, where it stands, by a
-- root's name or in its method
unfoldable pub judged : List Line → Result (Unit {0}) ListingError
judged lines = both (structure lines) (both (roots_from 1 [] lines) (bodies_from 1 lines))

-- The class files of a listing, or its first bad line and why. What makes the bytes too large for a class
-- file is met in their order. A class is judged as a whole only where no line is bad.
unfoldable pub assembled : List ℕ → Result (List ClassFile) ListingError
assembled text = both (judged (listing_lines text)) (files_from 1 (listing_lines text)) >>= classes_in
