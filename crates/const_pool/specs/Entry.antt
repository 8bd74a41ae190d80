-- What the entries of a constant pool are, and their bytes (JVMS 4.4).
use Rattle.std.specs.Prelude.{ℕ, ◌^◌, ◌<◌, ◌==◌, Bool, true, false, List, [], ◌∷◌, ◌++◌, length, Option, Some, None, FitsSigned}
use Rattle.std.specs.Prelude.{if◌then◌else◌}
use Rattle.std.specs.Int.{w32, w64, cast_unsigned}
use Rattle.byteorder.specs.Endian.{big_bytes}
use Rattle.parsing.specs.Bytes.{HasBytes}
use Rattle.const_pool.specs.declared.entry.Tag.{Tag}
use Rattle.const_pool.specs.declared.entry.Tag.TheVariants as tag
use Rattle.const_pool.specs.declared.entry.Member.{Member}
use Rattle.const_pool.specs.declared.entry.Entry.{Entry}
use Rattle.const_pool.specs.declared.entry.Entry.TheVariants as entry
use Rattle.const_pool.specs.Utf8.{IsModifiedUtf8}

-- the byte of each kind
abbrev pub tag_byte : Tag → ℕ
tag_byte tag.Utf8 = 1
tag_byte tag.Integer = 3
tag_byte tag.Float = 4
tag_byte tag.Long = 5
tag_byte tag.Double = 6
tag_byte tag.Class = 7
tag_byte tag.String = 8
tag_byte tag.Fieldref = 9
tag_byte tag.Methodref = 10
tag_byte tag.InterfaceMethodref = 11
tag_byte tag.NameAndType = 12
tag_byte tag.MethodHandle = 15
tag_byte tag.MethodType = 16
tag_byte tag.InvokeDynamic = 18

-- the kind with a byte
abbrev pub tag_with : ℕ → Option Tag
tag_with byte =
    if byte == 1 then Some tag.Utf8
    else (if byte == 3 then Some tag.Integer
    else (if byte == 4 then Some tag.Float
    else (if byte == 5 then Some tag.Long
    else (if byte == 6 then Some tag.Double
    else (if byte == 7 then Some tag.Class
    else (if byte == 8 then Some tag.String
    else (if byte == 9 then Some tag.Fieldref
    else (if byte == 10 then Some tag.Methodref
    else (if byte == 11 then Some tag.InterfaceMethodref
    else (if byte == 12 then Some tag.NameAndType
    else (if byte == 15 then Some tag.MethodHandle
    else (if byte == 16 then Some tag.MethodType
    else (if byte == 18 then Some tag.InvokeDynamic
    else None)))))))))))))

-- a Long and a Double take two indices
abbrev pub is_wide : Tag → Bool
is_wide tag.Long = true
is_wide tag.Double = true
is_wide _ = false

abbrev pub tag_of : Entry → Tag
tag_of (entry.Utf8 name) = tag.Utf8
tag_of (entry.Integer z) = tag.Integer
tag_of (entry.Float bits) = tag.Float
tag_of (entry.Long z) = tag.Long
tag_of (entry.Double bits) = tag.Double
tag_of (entry.Class name) = tag.Class
tag_of (entry.String text) = tag.String
tag_of (entry.Fieldref m) = tag.Fieldref
tag_of (entry.Methodref m) = tag.Methodref
tag_of (entry.InterfaceMethodref m) = tag.InterfaceMethodref
tag_of (entry.NameAndType name descriptor) = tag.NameAndType
tag_of (entry.MethodHandle bytes) = tag.MethodHandle
tag_of (entry.MethodType bytes) = tag.MethodType
tag_of (entry.InvokeDynamic bytes) = tag.InvokeDynamic

-- ---- an entry's bytes

abbrev pub index_bytes : ℕ → List ℕ
index_bytes i = big_bytes 2 i

abbrev pub member_bytes : Member → List ℕ
member_bytes m = index_bytes m.class ++ index_bytes m.name_and_type

-- the bytes after the tag
abbrev pub body_bytes : Entry → List ℕ
body_bytes (entry.Utf8 name) = big_bytes 2 (length name) ++ name
body_bytes (entry.Integer z) = big_bytes 4 (cast_unsigned w32 z)
body_bytes (entry.Float bits) = big_bytes 4 bits
body_bytes (entry.Long z) = big_bytes 8 (cast_unsigned w64 z)
body_bytes (entry.Double bits) = big_bytes 8 bits
body_bytes (entry.Class name) = index_bytes name
body_bytes (entry.String text) = index_bytes text
body_bytes (entry.Fieldref m) = member_bytes m
body_bytes (entry.Methodref m) = member_bytes m
body_bytes (entry.InterfaceMethodref m) = member_bytes m
body_bytes (entry.NameAndType name descriptor) = index_bytes name ++ index_bytes descriptor
body_bytes (entry.MethodHandle bytes) = bytes
body_bytes (entry.MethodType bytes) = bytes
body_bytes (entry.InvokeDynamic bytes) = bytes

abbrev pub entry_bytes : Entry → List ℕ
entry_bytes e = tag_byte (tag_of e) ∷ body_bytes e

-- ---- which entries have a spelling

abbrev pub IsIndex : ℕ → Type 0
IsIndex i = i < 2 ^ 16

abbrev pub AreIndices : Member → Type 0
AreIndices m = IsIndex m.class × IsIndex m.name_and_type

abbrev pub Fits : Entry → Type 0
Fits (entry.Utf8 name) = (length name < 2 ^ 16) × IsModifiedUtf8 name
Fits (entry.Integer z) = FitsSigned w32 z
Fits (entry.Float bits) = bits < 2 ^ 32
Fits (entry.Long z) = FitsSigned w64 z
Fits (entry.Double bits) = bits < 2 ^ 64
Fits (entry.Class name) = IsIndex name
Fits (entry.String text) = IsIndex text
Fits (entry.Fieldref m) = AreIndices m
Fits (entry.Methodref m) = AreIndices m
Fits (entry.InterfaceMethodref m) = AreIndices m
Fits (entry.NameAndType name descriptor) = IsIndex name × IsIndex descriptor
Fits (entry.MethodHandle bytes) = HasBytes 3 bytes
Fits (entry.MethodType bytes) = HasBytes 2 bytes
Fits (entry.InvokeDynamic bytes) = HasBytes 4 bytes

-- ---- what an entry names: each index with the kind of entry that must stand there, in order of fields

abbrev pub member_references : Member → List (ℕ × Tag)
member_references m = (m.class, tag.Class) ∷ (m.name_and_type, tag.NameAndType) ∷ []

abbrev pub references : Entry → List (ℕ × Tag)
references (entry.Class name) = (name, tag.Utf8) ∷ []
references (entry.String text) = (text, tag.Utf8) ∷ []
references (entry.Fieldref m) = member_references m
references (entry.Methodref m) = member_references m
references (entry.InterfaceMethodref m) = member_references m
references (entry.NameAndType name descriptor) = (name, tag.Utf8) ∷ (descriptor, tag.Utf8) ∷ []
references _ = []
