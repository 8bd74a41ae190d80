-- The rows of the JVMS are read as the grammar says, by computation.
use Rattle.std.proofs.Common.{◌≡◌, Ok, refl}
use Rattle.parsing.specs.Results.{many_from}
use Rattle.code_form.specs.Spelling.{written}
use Rattle.code_form.specs.Reading.{code_of, placed_at, ins_at, operands_at, wide_at, widened_at, interface_at, new_array_at}
use Rattle.code_form.specs.Reading.{increment_at, table_at, lookup_at, case_at, target_at, signed_at, unsigned_at, form_of}
use Rattle.code_form.specs.Reading.{primitive_of, front_of}
use Rattle.code_form.specs.Rows.{AreCodes, AreRefused, loads, stores, arithmetic, jumps, objects, refusals, whole_bytes}
use Rattle.code_form.specs.Rows.{whole_code, whole_written}

pub loads_are_read : AreCodes loads
unfolding code_of placed_at ins_at operands_at wide_at widened_at interface_at new_array_at increment_at
    table_at lookup_at case_at many_from target_at signed_at unsigned_at form_of primitive_of front_of
loads_are_read = refl

pub stores_are_read : AreCodes stores
unfolding code_of placed_at ins_at operands_at wide_at widened_at interface_at new_array_at increment_at
    table_at lookup_at case_at many_from target_at signed_at unsigned_at form_of primitive_of front_of
stores_are_read = refl

pub arithmetic_is_read : AreCodes arithmetic
unfolding code_of placed_at ins_at operands_at wide_at widened_at interface_at new_array_at increment_at
    table_at lookup_at case_at many_from target_at signed_at unsigned_at form_of primitive_of front_of
arithmetic_is_read = refl

pub jumps_are_read : AreCodes jumps
unfolding code_of placed_at ins_at operands_at wide_at widened_at interface_at new_array_at increment_at
    table_at lookup_at case_at many_from target_at signed_at unsigned_at form_of primitive_of front_of
jumps_are_read = refl

pub objects_are_read : AreCodes objects
unfolding code_of placed_at ins_at operands_at wide_at widened_at interface_at new_array_at increment_at
    table_at lookup_at case_at many_from target_at signed_at unsigned_at form_of primitive_of front_of
objects_are_read = refl

pub each_is_refused : AreRefused refusals
unfolding code_of placed_at ins_at operands_at wide_at widened_at interface_at new_array_at increment_at
    table_at lookup_at case_at many_from target_at signed_at unsigned_at form_of primitive_of front_of
each_is_refused = refl

pub whole_is_read : code_of whole_bytes ≡ Ok whole_code
unfolding code_of placed_at ins_at operands_at wide_at widened_at interface_at new_array_at increment_at
    table_at lookup_at case_at many_from target_at signed_at unsigned_at form_of primitive_of front_of
whole_is_read = refl

pub whole_is_written : written whole_code ≡ whole_written
whole_is_written = refl
