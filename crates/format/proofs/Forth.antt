-- What is written is read as what was written.
use Rattle.std.proofs.Common.{◌≡◌, length, refl, arith}
use Rattle.std.proofs.lemmas.Int.{to_z-of_z}
use Rattle.std.proofs.lemmas.Bool.Decides.{nat_tests}
use Rattle.tables.specs.Kinds.{kind_of}
use Rattle.tables.specs.declared.records.Record.{Record}
use Rattle.tables.specs.declared.records.Record.TheVariants.{Communicator, Module, Mode, Task, Read, Write, Dependency, Switch}
use Rattle.format.specs.Promises.{ReadAgain}
use Rattle.format.specs.Records.{record_bytes, size}
use Rattle.format.specs.Sound.{FitsWidths}

pub read_again : (r : Record) → FitsWidths r → ReadAgain r
read_again (Communicator c) f rest p = grind (arith, nat_tests, to_z-of_z)
read_again (Module m) f rest p = grind (arith, nat_tests)
read_again (Mode m) f rest p = grind (arith, nat_tests)
read_again (Task t) f rest p = grind (arith, nat_tests)
read_again (Read r) f rest p = grind (arith, nat_tests)
read_again (Write w) f rest p = grind (arith, nat_tests)
read_again (Dependency d) f rest p = grind (arith, nat_tests)
read_again (Switch s) f rest p = grind (arith, nat_tests)

-- a record has as many bytes as its kind has
pub bytes_size : (r : Record) → length (record_bytes r) ≡ size (kind_of r)
bytes_size (Communicator c) = refl
bytes_size (Module m) = refl
bytes_size (Mode m) = refl
bytes_size (Task t) = refl
bytes_size (Read r) = refl
bytes_size (Write w) = refl
bytes_size (Dependency d) = refl
bytes_size (Switch s) = refl
