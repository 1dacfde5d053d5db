-- Written records are read back one after another.
use Rattle.std.proofs.Common.{◌≡◌, ℕ, zero, suc, ◌<◌, ◌≤◌, cond, List, [], ◌∷◌, length, drop, Ok, Err, refl, ap, ◌∙◌, arith}
use Rattle.fault.specs.declared.Fault.TheVariants.{TooMany}
use Rattle.format.proofs.Forth.{read_again, bytes_size}
use Rattle.format.specs.Records.{record_bytes, record_read, size, station_bytes}
use Rattle.format.specs.Sound.{FitsWidths, PlainFields}
use Rattle.std.proofs.lemmas.Bool.Decides.{nat_tests}
use Rattle.reader.proofs.Walking.{walk_over, walk_on, size_some}
use Rattle.reader.specs.Steps.{Standing, ordered, next_record, past}
use Rattle.reader.specs.Walks.{onward, walked, outset, records}
use Rattle.std.proofs.lemmas.List.{drop_at, length-append}
use Rattle.std.specs.List.{flat_map, AllByRecursion}
use Rattle.tables.specs.Kinds.{kind_of, rank}
use Rattle.tables.specs.Stations.{Station, empty, with_record, rows, Few}
use Rattle.tables.specs.declared.records.Record.{Record}
use Rattle.writer.proofs.Rebuilding.{ComesTo, rows_come}

-- there are no more records than bytes
pub fewer_records : (rs : List Record) → length rs ≤ length (flat_map record_bytes rs)
fewer_records [] = omega arith
fewer_records (r ∷ rs) =
    omega (arith, length-append (record_bytes r) (flat_map record_bytes rs), bytes_size r, size_some (kind_of r), fewer_records rs)

in_order : (at : Standing) (r : Record) → rank at.last ≤ rank (kind_of r) → ordered at (Ok r) ≡ Ok r
in_order at r h = grind (arith, nat_tests)

-- a walk over the bytes of records stores them all
pub walk_rows :
    (k : ℕ) (at : Standing) (s : Station) (rs : List Record) (whole : Station)
    → at.left ≡ flat_map record_bytes rs → length rs ≤ k → AllByRecursion FitsWidths rs → AllByRecursion PlainFields rs → ComesTo at.last s rs whole
    → walked k at s ≡ Ok whole
walk_rows k at s [] whole e h fits plain come = walk_over k at s (ap length e) ∙ ap Ok come
walk_rows zero at s (r ∷ rs) whole e h fits plain come = absurd (omega arith)
walk_rows (suc k) at s (r ∷ rs) whole e h fits plain come =
    let tail = flat_map record_bytes rs in
    let long = ap length e ∙ length-append (record_bytes r) tail in
    let some : 0 < length at.left = omega (arith, long, bytes_size r, size_some (kind_of r)) in
    let read : record_read at.left ≡ Ok r = ap record_read e ∙ read_again r fits.0 tail plain.0 in
    let next : next_record at ≡ Ok r = ap (ordered at) read ∙ in_order at r come.0 in
    let left : drop (size (kind_of r)) at.left ≡ tail = ap (drop (size (kind_of r))) e ∙ drop_at (record_bytes r) tail (size (kind_of r)) (bytes_size r) in
    walk_on k at s some
    ∙ ap (onward (walked k) at s) next
    ∙ ap (λ b. cond b (walked k (past at r) (with_record s r)) (Err (TooMany at.number))) come.1
    ∙ walk_rows k (past at r) (with_record s r) rs whole left (omega arith) fits.1 plain.1 come.2

-- the bytes of a station are read as that station
pub station_again : (s : Station) → Few s → AllByRecursion FitsWidths (rows s) → AllByRecursion PlainFields (rows s) → records (station_bytes s) ≡ Ok s
station_again s few fits plain =
    walk_rows (length (station_bytes s)) (outset (station_bytes s)) empty (rows s) s refl (fewer_records (rows s)) fits plain (rows_come s few)
