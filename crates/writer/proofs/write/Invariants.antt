use Rattle.std.proofs.Common.{◌≡◌, ◌≤◌, length}
use Rattle.bounded.specs.Items.{items}
use Rattle.format.specs.Records.{record_bytes}
use Rattle.format.specs.Sound.{FitsWidths}
use Rattle.std.specs.List.{flat_map, AllByRecursion}
use Rattle.writer.proofs.write.Given as goal

-- the bytes of the records so far, as long as there is room for them, and their numbers fit
abbrev pub invariant-loop-record : goal.invariant-loop-record
invariant-loop-record l =
    record {
      bytes : length (flat_map record_bytes l.yielded) ≤ 4384 → items l.out ≡ flat_map record_bytes l.yielded;
      fits : AllByRecursion FitsWidths l.yielded;
    }
