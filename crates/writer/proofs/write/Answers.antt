use Rattle.std.proofs.Common.{rules, ℕ, zero, suc, ◌+◌, [], ◌∷◌, drop, ◌≡◌, ◌≤◌, length, refl, List, tests, arith, ◌∙◌, sym, ap, subst, Option, None}
use Rattle.std.proofs.lemmas.List.{map-id, drop_more, drop_all}
use Rattle.std.proofs.lemmas.Option.{slice_get-get_or}
use Rattle.std.proofs.lemmas.Iterator.{YieldsList, YieldsList-from_range}
use Rattle.std.specs.Iterator.{Yields}
use Rattle.std.proofs.lemmas.Iterator.Consumers.{YieldsList-at, YieldsList-end, YieldsList-from_filter_map}
use Rattle.std.specs.List.{slice_get, filter_map, flat_map, range_with_len, AllByRecursion}
use Rattle.bounded.specs.Items.{items}
use Rattle.format.specs.Records.{station_bytes, record_bytes}
use Rattle.format.specs.Sound.{FitsWidths}
use Rattle.reader.specs.Walks.{records}
use Rattle.tables.specs.Stations.{station, rows}
use Rattle.tables.specs.declared.records.Record.{Record}
use Rattle.writer.proofs.Reading.{station_again}
use Rattle.writer.proofs.Room.{station_length}
use Rattle.writer.proofs.write.Goals as goal

each_from : (rs : List Record) (d : Record) (i n : ℕ) → i + n ≡ length rs → filter_map (slice_get rs) (range_with_len i n) ≡ drop i rs
each_from rs d i zero h = sym (drop_all i rs (omega arith))
each_from rs d i (suc n) h =
    let here = slice_get-get_or rs i d (omega arith) in
    let first = drop_more rs i d (omega arith) in
    let more = each_from rs d (i + 1) n (omega arith) in
    cc

-- the records by their numbers are the records
each : (rs : List Record) → filter_map (slice_get rs) (range_with_len 0 (length rs)) ≡ rs
each [] = refl
each (r ∷ rs) = each_from (r ∷ rs) r 0 (length (r ∷ rs)) (omega arith)

-- at the end of a loop all items have come
all_yielded :
    {S : Type 0} {steps : S → Option Record → S → Type 0} {xs rs : List Record} {from : S} (at over : S) (r : Option Record)
    → Yields steps from xs at → r ≡ None → steps at r over → YieldsList steps (λ x. x) from rs → xs ≡ rs
all_yielded {xs = xs} at over r y n t e = sym (map-id xs) ∙ (YieldsList-end e xs at y r over n t).0

pub returns : goal.returns
returns c =
    let s = station c.args.tables.now in
    let range = YieldsList-from_range 0 c.count.result (length (rows s)) c.filter_map-record-items.ensures.source (omega (arith, c.count.ensures.value)) in
    let all : c.loop-record.yielded ≡ rows s =
    all_yielded _ _ _ c.loop-record.yielded_by c.in-None.is c.next.ensures.steps
    (YieldsList-at c.into_iter-record-iterator.ensures.into_iter_gives
    (YieldsList-from_filter_map _ (slice_get (rows s)) range c.filter_map-record-items.ensures.closure (λ x r q k. search (rules, tests))))
    ∙ each (rows s) in
    let bytes : items c.loop-record.out ≡ station_bytes s =
    c.loop-record.invariant.bytes (subst (λ l. length (flat_map record_bytes l) ≤ 4384) (sym all) (station_length s c.count.ensures.few)) ∙ ap (flat_map record_bytes) all in
    record {
      bytes = bytes;
      again = λ plain. ap records bytes ∙ station_again s c.count.ensures.few (subst (AllByRecursion FitsWidths) all c.loop-record.invariant.fits) plain;
    }
