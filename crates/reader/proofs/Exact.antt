-- Bytes that are read are the bytes that would be written.
use Rattle.std.proofs.Common.{◌≡◌, ℕ, zero, suc, ◌+◌, ◌<◌, ◌≤◌, cond, List, [], ◌++◌, length, drop, Ok, Err, Result, sym, refl, ap, ◌∙◌, subst, inl, inr, arith}
use Rattle.fault.specs.declared.Fault.{Fault}
use Rattle.fault.specs.declared.Fault.TheVariants.{TooMany}
use Rattle.format.proofs.Back.{Bytes, written_again}
use Rattle.format.specs.Promises as format
use Rattle.format.specs.Records.{record_bytes, record_read, size, station_bytes}
use Rattle.format.specs.Sound.{PlainFields}
use Rattle.format.specs.declared.Flaw.{Flaw}
use Rattle.std.proofs.ByRecursion.{All-push}
use Rattle.std.proofs.lemmas.List.{append_assoc, append-nil, get_or-drop, flat_map_more, length-drop, nil_from_length, take-append-drop}
use Rattle.std.proofs.lemmas.Bool.{cases_Bool, cases_lt}
use Rattle.std.proofs.lemmas.Bool.Decides.{leb_tells}
use Rattle.std.specs.List.{flat_map, AllByRecursion}
use Rattle.tables.proofs.Order.{UpTo, up_to_empty, up_to_with, rows_with}
use Rattle.tables.specs.Kinds.{kind_of, rank}
use Rattle.tables.specs.Stations.{Station, empty, has_room, with_record, rows}
use Rattle.tables.specs.declared.records.Kind.TheVariants.{Communicators}
use Rattle.tables.specs.declared.records.Record.{Record}
use Rattle.reader.proofs.Walking.{walk_over, walk_on, size_some}
use Rattle.reader.specs.Promises.{WrittenAgain}
use Rattle.reader.specs.Steps.{Standing, ordered, next_record, past}
use Rattle.reader.specs.Walks.{onward, walked, outset, records}

-- a record that was stored, and what the rest of the walk came to
abbrev Stored : (Standing → Station → Result Station Fault) → Standing → Station → Station → Result Record Fault → Type 0
Stored rest at s s' nr = (r : Record) × (nr ≡ Ok r) × (rest (past at r) (with_record s r) ≡ Ok s')

stored :
    (rest : Standing → Station → Result Station Fault) (at : Standing) (s s' : Station) (nr : Result Record Fault)
    → onward rest at s nr ≡ Ok s' → Stored rest at s s' nr
stored rest at s s' (Err f) e = absurd (cc)
stored rest at s s' (Ok r) e =
    elim (cases_Bool (has_room s r)) [
      | inl t ↦ (r, refl, sym (ap (λ b. cond b (rest (past at r) (with_record s r)) (Err (TooMany at.number))) t) ∙ e)
      | inr t ↦ absurd (cc)
    ]

-- a record in order, and what it was read from
in_order : (at : Standing) (rr : Result Record Flaw) (r : Record) → ordered at rr ≡ Ok r → (rr ≡ Ok r) × (rank at.last ≤ rank (kind_of r))
in_order at (Err f) r e = (cc, absurd (cc))
in_order at (Ok x) r e =
    elim (leb_tells (suc (rank (kind_of x))) (rank at.last)) [
      | inl h ↦ let t = h.0 in absurd (cc)
      | inr h ↦ let t = h.0 in let same : x ≡ r = cc in (cc, omega (arith, h.1, ap (λ y. rank (kind_of y)) same))
    ]

bytes_drop : (n : ℕ) (bs : List ℕ) → Bytes bs → Bytes (drop n bs)
bytes_drop n bs b i = subst (λ x. x < 256) (sym (get_or-drop n bs i 0)) (b (n + i))

-- one record more of a station's bytes
bytes_with : (at : Standing) (s : Station) (r : Record) → UpTo at.last s → rank at.last ≤ rank (kind_of r) → station_bytes (with_record s r) ≡ station_bytes s ++ record_bytes r
bytes_with at s r none h =
    ap (flat_map record_bytes) (rows_with at.last s r none h) ∙ sym (flat_map_more record_bytes [] (rows s) r)

-- what a walk came to has the bytes from before and all bytes left
abbrev HasBytes : Standing → Station → Station → Type 0
HasBytes at s s' = (station_bytes s' ≡ station_bytes s ++ at.left) × AllByRecursion PlainFields (rows s')

over_exact :
    (k : ℕ) (at : Standing) (s s' : Station) → walked k at s ≡ Ok s' → length at.left ≡ 0 → AllByRecursion PlainFields (rows s) → HasBytes at s s'
over_exact k at s s' e h plain =
    let over = walk_over k at s h in
    let same : s ≡ s' = cc in
    subst (HasBytes at s) same (sym (append-nil (station_bytes s)) ∙ ap (λ l. station_bytes s ++ l) (sym (nil_from_length at.left h)), plain)

pub walk_exact :
    (k : ℕ) (at : Standing) (s s' : Station)
    → walked k at s ≡ Ok s' → length at.left ≤ k → Bytes at.left → UpTo at.last s → AllByRecursion PlainFields (rows s) → HasBytes at s s'
walk_exact zero at s s' e h b none plain = over_exact zero at s s' e (omega arith) plain
walk_exact (suc k) at s s' e h b none plain =
    elim (cases_lt 0 (length at.left)) [
      | inr none ↦ over_exact (suc k) at s s' e (omega arith) plain
      | inl some ↦
          let on = walk_on k at s some in
          let more = stored (walked k) at s s' (next_record at) (sym on ∙ e) in
          let r = more.0 in
          let n = size (kind_of r) in
          let ord = in_order at (record_read at.left) r more.1 in
          let read = subst (format.WrittenAgain at.left) ord.0 (written_again at.left b) in
          let plain_with : AllByRecursion PlainFields (rows (with_record s r)) =
          subst (AllByRecursion PlainFields) (sym (rows_with at.last s r none ord.1)) (All-push PlainFields (rows s) r plain read.2) in
          let rest =
          walk_exact k (past at r) (with_record s r) s' more.2
          (omega (arith, h, length-drop n at.left, size_some (kind_of r)))
          (bytes_drop n at.left b)
          (up_to_with at.last s r none ord.1)
          plain_with in (
            rest.0
                ∙ ap (λ l. l ++ drop n at.left) (bytes_with at s r none ord.1)
                ∙ append_assoc (station_bytes s) (record_bytes r) (drop n at.left)
                ∙ ap (λ l. station_bytes s ++ l) (ap (λ l. l ++ drop n at.left) read.0 ∙ take-append-drop n at.left),
            rest.1,
          )
    ]

-- the same of the whole
pub records_exact : (bs : List ℕ) (r : Result Station Fault) → Bytes bs → records bs ≡ r → WrittenAgain bs r
records_exact bs (Err f) b e = tt
records_exact bs (Ok s) b e = walk_exact (length bs) (outset bs) empty s e (omega arith) b (up_to_empty Communicators) tt
