-- What is read is what would be written.
use Rattle.std.proofs.Common.{◌≡◌, ℕ, suc, ◌+◌, ◌*◌, ◌^◌, ◌<◌, ◌≤◌, Bool, true, false, cond, ltb, List, [], ◌∷◌, ◌++◌, map, length, get_or, take, drop, Some, None, Err, Ok, Option, Result, refl, inl, inr, arith, w32, SFits, to_z}
use mir.ValLaws.{to_z-Fits}
use Rattle.std.proofs.lemmas.Int.{of_z-to_z}
use Rattle.std.specs.List.{find, range_with_len}
use Rattle.std.specs.Option.{ok_or}
use Rattle.std.proofs.lemmas.Bool.Decides.{nat_tests, leb_tells, Decides-eqb}
use Rattle.std.proofs.lemmas.List.{get_or-take, length-take}
use Rattle.std.proofs.lemmas.List.FromFn.{fill_by_all}
use Rattle.std.proofs.lemmas.Slice.Eq.{starts_is}
use Rattle.tables.specs.declared.records.Kind.{Kind}
use Rattle.tables.specs.declared.records.Kind.TheVariants.{Communicators, Modules, Modes, Tasks, Reads, Writes, Dependencies, Switches}
use Rattle.format.specs.Numbers.{word_bytes}
use Rattle.format.specs.Promises.{WrittenAgain}
use Rattle.format.specs.Records.{mark, size, marked, kinds, kind_read, fields_read, whole_read, record_read}
use Rattle.format.specs.declared.Flaw.{Flaw}
use Rattle.format.specs.declared.Flaw.TheVariants.{UnknownMark, Cut}

-- each item is a byte
abbrev pub Bytes : List ℕ → Type 0
Bytes bs = (i : ℕ) → get_or bs i 0 < 256

-- the first items, one by one
pub take_firsts : (n : ℕ) (bs : List ℕ) → n ≤ length bs → take n bs ≡ map (λ k. get_or bs k 0) (range_with_len 0 n)
take_firsts n bs h = fill_by_all (λ k. get_or bs k 0) (take n bs) n 0 (omega (arith, length-take n bs)) (λ k s. get_or-take n bs k 0 s)

-- the two letters of a mark
pub letters : (bs : List ℕ) (k : Kind) → marked bs k ≡ true → bs ≡ mark k ++ drop (length (mark k)) bs
letters bs k m = (starts_is Decides-eqb bs (mark k) _ refl).0 m

-- what was found passes
find_passes : {X : Type 0} (p : X → Bool) (xs : List X) (x : X) → find p xs ≡ Some x → p x ≡ true
find_passes p [] x e = cc
find_passes p (y ∷ ys) x e = grind (arith, find_passes p ys x)

-- a number of four bytes has those bytes again, and fits
pub word_again :
    (a b c d : ℕ) → a < 256 → b < 256 → c < 256 → d < 256
    → (word_bytes (to_z w32 (a * 16777216 + b * 65536 + c * 256 + d)) ≡ a ∷ b ∷ c ∷ d ∷ [])
    × SFits w32 (to_z w32 (a * 16777216 + b * 65536 + c * 256 + d))
word_again a b c d h i j k =
    let n : ℕ = a * 16777216 + b * 65536 + c * 256 + d in
    let below : n < 2 ^ 32 = omega arith in
    (grind (arith, of_z-to_z), to_z-Fits w32 n (record { fits = below }))

-- the record that was read of a kind
fields_again : (bs : List ℕ) (k : Kind) → Bytes bs → marked bs k ≡ true → size k ≤ length bs → WrittenAgain bs (Ok (fields_read k bs))
fields_again bs Communicators b m h = grind (arith, nat_tests, letters, take_firsts, word_again)
fields_again bs Modules b m h = grind (arith, nat_tests, letters, take_firsts)
fields_again bs Modes b m h = grind (arith, letters, take_firsts)
fields_again bs Tasks b m h = grind (arith, nat_tests, letters, take_firsts)
fields_again bs Reads b m h = grind (arith, letters, take_firsts)
fields_again bs Writes b m h = grind (arith, letters, take_firsts)
fields_again bs Dependencies b m h = grind (arith, letters, take_firsts)
fields_again bs Switches b m h = grind (arith, letters, take_firsts)

-- a kind was read only where a mark was found
was_found : (short : Bool) (o : Option Kind) (k : Kind) → cond short (Err Cut) (ok_or o UnknownMark) ≡ Ok k → o ≡ Some k
was_found true o k e = cc
was_found false None k e = cc
was_found false (Some j) k e = cc

-- the same by what kind was read
whole_again : (bs : List ℕ) (kr : Result Kind Flaw) → Bytes bs → kind_read bs ≡ kr → WrittenAgain bs (whole_read kr bs)
whole_again bs (Err flaw) b e = tt
whole_again bs (Ok k) b e =
    elim (leb_tells (suc (length bs)) (size k)) [
      | inl h ↦ rw h.0 tt
      | inr h ↦ rw h.0 (fields_again bs k b (find_passes (marked bs) kinds k (was_found (ltb (length bs) 2) (find (marked bs) kinds) k e)) (omega (arith, h.1)))
    ]

-- what was read is what would be written
pub written_again : (bs : List ℕ) → Bytes bs → WrittenAgain bs (record_read bs)
written_again bs b = whole_again bs (kind_read bs) b refl
