-- Numbers over all kinds and places are two ways to name one record.
use Rattle.std.proofs.Common.{◌≡◌, ℕ, zero, suc, ◌+◌, ◌-◌, ◌<◌, ◌≤◌, cond, List, [], ◌∷◌, ◌++◌, map, length, Option, sym, refl, ap, ◌∙◌, inl, inr, arith}
use Rattle.std.proofs.lemmas.List.{length-append, length-map}
use Rattle.std.proofs.lemmas.Option.{slice_get-map}
use Rattle.std.proofs.lemmas.Bool.Decides.{leb_tells}
use Rattle.std.specs.List.{slice_get}
use Rattle.std.specs.Option.{option_map}
use Rattle.tables.specs.declared.records.Place.{Place}
use Rattle.tables.specs.declared.records.Place.TheVariants.{Communicator, Module, Mode, Task, Read, Write, Dependency, Switch}
use Rattle.tables.specs.declared.records.Record.{Record}
use Rattle.tables.specs.declared.records.Record.TheVariants as some
use Rattle.tables.specs.Stations.{Station, rows}
use Rattle.tables.specs.Places.{split, place, record_at}

-- the item of a number of one list after another
pub nth_front : {X : Type 0} (xs ys : List X) (k : ℕ) → k < length xs → slice_get (xs ++ ys) k ≡ slice_get xs k
nth_front [] ys k h = absurd (omega arith)
nth_front (x ∷ xs) ys zero h = refl
nth_front (x ∷ xs) ys (suc k) h = nth_front xs ys k (omega arith)

pub nth_back : {X : Type 0} (xs ys : List X) (k : ℕ) → length xs ≤ k → slice_get (xs ++ ys) k ≡ slice_get ys (k - length xs)
nth_back [] ys k h = ap (slice_get ys) (omega arith)
nth_back (x ∷ xs) ys zero h = absurd (omega arith)
nth_back (x ∷ xs) ys (suc k) h = nth_back xs ys k (omega arith) ∙ ap (slice_get ys) (omega arith)

-- the records of one kind before the others
pub split_law :
    {X : Type 0} (g : Place → Option Record) (f : X → Record) (here later : ℕ → Place) (xs : List X) (ys : List Record)
    → ((k : ℕ) → option_map f (slice_get xs k) ≡ g (here k)) → ((k : ℕ) → slice_get ys k ≡ g (later k)) → (k : ℕ) → slice_get (map f xs ++ ys) k ≡ g (split (length xs) here later k)
split_law g f here later xs ys p q k =
    let count = length-map xs f in
    elim (leb_tells (suc k) (length xs)) [
      | inl h ↦
          let low : k < length (map f xs) = omega (arith, h.1) in
          nth_front (map f xs) ys k low ∙ slice_get-map f xs k ∙ p k ∙ sym (ap (λ b. g (cond b (here k) (later (k - length xs)))) h.0)
      | inr h ↦
          let high : length (map f xs) ≤ k = omega (arith, h.1) in
          nth_back (map f xs) ys k high ∙ ap (λ n. slice_get ys (k - n)) count ∙ q (k - length xs) ∙ sym (ap (λ b. g (cond b (here k) (later (k - length xs)))) h.0)
    ]

-- the record of a number is the one at its place
pub record_placed : (s : Station) (k : ℕ) → record_at s (place s k) ≡ slice_get (rows s) k
record_placed s k =
    let g = record_at s in
    sym (split_law g some.Communicator Communicator _ s.communicators _ (λ i. refl)
    (split_law g some.Module Module _ s.modules _ (λ i. refl)
    (split_law g some.Mode Mode _ s.modes _ (λ i. refl)
    (split_law g some.Task Task _ s.tasks _ (λ i. refl)
    (split_law g some.Read Read _ s.reads _ (λ i. refl)
    (split_law g some.Write Write _ s.writes _ (λ i. refl)
    (split_law g some.Dependency Dependency Switch s.dependencies _ (λ i. refl)
    (slice_get-map some.Switch s.switches))))))) k)

-- as many as there are of the kinds together
pub length_rows :
    (s : Station)
    → length (rows s) ≡ length s.communicators + length s.modules + length s.modes + length s.tasks + length s.reads + length s.writes + length s.dependencies + length s.switches
length_rows s = simp (length-append, length-map) (omega arith)
