-- Words gathered cell by cell.
use Rattle.std.proofs.Common.{◌≡◌, ℕ, ◌+◌, ◌<◌, ◌≤◌, true, cond, ltb, List, [], ◌∷◌, ◌++◌, map, length, get_or, take, drop, is_none, Some, None, Err, Option, sym, refl, ap, ◌∙◌, inl, inr, arith}
use Rattle.std.specs.List.{position_from}
use Rattle.std.proofs.lemmas.List.{length-map, length-append, map-append, get_or-map, get_or-take, take_all, take_more, take-append-le, length-take-le}
use Rattle.std.proofs.lemmas.Bool.{cases_lt, cond-true, cond-false, lt-ltb}
use Rattle.fault.specs.declared.Fault.TheVariants.{NoImage, BadCode}
use Rattle.code.specs.declared.instructions.Instruction.TheVariants.{Return}
use Rattle.code.specs.declared.instructions.Word.{Word}
use Rattle.code.specs.Words.{word_of}
use Rattle.code.proofs.Firsts.{first_passes}
use Rattle.image.specs.Cells.{words_in}
use Rattle.image.specs.Images.{known, headed, decoded, read_cells, read_image}
use Rattle.image.specs.Parsing.{Parsed, Stopped}
use Rattle.image.proofs.Cutting.{all_known, some_known, known_some}
use Rattle.image.proofs.Composing.{too_many}

-- The first k of some words are there, and those of them that a store can hold are at hand.
abbrev pub Gathered : List (Option Word) → ℕ → List Word → Type 0
Gathered os k ws = (vs : List Word) × (take k os ≡ map Some vs) × (ws ≡ take 4096 vs)

-- one word more is kept where there is room
pub gathered_more : (os : List (Option Word)) (k : ℕ) (w : Word) (ws after : List Word) → k < length os → get_or os k None ≡ Some w → after ≡ cond (ltb (length ws) 4096) (ws ++ (w ∷ [])) ws → Gathered os k ws → Gathered os (k + 1) after
gathered_more os k w ws after h here then (vs, front, kept) =
    let longer : take (k + 1) os ≡ map Some (vs ++ (w ∷ [])) = take_more os k None h ∙ ap (λ ps. ps ++ (get_or os k None ∷ [])) front ∙ ap (λ o. map Some vs ++ (o ∷ [])) here ∙ sym (map-append Some vs (w ∷ [])) in
    (vs ++ (w ∷ []), longer, then ∙ room)
  where
    room : cond (ltb (length ws) 4096) (ws ++ (w ∷ [])) ws ≡ take 4096 (vs ++ (w ∷ []))
    room =
        elim (cases_lt (length vs) 4096) [
          | inl l ↦
              let whole : ws ≡ vs = kept ∙ take_all 4096 vs (omega arith) in
              let more : length (vs ++ (w ∷ [])) ≡ length vs + 1 = length-append vs (w ∷ []) in
              cond-true _ _ _ (lt-ltb (length ws) 4096 (omega (arith, ap length whole))) ∙ ap (λ us. us ++ (w ∷ [])) whole ∙ sym (take_all 4096 (vs ++ (w ∷ [])) (omega arith))
          | inr g ↦
              let full : length ws ≡ 4096 = ap length kept ∙ length-take-le 4096 vs g in
              cond-false _ _ _ (ap (λ n. ltb n 4096) full) ∙ kept ∙ sym (take-append-le 4096 vs (w ∷ []) g)
        ]

-- all are gathered
pub gathered_all : (os : List (Option Word)) (k : ℕ) (ws : List Word) → length os ≤ k → Gathered os k ws → Parsed os ws
gathered_all os k ws h (vs, front, kept) =
    let whole : os ≡ map Some vs = sym (take_all k os h) ∙ front in
    record { all = ap (position_from is_none 0) whole ∙ some_known 0 vs; front = kept ∙ ap (take 4096) (sym (ap known whole ∙ known_some vs)) }

-- a cell is no word
pub gathered_stop : (os : List (Option Word)) (k : ℕ) (ws : List Word) → k < length os → get_or os k None ≡ None → Gathered os k ws → Stopped os (NoImage k)
gathered_stop os k ws h here (vs, front, kept) =
    let count : k ≡ length vs = sym (length-take-le k os (omega arith)) ∙ ap length front ∙ length-map vs Some in (
      k,
      first_passes is_none os None k h
          (λ j l. ap is_none (sym (get_or-take k os j None l) ∙ ap (λ ps. get_or ps j None) front ∙ get_or-map Some vs j (word_of Return) None (omega arith)))
          (ap is_none here),
      refl,
    )

-- where all are words, there are as many
known_count : (os : List (Option Word)) → position_from is_none 0 os ≡ None → length (known os) ≡ length os
known_count os e = sym (length-map (known os) Some) ∙ ap length (sym (all_known 0 os e))

-- words few enough are all at hand
pub parsed_known : (os : List (Option Word)) (ws : List Word) → Parsed os ws → length os ≤ 4096 → ws ≡ known os
parsed_known os ws p few = p.front ∙ take_all 4096 (known os) (omega (arith, known_count os p.all))

-- an image whose cells are all words is read as their code
pub read_known : (bs : List ℕ) (os : List (Option Word)) → headed bs ≡ true → os ≡ words_in (drop 4 bs) → position_from is_none 0 os ≡ None → decoded (known os) ≡ read_image bs
read_known bs os h w e =
    sym
    (cond-true (headed bs) _ _ h
    ∙ ap (λ ps. read_cells (position_from is_none 0 ps) (known ps)) (sym w)
    ∙ ap (λ o. read_cells o (known os)) e)

-- so many words are too many
pub read_many : (bs : List ℕ) (os : List (Option Word)) → headed bs ≡ true → os ≡ words_in (drop 4 bs) → position_from is_none 0 os ≡ None → 4096 < length os → Err (BadCode 0) ≡ read_image bs
read_many bs os h w e l = too_many (known os) (omega (arith, known_count os e)) ∙ read_known bs os h w e
