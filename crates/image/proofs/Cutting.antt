-- Bytes taken six by six.
use Rattle.std.proofs.Common.{◌≡◌, ℕ, zero, suc, ◌+◌, ◌*◌, ◌/◌, ◌<◌, List, [], ◌∷◌, map, length, get_or, is_none, Some, None, Option, sym, refl, ap, ◌∙◌, arith}
use Rattle.std.specs.List.{position_from}
use Rattle.std.specs.Simd.{first_chunks}
use Rattle.std.proofs.lemmas.List.{length-map, get_or-map}
use Rattle.code.specs.declared.instructions.Instruction.TheVariants.{Return}
use Rattle.code.specs.declared.instructions.Word.{Word}
use Rattle.code.specs.Words.{word_of}
use Rattle.image.specs.Cells.{word_of_cell, words_in}
use Rattle.image.specs.Images.{known}

-- the words of all whole cells
cells_cut : (k : ℕ) (bs : List ℕ) → length bs ≡ 6 * k → map word_of_cell (first_chunks 6 k bs) ≡ words_in bs
unfolding words_in
cells_cut zero [] h = refl
cells_cut zero (m ∷ bs) h = absurd (omega arith)
cells_cut (suc k) (m ∷ n ∷ a ∷ b ∷ c ∷ d ∷ bs) h = ap (λ os. word_of_cell (m ∷ n ∷ a ∷ b ∷ c ∷ d ∷ []) ∷ os) (cells_cut k bs (omega arith))
cells_cut (suc k) _ h = absurd (omega arith)

-- a word for every six bytes
pub words_length : (n : ℕ) (bs : List ℕ) → length bs ≡ 6 * n → length (words_in bs) ≡ n
unfolding words_in
words_length zero [] h = refl
words_length zero (m ∷ bs) h = absurd (omega arith)
words_length (suc k) (m ∷ n ∷ a ∷ b ∷ c ∷ d ∷ bs) h = ap suc (words_length k bs (omega arith))
words_length (suc k) _ h = absurd (omega arith)

pub cut : (count : ℕ) (bs : List ℕ) → length bs ≡ 6 * count → map word_of_cell (first_chunks 6 (length bs / 6) bs) ≡ words_in bs
cut count bs h =
    let same : length bs / 6 ≡ count = omega arith in
    ap (λ k. map word_of_cell (first_chunks 6 k bs)) same ∙ cells_cut count bs h

-- where no cell is none, the known words are all
pub all_known : (k : ℕ) (os : List (Option Word)) → position_from is_none k os ≡ None → os ≡ map Some (known os)
all_known k [] e = refl
all_known k (None ∷ os) e = absurd cc
all_known k (Some w ∷ os) e = ap (λ ps. Some w ∷ ps) (all_known (k + 1) os e)

-- where all are words, none is none
pub some_known : (k : ℕ) (ws : List Word) → position_from is_none k (map Some ws) ≡ None
some_known k [] = refl
some_known k (w ∷ ws) = some_known (k + 1) ws

-- and all are known
pub known_some : (ws : List Word) → known (map Some ws) ≡ ws
known_some [] = refl
known_some (w ∷ ws) = ap (λ vs. w ∷ vs) (known_some ws)

-- as many words as cells
pub as_many : (cs : List (List ℕ)) (ws : List Word) → map word_of_cell cs ≡ map Some ws → length cs ≡ length ws
as_many cs ws e = sym (length-map cs word_of_cell) ∙ ap length e ∙ length-map ws Some

-- the word of a cell
pub word_here : (cs : List (List ℕ)) (ws : List Word) (k : ℕ) → map word_of_cell cs ≡ map Some ws → k < length cs → word_of_cell (get_or cs k []) ≡ Some (get_or ws k (word_of Return))
word_here cs ws k e h =
    let many : length cs ≡ length ws = as_many cs ws e in
    sym (get_or-map word_of_cell cs k [] None h) ∙ ap (λ os. get_or os k None) e ∙ get_or-map Some ws k (word_of Return) None (omega arith)
