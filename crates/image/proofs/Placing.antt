-- Cells put into a buffer one after another.
use Rattle.std.proofs.Common.{◌≡◌, ℕ, ◌+◌, ◌*◌, ◌<◌, ◌≤◌, List, [], ◌∷◌, ◌++◌, map, length, get_or, take, drop, sym, refl, ap, ◌∙◌, arith}
use lib.Seq.{paste}
use Rattle.std.proofs.lemmas.List.{length-append, length-map, length-take-le, take_all, take_at, drop_at, drop-drop, flat_map_more, map_more}
use Rattle.std.specs.List.{flat_map as joined}
use Rattle.code.specs.declared.instructions.Instruction.{Instruction}
use Rattle.code.specs.declared.instructions.Instruction.TheVariants.{Return}
use Rattle.code.specs.declared.instructions.Word.{Word}
use Rattle.code.specs.Words.{word_of}
use Rattle.image.specs.Cells.{half, cell}
use Rattle.image.proofs.Finding.{mark_two}

-- a cell is six bytes
pub cell_six : (w : Word) → length (cell w) ≡ 6
cell_six w = ap (λ m. length (m ++ (half w.first ++ half w.second))) (mark_two w.opcode)

-- so many cells are six times as many bytes
pub cells_length : (ws : List Word) → length (joined cell ws) ≡ 6 * length ws
cells_length [] = refl
cells_length (w ∷ ws) =
    length-append (cell w) (joined cell ws) ∙ (let six = cell_six w in let rest = cells_length ws in omega arith)

-- bytes put right behind what stands already
pub put_next : (bs front c e : List ℕ) (a : ℕ) → bs ≡ front ++ drop a e → length front ≡ a → paste bs a c (length c) ≡ (front ++ c) ++ drop (a + length c) e
put_next bs front c e a b l =
    let before : take a bs ≡ front = ap (take a) b ∙ take_at front (drop a e) a l in
    let all : take (length c) c ≡ c = take_all (length c) c (omega arith) in
    let after : drop (a + length c) bs ≡ drop (a + length c) e = sym (drop-drop (length c) a bs) ∙ ap (λ s. drop (length c) s) (ap (drop a) b ∙ drop_at front (drop a e) a l) ∙ drop-drop (length c) a e in
    ap (λ s. (s ++ take (length c) c) ++ drop (a + length c) bs) before ∙ ap (λ s. (front ++ s) ++ drop (a + length c) bs) all ∙ ap (λ s. (front ++ c) ++ s) after

-- one cell more
pub cells_more : (b e c after : List ℕ) (xs : List Instruction) (k : ℕ) → k < length xs → 4 ≤ length e → b ≡ (take 4 e ++ joined cell (map word_of (take k xs))) ++ drop (4 + 6 * k) e → c ≡ cell (word_of (get_or xs k Return)) → after ≡ paste b (4 + 6 * k) c (length c) → after ≡ (take 4 e ++ joined cell (map word_of (take (k + 1) xs))) ++ drop (4 + 6 * (k + 1)) e
cells_more b e c after xs k h w was is then =
    let count : length (take k xs) ≡ k = length-take-le k xs (omega arith) in
    let four : length (take 4 e) ≡ 4 = length-take-le 4 e w in
    let many : length (joined cell (map word_of (take k xs))) ≡ 6 * length (take k xs) = cells_length (map word_of (take k xs)) ∙ ap (λ n. 6 * n) (length-map (take k xs) word_of) in
    let front : length (take 4 e ++ joined cell (map word_of (take k xs))) ≡ 4 + 6 * k = length-append (take 4 e) (joined cell (map word_of (take k xs))) ∙ omega arith in
    let size : length c ≡ 6 = ap length is ∙ cell_six (word_of (get_or xs k Return)) in
    let next : 4 + 6 * k + length c ≡ 4 + 6 * (k + 1) = omega arith in
    let longer : (take 4 e ++ joined cell (map word_of (take k xs))) ++ c ≡ take 4 e ++ joined cell (map word_of (take (k + 1) xs)) =
    ap (λ s. (take 4 e ++ joined cell (map word_of (take k xs))) ++ s) is
    ∙ flat_map_more cell (take 4 e) (map word_of (take k xs)) (word_of (get_or xs k Return))
    ∙ ap (λ s. take 4 e ++ joined cell s) (sym (map_more word_of xs k Return h)) in
    then
    ∙ put_next b (take 4 e ++ joined cell (map word_of (take k xs))) c e (4 + 6 * k) was front
    ∙ ap (λ s. s ++ drop (4 + 6 * k + length c) e) longer
    ∙ ap (λ n. (take 4 e ++ joined cell (map word_of (take (k + 1) xs))) ++ drop n e) next
