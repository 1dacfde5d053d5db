-- Code and image determine each other.
use Rattle.std.proofs.Common.{◌≡◌, ℕ, zero, suc, ◌+◌, ◌*◌, ◌/◌, ◌%◌, ◌<◌, Bool, true, false, cond, ◌&&◌, eqb, List, [], ◌∷◌, ◌++◌, map, length, get_or, take, drop, is_none, not, IfOk, Some, None, Ok, Err, Option, Result, sym, refl, ap, ◌∙◌, arith}
use Rattle.fault.specs.declared.Fault.{Fault}
use Rattle.fault.specs.declared.Fault.TheVariants.{NoImage}
use Rattle.std.proofs.ByRecursion.{All-drop}
use Rattle.std.proofs.lemmas.List.{length-map, length-drop, take_at}
use Rattle.std.proofs.lemmas.Bool.{and_parts, and_from, eqb-true, eq-eqb, cond-true, not-false}
use Rattle.std.specs.List.{flat_map, position_from, AllByRecursion}
use Rattle.code.specs.declared.instructions.Instruction.{Instruction}
use Rattle.code.specs.declared.instructions.Opcode.{Opcode}
use Rattle.code.specs.declared.instructions.Operand.{Operand}
use Rattle.code.specs.declared.instructions.Operand.TheVariants.{Unused}
use Rattle.code.specs.declared.instructions.Word.{Word}
use Rattle.code.specs.Opcodes.{operands_of}
use Rattle.code.specs.Promises.{Sound}
use Rattle.code.specs.Rules.{allowed, legal, broken}
use Rattle.code.specs.declared.CodeStore.{CodeStore}
use Rattle.code.specs.Stores.{verdict, held, instructions}
use Rattle.code.specs.Words.{word_of, instruction_of, made_of}
use Rattle.code.proofs.Decoding.{instructions_back, words_back}
use Rattle.code.proofs.Storing.{unbroken_sound, unbroken_parts}
use Rattle.code.proofs.Firsts.{none_passed}
use Rattle.image.specs.Cells.{half, value, cell, blank, padded, clean, word_in, words_in}
use Rattle.image.specs.Images.{image_length, head_of, image_of, headed, count_in, known, decoded, read_cells, read_image}
use Rattle.image.specs.Marks.{mark_of, opcodes, found}
use Rattle.image.specs.Promises.{ReadBack, WrittenBack, OneCode, OneImage}
use Rattle.image.proofs.Finding.{found_mark, mark_two, mark_found}
use Rattle.image.proofs.Placing.{cells_length}
use Rattle.image.proofs.Cutting.{words_length, all_known, some_known, known_some}

-- the half-word of a half-word's bytes
pub half_back : (v : ℕ) → value (v / 256) (v % 256) ≡ v
half_back v = omega arith

-- the bytes of two bytes' half-word
pub bytes_back : (a b : ℕ) → b < 256 → half (value a b) ≡ a ∷ b ∷ []
bytes_back a b h =
    let one : value a b / 256 ≡ a = omega arith in
    let two : value a b % 256 ≡ b = omega arith in
    ap (λ x. x ∷ (value a b % 256) ∷ []) one ∙ ap (λ y. a ∷ y ∷ []) two

-- a value that may stand is 0 where there is no operand
allowed_blank : (n one : ℕ) (o : Operand) (v : ℕ) → allowed n one o v ≡ true → blank o v ≡ true
allowed_blank n one Unused v h = h
allowed_blank n one _ v h = refl

legal_padded : (n : ℕ) (w : Word) → legal n w ≡ true → padded w.opcode w.first w.second ≡ true
legal_padded n w h =
    let p = and_parts (allowed n w.first (operands_of w.opcode).0 w.first) _ h in
    and_from _ _ (allowed_blank n w.first (operands_of w.opcode).0 w.first p.0) (allowed_blank n w.first (operands_of w.opcode).1 w.second p.1)

-- a cell is read as its word
cell_read : (w : Word) (bs : List ℕ) → padded w.opcode w.first w.second ≡ true → words_in (cell w ++ bs) ≡ Some w ∷ words_in bs
unfolding words_in
cell_read w bs h =
    ap (λ m. words_in ((m ++ (half w.first ++ half w.second)) ++ bs)) (mark_two w.opcode)
    ∙ ap (λ o. clean o (value (w.first / 256) (w.first % 256)) (value (w.second / 256) (w.second % 256)) ∷ words_in bs) (found_mark w.opcode)
    ∙ ap (λ v. clean (Some w.opcode) v (value (w.second / 256) (w.second % 256)) ∷ words_in bs) (half_back w.first)
    ∙ ap (λ v. clean (Some w.opcode) w.first v ∷ words_in bs) (half_back w.second)
    ∙ ap (λ o. o ∷ words_in bs) (cond-true (padded w.opcode w.first w.second) _ _ h)

-- so is a row of them
cells_read : (n k : ℕ) (ws : List Word) → position_from (λ w. not (legal n w)) k ws ≡ None → words_in (flat_map cell ws) ≡ map Some ws
unfolding words_in
cells_read n k [] e = refl
cells_read n k (w ∷ ws) e =
    let p = none_passed (not (legal n w)) (position_from (λ v. not (legal n v)) (k + 1) ws) k e in
    cell_read w (flat_map cell ws) (legal_padded n w (not-false _ p.0)) ∙ ap (λ os. Some w ∷ os) (cells_read n (k + 1) ws p.1)

-- the head of an image is right
image_headed : (xs : List Instruction) → headed (image_of xs) ≡ true
image_headed xs =
    let many : length (flat_map cell (map word_of xs)) ≡ 6 * length xs = cells_length (map word_of xs) ∙ ap (λ n. 6 * n) (length-map xs word_of) in
    let back : value (length xs / 256) (length xs % 256) ≡ length xs = half_back (length xs) in
    eq-eqb (length (image_of xs)) (image_length (count_in (image_of xs))) (omega arith)

pub read_back : ReadBack
read_back xs s =
    let whole : broken (length xs) (map word_of xs) ≡ None = unbroken_sound (length xs) xs refl s in
    let p = unbroken_parts (length xs) (map word_of xs) whole in
    let words : words_in (flat_map cell (map word_of xs)) ≡ map Some (map word_of xs) = cells_read (length xs) 0 (map word_of xs) p.1 in
    cond-true (headed (image_of xs)) _ _ (image_headed xs)
    ∙ ap (λ os. read_cells (position_from is_none 0 os) (known os)) words
    ∙ ap (λ o. read_cells o (known (map Some (map word_of xs)))) (some_known 0 (map word_of xs))
    ∙ ap decoded (known_some (map word_of xs))
    ∙ ap (λ n. verdict (broken n (map word_of xs)) (map instruction_of (map word_of xs))) (length-map xs word_of)
    ∙ ap (λ o. verdict o (map instruction_of (map word_of xs))) whole
    ∙ ap Ok (instructions_back xs)

pub one_code : OneCode
one_code xs ys s t e =
    let same : ◌≡◌ {A = Result (List Instruction) Fault} (Ok xs) (Ok ys) = sym (read_back xs s) ∙ ap read_image e ∙ read_back ys t in
    cc

-- a word that was found
clean_some : (o : Option Opcode) (a b : ℕ) (w : Word) → clean o a b ≡ Some w → (p : Opcode) × (o ≡ Some p) × (made_of p a b ≡ w)
clean_some None a b w e = absurd cc
clean_some (Some p) a b w e = (p, refl, cond_some (padded p a b) (made_of p a b) w e)
  where
    cond_some : {X : Type 0} (b : Bool) (x y : X) → cond b (Some x) None ≡ Some y → x ≡ y
    cond_some true x y e = cc
    cond_some false x y e = absurd cc

-- six bytes that are read as a word are its cell
word_cell : (m n a b c d : ℕ) (w : Word) → b < 256 → d < 256 → word_in m n a b c d ≡ Some w → cell w ≡ m ∷ n ∷ a ∷ b ∷ c ∷ d ∷ []
word_cell m n a b c d w h l e =
    let p = clean_some (found opcodes m n) (value a b) (value c d) w e in
    let q = and_parts (eqb (get_or (mark_of p.0) 0 0) m) _ (mark_found opcodes m n p.0 p.1) in
    let one : get_or (mark_of p.0) 0 0 ≡ m = eqb-true _ _ q.0 in
    let two : get_or (mark_of p.0) 1 0 ≡ n = eqb-true _ _ q.1 in
    ap cell (sym p.2)
    ∙ ap (λ s. s ++ (half (value a b) ++ half (value c d))) (mark_two p.0)
    ∙ ap (λ x. x ∷ get_or (mark_of p.0) 1 0 ∷ (half (value a b) ++ half (value c d))) one
    ∙ ap (λ x. m ∷ x ∷ (half (value a b) ++ half (value c d))) two
    ∙ ap (λ s. m ∷ n ∷ (s ++ half (value c d))) (bytes_back a b h)
    ∙ ap (λ s. m ∷ n ∷ a ∷ b ∷ s) (bytes_back c d l)

-- bytes that are read as words are the cells of those
cells_back : (k : ℕ) (bs : List ℕ) (ws : List Word) → length bs ≡ 6 * k → AllByRecursion (λ b. b < 256) bs → words_in bs ≡ map Some ws → flat_map cell ws ≡ bs
unfolding words_in
cells_back zero [] [] h s e = refl
cells_back (suc k) (m ∷ n ∷ a ∷ b ∷ c ∷ d ∷ bs) (w ∷ ws) h s e =
    let here : word_in m n a b c d ≡ Some w = cc in
    let rest : words_in bs ≡ map Some ws = cc in
    ap (λ u. u ++ flat_map cell ws) (word_cell m n a b c d w s.1.1.1.0 s.1.1.1.1.1.0 here)
    ∙ ap (λ u. m ∷ n ∷ a ∷ b ∷ c ∷ d ∷ u) (cells_back k bs ws (omega arith) s.1.1.1.1.1.1 rest)
cells_back zero [] (w ∷ ws) h s e = absurd cc
cells_back (suc k) (m ∷ n ∷ a ∷ b ∷ c ∷ d ∷ bs) [] h s e = absurd cc
cells_back _ _ _ h s e = absurd (omega arith)

-- how long bytes with a right head are
headed_length : (bs : List ℕ) → headed bs ≡ true → length bs ≡ image_length (count_in bs)
headed_length bs h = eqb-true (length bs) (image_length (count_in bs)) (and_parts _ (eqb (length bs) (image_length (count_in bs))) h).1

-- a right head is that of its count
head_back : (bs : List ℕ) → headed bs ≡ true → AllByRecursion (λ b. b < 256) bs → head_of (count_in bs) ++ drop 4 bs ≡ bs
head_back (x ∷ y ∷ a ∷ b ∷ bs) h s =
    let p = and_parts (eqb x 72 && eqb y 69) _ h in
    let q = and_parts (eqb x 72) (eqb y 69) p.0 in
    ap (λ u. 72 ∷ 69 ∷ (u ++ bs)) (bytes_back a b s.1.1.1.0)
    ∙ ap (λ u. u ∷ 69 ∷ a ∷ b ∷ bs) (sym (eqb-true x 72 q.0))
    ∙ ap (λ u. x ∷ u ∷ a ∷ b ∷ bs) (sym (eqb-true y 69 q.1))
head_back [] h s = absurd (omega (arith, headed_length [] h))
head_back (x ∷ []) h s = absurd (omega (arith, headed_length (x ∷ []) h))
head_back (x ∷ y ∷ []) h s = absurd (omega (arith, headed_length (x ∷ y ∷ []) h))
head_back (x ∷ y ∷ a ∷ []) h s = absurd (omega (arith, headed_length (x ∷ y ∷ a ∷ []) h))

-- nothing was refused
cond_ok : (b : Bool) (r : Result (List Instruction) Fault) (f : Fault) (xs : List Instruction) → cond b r (Err f) ≡ Ok xs → (b ≡ true) × (r ≡ Ok xs)
cond_ok true r f xs e = (refl, e)
cond_ok false r f xs e = absurd cc

cells_ok : (o : Option ℕ) (ws : List Word) (xs : List Instruction) → read_cells o ws ≡ Ok xs → (o ≡ None) × (decoded ws ≡ Ok xs)
cells_ok None ws xs e = (refl, e)
cells_ok (Some p) ws xs e = absurd cc

verdict_ok : (o : Option ℕ) (ys xs : List Instruction) → verdict o ys ≡ Ok xs → (o ≡ None) × (ys ≡ xs)
verdict_ok None ys xs e = (refl, (let same : ys ≡ xs = cc in same))
verdict_ok (Some p) ys xs e = absurd cc

pub written_back : WrittenBack
written_back bs xs s e =
    let h = cond_ok (headed bs) (read_cells (position_from is_none 0 (words_in (drop 4 bs))) (known (words_in (drop 4 bs)))) (NoImage 0) xs e in
    let c = cells_ok (position_from is_none 0 (words_in (drop 4 bs))) (known (words_in (drop 4 bs))) xs h.1 in
    let v = verdict_ok (broken (length (known (words_in (drop 4 bs)))) (known (words_in (drop 4 bs)))) (map instruction_of (known (words_in (drop 4 bs)))) xs c.1 in
    whole_back bs (known (words_in (drop 4 bs))) xs s h.0 (all_known 0 (words_in (drop 4 bs)) c.0) v.0 v.1
  where
    whole_back : (bs : List ℕ) (ws : List Word) (xs : List Instruction) → AllByRecursion (λ b. b < 256) bs → headed bs ≡ true → words_in (drop 4 bs) ≡ map Some ws → broken (length ws) ws ≡ None → map instruction_of ws ≡ xs → image_of xs ≡ bs
    whole_back bs ws xs s h w b x =
        let size : length bs ≡ image_length (count_in bs) = headed_length bs h in
        let rest : length (drop 4 bs) ≡ 6 * count_in bs = length-drop 4 bs ∙ omega arith in
        let count : length (map instruction_of ws) ≡ count_in bs = length-map ws instruction_of ∙ sym (length-map ws Some) ∙ ap length (sym w) ∙ words_length (count_in bs) (drop 4 bs) rest in
        let cells : flat_map cell ws ≡ drop 4 bs = cells_back (count_in bs) (drop 4 bs) ws rest (All-drop (λ b. b < 256) 4 bs s) w in
        ap image_of (sym x)
        ∙ ap (λ n. head_of n ++ flat_map cell (map word_of (map instruction_of ws))) count
        ∙ ap (λ vs. head_of (count_in bs) ++ flat_map cell vs) (words_back (length ws) 0 ws (unbroken_parts (length ws) ws b).1)
        ∙ ap (λ u. head_of (count_in bs) ++ u) cells
        ∙ head_back bs h s

pub one_image : OneImage
one_image bs cs xs s t e f = sym (written_back bs xs s e) ∙ written_back cs xs t f

-- the bytes of a store that was read
pub store_back : (r : Result CodeStore Fault) (bs : List ℕ) → AllByRecursion (λ b. b < 256) bs → held r ≡ read_image bs → IfOk r (λ s. image_of (instructions s) ≡ bs)
store_back (Ok s) bs a e = written_back bs (instructions s) a (sym e)
store_back (Err f) bs a e = tt

-- how long an image is
image_size : (xs : List Instruction) → length (image_of xs) ≡ image_length (length xs)
image_size xs =
    let many : length (flat_map cell (map word_of xs)) ≡ 6 * length xs = cells_length (map word_of xs) ∙ ap (λ n. 6 * n) (length-map xs word_of) in
    omega arith

-- an image at the front of a buffer
pub buffer_back : (n : ℕ) (xs : List Instruction) (cs rest : List ℕ) → Sound (length xs) xs → n ≡ image_length (length xs) → cs ≡ image_of xs ++ rest → read_image (take n cs) ≡ Ok xs
buffer_back n xs cs rest s l e =
    ap (λ u. read_image (take n u)) e ∙ ap read_image (take_at (image_of xs) rest n (image_size xs ∙ sym l)) ∙ read_back xs s
