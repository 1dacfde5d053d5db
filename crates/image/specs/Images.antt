-- The image of a code: the letters HE, the count, and six bytes for each instruction.
use Rattle.std.specs.Prelude.{ℕ, ◌+◌, ◌-◌, ◌*◌, Bool, false, cond, ◌&&◌, List, ◌++◌, map, length, drop, is_none, Some, None, Ok, Err, codes, Option, Result, ◌==◌, nat_le, slice_get, slice_index}
use Rattle.std.specs.Option.{option_map_or}
use Rattle.std.specs.List.{filter_map, flat_map, position_from}
use Rattle.fault.specs.declared.Fault.{Fault}
use Rattle.fault.specs.declared.Fault.TheVariants.{NoImage, ShortBuffer}
use Rattle.code.specs.declared.instructions.Instruction.{Instruction}
use Rattle.code.specs.declared.instructions.Word.{Word}
use Rattle.code.specs.Opcodes.{is_end}
use Rattle.code.specs.Rules.{broken}
use Rattle.code.specs.Stores.{verdict}
use Rattle.code.specs.Words.{word_of, instruction_of}
use Rattle.image.specs.Cells.{half, value, cell, words_in}

-- How long the image of n instructions is.
abbrev pub image_length : ℕ → ℕ
image_length n = 4 + 6 * n

-- The letters and the count.
abbrev pub head_of : ℕ → List ℕ
head_of n = codes "HE" ++ half n

-- The image of a code.
abbrev pub image_of : List Instruction → List ℕ
image_of xs = head_of (length xs) ++ flat_map cell (map word_of xs)

-- What writing a code returns, and what the buffer then holds.
abbrev pub written : List Instruction → List ℕ → Result ℕ Fault × List ℕ
written xs bs =
    cond (nat_le (image_length (length xs)) (length bs))
    (Ok (image_length (length xs)), image_of xs ++ drop (image_length (length xs)) bs)
    (Err (ShortBuffer (image_length (length xs))), bs)

-- The count that an image gives.
abbrev pub count_in : List ℕ → ℕ
count_in bs = value (slice_index bs 2) (slice_index bs 3)

-- Whether bytes begin as an image and are as long as their count wants.
abbrev pub headed : List ℕ → Bool
headed bs = (slice_index bs 0 == slice_index (codes "HE") 0 && slice_index bs 1 == slice_index (codes "HE") 1) && length bs == image_length (count_in bs)

-- The words that there are.
abbrev pub known : List (Option Word) → List Word
known os = filter_map (λ o. o) os

-- Whether the last of some words may end a code.
abbrev pub ended : List Word → Bool
ended ws = option_map_or (λ w. is_end w.opcode) (slice_get ws (length ws - 1)) false

-- The code that words stand for, or where they break a rule.
abbrev pub decoded : List Word → Result (List Instruction) Fault
decoded ws = verdict (broken (length ws) ws) (map instruction_of ws)

-- What cells are read as: refused at the first that is no word, else the code of the words.
abbrev pub read_cells : Option ℕ → List Word → Result (List Instruction) Fault
read_cells (Some p) ws = Err (NoImage p)
read_cells None ws = decoded ws

-- What bytes are read as.
abbrev pub read_image : List ℕ → Result (List Instruction) Fault
read_image bs = cond (headed bs) (read_cells (position_from is_none 0 (words_in (drop 4 bs))) (known (words_in (drop 4 bs)))) (Err (NoImage 0))
