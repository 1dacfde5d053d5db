-- Code and image determine each other.
use Rattle.std.specs.Prelude.{◌≡◌, ℕ, ◌<◌, List, length, Ok}
use Rattle.std.specs.List.{AllByRecursion}
use Rattle.code.specs.declared.instructions.Instruction.{Instruction}
use Rattle.code.specs.Promises.{Sound}
use Rattle.image.specs.Images.{image_of, read_image}

-- The image of a code that a store can hold is read as that code.
abbrev pub ReadBack : Type 0
ReadBack = (xs : List Instruction) → Sound (length xs) xs → read_image (image_of xs) ≡ Ok xs

-- Bytes that are read as a code are its image.
abbrev pub WrittenBack : Type 0
WrittenBack = (bs : List ℕ) (xs : List Instruction) → AllByRecursion (λ b. b < 256) bs → read_image bs ≡ Ok xs → image_of xs ≡ bs

-- Codes with one image are one code.
abbrev pub OneCode : Type 0
OneCode = (xs ys : List Instruction) → Sound (length xs) xs → Sound (length ys) ys → image_of xs ≡ image_of ys → xs ≡ ys

-- Bytes that are read as one code are the same bytes.
abbrev pub OneImage : Type 0
OneImage = (bs cs : List ℕ) (xs : List Instruction) → AllByRecursion (λ b. b < 256) bs → AllByRecursion (λ b. b < 256) cs → read_image bs ≡ Ok xs → read_image cs ≡ Ok xs → bs ≡ cs
