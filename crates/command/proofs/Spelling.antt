-- Letters that spell bytes, gone through two at a time.
use Rattle.std.proofs.Common.{◌≡◌, ℕ, ◌+◌, ◌*◌, ◌/◌, ◌<◌, ◌≤◌, suc, zero, List, [], ◌∷◌, ◌++◌, length, get_or, drop, take, Some, None, Option, sym, refl, ap, ◌∙◌, append_assoc, append-nil, length-drop, arith}
use Rattle.std.proofs.lemmas.List.{drop-drop, drop_more, drop_all}
use Rattle.std.specs.Simd.{first_chunks}
use Rattle.command.specs.Hex.{pair_value, joined, bytes_spelt}

-- bytes before those that are still to come
abbrev pub prefixed : List ℕ → Option (List ℕ) → Option (List ℕ)
prefixed bs None = None
prefixed bs (Some more) = Some (bs ++ more)

-- what the letters of a pair spell
abbrev pub spelt_by : List ℕ → Option ℕ
spelt_by pair = pair_value (get_or pair 0 0) (get_or pair 1 0)

first_pair : (s : List ℕ) → 2 ≤ length s → bytes_spelt s ≡ joined (spelt_by (take 2 s)) (bytes_spelt (drop 2 s))
unfolding bytes_spelt
first_pair [] h = absurd (omega arith)
first_pair (a ∷ []) h = absurd (omega arith)
first_pair (a ∷ b ∷ rest) h = refl

pair_at : (n k : ℕ) (s : List ℕ) → k < n → get_or (first_chunks 2 n s) k [] ≡ take 2 (drop (k * 2) s)
pair_at zero k s h = absurd (omega arith)
pair_at (suc n) zero s h = refl
pair_at (suc n) (suc k) s h =
    let e : 2 + k * 2 ≡ suc k * 2 = omega arith in
    pair_at n k (drop 2 s) (omega arith) ∙ ap (take 2) (drop-drop (k * 2) 2 s ∙ ap (λ (m : ℕ). drop m s) e)

-- the letters from a pair on spell its own byte and those after it
next_pair : (s : List ℕ) (ps : List (List ℕ)) (k : ℕ) → ps ≡ first_chunks 2 (length s / 2) s → k < length s / 2 → bytes_spelt (drop (k * 2) s) ≡ joined (spelt_by (get_or ps k [])) (bytes_spelt (drop ((k + 1) * 2) s))
next_pair s ps k e h =
    let here : get_or ps k [] ≡ take 2 (drop (k * 2) s) = ap (λ (l : List (List ℕ)). get_or l k []) e ∙ pair_at (length s / 2) k s h in
    let n : k * 2 + 2 ≡ (k + 1) * 2 = omega arith in
    let more : drop 2 (drop (k * 2) s) ≡ drop ((k + 1) * 2) s = drop-drop 2 (k * 2) s ∙ ap (λ (m : ℕ). drop m s) n in
    first_pair (drop (k * 2) s) (omega (arith, length-drop (k * 2) s)) ∙ cc

one_byte : (bs : List ℕ) (b : ℕ) (more : Option (List ℕ)) → prefixed (bs ++ b ∷ []) more ≡ prefixed bs (joined (Some b) more)
one_byte bs b None = refl
one_byte bs b (Some more) = ap Some (append_assoc bs (b ∷ []) more)

pub spelt_more : (s bs : List ℕ) (ps : List (List ℕ)) (k b : ℕ) → ps ≡ first_chunks 2 (length s / 2) s → k < length s / 2 → spelt_by (get_or ps k []) ≡ Some b → prefixed bs (bytes_spelt (drop (k * 2) s)) ≡ bytes_spelt s → prefixed (bs ++ b ∷ []) (bytes_spelt (drop ((k + 1) * 2) s)) ≡ bytes_spelt s
spelt_more s bs ps k b e h p inv =
    one_byte bs b (bytes_spelt (drop ((k + 1) * 2) s))
    ∙ ap (λ (o : Option ℕ). prefixed bs (joined o (bytes_spelt (drop ((k + 1) * 2) s)))) (sym p)
    ∙ ap (prefixed bs) (sym (next_pair s ps k e h))
    ∙ inv

pub spelt_wrong : (s bs : List ℕ) (ps : List (List ℕ)) (k : ℕ) → ps ≡ first_chunks 2 (length s / 2) s → k < length s / 2 → spelt_by (get_or ps k []) ≡ None → prefixed bs (bytes_spelt (drop (k * 2) s)) ≡ bytes_spelt s → bytes_spelt s ≡ None
spelt_wrong s bs ps k e h p inv =
    sym inv
    ∙ ap (prefixed bs) (next_pair s ps k e h)
    ∙ ap (λ (o : Option ℕ). prefixed bs (joined o (bytes_spelt (drop ((k + 1) * 2) s)))) p

spelt_odd : (a : ℕ) → bytes_spelt (a ∷ []) ≡ None
unfolding bytes_spelt
spelt_odd a = refl

spelt_none : bytes_spelt [] ≡ Some []
unfolding bytes_spelt
spelt_none = refl

pub spelt_left : (s bs : List ℕ) (i : ℕ) → i + 1 ≡ length s → prefixed bs (bytes_spelt (drop i s)) ≡ bytes_spelt s → bytes_spelt s ≡ None
spelt_left s bs i h inv =
    let here : i < length s = omega arith in
    let end : length s ≤ i + 1 = omega arith in
    sym inv
    ∙ ap (λ (l : List ℕ). prefixed bs (bytes_spelt l)) (drop_more s i 0 here ∙ ap (λ (l : List ℕ). get_or s i 0 ∷ l) (drop_all (i + 1) s end))
    ∙ ap (prefixed bs) (spelt_odd (get_or s i 0))

pub spelt_all : (s bs : List ℕ) (i : ℕ) → length s ≤ i → prefixed bs (bytes_spelt (drop i s)) ≡ bytes_spelt s → bytes_spelt s ≡ Some bs
spelt_all s bs i h inv =
    sym inv
    ∙ ap (λ (l : List ℕ). prefixed bs (bytes_spelt l)) (drop_all i s h)
    ∙ ap (prefixed bs) spelt_none
    ∙ ap Some (append-nil bs)
