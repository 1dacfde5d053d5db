-- The openings and ends of all tasks, filled one by one.
use Rattle.std.proofs.Common.{◌≡◌, ℕ, suc, ◌+◌, ◌-◌, List, length, set, replicate, sym, refl, ap, ◌∙◌, add-one}
use Rattle.std.proofs.lemmas.List.{length-set}
use Rattle.tables.specs.Stations.{Station}
use Rattle.windows.specs.Windows.{opening_by, end_by, openings_to, ends_to}

pub openings_start : (s : Station) → openings_to s 0 ≡ replicate 64 0
unfolding openings_to
openings_start s = refl

pub openings_more :
    (s : Station) (known : List ℕ) (n x : ℕ) → (known ≡ openings_to s n) × (length known ≡ 64) → x ≡ opening_by s known n
    → (set known n x ≡ openings_to s (n + 1)) × (length (set known n x) ≡ 64)
unfolding openings_to
openings_more s known n x h e = (
  ap (set known n) e ∙ ap (λ k. set k n (opening_by s k n)) h.0 ∙ ap (openings_to s) (sym (add-one n)),
  length-set known n x ∙ h.1,
)

pub ends_start : (s : Station) → ends_to s 0 ≡ replicate 64 0
unfolding ends_to
ends_start s = refl

pub ends_more :
    (s : Station) (known : List ℕ) (n t x : ℕ) → (known ≡ ends_to s n) × (length known ≡ 64) → t ≡ length s.tasks - suc n → x ≡ end_by s known t
    → (set known t x ≡ ends_to s (n + 1)) × (length (set known t x) ≡ 64)
unfolding ends_to
ends_more s known n t x h w e = (
  ap (set known t) e
      ∙ ap (λ k. set k t (end_by s k t)) h.0
      ∙ ap (λ u. set (ends_to s n) u (end_by s (ends_to s n) u)) w
      ∙ ap (ends_to s) (sym (add-one n)),
  length-set known t x ∙ h.1,
)
