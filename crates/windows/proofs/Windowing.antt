-- Openings and ends as they are known to a station's author: each by those of the tasks beside it.
use Rattle.std.proofs.Common.{◌≡◌, ℕ, zero, suc, ◌+◌, ◌-◌, ◌<◌, ◌≤◌, eqb, length, get_or, set, sym, refl, ap, ◌∙◌, inl, inr, arith}
use Rattle.std.proofs.lemmas.List.{get_or-set_same, get_or-set_other, length-set}
use Rattle.std.proofs.lemmas.Bool.{cases_eq, eqb-true}
use Rattle.tables.specs.Stations.{Station}
use Rattle.lookups.specs.Lookups.{dependency_at}
use Rattle.lookups.specs.Searches.{largest, smallest}
use Rattle.lookups.proofs.Listing.{largest_list, smallest_list}
use Rattle.lookups.proofs.Searching.{largest_same, smallest_same}
use Rattle.windows.specs.Windows.{release_offset, write_offset, opening_by, end_by, openings_to, ends_to, opening, end}

openings_long : (s : Station) (n : ℕ) → length (openings_to s n) ≡ 64
unfolding openings_to
openings_long s zero = refl
openings_long s (suc n) = length-set (openings_to s n) n _ ∙ openings_long s n

ends_long : (s : Station) (n : ℕ) → length (ends_to s n) ≡ 64
unfolding ends_to
ends_long s zero = refl
ends_long s (suc n) = length-set (ends_to s n) _ _ ∙ ends_long s n

-- an opening once filled in stays
opening_final : (s : Station) (n t : ℕ) → t < n → n ≤ 64 → get_or (openings_to s n) t 0 ≡ opening_by s (openings_to s t) t
unfolding openings_to
opening_final s zero t h k = absurd (omega arith)
opening_final s (suc n) t h k =
    let v = opening_by s (openings_to s n) n in
    elim (cases_eq t n) [
      | inl e ↦
          let inside : n < length (openings_to s n) = omega (arith, openings_long s n) in
          ap (λ x. get_or (set (openings_to s n) n v) x 0) e ∙ get_or-set_same (openings_to s n) n v 0 inside ∙ ap (λ x. opening_by s (openings_to s x) x) (sym e)
      | inr ne ↦ get_or-set_other (openings_to s n) n t v 0 ne ∙ opening_final s n t (omega arith) (omega arith)
    ]

-- an end once filled in stays
end_final :
    (s : Station) (n t : ℕ) → t < length s.tasks → length s.tasks ≤ n + t → n ≤ length s.tasks → length s.tasks ≤ 64
    → get_or (ends_to s n) t 0 ≡ end_by s (ends_to s (length s.tasks - suc t)) t
unfolding ends_to
end_final s zero t h l k m = absurd (omega arith)
end_final s (suc n) t h l k m =
    let at = length s.tasks - suc n in
    let v = end_by s (ends_to s n) at in
    elim (cases_eq t at) [
      | inl e ↦
          let inside : at < length (ends_to s n) = omega (arith, ends_long s n) in
          let step : length s.tasks - suc t ≡ n = omega arith in
          ap (λ x. get_or (set (ends_to s n) at v) x 0) e
          ∙ get_or-set_same (ends_to s n) at v 0 inside
          ∙ ap (end_by s (ends_to s n)) (sym e)
          ∙ ap (λ x. end_by s (ends_to s x) t) (sym step)
      | inr ne ↦ get_or-set_other (ends_to s n) at t v 0 ne ∙ end_final s n t h (omega arith) (omega arith) m
    ]

-- every dependency ascends within the tasks
abbrev pub Ascend : Station → Type 0
Ascend s = (j : ℕ) → j < length s.dependencies → ((dependency_at s j).task < (dependency_at s j).to) × ((dependency_at s j).to < length s.tasks)

pub opening_is :
    (s : Station) → Ascend s → length s.tasks ≤ 64 → (t : ℕ) → t < length s.tasks
    → opening s t ≡ largest (λ j. eqb (dependency_at s j).to t) (λ j. opening s (dependency_at s j).task) (release_offset s t) (length s.dependencies)
opening_is s up few t h =
    opening_final s (length s.tasks) t h few
    ∙ largest_list (λ d. eqb d.to t) (λ d. get_or (openings_to s t) d.task 0) _ (release_offset s t) s.dependencies
    ∙ largest_same (λ j. eqb (dependency_at s j).to t) (λ j. get_or (openings_to s t) (dependency_at s j).task 0) (λ j. opening s (dependency_at s j).task) (release_offset s t) (length s.dependencies)
    (λ j l e.
    let u = (dependency_at s j).task in
    let a = up j l in
    let to = eqb-true (dependency_at s j).to t e in
    let low : u < t = omega arith in
    opening_final s t u low (omega arith) ∙ sym (opening_final s (length s.tasks) u (omega arith) few))

pub end_is :
    (s : Station) → Ascend s → length s.tasks ≤ 64 → (t : ℕ) → t < length s.tasks
    → end s t ≡ smallest (λ j. eqb (dependency_at s j).task t) (λ j. end s (dependency_at s j).to) (write_offset s t) (length s.dependencies)
end_is s up few t h =
    let n = length s.tasks in
    end_final s n t h (omega arith) (omega arith) few
    ∙ smallest_list (λ d. eqb d.task t) (λ d. get_or (ends_to s (n - suc t)) d.to 0) _ (write_offset s t) s.dependencies
    ∙ smallest_same (λ j. eqb (dependency_at s j).task t) (λ j. get_or (ends_to s (n - suc t)) (dependency_at s j).to 0) (λ j. end s (dependency_at s j).to) (write_offset s t) (length s.dependencies)
    (λ j l e.
    let u = (dependency_at s j).to in
    let a = up j l in
    let from = eqb-true (dependency_at s j).task t e in
    let high : t < u = omega arith in
    end_final s (n - suc t) u a.1 (omega (arith, a.1)) (omega arith) few ∙ sym (end_final s n u a.1 (omega arith) (omega arith) few))
