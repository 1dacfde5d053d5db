use Rattle.std.proofs.Common.{rules, ◌≡◌, ◌∙◌, ap, sym, ℕ, List, [], ◌∷◌, ℤ, pos, slice_index_or, of_calls, arith, length}
use Rattle.bodies.specs.Bodies.{tell}
use Rattle.bodies.proofs.telling.TellTaleBody.work.Goals as goal

-- A list of four, by its elements.
four :
    (xs : List ℤ) (x y z w : ℤ) → length xs ≡ 4
    → slice_index_or xs 0 (pos 0) ≡ x → slice_index_or xs 1 (pos 0) ≡ y → slice_index_or xs 2 (pos 0) ≡ z → slice_index_or xs 3 (pos 0) ≡ w
    → xs ≡ x ∷ y ∷ z ∷ w ∷ []
four (a ∷ b ∷ c ∷ d ∷ []) x y z w n p q r s = grind arith
four [] x y z w n p q r s = grind arith
four (a ∷ []) x y z w n p q r s = grind arith
four (a ∷ b ∷ []) x y z w n p q r s = grind arith
four (a ∷ b ∷ c ∷ []) x y z w n p q r s = grind arith
four (a ∷ b ∷ c ∷ d ∷ e ∷ l) x y z w n p q r s = grind arith

-- What is told of an output, by an equal number.
told_of : (t k j : ℕ) (ins : List ℤ) (y : ℤ) → k ≡ j → y ≡ tell t j ins → y ≡ tell t k ins
told_of t k j ins y e p = p ∙ ap (λ n. tell t n ins) (sym e)

pub returns : goal.returns
returns c =
    let t = c.args.task in
    let ins = c.args.inputs in
    let ran = c.map.ensures.items.each in
    let more = ran.6 in
    let most = more.6 in
    let all = most.6 in
    four c.map.result _ _ _ _ c.map.ensures.items.long
    (ran.4.1 (pos 0) ∙ told_of t 0 ran.1 ins _ (let e = ran.3.0 in omega arith) (let k = ran.5 in search (rules, of_calls)))
    (more.4.1 (pos 0) ∙ told_of t 1 more.1 ins _ (let e = more.3.0 in omega arith) (let k = more.5 in search (rules, of_calls)))
    (most.4.1 (pos 0) ∙ told_of t 2 most.1 ins _ (let e = most.3.0 in omega arith) (let k = most.5 in search (rules, of_calls)))
    (all.4.1 (pos 0) ∙ told_of t 3 all.1 ins _ (let e = all.3.0 in omega arith) (let k = all.5 in search (rules, of_calls)))
