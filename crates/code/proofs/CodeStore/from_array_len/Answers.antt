use Rattle.std.proofs.Common.{◌≡◌, false, length, map, take, is_ok, Some, None, Decides, sym, refl, ap, ◌∙◌, subst, arith, rules}
use Rattle.std.proofs.lemmas.List.{length-take-le}
use Rattle.code.specs.Rules.{broken}
use Rattle.code.specs.Words.{word_of}
use Rattle.code.specs.Promises.{Sound}
use Rattle.code.proofs.Storing.{sound_unbroken, broken_unsound}
use Rattle.code.proofs.CodeStore.from_array_len.Goals as goal

pub returns-in_err-unbroken-clause-sound : goal.returns-in_err-unbroken-clause-sound
returns-in_err-unbroken-clause-sound c =
    let count : length (take c.args.len c.args.code) ≡ c.args.len = length-take-le c.args.len c.args.code (omega arith) in
    let refused : is_ok c.from_residual.result ≡ false = search rules in
    let bad : broken c.args.len (map word_of (take c.args.len c.args.code)) ≡ Some c.in_err-unbroken.ensures.0 = ap (λ n. broken n (map word_of (take c.args.len c.args.code))) (sym count) ∙ c.in_err-unbroken.ensures.1 in
    subst (λ b. Decides b (Sound c.args.len (take c.args.len c.args.code))) (sym refused) (broken_unsound c.args.len (take c.args.len c.args.code) c.in_err-unbroken.ensures.0 (λ _. count) bad)

pub returns-clause-sound : goal.returns-clause-sound
returns-clause-sound c =
    let count : length (take c.args.len c.args.code) ≡ c.args.len = length-take-le c.args.len c.args.code (omega arith) in
    let good : broken c.args.len (map word_of (take c.args.len c.args.code)) ≡ None = ap (λ n. broken n (map word_of (take c.args.len c.args.code))) (sym count) ∙ c.in_ok-unbroken.ensures in
    ((λ _. sound_unbroken c.args.len (take c.args.len c.args.code) (λ _. count) good), (λ _. refl))
