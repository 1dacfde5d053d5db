use Rattle.std.proofs.Common.{◌≡◌, false, length, is_ok, Decides, sym, refl, subst, rules}
use Rattle.code.specs.Promises.{Sound}
use Rattle.code.proofs.Storing.{sound_unbroken, broken_unsound}
use Rattle.code.proofs.CodeStore.new.Goals as goal

pub returns-in_err-unbroken-clause-sound : goal.returns-in_err-unbroken-clause-sound
returns-in_err-unbroken-clause-sound c =
    let refused : is_ok c.from_residual.result ≡ false = search rules in
    subst (λ b. Decides b (Sound (length c.args.code.now) c.args.code.now)) (sym refused) (broken_unsound (length c.args.code.now) c.args.code.now c.in_err-unbroken.ensures.0 (λ _. refl) c.in_err-unbroken.ensures.1)

pub returns-clause-sound : goal.returns-clause-sound
returns-clause-sound c = ((λ _. sound_unbroken (length c.args.code.now) c.args.code.now (λ _. refl) c.in_ok-unbroken.ensures), (λ _. refl))
