use Rattle.std.proofs.Common.{rules}
use Rattle.code.proofs.Storing.{store_sound}
use Rattle.code.proofs.CodeStore.as_slice.Goals as goal

pub returns : goal.returns
returns c = record { value = search rules; sound = rw c.as_slice.ensures.value (store_sound c.args.self.now) }
