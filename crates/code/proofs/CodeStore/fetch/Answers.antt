use Rattle.std.proofs.Common.{◌≡◌, get_or, rules}
use Rattle.std.proofs.lemmas.Option.{unwrap_or-slice_get}
use Rattle.code.specs.declared.instructions.Instruction.TheVariants.{Return}
use Rattle.code.specs.Stores.{instructions}
use Rattle.code.proofs.Storing.{store_sound, sound_within, sound_goes_on}
use Rattle.code.proofs.CodeStore.fetch.Goals as goal

pub returns : goal.returns
returns c =
    let value : c.unwrap_or.result ≡ get_or (instructions c.args.self.now) c.args.at Return = search (rules, unwrap_or-slice_get) in
    record {
      value = value;
      within = rw value (sound_within (instructions c.args.self.now) c.args.at (store_sound c.args.self.now));
      next = rw value (sound_goes_on (instructions c.args.self.now) c.args.at (store_sound c.args.self.now));
    }
