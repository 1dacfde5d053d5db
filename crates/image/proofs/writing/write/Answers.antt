use Rattle.std.proofs.Common.{◌≡◌, ◌++◌, length, drop, ap, rules}
use Rattle.code.specs.Stores.{instructions}
use Rattle.code.proofs.Storing.{store_sound}
use Rattle.image.specs.Images.{image_length, image_of}
use Rattle.image.proofs.Backs.{buffer_back, read_back, one_code}
use Rattle.image.proofs.writing.write.Goals as goal

pub returns-then-buffer-needed-clause-laws : goal.returns-then-buffer-needed-clause-laws
returns-then-buffer-needed-clause-laws c = (read_back, one_code)

pub returns : goal.returns
returns c =
    record {
      value = search rules;
      back =
          let left : c.put_cells.new.buffer ≡ image_of (instructions c.args.store.now) ++ drop (image_length (length (instructions c.args.store.now))) c.args.buffer.now = search rules in
          buffer_back _ (instructions c.args.store.now) c.put_cells.new.buffer (drop (image_length (length (instructions c.args.store.now))) c.args.buffer.now) (store_sound c.args.store.now) (ap image_length c.len-count.ensures.count) left;
      laws = (read_back, one_code);
    }
