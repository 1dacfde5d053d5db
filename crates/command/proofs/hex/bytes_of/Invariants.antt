use Rattle.std.proofs.Common.{◌≡◌, ◌*◌, drop, vec_items}
use Rattle.command.specs.Hex.{bytes_spelt}
use Rattle.command.proofs.Spelling.{prefixed}
use Rattle.command.proofs.hex.bytes_of.Given as goal

-- the bytes so far with those still to come are what the text spells
abbrev pub invariant-loop-high : goal.invariant-loop-high
invariant-loop-high l = prefixed (vec_items l.out) (bytes_spelt (drop (l.high-index * 2) l.text)) ≡ bytes_spelt l.text
