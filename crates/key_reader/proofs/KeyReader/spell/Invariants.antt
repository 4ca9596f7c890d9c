-- `KeyReader::spell` meets its contract: before each byte x and y are what the reader's key spells with the bytes before it behind it, and all
-- bytes are digits if those from it on are.
use Rattle.std.proofs.Common.{◌≡◌, ◌++◌, ◌-◌, length, take, drop}
use Rattle.quadkey.specs.Key.{all_digits_of, key_of, spelled}
use Rattle.key_reader.proofs.KeyReader.spell.Given as goal

abbrev pub invariant-loop-byte : goal.invariant-loop-byte
invariant-loop-byte l = record {
  digits : all_digits_of l.bytes ≡ all_digits_of (drop l.byte-index l.bytes);
  column : l.x ≡ spelled 0 (key_of l.initial.x l.initial.y (l.count - length l.bytes) ++ take l.byte-index l.bytes);
  row : l.y ≡ spelled 1 (key_of l.initial.x l.initial.y (l.count - length l.bytes) ++ take l.byte-index l.bytes);
}
