use Rattle.std.proofs.Common.{◌≡◌, ◌<◌, ◌^◌, take}
use Rattle.table_generator.specs.TableText.{hex_digits}
use Rattle.table_generator.proofs.check.hash_of.Given as goal

abbrev pub invariant-loop-byte : goal.invariant-loop-byte
invariant-loop-byte l = record {
  read : take l.byte-index l.digits ≡ hex_digits l.byte-index l.number;
  small : l.number < 16 ^ l.byte-index;
}
