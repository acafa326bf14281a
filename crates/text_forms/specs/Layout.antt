-- The layout of words in numbers, and the bounds that it sets. A ticket has its tag in bits 0 and 1, then the bucket, and then the serial, which
-- begins at the bit of the unit.
use Rattle.std.specs.Prelude.{ℕ, ◌^◌}

-- the bits of a ticket that hold the bucket: the most bits that a number of buckets may have
abbrev pub most_bits : ℕ
most_bits = 14

-- the most buckets that tickets can tell apart
abbrev pub most_buckets : ℕ
most_buckets = 2 ^ most_bits

-- the bits of a number of buckets, if no other is chosen
abbrev pub usual_bits : ℕ
usual_bits = 12

-- as many buckets as there are if no other number is chosen: 4096
abbrev pub usual_buckets : ℕ
usual_buckets = 2 ^ usual_bits

-- the difference between two tickets that a bucket gives one after the other
abbrev pub ticket_unit : ℕ
ticket_unit = 2 ^ 16

-- serials are below this
abbrev pub serial_bound : ℕ
serial_bound = 2 ^ 48

-- numbers of holders are below this
abbrev pub holder_bound : ℕ
holder_bound = 2 ^ 63
