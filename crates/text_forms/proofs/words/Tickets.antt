-- What a ticket says of its bucket and its serial.
use Rattle.std.proofs.Common.{◌≡◌, arith, ℕ, ◌<◌}
use Rattle.text_forms.specs.Layout.{most_buckets}
use Rattle.text_forms.specs.Word.{ticket_of}

-- equal tickets are of one bucket and one serial
pub ticket_of-same : (b c s t : ℕ) → b < most_buckets → c < most_buckets → ticket_of s b ≡ ticket_of t c → (b ≡ c) × (s ≡ t)
ticket_of-same b c s t hb hc e = (omega arith, omega arith)
