-- How what a map writes of a key is hashed under a key of SipHash.
use Rattle.std.specs.Prelude.{ℕ, ◌==◌, false, not, ◌&&◌, if◌then◌else◌, List, [], ◌∷◌, length}
use Rattle.std.specs.Str.{bytes_eq}
use Rattle.text_forms.specs.declared.sip_key.SipHasher.{SipHasher}
use Rattle.text_forms.specs.Phf.{absorb_all, sip13_of, start}

-- the hasher before anything is written, under the keys k0 and k1
unfoldable pub begun : ℕ → ℕ → SipHasher
begun k0 k1 = record { sip = start k0 k1; ends_text = false }

-- the hasher after one write: its bytes are taken in as a message, with their length. A text is ended by a write of the byte 255 alone. That adds
-- nothing behind a message of no bytes or of two or more, since the text's length was taken in. Anywhere else it is a message as any other.
unfoldable pub written : SipHasher → List ℕ → SipHasher
written h bytes =
    if h.ends_text && bytes_eq bytes (255 ∷ [])
    then record { sip = h.sip; ends_text = false }
    else record { sip = absorb_all 1 h.sip bytes; ends_text = not (length bytes == 1) }

-- the 64 bits that it gives
unfoldable pub hash_after : SipHasher → ℕ
hash_after h = sip13_of h.sip
