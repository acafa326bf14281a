-- Terms of the table's private contracts: where a text and a ticket are.
use Rattle.std.specs.Prelude.{◌≡◌, ℕ, ◌<◌, List, Some, length, slice_get}
use Rattle.text_forms.specs.Map.{Holding}
use Rattle.interner_table.specs.Kept.{Kept, map_of}

-- the text is at the place
pub record IsFound (kept : Kept) (text : List ℕ) (at : ℕ) (had : Holding) : Type 0 where
  pub there : slice_get kept.pairs at ≡ Some (text, had)
  pub held : (map_of kept).held text ≡ Some had

-- the ticket is at the place
pub record IsPlace (kept : Kept) (ticket at : ℕ) : Type 0 where
  pub text : List ℕ
  pub holders : ℕ
  pub within : at < length kept.pairs
  pub found : IsFound kept text at (record { ticket = ticket; holders = holders })
  pub some : 0 < holders
