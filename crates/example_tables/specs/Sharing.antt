-- What is told about the holders of a word.
use Rattle.std.specs.Prelude.{◌≡◌, ℕ, ◌<◌, ◌⊎◌, ◌↔◌, Bool, false, IsTrue}
use Rattle.interner_table.specs.Map.{InternMap, IsHeldTicket, HasHolders}

-- whether more than one hold the word; false for a word that isn't a ticket that is held
abbrev pub TellsShared : InternMap → ℕ → Bool → Type 0
TellsShared m word told =
    ((holders : ℕ) × HasHolders m word holders × (IsTrue told ↔ (1 < holders)))
    ⊎ (¬ (IsHeldTicket m word) × (told ≡ false))
