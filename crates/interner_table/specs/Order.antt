-- The order of the texts that a table holds, told by their tickets.
use Rattle.std.specs.Prelude.{◌≡◌, ℕ, ◌⊎◌, [], ◌∷◌, ◌++◌, slice_get, Some}
use Rattle.std.specs.List.{swap_remove}
use Rattle.interner_table.specs.Kept.{Kept, tickets_of}

-- the ticket is at the place
abbrev pub StandsAt : Kept → ℕ → ℕ → Type 0
StandsAt kept ticket at = slice_get (tickets_of kept.pairs) at ≡ Some ticket

-- A new ticket goes to the end, and no other moves.
abbrev pub ComesLast : Kept → ℕ → Kept → Type 0
ComesLast old ticket new =
    (tickets_of new.pairs ≡ tickets_of old.pairs) ⊎ (tickets_of new.pairs ≡ tickets_of old.pairs ++ ticket ∷ [])

-- If the ticket goes, the last one takes its place, and no other moves.
abbrev pub GoesFrom : Kept → ℕ → Kept → Type 0
GoesFrom old ticket new =
    (tickets_of new.pairs ≡ tickets_of old.pairs)
    ⊎ ((at : ℕ) × StandsAt old ticket at × (tickets_of new.pairs ≡ swap_remove (tickets_of old.pairs) at ticket))
