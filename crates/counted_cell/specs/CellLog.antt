-- A log of cells, which only grows: what the right to add to it owns, and what whoever has seen it owns.
use Rattle.std.specs.Prelude.{refl, ℕ, List, [], ◌∷◌}
use Rattle.std.specs.Coded.{Coded, code_by, coded×, coded_ℕ, coded_list}
use base.Fraction.{full_share}
use base.Fml.{Fml, ftrue, fsep, fdead}
use base.Growing.{Order, prefixes, latest, at_least}
use Rattle.counted_cell.specs.Counting.{CellName, cell_name_coded}

-- an entry of a log: a cell, by its text, its ticket and its name, which no other cell has
pub record Entry : Type 0 where
  pub text : List ℕ
  pub ticket : ℕ
  pub name : CellName

-- entries are coded as plain data
abbrev pub entry_coded : Coded Entry
entry_coded = code_by (List ℕ × (ℕ × CellName)) (coded× (coded_list coded_ℕ) (coded× coded_ℕ cell_name_coded)) (λ e. (e.text, (e.ticket, e.name))) (λ p. record { text = p.0; ticket = p.1.0; name = p.1.1 }) (λ _. refl)

-- a log goes from one list of entries to another that begins with it
abbrev pub rows : Order (List Entry)
rows = prefixes entry_coded

-- no share of these cells is left, and none ever will be
abbrev pub all_gone : List CellName → Fml
all_gone [] = ftrue
all_gone (t ∷ ts) = fsep (fdead (t.share_life ∷ [])) (all_gone ts)

-- the right to add to the log with this name: what it is now, and which of its cells are gone
abbrev pub log_owns : ℕ → List Entry → List CellName → Fml
log_owns γ es gone = fsep (latest rows full_share γ es) (all_gone gone)

-- what was seen of it: it begins with these entries, and these cells are gone
abbrev pub seen_owns : ℕ → List Entry → List CellName → Fml
seen_owns γ es gone = fsep (at_least rows γ es) (all_gone gone)
