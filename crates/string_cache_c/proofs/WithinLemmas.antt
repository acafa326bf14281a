-- What holds of a table that is taken out and put back, or lent, holds of the handle.
use Rattle.std.proofs.Common.{◌≡◌, sym, subst}
use Rattle.std.specs.Prelude.{Option, Some}
use Rattle.interner_table.specs.Kept.{Kept}
use Rattle.string_cache_c.specs.Calls.{IfOpen, Within}
use Rattle.string_cache_c.specs.declared.numbered_table.NumberedTable.{NumberedTable}

-- of one that is changed
pub within : (P : Kept → Kept → Type 0) (old new : Option NumberedTable) (was had own : NumberedTable) → old ≡ Some was → had ≡ was → new ≡ Some own → P had.table own.table → Within old new P
within P old new was had own e h f p =
    subst (λ (o : Option NumberedTable). Within o new P) (sym e) (subst (λ (n : Option NumberedTable). Within (Some was) n P) (sym f) (subst (λ (w : NumberedTable). P w.table own.table) h p))

-- of one that is lent
pub if_open : (P : Kept → Type 0) (o : Option NumberedTable) (own : NumberedTable) → o ≡ Some own → P own.table → IfOpen o P
if_open P o own e p = subst (λ (y : Option NumberedTable). IfOpen y P) (sym e) p
