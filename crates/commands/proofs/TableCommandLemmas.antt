-- Which fault the tables had.
use Rattle.std.proofs.Common.{◌≡◌, ℕ, List, sym, subst}
use Rattle.std.specs.Prelude.{IfErr, Result, Err}
use Rattle.table_generator.specs.Generated.{TellsTables}
use Rattle.table_generator.specs.declared.tables.Tables.{Tables}
use Rattle.table_generator.specs.declared.tables.GenFault.{GenFault}
use Rattle.text_streams.specs.declared.faults.AppFault.{AppFault}
use Rattle.text_streams.specs.declared.faults.AppFault.TheVariants.{Gen}
use Rattle.commands.specs.Faults.{IsMakingFault}

-- a fault of the tables, told of the lines
pub told_fault : (texts lines : List (List ℕ)) (key bound : ℕ) (r : Result Tables GenFault) (g : GenFault) → TellsTables texts key bound r → r ≡ Err g → texts ≡ lines → TellsTables lines key bound (Err g)
told_fault texts lines key bound r g told is same = subst (λ (x : Result Tables GenFault). TellsTables lines key bound x) is (subst (λ (l : List (List ℕ)). TellsTables l key bound r) same told)

pub making_fault : {X : Type 0} (P : GenFault → Type 0) (r : Result X AppFault) (g : GenFault) → r ≡ Err (Gen g) → P g → IfErr r (IsMakingFault P)
making_fault {X} P r g is holds = subst (λ (x : Result X AppFault). IfErr x (IsMakingFault P)) (sym is) holds
