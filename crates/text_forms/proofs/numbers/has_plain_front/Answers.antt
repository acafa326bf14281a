use Rattle.std.proofs.Common.{rules, ◌≡◌, Bool, true, false, nat_eq, length, eq-eqb}
use Rattle.std.specs.Bool.{OnFalse}
use Rattle.text_forms.proofs.NumberLemmas.{no_number-sign, no_number-zero}
use Rattle.text_forms.proofs.numbers.has_plain_front.Goals as goal

pub returns-then-first-eq43-clause-other : goal.returns-then-first-eq43-clause-other
returns-then-first-eq43-clause-other c = no_number-sign c.args.bytes.now (search rules)

pub returns-else-first-ne48-clause-other : goal.returns-else-first-ne48-clause-other
returns-else-first-ne48-clause-other c = not_one (nat_eq (length c.args.bytes.now) 1) (eq-eqb _ _) (no_number-zero c.args.bytes.now (search rules))
  where
    not_one : {P : Type 0} {A : Type 0} (b : Bool) → (A → b ≡ true) → ((A → ⊥) → P) → OnFalse b P
    not_one true f g = tt
    not_one false f g = g (λ a. let e = f a in cc)
