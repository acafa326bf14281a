use Rattle.std.proofs.Common.{◌<◌, ◌^◌, ◌+◌, ◌*◌, [], ◌∷◌, ◌++◌, ap, arith, get_or, length, sym, subst, ◌∙◌, take}
use Rattle.std.proofs.lemmas.List.{take_more}
use Rattle.table_generator.specs.TableText.{hex_digits}
use Rattle.table_generator.proofs.HexLemmas.{hex_at, hex_bound, hex_count, hex_fits, hex_more, hex_none}
use Rattle.table_generator.proofs.check.hash_of.Goals as goal

pub returns-in_default : goal.returns-in_default
returns-in_default c = λ n small is.
    let digit = hex_at 16 n c.loop-byte.byte-index (omega (arith, c.loop-byte-test.true, c.if-digits-ne16.false)) in
    c.in_default.ensures digit.0 digit.1 (ap (λ v. get_or v c.loop-byte.byte-index 0) is ∙ digit.2)

pub overflow_mul-number : goal.overflow_mul-number
overflow_mul-number c =
    let fits = hex_fits c.loop-byte.byte-index c.loop-byte.number c.in-Some.digit (omega (arith, c.loop-byte-test.true, c.if-digits-ne16.false)) c.in-Some.ensures.0 c.loop-byte.invariant.small in
    grind (arith, fits)

pub overflow_add-number : goal.overflow_add-number
overflow_add-number c =
    let fits = hex_fits c.loop-byte.byte-index c.loop-byte.number c.in-Some.digit (omega (arith, c.loop-byte-test.true, c.if-digits-ne16.false)) c.in-Some.ensures.0 c.loop-byte.invariant.small in
    grind (arith, fits, c.from.ensures)

pub loop-byte-preserved : goal.loop-byte-preserved
loop-byte-preserved c = record {
  read = take_more c.args.digits.now c.loop-byte.byte-index 0 c.loop-byte-test.true
      ∙ ap (λ b. take c.loop-byte.byte-index c.args.digits.now ++ (b ∷ [])) c.in-Some.ensures.1
      ∙ hex_more c.loop-byte.byte-index c.loop-byte.number c.in-Some.digit (take c.loop-byte.byte-index c.args.digits.now) c.in-Some.ensures.0 c.loop-byte.invariant.read
      ∙ ap (λ d. hex_digits (c.loop-byte.byte-index + 1) (c.loop-byte.number * 16 + d)) (sym c.from.ensures);
  small = subst (λ d. c.loop-byte.number * 16 + d < 16 ^ (c.loop-byte.byte-index + 1)) (sym c.from.ensures) (hex_bound c.loop-byte.byte-index c.loop-byte.number c.in-Some.digit c.in-Some.ensures.0 c.loop-byte.invariant.small);
}

pub returns-then-digits-ne16 : goal.returns-then-digits-ne16
returns-then-digits-ne16 c = λ n small is. c.if-digits-ne16.true (ap length is ∙ hex_count 16 n)

pub loop-byte-init : goal.loop-byte-init
loop-byte-init c = record { read = sym (hex_none 0); small = omega arith }
