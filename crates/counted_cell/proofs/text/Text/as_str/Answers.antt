use Rattle.std.proofs.Common.{◌≡◌, ℕ, List, length, map, take, drop, sym, ap, ◌∙◌, subst, arith}
use Rattle.std.specs.Prelude.{IsUtf8, Some}
use Rattle.counted_cell.specs.Text.{somes, text_in}
use Rattle.counted_cell.specs.declared.text.Text.{Text}
use Rattle.counted_cell.proofs.Texts.{part, lent, all-length, text-length}
use Rattle.counted_cell.proofs.text.Text.as_str.Goals as goal

pub slice-requires : goal.slice-requires
slice-requires c =
    let t = c.args.self.now in let a = c.len.ensures in let b = text-length t in let d = all-length t in
    (c.requires, (omega (arith, a, b, d), (take c.len.result (somes t.places.slots), part t.places.slots 0 c.len.result t.row)))

-- the bytes that were lent are the text's
lent-text : (t : Text) (n : ℕ) (ys : List ℕ) → n ≡ length (text_in t.sized (somes t.places.slots)) → take n (drop 0 t.places.slots) ≡ map Some ys → ys ≡ text_in t.sized (somes t.places.slots)
lent-text t n ys long at = lent t.places.slots 0 n ys t.row at ∙ ap (λ k. take k (somes t.places.slots)) (long ∙ text-length t)

pub from_utf8_unchecked-requires : goal.from_utf8_unchecked-requires
from_utf8_unchecked-requires c = subst IsUtf8 (sym (lent-text c.args.self.now c.len.result c.slice.result.now c.len.ensures c.slice.ensures)) c.args.self.now.utf8

pub returns : goal.returns
returns c = c.from_utf8_unchecked.ensures ∙ lent-text c.args.self.now c.len.result c.slice.result.now c.len.ensures c.slice.ensures
