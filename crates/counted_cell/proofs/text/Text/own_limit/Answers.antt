use Rattle.std.proofs.Common.{◌≡◌, ℕ, List, map, take, drop, length, sym, ap, ◌∙◌, arith}
use Rattle.std.specs.Prelude.{Some}
use Rattle.std.specs.Int.{w64, from_le_bytes}
use Rattle.std.proofs.lemmas.List.{take_all}
use Rattle.counted_cell.specs.Text.{somes, length_in, text_in}
use Rattle.counted_cell.specs.declared.text.Text.{Text}
use Rattle.counted_cell.proofs.Texts.{part, lent, all-length, text-length, limit-length, own-limit}
use Rattle.counted_cell.proofs.text.Text.own_limit.Goals as goal

pub slice-bytes-requires : goal.slice-bytes-requires
slice-bytes-requires c =
    let t = c.args.self.now in let own = c.requires.own in let a = c.len.ensures in let b = text-length t in let d = all-length t in
    (c.requires.place, (omega (arith, a, b, d, own), (take 8 (drop c.len.result (somes t.places.slots)), part t.places.slots c.len.result 8 t.row)))

-- the bytes that were lent are the limit's
lent-limit : (t : Text) (n : ℕ) (ys : List ℕ) → n ≡ length (text_in t.sized (somes t.places.slots)) → take 8 (drop n t.places.slots) ≡ map Some ys → ys ≡ take 8 (drop (length_in t.sized) (somes t.places.slots))
lent-limit t n ys long at = lent t.places.slots n 8 ys t.row at ∙ ap (λ k. take 8 (drop k (somes t.places.slots))) (long ∙ text-length t)

pub unreachable-requires : goal.unreachable-requires
unreachable-requires c =
    let t = c.args.self.now in
    let eight : length c.slice-bytes.result.now ≡ 8 = ap length (lent-limit t c.len.result c.slice-bytes.result.now c.len.ensures c.slice-bytes.ensures) ∙ limit-length t c.requires.own in
    let short = c.in-None.ensures.cases in omega (arith, eight, short)

pub returns : goal.returns
returns c =
    let t = c.args.self.now in let ys = c.slice-bytes.result.now in
    let are = lent-limit t c.len.result ys c.len.ensures c.slice-bytes.ensures in
    let eight : length ys ≡ 8 = ap length are ∙ limit-length t c.requires.own in
    c.from_le_bytes.ensures ∙ ap (from_le_bytes w64) (c.in-Some.ensures.cases.same ∙ take_all 8 ys (omega (arith, eight)) ∙ are) ∙ sym (own-limit t c.requires.own)
