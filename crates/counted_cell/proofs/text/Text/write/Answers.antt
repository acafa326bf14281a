use Rattle.std.proofs.Common.{◌≡◌, ℕ, ◌+◌, ◌<◌, ◌^◌, List, [], ◌++◌, length, map, replicate, sym, ap, ◌∙◌, subst, arith}
use Rattle.std.specs.Prelude.{Option, None, Some, IsUtf8}
use Rattle.std.specs.Int.{w64, to_le_bytes}
use Rattle.std.proofs.lemmas.List.{length-append, length-replicate}
use Rattle.counted_cell.specs.Text.{begun, limit_size, most_shares, ArePart}
use Rattle.counted_cell.proofs.Texts.{empty-of, front, back, whole, full, size-of-limit, alone-text, alone-row, limited-limit, limited-text, limited-row}
use Rattle.counted_cell.proofs.text.Text.write.Goals as goal

pub copy-requires-clause-empty : goal.copy-requires-clause-empty
copy-requires-clause-empty c =
    let xs = c.as_bytes-bytes.result.now in let zeros = replicate (limit_size c.args.limit) 0 in
    let a = ap length c.as_bytes-bytes.ensures.value in let b = length-replicate {A = ℕ} (limit_size c.args.limit) 0 in let d = length-append xs zeros in
    let long : length (xs ++ zeros) ≡ length c.args.text.now + limit_size c.args.limit = omega (arith, a, b, d) in
    (xs ++ zeros, empty-of (xs ++ zeros) c.args.places.slots (length c.args.text.now + limit_size c.args.limit) c.requires.room long, front xs zeros)

pub invariant_of-result : goal.invariant_of-result
invariant_of-result c =
    let xs = c.as_bytes-bytes.result.now in let cs = c.copy.new.places.slots in
    let same = c.as_bytes-bytes.ensures.value in let few : length xs < 2 ^ 63 = subst (λ (l : List ℕ). length l < 2 ^ 63) (sym same) c.requires.few in
    let n = length c.args.text.now + limit_size c.args.limit in
    let long : length xs ≡ n = let a = ap length same in let none = ap limit_size c.if-limit-eq-MOST_SHARES.true in omega (arith, a, none) in
    let all : cs ≡ map Some xs = full xs cs (0 + length xs) (c.copy.ensures.begun xs (empty-of xs c.args.places.slots n c.requires.room long) (whole xs)) (omega arith) in
    let row = alone-row cs xs few all in
    record { row = row.0; long = row.1; own = row.2; utf8 = subst IsUtf8 (sym (alone-text cs xs few all)) c.as_bytes-bytes.ensures.utf8 }

pub returns-then-limit-eq-MOST_SHARES-clause-text :
    goal.returns-then-limit-eq-MOST_SHARES-clause-text
returns-then-limit-eq-MOST_SHARES-clause-text c =
    let xs = c.as_bytes-bytes.result.now in let cs = c.copy.new.places.slots in
    let same = c.as_bytes-bytes.ensures.value in let few : length xs < 2 ^ 63 = subst (λ (l : List ℕ). length l < 2 ^ 63) (sym same) c.requires.few in
    let n = length c.args.text.now + limit_size c.args.limit in
    let long : length xs ≡ n = let a = ap length same in let none = ap limit_size c.if-limit-eq-MOST_SHARES.true in omega (arith, a, none) in
    let all : cs ≡ map Some xs = full xs cs (0 + length xs) (c.copy.ensures.begun xs (empty-of xs c.args.places.slots n c.requires.room long) (whole xs)) (omega arith) in
    alone-text cs xs few all ∙ same

module _ (xs text : List ℕ) (limit : ℕ) (cs new last : List (Option ℕ)) (same : xs ≡ text) (other : limit ≡ most_shares → ⊥) (room : cs ≡ replicate (length text + limit_size limit) None)
    (copied : (all : List ℕ) → cs ≡ begun all 0 → ArePart all 0 xs → new ≡ begun all (0 + length xs)) where
  -- the bytes of the text are there
  first : new ≡ begun (xs ++ to_le_bytes w64 limit) (length xs)
  first =
      let le = to_le_bytes w64 limit in let a = ap length same in let b = size-of-limit limit other in let d = length-append xs le in
      copied (xs ++ le) (empty-of (xs ++ le) cs (length text + limit_size limit) room (omega (arith, a, b, d))) (front xs le) ∙ ap (begun (xs ++ le)) (omega arith)

  -- and those of the limit
  both : (le : List ℕ) → le ≡ to_le_bytes w64 limit → ((all : List ℕ) → new ≡ begun all (length xs) → ArePart all (length xs) le → last ≡ begun all (length xs + length le)) → last ≡ map Some (xs ++ to_le_bytes w64 limit)
  both le is more =
      let all = xs ++ to_le_bytes w64 limit in let long = length-append xs (to_le_bytes w64 limit) in let l = ap length is in
      full all last (length xs + length le) (more all first (subst (ArePart all (length xs)) (sym is) (back xs (to_le_bytes w64 limit)))) (omega (arith, long, l))

pub copy-requires-2-clause-empty : goal.copy-requires-2-clause-empty
copy-requires-2-clause-empty c =
    let xs = c.as_bytes-bytes.result.now in let le = c.to_le_bytes.result in (
      xs ++ le,
      first xs c.args.text.now c.args.limit c.args.places.slots c.copy.new.places.slots [] c.as_bytes-bytes.ensures.value c.if-limit-eq-MOST_SHARES.false c.requires.room c.copy.ensures.begun
          ∙ ap (λ (l : List ℕ). begun (xs ++ l) (length xs)) (sym c.to_le_bytes.ensures),
      back xs le,
    )

pub invariant_of-result-2 : goal.invariant_of-result-2
invariant_of-result-2 c =
    let xs = c.as_bytes-bytes.result.now in let cs = c.copy-2.new.places.slots in let other = c.if-limit-eq-MOST_SHARES.false in
    let same = c.as_bytes-bytes.ensures.value in let few : length xs < 2 ^ 63 = subst (λ (l : List ℕ). length l < 2 ^ 63) (sym same) c.requires.few in
    let all = both xs c.args.text.now c.args.limit c.args.places.slots c.copy.new.places.slots cs same other c.requires.room c.copy.ensures.begun c.to_le_bytes.result c.to_le_bytes.ensures c.copy-2.ensures.begun in
    let row = limited-row cs xs c.args.limit few c.ranges.limit.fits other all in
    record { row = row.0; long = row.1; own = row.2; utf8 = subst IsUtf8 (sym (limited-text cs xs c.args.limit few c.ranges.limit.fits other all)) c.as_bytes-bytes.ensures.utf8 }

pub returns-clause-text : goal.returns-clause-text
returns-clause-text c =
    let xs = c.as_bytes-bytes.result.now in let cs = c.copy-2.new.places.slots in let other = c.if-limit-eq-MOST_SHARES.false in
    let same = c.as_bytes-bytes.ensures.value in let few : length xs < 2 ^ 63 = subst (λ (l : List ℕ). length l < 2 ^ 63) (sym same) c.requires.few in
    let all = both xs c.args.text.now c.args.limit c.args.places.slots c.copy.new.places.slots cs same other c.requires.room c.copy.ensures.begun c.to_le_bytes.result c.to_le_bytes.ensures c.copy-2.ensures.begun in
    limited-text cs xs c.args.limit few c.ranges.limit.fits other all ∙ same

pub returns-clause-limit : goal.returns-clause-limit
returns-clause-limit c =
    let xs = c.as_bytes-bytes.result.now in let cs = c.copy-2.new.places.slots in let other = c.if-limit-eq-MOST_SHARES.false in
    let same = c.as_bytes-bytes.ensures.value in let few : length xs < 2 ^ 63 = subst (λ (l : List ℕ). length l < 2 ^ 63) (sym same) c.requires.few in
    let all = both xs c.args.text.now c.args.limit c.args.places.slots c.copy.new.places.slots cs same other c.requires.room c.copy.ensures.begun c.to_le_bytes.result c.to_le_bytes.ensures c.copy-2.ensures.begun in
    limited-limit cs xs c.args.limit few c.ranges.limit.fits other all
