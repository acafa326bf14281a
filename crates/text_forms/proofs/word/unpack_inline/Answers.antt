use Rattle.std.proofs.Common.{◌≡◌, ◌/◌, ◌%◌, ◌≤◌, ℕ, List, [], true, length, length-drop, length-take, eqb, take, drop, refl, sym, ap, subst, ◌∙◌, arith, rules, tests, get_or}
use Rattle.std.specs.Str.{IsUtf8}
use Rattle.std.specs.List.{list_all}
use Rattle.std.proofs.lemmas.Bool.{false≢true}
use Rattle.std.proofs.lemmas.Iterator.{YieldsList-from_slice}
use Rattle.std.proofs.lemmas.Iterator.Search.{all_from_yields_List}
use Rattle.text_forms.specs.InlineText.{IsPadded}
use Rattle.text_forms.specs.Word.{IsInlineWord}
use Rattle.text_forms.proofs.words.Unpacking.{ascii-utf8, held, others, unpacked, zeros_behind, zeros-inline, utf8-inline}
use Rattle.text_forms.proofs.word.unpack_inline.Goals as goal

pub returns-then-not-all-clause-inline : goal.returns-then-not-all-clause-inline
returns-then-not-all-clause-inline c =
    let le = c.to_le_bytes-bytes.result in
    let behind = c.split_at.result.1.now in
    let test : c.all.result ≡ list_all (λ x. eqb x 0) behind = all_from_yields_List (λ x. eqb x 0) _ _ c.all.result c.all.ensures.ran (YieldsList-from_slice behind cc) (λ x b q k. search (rules, tests)) in
    let size : length le ≡ 8 = ap length c.to_le_bytes-bytes.ensures in
    let refused : IsInlineWord c.args.word → ⊥ = λ inline. false≢true (sym c.if-not-all.true ∙ test ∙ ap (list_all (λ x. eqb x 0)) (c.split_at.ensures.back ∙ ap (drop (get_or le 0 0 / 16)) (others le size)) ∙ zeros-inline c.args.word le c.to_le_bytes-bytes.ensures inline) in
    (λ e. absurd (false≢true e), λ inline. absurd (refused inline))

-- the bytes of a text of n bytes: its length, the text, and zeros
padded : (le behind : List ℕ) → length le ≡ 8 → get_or le 0 0 % 16 ≡ 1 → get_or le 0 0 / 16 ≤ 7 → behind ≡ drop (get_or le 0 0 / 16) (take 7 (drop 1 le)) → list_all (λ x. eqb x 0) behind ≡ true
    → IsUtf8 (take (get_or le 0 0 / 16) (drop 1 le)) → IsPadded (record { align = []; bytes = le })
padded le behind size tag short back test utf8 =
    let n = get_or le 0 0 / 16 in
    let zeros = zeros_behind (drop 1 le) behind n (back ∙ ap (drop n) (others le size)) (omega (arith, length-drop 1 le)) test in
    ((utf8, omega (arith, length-take n (drop 1 le))), refl, held le n size (omega arith) (omega arith) zeros)

pub invariant_of-result : goal.invariant_of-result
invariant_of-result c =
    let le = c.to_le_bytes-bytes.result in
    let behind = c.split_at.result.1.now in
    let test : c.all.result ≡ list_all (λ x. eqb x 0) behind = all_from_yields_List (λ x. eqb x 0) _ _ c.all.result c.all.ensures.ran (YieldsList-from_slice behind cc) (λ x b q k. search (rules, tests)) in
    padded le behind (ap length c.to_le_bytes-bytes.ensures) (omega arith) (omega arith) c.split_at.ensures.back (sym test ∙ c.if-not-all.false)
    (ascii-utf8 le (get_or le 0 0 / 16) (c.are_ascii.ensures c.if-are_ascii.true))

pub returns-then-are_ascii-clause-text : goal.returns-then-are_ascii-clause-text
returns-then-are_ascii-clause-text c =
    let le = c.to_le_bytes-bytes.result in
    let whole = invariant_of-result c in
    (whole.0, unpacked c.args.word le (take (get_or le 0 0 / 16) (drop 1 le)) c.ranges.word.fits c.to_le_bytes-bytes.ensures whole.0.1 whole.2)

pub returns-then-are_ascii-clause-inline : goal.returns-then-are_ascii-clause-inline
returns-then-are_ascii-clause-inline c =
    let le = c.to_le_bytes-bytes.result in
    let text = returns-then-are_ascii-clause-text c in
    (λ _. (take (get_or le 0 0 / 16) (drop 1 le), text.0, text.1), λ _. refl)

pub invariant_of-result-in-Ok : goal.invariant_of-result-in-Ok
invariant_of-result-in-Ok c =
    let le = c.to_le_bytes-bytes.result in
    let size : length le ≡ 8 = ap length c.to_le_bytes-bytes.ensures in
    let behind = c.split_at.result.1.now in
    let test : c.all.result ≡ list_all (λ x. eqb x 0) behind = all_from_yields_List (λ x. eqb x 0) _ _ c.all.result c.all.ensures.ran (YieldsList-from_slice behind cc) (λ x b q k. search (rules, tests)) in
    padded le behind size (omega arith) (omega arith) c.split_at.ensures.back (sym test ∙ c.if-not-all.false)
    (subst IsUtf8 (c.split_at.ensures.front ∙ ap (take (get_or le 0 0 / 16)) (others le size)) c.in-Ok.ensures.cases.1)

pub returns-in-Ok-clause-text : goal.returns-in-Ok-clause-text
returns-in-Ok-clause-text c =
    let le = c.to_le_bytes-bytes.result in
    let whole = invariant_of-result-in-Ok c in
    (whole.0, unpacked c.args.word le (take (get_or le 0 0 / 16) (drop 1 le)) c.ranges.word.fits c.to_le_bytes-bytes.ensures whole.0.1 whole.2)

pub returns-in-Ok-clause-inline : goal.returns-in-Ok-clause-inline
returns-in-Ok-clause-inline c =
    let le = c.to_le_bytes-bytes.result in
    let text = returns-in-Ok-clause-text c in
    (λ _. (take (get_or le 0 0 / 16) (drop 1 le), text.0, text.1), λ _. refl)

pub returns-in-Err-clause-inline : goal.returns-in-Err-clause-inline
returns-in-Err-clause-inline c =
    let le = c.to_le_bytes-bytes.result in
    let size : length le ≡ 8 = ap length c.to_le_bytes-bytes.ensures in
    let front = c.split_at.ensures.front ∙ ap (take (get_or le 0 0 / 16)) (others le size) in
    (λ e. absurd (false≢true e), λ inline. absurd (c.in-Err.ensures.cases.0 (subst IsUtf8 (sym front) (utf8-inline c.args.word le c.to_le_bytes-bytes.ensures inline))))
