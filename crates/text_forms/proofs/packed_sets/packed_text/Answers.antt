use Rattle.std.proofs.Common.{◌≡◌, ◌∙◌, true, sym, rules}
use Rattle.std.specs.Str.{IsUtf8}
use Rattle.text_forms.specs.Packed.{are_cut}
use Rattle.text_forms.proofs.PackedLemmas.{stands, cut_at}
use Rattle.text_forms.proofs.packed_sets.packed_text.Goals as goal

pub piece-requires-clause-ordered : goal.piece-requires-clause-ordered
piece-requires-clause-ordered g c =
    let set = c.get-set.result in
    let utf8 : IsUtf8 set.text.now = search rules in
    let cut : are_cut 0 set.spans.now set.text.now ≡ true = (λ i. are_cut 0 (c.get-set.ensures.spans i) (c.get-set.ensures.text i)) ∙ g.met.P.PackedAtomSet.cut in
    (cut_at g.P.PackedAtomSet.tables set.key set.disps.now set.text.now set.spans.now set.hashes.now c.get-set.ensures.tables utf8 cut c.args.index c.requires).ordered

pub piece-requires-clause-begins : goal.piece-requires-clause-begins
piece-requires-clause-begins g c =
    let set = c.get-set.result in
    let utf8 : IsUtf8 set.text.now = search rules in
    let cut : are_cut 0 set.spans.now set.text.now ≡ true = (λ i. are_cut 0 (c.get-set.ensures.spans i) (c.get-set.ensures.text i)) ∙ g.met.P.PackedAtomSet.cut in
    (cut_at g.P.PackedAtomSet.tables set.key set.disps.now set.text.now set.spans.now set.hashes.now c.get-set.ensures.tables utf8 cut c.args.index c.requires).begins

pub piece-requires-clause-ends : goal.piece-requires-clause-ends
piece-requires-clause-ends g c =
    let set = c.get-set.result in
    let utf8 : IsUtf8 set.text.now = search rules in
    let cut : are_cut 0 set.spans.now set.text.now ≡ true = (λ i. are_cut 0 (c.get-set.ensures.spans i) (c.get-set.ensures.text i)) ∙ g.met.P.PackedAtomSet.cut in
    (cut_at g.P.PackedAtomSet.tables set.key set.disps.now set.text.now set.spans.now set.hashes.now c.get-set.ensures.tables utf8 cut c.args.index c.requires).ends

pub returns : goal.returns
returns g c =
    let set = c.get-set.result in
    c.piece.ensures ∙ sym (stands g.P.PackedAtomSet.tables set.key set.disps.now set.text.now set.spans.now set.hashes.now c.get-set.ensures.tables c.args.index (0, 0) c.requires)
