use Rattle.std.proofs.Common.{length, sym, ap, ◌∙◌}
use Rattle.text_forms.proofs.TableLemmas.{looked_up, hashed_as}
use Rattle.text_forms.proofs.PackedLemmas.{count}
use Rattle.text_forms.proofs.packed_sets.PackedStaticTables.look_up.Goals as goal

pub returns-clause-place : goal.returns-clause-place
returns-clause-place g c =
    let set = c.get-set.result in
    let t = g.P.PackedAtomSet.tables in
    let is = c.get-set.ensures.tables in
    looked_up t c.args.text.now set.key (ap (λ u. u.key) is) c.hash-hashes.result c.hash-hashes.ensures set.disps.now (length set.spans.now) c.place-index.result (ap (λ u. u.disps) is)
    (sym (count t set.key set.disps.now set.text.now set.spans.now set.hashes.now is)) c.place-index.ensures.place

pub returns-clause-hash : goal.returns-clause-hash
returns-clause-hash g c =
    let set = c.get-set.result in
    c.entry_hash.ensures ∙ hashed_as g.P.PackedAtomSet.tables c.args.text.now set.key (ap (λ u. u.key) c.get-set.ensures.tables) c.hash-hashes.result c.hash-hashes.ensures
