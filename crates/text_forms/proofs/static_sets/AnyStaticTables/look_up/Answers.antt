use Rattle.std.proofs.Common.{◌≡◌, ℕ, List, length, sym, ap, ◌∙◌}
use Rattle.std.specs.Borrow.{Bor}
use Rattle.std.proofs.lemmas.List.{length-map}
use Rattle.text_forms.proofs.TableLemmas.{looked_up, hashed_as}
use Rattle.text_forms.proofs.static_sets.AnyStaticTables.look_up.Goals as goal

pub returns-clause-place : goal.returns-clause-place
returns-clause-place g c =
    let set = c.get-set.result.now in
    let t = g.S.StaticAtomSet.tables in
    let count : length set.atoms.now ≡ length t.atoms = sym (length-map set.atoms.now (λ (text : Bor (List ℕ)). text.now)) ∙ ap (λ u. length u.atoms) c.get-set.ensures in
    looked_up t c.args.text.now set.key (ap (λ u. u.key) c.get-set.ensures) c.hash-hashes.result c.hash-hashes.ensures set.disps.now (length set.atoms.now) c.place-index.result (ap (λ u. u.disps) c.get-set.ensures) count c.place-index.ensures.place

pub returns-clause-hash : goal.returns-clause-hash
returns-clause-hash g c =
    let set = c.get-set.result.now in
    c.entry_hash.ensures ∙ hashed_as g.S.StaticAtomSet.tables c.args.text.now set.key (ap (λ u. u.key) c.get-set.ensures) c.hash-hashes.result c.hash-hashes.ensures
