use Rattle.std.proofs.Common.{◌≡◌, ◌≢◌, ◌<◌, ◌^◌, [], ◌∙◌, ap, length, rules, subst, sym}
use Rattle.std.proofs.lemmas.Bool.{eqb-false, eqb-true, false≢true}
use Rattle.std.proofs.lemmas.List.{nil_from_length}
use Rattle.std.specs.Prelude.{IsTrue, ◌↔◌}
use Rattle.text_forms.specs.Parts.{parts}
use Rattle.text_forms.specs.Tables.{IsPerfectTable}
use Rattle.table_generator.proofs.Reading.{read_tables, spelled_read}
use Rattle.table_generator.proofs.check.check_tables.Goals as goal
use Rattle.table_generator.proofs.check.check_tables.Goals.{then-is_empty, else-is_empty}

pub returns-clause-spelled : goal.returns-clause-spelled
returns-clause-spelled c =
    let text = c.args.text.now in
    let rest = c.in-Some.rest.now in
    let behind = c.in_ok-disps.behind.now in
    let end = c.in_ok-listed.end.now in
    let read = parts c.in-Some.key c.in_ok-disps.disps.items c.in_ok-listed.listed.atoms.items c.in_ok-listed.listed.hashes.items in
    let small : c.in-Some.key < 2 ^ 64 = search rules in
    elim c.if-is_empty.branch [
      | then-is_empty w ↦
          let ended : end ≡ [] = nil_from_length end (eqb-true (length end) 0 (sym w.if-is_empty.ensures)) in
          let perfect : IsTrue w.check_parts.result ↔ IsPerfectTable read = rw (w.deref.ensures.value, w.deref-then-is_empty.ensures.value, w.deref-then-is_empty-2.ensures.value) at w.check_parts.ensures.perfect in (
            λ yes. spelled_read text rest behind end read small c.in-Some.ensures c.in_ok-disps.ensures c.in_ok-listed.ensures ended (perfect.0 (subst IsTrue w.result-is yes)),
            λ spelled.
                let same = (read_tables text rest behind end spelled.0 read small c.in-Some.ensures c.in_ok-disps.ensures c.in_ok-listed.ensures spelled.1).0 in
                subst IsTrue (sym w.result-is) (perfect.1 (subst IsPerfectTable (sym same) spelled.2)),
          )
      | else-is_empty w ↦
          let open_end : end ≢ [] = λ ended. eqb-false (length end) 0 (sym w.if-is_empty.ensures) (ap length ended) in (
            λ yes. absurd (false≢true (sym w.if-is_empty.false ∙ subst IsTrue w.result-is yes)),
            λ spelled. absurd (open_end (read_tables text rest behind end spelled.0 read small c.in-Some.ensures c.in_ok-disps.ensures c.in_ok-listed.ensures spelled.1).1),
          )
    ]
