use Rattle.std.proofs.Common.{ap, ◌∙◌, ◌≡◌, ◌++◌, arith, string_bytes}
use Rattle.commands.specs.CountLines.{count_line}
use Rattle.text_streams.proofs.StreamLemmas.{on_err, on_err_map, beginning_nothing, keeps_same}
use Rattle.commands.proofs.WrittenLines.{line_pends, moved, lines_begun, line_at}
use Rattle.commands.proofs.count.write_lines.Goals as goal

pub returns-in_err-append_count-clause-err : goal.returns-in_err-append_count-clause-err
returns-in_err-append_count-clause-err g c = on_err _ (lines_begun c.loop-atom.invariant.lines _ (beginning_nothing _ _ _ (keeps_same _)))

pub returns-in_err-write_full-clause-err : goal.returns-in_err-write_full-clause-err
returns-in_err-write_full-clause-err g c =
    let item = c.loop-atom-item.result in
    let line : string_bytes c.append_count.new.out ≡ string_bytes c.loop-atom.pending ++ count_line (item.0.text, item.1) =
    c.in_ok-append_count.ensures ∙ ap (λ t. string_bytes c.loop-atom.pending ++ count_line (t, item.1)) c.as_str.ensures in
    let next =
    line_pends c.loop-atom.invariant.lines (count_line (item.0.text, item.1)) _ (string_bytes c.append_count.new.out)
    (line_at c.args.counts.now c.loop-atom.atom-index item (omega arith) c.loop-atom-item.is) line in
    on_err _ (lines_begun next _ c.in_err-write_full.ensures.err)

pub loop-atom-preserved : goal.loop-atom-preserved
loop-atom-preserved g c =
    let item = c.loop-atom-item.result in
    let line : string_bytes c.append_count.new.out ≡ string_bytes c.loop-atom.pending ++ count_line (item.0.text, item.1) =
    c.in_ok-append_count.ensures ∙ ap (λ t. string_bytes c.loop-atom.pending ++ count_line (t, item.1)) c.as_str.ensures in
    let next =
    line_pends c.loop-atom.invariant.lines (count_line (item.0.text, item.1)) _ (string_bytes c.append_count.new.out)
    (line_at c.args.counts.now c.loop-atom.atom-index item (omega arith) c.loop-atom-item.is) line in
    record { sound = c.in_ok-write_full.ensures.sound; lines = moved next c.in_ok-write_full.ensures.ok }

pub returns-clause-err : goal.returns-clause-err
returns-clause-err g c = on_err_map _ (lines_begun c.loop-atom.invariant.lines _) (rw c.as_bytes.ensures.value at c.write_whole.ensures.err)
