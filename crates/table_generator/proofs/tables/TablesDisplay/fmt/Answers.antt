use Rattle.std.proofs.Common.{◌≡◌, ◌≤◌, ◌<◌, ◌+◌, ◌-◌, ◌^◌, ◌++◌, [], false, arith, codes, get_or, length, map, rules, string_bytes, subst, take}
use Rattle.std.proofs.lemmas.Grind.{common_steps}
use Rattle.std.proofs.Output.{has_written_append}
use Rattle.std.specs.Fmt.{HasWritten, digits, format_spec, padded_integral}
use Rattle.std.specs.List.{flat_map}
use Rattle.table_generator.specs.TableText.{atom_line, atom_lines, disp_line, key_line}
use Rattle.table_generator.proofs.HexLemmas.{hex_printed}
use Rattle.table_generator.proofs.PrintLemmas.{atom_lines_more, atom_lines_past, line_behind}
use Rattle.table_generator.proofs.tables.TablesDisplay.fmt.Goals as goal
use Rattle.table_generator.proofs.tables.TablesDisplay.fmt.Goals.{in-Some+in_ok-writeln-3, in_default}

pub loop-i-preserved : goal.loop-i-preserved
loop-i-preserved g c = λ plain.
    let done = c.loop-i.invariant plain in
    let tables = c.args.self.now in
    let hashes = tables.hashes.items in
    let texts = map string_bytes tables.atoms.items in
    let i = c.loop-i.i in
    elim c.match-get.branch [
      | in-Some+in_ok-writeln-3 w ↦
          let hash = get_or hashes i 0 in
          let text = string_bytes w.in-Some.text.now in
          let one : HasWritten g.W.Write.write_str_gives c.loop-i.f (codes "atom " ++ (padded_integral (format_spec 32 0 4 16 (2 ^ 64 - 1)) false [] (digits 16 false hash) ++ (codes " " ++ (text ++ codes "\n")))) w.writeln-in-Some.new.self = rw (← w.laid_out.ensures) (search (rules, done.plain)) in
          let small : hash < 2 ^ 64 = search rules in
          let listed : i < length texts = grind (arith, common_steps, w.in-Some.ensures.lookup) in
          let written : text ≡ get_or texts i [] = grind (arith, common_steps, w.in-Some.ensures.lookup) in
          let line : HasWritten g.W.Write.write_str_gives c.loop-i.f (atom_line hash text) w.writeln-in-Some.new.self = rw (hex_printed hash small) at one in
          let more : atom_lines (take (i + 1) hashes) texts ≡ atom_lines (take i hashes) texts ++ atom_line hash text = rw written (atom_lines_more hashes texts i (rw c.deref-hash-items.ensures.value at c.loop-i-test.true) listed) in
          rw w.f-is (
          subst (λ all. HasWritten g.W.Write.write_str_gives c.args.f.now all w.writeln-in-Some.new.self)
          (line_behind (key_line tables.key) (flat_map disp_line tables.disps.items) (atom_lines (take i hashes) texts) (atom_line hash text) _ more)
          (has_written_append _ _ _ _ _ _ done line)
          )
      | in_default w ↦
          let past : length texts ≤ i = grind (arith, common_steps, w.in_default.ensures.lookup) in
          rw (w.f-is, atom_lines_past hashes texts i past) done
    ]
