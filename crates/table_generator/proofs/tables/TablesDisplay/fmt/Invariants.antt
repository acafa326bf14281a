use Rattle.std.proofs.Common.{◌++◌, map, take, string_bytes}
use Rattle.std.specs.Fmt.{HasWritten, IsPlainFormatter}
use Rattle.std.specs.List.{flat_map}
use Rattle.table_generator.specs.TableText.{key_line, disp_line, atom_lines}
use Rattle.table_generator.proofs.tables.TablesDisplay.fmt.Given as goal

abbrev pub invariant-loop-d1 : goal.invariant-loop-d1
invariant-loop-d1 g l = IsPlainFormatter l.fn.f → HasWritten g.W.Write.write_str_gives l.fn.f (key_line l.self.key ++ flat_map disp_line (take l.d1-index l.d1-items)) l.f

abbrev pub invariant-loop-i : goal.invariant-loop-i
invariant-loop-i g l =
    IsPlainFormatter l.fn.f
    → HasWritten g.W.Write.write_str_gives l.fn.f (key_line l.self.key ++ (flat_map disp_line l.self.disps.items ++ atom_lines (take l.i l.self.hashes.items) (map string_bytes l.self.atoms.items))) l.f
