use Rattle.std.proofs.Common.{sym}
use Rattle.set_atoms.proofs.Forms.{static_own}
use Rattle.set_atoms.proofs.atom.SetAtom+H.from_str_in.Goals as goal

pub of_static-requires : goal.of_static-requires
of_static-requires g c = static_own _ c.args.text.now c.in-Static.index (sym c.in-Static.ensures)
